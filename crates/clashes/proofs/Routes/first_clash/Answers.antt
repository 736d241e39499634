-- `clashes::Routes::first_clash` meets its contract: no slip is above 4, so the greatest isn't. Assumes nothing.
use native.Mathlib.Omega.{arith}
use lib.ListN.{get_or}
use Rattle.lists.proofs.Greatest.{greatest_below}
use Rattle.clashes.proofs.Routes.first_clash.Goals as goal

pub distances-d-end-requires : goal.distances-d-end-requires
distances-d-end-requires c =
    let r = c.args.self.now in
    omega (arith, greatest_below r.count (λ i. get_or r.slips i 0) 4 r.whole.slow, c.greatest_slip-most.ensures)
