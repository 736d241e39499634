-- `clashes::Routes::first_swap` meets its contract. Both loops' invariant: nothing is found yet, and every swap at the step comes at the
-- loops' two numbers or later. Assumes nothing.
use Prim.Native.Nat.{◌≤◌, ◌<◌}
use mathlib.Core.Path.{◌≡◌}
use Rattle.clashes.specs.Routes.{travel_in}
use Rattle.clashes.specs.declared.Clash.TheVariants.{Clear}
use Rattle.clashes.proofs.Swaps.{SwapsFrom}
use Rattle.clashes.proofs.Routes.first_swap.Given as goal

abbrev pub invariant-loop-j : goal.invariant-loop-j
invariant-loop-j l = (l.found ≡ Clear) × (l.i < l.j) × (l.j ≤ l.self.count) × SwapsFrom (travel_in l.self) l.self.count l.t l.i l.j

abbrev pub invariant-search : goal.invariant-search
invariant-search l = (l.found ≡ Clear) × (l.i ≤ l.self.count) × SwapsFrom (travel_in l.self) l.self.count l.t l.i 0
