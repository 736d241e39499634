-- `clashes::Routes::first_clash` meets its contract. Each loop's invariant: nothing is found yet, and every clash that happens comes at
-- the meeting that the loops' numbers name or later. Assumes nothing.
use Prim.Native.Nat.{◌≤◌, ◌<◌}
use mathlib.Core.Path.{◌≡◌}
use Rattle.clashes.specs.Routes.{travel_in}
use Rattle.clashes.specs.declared.Clash.TheVariants.{Clear, Meeting}
use Rattle.clashes.proofs.Cursor.{From}
use Rattle.clashes.proofs.Routes.first_clash.Given as goal

abbrev pub invariant-loop-j : goal.invariant-loop-j
invariant-loop-j l = (l.found ≡ Clear) × (l.j ≤ l.self.count) × (l.d ≡ 0 → l.i < l.j) × From (travel_in l.self) l.self.count (Meeting l.i l.j l.t l.d)

abbrev pub invariant-loop-i : goal.invariant-loop-i
invariant-loop-i l = (l.found ≡ Clear) × (l.i ≤ l.self.count) × From (travel_in l.self) l.self.count (Meeting l.i 0 l.t l.d)

abbrev pub invariant-loop-d : goal.invariant-loop-d
invariant-loop-d l = (l.found ≡ Clear) × (l.d ≤ l.d-end) × From (travel_in l.self) l.self.count (Meeting 0 0 l.t l.d)

abbrev pub invariant-search : goal.invariant-search
invariant-search l = (l.found ≡ Clear) × (l.t ≤ l.t-end) × From (travel_in l.self) l.self.count (Meeting 0 0 l.t 0)
