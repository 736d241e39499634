-- `route_cases::all_rounds` is safe: each turn counts at most one more. Assumes nothing.
use Prim.Native.Nat.{◌≤◌}
use Rattle.route_cases.proofs.all_rounds.Given as goal

abbrev pub invariant-loop : goal.invariant-loop
invariant-loop l = (l.seen.differ ≤ l.counter) × (l.seen.found ≤ l.counter) × (l.seen.barred ≤ l.counter) × (l.seen.crossed ≤ l.counter) × (l.seen.older ≤ l.counter)
