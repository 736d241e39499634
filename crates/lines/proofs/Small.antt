-- What is told of a refused job is small, whatever the job: a refusal names carriers that there are, and there are at most 8. By the
-- number that is due. Assumes nothing.
use Prim.Native.Nat.{ℕ, ◌≤◌, ◌<◌}
use native.Mathlib.Omega.{arith}
use Rattle.job.specs.Job.{Job, wrong_capacity}
use Rattle.job.specs.Due.{RightCapacity, Due, due_0, due_1, due_2, due_3, due_4, due_5, due_6, due_16}
use Rattle.job.specs.Told.{bare, named, counted, too_short}
use Rattle.job.specs.Verdict.{verdict_told, judge_with}
use Rattle.job.specs.declared.Told.{Told}
use Rattle.job.proofs.Due.{planner_due}

pub record Small (told : Told) : Type 0 where
  pub number : told.number ≤ 16
  pub sum : told.sum < 1000
  pub records : told.records ≤ 1024
  pub carrier : told.carrier ≤ 8
  pub other : told.other ≤ 8
  pub table : told.table ≤ 3
  pub needed : told.needed ≤ 524288

bare_small : (n : ℕ) → n ≤ 16 → Small (bare n)
bare_small n l = record { number = l; sum = omega arith; records = omega arith; carrier = omega arith; other = omega arith; table = omega arith; needed = omega arith }

named_small : (n i j : ℕ) → n ≤ 16 → i ≤ 8 → j ≤ 8 → Small (named n i j)
named_small n i j l a b = record { number = l; sum = omega arith; records = omega arith; carrier = a; other = b; table = omega arith; needed = omega arith }

pub counted_small : (n s r : ℕ) → n ≤ 16 → s < 1000 → r ≤ 1024 → Small (counted n s r)
counted_small n s r l a b = record { number = l; sum = a; records = b; carrier = omega arith; other = omega arith; table = omega arith; needed = omega arith }

pub short_small : (t l : ℕ) → t ≤ 3 → l ≤ 524288 → Small (too_short t l)
short_small t l a b = record { number = omega arith; sum = omega arith; records = omega arith; carrier = omega arith; other = omega arith; table = a; needed = b }

-- ---- a verdict

due_small : (job : Job) (N : Type 0) (told : Told) → Due job N told → Small told
due_small job N told (due_1 w) = bare_small 1 (omega arith)
due_small job N told (due_2 g w) = bare_small 2 (omega arith)
due_small job N told (due_3 g b w) = bare_small 3 (omega arith)
due_small job N told (due_4 g b l w) = bare_small 4 (omega arith)
due_small job N told (due_5 g b l c i inside w first) = named_small 5 i 0 (omega arith) (omega (arith, inside, c.most)) (omega arith)
due_small job N told (due_6 g b l c ends i j first) = named_small 6 i j (omega arith) (omega (arith, first.apart, first.inside, c.most)) (omega (arith, first.inside, c.most))
due_small job N told (due_16 g b l c ends starts i j first) = named_small 16 i j (omega arith) (omega (arith, first.apart, first.inside, c.most)) (omega (arith, first.inside, c.most))
due_small job N told (due_0 r n) = bare_small 0 (omega arith)

pub judged_small : (job : Job) (n : ℕ) → Small (verdict_told (judge_with (wrong_capacity n) job))
judged_small job n = due_small job (RightCapacity n) (verdict_told (judge_with (wrong_capacity n) job)) (planner_due job n)
