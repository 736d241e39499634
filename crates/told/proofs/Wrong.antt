-- Wrong answers of `answer_told`, `route_told` and `meeting_told`, each refuted at one answer or verdict: the contract with it is false,
-- by computation. Assumes nothing.
use Prim.Native.Nat.{ℕ}
use native.Mathlib.Omega.{arith}
use mathlib.Core.Path.{◌≡◌, ap, sym, ◌∙◌}
use Rattle.std.specs.Prelude.{Ok, Err, Some}
use Rattle.job.specs.declared.CheckRefusal.TheVariants.{Short}
use Rattle.job.specs.declared.Fault.{Fault}
use Rattle.job.specs.declared.Told.{Told}
use Rattle.planner.specs.Answer.{answer_told}
use Rattle.planner.specs.declared.answer.Denial.TheVariants.{Short as TooShort, Full}
use Rattle.routes.specs.Check.{route_told}
use Rattle.clashes.specs.Check.{meeting_told}
use Rattle.clashes.specs.declared.Clash.TheVariants.{Meeting, Swap}

-- ---- answer_told

-- 'a record is due and N are in use' is no 'the tree is used up'
pub full_told_as_8 : (r : Told) → r.number ≡ 8 → r ≡ answer_told (Err (Full 2)) → ⊥
full_told_as_8 r wrong e = let z : ◌≡◌ {A = ℕ} 8 9 = sym wrong ∙ ap (λ (t : Told). t.number) e in omega arith

-- sum 5 with 3 records
pub sum_told_as_records : (r : Told) → r.sum ≡ 3 → r.records ≡ 5 → r ≡ answer_told (Ok (record { sum = 5; records = 3 })) → ⊥
sum_told_as_records r first second e = let z : ◌≡◌ {A = ℕ} 3 5 = sym first ∙ ap (λ (t : Told). t.sum) e in omega arith

-- P1: table 1, the plans, is short and needed 12 entries
pub needed_told_as_table : (r : Told) → r.table ≡ 12 → r.needed ≡ 1 → r ≡ answer_told (Err (TooShort 1 12)) → ⊥
needed_told_as_table r first second e = let z : ◌≡◌ {A = ℕ} 12 1 = sym first ∙ ap (λ (t : Told). t.table) e in omega arith

pub table_told_as_carrier : (r : Told) → r.carrier ≡ 1 → r ≡ answer_told (Err (TooShort 1 12)) → ⊥
table_told_as_carrier r wrong e = let z : ◌≡◌ {A = ℕ} 1 0 = sym wrong ∙ ap (λ (t : Told). t.carrier) e in omega arith

-- ---- route_told

-- carrier 1 is wrong at step 2
pub step_told_before_carrier : (r : Fault) → r.carrier ≡ 2 → r.step ≡ 1 → r ≡ route_told (Ok (Some (record { carrier = 1; step = 2 }))) → ⊥
step_told_before_carrier r first second e = let z : ◌≡◌ {A = ℕ} 2 1 = sym first ∙ ap (λ (f : Fault). f.carrier) e in omega arith

-- a plan that needed 8 bytes
pub short_plan_told_as_lawful : (r : Fault) → r.number ≡ 0 → r ≡ route_told (Err (Short 8)) → ⊥
short_plan_told_as_lawful r wrong e = let z : ◌≡◌ {A = ℕ} 0 7 = sym wrong ∙ ap (λ (f : Fault). f.number) e in omega arith

pub nothing_needed_of_routes : (r : Fault) → r.needed ≡ 0 → r ≡ route_told (Err (Short 8)) → ⊥
nothing_needed_of_routes r wrong e = let z : ◌≡◌ {A = ℕ} 0 8 = sym wrong ∙ ap (λ (f : Fault). f.needed) e in omega arith

-- ---- meeting_told

-- carrier 0 at step 3 and carrier 1 two steps later
pub carriers_of_a_meeting_exchanged : (r : Fault) → r.carrier ≡ 1 → r.other ≡ 0 → r ≡ meeting_told (Ok (Meeting 0 1 3 2)) → ⊥
carriers_of_a_meeting_exchanged r first second e = let z : ◌≡◌ {A = ℕ} 1 0 = sym first ∙ ap (λ (f : Fault). f.carrier) e in omega arith

-- carriers 0 and 1 exchange their cells at step 3
pub swap_told_as_meeting : (r : Fault) → r.swap ≡ 0 → r ≡ meeting_told (Ok (Swap 0 1 3)) → ⊥
swap_told_as_meeting r wrong e = let z : ◌≡◌ {A = ℕ} 0 1 = sym wrong ∙ ap (λ (f : Fault). f.swap) e in omega arith

-- a plan that needed 8 bytes
pub nothing_needed_of_meetings : (r : Fault) → r.needed ≡ 0 → r ≡ meeting_told (Err (Short 8)) → ⊥
nothing_needed_of_meetings r wrong e = let z : ◌≡◌ {A = ℕ} 0 8 = sym wrong ∙ ap (λ (f : Fault). f.needed) e in omega arith
