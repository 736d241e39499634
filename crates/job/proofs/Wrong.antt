-- Wrong answers that the contracts of the job's functions rule out. Each law puts one in the result's place at a named input.
-- Assumes nothing.
use Prim.Native.Nat.{ℕ}
use native.Mathlib.Omega.{arith}
use mathlib.Core.Path.{◌≡◌, sym, ap}
use mathlib.Core.Bool.{true, false, true≢false}
use mathlib.Core.List.{[], ◌∷◌}
use Rattle.std.specs.Prelude.{Ok, Err}
use Rattle.lists.specs.Lists.{range, any_of, each, first_of, refuse_if}
use Rattle.hall.specs.Hall.{wrong_side, wrong_grid, wrong_byte, wrong_bytes, is_open}
use Rattle.job.specs.Job.{Job, wrong_limits, wrong_capacity, wrong_count, wrong_carrier, first_wrong, share, pairs, first_shared}
use Rattle.job.specs.Team.{job_of}
use Rattle.job.specs.Told.{named, fault, refusal}
use Rattle.job.specs.Verdict.{Verdict, verdict_told, carrier_verdict, shared_verdict, judge_with}
use Rattle.job.specs.declared.Told.{Told}
use Rattle.job.specs.declared.Fault.{Fault}
use Rattle.job.specs.declared.Refusal.TheVariants.{WrongLimits, WrongCarrier, SharedStart, SharedGoal}

-- ---- judge_job, at a row of three open cells with two carriers, 0→2 and from a given cell to a given cell

abbrev pair : ℕ → ℕ → Job
pair start goal =
    job_of 3 1 (46 ∷ 46 ∷ 46 ∷ [])
    (record { starts = 0 ∷ start ∷ 0 ∷ 0 ∷ 0 ∷ 0 ∷ 0 ∷ 0 ∷ []; goals = 2 ∷ goal ∷ 0 ∷ 0 ∷ 0 ∷ 0 ∷ 0 ∷ 0 ∷ []; slips = 0 ∷ 0 ∷ 0 ∷ 0 ∷ 0 ∷ 0 ∷ 0 ∷ 0 ∷ []; count = 2 })
    3

-- a shared goal accepted: only the starts looked at
pub shared_goal_accepted : Ok tt ≡ judge_with false (pair 1 2) → ⊥
unfolding judge_with refuse_if wrong_grid wrong_side wrong_bytes wrong_byte is_open wrong_limits wrong_count wrong_carrier first_wrong share pairs first_shared carrier_verdict shared_verdict range any_of each first_of
shared_goal_accepted e = let z : ◌≡◌ {A = ℕ} 0 16 = ap (λ (v : Verdict). (verdict_told v).number) e in omega arith

-- document 01's 6 for it
pub shared_goal_refused_with_6 : Err (SharedStart 0 1) ≡ judge_with false (pair 1 2) → ⊥
unfolding judge_with refuse_if wrong_grid wrong_side wrong_bytes wrong_byte is_open wrong_limits wrong_count wrong_carrier first_wrong share pairs first_shared carrier_verdict shared_verdict range any_of each first_of
shared_goal_refused_with_6 e = let z : ◌≡◌ {A = ℕ} 6 16 = ap (λ (v : Verdict). (verdict_told v).number) e in omega arith

-- a carrier taken to share its ends with itself
pub shares_with_itself : Err (SharedStart 0 0) ≡ judge_with false (pair 1 0) → ⊥
unfolding judge_with refuse_if wrong_grid wrong_side wrong_bytes wrong_byte is_open wrong_limits wrong_count wrong_carrier first_wrong share pairs first_shared carrier_verdict shared_verdict range any_of each first_of
shares_with_itself e = let z : ◌≡◌ {A = ℕ} 6 0 = ap (λ (v : Verdict). (verdict_told v).number) e in omega arith

-- 16 where carrier 1's goal is carrier 0's start
pub goal_on_a_start_refused : Err (SharedGoal 0 1) ≡ judge_with false (pair 1 0) → ⊥
unfolding judge_with refuse_if wrong_grid wrong_side wrong_bytes wrong_byte is_open wrong_limits wrong_count wrong_carrier first_wrong share pairs first_shared carrier_verdict shared_verdict range any_of each first_of
goal_on_a_start_refused e = let z : ◌≡◌ {A = ℕ} 16 0 = ap (λ (v : Verdict). (verdict_told v).number) e in omega arith

-- the same row, 0→1 and from cell 2 to a given cell, with these slips
abbrev slow : ℕ → ℕ → ℕ → Job
slow goal one two =
    job_of 3 1 (46 ∷ 46 ∷ 46 ∷ [])
    (record { starts = 0 ∷ 2 ∷ 0 ∷ 0 ∷ 0 ∷ 0 ∷ 0 ∷ 0 ∷ []; goals = 1 ∷ goal ∷ 0 ∷ 0 ∷ 0 ∷ 0 ∷ 0 ∷ 0 ∷ []; slips = one ∷ two ∷ 0 ∷ 0 ∷ 0 ∷ 0 ∷ 0 ∷ 0 ∷ []; count = 2 })
    3

-- document 01's 3 for a slip of 5
pub slip_refused_with_3 : Err WrongLimits ≡ judge_with false (slow 2 0 5) → ⊥
unfolding judge_with refuse_if wrong_grid wrong_side wrong_bytes wrong_byte is_open wrong_limits wrong_count wrong_carrier first_wrong share pairs first_shared carrier_verdict shared_verdict range any_of each first_of
slip_refused_with_3 e = let z : ◌≡◌ {A = ℕ} 3 5 = ap (λ (v : Verdict). (verdict_told v).number) e in omega arith

-- a slip of 5 not looked at
pub slip_of_5_accepted : Ok tt ≡ judge_with false (slow 2 0 5) → ⊥
unfolding judge_with refuse_if wrong_grid wrong_side wrong_bytes wrong_byte is_open wrong_limits wrong_count wrong_carrier first_wrong share pairs first_shared carrier_verdict shared_verdict range any_of each first_of
slip_of_5_accepted e = let z : ◌≡◌ {A = ℕ} 0 5 = ap (λ (v : Verdict). (verdict_told v).number) e in omega arith

-- a slip of 4 refused
pub slip_of_4_refused : Err (WrongCarrier 1) ≡ judge_with false (slow 2 0 4) → ⊥
unfolding judge_with refuse_if wrong_grid wrong_side wrong_bytes wrong_byte is_open wrong_limits wrong_count wrong_carrier first_wrong share pairs first_shared carrier_verdict shared_verdict range any_of each first_of
slip_of_4_refused e = let z : ◌≡◌ {A = ℕ} 5 0 = ap (λ (v : Verdict). (verdict_told v).number) e in omega arith

-- all ends looked at before all slips: carrier 0 has a wrong slip, carrier 1 a wrong goal
pub ends_told_before_slips : Err (WrongCarrier 1) ≡ judge_with false (slow 9 5 0) → ⊥
unfolding judge_with refuse_if wrong_grid wrong_side wrong_bytes wrong_byte is_open wrong_limits wrong_count wrong_carrier first_wrong share pairs first_shared carrier_verdict shared_verdict range any_of each first_of
ends_told_before_slips e = let z : ◌≡◌ {A = ℕ} 1 0 = ap (λ (v : Verdict). (verdict_told v).carrier) e in omega arith

-- P1's own job: carriers 0 and 1 share a goal, 6 and 7 a start
abbrev pub eight : Job
eight =
    job_of 8 1 (46 ∷ 46 ∷ 46 ∷ 46 ∷ 46 ∷ 46 ∷ 46 ∷ 46 ∷ [])
    (record { starts = 0 ∷ 1 ∷ 2 ∷ 3 ∷ 4 ∷ 5 ∷ 6 ∷ 6 ∷ []; goals = 7 ∷ 7 ∷ 1 ∷ 2 ∷ 3 ∷ 4 ∷ 5 ∷ 6 ∷ []; slips = 0 ∷ 0 ∷ 0 ∷ 0 ∷ 0 ∷ 0 ∷ 0 ∷ 0 ∷ []; count = 8 })
    3

-- 16 before 6
pub goal_told_before_start : Err (SharedGoal 0 1) ≡ judge_with false eight → ⊥
unfolding judge_with refuse_if wrong_grid wrong_side wrong_bytes wrong_byte is_open wrong_limits wrong_count wrong_carrier first_wrong share pairs first_shared carrier_verdict shared_verdict range any_of each first_of
goal_told_before_start e = let z : ◌≡◌ {A = ℕ} 16 6 = ap (λ (v : Verdict). (verdict_told v).number) e in omega arith

-- 6 with the first pair that shares anything: the goal's
pub start_told_with_the_goals_pair : Err (SharedStart 0 1) ≡ judge_with false eight → ⊥
unfolding judge_with refuse_if wrong_grid wrong_side wrong_bytes wrong_byte is_open wrong_limits wrong_count wrong_carrier first_wrong share pairs first_shared carrier_verdict shared_verdict range any_of each first_of
start_told_with_the_goals_pair e = let z : ◌≡◌ {A = ℕ} 0 6 = ap (λ (v : Verdict). (verdict_told v).carrier) e in omega arith

-- three carriers with one goal, at cell 2
abbrev pub three : Job
three =
    job_of 3 1 (46 ∷ 46 ∷ 46 ∷ [])
    (record { starts = 0 ∷ 1 ∷ 2 ∷ 0 ∷ 0 ∷ 0 ∷ 0 ∷ 0 ∷ []; goals = 2 ∷ 2 ∷ 2 ∷ 0 ∷ 0 ∷ 0 ∷ 0 ∷ 0 ∷ []; slips = 0 ∷ 0 ∷ 0 ∷ 0 ∷ 0 ∷ 0 ∷ 0 ∷ 0 ∷ []; count = 3 })
    3

-- the pair of the greatest j
pub greatest_j_told : Err (SharedGoal 0 2) ≡ judge_with false three → ⊥
unfolding judge_with refuse_if wrong_grid wrong_side wrong_bytes wrong_byte is_open wrong_limits wrong_count wrong_carrier first_wrong share pairs first_shared carrier_verdict shared_verdict range any_of each first_of
greatest_j_told e = let z : ◌≡◌ {A = ℕ} 2 1 = ap (λ (v : Verdict). (verdict_told v).other) e in omega arith

-- ---- verdict_told

-- of two carriers the first told twice
pub first_of_a_pair_twice : named 6 1 1 ≡ verdict_told (Err (SharedStart 1 2)) → ⊥
first_of_a_pair_twice e = let z : ◌≡◌ {A = ℕ} 1 2 = ap (λ (t : Told). t.other) e in omega arith

-- a shared goal told as a shared start
pub goal_told_as_start : named 6 1 2 ≡ verdict_told (Err (SharedGoal 1 2)) → ⊥
goal_told_as_start e = let z : ◌≡◌ {A = ℕ} 6 16 = ap (λ (t : Told). t.number) e in omega arith

-- a single carrier told in the place of a second
pub carrier_told_as_other : named 5 0 2 ≡ verdict_told (Err (WrongCarrier 2)) → ⊥
carrier_told_as_other e = let z : ◌≡◌ {A = ℕ} 0 2 = ap (λ (t : Told). t.carrier) e in omega arith

-- ---- refusal, of answer 6 with carriers 1 and 2

-- only the first of the two told
pub other_left_out : fault 6 1 0 0 0 0 ≡ refusal (named 6 1 2) → ⊥
other_left_out e = let z : ◌≡◌ {A = ℕ} 0 2 = ap (λ (f : Fault). f.other) e in omega arith

-- the second told where a check tells a step
pub other_told_as_step : fault 6 1 0 2 0 0 ≡ refusal (named 6 1 2) → ⊥
other_told_as_step e = let z : ◌≡◌ {A = ℕ} 2 0 = ap (λ (f : Fault). f.step) e in omega arith

-- ---- wrong_capacity

-- 1,024 records refused
pub most_refused : true ≡ wrong_capacity 1024 → ⊥
unfolding wrong_capacity
most_refused e = true≢false e

-- no record at all accepted
pub none_accepted : false ≡ wrong_capacity 0 → ⊥
unfolding wrong_capacity
none_accepted e = true≢false (sym e)
