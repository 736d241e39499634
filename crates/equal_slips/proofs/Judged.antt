-- With every slip k, and k at most 4, the checks 1 to 6 and 16 say what they said with one k: no slip is above 4, and 3 has nothing to
-- say of k. What an accepted job with one k has: k at most 4, and at most 8 carriers. Assumes nothing.
use Prim.Native.Nat.{ℕ, ◌≤◌, ◌<◌}
use native.Mathlib.Omega.{arith}
use mathlib.Core.Path.{◌≡◌, refl, ap, ap₂}
use mathlib.Core.Bool.{Bool, true, false, not, ◌||◌}
use mathlib.Core.Option.{Option}
use lib.Dec.{eqb, ltb}
use borrow.Author.Tests.{ltb-false, le-ltb}
use Rattle.lists.specs.Lists.{range, refuse_if}
use Rattle.lists.proofs.Every.{every_below}
use Rattle.lists.proofs.Passing.{first_same}
use Rattle.lists.proofs.Tests.{or_fails}
use Rattle.hall.specs.Hall.{wrong_grid, wrong_bytes, is_open}
use Rattle.job.specs.Job.{wrong_limits, wrong_count, wrong_carrier, first_wrong, first_shared}
use Rattle.std.specs.Prelude.{Ok, Err}
use Rattle.job.specs.Verdict.{Verdict, verdict_told, carrier_verdict, shared_verdict, judge_with}
use Rattle.job.specs.declared.Refusal.TheVariants.{WrongGrid, WrongBytes, WrongLimits, WrongCount, SharedStart, SharedGoal}
use Rattle.equal_slips.specs.Job.{OneJob, with_slips, EverySlip, slipless, wrong_limits_by_k, wrong_ends, first_wrong_by_k, judge_by_k}

or_nothing : (a b c : Bool) → c ≡ false → (a || b || c) ≡ (a || b)
or_nothing true b c e = refl
or_nothing false true c e = refl
or_nothing false false c e = e

module _ (one : OneJob) (slipOf : ℕ → ℕ) (equal : EverySlip one slipOf) (most : one.delay ≤ 4) where
  limits_same : (wrongN : Bool) → (wrong_limits (with_slips one slipOf) || wrongN) ≡ (wrong_limits_by_k one || wrongN)
  unfolding wrong_limits wrong_limits_by_k
  limits_same wrongN = rw (le-ltb 4 one.delay most) refl

  carrier_same : (i : ℕ) → i < one.count → wrong_carrier (with_slips one slipOf) i ≡ wrong_ends one i
  unfolding wrong_carrier wrong_ends
  carrier_same i l =
      or_nothing (not (is_open one.hall (one.start_of i))) (not (is_open one.hall (one.goal_of i))) (ltb 4 (slipOf i))
      (rw (equal i l) (le-ltb 4 one.delay most))

  first_wrong_same : first_wrong (with_slips one slipOf) ≡ first_wrong_by_k one
  unfolding first_wrong first_wrong_by_k
  first_wrong_same =
      first_same (wrong_carrier (with_slips one slipOf)) (wrong_ends one) (range 0 one.count)
      (every_below (λ i. wrong_carrier (with_slips one slipOf) i ≡ wrong_ends one i) one.count carrier_same)

  pub judged_same : (wrongN : Bool) → judge_with wrongN (with_slips one slipOf) ≡ judge_by_k wrongN one
  unfolding judge_with judge_by_k wrong_count
  judged_same wrongN =
      ap₂ (λ (limits : Bool) (first : Option ℕ).
      refuse_if (wrong_grid one.hall) (Err WrongGrid)
      (refuse_if (wrong_bytes one.hall) (Err WrongBytes)
      (refuse_if limits (Err WrongLimits)
      (refuse_if (wrong_count (slipless one)) (Err WrongCount)
      (carrier_verdict first
      (shared_verdict (λ i j. SharedStart i j) (first_shared one.start_of one.count)
      (shared_verdict (λ i j. SharedGoal i j) (first_shared one.goal_of one.count) (Ok tt))))))))
      (limits_same wrongN) first_wrong_same

-- ---- what is accepted

-- a check that has passed, and the rest
passed : (b : Bool) (refusal rest : Verdict) → ((verdict_told refusal).number ≡ 0 → ⊥) → refuse_if b refusal rest ≡ Ok tt → (b ≡ false) × (rest ≡ Ok tt)
unfolding refuse_if
passed true refusal rest other e = absurd (other (ap (λ (v : Verdict). (verdict_told v).number) e))
passed false refusal rest other e = (refl, e)

pub record Small (one : OneJob) : Type 0 where
  pub delay : one.delay ≤ 4
  pub count : one.count ≤ 8

pub accepted_small : (one : OneJob) (wrongN : Bool) → judge_by_k wrongN one ≡ Ok tt → Small one
unfolding judge_by_k wrong_limits_by_k wrong_count
accepted_small one wrongN accepted =
    let (_, bytes) = passed (wrong_grid one.hall) (Err WrongGrid) _ (λ z. omega arith) accepted in
    let (_, limits) = passed (wrong_bytes one.hall) (Err WrongBytes) _ (λ z. omega arith) bytes in
    let (right, count) = passed (wrong_limits_by_k one || wrongN) (Err WrongLimits) _ (λ z. omega arith) limits in
    let (few, _) = passed (wrong_count (slipless one)) (Err WrongCount) _ (λ z. omega arith) count in
    let (known, _) = or_fails (wrong_limits_by_k one) wrongN right in
    let (low, _) = or_fails (ltb 4 one.delay) (ltb 63 one.horizon) known in
    let (_, at_most) = or_fails (eqb one.count 0) (ltb 8 one.count) few in
    record { delay = ltb-false 4 one.delay low; count = ltb-false 8 one.count at_most }
