-- The cases of a verdict, told apart once for every proof that asks only whether the job is accepted. Assumes nothing.
use Prim.Native.Nat.{ℕ, ◌≤◌}
use native.Mathlib.Omega.{arith}
use mathlib.Core.Logic.{◌⊎◌, inl, inr}
use mathlib.Core.Path.{◌≡◌, refl}
use Rattle.std.specs.Prelude.{Ok, Err}
use Rattle.job.specs.Verdict.{Verdict, refusal_told, verdict_told, if_accepted}
use Rattle.job.specs.declared.Refusal.{Refusal}
use Rattle.job.specs.declared.Refusal.TheVariants.{WrongGrid, WrongBytes, WrongLimits, WrongCount, WrongCarrier, SharedStart, SharedGoal}

-- a verdict accepts, or it refuses
pub accepted_or_refused : (v : Verdict) → (v ≡ Ok tt) ⊎ ((r : Refusal) × (v ≡ Err r))
accepted_or_refused (Ok u) = inl refl
accepted_or_refused (Err r) = inr (r, refl)

pub refused_by : (v : Verdict) → (v ≡ Ok tt → ⊥) → (r : Refusal) × (v ≡ Err r)
refused_by (Ok u) other = absurd (other refl)
refused_by (Err r) other = (r, refl)

pub accepts_or_not : (v : Verdict) → (v ≡ Ok tt) ⊎ (v ≡ Ok tt → ⊥)
accepts_or_not (Ok u) = inl refl
accepts_or_not (Err r) = inr (λ e. cc)

-- the numbers that refuse a job
unfoldable pub Refusing : ℕ → Type 0
Refusing n = ((1 ≤ n) × (n ≤ 6)) ⊎ (n ≡ 16)

pub refusal_numbered : (r : Refusal) → Refusing (refusal_told r).number
unfolding Refusing
refusal_numbered WrongGrid = inl (omega arith, omega arith)
refusal_numbered WrongBytes = inl (omega arith, omega arith)
refusal_numbered WrongLimits = inl (omega arith, omega arith)
refusal_numbered WrongCount = inl (omega arith, omega arith)
refusal_numbered (WrongCarrier i) = inl (omega arith, omega arith)
refusal_numbered (SharedStart i j) = inl (omega arith, omega arith)
refusal_numbered (SharedGoal i j) = inr refl

pub refused_numbered : (v : Verdict) → (v ≡ Ok tt → ⊥) → Refusing (verdict_told v).number
refused_numbered (Ok u) other = absurd (other refl)
refused_numbered (Err r) other = refusal_numbered r

-- no other answer has such a number: 0 accepts, 7 to 9 come of an accepted job
pub refusing_alone : (n k : ℕ) → Refusing n → (k ≡ 0) ⊎ ((7 ≤ k) × (k ≤ 9)) → n ≡ k → ⊥
unfolding Refusing
refusing_alone n k (inl (l, m)) (inl z) e = omega arith
refusing_alone n k (inl (l, m)) (inr (low, high)) e = omega arith
refusing_alone n k (inr is) (inl z) e = omega arith
refusing_alone n k (inr is) (inr (low, high)) e = omega arith

-- only an accepted job is given 0
pub zero_accepted : (v : Verdict) → (verdict_told v).number ≡ 0 → v ≡ Ok tt
zero_accepted (Ok u) z = refl
zero_accepted (Err r) z = absurd (refusing_alone (refusal_told r).number 0 (refusal_numbered r) (inl refl) z)

-- what comes next: on, or what the refusal gives
pub if_accepted_lem : {A : Type 0} (v : Verdict) (go : A) (stop : Refusal → A) → v ≡ Ok tt → if_accepted v go stop ≡ go
unfolding if_accepted
if_accepted_lem v go stop e = rw e

pub if_refused : {A : Type 0} (v : Verdict) (r : Refusal) (go : A) (stop : Refusal → A) → v ≡ Err r → if_accepted v go stop ≡ stop r
unfolding if_accepted
if_refused v r go stop e = rw e
