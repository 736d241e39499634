-- The tests of the definitions as facts: one law each way for each of `&&`, `||` and `not`, by cases on the tests. For `not` they
-- are the kit's `T_not` and `not_T`. Tests that are equal at the end. Assumes nothing.
use Prim.Native.Nat.{ℕ}
use native.Mathlib.Decide.{ℕ_discrete}
use mathlib.Core.Path.{◌≡◌, refl, sym, subst, ◌∙◌}
use mathlib.Core.Logic.{◌⊎◌, inl, inr}
use mathlib.Core.Bool.{Bool, true, false, not, ◌&&◌, ◌||◌, true≢false}
use lib.Dec.{T, eqb, eqb_refl}
use borrow.Author.Tests.{eq-eqb, ne_eqb}

pub is_true : {b : Bool} → T b → b ≡ true
is_true {b = true} h = refl
is_true {b = false} h = absurd h

pub is_false : {b : Bool} → (T b → ⊥) → b ≡ false
is_false {b = true} h = absurd (h tt)
is_false {b = false} h = refl

pub of_true : {b : Bool} → b ≡ true → T b
of_true e = subst T (sym e) tt

pub of_false : {b : Bool} → b ≡ false → T b → ⊥
of_false e h = subst T e h

pub not_both : {b : Bool} → b ≡ true → b ≡ false → ⊥
not_both e f = true≢false (sym e ∙ f)

-- a test passes or fails
pub either : (b : Bool) → T b ⊎ (T b → ⊥)
either true = inl tt
either false = inr (λ h. h)

-- a test whose negation fails
pub passes : (b : Bool) → (T (not b) → ⊥) → T b
passes true h = tt
passes false h = h tt

pub and_both : (a b : Bool) → T (a && b) → T a × T b
and_both true b h = (tt, h)
and_both false b h = absurd h

pub both_and : (a b : Bool) → T a → T b → T (a && b)
both_and true b h k = k
both_and false b h k = absurd h

pub or_either : (a b : Bool) → T (a || b) → T a ⊎ T b
or_either true b h = inl tt
or_either false b h = inr h

pub or_left : (a b : Bool) → T a → T (a || b)
or_left true b h = tt
or_left false b h = absurd h

pub or_right : (a b : Bool) → T b → T (a || b)
or_right true b h = tt
or_right false b h = h

pub or_fails : (a b : Bool) → (a || b) ≡ false → (a ≡ false) × (b ≡ false)
or_fails true b e = absurd (true≢false e)
or_fails false b e = (refl, e)

pub both_fail : (a b : Bool) → a ≡ false → b ≡ false → (a || b) ≡ false
both_fail a b e f = rw (e, f) refl

pub not_fails : (b : Bool) → T b → not b ≡ false
not_fails true t = refl
not_fails false t = elim t [ ]

pub eq_test : (a b : ℕ) → a ≡ b → T (eqb a b)
eq_test a b e = subst (λ c. T (eqb a c)) e (eqb_refl a)

-- tests that pass at the same time
pub same_test : {a b : Bool} → (T a → T b) → (T b → T a) → a ≡ b
same_test {a = true} {b = true} f g = refl
same_test {a = true} {b = false} f g = absurd (f tt)
same_test {a = false} {b = true} f g = absurd (g tt)
same_test {a = false} {b = false} f g = refl

pub eqb_turned : (a b : ℕ) → eqb a b ≡ eqb b a
eqb_turned a b = elim (ℕ_discrete a b) [ yes e ↦ eq-eqb a b e ∙ sym (eq-eqb b a (sym e)) | no n ↦ ne_eqb a b n ∙ sym (ne_eqb b a (λ e. n (sym e))) ]
