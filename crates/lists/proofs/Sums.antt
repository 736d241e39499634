-- Laws of sums and counts: termwise bounds, one term changed, weights of lists put together, and that a count falls where one that passed passes no
-- more. Assumes nothing.
use Prim.Native.Nat.{ℕ, zero, suc, ◌+◌, ◌*◌, ◌≤◌, ◌<◌}
use native.Mathlib.Nat.{suc-mul}
use native.Mathlib.Omega.{arith}
use native.Mathlib.Decide.{ℕ_discrete}
use mathlib.Core.Path.{◌≡◌, refl, sym, subst}
use mathlib.Core.Logic.{⊎_elim}
use mathlib.Core.Bool.{Bool, true, false}
use mathlib.Core.List.Memᴰ
use mathlib.Core.List.{List, [], ◌∷◌, ◌++◌, Memᴰ}
use lib.Dec.{T}
use lib.ListN.{length, length-append}
use Rattle.lists.specs.Lists.{sum_to, only, keep}

pub sum_le : (n : ℕ) (f g : ℕ → ℕ) → ((i : ℕ) → i < n → f i ≤ g i) → sum_to n f ≤ sum_to n g
unfolding sum_to
sum_le zero f g h = omega arith
sum_le (suc n) f g h =
    let a : sum_to n f ≤ sum_to n g = sum_le n f g (λ i l. h i (omega arith)) in
    let b : f n ≤ g n = h n (omega arith) in
    omega arith

pub sum_same : (n : ℕ) (f g : ℕ → ℕ) → ((i : ℕ) → i < n → f i ≡ g i) → sum_to n f ≡ sum_to n g
unfolding sum_to
sum_same zero f g h = refl
sum_same (suc n) f g h =
    let a : sum_to n f ≡ sum_to n g = sum_same n f g (λ i l. h i (omega arith)) in
    let b : f n ≡ g n = h n (omega arith) in
    omega arith

pub sum_at_most : (n size : ℕ) (f : ℕ → ℕ) → ((i : ℕ) → i < n → f i ≤ size) → sum_to n f ≤ n * size
unfolding sum_to
sum_at_most zero size f h = omega arith
sum_at_most (suc n) size f h =
    let a : sum_to n f ≤ n * size = sum_at_most n size f (λ i l. h i (omega arith)) in
    let b : f n ≤ size = h n (omega arith) in
    rw suc-mul (omega arith)

-- where one term alone is another
pub sum_changed : (n r : ℕ) (f g : ℕ → ℕ) → r < n → ((i : ℕ) → i < n → (i ≡ r → ⊥) → g i ≡ f i) → sum_to n g + f r ≡ sum_to n f + g r
unfolding sum_to
sum_changed zero r f g l h = absurd (omega arith)
sum_changed (suc n) r f g l h =
    elim (ℕ_discrete n r) [
      | yes e ↦ let a = sum_same n g f (λ i k. h i (omega arith) (λ z. omega (arith, e, z))) in rw (sym e) (omega (arith, a))
      | no m ↦ omega (arith, sum_changed n r f g (omega (arith, m)) (λ i k z. h i (omega arith) z), h n (omega arith) m)
    ]

-- the weights of all, added up
module _ {A : Type 0} (weight : A → ℕ) where
  unfoldable pub total_of : List A → ℕ
  total_of [] = 0
  total_of (x ∷ xs) = weight x + total_of xs

  pub total_append : (xs ys : List A) → total_of (xs ++ ys) ≡ total_of xs + total_of ys
  unfolding total_of
  total_append [] ys = omega arith
  total_append (x ∷ xs) ys = omega (arith, total_append xs ys)

module _ {A : Type 0} where
  -- how many pass
  unfoldable pub count : (A → Bool) → List A → ℕ
  count p xs = length (keep p xs)

  one_le : (b c : Bool) (x : A) (k n : ℕ) → (T b → T c) → k ≤ n → length (only b x) + k ≤ length (only c x) + n
  unfolding only
  one_le true true x k n h l = omega arith
  one_le true false x k n h l = absurd (h tt)
  one_le false true x k n h l = omega arith
  one_le false false x k n h l = omega arith

  one_lt : (b c : Bool) (x : A) (k n : ℕ) → (T b → ⊥) → T c → k ≤ n → length (only b x) + k < length (only c x) + n
  unfolding only
  one_lt true c x k n h t l = absurd (h tt)
  one_lt false true x k n h t l = omega arith
  one_lt false false x k n h t l = absurd t

  kept : (p : A → Bool) (x : A) (xs : List A) → count p (x ∷ xs) ≡ length (only (p x) x) + count p xs
  unfolding count keep
  kept p x xs = length-append (only (p x) x) (keep p xs)

  pub count_le : (p q : A → Bool) (xs : List A) → ((x : A) → T (q x) → T (p x)) → count q xs ≤ count p xs
  count_le p q [] h = unfold count keep in omega arith
  count_le p q (x ∷ xs) h = rw (kept q x xs, kept p x xs) (one_le (q x) (p x) x (count q xs) (count p xs) (h x) (count_le p q xs h))

  pub count_falls : (p q : A → Bool) (xs : List A) → ((x : A) → T (q x) → T (p x)) → (y : A) → Memᴰ y xs → T (p y) → (T (q y) → ⊥) → count q xs < count p xs
  count_falls p q [] h y m t n = absurd (Memᴰ.not-nil m)
  count_falls p q (x ∷ xs) h y m t n =
      rw (kept q x xs, kept p x xs)
      (⊎_elim
      (λ (e : y ≡ x). one_lt (q x) (p x) x (count q xs) (count p xs) (subst (λ (a : A). T (q a) → ⊥) e n) (subst (λ (a : A). T (p a)) e t) (count_le p q xs h))
      (λ (k : Memᴰ y xs). omega (arith, one_le (q x) (p x) x (suc (count q xs)) (count p xs) (h x) (count_falls p q xs h y k t n)))
      (Memᴰ.cases_cons m))
