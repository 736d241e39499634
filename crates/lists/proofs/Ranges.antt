-- Ranges, and what is made, kept or mapped of each entry of a list: two lists put together, a range split at a number, and that only
-- the entries count. By induction on the list. Assumes nothing.
use Prim.Native.Nat.{ℕ, zero, suc, ◌+◌, ◌-◌, ◌≤◌, ◌<◌}
use native.Mathlib.Numerals.{add-one}
use native.Mathlib.Omega.{arith}
use mathlib.Core.Path.{◌≡◌, refl, sym, ap, ◌∙◌}
use mathlib.Core.Bool.{Bool, true, false}
use mathlib.Core.List.{List, [], ◌∷◌, ◌++◌, map, append_assoc, Memᴰ}
use lib.ListN.{length, get_or}
use Rattle.std.specs.List.{range_with_len}
use Rattle.lists.specs.Lists.{range, only, keep, each}

-- ---- ranges

pub range_length : (a n : ℕ) → length (range a n) ≡ n
unfolding range
range_length a zero = refl
range_length a (suc n) = ap suc (range_length (suc a) n)

-- the numbers that a range of Rattle gives
pub range_listed : (a n : ℕ) → range_with_len a n ≡ range a n
unfolding range
range_listed a zero = refl
range_listed a (suc n) = ap (λ xs. a ∷ xs) (rw add-one (range_listed (suc a) n))

-- from i up to n
pub range_next : (i n : ℕ) → i < n → range i (n - i) ≡ i ∷ range (i + 1) (n - (i + 1))
unfolding range
range_next i n h = let e : n - i ≡ suc (n - (i + 1)) = omega arith in rw (e, add-one)

pub range_done : (i n : ℕ) → n ≤ i → range i (n - i) ≡ []
unfolding range
range_done i n h = let e : n - i ≡ 0 = omega arith in rw e

pub range_split : (a k m : ℕ) → range a (k + suc m) ≡ range a k ++ (a + k) ∷ range (suc (a + k)) m
unfolding range
range_split a zero m = let e : 0 + suc m ≡ suc m = omega arith in let s : a + 0 ≡ a = omega arith in rw (e, s) refl
range_split a (suc k) m =
    let e : suc k + suc m ≡ suc (k + suc m) = omega arith in
    let s : a + suc k ≡ suc a + k = omega arith in
    rw (e, s) (ap (λ (l : List ℕ). a ∷ l) (range_split (suc a) k m))

-- ---- what f makes of each

pub map_same : {A B : Type 0} (f g : A → B) (xs : List A) → ((x : A) → Memᴰ x xs → f x ≡ g x) → map f xs ≡ map g xs
map_same f g [] h = refl
map_same f g (x ∷ xs) h = rw (h x (Memᴰ.head refl), map_same f g xs (λ y m. h y (Memᴰ.tail m)))

pub get_d_mapped : {A : Type 0} (f : ℕ → A) (d : A) (a n i : ℕ) → i < n → get_or (map f (range a n)) i d ≡ f (a + i)
unfolding range
get_d_mapped f d a zero i l = absurd (omega arith)
get_d_mapped f d a (suc n) zero l = let e : a ≡ a + 0 = omega arith in ap f e
get_d_mapped f d a (suc n) (suc i) l = let e : suc a + i ≡ a + suc i = omega arith in get_d_mapped f d (suc a) n i (omega arith) ∙ ap f e

pub each_append : {A B : Type 0} (f : A → List B) (xs ys : List A) → each f (xs ++ ys) ≡ each f xs ++ each f ys
unfolding each
each_append f [] ys = refl
each_append f (x ∷ xs) ys = rw (each_append f xs ys) (sym (append_assoc (f x) (each f xs) (each f ys)))

module _ {B : Type 0} where
  pub each_same : (f g : ℕ → List B) (a n : ℕ) → ((i : ℕ) → a ≤ i → i < a + n → f i ≡ g i) → each f (range a n) ≡ each g (range a n)
  unfolding each range
  each_same f g a zero h = refl
  each_same f g a (suc n) h = rw (h a (omega arith) (omega arith), each_same f g (suc a) n (λ i l k. h i (omega arith) (omega arith)))

  pub each_none : (f : ℕ → List B) (a n : ℕ) → ((i : ℕ) → a ≤ i → i < a + n → f i ≡ []) → each f (range a n) ≡ []
  unfolding each range
  each_none f a zero h = refl
  each_none f a (suc n) h = rw (h a (omega arith) (omega arith), each_none f (suc a) n (λ i l k. h i (omega arith) (omega arith)))

  -- the part of a range that stands before k, what k makes, and the part after it
  pub each_split : (f : ℕ → List B) (k m : ℕ) → each f (range 0 (k + suc m)) ≡ each f (range 0 k) ++ (f k ++ each f (range (suc k) m))
  unfolding each
  each_split f k m =
      let e : 0 + k ≡ k = omega arith in
      rw (range_split 0 k m, e) (each_append f (range 0 k) (k ∷ range (suc k) m))

-- ---- those that pass

module _ {A : Type 0} (p : A → Bool) where
  pub keep_first : (x : A) (xs : List A) (d : A) → p x ≡ true → get_or (keep p (x ∷ xs)) 0 d ≡ x
  unfolding keep only
  keep_first x xs d e = rw (e, keep, only)

  pub keep_later : (x : A) (xs : List A) → p x ≡ false → keep p (x ∷ xs) ≡ keep p xs
  unfolding keep only
  keep_later x xs e = rw (e, keep, only)

  pub keep_append : (xs ys : List A) → keep p (xs ++ ys) ≡ keep p xs ++ keep p ys
  unfolding keep
  keep_append [] ys = refl
  keep_append (x ∷ xs) ys = rw (keep_append xs ys) (sym (append_assoc (only (p x) x) (keep p xs) (keep p ys)))

  pub keep-each : {B : Type 0} (f : B → List A) (xs : List B) → keep p (each f xs) ≡ each (λ x. keep p (f x)) xs
  unfolding each keep
  keep-each f [] = refl
  keep-each f (x ∷ xs) = rw (keep_append (f x) (each f xs), keep-each f xs)

  pub keep_same : (q : A → Bool) (xs : List A) → ((x : A) → Memᴰ x xs → p x ≡ q x) → keep p xs ≡ keep q xs
  unfolding keep
  keep_same q [] h = refl
  keep_same q (x ∷ xs) h = rw (h x (Memᴰ.head refl), keep_same q xs (λ y m. h y (Memᴰ.tail m)))
