-- What stands in a range, in a mapped, joined or kept list: one law each way for each of these words, by induction on the list.
-- Assumes nothing.
use Prim.Native.Nat.{ℕ, zero, suc, ◌+◌, ◌≤◌, ◌<◌}
use native.Mathlib.Nat.{eq-or-lt_of_le}
use native.Mathlib.Omega.{arith}
use mathlib.Core.Path.{◌≡◌, refl, sym, ap, subst}
use mathlib.Core.Logic.{◌⊎◌, inl, inr}
use mathlib.Core.Bool.{Bool, true, false}
use mathlib.Core.List.Memᴰ
use mathlib.Core.List.{List, [], ◌∷◌, map, Memᴰ}
use lib.Dec.{T}
use Rattle.lists.specs.Lists.{range, only, keep, each}

-- ---- n numbers from a on

pub range_member : {x : ℕ} (a n : ℕ) → Memᴰ x (range a n) → (a ≤ x) × (x < a + n)
unfolding range
range_member a zero m = elim m [ ]
range_member a (suc n) (Memᴰ.head q) = (omega arith, omega arith)
range_member {x} a (suc n) (Memᴰ.tail m) = let h : (suc a ≤ x) × (x < suc a + n) = range_member (suc a) n m in (omega arith, omega arith)

pub member_range : {x : ℕ} (a n : ℕ) → a ≤ x → x < a + n → Memᴰ x (range a n)
unfolding range
member_range a zero h k = absurd (omega arith)
member_range {x} a (suc n) h k = go (eq-or-lt_of_le h) (member_range {x = x} (suc a) n)
  where
    go : (a ≡ x) ⊎ (a < x) → (suc a ≤ x → x < suc a + n → Memᴰ x (range (suc a) n)) → Memᴰ x (a ∷ range (suc a) n)
    go (inl e) rest = Memᴰ.head (sym e)
    go (inr l) rest = Memᴰ.tail (rest l (omega arith))

-- ---- what f makes of each

module _ {A B : Type 0} (f : A → B) where
  pub map_member : {y : B} (xs : List A) → Memᴰ y (map f xs) → (x : A) × Memᴰ x xs × (y ≡ f x)
  map_member [] m = elim m [ ]
  map_member (x ∷ xs) (Memᴰ.head q) = (x, Memᴰ.head refl, q)
  map_member (x ∷ xs) (Memᴰ.tail m) = let (z, i, e) = map_member xs m in (z, Memᴰ.tail i, e)

  pub member_map : {x : A} (xs : List A) → Memᴰ x xs → Memᴰ (f x) (map f xs)
  member_map [] m = elim m [ ]
  member_map (z ∷ xs) (Memᴰ.head q) = Memᴰ.head (ap f q)
  member_map (z ∷ xs) (Memᴰ.tail m) = Memᴰ.tail (member_map xs m)

module _ {A B : Type 0} (f : A → List B) where
  pub each_member : {y : B} (xs : List A) → Memᴰ y (each f xs) → (x : A) × Memᴰ x xs × Memᴰ y (f x)
  unfolding each
  each_member [] m = elim m [ ]
  each_member {y} (x ∷ xs) m = go (Memᴰ.append_cases (f x) m) (each_member {y = y} xs)
    where
      go : Memᴰ y (f x) ⊎ Memᴰ y (each f xs) → (Memᴰ y (each f xs) → (z : A) × Memᴰ z xs × Memᴰ y (f z)) → (z : A) × Memᴰ z (x ∷ xs) × Memᴰ y (f z)
      go (inl m) rest = (x, Memᴰ.head refl, m)
      go (inr m) rest = let r = rest m in (r.0, Memᴰ.tail r.1, r.2)

  pub member_each : {x : A} {y : B} (xs : List A) → Memᴰ x xs → Memᴰ y (f x) → Memᴰ y (each f xs)
  unfolding each
  member_each [] m n = elim m [ ]
  member_each {y = y} (z ∷ xs) (Memᴰ.head q) n = Memᴰ.append_left (each f xs) (subst (λ w. Memᴰ y (f w)) q n)
  member_each (z ∷ xs) (Memᴰ.tail m) n = Memᴰ.append_right (f z) (member_each xs m n)

-- ---- those that pass

module _ {A : Type 0} where
  pub only_member : {x y : A} (b : Bool) → Memᴰ x (only b y) → T b × (x ≡ y)
  unfolding only
  only_member true (Memᴰ.head q) = (tt, q)
  only_member true (Memᴰ.tail m) = elim m [ ]
  only_member false m = elim m [ ]

  pub member_only : {x y : A} (b : Bool) → T b → x ≡ y → Memᴰ x (only b y)
  unfolding only
  member_only true h q = Memᴰ.head q
  member_only false h q = absurd h

  pub keep_member : (p : A → Bool) {x : A} (xs : List A) → Memᴰ x (keep p xs) → Memᴰ x xs × T (p x)
  unfolding keep
  keep_member p [] m = elim m [ ]
  keep_member p {x} (y ∷ xs) m = go (Memᴰ.append_cases (only (p y) y) m) (keep_member p {x = x} xs)
    where
      go : Memᴰ x (only (p y) y) ⊎ Memᴰ x (keep p xs) → (Memᴰ x (keep p xs) → Memᴰ x xs × T (p x)) → Memᴰ x (y ∷ xs) × T (p x)
      go (inl m) rest = let f : T (p y) × (x ≡ y) = only_member (p y) m in (Memᴰ.head f.1, subst (λ z. T (p z)) (sym f.1) f.0)
      go (inr m) rest = (Memᴰ.tail (rest m).0, (rest m).1)

  pub member_keep : (p : A → Bool) {x : A} (xs : List A) → Memᴰ x xs → T (p x) → Memᴰ x (keep p xs)
  unfolding keep
  member_keep p [] m h = elim m [ ]
  member_keep p (y ∷ xs) (Memᴰ.head q) h = Memᴰ.append_left (keep p xs) (member_only (p y) (subst (λ z. T (p z)) q h) q)
  member_keep p (y ∷ xs) (Memᴰ.tail m) h = Memᴰ.append_right (only (p y) y) (member_keep p xs m h)
