-- `Every` and `Any` along a list: what is true of each or of one of the members of a list, of two lists put together, of a mapped,
-- joined or kept list, of a range, and of a list with one taken out. By induction on the list. Assumes nothing.
use Prim.Native.Nat.{ℕ, zero, suc, ◌+◌, ◌≤◌, ◌<◌}
use native.Mathlib.Omega.{arith}
use native.Mathlib.Decide.{ℕ_discrete}
use mathlib.Core.Path.{◌≡◌, refl, sym, subst}
use mathlib.Core.Logic.{◌⊎◌, inl, inr}
use mathlib.Core.Bool.{Bool, true, false}
use mathlib.Core.List.{List, [], ◌∷◌, ◌++◌, map, Memᴰ}
use Rattle.lists.specs.Lists.{range, only, keep, each, Every, Any}

module _ {A : Type 0} where
  pub every_imply : {P Q : A → Type 0} → ((x : A) → P x → Q x) → (xs : List A) → Every P xs → Every Q xs
  unfolding Every
  every_imply f [] h = tt
  every_imply f (x ∷ xs) h = (f x h.0, every_imply f xs h.1)

  pub every_both : (P Q : A → Type 0) (xs : List A) → Every P xs → Every Q xs → Every (λ x. P x × Q x) xs
  unfolding Every
  every_both P Q [] h k = tt
  every_both P Q (x ∷ xs) h k = ((h.0, k.0), every_both P Q xs h.1 k.1)

  -- one of which both are true: P of each, Q of one
  pub any_of_every : (P Q : A → Type 0) (xs : List A) → Every P xs → Any Q xs → (x : A) × P x × Q x
  unfolding Every Any
  any_of_every P Q [] h a = absurd a
  any_of_every P Q (x ∷ xs) h (inl q) = (x, h.0, q)
  any_of_every P Q (x ∷ xs) h (inr a) = any_of_every P Q xs h.1 a

module _ {A : Type 0} (P : A → Type 0) where
  -- ---- the members

  pub every_member : {x : A} (xs : List A) → Every P xs → Memᴰ x xs → P x
  unfolding Every
  every_member [] h m = elim m [ ]
  every_member (y ∷ xs) h (Memᴰ.head q) = subst P (sym q) h.0
  every_member (y ∷ xs) h (Memᴰ.tail m) = every_member xs h.1 m

  pub member_every : (xs : List A) → ((x : A) → Memᴰ x xs → P x) → Every P xs
  unfolding Every
  member_every [] h = tt
  member_every (y ∷ xs) h = (h y (Memᴰ.head refl), member_every xs (λ x m. h x (Memᴰ.tail m)))

  -- ---- two lists put together

  pub every_append : (xs ys : List A) → Every P xs → Every P ys → Every P (xs ++ ys)
  unfolding Every
  every_append [] ys h k = k
  every_append (x ∷ xs) ys h k = (h.0, every_append xs ys h.1 k)

  pub append_every : (xs ys : List A) → Every P (xs ++ ys) → Every P xs × Every P ys
  unfolding Every
  append_every [] ys h = (tt, h)
  append_every (x ∷ xs) ys h = let rest = append_every xs ys h.1 in ((h.0, rest.0), rest.1)

  pub any_append_left : (xs ys : List A) → Any P xs → Any P (xs ++ ys)
  unfolding Any
  any_append_left [] ys a = absurd a
  any_append_left (x ∷ xs) ys (inl p) = inl p
  any_append_left (x ∷ xs) ys (inr a) = inr (any_append_left xs ys a)

  pub any_append_right : (xs ys : List A) → Any P ys → Any P (xs ++ ys)
  unfolding Any
  any_append_right [] ys a = a
  any_append_right (x ∷ xs) ys a = inr (any_append_right xs ys a)

  -- ---- one taken out

  pub every_taken : (xs : List A) (y : A) (ys : List A) → Every P (xs ++ y ∷ ys) → P y × Every P (xs ++ ys)
  unfolding Every
  every_taken [] y ys h = h
  every_taken (x ∷ xs) y ys h = let r = every_taken xs y ys h.1 in (r.0, (h.0, r.1))

  pub any_taken : (xs : List A) (y : A) (ys : List A) → Any P (xs ++ y ∷ ys) → P y ⊎ Any P (xs ++ ys)
  unfolding Any
  any_taken [] y ys a = a
  any_taken (x ∷ xs) y ys (inl p) = inr (inl p)
  any_taken (x ∷ xs) y ys (inr a) = elim (any_taken xs y ys a) [ inl p ↦ inl p | inr b ↦ inr (inr b) ]

  -- ---- those that pass

  pub only_every : (b : Bool) (x : A) → (b ≡ true → P x) → Every P (only b x)
  unfolding only Every
  only_every true x h = (h refl, tt)
  only_every false x h = tt

  pub keep_every : (p : A → Bool) (xs : List A) → Every P xs → Every P (keep p xs)
  unfolding keep Every
  keep_every p [] h = tt
  keep_every p (x ∷ xs) h = every_append (only (p x) x) (keep p xs) (only_every (p x) x (λ _. h.0)) (keep_every p xs h.1)

module _ {A B : Type 0} (P : B → Type 0) where
  -- ---- what f makes of each

  pub every_map : (f : A → B) (xs : List A) → Every (λ a. P (f a)) xs → Every P (map f xs)
  unfolding Every
  every_map f [] h = tt
  every_map f (x ∷ xs) h = (h.0, every_map f xs h.1)

  pub map_every : (f : A → B) (xs : List A) → Every P (map f xs) → Every (λ a. P (f a)) xs
  unfolding Every
  map_every f [] h = tt
  map_every f (x ∷ xs) h = (h.0, map_every f xs h.1)

  pub every_each : (f : A → List B) (xs : List A) → Every (λ a. Every P (f a)) xs → Every P (each f xs)
  unfolding Every each
  every_each f [] h = tt
  every_each f (x ∷ xs) h = every_append P (f x) (each f xs) h.0 (every_each f xs h.1)

  pub each_every : (f : A → List B) (xs : List A) → Every P (each f xs) → Every (λ a. Every P (f a)) xs
  unfolding Every each
  each_every f [] h = tt
  each_every f (x ∷ xs) h = let parts = append_every P (f x) (each f xs) h in (parts.0, each_every f xs parts.1)

pub every_exchange : {A B : Type 0} (Q : A → B → Type 0) (xs : List A) (ys : List B) → Every (λ y. Every (λ x. Q x y) xs) ys → Every (λ x. Every (Q x) ys) xs
unfolding Every
every_exchange Q [] ys h = tt
every_exchange Q (x ∷ xs) ys h =
    (every_imply {P = λ y. Q x y × Every (λ x. Q x y) xs} (λ y k. k.0) ys h, every_exchange Q xs ys (every_imply {P = λ y. Q x y × Every (λ x. Q x y) xs} (λ y k. k.1) ys h))

-- ---- n numbers from a on

module _ (P : ℕ → Type 0) where
  pub every_range : (a n : ℕ) → ((i : ℕ) → a ≤ i → i < a + n → P i) → Every P (range a n)
  unfolding Every range
  every_range a zero h = tt
  every_range a (suc n) h = (h a (omega arith) (omega arith), every_range (suc a) n (λ i low high. h i (omega arith) (omega arith)))

  pub range_every : (a n : ℕ) → Every P (range a n) → (i : ℕ) → a ≤ i → i < a + n → P i
  unfolding Every range
  range_every a zero h i low high = absurd (omega arith)
  range_every a (suc n) h i low high =
      elim (ℕ_discrete a i) [ yes e ↦ subst P e h.0 | no ne ↦ range_every (suc a) n h.1 i (omega arith) (omega arith) ]

  -- the numbers below n
  pub every_below : (n : ℕ) → ((i : ℕ) → i < n → P i) → Every P (range 0 n)
  every_below n h = every_range 0 n (λ i low high. h i (omega arith))

  pub below_every : (n : ℕ) → Every P (range 0 n) → (i : ℕ) → i < n → P i
  below_every n h i below = range_every 0 n h i (omega arith) (omega arith)
