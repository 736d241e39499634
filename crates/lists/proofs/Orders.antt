-- Lists in an order: each entry stands so to all that come after it. Of a list in order the first that passes comes before all
-- others that do, and parts of it stand one after the other. By induction on the list. Assumes nothing.
use Prim.Native.Nat.{ℕ, zero, suc, ◌+◌, ◌≤◌, ◌<◌}
use native.Mathlib.Decide.{ℕ_discrete}
use native.Mathlib.Omega.{arith}
use mathlib.Core.Path.{◌≡◌, refl, sym, subst}
use mathlib.Core.Bool.{Bool, true, false}
use mathlib.Core.List.Memᴰ
use mathlib.Core.List.{List, [], ◌∷◌, ◌++◌, map, Memᴰ}
use mathlib.Core.Option.{Option, none, some}
use lib.Dec.{T}
use Rattle.lists.specs.Lists.{range, only, keep, each, first_of, Every}
use Rattle.lists.proofs.Members.{member_each, member_range}
use Rattle.lists.proofs.Every.{every_imply, every_member, every_append, only_every, keep_every, every_map, every_each, every_exchange, every_range, every_below}

unfoldable pub Ordered : {A : Type 0} → (A → A → Type 0) → List A → Type 0
Ordered R [] = Unit {0}
Ordered R (x ∷ xs) = Every (R x) xs × Ordered R xs

-- each number is below all later ones
unfoldable pub Rising : List ℕ → Type 0
Rising xs = Ordered (λ x y. x < y) xs

module _ {A : Type 0} (R : A → A → Type 0) where
  pub ordered_imply : (S : A → A → Type 0) → ((x y : A) → R x y → S x y) → (xs : List A) → Ordered R xs → Ordered S xs
  unfolding Ordered
  ordered_imply S f [] o = tt
  ordered_imply S f (x ∷ xs) o = (every_imply (f x) xs o.0, ordered_imply S f xs o.1)

  pub ordered_append : (xs ys : List A) → Ordered R xs → Ordered R ys → Every (λ x. Every (R x) ys) xs → Ordered R (xs ++ ys)
  unfolding Ordered Every
  ordered_append [] ys o q between = q
  ordered_append (x ∷ xs) ys o q between = (every_append (R x) xs ys o.0 between.0, ordered_append xs ys o.1 q between.1)

  pub ordered_only : (b : Bool) (x : A) → Ordered R (only b x)
  unfolding Ordered only Every
  ordered_only true x = (tt, tt)
  ordered_only false x = tt

  pub ordered_keep : (p : A → Bool) (xs : List A) → Ordered R xs → Ordered R (keep p xs)
  unfolding Ordered keep
  ordered_keep p [] o = tt
  ordered_keep p (x ∷ xs) o =
      ordered_append (only (p x) x) (keep p xs) (ordered_only (p x) x) (ordered_keep p xs o.1)
      (only_every (λ a. Every (R a) (keep p xs)) (p x) x (λ _. keep_every (R x) p xs o.0))

module _ {A B : Type 0} (R : B → B → Type 0) where
  pub ordered_map : (f : A → B) (xs : List A) → Ordered (λ a b. R (f a) (f b)) xs → Ordered R (map f xs)
  unfolding Ordered
  ordered_map f [] o = tt
  ordered_map f (x ∷ xs) o = (every_map (R (f x)) f xs o.0, ordered_map f xs o.1)

  -- parts in order, each before all later ones, are in order one after the other
  pub ordered_each : (f : A → List B) (xs : List A) → Every (λ a. Ordered R (f a)) xs → Ordered (λ a b. Every (λ x. Every (R x) (f b)) (f a)) xs → Ordered R (each f xs)
  unfolding Ordered Every each
  ordered_each f [] o between = tt
  ordered_each f (a ∷ rest) o between =
      ordered_append R (f a) (each f rest) o.0 (ordered_each f rest o.1 between.1)
      (every_imply {P = λ x. Every (λ b. Every (R x) (f b)) rest} (λ x h. every_each (R x) f rest h) (f a)
      (every_exchange (λ x b. Every (R x) (f b)) (f a) rest between.0))

pub ordered_range : (R : ℕ → ℕ → Type 0) (a n : ℕ) → ((i j : ℕ) → a ≤ i → i < j → j < a + n → R i j) → Ordered R (range a n)
unfolding Ordered range
ordered_range R a zero h = tt
ordered_range R a (suc n) h =
    (every_range (R a) (suc a) n (λ i low high. h a i (omega arith) (omega arith) (omega arith)), ordered_range R (suc a) n (λ i j low less high. h i j (omega arith) less (omega arith)))

-- rows of things numbered twice, row by row and in a row from its own start on, are in an order that goes by the row and then by the place
module _ {A : Type 0} (R : A → A → Type 0) (thing : ℕ → ℕ → A) (start size : ℕ → ℕ) where
  abbrev row : ℕ → List A
  row i = map (thing i) (range (start i) (size i))

  pub ordered_rows : ((i j j' : ℕ) → j < j' → R (thing i j) (thing i j')) → ((i j i' j' : ℕ) → i < i' → R (thing i j) (thing i' j')) → (m : ℕ) → Ordered R (each row (range 0 m))
  ordered_rows inner outer m =
      ordered_each R row (range 0 m)
      (every_below (λ i. Ordered R (row i)) m
      (λ i _. ordered_map R (thing i) (range (start i) (size i)) (ordered_range (λ j j'. R (thing i j) (thing i j')) (start i) (size i) (λ j j' _ less _. inner i j j' less))))
      (ordered_range (λ i i'. Every (λ x. Every (R x) (row i')) (row i)) 0 m
      (λ i i' _ less _.
      every_map (λ x. Every (R x) (row i')) (thing i) (range (start i) (size i))
      (every_range (λ j. Every (R (thing i j)) (row i')) (start i) (size i)
      (λ j _ _. every_map (R (thing i j)) (thing i') (range (start i') (size i')) (every_range (λ j'. R (thing i j) (thing i' j')) (start i') (size i') (λ j' _ _. outer i j i' j' less))))))

-- ---- the first that passes

module _ {A : Type 0} (p : A → Bool) (R : A → A → Type 0) where
  unfoldable pub LeastFact : List A → Option A → Type 0
  LeastFact xs none = Unit {0}
  LeastFact xs (some x) = Every (λ y. T (p y) → R x y) xs

  least_later : (x : A) (xs : List A) → (T (p x) → ⊥) → (o : Option A) → LeastFact xs o → LeastFact (x ∷ xs) o
  unfolding LeastFact Every
  least_later x xs fails none f = tt
  least_later x xs fails (some y) f = (λ t. absurd (fails t), f)

  pub first_least : ((x : A) → R x x) → (xs : List A) → Ordered R xs → LeastFact xs (first_of p xs)
  unfolding LeastFact Ordered Every first_of
  first_least self [] o = tt
  first_least self (x ∷ xs) o =
      (elim (p x) as (λ b. p x ≡ b → LeastFact (x ∷ xs) (first_of p (x ∷ xs))) [
        | true ↦ λ e. rw (e, first_of) (λ _. self x, every_imply {P = R x} (λ y r _. r) xs o.0)
        | false ↦ λ e. rw (e, first_of) (least_later x xs (λ t. subst T e t) (first_of p xs) (first_least self xs o.1))
      ]) refl

-- ---- parts of a list in order stand one after the other

module _ {A : Type 0} (R : A → A → Type 0) where
  ordered_parts : {x y : A} (xs ys : List A) → Ordered R (xs ++ ys) → Memᴰ x xs → Memᴰ y ys → R x y
  unfolding Ordered
  ordered_parts [] ys o m n = elim m [ ]
  ordered_parts {x} {y} (z ∷ xs) ys o (Memᴰ.head e) n = subst (λ a. R a y) (sym e) (every_member (R z) (xs ++ ys) o.0 (Memᴰ.append_right xs n))
  ordered_parts (z ∷ xs) ys o (Memᴰ.tail m) n = ordered_parts xs ys o.1 m n

  ordered_rest : (xs ys : List A) → Ordered R (xs ++ ys) → Ordered R ys
  unfolding Ordered
  ordered_rest [] ys o = o
  ordered_rest (x ∷ xs) ys o = ordered_rest xs ys o.1

pub each_rises : (f : ℕ → List ℕ) (a n : ℕ) → Rising (each f (range a n)) → (i j x y : ℕ) → a ≤ i → i < j → j < a + n → Memᴰ x (f i) → Memᴰ y (f j) → x < y
unfolding Rising each range
each_rises f a zero o i j x y h k l p q = absurd (omega arith)
each_rises f a (suc n) o i j x y h k l p q =
    elim (ℕ_discrete i a) [
      | yes e ↦
          ordered_parts (λ x y. x < y) (f a) (each f (range (suc a) n)) o (subst (λ b. Memᴰ x (f b)) e p)
          (member_each f (range (suc a) n) (member_range (suc a) n (omega arith) (omega arith)) q)
      | no ne ↦
          each_rises f (suc a) n (ordered_rest (λ x y. x < y) (f a) (each f (range (suc a) n)) o) i j x y (omega (arith, ne)) k (omega arith) p q
    ]
