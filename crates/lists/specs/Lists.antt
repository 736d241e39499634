-- The words on lists and counts in which document 01 is written down here: a range, the first that passes, a sum, the
-- greatest, and a check before others.
-- Nothing here knows of halls or carriers.
use Rattle.std.specs.Prelude.{ℕ, zero, suc, ◌+◌, max, Bool, true, false, List, [], ◌∷◌, ◌++◌, ◌⊎◌}
use Rattle.std.proofs.Math.Option.{Option, none, some}

-- n numbers from a on, rising
unfoldable pub range : ℕ → ℕ → List ℕ
range a zero = []
range a (suc n) = a ∷ range (suc a) n

-- f 0 + .. + f (n - 1)
unfoldable pub sum_to : ℕ → (ℕ → ℕ) → ℕ
sum_to zero f = 0
sum_to (suc n) f = sum_to n f + f n

-- the greatest of f 0, .., f (n - 1); 0 where there are none
unfoldable pub greatest : ℕ → (ℕ → ℕ) → ℕ
greatest zero f = 0
greatest (suc n) f = max (greatest n f) (f n)

module _ {A : Type 0} where
  -- x, where the test passes
  unfoldable pub only : Bool → A → List A
  only true x = x ∷ []
  only false x = []

  -- those that pass, in their order
  unfoldable pub keep : (A → Bool) → List A → List A
  keep p [] = []
  keep p (x ∷ xs) = only (p x) x ++ keep p xs

  -- does one of them pass?
  unfoldable pub any_of : (A → Bool) → List A → Bool
  any_of p [] = false
  any_of p (x ∷ xs) = elim (p x) [ true ↦ true | false ↦ any_of p xs ]

  -- a fact of each, and of one
  unfoldable pub Every : (A → Type 0) → List A → Type 0
  Every P [] = Unit {0}
  Every P (x ∷ xs) = P x × Every P xs

  unfoldable pub Any : (A → Type 0) → List A → Type 0
  Any P [] = ⊥
  Any P (x ∷ xs) = P x ⊎ Any P xs

  -- the first that passes
  unfoldable pub first_of : (A → Bool) → List A → Option A
  first_of p [] = none
  first_of p (x ∷ xs) = elim (p x) [ true ↦ some x | false ↦ first_of p xs ]

-- a check that comes before the rest: 'If several apply, the lowest number is given.'
unfoldable pub refuse_if : {A : Type 0} → Bool → A → A → A
refuse_if true refusal rest = refusal
refuse_if false refusal rest = rest

-- what f makes of each, one after the other
unfoldable pub each : {A B : Type 0} → (A → List B) → List A → List B
each f [] = []
each f (x ∷ xs) = f x ++ each f xs
