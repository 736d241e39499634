-- Loops that look for the first that passes, of what is made of each of a range: what is left to look at has the same answer, one
-- step at a time. Assumes nothing.
use Prim.Native.Nat.{ℕ, ◌+◌, ◌-◌, ◌≤◌, ◌<◌}
use mathlib.Core.Path.{◌≡◌}
use mathlib.Core.Bool.{Bool}
use mathlib.Core.List.{List}
use mathlib.Core.Option.{none, some}
use Rattle.lists.specs.Lists.{range, first_of, each}
use Rattle.lists.proofs.Passing.{first_in_front, first_behind}
use Rattle.lists.proofs.Ranges.{range_next, range_done}

-- of what f makes of a range from i up to n
module _ {A : Type 0} (p : A → Bool) (f : ℕ → List A) (i n : ℕ) where
  pub first_each_found : i < n → (x : A) → first_of p (f i) ≡ some x → first_of p (each f (range i (n - i))) ≡ some x
  unfolding each
  first_each_found h x e = rw (range_next i n h) (first_in_front p x (f i) (each f (range (i + 1) (n - (i + 1)))) e)

  pub first_each_passed : i < n → first_of p (f i) ≡ none → first_of p (each f (range i (n - i))) ≡ first_of p (each f (range (i + 1) (n - (i + 1))))
  unfolding each
  first_each_passed h e = rw (range_next i n h) (first_behind p (f i) (each f (range (i + 1) (n - (i + 1)))) e)

  pub first_each_done : n ≤ i → first_of p (each f (range i (n - i))) ≡ none
  unfolding each first_of
  first_each_done h = rw (range_done i n h)
