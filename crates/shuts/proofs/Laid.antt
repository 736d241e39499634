-- What lies in the table of shut moves after `lay_shuts`: the floor, and the digits of the step. Where no crossing is barred on the whole
-- way nothing has changed. Assumes nothing.
use Prim.Native.Nat.{ℕ, ◌+◌, max, ◌<◌}
use mathlib.Core.Path.{◌≡◌, refl, ap, ◌∙◌}
use mathlib.Core.Bool.{Bool, true, false, ◌||◌}
use mathlib.Core.List.{List}
use lib.ListN.{get_or}
use Rattle.hall.specs.Hall.{Hall, size}
use Rattle.shuts.specs.Shuts.{has_digit, aside, shut_if, Shut, Floor}
use Rattle.shuts.specs.Post.{CrossingsLaid, LaidAt}
use Rattle.shuts.proofs.FloorLaws.{no_digit}

module _ (floor layers : List ℕ) (from n : ℕ) (before after : List ℕ) where
  pub laid_crossings : LaidAt true floor layers from n before after → CrossingsLaid floor layers from n before after
  unfolding LaidAt
  laid_crossings laid = laid

  pub unlaid : LaidAt false floor layers from n before after → after ≡ before
  unfolding LaidAt
  unlaid laid = laid

-- whether a cell is closed does not change
pub laid_closed : (crossing : Bool) (floor layers : List ℕ) (from n : ℕ) (before after : List ℕ) → LaidAt crossing floor layers from n before after → (v : ℕ) → v < n → get_or after (1280 + v) 0 ≡ get_or before (1280 + v) 0
laid_closed true floor layers from n before after laid v l = (laid_crossings floor layers from n before after laid).closed v l
laid_closed false floor layers from n before after laid v l = ap (λ xs. get_or xs (1280 + v) 0) (unlaid floor layers from n before after laid)

-- the greater of two bytes is that of either test; z is the floor's own digit
either_shut : (out digit z : Bool) → z ≡ false → max (shut_if (out || z)) (shut_if digit) ≡ shut_if (out || digit)
unfolding shut_if
either_shut true true z e = refl
either_shut true false z e = refl
either_shut false true z e = rw e
either_shut false false z e = rw e

pub laid_shut : (hall : Hall) (floor layers : List ℕ) (from : ℕ) (before after : List ℕ) → Floor hall floor → ((v : ℕ) → v < size hall → get_or before (1280 + v) 0 ≡ get_or floor (1280 + v) 0) → CrossingsLaid floor layers from (size hall) before after → Shut hall (λ v. get_or layers (from + v) 0) after
laid_shut hall floor layers from before after f same laid =
    record {
      marks = λ m v h l.
          laid.marks m v h l
          ∙ ap (λ x. max x (shut_if (has_digit (get_or layers (from + v) 0) m))) (f.marks m v h l)
          ∙ either_shut (aside hall.width v m) (has_digit (get_or layers (from + v) 0) m) (has_digit 0 m) (no_digit m);
      closed = λ v l. laid.closed v l ∙ same v l ∙ f.closed v l;
    }
