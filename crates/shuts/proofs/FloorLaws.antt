-- The floor, in a table of zeros: the closed cells in their own row, then the first column for the move to the left and the last for the
-- move to the right. Assumes nothing.
use Prim.Native.Nat.{ℕ, ◌+◌, ◌-◌, ◌*◌, ◌^◌, ◌≤◌, ◌<◌}
use native.Mathlib.Nat.{zero-div}
use native.Mathlib.Omega.{arith}
use native.Mathlib.Decide.{dec_lt, ℕ_discrete}
use mathlib.Core.Path.{◌≡◌, refl, ap, ◌∙◌}
use mathlib.Core.Bool.{Bool, true, false, not, ◌||◌}
use mathlib.Core.List.{List}
use lib.ListN.{get_or, replicate, get_or-replicate}
use Rattle.lent.specs.Made.{Made}
use Rattle.lists.proofs.Tests.{not_both}
use Rattle.hall.specs.Hall.{Hall, size}
use Rattle.hall.specs.Moves.{move_count}
use Rattle.hall.proofs.HallCode.{open_read}
use Rattle.shuts.specs.Shuts.{has_digit, aside, shut_if}
use Rattle.shuts.specs.Post.{ShutEach, FloorLaid}
use Rattle.shuts.proofs.Moves.{closed_mark}
use Rattle.shuts.proofs.Edges.{Edge, never_aside, left_edge, right_edge}

pub no_digit : (m : ℕ) → has_digit 0 m ≡ false
unfolding has_digit
no_digit m = rw (zero-div (2 ^ m))

abbrev floor_mark : ℕ → ℕ → ℕ → ℕ
floor_mark width v m = shut_if (aside width v m || has_digit 0 m)

module _ (width v m : ℕ) where
  mark_out : aside width v m ≡ true → 255 ≡ floor_mark width v m
  unfolding shut_if
  mark_out e = rw e

  mark_inside : aside width v m ≡ false → 0 ≡ floor_mark width v m
  unfolding shut_if
  mark_inside e = rw (e, no_digit m)

-- a column shut for move k
module _ (k first until width : ℕ) (b c : List ℕ) (shut : ShutEach k first until width b c) where
  apart : until ≤ 256 → (m v : ℕ) → v < 256 → (m ≡ k → ⊥) → get_or c (m * 256 + v) 0 ≡ get_or b (m * 256 + v) 0
  apart small m v l n = shut.other (m * 256 + v) (λ j u e. n (omega arith))

  beyond : until ≤ 256 → (m v : ℕ) → until ≤ v → v < 256 → get_or c (m * 256 + v) 0 ≡ get_or b (m * 256 + v) 0
  beyond small m v o l = shut.other (m * 256 + v) (λ j u e. omega arith)

  column_shut : Edge width k first → (v : ℕ) → v < until → get_or b (k * 256 + v) 0 ≡ 0 → get_or c (k * 256 + v) 0 ≡ floor_mark width v k
  column_shut edge v l z = here (aside width v k) refl
    where
      inside : aside width v k ≡ false → (j : ℕ) → first + j * width < until → k * 256 + v ≡ k * 256 + (first + j * width) → ⊥
      inside e j u q =
          let same : first + j * width ≡ v = omega arith in
          not_both (edge.out j) (rw same e)

      here : (o : Bool) → aside width v k ≡ o → get_or c (k * 256 + v) 0 ≡ floor_mark width v k
      here true e =
          let (j, q) = edge.all v e in
          ap (λ x. get_or c (k * 256 + x) 0) q ∙ shut.shut j (omega arith) ∙ mark_out width v k e
      here false e = shut.other (k * 256 + v) (inside e) ∙ z ∙ mark_inside width v k e

-- the closed cells, then the columns of left and right
module _ (hall : Hall) (a b c d : List ℕ) (some : 1 ≤ hall.width) (small : size hall ≤ 256)
    (zeros : a ≡ replicate 1536 0)
    (closed : Made 1280 (size hall) (λ v x. closed_mark hall.bytes v) a b)
    (left : ShutEach 1 0 (size hall) hall.width b c)
    (right : ShutEach 3 (hall.width - 1) (size hall) hall.width c d) where
  lefts : (m v : ℕ) → v < 256 → (m ≡ 1 → ⊥) → get_or c (m * 256 + v) 0 ≡ get_or b (m * 256 + v) 0
  lefts = apart 1 0 (size hall) hall.width b c left small

  rights : (m v : ℕ) → v < 256 → (m ≡ 3 → ⊥) → get_or d (m * 256 + v) 0 ≡ get_or c (m * 256 + v) 0
  rights = apart 3 (hall.width - 1) (size hall) hall.width c d right small

  zero_at : (m v : ℕ) → m < move_count → v < 256 → get_or b (m * 256 + v) 0 ≡ 0
  zero_at m v h l = closed.under (m * 256 + v) (omega arith) ∙ ap (λ xs. get_or xs (m * 256 + v) 0) zeros ∙ get_or-replicate 1536 (m * 256 + v) 0 0 (omega arith)

  mark_at : (m v : ℕ) → m < move_count → v < size hall → Dec (m ≡ 1) → Dec (m ≡ 3) → get_or d (m * 256 + v) 0 ≡ floor_mark hall.width v m
  mark_at m v h l (yes p) q =
      rw p (rights 1 v (omega arith) (λ e. omega arith) ∙ column_shut 1 0 (size hall) hall.width b c left (left_edge hall.width some) v l (zero_at 1 v (omega arith) (omega arith)))
  mark_at m v h l (no n) (yes q) =
      rw q
      (column_shut 3 (hall.width - 1) (size hall) hall.width c d right (right_edge hall.width some) v l
      (lefts 3 v (omega arith) (λ e. omega arith) ∙ zero_at 3 v (omega arith) (omega arith)))
  mark_at m v h l (no n) (no o) =
      rights m v (omega arith) o
      ∙ lefts m v (omega arith) n
      ∙ zero_at m v h (omega arith)
      ∙ mark_inside hall.width v m (never_aside hall.width v m n o)

  closed_at : (v : ℕ) → v < size hall → get_or d (1280 + v) 0 ≡ closed_mark hall.bytes v
  closed_at v l = rights 5 v (omega arith) (λ e. omega arith) ∙ lefts 5 v (omega arith) (λ e. omega arith) ∙ closed.made v l

  before_at : (m v : ℕ) → m < 6 → size hall ≤ v → v < 256 → Dec (m < 5) → get_or b (m * 256 + v) 0 ≡ get_or a (m * 256 + v) 0
  before_at m v h o l (yes i) = closed.under (m * 256 + v) (omega arith)
  before_at m v h o l (no n) = closed.over (m * 256 + v) (omega (arith, n))

  pub floor_laid : FloorLaid hall a d
  floor_laid =
      record {
        floor = record {
          marks = λ m v h l. mark_at m v h l (ℕ_discrete m 1) (ℕ_discrete m 3);
          closed = λ v l. closed_at v l ∙ ap (λ o. shut_if (not o)) (open_read hall v l);
        };
        kept = record {
          long = right.long ∙ left.long ∙ closed.long;
          rest = λ m v h o l.
              beyond 3 (hall.width - 1) (size hall) hall.width c d right small m v o l
              ∙ beyond 1 0 (size hall) hall.width b c left small m v o l
              ∙ before_at m v h o l (dec_lt m 5);
        };
      }
