-- Marking a stay: steps a to t of one cell are 255 and every other place is as before, one step more at each turn. At the end these
-- are the places of the first plane that the bar forbids, since places of different steps or cells are different, and the second plane
-- begins after them. Assumes nothing.
use Prim.Native.Nat.{ℕ, ◌+◌, ◌*◌, ◌≤◌, ◌<◌, min, max}
use native.Mathlib.Omega.{arith}
use native.Mathlib.Decide.{ℕ_discrete, dec_le}
use mathlib.Core.Path.{◌≡◌, refl, sym, ap, ◌∙◌}
use mathlib.Core.List.{List, [], ◌∷◌}
use lib.Arith.{digits_lt}
use lib.ListN.{length, get_or, set}
use lib.Seq.{get_or-set_same, get_or-set_other}
use Rattle.lists.proofs.Parts.{same_part, same_place}
use Rattle.lent.specs.Lent.{SameFrom}
use Rattle.routes.specs.declared.Bar.{Bar}
use Rattle.routes.specs.declared.Bar.TheVariants.{Stay}
use Rattle.marks.specs.Marks.{stand_mark, digits_of, crosses}
use Rattle.marks.specs.Post.{MarkedMore}
use Rattle.marks.proofs.Marking.{stand_stayed, stand_not_stayed, digits_not_crossing}
use Rattle.marks.proofs.More.{more_untouched}

-- steps a up to t, t not among them
pub record Stayed (size cell a t : ℕ) (before after : List ℕ) : Type 0 where
  pub inside : (s : ℕ) → a ≤ s → s < t → get_or after (s * size + cell) 0 ≡ 255
  pub outside : (x : ℕ) → ((s : ℕ) → a ≤ s → s < t → x ≡ s * size + cell → ⊥) → get_or after x 0 ≡ get_or before x 0

pub stayed_more : (size cell a t : ℕ) (before xs : List ℕ) → a ≤ t → t * size + cell < length xs → Stayed size cell a t before xs → Stayed size cell a (t + 1) before (set xs (t * size + cell) 255)
stayed_more size cell a t before xs l i st =
    record {
      inside = λ s m k.
          elim (ℕ_discrete (s * size + cell) (t * size + cell)) [
            | yes e ↦ rw e (get_or-set_same xs (t * size + cell) 255 0 i)
            | no n ↦
                get_or-set_other xs (t * size + cell) (s * size + cell) 255 0 n
                ∙ st.inside s m (earlier s k (λ e. n (ap (λ (y : ℕ). y * size + cell) e)))
          ];
      outside = λ x n.
          get_or-set_other xs (t * size + cell) x 255 0 (n t l (omega arith))
          ∙ st.outside x (λ s m k e. n s m (omega arith) e);
    }
  where
    earlier : (s : ℕ) → s < t + 1 → (s ≡ t → ⊥) → s < t
    earlier s k n = omega (arith, n)

module _ (width height h cell a b : ℕ) where
  -- the turns from a to t were those of the steps up to h that the bar forbids
  pub record AllTurns (t : ℕ) : Type 0 where
    pub started : a ≤ t
    pub ended : t ≤ max a (min b h + 1)
    pub past : min b h < t

  module _ (t : ℕ) (before after : List ℕ) (all : AllTurns t) (c : cell < width * height) (st : Stayed (width * height) cell a t before after) where
    untouched : (s v : ℕ) → v < width * height → (v ≡ cell → a ≤ s → s ≤ b → ⊥) → get_or after (s * (width * height) + v) 0 ≡ get_or before (s * (width * height) + v) 0
    untouched s v i n =
        st.outside (s * (width * height) + v) (λ r l k e.
        let f : s ≡ r = same_part (width * height) s r v cell i c e in
        let e1 = all.ended in
        n (same_place (width * height) s r v cell i c e) (omega arith) (omega arith))

    stay_stands : (bars : List Bar) (s v : ℕ) → s ≤ h → v < width * height → get_or before (s * (width * height) + v) 0 ≡ stand_mark bars s v → get_or after (s * (width * height) + v) 0 ≡ stand_mark (Stay cell a b ∷ bars) s v
    stay_stands bars s v l i e = go (ℕ_discrete v cell) (dec_le a s) (dec_le s b)
      where
        other : (v ≡ cell → a ≤ s → s ≤ b → ⊥) → get_or after (s * (width * height) + v) 0 ≡ stand_mark (Stay cell a b ∷ bars) s v
        other n = untouched s v i n ∙ e ∙ sym (stand_not_stayed bars s v cell a b n)

        go : Dec (v ≡ cell) → Dec (a ≤ s) → Dec (s ≤ b) → get_or after (s * (width * height) + v) 0 ≡ stand_mark (Stay cell a b ∷ bars) s v
        go (no n) y z = other (λ p q r. n p)
        go (yes x) (no n) z = other (λ p q r. n q)
        go (yes x) (yes y) (no n) = other (λ p q r. n r)
        go (yes x) (yes y) (yes z) = rw x (st.inside s y (omega (arith, all.past)) ∙ sym (stand_stayed bars s cell cell a b refl y z))

    stay_crossings : (bars : List Bar) (s v : ℕ) → get_or before ((h + 1) * (width * height) + s * (width * height) + v) 0 ≡ digits_of width height bars s v → get_or after ((h + 1) * (width * height) + s * (width * height) + v) 0 ≡ digits_of width height (Stay cell a b ∷ bars) s v
    stay_crossings bars s v e =
        st.outside ((h + 1) * (width * height) + s * (width * height) + v) (λ r l k q.
        let e1 = all.ended in
        let below : r * (width * height) + cell < (h + 1) * (width * height) = digits_lt {q = r} {m = h + 1} {r = cell} {c = width * height} (omega arith) c in
        omega arith)
        ∙ e
        ∙ sym (digits_not_crossing width height (Stay cell a b) bars s v (unfold crosses in refl))

    pub stayed_marked : SameFrom ((h + 1) * (width * height) + (h + 1) * (width * height)) before after → MarkedMore width height h (Stay cell a b ∷ []) before after
    stayed_marked kept =
        record {
          marked = λ bars m. record { stands = λ s v l i. stay_stands bars s v l i (m.stands s v l i); crossings = λ s v l i. stay_crossings bars s v (m.crossings s v l i) };
          kept = kept;
        }

  -- a bar of no cell of the hall
  pub stay_outside : (xs : List ℕ) → width * height ≤ cell → MarkedMore width height h (Stay cell a b ∷ []) xs xs
  stay_outside xs o =
      more_untouched width height h (Stay cell a b) xs (λ bars.
      record {
        stands = λ t v l i. stand_not_stayed bars t v cell a b (λ e j k. omega arith);
        crossings = λ t v l i. digits_not_crossing width height (Stay cell a b) bars t v (unfold crosses in refl);
      })
