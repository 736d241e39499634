-- Marking a crossing: one digit more at its step and cell of the second plane, or nothing where it lies outside or no move leads so.
-- Where no bar forbids a crossing, there is no digit. Assumes nothing.
use Prim.Native.Nat.{ℕ, ◌+◌, ◌*◌, ◌≤◌, ◌<◌}
use native.Mathlib.Omega.{arith}
use native.Mathlib.Decide.{ℕ_discrete}
use mathlib.Core.Path.{◌≡◌, sym, ap, ◌∙◌}
use mathlib.Core.Bool.{false}
use mathlib.Core.List.{List, [], ◌∷◌}
use lib.ListN.{length, get_or, set}
use lib.Seq.{get_or-set_same, get_or-set_other}
use Rattle.lists.specs.Lists.{any_of}
use Rattle.lists.proofs.Parts.{same_part, same_place}
use Rattle.lists.proofs.Passing.{any_cons}
use Rattle.lists.proofs.Tests.{or_fails}
use Rattle.lent.proofs.Keeping.{same_from, same_set}
use Rattle.std.specs.Prelude.{None, Some}
use Rattle.routes.specs.declared.Bar.{Bar}
use Rattle.routes.specs.declared.Bar.TheVariants.{Cross}
use Rattle.marks.specs.Marks.{stand_mark, digits_of, Marked, crosses}
use Rattle.marks.specs.Post.{Layered, MarkedMore, MoveTo, Leading, with_digit}
use Rattle.marks.proofs.Marking.{stand_crossed, digits_none, digits_not_crossing, digits_crossed, digits_not_crossed, digits_far}
use Rattle.marks.proofs.More.{more_untouched}
use Rattle.marks.proofs.OneMove.{others_lead_not, none_leads, one_leads}
use Rattle.marks.proofs.Places.{Bounds, bounds}

-- ---- marking it

module _ (width height h from to step : ℕ) where
  untouched : (xs : List ℕ) → ((bars : List Bar) (t v : ℕ) → t ≤ h → v < width * height → digits_of width height (Cross from to step ∷ bars) t v ≡ digits_of width height bars t v) → MarkedMore width height h (Cross from to step ∷ []) xs xs
  untouched xs f =
      more_untouched width height h (Cross from to step) xs (λ bars. record { stands = λ t v l i. stand_crossed bars t v from to step; crossings = f bars })

  pub cross_late : (xs : List ℕ) → h < step → MarkedMore width height h (Cross from to step ∷ []) xs xs
  cross_late xs o = untouched xs (λ bars t v l i. digits_not_crossed width height bars t v from to step (λ e f. omega arith))

  pub cross_outside : (xs : List ℕ) → width * height ≤ from → MarkedMore width height h (Cross from to step ∷ []) xs xs
  cross_outside xs o = untouched xs (λ bars t v l i. digits_not_crossed width height bars t v from to step (λ e f. omega arith))

  pub cross_far : (xs : List ℕ) → MoveTo width height from to None → MarkedMore width height h (Cross from to step ∷ []) xs xs
  cross_far xs f = untouched xs (λ bars t v l i. digits_far width height bars t v from to step (none_leads width height from to f))

  pub cross_marked : (xs : List ℕ) (r y : ℕ) → Layered width height h xs → step ≤ h → from < width * height → MoveTo width height from to (Some r) → y ≡ with_digit (get_or xs ((h + 1) * (width * height) + step * (width * height) + from) 0) r → MarkedMore width height h (Cross from to step ∷ []) xs (set xs ((h + 1) * (width * height) + step * (width * height) + from) y)
  cross_marked xs r y l k i f e =
      record {
        marked = λ bars m. record { stands = λ t v p q. stand bars m t v p q; crossings = λ t v p q. crossing bars m t v p q };
        kept = same_set ((h + 1) * (width * height) + (h + 1) * (width * height)) xs xs place y (let below = b.below in omega arith) (same_from ((h + 1) * (width * height) + (h + 1) * (width * height)) xs);
      }
    where
      found : Leading width height from to r
      found = one_leads width height from to r f

      place : ℕ
      place = (h + 1) * (width * height) + step * (width * height) + from

      b : Bounds (width * height) h step from (length xs)
      b = bounds width height h step from xs l k i

      stand : (bars : List Bar) → Marked width height bars h xs → (t v : ℕ) → t ≤ h → v < width * height → get_or (set xs ((h + 1) * (width * height) + step * (width * height) + from) y) (t * (width * height) + v) 0 ≡ stand_mark (Cross from to step ∷ bars) t v
      stand bars m t v p q =
          get_or-set_other xs ((h + 1) * (width * height) + step * (width * height) + from) (t * (width * height) + v) y 0 (λ w.
          let below = (bounds width height h t v xs l p q).below in
          omega arith)
          ∙ m.stands t v p q
          ∙ sym (stand_crossed bars t v from to step)

      crossing : (bars : List Bar) → Marked width height bars h xs → (t v : ℕ) → t ≤ h → v < width * height → get_or (set xs ((h + 1) * (width * height) + step * (width * height) + from) y) ((h + 1) * (width * height) + t * (width * height) + v) 0 ≡ digits_of width height (Cross from to step ∷ bars) t v
      crossing bars m t v p q =
          elim (ℕ_discrete (t * (width * height) + v) (step * (width * height) + from)) [
            | yes w ↦
                rw (same_part (width * height) t step v from q i w, same_place (width * height) t step v from q i w)
                (get_or-set_same xs ((h + 1) * (width * height) + step * (width * height) + from) y 0 b.second
                ∙ e
                ∙ ap (λ (x : ℕ). with_digit x r) (m.crossings step from k i)
                ∙ sym (digits_crossed width height bars from to step r found.listed found.lands (others_lead_not width height from to r found)))
            | no n ↦
                get_or-set_other xs ((h + 1) * (width * height) + step * (width * height) + from) ((h + 1) * (width * height) + t * (width * height) + v) y 0 (λ w. n (omega arith))
                ∙ m.crossings t v p q
                ∙ sym (digits_not_crossed width height bars t v from to step (λ a c. n (rw (a, c))))
          ]

-- ---- no bar forbids a crossing

pub none_crosses : (width height : ℕ) (bars : List Bar) (t v : ℕ) → any_of crosses bars ≡ false → digits_of width height bars t v ≡ 0
none_crosses width height [] t v e = digits_none width height t v
none_crosses width height (b ∷ bars) t v e =
    let (here, later) = or_fails (crosses b) (any_of crosses bars) (sym (any_cons crosses b bars) ∙ e) in
    digits_not_crossing width height b bars t v here ∙ none_crosses width height bars t v later
