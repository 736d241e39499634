-- Marked layers, filled by the two passes from some step, hold what `seek_by` promises: the end at the start tells the best route's cost, if
-- it ends by then, and nothing beyond the planes changes. From one step or the other that is what `seek_route` promises. Where no bar
-- forbids a crossing no digit is set, before the first pass and after it. The best route is that of the definition, and no bar changes
-- nothing. Assumes nothing.
use Prim.Native.Nat.{ℕ, ◌+◌, ◌-◌, ◌*◌, ◌≤◌, ◌<◌}
use native.Mathlib.Nat.{zero-add}
use native.Mathlib.Decide.{dec_le, ℕ_discrete}
use native.Mathlib.Omega.{arith}
use mathlib.Core.Path.{◌≡◌, refl, sym, ap, subst, ◌∙◌}
use mathlib.Core.Logic.{◌⊎◌, inl, inr}
use mathlib.Core.Bool.{Bool, true, false}
use mathlib.Core.List.{List, ◌∷◌}
use mathlib.Core.Option.{Option, none, some}
use lib.ListN.{get_or}
use borrow.Author.Tests.{le-leb, lt-leb, eqb-true, eq-eqb, ne_eqb}
use Rattle.lists.specs.Lists.{any_of}
use Rattle.lists.proofs.Parts.{part_next}
use Rattle.lists.proofs.Tests.{not_both}
use Rattle.lent.specs.Lent.{SameFrom}
use Rattle.lent.proofs.Keeping.{same_then}
use Rattle.hall.specs.Hall.{Hall, size}
use Rattle.job.specs.Job.{Job}
use Rattle.routes.specs.Route.{cost}
use Rattle.routes.specs.Bars.{bars_cell, bars_way, may_stand, may_turn}
use Rattle.routes.specs.Best.{best_way, best_route}
use Rattle.routes.specs.declared.Bar.{Bar}
use Rattle.routes.specs.declared.Bar.TheVariants.{Free}
use Rattle.marks.specs.Marks.{stand_mark, bars_move, digits_of, Marked, crosses, quiet_from, bearing_of}
use Rattle.marks.specs.declared.Bearing.{Bearing}
use Rattle.marks.proofs.Crossings.{none_crosses}
use Rattle.marks.proofs.Quiet.{quiet_free}
use Rattle.layers.specs.Layers.{way_from, route_from, sought_of, end_of, soon_by, can_go_on, end_by, found_by, filled_from, late_for, byte_at, FilledBy, Filled}
use Rattle.layers.specs.Fill.{Passed}
use Rattle.layers.specs.Post.{NoCrossing, RestsFrom, end_told, SoughtBy, is_answer, SoughtRoute}
use Rattle.std.specs.Prelude.{Some, None}
use Rattle.layers.specs.Sought.{Sought}
use Rattle.layers.proofs.Levels.{Holds, Leads, leads_cheap, way_leads, end_most}
use Rattle.layers.proofs.Soon.{soon_within, not_later, later_by}
use Rattle.layers.proofs.Cut.{later, later_least, in_time, too_late, after_later, goes_on}
use Rattle.layers.proofs.Filled.{second_kept, filled_none, start_found, ends_filled, moves_filled}

pub route_is_best : (job : Job) (i : ℕ) (bars : List Bar) → route_from job.hall bars (job.start_of i) (job.goal_of i) job.horizon ≡ best_route job i bars
unfolding best_route
route_is_best job i bars = refl

-- ---- no bar

pub free_bar : (hall : Hall) (bars : List Bar) (start goal h : ℕ) → route_from hall (Free ∷ bars) start goal h ≡ route_from hall bars start goal h
unfolding may_stand may_turn any_of bars_cell bars_way
free_bar hall bars start goal h = refl

pub free_filled : (hall : Hall) (bars : List Bar) (start goal h : ℕ) (layers : List ℕ) → Filled hall (Free ∷ bars) start goal h layers → Filled hall bars start goal h layers
unfolding late_for found_by byte_at way_from stand_mark may_stand may_turn digits_of bars_move any_of bars_cell bars_way
free_filled hall bars start goal h layers f =
    subst (λ until. FilledBy hall bars goal h (late (soon_by hall.width start goal h until)) last layers) (quiet_free h bars) (free (late (soon_by hall.width start goal h (quiet_from h (Free ∷ bars)))) f)
  where
    last : ℕ
    last = end_of goal 0 (route_from hall bars start goal h)

    late : ℕ → ℕ
    late soon = filled_from soon h (found_by hall bars goal h soon 0 start)

    free : (late : ℕ) → FilledBy hall (Free ∷ bars) goal h late last layers → FilledBy hall bars goal h late last layers
    free late f = record { levels = λ t v l i. f.levels t v l i; crossings = λ t v l i. f.crossings t v l i }

-- ---- no crossing

pub bearing_crosses : (h : ℕ) (bars : List Bar) (bearing : Bearing) → bearing ≡ bearing_of h bars → bearing.crossing ≡ any_of crosses bars
unfolding bearing_of
bearing_crosses h bars bearing e = ap (λ (b : Bearing). b.crossing) e

pub no_crossing : (width height : ℕ) (bars : List Bar) (h : ℕ) (crossing : Bool) (marks : List ℕ) → crossing ≡ any_of crosses bars → Marked width height bars h marks → NoCrossing crossing (width * height) h marks
unfolding NoCrossing
no_crossing width height bars h crossing marks e marked k t v l i = marked.crossings t v l i ∙ none_crosses width height bars t v (sym e ∙ k)

-- a pass sets none
pub crossing_kept : (n : ℕ) (crossing : Bool) (last h : ℕ) (before after : List ℕ) → last ≤ h → SameFrom ((last + 1) * n) before after → NoCrossing crossing n h before → NoCrossing crossing n h after
unfolding NoCrossing
crossing_kept n crossing last h before after early same clear k t v l i = second_kept n last h before after early same t v ∙ clear k t v l i

-- ---- what an end tells

pub told_none : (end : ℕ) → 254 ≤ end → end_told end ≡ None
unfolding end_told
told_none end l = rw (end_told, le-leb 254 end l)

pub told_cost : (end : ℕ) → end < 254 → end_told end ≡ Some end
unfolding end_told
told_cost end l = rw (end_told, lt-leb 254 end l)

-- the best route's end tells of it
end_sought : (goal h v : ℕ) (o : Option (List ℕ)) → h ≤ 63 → Holds (Leads goal h v) o → end_told (end_of goal 0 o) ≡ sought_of goal o
unfolding Holds end_of sought_of
end_sought goal h v none l k = told_none 255 (omega arith)
end_sought goal h v (some r) l k = ap end_told (zero-add (cost goal r)) ∙ told_cost (cost goal r) (omega (arith, leads_cheap goal h v r k))

-- ---- both passes

-- nothing beyond the planes changes
pass_kept : (n last h : ℕ) (before after : List ℕ) → last ≤ h → SameFrom ((last + 1) * n) before after → SameFrom ((h + 1) * n + (h + 1) * n) before after
pass_kept n last h before after early kept = record { long = kept.long; rest = λ x l. kept.rest x (omega (arith, part_next last (h + 1) n (omega arith))) }

module _ (hall : Hall) (bars : List Bar) (start goal h late : ℕ) (marks ends : List ℕ) (short : h ≤ 63) (within : late ≤ h) (begins : start < size hall) (inside : goal < size hall) (marked : Marked hall.width hall.height bars h marks) (rests : RestsFrom bars h late) (passed : Passed hall false goal ((h + 1) * size hall) late marks ends) (kept : SameFrom ((late + 1) * size hall) marks ends) (end : ℕ) (read : end ≡ get_or ends start 0) where
  tells : end ≡ found_by hall bars goal h late 0 start
  tells = read ∙ start_found hall bars goal h late marks ends short within inside rests marked passed kept start begins

  after_late : late < end → 254 ≤ end
  unfolding found_by
  after_late l =
      omega (arith, tells, after_later late (end_of goal 0 (way_from hall bars goal h 0 start)) (can_go_on (may_stand hall bars) (may_turn hall bars) (late - 0) 0 start) (rw (← tells) l))

  pub sought_none : late < end → SoughtBy hall bars start goal h late marks ends end
  sought_none l =
      record {
        found = tells;
        filled = ends_filled hall bars goal h late marks ends short within inside rests marked passed kept end (omega (arith, after_late l));
        kept = pass_kept (size hall) late h marks ends within kept;
      }

  pub sought_cost : (after : List ℕ) → end ≤ late → Passed hall true goal ((h + 1) * size hall) end ends after → SameFrom ((end + 1) * size hall) ends after → SoughtBy hall bars start goal h late marks after end
  sought_cost after early again still =
      record {
        found = tells;
        filled = moves_filled hall bars goal h late marks ends short within inside rests marked passed kept end after early again still;
        kept =
            same_then ((h + 1) * size hall + (h + 1) * size hall) marks ends after (pass_kept (size hall) late h marks ends within kept)
            (pass_kept (size hall) end h ends after (omega arith) still);
      }

-- ---- seeking

-- from other layers that are marked so
pub sought_after : (hall : Hall) (bars : List Bar) (start goal h late : ℕ) (before marks after : List ℕ) (end : ℕ) → SameFrom ((h + 1) * size hall + (h + 1) * size hall) before marks → SoughtBy hall bars start goal h late marks after end → SoughtBy hall bars start goal h late before after end
sought_after hall bars start goal h late before marks after end same by =
    record { found = by.found; filled = by.filled; kept = same_then ((h + 1) * size hall + (h + 1) * size hall) before marks after same by.kept }

module _ (hall : Hall) (bars : List Bar) (start goal h : ℕ) (short : h ≤ 63) (inside : goal < size hall) where
  abbrev last : ℕ
  last = end_of goal 0 (route_from hall bars start goal h)

  abbrev on : ℕ → Bool
  on late = can_go_on (may_stand hall bars) (may_turn hall bars) late 0 start

  -- a route ends by the horizon, or there is none
  last_none : h < last → last ≡ 255
  last_none l = go (end_most (may_stand hall bars) (may_turn hall bars) goal h 0 start)
    where
      go : (last ≤ 0 + h) ⊎ (last ≡ 255) → last ≡ 255
      go (inl k) = absurd (omega arith)
      go (inr e) = e

  found_start : (late : ℕ) → found_by hall bars goal h late 0 start ≡ end_by late last (on late)
  unfolding found_by way_from
  found_start late =
      let whole : h - 0 ≡ h = omega arith in
      let all : late - 0 ≡ late = omega arith in
      ap (λ x. end_by late (end_of goal 0 (best_way (may_stand hall bars) (may_turn hall bars) goal x 0 start)) (on (late - 0))) whole ∙ ap (λ x. end_by late last (on x)) all

  -- found for what it is, from a step from which the layers are filled
  answered : (late end : ℕ) (before after : List ℕ) → late_for hall bars start goal h ≡ late → (end ≡ last) ⊎ ((254 ≤ end) × (h < last)) → SoughtBy hall bars start goal h late before after end → SoughtRoute hall bars start goal h before after (end_told end)
  answered late end before after e k s =
      record { told = told k ∙ end_sought goal h start (route_from hall bars start goal h) short (way_leads (may_stand hall bars) (may_turn hall bars) goal h 0 start); filled = rw e (filled k); kept = s.kept }
    where
      told : (end ≡ last) ⊎ ((254 ≤ end) × (h < last)) → end_told end ≡ end_told last
      told (inl q) = ap end_told q
      told (inr q) = told_none end q.0 ∙ sym (told_none last (omega (arith, last_none q.1)))

      filled : (end ≡ last) ⊎ ((254 ≤ end) × (h < last)) → FilledBy hall bars goal h late last after
      filled (inl q) = subst (λ x. FilledBy hall bars goal h late x after) q s.filled
      filled (inr q) = filled_none hall bars goal h late end last after (omega (arith, q.0)) q.1 s.filled

  -- what is found from the horizon
  whole : (end : ℕ) → end ≡ found_by hall bars goal h h 0 start → (end ≡ last) ⊎ ((254 ≤ end) × (h < last))
  whole end e = elim (dec_le last h) [ yes l ↦ inl (e ∙ found_start h ∙ in_time h last (on h) l) | no l ↦ inr (omega (arith, e ∙ found_start h ∙ too_late h last (on h) (omega (arith, l)), later_least (on h)), omega (arith, l)) ]

  module _ (soon : ℕ) (by : soon ≡ soon_by hall.width start goal h (quiet_from h bars)) where
    soon_early : soon ≤ h
    soon_early = rw by (soon_within hall.width start goal h (quiet_from h bars))

    from_soon : (end : ℕ) → end ≡ found_by hall bars goal h soon 0 start → (end ≡ 254 → ⊥) → late_for hall bars start goal h ≡ soon
    unfolding late_for filled_from
    from_soon end e k = rw (← by, ← e, filled_from, ne_eqb end 254 k) (sym by)

    from_horizon : (end : ℕ) → end ≡ found_by hall bars goal h soon 0 start → end ≡ 254 → late_for hall bars start goal h ≡ h
    unfolding late_for filled_from
    from_horizon end e k = rw (← by, ← e, filled_from, eq-eqb end 254 k)

    -- what is found by `soon`, where the route does not end later
    early : (end : ℕ) → end ≡ found_by hall bars goal h soon 0 start → (end ≡ 254 → ⊥) → (end ≡ last) ⊎ ((254 ≤ end) × (h < last))
    early end e k = elim (dec_le last soon) [ yes l ↦ inl (e ∙ found_start soon ∙ in_time soon last (on soon) l) | no l ↦ stuck (on soon) refl (e ∙ found_start soon ∙ too_late soon last (on soon) (omega (arith, l))) ]
      where
        stuck : (b : Bool) → on soon ≡ b → end ≡ later b → (end ≡ last) ⊎ ((254 ≤ end) × (h < last))
        stuck true q i = absurd (k i)
        stuck false q i = inr (omega arith, no_route)
          where
            no_route : h < last
            no_route = elim (dec_le last h) [ yes l ↦ absurd (not_both (goes_on hall bars goal h short inside soon h 0 start soon_early (omega arith) (omega arith)) q) | no l ↦ omega (arith, l) ]

    -- ---- the answer

    pub sought_soon : (before after : List ℕ) (end : ℕ) (answer : Sought) → SoughtBy hall bars start goal h soon before after end → is_answer end soon h ≡ true → answer ≡ end_told end → SoughtRoute hall bars start goal h before after answer
    sought_soon before after end answer s a e = rw e (elim (ℕ_discrete end 254) [ yes k ↦ last_try k | no k ↦ answered soon end before after (from_soon end s.found k) (early end s.found k) s ])
      where
        last_try : end ≡ 254 → SoughtRoute hall bars start goal h before after (end_told end)
        last_try k =
            let same : soon ≡ h = eqb-true soon h (later_by end soon h k ∙ a) in
            answered soon end before after (from_horizon end s.found k ∙ sym same) (whole end (s.found ∙ ap (λ x. found_by hall bars goal h x 0 start) same)) s

    pub sought_late : (marks middle before after : List ℕ) (end again : ℕ) (answer : Sought) → SoughtBy hall bars start goal h soon marks middle end → is_answer end soon h ≡ false → SoughtBy hall bars start goal h h before after again → answer ≡ end_told again → SoughtRoute hall bars start goal h before after answer
    sought_late marks middle before after end again answer f a s e = rw e (elim (ℕ_discrete end 254) [ yes k ↦ answered h again before after (from_horizon end f.found k) (whole again s.found) s | no k ↦ absurd (not_both (not_later end soon h k) a) ])
