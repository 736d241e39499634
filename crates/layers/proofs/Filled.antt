-- The two passes fill the first plane with the best ways on: after the first, up to the step `late` where it begins, each byte is what is
-- found of the best way from there; after the second, up to `last`, the moves of that way where it ends at `last`. By induction on the
-- steps left, since a layer is made of the layer one step later as the best way is of the best ways on. What is beyond `late`, and the
-- second plane, stays. Assumes nothing.
use Prim.Native.Nat.{ℕ, zero, suc, ◌+◌, ◌-◌, ◌*◌, max, ◌≤◌, ◌<◌}
use native.Mathlib.Nat.{zero-mul}
use native.Mathlib.Decide.{dec_le, ℕ_discrete}
use native.Mathlib.Numerals.{add-one}
use native.Mathlib.Omega.{arith}
use mathlib.Core.Path.{◌≡◌, refl, sym, ap, ◌∙◌}
use mathlib.Core.Bool.{Bool, true, false, not, ◌&&◌}
use mathlib.Core.List.{List, map}
use mathlib.Core.Option.{Option}
use lib.Dec.{leb, eqb}
use lib.ListN.{get_or}
use borrow.Author.Tests.{leb-true, le-leb, lt-leb, eq-eqb, ne_eqb}
use Rattle.lists.specs.Lists.{any_of}
use Rattle.lists.proofs.Parts.{part_next}
use Rattle.lent.specs.Lent.{SameFrom}
use Rattle.hall.specs.Hall.{Hall, size, is_open}
use Rattle.routes.specs.Bars.{bars_cell, may_stand, may_turn}
use Rattle.routes.specs.Best.{best_way}
use Rattle.routes.specs.declared.Bar.{Bar}
use Rattle.marks.specs.Marks.{stand_mark, digits_of, Marked}
use Rattle.shuts.specs.Shuts.{turns_by, shut_if}
use Rattle.layers.specs.Layers.{way_from, end_of, moves_to, can_go_on, end_by, found_by, byte_at, FilledBy}
use Rattle.layers.specs.Fill.{mark_for, arrives, elsewhere, arrival, rested, least_of, paid_to, least_onward, Passed}
use Rattle.layers.specs.Post.{RestsFrom}
use Rattle.layers.proofs.StepLaws.{arrival_here, arrival_away, rested_late}
use Rattle.layers.proofs.Levels.{moves_other, end_step, moves_last, moves_step}
use Rattle.layers.proofs.Turns.{digit_turns}
use Rattle.layers.proofs.LeastLaws.{least_on_same, least_on_most}
use Rattle.layers.proofs.Cut.{found_made, found_mark, closed_end, late_arrives}

-- ---- a byte of filled layers

module _ (hall : Hall) (bars : List Bar) (goal h late last t v : ℕ) where
  byte_moves : last ≤ h → t ≤ last → byte_at hall bars goal h late last t v ≡ moves_to goal last t (way_from hall bars goal h t v)
  unfolding byte_at
  byte_moves l k = rw (byte_at, le-leb last h l, le-leb t last k)

  byte_rest : (last ≤ h → t ≤ last → ⊥) → byte_at hall bars goal h late last t v ≡ elim (leb t late) [ true ↦ found_by hall bars goal h late t v | false ↦ stand_mark bars t v ]
  unfolding byte_at
  byte_rest k = go (leb last h) (leb t last) (leb-true last h) (leb-true t last)
    where
      rest : ℕ
      rest = elim (leb t late) [ true ↦ found_by hall bars goal h late t v | false ↦ stand_mark bars t v ]

      go : (a b : Bool) → (a ≡ true → last ≤ h) → (b ≡ true → t ≤ last) → ◌≡◌ {A = ℕ} (elim (a && b) [ true ↦ moves_to goal last t (way_from hall bars goal h t v) | false ↦ rest ]) rest
      go true true i j = absurd (k (i refl) (j refl))
      go true false i j = refl
      go false b i j = refl

  byte_end : (last ≤ h → t ≤ last → ⊥) → t ≤ late → byte_at hall bars goal h late last t v ≡ found_by hall bars goal h late t v
  byte_end k l = byte_rest k ∙ rw (le-leb t late l)

  byte_mark : (last ≤ h → t ≤ last → ⊥) → late < t → byte_at hall bars goal h late last t v ≡ stand_mark bars t v
  byte_mark k l = byte_rest k ∙ rw (lt-leb t late l)

-- where no route is found, it is all one by what number that is told
pub filled_none : (hall : Hall) (bars : List Bar) (goal h late a b : ℕ) (layers : List ℕ) → h < a → h < b → FilledBy hall bars goal h late a layers → FilledBy hall bars goal h late b layers
filled_none hall bars goal h late a b layers k l f =
    record {
      levels = λ t v i j. f.levels t v i j ∙ byte_rest hall bars goal h late a t v (λ p q. absurd (omega arith)) ∙ sym (byte_rest hall bars goal h late b t v (λ p q. absurd (omega arith)));
      crossings = f.crossings;
    }

-- ---- the layers of the passes

mark_most : (last byte : ℕ) → mark_for true last byte ≤ 255
unfolding mark_for
mark_most last byte = go (eqb byte last)
  where
    go : (b : Bool) → elim b [ true ↦ 0 | false ↦ 255 ] ≤ 255
    go true = omega arith
    go false = omega arith

module _ (hall : Hall) (bars : List Bar) (goal : ℕ) where
  abbrev way : ℕ → ℕ → ℕ → Option (List ℕ)
  way n t v = best_way (may_stand hall bars) (may_turn hall bars) goal n t v

  -- the least of the cells whose digits are not set is that of the cells a carrier may turn to
  least_turns : (moves : Bool) (next : ℕ → ℕ) (t v : ℕ) → least_onward hall moves next v (digits_of hall.width hall.height bars t v) ≡ elim (is_open hall v) [ true ↦ least_of (map (λ w. paid_to moves v w (next w)) (may_turn hall bars t v)) | false ↦ 255 ]
  unfolding least_onward
  least_turns moves next t v = ap {B = ℕ} (λ ws. elim (is_open hall v) [ true ↦ least_of (map (λ w. paid_to moves v w (next w)) ws) | false ↦ 255 ]) (digit_turns hall bars t v)

  -- ---- the first pass, a layer of it

  end_made : (n t v : ℕ) (next : ℕ → ℕ) → t + suc n ≤ 63 → ((w : ℕ) → w < size hall → next w ≡ end_of goal (suc t) (way n (suc t) w)) → rested false goal t v (max (stand_mark bars t v) (least_onward hall false next v (digits_of hall.width hall.height bars t v))) ≡ end_of goal t (way (suc n) t v)
  unfolding stand_mark may_stand
  end_made n t v next h e =
      let later : ℕ → ℕ = λ w. end_of goal (suc t) (way n (suc t) w) in
      let least = least_on_same hall false next later v (digits_of hall.width hall.height bars t v) e ∙ least_turns false later t v in
      ap (λ x. rested false goal t v (max (stand_mark bars t v) x)) least
      ∙ stood (least_of (map (λ w. paid_to false v w (later w)) (may_turn hall bars t v))) (is_open hall v) (any_of (bars_cell t v) bars) (rw (← least) (least_on_most hall false next v (digits_of hall.width hall.height bars t v)))
      ∙ sym (end_step (may_stand hall bars) (may_turn hall bars) goal n t v h)
    where
      stood : (least : ℕ) (clear barred : Bool) → elim clear [ true ↦ least | false ↦ 255 ] ≤ 255 → rested false goal t v (max (elim barred [ true ↦ 255 | false ↦ 0 ]) (elim clear [ true ↦ least | false ↦ 255 ])) ≡ elim (clear && not barred) [ true ↦ rested false goal t v least | false ↦ 255 ]
      stood least true true l = let m : max 255 least ≡ 255 = omega arith in rw m (rested_late false goal t v 255 (λ e. absurd (omega arith)))
      stood least true false l = let m : max 0 least ≡ least = omega arith in rw m
      stood least false true l = rested_late false goal t v 255 (λ e. absurd (omega arith))
      stood least false false l = rested_late false goal t v 255 (λ e. absurd (omega arith))

  -- ---- the second pass, a layer of it

  -- the byte of a closed cell counts as a mark
  closed_mark_lem : (n t v last : ℕ) → last ≤ 63 → is_open hall v ≡ false → mark_for true last (end_of goal t (way n t v)) ≡ 255
  unfolding mark_for
  closed_mark_lem n t v last l e = rw (mark_for, closed_end hall bars goal n t v e, ne_eqb 255 last (λ q. absurd (omega arith)))

  -- at `last`
  moves_arrive : (n last v : ℕ) → last ≤ 63 → arrival goal (arrives true last) (elsewhere true) (λ w. shut_if (not (is_open hall w))) v (mark_for true last (end_of goal last (way n last v))) ≡ moves_to goal last last (way n last v)
  unfolding arrives elsewhere shut_if
  moves_arrive n last v l =
      elim (ℕ_discrete v goal) [
        | yes k ↦
            rw k
            (arrival_here goal 0 255 (λ w. shut_if (not (is_open hall w))) (mark_for true last (end_of goal last (way n last goal)))
            ∙ stood (is_open hall goal) refl
            ∙ sym (moves_last (may_stand hall bars) (may_turn hall bars) goal n last goal l ∙ rw (eq-eqb goal goal refl)))
        | no k ↦
            arrival_away goal 0 255 (λ w. shut_if (not (is_open hall w))) v (mark_for true last (end_of goal last (way n last v))) k
            ∙ none_more (mark_for true last (end_of goal last (way n last v))) (is_open hall v) (mark_most last (end_of goal last (way n last v)))
            ∙ sym (moves_last (may_stand hall bars) (may_turn hall bars) goal n last v l ∙ rw (ne_eqb v goal k))
      ]
    where
      stood : (clear : Bool) → is_open hall goal ≡ clear → max 0 (max (mark_for true last (end_of goal last (way n last goal))) (shut_if (not clear))) ≡ mark_for true last (end_of goal last (way n last goal))
      stood true e = omega arith
      stood false e = omega (arith, closed_mark_lem n last goal last l e)

      none_more : (mark : ℕ) (clear : Bool) → mark ≤ 255 → max 255 (max mark (shut_if (not clear))) ≡ 255
      none_more mark true h = omega arith
      none_more mark false h = omega arith

  -- before it
  moves_made : (n t v last : ℕ) (next : ℕ → ℕ) → t < last → t + suc n ≤ 63 → last ≤ 63 → ((w : ℕ) → w < size hall → next w ≡ moves_to goal last (suc t) (way n (suc t) w)) → rested true goal t v (max (mark_for true last (end_of goal t (way (suc n) t v))) (least_onward hall true next v (digits_of hall.width hall.height bars t v))) ≡ moves_to goal last t (way (suc n) t v)
  unfolding rested
  moves_made n t v last next l h k e =
      let later : ℕ → ℕ = λ w. moves_to goal last (suc t) (way n (suc t) w) in
      ap (max (mark_for true last (end_of goal t (way (suc n) t v)))) (least_on_same hall true next later v (digits_of hall.width hall.height bars t v) e ∙ least_turns true later t v)
      ∙ stood (least_of (map (λ w. paid_to true v w (later w)) (may_turn hall bars t v))) (is_open hall v) refl (moves_step (may_stand hall bars) (may_turn hall bars) goal n t v last l h k)
    where
      stood : (least : ℕ) (clear : Bool) → is_open hall v ≡ clear → moves_to goal last t (way (suc n) t v) ≡ max (mark_for true last (end_of goal t (way (suc n) t v))) least → max (mark_for true last (end_of goal t (way (suc n) t v))) (elim clear [ true ↦ least | false ↦ 255 ]) ≡ moves_to goal last t (way (suc n) t v)
      stood least true e q = sym q
      stood least false e q =
          let m : moves_to goal last t (way (suc n) t v) ≡ 255 = moves_other goal last t (way (suc n) t v) (λ z. absurd (omega (arith, closed_end hall bars goal (suc n) t v e))) in
          omega (arith, closed_mark_lem (suc n) t v last k e)

-- ---- all layers

-- a pass leaves the second plane as it was
pub second_kept : (n last h : ℕ) (before after : List ℕ) → last ≤ h → SameFrom ((last + 1) * n) before after → (t v : ℕ) → get_or after ((h + 1) * n + t * n + v) 0 ≡ get_or before ((h + 1) * n + t * n + v) 0
second_kept n last h before after early kept t v = kept.rest ((h + 1) * n + t * n + v) (omega (arith, part_next last (h + 1) n (omega arith)))

module _ (hall : Hall) (bars : List Bar) (goal h late : ℕ) (marks ends : List ℕ) (short : h ≤ 63) (within : late ≤ h) (inside : goal < size hall) (rests : RestsFrom bars h late) (marked : Marked hall.width hall.height bars h marks) (passed : Passed hall false goal ((h + 1) * size hall) late marks ends) (kept : SameFrom ((late + 1) * size hall) marks ends) where
  -- a carrier goes on where it may stand and turn to where it goes on
  goes_step : (m t v : ℕ) → (not (any_of (bars_cell t v) bars) && (is_open hall v && any_of (can_go_on (may_stand hall bars) (may_turn hall bars) m (suc t)) (turns_by hall.width hall.height v (digits_of hall.width hall.height bars t v)))) ≡ can_go_on (may_stand hall bars) (may_turn hall bars) (suc m) t v
  unfolding can_go_on may_stand
  goes_step m t v =
      turned (not (any_of (bars_cell t v) bars)) (is_open hall v) (any_of (can_go_on (may_stand hall bars) (may_turn hall bars) m (suc t)) (turns_by hall.width hall.height v (digits_of hall.width hall.height bars t v)))
      ∙ ap (λ ws. (is_open hall v && not (any_of (bars_cell t v) bars)) && any_of (can_go_on (may_stand hall bars) (may_turn hall bars) m (suc t)) ws) (digit_turns hall bars t v)
    where
      turned : (a b c : Bool) → (a && (b && c)) ≡ ((b && a) && c)
      turned true true c = refl
      turned true false c = refl
      turned false true c = refl
      turned false false c = refl

  end_left : (m n t v : ℕ) → t + m ≡ late → t + n ≡ h → v < size hall → get_or ends (t * size hall + v) 0 ≡ end_by late (end_of goal t (way hall bars goal n t v)) (can_go_on (may_stand hall bars) (may_turn hall bars) m t v)
  unfolding mark_for
  end_left zero n t v e k l =
      let q : t ≡ late = omega arith in
      rw q
      (passed.arrived v l
      ∙ ap (λ x. arrival goal (arrives false late) (elsewhere false) (λ w. shut_if (not (is_open hall w))) v (mark_for false late x)) (marked.stands late v within l)
      ∙ late_arrives hall bars goal h short inside n late v (omega arith) rests)
  end_left (suc m) zero t v e k l = absurd (omega arith)
  end_left (suc m) (suc n) t v e k l =
      let next : ℕ → ℕ = λ w. end_of goal (suc t) (way hall bars goal n (suc t) w) in
      let digits : ℕ = digits_of hall.width hall.height bars t v in
      rw (passed.made t v (omega arith) l, marked.stands t v (omega arith) l, marked.crossings t v (omega arith) l)
      (ap (λ x. rested false goal t v (max (stand_mark bars t v) x))
      (least_on_same hall false (λ w. get_or ends ((t + 1) * size hall + w) 0) (λ w. end_by late (next w) (can_go_on (may_stand hall bars) (may_turn hall bars) m (suc t) w)) v digits (λ w i. end_left m n (t + 1) w (omega arith) (omega arith) i ∙ ap (λ s. end_by late (end_of goal s (way hall bars goal n s w)) (can_go_on (may_stand hall bars) (may_turn hall bars) m s w)) (add-one t)))
      ∙ found_made late (omega arith) hall bars goal t v digits next (can_go_on (may_stand hall bars) (may_turn hall bars) m (suc t)) (omega arith)
      ∙ ap (λ x. end_by late x (not (any_of (bars_cell t v) bars) && (is_open hall v && any_of (can_go_on (may_stand hall bars) (may_turn hall bars) m (suc t)) (turns_by hall.width hall.height v digits)))) (end_made hall bars goal n t v next (omega arith) (λ w i. refl))
      ∙ ap (end_by late (end_of goal t (way hall bars goal (suc n) t v))) (goes_step m t v))

  ends_passed : (t v : ℕ) → t ≤ late → v < size hall → get_or ends (t * size hall + v) 0 ≡ found_by hall bars goal h late t v
  unfolding found_by way_from
  ends_passed t v k l = end_left (late - t) (h - t) t v (omega arith) (omega arith) l

  marks_left : (t v : ℕ) → late < t → t ≤ h → v < size hall → get_or ends (t * size hall + v) 0 ≡ stand_mark bars t v
  marks_left t v k i l = kept.rest (t * size hall + v) (omega (arith, part_next late t (size hall) k)) ∙ marked.stands t v i l

  -- beyond the moves, ends and marks
  rest_left : (last t v : ℕ) → (last ≤ h → t ≤ last → ⊥) → t ≤ h → v < size hall → get_or ends (t * size hall + v) 0 ≡ byte_at hall bars goal h late last t v
  rest_left last t v k i l = elim (dec_le t late) [ yes j ↦ ends_passed t v j l ∙ sym (byte_end hall bars goal h late last t v k j) | no j ↦ marks_left t v (omega (arith, j)) i l ∙ sym (byte_mark hall bars goal h late last t v k (omega (arith, j))) ]

  -- the second plane is as the marks have it
  digits_passed : (t v : ℕ) → t ≤ h → v < size hall → get_or ends ((h + 1) * size hall + t * size hall + v) 0 ≡ digits_of hall.width hall.height bars t v
  digits_passed t v k l = second_kept (size hall) late h marks ends within kept t v ∙ marked.crossings t v k l

  -- the first byte that is asked: what is found of the route
  pub start_found : (start : ℕ) → start < size hall → get_or ends start 0 ≡ found_by hall bars goal h late 0 start
  start_found start l = let q : start ≡ 0 * size hall + start = omega (arith, zero-mul (size hall)) in ap (λ x. get_or ends x 0) q ∙ ends_passed 0 start (omega arith) l

  -- where no route is found, the first pass is all
  pub ends_filled : (last : ℕ) → h < last → FilledBy hall bars goal h late last ends
  ends_filled last k = record { levels = λ t v i l. rest_left last t v (λ j _. absurd (omega arith)) i l; crossings = digits_passed }

  module _ (last : ℕ) (after : List ℕ) (early : last ≤ late) (again : Passed hall true goal ((h + 1) * size hall) last ends after) (still : SameFrom ((last + 1) * size hall) ends after) where
    -- which ways end at `last`
    marks_last : (m n t v : ℕ) → t + m ≡ late → t + n ≡ h → v < size hall → mark_for true last (get_or ends (t * size hall + v) 0) ≡ mark_for true last (end_of goal t (way hall bars goal n t v))
    marks_last m n t v e k l = ap (mark_for true last) (end_left m n t v e k l) ∙ found_mark late last (end_of goal t (way hall bars goal n t v)) (can_go_on (may_stand hall bars) (may_turn hall bars) m t v) (omega arith) early

    moves_left : (m n t v : ℕ) → t + m ≡ last → t + n ≡ h → v < size hall → get_or after (t * size hall + v) 0 ≡ moves_to goal last t (way hall bars goal n t v)
    moves_left zero n t v e k l =
        let q : t ≡ last = omega arith in
        rw (q, again.arrived v l, marks_last (late - last) n last v (omega arith) (omega arith) l) (moves_arrive hall bars goal n last v (omega arith))
    moves_left (suc m) zero t v e k l = absurd (omega arith)
    moves_left (suc m) (suc n) t v e k l =
        rw (again.made t v (omega arith) l, marks_last (late - t) (suc n) t v (omega arith) k l, digits_passed t v (omega arith) l)
        (moves_made hall bars goal n t v last (λ w. get_or after ((t + 1) * size hall + w) 0) (omega arith) (omega arith) (omega arith) (λ w i. moves_left m n (t + 1) w (omega arith) (omega arith) i ∙ ap (λ s. moves_to goal last s (way hall bars goal n s w)) (add-one t)))

    moves_passed : (t v : ℕ) → t ≤ last → v < size hall → get_or after (t * size hall + v) 0 ≡ moves_to goal last t (way_from hall bars goal h t v)
    unfolding way_from
    moves_passed t v k l = moves_left (last - t) (h - t) t v (omega arith) (omega arith) l

    -- where the route ends at `last`, moves up to there
    pub moves_filled : FilledBy hall bars goal h late last after
    moves_filled =
        record {
          levels = λ t v i l. go t v i l (dec_le t last);
          crossings = λ t v i l. second_kept (size hall) last h ends after (omega arith) still t v ∙ digits_passed t v i l;
        }
      where
        go : (t v : ℕ) → t ≤ h → v < size hall → Dec (t ≤ last) → get_or after (t * size hall + v) 0 ≡ byte_at hall bars goal h late last t v
        go t v i l (yes k) = moves_passed t v k l ∙ sym (byte_moves hall bars goal h late last t v (omega arith) k)
        go t v i l (no k) = still.rest (t * size hall + v) (omega (arith, part_next last t (size hall) (omega (arith, k)))) ∙ rest_left last t v (λ _. k) i l
