-- The route that is read off filled layers is the best one. Where the best way from here ends when the best route does, the byte is the moves
-- of that way. If there are none it stays on the goal; otherwise it goes on by the first cell that leaves as many, and the way from there ends
-- at the same step. Assumes nothing.
use Prim.Native.Nat.{ℕ, zero, suc, ◌+◌, ◌-◌, ◌*◌, ◌≤◌, ◌<◌}
use native.Mathlib.Omega.{arith}
use native.Mathlib.Decide.{dec_lt}
use native.Mathlib.Numerals.{add-one}
use mathlib.Core.Path.{◌≡◌, refl, sym, ap, ◌∙◌}
use mathlib.Core.Bool.{Bool, true, false}
use mathlib.Core.List.{List, [], ◌∷◌}
use mathlib.Core.Option.{Option, some}
use lib.Dec.{eqb}
use lib.ListN.{length, get_or, replicate, get_or-replicate}
use borrow.Author.Tests.{le-leb, eqb-true, eqb-false}
use Rattle.lists.specs.Lists.{keep}
use Rattle.lists.proofs.Ranges.{keep_same}
use Rattle.hall.specs.Hall.{Hall, size}
use Rattle.routes.specs.Bars.{may_stand, may_turn}
use Rattle.routes.specs.Best.{moves, best_way}
use Rattle.routes.specs.declared.Bar.{Bar}
use Rattle.marks.specs.Marks.{digits_of}
use Rattle.shuts.specs.Shuts.{turns_by}
use Rattle.layers.specs.Fill.{paid_to}
use Rattle.layers.specs.Layers.{way_from, route_from, end_of, moves_of, moves_to, byte_at, Filled}
use Rattle.layers.proofs.Levels.{Leads, leads_cheap, holds_some, some_left, moves_here, way_leads}
use Rattle.layers.proofs.OnwardLaws.{way_long, way_begins, none_left, turned_to, best_first}
use Rattle.layers.proofs.Turns.{digit_turns, turns_inside}
use Rattle.writer.specs.Write.{stepped_to, read_way, read_route}
use Rattle.writer.proofs.TurnLaws.{stepped_turns, stepped_inside}

-- a list of one cell
one_cell : (v : ℕ) (r : List ℕ) → length r ≡ 1 → get_or r 0 0 ≡ v → v ∷ [] ≡ r
one_cell v [] l e = absurd (omega arith)
one_cell v (w ∷ []) l e = ap (λ x. x ∷ []) (sym e)
one_cell v (w ∷ x ∷ r) l e = absurd (omega arith)

module _ (hall : Hall) (bars : List Bar) (start goal h : ℕ) (layers : List ℕ) (short : h ≤ 63) (filled : Filled hall bars start goal h layers) where
  abbrev way : ℕ → ℕ → ℕ → Option (List ℕ)
  way n t v = best_way (may_stand hall bars) (may_turn hall bars) goal n t v

  -- the step at which the best route ends
  abbrev last : ℕ
  last = end_of goal 0 (route_from hall bars start goal h)

  abbrev byte : ℕ → ℕ → ℕ
  byte t v = get_or layers (t * size hall + v) 0

  module _ (there : last ≤ h) where
    byte_moves : (n t v : ℕ) → t + n ≡ h → t ≤ last → v < size hall → byte t v ≡ moves_to goal last t (way n t v)
    unfolding byte_at way_from
    byte_moves n t v s l i =
        let left : h - t ≡ n = omega arith in
        filled.levels t v (omega arith) i ∙ rw (byte_at, le-leb last h there, le-leb t last l, left)

    -- the moves of the best way from v at t, which ends at `last`
    rest_moves : (n t v : ℕ) (r : List ℕ) → t + n ≡ h → t ≤ last → v < size hall → way n t v ≡ some r → end_of goal t (some r) ≡ last → byte t v ≡ moves r
    unfolding moves_of
    rest_moves n t v r s l i q e = byte_moves n t v s l i ∙ ap (moves_to goal last t) q ∙ moves_here goal last t (some r) e

    -- it goes on as the layers lead
    stepped_best : (n t v : ℕ) → t + suc n ≡ h → t < last → v < size hall → stepped_to hall.width hall.height h layers t v ≡ turned_to (may_stand hall bars) (may_turn hall bars) goal n t v last
    stepped_best n t v s l i =
        stepped_turns hall.width hall.height h layers t v
        ∙ ap (λ d. get_or (keep (λ w. eqb (paid_to true v w (byte (t + 1) w)) (byte t v)) (turns_by hall.width hall.height v d)) 0 v) (filled.crossings t v (omega arith) i)
        ∙ ap (λ ws. get_or ws 0 v)
        (keep_same (λ w. eqb (paid_to true v w (byte (t + 1) w)) (byte t v)) (λ w. eqb (paid_to true v w (moves_to goal last (suc t) (way n (suc t) w))) (moves_to goal last t (way (suc n) t v)))
        (turns_by hall.width hall.height v (digits_of hall.width hall.height bars t v))
        (λ w m.
        let level : byte (t + 1) w ≡ moves_to goal last (suc t) (way n (suc t) w) = rw add-one (byte_moves n (suc t) w (omega arith) (omega arith) (turns_inside hall v (digits_of hall.width hall.height bars t v) w m)) in
        ap (λ x. eqb (paid_to true v w x) (byte t v)) level
        ∙ ap (λ x. eqb (paid_to true v w (moves_to goal last (suc t) (way n (suc t) w))) x) (byte_moves (suc n) t v s (omega arith) i)))
        ∙ ap (λ ws. get_or (keep (λ w. eqb (paid_to true v w (moves_to goal last (suc t) (way n (suc t) w))) (moves_to goal last t (way (suc n) t v))) ws) 0 v) (digit_turns hall bars t v)

    -- without moves it stays on the goal
    rest_stays : (n t v : ℕ) (r : List ℕ) → way n t v ≡ some r → moves r ≡ 0 → replicate (suc n) v ≡ r
    rest_stays n t v r q e =
        let on-goal = (none_left (may_stand hall bars) (may_turn hall bars) goal n t v r q e).1 in
        let long = way_long (may_stand hall bars) (may_turn hall bars) goal n t v r q in
        let here : goal ≡ v = sym (ap (λ s. get_or s 0 0) on-goal ∙ get_or-replicate (length r) 0 goal 0 (omega arith)) ∙ way_begins (may_stand hall bars) (may_turn hall bars) goal n t v r q in
        ap (replicate (suc n)) (sym here) ∙ ap (λ k. replicate k goal) (sym long) ∙ sym on-goal

    -- with moves it ends later than now
    ends_later : (t : ℕ) (r : List ℕ) → t ≤ last → end_of goal t (some r) ≡ last → (moves r ≡ 0 → ⊥) → t < last
    unfolding end_of
    ends_later t r l e n = elim (dec_lt t last) [ yes k ↦ k | no k ↦ absurd (n (some_left goal r (omega (arith, k)))) ]

    read_on : (n t v : ℕ) (r : List ℕ) → t + n ≡ h → t ≤ last → v < size hall → way n t v ≡ some r → end_of goal t (some r) ≡ last → read_way hall.width hall.height h layers n t v ≡ r
    unfolding read_way
    read_on zero t v r s l i q e = one_cell v r (way_long (may_stand hall bars) (may_turn hall bars) goal 0 t v r q) (way_begins (may_stand hall bars) (may_turn hall bars) goal 0 t v r q)
    read_on (suc n) t v r s l i q e =
        go (eqb (byte t v) 0) refl (rest_moves (suc n) t v r s l i q e) (λ w r k. read_on n (suc t) w r (omega arith) k)
      where
        go : (b : Bool) → eqb (byte t v) 0 ≡ b → byte t v ≡ moves r → ((w : ℕ) (x : List ℕ) → suc t ≤ last → w < size hall → way n (suc t) w ≡ some x → end_of goal (suc t) (some x) ≡ last → read_way hall.width hall.height h layers n (suc t) w ≡ x) → elim b [ true ↦ replicate (suc (suc n)) v | false ↦ v ∷ read_way hall.width hall.height h layers n (t + 1) (stepped_to hall.width hall.height h layers t v) ] ≡ r
        go true k few rest = rest_stays (suc n) t v r q (sym few ∙ eqb-true (byte t v) 0 k)
        go false k few rest =
            let later = ends_later t r l e (λ z. eqb-false (byte t v) 0 k (few ∙ z)) in
            let on = best_first (may_stand hall bars) (may_turn hall bars) goal n t v last r (omega arith) q e later in
            let cell = stepped_best n t v s later i in
            let onward = rest (stepped_to hall.width hall.height h layers t v) on.later later (stepped_inside hall.width hall.height h layers t v i) (ap (way n (suc t)) cell ∙ on.best) on.ends in
            let next : t + 1 ≡ suc t = omega arith in
            ap (λ k. v ∷ read_way hall.width hall.height h layers n k (stepped_to hall.width hall.height h layers t v)) next ∙ ap (λ x. v ∷ x) onward ∙ sym on.front

  pub read_is_best : (r : List ℕ) → start < size hall → route_from hall bars start goal h ≡ some r → read_route hall.width hall.height h layers start ≡ r
  unfolding end_of
  read_is_best r i q =
      let known = holds_some (Leads goal h start) (way h 0 start) r (way_leads (may_stand hall bars) (may_turn hall bars) goal h 0 start) q in
      let ends : end_of goal 0 (some r) ≡ last = ap (end_of goal 0) (sym q) in
      read_on (omega (arith, leads_cheap goal h start r known)) h 0 start r (omega arith) (omega arith) i q ends
