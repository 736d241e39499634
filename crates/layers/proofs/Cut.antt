-- The first pass begun before the horizon: each byte is then what is found of the best way on (`end_by`). For that passes through the least,
-- the marks and the rest on the goal; and where the pass begins, a way ends in time only on the goal, where a carrier may rest up to the
-- horizon. Where there is a route, a carrier goes on to any step of it. Assumes nothing.
use Prim.Native.Nat.{ℕ, zero, suc, ◌+◌, min, max, ◌≤◌, ◌<◌}
use native.Mathlib.Decide.{dec_le, ℕ_discrete}
use native.Mathlib.Omega.{arith}
use mathlib.Core.Path.{◌≡◌, refl, sym, ap, subst, ◌∙◌}
use mathlib.Core.Logic.{◌⊎◌, inl, inr}
use mathlib.Core.Bool.{Bool, true, false, not, ◌&&◌, ◌||◌}
use mathlib.Core.List.{List, [], ◌∷◌, map, Memᴰ}
use mathlib.Core.Option.{Option, none, some}
use lib.Dec.{T, eqb}
use borrow.Author.Tests.{le-leb, lt-leb, eq-eqb, ne_eqb}
use Rattle.lists.specs.Lists.{any_of}
use Rattle.lists.proofs.Members.{member_keep}
use Rattle.lists.proofs.Passing.{any_cons}
use Rattle.hall.specs.Hall.{Hall, size, is_open}
use Rattle.hall.specs.Moves.{reach}
use Rattle.hall.proofs.Reach.{stay_in_reach}
use Rattle.routes.specs.Bars.{bars_cell, bars_way, may_stand, may_turn}
use Rattle.routes.specs.Best.{best_of, in_front, best_way}
use Rattle.routes.specs.declared.Bar.{Bar}
use Rattle.marks.specs.Marks.{stand_mark, quiet_from}
use Rattle.marks.proofs.Quiet.{quiet_cell, quiet_way}
use Rattle.shuts.specs.Shuts.{shut_if, turns_by}
use Rattle.layers.specs.Layers.{end_of, can_go_on, end_by}
use Rattle.layers.specs.Fill.{mark_for, arrives, elsewhere, arrival, rested, least_of, paid_to, least_onward}
use Rattle.layers.specs.Post.{RestsFrom}
use Rattle.layers.proofs.LeastLaws.{least_on_most}
use Rattle.layers.proofs.StepLaws.{arrival_here, arrival_away, rested_here, rested_away, rested_late}
use Rattle.layers.proofs.Levels.{least_below, least_above, end_least, end_last, end_step}

-- ---- what is found of an end

abbrev pub later : Bool → ℕ
later on = elim on [ true ↦ 254 | false ↦ 255 ]

pub later_least : (on : Bool) → 254 ≤ later on
later_least true = omega arith
later_least false = omega arith

later_most : (on : Bool) → later on ≤ 255
later_most true = omega arith
later_most false = omega arith

pub in_time : (late end : ℕ) (on : Bool) → end ≤ late → end_by late end on ≡ end
unfolding end_by
in_time late end on h = rw (end_by, le-leb end late h)

pub too_late : (late end : ℕ) (on : Bool) → late < end → end_by late end on ≡ later on
unfolding end_by
too_late late end on h = rw (end_by, lt-leb end late h)

-- what is found after `late` is no end
pub after_later : (late end : ℕ) (on : Bool) → late < end_by late end on → 254 ≤ end_by late end on
after_later late end on h =
    elim (dec_le end late) [
      | yes k ↦ absurd (omega (arith, in_time late end on k))
      | no k ↦ omega (arith, too_late late end on (omega (arith, k)), later_least on)
    ]

found_most : (late end : ℕ) (on : Bool) → end ≤ 255 → end_by late end on ≤ 255
found_most late end on h = elim (dec_le end late) [ yes k ↦ omega (arith, in_time late end on k) | no k ↦ omega (arith, too_late late end on (omega (arith, k)), later_most on) ]

module _ (late : ℕ) (short : late ≤ 63) where
  none_found : end_by late 255 false ≡ 255
  none_found = too_late late 255 false (omega arith)

  found_min : (a b : ℕ) (x y : Bool) → end_by late (min a b) (x || y) ≡ min (end_by late a x) (end_by late b y)
  found_min a b x y = go (dec_le a late) (dec_le b late)
    where
      both : (x y : Bool) → later (x || y) ≡ min (later x) (later y)
      both true true = refl
      both true false = refl
      both false true = refl
      both false false = refl

      go : Dec (a ≤ late) → Dec (b ≤ late) → end_by late (min a b) (x || y) ≡ min (end_by late a x) (end_by late b y)
      go (yes h) (yes k) = omega (arith, in_time late a x h, in_time late b y k, in_time late (min a b) (x || y) (omega arith))
      go (yes h) (no k) = omega (arith, in_time late a x h, too_late late b y (omega (arith, k)), later_least y, in_time late (min a b) (x || y) (omega arith))
      go (no h) (yes k) = omega (arith, too_late late a x (omega (arith, h)), later_least x, in_time late b y k, in_time late (min a b) (x || y) (omega arith))
      go (no h) (no k) = rw (too_late late a x (omega (arith, h)), too_late late b y (omega (arith, k)), too_late late (min a b) (x || y) (omega (arith, h, k))) (both x y)

  found_least : (f : ℕ → ℕ) (on : ℕ → Bool) (ws : List ℕ) → least_of (map (λ w. end_by late (f w) (on w)) ws) ≡ end_by late (least_of (map f ws)) (any_of on ws)
  unfolding least_of any_of
  found_least f on [] = sym none_found
  found_least f on (w ∷ ws) = rw (found_least f on ws, any_cons on w ws) (sym (found_min (f w) (least_of (map f ws)) (on w) (any_of on ws)))

  found_on : (hall : Hall) (next : ℕ → ℕ) (on : ℕ → Bool) (v digits : ℕ) → least_onward hall false (λ w. end_by late (next w) (on w)) v digits ≡ end_by late (least_onward hall false next v digits) (is_open hall v && any_of on (turns_by hall.width hall.height v digits))
  unfolding least_onward paid_to
  found_on hall next on v digits = go (is_open hall v)
    where
      go : (b : Bool) → ◌≡◌ {A = ℕ} (elim b [ true ↦ least_of (map (λ w. end_by late (next w) (on w)) (turns_by hall.width hall.height v digits)) | false ↦ 255 ]) (end_by late (elim b [ true ↦ least_of (map next (turns_by hall.width hall.height v digits)) | false ↦ 255 ]) (b && any_of on (turns_by hall.width hall.height v digits)))
      go true = found_least next on (turns_by hall.width hall.height v digits)
      go false = sym none_found

  -- a mark is none or nothing
  found_marked : (bars : List Bar) (t v level : ℕ) (on : Bool) → level ≤ 255 → max (stand_mark bars t v) (end_by late level on) ≡ end_by late (max (stand_mark bars t v) level) (not (any_of (bars_cell t v) bars) && on)
  unfolding stand_mark
  found_marked bars t v level on h = go (any_of (bars_cell t v) bars)
    where
      go : (b : Bool) → max (elim b [ true ↦ 255 | false ↦ 0 ]) (end_by late level on) ≡ end_by late (max (elim b [ true ↦ 255 | false ↦ 0 ]) level) (not b && on)
      go true = let e : max 255 level ≡ 255 = omega arith in rw (e, none_found) (omega (arith, found_most late level on h))
      go false = let e : max 0 level ≡ level = omega arith in rw e (omega arith)

  -- a way that comes to rest before `late` is found as the rest of it is
  found_rested : (goal t v level : ℕ) (on : Bool) → t < late → rested false goal t v (end_by late level on) ≡ end_by late (rested false goal t v level) on
  unfolding rested
  found_rested goal t v level on h = go (eqb v goal) (ℕ_discrete level (t + 1))
    where
      go : (b : Bool) → Dec (level ≡ t + 1) → elim (b && eqb (end_by late level on) (t + 1)) [ true ↦ t | false ↦ end_by late level on ] ≡ end_by late (elim (b && eqb level (t + 1)) [ true ↦ t | false ↦ level ]) on
      go true (yes e) = rw (in_time late level on (omega arith), eq-eqb level (t + 1) e, in_time late t on (omega arith))
      go true (no n) = rw (ne_eqb level (t + 1) n, ne_eqb (end_by late level on) (t + 1) other)
        where
          other : end_by late level on ≡ t + 1 → ⊥
          other e = elim (dec_le level late) [ yes k ↦ n (sym (in_time late level on k) ∙ e) | no k ↦ absurd (omega (arith, too_late late level on (omega (arith, k)), later_least on)) ]
      go false d = refl

  -- a layer of what is found, made of the next
  pub found_made : (hall : Hall) (bars : List Bar) (goal t v digits : ℕ) (next : ℕ → ℕ) (on : ℕ → Bool) → t < late → rested false goal t v (max (stand_mark bars t v) (least_onward hall false (λ w. end_by late (next w) (on w)) v digits)) ≡ end_by late (rested false goal t v (max (stand_mark bars t v) (least_onward hall false next v digits))) (not (any_of (bars_cell t v) bars) && (is_open hall v && any_of on (turns_by hall.width hall.height v digits)))
  found_made hall bars goal t v digits next on h =
      let goes : Bool = is_open hall v && any_of on (turns_by hall.width hall.height v digits) in
      ap (λ x. rested false goal t v (max (stand_mark bars t v) x)) (found_on hall next on v digits)
      ∙ ap (rested false goal t v) (found_marked bars t v (least_onward hall false next v digits) goes (least_on_most hall false next v digits))
      ∙ found_rested goal t v (max (stand_mark bars t v) (least_onward hall false next v digits)) (not (any_of (bars_cell t v) bars) && goes) h

-- the second pass asks only which ways end at `last`
pub found_mark : (late last end : ℕ) (on : Bool) → late ≤ 63 → last ≤ late → mark_for true last (end_by late end on) ≡ mark_for true last end
unfolding mark_for
found_mark late last end on short h = elim (dec_le end late) [ yes k ↦ ap (mark_for true last) (in_time late end on k) | no k ↦ other (omega (arith, k)) ]
  where
    other : late < end → mark_for true last (end_by late end on) ≡ mark_for true last end
    other k = rw (mark_for, too_late late end on k, ne_eqb (later on) last (λ e. absurd (omega (arith, later_least on))), ne_eqb end last (λ e. absurd (omega arith)))

-- ---- where some way ends

rested_small : (goal t v x : ℕ) → t < 63 → rested false goal t v x ≤ 63 → x ≤ 63
rested_small goal t v x h l = elim (ℕ_discrete x (t + 1)) [ yes e ↦ omega arith | no k ↦ omega (arith, rested_late false goal t v x k) ]

any_least : (f : ℕ → ℕ) (on : ℕ → Bool) (ws : List ℕ) → least_of (map f ws) ≤ 63 → ((w : ℕ) → f w ≤ 63 → on w ≡ true) → any_of on ws ≡ true
unfolding least_of
any_least f on [] l h = absurd (omega arith)
any_least f on (w ∷ ws) l h = any_cons on w ws ∙ elim (dec_le (f w) 63) [ yes k ↦ rw (h w k) | no k ↦ second (on w) (any_least f on ws (omega (arith, k)) h) ]
  where
    second : (b : Bool) → any_of on ws ≡ true → (b || any_of on ws) ≡ true
    second true e = refl
    second false e = e

-- ---- where the pass begins

module _ (hall : Hall) (bars : List Bar) (goal : ℕ) where
  abbrev way : ℕ → ℕ → ℕ → Option (List ℕ)
  way n t v = best_way (may_stand hall bars) (may_turn hall bars) goal n t v

  -- no way leads from where a carrier may not stand
  none_stands : (n t v : ℕ) → may_stand hall bars t v ≡ false → end_of goal t (way n t v) ≡ 255
  unfolding best_way end_of
  none_stands zero t v e = ap (λ (b : Bool). end_of goal t (elim (b && eqb v goal) [ true ↦ some (v ∷ []) | false ↦ none ])) e
  none_stands (suc n) t v e = ap (λ (b : Bool). end_of goal t (elim b [ true ↦ best_of goal (map (λ w. in_front v (way n (suc t) w)) (may_turn hall bars t v)) | false ↦ none ])) e

  pub closed_end : (n t v : ℕ) → is_open hall v ≡ false → end_of goal t (way n t v) ≡ 255
  unfolding may_stand
  closed_end n t v e = none_stands n t v (rw e)

  -- so where one leads, a carrier stands
  way_stands : (n t v : ℕ) → end_of goal t (way n t v) ≤ 63 → may_stand hall bars t v ≡ true
  way_stands n t v h = go (may_stand hall bars t v) refl
    where
      go : (b : Bool) → may_stand hall bars t v ≡ b → b ≡ true
      go true e = refl
      go false e = absurd (omega (arith, none_stands n t v e))

  module _ (h : ℕ) (short : h ≤ 63) (inside : goal < size hall) where
    -- no way on ends before the next step
    least_on : (n t v : ℕ) → suc t ≤ h → suc t ≤ least_of (map (λ w. paid_to false v w (end_of goal (suc t) (way n (suc t) w))) (may_turn hall bars t v))
    unfolding paid_to
    least_on n t v l = least_above (λ w. end_of goal (suc t) (way n (suc t) w)) (suc t) (omega arith) (λ w. end_least goal (suc t) (way n (suc t) w) (omega arith)) (may_turn hall bars t v)

    -- a way from another cell ends later
    end_away : (n t v : ℕ) → t + n ≡ h → (v ≡ goal → ⊥) → t < end_of goal t (way n t v)
    end_away zero t v e k = omega (arith, end_last (may_stand hall bars) (may_turn hall bars) goal t v ∙ away (may_stand hall bars t v))
      where
        away : (b : Bool) → ◌≡◌ {A = ℕ} (elim (b && eqb v goal) [ true ↦ t | false ↦ 255 ]) 255
        away true = rw (ne_eqb v goal k)
        away false = refl
    end_away (suc n) t v e k =
        rw (end_step (may_stand hall bars) (may_turn hall bars) goal n t v (omega arith))
        (go (may_stand hall bars t v) (least_of (map (λ w. paid_to false v w (end_of goal (suc t) (way n (suc t) w))) (may_turn hall bars t v))) (least_on n t v (omega arith)))
      where
        go : (b : Bool) (least : ℕ) → suc t ≤ least → t < elim b [ true ↦ rested false goal t v least | false ↦ 255 ]
        go true least l = rw (rested_away goal t v least k) l
        go false least l = omega arith

    module _ (clear : is_open hall goal ≡ true) where
      -- on the goal a carrier may rest
      may_stand_lem : (t : ℕ) → quiet_from h bars ≤ t → t ≤ h → may_stand hall bars t goal ≡ true
      unfolding may_stand
      may_stand_lem t q l = rw (clear, quiet_cell h bars t goal q l)

      may_stay : (t : ℕ) → quiet_from h bars ≤ t → t ≤ h → Memᴰ goal (may_turn hall bars t goal)
      unfolding may_turn
      may_stay t q l = member_keep (λ v. not (any_of (bars_way t goal v) bars)) (reach hall goal) (stay_in_reach hall goal inside) (subst (λ (b : Bool). T (not b)) (sym (quiet_way h bars t goal goal q l)) tt)

      end_rests : (n t : ℕ) → t + n ≡ h → quiet_from h bars ≤ t → end_of goal t (way n t goal) ≡ t
      unfolding paid_to
      end_rests zero t e q = end_last (may_stand hall bars) (may_turn hall bars) goal t goal ∙ rw (may_stand_lem t q (omega arith), eq-eqb goal goal refl)
      end_rests (suc n) t e q =
          let later : ℕ → ℕ = λ w. paid_to false goal w (end_of goal (suc t) (way n (suc t) w)) in
          let next : end_of goal (suc t) (way n (suc t) goal) ≡ suc t = end_rests n (suc t) (omega arith) (omega arith) in
          let below : least_of (map later (may_turn hall bars t goal)) ≤ end_of goal (suc t) (way n (suc t) goal) = least_below later goal (may_turn hall bars t goal) (may_stay t q (omega arith)) in
          let least : least_of (map later (may_turn hall bars t goal)) ≡ t + 1 = omega (arith, least_on n t goal (omega arith)) in
          end_step (may_stand hall bars) (may_turn hall bars) goal n t goal (omega arith)
          ∙ rw (may_stand_lem t q (omega arith), least) (rested_here goal t)

    -- on the goal, where the pass begins
    rests_there : (n t : ℕ) → t + n ≡ h → (t ≡ h) ⊎ (quiet_from h bars ≤ t) → is_open hall goal ≡ true → may_stand hall bars t goal ≡ true → end_of goal t (way n t goal) ≡ t
    rests_there zero t e r o s = end_last (may_stand hall bars) (may_turn hall bars) goal t goal ∙ rw (s, eq-eqb goal goal refl)
    rests_there (suc n) t e (inl r) o s = absurd (omega arith)
    rests_there (suc n) t e (inr r) o s = end_rests o (suc n) t e r

    pub late_arrives : (n t v : ℕ) → t + n ≡ h → RestsFrom bars h t → arrival goal (arrives false t) (elsewhere false) (λ w. shut_if (not (is_open hall w))) v (stand_mark bars t v) ≡ end_by t (end_of goal t (way n t v)) (can_go_on (may_stand hall bars) (may_turn hall bars) 0 t v)
    unfolding RestsFrom can_go_on may_stand stand_mark shut_if arrives elsewhere
    late_arrives n t v e r =
        elim (ℕ_discrete v goal) [
          | yes k ↦
              rw (k, arrival_here goal t 254 (λ w. shut_if (not (is_open hall w))) (stand_mark bars t goal))
              (here (is_open hall goal) (any_of (bars_cell t goal) bars) refl refl)
          | no k ↦
              arrival_away goal t 254 (λ w. shut_if (not (is_open hall w))) v (stand_mark bars t v) k
              ∙ stood (is_open hall v) (any_of (bars_cell t v) bars)
              ∙ sym (too_late t (end_of goal t (way n t v)) (is_open hall v && not (any_of (bars_cell t v) bars)) (end_away n t v e k))
        ]
      where
        stood : (clear barred : Bool) → max 254 (max (elim barred [ true ↦ 255 | false ↦ 0 ]) (shut_if (not clear))) ≡ later (clear && not barred)
        stood true true = refl
        stood true false = refl
        stood false true = refl
        stood false false = refl

        nobody : may_stand hall bars t goal ≡ false → (x : ℕ) → x ≡ 255 → x ≡ end_by t (end_of goal t (way n t goal)) false
        nobody s x q = rw (none_stands n t goal s, none_found t (omega arith)) q

        here : (clear barred : Bool) → is_open hall goal ≡ clear → any_of (bars_cell t goal) bars ≡ barred → max t (max (elim barred [ true ↦ 255 | false ↦ 0 ]) (shut_if (not clear))) ≡ end_by t (end_of goal t (way n t goal)) (clear && not barred)
        here true true c b = nobody (rw (c, b)) (max t (max 255 0)) (omega arith)
        here true false c b = rw (rests_there n t e r c (rw (c, b)), in_time t t true (omega arith)) (omega arith)
        here false true c b = nobody (rw c) (max t (max 255 255)) (omega arith)
        here false false c b = nobody (rw c) (max t (max 0 255)) (omega arith)

    -- ---- going on

    pub goes_on : (m n t v : ℕ) → m ≤ n → t + n ≡ h → end_of goal t (way n t v) ≤ 63 → can_go_on (may_stand hall bars) (may_turn hall bars) m t v ≡ true
    unfolding can_go_on paid_to
    goes_on zero n t v l e k = way_stands n t v k
    goes_on (suc m) zero t v l e k = absurd (omega arith)
    goes_on (suc m) (suc n) t v l e k =
        let stands = way_stands (suc n) t v k in
        let next : ℕ → ℕ = λ w. end_of goal (suc t) (way n (suc t) w) in
        let least : rested false goal t v (least_of (map next (may_turn hall bars t v))) ≤ 63 = rw (end_step (may_stand hall bars) (may_turn hall bars) goal n t v (omega arith), stands) at k in
        rw stands (any_least next (can_go_on (may_stand hall bars) (may_turn hall bars) m (suc t)) (may_turn hall bars t v) (rested_small goal t v (least_of (map next (may_turn hall bars t v))) (omega arith) least) (λ w i. goes_on m n (suc t) w (omega arith) (omega arith) i))
