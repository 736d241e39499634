-- A pass, layer by layer from its first step back to 0: what is made is never written again, what is still to be made is as it was, and one
-- half of the slate holds the layer made last. Assumes nothing.
use Prim.Native.Nat.{ℕ, ◌+◌, ◌*◌, max, ◌≤◌, ◌<◌}
use native.Mathlib.Omega.{arith}
use native.Mathlib.Decide.{ℕ_discrete}
use native.Mathlib.Nat.{add-mul, one-mul}
use mathlib.Core.Path.{◌≡◌, refl, sym, ap, subst, ◌∙◌}
use mathlib.Core.Bool.{Bool, true, false, not}
use mathlib.Core.List.{List}
use lib.ListN.{length, get_or}
use Rattle.lists.proofs.Parts.{part_within}
use Rattle.lent.specs.Lent.{SameFrom}
use Rattle.lent.specs.Made.{Made}
use Rattle.hall.specs.Hall.{is_open}
use Rattle.hall.specs.declared.Grid.{Grid}
use Rattle.hall.proofs.HallCode.{area_small, layers_small}
use Rattle.marks.proofs.Bearings.{max_assoc}
use Rattle.shuts.specs.Shuts.{shut_if, Shut, Floor}
use Rattle.shuts.specs.Post.{lent_hall, LaidAt}
use Rattle.shuts.proofs.Laid.{laid_shut, laid_closed, unlaid, laid_crossings}
use Rattle.layers.specs.Fill.{least_way, level_by, other_half, IsHalf, Pads, Copied, LayerMade, mark_for, arrives, elsewhere, arrival, rested, ArrivalLaid, RestLaid, least_onward, PassedOn}
use Rattle.layers.specs.Post.{Fillable, NoCrossing}
use Rattle.layers.specs.declared.Trip.{Trip}
use Rattle.layers.proofs.LayerLaws.{first_half, half_turned}
use Rattle.layers.proofs.StepLaws.{arrival_same}
use Rattle.layers.proofs.LeastLaws.{least_on, least_on_same}

pub next_layer : (s n : ℕ) → (s + 1) * n ≡ s * n + n
next_layer s n = add-mul s 1 n ∙ ap (λ x. s * n + x) (one-mul n)

-- ---- where the bytes of a pass lie

pub record PassBounds (size h t : ℕ) : Type 0 where
  pub small : size ≤ 256
  pub whole : (h + 1) * size ≤ 16384
  pub layer : t * size + size ≤ (h + 1) * size

pub pass_bounds : (grid : Grid) (trip : Trip) (last : ℕ) (layers : List ℕ) → Fillable grid trip last layers → (t : ℕ) → t ≤ last → PassBounds (grid.width * grid.height) trip.horizon t
pass_bounds grid trip last layers f t l =
    record { small = area_small f.wide f.high; whole = layers_small f.late (area_small f.wide f.high); layer = part_within t (trip.horizon + 1) (grid.width * grid.height) (omega (arith, f.within)) }

module _ (grid : Grid) (floor : List ℕ) (moves crossing : Bool) (goal plane last : ℕ) (first : List ℕ) where
  -- what a byte is made of, where `layers` has the next layer
  abbrev Byte : List ℕ → List ℕ → ℕ → ℕ → ℕ
  Byte bytes layers s v = rested moves goal s v (max (mark_for moves last (get_or first (s * (grid.width * grid.height) + v) 0)) (least_onward (lent_hall grid bytes) moves (λ w. get_or layers ((s + 1) * (grid.width * grid.height) + w) 0) v (get_or first (plane + s * (grid.width * grid.height) + v) 0)))

  -- of the layers as they were at first those from t on are made, and the half `from` of the slate holds the one at t
  pub record Passing (layers shuts slate : List ℕ) (from t : ℕ) : Type 0 where
    pub within : t ≤ last
    pub long : length layers ≡ length first
    pub made : (bytes : List ℕ) → Floor (lent_hall grid bytes) floor → (s v : ℕ) → t ≤ s → s < last → v < (grid.width * grid.height) → get_or layers (s * (grid.width * grid.height) + v) 0 ≡ Byte bytes layers s v
    pub under : (x : ℕ) → x < t * (grid.width * grid.height) → get_or layers x 0 ≡ get_or first x 0
    pub over : (x : ℕ) → last * (grid.width * grid.height) ≤ x → get_or layers x 0 ≡ get_or first x 0
    pub copied : Copied (grid.width * grid.height) (t * (grid.width * grid.height)) from slate layers
    pub wide : length slate ≡ 576
    pub half : IsHalf from
    pub pads : Pads (grid.width * grid.height) slate
    pub still : crossing ≡ false → shuts ≡ floor
    pub closed : (v : ℕ) → v < (grid.width * grid.height) → get_or shuts (1280 + v) 0 ≡ get_or floor (1280 + v) 0

  pub passing_begins : (slate : List ℕ) → Copied (grid.width * grid.height) (last * (grid.width * grid.height)) 0 slate first → length slate ≡ 576 → Pads (grid.width * grid.height) slate → Passing first floor slate 0 last
  passing_begins slate copied wide pads =
      record {
        within = omega arith;
        long = refl;
        made = λ bytes fl s v l h i. absurd (omega arith);
        under = λ x h. refl;
        over = λ x h. refl;
        copied = copied;
        wide = wide;
        half = first_half;
        pads = pads;
        still = λ _. refl;
        closed = λ v h. refl;
      }

  -- ---- one layer more

  module _ (room : last * (grid.width * grid.height) ≤ plane) (none : crossing ≡ false → (t v : ℕ) → t < last → v < (grid.width * grid.height) → get_or first (plane + t * (grid.width * grid.height) + v) 0 ≡ 0) (some : 1 ≤ grid.width) (wide : grid.width ≤ 16) (high : grid.height ≤ 16) (layers shuts slate : List ℕ) (from t : ℕ) (p : Passing layers shuts slate from (t + 1)) where
    module _ (shuts1 layers1 slate2 layers2 slate3 layers3 : List ℕ) (laid : LaidAt crossing floor layers (plane + t * (grid.width * grid.height)) (grid.width * grid.height) shuts shuts1) (m1 : Made (t * (grid.width * grid.height)) (grid.width * grid.height) (λ v byte. mark_for moves last byte) layers layers1) (m2 : LayerMade moves crossing shuts1 grid.width (grid.width * grid.height) (t * (grid.width * grid.height)) from slate layers1 slate2 layers2) (m3 : RestLaid moves goal t (grid.width * grid.height) (t * (grid.width * grid.height)) (other_half from) slate2 layers2 slate3 layers3) where
      -- what was there before the step is there after it, but for its own layer
      other_under : (x : ℕ) → x < t * (grid.width * grid.height) → get_or layers3 x 0 ≡ get_or layers x 0
      other_under x h = m3.layer.under x h ∙ (m2.layer.under x h ∙ m1.under x h)

      other_over : (x : ℕ) → (t + 1) * (grid.width * grid.height) ≤ x → get_or layers3 x 0 ≡ get_or layers x 0
      other_over x h =
          let e = next_layer t (grid.width * grid.height) in
          m3.layer.over x (omega arith) ∙ (m2.layer.over x (omega arith) ∙ m1.over x (omega arith))

      -- the bytes of its own layer were as at first
      own : (v : ℕ) → v < (grid.width * grid.height) → get_or layers (t * (grid.width * grid.height) + v) 0 ≡ get_or first (t * (grid.width * grid.height) + v) 0
      own v h = let e = next_layer t (grid.width * grid.height) in p.under (t * (grid.width * grid.height) + v) (omega arith)

      digits : (v : ℕ) → get_or layers (plane + t * (grid.width * grid.height) + v) 0 ≡ get_or first (plane + t * (grid.width * grid.height) + v) 0
      digits v = p.over (plane + t * (grid.width * grid.height) + v) (omega (arith, room))

      -- ---- the least way on, over a hall with this floor

      module _ (bytes : List ℕ) (fl : Floor (lent_hall grid bytes) floor) where
        least : (c : Bool) → crossing ≡ c → (v : ℕ) → v < (grid.width * grid.height) → max (get_or shuts1 (1280 + v) 0) (least_way moves crossing slate shuts1 grid.width (from + 16 + v) v) ≡ least_onward (lent_hall grid bytes) moves (λ w. get_or layers ((t + 1) * (grid.width * grid.height) + w) 0) v (get_or layers (plane + t * (grid.width * grid.height) + v) 0)
        least true e v h =
            least_on (lent_hall grid bytes) moves crossing (λ w. get_or layers (plane + t * (grid.width * grid.height) + w) 0) shuts1 slate (λ w. get_or layers ((t + 1) * (grid.width * grid.height) + w) 0) from v
            (laid_shut (lent_hall grid bytes) floor layers (plane + t * (grid.width * grid.height)) shuts shuts1 fl p.closed (laid_crossings floor layers (plane + t * (grid.width * grid.height)) (grid.width * grid.height) shuts shuts1 (subst (λ b. LaidAt b floor layers (plane + t * (grid.width * grid.height)) (grid.width * grid.height) shuts shuts1) e laid)))
            p.pads p.half p.copied (λ k. digits v ∙ none k t v (omega (arith, p.within)) h) some wide high h
        least false e v h =
            let same : shuts1 ≡ floor = unlaid floor layers (plane + t * (grid.width * grid.height)) (grid.width * grid.height) shuts shuts1 (subst (λ b. LaidAt b floor layers (plane + t * (grid.width * grid.height)) (grid.width * grid.height) shuts shuts1) e laid) ∙ p.still e in
            let zero : get_or layers (plane + t * (grid.width * grid.height) + v) 0 ≡ 0 = digits v ∙ none e t v (omega (arith, p.within)) h in
            least_on (lent_hall grid bytes) moves crossing (λ w. 0) shuts1 slate (λ w. get_or layers ((t + 1) * (grid.width * grid.height) + w) 0) from v
            (subst (Shut (lent_hall grid bytes) (λ w. 0)) (sym same) fl)
            p.pads p.half p.copied (λ k. refl) some wide high h
            ∙ ap (least_onward (lent_hall grid bytes) moves (λ w. get_or layers ((t + 1) * (grid.width * grid.height) + w) 0) v) (sym zero)

        later_same : (s v digit : ℕ) → t ≤ s → least_onward (lent_hall grid bytes) moves (λ w. get_or layers ((s + 1) * (grid.width * grid.height) + w) 0) v digit ≡ least_onward (lent_hall grid bytes) moves (λ w. get_or layers3 ((s + 1) * (grid.width * grid.height) + w) 0) v digit
        later_same s v digit l =
            least_on_same (lent_hall grid bytes) moves (λ w. get_or layers ((s + 1) * (grid.width * grid.height) + w) 0) (λ w. get_or layers3 ((s + 1) * (grid.width * grid.height) + w) 0) v digit
            (λ w h.
            let a = part_within t (s + 1) (grid.width * grid.height) (omega arith) in
            let e = next_layer t (grid.width * grid.height) in
            sym (other_over ((s + 1) * (grid.width * grid.height) + w) (omega arith)))

        level : (v : ℕ) → v < (grid.width * grid.height) → level_by moves crossing slate shuts1 grid.width from v (get_or layers1 (t * (grid.width * grid.height) + v) 0) ≡ max (mark_for moves last (get_or first (t * (grid.width * grid.height) + v) 0)) (least_onward (lent_hall grid bytes) moves (λ w. get_or layers3 ((t + 1) * (grid.width * grid.height) + w) 0) v (get_or first (plane + t * (grid.width * grid.height) + v) 0))
        unfolding level_by
        level v h =
            max_assoc (get_or layers1 (t * (grid.width * grid.height) + v) 0) (get_or shuts1 (1280 + v) 0) (least_way moves crossing slate shuts1 grid.width (from + 16 + v) v)
            ∙ ap (max (get_or layers1 (t * (grid.width * grid.height) + v) 0)) (least crossing refl v h ∙ ap (least_onward (lent_hall grid bytes) moves (λ w. get_or layers ((t + 1) * (grid.width * grid.height) + w) 0) v) (digits v) ∙ later_same t v (get_or first (plane + t * (grid.width * grid.height) + v) 0) (omega arith))
            ∙ ap (λ x. max x (least_onward (lent_hall grid bytes) moves (λ w. get_or layers3 ((t + 1) * (grid.width * grid.height) + w) 0) v (get_or first (plane + t * (grid.width * grid.height) + v) 0))) (m1.made v h ∙ ap (mark_for moves last) (own v h))

        here : (v : ℕ) → v < (grid.width * grid.height) → get_or layers3 (t * (grid.width * grid.height) + v) 0 ≡ Byte bytes layers3 t v
        here v h = m3.layer.made v h ∙ ap (rested moves goal t v) (m2.layer.made v h ∙ level v h)

        later : (s v : ℕ) → t + 1 ≤ s → s < last → v < (grid.width * grid.height) → get_or layers3 (s * (grid.width * grid.height) + v) 0 ≡ Byte bytes layers3 s v
        later s v l h i =
            let a = part_within t s (grid.width * grid.height) (omega arith) in
            let e = next_layer t (grid.width * grid.height) in
            other_over (s * (grid.width * grid.height) + v) (omega arith)
            ∙ (p.made bytes fl s v l h i ∙ ap (λ x. rested moves goal s v (max (mark_for moves last (get_or first (s * (grid.width * grid.height) + v) 0)) x)) (later_same s v (get_or first (plane + s * (grid.width * grid.height) + v) 0) (omega arith)))

        so_far : (s v : ℕ) → t ≤ s → s < last → v < (grid.width * grid.height) → Dec (s ≡ t) → get_or layers3 (s * (grid.width * grid.height) + v) 0 ≡ Byte bytes layers3 s v
        so_far s v l h i (yes e) = rw e (here v i)
        so_far s v l h i (no k) = later s v (omega (arith, k)) h i

      pub passing_more : Passing layers3 shuts1 slate3 (other_half from) t
      passing_more =
          record {
            within = omega (arith, p.within);
            long = m3.layer.long ∙ (m2.layer.long ∙ (m1.long ∙ p.long));
            made = λ bytes fl s v l h i. so_far bytes fl s v l h i (ℕ_discrete s t);
            under = λ x h. let e = next_layer t (grid.width * grid.height) in other_under x h ∙ p.under x (omega arith);
            over = λ x h. let a = part_within t last (grid.width * grid.height) (omega (arith, p.within)) in let e = next_layer t (grid.width * grid.height) in other_over x (omega arith) ∙ p.over x h;
            copied = m3.copied;
            wide = m3.wide ∙ (m2.wide ∙ p.wide);
            half = half_turned from p.half;
            pads = m3.pads (m2.pads p.pads);
            still = λ e. unlaid floor layers (plane + t * (grid.width * grid.height)) (grid.width * grid.height) shuts shuts1 (subst (λ b. LaidAt b floor layers (plane + t * (grid.width * grid.height)) (grid.width * grid.height) shuts shuts1) e laid) ∙ p.still e;
            closed = λ v h. laid_closed crossing floor layers (plane + t * (grid.width * grid.height)) (grid.width * grid.height) shuts shuts1 laid v h ∙ p.closed v h;
          }

-- ---- the whole pass

module _ (grid : Grid) (floor : List ℕ) (moves crossing : Bool) (goal plane last : ℕ) (before marked first : List ℕ) (slate' : List ℕ) (level rest : ℕ) (m : Made (last * (grid.width * grid.height)) (grid.width * grid.height) (λ v byte. mark_for moves last byte) before marked) (k : level ≡ arrives moves last) (r : rest ≡ elsewhere moves) (a : ArrivalLaid goal level rest (λ v. get_or floor (1280 + v) 0) (grid.width * grid.height) (last * (grid.width * grid.height)) marked slate' first) where
  -- but for the layer where it begins, nothing has changed at first
  first_under : (x : ℕ) → x < last * (grid.width * grid.height) → get_or first x 0 ≡ get_or before x 0
  first_under x h = a.layer.under x h ∙ m.under x h

  pub first_over : (x : ℕ) → (last + 1) * (grid.width * grid.height) ≤ x → get_or first x 0 ≡ get_or before x 0
  first_over x h = let q = next_layer last (grid.width * grid.height) in a.layer.over x (omega arith) ∙ m.over x (omega arith)

  pub none_crossing : (h : ℕ) → plane ≡ (h + 1) * (grid.width * grid.height) → last ≤ h → NoCrossing crossing (grid.width * grid.height) h before → crossing ≡ false → (t v : ℕ) → t < last → v < (grid.width * grid.height) → get_or first (plane + t * (grid.width * grid.height) + v) 0 ≡ 0
  unfolding NoCrossing
  none_crossing h q l f c t v i j =
      let b = part_within last (h + 1) (grid.width * grid.height) (omega arith) in
      let w = next_layer last (grid.width * grid.height) in
      first_over (plane + t * (grid.width * grid.height) + v) (omega arith) ∙ rw q (f c t v (omega arith) j)

  passing_kept : (layers shuts slate : List ℕ) (from t : ℕ) → Passing grid floor moves crossing goal plane last first layers shuts slate from t → SameFrom ((last + 1) * (grid.width * grid.height)) before layers
  passing_kept layers shuts slate from t p =
      record {
        long = p.long ∙ (a.layer.long ∙ m.long);
        rest = λ x h. let q = next_layer last (grid.width * grid.height) in p.over x (omega arith) ∙ first_over x h;
      }

  pub passing_ends : goal < (grid.width * grid.height) → (last + 1) * (grid.width * grid.height) ≤ plane → (layers shuts slate : List ℕ) (from t : ℕ) → Passing grid floor moves crossing goal plane last first layers shuts slate from t → t ≤ 0 → PassedOn grid floor moves goal plane last before layers × SameFrom ((last + 1) * (grid.width * grid.height)) before layers
  passing_ends inside room layers shuts slate from t p l =
      let kept = passing_kept layers shuts slate from t p in (
        λ bytes fl. record {
          arrived = λ v h.
              p.over (last * (grid.width * grid.height) + v) (omega arith)
              ∙ (a.layer.made v h
              ∙ ap (arrival goal level rest (λ w. get_or floor (1280 + w) 0) v) (m.made v h)
              ∙ arrival_same goal level rest (λ w. get_or floor (1280 + w) 0) (λ w. shut_if (not (is_open (lent_hall grid bytes) w))) v (mark_for moves last (get_or before (last * (grid.width * grid.height) + v) 0)) (fl.closed v h)
              ∙ ap (λ l. arrival goal l rest (λ w. shut_if (not (is_open (lent_hall grid bytes) w))) v (mark_for moves last (get_or before (last * (grid.width * grid.height) + v) 0))) k
              ∙ ap (λ x. arrival goal (arrives moves last) x (λ w. shut_if (not (is_open (lent_hall grid bytes) w))) v (mark_for moves last (get_or before (last * (grid.width * grid.height) + v) 0))) r);
          made = λ s v h i.
              let b = part_within s last (grid.width * grid.height) h in
              p.made bytes fl s v (omega arith) h i
              ∙ ap (λ x. rested moves goal s v (max (mark_for moves last x) (least_onward (lent_hall grid bytes) moves (λ w. get_or layers ((s + 1) * (grid.width * grid.height) + w) 0) v (get_or first (plane + s * (grid.width * grid.height) + v) 0)))) (first_under (s * (grid.width * grid.height) + v) (omega arith))
              ∙ ap (λ x. rested moves goal s v (max (mark_for moves last (get_or before (s * (grid.width * grid.height) + v) 0)) (least_onward (lent_hall grid bytes) moves (λ w. get_or layers ((s + 1) * (grid.width * grid.height) + w) 0) v x))) (first_over (plane + s * (grid.width * grid.height) + v) (omega arith));
        },
        kept,
      )
