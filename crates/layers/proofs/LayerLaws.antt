-- One layer, cell by cell: what is read stands in one half of the slate, what is written in the other, so each cell is made of what the half
-- held at first. Assumes nothing.
use Prim.Native.Nat.{ℕ, ◌+◌, max, ◌≤◌, ◌<◌}
use native.Mathlib.Omega.{arith}
use native.Mathlib.Decide.{ℕ_discrete}
use mathlib.Core.Path.{◌≡◌, refl, sym, ap, ◌∙◌}
use mathlib.Core.Bool.{Bool}
use mathlib.Core.List.{List}
use mathlib.Core.Logic.{inl, inr}
use lib.ListN.{length, get_or, set, length-set}
use lib.Seq.{get_or-set_same, get_or-set_other}
use Rattle.lent.specs.Made.{Made}
use Rattle.lent.proofs.MadeLaws.{made_more, made_next}
use Rattle.hall.specs.Moves.{move_count}
use Rattle.layers.specs.Fill.{near_entry, shut_by, way_by, least_way, level_by, other_half, IsHalf, Pads}
use Rattle.layers.proofs.CellLaws.{near_within}

-- ---- halves

pub half_small : (from : ℕ) → IsHalf from → from ≤ 288
unfolding IsHalf
half_small from (inl e) = omega arith
half_small from (inr e) = omega arith

pub first_half : IsHalf 0
unfolding IsHalf
first_half = inl refl

pub half_turned : (from : ℕ) → IsHalf from → IsHalf (other_half from)
unfolding IsHalf
half_turned from (inl e) = inr (omega arith)
half_turned from (inr e) = inl (omega arith)

-- what lies in one half does not lie in the other
pub halves_apart : (from x y : ℕ) → IsHalf from → from ≤ x → x < from + 288 → y < 288 → x ≡ other_half from + y → ⊥
unfolding IsHalf
halves_apart from x y (inl e) l h k q = absurd (omega arith)
halves_apart from x y (inr e) l h k q = absurd (omega arith)

-- an entry of a cell is no pad
pub pads_kept : (n : ℕ) (slate : List ℕ) (from v x : ℕ) → IsHalf from → v < n → n ≤ 256 → Pads n slate → Pads n (set slate (from + 16 + v) x)
unfolding IsHalf
pads_kept n slate from v x half low small p =
    record {
      above = λ to y i h. get_or-set_other slate (from + 16 + v) (to + y) x 0 (λ q. apart from to y half i (omega arith) (λ e. absurd (omega arith)) q) ∙ p.above to y i h;
      below = λ to y i l h. get_or-set_other slate (from + 16 + v) (to + y) x 0 (λ q. apart from to y half i h (λ e. absurd (omega arith)) q) ∙ p.below to y i l h;
    }
  where
    -- an entry of a half is one of the other only if both halves are one
    apart : (from to y : ℕ) → IsHalf from → IsHalf to → y < 288 → (y ≡ 16 + v → ⊥) → to + y ≡ from + 16 + v → ⊥
    apart from to y (inl e) (inl k) h n q = n (omega arith)
    apart from to y (inl e) (inr k) h n q = absurd (omega arith)
    apart from to y (inr e) (inl k) h n q = absurd (omega arith)
    apart from to y (inr e) (inr k) h n q = n (omega arith)

-- ---- a level is made of the half that is read

module _ (moves crossing : Bool) (shuts : List ℕ) (width from : ℕ) where
  level_same : 1 ≤ width → width ≤ 16 → (a b : List ℕ) → ((x : ℕ) → from ≤ x → x < from + 288 → get_or b x 0 ≡ get_or a x 0) → (v mark : ℕ) → v < 256 → level_by moves crossing b shuts width from v mark ≡ level_by moves crossing a shuts width from v mark
  unfolding level_by least_way way_by
  level_same some wide a b same v mark small = rw (way 0 (omega arith), way 1 (omega arith), way 2 (omega arith), way 3 (omega arith), way 4 (omega arith))
    where
      way : (m : ℕ) → m < move_count → way_by crossing b shuts width (from + 16 + v) v m ≡ way_by crossing a shuts width (from + 16 + v) v m
      way m l =
          let n = near_within width (from + 16 + v) m l some (omega arith) in
          ap (λ x. max x (shut_by crossing shuts v m)) (same (near_entry width (from + 16 + v) m) (omega (arith, n.0)) (omega (arith, n.1)))

  -- ---- cell by cell

  pub record Filling (n base : ℕ) (slate layers slate' layers' : List ℕ) (v : ℕ) : Type 0 where
    pub within : v ≤ n
    pub layer : Made base v (level_by moves crossing slate shuts width from) layers layers'
    pub copied : (w : ℕ) → w < v → get_or slate' (other_half from + 16 + w) 0 ≡ get_or layers' (base + w) 0
    pub read : (x : ℕ) → from ≤ x → x < from + 288 → get_or slate' x 0 ≡ get_or slate x 0
    pub long : length slate' ≡ length slate
    pub pads : Pads n slate → Pads n slate'

  module _ (n base : ℕ) (slate layers : List ℕ) where
    module _ (some : 1 ≤ width) (wide : width ≤ 16) (half : IsHalf from) (small : n ≤ 256) (room : base + n ≤ length layers) (size : length slate ≡ 576) (slate' layers' : List ℕ) (v : ℕ) (f : Filling n base slate layers slate' layers' v) (low : v < n) where
      abbrev level : ℕ
      level = level_by moves crossing slate' shuts width from v (get_or layers' (base + v) 0)

      level_is : level ≡ level_by moves crossing slate shuts width from v (get_or layers (base + v) 0)
      level_is =
          level_same some wide slate slate' f.read v (get_or layers' (base + v) 0) (omega arith)
          ∙ ap (level_by moves crossing slate shuts width from v) (made_next base v (level_by moves crossing slate shuts width from) layers layers' f.layer)

      copied_more : (w : ℕ) → w < v + 1 → Dec (w ≡ v) → get_or (set slate' (other_half from + 16 + v) level) (other_half from + 16 + w) 0 ≡ get_or (set layers' (base + v) level) (base + w) 0
      copied_more w h (yes e) =
          rw e
          (get_or-set_same slate' (other_half from + 16 + v) level 0 (omega (arith, f.long, size, half_small from half))
          ∙ sym (get_or-set_same layers' (base + v) level 0 (omega (arith, f.layer.long, room))))
      copied_more w h (no k) =
          get_or-set_other slate' (other_half from + 16 + v) (other_half from + 16 + w) level 0 (λ q. k (omega arith))
          ∙ (f.copied w (omega (arith, k)) ∙ sym (get_or-set_other layers' (base + v) (base + w) level 0 (λ q. k (omega arith))))

      pub filling_more : (slate'' layers'' : List ℕ) → layers'' ≡ set layers' (base + v) level → slate'' ≡ set slate' (other_half from + 16 + v) level → Filling n base slate layers slate'' layers'' (v + 1)
      filling_more slate'' layers'' e k =
          rw (e, k)
          (record {
            within = omega arith;
            layer = made_more base v (level_by moves crossing slate shuts width from) layers layers' f.layer (omega arith) level level_is;
            copied = λ w h. copied_more w h (ℕ_discrete w v);
            read = λ x l h. get_or-set_other slate' (other_half from + 16 + v) x level 0 (λ q. halves_apart from x (16 + v) half l h (omega arith) (omega arith)) ∙ f.read x l h;
            long = length-set slate' (other_half from + 16 + v) level ∙ f.long;
            pads = λ p. pads_kept n slate' (other_half from) v level (half_turned from half) low small (f.pads p);
          })
