-- At most one of the five moves leads from a cell to another: the cells one move away rise with the moves, so no two are the same.
-- So where the code stops at the first that leads there, no other does. Assumes nothing.
use Prim.Native.Nat.{ℕ, zero, suc, ◌+◌, ◌/◌, ◌%◌, ◌≤◌, ◌<◌}
use native.Mathlib.Omega.{arith}
use native.Mathlib.Decide.{ℕ_discrete, dec_lt}
use mathlib.Core.Path.{◌≡◌, refl, sym, subst}
use mathlib.Core.Bool.{Bool, true, false}
use Rattle.std.specs.Prelude.{None, Some}
use Rattle.std.specs.List.{find, range_with_len}
use Rattle.std.proofs.lemmas.Option.{none-some}
use mathlib.Core.List.{[], Memᴰ}
use lib.Dec.{T, eqb, eqb→eq}
use Rattle.lists.specs.Lists.{range, each}
use Rattle.lists.proofs.Orders.{Rising, each_rises}
use Rattle.lists.proofs.Passing.{any_member}
use Rattle.lists.proofs.Tests.{is_false, of_true}
use Rattle.hall.specs.Moves.{landing, move_count, reach_from, reach}
use Rattle.hall.proofs.Reach.{reach_rises}
use Rattle.marks.specs.Post.{MoveTo, Leading, leads}

module _ (width height from to : ℕ) where
  leads_lands : (m : ℕ) → T (leads width height from to m) → Memᴰ to (landing width height (from / width) (from % width) m)
  leads_lands m h =
      let (w, n, e) = any_member (eqb to) (landing width height (from / width) (from % width) m) h in
      subst (λ x. Memᴰ x (landing width height (from / width) (from % width) m)) (sym (eqb→eq to w e)) n

  lands_once : (i j : ℕ) → i < j → j < move_count → T (leads width height from to i) → T (leads width height from to j) → ⊥
  lands_once i j h k p q =
      let l : to < to = each_rises (landing width height (from / width) (from % width)) 0 move_count (rises width height from) i j to to (omega arith) h (omega arith) (leads_lands i p) (leads_lands j q) in
      omega arith
    where
      rises : (width height from : ℕ) → Rising (each (landing width height (from / width) (from % width)) (range 0 move_count))
      rises width height from = unfold reach reach_from in reach_rises (record { width = width; height = height; bytes = [] }) from

  pub others_lead_not : (r : ℕ) → Leading width height from to r → (m : ℕ) → m < move_count → (m ≡ r → ⊥) → leads width height from to m ≡ false
  others_lead_not r f m k n =
      is_false (λ q. elim (dec_lt m r) [
        | yes l ↦ lands_once m r l f.listed q (of_true f.lands)
        | no l ↦ lands_once r m (omega (arith, l, n)) k (of_true f.lands) q
      ])

-- ---- what looking for the move tells

module _ (p : ℕ → Bool) where
  none_passes : (a n : ℕ) → None ≡ find p (range_with_len a n) → (k : ℕ) → a ≤ k → k < a + n → p k ≡ false
  none_passes a zero e k l h = absurd (omega arith)
  none_passes a (suc n) e k l h = go (p a) refl (λ x w. none_passes (a + 1) n x k w (omega arith))
    where
      go : (b : Bool) → p a ≡ b → (None ≡ find p (range_with_len (a + 1) n) → a + 1 ≤ k → p k ≡ false) → p k ≡ false
      go true q f = absurd (none-some a (rw q at e))
      go false q f = elim (ℕ_discrete k a) [ yes w ↦ rw w q | no w ↦ f (rw q at e) (omega (arith, w)) ]

  one_passes : (a n r : ℕ) → Some r ≡ find p (range_with_len a n) → (r < a + n) × (p r ≡ true)
  one_passes a zero r e = absurd (none-some r (sym e))
  one_passes a (suc n) r e = go (p a) refl (one_passes (a + 1) n r)
    where
      go : (b : Bool) → p a ≡ b → (Some r ≡ find p (range_with_len (a + 1) n) → (r < a + 1 + n) × (p r ≡ true)) → (r < a + suc n) × (p r ≡ true)
      go true q f = let w : r ≡ a = cc (rw q at e) in (omega arith, rw w q)
      go false q f = let w = f (rw q at e) in (omega (arith, w.0), w.1)

module _ (width height from to : ℕ) where
  pub none_leads : MoveTo width height from to None → (m : ℕ) → m < move_count → leads width height from to m ≡ false
  unfolding MoveTo
  none_leads e m h = none_passes (leads width height from to) 0 move_count e m (omega arith) h

  pub one_leads : (r : ℕ) → MoveTo width height from to (Some r) → Leading width height from to r
  unfolding MoveTo
  one_leads r e = let w = one_passes (leads width height from to) 0 move_count r e in record { listed = w.0; lands = w.1 }
