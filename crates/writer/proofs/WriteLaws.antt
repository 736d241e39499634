-- What is written at each step, then the way that is read from there, is the whole route: a step on writes one cell, and where no step or no
-- move is left the rest stays. Assumes nothing.
use Prim.Native.Nat.{ℕ, zero, suc, ◌+◌, ◌-◌, ◌*◌, ◌≤◌, ◌<◌}
use native.Mathlib.Omega.{arith}
use native.Mathlib.Numerals.{add-one}
use mathlib.Core.Path.{◌≡◌, refl, sym, ap, ◌∙◌}
use mathlib.Core.List.{List, ◌∷◌, ◌++◌, append_assoc, append-nil}
use lib.ListN.{length, length-drop, get_or, take, drop, set, replicate, length-set, drop_of_length-le}
use lib.Seq.{take-suc-set, take_all}
use borrow.Author.Tests.{eq-eqb, ne_eqb}
use borrow.Rule.Slice.PartMut.{put_mid}
use Rattle.writer.specs.Write.{stepped_to, read_way, read_route}
use Rattle.writer.proofs.TurnLaws.{stepped_inside}

module _ (width height h : ℕ) (layers : List ℕ) where
  abbrev byte : ℕ → ℕ → ℕ
  byte t v = get_or layers (t * (width * height) + v) 0

  -- v is to be written at t, and what is written is before it
  pub record Writing (start t v : ℕ) (stretch : List ℕ) : Type 0 where
    pub within : t ≤ h
    pub inside : v < width * height
    pub long : length stretch ≡ h + 1
    pub joined : read_route width height h layers start ≡ take t stretch ++ read_way width height h layers (h - t) t v

  -- ---- a move is left

  read_on : (n t v : ℕ) → (byte t v ≡ 0 → ⊥) → read_way width height h layers (suc n) t v ≡ v ∷ read_way width height h layers n (t + 1) (stepped_to width height h layers t v)
  unfolding read_way
  read_on n t v e = rw (ne_eqb (byte t v) 0 e, read_way)

  pub write_turn : (start t v w : ℕ) (stretch : List ℕ) → Writing start t v stretch → t < h → (byte t v ≡ 0 → ⊥) → w ≡ stepped_to width height h layers t v → Writing start (t + 1) w (set stretch t v)
  write_turn start t v w stretch f before left s =
      let one : h - t ≡ suc (h - (t + 1)) = omega arith in
      rw s (record {
        within = omega arith;
        inside = stepped_inside width height h layers t v f.inside;
        long = length-set stretch t v ∙ f.long;
        joined = f.joined ∙ ap (λ n. take t stretch ++ read_way width height h layers n t v) one ∙ ap (λ x. take t stretch ++ x) (read_on (h - (t + 1)) t v left) ∙ sym (rw (add-one, take-suc-set stretch t v (omega (arith, f.long)), append_assoc));
      })

  -- ---- none is

  read_stays : (n t v : ℕ) → byte t v ≡ 0 → read_way width height h layers n t v ≡ replicate (suc n) v
  unfolding read_way
  read_stays zero t v e = refl
  read_stays (suc n) t v e = rw (eq-eqb (byte t v) 0 e, read_way)

  -- the rest of the stretch is filled
  pub write_stays : (start t v : ℕ) (stretch rest : List ℕ) → Writing start t v stretch → byte t v ≡ 0 → rest ≡ replicate (length stretch - t) v → put_mid t (length stretch - t) stretch rest ≡ read_route width height h layers start
  write_stays start t v stretch rest f e r =
      let n : length stretch - t ≡ suc (h - t) = omega (arith, f.long, f.within) in
      let past : length (drop t stretch) ≤ length stretch - t = omega (arith, length-drop t stretch) in
      rw (drop_of_length-le (drop t stretch) past, append-nil, r, n)
      (ap (λ r. take t stretch ++ r) (sym (read_stays (h - t) t v e)) ∙ sym f.joined)

  -- ---- no step is

  pub write_ends : (start t v : ℕ) (stretch : List ℕ) → Writing start t v stretch → t ≡ h → set stretch h v ≡ read_route width height h layers start
  unfolding read_way
  write_ends start t v stretch f e =
      let whole : length (set stretch h v) ≤ suc h = omega (arith, length-set stretch h v, f.long) in
      let none : h - t ≡ 0 = omega arith in
      sym (take_all (suc h) (set stretch h v) whole) ∙ take-suc-set stretch h v (omega (arith, f.long))
      ∙ sym (f.joined ∙ rw (none, e) refl)
