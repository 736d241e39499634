-- The tests of rule 5 and what they mean, one pair of laws each: a test is a row of comparisons joined by 'and'.
-- Assumes nothing.
use Prim.Native.Nat.{ℕ, ◌+◌, ◌<◌}
use mathlib.Core.Path.{◌≡◌, refl}
use mathlib.Core.Bool.{true, false, ◌&&◌}
use native.Mathlib.Omega.{arith}
use lib.Dec.{T, leb, ltb, eqb, leb→le, le→leb, ltb→lt, lt→ltb, eqb→eq}
use borrow.Author.Tests.{eqb-true, eqb-false, eq-eqb, ne_eqb}
use Rattle.lists.proofs.Tests.{and_both, both_and, eq_test}
use Rattle.clashes.specs.Clash.{Travel, Meets, Swaps}
use Rattle.clashes.specs.Chosen.{written, meets, swaps}

-- ---- 'For D = 0 write the smaller number first.'

written_tells : (d i j : ℕ) → T (written d i j) → (i ≡ j → ⊥) × (d ≡ 0 → i < j)
unfolding written
written_tells d i j =
    (elim (eqb d 0) as (λ b. eqb d 0 ≡ b → T (written d i j) → (i ≡ j → ⊥) × (d ≡ 0 → i < j)) [
      | true ↦ λ e t. let less : i < j = ltb→lt i j (rw (e, written) at t) in (λ q. omega arith, λ _. less)
      | false ↦ λ e t. (λ q. rw (e, written, eq-eqb i j q) at t, λ z. absurd (eqb-false d 0 e z))
    ]) refl

tells_written : (d i j : ℕ) → (i ≡ j → ⊥) → (d ≡ 0 → i < j) → T (written d i j)
unfolding written
tells_written d i j ne less =
    (elim (eqb d 0) as (λ b. eqb d 0 ≡ b → T (written d i j))
    [ true ↦ λ e. rw (e, written) (lt→ltb i j (less (eqb-true d 0 e))) | false ↦ λ e. rw (e, written, ne_eqb i j ne) tt ]) refl

module _ (v : Travel) where
  -- ---- meetings

  pub meets_tells : (i j t d : ℕ) → T (meets v i j t d) → Meets v i j t d × (d ≡ 0 → i < j)
  unfolding meets
  meets_tells i j t d test =
      let w = and_both (written d i j) _ test in
      let n = and_both (leb d (v.slip i)) _ w.1 in
      let p = and_both (leb (t + d) v.horizon) _ n.1 in
      let order = written_tells d i j w.0 in
      (record { two = order.0; near = leb→le d (v.slip i) n.0; inside = leb→le (t + d) v.horizon p.0; same = eqb→eq (v.at i t) (v.at j (t + d)) p.1 }, order.1)

  pub tells_meets : (i j t d : ℕ) → Meets v i j t d → (d ≡ 0 → i < j) → T (meets v i j t d)
  unfolding meets
  tells_meets i j t d m less =
      both_and (written d i j) _ (tells_written d i j m.two less)
      (both_and (leb d (v.slip i)) _ (le→leb d (v.slip i) m.near)
      (both_and (leb (t + d) v.horizon) _ (le→leb (t + d) v.horizon m.inside) (eq_test (v.at i t) (v.at j (t + d)) m.same)))

  -- ---- swaps

  pub swaps_tells : (i j t : ℕ) → T (swaps v i j t) → Swaps v i j t × (i < j)
  unfolding swaps
  swaps_tells i j t test =
      let w = and_both (ltb i j) _ test in
      let s = and_both (eqb (v.slip i) 0 && eqb (v.slip j) 0) _ w.1 in
      let z = and_both (eqb (v.slip i) 0) _ s.0 in
      let p = and_both (leb (t + 1) v.horizon) _ s.1 in
      let x = and_both (eqb (v.at i t) (v.at j (t + 1))) _ p.1 in
      let less : i < j = ltb→lt i j w.0 in (
        record {
          two = λ q. omega arith;
          none_slips = (eqb→eq (v.slip i) 0 z.0, eqb→eq (v.slip j) 0 z.1);
          inside = leb→le (t + 1) v.horizon p.0;
          there = eqb→eq (v.at i t) (v.at j (t + 1)) x.0;
          back = eqb→eq (v.at j t) (v.at i (t + 1)) x.1;
        },
        less,
      )

  pub tells_swaps : (i j t : ℕ) → Swaps v i j t → i < j → T (swaps v i j t)
  unfolding swaps
  tells_swaps i j t s less =
      both_and (ltb i j) _ (lt→ltb i j less)
      (both_and (eqb (v.slip i) 0 && eqb (v.slip j) 0) _
      (both_and (eqb (v.slip i) 0) _ (eq_test (v.slip i) 0 s.none_slips.0) (eq_test (v.slip j) 0 s.none_slips.1))
      (both_and (leb (t + 1) v.horizon) _ (le→leb (t + 1) v.horizon s.inside)
      (both_and (eqb (v.at i t) (v.at j (t + 1))) _ (eq_test (v.at i t) (v.at j (t + 1)) s.there) (eq_test (v.at j t) (v.at i (t + 1)) s.back))))
