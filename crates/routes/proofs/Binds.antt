-- Laws of bars: which bind a carrier when one more is set, what it is to obey one more, and that a route obeys a bar or breaks
-- it at a step that can be named. Assumes nothing.
use Prim.Native.Nat.{ℕ, suc, ◌+◌, ◌≤◌, ◌<◌}
use native.Mathlib.Omega.{arith}
use native.Mathlib.Decide.{ℕ_discrete, dec_lt}
use mathlib.Core.Path.{◌≡◌, refl, sym, subst}
use mathlib.Core.Logic.{◌⊎◌, inl, inr, ⊎_elim}
use mathlib.Core.Bool.{Bool, ◌&&◌}
use mathlib.Core.List.Memᴰ
use mathlib.Core.List.{List, [], ◌∷◌, Memᴰ}
use borrow.Author.Tests.{eq-eqb, ne_eqb}
use lib.Dec.{T, leb, eqb, le→leb, leb→le, eqb→eq}
use Rattle.lists.specs.Lists.{range, only, any_of}
use Rattle.lists.proofs.Tests.{either, and_both, both_and, eq_test}
use Rattle.lists.proofs.Members.{range_member, member_range}
use Rattle.lists.proofs.Passing.{any_member, member_any}
use Rattle.routes.specs.Route.{cell_of}
use Rattle.routes.specs.Bars.{Barred, bars_for, ObeysBar, Obeys}
use Rattle.routes.specs.declared.Bar.{Bar}
use Rattle.routes.specs.declared.Bar.TheVariants.{Stay, Cross}

-- ---- which bars bind

pub own_bar_binds : (b : Barred) (bs : List Barred) → bars_for b.carrier (b ∷ bs) ≡ b.bar ∷ bars_for b.carrier bs
unfolding bars_for only
own_bar_binds b bs = rw (eq-eqb b.carrier b.carrier refl)

pub other_bar_binds_not : (b : Barred) (bs : List Barred) (i : ℕ) → (i ≡ b.carrier → ⊥) → bars_for i (b ∷ bs) ≡ bars_for i bs
unfolding bars_for only
other_bar_binds_not b bs i h = rw (ne_eqb b.carrier i (λ e. h (sym e)))

-- ---- one bar more

pub obeys_one_more : (h : ℕ) (r : List ℕ) (b : Bar) (bs : List Bar) → ObeysBar h r b → Obeys h r bs → Obeys h r (b ∷ bs)
unfolding Obeys
obeys_one_more h r b bs o os = λ c m. ⊎_elim (λ (e : c ≡ b). subst (ObeysBar h r) (sym e) o) (λ (k : Memᴰ c bs). os c k) (Memᴰ.cases_cons m)

pub obeys_none : (h : ℕ) (r : List ℕ) → Obeys h r []
unfolding Obeys
obeys_none h r = λ c m. absurd (Memᴰ.not-nil m)

-- ---- obeyed, or broken at a named step

-- a step from a to b, at most h, at which the route is on v
pub record Visits (h : ℕ) (r : List ℕ) (v a b : ℕ) : Type 0 where
  pub step : ℕ
  pub after : a ≤ step
  pub before : step ≤ b
  pub inside : step ≤ h
  pub there : cell_of r step ≡ v

visits_at : List ℕ → ℕ → ℕ → ℕ → ℕ → Bool
visits_at r v a b t = eqb (cell_of r t) v && (leb a t && leb t b)

pub obeys_or_visits : (h : ℕ) (r : List ℕ) (v a b : ℕ) → ObeysBar h r (Stay v a b) ⊎ Visits h r v a b
unfolding ObeysBar visits_at
obeys_or_visits h r v a b = go (either (any_of (visits_at r v a b) (range 0 (suc h))))
  where
    found : T (any_of (visits_at r v a b) (range 0 (suc h))) → Visits h r v a b
    found f =
        let (t, m, p) = any_member (visits_at r v a b) (range 0 (suc h)) f in
        let (e, q) = and_both (eqb (cell_of r t) v) (leb a t && leb t b) p in
        let (x, y) = and_both (leb a t) (leb t b) q in
        let w = range_member 0 (suc h) m in
        record { step = t; after = leb→le a t x; before = leb→le t b y; inside = omega arith; there = eqb→eq (cell_of r t) v e }

    go : T (any_of (visits_at r v a b) (range 0 (suc h))) ⊎ (T (any_of (visits_at r v a b) (range 0 (suc h))) → ⊥) → ObeysBar h r (Stay v a b) ⊎ Visits h r v a b
    go (inl f) = inr (found f)
    go (inr n) =
        inl (λ t l k w e.
        n (member_any (visits_at r v a b) (range 0 (suc h)) (member_range {x = t} 0 (suc h) (omega arith) (omega arith))
        (both_and (eqb (cell_of r t) v) (leb a t && leb t b) (eq_test (cell_of r t) v e)
        (both_and (leb a t) (leb t b) (le→leb a t l) (le→leb t b k)))))

-- the route goes from u to v between t and t + 1
pub record Crosses (h : ℕ) (r : List ℕ) (u v t : ℕ) : Type 0 where
  pub inside : t < h
  pub leaves : cell_of r t ≡ u
  pub arrives : cell_of r (t + 1) ≡ v

pub obeys_or_crosses : (h : ℕ) (r : List ℕ) (u v t : ℕ) → ObeysBar h r (Cross u v t) ⊎ Crosses h r u v t
unfolding ObeysBar
obeys_or_crosses h r u v t = go (dec_lt t h) (ℕ_discrete (cell_of r t) u) (ℕ_discrete (cell_of r (t + 1)) v)
  where
    go : Dec (t < h) → Dec (cell_of r t ≡ u) → Dec (cell_of r (t + 1) ≡ v) → ObeysBar h r (Cross u v t) ⊎ Crosses h r u v t
    go (yes a) (yes b) (yes c) = inr (record { inside = a; leaves = b; arrives = c })
    go (yes a) (yes b) (no c) = inl (λ _ _ x. c x)
    go (yes a) (no b) c = inl (λ _ x _. b x)
    go (no a) b c = inl (λ x _ _. a x)
