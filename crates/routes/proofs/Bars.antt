-- A bar and its tests: a list of cells obeys a bar exactly where no step of it passes the bar's test of cells, and no pair
-- of steps the test of ways. So `may_stand` and `may_turn` leave what the bars leave.
-- Assumes nothing.
use Prim.Native.Nat.{ℕ, ◌+◌, ◌≤◌, ◌<◌}
use mathlib.Core.Path.{◌≡◌, refl}
use mathlib.Core.Bool.{not, ◌&&◌}
use mathlib.Core.List.{List, Memᴰ}
use native.Mathlib.Omega.{arith}
use lib.Dec.{T, leb, eqb, leb→le, le→leb, eqb→eq}
use Rattle.lists.specs.Lists.{any_of}
use Rattle.lists.proofs.Members.{keep_member, member_keep}
use Rattle.lists.proofs.Orders.{ordered_keep, Rising}
use Rattle.lists.proofs.Passing.{none_passes, pass_none}
use Rattle.lists.proofs.Tests.{and_both, both_and, eq_test}
use Rattle.hall.specs.Hall.{Hall, is_open}
use Rattle.hall.specs.Moves.{reach}
use Rattle.hall.proofs.Reach.{reach_rises}
use Rattle.routes.specs.Route.{cell_of}
use Rattle.routes.specs.Bars.{ObeysBar, bars_cell, bars_way, may_stand, may_turn}
use Rattle.routes.specs.declared.Bar.{Bar}
use Rattle.routes.specs.declared.Bar.TheVariants.{Free, Stay, Cross}

-- ---- a bar is obeyed where its tests fail

pub obeys_cell : (h : ℕ) (r : List ℕ) (b : Bar) → ObeysBar h r b → (t : ℕ) → t ≤ h → T (bars_cell t (cell_of r t) b) → ⊥
unfolding ObeysBar bars_cell
obeys_cell h r Free o t k p = p
obeys_cell h r (Stay v a b) o t k p =
    let x = and_both (eqb (cell_of r t) v) (leb a t && leb t b) p in
    let y = and_both (leb a t) (leb t b) x.1 in
    o t (leb→le a t y.0) (leb→le t b y.1) k (eqb→eq (cell_of r t) v x.0)
obeys_cell h r (Cross u v s) o t k p = p

pub obeys_way : (h : ℕ) (r : List ℕ) (b : Bar) → ObeysBar h r b → (t : ℕ) → t < h → T (bars_way t (cell_of r t) (cell_of r (t + 1)) b) → ⊥
unfolding ObeysBar bars_way
obeys_way h r Free o t k p = p
obeys_way h r (Stay v a b) o t k p = p
obeys_way h r (Cross u v s) o t k p =
    let x = and_both (eqb t s) (eqb (cell_of r t) u && eqb (cell_of r (t + 1)) v) p in
    let y = and_both (eqb (cell_of r t) u) (eqb (cell_of r (t + 1)) v) x.1 in
    let e : t ≡ s = eqb→eq t s x.0 in
    o (omega arith) (rw (← e) (eqb→eq (cell_of r t) u y.0)) (rw (← e) (eqb→eq (cell_of r (t + 1)) v y.1))

pub tests_obey : (h : ℕ) (r : List ℕ) (b : Bar) → ((t : ℕ) → t ≤ h → T (bars_cell t (cell_of r t) b) → ⊥) → ((t : ℕ) → t < h → T (bars_way t (cell_of r t) (cell_of r (t + 1)) b) → ⊥) → ObeysBar h r b
unfolding ObeysBar bars_cell bars_way
tests_obey h r Free cells ways = tt
tests_obey h r (Stay v a b) cells ways = λ t l m k e.
    cells t k
    (both_and (eqb (cell_of r t) v) (leb a t && leb t b) (eq_test (cell_of r t) v e)
    (both_and (leb a t) (leb t b) (le→leb a t l) (le→leb t b m)))
tests_obey h r (Cross u v s) cells ways = λ k e f.
    ways s k
    (both_and (eqb s s) (eqb (cell_of r s) u && eqb (cell_of r (s + 1)) v) (eq_test s s refl)
    (both_and (eqb (cell_of r s) u) (eqb (cell_of r (s + 1)) v) (eq_test (cell_of r s) u e) (eq_test (cell_of r (s + 1)) v f)))

-- ---- where a carrier may stand and turn

module _ (hall : Hall) (bars : List Bar) (t : ℕ) where
  pub stand_opens : (v : ℕ) → T (may_stand hall bars t v) → T (is_open hall v)
  unfolding may_stand
  stand_opens v h = (and_both (is_open hall v) (not (any_of (bars_cell t v) bars)) h).0

  pub stand_unbarred : (v : ℕ) → T (may_stand hall bars t v) → (b : Bar) → Memᴰ b bars → T (bars_cell t v b) → ⊥
  unfolding may_stand
  stand_unbarred v h b m = none_passes (bars_cell t v) bars (and_both (is_open hall v) (not (any_of (bars_cell t v) bars)) h).1 m

  pub unbarred_stand : (v : ℕ) → T (is_open hall v) → ((b : Bar) → Memᴰ b bars → T (bars_cell t v b) → ⊥) → T (may_stand hall bars t v)
  unfolding may_stand
  unbarred_stand v h f = both_and (is_open hall v) (not (any_of (bars_cell t v) bars)) h (pass_none (bars_cell t v) bars f)

  pub turn_reaches : (u v : ℕ) → Memᴰ v (may_turn hall bars t u) → Memᴰ v (reach hall u)
  unfolding may_turn
  turn_reaches u v m = (keep_member (λ w. not (any_of (bars_way t u w) bars)) (reach hall u) m).0

  pub turn_unbarred : (u v : ℕ) → Memᴰ v (may_turn hall bars t u) → (b : Bar) → Memᴰ b bars → T (bars_way t u v b) → ⊥
  unfolding may_turn
  turn_unbarred u v m b n = none_passes (bars_way t u v) bars (keep_member (λ w. not (any_of (bars_way t u w) bars)) (reach hall u) m).1 n

  pub unbarred_turn : (u v : ℕ) → Memᴰ v (reach hall u) → ((b : Bar) → Memᴰ b bars → T (bars_way t u v b) → ⊥) → Memᴰ v (may_turn hall bars t u)
  unfolding may_turn
  unbarred_turn u v m f = member_keep (λ w. not (any_of (bars_way t u w) bars)) (reach hall u) m (pass_none (bars_way t u v) bars f)

  pub may_turn_rises : (u : ℕ) → Rising (may_turn hall bars t u)
  unfolding may_turn Rising
  may_turn_rises u = ordered_keep (λ x y. x < y) (λ w. not (any_of (bars_way t u w) bars)) (reach hall u) (reach_rises hall u)
