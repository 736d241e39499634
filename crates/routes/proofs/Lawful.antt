-- What the route check looks at, step by step, is what makes a route lawful: a wrong start, move or goal is wrong at its
-- step, and a start that checks 1 to 6 passed is open.
-- Assumes nothing.
use Prim.Native.Nat.{ℕ, zero, suc, ◌+◌, ◌-◌, ◌≤◌, ◌<◌}
use mathlib.Core.Path.{◌≡◌, refl}
use mathlib.Core.Logic.{◌↔◌, ◌⊎◌, inl, inr}
use mathlib.Core.Bool.{false, not, ◌&&◌}
use mathlib.Core.List.Memᴰ
use mathlib.Core.List.{List, Memᴰ}
use native.Mathlib.Numerals.{add-one}
use native.Mathlib.Omega.{arith}
use lib.Dec.{T, eqb, eqb→eq, eqb_refl, eqb-suc-zero, T_not}
use lib.ListN.{length}
use Rattle.lists.specs.Lists.{any_of}
use Rattle.lists.proofs.Passing.{any_member, member_any}
use Rattle.lists.proofs.Tests.{and_both, both_and, or_either, or_left, or_right, is_false, of_false, passes, eq_test}
use Rattle.hall.specs.Hall.{Hall, is_open}
use Rattle.hall.specs.Moves.{may_follow}
use Rattle.hall.specs.Near.{Neighbours}
use Rattle.hall.proofs.Reach.{follow_reaches, reach_neighbours}
use Rattle.job.specs.Job.{Job}
use Rattle.job.specs.Verdict.{judge, IsAccepted}
use Rattle.job.proofs.Accepted.{accepted_facts}
use Rattle.routes.specs.Route.{Lawful, cell_of}
use Rattle.routes.specs.Check.{wrong_move, wrong_arrival, wrong_at}

-- ---- the tests of a step

follow_passes : (hall : Hall) (u v : ℕ) → Memᴰ v (may_follow hall u) → T (wrong_move hall u v) → ⊥
unfolding wrong_move
follow_passes hall u v m w = T_not (any_of (eqb v) (may_follow hall u)) w (member_any (eqb v) (may_follow hall u) m (eqb_refl v))

passes_follow : (hall : Hall) (u v : ℕ) → (T (wrong_move hall u v) → ⊥) → Memᴰ v (may_follow hall u)
unfolding wrong_move
passes_follow hall u v f =
    let (x, m, t) = any_member (eqb v) (may_follow hall u) (passes (any_of (eqb v) (may_follow hall u)) f) in
    Memᴰ.cast (eqb→eq v x t) m

module _ (job : Job) (i : ℕ) where
  arrival_start : (cell : ℕ → ℕ) → wrong_arrival job i cell 0 ≡ not (eqb (cell 0) (job.start_of i))
  unfolding wrong_arrival
  arrival_start cell = refl

  arrival_move : (cell : ℕ → ℕ) (t : ℕ) → wrong_arrival job i cell (suc t) ≡ wrong_move job.hall (cell t) (cell (suc t))
  unfolding wrong_arrival
  arrival_move cell t = let e : suc t - 1 ≡ t = omega arith in rw (eqb-suc-zero t, wrong_arrival) (rw e)

  -- step t arrives right, and is on the goal if it is the last
  unfoldable RightAt : (ℕ → ℕ) → ℕ → Type 0
  RightAt cell t = (T (wrong_arrival job i cell t) → ⊥) × (t ≡ job.horizon → cell t ≡ job.goal_of i)

  right_at : (cell : ℕ → ℕ) (t : ℕ) → wrong_at job i cell t ≡ false → RightAt cell t
  unfolding wrong_at RightAt
  right_at cell t e = (
    λ w. of_false e (or_left (wrong_arrival job i cell t) (eqb t job.horizon && not (eqb (cell t) (job.goal_of i))) w),
    λ q. eqb→eq (cell t) (job.goal_of i)
        (passes (eqb (cell t) (job.goal_of i))
        (λ w. of_false e
        (or_right (wrong_arrival job i cell t) (eqb t job.horizon && not (eqb (cell t) (job.goal_of i)))
        (both_and (eqb t job.horizon) (not (eqb (cell t) (job.goal_of i))) (eq_test t job.horizon q) w)))),
  )

  at_right : (cell : ℕ → ℕ) (t : ℕ) → RightAt cell t → wrong_at job i cell t ≡ false
  unfolding wrong_at RightAt
  at_right cell t f = is_false (λ w. go (or_either (wrong_arrival job i cell t) (eqb t job.horizon && not (eqb (cell t) (job.goal_of i))) w))
    where
      go : T (wrong_arrival job i cell t) ⊎ T (eqb t job.horizon && not (eqb (cell t) (job.goal_of i))) → ⊥
      go (inl w) = f.0 w
      go (inr w) =
          let b = and_both (eqb t job.horizon) (not (eqb (cell t) (job.goal_of i))) w in
          T_not (eqb (cell t) (job.goal_of i)) b.1 (eq_test (cell t) (job.goal_of i) (f.1 (eqb→eq t job.horizon b.0)))

  module _ (r : List ℕ) where
    lawful_arrives : Lawful job i r → (t : ℕ) → t ≤ job.horizon → T (wrong_arrival job i (cell_of r) t) → ⊥
    lawful_arrives f zero h w = T_not (eqb (cell_of r 0) (job.start_of i)) (rw (arrival_start (cell_of r)) at w) (eq_test (cell_of r 0) (job.start_of i) f.starts)
    lawful_arrives f (suc t) h w =
        follow_passes job.hall (cell_of r t) (cell_of r (suc t)) (rw add-one at (f.follows t h)) (rw (arrival_move (cell_of r) t) at w)

    lawful_right_everywhere : Lawful job i r → (t : ℕ) → t ≤ job.horizon → wrong_at job i (cell_of r) t ≡ false
    unfolding RightAt
    lawful_right_everywhere f t h = at_right (cell_of r) t (lawful_arrives f t h, λ e. rw e f.ends)

    right_everywhere_is_lawful : T (is_open job.hall (job.start_of i)) → length r ≡ job.horizon + 1 → ((t : ℕ) → t ≤ job.horizon → wrong_at job i (cell_of r) t ≡ false) → Lawful job i r
    unfolding RightAt
    right_everywhere_is_lawful opens long f =
        let starts : cell_of r 0 ≡ job.start_of i = eqb→eq (cell_of r 0) (job.start_of i) (passes (eqb (cell_of r 0) (job.start_of i)) (λ w. (right 0 (omega arith)).0 (rw (arrival_start (cell_of r)) w))) in
        record {
          long = long;
          starts = starts;
          opens = rw starts opens;
          follows = λ t h. rw add-one (passes_follow job.hall (cell_of r t) (cell_of r (suc t)) (λ w. (right (suc t) h).0 (rw (arrival_move (cell_of r) t) w)));
          ends = (right job.horizon (omega arith)).1 refl;
        }
      where
        right : (t : ℕ) → t ≤ job.horizon → RightAt (cell_of r) t
        right t h = right_at (cell_of r) t (f t h)

    pub right_everywhere_lawful : IsAccepted job → i < job.count → Lawful job i r ↔ ((length r ≡ job.horizon + 1) × ((t : ℕ) → t ≤ job.horizon → wrong_at job i (cell_of r) t ≡ false))
    unfolding judge
    right_everywhere_lawful accepted h =
        (λ f. (f.long, lawful_right_everywhere f), λ f. right_everywhere_is_lawful ((accepted_facts false job accepted).start_open i h) f.0 f.1)

-- a step of a lawful route stays, or leads to a neighbour
pub lawful_step : (job : Job) (i : ℕ) (r : List ℕ) → Lawful job i r → (t : ℕ) → t < job.horizon → (cell_of r (t + 1) ≡ cell_of r t) ⊎ Neighbours job.hall.width (cell_of r (t + 1)) (cell_of r t)
lawful_step job i r law t l =
    reach_neighbours job.hall (cell_of r t) (cell_of r (t + 1)) (follow_reaches job.hall (cell_of r t) (cell_of r (t + 1)) (law.follows t l))
