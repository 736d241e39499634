-- `best_route` finds document 01's best route under the bars: the routes that the bars leave are the ways of `may_stand` and
-- `may_turn` from the start, step by step, and of these `best_way` finds the best. There is but one such answer.
-- Assumes nothing.
use Prim.Native.Nat.{ℕ, zero, suc, ◌+◌, ◌≤◌, ◌<◌}
use mathlib.Core.Path.{◌≡◌}
use mathlib.Core.List.{List, Memᴰ}
use mathlib.Core.Option.{Option, none, some}
use native.Mathlib.Nat.{zero-add}
use native.Mathlib.Numerals.{add-one}
use native.Mathlib.Omega.{arith}
use lib.Dec.{T}
use lib.ListN.{length}
use Rattle.hall.specs.Hall.{is_open}
use Rattle.hall.proofs.Reach.{follow_opens, follow_reaches, reach_follows}
use Rattle.job.specs.Job.{Job}
use Rattle.routes.specs.Route.{Lawful, cell_of}
use Rattle.routes.specs.Bars.{Obeys, may_stand, may_turn}
use Rattle.routes.specs.Best.{Allowed, RightRoute, best_route}
use Rattle.routes.specs.declared.Bar.{Bar}
use Rattle.routes.proofs.Bars.{obeys_cell, obeys_way, tests_obey, stand_opens, stand_unbarred, unbarred_stand, turn_reaches, turn_unbarred, unbarred_turn, may_turn_rises}
use Rattle.routes.proofs.Finding.{Finds, finds_same, finds_unique}
use Rattle.routes.proofs.Way.{Runs, Right, way_stands, way_turns, way_ends, steps_way, best_way_right}

-- ---- one bar more, one bar less

-- a lawful route stands on open cells
pub lawful_opens : (job : Job) (i : ℕ) (r : List ℕ) → Lawful job i r → (t : ℕ) → t ≤ job.horizon → T (is_open job.hall (cell_of r t))
lawful_opens job i r f zero h = f.opens
lawful_opens job i r f (suc t) h = rw add-one at (follow_opens job.hall (cell_of r t) (cell_of r (t + 1)) (f.follows t h))

-- ---- routes that the bars leave are ways

module _ (job : Job) (i : ℕ) (bars : List Bar) where
  -- a way of carrier i from its start
  abbrev pub Ways : List ℕ → Type 0
  Ways r = Runs (may_stand job.hall bars) (may_turn job.hall bars) (job.goal_of i) job.horizon 0 (job.start_of i) r

  allowed_runs : (r : List ℕ) → Allowed job i bars r → Ways r
  unfolding Obeys
  allowed_runs r f =
      let long : length r ≡ suc job.horizon = omega (arith, f.lawful.long) in
      record {
        long = long;
        begins = f.lawful.starts;
        way =
            steps_way (may_stand job.hall bars) (may_turn job.hall bars) (job.goal_of i) job.horizon 0 r long
            (record {
              stands = λ t h. rw zero-add
                  (unbarred_stand job.hall bars t (cell_of r t) (lawful_opens job i r f.lawful t h)
                  (λ b m. obeys_cell job.horizon r b (f.obeys b m) t h));
              turns = λ t h. rw (zero-add, ← add-one)
                  (unbarred_turn job.hall bars t (cell_of r t) (cell_of r (t + 1)) (follow_reaches job.hall (cell_of r t) (cell_of r (t + 1)) (f.lawful.follows t h))
                  (λ b m. obeys_way job.horizon r b (f.obeys b m) t h));
              ends = f.lawful.ends;
            });
      }

  runs_allowed : (r : List ℕ) → Ways r → Allowed job i bars r
  unfolding Obeys
  runs_allowed r f =
      record {
        lawful =
            record {
              long = omega (arith, f.long);
              starts = f.begins;
              opens = opens 0 (omega arith);
              follows = λ t h. reach_follows job.hall (cell_of r t) (cell_of r (t + 1)) (turn_reaches job.hall bars t (cell_of r t) (cell_of r (t + 1)) (turns t h)) (opens (t + 1) (omega arith));
              ends = way_ends (may_stand job.hall bars) (may_turn job.hall bars) (job.goal_of i) 0 r f.way job.horizon f.long;
            };
        obeys = λ b m.
            tests_obey job.horizon r b
            (λ t h. stand_unbarred job.hall bars t (cell_of r t) (stands t h) b m)
            (λ t h. turn_unbarred job.hall bars t (cell_of r t) (cell_of r (t + 1)) (turns t h) b m);
      }
    where
      stands : (t : ℕ) → t ≤ job.horizon → T (may_stand job.hall bars t (cell_of r t))
      stands t h = rw zero-add at (way_stands (may_stand job.hall bars) (may_turn job.hall bars) (job.goal_of i) 0 r f.way t (omega (arith, f.long)))

      turns : (t : ℕ) → t < job.horizon → Memᴰ (cell_of r (t + 1)) (may_turn job.hall bars t (cell_of r t))
      turns t h = rw add-one (rw zero-add at (way_turns (may_stand job.hall bars) (may_turn job.hall bars) (job.goal_of i) 0 r f.way t (omega (arith, f.long))))

      opens : (t : ℕ) → t ≤ job.horizon → T (is_open job.hall (cell_of r t))
      opens t h = stand_opens job.hall bars t (cell_of r t) (stands t h)

  -- ---- the right route

  finds_right : (o : Option (List ℕ)) → Finds (job.goal_of i) (Allowed job i bars) o → RightRoute job i bars o
  unfolding Finds RightRoute
  finds_right none f = f
  finds_right (some r) f = record { allowed = f.inside; least = f.least; fewest = f.fewest; first = f.first }

  right_finds : (o : Option (List ℕ)) → RightRoute job i bars o → Finds (job.goal_of i) (Allowed job i bars) o
  unfolding Finds RightRoute
  right_finds none f = f
  right_finds (some r) f = record { inside = f.allowed; least = f.least; fewest = f.fewest; first = f.first }

  -- rule 2 of the search tree
  pub best_is_right : RightRoute job i bars (best_route job i bars)
  unfolding best_route Right
  best_is_right =
      finds_right (best_route job i bars)
      (finds_same (job.goal_of i) Ways (Allowed job i bars) runs_allowed allowed_runs (best_route job i bars)
      (best_way_right (may_stand job.hall bars) (may_turn job.hall bars) (job.goal_of i) (may_turn_rises job.hall bars) job.horizon 0 (job.start_of i)))

  pub right_unique : (o p : Option (List ℕ)) → RightRoute job i bars o → RightRoute job i bars p → o ≡ p
  right_unique o p f g = finds_unique (job.goal_of i) (Allowed job i bars) o p (right_finds o f) (right_finds p g)
