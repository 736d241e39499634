-- What the tables keep past their least lengths when a record, a stretch or a route is written. Assumes nothing.
use Prim.Native.Nat.{ℕ, ◌+◌, ◌-◌, ◌*◌, ◌≤◌, ◌<◌}
use native.Mathlib.Omega.{arith}
use mathlib.Core.Path.{◌≡◌, sym, ap, subst, ◌∙◌}
use mathlib.Core.List.{List}
use mathlib.Core.Option.{Option, none, some}
use lib.ListN.{length, get_or, drop}
use lib.Seq.{paste, get_or-drop}
use Rattle.lent.proofs.Keeping.{same_from}
use Rattle.lent.specs.Lent.{SameFrom}
use Rattle.job.specs.Job.{Job, plan_length}
use Rattle.routes.specs.declared.Bar.{Bar}
use Rattle.routes.specs.Best.{best_route}
use Rattle.tables.specs.Post.{Recorded}
use Rattle.lists.proofs.Parts.{part_within, written, written-length, written_above, paste-written}
use Rattle.children.specs.declared.Task.{Task}
use Rattle.children.specs.Steps.{Ready}
use Rattle.children.specs.Written.{put_route}
use Rattle.children.proofs.Routing.{best_long}

-- ---- tails

tail_kept : (n : ℕ) (before after : List ℕ) → length after ≡ length before → drop n after ≡ drop n before → SameFrom n before after
tail_kept n before after long tail =
    record {
      long = long;
      rest = λ x h.
          let e : n + (x - n) ≡ x = omega arith in
          subst (λ (y : ℕ). get_or after y 0 ≡ get_or before y 0) e
          (sym (get_or-drop n after (x - n) 0) ∙ ap (λ (l : List ℕ). get_or l (x - n) 0) tail ∙ get_or-drop n before (x - n) 0);
    }

pub recorded_kept : (capacity : ℕ) (before : List ℕ) (x parent carrier : ℕ) (bar : Bar) (sum : ℕ) (after : List ℕ) → Recorded capacity before x parent carrier bar sum after → SameFrom (8 * capacity) before after
recorded_kept capacity before x parent carrier bar sum after r = tail_kept (8 * capacity) before after r.long r.tail

-- a record written over once more: only the second counts
pub recorded_again : (capacity : ℕ) (before : List ℕ) (x parent carrier : ℕ) (bar : Bar) (sum : ℕ) (first : List ℕ) → Recorded capacity before x parent carrier bar sum first → (parent' carrier' : ℕ) (bar' : Bar) (sum' : ℕ) (second : List ℕ) → Recorded capacity first x parent' carrier' bar' sum' second → Recorded capacity before x parent' carrier' bar' sum' second
recorded_again capacity before x parent carrier bar sum first p parent' carrier' bar' sum' second q =
    record {
      parent_is = q.parent_is;
      carrier_is = q.carrier_is;
      bar_is = q.bar_is;
      code_is = q.code_is;
      sum_is = q.sum_is;
      opened = q.opened;
      others = λ c y l n. q.others c y l n ∙ p.others c y l n;
      long = q.long ∙ p.long;
      tail = q.tail ∙ p.tail;
    }

written_kept : (n : ℕ) (xs : List ℕ) (a : ℕ) (ys : List ℕ) (k : ℕ) → length ys ≡ k → a + k ≤ n → n ≤ length xs → SameFrom n xs (written xs a ys k)
written_kept n xs a ys k long inside room =
    tail_kept n xs (written xs a ys k) (written-length xs a ys k long (omega arith)) (written_above xs a ys k long (omega arith) n inside)

-- ---- the plans

-- node x has a stretch of its own in the plans, and carrier i a part of it
pub stretch_within : (job : Job) (capacity x : ℕ) → x < capacity → x * plan_length job + plan_length job ≤ capacity * plan_length job
stretch_within job capacity x l = part_within x capacity (plan_length job) l

-- the root's is inside
pub first_within : (capacity stretch : ℕ) (plans : List ℕ) → 1 ≤ capacity → capacity * stretch ≤ length plans → 0 * stretch + stretch ≤ length plans
first_within capacity stretch plans one room = omega (arith, part_within 0 capacity stretch one)

pub route_within : (job : Job) (capacity x i : ℕ) → x < capacity → i < job.count → x * plan_length job + i * (job.horizon + 1) + (job.horizon + 1) ≤ capacity * plan_length job
route_within job capacity x i l k = omega (arith, stretch_within job capacity x l, part_within i job.count (job.horizon + 1) k)

pub copied_kept : (job : Job) (capacity x : ℕ) (plans stretch : List ℕ) → x < capacity → capacity * plan_length job ≤ length plans → length stretch ≡ plan_length job → SameFrom (capacity * plan_length job) plans (paste plans (x * plan_length job) stretch (plan_length job))
copied_kept job capacity x plans stretch l room long =
    let w = stretch_within job capacity x l in
    subst (SameFrom (capacity * plan_length job) plans) (sym (paste-written plans (x * plan_length job) stretch (plan_length job) long (omega arith)))
    (written_kept (capacity * plan_length job) plans (x * plan_length job) stretch (plan_length job) long w room)

module _ (job : Job) (capacity x i : ℕ) (l : x < capacity) (k : i < job.count) (plans : List ℕ) (room : capacity * plan_length job ≤ length plans) where
  pub put_kept : (bars : List Bar) (o : Option (List ℕ)) → best_route job i bars ≡ o → SameFrom (capacity * plan_length job) plans (put_route job plans x i o)
  unfolding put_route
  put_kept bars none e = same_from (capacity * plan_length job) plans
  put_kept bars (some r) e =
      written_kept (capacity * plan_length job) plans (x * plan_length job + i * (job.horizon + 1)) r (job.horizon + 1) (best_long job i bars r e) (route_within job capacity x i l k) room

-- ---- what the steps before have shown, after a step that keeps it

pub ready_still : (task : Task) (layers layers' : List ℕ) → length layers' ≡ length layers → Ready task layers → Ready task layers'
ready_still task layers layers' e ready =
    record {
      width_least = ready.width_least;
      width_most = ready.width_most;
      height_least = ready.height_least;
      height_most = ready.height_most;
      bytes_long = ready.bytes_long;
      slips_most = ready.slips_most;
      horizon_most = ready.horizon_most;
      count_least = ready.count_least;
      count_most = ready.count_most;
      capacity_least = ready.capacity_least;
      capacity_most = ready.capacity_most;
      starts_inside = ready.starts_inside;
      goals_inside = ready.goals_inside;
      layers_long = omega (arith, ready.layers_long);
    }
