-- What an accepted job is, for the proofs above: the facts of a job that is right (proofs/Due.antt), with open cells as the test that
-- the definitions ask. Assumes nothing.
use Prim.Native.Nat.{ℕ, ◌+◌, ◌*◌, ◌≤◌, ◌<◌}
use native.Mathlib.Nat.{mul-le-mul}
use native.Mathlib.Omega.{arith}
use mathlib.Core.Path.{◌≡◌}
use mathlib.Core.Logic.{◌≢◌}
use mathlib.Core.Bool.{Bool, false}
use lib.Dec.{T}
use lib.ListN.{length}
use Rattle.std.specs.Prelude.{Ok}
use Rattle.hall.specs.Hall.{is_open}
use Rattle.job.specs.Job.{Job}
use Rattle.job.specs.Verdict.{judge_with}
use Rattle.job.proofs.Due.{open_exact, accepted_right}

pub record Facts (wrongN : Bool) (job : Job) : Type 0 where
  pub capacity : wrongN ≡ false
  pub width_least : 1 ≤ job.hall.width
  pub width_most : job.hall.width ≤ 16
  pub height_least : 1 ≤ job.hall.height
  pub height_most : job.hall.height ≤ 16
  pub bytes_length : length job.hall.bytes ≡ job.hall.width * job.hall.height
  pub horizon_most : job.horizon ≤ 63
  pub count_least : 1 ≤ job.count
  pub count_most : job.count ≤ 8
  pub start_open : (i : ℕ) → i < job.count → T (is_open job.hall (job.start_of i))
  pub goal_open : (i : ℕ) → i < job.count → T (is_open job.hall (job.goal_of i))
  pub slip_most : (i : ℕ) → i < job.count → job.slip_of i ≤ 4
  pub starts_apart : (i j : ℕ) → i < j → j < job.count → job.start_of i ≢ job.start_of j
  pub goals_apart : (i j : ℕ) → i < j → j < job.count → job.goal_of i ≢ job.goal_of j

pub accepted_facts : (wrongN : Bool) (job : Job) → judge_with wrongN job ≡ Ok tt → Facts wrongN job
accepted_facts wrongN job e =
    let (r, n) = (accepted_right wrongN (wrongN ≡ false) (λ f. f, λ f. f) job).0 e in
    record {
      capacity = n;
      width_least = r.grid.columns.0;
      width_most = r.grid.columns.1;
      height_least = r.grid.rows.0;
      height_most = r.grid.rows.1;
      bytes_length = r.bytes.all;
      horizon_most = r.limits.horizon;
      count_least = r.count.least;
      count_most = r.count.most;
      start_open = λ i l. (open_exact job (job.start_of i)).1 (r.carriers i l).start;
      goal_open = λ i l. (open_exact job (job.goal_of i)).1 (r.carriers i l).goal;
      slip_most = λ i l. (r.carriers i l).slip;
      starts_apart = r.starts;
      goals_apart = r.goals;
    }

-- the bytes of a plan, m × (H + 1)
pub plan_small : {m h : ℕ} → m ≤ 8 → h ≤ 63 → m * (h + 1) ≤ 512
plan_small {m} {h} few late = let steps : h + 1 ≤ 64 = omega arith in mul-le-mul few steps
