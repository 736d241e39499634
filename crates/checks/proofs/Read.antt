-- Document 01: 'bytes after that length are not read'. Each check looks at the cells of the carriers up to H, and these stand in the
-- first m × (H + 1) bytes. A plan that is too short is its own beginning. Assumes nothing.
use Prim.Native.Nat.{ℕ, ◌+◌, ◌-◌, ◌*◌, ◌≤◌, ◌<◌}
use native.Mathlib.Omega.{arith}
use native.Mathlib.Decide.{dec_le}
use mathlib.Core.Path.{◌≡◌, sym, ap}
use mathlib.Core.List.{List}
use borrow.Author.Tests.{le-ltb}
use lib.ListN.{length, take}
use lib.Seq.{get_or-take, length-take-le, take_all}
use Rattle.std.specs.Prelude.{Ok, Err}
use Rattle.lists.proofs.Every.{member_every}
use Rattle.lists.proofs.Parts.{part_within}
use Rattle.lists.proofs.Passing.{first_same}
use Rattle.job.specs.Job.{Job, plan_length, plan_cell}
use Rattle.job.specs.Verdict.{judge, if_accepted}
use Rattle.job.specs.declared.CheckRefusal.TheVariants.{Job as OfJob}
use Rattle.routes.specs.Check.{places, wrong_at, first_wrong_place, place_verdict, plan_verdict, route_verdict}
use Rattle.clashes.specs.Check.{plan_travel, plan_clash, compared, meeting_verdict}
use Rattle.clashes.proofs.Same.{chosen_same}
use Rattle.checks.proofs.Demand.{wrong_same, placed}

module _ (job : Job) (plan : List ℕ) where
  -- what is read
  abbrev front : List ℕ
  front = take (plan_length job) plan

  same_cell : (i t : ℕ) → i < job.count → t ≤ job.horizon → plan_cell job plan i t ≡ plan_cell job front i t
  same_cell i t li lt =
      sym (get_or-take (plan_length job) plan (i * (job.horizon + 1) + t) 0 (omega (arith, part_within i job.count (job.horizon + 1) li)))

  same_place : first_wrong_place job (plan_cell job plan) ≡ first_wrong_place job (plan_cell job front)
  unfolding first_wrong_place
  same_place =
      first_same (λ p. wrong_at job p.carrier (plan_cell job plan p.carrier) p.step) (λ p. wrong_at job p.carrier (plan_cell job front p.carrier) p.step) (places job.count job.horizon)
      (member_every (λ p. wrong_at job p.carrier (plan_cell job plan p.carrier) p.step ≡ wrong_at job p.carrier (plan_cell job front p.carrier) p.step) (places job.count job.horizon)
      (λ p m.
      let (li, lt) = placed job (plan_cell job plan) p m in
      wrong_same job p.carrier (plan_cell job plan p.carrier) (plan_cell job front p.carrier) p.step
      (same_cell p.carrier 0 li (omega arith)) (same_cell p.carrier (p.step - 1) li (omega arith)) (same_cell p.carrier p.step li lt)))

  same_clash : plan_clash job plan ≡ plan_clash job front
  unfolding plan_clash
  same_clash = chosen_same (plan_travel job plan) (plan_cell job front) job.count same_cell

  -- a plan that is long enough, and so its front
  module _ (long : plan_length job ≤ length plan) where
    front_long : plan_length job ≤ length front
    front_long = omega (arith, length-take-le (plan_length job) plan long)

    same_verdict : plan_verdict job plan ≡ plan_verdict job front
    unfolding plan_verdict
    same_verdict = rw (plan_verdict, le-ltb (length plan) (plan_length job) long, le-ltb (length front) (plan_length job) front_long) (ap place_verdict same_place)

    same_compared : compared job plan ≡ compared job front
    unfolding compared
    same_compared = rw (compared, le-ltb (length plan) (plan_length job) long, le-ltb (length front) (plan_length job) front_long) (ap Ok same_clash)

  whole : (plan_length job ≤ length plan → ⊥) → plan ≡ front
  whole short = sym (take_all (plan_length job) plan (let n : ¬ (plan_length job ≤ length plan) = short in omega arith))

  pub route_reads_the_plan : route_verdict job plan ≡ route_verdict job (take (plan_length job) plan)
  unfolding route_verdict
  route_reads_the_plan =
      elim (dec_le (plan_length job) (length plan)) [
        | yes long ↦ ap (λ v. if_accepted (judge job) v (λ r. Err (OfJob r))) (same_verdict long)
        | no short ↦ ap (route_verdict job) (whole short)
      ]

  pub meeting_reads_the_plan : meeting_verdict job plan ≡ meeting_verdict job (take (plan_length job) plan)
  unfolding meeting_verdict
  meeting_reads_the_plan =
      elim (dec_le (plan_length job) (length plan)) [
        | yes long ↦ ap (λ v. if_accepted (judge job) v (λ r. Err (OfJob r))) (same_compared long)
        | no short ↦ ap (meeting_verdict job) (whole short)
      ]
