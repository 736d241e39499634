-- A plan of a right job passes both checks where it stands in the output: its routes are read back as they were written, and the cells
-- compared are theirs. Assumes nothing.
use Prim.Native.Nat.{ℕ, ◌≤◌, ◌<◌}
use mathlib.Core.List.{List}
use mathlib.Core.Path.{◌≡◌, sym, ap, subst, ◌∙◌}
use lib.ListN.{length}
use Rattle.job.specs.Job.{Job, plan_length, plan_cell}
use Rattle.job.specs.Verdict.{IsAccepted}
use Rattle.routes.specs.Route.{Lawful, cell_of, route_in}
use Rattle.clashes.specs.Check.{plan_travel}
use Rattle.clashes.specs.Chosen.{chosen}
use Rattle.clashes.specs.declared.Clash.TheVariants.{Clear}
use Rattle.clashes.proofs.Chosen.{clear_apart, apart_clear}
use Rattle.clashes.proofs.Holds.{apart_survives}
use Rattle.clashes.proofs.Same.{chosen_same}
use Rattle.checks.specs.Demand.{LawfulRoutes, Passes, Safe}
use Rattle.checks.proofs.Demand.{route_cell, plan_check_exact}
use Rattle.tree.specs.Plan.{Routes, route_of, cells_of, travels, IsPlan}
use Rattle.tables.specs.Tables.{plan_written}
use Rattle.tables.proofs.Held.{plan_long, route_held}

module _ (job : Job) (rs : Routes) (plan : IsPlan job rs) (output : List ℕ) where
  abbrev bytes : List ℕ
  bytes = plan_written job rs output

  long : plan_length job ≤ length bytes
  long = plan_long job rs plan.family output

  held : (i : ℕ) → i < job.count → route_in job.horizon bytes i ≡ route_of rs i
  held = route_held job rs plan.family output

  pub written_lawful : LawfulRoutes job bytes
  written_lawful = record { long = long; lawful = λ i l. subst (Lawful job i) (sym (held i l)) (plan.family.lawful i l) }

  pub same_cells : (i t : ℕ) → i < job.count → t ≤ job.horizon → plan_cell job bytes i t ≡ cells_of rs i t
  same_cells i t l step = sym (route_cell job bytes long i l t step) ∙ ap (λ (r : List ℕ). cell_of r t) (held i l)

  written_clear : chosen (plan_travel job bytes) job.count ≡ Clear
  written_clear =
      chosen_same (plan_travel job bytes) (cells_of rs) job.count same_cells
      ∙ apart_clear (travels job rs) job.count plan.apart

  written_safe : Safe job bytes
  written_safe =
      apart_survives (plan_travel job bytes) job.count
      (clear_apart (plan_travel job bytes) job.count written_clear)

  pub written_passes : IsAccepted job → Passes job bytes
  written_passes accepted = (plan_check_exact job bytes accepted written_lawful).1 written_safe
