-- `job::first_shared` meets its contract: no carrier that was passed shares with a later one, so the first pair is that of the carriers that are left. Assumes nothing.
use lib.ListN.{length}
use mathlib.Core.Path.{◌≡◌}
use Rattle.job.specs.Job.{first_shared}
use Rattle.job.specs.Found.{end_in}
use Rattle.job.proofs.JobCode.{shared_from}
use Rattle.job.proofs.first_shared.Given as goal

abbrev pub invariant-loop-i : goal.invariant-loop-i
invariant-loop-i l = first_shared (end_in l.cells) (length l.cells) ≡ shared_from (end_in l.cells) (length l.cells) l.i
