-- The program reads at most 300 bytes, and cuts no book whose job is accepted: the contents have 16 bytes, and each body is read whole,
-- so that its length is bounded by what an accepted job says. Assumes nothing.
use native.Mathlib.Omega.{arith}
use mathlib.Core.Path.{ap}
use lib.Seq.{take_all}
use Rattle.hall.proofs.HallCode.{area_small}
use Rattle.job.proofs.Accepted.{accepted_facts}
use Rattle.book.proofs.Lengths.{book_length, hall_whole, carriers_whole, limits_whole}
use Rattle.lines.specs.Printed.{job_in}
use Rattle.lines.specs.Program.{program_text, AcceptedShort, AcceptedUncut}

pub accepted_book_short : AcceptedShort
unfolding AcceptedShort
accepted_book_short book wrongN good accepted =
    let facts = accepted_facts wrongN (job_in book) accepted in
    omega (
      arith,
      book_length book good,
      hall_whole book good,
      carriers_whole book good,
      limits_whole book good,
      facts.bytes_length,
      area_small facts.width_most facts.height_most,
      facts.count_most,
    )

pub accepted_book_uncut : AcceptedUncut
unfolding AcceptedUncut AcceptedShort
accepted_book_uncut book wrongN good accepted = ap program_text (take_all 300 book (omega (arith, accepted_book_short book wrongN good accepted)))
