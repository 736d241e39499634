-- The job in a book has the carriers that the book's second body says. The team between the two has eight places, each filled from the
-- body, and an accepted job has no carrier past them. Assumes nothing.
use Prim.Native.Nat.{ℕ, ◌<◌}
use native.Mathlib.Omega.{arith}
use mathlib.Core.Bool.{Bool}
use mathlib.Core.List.{List}
use mathlib.Core.Path.{◌≡◌, refl}
use Rattle.std.specs.Prelude.{Ok}
use Rattle.job.specs.Verdict.{judge_with}
use Rattle.job.proofs.Accepted.{accepted_facts}
use Rattle.book.specs.Book.{body_of}
use Rattle.book.specs.Parts.{count_in, start_in, goal_in, slip_in}
use Rattle.carriers.proofs.Padded.{place_read}
use Rattle.lines.specs.Printed.{job_in}

pub count_read : (book : List ℕ) → (job_in book).count ≡ count_in (body_of book 2)
count_read book = refl

pub carrier_read : (book : List ℕ) (i : ℕ) → i < 8
    → ((job_in book).start_of i ≡ start_in (body_of book 2) i) × ((job_in book).goal_of i ≡ goal_in (body_of book 2) i) × ((job_in book).slip_of i ≡ slip_in (body_of book 2) i)
carrier_read book i l = (place_read (start_in (body_of book 2)) i l, place_read (goal_in (body_of book 2)) i l, place_read (slip_in (body_of book 2)) i l)

pub accepted_carrier_read : (book : List ℕ) (wrongN : Bool) → judge_with wrongN (job_in book) ≡ Ok tt → (i : ℕ) → i < (job_in book).count
    → ((job_in book).start_of i ≡ start_in (body_of book 2) i) × ((job_in book).goal_of i ≡ goal_in (body_of book 2) i) × ((job_in book).slip_of i ≡ slip_in (body_of book 2) i)
accepted_carrier_read book wrongN accepted i l = carrier_read book i (omega (arith, (accepted_facts wrongN (job_in book) accepted).count_most))
