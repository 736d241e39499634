-- Wrong answers that the contracts of the exported functions rule out: at document 01's last job with its carriers lent as records,
-- at a job whose plans are lent too short, at the lent job of the broken checks (crate entry), and at the printed book. Assumes nothing.
use Prim.Native.Nat.{ℕ}
use native.Mathlib.Omega.{arith}
use mathlib.Core.Path.{◌≡◌, sym, refl, subst, ap, ◌∙◌}
use mathlib.Core.List.{List, [], ◌∷◌}
use lib.ListN.{length, get_or, replicate}
use Rattle.hall.specs.Hall.{wrong_side, wrong_grid, wrong_byte, wrong_bytes, is_open}
use Rattle.job.specs.Job.{Job, wrong_limits, wrong_capacity, wrong_count, wrong_carrier, first_wrong, share, pairs, first_shared}
use Rattle.job.specs.Team.{job_of}
use Rattle.job.specs.Verdict.{carrier_verdict, shared_verdict, judge_with, if_accepted}
use Rattle.job.specs.declared.Fault.{Fault}
use Rattle.routes.specs.Check.{route_verdict, route_told}
use Rattle.clashes.specs.Check.{meeting_verdict, meeting_told}
use Rattle.checks.proofs.Broken.{followed, astray}
use Rattle.tables.specs.Tables.{Tables, first_short}
use Rattle.planner.specs.Answer.{if_long, enough, planned}
use Rattle.planner.specs.Stars.{star_job, star_tables, Seen, last_job}
use Rattle.planner.proofs.Stars.{last_job_holds}
use Rattle.carriers.specs.Lent.{records_team}
use Rattle.carriers.proofs.Padded.{job_padded}
use Rattle.entry.proofs.Wrong.{lent_crossing, lent_always_passes_routes, lent_always_passes_meetings}
use Rattle.lists.specs.Lists.{range, any_of, first_of, each, refuse_if}
use Rattle.book.specs.Book.{no_contents, book_verdict, if_good, asked_verdict, body_of, body_place}
use Rattle.book.proofs.Example.{printed_book, printed_carriers}
use Rattle.adfulmise.specs.Lent.{written, told_values}
use Rattle.adfulmise.specs.Post.{Answered, Checked, Read}

-- seven numbers lent, all 0; and too few: five without the planner's last two, six without a check's last
abbrev seven : List ℕ
seven = replicate 7 0

abbrev five : List ℕ
five = replicate 5 0

abbrev six : List ℕ
six = replicate 6 0

-- ---- adfulmise_plan: width 4, height 2, 6→2 and 0→3 with slips 0, H 3, N 128: sum 6, and two records

abbrev lent_last : Job
lent_last = job_of 4 2 (replicate 8 46) (records_team (record { start = 6; goal = 2; slip = 0 } ∷ record { start = 0; goal = 3; slip = 0 } ∷ [])) 3

lent_last_lem : lent_last ≡ star_job last_job
unfolding last_job
lent_last_lem = job_padded 4 2 (replicate 8 46) (6 ∷ 0 ∷ []) (2 ∷ 3 ∷ []) (0 ∷ 0 ∷ []) 6 2 3

last_told : (r : ℕ) (after : Tables) (given : List ℕ) → Answered lent_last 128 (star_tables last_job) seven r after given → given ≡ 0 ∷ 6 ∷ 2 ∷ 0 ∷ 0 ∷ 0 ∷ 0 ∷ []
unfolding written last_job
last_told r after given a =
    (subst (λ (job : Job). Answered job 128 (star_tables last_job) seven r after given) lent_last_lem a).told
    ∙ ap (λ (x : Seen). told_values x.told) last_job_holds

-- 'Comparing only to the end of the shorter route: the last job would give 4.'
pub compared_to_the_shorter : (r : ℕ) (after : Tables) → Answered lent_last 128 (star_tables last_job) seven r after (0 ∷ 4 ∷ 1 ∷ 0 ∷ 0 ∷ 0 ∷ 0 ∷ []) → ⊥
compared_to_the_shorter r after a = let z : ◌≡◌ {A = ℕ} 4 6 = ap (λ (l : List ℕ). get_or l 1 0) (last_told r after (0 ∷ 4 ∷ 1 ∷ 0 ∷ 0 ∷ 0 ∷ 0 ∷ []) a) in omega arith

-- sum and records told in each other's place
pub sum_and_records_exchanged : (r : ℕ) (after : Tables) → Answered lent_last 128 (star_tables last_job) seven r after (0 ∷ 2 ∷ 6 ∷ 0 ∷ 0 ∷ 0 ∷ 0 ∷ []) → ⊥
sum_and_records_exchanged r after a = let z : ◌≡◌ {A = ℕ} 6 2 = ap (λ (l : List ℕ). get_or l 2 0) (last_told r after (0 ∷ 2 ∷ 6 ∷ 0 ∷ 0 ∷ 0 ∷ 0 ∷ []) a) in omega arith

-- five entries written, where there is no room for all
pub five_entries_written : (r : ℕ) (after : Tables) → Answered lent_last 128 (star_tables last_job) five r after (0 ∷ 6 ∷ 2 ∷ 0 ∷ 0 ∷ []) → ⊥
unfolding written
five_entries_written r after a = let z : ◌≡◌ {A = ℕ} 6 0 = ap (λ (l : List ℕ). get_or l 1 0) a.told in omega arith

-- ---- there, width 2, height 1, 0→1 with slip 0, H 1, N 3: of four lent tables only the plans are short, and need 6 entries

abbrev lent_passing : Job
lent_passing = job_of 2 1 (46 ∷ 46 ∷ []) (records_team (record { start = 0; goal = 1; slip = 0 } ∷ [])) 1

abbrev short_plans : Tables
short_plans = record { columns = replicate 24 0; plans = replicate 5 0; layers = replicate 8 0; output = replicate 2 0 }

-- the needed length written in the place of the table
pub table_and_needed_exchanged : (r : ℕ) (after : Tables) → Answered lent_passing 3 short_plans seven r after (7 ∷ 0 ∷ 0 ∷ 0 ∷ 0 ∷ 6 ∷ 1 ∷ []) → ⊥
unfolding range any_of first_of each wrong_side wrong_grid wrong_byte wrong_bytes is_open wrong_limits wrong_capacity wrong_count wrong_carrier first_wrong share pairs first_shared refuse_if carrier_verdict shared_verdict judge_with if_accepted first_short if_long enough planned written
table_and_needed_exchanged r after a = let z : ◌≡◌ {A = ℕ} 6 1 = ap (λ (l : List ℕ). get_or l 5 0) a.told in omega arith

-- ---- adfulmise_check_routes and adfulmise_check_meetings: width 3, height 1, 0→1 and 1→2, both with slip 1, H 1

-- where there is a fault: 0 given back; nothing told beside the number; and the number written where there is no room for all
module _ (fault : Fault) (found : fault.number ≡ 0 → ⊥) where
  zero_given : (given : List ℕ) → Checked fault seven 0 given → ⊥
  zero_given given c = found (sym c.number)

  nothing_told : (r : ℕ) → Checked fault seven r seven → ⊥
  unfolding written
  nothing_told r c = found (sym (ap (λ (l : List ℕ). get_or l 0 0) c.told))

  six_entries_written : (r : ℕ) (given : List ℕ) → get_or given 0 0 ≡ fault.number → Checked fault six r given → ⊥
  unfolding written
  six_entries_written r given wrong c = found (sym wrong ∙ ap (λ (l : List ℕ). get_or l 0 0) c.told)

pub zero_given_for_routes : (given : List ℕ) → Checked (route_told (route_verdict lent_crossing astray)) seven 0 given → ⊥
zero_given_for_routes = zero_given (route_told (route_verdict lent_crossing astray)) (lent_always_passes_routes (route_verdict lent_crossing astray) refl)

pub nothing_told_of_routes : (r : ℕ) → Checked (route_told (route_verdict lent_crossing astray)) seven r seven → ⊥
nothing_told_of_routes = nothing_told (route_told (route_verdict lent_crossing astray)) (lent_always_passes_routes (route_verdict lent_crossing astray) refl)

pub six_entries_written_for_routes : (r : ℕ) (given : List ℕ) → get_or given 0 0 ≡ (route_told (route_verdict lent_crossing astray)).number → Checked (route_told (route_verdict lent_crossing astray)) six r given → ⊥
six_entries_written_for_routes = six_entries_written (route_told (route_verdict lent_crossing astray)) (lent_always_passes_routes (route_verdict lent_crossing astray) refl)

pub zero_given_for_meetings : (given : List ℕ) → Checked (meeting_told (meeting_verdict lent_crossing followed)) seven 0 given → ⊥
zero_given_for_meetings = zero_given (meeting_told (meeting_verdict lent_crossing followed)) (lent_always_passes_meetings (meeting_verdict lent_crossing followed) refl)

pub nothing_told_of_meetings : (r : ℕ) → Checked (meeting_told (meeting_verdict lent_crossing followed)) seven r seven → ⊥
nothing_told_of_meetings = nothing_told (meeting_told (meeting_verdict lent_crossing followed)) (lent_always_passes_meetings (meeting_verdict lent_crossing followed) refl)

pub six_entries_written_for_meetings : (r : ℕ) (given : List ℕ) → get_or given 0 0 ≡ (meeting_told (meeting_verdict lent_crossing followed)).number → Checked (meeting_told (meeting_verdict lent_crossing followed)) six r given → ⊥
six_entries_written_for_meetings = six_entries_written (meeting_told (meeting_verdict lent_crossing followed)) (lent_always_passes_meetings (meeting_verdict lent_crossing followed) refl)

-- ---- adfulmise_read: the carriers of the printed book, six bytes from byte 27

-- where the body ends told for its length
pub end_for_length : (r : ℕ) → Read printed_book 2 (0 ∷ 0 ∷ []) r (27 ∷ 33 ∷ []) → ⊥
unfolding written
end_for_length r p =
    let told : 33 ≡ length (body_of printed_book 2) = ap (λ (l : List ℕ). get_or l 1 0) p.place in
    let z : ◌≡◌ {A = ℕ} 33 6 = told ∙ ap length printed_carriers in omega arith

-- a refusal, of no bytes at all, with the place where the first body would begin
pub refusal_with_a_place : (r : ℕ) → Read [] 1 (0 ∷ 0 ∷ []) r (16 ∷ 0 ∷ []) → ⊥
unfolding written refuse_if no_contents book_verdict if_good asked_verdict body_of body_place
refusal_with_a_place r p = let z : ◌≡◌ {A = ℕ} 16 0 = ap (λ (l : List ℕ). get_or l 0 0) p.place in omega arith
