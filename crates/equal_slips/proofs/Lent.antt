-- Carriers lent as a list of records, or as the second body of a book, each with slip k, are a job with every slip k: a team has eight
-- places, and an accepted job no more carriers. Assumes nothing.
use Prim.Native.Nat.{ℕ, zero, suc, ◌≤◌, ◌<◌}
use native.Mathlib.Omega.{arith}
use mathlib.Core.Path.{◌≡◌, refl, ◌∙◌}
use mathlib.Core.List.{List, [], ◌∷◌}
use lib.ListN.{length, get_or}
use Rattle.lists.specs.Lists.{Every}
use Rattle.job.specs.Team.{job_of}
use Rattle.job.specs.declared.Team.{Team}
use Rattle.book.specs.Parts.{count_in, start_in, goal_in, slip_in}
use Rattle.carriers.specs.Lent.{team_by, bytes_team, record_at, records_team}
use Rattle.carriers.specs.declared.Carrier.{Carrier}
use Rattle.carriers.proofs.Padded.{place_read}
use Rattle.equal_slips.specs.Job.{with_slips, EverySlip, one_job_of}

abbrev pub slips_of : Team → ℕ → ℕ
slips_of team i = get_or team.slips i 0

record_slip : (k : ℕ) (records : List Carrier) → Every (λ c. c.slip ≡ k) records → (i : ℕ) → i < length records → (record_at records i).slip ≡ k
unfolding Every
record_slip k [] equal i l = absurd (omega arith)
record_slip k (c ∷ cs) equal zero l = equal.0
record_slip k (c ∷ cs) equal (suc i) l = record_slip k cs equal.1 i (omega arith)

module _ (width height : ℕ) (bytes : List ℕ) (k h : ℕ) where
  -- the job is the same but for the slips, whatever k was
  pub lent_with_slips : (team : Team) → job_of width height bytes team h ≡ with_slips (one_job_of width height bytes team k h) (slips_of team)
  lent_with_slips team = refl

  team_every_slip : (start goal slip : ℕ → ℕ) (count : ℕ) → count ≤ 8 → ((i : ℕ) → i < count → slip i ≡ k)
      → EverySlip (one_job_of width height bytes (team_by start goal slip count) k h) (slips_of (team_by start goal slip count))
  team_every_slip start goal slip count few equal i l = place_read slip i (omega arith) ∙ equal i l

  pub records_every_slip : (records : List Carrier) → length records ≤ 8 → Every (λ c. c.slip ≡ k) records
      → EverySlip (one_job_of width height bytes (records_team records) k h) (slips_of (records_team records))
  records_every_slip records few equal =
      team_every_slip (λ i. (record_at records i).start) (λ i. (record_at records i).goal) (λ i. (record_at records i).slip) (length records) few
      (record_slip k records equal)

  pub bytes_every_slip : (body : List ℕ) → count_in body ≤ 8 → ((i : ℕ) → i < count_in body → slip_in body i ≡ k)
      → EverySlip (one_job_of width height bytes (bytes_team body) k h) (slips_of (bytes_team body))
  bytes_every_slip body few equal = team_every_slip (start_in body) (goal_in body) (slip_in body) (count_in body) few equal
