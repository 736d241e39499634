-- The forms in which a caller lends the carriers, each as the team of a job. A job reads no carrier past its count.
use Rattle.std.specs.Prelude.{ℕ, ◌+◌, ◌*◌, List, [], ◌∷◌, map, length, get_or}
use Rattle.job.specs.declared.Team.{Team}
use Rattle.book.specs.Parts.{count_in, start_in, goal_in, slip_in}
use Rattle.carriers.specs.declared.Carrier.{Carrier}

abbrev pub eight : List ℕ
eight = 0 ∷ 1 ∷ 2 ∷ 3 ∷ 4 ∷ 5 ∷ 6 ∷ 7 ∷ []

-- a team of so many carriers, from the start, the goal and the slip of each
abbrev pub team_by : (ℕ → ℕ) → (ℕ → ℕ) → (ℕ → ℕ) → ℕ → Team
team_by start goal slip count = record { starts = map start eight; goals = map goal eight; slips = map slip eight; count = count }

-- the first, the second or the third byte of each carrier
abbrev pub every_third : List ℕ → ℕ → List ℕ
every_third body at = map (λ i. get_or body (at + 3 * i) 0) eight

-- 'Kind 2: start and goal for each carrier', with P3's slip as the third: the team that a book's second body says. One byte or two left
-- over at its end are no carrier.
abbrev pub bytes_team : List ℕ → Team
bytes_team body = team_by (start_in body) (goal_in body) (slip_in body) (count_in body)

-- 'The list of carriers is lent as a list of records.' Past its end the record is one of three zeros.
abbrev pub record_at : List Carrier → ℕ → Carrier
record_at carriers i = get_or carriers i (record { start = 0; goal = 0; slip = 0 })

abbrev pub records_team : List Carrier → Team
records_team carriers = team_by (λ i. (record_at carriers i).start) (λ i. (record_at carriers i).goal) (λ i. (record_at carriers i).slip) (length carriers)

-- the records as bytes: start, goal and slip in turn
unfoldable pub record_bytes : List Carrier → List ℕ
record_bytes [] = []
record_bytes (c ∷ cs) = c.start ∷ c.goal ∷ c.slip ∷ record_bytes cs
