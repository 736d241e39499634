-- Document 01, 'Jobs worked by hand': the eleven marked ★ for proof, one table. The law `stars_hold` is the claim.
-- 'Cells all open; k is 0 and N is 128 where not given'. Since P3 k is every carrier's slip. Document 02, P2: 'The 3 by 3 job with k 1
-- becomes 3 3 3 4 5 and 1 4 7 7 7, sum 6, 3 records.'
use Rattle.std.specs.Prelude.{ℕ, ◌*◌, List, [], ◌∷◌, map, length, get_or, replicate}
use Rattle.lists.specs.Lists.{each}
use Rattle.hall.specs.Hall.{open_byte}
use Rattle.job.specs.Job.{Job, plan_length}
use Rattle.job.specs.Told.{counted}
use Rattle.job.specs.declared.Told.{Told}
use Rattle.tree.specs.Plan.{Routes}
use Rattle.tables.specs.Tables.{Tables, columns_length, plans_length, layers_length}
use Rattle.planner.specs.Answer.{Result, planned, answer_told}

pub record Star : Type 0 where
  pub width : ℕ
  pub height : ℕ
  pub starts : List ℕ
  pub goals : List ℕ
  pub slips : List ℕ
  pub horizon : ℕ
  pub capacity : ℕ
  -- what document 01 says: number, sum, records; and the routes, none where there is no plan
  pub told : Told
  pub routes : Routes

abbrev pub star_job : Star → Job
star_job s =
    record {
      hall = record { width = s.width; height = s.height; bytes = replicate (s.width * s.height) open_byte };
      count = length s.starts;
      start_of = λ i. get_or s.starts i 0;
      goal_of = λ i. get_or s.goals i 0;
      slip_of = λ i. get_or s.slips i 0;
      horizon = s.horizon;
    }

-- tables of just the least lengths
abbrev pub star_tables : Star → Tables
star_tables s =
    record {
      columns = replicate (columns_length s.capacity) 0;
      plans = replicate (plans_length (star_job s) s.capacity) 0;
      layers = replicate (layers_length (star_job s)) 0;
      output = replicate (plan_length (star_job s)) 0;
    }

-- what is asked of a job, and what the definitions give: the told numbers and the output
pub record Seen : Type 0 where
  pub told : Told
  pub output : List ℕ

abbrev pub output_of : Star → Routes → List ℕ
output_of s [] = (star_tables s).output
output_of s (r ∷ rs) = each (λ x. x) (r ∷ rs)

abbrev pub asked : Star → Seen
asked s = record { told = s.told; output = output_of s s.routes }

abbrev pub seen : Result → Seen
seen r = record { told = answer_told r.answer; output = r.tables.output }

abbrev pub given : Star → Seen
given s = seen (planned (star_job s) s.capacity (star_tables s))

-- width, height, starts, goals, every slip, H, N; number, sum, records; routes
star : ℕ → ℕ → List ℕ → List ℕ → ℕ → ℕ → ℕ → Told → Routes → Star
star w h ss gs slip horizon n t rs =
    record { width = w; height = h; starts = ss; goals = gs; slips = map (λ _. slip) ss; horizon = horizon; capacity = n; told = t; routes = rs }

unfoldable pub stars : List Star
unfolding star
stars =
    star 3 3 (3 ∷ 1 ∷ []) (5 ∷ 7 ∷ []) 0 4 3 (counted 0 5 3) ((3 ∷ 3 ∷ 4 ∷ 5 ∷ 5 ∷ []) ∷ (1 ∷ 4 ∷ 7 ∷ 7 ∷ 7 ∷ []) ∷ [])
    ∷ star 3 3 (3 ∷ 1 ∷ []) (5 ∷ 7 ∷ []) 0 4 2 (counted 9 0 2) []
    ∷ star 3 3 (3 ∷ 1 ∷ []) (5 ∷ 7 ∷ []) 1 4 3 (counted 0 6 3) ((3 ∷ 3 ∷ 3 ∷ 4 ∷ 5 ∷ []) ∷ (1 ∷ 4 ∷ 7 ∷ 7 ∷ 7 ∷ []) ∷ [])
    ∷ star 3 1 (0 ∷ []) (2 ∷ []) 0 2 128 (counted 0 2 1) ((0 ∷ 1 ∷ 2 ∷ []) ∷ [])
    ∷ star 3 1 (0 ∷ []) (2 ∷ []) 0 1 128 (counted 8 0 0) []
    ∷ star 3 1 (0 ∷ 2 ∷ []) (2 ∷ 0 ∷ []) 0 2 128 (counted 8 0 1) []
    ∷ star 1 1 (0 ∷ []) (0 ∷ []) 0 0 128 (counted 0 0 1) ((0 ∷ []) ∷ [])
    ∷ star 2 1 (0 ∷ 1 ∷ []) (1 ∷ 0 ∷ []) 0 1 128 (counted 8 0 1) []
    ∷ star 3 1 (0 ∷ 1 ∷ []) (1 ∷ 2 ∷ []) 0 1 128 (counted 0 2 1) ((0 ∷ 1 ∷ []) ∷ (1 ∷ 2 ∷ []) ∷ [])
    ∷ star 3 1 (0 ∷ 1 ∷ []) (1 ∷ 2 ∷ []) 1 1 128 (counted 8 0 1) []
    ∷ star 3 1 (0 ∷ 1 ∷ []) (1 ∷ 2 ∷ []) 1 2 128 (counted 0 3 2) ((0 ∷ 0 ∷ 1 ∷ []) ∷ (1 ∷ 2 ∷ 2 ∷ []) ∷ [])
    ∷ []

-- The last job of the same section has no star and no printed routes: 'Width 4, height 2, 6→2 and 0→3, k 0, H 3: least sum 6.'
unfoldable pub last_job : Star
unfolding star
last_job = star 4 2 (6 ∷ 0 ∷ []) (2 ∷ 3 ∷ []) 0 3 128 (counted 0 6 2) ((6 ∷ 6 ∷ 6 ∷ 2 ∷ []) ∷ (0 ∷ 1 ∷ 2 ∷ 3 ∷ []) ∷ [])

-- Two carriers of unequal slips, worked for P3: width 3, height 1, 0→2 with slip 0 and 2→0 with slip 1, H 6: nobody can pass, 38 records.
unfoldable pub own_slips : Star
own_slips =
    record {
      width = 3;
      height = 1;
      starts = 0 ∷ 2 ∷ [];
      goals = 2 ∷ 0 ∷ [];
      slips = 0 ∷ 1 ∷ [];
      horizon = 6;
      capacity = 128;
      told = counted 8 0 38;
      routes = [];
    }
