-- Document 01: 'A job is a hall, a list of carriers (each a record of start cell and goal cell, numbered from 0)', and 'the horizon
-- H (0 to 63) and the capacity N'. Document 02, P3: 'Each carrier's record now has its own slip, 0 to 4.' The two checks have no N, so
-- it stands beside. The carriers are read by their number, so that every form in which a caller lends them is the same job.
use Rattle.std.specs.Prelude.{ℕ, suc, ◌+◌, ◌-◌, ◌*◌, Bool, not, ◌||◌, List, map, eqb, ltb, get_or}
use Rattle.std.proofs.Math.Option.{Option}
use Rattle.lists.specs.Lists.{range, each, first_of}
use Rattle.hall.specs.Hall.{Hall, is_open}

pub record Job : Type 0 where
  pub hall : Hall
  pub count : ℕ
  pub start_of : ℕ → ℕ
  pub goal_of : ℕ → ℕ
  pub slip_of : ℕ → ℕ
  pub horizon : ℕ

-- the bytes of a plan: 'carrier by carrier, its cells for steps 0 to H'
abbrev pub plan_length : Job → ℕ
plan_length job = job.count * (job.horizon + 1)

abbrev pub plan_cell : Job → List ℕ → ℕ → ℕ → ℕ
plan_cell job plan i t = get_or plan (i * (job.horizon + 1) + t) 0

abbrev pub most_slip : ℕ
most_slip = 4

abbrev pub most_horizon : ℕ
most_horizon = 63

abbrev pub most_records : ℕ
most_records = 1024

abbrev pub most_carriers : ℕ
most_carriers = 8

-- answer 3: 'H above 63, or N is 0 or above 1,024'. P3: '3 speaks of H and N only'.
unfoldable pub wrong_limits : Job → Bool
wrong_limits job = ltb most_horizon job.horizon

unfoldable pub wrong_capacity : ℕ → Bool
wrong_capacity n = eqb n 0 || ltb most_records n

-- answer 4: 'no carrier, or more than 8'
unfoldable pub wrong_count : Job → Bool
wrong_count job = eqb job.count 0 || ltb most_carriers job.count

-- answer 5: 'a start or goal is outside the grid or closed'; P3: 'a slip above 4 is 5'; told is 'first such carrier'
unfoldable pub wrong_carrier : Job → ℕ → Bool
wrong_carrier job i = not (is_open job.hall (job.start_of i)) || not (is_open job.hall (job.goal_of i)) || ltb most_slip (job.slip_of i)

unfoldable pub first_wrong : Job → Option ℕ
first_wrong job = first_of (wrong_carrier job) (range 0 job.count)

-- answers 6 and 16, P1: 6 'for two carriers with one start', 16 'for one goal, each with the pair'; told is 'least i, then least
-- j, i < j'
pub record Pair : Type 0 where
  pub one : ℕ
  pub two : ℕ

-- two carriers with one end: `end_of` gives each carrier's start, or each carrier's goal
unfoldable pub share : (ℕ → ℕ) → Pair → Bool
share end_of p = eqb (end_of p.one) (end_of p.two)

-- the pairs with i < j, by i and then by j
unfoldable pub pairs : ℕ → List Pair
pairs m = each (λ i. map (λ j. record { one = i; two = j }) (range (suc i) (m - suc i))) (range 0 m)

-- the first of m carriers
unfoldable pub first_shared : (ℕ → ℕ) → ℕ → Option Pair
first_shared end_of m = first_of (share end_of) (pairs m)
