-- Document 01: 'A plan is lawful routes for all carriers with no meeting and no swap. Its sum is the total of the costs.'
use Rattle.std.specs.Prelude.{ℕ, ◌<◌, ◌≡◌, List, [], length, get_or}
use Rattle.lists.specs.Lists.{sum_to}
use Rattle.job.specs.Job.{Job}
use Rattle.routes.specs.Route.{Lawful, cell_of, cost}
use Rattle.clashes.specs.Clash.{Travel, Apart}
use Rattle.clashes.specs.Holds.{Survives}

-- a family: a route for each carrier
abbrev pub Routes : Type 0
Routes = List (List ℕ)

abbrev pub route_of : Routes → ℕ → List ℕ
route_of rs i = get_or rs i []

abbrev pub cells_of : Routes → ℕ → ℕ → ℕ
cells_of rs i t = cell_of (route_of rs i) t

-- how the carriers of a family travel
abbrev pub travels : Job → Routes → Travel
travels job rs = record { at = cells_of rs; slip = job.slip_of; horizon = job.horizon }

unfoldable pub total : Job → Routes → ℕ
total job rs = sum_to job.count (λ i. cost (job.goal_of i) (route_of rs i))

pub record Family (job : Job) (rs : Routes) : Type 0 where
  pub all : length rs ≡ job.count
  pub lawful : (i : ℕ) → i < job.count → Lawful job i (route_of rs i)

pub record IsPlan (job : Job) (rs : Routes) : Type 0 where
  pub family : Family job rs
  pub apart : Apart (travels job rs) job.count

-- demand 3: no 'pattern of holds, each carrier held at most k steps in all, brings two carriers into one cell or through each other', with
-- P3's 'each carrier's own slip' for k
abbrev pub IsSafe : Job → Routes → Type 0
IsSafe job rs = Survives (travels job rs) job.count
