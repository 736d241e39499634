-- What the lent tables hold while the search runs: the nodes made so far. Node x has its record in the columns, and 'each node's
-- routes fill their own stretch of the plans table', carrier after carrier.
use Rattle.std.specs.Prelude.{ℕ, ◌*◌, ◌≤◌, ◌<◌, ◌≡◌, Bool, not, List, map, eqb, length, take, drop}
use Rattle.lists.specs.Lists.{range, only, each}
use Rattle.job.specs.Job.{Job, plan_length}
use Rattle.routes.specs.Route.{route_in}
use Rattle.records.specs.Columns.{entry, parent_at, sum_at, chain_of}
use Rattle.tree.specs.Plan.{Routes}
use Rattle.tree.specs.Tree.{Node, node_sum}

-- the routes in a stretch of m × (H + 1) bytes
unfoldable pub routes_in : Job → List ℕ → Routes
routes_in job stretch = map (route_in job.horizon stretch) (range 0 job.count)

-- the stretch of node x
unfoldable pub stretch_at : Job → List ℕ → ℕ → List ℕ
stretch_at job plans x = take (plan_length job) (drop (x * plan_length job) plans)

unfoldable pub node_at : Job → ℕ → List ℕ → List ℕ → ℕ → Node
node_at job capacity columns plans x = record { bars = chain_of capacity columns x; routes = routes_in job (stretch_at job plans x) }

unfoldable pub is_open_at : ℕ → List ℕ → ℕ → Bool
is_open_at capacity columns x = not (eqb (entry capacity columns 7 x) 0)

-- the open ones of the first n nodes, in the order of their numbers
unfoldable pub live : Job → ℕ → List ℕ → List ℕ → ℕ → List Node
live job capacity columns plans n = each (λ x. only (is_open_at capacity columns x) (node_at job capacity columns plans x)) (range 0 n)

-- the tables are in order for n nodes
pub record Sound (job : Job) (capacity : ℕ) (columns plans : List ℕ) (n : ℕ) : Type 0 where
  pub columns_long : 8 * capacity ≤ length columns
  pub plans_long : capacity * plan_length job ≤ length plans
  pub small : capacity ≤ 1024
  pub made : n ≤ capacity
  pub down : (x : ℕ) → 0 < x → x < n → parent_at capacity columns x < x
  pub sums : (x : ℕ) → x < n → sum_at capacity columns x ≡ node_sum job (node_at job capacity columns plans x)
