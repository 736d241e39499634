-- Document 01, 'The search tree', rule by rule, as an instance of the search over abstract nodes.
use Rattle.std.specs.Prelude.{ℕ, zero, suc, ◌+◌, Bool, true, false, List, [], ◌∷◌, ◌++◌, set}
use Rattle.std.proofs.Math.Option.{Option, none, some}
use Rattle.job.specs.Job.{Job}
use Rattle.routes.specs.Bars.{Barred, bars_for}
use Rattle.routes.specs.Best.{best_route}
use Rattle.routes.specs.declared.Bar.TheVariants.{Free, Stay, Cross}
use Rattle.clashes.specs.Chosen.{chosen}
use Rattle.clashes.specs.declared.Clash.{Clash}
use Rattle.clashes.specs.declared.Clash.TheVariants.{Clear, Meeting, Swap}
use Rattle.search.specs.Search.{Outcome, search}
use Rattle.tree.specs.Plan.{Routes, cells_of, travels, total}

-- Rule 1. 'A bar binds a node if it stands in that node's record or in the record of one of its ancestors.' A node has all
-- bars that bind it, its own in front, and a route for each carrier.
pub record Node : Type 0 where
  pub bars : List Barred
  pub routes : Routes

-- Rule 2. A carrier's route under the bars that bind it.
unfoldable pub route_under : Job → List Barred → ℕ → Option (List ℕ)
route_under job bars i = best_route job i (bars_for i bars)

-- Rule 3. 'The root, number 0, has each carrier's route without bars. If a carrier has none, no root is made'.
unfoldable pub with_route : Option (List ℕ) → Option Routes → Option Routes
with_route none rs = none
with_route (some r) none = none
with_route (some r) (some rs) = some (r ∷ rs)

unfoldable pub free_routes : Job → ℕ → ℕ → Option Routes
free_routes job i zero = some []
free_routes job i (suc n) = with_route (route_under job [] i) (free_routes job (suc i) n)

unfoldable pub root_of : Option Routes → List Node
root_of none = []
root_of (some rs) = record { bars = []; routes = rs } ∷ []

unfoldable pub root : Job → List Node
root job = root_of (free_routes job 0 job.count)

-- Rule 4. A node's sum, and whether its routes have no meeting and no swap.
unfoldable pub node_sum : Job → Node → ℕ
node_sum job n = total job n.routes

-- Rule 5. The chosen meeting or swap of a node.
unfoldable pub clash_of : Job → Node → Clash
clash_of job n = chosen (travels job n.routes) job.count

unfoldable pub is_clear : Clash → Bool
is_clear Clear = true
is_clear (Meeting i j t d) = false
is_clear (Swap i j t) = false

unfoldable pub node_clear : Job → Node → Bool
node_clear job n = is_clear (clash_of job n)

-- Rule 6. 'For a meeting on cell v, child one bars i and child two bars j', and P3: 'Take e as the smaller step: i is barred from e to
-- e + slip of j, j from e to e + slip of i, the earlier carrier in child one.' 'For a swap each is barred from its own crossing at t.'
-- A meeting has its earlier carrier first. Steps past H are left in: no route has any.
unfoldable pub bar_one : Job → Node → Clash → Barred
bar_one job n Clear = record { carrier = 0; bar = Free }
bar_one job n (Meeting i j t d) = record { carrier = i; bar = Stay (cells_of n.routes i t) t (t + job.slip_of j) }
bar_one job n (Swap i j t) = record { carrier = i; bar = Cross (cells_of n.routes i t) (cells_of n.routes i (t + 1)) t }

unfoldable pub bar_two : Job → Node → Clash → Barred
bar_two job n Clear = record { carrier = 0; bar = Free }
bar_two job n (Meeting i j t d) = record { carrier = j; bar = Stay (cells_of n.routes i t) t (t + job.slip_of i) }
bar_two job n (Swap i j t) = record { carrier = j; bar = Cross (cells_of n.routes j t) (cells_of n.routes j (t + 1)) t }

-- Rule 7. 'In that order, a child whose barred carrier has a route takes the next number and one record; a child without
-- one takes none.'
unfoldable pub child_with : Node → Barred → Option (List ℕ) → List Node
child_with n b none = []
child_with n b (some r) = record { bars = b ∷ n.bars; routes = set n.routes b.carrier r } ∷ []

unfoldable pub child : Job → Node → Barred → List Node
child job n b = child_with n b (route_under job (b ∷ n.bars) b.carrier)

unfoldable pub kids_for : Job → Node → Clash → List Node
kids_for job n Clear = []
kids_for job n (Meeting i j t d) = child job n (bar_one job n (Meeting i j t d)) ++ child job n (bar_two job n (Meeting i j t d))
kids_for job n (Swap i j t) = child job n (bar_one job n (Swap i j t)) ++ child job n (bar_two job n (Swap i j t))

unfoldable pub kids : Job → Node → List Node
kids job n = kids_for job n (clash_of job n)

-- the tree of a job with room for N records
unfoldable pub tree : Job → ℕ → Outcome Node
tree job capacity = search (node_sum job) (node_clear job) (kids job) capacity (root job)
