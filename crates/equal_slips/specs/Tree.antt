-- Document 01, 'The search tree', rules 3 to 7, with one k for all carriers, as an instance of the search over abstract nodes. Nodes,
-- the routes under bars, the root and the sums are crate tree's: no slip is read in them.
use Rattle.std.specs.Prelude.{ℕ, ◌+◌, Bool, List, [], ◌++◌}
use Rattle.routes.specs.Bars.{Barred}
use Rattle.routes.specs.declared.Bar.TheVariants.{Stay, Cross}
use Rattle.clashes.specs.declared.Clash.{Clash}
use Rattle.clashes.specs.declared.Clash.TheVariants.{Clear, Meeting, Swap}
use Rattle.search.specs.Search.{Outcome, search}
use Rattle.tree.specs.Plan.{cells_of}
use Rattle.tree.specs.Tree.{Node, root, node_sum, is_clear, child}
use Rattle.equal_slips.specs.Job.{OneJob, slipless}
use Rattle.equal_slips.specs.Clash.{chosen_by_k}

-- Rule 5. The chosen meeting or swap of a node.
unfoldable pub clash_by_k : OneJob → Node → Clash
clash_by_k one n = chosen_by_k (cells_of n.routes) one.delay one.horizon one.count

-- Rule 4. 'If its routes have no meeting and no swap, they are the plan.'
unfoldable pub clear_by_k : OneJob → Node → Bool
clear_by_k one n = is_clear (clash_by_k one n)

-- Rule 6. 'For a meeting on cell v, child one bars i and child two bars j, each from v over steps t to t + k (source 002, corollary 4;
-- steps past H are dropped, which changes nothing).' Steps past H are left in: no route has any.
unfoldable pub stay_by_k : OneJob → ℕ → ℕ → ℕ → Barred
stay_by_k one v t carrier = record { carrier = carrier; bar = Stay v t (t + one.delay) }

-- 'For a swap each is barred from its own crossing at t.'
unfoldable pub cross_by_k : Node → ℕ → ℕ → Barred
cross_by_k n t carrier = record { carrier = carrier; bar = Cross (cells_of n.routes carrier t) (cells_of n.routes carrier (t + 1)) t }

-- Rule 7. 'In that order, a child whose barred carrier has a route takes the next number and one record; a child without one takes none.'
unfoldable pub kids_for_by_k : OneJob → Node → Clash → List Node
kids_for_by_k one n Clear = []
kids_for_by_k one n (Meeting i j t d) = child (slipless one) n (stay_by_k one (cells_of n.routes i t) t i) ++ child (slipless one) n (stay_by_k one (cells_of n.routes i t) t j)
kids_for_by_k one n (Swap i j t) = child (slipless one) n (cross_by_k n t i) ++ child (slipless one) n (cross_by_k n t j)

unfoldable pub kids_by_k : OneJob → Node → List Node
kids_by_k one n = kids_for_by_k one n (clash_by_k one n)

-- the tree of a job with room for N records; rule 3's root
unfoldable pub tree_by_k : OneJob → ℕ → Outcome Node
tree_by_k one capacity = search (node_sum (slipless one)) (clear_by_k one) (kids_by_k one) capacity (root (slipless one))
