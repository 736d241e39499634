-- With every slip k the search tree is the one with one k: the same root, and at every node the same sum, the same clash and the same
-- children, since the carriers of a chosen clash are carriers of the job. Assumes nothing.
use Prim.Native.Nat.{ℕ, zero, suc, ◌+◌}
use mathlib.Core.Path.{◌≡◌, refl, ap, ap₂, ◌∙◌, fun_ext}
use mathlib.Core.List.{[], ◌++◌}
use Rattle.job.specs.Job.{Job}
use Rattle.routes.specs.Best.{best_route}
use Rattle.routes.specs.declared.Bar.TheVariants.{Stay}
use Rattle.clashes.specs.First.{ChosenFact}
use Rattle.clashes.specs.declared.Clash.{Clash}
use Rattle.clashes.specs.declared.Clash.TheVariants.{Clear, Meeting, Swap}
use Rattle.clashes.proofs.Chosen.{chosen_fact}
use Rattle.search.specs.Search.{search}
use Rattle.tree.specs.Plan.{cells_of, travels, total}
use Rattle.tree.specs.Tree.{Node, route_under, with_route, free_routes, root_of, root, node_sum, clash_of, is_clear, node_clear, bar_one, bar_two, child, kids_for, kids, tree}
use Rattle.equal_slips.specs.Job.{OneJob, with_slips, EverySlip, slipless}
use Rattle.equal_slips.specs.Tree.{clash_by_k, clear_by_k, stay_by_k, cross_by_k, kids_for_by_k, kids_by_k, tree_by_k}
use Rattle.equal_slips.proofs.Chosen.{chosen_same}

module _ (one : OneJob) (slipOf : ℕ → ℕ) where
  abbrev job : Job
  job = with_slips one slipOf

  free_same : (i n : ℕ) → free_routes job i n ≡ free_routes (slipless one) i n
  unfolding free_routes route_under best_route
  free_same i zero = refl
  free_same i (suc n) = ap (with_route (route_under (slipless one) [] i)) (free_same (suc i) n)

  root_same : root job ≡ root (slipless one)
  unfolding root
  root_same = ap root_of (free_same 0 one.count)

  module _ (equal : EverySlip one slipOf) where
    clash_same : (n : Node) → clash_of job n ≡ clash_by_k one n
    unfolding clash_of clash_by_k
    clash_same n = chosen_same (travels job n.routes) one.delay one.count equal

    clear_same : (n : Node) → node_clear job n ≡ clear_by_k one n
    unfolding node_clear clear_by_k
    clear_same n = ap is_clear (clash_same n)

    kids_for_same : (n : Node) (c : Clash) → ChosenFact (travels job n.routes) one.count c → kids_for job n c ≡ kids_for_by_k one n c
    unfolding ChosenFact kids_for kids_for_by_k bar_one bar_two stay_by_k cross_by_k child route_under best_route
    kids_for_same n Clear f = refl
    kids_for_same n (Meeting i j t d) f =
        ap₂ (λ (a b : ℕ).
        child (slipless one) n (record { carrier = i; bar = Stay (cells_of n.routes i t) t (t + a) })
        ++ child (slipless one) n (record { carrier = j; bar = Stay (cells_of n.routes i t) t (t + b) })) (equal j f.other) (equal i f.one)
    kids_for_same n (Swap i j t) f = refl

    kids_same : (n : Node) → kids job n ≡ kids_by_k one n
    unfolding kids kids_by_k clash_of
    kids_same n = kids_for_same n (clash_of job n) (chosen_fact (travels job n.routes) one.count) ∙ ap (kids_for_by_k one n) (clash_same n)

    pub tree_same : (capacity : ℕ) → tree job capacity ≡ tree_by_k one capacity
    unfolding tree tree_by_k node_sum total
    tree_same capacity =
        let clear : node_clear job ≡ clear_by_k one = fun_ext clear_same in
        let children : kids job ≡ kids_by_k one = fun_ext kids_same in
        λ p. search (node_sum (slipless one)) (clear p) (children p) capacity (root_same p)
