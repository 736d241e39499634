-- What is true of every node of the tree: each carrier's route is the best that its bars leave it. The root has it, since its
-- routes are best without bars, and so has a child, since one carrier is replanned and no bar is set for the others.
-- Assumes nothing.
use Prim.Native.Nat.{ℕ, zero, suc, ◌+◌, ◌≤◌, ◌<◌}
use native.Mathlib.Omega.{arith}
use native.Mathlib.Decide.{ℕ_discrete}
use native.Mathlib.Nat.{add-zero, zero-add, add-suc, suc-add}
use mathlib.Core.Path.{◌≡◌, refl, sym, ap, subst, ◌∙◌}
use mathlib.Core.Logic.{inl}
use mathlib.Core.List.{List, [], ◌∷◌, ◌++◌}
use mathlib.Core.Option.{Option, none, some}
use lib.ListN.{length, set, length-set}
use lib.Seq.{get_or-set_same, get_or-set_other}
use Rattle.lists.specs.Lists.{Every, Any}
use Rattle.lists.proofs.Every.{every_append}
use Rattle.lists.proofs.Sums.{sum_le}
use Rattle.job.specs.Job.{Job}
use Rattle.routes.specs.Route.{Lawful, cost}
use Rattle.routes.specs.Bars.{Barred, bars_for, Obeys, ObeysBar}
use Rattle.routes.specs.Best.{BestRoute, RightRoute, best_route}
use Rattle.routes.proofs.Binds.{own_bar_binds, other_bar_binds_not, obeys_one_more, obeys_none}
use Rattle.routes.specs.declared.Bar.{Bar}
use Rattle.clashes.specs.declared.Clash.{Clash}
use Rattle.clashes.specs.declared.Clash.TheVariants.{Clear, Meeting, Swap}
use Rattle.tree.specs.Plan.{Routes, route_of, travels, total, Family}
use Rattle.tree.specs.Tree.{Node, route_under, with_route, free_routes, root_of, root, node_sum, clash_of, bar_one, bar_two, child_with, child, kids_for, kids}
use Rattle.clashes.specs.First.{ChosenFact}
use Rattle.clashes.proofs.Chosen.{chosen_fact}
use Rattle.routes.proofs.Right.{best_is_right}

pub record Good (job : Job) (n : Node) : Type 0 where
  pub all : length n.routes ≡ job.count
  pub best : (i : ℕ) → i < job.count → BestRoute job i (bars_for i n.bars) (route_of n.routes i)

-- a plan obeys the bars of a node
unfoldable pub In : Job → Node → Routes → Type 0
In job n rs = (i : ℕ) → i < job.count → Obeys job.horizon (route_of rs i) (bars_for i n.bars)

module _ (job : Job) (n : Node) (b : Barred) where
  under : RightRoute job b.carrier (b.bar ∷ bars_for b.carrier n.bars) (route_under job (b ∷ n.bars) b.carrier)
  unfolding route_under
  under =
      subst (λ (bs : List Bar). RightRoute job b.carrier bs (best_route job b.carrier (bars_for b.carrier (b ∷ n.bars))))
      (own_bar_binds b n.bars) (best_is_right job b.carrier (bars_for b.carrier (b ∷ n.bars)))

  -- the child with route r for the barred carrier
  abbrev with : List ℕ → Node
  with r = record { bars = b ∷ n.bars; routes = set n.routes b.carrier r }

  with_good : (r : List ℕ) → Good job n → b.carrier < job.count → BestRoute job b.carrier (b.bar ∷ bars_for b.carrier n.bars) r → Good job (with r)
  with_good r g l fact =
      record {
        all = length-set n.routes b.carrier r ∙ g.all;
        best = λ i k. go i k (ℕ_discrete i b.carrier);
      }
    where
      go : (i : ℕ) → i < job.count → Dec (i ≡ b.carrier) → BestRoute job i (bars_for i (b ∷ n.bars)) (route_of (set n.routes b.carrier r) i)
      go i k (yes e) =
          rw (e, own_bar_binds b n.bars, get_or-set_same n.routes b.carrier r [] (subst (λ (m : ℕ). b.carrier < m) (sym g.all) l)) fact
      go i k (no ne) = rw (other_bar_binds_not b n.bars i ne, get_or-set_other n.routes b.carrier i r [] ne) (g.best i k)

  child_good : Good job n → b.carrier < job.count → Every (Good job) (child job n b)
  unfolding child child_with Every RightRoute
  child_good g l = go (route_under job (b ∷ n.bars) b.carrier) under
    where
      go : (o : Option (List ℕ)) → RightRoute job b.carrier (b.bar ∷ bars_for b.carrier n.bars) o → Every (Good job) (child_with n b o)
      go none fact = tt
      go (some r) fact = (with_good r g l fact, tt)

  -- a plan that obeys the node's bars and the new one obeys the child's, and the child is made
  pub child_covers : (rs : Routes) → Family job rs → b.carrier < job.count → In job n rs → ObeysBar job.horizon (route_of rs b.carrier) b.bar → Any (λ k. In job k rs) (child job n b)
  unfolding child child_with Any RightRoute In
  child_covers rs f l i o = go (route_under job (b ∷ n.bars) b.carrier) under
    where
      more : (j : ℕ) → j < job.count → Dec (j ≡ b.carrier) → Obeys job.horizon (route_of rs j) (bars_for j (b ∷ n.bars))
      more j k (yes e) =
          rw (e, own_bar_binds b n.bars) (obeys_one_more job.horizon (route_of rs b.carrier) b.bar (bars_for b.carrier n.bars) o (i b.carrier l))
      more j k (no ne) = rw (other_bar_binds_not b n.bars j ne) (i j k)

      go : (o : Option (List ℕ)) → RightRoute job b.carrier (b.bar ∷ bars_for b.carrier n.bars) o → Any (λ k. In job k rs) (child_with n b o)
      go none fact =
          absurd
          (fact (route_of rs b.carrier)
          (record {
            lawful = f.lawful b.carrier l;
            obeys = obeys_one_more job.horizon (route_of rs b.carrier) b.bar (bars_for b.carrier n.bars) o (i b.carrier l);
          }))
      go (some r) fact = inl (λ j k. more j k (ℕ_discrete j b.carrier))

-- ---- the children of a node

pub clash_fact : (job : Job) (n : Node) → ChosenFact (travels job n.routes) job.count (clash_of job n)
unfolding clash_of
clash_fact job n = chosen_fact (travels job n.routes) job.count

two_good : (job : Job) (n : Node) (a b : Barred) → Good job n → a.carrier < job.count → b.carrier < job.count → Every (Good job) (child job n a ++ child job n b)
two_good job n a b g l m = every_append (Good job) (child job n a) (child job n b) (child_good job n a g l) (child_good job n b g m)

pub kids_good : (job : Job) (n : Node) → Good job n → Every (Good job) (kids job n)
unfolding kids kids_for bar_one bar_two Every ChosenFact
kids_good job n g = go (clash_of job n) (clash_fact job n)
  where
    go : (c : Clash) → ChosenFact (travels job n.routes) job.count c → Every (Good job) (kids_for job n c)
    go Clear fact = tt
    go (Meeting i j t d) fact = two_good job n (bar_one job n (Meeting i j t d)) (bar_two job n (Meeting i j t d)) g fact.one fact.other
    go (Swap i j t) fact = two_good job n (bar_one job n (Swap i j t)) (bar_two job n (Swap i j t)) g fact.one fact.other

-- ---- a node's sum bounds every plan that obeys its bars

pub sum_bounds : (job : Job) (n : Node) (rs : Routes) → Good job n → Family job rs → In job n rs → node_sum job n ≤ total job rs
unfolding node_sum total In
sum_bounds job n rs g f within =
    sum_le job.count (λ i. cost (job.goal_of i) (route_of n.routes i)) (λ i. cost (job.goal_of i) (route_of rs i))
    (λ i l. (g.best i l).least (route_of rs i) (record { lawful = f.lawful i l; obeys = within i l }))

-- ---- the root

no_bars : (job : Job) (i : ℕ) → RightRoute job i [] (route_under job [] i)
unfolding route_under bars_for
no_bars job i = best_is_right job i []

-- routes of n carriers from i on, each best without bars; none only where one of them has none
unfoldable FreeFact : Job → ℕ → ℕ → Option Routes → Type 0
FreeFact job i n none = (j : ℕ) × (i ≤ j) × (j < i + n) × ((r : List ℕ) → Lawful job j r → ⊥)
FreeFact job i n (some rs) = (length rs ≡ n) × ((j : ℕ) → j < n → BestRoute job (i + j) [] (route_of rs j))

first_free : (job : Job) (n i : ℕ) (r : List ℕ) (rs : Routes) → BestRoute job i [] r → ((j : ℕ) → j < n → BestRoute job (suc i + j) [] (route_of rs j))
    → (j : ℕ) → j < suc n → BestRoute job (i + j) [] (route_of (r ∷ rs) j)
first_free job n i r rs one more zero l = rw add-zero one
first_free job n i r rs one more (suc j) l = rw (add-suc, ← suc-add) (more j (omega arith))

free_fact : (job : Job) (n i : ℕ) → FreeFact job i n (free_routes job i n)
unfolding FreeFact free_routes with_route RightRoute
free_fact job zero i = (refl, λ j l. absurd (omega arith))
free_fact job (suc n) i = go (route_under job [] i) (free_routes job (suc i) n) (no_bars job i) (free_fact job n (suc i))
  where
    go : (o : Option (List ℕ)) (p : Option Routes) → RightRoute job i [] o → FreeFact job (suc i) n p → FreeFact job i (suc n) (with_route o p)
    go none p fact facts = (i, omega arith, omega arith, λ r law. fact r (record { lawful = law; obeys = obeys_none job.horizon r }))
    go (some r) none fact facts = (facts.0, omega (arith, facts.1), omega (arith, facts.2), facts.3)
    go (some r) (some rs) fact facts = (ap suc facts.0, first_free job n i r rs fact facts.1)

pub root_good : (job : Job) → Every (Good job) (root job)
unfolding root root_of Every FreeFact bars_for
root_good job = go (free_routes job 0 job.count) (free_fact job job.count 0)
  where
    go : (o : Option Routes) → FreeFact job 0 job.count o → Every (Good job) (root_of o)
    go none fact = tt
    go (some rs) fact =
        (record { all = fact.0; best = λ i l. rw zero-add at (fact.1 i l) }, tt)

-- every plan obeys the root's bars, which are none; where a carrier has no route there is no root, and no plan
pub root_covers : (job : Job) (rs : Routes) → Family job rs → Any (λ k. In job k rs) (root job)
unfolding root root_of Any FreeFact bars_for In
root_covers job rs f = go (free_routes job 0 job.count) (free_fact job job.count 0)
  where
    go : (o : Option Routes) → FreeFact job 0 job.count o → Any (λ k. In job k rs) (root_of o)
    go none fact = absurd (fact.3 (route_of rs fact.0) (f.lawful fact.0 (omega (arith, fact.2))))
    go (some qs) fact = inl (λ i l. obeys_none job.horizon (route_of rs i))

pub root-length : (job : Job) → length (root job) ≤ 1
unfolding root root_of
root-length job = go (free_routes job 0 job.count)
  where
    go : (o : Option Routes) → length (root_of o) ≤ 1
    go none = omega arith
    go (some qs) = omega arith
