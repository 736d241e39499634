-- The promises, from the laws of the search over abstract nodes: the tree's nodes are good, their kids lose no plan, a node's sum
-- bounds every plan under its bars, and kids weigh less than their node. Assumes nothing.
use Prim.Native.Nat.{ℕ, ◌+◌, ◌≤◌}
use native.Mathlib.Omega.{arith}
use mathlib.Core.Path.{◌≡◌, refl, sym, subst}
use mathlib.Core.Bool.{true, false, true≢false}
use mathlib.Core.Option.{Option, none, some}
use lib.ListN.{length}
use Rattle.lists.specs.Lists.{Every, Any}
use Rattle.job.specs.Job.{Job}
use Rattle.clashes.specs.Clash.{Apart}
use Rattle.clashes.specs.declared.Clash.{Clash}
use Rattle.clashes.specs.declared.Clash.TheVariants.{Clear, Meeting, Swap}
use Rattle.search.specs.Search.{done}
use Rattle.search.proofs.Goes.{Goes, search_goes}
use Rattle.search.proofs.Least.{found_least, spent_none}
use Rattle.search.proofs.Need.{need_exists}
use Rattle.tree.specs.Plan.{Routes, travels, total, Family, IsPlan, IsSafe}
use Rattle.tree.specs.Tree.{Node, root, node_sum, clash_of, is_clear, node_clear, kids, tree}
use Rattle.tree.specs.Promises.{LeastPlan, NoneExists, NeedIs, Need}
use Rattle.tree.proofs.Nodes.{Good, In, clash_fact, kids_good, sum_bounds, root_good, root_covers, root-length}
use Rattle.tree.proofs.Covers.{kids_cover}
use Rattle.tree.proofs.Weight.{weight, kids_lighter}
use Rattle.clashes.specs.First.{ChosenFact}
use Rattle.clashes.proofs.Holds.{apart_survives, survives_apart}

-- a plan, with the proof that it is one
abbrev Plans : Job → Type 0
Plans job = (rs : Routes) × IsPlan job rs

module _ (job : Job) where
  obeys : Node → Plans job → Type 0
  obeys n p = In job n p.0

  covers : (n : Node) (p : Plans job) → Good job n → node_clear job n ≡ false → obeys n p → Any (λ k. obeys k p) (kids job n)
  unfolding obeys
  covers n p g e within = kids_cover job n p.0 p.1 e within

  good_kids : (n : Node) → Good job n → node_clear job n ≡ false → Every (Good job) (kids job n)
  good_kids n g e = kids_good job n g

  bounds : (n : Node) (p : Plans job) → Good job n → obeys n p → node_sum job n ≤ total job p.0
  unfolding obeys
  bounds n p g within = sum_bounds job n p.0 g p.1.family within

  all_in_root : (p : Plans job) → Any (λ k. obeys k p) (root job)
  unfolding obeys
  all_in_root p = root_covers job p.0 p.1.family

  -- how the tree goes, turn by turn
  goes : (capacity : ℕ) → 1 ≤ capacity → Goes (node_sum job) (node_clear job) (kids job) capacity (root job) (length (root job)) (tree job capacity)
  unfolding tree
  goes capacity l = search_goes (node_sum job) (node_clear job) (kids job) capacity (root job) (omega (arith, root-length job))

  clear_apart : (n : Node) → node_clear job n ≡ true → Apart (travels job n.routes) job.count
  unfolding node_clear is_clear ChosenFact
  clear_apart n e = go (clash_of job n) (clash_fact job n) e
    where
      go : (c : Clash) → ChosenFact (travels job n.routes) job.count c → is_clear c ≡ true → Apart (travels job n.routes) job.count
      go Clear fact e = fact
      go (Meeting i j t d) fact e = absurd (true≢false (sym e))
      go (Swap i j t) fact e = absurd (true≢false (sym e))

  good_family : (n : Node) → Good job n → Family job n.routes
  good_family n g = record { all = g.all; lawful = λ i l. (g.best i l).allowed.lawful }

  -- demand 3 of a family: no meeting and no swap exactly if no pattern of holds collides
  plan_safe : (rs : Routes) → IsPlan job rs → IsSafe job rs
  plan_safe rs p = apart_survives (travels job rs) job.count p.apart

  safe_plan : (rs : Routes) → Family job rs → IsSafe job rs → IsPlan job rs
  safe_plan rs f s = record { family = f; apart = survives_apart (travels job rs) job.count s }

  -- answer 0
  pub tree_least : (capacity : ℕ) → 1 ≤ capacity → (n : Node) (r : ℕ) → tree job capacity ≡ done (some n) r → LeastPlan job n.routes (node_sum job n)
  unfolding node_sum
  tree_least capacity l n r e =
      let (g, c, least) =
      found_least (node_sum job) (node_clear job) (kids job) (Plans job) (Good job) obeys covers good_kids (λ p. total job p.0) bounds (root_good job) all_in_root
      (subst (λ o. Goes (node_sum job) (node_clear job) (kids job) capacity (root job) (length (root job)) o) e (goes capacity l))
      in
      let p : IsPlan job n.routes = record { family = good_family n g; apart = clear_apart n c } in
      record {
        plan = p;
        told = refl;
        least = λ qs q. least (qs, q);
        safe = plan_safe n.routes p;
        least_safe = λ qs f s. least (qs, safe_plan qs f s);
      }

  -- answer 8
  pub tree_none : (capacity : ℕ) → 1 ≤ capacity → (r : ℕ) → tree job capacity ≡ done none r → NoneExists job
  unfolding NoneExists
  tree_none capacity l r e =
      λ qs q.
      spent_none (node_sum job) (node_clear job) (kids job) (Plans job) (Good job) obeys covers good_kids (root_good job) all_in_root
      (subst (λ o. Goes (node_sum job) (node_clear job) (kids job) capacity (root job) (length (root job)) o) e (goes capacity l)) (qs, q)

  -- the need: there is one, and only one
  pub tree_need : Need job
  unfolding tree
  tree_need =
      let (need, end, enough, short, more) =
      need_exists (node_sum job) (node_clear job) (kids job) (Good job) good_kids (weight job) (λ n g e. kids_lighter job n g e) (root job) (root_good job)
      in
      record {
        need = need;
        end = end;
        is = record {
          enough = λ c l h. enough c (omega (arith, root-length job)) h;
          short = λ c l h. short c (omega (arith, root-length job)) h;
        };
      }

  pub need_one : (a b : ℕ) (x y : Option Node) → NeedIs job a x → NeedIs job b y → (a ≡ b) × (x ≡ y)
  need_one a b x y p q =
      let one : tree job (1 + a + b) ≡ done x a = p.enough (1 + a + b) (omega arith) (omega arith) in
      let other : tree job (1 + a + b) ≡ done y b = q.enough (1 + a + b) (omega arith) (omega arith) in
      (cc (one, other), cc (one, other))
