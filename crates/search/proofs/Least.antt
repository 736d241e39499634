-- The clear node that a search ends with is worth no more than any plan: at every turn each plan lies in one of the open nodes, whose
-- sum is at most the plan's worth, and the node taken has the least sum of all. So where no node is left, there is no plan.
-- Assumes nothing.
use Prim.Native.Nat.{ℕ, ◌≤◌}
use mathlib.Core.Bool.{Bool, true, false}
use mathlib.Core.List.{List, ◌++◌}
use mathlib.Core.Logic.{inl, inr}
use mathlib.Core.Option.{none, some}
use mathlib.Core.Path.{◌≡◌}
use native.Mathlib.Omega.{arith}
use Rattle.lists.specs.Lists.{Every, Any}
use Rattle.search.specs.Search.{done, Taken, FirstLeast, take_least}
use Rattle.lists.proofs.Every.{every_both, any_of_every, any_append_left, any_append_right}
use Rattle.search.proofs.Goes.{Goes, goes_spent, goes_found, goes_on}
use Rattle.search.proofs.Taken.{none_only_empty, some_first_least, taken_least, taken_every, taken_any, good_next}

module _ {Node : Type 0} (sum : Node → ℕ) (clear : Node → Bool) (kids : Node → List Node) (Plan : Type 0) (Good : Node → Type 0) (In : Node → Plan → Type 0) (covers : (n : Node) (p : Plan) → Good n → clear n ≡ false → In n p → Any (λ k. In k p) (kids n)) (good-kids : (n : Node) → Good n → clear n ≡ false → Every Good (kids n)) where
  -- each plan still lies in an open node: where it lay in the node taken, it lies in one of the kids
  in_next : (live : List Node) (o : Taken Node) → take_least sum clear kids live ≡ some o → clear o.node ≡ false → Every Good live → ((p : Plan) → Any (λ k. In k p) live) → (p : Plan) → Any (λ k. In k p) (o.rest ++ kids o.node)
  in_next live o e c good all p =
      let f = some_first_least sum clear kids live o e in
      elim (taken_any f (λ k. In k p) (all p)) [
        | inl here ↦ any_append_right (λ k. In k p) o.rest (kids o.node) (covers o.node p (taken_every f Good good).0 c here)
        | inr other ↦ any_append_left (λ k. In k p) o.rest (kids o.node) other
      ]

  pub spent_none : {cap : ℕ} {live : List Node} {made r : ℕ} → Every Good live → ((p : Plan) → Any (λ k. In k p) live) → Goes sum clear kids cap live made (done none r) → Plan → ⊥
  unfolding Any
  spent_none {live} good all (goes_spent e) p = rw (none_only_empty sum clear kids live e) at (all p)
  spent_none {live} good all (goes_on o e c h g) p = spent_none (good_next sum clear kids Good good-kids live o e c good) (in_next live o e c good all) g p

  module _ (worth : Plan → ℕ) (bounds : (n : Node) (p : Plan) → Good n → In n p → sum n ≤ worth p) where
    -- the node taken has at most the sum of the open node in which the plan lies
    taken_bounds : {live : List Node} {o : Taken Node} → FirstLeast sum live o → Every Good live → (p : Plan) → Any (λ k. In k p) live → sum o.node ≤ worth p
    taken_bounds {live} {o} f good p a =
        let k = any_of_every (λ x. Good x × (sum o.node ≤ sum x)) (λ x. In x p) live (every_both Good (λ x. sum o.node ≤ sum x) live good (taken_least f)) a in
        omega (arith, bounds k.0 p k.1.0 k.2, k.1.1)

    pub found_least : {cap : ℕ} {live : List Node} {made : ℕ} {n : Node} {r : ℕ} → Every Good live → ((p : Plan) → Any (λ k. In k p) live) → Goes sum clear kids cap live made (done (some n) r) → Good n × (clear n ≡ true) × ((p : Plan) → sum n ≤ worth p)
    found_least {live} good all (goes_found o e c) = let f = some_first_least sum clear kids live o e in ((taken_every f Good good).0, c, λ p. taken_bounds f good p (all p))
    found_least {live} good all (goes_on o e c h g) = found_least (good_next sum clear kids Good good-kids live o e c good) (in_next live o e c good all) g
