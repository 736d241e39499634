-- How many records a search needs. Without capacity it comes to an end, since the total weight of the open nodes falls at each turn;
-- the records then made are its need. A search with room for them ends so too, and one with less room ends full.
-- Assumes nothing.
use Prim.Native.Nat.{ℕ, zero, suc, ◌+◌, ◌≤◌, ◌<◌}
use mathlib.Core.Bool.{Bool, false}
use mathlib.Core.List.{List, ◌∷◌, ◌++◌}
use mathlib.Core.Option.{Option, none, some}
use mathlib.Core.Path.{◌≡◌}
use native.Mathlib.Decide.{dec_le}
use native.Mathlib.Omega.{arith}
use lib.ListN.{length}
use Rattle.lists.specs.Lists.{Every}
use Rattle.lists.proofs.Sums.{total_of, total_append}
use Rattle.search.specs.Search.{done, full, Taken, FirstLeast, take_least, search}
use Rattle.search.proofs.Goes.{Goes, goes_spent, goes_found, goes_full, goes_on, turn, turn_spent, turn_found, turn_kids, goes_search}
use Rattle.search.proofs.Taken.{some_first_least, taken_every, good_next}

total_taken : {Node : Type 0} (weight : Node → ℕ) {sum : Node → ℕ} (live : List Node) (o : Taken Node) → FirstLeast sum live o → total_of weight live ≡ weight o.node + total_of weight o.rest
unfolding total_of
total_taken weight live o f = rw (f.live_split, f.rest_split) (omega (arith, total_append weight f.before (o.node ∷ f.after), total_append weight f.before f.after))

module _ {Node : Type 0} (sum : Node → ℕ) (clear : Node → Bool) (kids : Node → List Node) where
  module _ (Good : Node → Type 0) (good-kids : (n : Node) → Good n → clear n ≡ false → Every Good (kids n)) (weight : Node → ℕ) (falls : (n : Node) → Good n → clear n ≡ false → total_of weight (kids n) < weight n) where
    total_falls : (live : List Node) (o : Taken Node) → take_least sum clear kids live ≡ some o → clear o.node ≡ false → Every Good live → total_of weight (o.rest ++ kids o.node) < total_of weight live
    total_falls live o e c good =
        let f = some_first_least sum clear kids live o e in
        omega (arith, total_append weight o.rest (kids o.node), total_taken weight live o f, falls o.node (taken_every f Good good).0 c)

    -- the end of the search without capacity, told by how those with capacity go: by recursion on a bound b of the total weight
    ends_below : (b : ℕ) (live : List Node) (made : ℕ) → Every Good live → total_of weight live < b
        → (need : ℕ) × (answer : Option Node)
        × ((cap : ℕ) → made ≤ cap → need ≤ cap → Goes sum clear kids cap live made (done answer need))
        × ((cap : ℕ) → made ≤ cap → cap < need → Goes sum clear kids cap live made (full cap))
        × (made ≤ need)
    ends_below zero live made good small = absurd (omega arith)
    ends_below (suc b) live made good small =
        elim (turn sum clear kids live) [
          | turn_spent e ↦ (made, none, λ cap room more. goes_spent e, λ cap room less. absurd (omega arith), omega arith)
          | turn_found o e c ↦ (made, some o.node, λ cap room more. goes_found o e c, λ cap room less. absurd (omega arith), omega arith)
          | turn_kids o e c ↦
              let fewer : total_of weight (o.rest ++ kids o.node) < b = omega (arith, total_falls live o e c good) in
              let r = ends_below b (o.rest ++ kids o.node) (made + length (kids o.node)) (good_next sum clear kids Good good-kids live o e c good) fewer in
              let low : made + length (kids o.node) ≤ r.0 = r.4 in (
                r.0,
                r.1,
                λ cap room more. let fits : made + length (kids o.node) ≤ cap = omega arith in goes_on o e c fits (r.2 cap fits more),
                λ cap room less. elim (dec_le (made + length (kids o.node)) cap) [ yes fits ↦ goes_on o e c fits (r.3 cap fits less) | no tight ↦ let over : cap < made + length (kids o.node) = omega arith in goes_full o e c over ],
                omega arith,
              )
        ]

    pub need_exists : (roots : List Node) → Every Good roots
        → (need : ℕ) × (answer : Option Node)
        × ((cap : ℕ) → length roots ≤ cap → need ≤ cap → search sum clear kids cap roots ≡ done answer need)
        × ((cap : ℕ) → length roots ≤ cap → cap < need → search sum clear kids cap roots ≡ full cap)
        × (length roots ≤ need)
    need_exists roots good =
        let r = ends_below (suc (total_of weight roots)) roots (length roots) good (omega arith) in (
          r.0,
          r.1,
          λ cap room more. goes_search sum clear kids cap roots room (r.2 cap room more),
          λ cap room less. goes_search sum clear kids cap roots room (r.3 cap room less),
          r.4,
        )
