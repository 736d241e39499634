-- The free routes of some carriers: if all have one they are the tree's, if one has none neither has the tree; and each that is
-- written leaves those before it as they were. Assumes nothing.
use Prim.Native.Nat.{ℕ, zero, suc, ◌+◌, ◌*◌, ◌≤◌, ◌<◌}
use native.Mathlib.Omega.{arith}
use native.Mathlib.Decide.{ℕ_discrete}
use mathlib.Core.Path.{◌≡◌, refl, sym, ap, ◌∙◌}
use mathlib.Core.List.{List, [], map}
use mathlib.Core.Option.{Option, none, some}
use borrow.Author.Count.{below_more}
use lib.ListN.{length, set}
use lib.Seq.{get_or-set_same, get_or-set_other}
use Rattle.lists.specs.Lists.{range}
use Rattle.job.specs.Job.{Job, plan_length}
use Rattle.routes.specs.Bars.{bars_for}
use Rattle.tree.specs.Plan.{route_of}
use Rattle.tree.specs.Tree.{route_under, with_route, free_routes}
use Rattle.tables.specs.State.{routes_in, stretch_at}
use Rattle.tables.proofs.Stretches.{routes_length, route-written}
use Rattle.children.specs.Written.{put_route, one_more_than, free_from}
use Rattle.children.proofs.Routing.{best_long}

-- ---- the free routes of a part of the carriers

module _ (job : Job) where
  pub free_all : (f : ℕ → List ℕ) (a n : ℕ) → ((j : ℕ) → a ≤ j → j < a + n → route_under job [] j ≡ some (f j)) → free_routes job a n ≡ some (map f (range a n))
  unfolding free_routes range with_route
  free_all f a zero h = refl
  free_all f a (suc n) h = rw (h a (omega arith) (omega arith), free_all f (suc a) n (λ j k l. h j (omega arith) (omega arith))) refl

  with_none : (o : Option (List ℕ)) → with_route o none ≡ none
  unfolding with_route
  with_none none = refl
  with_none (some r) = refl

  pub free_lacks : (j a n : ℕ) → a ≤ j → j < a + n → route_under job [] j ≡ none → free_routes job a n ≡ none
  unfolding free_routes with_route
  free_lacks j a zero k l e = absurd (omega arith)
  free_lacks j a (suc n) k l e =
      elim (ℕ_discrete a j) [
        | yes s ↦ rw (s, e) refl
        | no ne ↦ rw (free_lacks j (suc a) n (omega (arith, ne)) (omega arith) e) (with_none (route_under job [] a))
      ]

  -- ---- how many have one, before the first that has none

  pub free_count_all : (f : ℕ → List ℕ) (a n : ℕ) → ((j : ℕ) → a ≤ j → j < a + n → route_under job [] j ≡ some (f j)) → free_from job a n ≡ n
  unfolding free_from one_more_than
  free_count_all f a zero h = refl
  free_count_all f a (suc n) h = rw (h a (omega arith) (omega arith), free_count_all f (suc a) n (λ j k l. h j (omega arith) (omega arith))) refl

  pub free_count_lacks : (f : ℕ → List ℕ) (j a n : ℕ) → a ≤ j → j < a + n → ((i : ℕ) → a ≤ i → i < j → route_under job [] i ≡ some (f i)) → route_under job [] j ≡ none → a + free_from job a n ≡ j
  unfolding free_from one_more_than
  free_count_lacks f j a zero k l h e = absurd (omega arith)
  free_count_lacks f j a (suc n) k l h e =
      elim (ℕ_discrete a j) [
        | yes s ↦ rw (s, e) (omega arith)
        | no ne ↦
            let more = free_count_lacks f j (suc a) n (omega (arith, ne)) (omega arith) (λ i p q. h i (omega arith) (omega arith)) e in
            rw (h a (omega arith) (omega (arith, ne))) (omega (arith, more))
      ]

  -- ---- one more route written

  abbrev routes : List ℕ → List (List ℕ)
  routes plans = routes_in job (stretch_at job plans 0)

  unbarred_long : (i : ℕ) (r : List ℕ) → route_under job [] i ≡ some r → length r ≡ job.horizon + 1
  unfolding route_under bars_for
  unbarred_long i r e = best_long job i [] r e

  module _ (plans : List ℕ) (room : 0 * plan_length job + plan_length job ≤ length plans) (i : ℕ) (inside : i < job.count) (r : List ℕ) (found : route_under job [] i ≡ some r) (so_far : (j : ℕ) → j < i → route_under job [] j ≡ some (route_of (routes plans) j)) where
    put_set : routes (put_route job plans 0 i (some r)) ≡ set (routes plans) i r
    unfolding put_route
    put_set = route-written job plans 0 i inside r (unbarred_long i r found) room

    pub free_more : (j : ℕ) → j < i + 1 → route_under job [] j ≡ some (route_of (routes (put_route job plans 0 i (some r))) j)
    free_more =
        rw put_set
        (below_more (λ j. route_under job [] j ≡ some (route_of (set (routes plans) i r) j)) i
        (λ j l. so_far j l ∙ ap some (sym (get_or-set_other (routes plans) i j r [] (λ e. omega arith))))
        (found ∙ ap some (sym (get_or-set_same (routes plans) i r [] (omega (arith, routes_length job (stretch_at job plans 0)))))))
