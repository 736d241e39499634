-- The route that a child's barred carrier, or a carrier of the root, is given by the tree is the one that is sought over the records:
-- a node's new bar stands in front of its chain, and 'no bar' forbids nothing. Assumes nothing.
use Prim.Native.Nat.{ℕ, ◌+◌}
use native.Mathlib.Omega.{arith}
use mathlib.Core.Path.{◌≡◌, refl, sym, ap, subst, ◌∙◌}
use mathlib.Core.Bool.{Bool, true, false}
use mathlib.Core.List.{List, [], ◌∷◌}
use mathlib.Core.Option.{Option, none, some}
use lib.ListN.{length}
use Rattle.lists.specs.Lists.{only}
use Rattle.job.specs.Job.{Job}
use Rattle.routes.specs.Bars.{bars_for}
use Rattle.routes.specs.Best.{best_route, RightRoute}
use Rattle.routes.specs.declared.Bar.{Bar}
use Rattle.routes.specs.declared.Bar.TheVariants.{Free}
use Rattle.routes.proofs.Binds.{own_bar_binds}
use Rattle.routes.proofs.Right.{best_is_right}
use Rattle.records.specs.Columns.{bar_at, is_bar, own_bars, chain_of}
use Rattle.records.proofs.Chain.{chain_root}
use Rattle.marks.specs.Marks.{bound_by}
use Rattle.layers.proofs.SeekLaws.{route_is_best, free_bar}
use Rattle.tree.specs.Tree.{route_under}
use Rattle.children.specs.Written.{is_found}

pub barred_route : (job : Job) (capacity : ℕ) (columns : List ℕ) (x i : ℕ) (bar : Bar) → route_under job (record { carrier = i; bar = bar } ∷ chain_of capacity columns x) i ≡ best_route job i (bound_by capacity columns x i bar)
unfolding route_under bound_by
barred_route job capacity columns x i bar = ap (best_route job i) (own_bar_binds (record { carrier = i; bar = bar }) (chain_of capacity columns x))

free_forbids_nothing : (job : Job) (i : ℕ) → best_route job i (Free ∷ []) ≡ best_route job i []
free_forbids_nothing job i =
    sym (route_is_best job i (Free ∷ []))
    ∙ free_bar job.hall [] (job.start_of i) (job.goal_of i) job.horizon
    ∙ route_is_best job i []

-- record 0 has no bar
module _ (capacity : ℕ) (columns : List ℕ) (unbarred : bar_at capacity columns 0 ≡ Free) where
  pub root_unbarred : chain_of capacity columns 0 ≡ []
  unfolding own_bars only is_bar
  root_unbarred = chain_root capacity columns ∙ rw unbarred refl

  pub free_route : (job : Job) (i : ℕ) → route_under job [] i ≡ best_route job i (bound_by capacity columns 0 i Free)
  unfolding route_under bound_by bars_for
  free_route job i = rw root_unbarred (sym (free_forbids_nothing job i))

-- a route has a cell for each step
route_long : (job : Job) (i : ℕ) (bars : List Bar) (o : Option (List ℕ)) (r : List ℕ) → RightRoute job i bars o → o ≡ some r → length r ≡ job.horizon + 1
unfolding RightRoute
route_long job i bars none r f e = let z : ◌≡◌ {A = ℕ} 0 1 = cc in absurd (omega arith)
route_long job i bars (some s) r f e = let t : s ≡ r = cc in subst (λ (q : List ℕ). length q ≡ job.horizon + 1) t f.allowed.lawful.long

pub best_long : (job : Job) (i : ℕ) (bars : List Bar) (r : List ℕ) → best_route job i bars ≡ some r → length r ≡ job.horizon + 1
best_long job i bars r e = route_long job i bars (best_route job i bars) r (best_is_right job i bars) e

-- ---- found or not

pub not_found : (o : Option (List ℕ)) → false ≡ is_found o → o ≡ none
unfolding is_found
not_found none e = refl
not_found (some r) e = let z : ◌≡◌ {A = Bool} true false = cc in let o : ◌≡◌ {A = ℕ} 0 1 = cc in absurd (omega arith)

pub was_found : (o : Option (List ℕ)) → true ≡ is_found o → (r : List ℕ) × (o ≡ some r)
unfolding is_found
was_found none e = let z : ◌≡◌ {A = Bool} true false = cc in let o : ◌≡◌ {A = ℕ} 0 1 = cc in absurd (omega arith)
was_found (some r) e = (r, refl)
