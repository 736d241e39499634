-- Wrong turns of rules 5 and 6, each refuted at a node of two carriers: antt computes what the definition says there. Assumes nothing.
use Prim.Native.Nat.{ℕ}
use native.Mathlib.Omega.{arith}
use mathlib.Core.Path.{◌≡◌, ap}
use mathlib.Core.Bool.{true≢false}
use mathlib.Core.List.{List, [], ◌∷◌}
use lib.ListN.{get_or}
use Rattle.lists.specs.Lists.{range, greatest, each, first_of}
use Rattle.job.specs.Job.{Job}
use Rattle.routes.specs.Bars.{Barred}
use Rattle.routes.specs.declared.Bar.TheVariants.{Free, Stay, Cross}
use Rattle.clashes.specs.Chosen.{written, meets, swaps, happens, over_pairs, at_step, candidates, or_clear, chosen}
use Rattle.clashes.specs.declared.Clash.TheVariants.{Clear, Meeting, Swap}
use Rattle.tree.specs.Tree.{Node, clash_of, is_clear, bar_one, bar_two}

-- three cells in a row, H 3, two carriers of these slips
abbrev row : ℕ → ℕ → Job
row one other =
    record {
      hall = record { width = 3; height = 1; bytes = 46 ∷ 46 ∷ 46 ∷ [] };
      count = 2;
      start_of = λ i. i;
      goal_of = λ i. 1;
      slip_of = λ i. get_or (one ∷ other ∷ []) i 0;
      horizon = 3;
    }

abbrev node : List ℕ → List ℕ → Node
node r s = record { bars = []; routes = r ∷ s ∷ [] }

-- the first and the last number of a bar's steps, or the first cell of a crossing
abbrev from : Barred → ℕ
from b = elim b.bar [ Free ↦ 9 | Stay v a e ↦ a | Cross u v t ↦ u ]

abbrev to : Barred → ℕ
to b = elim b.bar [ Free ↦ 9 | Stay v a e ↦ e | Cross u v t ↦ v ]

-- ---- rule 6: a meeting at step 2 with slips 1, and a swap at step 0

abbrev met : Node
met = node (0 ∷ 0 ∷ 1 ∷ 1 ∷ []) (1 ∷ 2 ∷ 1 ∷ 1 ∷ [])

-- child two barred for one step only
pub bar_one_step_short : record { carrier = 1; bar = Stay 1 2 2 } ≡ bar_two (row 1 1) met (Meeting 0 1 2 0) → ⊥
unfolding bar_two
bar_one_step_short e = let z : ◌≡◌ {A = ℕ} 2 3 = ap to e in omega arith

-- bars on both sides of the step
pub bars_both_sides : record { carrier = 0; bar = Stay 1 1 3 } ≡ bar_one (row 1 1) met (Meeting 0 1 2 0) → ⊥
unfolding bar_one
bars_both_sides e = let z : ◌≡◌ {A = ℕ} 1 2 = ap from e in omega arith

-- each barred over its own slip: carrier 0 may slip 2 steps, carrier 1 none
pub barred_over_its_own_slip : record { carrier = 0; bar = Stay 1 2 4 } ≡ bar_one (row 2 0) met (Meeting 0 1 2 0) → ⊥
unfolding bar_one
barred_over_its_own_slip e = let z : ◌≡◌ {A = ℕ} 4 2 = ap to e in omega arith

-- carrier 1 is on cell 1 a step before carrier 0: child one bars the smaller number, not the earlier
pub smaller_number_in_child_one : 0 ≡ (bar_one (row 0 1) (node (0 ∷ 1 ∷ 1 ∷ 1 ∷ []) (1 ∷ 2 ∷ 2 ∷ 2 ∷ [])) (clash_of (row 0 1) (node (0 ∷ 1 ∷ 1 ∷ 1 ∷ []) (1 ∷ 2 ∷ 2 ∷ 2 ∷ [])))).carrier → ⊥
unfolding bar_one clash_of chosen or_clear candidates at_step over_pairs happens meets swaps written range greatest each first_of
smaller_number_in_child_one e = let z : ◌≡◌ {A = ℕ} 0 1 = e in omega arith

-- both children barred from the crossing of i
pub one_crossing_for_both : record { carrier = 1; bar = Cross 0 1 0 } ≡ bar_two (row 0 0) (node (0 ∷ 1 ∷ 1 ∷ 1 ∷ []) (1 ∷ 0 ∷ 1 ∷ 1 ∷ [])) (Swap 0 1 0) → ⊥
unfolding bar_two
one_crossing_for_both e = let z : ◌≡◌ {A = ℕ} 0 1 = ap from e in omega arith

-- ---- rule 5: carrier 1 stays on its goal, its cost is 0, and carrier 0 comes there at step 2

-- compared only to the end of the shorter route
pub compared_to_the_shorter : Clear ≡ clash_of (row 0 0) (node (0 ∷ 0 ∷ 1 ∷ 1 ∷ []) (1 ∷ 1 ∷ 1 ∷ 1 ∷ [])) → ⊥
unfolding clash_of chosen or_clear candidates at_step over_pairs happens meets swaps written is_clear range greatest each first_of
compared_to_the_shorter e = true≢false (ap is_clear e)
