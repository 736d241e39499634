-- Wrong turns of the search, each refuted at a small tree: antt computes what the definition says there. The nodes are numbers, and a
-- node's number is its sum unless another is named. Assumes nothing.
use Prim.Native.Nat.{ℕ, ◌+◌}
use native.Mathlib.Omega.{arith}
use mathlib.Core.Path.{◌≡◌, ap}
use mathlib.Core.Bool.{true, false}
use mathlib.Core.List.{List, [], ◌∷◌}
use mathlib.Core.Option.{Option, none, some}
use lib.Dec.{eqb, ltb}
use Rattle.search.specs.Search.{Outcome, done, full, Taken, prefer, take_least, run, search}

-- what a search ends with, in numbers: 0 for full, 1 for no node, otherwise two more than the node
abbrev ending : Outcome ℕ → ℕ
ending (done none made) = 1
ending (done (some n) made) = 2 + n
ending (full cap) = 0

-- the node taken
abbrev first : Option (Taken ℕ) → ℕ
first none = 9
first (some o) = o.node

-- 0 has the kids 5 and 3, and 3 has the kid 4; 4 and 5 are clear
abbrev kids_of : ℕ → List ℕ
kids_of n = elim (eqb n 0) [ true ↦ 5 ∷ 3 ∷ [] | false ↦ elim (eqb n 3) [ true ↦ 4 ∷ [] | false ↦ [] ] ]

abbrev found : ℕ → Outcome ℕ
found cap = search (λ n. n) (λ n. ltb 3 n) kids_of cap (0 ∷ [])

-- 9 one record early: four records are needed, and four are enough
pub one_record_early : full 4 ≡ found 4 → ⊥
unfolding search run take_least prefer
one_record_early e = let z : ◌≡◌ {A = ℕ} 0 6 = ap ending e in omega arith

-- the clear child 5 given at once, for 4
pub clear_child_at_once : done (some 5) 3 ≡ found 4 → ⊥
unfolding search run take_least prefer
clear_child_at_once e = let z : ◌≡◌ {A = ℕ} 7 6 = ap ending e in omega arith

-- the first open node, for the one of least sum
pub first_for_least : some (record { node = 5; rest = 3 ∷ [] }) ≡ take_least (λ n. n) (λ n. false) kids_of (5 ∷ 3 ∷ []) → ⊥
unfolding take_least prefer
first_for_least e = let z : ◌≡◌ {A = ℕ} 5 3 = ap first e in omega arith

-- the later of two nodes whose sums are 7
pub later_of_equal_sums : some (record { node = 1; rest = 0 ∷ [] }) ≡ take_least (λ n. 7) (λ n. false) kids_of (0 ∷ 1 ∷ []) → ⊥
unfolding take_least prefer
later_of_equal_sums e = let z : ◌≡◌ {A = ℕ} 1 0 = ap first e in omega arith
