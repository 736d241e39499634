-- What the library writes into a list of numbers that the caller lends. A list that is too short stays as it was.
use Rattle.std.specs.Prelude.{ℕ, cond, List, [], ◌∷◌, ◌++◌, ltb, length, drop}
use Rattle.job.specs.declared.Told.{Told}
use Rattle.job.specs.declared.Fault.{Fault}

-- the values first, the rest unchanged
unfoldable pub written : List ℕ → List ℕ → List ℕ
written values lent = cond (ltb (length lent) (length values)) lent (values ++ drop (length values) lent)

-- what the planner tells, and what a check tells
abbrev pub told_values : Told → List ℕ
told_values t = t.number ∷ t.sum ∷ t.records ∷ t.carrier ∷ t.other ∷ t.table ∷ t.needed ∷ []

abbrev pub fault_values : Fault → List ℕ
fault_values f = f.number ∷ f.carrier ∷ f.other ∷ f.step ∷ f.distance ∷ f.swap ∷ f.needed ∷ []

-- where a body stands in its book, and how long it is
abbrev pub place_values : ℕ → ℕ → List ℕ
place_values offset size = offset ∷ size ∷ []
