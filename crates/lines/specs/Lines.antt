-- Document 01, 'The book of a job', what the program prints: 'One line `answer` and the number. For 0, then `sum`, `records`, and for
-- each carrier its number, cost and cells from step 0 to its cost. For 5 a line `carrier i`; for 6 `carriers i j`; for 8 and 9
-- `records r`.' P1: 16 'directly after 6', 'printed like it'; a 7, which the program never gives, is printed with what it tells, one
-- line each.
use Rattle.std.specs.Prelude.{ℕ, zero, suc, ◌+◌, ◌*◌, Bool, cond, ◌||◌, List, [], ◌∷◌, ◌++◌, eqb, ltb, length, get_or, take}
use Rattle.lists.specs.Lists.{each}
use Rattle.job.specs.declared.Team.{Team}
use Rattle.job.specs.declared.Told.{Told}
use Rattle.routes.specs.Route.{route_in, cost}
use Rattle.text.specs.Text.{digits}

-- 'answer '
abbrev pub answer_word : List ℕ
answer_word = 97 ∷ 110 ∷ 115 ∷ 119 ∷ 101 ∷ 114 ∷ 32 ∷ []

-- 'sum '
abbrev pub sum_word : List ℕ
sum_word = 115 ∷ 117 ∷ 109 ∷ 32 ∷ []

-- 'records '
abbrev pub records_word : List ℕ
records_word = 114 ∷ 101 ∷ 99 ∷ 111 ∷ 114 ∷ 100 ∷ 115 ∷ 32 ∷ []

-- 'carrier '
abbrev pub carrier_word : List ℕ
carrier_word = 99 ∷ 97 ∷ 114 ∷ 114 ∷ 105 ∷ 101 ∷ 114 ∷ 32 ∷ []

-- 'carriers '
abbrev pub carriers_word : List ℕ
carriers_word = 99 ∷ 97 ∷ 114 ∷ 114 ∷ 105 ∷ 101 ∷ 114 ∷ 115 ∷ 32 ∷ []

-- 'table '
abbrev pub table_word : List ℕ
table_word = 116 ∷ 97 ∷ 98 ∷ 108 ∷ 101 ∷ 32 ∷ []

-- 'needed '
abbrev pub needed_word : List ℕ
needed_word = 110 ∷ 101 ∷ 101 ∷ 100 ∷ 101 ∷ 100 ∷ 32 ∷ []

-- ' cost '
abbrev pub cost_word : List ℕ
cost_word = 32 ∷ 99 ∷ 111 ∷ 115 ∷ 116 ∷ 32 ∷ []

-- ' cells'
abbrev pub cells_word : List ℕ
cells_word = 32 ∷ 99 ∷ 101 ∷ 108 ∷ 108 ∷ 115 ∷ []

abbrev pub space : List ℕ
space = 32 ∷ []

abbrev pub newline : List ℕ
newline = 10 ∷ []

-- a word and a number
unfoldable pub number_line : List ℕ → ℕ → List ℕ
number_line word n = word ++ digits n ++ newline

-- 'carriers i j'
unfoldable pub pair_line : ℕ → ℕ → List ℕ
pair_line i j = carriers_word ++ digits i ++ space ++ digits j ++ newline

unfoldable pub cells_text : List ℕ → List ℕ
cells_text cells = each (λ v. space ++ digits v) cells

-- 'for each carrier its number, cost and cells from step 0 to its cost'
unfoldable pub cost_line : ℕ → ℕ → List ℕ → List ℕ
cost_line i c route = carrier_word ++ digits i ++ cost_word ++ digits c ++ cells_word ++ cells_text (take (c + 1) route) ++ newline

unfoldable pub carrier_line : ℕ → ℕ → List ℕ → List ℕ
carrier_line i goal route = cost_line i (cost goal route) route

-- the lines of the first n carriers, whose routes stand in the output
unfoldable pub carrier_lines : Team → ℕ → List ℕ → ℕ → List ℕ
carrier_lines team h output zero = []
carrier_lines team h output (suc n) = carrier_lines team h output n ++ carrier_line n (get_or team.goals n 0) (route_in h output n)

-- 'For 0, then `sum`, `records`, and for each carrier': `carriers` are the lines of the carriers
unfoldable pub plan_text : Told → List ℕ → List ℕ
plan_text told carriers = number_line sum_word told.sum ++ number_line records_word told.records ++ carriers

-- the first short table, and the length it needed
unfoldable pub short_text : Told → List ℕ
short_text told = number_line table_word told.table ++ number_line needed_word told.needed

-- what follows the first line, by the number
unfoldable pub rest_text : Told → List ℕ → List ℕ
rest_text told carriers =
    cond (eqb told.number 0) (plan_text told carriers)
    (cond (eqb told.number 5) (number_line carrier_word told.carrier)
    (cond (eqb told.number 6 || eqb told.number 16) (pair_line told.carrier told.other)
    (cond (eqb told.number 7) (short_text told)
    (cond (eqb told.number 8 || eqb told.number 9) (number_line records_word told.records)
    []))))

unfoldable pub told_text : Told → List ℕ → List ℕ
told_text told carriers = number_line answer_word told.number ++ rest_text told carriers

-- `told_lines` takes any numbers and any output, and has no line for a carrier where no plan of the team can stand there. The text of a
-- book needs no such case: for answer 0 this is false (law `plan_held`).
unfoldable pub holds_no_plan : Team → ℕ → List ℕ → Bool
holds_no_plan team h output = ltb 8 team.count || ltb 63 h || ltb (length output) (team.count * (h + 1))

unfoldable pub carriers_text : Team → ℕ → List ℕ → List ℕ
carriers_text team h output = cond (holds_no_plan team h output) [] (carrier_lines team h output team.count)
