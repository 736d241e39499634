-- The lines of one more cell, and of one more carrier; and where the carriers have lines at all. Assumes nothing.
use Prim.Native.Nat.{ℕ, ◌+◌, ◌*◌, ◌≤◌}
use native.Mathlib.Numerals.{add-one}
use mathlib.Core.Bool.{false}
use mathlib.Core.List.{List, [], ◌∷◌, ◌++◌, append-nil}
use mathlib.Core.Path.{◌≡◌, refl, ap, ◌∙◌}
use lib.ListN.{length, get_or, take, drop}
use borrow.Author.Tests.{le-ltb}
use Rattle.lists.specs.Lists.{each}
use Rattle.lists.proofs.Ranges.{each_append}
use Rattle.job.specs.declared.Team.{Team}
use Rattle.routes.specs.Route.{route_in}
use Rattle.text.specs.Text.{digits}
use Rattle.lines.specs.Lines.{space, cells_text, carrier_line, carrier_lines, holds_no_plan, carriers_text}

-- ---- the cells, one after the other

pub cells_nil : cells_text [] ≡ []
unfolding cells_text each
cells_nil = refl

pub cells_snoc : (cells : List ℕ) (v : ℕ) → cells_text (cells ++ (v ∷ [])) ≡ cells_text cells ++ (space ++ digits v)
unfolding cells_text each
cells_snoc cells v = each_append (λ w. space ++ digits w) cells (v ∷ []) ∙ ap (λ (text : List ℕ). cells_text cells ++ text) (append-nil (space ++ digits v))

-- ---- the carriers, one after the other

pub carriers_nil : (team : Team) (h : ℕ) (output : List ℕ) → carrier_lines team h output 0 ≡ []
unfolding carrier_lines
carriers_nil team h output = refl

pub carriers_next : (team : Team) (h i : ℕ) (output : List ℕ) → carrier_lines team h output (i + 1) ≡ carrier_lines team h output i ++ carrier_line i (get_or team.goals i 0) (take (h + 1) (drop (i * (h + 1)) output))
unfolding carrier_lines route_in
carriers_next team h i output = rw (add-one i, carrier_lines)

-- ---- no plan is read where none can stand

pub holds_plan : (team : Team) (h : ℕ) (output : List ℕ) → team.count ≤ 8 → h ≤ 63 → team.count * (h + 1) ≤ length output → holds_no_plan team h output ≡ false
unfolding holds_no_plan
holds_plan team h output few soon long = simp (le-ltb 8 team.count few, le-ltb 63 h soon, le-ltb (length output) (team.count * (h + 1)) long)

pub plan_lines_lem : (team : Team) (h : ℕ) (output : List ℕ) → holds_no_plan team h output ≡ false → carriers_text team h output ≡ carrier_lines team h output team.count
unfolding carriers_text
plan_lines_lem team h output right = rw (right, carriers_text)
