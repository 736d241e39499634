-- Wrong answers of `stretch_of`, `sum_at`, `make_root` and `add_child`, each refuted at a named small task, wherever its hall lies in memory: what
-- the contract says there is computed, and it is not what the wrong version gives. Assumes nothing.
use Prim.Native.Nat.{ℕ, ◌+◌, ◌*◌}
use native.Mathlib.Omega.{arith}
use mathlib.Core.Path.{◌≡◌, refl, sym, ap, ◌∙◌}
use mathlib.Core.Bool.{Bool, true}
use mathlib.Core.List.{List, [], ◌∷◌}
use mathlib.Core.Option.{some}
use lib.ListN.{length, get_or, take, drop}
use Rattle.lists.specs.Lists.{range, sum_to, only, keep, any_of, each}
use Rattle.hall.specs.Hall.{is_open}
use Rattle.hall.specs.Moves.{on_grid, cell_at, landing, reach_from, reach}
use Rattle.routes.specs.Route.{route_in, step_cost, cost}
use Rattle.routes.specs.Bars.{bars_for, bars_cell, bars_way, may_stand, may_turn}
use Rattle.routes.specs.Best.{moved, moves, outdone, preferred, better, best_of, in_front, best_way, best_route}
use Rattle.routes.specs.declared.Bar.TheVariants.{Stay}
use Rattle.records.specs.Columns.{sum_at, bar_from, bar_at, is_bar, own_bars, chains, chain_of}
use Rattle.marks.specs.Marks.{bound_by}
use Rattle.tree.specs.Tree.{route_under, with_route, free_routes, root_of, root}
use Rattle.children.specs.declared.Task.{Task}
use Rattle.children.specs.declared.Grown.TheVariants.{Made, Full}
use Rattle.children.specs.Steps.{job_on, RootFact, ChildFact}
use Rattle.children.specs.Written.{route_on, put_route, sum_in, copied_plans, ChildWritten, ChildTables, root_plans, one_more_than, free_from, free_count, root_sum, RootTables}

-- ---- what is lent

-- a row of two open cells
abbrev pub row : List ℕ
row = 46 ∷ 46 ∷ []

-- plans of H 1: node 0 has the routes 0 1 and 1 0, node 1 both carriers on their goals
abbrev pub two_nodes : List ℕ
two_nodes = 0 ∷ 1 ∷ 1 ∷ 0 ∷ 1 ∷ 1 ∷ 0 ∷ 0 ∷ []

-- plans of H 1 with room for two nodes, not yet written
abbrev pub sevens : List ℕ
sevens = 7 ∷ 7 ∷ 7 ∷ 7 ∷ 7 ∷ 7 ∷ 7 ∷ 7 ∷ []

-- four open cells, 2 by 2
abbrev pub square : List ℕ
square = 46 ∷ 46 ∷ 46 ∷ 46 ∷ []

-- the tables of the 2 by 2 task: the root, and its two children, each of which bars one carrier from its crossing at step 0
abbrev pub grown_columns : List ℕ
grown_columns =
    0 ∷ 0 ∷ 0 ∷ 0 ∷ 0 ∷ 2 ∷ 2 ∷ 0 ∷ 0 ∷ 0 ∷ 1 ∷ 0 ∷ 0 ∷ 0 ∷ 1 ∷ 0
    ∷ 0 ∷ 1 ∷ 0 ∷ 0 ∷ 0 ∷ 0 ∷ 0 ∷ 0 ∷ 2 ∷ 3 ∷ 3 ∷ 0 ∷ 0 ∷ 1 ∷ 0 ∷ 0 ∷ []

abbrev pub grown_plans : List ℕ
grown_plans =
    0 ∷ 1 ∷ 1 ∷ 1 ∷ 0 ∷ 0
    ∷ 0 ∷ 0 ∷ 1 ∷ 1 ∷ 0 ∷ 0
    ∷ 0 ∷ 1 ∷ 1 ∷ 1 ∷ 1 ∷ 0
    ∷ 0 ∷ 0 ∷ 0 ∷ 0 ∷ 0 ∷ 0 ∷ []

-- those of the last task: the root alone, whose sum is 1 and which is open
abbrev pub root_columns : List ℕ
root_columns = 0 ∷ 0 ∷ 0 ∷ 0 ∷ 0 ∷ 0 ∷ 0 ∷ 0 ∷ 0 ∷ 0 ∷ 0 ∷ 0 ∷ 1 ∷ 0 ∷ 1 ∷ 0 ∷ []

abbrev pub root_only : List ℕ
root_only = 3 ∷ 2 ∷ 2 ∷ 2 ∷ 0 ∷ 0 ∷ 0 ∷ 0 ∷ []

-- ---- the tasks, each with its hall at any place of memory, and the wrong answers

module _ (block first : ℕ) where
  -- two carriers, 0→1 and 1→0, with a given H, and N 2
  abbrev pub exchange : ℕ → Task
  exchange h =
      record {
        job =
            record {
              hall = record { ref_ptr = (block, first); now = row };
              width = 2;
              height = 1;
              team = record { starts = 0 ∷ 1 ∷ 0 ∷ 0 ∷ 0 ∷ 0 ∷ 0 ∷ 0 ∷ []; goals = 1 ∷ 0 ∷ 0 ∷ 0 ∷ 0 ∷ 0 ∷ 0 ∷ 0 ∷ []; slips = 0 ∷ 0 ∷ 0 ∷ 0 ∷ 0 ∷ 0 ∷ 0 ∷ 0 ∷ []; count = 2 };
              horizon = h;
            };
        capacity = 2;
      }

  -- ---- the length of a stretch

  pub stretch_of_one_step_short : (r : ℕ) → r ≡ (exchange 1).job.team.count * ((exchange 1).job.horizon + 1) → r ≡ (exchange 1).job.team.count * (exchange 1).job.horizon → ⊥
  stretch_of_one_step_short r e wrong = omega (arith, e, wrong)

  pub stretch_of_one_carrier : (r : ℕ) → r ≡ (exchange 1).job.team.count * ((exchange 1).job.horizon + 1) → r ≡ (exchange 1).job.horizon + 1 → ⊥
  stretch_of_one_carrier r e wrong = omega (arith, e, wrong)

  -- ---- the sum of a node

  root_sum_lem : sum_in (exchange 1) two_nodes 0 ≡ 2
  unfolding sum_in sum_to route_in cost step_cost
  root_sum_lem = refl

  next_sum : sum_in (exchange 1) two_nodes 1 ≡ 0
  unfolding sum_in sum_to route_in cost step_cost
  next_sum = refl

  pub sum_at_of_the_root : (r : ℕ) → r ≡ sum_in (exchange 1) two_nodes 1 → r ≡ sum_in (exchange 1) two_nodes 0 → ⊥
  sum_at_of_the_root r e wrong = omega (arith, e ∙ next_sum, wrong ∙ root_sum_lem)

  pub sum_at_last_carrier_left_out : (r : ℕ) → r ≡ sum_in (exchange 1) two_nodes 0 → r ≡ cost 1 (route_in 1 two_nodes 0) → ⊥
  unfolding route_in cost step_cost
  sum_at_last_carrier_left_out r e wrong = omega (arith, e ∙ root_sum_lem, wrong)

  -- ---- the root

  -- with H 0 no carrier reaches its goal
  no_root : root (job_on (exchange 0)) ≡ []
  unfolding range only keep any_of each is_open on_grid cell_at landing reach_from reach bars_for bars_cell bars_way may_stand may_turn moved moves outdone preferred better best_of in_front best_way best_route route_under with_route free_routes root_of root
  no_root = refl

  pub make_root_without_routes : (columns' plans' : List ℕ) → RootFact (job_on (exchange 0)) 2 columns' plans' true → ⊥
  unfolding RootFact
  make_root_without_routes columns' plans' f = omega (arith, f.2, ap length no_root)

  -- with H 1 both do
  root_routes : root_plans (job_on (exchange 1)) sevens (free_count (job_on (exchange 1))) ≡ 0 ∷ 1 ∷ 1 ∷ 0 ∷ 7 ∷ 7 ∷ 7 ∷ 7 ∷ []
  unfolding range only keep any_of each is_open on_grid cell_at landing reach_from reach step_cost cost bars_for bars_cell bars_way may_stand may_turn moved moves outdone preferred better best_of in_front best_way best_route route_under put_route root_plans one_more_than free_from
  root_routes = refl

  pub make_root_plans_untouched : (columns columns' plans' layers' : List ℕ) (made : Bool) → RootTables (exchange 1) columns sevens columns' plans' layers' made → plans' ≡ sevens → ⊥
  make_root_plans_untouched columns columns' plans' layers' made tables wrong =
      let z : ◌≡◌ {A = ℕ} 7 0 = ap (λ (l : List ℕ). get_or l 0 9) (sym wrong ∙ tables.routes ∙ root_routes) in
      omega arith

  pub make_root_sum_left_at_zero : (columns columns' plans' layers' : List ℕ) → RootTables (exchange 1) columns sevens columns' plans' layers' true → sum_at 2 columns' 0 ≡ 0 → ⊥
  unfolding root_sum sum_in sum_to route_in cost step_cost
  make_root_sum_left_at_zero columns columns' plans' layers' tables wrong =
      let two : sum_in (exchange 1) plans' 0 ≡ 2 = ap (λ (l : List ℕ). sum_in (exchange 1) l 0) (tables.routes ∙ root_routes) in
      omega (arith, wrong, tables.written.sum_is, two)

  -- ---- a child: four open cells, 2 by 2, 0→1 and 1→0 with H 2 and N 4

  abbrev pub turning : Task
  turning =
      record {
        job =
            record {
              hall = record { ref_ptr = (block, first); now = square };
              width = 2;
              height = 2;
              team = record { starts = 0 ∷ 1 ∷ 0 ∷ 0 ∷ 0 ∷ 0 ∷ 0 ∷ 0 ∷ []; goals = 1 ∷ 0 ∷ 0 ∷ 0 ∷ 0 ∷ 0 ∷ 0 ∷ 0 ∷ []; slips = 0 ∷ 0 ∷ 0 ∷ 0 ∷ 0 ∷ 0 ∷ 0 ∷ 0 ∷ []; count = 2 };
              horizon = 2;
            };
        capacity = 4;
      }

  -- the plans with the child of node 2 whose carrier 0 may not be on cell 1 at step 1
  abbrev pub child_of_two : List ℕ
  child_of_two = put_route (job_on turning) (copied_plans (job_on turning) grown_plans 2 3) 3 0 (route_on turning grown_columns 2 0 (Stay 1 1 1))

  child_routes : take 6 (drop 18 child_of_two) ≡ 0 ∷ 0 ∷ 1 ∷ 1 ∷ 1 ∷ 0 ∷ []
  unfolding range only keep any_of each is_open on_grid cell_at landing reach_from reach step_cost cost bars_for bars_cell bars_way may_stand may_turn moved moves outdone preferred better best_of in_front best_way best_route bound_by chain_of chains own_bars is_bar bar_at bar_from put_route
  child_routes = refl

  -- 9 one record early: a fourth record is free
  pub add_child_full_early : (columns' plans' : List ℕ) → ChildFact (job_on turning) 4 2 (record { carrier = 0; bar = Stay 1 1 1 }) 3 grown_columns grown_plans columns' plans' Full → ⊥
  unfolding ChildFact
  add_child_full_early columns' plans' f = let z : ◌≡◌ {A = ℕ} 3 4 = f.0 in omega arith

  -- the routes of the root for those of the parent: carrier 1 goes to its goal at once
  pub add_child_from_the_root : (columns' plans' layers' : List ℕ) → ChildTables turning 2 (record { carrier = 0; bar = Stay 1 1 1 }) 3 grown_columns grown_plans columns' plans' layers' Made
      → take 6 (drop 18 plans') ≡ 0 ∷ 0 ∷ 1 ∷ 1 ∷ 0 ∷ 0 ∷ [] → ⊥
  unfolding ChildWritten
  add_child_from_the_root columns' plans' layers' tables wrong =
      let e : plans' ≡ child_of_two = tables.written.0 in
      let z : ◌≡◌ {A = ℕ} 0 1 = ap (λ (l : List ℕ). get_or l 4 9) (sym wrong ∙ ap (λ (l : List ℕ). take 6 (drop 18 l)) e ∙ child_routes) in
      omega arith

  -- ---- a child whose carrier stands: the same cells, 3→2 with H 3 and N 2, and cell 2 barred at steps 1 and 2

  abbrev pub standing : Task
  standing =
      record {
        job =
            record {
              hall = record { ref_ptr = (block, first); now = square };
              width = 2;
              height = 2;
              team = record { starts = 3 ∷ 0 ∷ 0 ∷ 0 ∷ 0 ∷ 0 ∷ 0 ∷ 0 ∷ []; goals = 2 ∷ 0 ∷ 0 ∷ 0 ∷ 0 ∷ 0 ∷ 0 ∷ 0 ∷ []; slips = 0 ∷ 0 ∷ 0 ∷ 0 ∷ 0 ∷ 0 ∷ 0 ∷ 0 ∷ []; count = 1 };
              horizon = 3;
            };
        capacity = 2;
      }

  standing_route : route_on standing root_columns 0 0 (Stay 2 1 2) ≡ some (3 ∷ 3 ∷ 3 ∷ 2 ∷ [])
  unfolding range only keep any_of each is_open on_grid cell_at landing reach_from reach step_cost cost bars_for bars_cell bars_way may_stand may_turn moved moves outdone preferred better best_of in_front best_way best_route bound_by chain_of chains own_bars is_bar bar_at bar_from
  standing_route = refl

  -- a way round through the other cells, which costs as much and comes first in the dictionary
  pub add_child_wandering : (columns' plans' layers' : List ℕ) → ChildTables standing 0 (record { carrier = 0; bar = Stay 2 1 2 }) 1 root_columns root_only columns' plans' layers' Made → take 4 (drop 4 plans') ≡ 3 ∷ 1 ∷ 0 ∷ 2 ∷ [] → ⊥
  unfolding ChildWritten put_route
  add_child_wandering columns' plans' layers' tables wrong =
      let e : plans' ≡ put_route (job_on standing) (copied_plans (job_on standing) root_only 0 1) 1 0 (some (3 ∷ 3 ∷ 3 ∷ 2 ∷ [])) = tables.written.0 ∙ ap (put_route (job_on standing) (copied_plans (job_on standing) root_only 0 1) 1 0) standing_route in
      let z : ◌≡◌ {A = ℕ} 1 3 = ap (λ (l : List ℕ). get_or l 1 9) (sym wrong ∙ ap (λ (l : List ℕ). take 4 (drop 4 l)) e) in
      omega arith
