-- Wrong answers of `plan` besides document 01's broken planners, each refuted at a small job: the contract says that answer and tables
-- equal `planned`. Assumes nothing.
use Prim.Native.Nat.{ℕ, ◌<◌}
use native.Mathlib.Omega.{arith}
use mathlib.Core.Path.{◌≡◌, refl, sym, ap, ◌∙◌}
use mathlib.Core.List.{List, [], ◌∷◌}
use lib.ListN.{get_or, replicate}
use Rattle.lists.specs.Lists.{range, greatest, sum_to, only, keep, any_of, first_of, each, refuse_if}
use Rattle.lent.specs.Lent.{zeroed}
use Rattle.hall.specs.Hall.{wrong_side, wrong_grid, wrong_byte, wrong_bytes, is_open}
use Rattle.hall.specs.Moves.{on_grid, cell_at, landing, reach_from, reach}
use Rattle.job.specs.Job.{Job, wrong_limits, wrong_capacity, wrong_count, wrong_carrier, first_wrong, share, pairs, first_shared}
use Rattle.job.specs.Due.{RightCapacity}
use Rattle.job.specs.Told.{named}
use Rattle.job.specs.Verdict.{carrier_verdict, shared_verdict, judge_with, if_accepted}
use Rattle.std.specs.Prelude.{Err}
use Rattle.job.specs.declared.Refusal.TheVariants.{SharedGoal}
use Rattle.job.proofs.Due.{due_sixteen}
use Rattle.routes.specs.Route.{step_cost, cost}
use Rattle.routes.specs.Bars.{bars_for, may_stand, may_turn}
use Rattle.routes.specs.Best.{moved, moves, outdone, preferred, better, best_of, in_front, best_way, best_route}
use Rattle.clashes.specs.Chosen.{written, meets, swaps, happens, over_pairs, at_step, candidates, or_clear, chosen}
use Rattle.search.specs.Search.{prefer, take_least, run, search}
use Rattle.tree.specs.Plan.{total}
use Rattle.tables.specs.Tables.{Tables, first_short, worked_on, plan_written, with_plan}
use Rattle.tree.specs.Tree.{route_under, with_route, free_routes, root_of, root, node_sum, clash_of, is_clear, node_clear, tree}
use Rattle.planner.specs.Answer.{Result, answer_told, searched, if_long, enough, planned}
use Rattle.planner.specs.Promises.{Promised}
use Rattle.planner.specs.declared.answer.Denial.TheVariants.{Job as OfJob, Short}
use Rattle.planner.specs.Stars.{Star, star_job, star_tables, Seen, asked, given, stars, last_job}
use Rattle.planner.proofs.Stars.{stars_hold}

-- ---- the first ★ job: its root's two children have sum 5 each, and their plans differ

abbrev first : Star
first = get_or stars 0 last_job

first_given : given first ≡ asked first
unfolding stars
first_given = ap (λ (l : List Seen). get_or l 0 (asked last_job)) stars_hold

-- child two made before child one: the plan in which carrier 1 waits, 3 4 5 5 5 and 1 1 4 7 7
pub child_two_first : (r : Result) → r ≡ planned (star_job first) first.capacity (star_tables first) → get_or r.tables.output 1 9 ≡ 4 → ⊥
unfolding stars each
child_two_first r e wrong =
    let z : ◌≡◌ {A = ℕ} 4 3 = sym wrong ∙ ap (λ (x : Result). get_or x.tables.output 1 9) e ∙ ap (λ (x : Seen). get_or x.output 1 9) first_given in
    omega arith

-- ---- two cells in a row, one carrier that is on its goal, cell 0, slip 0, H 0, N 1

abbrev standing : Job
standing =
    record {
      hall = record { width = 2; height = 1; bytes = 46 ∷ 46 ∷ [] };
      count = 1;
      start_of = λ i. 0;
      goal_of = λ i. 0;
      slip_of = λ i. 0;
      horizon = 0;
    }

abbrev lent : Tables
lent = record { columns = 0 ∷ 0 ∷ 0 ∷ 0 ∷ 0 ∷ 0 ∷ 0 ∷ 0 ∷ []; plans = 0 ∷ []; layers = 7 ∷ 7 ∷ 7 ∷ 7 ∷ []; output = 0 ∷ [] }

-- the layer of the last step not cleared: the mark of 'no way' is left on cell 1
pub last_layer_not_cleared : (r : Result) → r ≡ planned standing 1 lent → get_or r.tables.layers 1 0 ≡ 255 → ⊥
unfolding range greatest sum_to only keep any_of first_of each wrong_side wrong_grid wrong_byte wrong_bytes is_open on_grid cell_at landing reach_from reach wrong_limits wrong_capacity wrong_count wrong_carrier first_wrong share pairs first_shared refuse_if carrier_verdict shared_verdict judge_with if_accepted step_cost cost bars_for may_stand may_turn moved moves outdone preferred better best_of in_front best_way best_route written meets swaps happens over_pairs at_step candidates or_clear chosen prefer take_least run search total first_short zeroed worked_on plan_written with_plan route_under with_route free_routes root_of root node_sum clash_of is_clear node_clear tree searched if_long enough planned
last_layer_not_cleared r e wrong = let z : ◌≡◌ {A = ℕ} 255 0 = sym wrong ∙ ap (λ (x : Result). get_or x.tables.layers 1 0) e in omega arith

-- 'twice its length' not cleared: what was lent is left in the second half
pub second_half_not_cleared : (r : Result) → r ≡ planned standing 1 lent → get_or r.tables.layers 2 0 ≡ 7 → ⊥
unfolding range greatest sum_to only keep any_of first_of each wrong_side wrong_grid wrong_byte wrong_bytes is_open on_grid cell_at landing reach_from reach wrong_limits wrong_capacity wrong_count wrong_carrier first_wrong share pairs first_shared refuse_if carrier_verdict shared_verdict judge_with if_accepted step_cost cost bars_for may_stand may_turn moved moves outdone preferred better best_of in_front best_way best_route written meets swaps happens over_pairs at_step candidates or_clear chosen prefer take_least run search total first_short zeroed worked_on plan_written with_plan route_under with_route free_routes root_of root node_sum clash_of is_clear node_clear tree searched if_long enough planned
second_half_not_cleared r e wrong = let z : ◌≡◌ {A = ℕ} 7 0 = sym wrong ∙ ap (λ (x : Result). get_or x.tables.layers 2 0) e in omega arith

-- ---- 7, of two open cells in a row, one carrier, 0→1, slip 0, H 1, N 3: the columns need 24 entries, the plans 6, the layers 8, the output
-- 2

abbrev passing : Job
passing =
    record {
      hall = record { width = 2; height = 1; bytes = 46 ∷ 46 ∷ [] };
      count = 1;
      start_of = λ i. 0;
      goal_of = λ i. 1;
      slip_of = λ i. 0;
      horizon = 1;
    }

-- tables of so many zeros
abbrev zeros : ℕ → ℕ → ℕ → ℕ → Tables
zeros columns plans layers output = record { columns = replicate columns 0; plans = replicate plans 0; layers = replicate layers 0; output = replicate output 0 }

-- the last short table told, where all are
pub last_short_told : (r : Result) → r ≡ planned passing 3 (zeros 0 0 0 0) → (answer_told r.answer).table ≡ 3 → ⊥
unfolding range any_of first_of each wrong_side wrong_grid wrong_byte wrong_bytes is_open wrong_limits wrong_capacity wrong_count wrong_carrier first_wrong share pairs first_shared refuse_if carrier_verdict shared_verdict judge_with if_accepted first_short if_long enough planned
last_short_told r e wrong = let z : ◌≡◌ {A = ℕ} 3 0 = sym wrong ∙ ap (λ (x : Result). (answer_told x.answer).table) e in omega arith

-- the columns' length told in bytes: they are 16-bit
pub columns_told_in_bytes : (r : Result) → r ≡ planned passing 3 (zeros 23 6 8 2) → (answer_told r.answer).needed ≡ 48 → ⊥
unfolding range any_of first_of each wrong_side wrong_grid wrong_byte wrong_bytes is_open wrong_limits wrong_capacity wrong_count wrong_carrier first_wrong share pairs first_shared refuse_if carrier_verdict shared_verdict judge_with if_accepted first_short if_long enough planned
columns_told_in_bytes r e wrong = let z : ◌≡◌ {A = ℕ} 48 24 = sym wrong ∙ ap (λ (x : Result). (answer_told x.answer).needed) e in omega arith

-- the length of another table, of the layers for the plans
pub layers_length_told_for_the_plans : (r : Result) → r ≡ planned passing 3 (zeros 24 5 8 2) → (answer_told r.answer).needed ≡ 8 → ⊥
unfolding range any_of first_of each wrong_side wrong_grid wrong_byte wrong_bytes is_open wrong_limits wrong_capacity wrong_count wrong_carrier first_wrong share pairs first_shared refuse_if carrier_verdict shared_verdict judge_with if_accepted first_short if_long enough planned
layers_length_told_for_the_plans r e wrong = let z : ◌≡◌ {A = ℕ} 8 6 = sym wrong ∙ ap (λ (x : Result). (answer_told x.answer).needed) e in omega arith

-- the output's length without the + 1 of H
pub last_step_not_counted : (r : Result) → r ≡ planned passing 3 (zeros 24 6 8 1) → (answer_told r.answer).needed ≡ 1 → ⊥
unfolding range any_of first_of each wrong_side wrong_grid wrong_byte wrong_bytes is_open wrong_limits wrong_capacity wrong_count wrong_carrier first_wrong share pairs first_shared refuse_if carrier_verdict shared_verdict judge_with if_accepted first_short if_long enough planned
last_step_not_counted r e wrong = let z : ◌≡◌ {A = ℕ} 1 2 = sym wrong ∙ ap (λ (x : Result). (answer_told x.answer).needed) e in omega arith

-- layers of document 01's length, which P2 doubles, taken for long enough
pub old_length_of_the_layers_taken : (r : Result) → r ≡ planned passing 3 (zeros 24 6 4 2) → (answer_told r.answer).number ≡ 0 → ⊥
unfolding range any_of first_of each wrong_side wrong_grid wrong_byte wrong_bytes is_open wrong_limits wrong_capacity wrong_count wrong_carrier first_wrong share pairs first_shared refuse_if carrier_verdict shared_verdict judge_with if_accepted first_short if_long enough planned
old_length_of_the_layers_taken r e wrong = let z : ◌≡◌ {A = ℕ} 0 7 = sym wrong ∙ ap (λ (x : Result). (answer_told x.answer).number) e in omega arith

-- that length told
pub old_length_of_the_layers_told : (r : Result) → r ≡ planned passing 3 (zeros 24 6 3 2) → (answer_told r.answer).needed ≡ 4 → ⊥
unfolding range any_of first_of each wrong_side wrong_grid wrong_byte wrong_bytes is_open wrong_limits wrong_capacity wrong_count wrong_carrier first_wrong share pairs first_shared refuse_if carrier_verdict shared_verdict judge_with if_accepted first_short if_long enough planned
old_length_of_the_layers_told r e wrong = let z : ◌≡◌ {A = ℕ} 4 8 = sym wrong ∙ ap (λ (x : Result). (answer_told x.answer).needed) e in omega arith

-- 7 given before 16: no table is lent to two carriers with one goal
abbrev meeting : Job
meeting =
    record {
      hall = record { width = 2; height = 1; bytes = 46 ∷ 46 ∷ [] };
      count = 2;
      start_of = λ i. i;
      goal_of = λ i. 1;
      slip_of = λ i. 0;
      horizon = 1;
    }

pub seven_given_before_16 : (r : Result) → r ≡ planned meeting 3 (zeros 0 0 0 0) → (answer_told r.answer).number ≡ 7 → ⊥
unfolding range any_of first_of each wrong_side wrong_grid wrong_byte wrong_bytes is_open wrong_limits wrong_capacity wrong_count wrong_carrier first_wrong share pairs first_shared refuse_if carrier_verdict shared_verdict judge_with if_accepted first_short if_long enough planned
seven_given_before_16 r e wrong = let z : ◌≡◌ {A = ℕ} 7 16 = sym wrong ∙ ap (λ (x : Result). (answer_told x.answer).number) e in omega arith

-- ---- the plain promise refuses by itself, without the equation: 16 where two carriers share a start, 7 where two share a goal

module _ (job : Job) (n : ℕ) (before after : Tables) (i j : ℕ) (less : i < j) (inside : j < job.count) where
  pub promise_refuses_16_before_6 : (a b : ℕ) → job.start_of i ≡ job.start_of j → Promised job n before (Err (OfJob (SharedGoal a b))) after → ⊥
  unfolding Promised
  promise_refuses_16_before_6 a b shared p = (due_sixteen job (RightCapacity n) (named 16 a b) p.1 refl).0 i j less inside shared

  pub promise_refuses_7_before_16 : (t l : ℕ) → job.goal_of i ≡ job.goal_of j → Promised job n before (Err (Short t l)) after → ⊥
  unfolding Promised
  promise_refuses_7_before_16 t l shared p = p.0.goals i j less inside shared
