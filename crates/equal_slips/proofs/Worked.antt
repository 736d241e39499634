-- The rules with one k compute: two of document 01's ★ jobs, with the route that P2 gives the first, and a plan that both checks judge.
-- And where k is above 4 the number differs, as P3 asks: '3 speaks of H and N only', 'a slip above 4 is 5'. Assumes nothing.
use Prim.Native.Nat.{ℕ, ◌*◌}
use mathlib.Core.Path.{◌≡◌, refl}
use mathlib.Core.Bool.{false}
use mathlib.Core.List.{List, [], ◌∷◌}
use lib.ListN.{length, get_or, replicate}
use Rattle.std.specs.Prelude.{Ok, Err, None}
use Rattle.lists.specs.Lists.{range, sum_to, only, keep, any_of, first_of, each, refuse_if}
use Rattle.lent.specs.Lent.{zeroed}
use Rattle.hall.specs.Hall.{wrong_side, wrong_grid, wrong_byte, wrong_bytes, is_open}
use Rattle.hall.specs.Moves.{on_grid, cell_at, landing, reach_from, reach, may_follow}
use Rattle.job.specs.Job.{plan_length, wrong_limits, wrong_capacity, wrong_count, wrong_carrier, first_wrong, share, pairs, first_shared}
use Rattle.job.specs.Verdict.{verdict_told, carrier_verdict, shared_verdict, judge_with, judge, if_accepted}
use Rattle.routes.specs.Route.{step_cost, cost}
use Rattle.routes.specs.Bars.{bars_for, bars_cell, bars_way, may_stand, may_turn}
use Rattle.routes.specs.Best.{moved, moves, outdone, preferred, better, best_of, in_front, best_way, best_route}
use Rattle.routes.specs.Check.{wrong_move, wrong_arrival, wrong_at, places, first_wrong_place, place_verdict}
use Rattle.clashes.specs.declared.Clash.TheVariants.{Swap}
use Rattle.search.specs.Search.{prefer, take_least, run, search}
use Rattle.tree.specs.Plan.{total}
use Rattle.tree.specs.Tree.{route_under, with_route, free_routes, root_of, root, node_sum, is_clear, child_with, child}
use Rattle.tables.specs.Tables.{Tables, columns_length, plans_length, layers_length, first_short, worked_on, plan_written, with_plan}
use Rattle.planner.specs.Answer.{Answer, Result}
use Rattle.planner.specs.declared.answer.Denial.TheVariants.{NoPlan}
use Rattle.equal_slips.specs.Job.{OneJob, with_slips, slipless, wrong_limits_by_k, wrong_ends, first_wrong_by_k, judge_by_k}
use Rattle.equal_slips.specs.Clash.{written_by_k, meets_by_k, swaps_by_k, happens_by_k, pairs_by_k, step_by_k, candidates_by_k, or_clear_by_k, chosen_by_k}
use Rattle.equal_slips.specs.Tree.{clash_by_k, clear_by_k, stay_by_k, cross_by_k, kids_for_by_k, kids_by_k, tree_by_k}
use Rattle.equal_slips.specs.Answer.{searched_by_k, if_long_by_k, enough_by_k, planned_by_k}
use Rattle.equal_slips.specs.Check.{plan_verdict_by_k, route_verdict_by_k, plan_clash_by_k, compared_by_k, meeting_verdict_by_k}

-- all cells open: width, height, starts, goals, k, H
abbrev open_job : ℕ → ℕ → List ℕ → List ℕ → ℕ → ℕ → OneJob
open_job width height starts goals k h =
    record {
      hall = record { width = width; height = height; bytes = replicate (width * height) 46 };
      count = length starts;
      start_of = λ i. get_or starts i 0;
      goal_of = λ i. get_or goals i 0;
      delay = k;
      horizon = h;
    }

-- tables of just the least lengths
abbrev tables_for : OneJob → ℕ → Tables
tables_for one n =
    record {
      columns = replicate (columns_length n) 0;
      plans = replicate (plans_length (slipless one) n) 0;
      layers = replicate (layers_length (slipless one)) 0;
      output = replicate (plan_length (slipless one)) 0;
    }

-- ★ 3 by 3, 3→5 and 1→7, k 1, H 4
abbrev crossing : OneJob
crossing = open_job 3 3 (3 ∷ 1 ∷ []) (5 ∷ 7 ∷ []) 1 4

-- ★ width 2, height 1, 0→1 and 1→0, k 0, H 1
abbrev exchange : OneJob
exchange = open_job 2 1 (0 ∷ 1 ∷ []) (1 ∷ 0 ∷ []) 0 1

pub record Seen : Type 0 where
  pub answer : Answer
  pub output : List ℕ

abbrev given : OneJob → ℕ → Seen
given one n = let r : Result = planned_by_k one n (tables_for one n) in record { answer = r.answer; output = r.tables.output }

-- N 3: '3 3 3 4 5 and 1 4 7 7 7, sum 6, 3 records'; 'answer 8, 1 record'
pub stars_by_k : (given crossing 3 ∷ given exchange 128 ∷ [])
    ≡ (record { answer = Ok (record { sum = 6; records = 3 }); output = 3 ∷ 3 ∷ 3 ∷ 4 ∷ 5 ∷ 1 ∷ 4 ∷ 7 ∷ 7 ∷ 7 ∷ [] } ∷ record { answer = Err (NoPlan 1); output = 0 ∷ 0 ∷ 0 ∷ 0 ∷ [] } ∷ [])
unfolding range sum_to only keep any_of first_of each refuse_if zeroed wrong_side wrong_grid wrong_byte wrong_bytes is_open on_grid cell_at landing reach_from reach wrong_capacity wrong_count share pairs first_shared carrier_verdict shared_verdict if_accepted step_cost cost bars_for bars_cell bars_way may_stand may_turn moved moves outdone preferred better best_of in_front best_way best_route prefer take_least run search total route_under with_route free_routes root_of root node_sum is_clear child_with child first_short worked_on plan_written with_plan wrong_limits_by_k wrong_ends first_wrong_by_k judge_by_k written_by_k meets_by_k swaps_by_k happens_by_k pairs_by_k step_by_k candidates_by_k or_clear_by_k chosen_by_k clash_by_k clear_by_k stay_by_k cross_by_k kids_for_by_k kids_by_k tree_by_k searched_by_k if_long_by_k enough_by_k planned_by_k
stars_by_k = refl

-- 0 1 and 1 0 are lawful routes, and the two exchange their cells at step 0
pub checks_by_k : (route_verdict_by_k exchange (0 ∷ 1 ∷ 1 ∷ 0 ∷ []) ≡ Ok None) × (meeting_verdict_by_k exchange (0 ∷ 1 ∷ 1 ∷ 0 ∷ []) ≡ Ok (Swap 0 1 0))
unfolding range keep only any_of first_of each refuse_if wrong_side wrong_grid wrong_byte wrong_bytes is_open on_grid cell_at landing reach_from reach may_follow wrong_count share pairs first_shared carrier_verdict shared_verdict if_accepted wrong_move wrong_arrival wrong_at places first_wrong_place place_verdict wrong_limits_by_k wrong_ends first_wrong_by_k judge_by_k written_by_k meets_by_k swaps_by_k happens_by_k pairs_by_k step_by_k candidates_by_k or_clear_by_k chosen_by_k plan_verdict_by_k route_verdict_by_k plan_clash_by_k compared_by_k meeting_verdict_by_k
checks_by_k = (refl, refl)

-- one cell, 0→0, H 0: k 5 was 3, and a slip of 5 is 5
pub above_four : ((verdict_told (judge_by_k false (open_job 1 1 (0 ∷ []) (0 ∷ []) 5 0))).number ≡ 3) × ((verdict_told (judge (with_slips (open_job 1 1 (0 ∷ []) (0 ∷ []) 5 0) (λ i. 5)))).number ≡ 5)
unfolding range any_of first_of refuse_if wrong_side wrong_grid wrong_byte wrong_bytes is_open wrong_limits wrong_count wrong_carrier first_wrong carrier_verdict judge_with judge wrong_limits_by_k judge_by_k
above_four = (refl, refl)
