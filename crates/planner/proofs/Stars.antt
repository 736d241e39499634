-- The eleven ★ jobs of document 01, as one claim, its last job, and a job of unequal slips: what the definitions give is what is asked. antt computes both sides.
-- Assumes nothing.
use mathlib.Core.Path.{◌≡◌, refl}
use mathlib.Core.List.{◌∷◌, map, head-eq_of_cons-eq, tail-eq_of_cons-eq}
use Rattle.lists.specs.Lists.{range, greatest, sum_to, only, keep, any_of, first_of, each, refuse_if}
use Rattle.lent.specs.Lent.{zeroed}
use Rattle.hall.specs.Hall.{wrong_side, wrong_grid, wrong_byte, wrong_bytes, is_open}
use Rattle.hall.specs.Moves.{on_grid, cell_at, landing, reach_from, reach}
use Rattle.job.specs.Job.{wrong_limits, wrong_capacity, wrong_count, wrong_carrier, first_wrong, share, pairs, first_shared}
use Rattle.job.specs.Verdict.{carrier_verdict, shared_verdict, judge_with, if_accepted}
use Rattle.routes.specs.Route.{step_cost, cost}
use Rattle.routes.specs.Bars.{bars_for, bars_cell, bars_way, may_stand, may_turn}
use Rattle.routes.specs.Best.{moved, moves, outdone, preferred, better, best_of, in_front, best_way, best_route}
use Rattle.clashes.specs.Chosen.{written, meets, swaps, happens, over_pairs, at_step, candidates, or_clear, chosen}
use Rattle.search.specs.Search.{prefer, take_least, run, search}
use Rattle.tree.specs.Plan.{total}
use Rattle.tables.specs.Tables.{first_short, worked_on, plan_written, with_plan}
use Rattle.tree.specs.Tree.{route_under, with_route, free_routes, root_of, root, node_sum, clash_of, is_clear, node_clear, bar_one, bar_two, child_with, child, kids_for, kids, tree}
use Rattle.planner.specs.Answer.{searched, if_long, enough, planned}
use Rattle.planner.specs.Stars.{asked, given, stars, last_job, own_slips}

worked_hold : map given (own_slips ∷ last_job ∷ stars) ≡ map asked (own_slips ∷ last_job ∷ stars)
unfolding range greatest sum_to only keep any_of first_of each wrong_side wrong_grid wrong_byte wrong_bytes is_open on_grid cell_at landing reach_from reach wrong_limits wrong_capacity wrong_count wrong_carrier first_wrong share pairs first_shared refuse_if carrier_verdict shared_verdict judge_with if_accepted step_cost cost bars_for bars_cell bars_way may_stand may_turn moved moves outdone preferred better best_of in_front best_way best_route written meets swaps happens over_pairs at_step candidates or_clear chosen prefer take_least run search total first_short zeroed worked_on plan_written with_plan route_under with_route free_routes root_of root node_sum clash_of is_clear node_clear bar_one bar_two child_with child kids_for kids tree searched if_long enough planned stars last_job own_slips
worked_hold = refl

pub stars_hold : map given stars ≡ map asked stars
stars_hold = tail-eq_of_cons-eq (tail-eq_of_cons-eq worked_hold)

pub last_job_holds : given last_job ≡ asked last_job
last_job_holds = head-eq_of_cons-eq (tail-eq_of_cons-eq worked_hold)

pub own_slips_hold : given own_slips ≡ asked own_slips
own_slips_hold = head-eq_of_cons-eq worked_hold
