-- What document 01 prints for its own book, which P3 rewrites, as a law: 'For the book 3, 1 16 0 11 0, .. it prints'; and P1's job with shared
-- ends. antt
-- computes both sides. Assumes nothing.
use Prim.Native.Nat.{ℕ}
use mathlib.Core.List.{List, [], ◌∷◌}
use mathlib.Core.Path.{◌≡◌, refl}
use Rattle.lists.specs.Lists.{range, greatest, sum_to, only, keep, any_of, first_of, each, refuse_if}
use Rattle.lent.specs.Lent.{zeroed}
use Rattle.hall.specs.Hall.{wrong_side, wrong_grid, wrong_byte, wrong_bytes, is_open}
use Rattle.hall.specs.Moves.{on_grid, cell_at, landing, reach_from, reach}
use Rattle.job.specs.Job.{wrong_limits, wrong_capacity, wrong_count, wrong_carrier, first_wrong, share, pairs, first_shared}
use Rattle.job.specs.Verdict.{carrier_verdict, shared_verdict, judge_with, if_accepted}
use Rattle.routes.specs.Route.{route_in, step_cost, cost}
use Rattle.routes.specs.Bars.{bars_for, bars_cell, bars_way, may_stand, may_turn}
use Rattle.routes.specs.Best.{moved, moves, outdone, preferred, better, best_of, in_front, best_way, best_route}
use Rattle.clashes.specs.Chosen.{written, meets, swaps, happens, over_pairs, at_step, candidates, or_clear, chosen}
use Rattle.search.specs.Search.{prefer, take_least, run, search}
use Rattle.tree.specs.Plan.{total}
use Rattle.tree.specs.Tree.{route_under, with_route, free_routes, root_of, root, node_sum, clash_of, is_clear, node_clear, bar_one, bar_two, child_with, child, kids_for, kids, tree}
use Rattle.tables.specs.Tables.{first_short, worked_on, plan_written, with_plan}
use Rattle.planner.specs.Answer.{searched, if_long, enough, planned}
use Rattle.book.specs.Book.{low_high, entry_kind, entry_offset, entry_length, entry_body, no_contents, wrong_kinds, wrong_bodies, wrong_lengths, book_verdict, no_kind, if_good, asked_verdict, body_of}
use Rattle.book.specs.Parts.{width_in, height_in, hall_in, horizon_in}
use Rattle.book.proofs.Example.{printed_book}
use Rattle.text.specs.Text.{digits_within, digits}
use Rattle.lines.specs.Lines.{number_line, pair_line, cells_text, cost_line, carrier_line, carrier_lines, plan_text, rest_text, told_text}
use Rattle.lines.specs.Printed.{result_text, book_text}
use Rattle.lines.specs.Program.{program_text}

-- 'answer 0', 'sum 5', 'records 3', 'carrier 0 cost 3 cells 3 3 4 5', 'carrier 1 cost 2 cells 1 4 7'
abbrev pub printed_text : List ℕ
printed_text =
    97 ∷ 110 ∷ 115 ∷ 119 ∷ 101 ∷ 114 ∷ 32 ∷ 48 ∷ 10
    ∷ 115 ∷ 117 ∷ 109 ∷ 32 ∷ 53 ∷ 10
    ∷ 114 ∷ 101 ∷ 99 ∷ 111 ∷ 114 ∷ 100 ∷ 115 ∷ 32 ∷ 51 ∷ 10
    ∷ 99 ∷ 97 ∷ 114 ∷ 114 ∷ 105 ∷ 101 ∷ 114 ∷ 32 ∷ 48 ∷ 32 ∷ 99 ∷ 111 ∷ 115 ∷ 116 ∷ 32 ∷ 51 ∷ 32 ∷ 99 ∷ 101 ∷ 108 ∷ 108 ∷ 115 ∷ 32 ∷ 51 ∷ 32 ∷ 51 ∷ 32 ∷ 52 ∷ 32 ∷ 53 ∷ 10
    ∷ 99 ∷ 97 ∷ 114 ∷ 114 ∷ 105 ∷ 101 ∷ 114 ∷ 32 ∷ 49 ∷ 32 ∷ 99 ∷ 111 ∷ 115 ∷ 116 ∷ 32 ∷ 50 ∷ 32 ∷ 99 ∷ 101 ∷ 108 ∷ 108 ∷ 115 ∷ 32 ∷ 49 ∷ 32 ∷ 52 ∷ 32 ∷ 55 ∷ 10 ∷ []

pub printed_book_text : program_text printed_book ≡ printed_text
unfolding range greatest sum_to only keep any_of first_of each wrong_side wrong_grid wrong_byte wrong_bytes is_open on_grid cell_at landing reach_from reach wrong_limits wrong_capacity wrong_count wrong_carrier first_wrong share pairs first_shared refuse_if carrier_verdict shared_verdict judge_with if_accepted route_in step_cost cost bars_for bars_cell bars_way may_stand may_turn moved moves outdone preferred better best_of in_front best_way best_route written meets swaps happens over_pairs at_step candidates or_clear chosen prefer take_least run search total first_short zeroed worked_on plan_written with_plan route_under with_route free_routes root_of root node_sum clash_of is_clear node_clear bar_one bar_two child_with child kids_for kids tree searched if_long enough planned low_high entry_kind entry_offset entry_length entry_body no_contents wrong_kinds wrong_bodies wrong_lengths book_verdict no_kind if_good asked_verdict body_of width_in height_in hall_in horizon_in digits_within digits number_line cells_text cost_line carrier_line carrier_lines plan_text rest_text told_text result_text book_text program_text
printed_book_text = refl

-- ---- P1: eight cells in a row, eight carriers of which 0 and 1 share a goal, and the last starts on a given cell

abbrev eight_book : ℕ → List ℕ
eight_book start =
    3 ∷ 1 ∷ 16 ∷ 0 ∷ 10 ∷ 0 ∷ 2 ∷ 26 ∷ 0 ∷ 24 ∷ 0 ∷ 3 ∷ 50 ∷ 0 ∷ 1 ∷ 0
    ∷ 8 ∷ 1 ∷ 46 ∷ 46 ∷ 46 ∷ 46 ∷ 46 ∷ 46 ∷ 46 ∷ 46
    ∷ 0 ∷ 7 ∷ 0 ∷ 1 ∷ 7 ∷ 0 ∷ 2 ∷ 1 ∷ 0 ∷ 3 ∷ 2 ∷ 0 ∷ 4 ∷ 3 ∷ 0 ∷ 5 ∷ 4 ∷ 0 ∷ 6 ∷ 5 ∷ 0 ∷ start ∷ 6 ∷ 0
    ∷ 3 ∷ []

-- 'answer 6', 'carriers 6 7': on cell 6, where carrier 6 starts
pub shared_start_text : program_text (eight_book 6) ≡ 97 ∷ 110 ∷ 115 ∷ 119 ∷ 101 ∷ 114 ∷ 32 ∷ 54 ∷ 10 ∷ 99 ∷ 97 ∷ 114 ∷ 114 ∷ 105 ∷ 101 ∷ 114 ∷ 115 ∷ 32 ∷ 54 ∷ 32 ∷ 55 ∷ 10 ∷ []
unfolding range any_of first_of each wrong_side wrong_grid wrong_byte wrong_bytes is_open wrong_limits wrong_capacity wrong_count wrong_carrier first_wrong share pairs first_shared refuse_if carrier_verdict shared_verdict judge_with if_accepted planned low_high entry_kind entry_offset entry_length entry_body no_contents wrong_kinds wrong_bodies wrong_lengths book_verdict no_kind if_good asked_verdict body_of width_in height_in hall_in horizon_in digits_within digits number_line rest_text told_text result_text book_text program_text pair_line
shared_start_text = refl

-- 'answer 16', 'carriers 0 1': on cell 7, where no other does
abbrev pub shared_goal_book : List ℕ
shared_goal_book = eight_book 7

abbrev pub shared_goal_text : List ℕ
shared_goal_text = 97 ∷ 110 ∷ 115 ∷ 119 ∷ 101 ∷ 114 ∷ 32 ∷ 49 ∷ 54 ∷ 10 ∷ 99 ∷ 97 ∷ 114 ∷ 114 ∷ 105 ∷ 101 ∷ 114 ∷ 115 ∷ 32 ∷ 48 ∷ 32 ∷ 49 ∷ 10 ∷ []

pub shared_goal_text_lem : program_text shared_goal_book ≡ shared_goal_text
unfolding range any_of first_of each wrong_side wrong_grid wrong_byte wrong_bytes is_open wrong_limits wrong_capacity wrong_count wrong_carrier first_wrong share pairs first_shared refuse_if carrier_verdict shared_verdict judge_with if_accepted planned low_high entry_kind entry_offset entry_length entry_body no_contents wrong_kinds wrong_bodies wrong_lengths book_verdict no_kind if_good asked_verdict body_of width_in height_in hall_in horizon_in digits_within digits number_line rest_text told_text result_text book_text program_text pair_line
shared_goal_text_lem = refl
