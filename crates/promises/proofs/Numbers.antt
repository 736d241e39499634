-- The table of numbers holds, row by row: antt computes both sides. Assumes nothing.
use mathlib.Core.Path.{refl}
use Rattle.promises.specs.Numbers.{plan_rows, route_rows, meeting_rows, book_rows, Hold, NumbersHold}

pub numbers_hold : NumbersHold
unfolding plan_rows route_rows meeting_rows book_rows Hold
numbers_hold = record { planner = λ sum records i j table needed. refl; routes = λ i j t needed. refl; meetings = λ i j t d needed. refl; reader = refl }
