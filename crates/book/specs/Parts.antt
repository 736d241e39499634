-- Document 01, 'The book of a job': what each body says. Each is read off the body's own bytes, so that it is the same
-- whichever book the body came from.
use Rattle.std.specs.Prelude.{ℕ, ◌+◌, ◌*◌, ◌/◌, List, length, get_or, drop}

-- 'Kind 1: width, height, hall bytes.'
unfoldable pub width_in : List ℕ → ℕ
width_in body = get_or body 0 0

unfoldable pub height_in : List ℕ → ℕ
height_in body = get_or body 1 0

unfoldable pub hall_in : List ℕ → List ℕ
hall_in body = drop 2 body

-- 'Kind 2: start and goal for each carrier', and P3: 'Each carrier's record now has its own slip', 'The carriers body has 3 bytes for
-- each carrier'. The team of the carriers is made of these four (crate carriers).
abbrev pub count_in : List ℕ → ℕ
count_in body = length body / 3

abbrev pub start_in : List ℕ → ℕ → ℕ
start_in body i = get_or body (3 * i) 0

abbrev pub goal_in : List ℕ → ℕ → ℕ
goal_in body i = get_or body (3 * i + 1) 0

abbrev pub slip_in : List ℕ → ℕ → ℕ
slip_in body i = get_or body (3 * i + 2) 0

-- Kind 3, P3: 'the limits body only H'
unfoldable pub horizon_in : List ℕ → ℕ
horizon_in body = get_or body 0 0
