-- The book that document 01 prints, as P3 has it rewritten, gives its three bodies, and they say what the document's job says.
-- By computation. Assumes nothing.
use Prim.Native.Nat.{ℕ}
use mathlib.Core.Path.{◌≡◌, refl}
use mathlib.Core.List.{List, [], ◌∷◌}
use Rattle.std.specs.Prelude.{Ok}
use Rattle.lists.specs.Lists.{refuse_if}
use Rattle.book.specs.Book.{low_high, entry_kind, entry_offset, entry_length, entry_body, no_contents, wrong_kinds, wrong_bodies, wrong_lengths, book_verdict, no_kind, if_good, asked_verdict, body_of, body_place}
use Rattle.book.specs.Parts.{width_in, height_in, hall_in, count_in, start_in, goal_in, slip_in, horizon_in}

-- nine open cells
abbrev nine : List ℕ
nine = 46 ∷ 46 ∷ 46 ∷ 46 ∷ 46 ∷ 46 ∷ 46 ∷ 46 ∷ 46 ∷ []

-- '3, 1 16 0 11 0', 2 27 0 6 0, 3 33 0 1 0, 'then 3 3 and nine bytes 46', then 3 5 0 1 7 0, then 4
abbrev pub printed_book : List ℕ
printed_book =
    3 ∷ 1 ∷ 16 ∷ 0 ∷ 11 ∷ 0 ∷ 2 ∷ 27 ∷ 0 ∷ 6 ∷ 0 ∷ 3 ∷ 33 ∷ 0 ∷ 1 ∷ 0
    ∷ 3 ∷ 3 ∷ 46 ∷ 46 ∷ 46 ∷ 46 ∷ 46 ∷ 46 ∷ 46 ∷ 46 ∷ 46
    ∷ 3 ∷ 5 ∷ 0 ∷ 1 ∷ 7 ∷ 0
    ∷ 4 ∷ []

pub printed_good : book_verdict printed_book ≡ Ok tt
unfolding book_verdict refuse_if no_contents wrong_kinds wrong_bodies wrong_lengths entry_kind entry_offset entry_length entry_body low_high
printed_good = refl

printed_hall : body_of printed_book 1 ≡ 3 ∷ 3 ∷ nine
unfolding body_of asked_verdict if_good no_kind book_verdict refuse_if no_contents wrong_kinds wrong_bodies wrong_lengths entry_kind entry_offset entry_length entry_body low_high
printed_hall = refl

pub printed_carriers : body_of printed_book 2 ≡ 3 ∷ 5 ∷ 0 ∷ 1 ∷ 7 ∷ 0 ∷ []
unfolding body_of asked_verdict if_good no_kind book_verdict refuse_if no_contents wrong_kinds wrong_bodies wrong_lengths entry_kind entry_offset entry_length entry_body low_high
printed_carriers = refl

pub printed_limits : body_of printed_book 3 ≡ 4 ∷ []
unfolding body_of asked_verdict if_good no_kind book_verdict refuse_if no_contents wrong_kinds wrong_bodies wrong_lengths entry_kind entry_offset entry_length entry_body low_high
printed_limits = refl

-- 16 0, 27 0, 33 0
pub printed_places : (body_place printed_book 1 ≡ 16) × (body_place printed_book 2 ≡ 27) × (body_place printed_book 3 ≡ 33)
unfolding body_place asked_verdict if_good no_kind book_verdict refuse_if no_contents wrong_kinds wrong_bodies wrong_lengths entry_kind entry_offset entry_length entry_body low_high
printed_places = (refl, refl, refl)

-- what the bodies say: a hall of 3 by 3, all open; carrier 0 from 3 to 5, carrier 1 from 1 to 7, both of slip 0; H 4
pub printed_job : (width_in (body_of printed_book 1) ≡ 3) × (height_in (body_of printed_book 1) ≡ 3) × (hall_in (body_of printed_book 1) ≡ nine)
    × (count_in (body_of printed_book 2) ≡ 2) × (start_in (body_of printed_book 2) 0 ≡ 3) × (goal_in (body_of printed_book 2) 0 ≡ 5) × (slip_in (body_of printed_book 2) 0 ≡ 0)
    × (start_in (body_of printed_book 2) 1 ≡ 1) × (goal_in (body_of printed_book 2) 1 ≡ 7) × (slip_in (body_of printed_book 2) 1 ≡ 0)
    × (horizon_in (body_of printed_book 3) ≡ 4)
unfolding width_in height_in hall_in horizon_in
printed_job = rw (printed_hall, printed_carriers, printed_limits) (refl, refl, refl, refl, refl, refl, refl, refl, refl, refl, refl)
