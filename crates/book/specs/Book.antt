-- Document 01, 'The book of a job': what stands where in a book, the reader's answers 11 to 15, and the body handed back.
-- The bytes of a book are a list of numbers; a byte past its end reads as 0, and every answer above 11 is only reached
-- where the whole contents are there.
use Rattle.std.specs.Prelude.{ℕ, ◌+◌, ◌-◌, ◌*◌, ◌%◌, Bool, not, ◌||◌, List, [], ◌≡◌, eqb, ltb, length, get_or, take, drop, Result, Ok, Err}
use Rattle.lists.specs.Lists.{refuse_if}
use Rattle.book.specs.declared.BookRefusal.{BookRefusal}
use Rattle.book.specs.declared.BookRefusal.TheVariants.{NoContents, WrongKinds, WrongBodies, WrongLengths, NoKind}
use Rattle.book.specs.declared.Contents.{Contents}
use Rattle.book.specs.declared.Entry.{Entry}

-- what the reader says: that it refuses nothing, or what it refuses
abbrev pub BookVerdict : Type 0
BookVerdict = Result (Unit {0}) BookRefusal

-- the number of each answer; 0 where the reader refuses nothing
abbrev pub book_number : BookVerdict → ℕ
book_number (Ok _) = 0
book_number (Err NoContents) = 11
book_number (Err WrongKinds) = 12
book_number (Err WrongBodies) = 13
book_number (Err WrongLengths) = 14
book_number (Err NoKind) = 15

-- ---- the contents

-- 'Contents first, then bodies.': one byte and three entries of five
abbrev pub contents_length : ℕ
contents_length = 16

-- 'Byte 0 is 3.'
abbrev pub entry_count : ℕ
entry_count = 3

-- 'Kinds are 1, 2, 3 in that order.': so an entry has the number of its kind
abbrev pub hall_kind : ℕ
hall_kind = 1

abbrev pub carriers_kind : ℕ
carriers_kind = 2

abbrev pub limits_kind : ℕ
limits_kind = 3

-- 'Three entries of 5 bytes follow': where entry n begins, n from 1 to 3
abbrev pub entry_at : ℕ → ℕ
entry_at n = 1 + 5 * (n - 1)

-- '16-bit, low byte first'
unfoldable pub low_high : List ℕ → ℕ → ℕ
low_high book at = get_or book at 0 + 256 * get_or book (at + 1) 0

-- 'kind, offset, length, the last two 16-bit'
unfoldable pub entry_kind : List ℕ → ℕ → ℕ
entry_kind book n = get_or book (entry_at n) 0

unfoldable pub entry_offset : List ℕ → ℕ → ℕ
entry_offset book n = low_high book (entry_at n + 1)

unfoldable pub entry_length : List ℕ → ℕ → ℕ
entry_length book n = low_high book (entry_at n + 3)

-- where the body of entry n ends
abbrev pub body_end : List ℕ → ℕ → ℕ
body_end book n = entry_offset book n + entry_length book n

-- entry n as the reader holds it, and the three together
abbrev pub entry_in : List ℕ → ℕ → Entry
entry_in book n = record { kind = entry_kind book n; offset = entry_offset book n; length = entry_length book n }

abbrev pub contents_in : List ℕ → Contents
contents_in book = record { hall = entry_in book 1; carriers = entry_in book 2; limits = entry_in book 3 }

-- the bytes that entry n names
unfoldable pub entry_body : List ℕ → ℕ → List ℕ
entry_body book n = take (entry_length book n) (drop (entry_offset book n) book)

-- ---- the answers

-- 11: 'book shorter than 16 bytes or byte 0 not 3'
unfoldable pub no_contents : List ℕ → Bool
no_contents book = ltb (length book) contents_length || not (eqb (get_or book 0 0) entry_count)

-- 12: 'kinds wrong'
unfoldable pub wrong_kinds : List ℕ → Bool
wrong_kinds book =
    not (eqb (entry_kind book 1) hall_kind) || not (eqb (entry_kind book 2) carriers_kind) || not (eqb (entry_kind book 3) limits_kind)

-- 'Bodies follow without gaps from byte 16 to the end.'
pub record Consecutive (book : List ℕ) : Type 0 where
  pub first : entry_offset book 1 ≡ contents_length
  pub second : entry_offset book 2 ≡ body_end book 1
  pub third : entry_offset book 3 ≡ body_end book 2
  pub last : body_end book 3 ≡ length book

-- 13: 'bodies don't follow one another exactly to the end'
unfoldable pub wrong_bodies : List ℕ → Bool
wrong_bodies book =
    not (eqb (entry_offset book 1) contents_length)
    || not (eqb (entry_offset book 2) (body_end book 1))
    || not (eqb (entry_offset book 3) (body_end book 2))
    || not (eqb (body_end book 3) (length book))

-- 14: 'hall body under 2 bytes, carriers body of odd length, or limits body not 2 bytes', of which P3 changes the last two: 'The carriers
-- body has 3 bytes for each carrier, the limits body only H', and '14 reads the new lengths'
abbrev pub hall_under_two : List ℕ → Bool
hall_under_two body = ltb (length body) 2

abbrev pub carriers_not_threes : List ℕ → Bool
carriers_not_threes body = not (eqb (length body % 3) 0)

abbrev pub limits_not_one : List ℕ → Bool
limits_not_one body = not (eqb (length body) 1)

unfoldable pub wrong_lengths : List ℕ → Bool
wrong_lengths book = hall_under_two (entry_body book 1) || carriers_not_threes (entry_body book 2) || limits_not_one (entry_body book 3)

-- 'Reader answers, lowest first': 11 to 14
unfoldable pub book_verdict : List ℕ → BookVerdict
book_verdict book =
    refuse_if (no_contents book) (Err NoContents)
    (refuse_if (wrong_kinds book) (Err WrongKinds)
    (refuse_if (wrong_bodies book) (Err WrongBodies)
    (refuse_if (wrong_lengths book) (Err WrongLengths) (Ok tt))))

-- 15: 'a kind other than 1 to 3'
unfoldable pub no_kind : ℕ → Bool
no_kind kind = ltb kind hall_kind || ltb limits_kind kind

-- what comes where nothing is refused, and what with a refusal
unfoldable pub if_good : {A : Type 0} → BookVerdict → A → A → A
if_good (Ok _) go stop = go
if_good (Err _) go stop = stop

-- 'a kind other than 1 to 3 is answer 15, after 11 to 14'
unfoldable pub asked_verdict : List ℕ → ℕ → BookVerdict
asked_verdict book kind = if_good (book_verdict book) (refuse_if (no_kind kind) (Err NoKind) (Ok tt)) (book_verdict book)

-- 'Asked for one kind, the reader hands back that body as a part of the lent book'; 'with any refusal the part handed back is empty'
unfoldable pub body_of : List ℕ → ℕ → List ℕ
body_of book kind = if_good (asked_verdict book kind) (entry_body book kind) []

-- where in the book the part handed back begins; with a refusal the empty part begins at the book's first byte
unfoldable pub body_place : List ℕ → ℕ → ℕ
body_place book kind = if_good (asked_verdict book kind) (entry_offset book kind) 0
