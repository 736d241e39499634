-- Document 01, 'Numbers given back', with P1's 16 and what P1 tells with 7, as one table: each case of each answer, and beside it the
-- literal number and the literal values told, in the order in which a caller in C gets them. 'Untold numbers are 0.' The law
-- `numbers_hold` is the claim.
use Rattle.std.specs.Prelude.{ℕ, List, [], ◌∷◌, map, ◌≡◌, Some, None, Ok, Err}
use Rattle.job.specs.declared.Refusal.TheVariants.{WrongGrid, WrongBytes, WrongLimits, WrongCount, WrongCarrier, SharedStart, SharedGoal}
use Rattle.job.specs.declared.CheckRefusal.TheVariants.{Job as OfJob, Short as PlanShort}
use Rattle.routes.specs.Check.{route_told}
use Rattle.clashes.specs.Check.{meeting_told}
use Rattle.clashes.specs.declared.Clash.TheVariants.{Clear, Meeting, Swap}
use Rattle.planner.specs.Answer.{answer_told}
use Rattle.planner.specs.declared.answer.Denial.TheVariants.{Job as Denied, Short, NoPlan, Full}
use Rattle.book.specs.Book.{book_number}
use Rattle.book.specs.declared.BookRefusal.TheVariants.{NoContents, WrongKinds, WrongBodies, WrongLengths, NoKind}
use Rattle.adfulmise.specs.Lent.{told_values, fault_values}

-- what the definitions tell for a case, and what document 01 says
pub record Row : Type 0 where
  pub told : List ℕ
  pub paper : List ℕ

row : List ℕ → List ℕ → Row
row told paper = record { told = told; paper = paper }

-- the planner: number, sum, records, carrier, other, table, needed
unfoldable pub plan_rows : ℕ → ℕ → ℕ → ℕ → ℕ → ℕ → List Row
unfolding row
plan_rows sum records i j table needed =
    row (told_values (answer_told (Ok (record { sum = sum; records = records })))) (0 ∷ sum ∷ records ∷ 0 ∷ 0 ∷ 0 ∷ 0 ∷ [])
    ∷ row (told_values (answer_told (Err (Denied WrongGrid)))) (1 ∷ 0 ∷ 0 ∷ 0 ∷ 0 ∷ 0 ∷ 0 ∷ [])
    ∷ row (told_values (answer_told (Err (Denied WrongBytes)))) (2 ∷ 0 ∷ 0 ∷ 0 ∷ 0 ∷ 0 ∷ 0 ∷ [])
    ∷ row (told_values (answer_told (Err (Denied WrongLimits)))) (3 ∷ 0 ∷ 0 ∷ 0 ∷ 0 ∷ 0 ∷ 0 ∷ [])
    ∷ row (told_values (answer_told (Err (Denied WrongCount)))) (4 ∷ 0 ∷ 0 ∷ 0 ∷ 0 ∷ 0 ∷ 0 ∷ [])
    ∷ row (told_values (answer_told (Err (Denied (WrongCarrier i))))) (5 ∷ 0 ∷ 0 ∷ i ∷ 0 ∷ 0 ∷ 0 ∷ [])
    ∷ row (told_values (answer_told (Err (Denied (SharedStart i j))))) (6 ∷ 0 ∷ 0 ∷ i ∷ j ∷ 0 ∷ 0 ∷ [])
    ∷ row (told_values (answer_told (Err (Denied (SharedGoal i j))))) (16 ∷ 0 ∷ 0 ∷ i ∷ j ∷ 0 ∷ 0 ∷ [])
    ∷ row (told_values (answer_told (Err (Short table needed)))) (7 ∷ 0 ∷ 0 ∷ 0 ∷ 0 ∷ table ∷ needed ∷ [])
    ∷ row (told_values (answer_told (Err (NoPlan records)))) (8 ∷ 0 ∷ records ∷ 0 ∷ 0 ∷ 0 ∷ 0 ∷ [])
    ∷ row (told_values (answer_told (Err (Full records)))) (9 ∷ 0 ∷ records ∷ 0 ∷ 0 ∷ 0 ∷ 0 ∷ [])
    ∷ []

-- the route check: number, carrier, other, step, distance, swap, needed
unfoldable pub route_rows : ℕ → ℕ → ℕ → ℕ → List Row
unfolding row
route_rows i j t needed =
    row (fault_values (route_told (Ok None))) (0 ∷ 0 ∷ 0 ∷ 0 ∷ 0 ∷ 0 ∷ 0 ∷ [])
    ∷ row (fault_values (route_told (Err (OfJob WrongGrid)))) (1 ∷ 0 ∷ 0 ∷ 0 ∷ 0 ∷ 0 ∷ 0 ∷ [])
    ∷ row (fault_values (route_told (Err (OfJob WrongBytes)))) (2 ∷ 0 ∷ 0 ∷ 0 ∷ 0 ∷ 0 ∷ 0 ∷ [])
    ∷ row (fault_values (route_told (Err (OfJob WrongLimits)))) (3 ∷ 0 ∷ 0 ∷ 0 ∷ 0 ∷ 0 ∷ 0 ∷ [])
    ∷ row (fault_values (route_told (Err (OfJob WrongCount)))) (4 ∷ 0 ∷ 0 ∷ 0 ∷ 0 ∷ 0 ∷ 0 ∷ [])
    ∷ row (fault_values (route_told (Err (OfJob (WrongCarrier i))))) (5 ∷ i ∷ 0 ∷ 0 ∷ 0 ∷ 0 ∷ 0 ∷ [])
    ∷ row (fault_values (route_told (Err (OfJob (SharedStart i j))))) (6 ∷ i ∷ j ∷ 0 ∷ 0 ∷ 0 ∷ 0 ∷ [])
    ∷ row (fault_values (route_told (Err (OfJob (SharedGoal i j))))) (16 ∷ i ∷ j ∷ 0 ∷ 0 ∷ 0 ∷ 0 ∷ [])
    ∷ row (fault_values (route_told (Err (PlanShort needed)))) (7 ∷ 0 ∷ 0 ∷ 0 ∷ 0 ∷ 0 ∷ needed ∷ [])
    ∷ row (fault_values (route_told (Ok (Some (record { carrier = i; step = t }))))) (21 ∷ i ∷ 0 ∷ t ∷ 0 ∷ 0 ∷ 0 ∷ [])
    ∷ []

-- the meeting check: the same seven
unfoldable pub meeting_rows : ℕ → ℕ → ℕ → ℕ → ℕ → List Row
unfolding row
meeting_rows i j t d needed =
    row (fault_values (meeting_told (Ok Clear))) (0 ∷ 0 ∷ 0 ∷ 0 ∷ 0 ∷ 0 ∷ 0 ∷ [])
    ∷ row (fault_values (meeting_told (Err (OfJob WrongGrid)))) (1 ∷ 0 ∷ 0 ∷ 0 ∷ 0 ∷ 0 ∷ 0 ∷ [])
    ∷ row (fault_values (meeting_told (Err (OfJob WrongBytes)))) (2 ∷ 0 ∷ 0 ∷ 0 ∷ 0 ∷ 0 ∷ 0 ∷ [])
    ∷ row (fault_values (meeting_told (Err (OfJob WrongLimits)))) (3 ∷ 0 ∷ 0 ∷ 0 ∷ 0 ∷ 0 ∷ 0 ∷ [])
    ∷ row (fault_values (meeting_told (Err (OfJob WrongCount)))) (4 ∷ 0 ∷ 0 ∷ 0 ∷ 0 ∷ 0 ∷ 0 ∷ [])
    ∷ row (fault_values (meeting_told (Err (OfJob (WrongCarrier i))))) (5 ∷ i ∷ 0 ∷ 0 ∷ 0 ∷ 0 ∷ 0 ∷ [])
    ∷ row (fault_values (meeting_told (Err (OfJob (SharedStart i j))))) (6 ∷ i ∷ j ∷ 0 ∷ 0 ∷ 0 ∷ 0 ∷ [])
    ∷ row (fault_values (meeting_told (Err (OfJob (SharedGoal i j))))) (16 ∷ i ∷ j ∷ 0 ∷ 0 ∷ 0 ∷ 0 ∷ [])
    ∷ row (fault_values (meeting_told (Err (PlanShort needed)))) (7 ∷ 0 ∷ 0 ∷ 0 ∷ 0 ∷ 0 ∷ needed ∷ [])
    ∷ row (fault_values (meeting_told (Ok (Meeting i j t d)))) (22 ∷ i ∷ j ∷ t ∷ d ∷ 0 ∷ 0 ∷ [])
    ∷ row (fault_values (meeting_told (Ok (Swap i j t)))) (22 ∷ i ∷ j ∷ t ∷ 0 ∷ 1 ∷ 0 ∷ [])
    ∷ []

-- the reader: the number alone
unfoldable pub book_rows : List Row
unfolding row
book_rows =
    row (book_number (Ok tt) ∷ []) (0 ∷ [])
    ∷ row (book_number (Err NoContents) ∷ []) (11 ∷ [])
    ∷ row (book_number (Err WrongKinds) ∷ []) (12 ∷ [])
    ∷ row (book_number (Err WrongBodies) ∷ []) (13 ∷ [])
    ∷ row (book_number (Err WrongLengths) ∷ []) (14 ∷ [])
    ∷ row (book_number (Err NoKind) ∷ []) (15 ∷ [])
    ∷ []

-- every row says what document 01 says
unfoldable pub Hold : List Row → Type 0
Hold rows = map (λ r. r.told) rows ≡ map (λ r. r.paper) rows

pub record NumbersHold : Type 0 where
  pub planner : (sum records i j table needed : ℕ) → Hold (plan_rows sum records i j table needed)
  pub routes : (i j t needed : ℕ) → Hold (route_rows i j t needed)
  pub meetings : (i j t d needed : ℕ) → Hold (meeting_rows i j t d needed)
  pub reader : Hold book_rows
