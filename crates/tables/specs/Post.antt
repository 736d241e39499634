-- What the leaves over the lent tables ask and promise.
use Rattle.std.specs.Prelude.{ℕ, ◌*◌, ◌≤◌, ◌<◌, ◌≡◌, true, false, Option, Some, None, List, length, get_or, drop}
use Rattle.routes.specs.declared.Bar.{Bar}
use Rattle.routes.specs.declared.Bar.TheVariants.{Free, Stay, Cross}
use Rattle.records.specs.Columns.{entry, parent_at, sum_at, bar_at}
use Rattle.tables.specs.State.{is_open_at}
use Rattle.tables.specs.declared.Code.{Code}

-- the columns have room for node x
pub record Room (capacity : ℕ) (columns : List ℕ) (x : ℕ) : Type 0 where
  pub inside : x < capacity
  pub small : capacity ≤ 1024
  pub long : 8 * capacity ≤ length columns

-- Rule 4: x is 'the open node of least sum, then of least number', among the first n
pub record LeastAt (capacity : ℕ) (columns : List ℕ) (n x : ℕ) : Type 0 where
  pub inside : x < n
  pub opened : is_open_at capacity columns x ≡ true
  pub least : (y : ℕ) → y < n → is_open_at capacity columns y ≡ true → sum_at capacity columns x ≤ sum_at capacity columns y
  pub first : (y : ℕ) → y < x → is_open_at capacity columns y ≡ true → sum_at capacity columns x < sum_at capacity columns y

unfoldable pub LeastFact : ℕ → List ℕ → ℕ → Option ℕ → Type 0
LeastFact capacity columns n None = (y : ℕ) → y < n → is_open_at capacity columns y ≡ false
LeastFact capacity columns n (Some x) = LeastAt capacity columns n x

-- the kind of a bar and its numbers: no bar is 0, a stay 1, a crossing 2
abbrev pub code_of : Bar → Code
code_of Free = record { kind = 0; first = 0; second = 0; third = 0 }
code_of (Stay v a b) = record { kind = 1; first = v; second = a; third = b }
code_of (Cross u v t) = record { kind = 2; first = u; second = v; third = t }

-- 'record columns, 16-bit': every number of a record fits
unfoldable pub BarFits : Bar → Type 0
BarFits Free = Unit {0}
BarFits (Stay v a b) = (v < 65536) × (a < 65536) × (b < 65536)
BarFits (Cross u v t) = (u < 65536) × (v < 65536) × (t < 65536)

pub record Fitting (parent carrier : ℕ) (bar : Bar) (sum : ℕ) : Type 0 where
  pub parent_fits : parent < 65536
  pub carrier_fits : carrier < 65536
  pub bar_fits : BarFits bar
  pub sum_fits : sum < 65536

-- the columns after, whose first n entries of node x are the values, and which are otherwise as before
pub record Entered (capacity : ℕ) (before : List ℕ) (x : ℕ) (values : List ℕ) (n : ℕ) (after : List ℕ) : Type 0 where
  pub here : (c : ℕ) → c < n → entry capacity after c x ≡ get_or values c 0
  pub others : (c y : ℕ) → y < capacity → (y ≡ x → ⊥) → entry capacity after c y ≡ entry capacity before c y
  pub long : length after ≡ length before
  pub tail : drop (8 * capacity) after ≡ drop (8 * capacity) before

-- the columns after, which have the record of node x, open, and are otherwise as before
pub record Recorded (capacity : ℕ) (before : List ℕ) (x parent carrier : ℕ) (bar : Bar) (sum : ℕ) (after : List ℕ) : Type 0 where
  pub parent_is : parent_at capacity after x ≡ parent
  pub carrier_is : entry capacity after 2 x ≡ carrier
  pub bar_is : bar_at capacity after x ≡ bar
  pub code_is : (entry capacity after 1 x ≡ (code_of bar).kind) × (entry capacity after 3 x ≡ (code_of bar).first) × (entry capacity after 4 x ≡ (code_of bar).second) × (entry capacity after 5 x ≡ (code_of bar).third)
  pub sum_is : sum_at capacity after x ≡ sum
  pub opened : entry capacity after 7 x ≡ 1
  pub others : (c y : ℕ) → y < capacity → (y ≡ x → ⊥) → entry capacity after c y ≡ entry capacity before c y
  pub long : length after ≡ length before
  pub tail : drop (8 * capacity) after ≡ drop (8 * capacity) before
