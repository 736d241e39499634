-- Document 01, 'The floor and the job' and rows 0 to 6 of 'Numbers given back', with P1's row 16, in plain numbers: what makes a job
-- right, check by check, and which number is due. The law `judged_due` proves it of what `judge_with` gives, `accepted_exactly` of what
-- it accepts.
use Rattle.std.specs.Prelude.{ℕ, ◌*◌, ◌≤◌, ◌<◌, ◌≡◌, ◌⊎◌, length, get_or}
use Rattle.job.specs.Job.{Job}
use Rattle.job.specs.Told.{bare, named}
use Rattle.job.specs.declared.Told.{Told}

-- 'A hall is a grid of 1 to 16 columns (width) by 1 to 16 rows (height).'
pub record RightGrid (job : Job) : Type 0 where
  pub columns : (1 ≤ job.hall.width) × (job.hall.width ≤ 16)
  pub rows : (1 ≤ job.hall.height) × (job.hall.height ≤ 16)

-- 'width × height bytes'; 'a hall byte is 46 ('.', open) or 35 ('#', closed)'
pub record RightBytes (job : Job) : Type 0 where
  pub all : length job.hall.bytes ≡ job.hall.width * job.hall.height
  pub known : (v : ℕ) → v < length job.hall.bytes → (get_or job.hall.bytes v 0 ≡ 46) ⊎ (get_or job.hall.bytes v 0 ≡ 35)

-- 'the horizon H (0 to 63)'
pub record RightLimits (job : Job) : Type 0 where
  pub horizon : job.horizon ≤ 63

-- 'the capacity N (1 to 1,024 records)'
pub record RightCapacity (n : ℕ) : Type 0 where
  pub least : 1 ≤ n
  pub most : n ≤ 1024

-- 'There are 1 to 8 carriers.'
pub record RightCount (job : Job) : Type 0 where
  pub least : 1 ≤ job.count
  pub most : job.count ≤ 8

-- a cell of the grid that is open
pub record OpenCell (job : Job) (v : ℕ) : Type 0 where
  pub inside : v < job.hall.width * job.hall.height
  pub byte : get_or job.hall.bytes v 0 ≡ 46

-- both ends on open cells, and P3: 'its own slip, 0 to 4'
pub record RightCarrier (job : Job) (i : ℕ) : Type 0 where
  pub start : OpenCell job (job.start_of i)
  pub goal : OpenCell job (job.goal_of i)
  pub slip : job.slip_of i ≤ 4

-- no two of m carriers have one end, a start or a goal by `end_of`
abbrev pub NoneShare : (ℕ → ℕ) → ℕ → Type 0
NoneShare end_of m = (i j : ℕ) → i < j → j < m → end_of i ≡ end_of j → ⊥

-- two that have, 'least i, then least j, i < j'
pub record FirstShare (end_of : ℕ → ℕ) (m i j : ℕ) : Type 0 where
  pub apart : i < j
  pub inside : j < m
  pub shared : end_of i ≡ end_of j
  pub least : (a b : ℕ) → a < b → b < m → end_of a ≡ end_of b → (i ≤ a) × (i ≡ a → j ≤ b)

-- a job that passes checks 1 to 6 and 16, but for N
pub record RightJob (job : Job) : Type 0 where
  pub grid : RightGrid job
  pub bytes : RightBytes job
  pub limits : RightLimits job
  pub count : RightCount job
  pub carriers : (i : ℕ) → i < job.count → RightCarrier job i
  pub starts : NoneShare job.start_of job.count
  pub goals : NoneShare job.goal_of job.count

-- Rows 0 to 6 and 16: 'If several apply, the lowest number is given', and 16 'directly after 6'. `N` is that the capacity is right,
-- where the check looks at one. Told are for 5 the 'first such carrier', for 6 and 16 'the pair'.
pub data Due (job : Job) (N : Type 0) : Told → Type 0 where
  due_1 : (RightGrid job → ⊥) → Due job N (bare 1)
  due_2 : RightGrid job → (RightBytes job → ⊥) → Due job N (bare 2)
  due_3 : RightGrid job → RightBytes job → (RightLimits job × N → ⊥) → Due job N (bare 3)
  due_4 : RightGrid job → RightBytes job → RightLimits job × N → (RightCount job → ⊥) → Due job N (bare 4)
  due_5 : RightGrid job → RightBytes job → RightLimits job × N → RightCount job
      → (i : ℕ) → i < job.count → (RightCarrier job i → ⊥) → ((j : ℕ) → j < i → RightCarrier job j) → Due job N (named 5 i 0)
  due_6 : RightGrid job → RightBytes job → RightLimits job × N → RightCount job → ((i : ℕ) → i < job.count → RightCarrier job i)
      → (i j : ℕ) → FirstShare job.start_of job.count i j → Due job N (named 6 i j)
  due_16 : RightGrid job → RightBytes job → RightLimits job × N → RightCount job → ((i : ℕ) → i < job.count → RightCarrier job i)
      → NoneShare job.start_of job.count → (i j : ℕ) → FirstShare job.goal_of job.count i j → Due job N (named 16 i j)
  due_0 : RightJob job → N → Due job N (bare 0)
