-- The record columns of document 01, 16-bit, 8 × N: column after column, each with an entry for each of the N nodes. The columns
-- are the parent, the kind of bar, the barred carrier, three numbers of the bar, the sum, and whether the node is open.
-- 'A bar binds a node if it stands in that node's record or in the record of one of its ancestors.'
use Rattle.std.specs.Prelude.{ℕ, zero, suc, ◌+◌, ◌*◌, ◌≤◌, ◌<◌, Bool, true, false, List, [], ◌∷◌, ◌++◌, eqb, length, get_or}
use Rattle.lists.specs.Lists.{only}
use Rattle.routes.specs.Bars.{Barred}
use Rattle.routes.specs.declared.Bar.{Bar}
use Rattle.routes.specs.declared.Bar.TheVariants.{Free, Stay, Cross}

-- the entry of node x in column c
abbrev pub entry : ℕ → List ℕ → ℕ → ℕ → ℕ
entry capacity columns c x = get_or columns (c * capacity + x) 0

abbrev pub parent_at : ℕ → List ℕ → ℕ → ℕ
parent_at capacity columns x = entry capacity columns 0 x

abbrev pub sum_at : ℕ → List ℕ → ℕ → ℕ
sum_at capacity columns x = entry capacity columns 6 x

-- kind 1 is a stay, 2 a crossing, any other no bar
unfoldable pub bar_from : ℕ → ℕ → ℕ → ℕ → Bar
bar_from kind a b c = elim (eqb kind 1) [ true ↦ Stay a b c | false ↦ elim (eqb kind 2) [ true ↦ Cross a b c | false ↦ Free ] ]

unfoldable pub bar_at : ℕ → List ℕ → ℕ → Bar
bar_at capacity columns x =
    bar_from (entry capacity columns 1 x) (entry capacity columns 3 x) (entry capacity columns 4 x) (entry capacity columns 5 x)

unfoldable pub is_bar : Bar → Bool
is_bar Free = false
is_bar (Stay v a b) = true
is_bar (Cross u v t) = true

-- a node's own bar, with the carrier that it binds
unfoldable pub own_bars : ℕ → List ℕ → ℕ → List Barred
own_bars capacity columns x = only (is_bar (bar_at capacity columns x)) (record { carrier = entry capacity columns 2 x; bar = bar_at capacity columns x })

-- the bars of the first n nodes: each has its own in front of its parent's, who has a smaller number
unfoldable pub chains : ℕ → List ℕ → ℕ → List (List Barred)
chains capacity columns zero = []
chains capacity columns (suc n) =
    chains capacity columns n ++ ((own_bars capacity columns n ++ get_or (chains capacity columns n) (parent_at capacity columns n) []) ∷ [])

-- all bars that bind node x
unfoldable pub chain_of : ℕ → List ℕ → ℕ → List Barred
chain_of capacity columns x = own_bars capacity columns x ++ get_or (chains capacity columns x) (parent_at capacity columns x) []

-- the columns hold a node x whose ancestors' numbers fall; what stands elsewhere may be anything
pub record Falls (capacity : ℕ) (columns : List ℕ) (x : ℕ) : Type 0 where
  pub room : 8 * capacity ≤ length columns
  pub small : capacity ≤ 1024
  pub inside : x < capacity
  pub down : (y : ℕ) → 0 < y → y ≤ x → parent_at capacity columns y < y
