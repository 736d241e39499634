-- What becomes of a lent table: 'the named least lengths ... are all zero and the rest unchanged'.
use Rattle.std.specs.Prelude.{ℕ, ◌≤◌, ◌≡◌, List, ◌++◌, length, get_or, drop, replicate}

-- the first n entries zero, 'the rest unchanged'
unfoldable pub zeroed : ℕ → List ℕ → List ℕ
zeroed n xs = replicate n 0 ++ drop n xs

-- the same length, and the same entries from n on: what a table keeps
pub record SameFrom (n : ℕ) (before after : List ℕ) : Type 0 where
  pub long : length after ≡ length before
  pub rest : (x : ℕ) → n ≤ x → get_or after x 0 ≡ get_or before x 0
