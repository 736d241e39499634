-- Part of a table made anew: from `base` on the first n entries are made of what they were, and no other has changed.
use Rattle.std.specs.Prelude.{ℕ, ◌+◌, ◌≤◌, ◌<◌, ◌≡◌, List, length, get_or}

pub record Made (base n : ℕ) (byte : ℕ → ℕ → ℕ) (before after : List ℕ) : Type 0 where
  pub long : length after ≡ length before
  pub made : (v : ℕ) → v < n → get_or after (base + v) 0 ≡ byte v (get_or before (base + v) 0)
  pub under : (x : ℕ) → x < base → get_or after x 0 ≡ get_or before x 0
  pub over : (x : ℕ) → base + n ≤ x → get_or after x 0 ≡ get_or before x 0
