-- Document 01, 'Numbers given back': 'The route check then says 0, or 21 with the first carrier, and its first step, at which the start, a
-- move, a cell or the goal is wrong', in words: no place is wrong, or one is and none comes before it.
use Rattle.std.specs.Prelude.{ℕ, ◌≤◌, ◌<◌, true, false, ◌≡◌}
use Rattle.job.specs.Job.{Job}
use Rattle.routes.specs.Check.{wrong_at}

module _ (job : Job) (cell : ℕ → ℕ → ℕ) where
  unfoldable pub NoneWrong : Type 0
  NoneWrong = (i t : ℕ) → i < job.count → t ≤ job.horizon → wrong_at job i (cell i) t ≡ false

  pub record FirstWrongPlace (i t : ℕ) : Type 0 where
    pub carrier : i < job.count
    pub step : t ≤ job.horizon
    pub wrong : wrong_at job i (cell i) t ≡ true
    pub first : (j s : ℕ) → j < job.count → s ≤ job.horizon → wrong_at job j (cell j) s ≡ true → (i ≤ j) × (i ≡ j → t ≤ s)
