-- What the code of the job check finds, as the definitions say it: two that share an end, or none.
use Rattle.std.specs.Prelude.{ℕ, ◌≡◌, List, get_or, Option, MatchOption, Ok}
use Rattle.std.proofs.Math.Option.{Option as First, none, some}
use Rattle.job.specs.Job.{Pair, first_shared}
use Rattle.job.specs.Verdict.{Verdict, shared_verdict}
use Rattle.job.specs.declared.Refusal.TheVariants.{SharedStart, SharedGoal}

-- the starts or the goals of a lent team, by number
abbrev pub end_in : List ℕ → ℕ → ℕ
end_in cells i = get_or cells i 0

-- answers 6 and 16, of m carriers by their starts and goals
abbrev pub shared_by : (ℕ → ℕ) → (ℕ → ℕ) → ℕ → Verdict
shared_by start_of goalOf m = shared_verdict (λ i j. SharedStart i j) (first_shared start_of m) (shared_verdict (λ i j. SharedGoal i j) (first_shared goalOf m) (Ok tt))

-- the two that were found are the first pair, or nobody was found and there is none
abbrev pub PairFound : Option (ℕ × ℕ) → First Pair → Type 0
PairFound found first = MatchOption found (first ≡ none) (λ p. first ≡ some (record { one = p.0; two = p.1 }))
