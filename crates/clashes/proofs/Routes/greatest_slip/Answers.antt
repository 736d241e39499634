-- `clashes::Routes::greatest_slip` meets its contract: the greatest is folded over the slips of the team. Assumes nothing.
use Rattle.std.proofs.Common.{rules, max, ◌≡◌, ◌≤◌, get_or, take, ℕ, suc, zero, List, length}
use Rattle.std.specs.List.{fold}
use Rattle.std.proofs.Math.Seq.{take-suc}
use Rattle.std.proofs.iter.runs.Made.{chains}
use Rattle.std.proofs.lemmas.List.Sums.{fold_push}
use mathlib.Core.Path.{refl, ◌∙◌}
use native.Mathlib.Omega.{arith}
use Rattle.lists.specs.Lists.{greatest}
use Rattle.clashes.proofs.Routes.greatest_slip.Goals as goal

greatest_folded : (n : ℕ) (xs : List ℕ) → n ≤ length xs → fold max 0 (take n xs) ≡ greatest n (λ i. get_or xs i 0)
unfolding greatest
greatest_folded zero xs l = refl
greatest_folded (suc n) xs l = rw (take-suc xs n 0 (omega arith), fold_push max 0 (take n xs) (get_or xs n 0), greatest_folded n xs (omega arith))

pub returns : goal.returns
returns c =
    let folded : c.fold.result ≡ fold max 0 (take c.args.self.now.count c.args.self.now.slips) = search (rules, chains) in
    folded ∙ greatest_folded c.args.self.now.count c.args.self.now.slips (omega arith)
