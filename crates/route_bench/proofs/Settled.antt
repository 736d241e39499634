-- Two results that the contract of `adfulmise_best_route` allows are equal, with the tables they leave. Whether arguments are right need not
-- be decided for it: numbers and lists that cannot differ are equal. Assumes nothing.
use Prim.Native.Nat.{ℕ, ◌+◌, ◌*◌}
use native.Mathlib.Decide.{ℕ_discrete}
use native.Mathlib.Omega.{arith}
use mathlib.Core.Path.{◌≡◌, sym, ap, ◌∙◌}
use mathlib.Core.List.{List}
use lib.ListN.{length, get_or}
use Rattle.lists.proofs.Parts.{same_entries}
use Rattle.lent.specs.Lent.{SameFrom}
use Rattle.hall.specs.Hall.{Hall, size}
use Rattle.routes.specs.declared.Bar.{Bar}
use Rattle.layers.proofs.Settled.{filled_settled}
use Rattle.route_bench.specs.Answer.{Answered}

number_settled : (a b : ℕ) → ((a ≡ b → ⊥) → ⊥) → a ≡ b
number_settled a b h = elim (ℕ_discrete a b) [ yes e ↦ e | no n ↦ absurd (h n) ]

list_settled : (xs ys : List ℕ) → ((xs ≡ ys → ⊥) → ⊥) → xs ≡ ys
list_settled xs ys h =
    same_entries xs ys (number_settled (length xs) (length ys) (λ n. h (λ e. n (ap length e))))
    (λ i. number_settled (get_or xs i 0) (get_or ys i 0) (λ n. h (λ e. n (ap (λ (l : List ℕ). get_or l i 0) e))))

either_way : {right same : Type 0} → (right → same) → ((right → ⊥) → same) → (same → ⊥) → ⊥
either_way yes-right no-right n = n (no-right (λ r. n (yes-right r)))

-- the two planes as crate layers counts them
two_planes : (n h : ℕ) (before after : List ℕ) → SameFrom (2 * ((h + 1) * n)) before after → SameFrom ((h + 1) * n + (h + 1) * n) before after
two_planes n h before after k = record { long = k.long; rest = λ x l. k.rest x (omega arith) }

module _ (right : Type 0) (hall : Hall) (bars : List Bar) (start goal h : ℕ) (layers a a' stretch s s' : List ℕ) (r r' : ℕ) (p : Answered right hall bars start goal h layers a stretch s r) (q : Answered right hall bars start goal h layers a' stretch s' r') where
  filled_same : right → a ≡ a'
  filled_same y =
      let f = p.answers y in
      let g = q.answers y in
      filled_settled hall bars start goal h layers a a' f.filled g.filled (two_planes (size hall) h layers a f.kept) (two_planes (size hall) h layers a' g.kept)

  pub best_route_settled : (r ≡ r') × (s ≡ s') × (a ≡ a')
  best_route_settled = (
    number_settled r r' (either_way (λ y. (p.answers y).told ∙ sym (q.answers y).told) (λ n. (p.refuses n).told ∙ sym (q.refuses n).told)),
    list_settled s s' (either_way (λ y. (p.answers y).written ∙ sym (q.answers y).written) (λ n. (p.refuses n).unwritten ∙ sym (q.refuses n).unwritten)),
    list_settled a a' (either_way filled_same (λ n. (p.refuses n).unfilled ∙ sym (q.refuses n).unfilled)),
  )
