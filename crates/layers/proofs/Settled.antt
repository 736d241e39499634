-- Two results that the contract of `seek_route` allows are equal, with the layers they leave: every byte of the two planes is settled by
-- the best ways on and the bars, and every other is as it was. Assumes nothing.
use Prim.Native.Nat.{ℕ, ◌+◌, ◌*◌}
use mathlib.Core.Path.{◌≡◌, sym, ◌∙◌}
use mathlib.Core.List.{List}
use Rattle.lent.specs.Lent.{SameFrom}
use Rattle.hall.specs.Hall.{Hall, size}
use Rattle.routes.specs.declared.Bar.{Bar}
use Rattle.marks.proofs.Settled.{layers_same}
use Rattle.layers.specs.Layers.{Filled}
use Rattle.layers.specs.Post.{SoughtRoute}
use Rattle.layers.specs.Sought.{Sought}

-- layers that are filled alike, and alike beyond the planes
pub filled_settled : (hall : Hall) (bars : List Bar) (start goal h : ℕ) (before after after' : List ℕ) → Filled hall bars start goal h after → Filled hall bars start goal h after' → SameFrom ((h + 1) * size hall + (h + 1) * size hall) before after → SameFrom ((h + 1) * size hall + (h + 1) * size hall) before after' → after ≡ after'
filled_settled hall bars start goal h before after after' f f' k k' =
    layers_same (size hall) h after after' (λ t v l i. f.levels t v l i ∙ sym (f'.levels t v l i)) (λ t v l i. f.crossings t v l i ∙ sym (f'.crossings t v l i)) (k.long ∙ sym k'.long)
    (λ x l. k.rest x l ∙ sym (k'.rest x l))

pub seek_settled : (hall : Hall) (bars : List Bar) (start goal h : ℕ) (before after after' : List ℕ) (r r' : Sought) → SoughtRoute hall bars start goal h before after r → SoughtRoute hall bars start goal h before after' r' → (r ≡ r') × (after ≡ after')
seek_settled hall bars start goal h before after after' r r' p q =
    (p.told ∙ sym q.told, filled_settled hall bars start goal h before after after' p.filled q.filled p.kept q.kept)
