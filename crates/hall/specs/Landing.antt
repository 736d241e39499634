-- Where a move leads, as the code answers it: the cells of the answer, of which there is one or none.
use Rattle.std.specs.Prelude.{ℕ, List, [], ◌∷◌, Option, None, Some}

unfoldable pub landed : Option ℕ → List ℕ
landed None = []
landed (Some v) = v ∷ []
