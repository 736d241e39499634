-- What seeking a route finds: none, or one of this cost.
use Rattle.std.specs.Prelude.{ℕ, Option}

abbrev pub Sought : Type 0
Sought = Option ℕ
