-- What a test's answer tells. Assumes nothing.
use Prim.Native.Nat.{ℕ, ◌+◌, ◌<◌}
use native.Mathlib.Decide.{dec_le}
use native.Mathlib.Omega.{arith}
use mathlib.Core.Path.{◌≡◌, sym}
use mathlib.Core.Bool.{Bool, true, false, true≢false}
use Rattle.route_bench.specs.Answer.{Tells}

-- what a test tells, where it held and where it failed
pub holds : (P : Type 0) (b : Bool) → Tells P b → b ≡ true → P
unfolding Tells
holds P true t e = t
holds P false t e = absurd (true≢false (sym e))

pub fails : (P : Type 0) (b : Bool) → Tells P b → b ≡ false → P → ⊥
unfolding Tells
fails P true t e p = true≢false e
fails P false t e p = t p

-- below y + 1 as below y and at y
pub one_further : (f : ℕ → ℕ) (y : ℕ) → ((x : ℕ) → 0 < x → x < y → f x < x) → f y < y → (x : ℕ) → 0 < x → x < y + 1 → f x < x
one_further f y below here x l m =
    elim (dec_le y x) [
      | yes k ↦ let e : y ≡ x = omega arith in rw e at here
      | no k ↦ below x l (omega (arith, k))
    ]
