-- The contract of `landing_at` gives the cells of the landing, and two landings with the same cells are equal. Assumes nothing.
use Prim.Native.Nat.{ℕ}
use native.Mathlib.Omega.{arith}
use mathlib.Core.Path.{◌≡◌, refl, sym, ap, ◌∙◌}
use mathlib.Core.List.{List}
use Rattle.hall.specs.Landing.{landed}
use Rattle.std.specs.Prelude.{Option, None, Some}

same_landing : (l l' : Option ℕ) → landed l ≡ landed l' → l ≡ l'
unfolding landed
same_landing None None e = refl
same_landing None (Some v) e = let z : ◌≡◌ {A = ℕ} 0 1 = cc in absurd (omega arith)
same_landing (Some v) None e = let z : ◌≡◌ {A = ℕ} 0 1 = cc in absurd (omega arith)
same_landing (Some v) (Some u) e = let i : v ≡ u = cc in ap Some i

pub landing_at_settled : (l l' : Option ℕ) (cells : List ℕ) → landed l ≡ cells → landed l' ≡ cells → l ≡ l'
landing_at_settled l l' cells e e' = same_landing l l' (e ∙ sym e')
