-- A table that is made entry by entry, upwards: what is still to be made is as it was. Assumes nothing.
use Prim.Native.Nat.{ℕ, ◌+◌, ◌<◌}
use native.Mathlib.Omega.{arith}
use native.Mathlib.Decide.{ℕ_discrete}
use mathlib.Core.Path.{◌≡◌, refl, subst, ◌∙◌}
use mathlib.Core.List.{List}
use lib.ListN.{length, get_or, set, length-set}
use lib.Seq.{get_or-set_same, get_or-set_other}
use Rattle.lent.specs.Made.{Made}

-- nothing is made of what is made as it was
pub made_same : (base n : ℕ) (byte : ℕ → ℕ → ℕ) (a : List ℕ) → ((v : ℕ) → v < n → get_or a (base + v) 0 ≡ byte v (get_or a (base + v) 0)) → Made base n byte a a
made_same base n byte a same = record { long = refl; made = same; under = λ x l. refl; over = λ x l. refl }

pub made_all : (base k n : ℕ) (byte : ℕ → ℕ → ℕ) (a b : List ℕ) → Made base k byte a b → k ≡ n → Made base n byte a b
made_all base k n byte a b m e = subst (λ x. Made base x byte a b) e m

-- the next entry is still as it was
pub made_next : (base k : ℕ) (byte : ℕ → ℕ → ℕ) (a b : List ℕ) → Made base k byte a b → get_or b (base + k) 0 ≡ get_or a (base + k) 0
made_next base k byte a b m = m.over (base + k) (omega arith)

-- one entry more
pub made_more : (base k : ℕ) (byte : ℕ → ℕ → ℕ) (a b : List ℕ) → Made base k byte a b → base + k < length a → (x : ℕ) → x ≡ byte k (get_or a (base + k) 0) → Made base (k + 1) byte a (set b (base + k) x)
made_more base k byte a b m room x e =
    record {
      long = length-set b (base + k) x ∙ m.long;
      made = λ v h. here v h (ℕ_discrete v k);
      under = λ y h. get_or-set_other b (base + k) y x 0 (λ q. absurd (omega arith)) ∙ m.under y h;
      over = λ y h. get_or-set_other b (base + k) y x 0 (λ q. absurd (omega arith)) ∙ m.over y (omega arith);
    }
  where
    here : (v : ℕ) → v < k + 1 → Dec (v ≡ k) → get_or (set b (base + k) x) (base + v) 0 ≡ byte v (get_or a (base + v) 0)
    here v h (yes q) = rw q (get_or-set_same b (base + k) x 0 (omega (arith, m.long)) ∙ e)
    here v h (no n) = get_or-set_other b (base + k) (base + v) x 0 (λ q. n (omega arith)) ∙ m.made v (omega (arith, n))
