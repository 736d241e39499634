-- Every stride-th cell shut, one after the other: after some turns as many cells are shut, and no other entry has changed. Assumes nothing.
use Prim.Native.Nat.{ℕ, ◌+◌, ◌*◌, ◌≤◌, ◌<◌}
use native.Mathlib.Nat.{lt_of_mul-lt-mul_right}
use native.Mathlib.Omega.{arith}
use native.Mathlib.Decide.{ℕ_discrete}
use mathlib.Core.Path.{◌≡◌, ◌∙◌}
use mathlib.Core.List.{List}
use lib.ListN.{length, get_or, set, length-set}
use lib.Seq.{get_or-set_same, get_or-set_other}
use Rattle.shuts.specs.Post.{ShutEach}

-- the cells below v are shut
pub record EachTo (m first until stride : ℕ) (before : List ℕ) (v : ℕ) (after : List ℕ) : Type 0 where
  pub turns : ℕ
  pub place : v ≡ first + turns * stride
  pub below : (k : ℕ) → k < turns → first + k * stride < until
  pub long : length after ≡ length before
  pub shut : (k : ℕ) → k < turns → get_or after (m * 256 + (first + k * stride)) 0 ≡ 255
  pub other : (x : ℕ) → ((k : ℕ) → k < turns → x ≡ m * 256 + (first + k * stride) → ⊥) → get_or after x 0 ≡ get_or before x 0

module _ (m first until stride : ℕ) (a : List ℕ) where
  pub each_more : (v : ℕ) (b : List ℕ) → EachTo m first until stride a v b → v < until → m * 256 + v < length a → EachTo m first until stride a (v + stride) (set b (m * 256 + v) 255)
  each_more v b s h room =
      record {
        turns = s.turns + 1;
        place = omega (arith, s.place);
        below = λ k l. below k l (ℕ_discrete k s.turns);
        long = length-set b (m * 256 + v) 255 ∙ s.long;
        shut = λ k l. shut k l (ℕ_discrete k s.turns) (ℕ_discrete (m * 256 + (first + k * stride)) (m * 256 + v));
        other = λ x f.
            get_or-set_other b (m * 256 + v) x 255 0 (λ e. f s.turns (omega arith) (omega (arith, e, s.place)))
            ∙ s.other x (λ k l. f k (omega arith));
      }
    where
      below : (k : ℕ) → k < s.turns + 1 → Dec (k ≡ s.turns) → first + k * stride < until
      below k l (yes q) = rw q (omega (arith, s.place))
      below k l (no n) = s.below k (omega (arith, n))

      shut : (k : ℕ) → k < s.turns + 1 → Dec (k ≡ s.turns) → Dec (m * 256 + (first + k * stride) ≡ m * 256 + v) → get_or (set b (m * 256 + v) 255) (m * 256 + (first + k * stride)) 0 ≡ 255
      shut k l d (yes e) = rw e (get_or-set_same b (m * 256 + v) 255 0 (omega (arith, s.long)))
      shut k l (yes q) (no o) = absurd (o (rw q (omega (arith, s.place))))
      shut k l (no n) (no o) = get_or-set_other b (m * 256 + v) (m * 256 + (first + k * stride)) 255 0 o ∙ s.shut k (omega (arith, n))

  pub each_all : (v : ℕ) (b : List ℕ) → EachTo m first until stride a v b → until ≤ v → ShutEach m first until stride a b
  each_all v b s l =
      record {
        long = s.long;
        shut = λ k h. s.shut k (lt_of_mul-lt-mul_right stride (omega (arith, s.place)));
        other = λ x f. s.other x (λ k h. f k (s.below k h));
      }
