-- What a table keeps past its first entries, carried from step to step; and a table cleared. Assumes nothing.
use Prim.Native.Nat.{ℕ, ◌+◌, ◌-◌, ◌≤◌, ◌<◌}
use native.Mathlib.Omega.{arith}
use mathlib.Core.Path.{◌≡◌, refl, sym, ap, ◌∙◌}
use mathlib.Core.List.{List, ◌++◌}
use lib.ListN.{length, get_or, set, replicate, drop, length-set, length-append, length-replicate, length-drop, get_or-replicate, get_or-append}
use lib.Seq.{drop_at, get_or-drop, get_or-set_other, ext_get_or}
use Rattle.lent.specs.Lent.{zeroed, SameFrom}

pub same_from : (n : ℕ) (xs : List ℕ) → SameFrom n xs xs
same_from n xs = record { long = refl; rest = λ x h. refl }

pub same_then : (n : ℕ) (xs ys zs : List ℕ) → SameFrom n xs ys → SameFrom n ys zs → SameFrom n xs zs
same_then n xs ys zs a b = record { long = b.long ∙ a.long; rest = λ x h. b.rest x h ∙ a.rest x h }

pub same_set : (n : ℕ) (xs ys : List ℕ) (i a : ℕ) → i < n → SameFrom n xs ys → SameFrom n xs (set ys i a)
same_set n xs ys i a l s =
    record {
      long = length-set ys i a ∙ s.long;
      rest = λ x h. get_or-set_other ys i x a 0 (λ e. omega arith) ∙ s.rest x h;
    }

-- ---- a table cleared

pub zeroed-length : (xs ys : List ℕ) (i : ℕ) → i ≤ length xs → ys ≡ zeroed i xs → length ys ≡ length xs
unfolding zeroed
zeroed-length xs ys i l e = rw e (simp (length-append, length-replicate, length-drop) (omega arith))

-- what `clear` ensures with the zero 0, of bytes and of words
pub cleared_zeroed : (n : ℕ) (xs : List ℕ) → replicate n 0 ++ drop n xs ≡ zeroed n xs
unfolding zeroed
cleared_zeroed n xs = refl

pub zeroed_same : (n : ℕ) (xs ys : List ℕ) → SameFrom n xs ys → zeroed n ys ≡ zeroed n xs
unfolding zeroed
zeroed_same n xs ys same =
    ap (λ (l : List ℕ). replicate n 0 ++ l)
    (ext_get_or 0 (drop n ys) (drop n xs) (omega (arith, length-drop n xs, length-drop n ys, same.long))
    (λ i l. get_or-drop n ys i 0 ∙ same.rest (n + i) (omega arith) ∙ sym (get_or-drop n xs i 0)))

pub zeroed_kept : (n : ℕ) (xs : List ℕ) → n ≤ length xs → SameFrom n xs (zeroed n xs)
unfolding zeroed
zeroed_kept n xs l =
    record {
      long = simp (length-append, length-replicate, length-drop) (omega arith);
      rest = λ x h.
          let split : n + (x - n) ≡ x = omega arith in
          ap (λ y. get_or (replicate n 0 ++ drop n xs) y 0) (sym split)
          ∙ sym (get_or-drop n (replicate n 0 ++ drop n xs) (x - n) 0)
          ∙ ap (λ (l : List ℕ). get_or l (x - n) 0) (drop_at (replicate n 0) (drop n xs) n (length-replicate n 0))
          ∙ get_or-drop n xs (x - n) 0
          ∙ ap (λ y. get_or xs y 0) split;
    }

pub zeroed_zero : (n x : ℕ) (xs : List ℕ) → x < n → get_or (zeroed n xs) x 0 ≡ 0
unfolding zeroed
zeroed_zero n x xs l = get_or-append (replicate n 0) (drop n xs) 0 x (omega (arith, length-replicate {A = ℕ} n 0)) ∙ get_or-replicate n x 0 0 l
