-- The first open node of least sum among n + 1, from that among n: the last one is taken only if its sum is smaller than all before.
-- Assumes nothing.
use Prim.Native.Nat.{ℕ, ◌+◌, ◌≤◌, ◌<◌}
use mathlib.Core.Path.{◌≡◌, ap, subst}
use mathlib.Core.Bool.{true, false, not}
use mathlib.Core.List.{List}
use Rattle.std.specs.Prelude.{Option, Some, None}
use native.Mathlib.Omega.{arith}
use borrow.Author.Count.{below_more}
use borrow.Author.Tests.{eq-eqb, ne_eqb}
use Rattle.lists.proofs.Tests.{not_both}
use Rattle.records.specs.Columns.{entry, sum_at}
use Rattle.tables.specs.State.{is_open_at}
use Rattle.tables.specs.Post.{LeastFact}

module _ (capacity : ℕ) (columns : List ℕ) where
  pub is_open : (x : ℕ) → (entry capacity columns 7 x ≡ 0 → ⊥) → is_open_at capacity columns x ≡ true
  unfolding is_open_at
  is_open x h = ap not (ne_eqb (entry capacity columns 7 x) 0 h)

  is_closed : (x : ℕ) → entry capacity columns 7 x ≡ 0 → is_open_at capacity columns x ≡ false
  unfolding is_open_at
  is_closed x h = ap not (eq-eqb (entry capacity columns 7 x) 0 h)

  -- the node n is closed
  pub keep_best : (n : ℕ) (best : Option ℕ) → entry capacity columns 7 n ≡ 0 → LeastFact capacity columns n best → LeastFact capacity columns (n + 1) best
  unfolding LeastFact
  keep_best n None z h = below_more (λ y. is_open_at capacity columns y ≡ false) n h (is_closed n z)
  keep_best n (Some x) z h =
      record {
        inside = omega (arith, h.inside);
        opened = h.opened;
        least = below_more (λ y. is_open_at capacity columns y ≡ true → sum_at capacity columns x ≤ sum_at capacity columns y) n h.least (λ o. absurd (not_both o (is_closed n z)));
        first = h.first;
      }

  -- the node n is the only open one
  first_taken : (n : ℕ) → (entry capacity columns 7 n ≡ 0 → ⊥) → LeastFact capacity columns n None → LeastFact capacity columns (n + 1) (Some n)
  unfolding LeastFact
  first_taken n z h =
      record {
        inside = omega arith;
        opened = is_open n z;
        least = below_more (λ y. is_open_at capacity columns y ≡ true → sum_at capacity columns n ≤ sum_at capacity columns y) n (λ y l o. absurd (not_both o (h y l))) (λ o. omega arith);
        first = λ y l o. absurd (not_both o (h y l));
      }

  pub take_only : (n : ℕ) (best : Option ℕ) → best ≡ None → (entry capacity columns 7 n ≡ 0 → ⊥) → LeastFact capacity columns n best → LeastFact capacity columns (n + 1) (Some n)
  take_only n best e z h = first_taken n z (subst (LeastFact capacity columns n) e h)

  -- the node n has a smaller sum
  pub take_later : (n x : ℕ) → (entry capacity columns 7 n ≡ 0 → ⊥) → sum_at capacity columns n < sum_at capacity columns x → LeastFact capacity columns n (Some x) → LeastFact capacity columns (n + 1) (Some n)
  unfolding LeastFact
  take_later n x z l h =
      record {
        inside = omega arith;
        opened = is_open n z;
        least = below_more (λ y. is_open_at capacity columns y ≡ true → sum_at capacity columns n ≤ sum_at capacity columns y) n (λ y k o. omega (arith, h.least y k o)) (λ o. omega arith);
        first = λ y k o. omega (arith, h.least y k o);
      }

  -- the node n has no smaller sum
  pub keep_earlier : (n x : ℕ) → sum_at capacity columns x ≤ sum_at capacity columns n → LeastFact capacity columns n (Some x) → LeastFact capacity columns (n + 1) (Some x)
  unfolding LeastFact
  keep_earlier n x l h =
      record {
        inside = omega (arith, h.inside);
        opened = h.opened;
        least = below_more (λ y. is_open_at capacity columns y ≡ true → sum_at capacity columns x ≤ sum_at capacity columns y) n h.least (λ o. l);
        first = h.first;
      }

  pub among_none : LeastFact capacity columns 0 None
  unfolding LeastFact
  among_none y l = absurd (omega arith)

  pub least_of_lem : (n : ℕ) (best : Option ℕ) (x : ℕ) → best ≡ Some x → LeastFact capacity columns n best → LeastFact capacity columns n (Some x)
  least_of_lem n best x e h = subst (LeastFact capacity columns n) e h

  pub taken_inside : (n x : ℕ) → LeastFact capacity columns n (Some x) → x < n
  unfolding LeastFact
  taken_inside n x h = h.inside
