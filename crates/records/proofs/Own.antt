-- Which bars of a chain bind: that of a record's own, then those of its parent's chain. Assumes nothing.
use Prim.Native.Nat.{ℕ, ◌<◌}
use mathlib.Core.Path.{◌≡◌, refl, sym}
use mathlib.Core.List.{List, [], ◌∷◌, ◌++◌, append_assoc}
use borrow.Author.Tests.{eq-eqb, ne_eqb}
use lib.Dec.{eqb}
use Rattle.lists.specs.Lists.{only}
use Rattle.routes.specs.Bars.{Barred, bars_for}
use Rattle.routes.specs.declared.Bar.{Bar}
use Rattle.routes.specs.declared.Bar.TheVariants.{Free, Stay, Cross}
use Rattle.records.specs.Columns.{entry, parent_at, bar_at, is_bar, own_bars, chain_of}
use Rattle.records.proofs.Chain.{chain_up, chain_root}

-- ---- a record's own bar, and its parent's chain

binds_append : (i : ℕ) (xs ys : List Barred) → bars_for i (xs ++ ys) ≡ bars_for i xs ++ bars_for i ys
unfolding bars_for
binds_append i [] ys = refl
binds_append i (b ∷ xs) ys = rw (binds_append i xs ys) (sym (append_assoc (only (eqb b.carrier i) b.bar) (bars_for i xs) (bars_for i ys)))

one_binds : (b : Bar) (i : ℕ) → bars_for i (only (is_bar b) (record { carrier = i; bar = b })) ≡ only (is_bar b) b
unfolding bars_for only is_bar
one_binds Free i = refl
one_binds (Stay v a c) i = rw (eq-eqb i i refl)
one_binds (Cross u v t) i = rw (eq-eqb i i refl)

none_binds : (b : Bar) (k i : ℕ) → (k ≡ i → ⊥) → bars_for i (only (is_bar b) (record { carrier = k; bar = b })) ≡ []
unfolding bars_for only is_bar
none_binds Free k i n = refl
none_binds (Stay v a c) k i n = rw (ne_eqb k i n)
none_binds (Cross u v t) k i n = rw (ne_eqb k i n)

module _ (capacity : ℕ) (columns : List ℕ) where
  -- the bar of a record binds its carrier, if it is one
  pub own_binds : (x i : ℕ) → entry capacity columns 2 x ≡ i → bars_for i (own_bars capacity columns x) ≡ only (is_bar (bar_at capacity columns x)) (bar_at capacity columns x)
  unfolding own_bars
  own_binds x i e = rw e (one_binds (bar_at capacity columns x) i)

  pub other_binds_not : (x i : ℕ) → (entry capacity columns 2 x ≡ i → ⊥) → bars_for i (own_bars capacity columns x) ≡ []
  unfolding own_bars
  other_binds_not x i n = none_binds (bar_at capacity columns x) (entry capacity columns 2 x) i n

  pub chain_binds : (x i : ℕ) → parent_at capacity columns x < x → bars_for i (chain_of capacity columns x) ≡ bars_for i (own_bars capacity columns x) ++ bars_for i (chain_of capacity columns (parent_at capacity columns x))
  chain_binds x i h = rw (chain_up capacity columns x h) (binds_append i (own_bars capacity columns x) (chain_of capacity columns (parent_at capacity columns x)))

  pub root_binds : (x i : ℕ) → x ≡ 0 → bars_for i (chain_of capacity columns x) ≡ bars_for i (own_bars capacity columns x)
  root_binds x i e = rw (e, chain_root capacity columns)
