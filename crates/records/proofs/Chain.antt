-- The bars of a node by its ancestors: its own in front of its parent's. `chains` lists the chain of each node below a number, so the
-- parent's chain is found there where its number is smaller; and a chain reads no entry of a later node. Assumes nothing.
use Prim.Native.Nat.{ℕ, zero, suc, ◌≤◌, ◌<◌}
use native.Mathlib.Omega.{arith}
use native.Mathlib.Decide.{ℕ_discrete}
use mathlib.Core.Path.{◌≡◌, refl, ap, ◌∙◌}
use mathlib.Core.List.{List, [], ◌∷◌, ◌++◌, append-nil}
use lib.ListN.{length, get_or, length-append, get_or-append}
use lib.Seq.{get_or_at}
use Rattle.routes.specs.Bars.{Barred}
use Rattle.records.specs.Columns.{entry, parent_at, bar_at, own_bars, chains, chain_of}

-- ---- a node's chain in the list of chains

module _ (capacity : ℕ) (columns : List ℕ) where
  chains-length : (n : ℕ) → length (chains capacity columns n) ≡ n
  unfolding chains chain_of
  chains-length zero = refl
  chains-length (suc n) =
      length-append (chains capacity columns n) (chain_of capacity columns n ∷ []) ∙ omega (arith, chains-length n)

  chains_has : (n y : ℕ) → y < n → get_or (chains capacity columns n) y [] ≡ chain_of capacity columns y
  unfolding chains chain_of
  chains_has zero y h = absurd (omega arith)
  chains_has (suc n) y h =
      elim (ℕ_discrete y n) [
        | yes e ↦ rw e (get_or_at (chains capacity columns n) (chain_of capacity columns n) [] [] n (chains-length n))
        | no ne ↦
            get_or-append (chains capacity columns n) (chain_of capacity columns n ∷ []) [] y (omega (arith, chains-length n, ne))
            ∙ chains_has n y (omega (arith, ne))
      ]

  -- ---- one node up

  pub chain_up : (x : ℕ) → parent_at capacity columns x < x → chain_of capacity columns x ≡ own_bars capacity columns x ++ chain_of capacity columns (parent_at capacity columns x)
  chain_up x h = unfold chain_of in ap (λ (l : List Barred). own_bars capacity columns x ++ l) (chains_has x (parent_at capacity columns x) h)

  pub chain_root : chain_of capacity columns 0 ≡ own_bars capacity columns 0
  unfolding chain_of chains
  chain_root = append-nil (own_bars capacity columns 0)

-- ---- only entries of nodes up to x count

module _ (capacity : ℕ) (before after : List ℕ) where
  own_same : (x : ℕ) → ((c : ℕ) → c < 6 → entry capacity after c x ≡ entry capacity before c x) → own_bars capacity after x ≡ own_bars capacity before x
  unfolding own_bars bar_at
  own_same x h = rw (h 1 (omega arith), h 2 (omega arith), h 3 (omega arith), h 4 (omega arith), h 5 (omega arith))

  chains_same : (n : ℕ) → ((c y : ℕ) → c < 6 → y < n → entry capacity after c y ≡ entry capacity before c y) → chains capacity after n ≡ chains capacity before n
  unfolding chains
  chains_same zero h = refl
  chains_same (suc n) h =
      rw (chains_same n (λ c y k l. h c y k (omega arith)), own_same n (λ c k. h c n k (omega arith)), h 0 n (omega arith) (omega arith))

  pub chain_same : (x : ℕ) → ((c y : ℕ) → c < 6 → y ≤ x → entry capacity after c y ≡ entry capacity before c y) → chain_of capacity after x ≡ chain_of capacity before x
  unfolding chain_of
  chain_same x h =
      rw (chains_same x (λ c y k l. h c y k (omega arith)), own_same x (λ c k. h c x k (omega arith)), h 0 x (omega arith) (omega arith))
