-- The search from the middle, for code that makes one turn at a time: what is left of it from the open nodes and the records made,
-- with fuel that always suffices. One law for each way a turn can go. Assumes nothing.
use Prim.Native.Nat.{ℕ, suc, ◌+◌, ◌≤◌, ◌<◌}
use mathlib.Core.Bool.{Bool, true, false}
use mathlib.Core.List.{List, ◌++◌}
use mathlib.Core.Option.{none, some}
use mathlib.Core.Path.{◌≡◌}
use native.Mathlib.Omega.{arith}
use lib.ListN.{length}
use Rattle.search.specs.Search.{Outcome, done, full, Taken, take_least, run, search}
use Rattle.search.proofs.Goes.{Goes, goes_spent, goes_found, goes_full, goes_on, run_goes, goes_one, goes_search}

module _ {Node : Type 0} (sum : Node → ℕ) (clear : Node → Bool) (kids : Node → List Node) where
  unfoldable pub run_from : ℕ → List Node → ℕ → Outcome Node
  run_from cap live made = run sum clear kids (suc (cap + length live)) cap live made

  from_goes : (cap : ℕ) (live : List Node) (made : ℕ) → made ≤ cap → Goes sum clear kids cap live made (run_from cap live made)
  unfolding run_from
  from_goes cap live made l = run_goes sum clear kids (suc (cap + length live)) cap live made l (omega arith)

  pub from_search : (cap : ℕ) (roots : List Node) → length roots ≤ cap → search sum clear kids cap roots ≡ run_from cap roots (length roots)
  from_search cap roots l = goes_search sum clear kids cap roots l (from_goes cap roots (length roots) l)

  module _ (cap : ℕ) (live : List Node) (made : ℕ) (room : made ≤ cap) where
    pub from_spent : take_least sum clear kids live ≡ none → run_from cap live made ≡ done none made
    from_spent e = goes_one sum clear kids (from_goes cap live made room) (goes_spent e)

    module _ (o : Taken Node) (took : take_least sum clear kids live ≡ some o) where
      pub from_found : clear o.node ≡ true → run_from cap live made ≡ done (some o.node) made
      from_found c = goes_one sum clear kids (from_goes cap live made room) (goes_found o took c)

      pub from_full : clear o.node ≡ false → cap < made + length (kids o.node) → run_from cap live made ≡ full cap
      from_full c l = goes_one sum clear kids (from_goes cap live made room) (goes_full o took c l)

      pub from_on : clear o.node ≡ false → made + length (kids o.node) ≤ cap → run_from cap live made ≡ run_from cap (o.rest ++ kids o.node) (made + length (kids o.node))
      from_on c l =
          goes_one sum clear kids (from_goes cap live made room)
          (goes_on o took c l (from_goes cap (o.rest ++ kids o.node) (made + length (kids o.node)) l))
