-- Document 01, 'The search tree', rules 4 and 7, over any nodes: each has a sum, is clear or not, and has kids.
-- The open nodes stand in the order of their numbers, so that the first of least sum is the one of least number.
use Rattle.std.specs.Prelude.{ℕ, zero, suc, ◌+◌, ◌≤◌, ◌<◌, Bool, true, false, List, [], ◌∷◌, ◌++◌, ◌≡◌, leb, ltb, length}
use Rattle.std.proofs.Math.Option.{Option, none, some}
use Rattle.lists.specs.Lists.{Every}

-- how a search ends, and the records made: done, with a clear node or with none since no open node is left; or full, since a
-- record is due and all are in use
pub data Outcome (Node : Type 0) : Type 0 where
  done : Option Node → ℕ → Outcome Node
  full : ℕ → Outcome Node

-- a node taken from the open ones, and those that stay
pub record Taken (Node : Type 0) : Type 0 where
  pub node : Node
  pub rest : List Node

-- 'the open node of least sum, then of least number': all before it have a greater sum, none after it has a smaller; the others stay
pub record FirstLeast {Node : Type 0} (sum : Node → ℕ) (live : List Node) (o : Taken Node) : Type 0 where
  pub before : List Node
  pub after : List Node
  pub live_split : live ≡ before ++ o.node ∷ after
  pub rest_split : o.rest ≡ before ++ after
  pub above_before : Every (λ x. sum o.node < sum x) before
  pub least_after : Every (λ x. sum o.node ≤ sum x) after

module _ {Node : Type 0} (sum : Node → ℕ) (clear : Node → Bool) (kids : Node → List Node) where
  -- n stands before the others: it is taken unless one of them has a smaller sum
  unfoldable pub prefer : Node → List Node → Option (Taken Node) → Taken Node
  prefer n ns none = record { node = n; rest = ns }
  prefer n ns (some o) = elim (leb (sum n) (sum o.node)) [ true ↦ record { node = n; rest = ns } | false ↦ record { node = o.node; rest = n ∷ o.rest } ]

  -- 'Take the open node of least sum, then of least number.'
  unfoldable pub take_least : List Node → Option (Taken Node)
  take_least [] = none
  take_least (n ∷ ns) = some (prefer n ns (take_least ns))

  -- 'If no open node is left, answer 8. If its routes have no meeting and no swap, they are the plan.' Otherwise its kids
  -- take the next numbers and a record each; 'if a record is due and N are in use, the answer is 9 at once'.
  -- The fuel bounds the turns; N + 1 of them are always enough (law `turns_suffice`).
  unfoldable pub run : ℕ → ℕ → List Node → ℕ → Outcome Node
  run zero cap live made = full cap
  run (suc fuel) cap live made =
      elim (take_least live) [
        | none ↦ done none made
        | some o ↦
            elim (clear o.node) [
              | true ↦ done (some o.node) made
              | false ↦
                  elim (ltb cap (made + length (kids o.node))) [
                    | true ↦ full cap
                    | false ↦ run fuel cap (o.rest ++ kids o.node) (made + length (kids o.node))
                  ]
            ]
      ]

  -- the search from its root, if there is one, with room for cap records
  unfoldable pub search : ℕ → List Node → Outcome Node
  search cap roots = run (suc cap) cap roots (length roots)
