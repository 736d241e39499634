-- The search as a relation, `Goes`, with one constructor for each way to go on, and its bridges to `run` and `search`.
-- A turn takes one node away, and each kid that it adds takes a record too: so cap + open nodes - records made falls by one a turn,
-- and a run with more fuel than that ends by itself. Assumes nothing.
use Prim.Native.Nat.{ℕ, zero, suc, ◌+◌, ◌≤◌, ◌<◌}
use mathlib.Core.Bool.{Bool, true, false}
use mathlib.Core.List.{List, ◌++◌}
use mathlib.Core.Option.{Option, none, some}
use mathlib.Core.Path.{◌≡◌, refl, sym, ◌∙◌}
use native.Mathlib.Nat.{suc-add, add_comm}
use native.Mathlib.Decide.{dec_le}
use native.Mathlib.Omega.{arith}
use borrow.Author.Tests.{lt-ltb, le-ltb}
use lib.ListN.{length, length-append}
use Rattle.search.specs.Search.{Outcome, done, full, Taken, take_least, run, search}
use Rattle.search.proofs.Taken.{some_first_least, taken_length}

module _ {Node : Type 0} (sum : Node → ℕ) (clear : Node → Bool) (kids : Node → List Node) where
  -- from these open nodes, with so many records made and room for cap, the search ends so
  pub data Goes (cap : ℕ) : List Node → ℕ → Outcome Node → Type 0 where
    goes_spent : {live : List Node} {made : ℕ} → take_least sum clear kids live ≡ none → Goes cap live made (done none made)
    goes_found : {live : List Node} {made : ℕ} (o : Taken Node) → take_least sum clear kids live ≡ some o → clear o.node ≡ true → Goes cap live made (done (some o.node) made)
    goes_full : {live : List Node} {made : ℕ} (o : Taken Node) → take_least sum clear kids live ≡ some o → clear o.node ≡ false → cap < made + length (kids o.node) → Goes cap live made (full cap)
    goes_on : {live : List Node} {made : ℕ} {end : Outcome Node} (o : Taken Node) → take_least sum clear kids live ≡ some o → clear o.node ≡ false → made + length (kids o.node) ≤ cap → Goes cap (o.rest ++ kids o.node) (made + length (kids o.node)) end → Goes cap live made end

  -- what a turn finds
  pub data Turn (live : List Node) : Type 0 where
    turn_spent : take_least sum clear kids live ≡ none → Turn live
    turn_found : (o : Taken Node) → take_least sum clear kids live ≡ some o → clear o.node ≡ true → Turn live
    turn_kids : (o : Taken Node) → take_least sum clear kids live ≡ some o → clear o.node ≡ false → Turn live

  pub turn : (live : List Node) → Turn live
  turn live = go (take_least sum clear kids live) refl
    where
      tested : (o : Taken Node) (b : Bool) → take_least sum clear kids live ≡ some o → clear o.node ≡ b → Turn live
      tested o true e c = turn_found o e c
      tested o false e c = turn_kids o e c

      go : (t : Option (Taken Node)) → take_least sum clear kids live ≡ t → Turn live
      go none e = turn_spent e
      go (some o) e = tested o (clear o.node) e refl

  -- a turn of `run`, by what it finds
  module _ (fuel cap : ℕ) (live : List Node) (made : ℕ) where
    run_spent : take_least sum clear kids live ≡ none → run sum clear kids (suc fuel) cap live made ≡ done none made
    unfolding run
    run_spent e = rw (e, run)

    run_found : (o : Taken Node) → take_least sum clear kids live ≡ some o → clear o.node ≡ true → run sum clear kids (suc fuel) cap live made ≡ done (some o.node) made
    unfolding run
    run_found o e c = rw (e, c, run)

    run-full : (o : Taken Node) → take_least sum clear kids live ≡ some o → clear o.node ≡ false → cap < made + length (kids o.node) → run sum clear kids (suc fuel) cap live made ≡ full cap
    unfolding run
    run-full o e c h = rw (e, c, lt-ltb cap (made + length (kids o.node)) h, run)

    run_on : (o : Taken Node) → take_least sum clear kids live ≡ some o → clear o.node ≡ false → made + length (kids o.node) ≤ cap → run sum clear kids (suc fuel) cap live made ≡ run sum clear kids fuel cap (o.rest ++ kids o.node) (made + length (kids o.node))
    unfolding run
    run_on o e c h = rw (e, c, le-ltb cap (made + length (kids o.node)) h, run)

  pub run_goes : (fuel cap : ℕ) (live : List Node) (made : ℕ) → made ≤ cap → cap + length live < fuel + made → Goes cap live made (run sum clear kids fuel cap live made)
  run_goes zero cap live made small enough = absurd (omega arith)
  run_goes (suc fuel) cap live made small enough =
      elim (turn live) [
        | turn_spent e ↦ rw (run_spent fuel cap live made e) (goes_spent e)
        | turn_found o e c ↦ rw (run_found fuel cap live made o e c) (goes_found o e c)
        | turn_kids o e c ↦
            elim (dec_le (made + length (kids o.node)) cap) [
              | yes room ↦
                  let fewer : length live ≡ suc (length o.rest) = taken_length (some_first_least sum clear kids live o e) in
                  let next : cap + length (o.rest ++ kids o.node) < fuel + (made + length (kids o.node)) = simp length-append (omega arith) in
                  rw (run_on fuel cap live made o e c room) (goes_on o e c room (run_goes fuel cap (o.rest ++ kids o.node) (made + length (kids o.node)) room next))
              | no tight ↦ let over : cap < made + length (kids o.node) = omega arith in rw (run-full fuel cap live made o e c over) (goes_full o e c over)
            ]
      ]

  -- a run of so many turns, or of more, ends so
  goes_runs : {cap : ℕ} {live : List Node} {made : ℕ} {end : Outcome Node} → Goes cap live made end → (turns : ℕ) × ((more : ℕ) → run sum clear kids (turns + more) cap live made ≡ end)
  goes_runs {cap} {live} {made} (goes_spent e) = (1, λ more. rw suc-add (run_spent (0 + more) cap live made e))
  goes_runs {cap} {live} {made} (goes_found o e c) = (1, λ more. rw suc-add (run_found (0 + more) cap live made o e c))
  goes_runs {cap} {live} {made} (goes_full o e c h) = (1, λ more. rw suc-add (run-full (0 + more) cap live made o e c h))
  goes_runs {cap} {live} {made} (goes_on o e c h g) = let r = goes_runs g in (suc r.0, λ more. rw suc-add (run_on (r.0 + more) cap live made o e c h ∙ r.1 more))

  -- there is one end only: a run long enough for both ends with both
  pub goes_one : {cap : ℕ} {live : List Node} {made : ℕ} {one other : Outcome Node} → Goes cap live made one → Goes cap live made other → one ≡ other
  goes_one g h = let r = goes_runs g in let s = goes_runs h in sym (r.1 s.0) ∙ rw (add_comm r.0 s.0) (s.1 r.0)

  pub search_goes : (cap : ℕ) (roots : List Node) → length roots ≤ cap → Goes cap roots (length roots) (search sum clear kids cap roots)
  unfolding search
  search_goes cap roots h = run_goes (suc cap) cap roots (length roots) h (omega arith)

  pub goes_search : {end : Outcome Node} (cap : ℕ) (roots : List Node) → length roots ≤ cap → Goes cap roots (length roots) end → search sum clear kids cap roots ≡ end
  goes_search cap roots h g = goes_one (search_goes cap roots h) g

  pub turns_suffice : (more cap : ℕ) (roots : List Node) → length roots ≤ cap → run sum clear kids (suc cap + more) cap roots (length roots) ≡ search sum clear kids cap roots
  turns_suffice more cap roots h = goes_one (run_goes (suc cap + more) cap roots (length roots) h (omega arith)) (search_goes cap roots h)
