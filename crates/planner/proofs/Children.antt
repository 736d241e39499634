-- The new nodes of a turn, one child after the other: each is appended to the open ones and takes a record, and where one is due and all
-- are in use, the children together need more than there are. Assumes nothing.
use Prim.Native.Nat.{ℕ, ◌+◌, ◌<◌}
use native.Mathlib.Omega.{arith}
use mathlib.Core.Path.{◌≡◌, sym, ◌∙◌}
use mathlib.Core.List.{List, ◌++◌, append_assoc, append-nil}
use lib.ListN.{length, length-append}
use Rattle.job.specs.Job.{Job}
use Rattle.routes.specs.Bars.{Barred}
use Rattle.tree.specs.Tree.{Node, child}
use Rattle.tables.specs.State.{node_at, live, Sound}
use Rattle.children.specs.declared.Task.{Task}
use Rattle.children.specs.declared.Grown.{Grown}
use Rattle.children.specs.declared.Grown.TheVariants.{Nothing, Made, Full}
use Rattle.planner.specs.declared.Turn.{Turn}
use Rattle.planner.specs.declared.Turn.TheVariants.{Spent as TurnSpent, Clear as TurnClear, Full as TurnFull, On}
use Rattle.children.specs.Steps.{ChildFact}
use Rattle.children.specs.Written.{ChildWritten}
use Rattle.planner.specs.Steps.{GrownBy, OneFact, TwoFact}

-- a child without a route leaves columns and plans as they were
pub nothing_changed : (task : Task) (x : ℕ) (b : Barred) (made : ℕ) (columns plans columns' plans' : List ℕ) (g : Grown) → g ≡ Nothing → ChildWritten task x b made columns plans columns' plans' g → (columns' ≡ columns) × (plans' ≡ plans)
unfolding ChildWritten
nothing_changed task x b made columns plans columns' plans' g e h = let f = rw e at h in f

module _ (job : Job) (capacity : ℕ) where
  -- `one` is there already: what comes after it comes after all
  grown_after : (made more : ℕ) (rest one two : List Node) (columns plans : List ℕ) (r : Turn) → more ≡ made + length one → GrownBy job capacity more (rest ++ one) two columns plans r → GrownBy job capacity made rest (one ++ two) columns plans r
  unfolding GrownBy
  grown_after made more rest one two columns plans TurnSpent e f = f
  grown_after made more rest one two columns plans (TurnClear x) e f = f
  grown_after made more rest one two columns plans TurnFull e f = omega (arith, f, length-append one two)
  grown_after made more rest one two columns plans (On made') e f = (omega (arith, f.0, length-append one two), f.1, f.2 ∙ append_assoc rest one two)

  module _ (x made : ℕ) (columns plans : List ℕ) where
    abbrev node : Node
    node = node_at job capacity columns plans x

    module _ (b : Barred) (columns' plans' : List ℕ) where
      pub one_nothing : (g : Grown) → g ≡ Nothing → Sound job capacity columns plans made → (columns' ≡ columns) × (plans' ≡ plans) → ChildFact job capacity x b made columns plans columns' plans' g → OneFact job capacity x b made columns plans columns' plans' (On made)
      unfolding ChildFact OneFact GrownBy
      one_nothing g e sound same h =
          let f = rw e at h in
          rw (f, same.0, same.1) (omega arith, sound, sym (append-nil (live job capacity columns plans made)))

      pub one_made : (g : Grown) → g ≡ Made → ChildFact job capacity x b made columns plans columns' plans' g → OneFact job capacity x b made columns plans columns' plans' (On (made + 1))
      unfolding ChildFact OneFact GrownBy
      one_made g e h = let f = rw e at h in (omega (arith, f.0), f.1, f.2)

      pub one_full : (g : Grown) → g ≡ Full → ChildFact job capacity x b made columns plans columns' plans' g → OneFact job capacity x b made columns plans columns' plans' TurnFull
      unfolding ChildFact OneFact GrownBy
      one_full g e h = let f = rw e at h in omega (arith, f.0, f.1)

    module _ (one two : Barred) (columns' plans' columns'' plans'' : List ℕ) where
      pub two_nothing : (g : Grown) → g ≡ Nothing → (r : Turn) → (columns' ≡ columns) × (plans' ≡ plans) → ChildFact job capacity x one made columns plans columns' plans' g → OneFact job capacity x two made columns' plans' columns'' plans'' r → TwoFact job capacity x one two made columns plans columns'' plans'' r
      unfolding ChildFact OneFact TwoFact
      two_nothing g e r same h k = let f = rw e at h in rw f (rw (same.0, same.1) at k)

      pub two_made : (g : Grown) → g ≡ Made → (r : Turn) → x < made → ChildFact job capacity x one made columns plans columns' plans' g → OneFact job capacity x two (made + 1) columns' plans' columns'' plans'' r → TwoFact job capacity x one two made columns plans columns'' plans'' r
      unfolding ChildFact OneFact TwoFact
      two_made g e r l h k =
          let f = rw e at h in
          grown_after made (made + 1) (live job capacity columns plans made) (child job node one) (child job node two) columns'' plans'' r
          (omega (arith, f.0)) (rw (f.2, f.3 x l) at k)

    pub two_full : (one two : Barred) (columns' plans' : List ℕ) (g : Grown) → g ≡ Full → ChildFact job capacity x one made columns plans columns' plans' g → TwoFact job capacity x one two made columns plans columns' plans' TurnFull
    unfolding ChildFact TwoFact GrownBy
    two_full one two columns' plans' g e h = let f = rw e at h in omega (arith, f.0, f.1, length-append (child job node one) (child job node two))

    -- a child that took a record leaves the tables in order for it, and one that took none as they were
    pub made_sound : (b : Barred) (columns' plans' : List ℕ) (g : Grown) → g ≡ Made → ChildFact job capacity x b made columns plans columns' plans' g → Sound job capacity columns' plans' (made + 1)
    unfolding ChildFact
    made_sound b columns' plans' g e h = let f = rw e at h in f.1

    pub nothing_sound : (columns' plans' : List ℕ) → Sound job capacity columns plans made → (columns' ≡ columns) × (plans' ≡ plans) → Sound job capacity columns' plans' made
    nothing_sound columns' plans' sound same = rw (same.0, same.1) sound
