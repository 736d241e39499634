-- A turn of the search and how turns make the search: the node that is taken is the first of least sum, its clash parts it, and what is
-- left of the search from the tables before is what is left from the tables after. Assumes nothing.
use Prim.Native.Nat.{ℕ, ◌+◌, ◌-◌, ◌*◌, ◌≤◌, ◌<◌}
use native.Mathlib.Omega.{arith}
use mathlib.Core.Path.{◌≡◌, refl, sym, ap, ◌∙◌}
use mathlib.Core.Bool.{Bool, true, false}
use mathlib.Core.List.{List, [], ◌++◌}
use mathlib.Core.Option.{some}
use lib.ListN.{length, set, length-append}
use Rattle.job.specs.Job.{Job}
use Rattle.routes.specs.Bars.{Barred}
use Rattle.clashes.specs.declared.Clash.{Clash}
use Rattle.clashes.specs.declared.Clash.TheVariants.{Clear as NoClash, Meeting, Swap}
use Rattle.search.specs.Search.{Outcome, Taken, take_least, run, search}
use Rattle.search.proofs.Taken.{some_first_least, taken_length}
use Rattle.search.proofs.From.{from_search, from_spent, from_found, from_full, from_on}
use Rattle.tree.specs.Plan.{cells_of}
use Rattle.tree.specs.Tree.{Node, root, node_sum, clash_of, is_clear, node_clear, bar_one, bar_two, child, kids_for, kids, tree}
use Rattle.tables.specs.State.{node_at, live, Sound}
use Rattle.tables.specs.Post.{LeastFact}
use Rattle.std.specs.Prelude.{Option, Some, None}
use Rattle.tables.proofs.Live.{live_none, live_taken, closed_node, sound_closed}
use Rattle.tables.proofs.Taking.{taken_inside}
use Rattle.planner.specs.declared.Bars.{Bars}
use Rattle.planner.specs.declared.Turn.{Turn}
use Rattle.planner.specs.declared.Turn.TheVariants.{Spent as TurnSpent, Clear as TurnClear, Full as TurnFull, On}
use Rattle.planner.specs.declared.End.{End}
use Rattle.planner.specs.declared.End.TheVariants.{Spent, Clear, Full as EndFull}
use Rattle.children.specs.Steps.{RootFact, barred_of}
use Rattle.planner.specs.Steps.{tree_from, GrownBy, TwoFact, stay_bars, cross_bars, PartFact, SplitFact, TurnFact, EndFact}
use Rattle.planner.proofs.Cells.{swap_exchanged}

-- ---- the children of a node, by its clash

module _ (job : Job) (n : Node) (clash : Clash) (is : clash ≡ clash_of job n) where
  meeting_kids : (i j t d v : ℕ) → clash ≡ Meeting i j t d → v ≡ cells_of n.routes i t → kids job n ≡ child job n (barred_of (stay_bars job.slip_of i j v t).one) ++ child job n (barred_of (stay_bars job.slip_of i j v t).two)
  unfolding kids kids_for bar_one bar_two
  meeting_kids i j t d v e h = let c : clash_of job n ≡ Meeting i j t d = sym is ∙ e in rw (c, h) refl

  swap_kids : (i j t u v : ℕ) → clash ≡ Swap i j t → u ≡ cells_of n.routes i t → v ≡ cells_of n.routes j t → kids job n ≡ child job n (barred_of (cross_bars i j u v t).one) ++ child job n (barred_of (cross_bars i j u v t).two)
  unfolding kids kids_for bar_one bar_two
  swap_kids i j t u v e h k =
      let c : clash_of job n ≡ Swap i j t = sym is ∙ e in
      let (there, back) = swap_exchanged job n clash is i j t e in
      rw (c, ← there, ← back, h, k) refl

  clash_clear : clash ≡ NoClash → node_clear job n ≡ true
  unfolding node_clear is_clear
  clash_clear e = ap is_clear (sym is ∙ e)

  meeting_parts : (i j t d : ℕ) → clash ≡ Meeting i j t d → node_clear job n ≡ false
  unfolding node_clear is_clear
  meeting_parts i j t d e = ap is_clear (sym is ∙ e)

  swap_parts : (i j t : ℕ) → clash ≡ Swap i j t → node_clear job n ≡ false
  unfolding node_clear is_clear
  swap_parts i j t e = ap is_clear (sym is ∙ e)

module _ (job : Job) (capacity : ℕ) where
  -- ---- a node parted

  module _ (x made : ℕ) (columns plans : List ℕ) where
    abbrev node : Node
    node = node_at job capacity columns plans x

    abbrev closed : List ℕ
    closed = set columns (7 * capacity + x) 0

    parted : (columns' plans' : List ℕ) (r : Turn) → node_clear job node ≡ false → GrownBy job capacity made (live job capacity closed plans made) (kids job node) columns' plans' r → SplitFact job capacity x made columns plans columns' plans' r
    unfolding GrownBy SplitFact
    parted columns' plans' TurnSpent n f = f
    parted columns' plans' (TurnClear y) n f = absurd f
    parted columns' plans' TurnFull n f = (n, f)
    parted columns' plans' (On made') n f = (n, f)

    -- the two children of a clash are the node's kids
    two_parted : (one two : Barred) (columns' plans' : List ℕ) (r : Turn) → node_clear job node ≡ false → kids job node ≡ child job node one ++ child job node two → PartFact job capacity x one two made columns plans columns' plans' r → SplitFact job capacity x made columns plans columns' plans' r
    unfolding PartFact
    two_parted one two columns' plans' r n k f = parted columns' plans' r n (rw k f)

    module _ (clash : Clash) (is : clash ≡ clash_of job (node_at job capacity columns plans x)) where
      pub split_clear : clash ≡ NoClash → SplitFact job capacity x made columns plans columns plans (TurnClear x)
      unfolding SplitFact
      split_clear e = (refl, clash_clear job node clash is e, refl, refl)

      module _ (bars : Bars) (columns' plans' : List ℕ) (r : Turn) where
        pub split_meeting : (i j t d v : ℕ) → clash ≡ Meeting i j t d → v ≡ cells_of (node_at job capacity columns plans x).routes i t → bars ≡ stay_bars job.slip_of i j v t → PartFact job capacity x (barred_of bars.one) (barred_of bars.two) made columns plans columns' plans' r → SplitFact job capacity x made columns plans columns' plans' r
        split_meeting i j t d v e h b f =
            two_parted (barred_of (stay_bars job.slip_of i j v t).one) (barred_of (stay_bars job.slip_of i j v t).two) columns' plans' r
            (meeting_parts job node clash is i j t d e) (meeting_kids job node clash is i j t d v e h) (rw b at f)

        pub split_swap : (i j t u v : ℕ) → clash ≡ Swap i j t → u ≡ cells_of (node_at job capacity columns plans x).routes i t → v ≡ cells_of (node_at job capacity columns plans x).routes j t → bars ≡ cross_bars i j u v t → PartFact job capacity x (barred_of bars.one) (barred_of bars.two) made columns plans columns' plans' r → SplitFact job capacity x made columns plans columns' plans' r
        split_swap i j t u v e h k b f =
            two_parted (barred_of (cross_bars i j u v t).one) (barred_of (cross_bars i j u v t).two) columns' plans' r
            (swap_parts job node clash is i j t e) (swap_kids job node clash is i j t u v e h k) (rw b at f)

    -- the node closed in its record

    module _ (shut : List ℕ) (shuts : shut ≡ set columns (7 * capacity + x) 0) where
      pub shut_sound : Sound job capacity columns plans made → Sound job capacity shut plans made
      shut_sound sound = rw shuts (sound_closed job capacity columns plans made x sound)

      pub shut_parted : (one two : Barred) (columns' plans' : List ℕ) (r : Turn) → x < capacity → TwoFact job capacity x one two made shut plans columns' plans' r → PartFact job capacity x one two made columns plans columns' plans' r
      unfolding TwoFact PartFact
      shut_parted one two columns' plans' r l f = rw (shuts, closed_node job capacity columns plans x x l) at f

  -- ---- a turn

  module _ (made : ℕ) (columns plans : List ℕ) (sound : Sound job capacity columns plans made) where
    abbrev nodes : List Node
    nodes = live job capacity columns plans made

    pub turn_spent : (best : Option ℕ) → best ≡ None → LeastFact capacity columns made best → TurnFact job capacity made columns plans columns plans TurnSpent
    unfolding TurnFact tree_from take_least
    turn_spent best e found =
        let least : LeastFact capacity columns made None = rw e at found in
        from_spent (node_sum job) (node_clear job) (kids job) capacity nodes made sound.made (rw (live_none job capacity columns plans made least) refl)

    module _ (x : ℕ) (least : LeastFact capacity columns made (Some x)) where
      abbrev taken : Taken Node
      taken = record { node = node_at job capacity columns plans x; rest = live job capacity (set columns (7 * capacity + x) 0) plans made }

      took : take_least (node_sum job) (node_clear job) (kids job) nodes ≡ some taken
      took = live_taken job capacity columns plans made sound x least

      one_less : length nodes ≡ 1 + length taken.rest
      one_less = omega (arith, taken_length (some_first_least (node_sum job) (node_clear job) (kids job) nodes taken took))

      turn_from : (columns' plans' : List ℕ) (r : Turn) → SplitFact job capacity x made columns plans columns' plans' r → TurnFact job capacity made columns plans columns' plans' r
      unfolding SplitFact GrownBy TurnFact tree_from
      turn_from columns' plans' TurnSpent f = absurd f
      turn_from columns' plans' (TurnClear y) f =
          rw f.0
          (taken_inside capacity columns made x least, f.2, f.3, from_found (node_sum job) (node_clear job) (kids job) capacity nodes made sound.made taken took f.1)
      turn_from columns' plans' TurnFull f = from_full (node_sum job) (node_clear job) (kids job) capacity nodes made sound.made taken took f.0 f.1
      turn_from columns' plans' (On made') f =
          let e : made' ≡ made + length (kids job taken.node) = f.1.0 in
          let fits : made' ≤ capacity = f.1.1.made in
          let grown : length (live job capacity columns' plans' made') ≡ length taken.rest + length (kids job taken.node) = ap length f.1.2 ∙ length-append taken.rest (kids job taken.node) in (
            f.1.1,
            rw (f.1.2, e) (from_on (node_sum job) (node_clear job) (kids job) capacity nodes made sound.made taken took f.0 (omega arith)),
            omega (arith, one_less),
          )

    pub turn_taken : (best : Option ℕ) (x : ℕ) → best ≡ Some x → LeastFact capacity columns made best → (columns' plans' : List ℕ) (r : Turn) → SplitFact job capacity x made columns plans columns' plans' r → TurnFact job capacity made columns plans columns' plans' r
    turn_taken best x e found = turn_from x (rw e at found)

  -- ---- turn after turn

  module _ (made : ℕ) (columns plans columns' plans' : List ℕ) (r : Turn) (more : ℕ) (on : r ≡ On more) where
    pub on_sound : TurnFact job capacity made columns plans columns' plans' r → Sound job capacity columns' plans' more
    unfolding TurnFact
    on_sound h = let f = rw on at h in f.0

    pub on_less : TurnFact job capacity made columns plans columns' plans' r → (capacity - more) + length (live job capacity columns' plans' more) < (capacity - made) + length (live job capacity columns plans made)
    unfolding TurnFact
    on_less h = let f = rw on at h in f.2

  -- from a search that comes to `o`
  module _ (o : Outcome Node) (made : ℕ) (columns plans columns' plans' : List ℕ) (so_far : o ≡ tree_from job capacity columns plans made) (r : Turn) where
    pub end_spent : r ≡ TurnSpent → TurnFact job capacity made columns plans columns' plans' r → EndFact job capacity o columns' plans' (Spent made)
    unfolding TurnFact EndFact
    end_spent e f = so_far ∙ (rw e at f)

    pub end_clear : (x : ℕ) → made ≤ capacity → r ≡ TurnClear x → TurnFact job capacity made columns plans columns' plans' r → EndFact job capacity o columns' plans' (Clear x made)
    unfolding TurnFact EndFact
    end_clear x l e h = let f = rw e at h in rw (f.1, f.2) (omega (arith, f.0), so_far ∙ f.3)

    pub end_full : r ≡ TurnFull → TurnFact job capacity made columns plans columns' plans' r → EndFact job capacity o columns' plans' EndFull
    unfolding TurnFact EndFact
    end_full e f = so_far ∙ (rw e at f)

    pub on_from : (more : ℕ) → r ≡ On more → TurnFact job capacity made columns plans columns' plans' r → o ≡ tree_from job capacity columns' plans' more
    unfolding TurnFact
    on_from more e h = let f = rw e at h in so_far ∙ f.1

  -- ---- from the root

  pub tree_none : (columns plans columns' plans' : List ℕ) (b : Bool) → b ≡ false → RootFact job capacity columns plans b → EndFact job capacity (tree job capacity) columns' plans' (Spent 0)
  unfolding RootFact EndFact tree search run take_least
  tree_none columns plans columns' plans' b is h = let e : root job ≡ [] = rw is at h in rw e refl

  root_from : (columns plans : List ℕ) → 1 ≤ capacity → RootFact job capacity columns plans true → tree job capacity ≡ tree_from job capacity columns plans 1
  unfolding RootFact tree tree_from
  root_from columns plans l f =
      from_search (node_sum job) (node_clear job) (kids job) capacity (root job) (omega (arith, f.2)) ∙ rw (f.1, f.2) refl

  pub root_sound : (columns plans : List ℕ) (b : Bool) → b ≡ true → RootFact job capacity columns plans b → Sound job capacity columns plans 1
  unfolding RootFact
  root_sound columns plans b e h = let f = rw e at h in f.0

  pub tree_ended : (columns plans columns' plans' : List ℕ) (end : End) (b : Bool) → b ≡ true → 1 ≤ capacity → RootFact job capacity columns plans b → EndFact job capacity (tree_from job capacity columns plans 1) columns' plans' end → EndFact job capacity (tree job capacity) columns' plans' end
  tree_ended columns plans columns' plans' end b e l h g = rw (root_from columns plans l (rw e at h)) g
