-- The tables with one record more: the open nodes are those before and the new one, which is open, and the tables are in order for one
-- node more. Assumes nothing.
use Prim.Native.Nat.{ℕ, ◌+◌, ◌<◌}
use native.Mathlib.Omega.{arith}
use mathlib.Core.Path.{◌≡◌, refl, ◌∙◌}
use mathlib.Core.List.{List, [], ◌∷◌, ◌++◌}
use borrow.Author.Count.{below_more}
use lib.ListN.{length}
use Rattle.lists.specs.Lists.{only}
use Rattle.job.specs.Job.{Job}
use Rattle.routes.specs.declared.Bar.{Bar}
use Rattle.records.specs.Columns.{parent_at, sum_at}
use Rattle.tree.specs.Tree.{node_sum}
use Rattle.tables.specs.State.{stretch_at, node_at, live, Sound}
use Rattle.tables.specs.Post.{Recorded}
use Rattle.tables.proofs.Live.{node_same, live_same, live_more}
use Rattle.tables.proofs.Taking.{is_open}

module _ (job : Job) (capacity : ℕ) (columns plans : List ℕ) (n : ℕ) (sound : Sound job capacity columns plans n) (parent carrier : ℕ) (bar : Bar) (sum : ℕ) (after : List ℕ) (written : Recorded capacity columns n parent carrier bar sum after) (now : List ℕ) (kept : (y : ℕ) → y < n → stretch_at job now y ≡ stretch_at job plans y) where
  kept_node : (y : ℕ) → y < n → node_at job capacity after now y ≡ node_at job capacity columns plans y
  kept_node y l = node_same job capacity columns after plans now y (λ c z k j. written.others c z (omega (arith, sound.made)) (λ e. omega arith)) (kept y l)

  pub live_added : live job capacity after now (n + 1) ≡ live job capacity columns plans n ++ node_at job capacity after now n ∷ []
  unfolding only
  live_added =
      live_more job capacity after now n
      ∙ rw (
        live_same job capacity columns after plans now n (λ c y k l. written.others c y (omega (arith, sound.made)) (λ e. omega arith)) kept,
        is_open capacity after n (λ e. omega (arith, written.opened)),
      )
      refl

  pub sound_added : n < capacity → (0 < n → parent < n) → length now ≡ length plans → sum ≡ node_sum job (node_at job capacity after now n) → Sound job capacity after now (n + 1)
  sound_added inside low long is =
      record {
        columns_long = omega (arith, sound.columns_long, written.long);
        plans_long = omega (arith, sound.plans_long);
        small = sound.small;
        made = omega arith;
        down =
            λ y k l.
            below_more (λ z. 0 < z → parent_at capacity after z < z) n
            (λ z i p. rw (written.others 0 z (omega arith) (λ e. omega arith)) (sound.down z p i))
            (λ p. rw written.parent_is (low p))
            y l k;
        sums =
            below_more (λ z. sum_at capacity after z ≡ node_sum job (node_at job capacity after now z)) n
            (λ z i. rw (written.others 6 z (omega arith) (λ e. omega arith), kept_node z i) (sound.sums z i))
            (written.sum_is ∙ is);
      }
