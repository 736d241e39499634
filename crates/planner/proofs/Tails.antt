-- What no step touches: the lengths of the tables and what lies past their least lengths. A relation that is carried from step to
-- step. Assumes nothing.
use Prim.Native.Nat.{ℕ, ◌+◌, ◌*◌, ◌<◌}
use native.Mathlib.Omega.{arith}
use mathlib.Core.Path.{◌≡◌}
use mathlib.Core.List.{List}
use lib.ListN.{set}
use Rattle.lent.proofs.Keeping.{same_from, same_then, same_set}
use Rattle.tables.specs.Tables.{columns_length}
use Rattle.children.specs.declared.Task.{Task}
use Rattle.children.specs.Steps.{Ready, Kept}
use Rattle.children.proofs.Keeping.{ready_still}

module _ (task : Task) where
  pub kept_self : (columns plans layers : List ℕ) → Kept task columns plans layers columns plans layers
  kept_self columns plans layers = record { columns_kept = same_from _ columns; plans_kept = same_from _ plans; layers_kept = same_from _ layers }

  -- a node is closed in its record
  pub kept_shut : (columns plans layers : List ℕ) (x : ℕ) (shut : List ℕ) → x < task.capacity → shut ≡ set columns (7 * task.capacity + x) 0 → Kept task columns plans layers shut plans layers
  kept_shut columns plans layers x shut l e =
      rw e
      (record { columns_kept = same_set (columns_length task.capacity) columns columns (7 * task.capacity + x) 0 (omega arith) (same_from _ columns); plans_kept = same_from _ plans; layers_kept = same_from _ layers })

  pub kept_after : (c p l c' p' l' c'' p'' l'' : List ℕ) → Kept task c p l c' p' l' → Kept task c' p' l' c'' p'' l'' → Kept task c p l c'' p'' l''
  kept_after c p l c' p' l' c'' p'' l'' f g =
      record {
        columns_kept = same_then _ c c' c'' f.columns_kept g.columns_kept;
        plans_kept = same_then _ p p' p'' f.plans_kept g.plans_kept;
        layers_kept = same_then _ l l' l'' f.layers_kept g.layers_kept;
      }

  pub ready_after : (c p l c' p' l' : List ℕ) → Ready task l → Kept task c p l c' p' l' → Ready task l'
  ready_after c p l c' p' l' ready kept = ready_still task l l' kept.layers_kept.long ready
