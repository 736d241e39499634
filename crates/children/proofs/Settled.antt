-- Two results that the contracts of `add_child` and `make_root` allow are equal, the answer and every entry of the three lent tables: the
-- children of the tree decide the answer, and each table is settled by what came in. The second call's hall may lie
-- elsewhere in memory, `there`; with `task.job.hall.ref_ptr` for `there` it lies where the first's does. Assumes nothing.
use Prim.Native.Nat.{ℕ, ◌+◌, ◌*◌}
use native.Mathlib.Omega.{arith}
use mathlib.Core.Path.{◌≡◌, refl, sym, ap, subst, ◌∙◌}
use mathlib.Core.Bool.{Bool, true, false}
use mathlib.Core.List.{List, []}
use lib.ListN.{length}
use Rattle.lent.specs.Lent.{SameFrom}
use Rattle.hall.specs.Hall.{size}
use Rattle.job.specs.Job.{Job}
use Rattle.routes.specs.Bars.{Barred}
use Rattle.routes.specs.declared.Bar.TheVariants.{Free}
use Rattle.layers.proofs.Settled.{filled_settled}
use Rattle.tree.specs.Tree.{root, child}
use Rattle.tables.specs.State.{node_at}
use Rattle.tables.specs.Tables.{layers_length}
use Rattle.tables.proofs.Settled.{write_record_settled}
use Rattle.children.specs.declared.Task.{Task}
use Rattle.children.specs.declared.Grown.{Grown}
use Rattle.children.specs.declared.Grown.TheVariants.{Nothing, Made, Full}
use Rattle.children.specs.Steps.{job_on, Kept, ChildFact, RootFact}
use Rattle.children.specs.Written.{sum_in, ChildWritten, ChildTables, root_sum, RootTables}
use Rattle.children.proofs.Seeking.{two_planes}

not_none : {A : Type 0} (xs : List A) → xs ≡ [] → length xs ≡ 1 → ⊥
not_none xs e f = omega (arith, f, ap length e)

two_planes_kept : (job : Job) (before after : List ℕ) → SameFrom (layers_length job) before after → SameFrom ((job.horizon + 1) * size job.hall + (job.horizon + 1) * size job.hall) before after
two_planes_kept job before after = subst (λ (n : ℕ). SameFrom n before after) (sym (two_planes job))

-- ---- the same task, with the bytes of its hall at another place: a block of memory, and how many bytes into it

abbrev pub elsewhere : Task → ℕ × ℕ → Task
elsewhere task there = record task { job = record task.job { hall = record task.job.hall { ref_ptr = there } } }

-- the number that the contract of `sum_at` names; what that of `stretch_of` names is equal by computing
pub sum_in_elsewhere : (task : Task) (there : ℕ × ℕ) (plans : List ℕ) (x : ℕ) → sum_in (elsewhere task there) plans x ≡ sum_in task plans x
unfolding sum_in
sum_in_elsewhere task there plans x = refl

root_sum_elsewhere : (task : Task) (there : ℕ × ℕ) (plans : List ℕ) (made : Bool) → root_sum (elsewhere task there) plans made ≡ root_sum task plans made
unfolding root_sum
root_sum_elsewhere task there plans false = refl
root_sum_elsewhere task there plans true = sum_in_elsewhere task there plans 0

-- ---- a child

module _ (task : Task) (columns plans layers : List ℕ) (x : ℕ) (b : Barred) (made : ℕ) where
  -- the contract of `add_child`, clause by clause, of an answer and the tables left
  pub record ChildAllowed (g : Grown) (columns' plans' layers' : List ℕ) : Type 0 where
    pub kept : Kept task columns plans layers columns' plans' layers'
    pub grown : ChildFact (job_on task) task.capacity x b made columns plans columns' plans' g
    pub tables : ChildTables task x b made columns plans columns' plans' layers' g

  same_grown : (c p c' p' : List ℕ) (g g' : Grown) → ChildFact (job_on task) task.capacity x b made columns plans c p g → ChildFact (job_on task) task.capacity x b made columns plans c' p' g' → g ≡ g'
  unfolding ChildFact
  same_grown c p c' p' Nothing Nothing f f' = refl
  same_grown c p c' p' Nothing Made f f' = absurd (not_none (child (job_on task) (node_at (job_on task) task.capacity columns plans x) b) f f'.0)
  same_grown c p c' p' Nothing Full f f' = absurd (not_none (child (job_on task) (node_at (job_on task) task.capacity columns plans x) b) f f'.1)
  same_grown c p c' p' Made Nothing f f' = absurd (not_none (child (job_on task) (node_at (job_on task) task.capacity columns plans x) b) f' f.0)
  same_grown c p c' p' Made Made f f' = refl
  same_grown c p c' p' Made Full f f' = absurd (omega (arith, f.1.made, f'.0))
  same_grown c p c' p' Full Nothing f f' = absurd (not_none (child (job_on task) (node_at (job_on task) task.capacity columns plans x) b) f' f.1)
  same_grown c p c' p' Full Made f f' = absurd (omega (arith, f.0, f'.1.made))
  same_grown c p c' p' Full Full f f' = refl

module _ (task : Task) (there : ℕ × ℕ) (columns plans layers : List ℕ) (x : ℕ) (b : Barred) (made : ℕ) where
  same_written : (c p c' p' : List ℕ) (g : Grown) → ChildWritten task x b made columns plans c p g → ChildWritten (elsewhere task there) x b made columns plans c' p' g → (c ≡ c') × (p ≡ p')
  unfolding ChildWritten
  same_written c p c' p' Nothing w w' = (w.0 ∙ sym w'.0, w.1 ∙ sym w'.1)
  same_written c p c' p' Full w w' = (w.0 ∙ sym w'.0, w.1 ∙ sym w'.1)
  same_written c p c' p' Made w w' =
      let same : p' ≡ p = w'.0 ∙ sym w.0 in
      (write_record_settled task.capacity columns made x b.carrier b.bar (sum_in task p made) c c' w.1 (rw (same, sum_in_elsewhere) at w'.1), sym same)

  pub add_child_settled : (g g' : Grown) (c p l c' p' l' : List ℕ) → ChildAllowed task columns plans layers x b made g c p l → ChildAllowed (elsewhere task there) columns plans layers x b made g' c' p' l' → (g ≡ g') × (c ≡ c') × (p ≡ p') × (l ≡ l')
  add_child_settled g g' c p l c' p' l' a a' =
      let answer = same_grown task columns plans layers x b made c p c' p' g g' a.grown a'.grown in
      let written = same_written c p c' p' g a.tables.written (rw (sym answer) at a'.tables.written) in
      (answer, written.0, written.1, filled_settled (job_on task).hall _ _ _ task.job.horizon layers l l' a.tables.sought a'.tables.sought (two_planes_kept (job_on task) layers l a.kept.layers_kept) (two_planes_kept (job_on task) layers l' a'.kept.layers_kept))

-- ---- the root

module _ (task : Task) (columns plans layers : List ℕ) where
  -- the contract of `make_root`, likewise
  pub record RootAllowed (made : Bool) (columns' plans' layers' : List ℕ) : Type 0 where
    pub kept : Kept task columns plans layers columns' plans' layers'
    pub rooted : RootFact (job_on task) task.capacity columns' plans' made
    pub tables : RootTables task columns plans columns' plans' layers' made

  same_rooted : (c p c' p' : List ℕ) (r r' : Bool) → RootFact (job_on task) task.capacity c p r → RootFact (job_on task) task.capacity c' p' r' → r ≡ r'
  unfolding RootFact
  same_rooted c p c' p' false false f f' = refl
  same_rooted c p c' p' false true f f' = absurd (not_none (root (job_on task)) f f'.2)
  same_rooted c p c' p' true false f f' = absurd (not_none (root (job_on task)) f' f.2)
  same_rooted c p c' p' true true f f' = refl

module _ (task : Task) (there : ℕ × ℕ) (columns plans layers : List ℕ) where
  pub make_root_settled : (r r' : Bool) (c p l c' p' l' : List ℕ) → RootAllowed task columns plans layers r c p l → RootAllowed (elsewhere task there) columns plans layers r' c' p' l' → (r ≡ r') × (c ≡ c') × (p ≡ p') × (l ≡ l')
  make_root_settled r r' c p l c' p' l' a a' =
      let answer = same_rooted task columns plans layers c p c' p' r r' a.rooted a'.rooted in
      let same : p' ≡ p = a'.tables.routes ∙ sym a.tables.routes in
      (answer, write_record_settled task.capacity columns 0 0 0 Free (root_sum task p r) c c' a.tables.written (rw (same, sym answer, root_sum_elsewhere) at a'.tables.written), sym same, filled_settled (job_on task).hall _ _ _ task.job.horizon layers l l' a.tables.sought a'.tables.sought (two_planes_kept (job_on task) layers l a.kept.layers_kept) (two_planes_kept (job_on task) layers l' a'.kept.layers_kept))
