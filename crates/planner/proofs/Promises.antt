-- What the definitions give for any job, any N and any tables keeps the promises: a refusal is the one that is due, the table that 7 tells
-- is the first that is short, and after them the tree's own promises are those of the answer. Assumes nothing.
use Prim.Native.Nat.{ℕ, ◌≤◌, ◌<◌}
use native.Mathlib.Omega.{arith}
use native.Mathlib.Decide.{dec_le}
use mathlib.Core.Path.{◌≡◌, refl, sym, subst}
use mathlib.Core.Option.{Option, none, some}
use Rattle.job.specs.Job.{Job}
use Rattle.job.specs.Due.{RightJob, RightCapacity, Due}
use Rattle.job.specs.Verdict.{Verdict, verdict_told}
use Rattle.job.proofs.Due.{accepted_exactly, planner_due}
use Rattle.search.specs.Search.{Outcome, done, full}
use Rattle.tree.specs.Tree.{Node, tree}
use Rattle.tree.specs.Promises.{NeedIs}
use Rattle.tree.proofs.Promises.{tree_least, tree_none, tree_need}
use Rattle.tables.specs.Tables.{Tables, first_short, worked_on, with_plan}
use Rattle.tables.proofs.LongTables.{LengthsFact, lengths_fact}
use Rattle.planner.specs.Answer.{Result, searched, if_long, enough, planned}
use Rattle.planner.specs.Promises.{Needed, Promised}
use Rattle.planner.proofs.Checked.{refused_alone, planned_either}

abbrev Kept : Job → ℕ → Tables → Result → Type 0
Kept job capacity ts r = Promised job capacity ts r.answer r.tables

module _ (job : Job) (capacity : ℕ) (ts : Tables) (one : 1 ≤ capacity) where
  -- a search that ends within its records made as many as the tree needs
  ended : (end : Option Node) (r : ℕ) → tree job capacity ≡ done end r → (r ≤ capacity) × Needed job r
  ended end r e = go (dec_le (tree_need job).need capacity)
    where
      go : Dec ((tree_need job).need ≤ capacity) → (r ≤ capacity) × Needed job r
      go (yes l) =
          let f : tree job capacity ≡ done (tree_need job).end (tree_need job).need = (tree_need job).is.enough capacity one l in
          let g : r ≡ (tree_need job).need = cc (e, f) in
          (omega arith, ((tree_need job).end, subst (λ (n : ℕ). NeedIs job n (tree_need job).end) (sym g) (tree_need job).is))
      go (no l) =
          let f : tree job capacity ≡ full capacity = (tree_need job).is.short capacity one (omega (arith, l)) in
          absurd (let z : ◌≡◌ {A = ℕ} 0 1 = cc (e, f) in omega arith)

  -- one that does not has fewer than the tree needs
  short_of : (r : ℕ) → tree job capacity ≡ full r → (r ≡ capacity) × (need : ℕ) × (capacity < need) × Needed job need
  short_of r e = go (dec_le (tree_need job).need capacity)
    where
      go : Dec ((tree_need job).need ≤ capacity) → (r ≡ capacity) × (need : ℕ) × (capacity < need) × Needed job need
      go (yes l) =
          let f : tree job capacity ≡ done (tree_need job).end (tree_need job).need = (tree_need job).is.enough capacity one l in
          absurd (let z : ◌≡◌ {A = ℕ} 0 1 = cc (e, f) in omega arith)
      go (no l) =
          let less : capacity < (tree_need job).need = omega (arith, l) in
          let f : tree job capacity ≡ full capacity = (tree_need job).is.short capacity one less in
          let g : r ≡ capacity = cc (e, f) in
          (g, (tree_need job).need, less, ((tree_need job).end, (tree_need job).is))

  searched_kept : (o : Outcome Node) → tree job capacity ≡ o → Kept job capacity ts (searched job capacity ts o)
  unfolding searched Promised with_plan worked_on
  searched_kept (done (some n) r) e = let (few, need) = ended (some n) r e in (n.routes, tree_least job capacity one n r e, refl, few, need)
  searched_kept (done none r) e = let (few, need) = ended none r e in (tree_none job capacity one r e, few, need)
  searched_kept (full r) e = short_of r e

  enough_kept : RightJob job → RightCapacity capacity → Kept job capacity ts (enough job capacity ts)
  unfolding enough if_long Promised LengthsFact
  enough_kept right n = go (first_short job capacity ts) (lengths_fact job capacity ts)
    where
      go : (o : Option ℕ) → LengthsFact job capacity ts o → Kept job capacity ts (if_long job capacity ts o (searched job capacity ts (tree job capacity)))
      go (some t) f = (right, n, f, refl, refl)
      go none f = searched_kept (tree job capacity) refl

pub planned_promised : (job : Job) (capacity : ℕ) (ts : Tables) → Kept job capacity ts (planned job capacity ts)
unfolding Promised
planned_promised job capacity ts =
    planned_either job capacity ts (Kept job capacity ts)
    (λ e. let (right, n) = (accepted_exactly job capacity).0 e in enough_kept job capacity ts n.least right n)
    (λ r e. (λ right. refused_alone r e ((accepted_exactly job capacity).1 right), subst (λ (v : Verdict). Due job (RightCapacity capacity) (verdict_told v)) e (planner_due job capacity), refl))
