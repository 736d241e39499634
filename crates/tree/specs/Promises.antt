-- What is promised of the tree, in the paper's words, for a reader who does not want to know it. Each is proved in
-- proofs/Promises.antt for every job.
use Rattle.std.specs.Prelude.{ℕ, ◌≤◌, ◌<◌, ◌≡◌}
use Rattle.std.proofs.Math.Option.{Option}
use Rattle.job.specs.Job.{Job}
use Rattle.search.specs.Search.{done, full}
use Rattle.tree.specs.Plan.{Routes, total, Family, IsPlan, IsSafe}
use Rattle.tree.specs.Tree.{Node, tree}

-- Answer 0. 'A plan obeys the k-delay rule of Atzmon and others (2018), with the swap rule of Chen and others (2021) for k = 0, and no
-- plan within the horizon that obeys it has a smaller sum of costs.' Since P3 each carrier's own slip is read for k. The plans compared
-- with are any lists of cells that are lawful.
-- 'So the plan returned has the least sum among all that survive every such pattern.'
pub record LeastPlan (job : Job) (rs : Routes) (sum : ℕ) : Type 0 where
  pub plan : IsPlan job rs
  pub told : sum ≡ total job rs
  pub least : (qs : Routes) → IsPlan job qs → sum ≤ total job qs
  pub safe : IsSafe job rs
  pub least_safe : (qs : Routes) → Family job qs → IsSafe job qs → sum ≤ total job qs

-- Answer 8. '"No plan" comes only when none exists.'
unfoldable pub NoneExists : Job → Type 0
NoneExists job = (qs : Routes) → IsPlan job qs → ⊥

-- '"Records used up" comes exactly when the search tree of document 01 needs more records than were lent; more records never alter a
-- plan or a "no plan" already given.' One number, the need, divides the capacities from 1 up; the tree ends with a clear node or none.
pub record NeedIs (job : Job) (need : ℕ) (end : Option Node) : Type 0 where
  pub enough : (capacity : ℕ) → 1 ≤ capacity → need ≤ capacity → tree job capacity ≡ done end need
  pub short : (capacity : ℕ) → 1 ≤ capacity → capacity < need → tree job capacity ≡ full capacity

pub record Need (job : Job) : Type 0 where
  pub need : ℕ
  pub end : Option Node
  pub is : NeedIs job need end
