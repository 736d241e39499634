-- The cells of a node in the bytes of its stretch, and rule 5's clash of them: the code reads the very cells that the node's routes have.
-- A chosen clash names carriers and steps that there are. Assumes nothing.
use Prim.Native.Nat.{ℕ, ◌+◌, ◌-◌, ◌*◌, ◌≤◌, ◌<◌}
use native.Mathlib.Omega.{arith}
use mathlib.Core.Path.{◌≡◌, refl, sym, ap, subst, ◌∙◌}
use mathlib.Core.List.{List}
use lib.ListN.{length, get_or, take, drop}
use lib.Seq.{get_or-take, get_or-drop}
use Rattle.job.specs.Job.{Job, plan_length}
use Rattle.routes.specs.Route.{cell_of, route_in}
use Rattle.lists.proofs.Parts.{part_within}
use Rattle.clashes.specs.Clash.{Travel}
use Rattle.clashes.specs.Chosen.{chosen}
use Rattle.clashes.specs.Find.{cell_in_plan, first_clash}
use Rattle.clashes.specs.declared.Clash.{Clash}
use Rattle.clashes.specs.declared.Clash.TheVariants.{Meeting, Swap}
use Rattle.clashes.specs.First.{ChosenFact}
use Rattle.clashes.proofs.Chosen.{chosen_fact}
use Rattle.clashes.proofs.Same.{chosen_same}
use Rattle.records.specs.Columns.{is_bar}
use Rattle.tree.specs.Plan.{cells_of, travels}
use Rattle.tree.specs.Tree.{Node, clash_of}
use Rattle.tables.specs.Post.{BarFits}
use Rattle.tables.specs.State.{routes_in, stretch_at, node_at, Sound}
use Rattle.tables.proofs.Costs.{route_in_lem}
use Rattle.tables.proofs.Stretches.{route_at}
use Rattle.planner.specs.declared.Bars.{Bars}
use Rattle.children.specs.declared.Task.{Task}
use Rattle.children.specs.Steps.{job_on, Ready}
use Rattle.planner.specs.Steps.{Placed, stay_bars, cross_bars, BarsFit}

-- ---- where a node stands in the plans

pub placed : (task : Task) (layers columns plans : List ℕ) (made x : ℕ) → Ready task layers → Sound (job_on task) task.capacity columns plans made → x < made → Placed task plans x
placed task layers columns plans made x ready sound l =
    record {
      slips_most = ready.slips_most;
      horizon_most = ready.horizon_most;
      count_most = ready.count_most;
      capacity_most = ready.capacity_most;
      inside = omega (arith, sound.made);
      long = sound.plans_long;
    }

module _ (task : Task) (plans : List ℕ) (x : ℕ) (p : Placed task plans x) (size : ℕ) (is : size ≡ task.job.team.count * (task.job.horizon + 1)) where
  -- the stretch of node x stands in the plans
  pub stretch_inside : x * size + size ≤ length plans
  stretch_inside = rw is (omega (arith, part_within x task.capacity (task.job.team.count * (task.job.horizon + 1)) p.inside, p.long))

  -- and so does each cell of it
  pub cell_inside : (i t : ℕ) → i < task.job.team.count → t ≤ task.job.horizon → x * size + i * (task.job.horizon + 1) + t < length plans
  cell_inside i t l k = omega (arith, stretch_inside, part_within i task.job.team.count (task.job.horizon + 1) l)

-- the numbers of the bars fit their columns
module _ (task : Task) (bars : Bars) (i j : ℕ) (one_in : i < task.job.team.count) (two_in : j < task.job.team.count) where
  pub stays_fit : (v t : ℕ) → bars ≡ stay_bars (λ c. get_or task.job.team.slips c 0) i j v t → v < 256 → t ≤ 63 → ((c : ℕ) → c < task.job.team.count → get_or task.job.team.slips c 0 ≤ 4) → BarsFit task bars
  unfolding BarFits is_bar
  stays_fit v t e cell step slips =
      let one : get_or task.job.team.slips i 0 ≤ 4 = slips i one_in in
      let two : get_or task.job.team.slips j 0 ≤ 4 = slips j two_in in
      rw e (record { i_inside = one_in; j_inside = two_in; one_fits = ((omega arith, omega arith, omega arith), refl); two_fits = ((omega arith, omega arith, omega arith), refl) })

  pub crosses_fit : (u v t : ℕ) → bars ≡ cross_bars i j u v t → u < 256 → v < 256 → t ≤ 63 → BarsFit task bars
  unfolding BarFits is_bar
  crosses_fit u v t e from to step =
      rw e (record { i_inside = one_in; j_inside = two_in; one_fits = ((omega arith, omega arith, omega arith), refl); two_fits = ((omega arith, omega arith, omega arith), refl) })

-- ---- cells

module _ (job : Job) where
  cell_at : (plans : List ℕ) (x i t : ℕ) → i < job.count → t ≤ job.horizon → get_or plans (x * plan_length job + i * (job.horizon + 1) + t) 0 ≡ cells_of (routes_in job (stretch_at job plans x)) i t
  cell_at plans x i t l k =
      sym (ap (λ (r : List ℕ). cell_of r t) (route_in_lem job (stretch_at job plans x) i l ∙ route_at job plans x i l)
      ∙ get_or-take (job.horizon + 1) (drop (x * plan_length job + i * (job.horizon + 1)) plans) t 0 (omega arith)
      ∙ get_or-drop (x * plan_length job + i * (job.horizon + 1)) plans t 0)

  cell_in : (stretch : List ℕ) (i t : ℕ) → i < job.count → t ≤ job.horizon → cell_in_plan stretch job.horizon i t ≡ cells_of (routes_in job stretch) i t
  unfolding route_in
  cell_in stretch i t l k =
      sym (ap (λ (r : List ℕ). cell_of r t) (route_in_lem job stretch i l)
      ∙ get_or-take (job.horizon + 1) (drop (i * (job.horizon + 1)) stretch) t 0 (omega arith)
      ∙ get_or-drop (i * (job.horizon + 1)) stretch t 0)

  abbrev travel_in : List ℕ → Travel
  travel_in stretch = record { at = cell_in_plan stretch job.horizon; slip = job.slip_of; horizon = job.horizon }

  clash_in : (stretch : List ℕ) → chosen (travel_in stretch) job.count ≡ chosen (travels job (routes_in job stretch)) job.count
  clash_in stretch = chosen_same (travel_in stretch) (cells_of (routes_in job stretch)) job.count (cell_in stretch)

-- what the code reads, of a node whose stretch has `size` bytes
module _ (task : Task) (plans : List ℕ) (x size : ℕ) (is : size ≡ task.job.team.count * (task.job.horizon + 1)) where
  stretch_part : take (x * size + size - x * size) (drop (x * size) plans) ≡ stretch_at (job_on task) plans x
  unfolding stretch_at
  stretch_part = let e : x * size + size - x * size ≡ size = omega arith in rw (e, is) refl

  pub cell_read : (i t : ℕ) → i < task.job.team.count → t ≤ task.job.horizon → get_or plans (x * size + i * (task.job.horizon + 1) + t) 0 ≡ cells_of (routes_in (job_on task) (stretch_at (job_on task) plans x)) i t
  cell_read i t l k = rw is (cell_at (job_on task) plans x i t l k)

  pub clash_read : first_clash (take (x * size + size - x * size) (drop (x * size) plans)) task.job.team task.job.horizon ≡ first_clash (stretch_at (job_on task) plans x) task.job.team task.job.horizon
  clash_read = ap (λ (l : List ℕ). first_clash l task.job.team task.job.horizon) stretch_part

module _ (task : Task) (capacity : ℕ) (columns plans : List ℕ) (x : ℕ) where
  -- the clash and the cells that the code has read are the node's
  pub node_clash : (clash : Clash) → clash ≡ first_clash (stretch_at (job_on task) plans x) task.job.team task.job.horizon → clash ≡ clash_of (job_on task) (node_at (job_on task) capacity columns plans x)
  unfolding clash_of node_at stretch_at
  node_clash clash e = e ∙ clash_in (job_on task) (stretch_at (job_on task) plans x)

  pub node_cell : (i t v : ℕ) → v ≡ cells_of (routes_in (job_on task) (stretch_at (job_on task) plans x)) i t → v ≡ cells_of (node_at (job_on task) capacity columns plans x).routes i t
  unfolding node_at routes_in stretch_at
  node_cell i t v e = e

-- ---- what a chosen clash tells

module _ (job : Job) (n : Node) where
  told : (clash : Clash) → clash ≡ clash_of job n → ChosenFact (travels job n.routes) job.count clash
  unfolding clash_of
  told clash e =
      subst (ChosenFact (travels job n.routes) job.count) (sym e)
      (chosen_fact (travels job n.routes) job.count)

  module _ (clash : Clash) (is : clash ≡ clash_of job n) where
    pub meeting_within : (i j t d : ℕ) → clash ≡ Meeting i j t d → (i < job.count) × (j < job.count) × (t ≤ job.horizon)
    unfolding ChosenFact
    meeting_within i j t d e = let f = told (Meeting i j t d) (sym e ∙ is) in (f.one, f.other, omega (arith, f.is.inside))

    pub swap_within : (i j t : ℕ) → clash ≡ Swap i j t → (i < job.count) × (j < job.count) × (t + 1 ≤ job.horizon)
    unfolding ChosenFact
    swap_within i j t e = let f = told (Swap i j t) (sym e ∙ is) in (f.one, f.other, f.is.inside)

    -- the two exchange their cells
    pub swap_exchanged : (i j t : ℕ) → clash ≡ Swap i j t → (cells_of n.routes i t ≡ cells_of n.routes j (t + 1)) × (cells_of n.routes j t ≡ cells_of n.routes i (t + 1))
    unfolding ChosenFact
    swap_exchanged i j t e = let f = told (Swap i j t) (sym e ∙ is) in (f.is.there, f.is.back)
