-- Rule 6 loses no plan: a plan that obeys the bars of a node with a clash obeys those of one of its children.
-- For a meeting on v: if the plan's route of i keeps off v over the barred steps, it obeys child one. If it does not, it is on v
-- at a barred step s, and then j's route keeps off v over its barred steps, since any such step u would be within the slips of s,
-- and the plan would have a meeting. For a swap likewise, with crossings. Assumes nothing.
use Prim.Native.Nat.{ℕ, ◌+◌, ◌<◌}
use native.Mathlib.Omega.{arith}
use mathlib.Core.Path.{◌≡◌, refl, sym, ◌∙◌}
use mathlib.Core.Logic.{◌⊎◌, inl, inr}
use mathlib.Core.Bool.{false, true≢false}
use mathlib.Core.List.{List, ◌++◌}
use Rattle.lists.specs.Lists.{Any}
use Rattle.lists.proofs.Every.{any_append_left, any_append_right}
use Rattle.job.specs.Job.{Job}
use Rattle.routes.specs.Route.{cell_of}
use Rattle.routes.specs.Bars.{ObeysBar}
use Rattle.routes.proofs.Binds.{Visits, Crosses, obeys_or_visits, obeys_or_crosses}
use Rattle.routes.specs.declared.Bar.TheVariants.{Stay, Cross}
use Rattle.clashes.specs.Clash.{Travel, Meets, Swaps, Apart}
use Rattle.clashes.specs.declared.Clash.{Clash}
use Rattle.clashes.specs.declared.Clash.TheVariants.{Clear, Meeting, Swap}
use Rattle.tree.specs.Plan.{Routes, route_of, cells_of, travels, IsPlan}
use Rattle.tree.specs.Tree.{Node, clash_of, is_clear, node_clear, bar_one, bar_two, child, kids_for, kids}
use Rattle.tree.proofs.Nodes.{In, child_covers, clash_fact}
use Rattle.clashes.specs.First.{ChosenFact}
use Rattle.clashes.proofs.Holds.{apart_near}

-- ---- two visits within the slips are a meeting of the plan

module _ (v : Travel) (m i j : ℕ) (apart : Apart v m) (li : i < m) (lj : j < m) (two : i ≡ j → ⊥) where
  -- i is on v at a step from t to t + slip j: then j is not on v at any from t to t + slip i
  visited_once : (r s : List ℕ) (c t : ℕ) → ((x : ℕ) → v.at i x ≡ cell_of r x) → ((x : ℕ) → v.at j x ≡ cell_of s x) → Visits v.horizon r c t (t + v.slip j) → ObeysBar v.horizon s (Stay c t (t + v.slip i))
  unfolding ObeysBar
  visited_once r s c t ei ej w =
      λ u a b l e. apart_near v m apart i j w.step u li lj two w.inside l (omega (arith, w.after)) (omega (arith, w.before, w.after)) (ei w.step ∙ w.there ∙ sym e ∙ sym (ej u))

module _ (job : Job) (n : Node) (rs : Routes) (plan : IsPlan job rs) (i j : ℕ) (li : i < job.count) (lj : j < job.count) (within : In job n rs) where
  -- the plan obeys bar one, or else bar two
  either_child : (c : Clash) → (bar_one job n c).carrier ≡ i → (bar_two job n c).carrier ≡ j
      → ObeysBar job.horizon (route_of rs i) (bar_one job n c).bar ⊎ ObeysBar job.horizon (route_of rs j) (bar_two job n c).bar
      → Any (λ k. In job k rs) (child job n (bar_one job n c) ++ child job n (bar_two job n c))
  either_child c e f (inl o) =
      any_append_left (λ k. In job k rs) (child job n (bar_one job n c)) (child job n (bar_two job n c))
      (child_covers job n (bar_one job n c) rs plan.family (rw e li) within (rw e o))
  either_child c e f (inr o) =
      any_append_right (λ k. In job k rs) (child job n (bar_one job n c)) (child job n (bar_two job n c))
      (child_covers job n (bar_two job n c) rs plan.family (rw f lj) within (rw f o))

  meeting_covered : (t d : ℕ) → Meets (travels job n.routes) i j t d → Any (λ k. In job k rs) (kids_for job n (Meeting i j t d))
  unfolding kids_for bar_one bar_two
  meeting_covered t d meets =
      either_child (Meeting i j t d) refl refl
      (go (obeys_or_visits job.horizon (route_of rs i) (cells_of n.routes i t) t (t + job.slip_of j)))
    where
      go : ObeysBar job.horizon (route_of rs i) (Stay (cells_of n.routes i t) t (t + job.slip_of j)) ⊎ Visits job.horizon (route_of rs i) (cells_of n.routes i t) t (t + job.slip_of j)
          → ObeysBar job.horizon (route_of rs i) (Stay (cells_of n.routes i t) t (t + job.slip_of j)) ⊎ ObeysBar job.horizon (route_of rs j) (Stay (cells_of n.routes i t) t (t + job.slip_of i))
      go (inl o) = inl o
      go (inr w) =
          inr (visited_once (travels job rs) job.count i j plan.apart li lj meets.two (route_of rs i) (route_of rs j) (cells_of n.routes i t) t (λ x. refl) (λ x. refl) w)

  swap_covered : (t : ℕ) → Swaps (travels job n.routes) i j t → Any (λ k. In job k rs) (kids_for job n (Swap i j t))
  unfolding kids_for bar_one bar_two ObeysBar
  swap_covered t swaps =
      either_child (Swap i j t) refl refl
      (go (obeys_or_crosses job.horizon (route_of rs i) (cells_of n.routes i t) (cells_of n.routes i (t + 1)) t))
    where
      go : ObeysBar job.horizon (route_of rs i) (Cross (cells_of n.routes i t) (cells_of n.routes i (t + 1)) t) ⊎ Crosses job.horizon (route_of rs i) (cells_of n.routes i t) (cells_of n.routes i (t + 1)) t
          → ObeysBar job.horizon (route_of rs i) (Cross (cells_of n.routes i t) (cells_of n.routes i (t + 1)) t) ⊎ ObeysBar job.horizon (route_of rs j) (Cross (cells_of n.routes j t) (cells_of n.routes j (t + 1)) t)
      go (inl o) = inl o
      go (inr w) =
          inr (λ l a b.
          plan.apart.swaps i j t li lj
          (record {
            two = swaps.two;
            none_slips = swaps.none_slips;
            inside = swaps.inside;
            there = w.leaves ∙ swaps.there ∙ sym b;
            back = a ∙ swaps.back ∙ sym w.arrives;
          }))

pub kids_cover : (job : Job) (n : Node) (rs : Routes) → IsPlan job rs → node_clear job n ≡ false → In job n rs → Any (λ k. In job k rs) (kids job n)
unfolding kids node_clear is_clear ChosenFact
kids_cover job n rs plan e within = go (clash_of job n) (clash_fact job n) e
  where
    go : (c : Clash) → ChosenFact (travels job n.routes) job.count c → is_clear c ≡ false → Any (λ k. In job k rs) (kids_for job n c)
    go Clear fact e = absurd (true≢false e)
    go (Meeting i j t d) fact e = meeting_covered job n rs plan i j fact.one fact.other within t d fact.is
    go (Swap i j t) fact e = swap_covered job n rs plan i j fact.one fact.other within t fact.is
