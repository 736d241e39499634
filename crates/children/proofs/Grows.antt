-- A child made: its stretch is its parent's with the new route written over the barred carrier's, its record names its parent and its
-- bar, and all else in the tables stands. So the new node is the one that the tree makes. Assumes nothing.
use Prim.Native.Nat.{ℕ, ◌+◌, ◌*◌, ◌≤◌, ◌<◌}
use native.Mathlib.Omega.{arith}
use mathlib.Core.Path.{◌≡◌, refl, sym, ap, ◌∙◌}
use mathlib.Core.Bool.{true}
use mathlib.Core.List.{List, [], ◌∷◌, ◌++◌}
use mathlib.Core.Option.{some, none}
use lib.ListN.{length, take, drop, set, length-take, length-drop}
use Rattle.lists.specs.Lists.{only}
use Rattle.lent.proofs.Keeping.{same_then}
use Rattle.lent.specs.Lent.{SameFrom}
use Rattle.job.specs.Job.{Job, plan_length}
use Rattle.routes.specs.Bars.{Barred}
use Rattle.routes.specs.Best.{best_route}
use Rattle.routes.specs.declared.Bar.{Bar}
use Rattle.records.specs.Columns.{parent_at, is_bar, own_bars, chain_of}
use Rattle.records.proofs.Chain.{chain_up, chain_same}
use Rattle.marks.specs.Marks.{bound_by}
use Rattle.tree.specs.Tree.{Node, node_sum, child, child_with}
use Rattle.tables.specs.State.{routes_in, stretch_at, node_at, live, Sound}
use Rattle.tables.specs.Post.{Recorded}
use Rattle.tables.proofs.Stretches.{copied_here, copied_below, route_below, route-written}
use Rattle.tables.proofs.Live.{node_same}
use Rattle.tables.proofs.Grown.{live_added, sound_added}
use Rattle.children.specs.declared.Grown.TheVariants.{Nothing, Made, Full}
use Rattle.children.specs.Steps.{ChildFact}
use Rattle.children.specs.Written.{put_route, copied_plans}
use Rattle.children.proofs.Routing.{barred_route, best_long}
use Rattle.children.proofs.Keeping.{stretch_within, copied_kept, put_kept}

module _ (job : Job) (capacity : ℕ) (columns plans : List ℕ) (x i : ℕ) (bar : Bar) where
  abbrev b : Barred
  b = record { carrier = i; bar = bar }

  -- ---- the child by the route of its barred carrier

  child-none : best_route job i (bound_by capacity columns x i bar) ≡ none → child job (node_at job capacity columns plans x) b ≡ []
  unfolding child child_with node_at
  child-none e = rw (barred_route job capacity columns x i bar ∙ e) refl

  child-some : (r : List ℕ) → best_route job i (bound_by capacity columns x i bar) ≡ some r → child job (node_at job capacity columns plans x) b ≡ record { bars = b ∷ chain_of capacity columns x; routes = set (routes_in job (stretch_at job plans x)) i r } ∷ []
  unfolding child child_with node_at
  child-some r e = rw (barred_route job capacity columns x i bar ∙ e) refl

  child_one : (r : List ℕ) → best_route job i (bound_by capacity columns x i bar) ≡ some r → length (child job (node_at job capacity columns plans x) b) ≡ 1
  child_one r e = rw (child-some r e) refl

  -- ---- no child, or no record for it

  pub not_grown : (made : ℕ) → best_route job i (bound_by capacity columns x i bar) ≡ none → ChildFact job capacity x b made columns plans columns plans Nothing
  unfolding ChildFact
  not_grown made e = child-none e

  pub no_record : (made : ℕ) (columns' plans' : List ℕ) (r : List ℕ) → best_route job i (bound_by capacity columns x i bar) ≡ some r → made ≡ capacity → ChildFact job capacity x b made columns plans columns' plans' Full
  unfolding ChildFact
  no_record made columns' plans' r e f = (f, child_one r e)

  -- ---- the child takes number `made`

  module _ (made : ℕ) (sound : Sound job capacity columns plans made) (low : x < made) (room : made < capacity) (inside : i < job.count) (bars : is_bar bar ≡ true) (r : List ℕ) (best : best_route job i (bound_by capacity columns x i bar) ≡ some r) where
    -- the parent's stretch, copied
    abbrev copied : List ℕ
    copied = copied_plans job plans x made

    abbrev now : List ℕ
    now = put_route job copied made i (some r)

    place : made * plan_length job + plan_length job ≤ length plans
    place = omega (arith, stretch_within job capacity made room, sound.plans_long)

    long : length (take (plan_length job) (drop (x * plan_length job) plans)) ≡ plan_length job
    long =
        let w = stretch_within job capacity x (omega arith) in
        let p = sound.plans_long in
        simp (length-take, length-drop) (omega arith)

    pub copied_keeps : SameFrom (capacity * plan_length job) plans copied
    copied_keeps = copied_kept job capacity made plans (take (plan_length job) (drop (x * plan_length job) plans)) room sound.plans_long long

    pub now_keeps : SameFrom (capacity * plan_length job) plans now
    now_keeps =
        same_then (capacity * plan_length job) plans copied now copied_keeps
        (put_kept job capacity made i room inside copied (omega (arith, sound.plans_long, copied_keeps.long)) (bound_by capacity columns x i bar) (some r) best)

    copied_place : made * plan_length job + plan_length job ≤ length copied
    copied_place = omega (arith, place, copied_keeps.long)

    now_below : (y : ℕ) → y < made → stretch_at job now y ≡ stretch_at job plans y
    unfolding put_route
    now_below y l =
        route_below job copied made i inside r (best_long job i (bound_by capacity columns x i bar) r best) copied_place y l
        ∙ copied_below job plans made place (take (plan_length job) (drop (x * plan_length job) plans)) long y l

    now_here : routes_in job (stretch_at job now made) ≡ set (routes_in job (stretch_at job plans x)) i r
    unfolding put_route
    now_here =
        route-written job copied made i inside r (best_long job i (bound_by capacity columns x i bar) r best) copied_place
        ∙ ap (λ (s : List ℕ). set (routes_in job s) i r) (copied_here job plans made place (take (plan_length job) (drop (x * plan_length job) plans)) long ∙ (unfold stretch_at in refl))

    module _ (sum : ℕ) (after : List ℕ) (recorded : Recorded capacity columns made x i bar sum after) where
      chain_here : chain_of capacity after made ≡ b ∷ chain_of capacity columns x
      unfolding own_bars only
      chain_here =
          let up : parent_at capacity after made < made = rw recorded.parent_is low in
          chain_up capacity after made up
          ∙ rw (recorded.parent_is, recorded.carrier_is, recorded.bar_is, bars)
          (ap (λ (l : List Barred). b ∷ l) (chain_same capacity columns after x (λ c y k l. recorded.others c y (omega arith) (λ e. omega arith))))

      node_here : node_at job capacity after now made ∷ [] ≡ child job (node_at job capacity columns plans x) b
      unfolding node_at
      node_here = rw (chain_here, now_here) (sym (child-some r best))

      pub grown : sum ≡ node_sum job (node_at job capacity after now made) → ChildFact job capacity x b made columns plans after now Made
      unfolding ChildFact
      grown is =
          (child_one r best, sound_added job capacity columns plans made sound x i bar sum after recorded now now_below room (λ _. low) now_keeps.long is, live_added job capacity columns plans made sound x i bar sum after recorded now now_below ∙ ap (λ (l : List Node). live job capacity columns plans made ++ l) node_here, λ y l. node_same job capacity columns after plans now y (λ c z k j. recorded.others c z (omega arith) (λ e. omega arith)) (now_below y l))
