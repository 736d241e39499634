-- The tree ends: every child has fewer free places than its node. A place is a carrier on a cell at a step, or its way from one
-- cell to another between two steps; it is free where no bar forbids it. The chosen clash names a place that the node's route
-- uses, so that it was free, and the child's bar forbids it. Assumes nothing.
use Prim.Native.Nat.{ℕ, suc, ◌+◌, ◌*◌, ◌^◌, ◌≤◌, ◌<◌}
use native.Mathlib.Omega.{arith}
use mathlib.Core.Path.{◌≡◌, refl, sym, subst}
use mathlib.Core.Logic.{⊎_elim}
use mathlib.Core.Bool.{Bool, false, not, true≢false, ◌&&◌}
use mathlib.Core.List.Memᴰ
use mathlib.Core.List.{List, [], ◌∷◌, ◌++◌, Memᴰ, map}
use mathlib.Core.Option.{Option, none, some}
use lib.ListN.{get_or}
use lib.Dec.{T, leb, ltb, eqb, le→leb, eqb_refl, ltb→lt, not_T, T_not}
use lib.Pow.{pow_pos, pow_mono}
use Rattle.lists.specs.Lists.{range, only, any_of, each}
use Rattle.lists.proofs.Tests.{and_both, both_and}
use Rattle.lists.proofs.Members.{member_each, member_map, member_range, member_only}
use Rattle.lists.proofs.Passing.{any_member, member_any}
use Rattle.lists.proofs.Sums.{count, count_falls, total_of, total_append}
use Rattle.hall.specs.Hall.{size, is_open, open_byte}
use Rattle.job.specs.Job.{Job}
use Rattle.routes.specs.Route.{cell_of}
use Rattle.routes.specs.Bars.{Barred, bars_for, bars_cell, bars_way, Obeys, ObeysBar}
use Rattle.routes.proofs.Bars.{obeys_cell, obeys_way}
use Rattle.routes.proofs.Right.{lawful_opens}
use Rattle.routes.specs.declared.Bar.TheVariants.{Cross}
use Rattle.clashes.specs.Clash.{Meets, Swaps}
use Rattle.clashes.specs.declared.Clash.{Clash}
use Rattle.clashes.specs.declared.Clash.TheVariants.{Clear, Meeting, Swap}
use Rattle.tree.specs.Plan.{route_of, cells_of, travels}
use Rattle.tree.specs.Tree.{Node, route_under, clash_of, is_clear, node_clear, bar_one, bar_two, child_with, child, kids_for, kids}
use Rattle.tree.proofs.Nodes.{Good, clash_fact}
use Rattle.clashes.specs.First.{ChosenFact}

-- ---- places, and which of them are free

data Spot : Type 0 where
  on : ℕ → ℕ → ℕ → Spot
  way : ℕ → ℕ → ℕ → ℕ → Spot

forbids : Spot → Barred → Bool
forbids (on i t v) b = eqb b.carrier i && bars_cell t v b.bar
forbids (way i t u v) b = eqb b.carrier i && bars_way t u v b.bar

is_free : List Barred → Spot → Bool
is_free bars s = not (any_of (forbids s) bars)

spots_from : ℕ → ℕ → ℕ → ℕ → List Spot
spots_from cells i t v = on i t v ∷ map (way i t v) (range 0 cells)

spots : Job → List Spot
spots job = each (λ i. each (λ t. each (spots_from (size job.hall) i t) (range 0 (size job.hall))) (range 0 (job.horizon + 1))) (range 0 job.count)

module _ (job : Job) (i t v : ℕ) (li : i < job.count) (lt : t ≤ job.horizon) (lv : v < size job.hall) where
  in_spots : (s : Spot) → Memᴰ s (spots_from (size job.hall) i t v) → Memᴰ s (spots job)
  unfolding spots
  in_spots s m =
      member_each (λ i. each (λ t. each (spots_from (size job.hall) i t) (range 0 (size job.hall))) (range 0 (job.horizon + 1))) (range 0 job.count)
      (member_range {x = i} 0 job.count (omega arith) (omega arith))
      (member_each (λ t. each (spots_from (size job.hall) i t) (range 0 (size job.hall))) (range 0 (job.horizon + 1))
      (member_range {x = t} 0 (job.horizon + 1) (omega arith) (omega arith))
      (member_each (spots_from (size job.hall) i t) (range 0 (size job.hall)) (member_range {x = v} 0 (size job.hall) (omega arith) (omega arith)) m))

  on_listed : Memᴰ (on i t v) (spots job)
  unfolding spots_from
  on_listed = in_spots (on i t v) (Memᴰ.head refl)

  way_listed : (u : ℕ) → u < size job.hall → Memᴰ (way i t v u) (spots job)
  unfolding spots_from
  way_listed u l =
      in_spots (way i t v u) (Memᴰ.tail (member_map (way i t v) (range 0 (size job.hall)) (member_range {x = u} 0 (size job.hall) (omega arith) (omega arith))))

-- ---- weight

pub weight : Job → Node → ℕ
weight job n = 2 ^ (count (is_free n.bars) (spots job) + count (is_free n.bars) (spots job))

weighs_one : (job : Job) (n : Node) → 0 < weight job n
unfolding weight
weighs_one job n = pow_pos (count (is_free n.bars) (spots job) + count (is_free n.bars) (spots job))

twice_less : (a b : ℕ) → a < b → 4 * 2 ^ (a + a) ≤ 2 ^ (b + b)
twice_less a b l =
    let h : 2 ^ suc (suc (a + a)) ≤ 2 ^ (b + b) = pow_mono (omega arith) in
    omega (arith, h)

-- ---- a place that a node's route uses is free

bar_binds : (i : ℕ) (bars : List Barred) (b : Barred) → Memᴰ b bars → T (eqb b.carrier i) → Memᴰ b.bar (bars_for i bars)
unfolding bars_for
bar_binds i [] b m e = absurd (Memᴰ.not-nil m)
bar_binds i (c ∷ bars) b m e =
    ⊎_elim
    (λ (q : b ≡ c). Memᴰ.append_left (bars_for i bars) (subst (λ (x : Barred). Memᴰ b.bar (only (eqb x.carrier i) x.bar)) q (member_only (eqb b.carrier i) e refl)))
    (λ (k : Memᴰ b bars). Memᴰ.append_right (only (eqb c.carrier i) c.bar) (bar_binds i bars b k e))
    (Memᴰ.cases_cons m)

module _ (job : Job) (n : Node) (good : Good job n) (i : ℕ) (li : i < job.count) where
  abbrev route : List ℕ
  route = route_of n.routes i

  kept_by : (b : Barred) → Memᴰ b n.bars → T (eqb b.carrier i) → ObeysBar job.horizon route b.bar
  unfolding Obeys
  kept_by b m e = (good.best i li).allowed.obeys b.bar (bar_binds i n.bars b m e)

  on_free : (t : ℕ) → t ≤ job.horizon → T (is_free n.bars (on i t (cell_of route t)))
  unfolding is_free forbids
  on_free t l =
      not_T (any_of (forbids (on i t (cell_of route t))) n.bars) (λ a.
      let (b, m, x) = any_member (forbids (on i t (cell_of route t))) n.bars a in
      let (e, y) = and_both (eqb b.carrier i) (bars_cell t (cell_of route t) b.bar) x in
      obeys_cell job.horizon route b.bar (kept_by b m e) t l y)

  way_free : (t : ℕ) → t < job.horizon → T (is_free n.bars (way i t (cell_of route t) (cell_of route (t + 1))))
  unfolding is_free forbids
  way_free t l =
      not_T (any_of (forbids (way i t (cell_of route t) (cell_of route (t + 1)))) n.bars) (λ a.
      let (b, m, x) = any_member (forbids (way i t (cell_of route t) (cell_of route (t + 1)))) n.bars a in
      let (e, y) = and_both (eqb b.carrier i) (bars_way t (cell_of route t) (cell_of route (t + 1)) b.bar) x in
      obeys_way job.horizon route b.bar (kept_by b m e) t l y)

  -- its cells are cells of the grid
  on_grid_lem : (t : ℕ) → t ≤ job.horizon → cell_of route t < size job.hall
  unfolding is_open
  on_grid_lem t l =
      ltb→lt (cell_of route t) (size job.hall)
      (and_both (ltb (cell_of route t) (size job.hall)) (eqb (get_or job.hall.bytes (cell_of route t) 0) open_byte) (lawful_opens job i route (good.best i li).allowed.lawful t l)).0

-- ---- a child weighs at most a quarter of its node

still_free : (b : Barred) (bars : List Barred) (s : Spot) → T (is_free (b ∷ bars) s) → T (is_free bars s)
unfolding is_free
still_free b bars s f = not_T (any_of (forbids s) bars) (λ a. T_not (any_of (forbids s) (b ∷ bars)) f (later a))
  where
    later : T (any_of (forbids s) bars) → T (any_of (forbids s) (b ∷ bars))
    later a = let (c, m, x) = any_member (forbids s) bars a in member_any (forbids s) (b ∷ bars) (Memᴰ.tail m) x

now_forbidden : (b : Barred) (bars : List Barred) (s : Spot) → T (forbids s b) → T (is_free (b ∷ bars) s) → ⊥
unfolding is_free
now_forbidden b bars s x f = T_not (any_of (forbids s) (b ∷ bars)) f (member_any (forbids s) (b ∷ bars) (Memᴰ.head refl) x)

child_lighter : (job : Job) (n : Node) (b : Barred) (s : Spot) → Memᴰ s (spots job) → T (is_free n.bars s) → T (forbids s b) → 4 * total_of (weight job) (child job n b) ≤ weight job n
unfolding child child_with total_of weight
child_lighter job n b s m f x = go (route_under job (b ∷ n.bars) b.carrier)
  where
    fewer : count (is_free (b ∷ n.bars)) (spots job) < count (is_free n.bars) (spots job)
    fewer = count_falls (is_free n.bars) (is_free (b ∷ n.bars)) (spots job) (still_free b n.bars) s m f (now_forbidden b n.bars s x)

    go : (o : Option (List ℕ)) → 4 * total_of (weight job) (child_with n b o) ≤ weight job n
    go none = omega arith
    go (some r) = omega (arith, twice_less (count (is_free (b ∷ n.bars)) (spots job)) (count (is_free n.bars) (spots job)) fewer)

two_lighter : (job : Job) (n : Node) (a b : Barred) → 4 * total_of (weight job) (child job n a) ≤ weight job n → 4 * total_of (weight job) (child job n b) ≤ weight job n → total_of (weight job) (child job n a ++ child job n b) < weight job n
two_lighter job n a b p q = omega (arith, total_append (weight job) (child job n a) (child job n b), weighs_one job n)

-- ---- the law that the search asks for

module _ (job : Job) (n : Node) (good : Good job n) where
  meeting_lighter : (i j t d : ℕ) → i < job.count → j < job.count → Meets (travels job n.routes) i j t d → total_of (weight job) (kids_for job n (Meeting i j t d)) < weight job n
  unfolding kids_for bar_one bar_two forbids bars_cell
  meeting_lighter i j t d li lj meets =
      let v : ℕ = cells_of n.routes i t in
      let lt : t ≤ job.horizon = omega (arith, meets.inside) in
      let vi : v < size job.hall = on_grid_lem job n good i li t lt in
      let same = meets.same in
      let fj : T (is_free n.bars (on j (t + d) v)) = subst (λ (c : ℕ). T (is_free n.bars (on j (t + d) c))) (sym meets.same) (on_free job n good j lj (t + d) meets.inside) in
      two_lighter job n (bar_one job n (Meeting i j t d)) (bar_two job n (Meeting i j t d))
      (child_lighter job n (bar_one job n (Meeting i j t d)) (on i t v) (on_listed job i t v li lt vi) (on_free job n good i li t lt)
      (both_and (eqb i i) (eqb v v && (leb t t && leb t (t + job.slip_of j))) (eqb_refl i)
      (both_and (eqb v v) (leb t t && leb t (t + job.slip_of j)) (eqb_refl v)
      (both_and (leb t t) (leb t (t + job.slip_of j)) (le→leb t t (omega arith)) (le→leb t (t + job.slip_of j) (omega arith))))))
      (child_lighter job n (bar_two job n (Meeting i j t d)) (on j (t + d) v) (on_listed job j (t + d) v lj meets.inside vi) fj
      (both_and (eqb j j) (eqb v v && (leb t (t + d) && leb (t + d) (t + job.slip_of i))) (eqb_refl j)
      (both_and (eqb v v) (leb t (t + d) && leb (t + d) (t + job.slip_of i)) (eqb_refl v)
      (both_and (leb t (t + d)) (leb (t + d) (t + job.slip_of i)) (le→leb t (t + d) (omega arith)) (le→leb (t + d) (t + job.slip_of i) (omega (arith, meets.near)))))))

  crossing_lighter : (b : Barred) (i t : ℕ) → i < job.count → t + 1 ≤ job.horizon → b ≡ record { carrier = i; bar = Cross (cells_of n.routes i t) (cells_of n.routes i (t + 1)) t } → 4 * total_of (weight job) (child job n b) ≤ weight job n
  unfolding forbids bars_way
  crossing_lighter b i t li l e =
      let u : ℕ = cells_of n.routes i t in
      let w : ℕ = cells_of n.routes i (t + 1) in
      child_lighter job n b (way i t u w)
      (way_listed job i t u li (omega arith) (on_grid_lem job n good i li t (omega arith)) w (on_grid_lem job n good i li (t + 1) l))
      (way_free job n good i li t (omega arith))
      (rw e (both_and (eqb i i) (eqb t t && (eqb u u && eqb w w)) (eqb_refl i)
      (both_and (eqb t t) (eqb u u && eqb w w) (eqb_refl t) (both_and (eqb u u) (eqb w w) (eqb_refl u) (eqb_refl w)))))

  swap_lighter : (i j t : ℕ) → i < job.count → j < job.count → Swaps (travels job n.routes) i j t → total_of (weight job) (kids_for job n (Swap i j t)) < weight job n
  unfolding kids_for bar_one bar_two
  swap_lighter i j t li lj swaps =
      two_lighter job n (bar_one job n (Swap i j t)) (bar_two job n (Swap i j t))
      (crossing_lighter (bar_one job n (Swap i j t)) i t li swaps.inside refl)
      (crossing_lighter (bar_two job n (Swap i j t)) j t lj swaps.inside refl)

  pub kids_lighter : node_clear job n ≡ false → total_of (weight job) (kids job n) < weight job n
  unfolding kids node_clear is_clear ChosenFact
  kids_lighter e = go (clash_of job n) (clash_fact job n) e
    where
      go : (c : Clash) → ChosenFact (travels job n.routes) job.count c → is_clear c ≡ false → total_of (weight job) (kids_for job n c) < weight job n
      go Clear fact e = absurd (true≢false e)
      go (Meeting i j t d) fact e = meeting_lighter i j t d fact.one fact.other fact.is
      go (Swap i j t) fact e = swap_lighter i j t fact.one fact.other fact.is
