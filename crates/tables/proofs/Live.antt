-- The open nodes of the tables, in the order of their numbers. The node that `least_open` gives is the first of least sum, so it is
-- the one that `take_least` takes; closing it leaves the others, since a node reads the first six columns and its own stretch only.
-- Assumes nothing.
use Prim.Native.Nat.{ℕ, suc, ◌+◌, ◌-◌, ◌*◌, ◌≤◌, ◌<◌}
use native.Mathlib.Omega.{arith}
use mathlib.Core.Path.{◌≡◌, refl, ap, ◌∙◌}
use mathlib.Core.List.{List, [], ◌∷◌, ◌++◌, append-nil}
use mathlib.Core.Option.{some}
use Rattle.std.specs.Prelude.{None, Some}
use lib.ListN.{length, set, length-set}
use lib.Seq.{get_or-set_same, get_or-set_other}
use Rattle.lists.specs.Lists.{range, sum_to, only, each, Every}
use Rattle.lists.proofs.Every.{only_every, every_each, every_range, every_below}
use Rattle.lists.proofs.Ranges.{each_same, each_none, each_split}
use Rattle.job.specs.Job.{Job}
use Rattle.routes.specs.Route.{cost, route_in}
use Rattle.records.specs.Columns.{entry, sum_at}
use Rattle.search.specs.Search.{take_least}
use Rattle.search.proofs.Taken.{split_taken}
use Rattle.tree.specs.Tree.{Node, node_sum, node_clear, kids}
use Rattle.tables.specs.State.{stretch_at, node_at, is_open_at, live, Sound}
use Rattle.tables.specs.Post.{LeastAt, LeastFact}
use Rattle.records.proofs.Chain.{chain_same}
use Rattle.tables.proofs.Costs.{total_in}
use Rattle.tables.proofs.Records.{other_node, earlier_column}

-- ---- a node reads its record's first six columns, those of smaller numbers, and its stretch

module _ (job : Job) (capacity : ℕ) (before after : List ℕ) (plans now : List ℕ) where
  pub node_same : (x : ℕ) → ((c y : ℕ) → c < 6 → y ≤ x → entry capacity after c y ≡ entry capacity before c y) → stretch_at job now x ≡ stretch_at job plans x → node_at job capacity after now x ≡ node_at job capacity before plans x
  unfolding node_at
  node_same x h s = rw (chain_same capacity before after x h, s)

  -- tables that agree on the records and stretches of the first n nodes have the same open ones
  pub live_same : (n : ℕ) → ((c y : ℕ) → c < 8 → y < n → entry capacity after c y ≡ entry capacity before c y) → ((y : ℕ) → y < n → stretch_at job now y ≡ stretch_at job plans y) → live job capacity after now n ≡ live job capacity before plans n
  unfolding live is_open_at
  live_same n h s =
      each_same (λ x. only (is_open_at capacity after x) (node_at job capacity after now x)) (λ x. only (is_open_at capacity before x) (node_at job capacity before plans x)) 0 n
      (λ y l k. rw (h 7 y (omega arith) (omega arith), node_same y (λ c z i j. h c z (omega arith) (omega arith)) (s y (omega arith))))

module _ (job : Job) (capacity : ℕ) (columns plans : List ℕ) where
  -- a node's sum is the total of the costs of the routes in its stretch
  pub node_sum_lem : (x : ℕ) → node_sum job (node_at job capacity columns plans x) ≡ sum_to job.count (λ i. cost (job.goal_of i) (route_in job.horizon (stretch_at job plans x) i))
  unfolding node_sum node_at
  node_sum_lem x = total_in job (stretch_at job plans x)

  -- what a node adds to the open ones
  abbrev made : ℕ → List Node
  made x = only (is_open_at capacity columns x) (node_at job capacity columns plans x)

  pub live_more : (n : ℕ) → live job capacity columns plans (n + 1) ≡ live job capacity columns plans n ++ only (is_open_at capacity columns n) (node_at job capacity columns plans n)
  unfolding live each range
  live_more n = each_split made n 0 ∙ ap (λ (l : List Node). live job capacity columns plans n ++ l) (append-nil (made n))

  pub live_none : (n : ℕ) → LeastFact capacity columns n None → live job capacity columns plans n ≡ []
  unfolding live LeastFact only
  live_none n h = each_none made 0 n (λ y l k. rw (h y (omega arith)) refl)

  -- ---- a node closed

  -- the columns that a node reads stand before the last
  closed_entry : (x c y : ℕ) → c < 7 → y < capacity → entry capacity (set columns (7 * capacity + x) 0) c y ≡ entry capacity columns c y
  closed_entry x c y k l = get_or-set_other columns (7 * capacity + x) (c * capacity + y) 0 0 (λ e. omega (arith, earlier_column capacity c 7 y l k))

  pub closed_node : (x y : ℕ) → y < capacity → node_at job capacity (set columns (7 * capacity + x) 0) plans y ≡ node_at job capacity columns plans y
  closed_node x y l =
      node_same job capacity columns (set columns (7 * capacity + x) 0) plans plans y (λ c z k j. closed_entry x c z (omega arith) (omega arith)) refl

  pub sound_closed : (n x : ℕ) → Sound job capacity columns plans n → Sound job capacity (set columns (7 * capacity + x) 0) plans n
  sound_closed n x sound =
      record {
        columns_long = omega (arith, sound.columns_long, length-set columns (7 * capacity + x) 0);
        plans_long = sound.plans_long;
        small = sound.small;
        made = sound.made;
        down = λ y k l. rw (closed_entry x 0 y (omega arith) (omega (arith, sound.made))) (sound.down y k l);
        sums = λ y l.
            let small : y < capacity = omega (arith, sound.made) in
            rw (closed_entry x 6 y (omega arith) small, closed_node x y small) (sound.sums y l);
      }

  -- ---- the node taken: x, the first of least sum, closed

  module _ (n : ℕ) (sound : Sound job capacity columns plans n) (x : ℕ) (least : LeastAt capacity columns n x) where
    abbrev closed : List ℕ
    closed = set columns (7 * capacity + x) 0

    abbrev left : ℕ → List Node
    left y = only (is_open_at capacity closed y) (node_at job capacity closed plans y)

    abbrev node : Node
    node = node_at job capacity columns plans x

    inside : x < capacity
    inside = omega (arith, sound.made, least.inside)

    closed_here : left x ≡ []
    unfolding is_open_at only
    closed_here =
        let room : 7 * capacity + x < length columns = omega (arith, sound.columns_long, inside) in
        rw (get_or-set_same columns (7 * capacity + x) 0 0 room) refl

    others_kept : (y : ℕ) → y < n → (y ≡ x → ⊥) → left y ≡ made y
    unfolding is_open_at
    others_kept y l ne =
        let small : y < capacity = omega (arith, sound.made) in
        rw (get_or-set_other columns (7 * capacity + x) (7 * capacity + y) 0 0 (other_node capacity 7 7 x y inside small ne), closed_node x y small)

    -- the sums of the records are those of the nodes
    sum_lt : (y : ℕ) → y < n → sum_at capacity columns x < sum_at capacity columns y → node_sum job node < node_sum job (node_at job capacity columns plans y)
    sum_lt y l h = omega (arith, sound.sums x least.inside, sound.sums y l)

    sum_le : (y : ℕ) → y < n → sum_at capacity columns x ≤ sum_at capacity columns y → node_sum job node ≤ node_sum job (node_at job capacity columns plans y)
    sum_le y l h = omega (arith, sound.sums x least.inside, sound.sums y l)

    above_before : Every (λ o. node_sum job node < node_sum job o) (each made (range 0 x))
    above_before =
        every_each (λ o. node_sum job node < node_sum job o) made (range 0 x)
        (every_below (λ y. Every (λ o. node_sum job node < node_sum job o) (made y)) x
        (λ y k.
        only_every (λ o. node_sum job node < node_sum job o) (is_open_at capacity columns y) (node_at job capacity columns plans y)
        (λ e. sum_lt y (omega (arith, least.inside)) (least.first y (omega arith) e))))

    least_after : (m : ℕ) → n ≡ x + suc m → Every (λ o. node_sum job node ≤ node_sum job o) (each made (range (suc x) m))
    least_after m s =
        every_each (λ o. node_sum job node ≤ node_sum job o) made (range (suc x) m)
        (every_range (λ y. Every (λ o. node_sum job node ≤ node_sum job o) (made y)) (suc x) m
        (λ y l k.
        only_every (λ o. node_sum job node ≤ node_sum job o) (is_open_at capacity columns y) (node_at job capacity columns plans y)
        (λ e. sum_le y (omega arith) (least.least y (omega arith) e))))

    live_split : (m : ℕ) → n ≡ x + suc m → live job capacity columns plans n ≡ each made (range 0 x) ++ node ∷ each made (range (suc x) m)
    unfolding live only
    live_split m s = rw s (each_split made x m ∙ rw least.opened refl)

    left_split : (m : ℕ) → n ≡ x + suc m → live job capacity closed plans n ≡ each made (range 0 x) ++ each made (range (suc x) m)
    unfolding live
    left_split m s =
        rw s
        (each_split left x m
        ∙ rw (
          closed_here,
          each_same left made 0 x (λ y l k. others_kept y (omega arith) (λ e. omega arith)),
          each_same left made (suc x) m (λ y l k. others_kept y (omega arith) (λ e. omega arith)),
        )
        refl)

    taken_at : (m : ℕ) → n ≡ x + suc m → take_least (node_sum job) (node_clear job) (kids job) (live job capacity columns plans n) ≡ some (record { node = node; rest = live job capacity closed plans n })
    taken_at m s =
        rw (live_split m s, left_split m s)
        (split_taken (node_sum job) (node_clear job) (kids job) (each made (range 0 x)) node (each made (range (suc x) m)) above_before (least_after m s))

  pub live_taken : (n : ℕ) → Sound job capacity columns plans n → (x : ℕ) → LeastFact capacity columns n (Some x) → take_least (node_sum job) (node_clear job) (kids job) (live job capacity columns plans n) ≡ some (record { node = node_at job capacity columns plans x; rest = live job capacity (set columns (7 * capacity + x) 0) plans n })
  unfolding LeastFact
  live_taken n sound x least = taken_at n sound x least (n - suc x) (omega (arith, least.inside))
