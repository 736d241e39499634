-- Rows 0 to 6 of document 01's table and P1's row 16 are what `judge_with` gives: each test fails exactly where its fact holds, the
-- checks come in their order, and the first that is found is the first in the order told. Assumes nothing.
use Prim.Native.Nat.{ℕ, suc, ◌-◌, ◌≤◌, ◌<◌}
use native.Mathlib.Omega.{arith}
use mathlib.Core.Path.{◌≡◌, refl, ap}
use mathlib.Core.Bool.{Bool, true, false, not, ◌||◌}
use mathlib.Core.List.{List, map, Memᴰ}
use mathlib.Core.Logic.{◌⊎◌, inl, inr, ◌↔◌}
use mathlib.Core.Option.{Option, none, some}
use lib.Dec.{T, eqb, ltb}
use lib.ListN.{length, get_or}
use Rattle.std.specs.Prelude.{Ok, Err}
use borrow.Author.Tests.{eqb-true, eqb-false, ltb-true, ltb-false, lt-ltb, le-ltb, eq-eqb, ne_eqb, not-false}
use Rattle.lists.specs.Lists.{range, any_of, Every, refuse_if}
use Rattle.lists.proofs.Tests.{is_true, is_false, of_true, of_false, not_both, and_both, both_and, or_fails, both_fail, not_fails, or_either}
use Rattle.lists.proofs.Every.{every_member, every_map, every_each, every_range, every_below}
use Rattle.lists.proofs.Orders.{Ordered, ordered_range, ordered_rows, LeastFact, first_least}
use Rattle.lists.proofs.Members.{member_range, member_map, member_each}
use Rattle.lists.proofs.Passing.{fails_at, at_fails, FirstFact, first_fact}
use Rattle.hall.specs.Hall.{size, wrong_side, wrong_grid, wrong_byte, wrong_bytes, is_open}
use Rattle.hall.proofs.RightHall.{grid_right, bytes_right}
use Rattle.job.specs.Job.{Job, Pair, wrong_limits, wrong_capacity, wrong_count, wrong_carrier, first_wrong, share, pairs, first_shared}
use Rattle.job.specs.Due.{RightGrid, RightBytes, RightLimits, RightCapacity, RightCount, OpenCell, RightCarrier, NoneShare, FirstShare, RightJob, Due, due_0, due_1, due_2, due_3, due_4, due_5, due_6, due_16}
use Rattle.job.specs.Found.{shared_by}
use Rattle.job.specs.Verdict.{Verdict, verdict_told, carrier_verdict, shared_verdict, judge_with, judge, IsAccepted}
use Rattle.job.specs.declared.Told.{Told}
use Rattle.job.specs.declared.Refusal.TheVariants.{WrongGrid, WrongBytes, WrongLimits, WrongCount, SharedStart, SharedGoal}
use Rattle.job.proofs.Refused.{zero_accepted}

-- ---- each test fails exactly where its fact holds

side_fails : (n : ℕ) → 1 ≤ n → n ≤ 16 → wrong_side n ≡ false
unfolding wrong_side
side_fails n least most = both_fail (eqb n 0) (ltb 16 n) (ne_eqb n 0 (λ e. omega arith)) (le-ltb 16 n most)

grid_exact : (job : Job) → (wrong_grid job.hall ≡ false) ↔ RightGrid job
unfolding wrong_grid
grid_exact job = (
  λ e. let (w, h) = grid_right job.hall e in record { columns = w; rows = h },
  λ r. both_fail (wrong_side job.hall.width) (wrong_side job.hall.height) (side_fails job.hall.width r.columns.0 r.columns.1) (side_fails job.hall.height r.rows.0 r.rows.1),
)

byte_known : (b : ℕ) → wrong_byte b ≡ false → (b ≡ 46) ⊎ (b ≡ 35)
unfolding wrong_byte
byte_known b e = go (or_either (eqb b 46) (eqb b 35) (of_true (not-false (eqb b 46 || eqb b 35) e)))
  where
    go : T (eqb b 46) ⊎ T (eqb b 35) → (b ≡ 46) ⊎ (b ≡ 35)
    go (inl t) = inl (eqb-true b 46 (is_true t))
    go (inr t) = inr (eqb-true b 35 (is_true t))

known_byte : (b : ℕ) → (b ≡ 46) ⊎ (b ≡ 35) → wrong_byte b ≡ false
unfolding wrong_byte
known_byte b (inl e) = rw e refl
known_byte b (inr e) = rw e refl

bytes_exact : (job : Job) → (wrong_bytes job.hall ≡ false) ↔ RightBytes job
unfolding wrong_bytes
bytes_exact job =
    let wrongLength : Bool = not (eqb (length job.hall.bytes) (size job.hall)) in
    let wrongOne : Bool = any_of wrong_byte job.hall.bytes in (
      λ e. record {
        all = bytes_right job.hall e;
        known = λ v l. byte_known (get_or job.hall.bytes v 0) (fails_at wrong_byte job.hall.bytes (or_fails wrongLength wrongOne e).1 v l);
      },
      λ r. both_fail wrongLength wrongOne (rw (eq-eqb (length job.hall.bytes) (size job.hall) r.all) refl)
          (at_fails wrong_byte job.hall.bytes (λ v l. known_byte (get_or job.hall.bytes v 0) (r.known v l))),
    )

limits_exact : (job : Job) → (wrong_limits job ≡ false) ↔ RightLimits job
unfolding wrong_limits
limits_exact job = (λ e. record { horizon = ltb-false 63 job.horizon e }, λ r. le-ltb 63 job.horizon r.horizon)

pub capacity_exact : (n : ℕ) → (wrong_capacity n ≡ false) ↔ RightCapacity n
unfolding wrong_capacity
capacity_exact n = (
  λ e. let (z, m) = or_fails (eqb n 0) (ltb 1024 n) e in
      let some : n ≡ 0 → ⊥ = eqb-false n 0 z in
      record { least = omega (arith, some); most = ltb-false 1024 n m },
  λ r. both_fail (eqb n 0) (ltb 1024 n) (ne_eqb n 0 (λ e. omega (arith, r.least))) (le-ltb 1024 n r.most),
)

pub count_right : (job : Job) → wrong_count job ≡ false → (1 ≤ job.count) × (job.count ≤ 8)
unfolding wrong_count
count_right job e =
    let (z, l) = or_fails (eqb job.count 0) (ltb 8 job.count) e in
    let some : job.count ≡ 0 → ⊥ = eqb-false job.count 0 z in
    let most : job.count ≤ 8 = ltb-false 8 job.count l in
    omega (arith, some)

count_exact : (job : Job) → (wrong_count job ≡ false) ↔ RightCount job
unfolding wrong_count
count_exact job = (
  λ e. let (least, most) = count_right job e in record { least = least; most = most },
  λ r. both_fail (eqb job.count 0) (ltb 8 job.count) (ne_eqb job.count 0 (λ e. omega (arith, r.least))) (le-ltb 8 job.count r.most),
)

pub open_exact : (job : Job) (v : ℕ) → T (is_open job.hall v) ↔ OpenCell job v
unfolding is_open
open_exact job v =
    let inside : Bool = ltb v (size job.hall) in
    let open46 : Bool = eqb (get_or job.hall.bytes v 0) 46 in (
      λ t. let (i, b) = and_both inside open46 t in record { inside = ltb-true v (size job.hall) (is_true i); byte = eqb-true (get_or job.hall.bytes v 0) 46 (is_true b) },
      λ c. both_and inside open46 (of_true (lt-ltb v (size job.hall) c.inside)) (of_true (eq-eqb (get_or job.hall.bytes v 0) 46 c.byte)),
    )

carrier_exact : (job : Job) (i : ℕ) → (wrong_carrier job i ≡ false) ↔ RightCarrier job i
unfolding wrong_carrier
carrier_exact job i =
    let s : Bool = is_open job.hall (job.start_of i) in
    let g : Bool = is_open job.hall (job.goal_of i) in
    let k : Bool = ltb 4 (job.slip_of i) in (
      λ e. let (cells, c) = or_fails (not s || not g) k e in
          let (a, b) = or_fails (not s) (not g) cells in
          record { start = (open_exact job (job.start_of i)).0 (of_true (not-false s a)); goal = (open_exact job (job.goal_of i)).0 (of_true (not-false g b)); slip = ltb-false 4 (job.slip_of i) c },
      λ r. both_fail (not s || not g) k
          (both_fail (not s) (not g) (not_fails s ((open_exact job (job.start_of i)).1 r.start)) (not_fails g ((open_exact job (job.goal_of i)).1 r.goal)))
          (le-ltb 4 (job.slip_of i) r.slip),
    )

-- ---- the pairs, in their order

abbrev pair : ℕ → ℕ → Pair
pair i j = record { one = i; two = j }

abbrev row : ℕ → ℕ → List Pair
row m i = map (pair i) (range (suc i) (m - suc i))

-- 'least i, then least j'
abbrev NotAfter : Pair → Pair → Type 0
NotAfter p q = (p.one ≤ q.one) × (p.one ≡ q.one → p.two ≤ q.two)

pairs_ordered : (m : ℕ) → Ordered NotAfter (pairs m)
unfolding pairs
pairs_ordered m = ordered_rows NotAfter pair suc (λ i. m - suc i) (λ i j j' less. (omega arith, λ e. omega arith)) (λ i j i' j' less. (omega arith, λ e. absurd (omega arith))) m

pairs_have : (m i j : ℕ) → i < j → j < m → Memᴰ (record { one = i; two = j }) (pairs m)
unfolding pairs
pairs_have m i j l h =
    member_each (λ a. map (λ b. record { one = a; two = b }) (range (suc a) (m - suc a))) (range 0 m)
    (member_range {x = i} 0 m (omega arith) (omega arith))
    (member_map (λ b. record { one = i; two = b }) (range (suc i) (m - suc i)) (member_range {x = j} (suc i) (m - suc i) (omega arith) (omega arith)))

pub pairs_are : (m : ℕ) → Every (λ p. (p.one < p.two) × (p.two < m)) (pairs m)
unfolding pairs
pairs_are m =
    every_each (λ p. (p.one < p.two) × (p.two < m)) (row m) (range 0 m)
    (every_below (λ i. Every (λ p. (p.one < p.two) × (p.two < m)) (row m i)) m
    (λ i l. every_map (λ p. (p.one < p.two) × (p.two < m)) (pair i) (range (suc i) (m - suc i)) (every_range (λ j. (i < j) × (j < m)) (suc i) (m - suc i) (λ j low high. (omega arith, omega arith)))))

-- ---- the first two that share

module _ (end_of : ℕ → ℕ) (m : ℕ) where
  share_exact : (p : Pair) → T (share end_of p) ↔ (end_of p.one ≡ end_of p.two)
  unfolding share
  share_exact p = (λ t. eqb-true (end_of p.one) (end_of p.two) (is_true t), λ e. of_true (eq-eqb (end_of p.one) (end_of p.two) e))

  -- nobody, or the first pair
  unfoldable ShareFact : Option Pair → Type 0
  ShareFact none = NoneShare end_of m
  ShareFact (some p) = FirstShare end_of m p.one p.two

  share_fact : (o : Option Pair) → FirstFact (share end_of) (λ p. (p.one < p.two) × (p.two < m)) (pairs m) o → LeastFact (share end_of) NotAfter (pairs m) o → ShareFact o
  unfolding ShareFact FirstFact LeastFact
  share_fact none fact least = λ i j l h e. every_member (λ p. T (share end_of p) → ⊥) (pairs m) fact (pairs_have m i j l h) ((share_exact (pair i j)).1 e)
  share_fact (some p) fact least =
      record {
        apart = fact.1.0;
        inside = fact.1.1;
        shared = (share_exact p).0 fact.0;
        least = λ a b l h e. every_member (λ q. T (share end_of q) → NotAfter p q) (pairs m) least (pairs_have m a b l h) ((share_exact (pair a b)).1 e);
      }

  first_share : ShareFact (first_shared end_of m)
  unfolding first_shared
  first_share =
      share_fact (first_shared end_of m)
      (first_fact (share end_of) (λ p. (p.one < p.two) × (p.two < m)) (pairs m) (pairs_are m))
      (first_least (share end_of) NotAfter (λ p. (omega arith, λ e. omega arith)) (pairs m) (pairs_ordered m))

-- ---- what 6 and 16 say, whoever gives them

pub due_six : (job : Job) (N : Type 0) (told : Told) → Due job N told → told.number ≡ 6 → FirstShare job.start_of job.count told.carrier told.other
due_six job N told (due_1 w) e = absurd (omega arith)
due_six job N told (due_2 g w) e = absurd (omega arith)
due_six job N told (due_3 g b w) e = absurd (omega arith)
due_six job N told (due_4 g b l w) e = absurd (omega arith)
due_six job N told (due_5 g b l c i h w first) e = absurd (omega arith)
due_six job N told (due_6 g b l c carriers i j first) e = first
due_six job N told (due_16 g b l c carriers starts i j first) e = absurd (omega arith)
due_six job N told (due_0 r n) e = absurd (omega arith)

pub due_sixteen : (job : Job) (N : Type 0) (told : Told) → Due job N told → told.number ≡ 16 → NoneShare job.start_of job.count × FirstShare job.goal_of job.count told.carrier told.other
due_sixteen job N told (due_1 w) e = absurd (omega arith)
due_sixteen job N told (due_2 g w) e = absurd (omega arith)
due_sixteen job N told (due_3 g b w) e = absurd (omega arith)
due_sixteen job N told (due_4 g b l w) e = absurd (omega arith)
due_sixteen job N told (due_5 g b l c i h w first) e = absurd (omega arith)
due_sixteen job N told (due_6 g b l c carriers i j first) e = absurd (omega arith)
due_sixteen job N told (due_16 g b l c carriers starts i j first) e = (starts, first)
due_sixteen job N told (due_0 r n) e = absurd (omega arith)

-- ---- the rows, in the order of their numbers

module _ (wrongN : Bool) (N : Type 0) (exact : (wrongN ≡ false) ↔ N) (job : Job) where
  limits_both : ((wrong_limits job || wrongN) ≡ false) ↔ (RightLimits job × N)
  limits_both = (
    λ e. let (l, n) = or_fails (wrong_limits job) wrongN e in ((limits_exact job).0 l, exact.0 n),
    λ r. both_fail (wrong_limits job) wrongN ((limits_exact job).1 r.0) (exact.1 r.1),
  )

  abbrev AllCarriers : Type 0
  AllCarriers = (i : ℕ) → i < job.count → RightCarrier job i

  -- what is right before 6 and 16 are asked
  pub record Before : Type 0 where
    pub grid : RightGrid job
    pub bytes : RightBytes job
    pub limits : RightLimits job × N
    pub count : RightCount job
    pub carriers : AllCarriers

  goals_due : Before → NoneShare job.start_of job.count → (o : Option Pair) → ShareFact job.goal_of job.count o → Due job N (verdict_told (shared_verdict (λ i j. SharedGoal i j) o (Ok tt)))
  unfolding shared_verdict ShareFact
  goals_due r starts none fact = due_0 (record { grid = r.grid; bytes = r.bytes; limits = r.limits.0; count = r.count; carriers = r.carriers; starts = starts; goals = fact }) r.limits.1
  goals_due r starts (some p) fact = due_16 r.grid r.bytes r.limits r.count r.carriers starts p.one p.two fact

  shared_due : Before → (o : Option Pair) → ShareFact job.start_of job.count o
      → Due job N (verdict_told (shared_verdict (λ i j. SharedStart i j) o (shared_verdict (λ i j. SharedGoal i j) (first_shared job.goal_of job.count) (Ok tt))))
  unfolding shared_verdict ShareFact
  shared_due r none fact = goals_due r fact (first_shared job.goal_of job.count) (first_share job.goal_of job.count)
  shared_due r (some p) fact = due_6 r.grid r.bytes r.limits r.count r.carriers p.one p.two fact

  carriers_due : RightGrid job → RightBytes job → RightLimits job × N → RightCount job → (o : Option ℕ)
      → FirstFact (wrong_carrier job) (λ i. i < job.count) (range 0 job.count) o → LeastFact (wrong_carrier job) (λ i j. i ≤ j) (range 0 job.count) o → Due job N (verdict_told (carrier_verdict o (shared_by job.start_of job.goal_of job.count)))
  unfolding carrier_verdict FirstFact LeastFact
  carriers_due grid bytes limits count none fact least =
      shared_due (record {
        grid = grid;
        bytes = bytes;
        limits = limits;
        count = count;
        carriers = λ i l. (carrier_exact job i).0 (is_false (every_member (λ i. T (wrong_carrier job i) → ⊥) (range 0 job.count) fact (member_range {x = i} 0 job.count (omega arith) (omega arith))));
      }) (first_shared job.start_of job.count) (first_share job.start_of job.count)
  carriers_due grid bytes limits count (some i) fact least =
      due_5 grid bytes limits count i fact.1 (λ r. of_false ((carrier_exact job i).1 r) fact.0)
      (λ j l. (carrier_exact job j).0
      (is_false (λ t. let k : i ≤ j = every_member (λ j. T (wrong_carrier job j) → i ≤ j) (range 0 job.count) least (member_range {x = j} 0 job.count (omega arith) (omega (arith, fact.1))) t in omega arith)))

  abbrev from_carriers : Verdict
  from_carriers = carrier_verdict (first_wrong job) (shared_by job.start_of job.goal_of job.count)

  count_due : RightGrid job → RightBytes job → RightLimits job × N → (b : Bool) → wrong_count job ≡ b → Due job N (verdict_told (refuse_if b (Err WrongCount) from_carriers))
  unfolding refuse_if first_wrong
  count_due grid bytes limits true e = due_4 grid bytes limits (λ r. not_both e ((count_exact job).1 r))
  count_due grid bytes limits false e =
      carriers_due grid bytes limits ((count_exact job).0 e) (first_wrong job)
      (first_fact (wrong_carrier job) (λ i. i < job.count) (range 0 job.count) (every_below (λ i. i < job.count) job.count (λ i l. l)))
      (first_least (wrong_carrier job) (λ i j. i ≤ j) (λ i. omega arith) (range 0 job.count) (ordered_range (λ i j. i ≤ j) 0 job.count (λ i j low less high. omega arith)))

  limits_due : RightGrid job → RightBytes job → (b : Bool) → (wrong_limits job || wrongN) ≡ b → Due job N (verdict_told (refuse_if b (Err WrongLimits) (refuse_if (wrong_count job) (Err WrongCount) from_carriers)))
  unfolding refuse_if
  limits_due grid bytes true e = due_3 grid bytes (λ r. not_both e (limits_both.1 r))
  limits_due grid bytes false e = count_due grid bytes (limits_both.0 e) (wrong_count job) refl

  bytes_due : RightGrid job → (b : Bool) → wrong_bytes job.hall ≡ b → Due job N (verdict_told (refuse_if b (Err WrongBytes) (refuse_if (wrong_limits job || wrongN) (Err WrongLimits) (refuse_if (wrong_count job) (Err WrongCount) from_carriers))))
  unfolding refuse_if
  bytes_due grid true e = due_2 grid (λ r. not_both e ((bytes_exact job).1 r))
  bytes_due grid false e = limits_due grid ((bytes_exact job).0 e) (wrong_limits job || wrongN) refl

  -- the number that is given is the number that is due
  pub judged_due : Due job N (verdict_told (judge_with wrongN job))
  unfolding judge_with refuse_if
  judged_due = go (wrong_grid job.hall) refl
    where
      go : (b : Bool) → wrong_grid job.hall ≡ b → Due job N (verdict_told (refuse_if b (Err WrongGrid) (refuse_if (wrong_bytes job.hall) (Err WrongBytes) (refuse_if (wrong_limits job || wrongN) (Err WrongLimits) (refuse_if (wrong_count job) (Err WrongCount) from_carriers)))))
      go true e = due_1 (λ r. not_both e ((grid_exact job).1 r))
      go false e = bytes_due ((grid_exact job).0 e) (wrong_bytes job.hall) refl

  -- ---- what is accepted

  zero_right : (told : Told) → Due job N told → told.number ≡ 0 → RightJob job × N
  zero_right told (due_1 w) e = absurd (omega arith)
  zero_right told (due_2 g w) e = absurd (omega arith)
  zero_right told (due_3 g b w) e = absurd (omega arith)
  zero_right told (due_4 g b l w) e = absurd (omega arith)
  zero_right told (due_5 g b l c i h w first) e = absurd (omega arith)
  zero_right told (due_6 g b l c carriers i j first) e = absurd (omega arith)
  zero_right told (due_16 g b l c carriers starts i j first) e = absurd (omega arith)
  zero_right told (due_0 r n) e = (r, n)

  right_zero : (told : Told) → Due job N told → RightJob job × N → told.number ≡ 0
  right_zero told (due_1 w) r = absurd (w r.0.grid)
  right_zero told (due_2 g w) r = absurd (w r.0.bytes)
  right_zero told (due_3 g b w) r = absurd (w (r.0.limits, r.1))
  right_zero told (due_4 g b l w) r = absurd (w r.0.count)
  right_zero told (due_5 g b l c i h w first) r = absurd (w (r.0.carriers i h))
  right_zero told (due_6 g b l c carriers i j first) r = absurd (r.0.starts i j first.apart first.inside first.shared)
  right_zero told (due_16 g b l c carriers starts i j first) r = absurd (r.0.goals i j first.apart first.inside first.shared)
  right_zero told (due_0 q n) r = refl

  pub accepted_right : (judge_with wrongN job ≡ Ok tt) ↔ (RightJob job × N)
  accepted_right = (
    λ e. zero_right (verdict_told (judge_with wrongN job)) judged_due (ap (λ (v : Verdict). (verdict_told v).number) e),
    λ r. zero_accepted (judge_with wrongN job) (right_zero (verdict_told (judge_with wrongN job)) judged_due r),
  )

  -- ---- 6 and 16, exactly: of a job that passes checks 1 to 5

  -- two carriers with one end
  abbrev Share : (ℕ → ℕ) → Type 0
  Share end_of = (i j : ℕ) × (i < j) × (j < job.count) × (end_of i ≡ end_of j)

  starts_six : Before → (told : Told) → Due job N told → Share job.start_of → told.number ≡ 6
  starts_six r told (due_1 w) s = absurd (w r.grid)
  starts_six r told (due_2 g w) s = absurd (w r.bytes)
  starts_six r told (due_3 g b w) s = absurd (w r.limits)
  starts_six r told (due_4 g b l w) s = absurd (w r.count)
  starts_six r told (due_5 g b l c i h w first) s = absurd (w (r.carriers i h))
  starts_six r told (due_6 g b l c carriers i j first) s = refl
  starts_six r told (due_16 g b l c carriers starts i j first) (a, b', apart, inside, e) = absurd (starts a b' apart inside e)
  starts_six r told (due_0 q n) (a, b, apart, inside, e) = absurd (q.starts a b apart inside e)

  goals_sixteen : Before → (told : Told) → Due job N told → NoneShare job.start_of job.count → Share job.goal_of → told.number ≡ 16
  goals_sixteen r told (due_1 w) apart s = absurd (w r.grid)
  goals_sixteen r told (due_2 g w) apart s = absurd (w r.bytes)
  goals_sixteen r told (due_3 g b w) apart s = absurd (w r.limits)
  goals_sixteen r told (due_4 g b l w) apart s = absurd (w r.count)
  goals_sixteen r told (due_5 g b l c i h w first) apart s = absurd (w (r.carriers i h))
  goals_sixteen r told (due_6 g b l c carriers i j first) apart s = absurd (apart i j first.apart first.inside first.shared)
  goals_sixteen r told (due_16 g b l c carriers starts i j first) apart s = refl
  goals_sixteen r told (due_0 q n) apart (a, b, less, inside, e) = absurd (q.goals a b less inside e)

  pub six_exactly : Before → ((verdict_told (judge_with wrongN job)).number ≡ 6) ↔ Share job.start_of
  six_exactly r = (
    λ e. let first = due_six job N (verdict_told (judge_with wrongN job)) judged_due e in (_, _, first.apart, first.inside, first.shared),
    λ s. starts_six r (verdict_told (judge_with wrongN job)) judged_due s,
  )

  pub sixteen_exactly : Before → ((verdict_told (judge_with wrongN job)).number ≡ 16) ↔ (NoneShare job.start_of job.count × Share job.goal_of)
  sixteen_exactly r = (
    λ e. let (starts, first) = due_sixteen job N (verdict_told (judge_with wrongN job)) judged_due e in (starts, (_, _, first.apart, first.inside, first.shared)),
    λ s. goals_sixteen r (verdict_told (judge_with wrongN job)) judged_due s.0 s.1,
  )

-- the planner's job, and that of the two checks
pub accepted_exactly : (job : Job) (n : ℕ) → (judge_with (wrong_capacity n) job ≡ Ok tt) ↔ (RightJob job × RightCapacity n)
accepted_exactly job n = accepted_right (wrong_capacity n) (RightCapacity n) (capacity_exact n) job

pub checks_accept_exactly : (job : Job) → IsAccepted job ↔ RightJob job
unfolding judge
checks_accept_exactly job =
    let exact : (judge_with false job ≡ Ok tt) ↔ (RightJob job × Unit {0}) = accepted_right false (Unit {0}) (λ e. tt, λ u. refl) job in
    (λ e. (exact.0 e).0, λ r. exact.1 (r, tt))

-- and the number that each gives
pub planner_due : (job : Job) (n : ℕ) → Due job (RightCapacity n) (verdict_told (judge_with (wrong_capacity n) job))
planner_due job n = judged_due (wrong_capacity n) (RightCapacity n) (capacity_exact n) job

pub check_due : (job : Job) → Due job (Unit {0}) (verdict_told (judge job))
unfolding judge
check_due job = judged_due false (Unit {0}) (λ e. tt, λ u. refl) job
