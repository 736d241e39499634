-- A plan that stands in the output: its routes are H + 1 cells each, one after the other, so the output is at least as long as a plan,
-- and the route of each carrier is read back in it. Assumes nothing.
use Prim.Native.Nat.{ℕ, zero, suc, ◌+◌, ◌*◌, ◌≤◌, ◌<◌}
use native.Mathlib.Nat.{suc-mul}
use native.Mathlib.Omega.{arith}
use mathlib.Core.List.{List, [], ◌∷◌, ◌++◌, append_assoc}
use mathlib.Core.Path.{◌≡◌, ap, ◌∙◌}
use lib.ListN.{length, take, drop, length-append}
use lib.Seq.{take_at, drop_at, drop-drop}
use Rattle.lists.specs.Lists.{each}
use Rattle.job.specs.Job.{Job, plan_length}
use Rattle.routes.specs.Route.{route_in}
use Rattle.tree.specs.Plan.{Routes, route_of, Family}
use Rattle.tables.specs.Tables.{plan_written}

-- ---- lists of one length, one after the other

abbrev Even : ℕ → Routes → Type 0
Even size rs = (i : ℕ) → i < length rs → length (route_of rs i) ≡ size

joined_length : (size : ℕ) (rs : Routes) → Even size rs → length (each (λ r. r) rs) ≡ length rs * size
unfolding each
joined_length size [] even = omega arith
joined_length size (r ∷ rs) even =
    let first : length r ≡ size = even 0 (omega arith) in
    let rest : length (each (λ r. r) rs) ≡ length rs * size = joined_length size rs (λ i l. even (suc i) (omega arith)) in
    omega (arith, length-append r (each (λ r. r) rs), suc-mul (length rs) size)

joined_part : (size : ℕ) (rs : Routes) (i : ℕ) (more : List ℕ) → Even size rs → i < length rs → take size (drop (i * size) (each (λ r. r) rs ++ more)) ≡ route_of rs i
unfolding each
joined_part size [] i more even l = absurd (omega arith)
joined_part size (r ∷ rs) zero more even l =
    let z : 0 * size ≡ 0 = omega arith in
    rw (z, append_assoc r (each (λ r. r) rs) more) (take_at r (each (λ r. r) rs ++ more) size (even 0 (omega arith)))
joined_part size (r ∷ rs) (suc i) more even l =
    let s : suc i * size ≡ size + i * size = omega (arith, suc-mul i size) in
    let past : drop size ((r ++ each (λ r. r) rs) ++ more) ≡ each (λ r. r) rs ++ more =
    ap (drop size) (append_assoc r (each (λ r. r) rs) more) ∙ drop_at r (each (λ r. r) rs ++ more) size (even 0 (omega arith)) in
    rw (s, ← drop-drop (i * size) size ((r ++ each (λ r. r) rs) ++ more), past) (joined_part size rs i more (λ j k. even (suc j) (omega arith)) (omega arith))

-- ---- the routes of a plan in the output

module _ (job : Job) (rs : Routes) (family : Family job rs) (output : List ℕ) where
  even : Even (job.horizon + 1) rs
  even i l = (family.lawful i (omega (arith, family.all))).long

  pub plan_long : plan_length job ≤ length (plan_written job rs output)
  unfolding plan_written
  plan_long =
      let long : length (each (λ r. r) rs) ≡ plan_length job = joined_length (job.horizon + 1) rs even ∙ ap (λ (m : ℕ). m * (job.horizon + 1)) family.all in
      omega (arith, length-append (each (λ r. r) rs) (drop (plan_length job) output))

  pub route_held : (i : ℕ) → i < job.count → route_in job.horizon (plan_written job rs output) i ≡ route_of rs i
  unfolding plan_written route_in
  route_held i l = joined_part (job.horizon + 1) rs i (drop (plan_length job) output) even (omega (arith, family.all))
