-- What the code of the job check rests on: each way through the checks gives what the definition gives where its tests came out
-- so. Assumes nothing.
use Prim.Native.Nat.{ℕ, suc, ◌+◌, ◌-◌, ◌≤◌, ◌<◌}
use native.Mathlib.Numerals.{add-one}
use native.Mathlib.Omega.{arith}
use mathlib.Core.Path.{◌≡◌, refl, ap}
use mathlib.Core.Bool.{Bool, true, false, cond}
use mathlib.Core.List.{List, [], ◌∷◌, map}
use mathlib.Core.Option.{Option as First, none, some}
use lib.ListN.{length, take}
use Rattle.std.proofs.Common.{length-take-le}
use Rattle.std.proofs.lemmas.List.{get_or-take}
use Rattle.std.specs.Prelude.{Option, Some, None, find, ◌==◌}
use Rattle.std.specs.List.{range_with_len}
use Rattle.lists.specs.Lists.{range, each, first_of}
use Rattle.lists.proofs.Every.{every_imply}
use Rattle.lists.proofs.Loops.{first_each_found, first_each_passed, first_each_done}
use Rattle.lists.proofs.Passing.{first_same}
use Rattle.lists.proofs.Ranges.{range_listed}
use Rattle.job.specs.Job.{Job, Pair, wrong_carrier, first_wrong, share, pairs, first_shared}
use Rattle.job.specs.Team.{team_in, lent_job}
use Rattle.job.specs.Found.{end_in}
use Rattle.job.specs.declared.LentJob.{LentJob}
use Rattle.job.proofs.Due.{pairs_are}

-- ---- the first that passes, as `find` finds it

module _ {A B : Type 0} (f : A → B) where
  -- what was found, as the definitions say it
  abbrev pub as_first : Option A → First B
  as_first None = none
  as_first (Some x) = some (f x)

  found_first : (p : B → Bool) (xs : List A) → first_of p (map f xs) ≡ as_first (find (λ x. p (f x)) xs)
  unfolding first_of
  found_first p [] = refl
  found_first p (x ∷ xs) = elim (p (f x)) as (λ (b : Bool). (elim b [ true ↦ some (f x) | false ↦ first_of p (map f xs) ]) ≡ as_first (cond b (Some x) (find (λ x. p (f x)) xs))) [ true ↦ refl | false ↦ found_first p xs ]

abbrev same : ℕ → ℕ
same i = i

map_same : (xs : List ℕ) → map same xs ≡ xs
map_same [] = refl
map_same (x ∷ xs) = ap (λ ys. x ∷ ys) (map_same xs)

pub first_wrong_found : (job : Job) → first_wrong job ≡ as_first same (find (wrong_carrier job) (range_with_len 0 job.count))
unfolding first_wrong
first_wrong_found job = rw (range_listed, ← map_same (range 0 job.count)) (rw (found_first same (wrong_carrier job) (range 0 job.count), map_same) refl)

-- ---- the pairs, carrier by carrier

abbrev pair : ℕ → ℕ → Pair
pair i j = record { one = i; two = j }

abbrev pub or_else : {A : Type 0} → First A → First A → First A
or_else none o = o
or_else (some x) o = some x

-- the pairs of carrier i and one after it, of m carriers
abbrev pub pairs_from : ℕ → ℕ → List Pair
pairs_from m i = map (pair i) (range (suc i) (m - suc i))

pub pairs_from_lem : (m i : ℕ) → pairs_from m i ≡ map (λ j. record { one = i; two = j }) (range (i + 1) (m - (i + 1)))
pairs_from_lem m i = rw add-one

module _ (end_of : ℕ → ℕ) (m : ℕ) where
  -- the first two that share, of the pairs whose first carrier is i or one after it
  unfoldable pub shared_from : ℕ → First Pair
  shared_from i = first_of (share end_of) (each (pairs_from m) (range i (m - i)))

  row_found : (i : ℕ) → first_of (share end_of) (pairs_from m i) ≡ as_first (pair i) (find (λ j. end_of i == end_of j) (range_with_len (i + 1) (m - (i + 1))))
  unfolding share
  row_found i = rw (add-one, range_listed) (found_first (pair i) (share end_of) (range (suc i) (m - suc i)))

  pub shared_first : first_shared end_of m ≡ shared_from 0
  unfolding first_shared pairs shared_from
  shared_first = let e : m - 0 ≡ m = omega arith in rw e

  pub shared_next : (i : ℕ) → i < m → shared_from i ≡ or_else (as_first (pair i) (find (λ j. end_of i == end_of j) (range_with_len (i + 1) (m - (i + 1))))) (shared_from (i + 1))
  unfolding shared_from
  shared_next i h = go (first_of (share end_of) (pairs_from m i)) refl
    where
      go : (o : First Pair) → first_of (share end_of) (pairs_from m i) ≡ o → first_of (share end_of) (each (pairs_from m) (range i (m - i))) ≡ or_else (as_first (pair i) (find (λ j. end_of i == end_of j) (range_with_len (i + 1) (m - (i + 1))))) (first_of (share end_of) (each (pairs_from m) (range (i + 1) (m - (i + 1)))))
      go none e = rw (← row_found i, e) (first_each_passed (share end_of) (pairs_from m) i m h e)
      go (some p) e = rw (← row_found i, e) (first_each_found (share end_of) (pairs_from m) i m h p e)

  pub shared_last : (i : ℕ) → m ≤ i → shared_from i ≡ none
  unfolding shared_from
  shared_last i h = first_each_done (share end_of) (pairs_from m) i m h

-- of the first n cells, those of n carriers
pub shared_taken : (cells : List ℕ) (n : ℕ) → n ≤ length cells → first_shared (end_in (take n cells)) (length (take n cells)) ≡ first_shared (end_in cells) n
unfolding first_shared share
shared_taken cells n fits =
    let same : (i : ℕ) → i < n → end_in (take n cells) i ≡ end_in cells i = λ i l. get_or-take n cells i 0 l in
    let all : length (take n cells) ≡ n = length-take-le n cells fits in
    rw all (first_same (share (end_in (take n cells))) (share (end_in cells)) (pairs n)
    (every_imply (λ p inside. rw (same p.one (omega (arith, inside.0, inside.1)), same p.two inside.1)) (pairs n) (pairs_are n)))

-- ---- answer 5 does not look at H

pub carriers_same : (job : LentJob) → first_wrong (lent_job job) ≡ first_wrong (team_in (lent_job job).hall job.team)
unfolding first_wrong wrong_carrier
carriers_same job = refl
