-- 7 is due exactly where a table is too short, and tells the first: the test of a table's number is that of its length. Assumes nothing.
use Prim.Native.Nat.{ℕ, zero, suc, ◌≤◌, ◌<◌}
use native.Mathlib.Omega.{arith}
use mathlib.Core.Bool.{Bool}
use mathlib.Core.Logic.{◌↔◌}
use mathlib.Core.Option.{Option, none, some}
use mathlib.Core.Path.{◌≡◌, refl, subst}
use lib.Dec.{T, ltb}
use borrow.Author.Tests.{lt-ltb, ltb-true}
use Rattle.lists.specs.Lists.{range}
use Rattle.lists.proofs.Every.{every_member, every_below}
use Rattle.lists.proofs.Members.{member_range}
use Rattle.lists.proofs.Orders.{ordered_range, LeastFact, first_least}
use Rattle.lists.proofs.Passing.{FirstFact, first_fact}
use Rattle.lists.proofs.Tests.{is_true, of_true}
use Rattle.job.specs.Job.{Job}
use Rattle.tables.specs.Tables.{Tables, lent_length, needed_length, first_short, FirstShort, LongTables}

module _ (job : Job) (n : ℕ) (ts : Tables) where
  abbrev is_short : ℕ → Bool
  is_short t = ltb (lent_length ts t) (needed_length job n t)

  -- a table that fails the test is long enough
  long_by : (t : ℕ) → (T (is_short t) → ⊥) → needed_length job n t ≤ lent_length ts t
  long_by t fails =
      let other : lent_length ts t < needed_length job n t → ⊥ = λ l. fails (of_true (lt-ltb (lent_length ts t) (needed_length job n t) l)) in
      omega (arith, other)

  -- no table is short, or the first that is
  unfoldable pub LengthsFact : Option ℕ → Type 0
  LengthsFact none = LongTables job n ts
  LengthsFact (some t) = FirstShort job n ts t

  fact : (o : Option ℕ) → FirstFact is_short (λ t. t < 4) (range 0 4) o → LeastFact is_short (λ s t. s ≤ t) (range 0 4) o → LengthsFact o
  unfolding LengthsFact FirstFact LeastFact
  fact none found least =
      let long : (t : ℕ) → t < 4 → needed_length job n t ≤ lent_length ts t = λ t l. long_by t (every_member (λ t. T (is_short t) → ⊥) (range 0 4) found (member_range {x = t} 0 4 (omega arith) (omega arith))) in
      record { columns = long 0 (omega arith); plans = long 1 (omega arith); layers = long 2 (omega arith); output = long 3 (omega arith) }
  fact (some t) found least =
      record {
        short = ltb-true (lent_length ts t) (needed_length job n t) (is_true found.0);
        first = λ s l. long_by s (λ short. let k : t ≤ s = every_member (λ s. T (is_short s) → t ≤ s) (range 0 4) least (member_range {x = s} 0 4 (omega arith) (omega (arith, found.1))) short in omega arith);
      }

  pub lengths_fact : LengthsFact (first_short job n ts)
  unfolding first_short
  lengths_fact =
      fact (first_short job n ts)
      (first_fact is_short (λ t. t < 4) (range 0 4) (every_below (λ t. t < 4) 4 (λ t l. l)))
      (first_least is_short (λ s t. s ≤ t) (λ t. omega arith) (range 0 4) (ordered_range (λ s t. s ≤ t) 0 4 (λ s t low less high. omega arith)))

  -- there are four tables
  pub short_in : (t : ℕ) → FirstShort job n ts t → t < 4
  short_in zero f = omega arith
  short_in (suc zero) f = omega arith
  short_in (suc (suc zero)) f = omega arith
  short_in (suc (suc (suc zero))) f = omega arith
  short_in (suc (suc (suc (suc t)))) f = absurd (omega (arith, f.short))

  -- a short table is none that is long enough
  pub short_not_long : (t : ℕ) → FirstShort job n ts t → LongTables job n ts → ⊥
  short_not_long zero f long = omega (arith, f.short, long.columns)
  short_not_long (suc zero) f long = omega (arith, f.short, long.plans)
  short_not_long (suc (suc zero)) f long = omega (arith, f.short, long.layers)
  short_not_long (suc (suc (suc zero))) f long = omega (arith, f.short, long.output)
  short_not_long (suc (suc (suc (suc t)))) f long = omega (arith, f.short)

  pub long_exact : (first_short job n ts ≡ none) ↔ LongTables job n ts
  unfolding LengthsFact
  long_exact = (λ e. subst LengthsFact e lengths_fact, λ long. go (first_short job n ts) lengths_fact long)
    where
      go : (o : Option ℕ) → LengthsFact o → LongTables job n ts → o ≡ none
      go none f long = refl
      go (some t) f long = absurd (short_not_long t f long)

  -- there is one first
  pub short_one : (t t' : ℕ) → FirstShort job n ts t → FirstShort job n ts t' → t ≡ t'
  short_one t t' f f' =
      let a : t < t' → ⊥ = λ l. omega (arith, f.short, f'.first t l) in
      let b : t' < t → ⊥ = λ l. omega (arith, f'.short, f.first t' l) in
      omega (arith, a, b)
