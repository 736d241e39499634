-- Two results that the contracts of `least_open` and `write_record` allow are equal. Assumes nothing.
use Prim.Native.Nat.{ℕ, zero, suc, ◌+◌, ◌-◌, ◌*◌, ◌/◌, ◌%◌, ◌≤◌, ◌<◌}
use native.Mathlib.Nat.{div-add-mod', div-lt_iff_lt-mul, mod-lt}
use native.Mathlib.Decide.{ℕ_discrete, dec_lt, dec_le}
use native.Mathlib.Omega.{arith}
use mathlib.Core.Path.{◌≡◌, refl, sym, ap, ◌∙◌}
use mathlib.Core.List.{List}
use Rattle.std.specs.Prelude.{Option, Some, None}
use lib.ListN.{get_or, drop}
use lib.Seq.{get_or-drop}
use Rattle.lists.proofs.Parts.{same_entries}
use Rattle.lists.proofs.Tests.{not_both}
use Rattle.routes.specs.declared.Bar.{Bar}
use Rattle.records.specs.Columns.{entry}
use Rattle.tables.specs.Post.{LeastAt, LeastFact, Recorded}

-- ---- the open node of least sum, then of least number

module _ (capacity : ℕ) (columns : List ℕ) (n : ℕ) where
  one_least : (x y : ℕ) → LeastAt capacity columns n x → LeastAt capacity columns n y → x ≡ y
  one_least x y p q = go (dec_lt x y) (dec_lt y x)
    where
      go : Dec (x < y) → Dec (y < x) → x ≡ y
      go (yes l) k = absurd (omega (arith, q.first x l p.opened, p.least y q.inside q.opened))
      go (no m) (yes k) = absurd (omega (arith, p.first y k q.opened, q.least x p.inside p.opened))
      go (no m) (no k) = omega (arith, m, k)

  pub least_open_settled : (r r' : Option ℕ) → LeastFact capacity columns n r → LeastFact capacity columns n r' → r ≡ r'
  unfolding LeastFact
  least_open_settled None None p q = refl
  least_open_settled None (Some y) p q = absurd (not_both q.opened (p y q.inside))
  least_open_settled (Some x) None p q = absurd (not_both p.opened (q x p.inside))
  least_open_settled (Some x) (Some y) p q = ap Some (one_least x y p q)

-- ---- a record

module _ (capacity : ℕ) (before : List ℕ) (x parent carrier : ℕ) (bar : Bar) (sum : ℕ) (a b : List ℕ) (p : Recorded capacity before x parent carrier bar sum a) (q : Recorded capacity before x parent carrier bar sum b) where
  same_record : (c : ℕ) → c < 8 → entry capacity a c x ≡ entry capacity b c x
  same_record zero l = p.parent_is ∙ sym q.parent_is
  same_record (suc zero) l = p.code_is.0 ∙ sym q.code_is.0
  same_record (suc (suc zero)) l = p.carrier_is ∙ sym q.carrier_is
  same_record (suc (suc (suc zero))) l = p.code_is.1 ∙ sym q.code_is.1
  same_record (suc (suc (suc (suc zero)))) l = p.code_is.2 ∙ sym q.code_is.2
  same_record (suc (suc (suc (suc (suc zero))))) l = p.code_is.3 ∙ sym q.code_is.3
  same_record (suc (suc (suc (suc (suc (suc zero)))))) l = p.sum_is ∙ sym q.sum_is
  same_record (suc (suc (suc (suc (suc (suc (suc zero))))))) l = p.opened ∙ sym q.opened
  same_record (suc (suc (suc (suc (suc (suc (suc (suc c)))))))) l = absurd (omega arith)

  same_column : (c y : ℕ) → c < 8 → y < capacity → Dec (y ≡ x) → entry capacity a c y ≡ entry capacity b c y
  same_column c y l i (yes e) = rw e (same_record c l)
  same_column c y l i (no n) = p.others c y i n ∙ sym (q.others c y i n)

  within : (z : ℕ) → z < 8 * capacity → get_or a z 0 ≡ get_or b z 0
  within z l =
      let some : 0 < capacity = room capacity l in
      let column : z / capacity < 8 = (div-lt_iff_lt-mul {k = capacity} {x = z} {y = 8} some).1 l in
      let place : z / capacity * capacity + z % capacity ≡ z = div-add-mod' z capacity in
      ap (λ y. get_or a y 0) (sym place)
      ∙ same_column (z / capacity) (z % capacity) column (mod-lt z some) (ℕ_discrete (z % capacity) x)
      ∙ ap (λ y. get_or b y 0) place
    where
      room : (n : ℕ) → z < 8 * n → 0 < n
      room zero k = absurd (omega arith)
      room (suc m) k = omega arith

  beyond : (z : ℕ) → 8 * capacity ≤ z → get_or a z 0 ≡ get_or b z 0
  beyond z l =
      let same : drop (8 * capacity) a ≡ drop (8 * capacity) b = p.tail ∙ sym q.tail in
      let split : 8 * capacity + (z - 8 * capacity) ≡ z = omega arith in
      ap (λ y. get_or a y 0) (sym split)
      ∙ sym (get_or-drop (8 * capacity) a (z - 8 * capacity) 0)
      ∙ ap (λ ys. get_or ys (z - 8 * capacity) 0) same
      ∙ get_or-drop (8 * capacity) b (z - 8 * capacity) 0
      ∙ ap (λ y. get_or b y 0) split

  pub write_record_settled : a ≡ b
  write_record_settled = same_entries a b (p.long ∙ sym q.long) (λ z. go z (dec_le (8 * capacity) z))
    where
      go : (z : ℕ) → Dec (8 * capacity ≤ z) → get_or a z 0 ≡ get_or b z 0
      go z (yes l) = beyond z l
      go z (no k) = within z (omega (arith, k))
