-- Two results that the contract of `mark_all` allows are equal: every byte of the two planes is its mark, every other is as it was, and
-- what is told of the bars is the same. Assumes nothing.
use Prim.Native.Nat.{ℕ, zero, suc, ◌+◌, ◌-◌, ◌*◌, ◌/◌, ◌%◌, ◌≤◌, ◌<◌}
use native.Mathlib.Nat.{div-add-mod', div-lt_iff_lt-mul, mod-lt}
use native.Mathlib.Decide.{dec_le}
use native.Mathlib.Omega.{arith}
use mathlib.Core.Path.{◌≡◌, sym, ap, ◌∙◌}
use mathlib.Core.List.{List}
use lib.ListN.{length, get_or}
use Rattle.lists.proofs.Parts.{same_entries}
use Rattle.routes.specs.declared.Bar.{Bar}
use Rattle.marks.specs.Marks.{bearing_of}
use Rattle.marks.specs.Post.{MarkedAll}
use Rattle.marks.specs.declared.Bearing.{Bearing}

-- planes of n cells for the steps up to h that agree at each step and cell
plane_same : (n h : ℕ) (f g : ℕ → ℕ) → ((t v : ℕ) → t ≤ h → v < n → f (t * n + v) ≡ g (t * n + v)) → (x : ℕ) → x < (h + 1) * n → f x ≡ g x
plane_same n h f g same x l =
    let some : 0 < n = room n l in
    let step : x / n < h + 1 = (div-lt_iff_lt-mul {k = n} {x = x} {y = h + 1} some).1 l in
    let place : x / n * n + x % n ≡ x = div-add-mod' x n in
    ap f (sym place) ∙ same (x / n) (x % n) (omega arith) (mod-lt x some) ∙ ap g place
  where
    room : (n : ℕ) → x < (h + 1) * n → 0 < n
    room zero k = absurd (omega arith)
    room (suc m) k = omega arith

-- layers that agree in both planes and beyond
module _ (n h : ℕ) (a b : List ℕ) (first : (t v : ℕ) → t ≤ h → v < n → get_or a (t * n + v) 0 ≡ get_or b (t * n + v) 0) (second : (t v : ℕ) → t ≤ h → v < n → get_or a ((h + 1) * n + t * n + v) 0 ≡ get_or b ((h + 1) * n + t * n + v) 0) where
  second_same : (x : ℕ) → x < (h + 1) * n → get_or a ((h + 1) * n + x) 0 ≡ get_or b ((h + 1) * n + x) 0
  second_same =
      plane_same n h (λ x. get_or a ((h + 1) * n + x) 0) (λ x. get_or b ((h + 1) * n + x) 0) (λ t v l i.
      let e : (h + 1) * n + (t * n + v) ≡ (h + 1) * n + t * n + v = omega arith in
      ap (λ y. get_or a y 0) e ∙ second t v l i ∙ ap (λ y. get_or b y 0) (sym e))

  pub layers_same : length a ≡ length b → ((x : ℕ) → (h + 1) * n + (h + 1) * n ≤ x → get_or a x 0 ≡ get_or b x 0) → a ≡ b
  layers_same long beyond = same_entries a b long (λ x. go x (dec_le ((h + 1) * n) x) (dec_le ((h + 1) * n + (h + 1) * n) x))
    where
      go : (x : ℕ) → Dec ((h + 1) * n ≤ x) → Dec ((h + 1) * n + (h + 1) * n ≤ x) → get_or a x 0 ≡ get_or b x 0
      go x (no k) past = plane_same n h (λ y. get_or a y 0) (λ y. get_or b y 0) first x (omega (arith, k))
      go x (yes l) (yes m) = beyond x m
      go x (yes l) (no k) =
          let e : (h + 1) * n + (x - (h + 1) * n) ≡ x = omega arith in
          ap (λ y. get_or a y 0) (sym e) ∙ second_same (x - (h + 1) * n) (omega (arith, k)) ∙ ap (λ y. get_or b y 0) e

pub mark_all_settled : (width height h : ℕ) (bars : List Bar) (before after after' : List ℕ) (r r' : Bearing) → MarkedAll width height h bars before after × (r ≡ bearing_of h bars) → MarkedAll width height h bars before after' × (r' ≡ bearing_of h bars) → (after ≡ after') × (r ≡ r')
mark_all_settled width height h bars before after after' r r' p q = (
  layers_same (width * height) h after after'
      (λ t v l i. p.0.marked.stands t v l i ∙ sym (q.0.marked.stands t v l i))
      (λ t v l i. p.0.marked.crossings t v l i ∙ sym (q.0.marked.crossings t v l i))
      (p.0.kept.long ∙ sym q.0.kept.long)
      (λ x l. p.0.kept.rest x l ∙ sym (q.0.kept.rest x l)),
  p.1 ∙ sym q.1,
)
