-- One of a list that passes a test, and the first that does: what it tells of the list, and how it is found one entry at a time.
-- By induction on the list. Assumes nothing.
use Prim.Native.Nat.{ℕ, zero, suc, ◌<◌}
use native.Mathlib.Omega.{arith}
use mathlib.Core.Path.{◌≡◌, refl, sym, subst, ◌∙◌}
use mathlib.Core.Bool.{Bool, true, false, not, ◌&&◌, ◌||◌}
use mathlib.Core.List.{List, [], ◌∷◌, ◌++◌, Memᴰ}
use mathlib.Core.Option.{Option, none, some}
use lib.Dec.{T, eqb, eqb→eq, T_not, not_T}
use Rattle.lists.specs.Lists.{only, keep, any_of, first_of, Every}
use lib.ListN.{length, get_or}
use Rattle.lists.proofs.Tests.{and_both, both_and, or_fails, both_fail, same_test}
use Rattle.lists.proofs.Members.{keep_member, member_keep}

-- ---- does one of them pass?

module _ {A : Type 0} (p : A → Bool) where
  pub any_here : (x : A) (xs : List A) → p x ≡ true → any_of p (x ∷ xs) ≡ true
  unfolding any_of
  any_here x xs e = rw (e, any_of)

  pub any_later : (x : A) (xs : List A) → p x ≡ false → any_of p (x ∷ xs) ≡ any_of p xs
  unfolding any_of
  any_later x xs e = rw (e, any_of)

  pub any_only : (b : Bool) (x : A) → any_of p (only b x) ≡ (b && p x)
  unfolding any_of only
  any_only true x = elim (p x) as (λ (c : Bool). elim c [ true ↦ true | false ↦ false ] ≡ c) [ true ↦ refl | false ↦ refl ]
  any_only false x = refl

  pub any_cons : (x : A) (xs : List A) → any_of p (x ∷ xs) ≡ (p x || any_of p xs)
  unfolding any_of
  any_cons x xs = elim (p x) as (λ (c : Bool). elim c [ true ↦ true | false ↦ any_of p xs ] ≡ (c || any_of p xs)) [ true ↦ refl | false ↦ refl ]

  pub any_append : (xs ys : List A) → any_of p (xs ++ ys) ≡ (any_of p xs || any_of p ys)
  unfolding any_of
  any_append [] ys = refl
  any_append (x ∷ xs) ys =
      elim (p x) as (λ (b : Bool). elim b [ true ↦ true | false ↦ any_of p (xs ++ ys) ] ≡ (elim b [ true ↦ true | false ↦ any_of p xs ] || any_of p ys)) [
        | true ↦ refl
        | false ↦ any_append xs ys
      ]

  pub any_member : (xs : List A) → T (any_of p xs) → (x : A) × Memᴰ x xs × T (p x)
  unfolding any_of
  any_member [] h = absurd h
  any_member (y ∷ xs) h = go (p y) (λ t. t) h (any_member xs)
    where
      go : (b : Bool) → (T b → T (p y)) → T (elim b [ true ↦ true | false ↦ any_of p xs ]) → (T (any_of p xs) → (x : A) × Memᴰ x xs × T (p x)) → (x : A) × Memᴰ x (y ∷ xs) × T (p x)
      go true f h rest = (y, Memᴰ.head refl, f tt)
      go false f h rest = let r = rest h in (r.0, Memᴰ.tail r.1, r.2)

  pub member_any : {x : A} (xs : List A) → Memᴰ x xs → T (p x) → T (any_of p xs)
  unfolding any_of
  member_any [] m h = elim m [ ]
  member_any {x} (y ∷ xs) (Memᴰ.head q) h = go (p y) (subst (λ z. T (p z)) q h)
    where
      go : (b : Bool) → T b → T (elim b [ true ↦ true | false ↦ any_of p xs ])
      go true h = tt
      go false h = absurd h
  member_any (y ∷ xs) (Memᴰ.tail m) h = go (p y) (member_any xs m h)
    where
      go : (b : Bool) → T (any_of p xs) → T (elim b [ true ↦ true | false ↦ any_of p xs ])
      go true h = tt
      go false h = h

  -- none of them passes
  pub none_passes : {x : A} (xs : List A) → T (not (any_of p xs)) → Memᴰ x xs → T (p x) → ⊥
  none_passes xs h m t = T_not (any_of p xs) h (member_any xs m t)

  pub pass_none : (xs : List A) → ((x : A) → Memᴰ x xs → T (p x) → ⊥) → T (not (any_of p xs))
  pass_none xs h = not_T (any_of p xs) (λ t. let (x, m, q) = any_member xs t in h x m q)

-- no entry passes exactly where the test fails at each place
pub fails_at : (p : ℕ → Bool) (xs : List ℕ) → any_of p xs ≡ false → (i : ℕ) → i < length xs → p (get_or xs i 0) ≡ false
fails_at p [] e i l = absurd (omega arith)
fails_at p (x ∷ xs) e zero l = (or_fails (p x) (any_of p xs) (sym (any_cons p x xs) ∙ e)).0
fails_at p (x ∷ xs) e (suc i) l = fails_at p xs (or_fails (p x) (any_of p xs) (sym (any_cons p x xs) ∙ e)).1 i (omega arith)

pub at_fails : (p : ℕ → Bool) (xs : List ℕ) → ((i : ℕ) → i < length xs → p (get_or xs i 0) ≡ false) → any_of p xs ≡ false
unfolding any_of
at_fails p [] h = refl
at_fails p (x ∷ xs) h = any_cons p x xs ∙ both_fail (p x) (any_of p xs) (h 0 (omega arith)) (at_fails p xs (λ i l. h (suc i) (omega arith)))

-- x is one of those that are kept
pub any_kept : (p : ℕ → Bool) (x : ℕ) (ys : List ℕ) → (p x && any_of (eqb x) ys) ≡ any_of (eqb x) (keep p ys)
any_kept p x ys =
    same_test
    (λ t.
    let (px, i) = and_both (p x) (any_of (eqb x) ys) t in
    let (y, m, q) = any_member (eqb x) ys i in
    member_any (eqb x) (keep p ys) (member_keep p ys m (subst (λ (a : ℕ). T (p a)) (eqb→eq x y q) px)) q)
    (λ t.
    let (y, m, q) = any_member (eqb x) (keep p ys) t in
    let (i, py) = keep_member p ys m in
    both_and (p x) (any_of (eqb x) ys) (subst (λ (a : ℕ). T (p a)) (sym (eqb→eq x y q)) py) (member_any (eqb x) ys i q))

-- ---- the first that passes

module _ {A : Type 0} (p : A → Bool) where
  pub first_in_front : (y : A) (xs ys : List A) → first_of p xs ≡ some y → first_of p (xs ++ ys) ≡ some y
  unfolding first_of
  first_in_front y [] ys e = let z : ◌≡◌ {A = ℕ} 0 1 = cc in absurd (omega arith)
  first_in_front y (x ∷ xs) ys e =
      (elim (p x) as (λ (b : Bool). ◌≡◌ {A = Option A} (elim b [ true ↦ some x | false ↦ first_of p xs ]) (some y) → ◌≡◌ {A = Option A} (elim b [ true ↦ some x | false ↦ first_of p (xs ++ ys) ]) (some y)) [
        | true ↦ λ h. h
        | false ↦ λ h. first_in_front y xs ys h
      ])
      e

  pub first_behind : (xs ys : List A) → first_of p xs ≡ none → first_of p (xs ++ ys) ≡ first_of p ys
  unfolding first_of
  first_behind [] ys e = refl
  first_behind (x ∷ xs) ys e =
      (elim (p x) as (λ (b : Bool). ◌≡◌ {A = Option A} (elim b [ true ↦ some x | false ↦ first_of p xs ]) none → ◌≡◌ {A = Option A} (elim b [ true ↦ some x | false ↦ first_of p (xs ++ ys) ]) (first_of p ys)) [
        | true ↦ λ h. let z : ◌≡◌ {A = ℕ} 0 1 = cc in absurd (omega arith)
        | false ↦ λ h. first_behind xs ys h
      ])
      e

  -- what it tells of a list whose entries all have P
  unfoldable pub FirstFact : (A → Type 0) → List A → Option A → Type 0
  FirstFact P xs none = Every (λ x. T (p x) → ⊥) xs
  FirstFact P xs (some x) = T (p x) × P x

  module _ (P : A → Type 0) where
    first_later : (x : A) (xs : List A) → (T (p x) → ⊥) → (o : Option A) → FirstFact P xs o → FirstFact P (x ∷ xs) o
    unfolding FirstFact Every
    first_later x xs fails none f = (fails, f)
    first_later x xs fails (some y) f = f

    pub first_fact : (xs : List A) → Every P xs → FirstFact P xs (first_of p xs)
    unfolding FirstFact Every first_of
    first_fact [] f = tt
    first_fact (x ∷ xs) f =
        (elim (p x) as (λ b. p x ≡ b → FirstFact P (x ∷ xs) (first_of p (x ∷ xs))) [
          | true ↦ λ e. rw (e, first_of) (subst T (sym e) tt, f.0)
          | false ↦ λ e. rw (e, first_of) (first_later x xs (λ t. subst T e t) (first_of p xs) (first_fact xs f.1))
        ]) refl

-- tests that agree on the list find the same
pub first_same : {A : Type 0} (p q : A → Bool) (xs : List A) → Every (λ x. p x ≡ q x) xs → first_of p xs ≡ first_of q xs
unfolding first_of Every
first_same p q [] same = refl
first_same p q (x ∷ xs) same =
    (elim (q x) as (λ b. p x ≡ b → q x ≡ b → first_of p (x ∷ xs) ≡ first_of q (x ∷ xs))
    [ true ↦ λ e e₁. rw (e, e₁, first_of) | false ↦ λ e e₁. rw (e, e₁, first_of) (first_same p q xs same.1) ]) same.0 refl
