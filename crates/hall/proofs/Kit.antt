-- What an iterator's `any` and `find_map` answer, in the words of the definitions. By induction on the list. Assumes nothing.
use Prim.Native.Nat.{ℕ, zero, suc, ◌+◌, ◌<◌}
use native.Mathlib.Numerals.{add-one}
use mathlib.Core.Path.{◌≡◌, refl, sym, ap, subst, ◌∙◌}
use mathlib.Core.Bool.{Bool, true, false, ◌||◌, true≢false}
use mathlib.Core.List.{List, [], ◌∷◌, map}
use denote.Param.Members.{Mut}
use lib.ListN.{get_or}
use Rattle.std.specs.Prelude.{Option, None, Some}
use Rattle.std.specs.Fn.{Called}
use Rattle.std.specs.Iterator.{AlwaysYields, Yields, FindsMapped}
use Rattle.std.specs.Iterator.Runs.{Run, SomeRun, YieldsRun, AllItemsGive, IsFirstToGive}
use Rattle.std.specs.List.{list_any, range_with_len, slice_get, FoldsTo}
use Rattle.std.specs.Option.{MatchOption, IfSome, unwrap_or, is_some}
use Rattle.std.proofs.lemmas.Iterator.{YieldsList, items_from_drains}
use Rattle.lists.specs.Lists.{range, any_of, each}
use Rattle.lists.proofs.Passing.{any_append}
use Rattle.hall.specs.Landing.{landed}

-- ---- any

either_test : (b c : Bool) → (b || c) ≡ elim b [ true ↦ true | false ↦ c ]
either_test true c = refl
either_test false c = refl

pub any_listed : {A : Type 0} (p : A → Bool) (xs : List A) → list_any p xs ≡ any_of p xs
unfolding any_of
any_listed p [] = refl
any_listed p (x ∷ xs) = ap (λ b. p x || b) (any_listed p xs) ∙ either_test (p x) (any_of p xs)

-- one of what f makes of n numbers from a on passes where one of the numbers has one that does
pub any_ranged : {A : Type 0} (p : A → Bool) (f : ℕ → List A) (a n : ℕ) → list_any (λ m. any_of p (f m)) (range_with_len a n) ≡ any_of p (each f (range a n))
unfolding any_of range each
any_ranged p f a zero = refl
any_ranged p f a (suc n) = rw (add-one, any_append p (f a) (each f (range (suc a) n))) (ap (λ b. any_of p (f a) || b) (any_ranged p f (suc a) n))

-- ---- find_map, of a closure that answers a landing: the first of the cells that `cells` names, or d

module _ {S A B F : Type 0} (steps : S → Option A → S → Type 0) (v : A → B) (g : Mut F (A × Unit {0}) (Option ℕ)) (cells : B → List ℕ) (d : ℕ) (f : F) (k : (x : A) (b : Option ℕ) (q : F) → Called g f (x, tt) b q → (q ≡ f) × (landed b ≡ cells (v x))) where
  -- nothing is found where each item gave none
  none_found : (items : List A) → ((i : ℕ) → IfSome (slice_get items i) (λ x. Called g f (x, tt) None f)) → each cells (map v items) ≡ []
  unfolding each landed
  none_found [] h = refl
  none_found (x ∷ items) h = rw (← (k x None f (h 0)).1) (none_found items (λ i. h (suc i)))

  -- one is found behind items that gave none
  one_found : (w : ℕ) (xs : List A) (all : List B) (s t u : S) (x : A) (p j q : F) → p ≡ f → AlwaysYields steps v s all → Yields steps s xs t → steps t (Some x) u → FoldsTo (λ p x q. Called g p (x, tt) None q) p xs j → Called g j (x, tt) (Some w) q → get_or (each cells all) 0 d ≡ w
  unfolding each landed
  one_found w [] [] s t u x p j q e a y n l c = absurd (a x u (subst (λ s. steps s (Some x) u) (sym y) n))
  one_found w [] (b ∷ all) s t u x p j q e a y n l c =
      let here : v x ≡ b = (a.1 x u (subst (λ s. steps s (Some x) u) (sym y) n)).0 in
      let cell : landed (Some w) ≡ cells (v x) = (k x (Some w) q (subst (λ h. Called g h (x, tt) (Some w) q) (sym l ∙ e) c)).1 in
      rw (← here, ← cell)
  one_found w (z ∷ xs) [] s t u x p j q e a y n l c = absurd (a z y.0 y.1)
  one_found w (z ∷ xs) (b ∷ all) s t u x p j q e a y n l c =
      let on = a.1 z y.0 y.1 in
      let step = k z None l.0 (subst (λ h. Called g h (z, tt) None l.0) e l.1) in
      rw (← on.0, ← step.1) (one_found w xs all y.0 t u x l.0 j q step.0 on.1 y.2 n l.2 c)

  none_left : (s : S) (all : List B) (p : Run steps) → p.from ≡ s → p.whole ≡ true → AllItemsGive p g f None → YieldsList steps v s all → each cells all ≡ []
  unfolding YieldsRun
  none_left s all p from whole none yields =
      let gave = subst (λ s. (t : S) × Yields steps s p.items t × (Unit {0} → (u : S) × steps t None u)) from (p.gave.0.0, p.gave.0.1, λ _. p.gave.0.2 whole) in
      let items = items_from_drains p.items gave yields in
      let each_none = λ (i : ℕ). subst (λ o. IfSome o (λ x. Called g f (x, tt) None f)) (p.gave.1 i) (none (λ x b q c. (k x.0 b q c).0) i) in
      ap (each cells) (sym items) ∙ none_found p.items each_none

  pub found_or : (s u : S) (all : List B) (r : Option ℕ) → FindsMapped steps g s f r u → SomeRun steps s (λ p. MatchOption r ((p.whole ≡ true) × AllItemsGive p g f None) (λ y. (i : ℕ) × (i < p.len) × (p.len ≡ i + 1) × IsFirstToGive p g f (Some y) None i)) → YieldsList steps v s all → unwrap_or r d ≡ get_or (each cells all) 0 d
  found_or s u all None ran (p, from, (whole, none)) yields = rw (none_left s all p from whole none yields)
  found_or s u all (Some w) (xs, None, j, y, l, e) runs yields = absurd (true≢false (ap is_some e))
  found_or s u all (Some w) (xs, Some x, j, y, l, c) runs yields = sym (one_found w xs all s y.0 u x f j c.0 refl yields.runs y.1 y.2 l c.1)
