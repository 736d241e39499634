-- What `take_least` does: it takes the first node of least sum out of the list and leaves the others in their order; it takes none
-- only from the empty list. By induction on the list: the first node is taken, or the one that the rest would give.
-- Assumes nothing.
use Prim.Native.Nat.{ℕ, suc, ◌≤◌, ◌<◌}
use mathlib.Core.Bool.{Bool, true, false}
use mathlib.Core.List.{List, [], ◌∷◌, ◌++◌}
use mathlib.Core.Logic.{◌⊎◌}
use mathlib.Core.Option.{Option, none, some}
use mathlib.Core.Path.{◌≡◌, refl, ap, subst}
use native.Mathlib.Omega.{arith}
use borrow.Author.Tests.{leb-true, leb-false, le-leb, lt-leb}
use lib.Dec.{leb}
use lib.ListN.{length, length-append}
use Rattle.lists.specs.Lists.{Every, Any}
use Rattle.search.specs.Search.{Taken, FirstLeast, prefer, take_least}
use Rattle.lists.proofs.Every.{every_imply, every_append, every_taken, any_taken}

module _ {Node : Type 0} (sum : Node → ℕ) where
  -- what is known of a list, by what was taken from it
  unfoldable pub Took : List Node → Option (Taken Node) → Type 0
  Took live none = live ≡ []
  Took live (some o) = FirstLeast sum live o

module _ {Node : Type 0} {sum : Node → ℕ} {live : List Node} {o : Taken Node} (f : FirstLeast sum live o) where
  pub taken_least : Every (λ x. sum o.node ≤ sum x) live
  unfolding Every
  taken_least =
      let low : Every (λ x. sum o.node ≤ sum x) f.before = every_imply (λ x h. omega arith) f.before f.above_before in
      rw f.live_split (every_append (λ x. sum o.node ≤ sum x) f.before (o.node ∷ f.after) low (omega arith, f.least_after))

  pub taken_every : (P : Node → Type 0) → Every P live → P o.node × Every P o.rest
  taken_every P h = rw f.rest_split (every_taken P f.before o.node f.after (rw f.live_split at h))

  pub taken_any : (P : Node → Type 0) → Any P live → P o.node ⊎ Any P o.rest
  taken_any P a = rw f.rest_split (any_taken P f.before o.node f.after (rw f.live_split at a))

  pub taken_length : length live ≡ suc (length o.rest)
  taken_length = rw (f.live_split, f.rest_split) (simp length-append (omega arith))

module _ {Node : Type 0} (sum : Node → ℕ) (clear : Node → Bool) (kids : Node → List Node) where
  prefer_first : (n : Node) (ns : List Node) (t : Option (Taken Node)) → Took sum ns t → FirstLeast sum (n ∷ ns) (prefer sum clear kids n ns t)
  unfolding Took prefer Every
  prefer_first n ns none e = record { before = []; after = ns; live_split = refl; rest_split = refl; above_before = tt; least_after = rw e tt }
  prefer_first n ns (some o) f =
      (elim (leb (sum n) (sum o.node)) as (λ b. leb (sum n) (sum o.node) ≡ b → FirstLeast sum (n ∷ ns) (prefer sum clear kids n ns (some o))) [
        | true ↦
            λ e.
            let le : sum n ≤ sum o.node = leb-true (sum n) (sum o.node) e in
            let low : Every (λ x. sum n ≤ sum x) ns = every_imply (λ x h. omega arith) ns (taken_least f) in
            rw (e, prefer) (record { before = []; after = ns; live_split = refl; rest_split = refl; above_before = tt; least_after = low })
        | false ↦
            λ e.
            rw (e, prefer) (record {
              before = n ∷ f.before;
              after = f.after;
              live_split = ap (λ (l : List Node). n ∷ l) f.live_split;
              rest_split = ap (λ (l : List Node). n ∷ l) f.rest_split;
              above_before = (leb-false (sum n) (sum o.node) e, f.above_before);
              least_after = f.least_after;
            })
      ])
      refl

  pub took : (live : List Node) → Took sum live (take_least sum clear kids live)
  unfolding Took take_least
  took [] = refl
  took (n ∷ ns) = prefer_first n ns (take_least sum clear kids ns) (took ns)

  pub none_only_empty : (live : List Node) → take_least sum clear kids live ≡ none → live ≡ []
  unfolding Took
  none_only_empty live e = subst (λ (t : Option (Taken Node)). Took sum live t) e (took live)

  pub some_first_least : (live : List Node) (o : Taken Node) → take_least sum clear kids live ≡ some o → FirstLeast sum live o
  unfolding Took
  some_first_least live o e = subst (λ (t : Option (Taken Node)). Took sum live t) e (took live)

  prefer_keeps : (n : Node) (ns : List Node) (t : Option (Taken Node)) → Took sum ns t → Every (λ x. sum n ≤ sum x) ns → prefer sum clear kids n ns t ≡ record { node = n; rest = ns }
  unfolding Took prefer
  prefer_keeps n ns none e h = refl
  prefer_keeps n ns (some o) f h = rw (le-leb (sum n) (sum o.node) (taken_every f (λ x. sum n ≤ sum x) h).0, prefer) refl

  -- the node that is less than all before it and at most all after it is taken
  pub split_taken : (before : List Node) (n : Node) (after : List Node) → Every (λ x. sum n < sum x) before → Every (λ x. sum n ≤ sum x) after → take_least sum clear kids (before ++ n ∷ after) ≡ some (record { node = n; rest = before ++ after })
  unfolding take_least prefer Every
  split_taken [] n after h k = ap some (prefer_keeps n after (take_least sum clear kids after) (took after) k)
  split_taken (b ∷ before) n after h k = rw (split_taken before n after h.1 k, lt-leb (sum b) (sum n) h.0, prefer) refl

  module _ (Good : Node → Type 0) (good-kids : (n : Node) → Good n → clear n ≡ false → Every Good (kids n)) where
    -- the open nodes of the next turn are good, if these are
    pub good_next : (live : List Node) (o : Taken Node) → take_least sum clear kids live ≡ some o → clear o.node ≡ false → Every Good live → Every Good (o.rest ++ kids o.node)
    good_next live o e c good =
        let t = taken_every (some_first_least live o e) Good good in
        every_append Good o.rest (kids o.node) t.1 (good-kids o.node t.0 c)
