-- The best of any set of lists: the better of two bests is the best of both, and one step more in front of a best is a best,
-- since it keeps the order of costs strictly, and that of moves among lists with one first cell. Assumes nothing.
use Prim.Native.Nat.{ℕ, ◌+◌, ◌≤◌, ◌<◌}
use mathlib.Core.Path.{◌≡◌, refl, sym, ap, subst}
use mathlib.Core.Logic.{◌⊎◌, inl, inr}
use mathlib.Core.Bool.{Bool, true, false, true≢false, ◌&&◌, ◌||◌}
use mathlib.Core.List.{List, [], ◌∷◌, map, Memᴰ}
use mathlib.Core.Option.{Option, none, some}
use native.Mathlib.Omega.{arith}
use lib.Dec.{eqb, ltb}
use lib.ListN.{length}
use borrow.Author.Tests.{eqb-true, eqb-false, ltb-true, ltb-false}
use Rattle.lists.proofs.Every.{every_member}
use Rattle.lists.proofs.Orders.{Ordered, Rising}
use Rattle.routes.specs.Route.{cell_of, cost}
use Rattle.routes.specs.Best.{moved, moves, NotAfter, outdone, preferred, better, best_of, in_front}
use Rattle.routes.proofs.Cost.{front_le, front_injective}
use Rattle.routes.proofs.Order.{not_after_antisymmetric}

-- ---- the best of any set of lists

-- r is the first in dictionary order of those with the fewest moves of the cheapest in P
pub record Best (goal : ℕ) (P : List ℕ → Type 0) (r : List ℕ) : Type 0 where
  pub inside : P r
  pub least : (s : List ℕ) → P s → cost goal r ≤ cost goal s
  pub fewest : (s : List ℕ) → P s → cost goal s ≡ cost goal r → moves r ≤ moves s
  pub first : (s : List ℕ) → P s → cost goal s ≡ cost goal r → moves s ≡ moves r → NotAfter r s

-- a best one, or none only where there is none
unfoldable pub Finds : ℕ → (List ℕ → Type 0) → Option (List ℕ) → Type 0
Finds goal P none = (s : List ℕ) → P s → ⊥
Finds goal P (some r) = Best goal P r

-- what it is to outdo, in numbers
pub outdone-true : (goal : ℕ) (r s : List ℕ) → outdone goal r s ≡ true → (cost goal s < cost goal r) ⊎ ((cost goal s ≡ cost goal r) × (moves s < moves r))
unfolding outdone
outdone-true goal r s e = go (ltb (cost goal s) (cost goal r)) (eqb (cost goal s) (cost goal r)) (ltb (moves s) (moves r)) refl refl refl e
  where
    go : (a b c : Bool) → ltb (cost goal s) (cost goal r) ≡ a → eqb (cost goal s) (cost goal r) ≡ b → ltb (moves s) (moves r) ≡ c → (a || (b && c)) ≡ true → (cost goal s < cost goal r) ⊎ ((cost goal s ≡ cost goal r) × (moves s < moves r))
    go true b c x y z e = inl (ltb-true _ _ x)
    go false true true x y z e = inr (eqb-true _ _ y, ltb-true _ _ z)
    go false true false x y z e = absurd (true≢false (sym e))
    go false false c x y z e = absurd (true≢false (sym e))

pub outdone-false : (goal : ℕ) (r s : List ℕ) → outdone goal r s ≡ false → (cost goal r < cost goal s) ⊎ ((cost goal s ≡ cost goal r) × (moves r ≤ moves s))
unfolding outdone
outdone-false goal r s e = go (ltb (cost goal s) (cost goal r)) (eqb (cost goal s) (cost goal r)) (ltb (moves s) (moves r)) refl refl refl e
  where
    go : (a b c : Bool) → ltb (cost goal s) (cost goal r) ≡ a → eqb (cost goal s) (cost goal r) ≡ b → ltb (moves s) (moves r) ≡ c → (a || (b && c)) ≡ false → (cost goal r < cost goal s) ⊎ ((cost goal s ≡ cost goal r) × (moves r ≤ moves s))
    go true b c x y z e = absurd (true≢false e)
    go false true true x y z e = absurd (true≢false e)
    go false true false x y z e = inr (eqb-true _ _ y, omega (arith, ltb-false (moves s) (moves r) z))
    go false false c x y z e = inl (omega (arith, ltb-false (cost goal s) (cost goal r) x, eqb-false (cost goal s) (cost goal r) y))

module _ (goal : ℕ) (P Q : List ℕ → Type 0) where
  -- two names of one set
  pub finds_same : ((r : List ℕ) → P r → Q r) → ((r : List ℕ) → Q r → P r) → (o : Option (List ℕ)) → Finds goal P o → Finds goal Q o
  unfolding Finds
  finds_same into back none f = λ s q. f s (back s q)
  finds_same into back (some r) f =
      record {
        inside = into r f.inside;
        least = λ s q. f.least s (back s q);
        fewest = λ s q e. f.fewest s (back s q) e;
        first = λ s q e. f.first s (back s q) e;
      }

  -- where s outdoes r no list of P comes up to it
  outdone_best : (r s : List ℕ) → Best goal P r → Best goal Q s → (cost goal s < cost goal r) ⊎ ((cost goal s ≡ cost goal r) × (moves s < moves r)) → Best goal (λ x. P x ⊎ Q x) s
  outdone_best r s f g o =
      record {
        inside = inr g.inside;
        least = λ x. elim [ inl p ↦ costs x p o | inr q ↦ g.least x q ];
        fewest = λ x. elim [ inl p ↦ λ e. let m : moves s < moves x = behind x p o e in omega arith | inr q ↦ g.fewest x q ];
        first = λ x. elim [ inl p ↦ λ e k. let m : moves s < moves x = behind x p o e in absurd (omega arith) | inr q ↦ g.first x q ];
      }
    where
      costs : (x : List ℕ) → P x → (cost goal s < cost goal r) ⊎ ((cost goal s ≡ cost goal r) × (moves s < moves r)) → cost goal s ≤ cost goal x
      costs x p (inl l) = omega (arith, f.least x p)
      costs x p (inr l) = let e : cost goal s ≡ cost goal r = l.0 in omega (arith, f.least x p)

      behind : (x : List ℕ) → P x → (cost goal s < cost goal r) ⊎ ((cost goal s ≡ cost goal r) × (moves s < moves r)) → cost goal x ≡ cost goal s → moves s < moves x
      behind x p (inl l) e = absurd (omega (arith, f.least x p))
      behind x p (inr l) e =
          let k : cost goal x ≡ cost goal r = omega (arith, l.0) in
          omega (arith, l.1, f.fewest x p k)

  -- where it does not, none of Q outdoes r, and those of P come first
  preferred_first : (r s : List ℕ) → Best goal P r → Best goal Q s → ((x y : List ℕ) → P x → Q y → NotAfter x y) → (cost goal r < cost goal s) ⊎ ((cost goal s ≡ cost goal r) × (moves r ≤ moves s)) → Best goal (λ x. P x ⊎ Q x) r
  preferred_first r s f g before o =
      record {
        inside = inl f.inside;
        least = λ x. elim [ inl p ↦ f.least x p | inr q ↦ costs x q o ];
        fewest = λ x. elim [ inl p ↦ f.fewest x p | inr q ↦ moving x q o ];
        first = λ x. elim [ inl p ↦ f.first x p | inr q ↦ λ e k. before r x f.inside q ];
      }
    where
      costs : (x : List ℕ) → Q x → (cost goal r < cost goal s) ⊎ ((cost goal s ≡ cost goal r) × (moves r ≤ moves s)) → cost goal r ≤ cost goal x
      costs x q (inl l) = omega (arith, g.least x q)
      costs x q (inr l) = let e : cost goal s ≡ cost goal r = l.0 in omega (arith, g.least x q)

      moving : (x : List ℕ) → Q x → (cost goal r < cost goal s) ⊎ ((cost goal s ≡ cost goal r) × (moves r ≤ moves s)) → cost goal x ≡ cost goal r → moves r ≤ moves x
      moving x q (inl l) e = absurd (omega (arith, g.least x q))
      moving x q (inr l) e =
          let k : cost goal x ≡ cost goal s = omega (arith, l.0) in
          omega (arith, l.1, g.fewest x q k)

  preferred_best : (r s : List ℕ) → Best goal P r → Best goal Q s → ((x y : List ℕ) → P x → Q y → NotAfter x y) → Best goal (λ x. P x ⊎ Q x) (preferred goal r s)
  unfolding preferred
  preferred_best r s f g before = go (outdone goal r s) refl
    where
      go : (b : Bool) → outdone goal r s ≡ b → Best goal (λ x. P x ⊎ Q x) (elim b [ true ↦ s | false ↦ r ])
      go true e = outdone_best r s f g (outdone-true goal r s e)
      go false e = preferred_first r s f g before (outdone-false goal r s e)

  better_finds : (o p : Option (List ℕ)) → Finds goal P o → Finds goal Q p → ((x y : List ℕ) → P x → Q y → NotAfter x y) → Finds goal (λ x. P x ⊎ Q x) (better goal o p)
  unfolding Finds better
  better_finds none none f g before = λ s. elim [ inl p ↦ f s p | inr q ↦ g s q ]
  better_finds none (some s) f g before =
      record {
        inside = inr g.inside;
        least = λ x. elim [ inl p ↦ absurd (f x p) | inr q ↦ g.least x q ];
        fewest = λ x. elim [ inl p ↦ absurd (f x p) | inr q ↦ g.fewest x q ];
        first = λ x. elim [ inl p ↦ absurd (f x p) | inr q ↦ g.first x q ];
      }
  better_finds (some r) none f g before =
      record {
        inside = inl f.inside;
        least = λ x. elim [ inl p ↦ f.least x p | inr q ↦ absurd (g x q) ];
        fewest = λ x. elim [ inl p ↦ f.fewest x p | inr q ↦ absurd (g x q) ];
        first = λ x. elim [ inl p ↦ f.first x p | inr q ↦ absurd (g x q) ];
      }
  better_finds (some r) (some s) f g before = preferred_best r s f g before

-- ---- one step more in front

-- the lists of P with v in front
unfoldable pub Front : ℕ → (List ℕ → Type 0) → List ℕ → Type 0
Front v P s = (r : List ℕ) × (s ≡ v ∷ r) × P r

pub front_moves : (v w : ℕ) (r : List ℕ) → 0 < length r → cell_of r 0 ≡ w → moves (v ∷ r) ≡ moved v w + moves r
unfolding moves
front_moves v w [] h e = absurd (omega arith)
front_moves v w (x ∷ r) h e = ap (λ y. moved v y + moves (x ∷ r)) e

-- where all of P begin with w
pub front_finds : (goal : ℕ) (P : List ℕ → Type 0) (v w : ℕ) → ((r : List ℕ) → P r → (0 < length r) × (cell_of r 0 ≡ w)) → (o : Option (List ℕ)) → Finds goal P o → Finds goal (Front v P) (in_front v o)
unfolding Finds Front in_front NotAfter
front_finds goal P v w begins none f = λ s q. f q.0 q.2
front_finds goal P v w begins (some r) f =
    record {
      inside = (r, refl, f.inside);
      least = λ s q. let (x, e, p) = q in rw e (front_le goal v r x (f.least x p));
      fewest = λ s q k.
          let (x, e, p) = q in
          let same : cost goal x ≡ cost goal r = front_injective goal v x r (rw e at k) in
          rw e (omega (arith, moving r f.inside, moving x p, f.fewest x p same));
      first = λ s q k j.
          let (x, e, p) = q in
          let same : cost goal x ≡ cost goal r = front_injective goal v x r (rw e at k) in
          let still : moves (v ∷ x) ≡ moves (v ∷ r) = rw e at j in
          let even : moves x ≡ moves r = omega (arith, moving r f.inside, moving x p) in
          rw e (inr (refl, f.first x p same even));
    }
  where
    moving : (x : List ℕ) → P x → moves (v ∷ x) ≡ moved v w + moves x
    moving x p = front_moves v w x (begins x p).0 (begins x p).1

-- there is but one
pub finds_unique : (goal : ℕ) (P : List ℕ → Type 0) (o p : Option (List ℕ)) → Finds goal P o → Finds goal P p → o ≡ p
unfolding Finds
finds_unique goal P none none f g = refl
finds_unique goal P none (some s) f g = absurd (f s g.inside)
finds_unique goal P (some r) none f g = absurd (g r f.inside)
finds_unique goal P (some r) (some s) f g =
    let le : cost goal r ≤ cost goal s = f.least s g.inside in
    let ge : cost goal s ≤ cost goal r = g.least r f.inside in
    let few : moves r ≤ moves s = f.fewest s g.inside (omega arith) in
    let many : moves s ≤ moves r = g.fewest r f.inside (omega arith) in
    ap {B = Option (List ℕ)} some (not_after_antisymmetric r s (f.first s g.inside (omega arith) (omega arith)) (g.first r f.inside (omega arith) (omega arith)))

-- ---- the best of several sets, one for each of ws

-- in the set of one of ws
unfoldable pub Among : (ℕ → List ℕ → Type 0) → List ℕ → List ℕ → Type 0
Among P ws r = (w : ℕ) × Memᴰ w ws × P w r

module _ (goal : ℕ) (P : ℕ → List ℕ → Type 0) where
  among_split : (w : ℕ) (ws : List ℕ) (r : List ℕ) → Among P (w ∷ ws) r → P w r ⊎ Among P ws r
  unfolding Among
  among_split w ws r (x, Memᴰ.head e, p) = inl (subst (λ z. P z r) e p)
  among_split w ws r (x, Memᴰ.tail m, p) = inr (x, m, p)

  split_among : (w : ℕ) (ws : List ℕ) (r : List ℕ) → P w r ⊎ Among P ws r → Among P (w ∷ ws) r
  unfolding Among
  split_among w ws r (inl p) = (w, Memᴰ.head refl, p)
  split_among w ws r (inr a) = (a.0, Memᴰ.tail a.1, a.2)

  -- where the sets of smaller numbers come first in the dictionary, the first that none outdoes is the best of all
  pub best_of_finds : (f : ℕ → Option (List ℕ)) → ((w : ℕ) → Finds goal (P w) (f w)) → ((w x : ℕ) (r s : List ℕ) → w < x → P w r → P x s → NotAfter r s) → (ws : List ℕ) → Rising ws → Finds goal (Among P ws) (best_of goal (map f ws))
  unfolding best_of Finds Among Rising Ordered
  best_of_finds f found before [] rising = λ s a. elim a.1 [ ]
  best_of_finds f found before (w ∷ ws) rising =
      finds_same goal (λ r. P w r ⊎ Among P ws r) (Among P (w ∷ ws)) (split_among w ws) (among_split w ws) (better goal (f w) (best_of goal (map f ws)))
      (better_finds goal (P w) (Among P ws) (f w) (best_of goal (map f ws)) (found w) (best_of_finds f found before ws rising.1)
      (λ r s p a. before w a.0 r s (every_member (λ y. w < y) ws rising.0 a.1) p a.2))
