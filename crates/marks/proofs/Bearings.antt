-- What bars are like, put together: lists of bars one after the other are like both, in whatever way they are grouped, and no bars add
-- nothing. Assumes nothing.
use Prim.Native.Nat.{ℕ, ◌+◌, min, max}
use native.Mathlib.Nat.{zero-max, max-zero}
use native.Mathlib.Omega.{arith}
use mathlib.Core.Path.{◌≡◌, refl}
use mathlib.Core.Bool.{Bool, false, true, or_assoc}
use mathlib.Core.List.{List, [], ◌∷◌, ◌++◌}
use Rattle.lists.specs.Lists.{any_of}
use Rattle.lists.proofs.Passing.{any_append}
use Rattle.routes.specs.declared.Bar.{Bar}
use Rattle.routes.specs.declared.Bar.TheVariants.{Free, Stay, Cross}
use Rattle.marks.specs.Marks.{crosses, bears_until, quiet_from, bearing_of, both_of}
use Rattle.marks.specs.declared.Bearing.{Bearing}

-- what no bars are like
abbrev pub unbarred : Bearing
unbarred = record { crossing = false; until = 0 }

-- as the default is told
pub none_told : (b : Bearing) → (b.crossing ≡ false) × (b.until ≡ 0) → b ≡ unbarred
none_told b e = made false 0 e.0 e.1
  where
    made : (crossing : Bool) (until : ℕ) → b.crossing ≡ crossing → b.until ≡ until → b ≡ record { crossing = crossing; until = until }
    made crossing until e f = rw (← e, ← f)

-- ---- both together

pub max_assoc : (a b c : ℕ) → max (max a b) c ≡ max a (max b c)
max_assoc a b c = omega arith

pub both_assoc : (a b c : Bearing) → both_of (both_of a b) c ≡ both_of a (both_of b c)
unfolding both_of
both_assoc a b c = rw (or_assoc a.crossing b.crossing c.crossing, max_assoc a.until b.until c.until)

pub none_first : (a : Bearing) → both_of unbarred a ≡ a
unfolding both_of
none_first a = rw (zero-max a.until)

-- ---- lists of bars

quiet_append : (h : ℕ) (xs ys : List Bar) → quiet_from h (xs ++ ys) ≡ max (quiet_from h xs) (quiet_from h ys)
unfolding quiet_from
quiet_append h [] ys = omega arith
quiet_append h (x ∷ xs) ys = omega (arith, quiet_append h xs ys)

pub bearing_append : (h : ℕ) (xs ys : List Bar) → bearing_of h (xs ++ ys) ≡ both_of (bearing_of h xs) (bearing_of h ys)
unfolding bearing_of both_of
bearing_append h xs ys = rw (any_append crosses xs ys, quiet_append h xs ys)

pub bearing_none : (h : ℕ) → unbarred ≡ bearing_of h []
unfolding bearing_of any_of quiet_from
bearing_none h = refl

-- ---- one bar by its kind

pub bearing_free : (h : ℕ) → unbarred ≡ bearing_of h (Free ∷ [])
unfolding bearing_of any_of crosses quiet_from bears_until
bearing_free h = refl

pub bearing_stay : (h v first last until : ℕ) → until ≡ min last h + 1 → record { crossing = false; until = until } ≡ bearing_of h (Stay v first last ∷ [])
unfolding bearing_of any_of crosses quiet_from bears_until
bearing_stay h v first last until e = rw (max-zero (min last h + 1), e)

pub bearing_cross : (h u v t until : ℕ) → until ≡ min t h + 1 → record { crossing = true; until = until } ≡ bearing_of h (Cross u v t ∷ [])
unfolding bearing_of any_of crosses quiet_from bears_until
bearing_cross h u v t until e = rw (max-zero (min t h + 1), e)
