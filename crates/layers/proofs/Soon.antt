-- The step where the first pass begins: it is not later than the horizon, and a carrier may rest from there on. Assumes nothing.
use Prim.Native.Nat.{ℕ, ◌+◌, ◌*◌, max, ◌≤◌, ◌<◌}
use native.Mathlib.Decide.{dec_le}
use native.Mathlib.Omega.{arith}
use mathlib.Core.Path.{◌≡◌, refl, ap, ◌∙◌}
use mathlib.Core.Logic.{◌⊎◌, inl, inr}
use mathlib.Core.Bool.{true}
use mathlib.Core.List.{List}
use lib.Dec.{eqb}
use lib.ListN.{length}
use borrow.Author.Tests.{eq-eqb, ne_eqb}
use Rattle.hall.specs.declared.Grid.{Grid}
use Rattle.routes.specs.declared.Bar.{Bar}
use Rattle.marks.specs.Marks.{quiet_from, bearing_of}
use Rattle.marks.specs.Post.{Layered}
use Rattle.marks.specs.declared.Bearing.{Bearing}
use Rattle.marks.proofs.Quiet.{quiet_small}
use Rattle.layers.specs.Layers.{away, soon_by}
use Rattle.layers.specs.Post.{Fillable, RestsFrom, is_answer}
use Rattle.layers.specs.declared.Trip.{Trip}

-- ---- which step

pub soon_within : (width start goal h until : ℕ) → soon_by width start goal h until ≤ h
unfolding soon_by
soon_within width start goal h until = omega arith

-- the step to begin at, as the bars are told
pub soon_bears : (width start goal h soon : ℕ) (bars : List Bar) (bearing : Bearing) → bearing ≡ bearing_of h bars → soon ≡ soon_by width start goal h bearing.until → soon ≡ soon_by width start goal h (quiet_from h bars)
unfolding bearing_of
soon_bears width start goal h soon bars bearing e f = f ∙ ap (λ (b : Bearing). soon_by width start goal h b.until) e

pub bears_small : (h : ℕ) (bars : List Bar) (bearing : Bearing) → h ≤ 63 → bearing ≡ bearing_of h bars → bearing.until ≤ 64
unfolding bearing_of
bears_small h bars bearing l e = omega (arith, ap (λ (b : Bearing). b.until) e, quiet_small h bars)

pub soon_rests : (width start goal h soon : ℕ) (bars : List Bar) → soon ≡ soon_by width start goal h (quiet_from h bars) → RestsFrom bars h soon
unfolding soon_by RestsFrom
soon_rests width start goal h soon bars e = go (dec_le h (max (quiet_from h bars) (away width start goal) + 2))
  where
    go : Dec (h ≤ max (quiet_from h bars) (away width start goal) + 2) → (soon ≡ h) ⊎ (quiet_from h bars ≤ soon)
    go (yes l) = inl (omega arith)
    go (no l) = inr (omega (arith, l))

pub whole_rests : (h : ℕ) (bars : List Bar) → RestsFrom bars h h
unfolding RestsFrom
whole_rests h bars = inl refl

-- ---- whether it was late enough

pub not_later : (end soon h : ℕ) → (end ≡ 254 → ⊥) → is_answer end soon h ≡ true
unfolding is_answer
not_later end soon h k = rw (is_answer, ne_eqb end 254 k)

pub later_by : (end soon h : ℕ) → end ≡ 254 → eqb soon h ≡ is_answer end soon h
unfolding is_answer
later_by end soon h e = rw (eq-eqb end 254 e)

-- ---- layers for a pass that begins there

pub fillable : (grid : Grid) (trip : Trip) (late : ℕ) (before layers : List ℕ) → Layered grid.width grid.height trip.horizon before → length layers ≡ length before → late ≤ trip.horizon → trip.goal < grid.width * grid.height → Fillable grid trip late layers
fillable grid trip late before layers l e w i = record { some = l.some; wide = l.wide; high = l.high; late = l.late; within = w; inside = i; room = rw e l.room }

-- and then for one that begins earlier
pub fillable_again : (grid : Grid) (trip : Trip) (late last : ℕ) (before layers : List ℕ) → Fillable grid trip late before → length layers ≡ length before → last ≤ late → Fillable grid trip last layers
fillable_again grid trip late last before layers f e l = record { some = f.some; wide = f.wide; high = f.high; late = f.late; within = omega (arith, f.within); inside = f.inside; room = rw e f.room }
