-- Refused arguments, a route that was not found and one that was written are each what the entry point promises; a bar that is free
-- changes no route.
-- Assumes nothing.
use Prim.Native.Nat.{ℕ, ◌+◌, ◌*◌, ◌≤◌, ◌<◌}
use native.Mathlib.Omega.{arith}
use mathlib.Core.Path.{◌≡◌, refl, sym, ap, ◌∙◌}
use mathlib.Core.List.{List}
use mathlib.Core.Option.{Option, none, some}
use Rattle.std.specs.Prelude.{None, Some}
use Rattle.lent.specs.Lent.{SameFrom}
use Rattle.hall.specs.Hall.{Hall, size}
use Rattle.routes.specs.declared.Bar.{Bar}
use Rattle.routes.specs.declared.Bar.TheVariants.{Free}
use Rattle.marks.specs.Marks.{bound_by}
use Rattle.layers.specs.Layers.{route_from, sought_of, Filled}
use Rattle.layers.specs.Post.{SoughtRoute}
use Rattle.layers.specs.Sought.{Sought}
use Rattle.layers.proofs.SeekLaws.{free_bar, free_filled}
use Rattle.writer.specs.Write.{read_route}
use Rattle.writer.proofs.ReadLaws.{read_is_best}
use Rattle.route_bench.specs.Answer.{RightArguments, hall_of, cost_told, written_route, bars_at, Told, Answered}

pub refused : (right : Type 0) (hall : Hall) (bars : List Bar) (start goal h : ℕ) (layers stretch : List ℕ) → (right → ⊥) → Answered right hall bars start goal h layers layers stretch stretch 254
refused right hall bars start goal h layers stretch wrong =
    record { answers = λ r. absurd (wrong r); refuses = λ w. record { told = refl; unwritten = refl; unfilled = refl } }

-- ---- what seeking told

none_cost : (goal : ℕ) (o : Option (List ℕ)) → None ≡ sought_of goal o → 255 ≡ cost_told goal o
unfolding sought_of cost_told
none_cost goal none e = refl
none_cost goal (some r) e = let z : ◌≡◌ {A = ℕ} 0 1 = cc in absurd (omega arith)

none_written : (goal : ℕ) (o : Option (List ℕ)) (xs : List ℕ) → None ≡ sought_of goal o → xs ≡ written_route o xs
unfolding sought_of written_route
none_written goal none xs e = refl
none_written goal (some r) xs e = let z : ◌≡◌ {A = ℕ} 0 1 = cc in absurd (omega arith)

cost_cost : (goal c : ℕ) (o : Option (List ℕ)) → Some c ≡ sought_of goal o → c ≡ cost_told goal o
unfolding sought_of cost_told
cost_cost goal c none e = let z : ◌≡◌ {A = ℕ} 0 1 = cc in absurd (omega arith)
cost_cost goal c (some r) e = cc

-- where there is a route, what is written is what every route that there is equals
cost_written : (goal c : ℕ) (o : Option (List ℕ)) (xs written : List ℕ) → Some c ≡ sought_of goal o → ((r : List ℕ) → o ≡ some r → written ≡ r) → written ≡ written_route o xs
unfolding sought_of written_route
cost_written goal c none xs written e k = let z : ◌≡◌ {A = ℕ} 0 1 = cc in absurd (omega arith)
cost_written goal c (some r) xs written e k = k r refl

-- ---- what is answered

module _ (hall : Hall) (start goal h : ℕ) (columns : List ℕ) (capacity node carrier : ℕ) (layers filled : List ℕ) (answer : Sought) (short : h ≤ 63) (inside : start < size hall) (sought : SoughtRoute hall (bound_by capacity columns node carrier Free) start goal h layers filled answer) where
  abbrev bars : List Bar
  bars = bars_at capacity columns node carrier

  free_route : route_from hall (bound_by capacity columns node carrier Free) start goal h ≡ route_from hall bars start goal h
  unfolding bound_by
  free_route = free_bar hall bars start goal h

  bars-filled : Filled hall bars start goal h filled
  unfolding bound_by
  bars-filled = free_filled hall bars start goal h filled sought.filled

  past_kept : SameFrom (2 * ((h + 1) * size hall)) layers filled
  past_kept = record { long = sought.kept.long; rest = λ x l. sought.kept.rest x (omega arith) }

  tells : answer ≡ sought_of goal (route_from hall bars start goal h)
  tells = sought.told ∙ ap (sought_of goal) free_route

  pub none_answered : (stretch : List ℕ) → answer ≡ None → Told hall bars start goal h layers filled stretch stretch 255
  none_answered stretch e =
      record {
        told = none_cost goal (route_from hall bars start goal h) (sym e ∙ tells);
        written = none_written goal (route_from hall bars start goal h) stretch (sym e ∙ tells);
        filled = bars-filled;
        kept = past_kept;
      }

  pub cost_answered : (stretch written : List ℕ) (c : ℕ) → answer ≡ Some c → written ≡ read_route hall.width hall.height h filled start → Told hall bars start goal h layers filled stretch written c
  cost_answered stretch written c e w =
      record {
        told = cost_cost goal c (route_from hall bars start goal h) (sym e ∙ tells);
        written = cost_written goal c (route_from hall bars start goal h) stretch written (sym e ∙ tells) (λ r q. w ∙ read_is_best hall bars start goal h filled short bars-filled r inside q);
        filled = bars-filled;
        kept = past_kept;
      }

pub answered : (right : Type 0) (hall : Hall) (bars : List Bar) (start goal h : ℕ) (layers filled stretch written : List ℕ) (answer : ℕ) → right → Told hall bars start goal h layers filled stretch written answer → Answered right hall bars start goal h layers filled stretch written answer
answered right hall _ start goal h layers filled stretch written answer holds told = record { answers = λ r. told; refuses = λ wrong. absurd (wrong holds) }

-- the same of the sides that a grid was made of
pub on_sides : {w h w' h' : ℕ} {bytes : List ℕ} {start goal late : ℕ} {columns : List ℕ} {capacity node : ℕ} {bars : List Bar} {layers filled stretch written : List ℕ} {answer : ℕ} → w' ≡ w → h' ≡ h → Answered (RightArguments bytes w' h' start goal late columns capacity node layers stretch) (hall_of w' h' bytes) bars start goal late layers filled stretch written answer → Answered (RightArguments bytes w h start goal late columns capacity node layers stretch) (hall_of w h bytes) bars start goal late layers filled stretch written answer
on_sides p q a = rw q at rw p at a
