-- Marking by parts: nothing marked at first, some bars more by each marker in whatever order, and at the end all of a chain: its own
-- bars, then those of the next ancestor that has any, up to the root. Each marker tells what its bars are like,
-- and bars marked one after the other are like both together. Assumes nothing.
use Prim.Native.Nat.{ℕ, ◌+◌, ◌*◌, ◌≤◌, ◌<◌, min}
use native.Mathlib.Omega.{arith}
use mathlib.Core.Path.{◌≡◌, refl, sym, ap, subst, ◌∙◌}
use mathlib.Core.Bool.{Bool, true, false, or_assoc, or_comm}
use mathlib.Core.List.{List, [], ◌∷◌, ◌++◌, append-nil}
use lib.ListN.{length, get_or}
use Rattle.lists.specs.Lists.{any_of, only}
use Rattle.lists.proofs.Passing.{any_append}
use Rattle.lent.specs.Lent.{zeroed, SameFrom}
use Rattle.lent.proofs.Keeping.{same_from, same_then, zeroed_kept, zeroed_zero}
use Rattle.routes.specs.Bars.{bars_for, bars_cell}
use Rattle.routes.specs.declared.Bar.{Bar}
use Rattle.routes.specs.declared.Bar.TheVariants.{Free, Stay, Cross}
use Rattle.records.specs.Columns.{entry, bar_at, is_bar, own_bars, chain_of}
use Rattle.records.proofs.Own.{own_binds, other_binds_not, root_binds}
use Rattle.marks.specs.Marks.{stand_mark, digits_of, Marked, bound_by, crosses, bearing_of, both_of}
use Rattle.marks.specs.Post.{Layered, MarkedMore, MarkedAll, BoundAbove}
use Rattle.marks.specs.declared.Bearing.{Bearing}
use Rattle.marks.proofs.Bearings.{unbarred, both_assoc, none_first, bearing_append, bearing_none, bearing_free, bearing_stay, bearing_cross}
use Rattle.marks.proofs.Marking.{stand_none, stand_same, stand_alike, digits_none, digits_alike, digits_not_crossing}
use Rattle.marks.proofs.Places.{bounds}

any_turned : (p : Bar → Bool) (xs ys zs : List Bar) → any_of p ((xs ++ ys) ++ zs) ≡ any_of p (ys ++ (xs ++ zs))
any_turned p xs ys zs =
    rw (any_append p (xs ++ ys) zs, any_append p xs ys, any_append p ys (xs ++ zs), any_append p xs zs, or_comm (any_of p xs) (any_of p ys))
    (or_assoc (any_of p ys) (any_of p xs) (any_of p zs))

module _ (width height h : ℕ) where
  -- the length of the two planes
  abbrev both : ℕ
  both = (h + 1) * (width * height) + (h + 1) * (width * height)

  -- the layers after a marker serve the next as they did it
  pub still_layered : (before after : List ℕ) → length after ≡ length before → Layered width height h before → Layered width height h after
  still_layered before after e l = record { some = l.some; wide = l.wide; high = l.high; late = l.late; room = rw e l.room }

  -- ---- cleared layers

  cleared_kept : (before xs : List ℕ) → Layered width height h before → xs ≡ zeroed both before → SameFrom both before xs
  cleared_kept before xs l e = subst (SameFrom both before) (sym e) (zeroed_kept both before l.room)

  cleared_marked : (before xs : List ℕ) → Layered width height h before → xs ≡ zeroed both before → Marked width height [] h xs
  cleared_marked before xs l e =
      record {
        stands = λ t v k i. let b = (bounds width height h t v before l k i).below in zero (t * (width * height) + v) (omega arith) ∙ sym (stand_none t v);
        crossings = λ t v k i.
            let b = (bounds width height h t v before l k i).below in
            zero ((h + 1) * (width * height) + t * (width * height) + v) (omega arith) ∙ sym (digits_none width height t v);
      }
    where
      zero : (x : ℕ) → x < both → get_or xs x 0 ≡ 0
      zero x k = ap (λ (ys : List ℕ). get_or ys x 0) e ∙ zeroed_zero both x before k

  -- ---- bars with the same marks

  pub record Alike (some others : List Bar) : Type 0 where
    pub stands : (t v : ℕ) → t ≤ h → v < width * height → stand_mark some t v ≡ stand_mark others t v
    pub crossings : (t v : ℕ) → t ≤ h → v < width * height → digits_of width height some t v ≡ digits_of width height others t v

  marked_alike : (some others : List Bar) (xs : List ℕ) → Alike some others → Marked width height some h xs → Marked width height others h xs
  marked_alike some others xs a m =
      record { stands = λ t v l i. m.stands t v l i ∙ a.stands t v l i; crossings = λ t v l i. m.crossings t v l i ∙ a.crossings t v l i }

  alike_turned : (some others : List Bar) → Alike some others → Alike others some
  alike_turned some others a = record { stands = λ t v l i. sym (a.stands t v l i); crossings = λ t v l i. sym (a.crossings t v l i) }

  free_alike : (bars : List Bar) → Alike (Free ∷ bars) bars
  free_alike bars =
      record {
        stands = λ t v l i. stand_same Free bars t v (unfold bars_cell in refl);
        crossings = λ t v l i. digits_not_crossing width height Free bars t v (unfold crosses in refl);
      }

  -- ---- some bars more

  -- a bar that marks nothing
  pub more_untouched : (b : Bar) (xs : List ℕ) → ((bars : List Bar) → Alike (b ∷ bars) bars) → MarkedMore width height h (b ∷ []) xs xs
  more_untouched b xs a =
      record { marked = λ bars m. marked_alike bars (b ∷ bars) xs (alike_turned (b ∷ bars) bars (a bars)) m; kept = same_from both xs }

  -- marked, and what they are like
  abbrev pub Told : List Bar → List ℕ → List ℕ → Bearing → Type 0
  Told more before after r = MarkedMore width height h more before after × (r ≡ bearing_of h more)

  told_none : (xs : List ℕ) → Told [] xs xs unbarred
  told_none xs = (record { marked = λ bars m. m; kept = same_from both xs }, bearing_none h)

  -- in either order
  told_then : (some others : List Bar) (xs ys zs : List ℕ) (r q : Bearing) → Told some xs ys r → Told others ys zs q → Told (some ++ others) xs zs (both_of r q)
  told_then some others xs ys zs r q f g = (
    record {
      marked = λ bars m.
          marked_alike (others ++ (some ++ bars)) ((some ++ others) ++ bars) zs (turned bars) (g.0.marked (some ++ bars) (f.0.marked bars m));
      kept = same_then both xs ys zs f.0.kept g.0.kept;
    },
    rw (f.1, g.1) (sym (bearing_append h some others)),
  )
    where
      turned : (bars : List Bar) → Alike (others ++ (some ++ bars)) ((some ++ others) ++ bars)
      turned bars =
          record {
            stands = λ t v l i. stand_alike (others ++ (some ++ bars)) ((some ++ others) ++ bars) t v (λ p. sym (any_turned p some others bars));
            crossings = λ t v l i. digits_alike width height (others ++ (some ++ bars)) ((some ++ others) ++ bars) t v (λ p. sym (any_turned p some others bars));
          }

  -- ---- one bar by its kind

  pub told_free : (b : Bar) (xs : List ℕ) → b ≡ Free → Told (b ∷ []) xs xs unbarred
  told_free b xs e = rw e (more_untouched Free xs free_alike, bearing_free h)

  pub told_stay : (b : Bar) (v first last until : ℕ) (xs ys : List ℕ) → b ≡ Stay v first last → MarkedMore width height h (Stay v first last ∷ []) xs ys → until ≡ min last h + 1 → Told (b ∷ []) xs ys (record { crossing = false; until = until })
  told_stay b v first last until xs ys e m u = rw e (m, bearing_stay h v first last until u)

  pub told_cross : (b : Bar) (u v t until : ℕ) (xs ys : List ℕ) → b ≡ Cross u v t → MarkedMore width height h (Cross u v t ∷ []) xs ys → until ≡ min t h + 1 → Told (b ∷ []) xs ys (record { crossing = true; until = until })
  told_cross b u v t until xs ys e m l = rw e (m, bearing_cross h u v t until l)

  -- a record without a bar marks none, whether it is left out or marked
  bar_or_none : (b : Bar) (xs ys : List ℕ) (r : Bearing) → Told (b ∷ []) xs ys r → Told (only (is_bar b) b) xs ys r
  unfolding only is_bar
  bar_or_none Free xs ys r f =
      (record { marked = λ bars m. marked_alike (Free ∷ bars) bars ys (free_alike bars) (f.0.marked bars m); kept = f.0.kept }, f.1 ∙ sym (bearing_free h) ∙ bearing_none h)
  bar_or_none (Stay v a b) xs ys r f = f
  bar_or_none (Cross u v t) xs ys r f = f

  -- ---- a chain

  -- what was told of the bars marked so far; once the rest is marked, all are
  pub record Left (all some : List Bar) (before now : List ℕ) (bearing : Bearing) : Type 0 where
    pub rest : (after : List ℕ) (r : Bearing) → Told some now after r → Told all before after (both_of bearing r)

  pub all_left : (all : List Bar) (xs : List ℕ) → Left all all xs xs unbarred
  all_left all xs = record { rest = λ ys r m. rw (none_first r) m }

  module _ (capacity : ℕ) (columns : List ℕ) (x carrier : ℕ) where
    pub own_other : (xs : List ℕ) → (entry capacity columns 2 x ≡ carrier → ⊥) → Told (bars_for carrier (own_bars capacity columns x)) xs xs unbarred
    own_other xs n = rw (other_binds_not capacity columns x carrier n) (told_none xs)

    pub own_marked : (b : Bar) (xs ys : List ℕ) (r : Bearing) → entry capacity columns 2 x ≡ carrier → b ≡ bar_at capacity columns x → Told (b ∷ []) xs ys r → Told (bars_for carrier (own_bars capacity columns x)) xs ys r
    own_marked b xs ys r e f g = rw (own_binds capacity columns x carrier e, ← f) (bar_or_none b xs ys r g)

    pub own_then : (all : List Bar) (above : ℕ) (xs ys zs : List ℕ) (bearing own r : Bearing) → Left all (bars_for carrier (chain_of capacity columns x)) xs ys bearing → Told (bars_for carrier (own_bars capacity columns x)) ys zs own → BoundAbove capacity columns x carrier above → r ≡ both_of bearing own → Left all (bars_for carrier (chain_of capacity columns above)) xs zs r
    own_then all above xs ys zs bearing own r f g b e =
        record {
          rest = λ ws q m.
              rw (e, both_assoc bearing own q)
              (f.rest ws (both_of own q)
              (rw b.goes_on
              (told_then (bars_for carrier (own_bars capacity columns x)) (bars_for carrier (chain_of capacity columns above)) ys zs ws own q g m)));
        }

    pub root_last : (all : List Bar) (xs ys zs : List ℕ) (bearing own r : Bearing) → Left all (bars_for carrier (chain_of capacity columns x)) xs ys bearing → x ≡ 0 → Told (bars_for carrier (own_bars capacity columns x)) ys zs own → r ≡ both_of bearing own → Told all xs zs r
    root_last all xs ys zs bearing own r f z g e = rw e (f.rest zs own (rw (root_binds capacity columns x carrier z) g))

    -- ---- all bars

    pub all_told : (b : Bar) (before xs ys zs : List ℕ) (above new r : Bearing) → Layered width height h before → xs ≡ zeroed both before → Told (bars_for carrier (chain_of capacity columns x)) xs ys above → Told (b ∷ []) ys zs new → r ≡ both_of new above → MarkedAll width height h (bound_by capacity columns x carrier b) before zs × (r ≡ bearing_of h (bound_by capacity columns x carrier b))
    unfolding bound_by
    all_told b before xs ys zs above new r l c f g e =
        let chain = bars_for carrier (chain_of capacity columns x) in
        let m : Marked width height chain h ys = subst (λ l. Marked width height l h ys) (append-nil chain) (f.0.marked [] (cleared_marked before xs l c)) in (
          record {
            marked = g.0.marked chain m;
            kept = same_then both before ys zs (same_then both before xs ys (cleared_kept before xs l c) f.0.kept) g.0.kept;
          },
          e ∙ (rw (f.1, g.1) (sym (bearing_append h (b ∷ []) chain))),
        )
