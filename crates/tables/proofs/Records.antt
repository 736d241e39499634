-- A record written: the eight entries of a node, column after column, are eight different places, and none is another node's.
-- Assumes nothing.
use Prim.Native.Nat.{ℕ, ◌+◌, ◌*◌, ◌≤◌, ◌<◌}
use mathlib.Core.Path.{◌≡◌, refl, sym, ap, subst, ◌∙◌}
use mathlib.Core.List.{List, [], ◌∷◌}
use native.Mathlib.Omega.{arith}
use borrow.Author.Count.{below_more}
use lib.Arith.{digits_lt}
use lib.ListN.{length, get_or, set, length-set}
use lib.Seq.{get_or-set_same, get_or-set_other, drop-set-lt}
use Rattle.lists.proofs.Parts.{same_place}
use Rattle.routes.specs.declared.Bar.{Bar}
use Rattle.routes.specs.declared.Bar.TheVariants.{Free, Stay, Cross}
use Rattle.records.specs.Columns.{entry, bar_from, bar_at}
use Rattle.tables.specs.Post.{code_of, BarFits, Entered, Recorded}
use Rattle.tables.specs.declared.Code.{Code}

-- ---- places

-- the entries of two nodes are different places
pub other_node : (capacity c d x y : ℕ) → x < capacity → y < capacity → (y ≡ x → ⊥) → d * capacity + y ≡ c * capacity + x → ⊥
other_node capacity c d x y hx hy ne e = ne (same_place capacity d c y x hy hx e)

-- a smaller column's entries stand before
pub earlier_column : (capacity c d x : ℕ) → x < capacity → c < d → c * capacity + x < d * capacity
earlier_column capacity c d x hx h = digits_lt h hx

-- ---- a record filled, one column more

module _ (capacity : ℕ) (before : List ℕ) (x : ℕ) (values : List ℕ) where
  pub entered_more : (n : ℕ) (after : List ℕ) → n < 8 → x < capacity → 8 * capacity ≤ length before → Entered capacity before x values n after → Entered capacity before x values (n + 1) (set after (n * capacity + x) (get_or values n 0))
  entered_more n after small inside room f =
      let place : n * capacity + x < 8 * capacity = earlier_column capacity n 8 x inside small in
      record {
        here =
            below_more (λ c. entry capacity (set after (n * capacity + x) (get_or values n 0)) c x ≡ get_or values c 0) n
            (λ c l. get_or-set_other after (n * capacity + x) (c * capacity + x) (get_or values n 0) 0 (λ e. omega (arith, earlier_column capacity c n x inside l)) ∙ f.here c l)
            (get_or-set_same after (n * capacity + x) (get_or values n 0) 0 (omega (arith, f.long)));
        others = λ c y l ne. get_or-set_other after (n * capacity + x) (c * capacity + y) (get_or values n 0) 0 (other_node capacity n c x y inside l ne) ∙ f.others c y l ne;
        long = length-set after (n * capacity + x) (get_or values n 0) ∙ f.long;
        tail = drop-set-lt (8 * capacity) after (n * capacity + x) (get_or values n 0) place ∙ f.tail;
      }

-- ---- a bar in numbers

code_bar : (bar : Bar) → bar_from (code_of bar).kind (code_of bar).first (code_of bar).second (code_of bar).third ≡ bar
unfolding bar_from
code_bar Free = refl
code_bar (Stay v a b) = refl
code_bar (Cross u v t) = refl

-- the numbers of a bar that fits
pub record CodeFits (code : Code) : Type 0 where
  pub kind_fits : code.kind < 65536
  pub first_fits : code.first < 65536
  pub second_fits : code.second < 65536
  pub third_fits : code.third < 65536

code_fits_16 : (bar : Bar) → BarFits bar → CodeFits (code_of bar)
unfolding BarFits
code_fits_16 Free h = record { kind_fits = omega arith; first_fits = omega arith; second_fits = omega arith; third_fits = omega arith }
code_fits_16 (Stay v a b) h = record { kind_fits = omega arith; first_fits = h.0; second_fits = h.1; third_fits = h.2 }
code_fits_16 (Cross u v t) h = record { kind_fits = omega arith; first_fits = h.0; second_fits = h.1; third_fits = h.2 }

pub code_fits : (bar : Bar) (code : Code) → code ≡ code_of bar → BarFits bar → CodeFits code
code_fits bar code e h = subst CodeFits (sym e) (code_fits_16 bar h)

-- ---- the record of an open node

pub recorded : (capacity : ℕ) (before : List ℕ) (x parent carrier : ℕ) (bar : Bar) (sum : ℕ) (code : Code) (after : List ℕ) → code ≡ code_of bar → Entered capacity before x (parent ∷ code.kind ∷ carrier ∷ code.first ∷ code.second ∷ code.third ∷ sum ∷ 1 ∷ []) 8 after → Recorded capacity before x parent carrier bar sum after
unfolding bar_at
recorded capacity before x parent carrier bar sum code after e f =
    record {
      parent_is = f.here 0 (omega arith);
      carrier_is = f.here 2 (omega arith);
      bar_is =
          rw (f.here 1 (omega arith), f.here 3 (omega arith), f.here 4 (omega arith), f.here 5 (omega arith), e) (code_bar bar);
      code_is = (
        f.here 1 (omega arith) ∙ ap (λ c. c.kind) e,
        f.here 3 (omega arith) ∙ ap (λ c. c.first) e,
        f.here 4 (omega arith) ∙ ap (λ c. c.second) e,
        f.here 5 (omega arith) ∙ ap (λ c. c.third) e,
      );
      sum_is = f.here 6 (omega arith);
      opened = f.here 7 (omega arith);
      others = f.others;
      long = f.long;
      tail = f.tail;
    }
