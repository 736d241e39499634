-- The digits of barred crossings tell where a carrier may turn: the moves whose digits are not set lead to the very cells of `may_turn`.
-- Whatever the digits, no move leads off the grid. Assumes nothing.
use Prim.Native.Nat.{ℕ, ◌/◌, ◌%◌, ◌<◌}
use mathlib.Core.Path.{◌≡◌, refl}
use mathlib.Core.Bool.{Bool, true, false, not}
use mathlib.Core.List.{List, [], ◌∷◌, ◌++◌, Memᴰ}
use lib.Dec.{eqb}
use Rattle.lists.specs.Lists.{range, only, keep, any_of}
use Rattle.lists.proofs.Members.{each_member, member_each}
use Rattle.lists.proofs.Ranges.{keep-each, each_same}
use Rattle.hall.specs.Hall.{Hall, size}
use Rattle.hall.specs.Moves.{on_grid, cell_at, row_after, col_after, landing, reach_from, reach, move_count}
use Rattle.hall.proofs.Reach.{reach_inside}
use Rattle.routes.specs.Bars.{bars_way, may_turn}
use Rattle.routes.specs.declared.Bar.{Bar}
use Rattle.marks.specs.Marks.{bars_move, digits_of}
use Rattle.marks.proofs.FiveDigits.{bit, digits_to, digit_is}
use Rattle.shuts.specs.Shuts.{has_digit, unless, turns_by}

-- ---- the digits are the moves that bars forbid

bit_test : (b : Bool) → eqb (bit b) 1 ≡ b
unfolding bit
bit_test true = refl
bit_test false = refl

digit_read : (b : ℕ → Bool) (m : ℕ) → m < move_count → has_digit (digits_to b move_count) m ≡ b m
unfolding has_digit
digit_read b m h = rw (digit_is b m h) (bit_test (b m))

unless_barred : (q : ℕ → Bool) (b : Bool) (x : ℕ) → unless (any_of q (only b x)) (only b x) ≡ keep (λ w. not (q w)) (only b x)
unfolding unless any_of only keep
unless_barred q true x = go (q x)
  where
    go : (c : Bool) → unless (elim c [ true ↦ true | false ↦ false ]) (x ∷ []) ≡ only (not c) x ++ []
    go true = refl
    go false = refl
unless_barred q false x = refl

pub digit_turns : (hall : Hall) (bars : List Bar) (t v : ℕ) → turns_by hall.width hall.height v (digits_of hall.width hall.height bars t v) ≡ may_turn hall bars t v
unfolding turns_by may_turn reach reach_from landing bars_move digits_of
digit_turns hall bars t v =
    rw (keep-each (λ w. not (any_of (bars_way t v w) bars)) (landing hall.width hall.height (v / hall.width) (v % hall.width)) (range 0 move_count))
    (each_same
    (λ m. unless (has_digit (digits_to (bars_move hall.width hall.height bars t v) move_count) m) (landing hall.width hall.height (v / hall.width) (v % hall.width) m))
    (λ m. keep (λ w. not (any_of (bars_way t v w) bars)) (landing hall.width hall.height (v / hall.width) (v % hall.width) m))
    0 move_count
    (λ m _ h.
    rw (digit_read (bars_move hall.width hall.height bars t v) m h)
    (unless_barred (λ w. any_of (bars_way t v w) bars) (on_grid hall.width hall.height (row_after (v / hall.width) m) (col_after (v % hall.width) m)) (cell_at hall.width (row_after (v / hall.width) m) (col_after (v % hall.width) m)))))

-- ---- they lead to cells of the grid

unless_member : (b : Bool) (w : ℕ) (ws : List ℕ) → Memᴰ w (unless b ws) → Memᴰ w ws
unfolding unless
unless_member true w ws m = elim m [ ]
unless_member false w ws m = m

pub turns_inside : (hall : Hall) (v digits w : ℕ) → Memᴰ w (turns_by hall.width hall.height v digits) → w < size hall
unfolding turns_by reach reach_from
turns_inside hall v digits w n =
    let lands = landing hall.width hall.height (v / hall.width) (v % hall.width) in
    let (m, listed, led) = each_member (λ m. unless (has_digit digits m) (lands m)) (range 0 move_count) n in
    reach_inside hall v w (member_each lands (range 0 move_count) listed (unless_member (has_digit digits m) w (lands m) led))
