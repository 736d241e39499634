-- Two results that the contract of `lay_floor` allows are equal at every byte of the six rows of 256, and likewise of `lay_shuts`: on the
-- grid the contract tells the byte, and beyond it is as it was. Assumes nothing.
use Prim.Native.Nat.{ℕ, ◌+◌, ◌*◌, ◌<◌, ◌≤◌}
use native.Mathlib.Omega.{arith}
use native.Mathlib.Decide.{dec_lt}
use mathlib.Core.Path.{◌≡◌, sym, ap, ◌∙◌}
use mathlib.Core.Bool.{Bool, true, false}
use mathlib.Core.List.{List}
use lib.ListN.{get_or}
use Rattle.hall.specs.Hall.{Hall, size}
use Rattle.hall.specs.Moves.{move_count}
use Rattle.shuts.specs.Post.{KeptBeyond, FloorLaid, LaidAt}

abbrev Same : List ℕ → List ℕ → Type 0
Same a b = (m v : ℕ) → m < 6 → v < 256 → get_or a (m * 256 + v) 0 ≡ get_or b (m * 256 + v) 0

same_bytes : (n : ℕ) (before a b : List ℕ) → ((m v : ℕ) → m < move_count → v < n → get_or a (m * 256 + v) 0 ≡ get_or b (m * 256 + v) 0) → ((v : ℕ) → v < n → get_or a (1280 + v) 0 ≡ get_or b (1280 + v) 0) → KeptBeyond n before a → KeptBeyond n before b → Same a b
same_bytes n before a b marks closed p q m v h l = at (dec_lt v n) (dec_lt m move_count)
  where
    at : Dec (v < n) → Dec (m < move_count) → get_or a (m * 256 + v) 0 ≡ get_or b (m * 256 + v) 0
    at (yes i) (yes j) = marks m v j i
    at (yes i) (no o) = let last : m ≡ 5 = omega (arith, o) in rw last (closed v i)
    at (no o) d = let beyond : n ≤ v = omega (arith, o) in p.rest m v h beyond l ∙ sym (q.rest m v h beyond l)

pub lay_floor_settled : (hall : Hall) (before a b : List ℕ) → FloorLaid hall before a → FloorLaid hall before b → Same a b
lay_floor_settled hall before a b p q =
    same_bytes (size hall) before a b (λ m v h l. p.floor.marks m v h l ∙ sym (q.floor.marks m v h l)) (λ v l. p.floor.closed v l ∙ sym (q.floor.closed v l)) p.kept q.kept

pub lay_shuts_settled : (crossing : Bool) (floor layers : List ℕ) (from n : ℕ) (before a b : List ℕ) → LaidAt crossing floor layers from n before a → LaidAt crossing floor layers from n before b → Same a b
unfolding LaidAt
lay_shuts_settled true floor layers from n before a b p q =
    same_bytes n before a b (λ m v h l. p.marks m v h l ∙ sym (q.marks m v h l)) (λ v l. p.closed v l ∙ sym (q.closed v l)) p.kept q.kept
lay_shuts_settled false floor layers from n before a b p q = λ m v h l. ap (λ xs. get_or xs (m * 256 + v) 0) (p ∙ sym q)
