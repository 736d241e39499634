-- A part copied to the front of another table: what has been written after i turns is after i + 1 turns one entry longer.
-- Assumes nothing.
use Prim.Native.Nat.{ℕ, ◌+◌, ◌-◌, ◌≤◌, ◌<◌, suc}
use mathlib.Core.Path.{◌≡◌, ◌∙◌}
use mathlib.Core.List.{List, ◌++◌}
use native.Mathlib.Omega.{arith}
use native.Mathlib.Numerals.{add-one}
use lib.ListN.{length, get_or, take, drop, set, length-take, length-drop}
use lib.Seq.{take-suc, drop-cons, append_snoc, set_at, get_or-take, get_or-drop}

module _ (plans output : List ℕ) (from n : ℕ) (inside : from + n ≤ length plans) (room : n ≤ length output) where
  front_length : (i : ℕ) → i ≤ n → length (take i (drop from plans)) ≡ i
  front_length i l = simp (length-take, length-drop) (omega arith)

  -- the entry that is copied is read in the part
  part_read : (i : ℕ) → i < n → get_or (take (from + n - from) (drop from plans)) i 0 ≡ get_or plans (from + i) 0
  part_read i l = get_or-take (from + n - from) (drop from plans) i 0 (omega arith) ∙ get_or-drop from plans i 0

  pub out_more : (now : List ℕ) (i : ℕ) → i < n → now ≡ take i (drop from plans) ++ drop i output
      → set now i (get_or (take (from + n - from) (drop from plans)) i 0) ≡ take (i + 1) (drop from plans) ++ drop (i + 1) output
  out_more now i l e =
      let a : i < length output = omega arith in
      let b : i < length (drop from plans) = omega (arith, length-drop from plans) in
      rw (e, part_read i l, add-one, drop-cons output i 0, take-suc (drop from plans) i 0, get_or-drop from plans i 0, append_snoc)
      (set_at (take i (drop from plans)) (get_or output i 0) (drop (suc i) output) (get_or plans (from + i) 0) i (front_length i (omega arith)))
