-- The two forms in which the carriers are lent give the same team: records, and their bytes, start, goal and slip in turn.
-- Assumes nothing.
use Prim.Native.Nat.{ℕ, zero, suc, ◌+◌, ◌*◌}
use native.Mathlib.Omega.{arith}
use mathlib.Core.Path.{◌≡◌, refl, fun_ext}
use mathlib.Core.List.{List, [], ◌∷◌}
use lib.ListN.{length}
use Rattle.book.specs.Parts.{count_in, start_in, goal_in, slip_in}
use Rattle.carriers.specs.Lent.{bytes_team, record_at, records_team, record_bytes}
use Rattle.carriers.specs.declared.Carrier.{Carrier}

record_bytes_lem : (carriers : List Carrier) (i : ℕ)
    → ((record_at carriers i).start ≡ start_in (record_bytes carriers) i) × ((record_at carriers i).goal ≡ goal_in (record_bytes carriers) i) × ((record_at carriers i).slip ≡ slip_in (record_bytes carriers) i)
unfolding record_bytes
record_bytes_lem [] i = (refl, refl, refl)
record_bytes_lem (c ∷ cs) zero = (refl, refl, refl)
record_bytes_lem (c ∷ cs) (suc i) =
    let s : 3 * suc i ≡ suc (suc (suc (3 * i))) = omega arith in
    let g : 3 * suc i + 1 ≡ suc (suc (suc (3 * i + 1))) = omega arith in
    let l : 3 * suc i + 2 ≡ suc (suc (suc (3 * i + 2))) = omega arith in
    rw (l, g, s) (record_bytes_lem cs i)

bytes_length : (carriers : List Carrier) → length (record_bytes carriers) ≡ length carriers * 3
unfolding record_bytes
bytes_length [] = refl
bytes_length (c ∷ cs) = omega (arith, bytes_length cs)

pub records_are_bytes : (carriers : List Carrier) → records_team carriers ≡ bytes_team (record_bytes carriers)
records_are_bytes carriers =
    let s : ◌≡◌ {A = ℕ → ℕ} (λ i. (record_at carriers i).start) (start_in (record_bytes carriers)) = fun_ext (λ i. (record_bytes_lem carriers i).0) in
    let g : ◌≡◌ {A = ℕ → ℕ} (λ i. (record_at carriers i).goal) (goal_in (record_bytes carriers)) = fun_ext (λ i. (record_bytes_lem carriers i).1) in
    let l : ◌≡◌ {A = ℕ → ℕ} (λ i. (record_at carriers i).slip) (slip_in (record_bytes carriers)) = fun_ext (λ i. (record_bytes_lem carriers i).2) in
    let n : length carriers ≡ count_in (record_bytes carriers) = omega (arith, bytes_length carriers) in
    cc
