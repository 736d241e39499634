-- A team by value has eight places: each is read as what it was filled with, and the zeros after its last carrier change no job.
-- Assumes nothing.
use Prim.Native.Nat.{ℕ, ◌+◌, ◌<◌}
use native.Mathlib.Omega.{arith}
use mathlib.Core.Path.{◌≡◌, ap, ◌∙◌, fun_ext}
use mathlib.Core.List.{List, ◌++◌, map}
use lib.ListN.{get_or, replicate}
use Rattle.lists.specs.Lists.{range}
use Rattle.lists.proofs.Parts.{zeros_past_the_end}
use Rattle.lists.proofs.Ranges.{get_d_mapped}
use Rattle.job.specs.Team.{job_of}
use Rattle.carriers.specs.Lent.{eight}

pub place_read : (f : ℕ → ℕ) (i : ℕ) → i < 8 → get_or (map f eight) i 0 ≡ f i
unfolding range
place_read f i l = let e : 0 + i ≡ i = omega arith in get_d_mapped f 0 0 8 i l ∙ ap f e

pub job_padded : (width height : ℕ) (bytes starts goals slips : List ℕ) (n count h : ℕ)
    → job_of width height bytes (record { starts = starts ++ replicate n 0; goals = goals ++ replicate n 0; slips = slips ++ replicate n 0; count = count }) h
    ≡ record {
      hall = record { width = width; height = height; bytes = bytes };
      count = count;
      start_of = λ i. get_or starts i 0;
      goal_of = λ i. get_or goals i 0;
      slip_of = λ i. get_or slips i 0;
      horizon = h;
    }
job_padded width height bytes starts goals slips n count h =
    let s : ◌≡◌ {A = ℕ → ℕ} (λ i. get_or (starts ++ replicate n 0) i 0) (λ i. get_or starts i 0) = fun_ext (zeros_past_the_end starts n) in
    let g : ◌≡◌ {A = ℕ → ℕ} (λ i. get_or (goals ++ replicate n 0) i 0) (λ i. get_or goals i 0) = fun_ext (zeros_past_the_end goals n) in
    let l : ◌≡◌ {A = ℕ → ℕ} (λ i. get_or (slips ++ replicate n 0) i 0) (λ i. get_or slips i 0) = fun_ext (zeros_past_the_end slips n) in
    cc
