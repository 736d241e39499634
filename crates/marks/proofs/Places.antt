-- Places in the layers: inside, in either plane, for each step up to h and each cell. Assumes nothing.
use Prim.Native.Nat.{ℕ, ◌+◌, ◌*◌, ◌≤◌, ◌<◌}
use native.Mathlib.Nat.{mul-le-mul}
use native.Mathlib.Omega.{arith}
use mathlib.Core.List.{List}
use lib.Arith.{digits_lt}
use lib.ListN.{length}
use Rattle.hall.proofs.HallCode.{area_small, layers_small}
use Rattle.marks.specs.Post.{Layered}

-- one record of bounds for every sum, product and index of the markers
pub record Bounds (size h t v long : ℕ) : Type 0 where
  pub product : t * size ≤ 16128
  pub cell : v < 256
  pub plane : (h + 1) * size ≤ 16384
  pub below : t * size + v < (h + 1) * size
  pub inside : t * size + v < long
  pub second : (h + 1) * size + t * size + v < long

pub size_small : (width height h : ℕ) (layers : List ℕ) → Layered width height h layers → width * height ≤ 256
size_small width height h layers l = area_small l.wide l.high

pub whole_small : (width height h : ℕ) (layers : List ℕ) → Layered width height h layers → (h + 1) * (width * height) ≤ 16384
whole_small width height h layers l = layers_small l.late (size_small width height h layers l)

pub bounds : (width height h t v : ℕ) (layers : List ℕ) → Layered width height h layers → t ≤ h → v < width * height → Bounds (width * height) h t v (length layers)
bounds width height h t v layers l k i =
    let size = size_small width height h layers l in
    let late = l.late in
    let room = l.room in
    let below : t * (width * height) + v < (h + 1) * (width * height) = digits_lt {q = t} {m = h + 1} {r = v} {c = width * height} (omega arith) i in
    record {
      product = mul-le-mul {n₁ = t} {m₁ = width * height} {n₂ = 63} {m₂ = 256} (omega arith) size;
      cell = omega arith;
      plane = whole_small width height h layers l;
      below = below;
      inside = omega arith;
      second = omega arith;
    }
