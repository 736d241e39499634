-- Parts of a list, `take k (drop a l)`: where the front is the same the parts there are, and a part that does not meet what was
-- written is as it was. A place in a row of parts tells its part. Assumes nothing.
use Prim.Native.Nat.{ℕ, zero, suc, ◌+◌, ◌-◌, ◌*◌, ◌≤◌, ◌<◌}
use native.Mathlib.Omega.{arith}
use native.Mathlib.Nat.{suc-mul, mul-le-mul_right}
use mathlib.Core.Path.{◌≡◌, refl, sym, ap, ◌∙◌}
use mathlib.Core.List.{List, [], ◌∷◌, ◌++◌, append_assoc}
use lib.Arith.{digits_div, digits_mod}
use lib.ListN.{length, get_or, take, drop, replicate, length-append, length-take, length-drop}
use lib.Seq.{paste, take-take, take_all, take_at, take-nil, drop-drop, drop_at, length-take-le}

-- ---- a list by its entries

pub same_entries : (xs ys : List ℕ) → length xs ≡ length ys → ((i : ℕ) → get_or xs i 0 ≡ get_or ys i 0) → xs ≡ ys
same_entries [] [] e h = refl
same_entries [] (y ∷ ys) e h = absurd (omega arith)
same_entries (x ∷ xs) [] e h = absurd (omega arith)
same_entries (x ∷ xs) (y ∷ ys) e h = rw (h 0) (ap (λ zs. y ∷ zs) (same_entries xs ys (omega arith) (λ i. h (suc i))))

-- zeros at the end are what is read past it
pub zeros_past_the_end : (xs : List ℕ) (n i : ℕ) → get_or (xs ++ replicate n 0) i 0 ≡ get_or xs i 0
zeros_past_the_end [] zero i = refl
zeros_past_the_end [] (suc n) zero = refl
zeros_past_the_end [] (suc n) (suc i) = zeros_past_the_end [] n i
zeros_past_the_end (x ∷ xs) n zero = refl
zeros_past_the_end (x ∷ xs) n (suc i) = zeros_past_the_end xs n i

-- ---- a part more within n parts

pub part_within : (i n size : ℕ) → i < n → i * size + size ≤ n * size
part_within i n size l = omega (arith, suc-mul i size, mul-le-mul_right size l)

pub part_next : (i n size : ℕ) → i < n → (i + 1) * size ≤ n * size
part_next i n size l = let e : i + 1 ≡ suc i = omega arith in rw e (mul-le-mul_right size l)

-- a place in a row of parts tells its part and its place there
pub same_part : (size s t u v : ℕ) → u < size → v < size → s * size + u ≡ t * size + v → s ≡ t
same_part size s t u v h k e = sym (digits_div s {m = size} {r = u} h) ∙ (rw e (digits_div t {m = size} {r = v} k))

pub same_place : (size s t u v : ℕ) → u < size → v < size → s * size + u ≡ t * size + v → u ≡ v
same_place size s t u v h k e = sym (digits_mod s {m = size} {r = u} h) ∙ (rw e (digits_mod t {m = size} {r = v} k))

-- ---- parts of parts

part_drop : (a k : ℕ) (l : List ℕ) → take k (drop a l) ≡ drop a (take (a + k) l)
part_drop zero k l = let e : 0 + k ≡ k = omega arith in rw e refl
part_drop (suc a) k [] = take-nil k ∙ let e : suc a + k ≡ suc (a + k) = omega arith in rw e refl
part_drop (suc a) k (x ∷ l) = let e : suc a + k ≡ suc (a + k) = omega arith in rw e (part_drop a k l)

-- lists with the same front have the same parts there
front_same : (l m : List ℕ) (end a k : ℕ) → take end l ≡ take end m → a + k ≤ end → take k (drop a l) ≡ take k (drop a m)
front_same l m end a k e h =
    part_drop a k l
    ∙ ap (drop a) (sym (take-take (a + k) end l h) ∙ ap (take (a + k)) e ∙ take-take (a + k) end m h)
    ∙ sym (part_drop a k m)

pub part_of_part : (a k end : ℕ) (l : List ℕ) → a + k ≤ end → take k (drop a (take end l)) ≡ take k (drop a l)
part_of_part a k end l h = front_same (take end l) l end a k (take-take end end l (omega arith)) h

-- ---- ys written over a part

abbrev pub written : List ℕ → ℕ → List ℕ → ℕ → List ℕ
written xs a ys k = take a xs ++ (ys ++ drop k (drop a xs))

module _ (xs : List ℕ) (a : ℕ) (ys : List ℕ) (k : ℕ) (long : length ys ≡ k) (room : a + k ≤ length xs) where
  head_long : length (take a xs) ≡ a
  head_long = length-take-le a xs (omega arith)

  pub written-length : length (written xs a ys k) ≡ length xs
  written-length = simp (length-append, length-take, length-drop) (omega arith)

  pub written_here : take k (drop a (written xs a ys k)) ≡ ys
  written_here = rw (drop_at (take a xs) (ys ++ drop k (drop a xs)) a head_long) (take_at ys (drop k (drop a xs)) k long)

  pub written_below : (b m : ℕ) → b + m ≤ a → take m (drop b (written xs a ys k)) ≡ take m (drop b xs)
  written_below b m h = front_same (written xs a ys k) xs a b m (take_at (take a xs) (ys ++ drop k (drop a xs)) a head_long) h

  pub written_above : (b : ℕ) → a + k ≤ b → drop b (written xs a ys k) ≡ drop b xs
  written_above b h =
      let e : a + k + (b - (a + k)) ≡ b = omega arith in
      let same : drop (a + k) (written xs a ys k) ≡ drop (a + k) xs =
      sym (drop-drop k a (written xs a ys k))
      ∙ ap (drop k) (drop_at (take a xs) (ys ++ drop k (drop a xs)) a head_long)
      ∙ drop_at ys (drop k (drop a xs)) k long
      ∙ drop-drop k a xs in
      ap (λ (m : ℕ). drop m (written xs a ys k)) (sym e)
      ∙ sym (drop-drop (b - (a + k)) (a + k) (written xs a ys k))
      ∙ ap (drop (b - (a + k))) same
      ∙ drop-drop (b - (a + k)) (a + k) xs
      ∙ ap (λ (m : ℕ). drop m xs) e

  pub paste-written : paste xs a ys k ≡ written xs a ys k
  paste-written = rw (take_all k ys (omega arith), append_assoc, drop-drop k a xs)
