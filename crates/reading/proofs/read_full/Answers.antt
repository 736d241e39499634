-- `reading::read_full` meets its contract: each read goes behind the bytes before it, and one that gives none says that the input has
-- ended. Assumes nothing.
use Rattle.std.proofs.Common.{◌≡◌, ℕ, ◌+◌, ◌-◌, ◌≤◌, List, ◌++◌, length, take, sym, ap, ◌∙◌, subst, le_refl, drop_at, length-take-le, rules}
use Rattle.std.proofs.lemmas.Slice.{take-put_mid_below}
use Rattle.std.specs.Io.KnownBytes.{Consumes}
use Rattle.std.proofs.KnownBytes.{Consumes-trans}
use borrow.Rule.Slice.PartMut.{put_mid, post_of}
use lib.Seq.{take-add, take-append-le}
use lib.ListN.{drop}
use Rattle.reading.proofs.read_full.Goals as goal

-- n bytes more than the first `at`, where ys was put there
take-put_mid : (at room n : ℕ) (xs ys : List ℕ) → at ≤ length xs → n ≤ length ys → take (at + n) (put_mid at room xs ys) ≡ take at xs ++ take n ys
take-put_mid at room n xs ys within fits =
    let behind : drop at (put_mid at room xs ys) ≡ ys ++ post_of at room xs = drop_at (take at xs) (ys ++ post_of at room xs) at (length-take-le at xs within) in
    take-add at n (put_mid at room xs ys)
    ∙ ap (λ l. l ++ take n (drop at (put_mid at room xs ys))) (take-put_mid_below _ _ _ _ _ (le_refl _) within)
    ∙ ap (λ l. take at xs ++ take n l) behind
    ∙ ap (λ l. take at xs ++ l) (take-append-le n ys (post_of at room xs) fits)

pub loop-size-preserved : goal.loop-size-preserved
loop-size-preserved g c =
    let size = c.loop-size.size in
    let buffer = c.loop-size.buffer in
    let room = length buffer - size in
    let n = c.in_ok-count.count in
    let within = c.loop-size.invariant.0 in
    let joined = take-put_mid size room n buffer c.read.new.buf within c.in_ok-count.ensures.bound.0 in
    (search rules, subst (Consumes _ _) (sym joined) (Consumes-trans _ _ _ _ _ c.loop-size.invariant.1 c.in_ok-count.ensures.bytes.0))
