-- What an answer tells: a good book passed each of the tests 11 to 14, and with a refusal the rest is not looked at. By
-- cases on the tests' Bools and on the six answers. Assumes nothing.
use Prim.Native.Nat.{ℕ, ◌≤◌}
use native.Mathlib.Omega.{arith}
use mathlib.Core.Path.{◌≡◌, refl, sym, ◌∙◌}
use mathlib.Core.Bool.{Bool, true, false}
use mathlib.Core.List.{List, []}
use borrow.Author.Tests.{ltb-false, le-ltb}
use lib.Dec.{ltb}
use Rattle.std.specs.Prelude.{Ok, Err}
use Rattle.lists.specs.Lists.{refuse_if}
use Rattle.lists.proofs.Tests.{or_fails}
use Rattle.book.specs.declared.BookRefusal.TheVariants.{NoContents, WrongKinds, WrongBodies, WrongLengths, NoKind}
use Rattle.book.specs.Book.{BookVerdict, no_contents, wrong_kinds, wrong_bodies, wrong_lengths, book_verdict, no_kind, if_good, asked_verdict, entry_body, body_of}

pub if_refused : {A : Type 0} (v : BookVerdict) (go stop : A) → (v ≡ Ok tt → ⊥) → if_good v go stop ≡ stop
unfolding if_good
if_refused (Ok tt) go stop n = absurd (n refl)
if_refused (Err r) go stop n = refl

-- ---- a good book

all_passed : (a b c d : Bool)
    → refuse_if {A = BookVerdict} a (Err NoContents) (refuse_if b (Err WrongKinds) (refuse_if c (Err WrongBodies) (refuse_if d (Err WrongLengths) (Ok tt)))) ≡ Ok tt
    → (a ≡ false) × (b ≡ false) × (c ≡ false) × (d ≡ false)
unfolding refuse_if
all_passed true b c d e = let z : ◌≡◌ {A = ℕ} 0 1 = cc in absurd (omega arith)
all_passed false true c d e = let z : ◌≡◌ {A = ℕ} 0 1 = cc in absurd (omega arith)
all_passed false false true d e = let z : ◌≡◌ {A = ℕ} 0 1 = cc in absurd (omega arith)
all_passed false false false true e = let z : ◌≡◌ {A = ℕ} 0 1 = cc in absurd (omega arith)
all_passed false false false false e = (refl, refl, refl, refl)

pub good_passed : (book : List ℕ) → book_verdict book ≡ Ok tt → (no_contents book ≡ false) × (wrong_kinds book ≡ false) × (wrong_bodies book ≡ false) × (wrong_lengths book ≡ false)
unfolding book_verdict
good_passed book e = all_passed (no_contents book) (wrong_kinds book) (wrong_bodies book) (wrong_lengths book) e

-- ---- the answer for a kind

kind_passed : (v : BookVerdict) (b : Bool) → if_good v (refuse_if b (Err NoKind) (Ok tt)) v ≡ Ok tt → (v ≡ Ok tt) × (b ≡ false)
unfolding if_good refuse_if
kind_passed (Ok tt) true e = let z : ◌≡◌ {A = ℕ} 0 1 = cc in absurd (omega arith)
kind_passed (Ok tt) false e = (refl, refl)
kind_passed (Err r) b e = let z : ◌≡◌ {A = ℕ} 0 1 = cc in absurd (omega arith)

kind_between : (kind : ℕ) → no_kind kind ≡ false → (1 ≤ kind) × (kind ≤ 3)
unfolding no_kind
kind_between kind e =
    let h = or_fails (ltb kind 1) (ltb 3 kind) e in
    (ltb-false kind 1 h.0, ltb-false 3 kind h.1)

pub asked_good : (book : List ℕ) (kind : ℕ) → asked_verdict book kind ≡ Ok tt → (book_verdict book ≡ Ok tt) × (1 ≤ kind) × (kind ≤ 3)
unfolding asked_verdict
asked_good book kind e =
    let h = kind_passed (book_verdict book) (no_kind kind) e in
    let k = kind_between kind h.1 in
    (h.0, k.0, k.1)

-- of a good book the kind alone decides
pub asked_kind : (book : List ℕ) (kind : ℕ) → book_verdict book ≡ Ok tt → refuse_if {A = BookVerdict} (no_kind kind) (Err NoKind) (Ok tt) ≡ asked_verdict book kind
unfolding asked_verdict if_good
asked_kind book kind e = rw e

pub asked_three : (book : List ℕ) (kind : ℕ) → book_verdict book ≡ Ok tt → 1 ≤ kind → kind ≤ 3 → asked_verdict book kind ≡ Ok tt
unfolding no_kind refuse_if
asked_three book kind e l h = sym (asked_kind book kind e) ∙ simp (le-ltb kind 1 l, le-ltb 3 kind h)

-- 'With any refusal the part handed back is empty.'
pub refused_empty : (book : List ℕ) (kind : ℕ) → (asked_verdict book kind ≡ Ok tt → ⊥) → body_of book kind ≡ []
unfolding body_of
refused_empty book kind n = if_refused (asked_verdict book kind) (entry_body book kind) [] n

pub good_body : (book : List ℕ) (kind : ℕ) → asked_verdict book kind ≡ Ok tt → body_of book kind ≡ entry_body book kind
unfolding body_of if_good
good_body book kind e = rw e
