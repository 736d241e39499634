-- Where the part handed back lies: at the entry's offset, or with a refusal at the book's first byte, and the book's bytes from
-- there on are the body, so the two promises of a part agree. By cases on the answer. Assumes nothing.
use Prim.Native.Nat.{ℕ}
use mathlib.Core.Path.{◌≡◌, refl, ap}
use mathlib.Core.List.{List, []}
use lib.ListN.{length, take, drop}
use Rattle.std.specs.Prelude.{Ok, Err}
use Rattle.book.specs.Book.{BookVerdict, if_good, asked_verdict, entry_offset, entry_body, body_of, body_place}
use Rattle.book.proofs.Verdicts.{if_refused, asked_good}
use Rattle.book.proofs.Bodies.{good_consecutive, body_length}

pub good_place : (book : List ℕ) (kind : ℕ) → asked_verdict book kind ≡ Ok tt → body_place book kind ≡ entry_offset book kind
unfolding body_place if_good
good_place book kind e = rw e

pub refused_place : (book : List ℕ) (kind : ℕ) → (asked_verdict book kind ≡ Ok tt → ⊥) → body_place book kind ≡ 0
unfolding body_place
refused_place book kind n = if_refused (asked_verdict book kind) (entry_offset book kind) 0 n

cut_there : (book : List ℕ) (v : BookVerdict) (o : ℕ) (body : List ℕ) → (v ≡ Ok tt → take (length body) (drop o book) ≡ body)
    → take (length (if_good v body [])) (drop (if_good v o 0) book) ≡ if_good v body []
unfolding if_good
cut_there book (Ok tt) o body e = e refl
cut_there book (Err r) o body e = refl

pub part_of_book : (book : List ℕ) (kind : ℕ) → take (length (body_of book kind)) (drop (body_place book kind) book) ≡ body_of book kind
unfolding body_of body_place entry_body
part_of_book book kind =
    cut_there book (asked_verdict book kind) (entry_offset book kind) (entry_body book kind) (λ good.
    let g = asked_good book kind good in
    ap (λ (n : ℕ). take n (drop (entry_offset book kind) book)) (body_length book (good_consecutive book g.0) kind g.1 g.2))
