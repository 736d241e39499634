-- Document 01, 'The book of a job': 'Asked for one kind, the reader hands back that body as a part of the lent book'. A part
-- is its bytes and its place in memory, so that equal bytes elsewhere in the book, or a copy of them, are not the body.
use Rattle.std.specs.Prelude.{ℕ, ◌+◌, List, ◌≡◌}
use Rattle.std.specs.Borrow.{Bor}
use Rattle.book.specs.Book.{body_of, body_place}

-- `ref_ptr` is a block of memory and how many bytes into it: the part is in the book's block, `body_place` bytes after the book's first
pub record Handed (book : Bor (List ℕ)) (kind : ℕ) (part : Bor (List ℕ)) : Type 0 where
  pub bytes : part.now ≡ body_of book.now kind
  pub begins : part.ref_ptr ≡ (book.ref_ptr.0, book.ref_ptr.1 + body_place book.now kind)
