-- The program is `book_lines` with N = 128, on its own tables and a page with room for every text. Assumes nothing.
use Rattle.std.proofs.Common.{rules}
use Rattle.lines.proofs.Program.{program_printed}
use Rattle.lines.proofs.program_lines.Goals as goal

pub returns : goal.returns
returns c = program_printed c.args.book.now c.args.out.now (search rules) c.book_lines.ensures
