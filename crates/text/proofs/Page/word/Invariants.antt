-- The bytes passed are written.
use Rattle.std.proofs.Common.{take}
use Rattle.text.specs.Lent.{Writes}
use Rattle.text.proofs.Page.word.Given as goal

abbrev pub invariant-loop-byte : goal.invariant-loop-byte
invariant-loop-byte l = Writes l.initial.self l.self (take l.byte-index l.word)
