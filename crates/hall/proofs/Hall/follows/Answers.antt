-- `hall::Hall::follows` meets its contract: a closed cell never follows, and an open one where a move or a stay reaches it. Assumes nothing.
use Rattle.hall.specs.Lent.{lent_hall}
use Rattle.hall.proofs.HallCode.{follows_test}
use Rattle.hall.proofs.Hall.follows.Goals as goal

pub returns-then-is_open : goal.returns-then-is_open
returns-then-is_open c =
    let a = c.args in
    simp (← follows_test (lent_hall a.self) a.from a.to, ← c.is_open.ensures, ← c.reaches.ensures, c.if-is_open.true)

pub returns-else-is_open : goal.returns-else-is_open
returns-else-is_open c =
    let a = c.args in
    simp (← follows_test (lent_hall a.self) a.from a.to, ← c.is_open.ensures, c.if-is_open.false)
