-- The number falls with each call.
use Rattle.text.proofs.Page.+number.Given as goal

abbrev pub decreases-number : goal.decreases-number
decreases-number l = l.n
