-- Two results that the contract of a public function here allows are equal: each contract is an equation. Assumes nothing.
use mathlib.Core.Path.{◌≡◌, sym, ◌∙◌}
use Rattle.job.specs.declared.Fault.{Fault}
use Rattle.job.specs.declared.Told.{Told}
use Rattle.planner.specs.Answer.{Answer, answer_told}
use Rattle.routes.specs.Check.{RouteVerdict, route_told}
use Rattle.clashes.specs.Check.{MeetingVerdict, meeting_told}

pub answer_told_settled : (answer : Answer) (r s : Told) → r ≡ answer_told answer → s ≡ answer_told answer → r ≡ s
answer_told_settled answer r s p q = p ∙ sym q

pub route_told_settled : (verdict : RouteVerdict) (r s : Fault) → r ≡ route_told verdict → s ≡ route_told verdict → r ≡ s
route_told_settled verdict r s p q = p ∙ sym q

pub meeting_told_settled : (verdict : MeetingVerdict) (r s : Fault) → r ≡ meeting_told verdict → s ≡ meeting_told verdict → r ≡ s
meeting_told_settled verdict r s p q = p ∙ sym q
