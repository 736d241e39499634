-- What the library gives back and writes is what our planner and our checks tell: its contracts name the same definitions. Assumes nothing.
use mathlib.Core.Path.{refl}
use Rattle.routes.specs.Check.{route_verdict, route_told}
use Rattle.clashes.specs.Check.{meeting_verdict, meeting_told}
use Rattle.planner.specs.Answer.{planned, answer_told}
use Rattle.promises.specs.Ours.{LibraryIsOurs, LibraryChecksAreOurs}

pub library_is_ours : LibraryIsOurs
unfolding LibraryIsOurs
library_is_ours job n before lent r after given a = (
  answer_told (planned job n before).answer,
  record { answer = (planned job n before).answer; planned = record { told = refl; tables = a.tables; promised = a.promised }; is = refl },
  a.number,
  a.told,
)

pub library_checks_are_ours : LibraryChecksAreOurs
unfolding LibraryChecksAreOurs
library_checks_are_ours job plan lent r given = (
  λ c. (route_told (route_verdict job plan), refl, c.number, c.told),
  λ c. (meeting_told (meeting_verdict job plan), refl, c.number, c.told),
)
