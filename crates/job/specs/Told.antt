-- Document 01, 'Numbers given back': the number and what is told beside it. 'Untold numbers are 0.'
use Rattle.std.specs.Prelude.{ℕ}
use Rattle.job.specs.declared.Told.{Told}
use Rattle.job.specs.declared.Fault.{Fault}

-- a number with nothing told
abbrev pub bare : ℕ → Told
bare n = record { number = n; sum = 0; records = 0; carrier = 0; other = 0; table = 0; needed = 0 }

-- a number with a carrier, or with two
abbrev pub named : ℕ → ℕ → ℕ → Told
named n i j = record { number = n; sum = 0; records = 0; carrier = i; other = j; table = 0; needed = 0 }

-- a number with a sum and records
abbrev pub counted : ℕ → ℕ → ℕ → Told
counted n s r = record { number = n; sum = s; records = r; carrier = 0; other = 0; table = 0; needed = 0 }

-- 7, P1: with 'the first short table, in document 01's order, and the length it needed'
abbrev pub too_short : ℕ → ℕ → Told
too_short t l = record { number = 7; sum = 0; records = 0; carrier = 0; other = 0; table = t; needed = l }

-- a check's number with one carrier or two, a step, a distance, and 1 for a swap
abbrev pub fault : ℕ → ℕ → ℕ → ℕ → ℕ → ℕ → Fault
fault n i j t d s = record { number = n; carrier = i; other = j; step = t; distance = d; swap = s; needed = 0 }

-- a refusal of the job, as a check gives it back
abbrev pub refusal : Told → Fault
refusal t = fault t.number t.carrier t.other 0 0 0

-- 7 of a check, to which only the plan is lent: with the length that it needed
abbrev pub plan_too_short : ℕ → Fault
plan_too_short l = record { number = 7; carrier = 0; other = 0; step = 0; distance = 0; swap = 0; needed = l }
