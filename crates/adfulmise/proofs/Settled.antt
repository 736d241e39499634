-- Two results that the contract of an exported function allows are equal: the number and every entry lent. Assumes nothing.
use Prim.Native.Nat.{ℕ}
use mathlib.Core.List.{List}
use mathlib.Core.Path.{◌≡◌, sym, ◌∙◌}
use Rattle.job.specs.Job.{Job}
use Rattle.job.specs.declared.Fault.{Fault}
use Rattle.tables.specs.Tables.{Tables}
use Rattle.adfulmise.specs.Post.{Answered, Checked, Read}

pub answered_settled : (job : Job) (n : ℕ) (before : Tables) (lent : List ℕ) (r r' : ℕ) (after after' : Tables) (given given' : List ℕ)
    → Answered job n before lent r after given → Answered job n before lent r' after' given' → (r ≡ r') × (after ≡ after') × (given ≡ given')
answered_settled job n before lent r r' after after' given given' p q =
    (p.number ∙ sym q.number, p.tables ∙ sym q.tables, p.told ∙ sym q.told)

pub checked_settled : (fault : Fault) (lent : List ℕ) (r r' : ℕ) (given given' : List ℕ)
    → Checked fault lent r given → Checked fault lent r' given' → (r ≡ r') × (given ≡ given')
checked_settled fault lent r r' given given' p q = (p.number ∙ sym q.number, p.told ∙ sym q.told)

pub read_settled : (book : List ℕ) (kind : ℕ) (lent : List ℕ) (r r' : ℕ) (given given' : List ℕ)
    → Read book kind lent r given → Read book kind lent r' given' → (r ≡ r') × (given ≡ given')
read_settled book kind lent r r' given given' p q = (p.number ∙ sym q.number, p.place ∙ sym q.place)
