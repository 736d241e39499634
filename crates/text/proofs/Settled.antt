-- Two results that the contract of a method of `Page` allows are equal: the buffer and the next place. Of what `Writes` says this takes the
-- second half.
-- Assumes nothing.
use Prim.Native.Nat.{ℕ}
use mathlib.Core.List.{List}
use mathlib.Core.Path.{◌≡◌, sym, ap, ◌∙◌}
use Rattle.text.specs.Text.{Page, page}

pub page_settled : (q : Page) (given given' : List ℕ) (r r' : ℕ) → page given r ≡ q → page given' r' ≡ q → (given ≡ given') × (r ≡ r')
page_settled q given given' r r' e f = (ap (λ (p : Page). p.bytes) (e ∙ sym f), ap (λ (p : Page). p.at) (e ∙ sym f))
