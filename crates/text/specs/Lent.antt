-- The struct that is written to: a page in a lent buffer.
use Rattle.std.specs.Prelude.{List, ℕ, ◌≡◌}
use Rattle.text.specs.Text.{page, put}
use Rattle.text.specs.declared.Page.{Page}

-- what was `old` is, once the text is written, `new`: the same buffer, and the text on the page
abbrev pub Writes : Page → Page → List ℕ → Type 0
Writes old new text = (new.out.ghost_name ≡ old.out.ghost_name) × (page new.out.now new.at ≡ put (page old.out.now old.at) text)
