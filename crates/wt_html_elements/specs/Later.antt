-- The names of the later attributes of a tag, which are kept beside them.
use Rattle.std.specs.Prelude.{◌≡◌, ℕ, List, map}
use Rattle.wt_html_grammar.specs.Signs.{is_among}
use Rattle.wt_html_grammar.specs.Markup.{Pair}

-- a name is among these exactly if one of the attributes has it
abbrev pub AreNames : List (List ℕ) → List Pair → Type 0
AreNames names ps = (name : List ℕ) → is_among name names ≡ is_among name (map (λ p. p.0) ps)
