-- What a group's first element has as its own `typeof`, where it has one.
use Rattle.std.specs.Prelude.{ℕ, Option, Some, None, List, [], ◌∷◌, length, drop, codes, if◌then◌else◌}
use Rattle.std.specs.Str.{bytes_eq}
use Rattle.wt_html_grammar.specs.Markup.{Pair}
use Rattle.wt_schema.specs.Groups.{transclusion, param, spaced, is_word_of}

abbrev pub behind : List ℕ → List ℕ → Option (List ℕ)
behind w t = if bytes_eq t w then None else Some (drop (length (spaced w)) t)

abbrev pub own_value : List ℕ → Option (List ℕ)
own_value t = if is_word_of transclusion t then behind transclusion t else if is_word_of param t then behind param t else Some t

abbrev pub type_pairs : Option (List ℕ) → List Pair
type_pairs None = []
type_pairs (Some t) = (codes "typeof", t) ∷ []
