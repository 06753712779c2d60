-- The whole attributes of a tag, in their order: the first, and the rest after them.
use Rattle.std.specs.Prelude.{List, ◌++◌, map}
use Rattle.wt_html_grammar.specs.Markup.{Pair}
use Rattle.wt_html_elements.specs.declared.attributes.Attributes.{Attributes}

abbrev pub rest_pairs : Attributes → List Pair
rest_pairs a = map (λ x. (x.name.items, x.value.items)) a.rest.all.items

abbrev pub pairs_in : Attributes → List Pair
pairs_in a = map (λ x. (x.name.items, x.value.items)) a.first.items ++ rest_pairs a
