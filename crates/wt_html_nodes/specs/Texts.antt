-- The texts and values of a tree of elements are UTF-8.
use Rattle.std.specs.Prelude.{Bool, true, List, [], ◌∷◌, ◌&&◌}
use Rattle.std.specs.Str.{is_utf8}
use Rattle.wt_html_grammar.specs.Markup.{Pair, Markup, Markups, text, node, empty, more}

abbrev pub are_utf8_values : List Pair → Bool
are_utf8_values [] = true
are_utf8_values (p ∷ ps) = is_utf8 p.1 && are_utf8_values ps

abbrev mutual
  pub is_utf8_markup : Markup → Bool
  is_utf8_markup (text bs) = is_utf8 bs
  is_utf8_markup (node name ps c) = are_utf8_values ps && are_utf8_markups c

  pub are_utf8_markups : Markups → Bool
  are_utf8_markups empty = true
  are_utf8_markups (more t ts) = is_utf8_markup t && are_utf8_markups ts
