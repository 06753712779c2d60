-- Sections in HTML: of their attributes the mark of an edit alone counts, and in the page's tree what they
-- hold is in their place.
use Rattle.std.specs.Prelude.{ℕ, Bool, Result, Ok, Err, List, codes, filter, if◌then◌else◌}
use Rattle.std.specs.Str.{bytes_eq}
use Rattle.wt_tree.specs.Opened.{without_sections}
use Rattle.wt_tree.specs.Tree.{Tree}
use Rattle.wt_html_grammar.specs.Markup.{Pair, Markup, Markups, text, node, empty, more}

abbrev pub is_section_name : List ℕ → Bool
is_section_name name = bytes_eq name (codes "section")

abbrev pub is_mark_pair : Pair → Bool
is_mark_pair p = bytes_eq p.0 (codes "data-wt-edit")

-- Sections that are in a body, and in those, without the attributes that don't count. (A section that
-- is elsewhere has no place there, whatever its attributes are.)
abbrev mutual
  pub bared : Markup → Markup
  bared (text bs) = text bs
  bared (node name ps c) = if is_section_name name then node name (filter is_mark_pair ps) (all_bared c) else node name ps c

  pub all_bared : Markups → Markups
  all_bared empty = empty
  all_bared (more t ts) = more (bared t) (all_bared ts)

-- the page of a body, where it fits
abbrev pub opened_if_fit : {E : Type 0} → Result Tree E → Result Tree E
opened_if_fit (Ok t) = Ok (without_sections t)
opened_if_fit (Err e) = Err e
