-- A document whose sections are taken out: what they hold is in their place.
use Rattle.std.specs.Prelude.{if◌then◌else◌}
use Rattle.wt_html_grammar.specs.Markup.{Markup, Markups, text, node, empty, more}
use Rattle.wt_schema.specs.Sections.{is_section_name}
use Rattle.wt_page_round_trip.specs.SameBodies.{is_body_name}

-- a text or an element before others, and several of these before others
abbrev mutual
  pub opened_before : Markup → Markups → Markups
  opened_before (text bs) rest = more (text bs) rest
  opened_before (node name ps c) rest = if is_section_name name then all_opened_before c rest else more (node name ps c) rest

  pub all_opened_before : Markups → Markups → Markups
  all_opened_before empty rest = rest
  all_opened_before (more t ts) rest = opened_before t (all_opened_before ts rest)

-- in the body, and not below its other elements
abbrev pub child_opened : Markup → Markup
child_opened (text bs) = text bs
child_opened (node name ps c) = node name ps (if is_body_name name then all_opened_before c empty else c)

abbrev pub children_opened : Markups → Markups
children_opened empty = empty
children_opened (more t ts) = more (child_opened t) (children_opened ts)

abbrev pub sections_opened : Markup → Markup
sections_opened (text bs) = text bs
sections_opened (node name ps c) = node name ps (children_opened c)
