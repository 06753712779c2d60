-- A document in whose body texts next to each other are one. The markup of bytes has no two such texts, but where a section's
-- tag was between them and is taken out, they are next to each other.
use Rattle.std.specs.Prelude.{◌≡◌, ℕ, List, ◌++◌, Result, Ok, if◌then◌else◌}
use Rattle.wt_tree.specs.Plain.{plain}
use Rattle.wt_tree.specs.Source.{flat}
use Rattle.wt_tree.specs.Tree.{Tree}
use Rattle.wt_html_grammar.specs.Markup.{Markup, Markups, text, node, empty, more}
use Rattle.wt_schema.specs.Fit.{Misfit}
use Rattle.wt_page_round_trip.specs.SameBodies.{is_body_name}

-- a text before others
abbrev pub text_before : List ℕ → Markups → Markups
text_before bs empty = more (text bs) empty
text_before bs (more (text cs) ts) = more (text (bs ++ cs)) ts
text_before bs (more (node name ps c) ts) = more (text bs) (more (node name ps c) ts)

abbrev pub texts_joined : Markups → Markups
texts_joined empty = empty
texts_joined (more (text bs) ts) = text_before bs (texts_joined ts)
texts_joined (more (node name ps c) ts) = more (node name ps c) (texts_joined ts)

-- in the body alone
abbrev pub child_joined : Markup → Markup
child_joined (text bs) = text bs
child_joined (node name ps c) = node name ps (if is_body_name name then texts_joined c else c)

abbrev pub children_joined : Markups → Markups
children_joined empty = empty
children_joined (more t ts) = more (child_joined t) (children_joined ts)

abbrev pub body_texts_joined : Markup → Markup
body_texts_joined (text bs) = text bs
body_texts_joined (node name ps c) = node name ps (children_joined c)

-- a document that fits to a page with the source of this one, which shows the same
pub record FitsAlike (r : Result Tree Misfit) (t : Tree) : Type 0 where
  pub page : Tree
  pub fits : r ≡ Ok page
  pub source : flat page ≡ flat t
  pub shown : plain page ≡ plain t
