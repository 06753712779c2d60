-- The mark by which an editor says that it changed what an element holds: on elements of a document, by the numbers of their nodes,
-- and on the nodes of the page that the document is.
use Rattle.std.specs.Prelude.{ℕ, ◌&&◌, Bool, true, false, not, Option, Some, None, List, ◌∷◌, codes, if◌then◌else◌}
use Rattle.std.specs.Str.{bytes_eq}
use Rattle.wt_tree.specs.declared.kind.Kind.{Kind}
use Rattle.wt_tree.specs.declared.kind.Mark.{Mark}
use Rattle.wt_tree.specs.declared.kind.Mark.TheVariants as mark
use Rattle.wt_tree.specs.Tiling.{is_group}
use Rattle.wt_tree.specs.Tree.{Label, Tree, tree, Trees, none as no_trees, more as one_more}
use Rattle.wt_html_grammar.specs.Markup.{Pair, Markup, Markups, text, node, empty, more}
use Rattle.wt_schema.specs.Attributes.{has}
use Rattle.wt_schema.specs.Data.{id_for}
use Rattle.wt_schema.specs.Rows.{row}
use Rattle.wt_schema.specs.Sections.{is_section_name}

-- ---- in a document

abbrev pub content_mark : Pair
content_mark = (codes "data-wt-edit", codes "content")

-- an element of this kind, by its number
abbrev pub is_chosen_row : (ℕ → Bool) → Option Kind → List Pair → Bool
is_chosen_row f None ps = false
is_chosen_row f (Some k) ps = f (id_for k ps)

-- What has an `about` is part of a group: no such element is chosen.
abbrev pub is_chosen : (ℕ → Bool) → List ℕ → List Pair → Bool
is_chosen f name ps = not (has (codes "about") ps) && is_chosen_row f (row name ps) ps

-- the mark comes first
abbrev pub pairs_marked : Bool → List Pair → List Pair
pairs_marked true ps = content_mark ∷ ps
pairs_marked false ps = ps

-- Each element of which the number is chosen has the mark, but none in a group.
abbrev mutual
  pub marked : (ℕ → Bool) → Markup → Markup
  marked f (text bs) = text bs
  marked f (node name ps c) = node name (pairs_marked (is_chosen f name ps) ps) (if has (codes "about") ps then c else all_marked f c)

  pub all_marked : (ℕ → Bool) → Markups → Markups
  all_marked f empty = empty
  all_marked f (more t ts) = more (marked f t) (all_marked f ts)

-- in a body or a section, whatever attributes sections have
abbrev mutual
  pub part_marked : (ℕ → Bool) → Markup → Markup
  part_marked f (text bs) = text bs
  part_marked f (node name ps c) = if is_section_name name then node name ps (parts_marked f c) else marked f (node name ps c)

  pub parts_marked : (ℕ → Bool) → Markups → Markups
  parts_marked f empty = empty
  parts_marked f (more t ts) = more (part_marked f t) (parts_marked f ts)

-- in the body, and nowhere else
abbrev pub child_marked : (ℕ → Bool) → Markup → Markup
child_marked f (text bs) = text bs
child_marked f (node name ps c) = node name ps (if bytes_eq name (codes "body") then parts_marked f c else c)

abbrev pub children_marked : (ℕ → Bool) → Markups → Markups
children_marked f empty = empty
children_marked f (more t ts) = more (child_marked f t) (children_marked f ts)

abbrev pub document_marked : (ℕ → Bool) → Markup → Markup
document_marked f (text bs) = text bs
document_marked f (node name ps c) = node name ps (children_marked f c)

-- ---- in the page's tree

abbrev pub mark_by : Bool → Mark → Mark
mark_by true m = mark.Content
mark_by false m = m

abbrev pub label_marked : (ℕ → Bool) → Label → Label
label_marked f l = record l { mark = mark_by (not (is_group l.kind) && f l.id) l.mark }

-- Each node of which the number is chosen has the mark, but groups, and what is in them.
abbrev mutual
  pub tree_marked : (ℕ → Bool) → Tree → Tree
  tree_marked f (tree l ts) = tree (label_marked f l) (if is_group l.kind then ts else trees_marked f ts)

  pub trees_marked : (ℕ → Bool) → Trees → Trees
  trees_marked f no_trees = no_trees
  trees_marked f (one_more t ts) = one_more (tree_marked f t) (trees_marked f ts)
