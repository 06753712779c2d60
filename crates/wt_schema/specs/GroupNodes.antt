-- What is read again of a group: the nodes of the elements that are written for it.
use Rattle.std.specs.Prelude.{◌||◌, ◌&&◌, Bool, true, false, None, []}
use Rattle.wt_tree.specs.Elements.{as_elements, or_empty_span}
use Rattle.wt_tree.specs.Kinds.{may_follow, is_block}
use Rattle.wt_tree.specs.Plain.{Face, Plain, text, element, Plains, ended, along, plains_before}
use Rattle.wt_tree.specs.Leaves.{leaf_label, text_leaf}
use Rattle.wt_tree.specs.Tree.{Label, Tree, tree, Trees, none, more}
use Rattle.wt_schema.specs.Groups.{is_span}

-- ---- the elements that are written for what a group shows: a text at the top is in a `span`, and
-- where nothing is shown there is one empty `span`

abbrev pub elements_for : Trees → Plains
elements_for ts = or_empty_span (as_elements (plains_before ts ended))

-- ---- what is read again

-- it has its kind and its attributes, and nothing else
abbrev pub element_label : Face → Label
element_label f = record (leaf_label f.kind None [] []) { attrs = f.attrs }

abbrev mutual
  pub inner_node : Plain → Tree
  inner_node (text bs) = text_leaf None bs
  inner_node (element f qs) = tree (element_label f) (inner_nodes qs)

  pub inner_nodes : Plains → Trees
  inner_nodes ended = none
  inner_nodes (along p ps) = more (inner_node p) (inner_nodes ps)

abbrev pub group_nodes : Trees → Trees
group_nodes ts = inner_nodes (elements_for ts)

-- ---- the order of elements

abbrev pub is_ended : Plains → Bool
is_ended ended = true
is_ended (along p ps) = false

abbrev pub is_empty_span : Face → Plains → Bool
is_empty_span f qs = is_span f.kind && is_ended qs

abbrev pub is_block_face : Plain → Bool
is_block_face (text bs) = false
is_block_face (element f qs) = is_block f.kind

-- after a block comes no inline element
abbrev pub may_stand_behind : Bool → Plain → Bool
may_stand_behind behind (text bs) = true
may_stand_behind behind (element f qs) = may_follow behind f.kind

abbrev pub in_order : Bool → Plains → Bool
in_order behind ended = true
in_order behind (along p ps) = may_stand_behind behind p && in_order (behind || is_block_face p) ps

-- the same of the elements of a group, but that an empty `span` may be anywhere
abbrev pub is_anywhere : Plain → Bool
is_anywhere (text bs) = false
is_anywhere (element f qs) = is_empty_span f qs

abbrev pub all_follow : Bool → Plains → Bool
all_follow behind ended = true
all_follow behind (along p ps) = (may_stand_behind behind p || is_anywhere p) && all_follow (behind || is_block_face p) ps
