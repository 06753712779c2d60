-- What is in a body, an item or a cell, as a list of stretches: gaps of separators, and blocks between them. A separator belongs to
-- the innermost node whose inside holds both its neighbours, so gaps at the ends of what a node holds lie outside the node.
use Rattle.std.specs.Prelude.{ℕ, ◌-◌, Bool, true, false, List, [], ◌∷◌, ◌++◌, length, take, drop, reverse}
use Rattle.std.specs.List.{flat_map, prefix_len}
use Rattle.wt_span.specs.Items.{Item}
use Rattle.wt_inline.specs.declared.loose.Loose.TheVariants.{Sep}
use Rattle.wt_inline.specs.ItemTree.{Head, ItemTree, inner, forest}
use Rattle.wt_inline.specs.Parts.{Part, node, parts, children}

pub data Stretch : Type 0 where
  gap : List Item → Stretch
  block : List Part → Stretch

abbrev pub is_gap : Stretch → Bool
is_gap (gap xs) = true
is_gap (block ps) = false

-- a separator is a leaf for each run of characters, and for each mark
abbrev pub stretch_parts : Stretch → List Part
stretch_parts (gap xs) = parts Sep xs
stretch_parts (block ps) = ps

abbrev pub stretches_parts : List Stretch → List Part
stretches_parts ss = flat_map stretch_parts ss

-- ---- gaps at both ends

abbrev pub front_len : List Stretch → ℕ
front_len ss = prefix_len is_gap ss

abbrev pub front_gaps : List Stretch → List Stretch
front_gaps ss = take (front_len ss) ss

abbrev pub past_front : List Stretch → List Stretch
past_front ss = drop (front_len ss) ss

-- how many stretches there are up to the last block
abbrev pub block_len : List Stretch → ℕ
block_len ss = length ss - prefix_len is_gap (reverse ss)

abbrev pub before_end : List Stretch → List Stretch
before_end ss = take (block_len ss) ss

abbrev pub end_gaps : List Stretch → List Stretch
end_gaps ss = drop (block_len ss) ss

-- ---- nodes

abbrev pub tree_block : ItemTree → Stretch
tree_block t = block (node t ∷ [])

abbrev pub node_of : Head → List Item → List Stretch → List Item → ItemTree
node_of h opening ss closing = inner h opening (forest (children (stretches_parts ss))) closing

-- a node with an open delimiter ends with its last block
abbrev pub opened_by : Head → List Item → List Stretch → List Stretch
opened_by h opening ss = tree_block (node_of h opening (before_end ss) []) ∷ end_gaps ss

-- a node without delimiters also begins with its first block
abbrev pub enclosed : Head → List Stretch → List Stretch
enclosed h ss = front_gaps ss ++ opened_by h [] (past_front ss)
