-- Trees, read piece by piece.
use Rattle.std.proofs.Common.{◌≡◌, ℕ, ◌+◌, ◌<◌, List, ◌++◌, length, drop, get_or, sym, ap, ◌∙◌}
use Rattle.std.proofs.lemmas.List.{at_drop_more}
use Rattle.wt_span.specs.Items.{Item, items}
use Rattle.wt_inline.specs.ItemTree.{ItemTree, inner, ItemTrees, nothing, further, forest, tree_items, held_by_all}
use Rattle.wt_inline.specs.View.{item_tree, item_trees}
use Rattle.wt_inline.specs.declared.tree.PieceTree.{PieceTree, out-PieceTree}
use Rattle.wt_annotated.proofs.HeldPieces.{item_tree_out}

-- ---- how much is left to walk over

abbrev mutual
  pub nodes_in : ItemTree → ℕ
  nodes_in (inner k o ts c) = 3 + nodes_in_all ts

  pub nodes_in_all : ItemTrees → ℕ
  nodes_in_all nothing = 0
  nodes_in_all (further t ts) = nodes_in t + nodes_in_all ts

-- ---- what a tree holds, and what trees do

abbrev pub held_in_all : List PieceTree → List Item
held_in_all ns = held_by_all (forest (item_trees ns))

pub held_parts : (n : PieceTree) → tree_items (item_tree n) ≡ items (out-PieceTree n).opening
    ++ (held_in_all (out-PieceTree n).children ++ items (out-PieceTree n).closing)
held_parts n = ap tree_items (item_tree_out n)

pub held_turn : (ns : List PieceTree) (i : ℕ) (child : PieceTree) → i < length ns → child ≡ get_or ns i child
    → held_in_all (drop i ns) ≡ tree_items (item_tree child) ++ held_in_all (drop (i + 1) ns)
held_turn ns i child lt is =
    at_drop_more held_in_all ns i child lt ∙ ap (λ (c : PieceTree). tree_items (item_tree c) ++ held_in_all (drop (i + 1) ns)) (sym is)
