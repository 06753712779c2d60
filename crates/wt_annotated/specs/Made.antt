-- What the one pass over trees makes where no node is a group, from a place on and with a next number: their annotated trees
-- with their texts cut anew, and the place and the number after them.
use Rattle.std.specs.Prelude.{◌≡◌, ℕ, ◌+◌, ◌++◌}
use Rattle.wt_tree.specs.Kinds.{is_leaf}
use Rattle.wt_tree.specs.Tree.{Tree, tree, Trees, none, more}
use Rattle.wt_inline.specs.ItemTree.{ItemTree, inner, ItemTrees, nothing, further, tree_items, held_by_all}
use Rattle.wt_annotated.specs.Labels.{width, label_at}
use Rattle.wt_annotated.specs.Numbering.{number_of, next_after}
use Rattle.wt_annotated.specs.CutTexts.{cut_texts, all_cut_texts}
use Rattle.wt_annotated.specs.Counted.{numbered, numbered_in_all}
use Rattle.wt_annotated.specs.WithoutCalls.{inside_by}

-- places and numbers at once
abbrev mutual
  pub annotated_at : ℕ → ℕ → ItemTree → Tree
  annotated_at at next (inner h opening ts closing) =
      tree (label_at at (number_of h.kind next) (is_leaf h.kind) h opening (opening ++ (held_by_all ts ++ closing)) closing)
      (inside_by (is_leaf h.kind) (all_annotated_at (at + width opening) (next_after h.kind next) ts))

  pub all_annotated_at : ℕ → ℕ → ItemTrees → Trees
  all_annotated_at at next nothing = none
  all_annotated_at at next (further t ts) = more (annotated_at at next t) (all_annotated_at (at + width (tree_items t)) (next + numbered t) ts)

pub record IsMade (at next : ℕ) (t : ItemTree) (u : Tree) (place number : ℕ) : Type 0 where
  pub tree_is : u ≡ cut_texts (annotated_at at next t)
  pub place_is : place ≡ at + width (tree_items t)
  pub number_is : number ≡ next + numbered t

pub record AreMade (at next : ℕ) (ts : ItemTrees) (us : Trees) (place number : ℕ) : Type 0 where
  pub trees_are : us ≡ all_cut_texts (all_annotated_at at next ts)
  pub place_is : place ≡ at + width (held_by_all ts)
  pub number_is : number ≡ next + numbered_in_all ts
