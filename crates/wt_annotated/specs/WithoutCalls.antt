-- The annotated tree where no item comes from a call and no node is a group: each node gets its place by what comes before
-- it, and then the nodes of the whole tree get their numbers.
use Rattle.std.specs.Prelude.{◌≡◌, Bool, true, false, ◌||◌, List, [], ◌++◌}
use Rattle.std.specs.List.{list_all, list_any}
use Rattle.wt_tree.specs.Kinds.{is_leaf}
use Rattle.wt_tree.specs.Tree.{Tree, tree, Trees, none, more}
use Rattle.wt_span.specs.Items.{Item}
use Rattle.wt_inline.specs.ItemTree.{ItemTree, inner, ItemTrees, nothing, further, tree_items, held_by_all}
use Rattle.wt_annotated.specs.Clean.{is_page, is_body}
use Rattle.wt_annotated.specs.Labels.{width, label_at}
use Rattle.wt_annotated.specs.Numbering.{with_numbers}

-- a leaf has no children
abbrev pub inside_by : Bool → Trees → Trees
inside_by true ts = none
inside_by false ts = ts

-- a tree after these items, whose nodes have no numbers so far
abbrev mutual
  pub placed : List Item → ItemTree → Tree
  placed before (inner h opening ts closing) = tree (label_at (width before) 0 (is_leaf h.kind) h opening (opening ++ (held_by_all ts ++ closing)) closing)
      (inside_by (is_leaf h.kind) (all_placed (before ++ opening) ts))

  pub all_placed : List Item → ItemTrees → Trees
  all_placed before nothing = none
  all_placed before (further t ts) = more (placed before t) (all_placed (before ++ tree_items t) ts)

unfoldable pub annotated : ItemTree → Tree
annotated t = with_numbers 1 (placed [] t)

-- ---- where this is the tree of a page

-- a node that is a body or holds an item of the page
abbrev pub holds_page : ItemTree → Bool
holds_page (inner h opening ts closing) = is_body h.kind || list_any is_page (opening ++ (held_by_all ts ++ closing))

-- what is in a node that is a leaf or isn't
abbrev pub InsideOf : Bool → Type 0 → Type 0
InsideOf true inside = Unit {0}
InsideOf false inside = inside

-- each node below this one that isn't part of a leaf is a body or holds an item of the page
abbrev mutual
  pub NoneEmpty : ItemTree → Type 0
  NoneEmpty (inner h opening ts closing) = InsideOf (is_leaf h.kind) (AllNonEmpty ts)

  pub AllNonEmpty : ItemTrees → Type 0
  AllNonEmpty nothing = Unit {0}
  AllNonEmpty (further t ts) = (holds_page t ≡ true) × NoneEmpty t × AllNonEmpty ts

-- no item comes from a call, and no node is empty
pub record IsPlain (t : ItemTree) : Type 0 where
  pub of_page : list_all is_page (tree_items t) ≡ true
  pub none_empty : NoneEmpty t
