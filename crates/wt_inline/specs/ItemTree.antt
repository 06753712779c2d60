-- Trees over items: what a page means, before places and numbers are given. A node has a head, the items of its opening and of
-- its closing delimiter, and children between them. A leaf is all opening.
use Rattle.std.specs.Prelude.{ℕ, Option, None, List, [], ◌∷◌, ◌++◌}
use Rattle.wt_tree.specs.declared.kind.Kind.{Kind}
use Rattle.wt_tree.specs.declared.kind.AttrName.{AttrName}
use Rattle.wt_tree.specs.declared.node.DataMw.{DataMw}
use Rattle.wt_span.specs.Items.{Item}

-- What a node is, and what its element has beside its source and children: the characters that it shows, attributes and data.
pub record Head : Type 0 where
  pub kind : Kind
  pub shown : List ℕ
  pub attrs : List (AttrName × List ℕ)
  pub mw : Option DataMw

-- nothing beside the kind
abbrev pub plain : Kind → Head
plain k = record { kind = k; shown = []; attrs = []; mw = None }

-- attributes beside the kind
abbrev pub with_attrs : Kind → List (AttrName × List ℕ) → Head
with_attrs k attrs = record { kind = k; shown = []; attrs = attrs; mw = None }

mutual
  pub data ItemTree : Type 0 where
    inner : Head → List Item → ItemTrees → List Item → ItemTree

  pub data ItemTrees : Type 0 where
    nothing : ItemTrees
    further : ItemTree → ItemTrees → ItemTrees

abbrev pub leaf : Head → List Item → ItemTree
leaf h own = inner h own nothing []

-- the trees of a list
abbrev pub forest : List ItemTree → ItemTrees
forest [] = nothing
forest (t ∷ ts) = further t (forest ts)

-- the items that a tree holds, in their order
abbrev mutual
  pub tree_items : ItemTree → List Item
  tree_items (inner h opening ts closing) = opening ++ (held_by_all ts ++ closing)

  pub held_by_all : ItemTrees → List Item
  held_by_all nothing = []
  held_by_all (further t ts) = tree_items t ++ held_by_all ts
