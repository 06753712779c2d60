-- A tree of a page as plain data, which all definitions above speak of: a label and children.
use Rattle.std.specs.Prelude.{ℕ, List, [], ◌∷◌, ◌++◌}
use Rattle.std.specs.declared.option.Option.{Option}
use Rattle.wt_span.specs.declared.origin.Origin.{Origin}
use Rattle.wt_tree.specs.declared.kind.Kind.{Kind}
use Rattle.wt_tree.specs.declared.kind.Ranges.{Ranges}
use Rattle.wt_tree.specs.declared.kind.AttrName.{AttrName}
use Rattle.wt_tree.specs.declared.kind.Mark.{Mark}
use Rattle.wt_tree.specs.declared.node.DataMw.{DataMw}

-- What a node has beside its children: the fields of a node, its texts by their bytes.
pub record Label : Type 0 where
  pub kind : Kind
  pub id : ℕ
  pub ranges : Option Ranges
  pub opening : List ℕ
  pub closing : List ℕ
  pub own : List ℕ
  pub shown : List ℕ
  pub attrs : List (AttrName × List ℕ)
  pub origin : Option Origin
  pub mark : Mark
  pub mw : Option DataMw

mutual
  pub data Tree : Type 0 where
    tree : Label → Trees → Tree

  pub data Trees : Type 0 where
    none : Trees
    more : Tree → Trees → Trees

abbrev pub label : Tree → Label
label (tree l ts) = l

-- the trees of a list
abbrev pub trees : List Tree → Trees
trees [] = none
trees (t ∷ ts) = more t (trees ts)

-- the trees as a list
abbrev pub listed : Trees → List Tree
listed none = []
listed (more t ts) = t ∷ listed ts

-- Preorder: a tree, then all below it, child after child.
abbrev mutual
  pub subtrees : Tree → List Tree
  subtrees (tree l ts) = tree l ts ∷ subtrees_of_all ts

  pub subtrees_of_all : Trees → List Tree
  subtrees_of_all none = []
  subtrees_of_all (more t ts) = subtrees t ++ subtrees_of_all ts
