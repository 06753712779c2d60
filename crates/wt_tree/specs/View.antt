-- The tree that a node stands for.
use Rattle.std.specs.Prelude.{ℕ, List, None, map}
use Rattle.std.specs.List.{flat_map}
use Rattle.wt_span.specs.declared.text.Text.{Text}
use Rattle.wt_span.specs.Slice.{bytes_of}
use Rattle.wt_tree.specs.Tree.{Label, Tree, tree, Trees, trees}
use Rattle.wt_tree.specs.declared.node.Attr.{Attr}
use Rattle.wt_tree.specs.declared.node.Node.{Node, Node-F, fold-Node}
use Rattle.wt_tree.specs.declared.kind.AttrName.{AttrName}

-- the bytes of texts, one after another
abbrev pub texts_of : List Text → List ℕ
texts_of ts = flat_map bytes_of ts

-- the names and values of attributes
abbrev pub attrs_of : List Attr → List (AttrName × List ℕ)
attrs_of xs = map (λ a. (a.name, a.value)) xs

-- what a level has beside its children, whatever stands for these
abbrev pub label_of : {A : Type 0} → Node-F A → Label
label_of n = record {
  kind = n.kind;
  id = n.id;
  ranges = n.ranges;
  opening = texts_of n.source.opening;
  closing = texts_of n.source.closing;
  own = texts_of n.source.own;
  shown = n.source.shown;
  attrs = attrs_of n.more.attrs;
  origin = None;
  mark = n.more.mark;
  mw = n.more.mw;
}

abbrev pub view_step : Node-F Tree → Tree
view_step n = tree (label_of n) (trees n.children)

-- the tree that the node stands for
abbrev pub view : Node → Tree
view = fold-Node Tree view_step

abbrev pub views : List Node → Trees
views ns = trees (map view ns)
