-- Nodes by their heads and texts.
use Rattle.std.specs.Prelude.{ℕ, Option, None, List}
use Rattle.wt_tree.specs.declared.kind.Ranges.{Ranges}
use Rattle.wt_tree.specs.declared.kind.Mark.TheVariants as marks
use Rattle.wt_tree.specs.Tree.{Label}
use Rattle.wt_inline.specs.ItemTree.{Head}

-- the label of a node without a number, with these ranges, delimiters and source of its own
abbrev pub node_label : Head → Option Ranges → List ℕ → List ℕ → List ℕ → Label
node_label h r opening closing own = record {
  kind = h.kind;
  id = 0;
  ranges = r;
  opening = opening;
  closing = closing;
  own = own;
  shown = h.shown;
  attrs = h.attrs;
  origin = None;
  mark = marks.Nothing;
  mw = h.mw;
}
