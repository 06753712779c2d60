-- Nodes as the pass makes them: a leaf by the pieces that it holds, and any other node by its delimiters and its children.
use Rattle.std.specs.Prelude.{ℕ, true, Some, None, List, []}
use Rattle.wt_tree.specs.declared.kind.Mark.TheVariants as marks
use Rattle.wt_tree.specs.Tree.{Label}
use Rattle.wt_span.specs.Items.{Item, sources}
use Rattle.wt_inline.specs.ItemTree.{Head}
use Rattle.wt_annotated.specs.Labels.{width, label_at}
use Rattle.wt_annotated.specs.Numbering.{number_of}

-- the label of a leaf that holds these items
abbrev pub leaf_label : ℕ → ℕ → Head → List Item → Label
leaf_label at next h own = label_at at (number_of h.kind next) true h [] own []

-- the label of any other node, from this place up to the second
abbrev pub inner_label : ℕ → ℕ → Head → ℕ → List Item → List Item → Label
inner_label at next h end opening closing = record {
  kind = h.kind;
  id = number_of h.kind next;
  ranges = Some (record { start = at; end = end; open_w = width opening; close_w = width closing });
  opening = sources opening;
  closing = sources closing;
  own = [];
  shown = h.shown;
  attrs = h.attrs;
  origin = None;
  mark = marks.Nothing;
  mw = h.mw;
}
