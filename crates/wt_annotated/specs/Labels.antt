-- What a node of the annotated tree has beside its children.
use Rattle.std.specs.Prelude.{ℕ, ◌+◌, ◌||◌, if◌then◌else◌, Bool, true, false, Some, None, List, [], length}
use Rattle.wt_tree.specs.declared.kind.Kind.{Kind}
use Rattle.wt_tree.specs.declared.kind.Mark.TheVariants as marks
use Rattle.wt_tree.specs.Kinds.{writing}
use Rattle.wt_recut.specs.Recut.{is_as_text}
use Rattle.wt_tree.specs.Tiling.{is_group}
use Rattle.wt_tree.specs.Tree.{Label}
use Rattle.wt_span.specs.Items.{Item, sources}
use Rattle.wt_inline.specs.ItemTree.{Head}

-- how many bytes items have
abbrev pub width : List Item → ℕ
width items = length (sources items)

-- ---- ranges

-- The open width of a leaf with so many bytes: of an element all, of what is written as text nothing, and of a group nothing.
abbrev pub leaf_open : Kind → ℕ → ℕ
leaf_open k n = if is_as_text (writing k) || is_group k then 0 else n

abbrev pub open_width : Bool → Kind → List Item → List Item → ℕ
open_width true k opening own = leaf_open k (width own)
open_width false k opening own = width opening

abbrev pub close_width : Bool → List Item → ℕ
close_width true closing = 0
close_width false closing = width closing

-- ---- what a leaf alone has

abbrev pub if_leaf : {A : Type 0} → Bool → List A → List A
if_leaf true xs = xs
if_leaf false xs = []

abbrev pub if_inner : {A : Type 0} → Bool → List A → List A
if_inner true xs = []
if_inner false xs = xs

-- The label of a node with this head, which is a leaf or isn't, from this place on and with this number; `own` are all items
-- that it holds.
unfoldable pub label_at : ℕ → ℕ → Bool → Head → List Item → List Item → List Item → Label
label_at at id is h opening own closing = record {
  kind = h.kind;
  id = id;
  ranges = Some (record { start = at; end = at + width own; open_w = open_width is h.kind opening own; close_w = close_width is closing });
  opening = if_inner is (sources opening);
  closing = if_inner is (sources closing);
  own = if_leaf is (sources own);
  shown = h.shown;
  attrs = h.attrs;
  origin = None;
  mark = marks.Nothing;
  mw = h.mw;
}
