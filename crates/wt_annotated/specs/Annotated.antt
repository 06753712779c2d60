-- The annotated tree of a page with calls: its groups, then each node with its place and source by bytes of the page, then
-- the texts and separators of items and cells cut anew, then numbers in preorder.
use Rattle.std.specs.Prelude.{ℕ, ◌+◌, Bool, true, false, Option, Some, None, List, [], ◌++◌, length}
use Rattle.wt_tree.specs.declared.kind.Kind.{Kind}
use Rattle.wt_tree.specs.declared.kind.Kind.TheVariants as kind
use Rattle.wt_tree.specs.declared.kind.Mark.TheVariants as marks
use Rattle.wt_tree.specs.declared.node.DataMw.{DataMw}
use Rattle.wt_tree.specs.Kinds.{is_leaf}
use Rattle.wt_tree.specs.Tree.{Label, Tree, tree, Trees, none, more}
use Rattle.wt_span.specs.Items.{Item}
use Rattle.wt_span.specs.Origins.{OuterCall}
use Rattle.wt_span.specs.Cuts.{place, text_between}
use Rattle.wt_inline.specs.ItemTree.{Head, ItemTree, inner, ItemTrees, nothing, further, tree_items, held_by_all}
use Rattle.wt_annotated.specs.Labels.{leaf_open, if_leaf, if_inner, label_at}
use Rattle.wt_annotated.specs.Numbering.{with_numbers}
use Rattle.wt_annotated.specs.WithoutCalls.{inside_by}
use Rattle.wt_annotated.specs.CutTexts.{cut_texts}
use Rattle.wt_annotated.specs.GroupWord.{group_attrs}
use Rattle.wt_annotated.specs.Grouped.{Grouped, kept, group, GroupedAll, ended, along, grouped}
use Rattle.wt_annotated.specs.GroupParts.{Part, parts}

-- what a node in a group is: it has its source as it was expanded, and neither a place nor a number
abbrev pub no_place : Label → Label
no_place l = record l { ranges = None }

abbrev mutual
  pub unplaced : ItemTree → Tree
  unplaced (inner h opening ts closing) =
      tree (no_place (label_at 0 0 (is_leaf h.kind) h opening (opening ++ (held_by_all ts ++ closing))
      closing)) (inside_by (is_leaf h.kind) (all_unplaced ts))

  pub all_unplaced : ItemTrees → Trees
  all_unplaced nothing = none
  all_unplaced (further t ts) = more (unplaced t) (all_unplaced ts)

-- the open width of a node that is a leaf or isn't
abbrev pub open_by : Bool → Kind → List ℕ → List ℕ → ℕ
open_by true k source opening = leaf_open k (length source)
open_by false k source opening = length opening

-- the label of a node that is kept, from a byte on, by what is on the page for all of it and for its delimiters
abbrev pub kept_label : Bool → Head → ℕ → List ℕ → List ℕ → List ℕ → Label
kept_label is h at source opening closing = record {
  kind = h.kind;
  id = 0;
  ranges = Some (record {
    start = at;
    end = at + length source;
    open_w = open_by is h.kind source opening;
    close_w = length (if_inner is closing);
  });
  opening = if_inner is opening;
  closing = if_inner is closing;
  own = if_leaf is source;
  shown = h.shown;
  attrs = h.attrs;
  origin = None;
  mark = marks.Nothing;
  mw = h.mw;
}

-- the label of a group, from a byte on, by what is on the page for it and by what its element carries; its word is an
-- attribute
abbrev pub group_label : ℕ → List ℕ → Option DataMw → Label
group_label at source mw = record {
  kind = kind.Group;
  id = 0;
  ranges = Some (record { start = at; end = at + length source; open_w = 0; close_w = 0 });
  opening = [];
  closing = [];
  own = source;
  shown = [];
  attrs = group_attrs mw;
  origin = None;
  mark = marks.Nothing;
  mw = mw;
}

-- A tree with groups, by bytes of the page. `carried` is what the element of a group with these parts carries.
abbrev mutual
  pub placed : List OuterCall → (List Part → Option DataMw) → List Item → Grouped → Tree
  placed calls carried all (kept h n o i c gs) =
      tree (kept_label (is_leaf h.kind) h (place calls all n) (text_between calls all n (o + i + c))
      (text_between calls all n o) (text_between calls all (n + o + i) c))
      (inside_by (is_leaf h.kind) (all_placed calls carried all gs))
  placed calls carried all (group n k ts) =
      tree (group_label (place calls all n) (text_between calls all n k) (carried (parts calls all n k)))
      (all_unplaced ts)

  pub all_placed : List OuterCall → (List Part → Option DataMw) → List Item → GroupedAll → Trees
  all_placed calls carried all ended = none
  all_placed calls carried all (along g gs) =
      more (placed calls carried all g) (all_placed calls carried all gs)

unfoldable pub annotated : List OuterCall → (List Part → Option DataMw) → ItemTree → Tree
annotated calls carried t = with_numbers 1 (cut_texts (placed calls carried (tree_items t) (grouped (tree_items t) 0 t)))
