-- What a node that is kept takes from the page, and what fits below 2^32.
use Rattle.std.specs.Prelude.{◌≡◌, ◌+◌, ◌^◌, ◌<◌, None, List, [], ◌∷◌, length, map}
use Rattle.wt_tree.specs.declared.kind.Ranges.{Ranges}
use Rattle.wt_tree.specs.View.{texts_of}
use Rattle.wt_span.specs.Items.{items}
use Rattle.wt_span.specs.Origins.{OuterCall}
use Rattle.wt_inline.specs.ItemTree.{tree_items, held_by_all}
use Rattle.wt_inline.specs.View.{item_tree}
use Rattle.wt_inline.specs.declared.tree.PieceTree.{PieceTree, out-PieceTree}
use Rattle.wt_runs.specs.declared.child.Child.{Child}
use Rattle.wt_ranges.specs.declared.group_node.Start.{Start}
use Rattle.wt_ranges.specs.declared.kept.Frame.{Frame}
use Rattle.wt_runs.specs.declared.run.Run.{Run}
use Rattle.wt_runs.specs.Children.{nears_of}
use Rattle.wt_runs.specs.RunTrees.{run_children}
use Rattle.wt_annotated.specs.Seams.{first_of, text_from}
use Rattle.wt_annotated.specs.TreeWalk.{opened, filled}
use Rattle.wt_annotated.specs.Walked.{Near, near_nodes}

-- a child ends below 2^32
abbrev pub Fits : List OuterCall → Child → Type 0
Fits calls c = c.byte + length (text_from calls c.before (tree_items (item_tree c.tree))) < 2 ^ 32

abbrev pub NearsFit : List OuterCall → List Near → Type 0
NearsFit calls [] = Unit {0}
NearsFit calls (c ∷ cs) =
    c.byte + length (text_from calls c.before (held_by_all (near_nodes (c ∷ cs)))) < 2 ^ 32

-- and so does a run of children
abbrev pub RunFits : List OuterCall → Run → Type 0
RunFits calls r = NearsFit calls (nears_of calls (run_children r))

abbrev pub frame_ranges : List OuterCall → Child → Ranges
frame_ranges calls c = record {
  start = c.byte;
  end = c.byte + length (text_from calls c.before (tree_items (item_tree c.tree)));
  open_w = length (text_from calls c.before (items (out-PieceTree c.tree).opening));
  close_w = length (text_from calls (filled c.before c.tree) (items (out-PieceTree c.tree).closing));
}

-- a node round its children: its ranges and delimiters, and where the first child begins and the last ends
pub record IsFrame (calls : List OuterCall) (c : Child) (f : Frame) : Type 0 where
  pub ranges : f.ranges ≡ frame_ranges calls c
  pub opening : texts_of f.sources.opening ≡ text_from calls c.before (items (out-PieceTree c.tree).opening)
  pub closing : texts_of f.sources.closing
      ≡ text_from calls (filled c.before c.tree) (items (out-PieceTree c.tree).closing)
  pub own : texts_of f.sources.own ≡ []
  pub before : f.before ≡ opened c.before c.tree
  pub byte : f.byte ≡ c.byte + length (text_from calls c.before (items (out-PieceTree c.tree).opening))
  pub after : f.after ≡ first_of (items (out-PieceTree c.tree).closing) c.after

-- ---- groups

-- where the first of these children begins
abbrev pub group_start : List Child → Start
group_start [] = record { before = None; byte = 0 }
group_start (c ∷ cs) = record { before = c.before; byte = c.byte }

abbrev pub trees_of : List Child → List PieceTree
trees_of cs = map (λ c. c.tree) cs
