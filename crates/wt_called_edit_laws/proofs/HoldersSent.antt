-- What holds a block whose content is edited is neither a leaf nor a group: it is a table's part.
use Rattle.std.proofs.Common.{◌≡◌, ℕ, false, Option, Some, None, ap, ◌∙◌}
use Rattle.wt_tree.specs.Kinds.{is_leaf}
use Rattle.wt_tree.specs.Tiling.{is_group}
use Rattle.wt_tree.specs.Tree.{Label, Tree, tree, Trees}
use Rattle.wt_part_laws.specs.Frames.{Part, content}
use Rattle.wt_part_laws.specs.Placeless.{placeless_label, placeless, all_placeless}
use Rattle.wt_typed_blocks.specs.Edited.{Edited, stays, edited, round, Edits, no_edits, more_edits, page_node, page_nodes, IsOutside, AreOutside}
use Rattle.wt_called_edit_laws.proofs.Cells.Nodes.{same_inside, same_label}
use Rattle.wt_called_edit_laws.proofs.Cells.Equal.{same_first, same_rest}
use Rattle.wt_part_laws.specs.TreeFrames.{TreeFrame, spot, kept, holder, TreeFrames, no_nodes, more_nodes, filled, all_filled}
use Rattle.wt_part_laws.proofs.FramesWalked.{no_leaf}
use Rattle.wt_called_edit_laws.specs.Nodes.{IsHolder, AreHolders}
use Rattle.wt_called_edit_laws.specs.Sends.{BlockSent, Sends, AllSend}
use Rattle.wt_called_edit_laws.specs.Stand.{HasHolders, HaveHolders, BlocksAreFree}
use Rattle.wt_called_edit_laws.proofs.CutFrames.{no_group_round}

-- a block is sent as a block, or as it is
pub none_holds : (v : Option Edited) (l m : Label) (ss : Edits) → BlockSent v (round l m ss) → ⊥
none_holds None l m ss h = h
none_holds (Some d) l m ss h = h

-- a node that is one of these but for its number and place is of its kind
pub kind_held : (l m : Label) (ts us : Trees) → tree (placeless_label l) ts ≡ tree m us → l.kind ≡ m.kind
kind_held l m ts us e = ap (λ (j : Label). j.kind) (same_label (placeless_label l) m ts us e)

mutual
  one_outside : (f : TreeFrame) (p : Part) (o : ℕ → Option Edited) (b : ℕ → Tree) (s : Edited) → IsHolder f p → Sends o f s → placeless (page_node s) ≡ filled b f
      → HasHolders s × IsOutside s
  one_outside f p o b (stays t u) h g e = (tt, tt)
  one_outside f p o b (edited k l m ps) h g e = (tt, tt)
  one_outside (spot n) p o b (round l m ss) h g e = absurd (none_holds (o n) l m ss g)
  one_outside (kept t) p o b (round l m ss) h g e = absurd g
  one_outside (holder k fs) p o b (round l m ss) h g e =
      let kind_is : l.kind ≡ k.kind = kind_held l k (all_placeless (page_nodes ss)) (all_filled b fs) e in
      let group : is_group l.kind ≡ false = ap is_group kind_is ∙ no_group_round p h.0 k.kind h.1 in
      let r = all_outside fs h.0 o b ss h.2 g (same_inside (placeless_label l) k (all_placeless (page_nodes ss)) (all_filled b fs) e) in
      ((ap is_leaf kind_is ∙ no_leaf p h.0 k.kind h.1, group, r.0), (group, r.1))

  pub all_outside : (fs : TreeFrames) (p : Part) (o : ℕ → Option Edited) (b : ℕ → Tree) (es : Edits) → AreHolders fs p → AllSend o fs es
      → all_placeless (page_nodes es) ≡ all_filled b fs → HaveHolders es × AreOutside es
  all_outside fs p o b no_edits h g e = (tt, tt)
  all_outside no_nodes p o b (more_edits s ss) h g e = absurd g
  all_outside (more_nodes f fs) p o b (more_edits s ss) h g e =
      let r = one_outside f p o b s h.0 g.0 (same_first (placeless (page_node s)) (filled b f) (all_placeless (page_nodes ss)) (all_filled b fs) e) in
      let q = all_outside fs p o b ss h.1 g.1 (same_rest (placeless (page_node s)) (filled b f) (all_placeless (page_nodes ss)) (all_filled b fs) e) in
      ((r.0, q.0), (r.1, q.1))

pub blocks_free : (fs : TreeFrames) (o : ℕ → Option Edited) (b : ℕ → Tree) (es : Edits) → BlocksAreFree fs o b es
blocks_free fs o b es h g e = all_outside fs content o b es h g e
