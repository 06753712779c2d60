-- Where the blocks are whose contents are edited: the nodes of the page tile it, and so each of them says where it is.
use Rattle.std.specs.Prelude.{◌≡◌, ℕ, false, Option, List}
use Rattle.std.specs.List.{AllByRecursion}
use Rattle.wt_tree.specs.Kinds.{is_leaf}
use Rattle.wt_tree.specs.Tiling.{is_group, TiledFrom}
use Rattle.wt_tree.specs.Tree.{Tree}
use Rattle.wt_annotated.specs.Reached.{reached_in_all}
use Rattle.wt_annotated.specs.Slices.{IsSlice}
use Rattle.wt_part_laws.specs.Frames.{content}
use Rattle.wt_part_laws.specs.Placeless.{all_placeless}
use Rattle.wt_typed_blocks.specs.Edited.{Edited, stays, edited, round, Edits, no_edits, more_edits, page_nodes, AreOutside}
use Rattle.wt_typed_blocks.specs.EditedPage.{LieAt}
use Rattle.wt_part_laws.specs.TreeFrames.{TreeFrames, all_filled}
use Rattle.wt_called_edit_laws.specs.Nodes.{AreHolders}
use Rattle.wt_called_edit_laws.specs.Sends.{AllSend}

-- what holds a block whose content is edited is neither a leaf nor a group
abbrev mutual
  pub HasHolders : Edited → Type 0
  HasHolders (stays t u) = Unit {0}
  HasHolders (edited k l m ps) = Unit {0}
  HasHolders (round l m es) = (is_leaf l.kind ≡ false) × (is_group l.kind ≡ false) × HaveHolders es

  pub HaveHolders : Edits → Type 0
  HaveHolders no_edits = Unit {0}
  HaveHolders (more_edits e es) = HasHolders e × HaveHolders es

-- Nodes that tile a page from one place to another, and of which each range is a slice of it.
abbrev pub BlocksStand : List ℕ → ℕ → ℕ → Edits → Type 0
BlocksStand page from to es =
    HaveHolders es → TiledFrom (page_nodes es) from to → AllByRecursion (IsSlice page) (reached_in_all (page_nodes es)) → LieAt from es

-- So it is where the contents of the blocks at some places of a page's nodes are edited, and all else stays.
abbrev pub BlocksAreFree : TreeFrames → (ℕ → Option Edited) → (ℕ → Tree) → Edits → Type 0
BlocksAreFree fs o b es =
    AreHolders fs content → AllSend o fs es → all_placeless (page_nodes es) ≡ all_filled b fs → HaveHolders es × AreOutside es
