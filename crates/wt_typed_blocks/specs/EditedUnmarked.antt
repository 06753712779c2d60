-- The same without marks, as a browser sends it: the contents that were edited are found by the difference from the page.
use Rattle.std.specs.Prelude.{◌≡◌, ◌≢◌, true, false}
use Rattle.wt_tree.specs.declared.kind.Kind.TheVariants as kind
use Rattle.wt_tree.specs.Kinds.{is_block}
use Rattle.wt_tree.specs.Tree.{Label, Tree, tree, Trees, none, more, label}
use Rattle.wt_difference.specs.Difference.{same_inside}
use Rattle.wt_difference.specs.Insides.{is_block_part, has_inside}
use Rattle.wt_difference.specs.Unedited.{SameLabel, IsUnedited}
use Rattle.wt_typed_blocks.specs.Sent.{kind_of}
use Rattle.wt_typed_blocks.specs.Edited.{Pieces, no_pieces, gone, written, kept, around, new_style, sent_pieces, Edited, stays, edited, round, Edits, no_edits, more_edits, page_node}

-- a block whose content was edited has any mark, or none
abbrev mutual
  pub bare_node : Edited → Tree
  bare_node (stays t u) = u
  bare_node (edited k l m ps) = tree (record m { kind = kind_of k; id = l.id; attrs = l.attrs; mw = l.mw }) (sent_pieces ps)
  bare_node (round l m es) = tree m (bare_nodes es)

  pub bare_nodes : Edits → Trees
  bare_nodes no_edits = none
  bare_nodes (more_edits e es) = more (bare_node e) (bare_nodes es)

abbrev pub bare_body : Label → Label → Edits → Tree
bare_body l b es = tree (record b { kind = kind.Body; id = 0; attrs = l.attrs; mw = l.mw }) (bare_nodes es)

-- each of them that holds such blocks is a block itself, as a table is
abbrev pub AreRoundInBlocks : Edits → Type 0
AreRoundInBlocks no_edits = Unit {0}
AreRoundInBlocks (more_edits (stays t u) es) = AreRoundInBlocks es
AreRoundInBlocks (more_edits (edited k l m ps) es) = AreRoundInBlocks es
AreRoundInBlocks (more_edits (round l m ds) es) = (is_block l.kind ≡ true) × AreRoundInBlocks es

-- A node that holds such blocks is the page's own, a part of those that pages are built of, with a number. Where it may begin with a text, as
-- a cell may, the blocks end this text.
pub record IsOwnRound (l m : Label) (es : Edits) : Type 0 where
  pub own : SameLabel l m
  pub numbered : l.id ≢ 0
  pub part : is_block_part l.kind ≡ true
  pub behind_text : has_inside l.kind ≡ true → AreRoundInBlocks es

-- what stays in a content is inline
abbrev pub AreInline : Pieces → Type 0
AreInline no_pieces = Unit {0}
AreInline (gone t ps) = AreInline ps
AreInline (written x text ps) = AreInline ps
AreInline (kept t u ps) = (is_block_part (label u).kind ≡ false) × AreInline ps
AreInline (around l m is ps) = AreInline ps
AreInline (new_style m is ps) = AreInline ps

-- What stays is the page's own in all that the difference looks at, and each content is another one than that of the page's block.
abbrev mutual
  pub IsTold : Edited → Type 0
  IsTold (stays t u) = IsUnedited t u
  IsTold (edited k l m ps) = (same_inside (page_node (edited k l m ps)) (bare_node (edited k l m ps)) ≡ false) × AreInline ps
  IsTold (round l m es) = IsOwnRound l m es × AreTold es

  pub AreTold : Edits → Type 0
  AreTold no_edits = Unit {0}
  AreTold (more_edits e es) = IsTold e × AreTold es
