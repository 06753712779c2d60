-- The same without marks, as a browser sends it: what was typed is found by the difference from the page.
use Rattle.std.specs.Prelude.{◌≡◌, ◌≢◌, true, false}
use Rattle.wt_tree.specs.declared.kind.Kind.TheVariants as kind
use Rattle.wt_tree.specs.Kinds.{is_block}
use Rattle.wt_tree.specs.Tree.{Label, Tree, tree, Trees, none, more}
use Rattle.wt_difference.specs.Difference.{same_inside}
use Rattle.wt_difference.specs.Insides.{is_block_part, has_inside}
use Rattle.wt_difference.specs.Unedited.{SameLabel, IsUnedited}
use Rattle.wt_typed_blocks.specs.Sent.{kind_of, text_in, Sent, stands, typed, holds, Sents, none_sent, more_sent, old_child}

-- a block in which a text was typed has any mark, or none
abbrev mutual
  pub free_child : Sent → Tree
  free_child (stands t u) = u
  free_child (typed k l ts m x text) = tree (record m { kind = kind_of k; id = l.id; attrs = l.attrs; mw = l.mw }) (text_in x text)
  free_child (holds l m ss) = tree m (free_children ss)

  pub free_children : Sents → Trees
  free_children none_sent = none
  free_children (more_sent s ss) = more (free_child s) (free_children ss)

abbrev pub free_body : Label → Label → Sents → Tree
free_body l b ss = tree (record b { kind = kind.Body; id = 0; attrs = l.attrs; mw = l.mw }) (free_children ss)

-- each of them that holds typed blocks is a block itself, as a table is
abbrev pub HoldInBlocks : Sents → Type 0
HoldInBlocks none_sent = Unit {0}
HoldInBlocks (more_sent (stands t u) ss) = HoldInBlocks ss
HoldInBlocks (more_sent (typed k l ts m x text) ss) = HoldInBlocks ss
HoldInBlocks (more_sent (holds l m rs) ss) = (is_block l.kind ≡ true) × HoldInBlocks ss

-- A node that holds typed blocks is the page's own, a part of those that pages are built of, with a number. Where it may begin with a text, as
-- a cell may, the blocks end this text.
pub record IsOwnHolder (l m : Label) (ss : Sents) : Type 0 where
  pub own : SameLabel l m
  pub numbered : l.id ≢ 0
  pub part : is_block_part l.kind ≡ true
  pub behind_text : has_inside l.kind ≡ true → HoldInBlocks ss

-- What stays is the page's own in all that the difference looks at, and each text that was typed is another one than what the block held.
abbrev mutual
  pub IsToldApart : Sent → Type 0
  IsToldApart (stands t u) = IsUnedited t u
  IsToldApart (typed k l ts m x text) = same_inside (old_child (typed k l ts m x text)) (free_child (typed k l ts m x text)) ≡ false
  IsToldApart (holds l m ss) = IsOwnHolder l m ss × AreToldApart ss

  pub AreToldApart : Sents → Type 0
  AreToldApart none_sent = Unit {0}
  AreToldApart (more_sent s ss) = IsToldApart s × AreToldApart ss
