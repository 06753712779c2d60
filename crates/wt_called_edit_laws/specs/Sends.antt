-- What is sent for nodes with places among them, where the contents of the blocks at some places are edited.
use Rattle.std.specs.Prelude.{◌≡◌, ℕ, Option, Some, None, List, [], ◌∷◌}
use Rattle.wt_tree.specs.Plain.{Plains, plain_before, plains_before}
use Rattle.wt_tree.specs.Source.{flat, flat_of_all}
use Rattle.wt_tree.specs.Tree.{Tree, Trees}
use Rattle.wt_visible.specs.SameNodes.{same_node}
use Rattle.wt_part_laws.specs.Placeless.{all_placeless}
use Rattle.wt_typed_blocks.specs.Edited.{Edited, stays, edited, round, Edits, no_edits, more_edits, page_nodes, edited_before, edits_before}
use Rattle.wt_typed_blocks.specs.EditedPage.{edited_source, edited_sources}
use Rattle.wt_part_laws.specs.TreeFrames.{TreeFrame, spot, kept, holder, TreeFrames, no_nodes, more_nodes, all_filled, spots}
use Rattle.wt_called_edit_laws.specs.Nodes.{NoneLeaves}

-- for a block at a place: this edit of its content, or the block as it is
abbrev pub BlockSent : Option Edited → Edited → Type 0
BlockSent None (stays t u) = Unit {0}
BlockSent None (edited k l m ps) = ⊥
BlockSent None (round l m es) = ⊥
BlockSent (Some d) (stays t u) = ⊥
BlockSent (Some d) (edited k l m ps) = d ≡ edited k l m ps
BlockSent (Some d) (round l m es) = ⊥

abbrev pub NoneEdited : (ℕ → Option Edited) → List ℕ → Type 0
NoneEdited o [] = Unit {0}
NoneEdited o (n ∷ ns) = (o n ≡ None) × NoneEdited o ns

-- Every other node stays. One that holds places stays, where nothing is edited at them, or it is sent with what it holds.
abbrev mutual
  pub Sends : (ℕ → Option Edited) → TreeFrame → Edited → Type 0
  Sends o (spot n) e = BlockSent (o n) e
  Sends o (kept t) e = BlockSent None e
  Sends o (holder l fs) (stays t u) = NoneEdited o (spots fs)
  Sends o (holder l fs) (edited k m n ps) = ⊥
  Sends o (holder l fs) (round m n es) = AllSend o fs es

  pub AllSend : (ℕ → Option Edited) → TreeFrames → Edits → Type 0
  AllSend o no_nodes no_edits = Unit {0}
  AllSend o no_nodes (more_edits e es) = ⊥
  AllSend o (more_nodes f fs) no_edits = ⊥
  AllSend o (more_nodes f fs) (more_edits e es) = Sends o f e × AllSend o fs es

-- What is sent for a node makes this one: it has its source in the new page, and shows what it shows.
pub record MakesNode (e : Edited) (t : Tree) : Type 0 where
  pub source : edited_source same_node e ≡ flat t
  pub shows : (rest : Plains) → edited_before e rest ≡ plain_before t rest

pub record MakesNodes (es : Edits) (ts : Trees) : Type 0 where
  pub sources : edited_sources same_node es ≡ flat_of_all ts
  pub show : (rest : Plains) → edits_before es rest ≡ plains_before ts rest

-- The edit of a block's content makes the block with the new content; a block whose content isn't edited is the same.
abbrev pub BlocksMake : (ℕ → Option Edited) → (ℕ → Tree) → (ℕ → Tree) → Type 0
BlocksMake o b c = ((n : ℕ) (e : Edited) → o n ≡ Some e → MakesNode e (c n)) × ((n : ℕ) → o n ≡ None → b n ≡ c n)

-- Then what is sent for all makes the nodes with these blocks.
abbrev pub ContentsMake : TreeFrames → (ℕ → Option Edited) → (ℕ → Tree) → (ℕ → Tree) → Edits → Type 0
ContentsMake fs o b c es = NoneLeaves fs → BlocksMake o b c → AllSend o fs es → all_placeless (page_nodes es) ≡ all_filled b fs → MakesNodes es (all_filled c fs)
