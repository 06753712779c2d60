-- Any texts are taken in the paragraphs and headings of such a page, with marks and without them.
use Rattle.std.specs.Prelude.{◌≡◌, ◌≤◌, ℕ, false, Option, Some, List, length, map}
use Rattle.wt_span.specs.declared.limits.TheConstants.{HTML_BYTES, PAGE_BYTES}
use Rattle.wt_devices.specs.Device.{Pages}
use Rattle.wt_tree.specs.Tree.{Label, Tree, label}
use Rattle.wt_difference.specs.Difference.{same_inside}
use Rattle.wt_difference.specs.Unedited.{SameLabel, IsUnedited}
use Rattle.wt_schema.specs.Read.{page as as_page, read}
use Rattle.wt_commands.specs.Answers.{done, edit_to}
use Rattle.wt_commands.specs.UnmarkedEdits.{DoneByEdit}
use Rattle.wt_typed_blocks.specs.Sent.{Sent, stands, typed, holds, Sents, none_sent, more_sent, old_child, new_body}
use Rattle.wt_typed_blocks.specs.Unmarked.{free_child, free_body}
use Rattle.wt_text_edit_laws.specs.BlockSpots.{BlockSpot, spots_source}
use Rattle.wt_text_edit_laws.specs.Parts.{part_tree}
use Rattle.wt_called_edit_laws.specs.AnyBlocks.{AreSpots, typed_by, IsTextEdit, with_texts, new_page, AllLead}
use Rattle.wt_called_edit_laws.specs.OwnTexts.{AreTypings, own_sent}

-- ---- the edited tree

-- in which the blocks are marked
abbrev pub sent_page : List BlockSpot → List ℕ → Sents → Label → Tree
sent_page ss behind es b = new_body (label (part_tree (spots_source ss behind))) b es

-- whatever marks are on the blocks in which the texts were typed, and on the body
abbrev pub unmarked_page : List BlockSpot → List ℕ → Sents → Label → Tree
unmarked_page ss behind es b = free_body (label (part_tree (spots_source ss behind))) b es

-- ---- what the difference looks at

-- What stays is the page's own, and so is the label of what holds blocks in which texts were typed; and each such text is another one than what
-- the block held.
abbrev mutual
  pub IsOwn : Sent → Type 0
  IsOwn (stands t u) = IsUnedited t u
  IsOwn (typed k l ts m x text) = same_inside (old_child (typed k l ts m x text)) (free_child (typed k l ts m x text)) ≡ false
  IsOwn (holds l m ss) = SameLabel l m × AreOwn ss

  pub AreOwn : Sents → Type 0
  AreOwn none_sent = Unit {0}
  AreOwn (more_sent s ss) = IsOwn s × AreOwn ss

pub record IsUnmarkedEdit (ss : List BlockSpot) (behind : List ℕ) (paths : List (List ℕ)) (es : Sents) : Type 0 where
  pub edit : IsTextEdit ss behind paths es
  pub own : AreOwn es

-- ---- the law

-- The blocks are at paths at which any texts may be typed, in any of them at once:
-- * there is an edit for any texts: the one that sends every other node as it is in the page, without marks;
-- * the edit is done, and the new page is the same with these texts in them, as they are spelled;
-- * without marks, too, `edit` of the difference is done;
-- * the new page is such a page again.
pub record TakesAnyTexts (ss : List BlockSpot) (behind : List ℕ) : Type 0 where
  pub paths : List (List ℕ)
  pub lead : AllLead ss paths (part_tree (spots_source ss behind))
  pub edits : (m : Label) (os : List (Option (List ℕ))) → AreTypings ss os
      → IsTextEdit ss behind paths (own_sent ss behind paths m os) × (map (typed_by (own_sent ss behind paths m os)) paths ≡ os)
  pub takes : (pages : Pages) (b : Label) (es : Sents) → IsTextEdit ss behind paths es → length (new_page ss behind paths es) ≤ PAGE_BYTES
      → edit_to pages (spots_source ss behind) (sent_page ss behind es b) ≡ done (new_page ss behind paths es)
  pub unmarked : (pages : Pages) (stands : Option (List ℕ)) (input : List ℕ) (b : Label) (unsourced : Option ℕ) (es : Sents)
      → IsUnmarkedEdit ss behind paths es → stands ≡ Some (spots_source ss behind) → length (spots_source ss behind) ≤ PAGE_BYTES
      → length (new_page ss behind paths es) ≤ PAGE_BYTES → length input ≤ HTML_BYTES → read input ≡ as_page (unmarked_page ss behind es b) unsourced
      → DoneByEdit pages stands input
  pub again : (es : Sents) → IsTextEdit ss behind paths es → AreSpots (with_texts ss (map (typed_by es) paths)) behind
