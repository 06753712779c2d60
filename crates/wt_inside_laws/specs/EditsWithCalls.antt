-- Text edits of paragraphs and headings of a page, with calls in them or without: what is asked of them.
use Rattle.std.specs.Prelude.{◌≡◌, ◌⊎◌, ◌≤◌, ℕ, Option, None, List, length}
use Rattle.std.specs.List.{AllByRecursion}
use Rattle.std.specs.Str.{IsUtf8}
use Rattle.wt_span.specs.declared.limits.TheConstants.{PAGE_BYTES}
use Rattle.wt_tree.specs.Tree.{Tree}
use Rattle.wt_expand.specs.PageCalls.{expanded_page}
use Rattle.wt_expand.specs.Work.{Pages}
use Rattle.wt_page_round_trip.specs.PageTree.{page_tree}
use Rattle.wt_schema.specs.Read.{page as as_page, read}
use Rattle.wt_slices.specs.Changes.{Pair, marked}
use Rattle.wt_visible.specs.SameNodes.{same_node}
use Rattle.wt_commands.specs.Answers.{refusal_of_page, remarked_of}
use Rattle.wt_text_edit_laws.specs.TextBlocks.{TextBlock, a_paragraph, a_heading}
use Rattle.wt_called_edit_laws.specs.CallingTold.{IsExceptedCalling}
use Rattle.wt_called_edit_laws.specs.EditableNodes.{IsEditableNode}
use Rattle.wt_called_edit_laws.specs.PiecedParagraphs.{IsInPieces, IsHeadingInPieces, IsTextAndCalls, IsHeadingOfCalls}
use Rattle.wt_inside_laws.specs.BesideEdits.{IsBesideBlock}
use Rattle.wt_inside_laws.specs.NodeBlocks.{IsNodeBlock}
use Rattle.wt_inside_laws.specs.TextEdits.{IsTextEdit}
use Rattle.wt_inside_laws.specs.ToldEdits.{IsOrdinaryOn}

-- as blocks in pieces are: each piece is a node of the page, or calls nothing
abbrev pub AreInTheirPieces : Pages → TextBlock → List ℕ → Type 0
AreInTheirPieces pages a_paragraph q = IsInPieces pages q
AreInTheirPieces pages (a_heading s) q = IsHeadingInPieces pages s q

-- or texts and calls alone
abbrev pub AreTextsAndCalls : Pages → TextBlock → List ℕ → Type 0
AreTextsAndCalls pages a_paragraph q = IsTextAndCalls pages q
AreTextsAndCalls pages (a_heading s) q = IsHeadingOfCalls pages s q

-- The content of a marked block may be edited with its calls; and texts may be typed beside these, by its nodes in the page's tree, or whatever its source is; or it calls
-- nothing and is ordinary.
pub record IsCallingOn (pages : Pages) (page : List ℕ) (p : Pair) : Type 0 where
  pub editable : IsEditableNode pages p.old
  pub beside : IsNodeBlock pages p.old ⊎ IsBesideBlock pages page p

-- It is none of those that lines or calls except, and is ordinary on this page, or such a one.
pub record MayHoldCalls (pages : Pages) (page : List ℕ) (p : Pair) : Type 0 where
  pub unexcepted : IsExceptedCalling pages page p.old → ⊥
  pub held : IsOrdinaryOn pages page p ⊎ IsCallingOn pages page p

-- Each marked block is ordinary; or some may hold calls.
abbrev pub MayBeMarked : Pages → List ℕ → List Pair → Type 0
MayBeMarked pages page ps = AllByRecursion (IsOrdinaryOn pages page) ps ⊎ AllByRecursion (MayHoldCalls pages page) ps

-- HTML is read as a text edit, of such blocks, of a page that isn't refused.
pub record IsMarkedEdit (pages : Pages) (page input : List ℕ) (new : Tree) (unsourced : Option ℕ) : Type 0 where
  pub utf8 : IsUtf8 page
  pub short : length page ≤ PAGE_BYTES
  pub unrefused : refusal_of_page pages page ≡ None
  pub sent : read input ≡ as_page new unsourced
  pub edit : IsTextEdit same_node (expanded_page pages page) page (page_tree pages page) new
  pub blocks : MayBeMarked pages page (marked (page_tree pages page) new)

-- HTML without marks: with the marks of its difference from the page (`remarked_of`) it is such an edit.
pub record IsMarkedDifference (pages : Pages) (page input : List ℕ) (new : Tree) (unsourced : Option ℕ) : Type 0 where
  pub utf8 : IsUtf8 page
  pub short : length page ≤ PAGE_BYTES
  pub unrefused : refusal_of_page pages page ≡ None
  pub sent : read input ≡ as_page new unsourced
  pub edit : IsTextEdit same_node (expanded_page pages page) page (page_tree pages page) (remarked_of pages page new)
  pub blocks : MayBeMarked pages page (marked (page_tree pages page) (remarked_of pages page new))
