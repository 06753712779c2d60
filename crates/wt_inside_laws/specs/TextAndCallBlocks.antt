-- Blocks of a page that are texts and calls alone.
use Rattle.std.specs.Prelude.{◌≡◌, ◌⊎◌, ℕ, List}
use Rattle.wt_tree.specs.Source.{flat}
use Rattle.wt_tree.specs.Tree.{Tree, label}
use Rattle.wt_expand.specs.Work.{Pages}
use Rattle.wt_typed_blocks.specs.Sent.{kind_of}
use Rattle.wt_text_edit_laws.specs.TextBlocks.{TextBlock, a_paragraph, a_heading, block_of, source_of}
use Rattle.wt_called_edit_laws.specs.CalledEdits.{page_things}
use Rattle.wt_called_edit_laws.specs.PageThings.{AllMeetLater}
use Rattle.wt_called_edit_laws.specs.PiecedParagraphs.{AreCallsApart, IsTextAndCalls, IsHeadingOfCalls}
use Rattle.wt_called_edit_laws.specs.WholeContents.{IsWholeIn}

-- a text is behind each call, or nothing; or what calls give that are side by side may meet
abbrev pub DoCallsMeet : Pages → Tree → List (List ℕ) → Type 0
DoCallsMeet pages t pieces = AreCallsApart pages pieces ⊎ AllMeetLater pages (page_things t)

abbrev pub IsOfTextsAndCalls : Pages → Tree → TextBlock → List ℕ → Type 0
IsOfTextsAndCalls pages t a_paragraph q = (h : IsTextAndCalls pages q) × DoCallsMeet pages t h.pieces
IsOfTextsAndCalls pages t (a_heading s) q = (h : IsHeadingOfCalls pages s q) × DoCallsMeet pages t h.pieces

-- whatever paragraph or heading of this source this node is
abbrev pub IsTextAndCallBlock : Pages → Tree → Type 0
IsTextAndCallBlock pages t =
    (k : TextBlock) (q : List ℕ) → (label t).kind ≡ kind_of (block_of k) → source_of k q ≡ flat t → IsWholeIn pages k q → IsOfTextsAndCalls pages t k q
