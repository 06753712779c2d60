-- Any number of paragraphs and headings of a page, which may hold calls, where they are in it, by the lines of the expanded page: in the body, in cells and in captions.
use Rattle.std.specs.Prelude.{◌≡◌, ◌⊎◌, ◌≤◌, ℕ, ◌+◌, true, Bool, None, List, [], ◌∷◌, ◌++◌, length}
use Rattle.std.specs.List.{list_all, AllByRecursion}
use Rattle.std.specs.Str.{IsUtf8}
use Rattle.wt_span.specs.Items.{Item, is_mark, call_of}
use Rattle.wt_span.specs.Origins.{OuterCall, Span}
use Rattle.wt_annotated.specs.Seams.{last_of, text_from}
use Rattle.wt_lines.specs.Lines.{content, is_break_item, full_lines}
use Rattle.wt_page.specs.Lines.{ending}
use Rattle.wt_tables.specs.Parts.{joined}
use Rattle.wt_expand.specs.PageCalls.{expanded_page}
use Rattle.wt_expand.specs.Work.{Pages}
use Rattle.wt_commands.specs.Answers.{refusal_of_page}
use Rattle.wt_part_laws.specs.Slots.{AllTrue}
use Rattle.wt_text_edit_laws.specs.BlockSpots.{BlockSpot}
use Rattle.wt_text_edit_laws.specs.ParagraphParts.{break}
use Rattle.wt_text_edit_laws.specs.SignParts.{IsLedTo}
use Rattle.wt_text_edit_laws.specs.TextBlocks.{TextBlock, a_paragraph, a_heading, source_of}
use Rattle.wt_called_edit_laws.specs.AnyBlocks.{open_after, EndsFor, NextApart}
use Rattle.wt_called_edit_laws.specs.CallingBlocks.{AreContentsInFolder}
use Rattle.wt_called_edit_laws.specs.Covered.{HaveFreeBytes}
use Rattle.wt_called_edit_laws.specs.EditableBlocks.{AreEditableContents}
use Rattle.wt_called_edit_laws.specs.Groups.{called_tree}
use Rattle.wt_called_edit_laws.specs.LinedAmong.{spots_of_lines, AreOfPage, AreBeside}
use Rattle.wt_called_edit_laws.specs.PlacedLines.{LinedBlock, lead_of, front_rows, all_lines, LinesApart}
use Rattle.wt_called_edit_laws.specs.SignLines.{IsSignFor, IsApartFrom, AreLinesOn}

-- ---- where they stand

-- its own lines behind this sign: each of a paragraph is text where so many tables are open
abbrev pub LinesOf : List Item → TextBlock → ℕ → List (List Item) → Type 0
LinesOf sign a_paragraph n ls = AreLinesOn sign n ls
LinesOf sign (a_heading s) n ls = Unit {0}

-- as `IsLinedAt`
pub record IsCallingAt (open_tables : List Bool) (b : LinedBlock) : Type 0 where
  pub sign : IsSignFor b.block (length open_tables) b.before b.sign
  pub are_marks : list_all is_mark b.marks ≡ true
  pub some : 1 ≤ length b.first
  pub in_cells : AllTrue (open_after open_tables (front_rows (length open_tables) b))
  pub apart : EndsFor b.block (front_rows (length open_tables) b)
  pub own : LinesOf b.sign b.block (length (open_after open_tables (front_rows (length open_tables) b))) (b.first ∷ b.more)

abbrev pub AreCallingAfter : TextBlock → List Bool → List LinedBlock → List (List Item) → Type 0
AreCallingAfter last open_tables [] behind = LinesApart last (length open_tables) behind
AreCallingAfter last open_tables (b ∷ bs) behind =
    NextApart last b.block (front_rows (length open_tables) b) × IsCallingAt open_tables b
    × AreCallingAfter b.block (open_after open_tables (front_rows (length open_tables) b)) bs behind

-- there is one at least
abbrev pub AreCallingLined : List LinedBlock → List (List Item) → Type 0
AreCallingLined [] behind = ⊥
AreCallingLined (b ∷ bs) behind = IsCallingAt [] b × AreCallingAfter b.block (open_after [] (front_rows 0 b)) bs behind

-- ---- what they give

-- as parts of the page, where this is left of the line before
abbrev pub spot_on : List OuterCall → List Item → LinedBlock → BlockSpot
spot_on calls es b = record { before = text_from calls None ((es ++ joined b.before) ++ lead_of b); block = b.block; text = b.text }

-- a block's lines behind their marks begin with an item of no call
abbrev pub BeginsAlone : List Item → Type 0
BeginsAlone [] = ⊥
BeginsAlone (x ∷ xs) = call_of x ≡ None

-- The line break before its lines, the sign and the marks that begin them come from no call. Behind a sign its source begins with no `}`.
pub record IsOwnFront (b : LinedBlock) : Type 0 where
  pub before : last_of None (joined b.before) ≡ None
  pub marks : AreOfPage (lead_of b)
  pub unclosed : IsApartFrom b.sign b.text

-- Or these come from any calls, and the page is ended there for it, as behind a call; then its first item comes from none.
pub record IsLedFront (calls : List OuterCall) (es : List Item) (b : LinedBlock) : Type 0 where
  pub first : BeginsAlone (content (joined (b.first ∷ b.more)))
  pub led : IsLedTo (text_from calls None ((es ++ joined b.before) ++ lead_of b)) b.block b.text

-- So is what comes before it, where this is left of the line before. Each line break in its lines comes from no call. What is on the page for them is the
-- block's source. So the block may begin or end with a call.
pub record IsCallingHere (calls : List OuterCall) (es : List Item) (b : LinedBlock) : Type 0 where
  pub front : IsOwnFront b ⊎ IsLedFront calls es b
  pub breaks : AllByRecursion (λ x. is_break_item x ≡ true → x ≡ break) (joined (b.first ∷ b.more))
  pub source : text_from calls None (content (joined (b.first ∷ b.more))) ≡ source_of b.block b.text

abbrev pub AreCallingHere : List OuterCall → List Item → List LinedBlock → Type 0
AreCallingHere calls es [] = Unit {0}
AreCallingHere calls es (b ∷ bs) = IsCallingHere calls es b × AreCallingHere calls (ending (joined (b.first ∷ b.more))) bs

-- No call that is text has a byte of a block or of the sign and marks that begin its line, or goes over one of their ends, where so many bytes come before the first part.
abbrev pub AreApartFrom : List OuterCall → List Span → ℕ → List Item → List LinedBlock → Type 0
AreApartFrom calls texts at es [] = Unit {0}
AreApartFrom calls texts at es (b ∷ bs) =
    let line = at + length (text_from calls None (es ++ joined b.before)) in
    let end = (at + length (text_from calls None ((es ++ joined b.before) ++ lead_of b))) + length (source_of b.block b.text) in
    AreBeside line end texts × AreApartFrom calls texts end (ending (joined (b.first ∷ b.more))) bs

-- ---- the page

-- The lines of the expanded page are those of these blocks, and those beside them. Each block is a content in this folder that may be edited, with its
-- calls or without; no call that is text touches one; and each has a byte that no group of the page's tree has. The page isn't refused. That its lines
-- are what it gives by itself follows.
pub record IsLinedCalling (pages : Pages) (page : List ℕ) (bs : List LinedBlock) (behind : List (List Item)) : Type 0 where
  pub utf8 : IsUtf8 page
  pub are : full_lines (expanded_page pages page).items ≡ all_lines bs behind
  pub lined : AreCallingLined bs behind
  pub here : AreCallingHere (expanded_page pages page).outer [] bs
  pub contents : AreContentsInFolder pages (spots_of_lines pages page bs)
  pub editable : AreEditableContents pages (spots_of_lines pages page bs)
  pub apart : AreApartFrom (expanded_page pages page).outer (expanded_page pages page).text_calls 0 [] bs
  pub unrefused : refusal_of_page pages page ≡ None
  pub free : HaveFreeBytes 0 (spots_of_lines pages page bs) (called_tree pages page)
