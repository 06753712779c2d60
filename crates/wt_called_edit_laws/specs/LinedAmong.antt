-- Any number of paragraphs and headings of a page with calls where they are in it, by the lines of the expanded page: in the body, in cells and in captions.
use Rattle.std.specs.Prelude.{◌≡◌, ◌≢◌, ◌⊎◌, ◌≤◌, ℕ, ◌+◌, None, List, [], ◌∷◌, ◌++◌, length}
use Rattle.std.specs.Str.{IsUtf8}
use Rattle.wt_span.specs.declared.form.ItemForm.TheVariants as form
use Rattle.wt_span.specs.Items.{Item, char, whole, call_of, sources}
use Rattle.wt_span.specs.Origins.{OuterCall, Span}
use Rattle.wt_annotated.specs.Seams.{text_from}
use Rattle.wt_lines.specs.Lines.{content, full_lines}
use Rattle.wt_page.specs.Lines.{ending}
use Rattle.wt_tables.specs.Parts.{joined}
use Rattle.wt_expand.specs.PageCalls.{expanded_page}
use Rattle.wt_expand.specs.Work.{Pages}
use Rattle.wt_commands.specs.Answers.{refusal_of_page}
use Rattle.wt_text_edit_laws.specs.BlockSpots.{BlockSpot}
use Rattle.wt_text_edit_laws.specs.NoCalls.{CallsNothing}
use Rattle.wt_text_edit_laws.specs.PageCuts.{EndClosed, AreFree}
use Rattle.wt_text_edit_laws.specs.SignParts.{IsLedTo}
use Rattle.wt_called_edit_laws.specs.Covered.{AreInNoGroup}
use Rattle.wt_called_edit_laws.specs.Groups.{called_tree}
use Rattle.wt_called_edit_laws.specs.PlacedLines.{LinedBlock, lead_of, all_lines, AreLined}

-- ---- as parts of the page

-- What is on the page for the lines before a block and the sign and marks that begin its line, and for what is left of the line before these: of items that a call
-- gives it is this call, once.
abbrev pub spots_on : List OuterCall → List Item → List LinedBlock → List BlockSpot
spots_on calls es [] = []
spots_on calls es (b ∷ bs) =
    record { before = text_from calls None ((es ++ joined b.before) ++ lead_of b); block = b.block; text = b.text }
    ∷ spots_on calls (ending (joined (b.first ∷ b.more))) bs

abbrev pub end_on : List OuterCall → List Item → List LinedBlock → List (List Item) → List ℕ
end_on calls es [] behind = text_from calls None (es ++ joined behind)
end_on calls es (b ∷ bs) behind = end_on calls (ending (joined (b.first ∷ b.more))) bs behind

-- of a page that is expanded
abbrev pub spots_of_lines : Pages → List ℕ → List LinedBlock → List BlockSpot
spots_of_lines pages page bs = spots_on (expanded_page pages page).outer [] bs

abbrev pub end_of_lines : Pages → List ℕ → List LinedBlock → List (List Item) → List ℕ
end_of_lines pages page bs behind = end_on (expanded_page pages page).outer [] bs behind

-- ---- what is asked of their lines

-- it is no function that is kept
abbrev pub IsNoFunction : Item → Type 0
IsNoFunction (char o b) = Unit {0}
IsNoFunction (whole f o bs) = f ≢ form.Function

-- they come from no call
abbrev pub AreOfPage : List Item → Type 0
AreOfPage [] = Unit {0}
AreOfPage (x ∷ xs) = (call_of x ≡ None) × IsNoFunction x × AreOfPage xs

-- The lines of each block come from no call, whatever the marks before them and the line break before these come from; and no two braces that open in
-- the block come before two that close.
abbrev pub AreOwnLines : List LinedBlock → Type 0
AreOwnLines [] = Unit {0}
AreOwnLines (b ∷ bs) = AreOfPage (joined (b.first ∷ b.more)) × CallsNothing (content (joined (b.first ∷ b.more))) × AreOwnLines bs

-- What is before each on the page ends with a line break, a comment or a tag, or with the end of a call.
abbrev pub AreLed : List BlockSpot → Type 0
AreLed [] = Unit {0}
AreLed (s ∷ ss) = IsLedTo s.before s.block s.text × AreLed ss

-- none of these calls has a byte between two places, nor goes over one of them
abbrev pub AreBeside : ℕ → ℕ → List Span → Type 0
AreBeside from to [] = Unit {0}
AreBeside from to (s ∷ ss) = ((s.1 ≤ from) ⊎ (to ≤ s.0)) × AreBeside from to ss

-- So it is of the lines of each block behind the marks that begin them, where so many bytes come before the first part.
abbrev pub AreUntouched : List OuterCall → List Span → ℕ → List Item → List LinedBlock → Type 0
AreUntouched calls texts at es [] = Unit {0}
AreUntouched calls texts at es (b ∷ bs) =
    let from = at + length (text_from calls None ((es ++ joined b.before) ++ lead_of b)) in
    let own = joined (b.first ∷ b.more) in
    AreBeside from (from + length (sources own)) texts × AreUntouched calls texts (from + length (sources (content own))) (ending own) bs

-- ---- the page

-- The lines of the expanded page are those of these blocks, and those beside them. The blocks call nothing, none is tangled or holds a group, no call
-- that is text has a byte of their lines, and no group of the page's tree has the first byte of one. Before each on the page is a line break, a comment, a
-- tag or the end of a call. Where one ends the page, it holds no comment and no hidden part that nothing ends. The page isn't refused.
pub record IsLinedAmong (pages : Pages) (page : List ℕ) (bs : List LinedBlock) (behind : List (List Item)) : Type 0 where
  pub utf8 : IsUtf8 page
  pub closed : EndClosed (spots_of_lines pages page bs) (end_of_lines pages page bs behind)
  pub are : full_lines (expanded_page pages page).items ≡ all_lines bs behind
  pub lined : AreLined bs behind
  pub own : AreOwnLines bs
  pub led : AreLed (spots_of_lines pages page bs)
  pub free : AreFree (spots_of_lines pages page bs)
  pub untouched : AreUntouched (expanded_page pages page).outer (expanded_page pages page).text_calls 0 [] bs
  pub unrefused : refusal_of_page pages page ≡ None
  pub in_no_group : AreInNoGroup 0 (spots_of_lines pages page bs) (called_tree pages page)
