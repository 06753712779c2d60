-- A page that is cut at paragraphs and headings: the items of the whole page, with none that goes over an edge of one of them.
use Rattle.std.specs.Prelude.{◌≡◌, ℕ, ◌≤◌, not, Bool, true, false, None, List, [], ◌∷◌, ◌++◌, All, map, if◌then◌else◌}
use Rattle.wt_span.specs.Bytes.{is_blank}
use Rattle.wt_span.specs.Characters as byte
use Rattle.wt_span.specs.Items.{Item, char, is_char_in, is_mark, sign, sources}
use Rattle.wt_span.specs.Origins.{Expanded}
use Rattle.wt_inline.specs.ItemTree.{ItemTree, forest}
use Rattle.wt_inline.specs.Parts.{children}
use Rattle.wt_lines.specs.Lines.{lines}
use Rattle.wt_blocks.specs.Headings.{level}
use Rattle.wt_expand.specs.PageItems.{page_items}
use Rattle.wt_page.specs.Rows.{marks_len}
use Rattle.wt_selser.specs.Edits.{is_tangled}
use Rattle.wt_part_laws.specs.Rounded.{AllHaveItems}
use Rattle.wt_part_laws.specs.Standing.{standing}
use Rattle.wt_text_edit_laws.specs.BlockSpots.{BlockSpot, spots_source}
use Rattle.wt_text_edit_laws.specs.Contents.{content_parts_of}
use Rattle.wt_text_edit_laws.specs.LonePages.{page_chars}
use Rattle.wt_text_edit_laws.specs.Paragraphs.{IsSeenLine}
use Rattle.wt_text_edit_laws.specs.SignParts.{IsLedTo}
use Rattle.wt_text_edit_laws.specs.TextBetween.{HasEnds}
use Rattle.wt_text_edit_laws.specs.TextBlocks.{TextBlock, a_paragraph, a_heading, source_of, block_tree}
use Rattle.wt_text_edit_laws.specs.TypedHeadings.{Sides, AreBlanks, AreIdle, equals, opening, IsInside}

-- ---- a block, by its items in the page

-- behind the blanks that begin them no mark is first
abbrev pub begins_unmarked : List Item → Bool
begins_unmarked [] = true
begins_unmarked (x ∷ xs) = if is_char_in is_blank x then begins_unmarked xs else not (is_mark x)

-- Lines, in each of which something is neither a blank nor a mark. No mark stands before the first.
pub record AreTextItems (q : List ℕ) (xs : List Item) : Type 0 where
  pub source : sources xs ≡ q
  pub seen : All IsSeenLine (lines xs)
  pub unled : marks_len xs ≡ 0

-- A heading's line: its first `=` and blanks, what it holds, blanks and its last `=`, and what is behind these, where what begins ends.
pub record AreHeadingItems (s : Sides) (q : List ℕ) (xs : List Item) : Type 0 where
  pub own : List Item
  pub rest : List Item
  pub is : xs ≡ page_chars (opening s) ++ (own ++ (page_chars (s.trail ++ equals s.level) ++ rest))
  pub source : sources own ≡ q
  pub rest_source : sources rest ≡ s.rest
  pub some : 1 ≤ s.level
  pub most : s.level ≤ 6
  pub lead : AreBlanks s.lead
  pub trail : AreBlanks s.trail
  pub idle : AreIdle (map sign rest)
  pub ends : HasEnds (s.rest ++ byte.line_break ∷ [])
  pub inside : IsInside s own
  pub of_level : level xs ≡ s.level

abbrev pub AreBlockItems : TextBlock → List ℕ → List Item → Type 0
AreBlockItems a_paragraph q xs = AreTextItems q xs
AreBlockItems (a_heading s) q xs = AreHeadingItems s q xs

-- ---- a block, by its node

-- wherever it is in a page, and whatever this page's items are, it isn't tangled there
pub record IsUntangledAt (u : ItemTree) : Type 0 where
  pub items : Expanded
  pub page : List ℕ
  pub number : ℕ
  pub before : List Item
  pub untangled : is_tangled items page (standing number before u) ≡ false

-- no node in it is empty
pub record IsFreeBlock (k : TextBlock) (q : List ℕ) : Type 0 where
  pub full : AllHaveItems (forest (children (content_parts_of k (page_items q))))
  pub untangled : IsUntangledAt (block_tree k q)

-- ---- the page

-- It begins with a line break.
abbrev pub BeginsBreak : List ℕ → Type 0
BeginsBreak [] = ⊥
BeginsBreak (b ∷ bs) = b ≡ byte.line_break

-- the page's end, or a line break
abbrev pub EndsThere : List ℕ → Type 0
EndsThere [] = Unit {0}
EndsThere (b ∷ bs) = b ≡ byte.line_break

-- A block that ends the page holds no mark that nothing ends: a line break behind it would be read as one.
abbrev pub EndsClosed : List ℕ → List ℕ → Type 0
EndsClosed line [] = page_items (line ++ byte.line_break ∷ []) ≡ page_items line ++ char None byte.line_break ∷ []
EndsClosed line (b ∷ rest) = Unit {0}

-- Items of a page from a place on: those of what is before a block, those of the block, and others.
pub record IsSpotCut (s : BlockSpot) (zs : List Item) : Type 0 where
  pub before : List Item
  pub own : List Item
  pub rest : List Item
  pub is : zs ≡ before ++ (own ++ rest)
  pub source : sources before ≡ s.before
  pub block : AreBlockItems s.block s.text own

-- a block begins where the page begins, or behind a line break, a comment or a tag, a paragraph behind the sign of a table's end or a rule, too; and it
-- ends where its line ends
abbrev pub AreFurtherCuts : List BlockSpot → List ℕ → List Item → Type 0
AreFurtherCuts [] behind zs = EndsThere behind
AreFurtherCuts (s ∷ ss) behind zs =
    (c : IsSpotCut s zs) × IsLedTo s.before s.block s.text × BeginsBreak s.before × EndsClosed (source_of s.block s.text) (spots_source ss behind)
    × AreFurtherCuts ss behind c.rest

-- there is one at least
abbrev pub AreCuts : List BlockSpot → List ℕ → Type 0
AreCuts [] behind = ⊥
AreCuts (s ∷ ss) behind =
    (c : IsSpotCut s (page_items (spots_source (s ∷ ss) behind))) × IsLedTo s.before s.block s.text × EndsClosed (source_of s.block s.text) (spots_source ss behind)
    × AreFurtherCuts ss behind c.rest

-- so each of these: asked is only the one that ends the page
abbrev pub EndClosed : List BlockSpot → List ℕ → Type 0
EndClosed [] behind = Unit {0}
EndClosed (s ∷ ss) behind = EndsClosed (source_of s.block s.text) (spots_source ss behind) × EndClosed ss behind

abbrev pub AreFree : List BlockSpot → Type 0
AreFree [] = Unit {0}
AreFree (s ∷ ss) = IsFreeBlock s.block s.text × AreFree ss
