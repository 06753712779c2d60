-- Paragraphs of the body of a page, by the blocks that the page's rows are cut into; and where each is in the page.
use Rattle.std.specs.Prelude.{◌≡◌, ◌≢◌, ℕ, List, [], ◌∷◌, ◌++◌, All}
use Rattle.std.specs.Str.{IsUtf8}
use Rattle.wt_span.specs.Items.{Item, sources}
use Rattle.wt_inline.specs.ItemTree.{ItemTree}
use Rattle.wt_lines.specs.declared.kind.LineKind.{LineKind}
use Rattle.wt_lines.specs.declared.kind.LineKind.TheVariants as line
use Rattle.wt_lines.specs.Lines.{full_lines, lines}
use Rattle.wt_expand.specs.PageItems.{page_items}
use Rattle.wt_page.specs.Rows.{Row, rows_from}
use Rattle.wt_page.specs.Body.{meaning}
use Rattle.wt_page.specs.Texts.{para}
use Rattle.wt_part_laws.specs.Blocks.{Block, paragraph, block_rows, AreBlocks}
use Rattle.wt_text_edit_laws.specs.BlockSpots.{BlockSpot}
use Rattle.wt_text_edit_laws.specs.NoCalls.{CallsNothing}
use Rattle.wt_text_edit_laws.specs.PageCuts.{AreTextItems, EndsClosed, IsUntangledAt}
use Rattle.wt_text_edit_laws.specs.ParagraphBetween.{EndsApart, EndsParagraph, body_with}
use Rattle.wt_text_edit_laws.specs.ParagraphParts.{joined_parts, para_with}
use Rattle.wt_text_edit_laws.specs.Paragraphs.{IsTextLine}
use Rattle.wt_text_edit_laws.specs.Parts.{HasNoGroups}
use Rattle.wt_text_edit_laws.specs.TextBetween.{AreEnded}
use Rattle.wt_text_edit_laws.specs.TextBlocks.{a_paragraph}

-- ---- a paragraph of the body

-- The rows of these items are blocks, and this paragraph is one of them: so it is a child of the body that they mean.
pub record IsBodyParagraph (xs : List Item) (r : Row) (rs : List Row) : Type 0 where
  pub before : List Block
  pub behind : List Block
  pub are : AreBlocks (before ++ paragraph r rs ∷ behind) (rows_from 0 (full_lines xs))

-- ---- one that begins and ends with lines of its own

-- the row of a rule, or of a table's end, ends its line
abbrev pub EndsIts : LineKind → List Item → Type 0
EndsIts line.Blank ending = Unit {0}
EndsIts line.TableOpen ending = Unit {0}
EndsIts line.TableEnd ending = ending ≢ []
EndsIts line.Caption ending = Unit {0}
EndsIts line.Row ending = Unit {0}
EndsIts line.Cell ending = Unit {0}
EndsIts line.Header ending = Unit {0}
EndsIts line.Heading ending = Unit {0}
EndsIts line.Rule ending = ending ≢ []
EndsIts line.List ending = Unit {0}
EndsIts line.Pre ending = Unit {0}
EndsIts line.Text ending = Unit {0}

-- so does the last of these rows
abbrev pub EndWhole : List Row → Type 0
EndWhole [] = Unit {0}
EndWhole (r ∷ []) = EndsIts r.kind r.ending
EndWhole (r ∷ s ∷ rs) = EndWhole (s ∷ rs)

abbrev pub rows_of : List Block → List Row
rows_of [] = []
rows_of (b ∷ bs) = block_rows b ++ rows_of bs

-- no mark is before one of its lines
abbrev pub AreBare : List Row → Type 0
AreBare [] = Unit {0}
AreBare (r ∷ rs) = (r.lead ≡ []) × AreBare rs

-- It is behind no rule and no table's end on its first line, and no mark is before one of its lines.
pub record IsBareParagraph (xs : List Item) (r : Row) (rs : List Row) : Type 0 where
  pub of_body : IsBodyParagraph xs r rs
  pub whole : EndWhole (rows_of of_body.before)
  pub bare : AreBare (r ∷ rs)

-- ---- where it is

-- this node is a child of the body that items mean
pub record IsBodyChild (xs : List Item) (u : ItemTree) : Type 0 where
  pub before : List ItemTree
  pub behind : List ItemTree
  pub is : meaning xs ≡ body_with (before ++ u ∷ behind)

-- Its items, between those before it and those behind it: its lines are text, what they make is a child of the body, and no other text is beside them.
pub record IsParagraphAt (xs : List Item) (r : Row) (rs : List Row) : Type 0 where
  pub before : List Item
  pub own : List Item
  pub rest : List Item
  pub is : xs ≡ before ++ (own ++ rest)
  pub text : AreTextItems (sources own) own
  pub lines_are : All IsTextLine (lines own)
  pub tree : para (r ∷ rs) ≡ para_with (joined_parts (lines own))
  pub child : IsBodyChild xs (para (r ∷ rs))
  pub ended : AreEnded (sources before)
  pub apart : EndsApart before
  pub ends : EndsParagraph rest

-- as a part of a page
abbrev pub spot_at : List Item → List Item → BlockSpot
spot_at before own = record { before = sources before; block = a_paragraph; text = sources own }

-- ---- where its content may be edited

-- The page calls nothing, and no node of it can only be kept as a whole. The paragraph isn't tangled; and where it ends the
-- page, it holds no comment and no hidden part that nothing ends.
pub record IsFreeParagraph (page : List ℕ) (own rest : List Item) : Type 0 where
  pub utf8 : IsUtf8 page
  pub calls_nothing : CallsNothing (page_items page)
  pub ungrouped : HasNoGroups page
  pub untangled : IsUntangledAt (para_with (joined_parts (lines own)))
  pub closed : EndsClosed (sources own) (sources rest)
