-- A paragraph or a heading of a page where it is in it, by the page's items and by its lines: in the body, in a cell or in a caption.
use Rattle.std.specs.Prelude.{◌≡◌, ℕ, List, [], ◌∷◌, ◌++◌, length}
use Rattle.std.specs.Str.{IsUtf8}
use Rattle.wt_span.specs.Items.{Item, sources}
use Rattle.wt_lines.specs.declared.kind.LineKind.TheVariants as line
use Rattle.wt_lines.specs.Lines.{full_lines, content}
use Rattle.wt_page.specs.Lines.{kind_at}
use Rattle.wt_tables.specs.Parts.{joined}
use Rattle.wt_page.specs.Rows.{marks_len, rows_from}
use Rattle.wt_expand.specs.PageItems.{page_items}
use Rattle.wt_part_laws.specs.Slots.{AllTrue}
use Rattle.wt_text_edit_laws.specs.BlockSpots.{BlockSpot}
use Rattle.wt_text_edit_laws.specs.NoCalls.{CallsNothing}
use Rattle.wt_text_edit_laws.specs.PageCuts.{AreBlockItems, EndsClosed, EndsThere, IsFreeBlock}
use Rattle.wt_text_edit_laws.specs.ParagraphBetween.{written_rows, tables_behind, EndApart, BeginApart}
use Rattle.wt_text_edit_laws.specs.Parts.{HasNoGroups}
use Rattle.wt_text_edit_laws.specs.SignParts.{IsLedTo}
use Rattle.wt_text_edit_laws.specs.TextBlocks.{TextBlock, a_heading, source_of}
use Rattle.wt_text_edit_laws.specs.TypedHeadings.{Sides}
use Rattle.wt_called_edit_laws.specs.AnyBlocks.{open_after, open_behind_part, LeadsInto, EndsAfter}
use Rattle.wt_called_edit_laws.specs.StaysIn.{StaysIn}

-- ---- by items

-- Its items, between those before it and those behind it: it is in no place of a table but a cell or a caption, and no other text is beside a
-- paragraph.
pub record IsBlockIn (xs : List Item) (k : TextBlock) (q : List ℕ) : Type 0 where
  pub before : List Item
  pub own : List Item
  pub rest : List Item
  pub is : xs ≡ before ++ (own ++ rest)
  pub items : AreBlockItems k q own
  pub led : IsLedTo (sources before) k q
  pub leads : LeadsInto k [] before
  pub stays : StaysIn k [] before own
  pub ends : EndsAfter k (length (open_behind_part [] before)) rest
  pub there : EndsThere (sources rest)

-- as a part of a page
abbrev pub block_spot : TextBlock → List ℕ → List Item → BlockSpot
block_spot k q before = record { before = sources before; block = k; text = q }

-- The page calls nothing, and no node of it can only be kept as a whole. The block isn't tangled; and where it ends the page, it holds no comment
-- and no hidden part that nothing ends.
pub record IsFreeIn (page : List ℕ) (k : TextBlock) (q : List ℕ) (rest : List Item) : Type 0 where
  pub utf8 : IsUtf8 page
  pub calls_nothing : CallsNothing (page_items page)
  pub ungrouped : HasNoGroups page
  pub free : IsFreeBlock k q
  pub closed : EndsClosed (source_of k q) (sources rest)

-- ---- by lines

-- One of these lines is a heading's, with these sides: in the body, in a cell or in a caption.
pub record IsHeadingOn (xs : List Item) (s : Sides) (q : List ℕ) : Type 0 where
  pub before : List (List Item)
  pub line : List Item
  pub behind : List (List Item)
  pub are : full_lines xs ≡ before ++ line ∷ behind
  pub in_cells : AllTrue (open_after [] (written_rows 0 before))
  pub heading : AreBlockItems (a_heading s) q (content line)

-- each is text where so many tables are open
abbrev pub AreLinesAt : ℕ → List (List Item) → Type 0
AreLinesAt n [] = Unit {0}
AreLinesAt n (l ∷ ls) = (kind_at n l ≡ line.Text) × AreLinesAt n ls

-- Some of these lines are a paragraph: text, in the body, in a cell or in a caption, with no other text beside it. No mark begins it; before a later
-- line marks may be.
pub record IsParagraphOn (xs : List Item) (own : List Item) : Type 0 where
  pub before : List (List Item)
  pub first : List Item
  pub more : List (List Item)
  pub behind : List (List Item)
  pub are : full_lines xs ≡ before ++ ((first ∷ more) ++ behind)
  pub is : content (joined (first ∷ more)) ≡ own
  pub in_cells : AllTrue (open_after [] (written_rows 0 before))
  pub texts : AreLinesAt (tables_behind 0 before) (first ∷ more)
  pub apart : EndApart (written_rows 0 before)
  pub stops : BeginApart (rows_from (tables_behind 0 before) behind)
  pub unled : marks_len own ≡ 0
