-- The content of a paragraph or a heading by its items, which may come from calls; and such contents in a folder.
use Rattle.std.specs.Prelude.{◌≡◌, ℕ, true, List, All}
use Rattle.std.specs.List.{AllByRecursion}
use Rattle.wt_span.specs.Items.{Item}
use Rattle.wt_lines.specs.Lines.{is_break_item, lines}
use Rattle.wt_inline.specs.ItemTree.{ItemTree}
use Rattle.wt_page.specs.Rows.{marks_len}
use Rattle.wt_text_edit_laws.specs.ParagraphParts.{break, joined_parts, para_with}
use Rattle.wt_text_edit_laws.specs.Paragraphs.{IsSeenLine}
use Rattle.wt_text_edit_laws.specs.TextBlocks.{TextBlock, a_paragraph, a_heading}
use Rattle.wt_text_edit_laws.specs.TypedHeadings.{Sides, AreSides, heading_line, heading_round, IsInside, IsOfLevel}
use Rattle.wt_called_edit_laws.specs.InCells.{AreTextLines}

-- ---- by its items

-- the block with these items between its delimiters, and what it is
abbrev pub items_round : TextBlock → List Item → List Item
items_round a_paragraph xs = xs
items_round (a_heading s) xs = heading_line s xs

abbrev pub tree_round : TextBlock → List Item → ItemTree
tree_round a_paragraph xs = para_with (joined_parts (lines xs))
tree_round (a_heading s) xs = heading_round s xs

-- Lines, in each of which something is neither a blank nor a mark. No mark stands before the first, and each line break is the page's own.
pub record AreTextItems (xs : List Item) : Type 0 where
  pub seen : All IsSeenLine (lines xs)
  pub unled : marks_len xs ≡ 0
  pub own_breaks : AllByRecursion (λ x. is_break_item x ≡ true → x ≡ break) xs

pub record AreHeadingItems (s : Sides) (xs : List Item) : Type 0 where
  pub sides : AreSides s
  pub inside : IsInside s xs
  pub of_level : IsOfLevel s xs

abbrev pub AreItemsOf : TextBlock → List Item → Type 0
AreItemsOf a_paragraph xs = AreTextItems xs
AreItemsOf (a_heading s) xs = AreHeadingItems s xs

-- each line of a paragraph is text where so many tables are open
abbrev pub StayText : TextBlock → ℕ → List Item → Type 0
StayText a_paragraph n xs = AreTextLines n xs
StayText (a_heading s) n xs = Unit {0}

-- so anywhere
pub record IsTextAnywhere (k : TextBlock) (xs : List Item) : Type 0 where
  pub items : AreItemsOf k xs
  pub stays : (n : ℕ) → StayText k n xs
