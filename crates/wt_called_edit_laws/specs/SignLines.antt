-- What a paragraph's first line may begin with: the sign of a table's end. Lines before a block with this sign, and the paragraph's own lines behind it.
use Rattle.std.specs.Prelude.{◌≡◌, ◌≤◌, ℕ, false, List, [], ◌∷◌, ◌++◌}
use Rattle.wt_span.specs.Items.{Item}
use Rattle.wt_page.specs.Rows.{is_unseen}
use Rattle.wt_text_edit_laws.specs.ParagraphBetween.{tables_behind}
use Rattle.wt_text_edit_laws.specs.ReadContents.{BeginsUnclosed}
use Rattle.wt_text_edit_laws.specs.TextBlocks.{TextBlock, a_paragraph, a_heading}
use Rattle.wt_called_edit_laws.specs.PlacedBlocks.{AreLinesAt}
use Rattle.wt_called_edit_laws.specs.TableEnds.{IsEndSign}

-- these lines, and behind them this sign as a line, where there is one
abbrev pub front_lines : List (List Item) → List Item → List (List Item)
front_lines before [] = before
front_lines before (x ∷ xs) = before ++ (x ∷ xs) ∷ []

-- before a paragraph, the sign of a table's end behind lines at the first of which so many tables are open: it ends one
abbrev pub EndsTable : TextBlock → ℕ → List (List Item) → List Item → Type 0
EndsTable a_paragraph n before sign = IsEndSign sign × (1 ≤ tables_behind n before)
EndsTable (a_heading s) n before sign = ⊥

-- so it is, or there is none
abbrev pub IsSignFor : TextBlock → ℕ → List (List Item) → List Item → Type 0
IsSignFor k n before [] = Unit {0}
IsSignFor k n before (x ∷ xs) = EndsTable k n before (x ∷ xs)

-- what is behind a sign begins with no `}`
abbrev pub IsApartFrom : List Item → List ℕ → Type 0
IsApartFrom [] q = Unit {0}
IsApartFrom (x ∷ xs) q = BeginsUnclosed q

-- Each line is text where so many tables are open. Behind a sign the first may be of any kind by itself, if something is seen in it.
abbrev pub AreLinesOn : List Item → ℕ → List (List Item) → Type 0
AreLinesOn [] n ls = AreLinesAt n ls
AreLinesOn (x ∷ xs) n [] = ⊥
AreLinesOn (x ∷ xs) n (l ∷ ls) = (is_unseen l ≡ false) × AreLinesAt n ls
