-- What comes before a paragraph on the line of a table's end: lines, and the line of the end up to its `|}`.
use Rattle.std.specs.Prelude.{◌≡◌, ◌≤◌, ◌||◌, ℕ, Bool, true, false, List, [], ◌∷◌, ◌++◌, All}
use Rattle.wt_span.specs.Characters as byte
use Rattle.wt_span.specs.Bytes.{is_blank}
use Rattle.wt_span.specs.Items.{Item, is_char_in, is_mark, sign}
use Rattle.wt_lines.specs.declared.kind.LineKind.TheVariants as line
use Rattle.wt_lines.specs.Kinds.{line_kind}
use Rattle.wt_lines.specs.Lines.{is_break_item, empty_end, full_lines, lines}
use Rattle.wt_text_edit_laws.specs.ParagraphBetween.{tables_behind}
use Rattle.wt_text_edit_laws.specs.TextBlocks.{TextBlock, a_paragraph, a_heading}

-- a blank or a mark
abbrev pub is_idle_item : Item → Bool
is_idle_item x = is_char_in is_blank x || is_mark x

abbrev pub AreIdleItems : List Item → Type 0
AreIdleItems [] = Unit {0}
AreIdleItems (x ∷ xs) = (is_idle_item x ≡ true) × (is_break_item x ≡ false) × AreIdleItems xs

-- blanks and marks, or none, and behind them `|}`
pub record IsEndSign (l : List Item) : Type 0 where
  pub lead : List Item
  pub bar : Item
  pub brace : Item
  pub is : l ≡ lead ++ (bar ∷ brace ∷ [])
  pub idle : AreIdleItems lead
  pub is_bar : sign bar ≡ byte.vertical_bar
  pub bar_goes : is_break_item bar ≡ false
  pub is_brace : sign brace ≡ byte.closing_brace
  pub brace_goes : is_break_item brace ≡ false

-- whole lines, and behind them such a sign, where so many tables are open, one at least
pub record IsTableEnd (n : ℕ) (xs : List Item) : Type 0 where
  pub front : List Item
  pub last : List Item
  pub is : xs ≡ front ++ last
  pub whole : empty_end front ≡ [] ∷ []
  pub end : IsEndSign last
  pub tables : 1 ≤ tables_behind n (full_lines front)

-- a paragraph may follow it
abbrev pub IsEndFor : TextBlock → ℕ → List Item → Type 0
IsEndFor a_paragraph n xs = IsTableEnd n xs
IsEndFor (a_heading s) n xs = ⊥

-- behind the first line each is text where so many tables are open
abbrev pub AreLater : ℕ → List (List Item) → Type 0
AreLater n [] = Unit {0}
AreLater n (l ∷ ls) = All (λ m. line_kind n m ≡ line.Text) ls

abbrev pub LaterText : TextBlock → ℕ → List Item → Type 0
LaterText a_paragraph n xs = AreLater n (lines xs)
LaterText (a_heading s) n xs = ⊥
