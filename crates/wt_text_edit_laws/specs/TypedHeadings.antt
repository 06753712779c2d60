-- A heading with a text on a line by itself: so many `=`, the text, and as many `=`, and blanks or none beside the text; behind it all blanks,
-- comments and include tags, or nothing.
use Rattle.std.specs.Prelude.{◌≡◌, ◌⊎◌, ◌≤◌, ◌==◌, ℕ, Bool, true, false, None, List, [], ◌∷◌, ◌++◌, map, replicate}
use Rattle.wt_tree.specs.declared.kind.Kind.TheVariants as kind
use Rattle.wt_span.specs.Bytes.{is_blank}
use Rattle.wt_span.specs.Characters as byte
use Rattle.wt_span.specs.Items.{Item, char, sign}
use Rattle.wt_lines.specs.Kinds.{is_idle}
use Rattle.wt_lines.specs.Lines.{is_break_item}
use Rattle.wt_inline.specs.declared.loose.Loose.TheVariants.{Text}
use Rattle.wt_inline.specs.ItemTree.{plain, ItemTree, inner, forest}
use Rattle.wt_inline.specs.Parts.{parts, children}
use Rattle.wt_context.specs.Line.{line_parts}
use Rattle.wt_expand.specs.PageItems.{page_items}
use Rattle.wt_blocks.specs.Headings.{level}
use Rattle.wt_text_edit_laws.specs.LonePages.{page_chars}

-- ---- what its line has beside the text

-- How many `=`, the blanks behind the first of them and before the last, and what is behind these.
pub record Sides : Type 0 where
  pub level : ℕ
  pub lead : List ℕ
  pub trail : List ℕ
  pub rest : List ℕ

-- a space on both sides of the text, and nothing behind the last `=`
abbrev pub spaced : ℕ → Sides
spaced n = record { level = n; lead = byte.space ∷ []; trail = byte.space ∷ []; rest = [] }

-- spaces and tabs
abbrev pub AreBlanks : List ℕ → Type 0
AreBlanks [] = Unit {0}
AreBlanks (b ∷ bs) = (is_blank b ≡ true) × AreBlanks bs

-- of items by their signs: blanks, comments and include tags
abbrev pub AreIdle : List ℕ → Type 0
AreIdle [] = Unit {0}
AreIdle (s ∷ ss) = (is_idle s ≡ true) × AreIdle ss

pub record AreSides (s : Sides) : Type 0 where
  pub some : 1 ≤ s.level
  pub most : s.level ≤ 6
  pub lead : AreBlanks s.lead
  pub trail : AreBlanks s.trail
  pub rest : AreIdle (map sign (page_items s.rest))

abbrev pub equals : ℕ → List ℕ
equals n = replicate n byte.equals_sign

abbrev pub opening : Sides → List ℕ
opening s = equals s.level ++ s.lead

abbrev pub closing : Sides → List ℕ
closing s = s.trail ++ (equals s.level ++ s.rest)

-- ---- the line, and the heading that it is

abbrev pub closing_items : Sides → List Item
closing_items s = page_chars (s.trail ++ equals s.level) ++ page_items s.rest

abbrev pub heading_line : Sides → List Item → List Item
heading_line s xs = page_chars (opening s) ++ (xs ++ closing_items s)

abbrev pub heading_with : Sides → List Item → ItemTree
heading_with s xs = inner (plain (kind.Heading s.level)) (page_chars (opening s)) (forest (children (parts Text xs))) (closing_items s)

-- ---- what its text is

-- no line ends in it
abbrev pub NoBreaks : List Item → Type 0
NoBreaks [] = Unit {0}
NoBreaks (x ∷ xs) = (is_break_item x ≡ false) × NoBreaks xs

-- there is a first sign, and it doesn't pass this test
abbrev pub BeginsWithout : (ℕ → Bool) → List ℕ → Type 0
BeginsWithout test [] = ⊥
BeginsWithout test (s ∷ ss) = test s ≡ false

-- there is a last one, and it doesn't
abbrev pub EndsWithout : (ℕ → Bool) → List ℕ → Type 0
EndsWithout test [] = ⊥
EndsWithout test (s ∷ []) = test s ≡ false
EndsWithout test (s ∷ t ∷ ss) = EndsWithout test (t ∷ ss)

abbrev pub is_equals_sign : ℕ → Bool
is_equals_sign s = s == byte.equals_sign

-- What a heading may have between its delimiters: it is on one line, and its first and its last are no blank.
pub record IsHeadingInside (xs : List Item) : Type 0 where
  pub unbroken : NoBreaks xs
  pub begins : BeginsWithout is_blank (map sign xs)
  pub ends : EndsWithout is_blank (map sign xs)

-- and so nothing, where all blanks of its line are behind its first `=`
abbrev pub IsInside : Sides → List Item → Type 0
IsInside s xs = IsHeadingInside xs ⊎ ((xs ≡ []) × (s.trail ≡ []))

-- a heading with what this is on a line
abbrev pub heading_round : Sides → List Item → ItemTree
heading_round s xs = inner (plain (kind.Heading s.level)) (page_chars (opening s)) (forest (children (line_parts xs))) (closing_items s)

-- One text on one line, in which no link, style, switch or address is, and of which the first and the last are no blank.
pub record IsHeadingText (xs : List Item) : Type 0 where
  pub is_one : line_parts xs ≡ parts Text xs
  pub unbroken : NoBreaks xs
  pub begins : BeginsWithout is_blank (map sign xs)
  pub ends : EndsWithout is_blank (map sign xs)

-- ---- where its `=` end

-- what is between the first `=` and the last
abbrev pub between : Sides → List Item → List ℕ
between s xs = s.lead ++ (map sign xs ++ s.trail)

-- The level of the line, which is the number of `=` of its shorter run, and six at most, is this: so one side may have more, or at six both.
abbrev pub IsOfLevel : Sides → List Item → Type 0
IsOfLevel s xs = level (heading_line s xs) ≡ s.level

-- It neither begins nor ends with one more `=`.
pub record StandsApart (s : Sides) (xs : List Item) : Type 0 where
  pub first : BeginsWithout is_equals_sign (between s xs)
  pub last : EndsWithout is_equals_sign (between s xs)

-- ---- what follows it

-- the page's end, or a line break
abbrev pub EndsLine : List Item → Type 0
EndsLine [] = Unit {0}
EndsLine (x ∷ xs) = x ≡ char None byte.line_break
