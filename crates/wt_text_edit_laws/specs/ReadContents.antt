-- The content of a paragraph or a heading, whatever it calls: how its lexemes are read, by itself and before what follows.
use Rattle.std.specs.Prelude.{◌≡◌, ◌==◌, ◌||◌, ℕ, not, Bool, true, false, None, List, [], ◌∷◌, ◌++◌, if◌then◌else◌}
use Rattle.std.specs.Char.{is_ascii_alphanumeric}
use Rattle.std.specs.Str.{IsUtf8}
use Rattle.wt_span.specs.Bytes.{is_blank}
use Rattle.wt_span.specs.Characters as byte
use Rattle.wt_span.specs.Items.{Item, char, is_char_in, is_mark}
use Rattle.wt_span.specs.Tags.{to_closing}
use Rattle.wt_lines.specs.Lines.{is_break_item}
use Rattle.wt_expand.specs.PageItems.{page_items}
use Rattle.wt_text_edit_laws.specs.TextBetween.{BeginsSeen, StandsBehind}
use Rattle.wt_text_edit_laws.specs.TextBlocks.{TextBlock, a_paragraph, a_heading, source_of, block_items, IsFrame}

-- ---- by itself

-- the first of these items that is no blank is no line break
abbrev pub begins_shown : List Item → Bool
begins_shown [] = false
begins_shown (x ∷ xs) = if is_char_in is_blank x then begins_shown xs else not (is_break_item x)

-- in the first line of these items something is neither a blank nor a mark
abbrev pub begins_seen : List Item → Bool
begins_seen [] = false
begins_seen (x ∷ xs) = if is_char_in is_blank x || is_mark x then begins_seen xs else not (is_break_item x)

-- No line of comments begins it, where the page ends with it, and where a line break follows; and its first line isn't blank.
pub record BeginsParagraph (q : List ℕ) : Type 0 where
  pub alone : BeginsSeen q
  pub before_break : BeginsSeen (q ++ byte.line_break ∷ [])
  pub shown : begins_shown (page_items q) ≡ true

abbrev pub BeginsBlock : TextBlock → List ℕ → Type 0
BeginsBlock a_paragraph q = BeginsParagraph q
BeginsBlock (a_heading s) q = IsFrame s

-- Its lexemes are the same by themselves, and whether a line break is behind its block or the page ends there; calls are taken for characters.
pub record IsReadContent (k : TextBlock) (q : List ℕ) : Type 0 where
  pub utf8 : IsUtf8 q
  pub ended : page_items (source_of k q ++ byte.line_break ∷ []) ≡ block_items k q ++ char None byte.line_break ∷ []
  pub unended : page_items (source_of k q) ≡ block_items k q
  pub begins : BeginsBlock k q

-- ---- before what follows

-- no `}` is first
abbrev pub BeginsUnclosed : List ℕ → Type 0
BeginsUnclosed [] = Unit {0}
BeginsUnclosed (b ∷ bs) = (b == byte.closing_brace) ≡ false

-- a letter, a digit, a `#` or a `;`: a reference goes on with it
abbrev pub joins_reference : ℕ → Bool
joins_reference b = is_ascii_alphanumeric b || (b == byte.hash || b == byte.semicolon)

-- no reference goes on with these bytes
abbrev pub BeginsUnjoined : List ℕ → Type 0
BeginsUnjoined [] = Unit {0}
BeginsUnjoined (b ∷ bs) = joins_reference b ≡ false

-- Before this, no line of comments begins a paragraph with this content. None begins a heading, since a `=` does.
abbrev pub StaysUncommented : TextBlock → List ℕ → List ℕ → Type 0
StaysUncommented a_paragraph q rest = StandsBehind (q ++ rest)
StaysUncommented (a_heading s) q rest = Unit {0}

-- It is read the same whatever stands behind it, unless that begins with a `}`, since a call may be last in it, or a reference goes on with it, since a
-- URL may be last that ends like `&copy`; and nothing begins in it that goes on there. It begins with no `}` itself.
pub record IsFirmlyRead (k : TextBlock) (q : List ℕ) : Type 0 where
  pub firm : (rest : List ℕ) → StandsBehind rest → BeginsUnclosed rest → BeginsUnjoined rest → page_items (q ++ rest) ≡ page_items q ++ page_items rest
  pub uncommented : (rest : List ℕ) → StandsBehind rest → BeginsUnclosed rest → BeginsUnjoined rest → StaysUncommented k q rest
  pub unclosed : BeginsUnclosed q

-- So of one in the place of an old one, which closes no tag that this didn't close.
pub record IsReadAnew (k : TextBlock) (was now : List ℕ) : Type 0 where
  pub read : IsReadContent k now
  pub firm : IsFirmlyRead k now
  pub closes : (name us vs : List ℕ) → to_closing name (was ++ us) ≡ None → to_closing name vs ≡ None → to_closing name (now ++ vs) ≡ None
