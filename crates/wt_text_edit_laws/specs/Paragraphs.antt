-- A paragraph whose content is one text, whoever wrote it.
use Rattle.std.specs.Prelude.{◌≡◌, ◌⊎◌, ℕ, false, Some, None, List, [], ◌∷◌, ◌++◌, All, map}
use Rattle.std.specs.Str.{IsUtf8}
use Rattle.wt_span.specs.declared.form.ItemForm.{ItemForm}
use Rattle.wt_span.specs.declared.form.ItemForm.TheVariants as form
use Rattle.wt_span.specs.Characters as byte
use Rattle.wt_span.specs.Items.{Item, char, whole, sign}
use Rattle.wt_lines.specs.declared.kind.LineKind.TheVariants as line
use Rattle.wt_lines.specs.Kinds.{is_idle_all, line_kind}
use Rattle.wt_lines.specs.Lines.{lines, full_lines, content}
use Rattle.wt_inline.specs.declared.loose.Loose.TheVariants.{Text}
use Rattle.wt_inline.specs.Parts.{parts}
use Rattle.wt_guards.specs.Guards.{nowiki}
use Rattle.wt_context.specs.Line.{line_parts}
use Rattle.wt_page.specs.Rows.{marks_len}
use Rattle.wt_expand.specs.PageItems.{page_items}
use Rattle.wt_text_edit_laws.specs.TypedPages.{IsTypedPage}
use Rattle.wt_text_edit_laws.specs.TextBetween.{HasNoTag}

-- ---- a text that somebody wrote in the page's own wikitext

-- a reference to a character, in which is no `<`, or `<nowiki/>`
abbrev pub IsLetterForm : ItemForm → List ℕ → Type 0
IsLetterForm form.Chars bs = ⊥
IsLetterForm (form.Entity c) bs = HasNoTag bs
IsLetterForm form.Nowiki bs = bs ≡ nowiki
IsLetterForm form.Extension bs = ⊥
IsLetterForm form.Function bs = ⊥
IsLetterForm form.Comment bs = ⊥
IsLetterForm form.Include bs = ⊥
IsLetterForm form.Hidden bs = ⊥
IsLetterForm form.EmptyCall bs = ⊥

-- Characters of the page, references and `<nowiki/>`. A `<` that begins no tag and no comment is a character.
abbrev pub AreLetters : List Item → Type 0
AreLetters [] = Unit {0}
AreLetters (char None b ∷ xs) = AreLetters xs
AreLetters (char (Some k) b ∷ xs) = ⊥
AreLetters (whole f None bs ∷ xs) = IsLetterForm f bs × AreLetters xs
AreLetters (whole f (Some k) bs ∷ xs) = ⊥

abbrev pub IsTextLine : List Item → Type 0
IsTextLine l = line_kind 0 l ≡ line.Text

-- something is in it that is neither a blank nor a mark
abbrev pub IsSeenLine : List Item → Type 0
IsSeenLine l = is_idle_all (map sign l) ≡ false

-- Lines before which no mark stands, and each of which is one text: no link, style, switch or address begins in it.
abbrev pub AreOneText : List (List Item) → Type 0
AreOneText [] = Unit {0}
AreOneText (l ∷ ls) = (marks_len l ≡ 0) × (line_parts (content l) ≡ parts Text (content l)) × AreOneText ls

-- Lines of text, read the same whether a line break stands behind them or the page ends there. They are characters, references and
-- `<nowiki/>`, and nothing else.
pub record IsWrittenText (q : List ℕ) : Type 0 where
  pub utf8 : IsUtf8 q
  pub ended : page_items (q ++ byte.line_break ∷ []) ≡ page_items q ++ char None byte.line_break ∷ []
  pub are_letters : AreLetters (page_items q)
  pub are_one : AreOneText (full_lines (page_items q))
  pub are_lines : All IsTextLine (lines (page_items q))

-- ---- any such paragraph

-- a text that was typed and spelled, or written
abbrev pub IsParagraph : List ℕ → Type 0
IsParagraph q = IsTypedPage q ⊎ IsWrittenText q
