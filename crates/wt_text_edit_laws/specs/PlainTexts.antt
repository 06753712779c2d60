-- Text with which nothing begins in wikitext: it stays in a page as it was typed.
use Rattle.std.specs.Prelude.{◌≡◌, ℕ, ◌==◌, ◌&&◌, ◌||◌, Bool, true, false, not, List, [], ◌∷◌, map}
use Rattle.std.specs.List.{list_all}
use Rattle.std.specs.Str.{chars, IsUtf8}
use Rattle.wt_span.specs.Characters as byte
use Rattle.wt_lex.specs.Words.{is_form_byte}
use Rattle.wt_tree.specs.declared.edit_shape.Place.TheVariants as place
use Rattle.wt_guards.specs.Content.{letter}
use Rattle.wt_guards.specs.Letters.{is_escaped}
use Rattle.wt_guards.specs.Table.{line_start_hazard}

-- No lexeme but characters begins with it: none of `<` `&` `{` `}` `[` `]` `|` `=`.
abbrev pub is_plain : ℕ → Bool
is_plain c = not (is_form_byte c)

-- No character is one that the spelling of a paragraph writes as a reference: so no `>` is among them, no apostrophe at an end of the text
-- or beside another one, no two `_` and no `://`. The characters before a place are listed from the nearest on.
abbrev pub are_as_typed : List ℕ → List ℕ → Bool
are_as_typed before [] = true
are_as_typed before (c ∷ cs) = not (is_escaped false place.Paragraph (map letter before) c (map letter cs)) && are_as_typed (c ∷ before) cs

-- Only a paragraph begins with it: no space or tab, no `*` `#` `:` `;` `-` `!`, and no line break.
abbrev pub begins_text : ℕ → Bool
begins_text c = not (line_start_hazard c || c == byte.line_break)

-- Each line begins with such a character, so that none is empty. `start` says whether a line begins here.
abbrev pub are_text_lines : Bool → List ℕ → Bool
are_text_lines start [] = not start
are_text_lines start (c ∷ cs) = (not start || begins_text c) && are_text_lines (c == byte.line_break) cs

-- One line or more of such text.
pub record IsPlainText (text : List ℕ) : Type 0 where
  pub utf8 : IsUtf8 text
  pub plain : list_all is_plain (chars text) ≡ true
  pub as_typed : are_as_typed [] (chars text) ≡ true
  pub lines : are_text_lines true (chars text) ≡ true
