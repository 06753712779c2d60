-- How a character of text is written, by its neighbours: as itself, or as a character reference where wikitext would read a sign.
use Rattle.std.specs.Prelude.{ℕ, Bool, true, false, not, ◌||◌, ◌&&◌, ◌==◌, Option, Some, None, List, [], ◌∷◌, ◌++◌, if◌then◌else◌, codes, decimal, encode_utf8}
use Rattle.std.specs.Char.{is_ascii_alphabetic}
use Rattle.wt_span.specs.Bytes.{is_blank}
use Rattle.wt_span.specs.Characters as byte
use Rattle.wt_tree.specs.declared.edit_shape.Place.{Place}
use Rattle.wt_tree.specs.declared.edit_shape.Place.TheVariants.{Paragraph, Heading, Item, Term, Cell, Header}
use Rattle.wt_guards.specs.Content.{ContentSign, letter, thing, nearest, ends_line, is_invisible, shows_blanks}

-- `[` `]` `{` `}` `|` `>`: written otherwise wherever they are
abbrev pub is_bracket : ℕ → Bool
is_bracket c = c == byte.opening_bracket || (c == byte.closing_bracket || (c == byte.opening_brace || (c == byte.closing_brace || (c == byte.vertical_bar || c == byte.greater_than))))

-- the next sign is no character, or one that makes a tag of a `<`: an ASCII letter, `/` or `!`
abbrev pub opens_tag : Option ContentSign → Bool
opens_tag None = true
opens_tag (Some (letter c)) = is_ascii_alphabetic c || (c == byte.slash || c == byte.exclamation_mark)
opens_tag (Some (thing t)) = true

-- the next sign is no character, or one that makes an entity of a `&`: an ASCII letter or `#`
abbrev pub opens_entity : Option ContentSign → Bool
opens_entity None = true
opens_entity (Some (letter c)) = is_ascii_alphabetic c || c == byte.hash
opens_entity (Some (thing t)) = true

-- the nearest sign is this character
abbrev pub is_next : ℕ → Option ContentSign → Bool
is_next d None = false
is_next d (Some (letter c)) = c == d
is_next d (Some (thing t)) = false

-- nothing follows that shows anything
abbrev pub is_end : Option ContentSign → Bool
is_end None = true
is_end (Some (letter c)) = false
is_end (Some (thing t)) = false

-- the nearest sign is no character, or an apostrophe
abbrev pub is_apostrophe_or_end : Option ContentSign → Bool
is_apostrophe_or_end None = true
is_apostrophe_or_end (Some (letter c)) = c == byte.apostrophe
is_apostrophe_or_end (Some (thing t)) = true

-- `//` follows
abbrev pub are_slashes : List ContentSign → Bool
are_slashes [] = false
are_slashes (letter c ∷ after) = c == byte.slash && is_next byte.slash (nearest after)
are_slashes (thing t ∷ after) = false

-- only spaces and tabs follow, up to a line break or the end of the text
abbrev pub is_blank_to_end : List ContentSign → Bool
is_blank_to_end [] = true
is_blank_to_end (letter c ∷ after) = if is_blank c then is_blank_to_end after else c == byte.line_break
is_blank_to_end (thing t ∷ after) = true

abbrev pub is_term : Place → Bool
is_term Paragraph = false
is_term Heading = false
is_term Item = false
is_term Term = true
is_term Cell = false
is_term Header = false

abbrev pub is_header : Place → Bool
is_header Paragraph = false
is_header Heading = false
is_header Item = false
is_header Term = false
is_header Cell = false
is_header Header = true

-- On its line nothing comes before but groups that show spaces and tabs alone, marks, spaces and tabs.
abbrev pub is_clear : List ContentSign → Bool
is_clear [] = true
is_clear (letter c ∷ before) = c == byte.line_break || (is_blank c && is_clear before)
is_clear (thing t ∷ before) = ends_line t.role || ((is_invisible t.role || shows_blanks t.role) && is_clear before)

-- And one of them is such a group: a `!` would begin a line of header cells.
abbrev pub is_indented : List ContentSign → Bool
is_indented [] = false
is_indented (letter c ∷ before) = is_blank c && is_indented before
is_indented (thing t ∷ before) = not (ends_line t.role) && ((shows_blanks t.role && is_clear before) || (is_invisible t.role && is_indented before))

-- A `!` in a header cell is read with one beside it; with the signs of the next cell, too, where it ends the content. In the inside of a
-- link or tag (`within`) no content ends.
abbrev pub meets_mark : Bool → List ContentSign → List ContentSign → Bool
meets_mark within before after =
    is_next byte.exclamation_mark (nearest before) || (is_next byte.exclamation_mark (nearest after) || (not within && is_end (nearest after)))

-- Whether a character is written as a reference. In content that is the inside of a link or tag (`within`) no line begins.
unfoldable pub is_escaped : Bool → Place → List ContentSign → ℕ → List ContentSign → Bool
is_escaped within place before c after =
    if is_bracket c then true
    else if c == byte.less_than then opens_tag (nearest after)
    else if c == byte.ampersand then opens_entity (nearest after)
    else if c == byte.apostrophe then is_apostrophe_or_end (nearest before) || is_apostrophe_or_end (nearest after)
    else if c == byte.underscore then is_next byte.underscore (nearest before)
    else if c == byte.colon then is_term place || are_slashes after
    else if c == byte.equals_sign then is_blank_to_end after
    else if c == byte.exclamation_mark then (is_header place && meets_mark within before after) || (not within && is_indented before)
    else false

-- `>`, `<` and `&` by their names, and others by their numbers
unfoldable pub reference : ℕ → List ℕ
reference c =
    if c == byte.greater_than then codes "&gt;"
    else if c == byte.less_than then codes "&lt;"
    else if c == byte.ampersand then codes "&amp;"
    else codes "&#" ++ (decimal c ++ codes ";")

abbrev pub written_by : Bool → ℕ → List ℕ
written_by true c = reference c
written_by false c = encode_utf8 c

abbrev pub written : Bool → Place → List ContentSign → ℕ → List ContentSign → List ℕ
written within place before c after = written_by (is_escaped within place before c after) c
