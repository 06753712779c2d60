-- Items as inline forms read them, and small words on lists of them.
use Rattle.std.specs.Prelude.{ℕ, ◌==◌, ◌&&◌, Bool, true, false, List, [], ◌∷◌, length, map, nat_le}
use Rattle.std.specs.List.{prefix_len}
use Rattle.std.specs.Char.{is_ascii_alphabetic, is_ascii_alphanumeric, to_ascii_lowercase}
use Rattle.wt_span.specs.declared.form.ItemForm.{ItemForm}
use Rattle.wt_span.specs.declared.form.ItemForm.TheVariants as form
use Rattle.wt_span.specs.Bytes.{is_blank}
use Rattle.wt_span.specs.Tags.{is_tag_byte}
use Rattle.wt_span.specs.Items.{Item, char, whole}
use Rattle.wt_tiles.specs.declared.glyph.Glyph.{Glyph}
use Rattle.wt_tiles.specs.declared.glyph.Glyph.TheVariants as glyph
use Rattle.wt_tiles.specs.declared.glyph.GlyphClass.{GlyphClass}
use Rattle.wt_tiles.specs.declared.glyph.GlyphClass.TheVariants as class

abbrev pub glyph_of_form : ItemForm → Glyph
glyph_of_form form.Chars = glyph.Atom
glyph_of_form (form.Entity c) = glyph.Entity c
glyph_of_form form.Nowiki = glyph.Atom
glyph_of_form form.Extension = glyph.Atom
glyph_of_form form.Function = glyph.Atom
glyph_of_form form.Comment = glyph.Mark
glyph_of_form form.Include = glyph.Mark
glyph_of_form form.Hidden = glyph.Mark
glyph_of_form form.EmptyCall = glyph.Mark

abbrev pub glyph_of : Item → Glyph
glyph_of (char o b) = glyph.Byte b
glyph_of (whole f o bs) = glyph_of_form f

-- a character whose byte passes a test
abbrev pub is_in : (ℕ → Bool) → Glyph → Bool
is_in p (glyph.Byte b) = p b
is_in p (glyph.Entity c) = false
is_in p glyph.Atom = false
is_in p glyph.Mark = false

-- what may be in a tag between its name and the `>`: no `<`, no `>`, no line break, and of the atoms only entities
abbrev pub is_tag_glyph : Glyph → Bool
is_tag_glyph (glyph.Byte b) = is_tag_byte b
is_tag_glyph (glyph.Entity c) = true
is_tag_glyph glyph.Atom = false
is_tag_glyph glyph.Mark = true

-- an ASCII letter in lower case
abbrev pub is_small : ℕ → Bool
is_small b = nat_le 97 b && nat_le b 122

abbrev pub in_class : GlyphClass → Glyph → Bool
in_class class.Blank = is_in is_blank
in_class class.Letter = is_in is_ascii_alphabetic
in_class class.Name = is_in is_ascii_alphanumeric
in_class class.Trail = is_in is_small
in_class class.Tag = is_tag_glyph
in_class (class.Only one) = is_in (λ b. b == one)

-- the first item is of a class
abbrev pub first_is : GlyphClass → List Glyph → Bool
first_is k [] = false
first_is k (g ∷ gs) = in_class k g

-- so many items of a class are first
abbrev pub run_len : GlyphClass → List Glyph → ℕ
run_len k gs = prefix_len (in_class k) gs

-- a word of ASCII characters is first, spelled so
abbrev pub begins : List ℕ → List Glyph → Bool
begins [] gs = true
begins (b ∷ word) [] = false
begins (b ∷ word) (g ∷ gs) = is_in (λ c. c == b) g && begins word gs

-- a character of one byte without ASCII case; the other is in lower case, or no letter
abbrev pub like_byte : ℕ → Glyph → Bool
like_byte b g = is_in (λ c. to_ascii_lowercase c == b) g

-- a word in lower case is first, without ASCII case
abbrev pub begins_like : List ℕ → List Glyph → Bool
begins_like [] gs = true
begins_like (b ∷ word) [] = false
begins_like (b ∷ word) (g ∷ gs) = like_byte b g && begins_like word gs

-- and nothing else
abbrev pub is_like : List ℕ → List Glyph → Bool
is_like word gs = length gs == length word && begins_like word gs

-- bytes of characters
abbrev pub byte_glyphs : List ℕ → List Glyph
byte_glyphs bs = map (λ b. glyph.Byte b) bs
