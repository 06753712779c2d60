-- Items of which text is made, whatever somebody typed: characters, references and nowikis, among which nothing begins.
use Rattle.std.specs.Prelude.{◌≡◌, ℕ, ◌==◌, ◌&&◌, ◌||◌, Bool, false, List, [], ◌∷◌, map, codes}
use Rattle.std.specs.Char.{is_ascii_alphabetic}
use Rattle.wt_span.specs.declared.form.ItemForm.{ItemForm}
use Rattle.wt_span.specs.declared.form.ItemForm.TheVariants as form
use Rattle.wt_span.specs.Items.{Item, char, whole}
use Rattle.wt_span.specs.Characters as byte
use Rattle.wt_tiles.specs.declared.glyph.Glyph.{Glyph}
use Rattle.wt_tiles.specs.declared.glyph.Glyph.TheVariants as glyph
use Rattle.wt_tiles.specs.Glyphs.{glyph_of, is_in, begins}

-- a letter or `/` is first, which would make a tag of a `<`
abbrev pub starts_tag : List Glyph → Bool
starts_tag [] = false
starts_tag (g ∷ gs) = is_in (λ c. is_ascii_alphabetic c || c == byte.slash) g

-- by what follows: no link, tag, switch or address begins here, and no second apostrophe comes after one
pub record IsStill (b : ℕ) (gs : List Glyph) : Type 0 where
  pub bracket : (b == byte.opening_bracket) ≡ false
  pub tag : ((b == byte.less_than) && starts_tag gs) ≡ false
  pub quotes : begins (codes "''") (glyph.Byte b ∷ gs) ≡ false
  pub switch : begins (codes "__") (glyph.Byte b ∷ gs) ≡ false
  pub address : begins (codes "://") (glyph.Byte b ∷ gs) ≡ false

-- a reference, or a nowiki
abbrev pub IsTypedForm : ItemForm → Type 0
IsTypedForm form.Chars = ⊥
IsTypedForm (form.Entity c) = Unit {0}
IsTypedForm form.Nowiki = Unit {0}
IsTypedForm form.Extension = ⊥
IsTypedForm form.Function = ⊥
IsTypedForm form.Comment = ⊥
IsTypedForm form.Include = ⊥
IsTypedForm form.Hidden = ⊥
IsTypedForm form.EmptyCall = ⊥

abbrev pub StillItems : List Item → Type 0
StillItems [] = Unit {0}
StillItems (char o b ∷ xs) = IsStill b (map glyph_of xs) × StillItems xs
StillItems (whole f o bs ∷ xs) = IsTypedForm f × StillItems xs
