-- What external links, switches and categories tell, by the items that are in them.
use Rattle.std.specs.Prelude.{true, ◌≡◌, ◌≢◌, ℕ, ◌+◌, ◌==◌, false, Option, Some, List, [], ◌∷◌, ◌++◌, All, codes, length, map}
use Rattle.std.specs.Char.{to_ascii_lowercase}
use Rattle.wt_tree.specs.declared.kind.AttrName.TheVariants as attr
use Rattle.wt_span.specs.Bytes.{is_blank}
use Rattle.wt_span.specs.Items.{Item, char}
use Rattle.wt_span.specs.Characters as byte
use Rattle.wt_tiles.specs.declared.shape.TileKind.TheVariants as kind
use Rattle.wt_tiles.specs.Glyphs.{glyph_of, is_in, byte_glyphs}
use Rattle.wt_tiles.specs.Links.{leaf}
use Rattle.wt_tiles.specs.Tiles.{switch_at}
use Rattle.wt_tiles.specs.Urls.{is_url_glyph}
use Rattle.wt_context.specs.Heads.{text_of, visible_source, key, ext_link_head, bare_url_head, switch_property}

-- ---- URLs

-- characters of URLs, and entities of such
abbrev pub AreUrlItems : List Item → Type 0
AreUrlItems xs = All (λ x. is_url_glyph (glyph_of x) ≡ true) xs

-- nothing, or a blank and more
abbrev pub BeginsBlank : List ℕ → Type 0
BeginsBlank [] = Unit {0}
BeginsBlank (b ∷ bs) = is_blank b ≢ false

-- An external link whose open delimiter is `[`, URL items, and blanks leads to the text of the items.
abbrev pub LeadsToUrl : Option ℕ → List Item → List Item → Type 0
LeadsToUrl o url blanks =
    AreUrlItems url → BeginsBlank (text_of blanks)
    → (ext_link_head (char o byte.opening_bracket ∷ (url ++ blanks))).attrs ≡ (attr.Href, text_of url) ∷ []

-- a URL of characters alone leads to them
abbrev pub LeadsToItself : Option ℕ → List ℕ → Type 0
LeadsToItself o bs = (bare_url_head (map (char o) bs)).attrs ≡ (attr.Href, bs) ∷ []

-- ---- switches

-- a name between `__` and `__` that is a switch is known in small letters
abbrev pub IsToldSmall : List ℕ → Type 0
IsToldSmall name =
    switch_at (byte_glyphs (codes "__" ++ (name ++ codes "__"))) ≡ Some (leaf kind.Switch (length name + 4))
    → switch_property (codes "__" ++ (name ++ codes "__")) ≡ codes "mw:PageProp/" ++ map to_ascii_lowercase name

-- ---- categories

abbrev pub HasNo : ℕ → List Item → Type 0
HasNo sign xs = All (λ x. is_in (λ b. b == sign) (glyph_of x) ≡ false) xs

-- The key of `[[`, a target without `|` and brackets, `|`, a text without brackets, and `]]` is the text, in which further `|` may
-- be, as it is written, but for marks.
abbrev pub KeyIsBehindFirstPipe : Option ℕ → List Item → List Item → Type 0
KeyIsBehindFirstPipe o target text =
    HasNo 124 target → HasNo 91 target → HasNo 93 target → HasNo 91 text → HasNo 93 text
    → key (char o byte.opening_bracket ∷ char o byte.opening_bracket ∷ (target ++ (char o byte.vertical_bar ∷ (text ++ (char o byte.closing_bracket ∷ char o byte.closing_bracket ∷ []))))) ≡ Some (visible_source text)
