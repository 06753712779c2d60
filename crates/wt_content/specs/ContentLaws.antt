-- What a reason says, in other words.
use Rattle.std.specs.Prelude.{◌≡◌, ℕ, ◌+◌, ◌<◌, false, Option, Some, None, List, [], ◌∷◌, ◌++◌, length}
use Rattle.std.specs.List.{Contains}
use Rattle.wt_tiles.specs.declared.glyph.Glyph.{Glyph}
use Rattle.wt_tiles.specs.Glyphs.{byte_glyphs}
use Rattle.wt_tiles.specs.Urls.{scheme_len, url_items, is_url_glyph}
use Rattle.wt_content.specs.declared.reason.ContentWhy.{ContentWhy}
use Rattle.wt_content.specs.declared.reason.ContentWhy.TheVariants as why

-- the order in which reasons are named
abbrev pub order : ContentWhy → ℕ
order why.Element = 0
order why.Href = 1
order why.LineBreak = 2
order why.Nested = 3
order why.EmptyList = 4

-- Nothing is wrong; or this is wrong somewhere, and nothing that would be named before it is.
abbrev pub IsFirstReason : List ContentWhy → Option ContentWhy → Type 0
IsFirstReason ws None = ws ≡ []
IsFirstReason ws (Some w) = Contains ws w × ((v : ContentWhy) → order v < order w → Contains ws v → ⊥)

-- Where any item follows that doesn't belong to URLs, the beginning of a URL and URL items are exactly these bytes.
abbrev pub IsReadWhole : List ℕ → Type 0
IsReadWhole bs =
    (g : Glyph) (gs : List Glyph) → is_url_glyph g ≡ false
    → (0 < scheme_len (byte_glyphs bs ++ g ∷ gs)) × (0 < length (url_items (byte_glyphs bs ++ g ∷ gs)))
    × (scheme_len (byte_glyphs bs ++ g ∷ gs) + length (url_items (byte_glyphs bs ++ g ∷ gs)) ≡ length bs)
