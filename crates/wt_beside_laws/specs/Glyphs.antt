-- The items of such a content as inline forms read them, and what a node that stays begins with.
use Rattle.std.specs.Prelude.{◌≡◌, ℕ, ◌==◌, ◌||◌, Bool, true, false, List, [], ◌∷◌, ◌++◌, map, encode_utf8, if◌then◌else◌}
use Rattle.std.specs.Char.{to_ascii_lowercase}
use Rattle.wt_span.specs.Characters as byte
use Rattle.wt_guards.specs.Content.{ContentSign, letter, thing}
use Rattle.wt_guards.specs.Guards.{Setting, is_guarded}
use Rattle.wt_guards.specs.Letters.{is_escaped}
use Rattle.wt_tiles.specs.declared.glyph.Glyph.{Glyph}
use Rattle.wt_tiles.specs.declared.glyph.Glyph.TheVariants as glyph
use Rattle.wt_tiles.specs.Glyphs.{glyph_of, is_in, byte_glyphs}
use Rattle.wt_beside_laws.specs.NodeItems.{node_items}

abbrev pub guard_glyphs : Bool → List Glyph
guard_glyphs true = glyph.Atom ∷ []
guard_glyphs false = []

abbrev pub letter_glyphs : Bool → ℕ → List Glyph
letter_glyphs true c = glyph.Entity c ∷ []
letter_glyphs false c = byte_glyphs (encode_utf8 c)

-- before these glyphs
abbrev pub content_glyphs : Setting → List ContentSign → List ContentSign → List Glyph → List Glyph
content_glyphs s before [] rest = guard_glyphs (is_guarded s before []) ++ rest
content_glyphs s before (letter c ∷ after) rest =
    guard_glyphs (is_guarded s before (letter c ∷ after)) ++ (letter_glyphs (is_escaped s.within s.place before c after) c ++ content_glyphs s (letter c ∷ before) after rest)
content_glyphs s before (thing t ∷ after) rest =
    guard_glyphs (is_guarded s before (thing t ∷ after)) ++ (map glyph_of (node_items t.source) ++ content_glyphs s (thing t ∷ before) after rest)

-- up to the end of the line
abbrev pub line_glyphs : Setting → List ContentSign → List ContentSign → List Glyph
line_glyphs s before [] = guard_glyphs (is_guarded s before [])
line_glyphs s before (letter c ∷ after) =
    guard_glyphs (is_guarded s before (letter c ∷ after))
    ++ (if c == byte.line_break then [] else letter_glyphs (is_escaped s.within s.place before c after) c ++ line_glyphs s (letter c ∷ before) after)
line_glyphs s before (thing t ∷ after) =
    guard_glyphs (is_guarded s before (thing t ∷ after)) ++ (map glyph_of (node_items t.source) ++ line_glyphs s (thing t ∷ before) after)

-- `t`, `p`, `s`, `:` or `/`, with which the beginning of a URL goes on
abbrev pub is_url_start : Glyph → Bool
is_url_start g = is_in (λ b. let c : ℕ = to_ascii_lowercase b in c == 116 || (c == 112 || (c == 115 || (c == 58 || c == 47)))) g

-- none of these is first, and there is a first one
abbrev pub AvoidsUrls : List Glyph → Type 0
AvoidsUrls [] = ⊥
AvoidsUrls (g ∷ gs) = is_url_start g ≡ false

-- none of these is first behind it
abbrev pub IsPast : List Glyph → Type 0
IsPast [] = Unit {0}
IsPast (g ∷ gs) = is_url_start g ≡ false

-- so of each node that stays
abbrev pub AllAvoid : List ContentSign → Type 0
AllAvoid [] = Unit {0}
AllAvoid (letter c ∷ after) = AllAvoid after
AllAvoid (thing t ∷ after) = AvoidsUrls (map glyph_of (node_items t.source)) × AllAvoid after
