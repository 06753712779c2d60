-- Tags that aren't ended in a node, behind a tag that opens a pair and is closed by nothing on its line.
use Rattle.std.specs.Prelude.{◌≡◌, ◌⊎◌, ◌==◌, ◌&&◌, ◌||◌, Bool, true, false, not, Option, Some, None, List, [], ◌∷◌, if◌then◌else◌}
use Rattle.wt_span.specs.Characters as byte
use Rattle.wt_guards.specs.Content.{ContentSign, Thing, letter, thing}
use Rattle.wt_tiles.specs.declared.glyph.Glyph.{Glyph}
use Rattle.wt_tiles.specs.declared.glyph.Glyph.TheVariants as glyph
use Rattle.wt_tiles.specs.declared.glyph.GlyphClass.TheVariants as class
use Rattle.wt_tiles.specs.Glyphs.{in_class}
use Rattle.wt_beside_laws.specs.Cuts.{own_glyphs}
use Rattle.wt_beside_laws.specs.Nodes.{OpensNoPair}

-- ---- a node

-- some item fails a test
abbrev pub has_other : (Glyph → Bool) → List Glyph → Bool
has_other test [] = false
has_other test (g ∷ gs) = not (test g) || has_other test gs

-- some item may be in no tag: a `<`, a `>`, a line break, or a nowiki
abbrev pub has_stop : List Glyph → Bool
has_stop gs = has_other (in_class class.Tag) gs

-- a comment, an include tag or a hidden part is among them
abbrev pub has_mark : List Glyph → Bool
has_mark [] = false
has_mark (glyph.Byte b ∷ gs) = has_mark gs
has_mark (glyph.Entity c ∷ gs) = has_mark gs
has_mark (glyph.Atom ∷ gs) = has_mark gs
has_mark (glyph.Mark ∷ gs) = true

-- Behind a `<`: a tag's name begins, and nothing ends the tag, in which a mark is. Without one its bytes tell it, and its block is tangled.
abbrev pub is_open_tag : List Glyph → Bool
is_open_tag [] = false
is_open_tag (g ∷ gs) = in_class class.Letter g && (not (has_stop (g ∷ gs)) && has_mark gs)

abbrev pub ends_in_tag : List Glyph → Bool
ends_in_tag [] = false
ends_in_tag (g ∷ gs) = (in_class (class.Only byte.less_than) g && is_open_tag gs) || ends_in_tag gs

-- a `<` is in it
abbrev pub is_tagged : List Glyph → Bool
is_tagged [] = false
is_tagged (g ∷ gs) = in_class (class.Only byte.less_than) g || is_tagged gs

-- ---- the lines of a content

-- of a node that holds a `<`, `Some`; and where a line ends, `None`
abbrev pub sign_on : ContentSign → List (Option Thing) → List (Option Thing)
sign_on (letter c) more = if c == byte.line_break then None ∷ more else more
sign_on (thing t) more = if is_tagged (own_glyphs t) then Some t ∷ more else more

abbrev pub spine : List ContentSign → List (Option Thing)
spine [] = []
spine (sign ∷ after) = sign_on sign (spine after)

-- None up to the end of the line ends in a tag that isn't ended.
abbrev pub EndOnLine : List (Option Thing) → Type 0
EndOnLine [] = Unit {0}
EndOnLine (None ∷ more) = Unit {0}
EndOnLine (Some t ∷ more) = (ends_in_tag (own_glyphs t) ≡ false) × EndOnLine more

-- so behind each that is a tag which opens a pair
abbrev pub EndBehind : List (Option Thing) → Type 0
EndBehind [] = Unit {0}
EndBehind (None ∷ more) = EndBehind more
EndBehind (Some t ∷ more) = (OpensNoPair (own_glyphs t) ⊎ EndOnLine more) × EndBehind more

-- Behind a tag that opens a pair and is a node by itself, as nothing on its line closes it, no node on this line ends in a tag that isn't ended.
abbrev pub EndTags : List ContentSign → Type 0
EndTags signs = EndBehind (spine signs)
