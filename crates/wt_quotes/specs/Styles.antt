-- The styles of a context, from what its toggles do.
use Rattle.std.specs.Prelude.{ℕ, ◌+◌, ◌≤◌, Bool, true, false, not, List, [], ◌∷◌, ◌++◌, if◌then◌else◌}
use Rattle.wt_quotes.specs.declared.chunk.Chunk.{Chunk}
use Rattle.wt_quotes.specs.declared.turn.Effect.{Effect}
use Rattle.wt_quotes.specs.declared.turn.Effect.TheVariants.{Nothing, Opens, Closes, Breaks}
use Rattle.wt_quotes.specs.declared.turn.PlacedToggle.{PlacedToggle}
use Rattle.wt_quotes.specs.declared.style.End.{End}
use Rattle.wt_quotes.specs.declared.style.Style.{Style}
use Rattle.wt_quotes.specs.Runs.{bytes_of}
use Rattle.wt_quotes.specs.Toggles.{toggles_of}
use Rattle.wt_quotes.specs.Turns.{turns_of}

-- how many apostrophes a delimiter of the style has
abbrev pub width : Bool → ℕ
width true = 3
width false = 2

abbrev pub effect_of : Bool → PlacedToggle → Effect
effect_of true t = t.bold
effect_of false t = t.italic

abbrev pub is_outer : Bool → PlacedToggle → Bool
is_outer true t = t.bold_outside
is_outer false t = not t.bold_outside

-- the bytes of an opening delimiter, and of a closing one: none where a style breaks
abbrev pub opening_bytes : Bool → Effect → ℕ
opening_bytes bold Nothing = 0
opening_bytes bold Opens = width bold
opening_bytes bold Closes = 0
opening_bytes bold Breaks = 0

abbrev pub closing_bytes : Bool → Effect → ℕ
closing_bytes bold Nothing = 0
closing_bytes bold Opens = 0
closing_bytes bold Closes = width bold
closing_bytes bold Breaks = 0

abbrev pub opening_width : Bool → PlacedToggle → ℕ
opening_width bold t = opening_bytes bold (effect_of bold t)

abbrev pub closing_width : Bool → PlacedToggle → ℕ
closing_width bold t = closing_bytes bold (effect_of bold t)

-- closings take the toggle's first bytes, the inner style's before the outer one's: where this one ends
abbrev pub closing_place : Bool → PlacedToggle → ℕ
closing_place bold t = t.start + (closing_width bold t + (if is_outer bold t then closing_width (not bold) t else 0))

-- openings take the bytes after the closings, the outer style's before the inner one's: where this one begins
abbrev pub opening_place : Bool → PlacedToggle → ℕ
opening_place bold t = t.start + (closing_width true t + closing_width false t + (if is_outer bold t then 0 else opening_width (not bold) t))

abbrev pub begins : Effect → Bool
begins Nothing = false
begins Opens = true
begins Closes = false
begins Breaks = true

abbrev pub stops : Effect → Bool
stops Nothing = false
stops Opens = false
stops Closes = true
stops Breaks = true

-- where a style that is open before these toggles ends first: at the toggle that stops it, or by the end of
-- the context, with an empty delimiter
abbrev pub ending : Bool → ℕ → List PlacedToggle → End
ending bold total [] = record { to = total; close_w = 0 }
ending bold total (t ∷ ts) = if stops (effect_of bold t) then record { to = closing_place bold t; close_w = closing_width bold t } else ending bold total ts

abbrev pub style_from : Bool → PlacedToggle → End → Style
style_from bold t e = record { bold = bold; from = opening_place bold t; open_w = opening_width bold t; to = e.to; close_w = e.close_w }

-- the style that begins at a toggle, if one does
abbrev pub begun : Bool → ℕ → PlacedToggle → List PlacedToggle → List Style
begun bold total t ts = if begins (effect_of bold t) then style_from bold t (ending bold total ts) ∷ [] else []

-- the styles of toggles in the order of their beginnings, the outer one first
abbrev pub styles_by : ℕ → List PlacedToggle → List Style
styles_by total [] = []
styles_by total (t ∷ ts) = (begun t.bold_outside total t ts ++ begun (not t.bold_outside) total t ts) ++ styles_by total ts

-- the bytes that a toggle's delimiters take
abbrev pub taken : PlacedToggle → ℕ
taken t = closing_width true t + closing_width false t + (opening_width true t + opening_width false t)

-- a toggle's delimiters lie in the context
abbrev pub Fits : ℕ → PlacedToggle → Type 0
Fits total t = t.start + taken t ≤ total

-- the styles of a context, in preorder
unfoldable pub style_tree_of : List Chunk → List Style
style_tree_of chunks = styles_by (bytes_of chunks) (turns_of chunks (toggles_of chunks))
