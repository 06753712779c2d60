-- Tokens and the stretch after them, which may go on.
use Rattle.std.specs.Prelude.{◌≡◌, ℕ, ◌==◌, Bool, true, false, not, List, ◌++◌}
use Rattle.wt_span.specs.Items.{Item, items}
use Rattle.wt_span.specs.Characters as byte
use Rattle.wt_context.specs.declared.loose.Loosening.{Loosening}
use Rattle.wt_context.specs.Segments.{Segment, loose_segments}
use Rattle.wt_context.specs.Tokens.{segments_of}

-- an apostrophe, or else none
abbrev pub is_alike : Bool → ℕ → Bool
is_alike true b = b == byte.apostrophe
is_alike false b = not (b == byte.apostrophe)

-- the segments where these items come next
abbrev pub loosened : Loosening → List Item → List Segment
loosened l xs = segments_of l.tokens ++ loose_segments (items l.stretch.pieces ++ xs)

-- the first with these items after it is the second
abbrev pub IsLoosened : Loosening → List Item → Loosening → Type 0
IsLoosened l added m = (xs : List Item) → loosened m xs ≡ loosened l (added ++ xs)
