-- The segments of a context as the rule of apostrophes takes them, each segment one place.
use Rattle.std.specs.Prelude.{ℕ, Bool, false, not, ◌&&◌, Option, Some, None, List, [], ◌∷◌, ◌++◌, length, nat_le, reverse, filter, slice_get, if◌then◌else◌}
use Rattle.wt_span.specs.Items.{Item, char, whole, is_mark}
use Rattle.wt_span.specs.Runs.{runs}
use Rattle.wt_quotes.specs.declared.chunk.Chunk.{Chunk}
use Rattle.wt_quotes.specs.declared.chunk.Chunk.TheVariants as chunk
use Rattle.wt_context.specs.Segments.{Segment, segment_items}

-- ---- the visible items before a run

abbrev pub visible : List Item → List Item
visible xs = filter (λ x. not (is_mark x)) xs

-- A character by its last byte: one past ASCII is none of those that the rule names, whichever it is. An atom is no character.
abbrev pub letter : Option Item → Option ℕ
letter None = None
letter (Some (char o b)) = Some b
letter (Some (whole f o bs)) = None

-- the last visible item, and the one before it
abbrev pub last_letter : List Item → Option ℕ
last_letter xs = letter (slice_get (reverse (visible xs)) 0)

abbrev pub letter_before : List Item → Option ℕ
letter_before xs = letter (slice_get (reverse (visible xs)) 1)

-- ---- chunks

-- neighbouring apostrophes
abbrev pub both_quotes : Segment → Segment → Bool
both_quotes u v = u.quote && v.quote

abbrev pub begins_with_quote : List Segment → Bool
begins_with_quote [] = false
begins_with_quote (u ∷ us) = u.quote

-- two apostrophes or more; a single one is a character like others
abbrev pub is_run : List Segment → Bool
is_run us = begins_with_quote us && nat_le 2 (length us)

abbrev pub other_chunk : ℕ → List Item → Chunk
other_chunk n xs = chunk.Text n (last_letter xs) (letter_before xs)

-- runs of apostrophes and single segments, by the items since the last run
abbrev pub chunks_since : List Item → List (List Segment) → List Chunk
chunks_since xs [] = []
chunks_since xs (us ∷ rest) =
    if is_run us then chunk.Run (length us) ∷ chunks_since [] rest
    else other_chunk (length us) (xs ++ segment_items us) ∷ chunks_since (xs ++ segment_items us) rest

unfoldable pub chunks : List Segment → List Chunk
chunks us = chunks_since [] (runs both_quotes us)
