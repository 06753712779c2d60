-- What the chunks of a context say of its runs: where they are, and which items come before them.
use Rattle.std.specs.Prelude.{◌≡◌, ◌≤◌, ◌||◌, ℕ, Bool, true, false, List, [], ◌∷◌, ◌++◌, length}
use Rattle.std.specs.List.{AllByRecursion}
use Rattle.wt_quotes.specs.declared.chunk.Chunk.{Chunk}
use Rattle.wt_quotes.specs.declared.chunk.Chunk.TheVariants as chunk
use Rattle.wt_context.specs.Segments.{Segment, segment_items}
use Rattle.wt_context.specs.Chunks.{both_quotes, begins_with_quote, last_letter, letter_before, chunks}

abbrev pub ends_with_quote : List Segment → Bool
ends_with_quote [] = false
ends_with_quote (u ∷ []) = u.quote
ends_with_quote (u ∷ v ∷ us) = ends_with_quote (v ∷ us)

abbrev pub AreQuotes : List Segment → Type 0
AreQuotes us = AllByRecursion (λ u. u.quote ≡ true) us

-- a run of two apostrophes or more, between segments that don't go on with it
pub record IsRunBetween (us run vs : List Segment) : Type 0 where
  pub quotes : AreQuotes run
  pub some : 2 ≤ length run
  pub before : ends_with_quote us ≡ false
  pub behind : begins_with_quote vs ≡ false

-- two apostrophes are side by side
abbrev pub has_run : List Segment → Bool
has_run [] = false
has_run (u ∷ []) = false
has_run (u ∷ v ∷ us) = both_quotes u v || has_run (v ∷ us)

-- The last chunk has the last visible item of all the segments, and the one before it.
abbrev pub IsTold : List Segment → Type 0
IsTold us = (cs : List Chunk) × (n : ℕ) × (chunks us ≡ cs ++ chunk.Text n (last_letter (segment_items us)) (letter_before (segment_items us)) ∷ [])
