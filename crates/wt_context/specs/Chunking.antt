-- Chunks while segments are read: those that are made, the visible items since the last run, and how many apostrophes are
-- after them, which may go on.
use Rattle.std.specs.Prelude.{◌≡◌, ℕ, suc, ◌==◌, Some, List, [], ◌∷◌, ◌++◌, nat_le, if◌then◌else◌}
use Rattle.wt_quotes.specs.declared.chunk.Chunk.{Chunk}
use Rattle.wt_quotes.specs.declared.chunk.Chunk.TheVariants as chunk
use Rattle.wt_context.specs.declared.seen.Seen.{Seen}
use Rattle.wt_context.specs.declared.chunk.Chunking.{Chunking}
use Rattle.wt_span.specs.Characters as byte
use Rattle.wt_context.specs.Segments.{Segment}
use Rattle.wt_context.specs.Seen.{nothing_seen, seen_letter, after_items}

-- a segment that is no run, with what was seen up to it
abbrev pub other : Seen → Chunk
other s = chunk.Text 1 s.last s.before

-- the apostrophes made a chunk, before what follows by what was seen
abbrev pub flushed : Seen → ℕ → (Seen → List Chunk) → List Chunk
flushed s n next =
    if nat_le 2 n then chunk.Run n ∷ next nothing_seen
    else (if n == 0 then next s else other (seen_letter s (Some byte.apostrophe)) ∷ next (seen_letter s (Some byte.apostrophe)))

abbrev pub chunks_after : Seen → ℕ → List Segment → List Chunk
chunks_after s n [] = flushed s n (λ t. [])
chunks_after s n (u ∷ us) =
    if u.quote then chunks_after s (suc n) us
    else flushed s n (λ t. other (after_items t u.items) ∷ chunks_after (after_items t u.items) 0 us)

-- the chunks where these segments come next
abbrev pub chunked : Chunking → List Segment → List Chunk
chunked c us = c.chunks ++ chunks_after c.seen c.quotes us

-- the first with these segments after it is the second
abbrev pub IsChunked : Chunking → List Segment → Chunking → Type 0
IsChunked c added d = (us : List Segment) → chunked d us ≡ chunked c (added ++ us)

-- no apostrophe is open in the second any more
abbrev pub IsClosed : Chunking → Chunking → Type 0
IsClosed c d = (d.quotes ≡ 0) × ((next : Seen → List Chunk) → d.chunks ++ next d.seen ≡ c.chunks ++ flushed c.seen c.quotes next)

-- a segment that is no run after the first
abbrev pub IsOther : Chunking → Seen → Chunking → Type 0
IsOther c s d = (d.chunks ≡ c.chunks ++ other s ∷ []) × (d.seen ≡ s) × (d.quotes ≡ 0)

-- a run of so many apostrophes
abbrev pub IsRunOn : Chunking → ℕ → Chunking → Type 0
IsRunOn c n d = (d.chunks ≡ c.chunks ++ chunk.Run n ∷ []) × (d.seen ≡ nothing_seen) × (d.quotes ≡ 0)
