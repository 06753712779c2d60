-- The chunks of a context: their bytes, the runs of apostrophes among them, and the visible items before a run.
use Rattle.std.specs.Prelude.{ℕ, ◌+◌, ◌-◌, ◌==◌, ◌&&◌, Bool, true, false, not, Option, Some, None, List, [], ◌∷◌, if◌then◌else◌, slice_get, take, length, map}
use Rattle.std.specs.List.{range_with_len}
use Rattle.wt_quotes.specs.declared.chunk.Chunk.{Chunk}
use Rattle.wt_quotes.specs.declared.chunk.Chunk.TheVariants.{Text, Run, Tile}

-- how many bytes a chunk has
abbrev pub chunk_bytes : Chunk → ℕ
chunk_bytes (Text bytes last before) = bytes
chunk_bytes (Run n) = n
chunk_bytes (Tile bytes last before) = bytes

-- how many bytes chunks have
abbrev pub bytes_of : List Chunk → ℕ
bytes_of [] = 0
bytes_of (c ∷ cs) = chunk_bytes c + bytes_of cs

-- the place of a chunk's first byte
unfoldable pub place_of : List Chunk → ℕ → ℕ
place_of chunks k = bytes_of (take k chunks)

-- the places of the chunks' first bytes
abbrev pub places_of : List Chunk → List ℕ
places_of chunks = map (place_of chunks) (range_with_len 0 (length chunks))

abbrev pub is_run : Chunk → Bool
is_run (Text bytes last before) = false
is_run (Run n) = true
is_run (Tile bytes last before) = false

-- no two runs are neighbours
abbrev pub are_apart : List Chunk → Bool
are_apart [] = true
are_apart (c ∷ []) = true
are_apart (c ∷ d ∷ cs) = not (is_run c && is_run d) && are_apart (d ∷ cs)

-- the last chunk is a run
abbrev pub ends_in_run : List Chunk → Bool
ends_in_run [] = false
ends_in_run (c ∷ []) = is_run c
ends_in_run (c ∷ d ∷ cs) = ends_in_run (d ∷ cs)

-- how many apostrophes are at a place: 0 where no run does
abbrev pub run_length : Option Chunk → ℕ
run_length None = 0
run_length (Some (Run n)) = n
run_length (Some (Text bytes last before)) = 0
run_length (Some (Tile bytes last before)) = 0

-- the last visible item before a run, by the chunk before it
abbrev pub last_of : Option Chunk → Option ℕ
last_of None = None
last_of (Some (Run n)) = None
last_of (Some (Text bytes last before)) = last
last_of (Some (Tile bytes last before)) = last

-- the item before the last one
abbrev pub before_of : Option Chunk → Option ℕ
before_of None = None
before_of (Some (Run n)) = None
before_of (Some (Text bytes last before)) = before
before_of (Some (Tile bytes last before)) = before

-- the chunk directly before a place
abbrev pub chunk_before : List Chunk → ℕ → Option Chunk
chunk_before chunks k = if k == 0 then None else slice_get chunks (k - 1)
