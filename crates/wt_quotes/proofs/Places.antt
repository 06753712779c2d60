-- Places of chunks: sums of the bytes before.
use Rattle.std.proofs.Common.{◌≡◌, ℕ, ◌+◌, ◌<◌, ◌≤◌, zero, suc, Some, List, [], ◌∷◌, ◌++◌, length, take, map, get_or, refl, ap, ◌∙◌, arith}
use Rattle.std.specs.Prelude.{slice_get}
use Rattle.std.specs.List.{range_with_len}
use Rattle.std.proofs.lemmas.List.{map-append}
use Rattle.std.proofs.lemmas.Option.{slice_get-get_or}
use Rattle.wt_span.proofs.Places.{range_more}
use Rattle.wt_quotes.specs.declared.chunk.Chunk.{Chunk}
use Rattle.wt_quotes.specs.declared.chunk.Chunk.TheVariants.{Text, Run, Tile}
use Rattle.wt_quotes.specs.Runs.{chunk_bytes, bytes_of, place_of, run_length}

place_next : (chunks : List Chunk) (k : ℕ) (d : Chunk) → k < length chunks
    → bytes_of (take (suc k) chunks) ≡ bytes_of (take k chunks) + chunk_bytes (get_or chunks k d)
place_next [] k d h = absurd (omega arith)
place_next (c ∷ []) zero d h = omega arith
place_next (c ∷ e ∷ cs) zero d h = omega arith
place_next (c ∷ cs) (suc k) d h = omega (arith, place_next cs k d (omega arith))

pub place_more : (chunks : List Chunk) (k : ℕ) (d : Chunk) → k < length chunks → place_of chunks (k + 1) ≡ place_of chunks k + chunk_bytes (get_or chunks k d)
unfolding place_of
place_more chunks k d h =
    let e : k + 1 ≡ suc k = omega arith in
    ap (λ m. bytes_of (take m chunks)) e ∙ place_next chunks k d h

front_le : (chunks : List Chunk) (k : ℕ) → bytes_of (take k chunks) ≤ bytes_of chunks
front_le [] zero = omega arith
front_le [] (suc k) = omega arith
front_le (c ∷ cs) zero = omega arith
front_le (c ∷ cs) (suc k) = omega (arith, front_le cs k)

pub place_le : (chunks : List Chunk) (k : ℕ) → place_of chunks k ≤ bytes_of chunks
unfolding place_of
place_le chunks k = front_le chunks k

front_all : (chunks : List Chunk) → bytes_of (take (length chunks) chunks) ≡ bytes_of chunks
front_all [] = refl
front_all (c ∷ cs) = ap (λ n. chunk_bytes c + n) (front_all cs)

pub place_all : (chunks : List Chunk) (k : ℕ) → k ≡ length chunks → place_of chunks k ≡ bytes_of chunks
unfolding place_of
place_all chunks k e = ap (λ m. bytes_of (take m chunks)) e ∙ front_all chunks

pub place_none : (chunks : List Chunk) → place_of chunks 0 ≡ 0
unfolding place_of
place_none [] = refl
place_none (c ∷ cs) = refl

run_bytes : (c : Chunk) → run_length (Some c) ≤ chunk_bytes c
run_bytes (Text bytes last before) = omega arith
run_bytes (Run n) = omega arith
run_bytes (Tile bytes last before) = omega arith

-- a run ends where the next chunk begins, or before
pub run_within : (chunks : List Chunk) (k : ℕ) → k < length chunks → place_of chunks k + run_length (slice_get chunks k) ≤ place_of chunks (k + 1)
run_within chunks k h =
    let d : Chunk = Run 0 in
    let e : run_length (slice_get chunks k) ≡ run_length (Some (get_or chunks k d)) = ap run_length (slice_get-get_or chunks k d h) in
    omega (arith, place_more chunks k d h, run_bytes (get_or chunks k d), e)

-- one more place of a list that is made place by place
pub map-range_more : {Y : Type 0} (f : ℕ → Y) → (n : ℕ) → map f (range_with_len 0 (n + 1)) ≡ map f (range_with_len 0 n) ++ f n ∷ []
map-range_more f n =
    let s : n + 1 ≡ suc n = omega arith in
    let z : 0 + n ≡ n = omega arith in
    ap (λ m. map f (range_with_len 0 m)) s ∙ ap (map f) (range_more 0 n) ∙ map-append f (range_with_len 0 n) ((0 + n) ∷ [])
    ∙ ap (λ m. map f (range_with_len 0 n) ++ f m ∷ []) z

front_mono : (chunks : List Chunk) (j k : ℕ) → j ≤ k → bytes_of (take j chunks) ≤ bytes_of (take k chunks)
front_mono [] zero zero h = omega arith
front_mono [] zero (suc k) h = omega arith
front_mono [] (suc j) zero h = omega arith
front_mono [] (suc j) (suc k) h = omega arith
front_mono (c ∷ cs) zero k h = omega arith
front_mono (c ∷ cs) (suc j) zero h = absurd (omega arith)
front_mono (c ∷ cs) (suc j) (suc k) h = omega (arith, front_mono cs j k (omega arith))

pub place_mono : (chunks : List Chunk) (j k : ℕ) → j ≤ k → place_of chunks j ≤ place_of chunks k
unfolding place_of
place_mono chunks j k h = front_mono chunks j k h
