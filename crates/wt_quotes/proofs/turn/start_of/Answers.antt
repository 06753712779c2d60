use Rattle.std.proofs.Common.{◌≡◌, ℕ, ◌+◌, ◌<◌, List, length, get_or, ap, ◌∙◌, arith}
use Rattle.std.proofs.lemmas.List.FromFn.{get_or-map-range_with_len, length-map-range_with_len}
use Rattle.wt_quotes.specs.declared.chunk.Chunk.{Chunk}
use Rattle.wt_quotes.specs.Runs.{place_of, places_of}
use Rattle.wt_quotes.proofs.Places.{place_le, run_within}
use Rattle.wt_quotes.proofs.turn.start_of.Goals as goal

place_at : (chunks : List Chunk) (places : List ℕ) (k : ℕ) → places ≡ places_of chunks → k < length chunks → get_or places k 0 ≡ place_of chunks k
place_at chunks places k e h = ap (λ ps. get_or ps k 0) e ∙ get_or-map-range_with_len (place_of chunks) 0 (length chunks) k k 0 h (omega arith)

pub bounds-places-toggle : goal.bounds-places-toggle
bounds-places-toggle c =
    let e : length c.args.places.now ≡ length c.args.chunks.now = ap length c.requires.places
    ∙ length-map-range_with_len (place_of c.args.chunks.now) 0 (length c.args.chunks.now) in
    omega (arith, c.requires.run.0)

pub overflow_add-result : goal.overflow_add-result
overflow_add-result c =
    let at = place_at c.args.chunks.now c.args.places.now c.args.toggle.now.chunk c.requires.places c.requires.run.0 in
    omega (
      arith,
      c.requires.run.1,
      c.requires.bytes,
      run_within c.args.chunks.now c.args.toggle.now.chunk c.requires.run.0,
      place_le c.args.chunks.now (c.args.toggle.now.chunk + 1),
    )

pub returns : goal.returns
returns c = ap (λ n. n + c.args.toggle.now.plain) (place_at c.args.chunks.now c.args.places.now c.args.toggle.now.chunk c.requires.places c.requires.run.0)
