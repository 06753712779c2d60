use Rattle.std.proofs.Common.{◌+◌, None, map, ◌++◌, ◌∷◌, [], sym, ap, ◌∙◌, arith}
use Rattle.std.specs.List.{range_with_len}
use Rattle.wt_quotes.specs.declared.chunk.Chunk.TheVariants.{Text}
use Rattle.wt_quotes.specs.Runs.{place_of}
use Rattle.wt_quotes.proofs.Places.{place_none, place_more, place_le, map-range_more}
use Rattle.wt_quotes.proofs.turn.chunk_places.Goals as goal

pub loop-at-init : goal.loop-at-init
loop-at-init c = record { place = sym (place_none c.args.chunks.now); places = c.new-places.ensures.items }

pub overflow_add-place : goal.overflow_add-place
overflow_add-place c =
    let more = place_more c.args.chunks.now c.loop-at.at (Text 0 None None) c.loop-at-test.true in
    let within = place_le c.args.chunks.now (c.loop-at.at + 1) in
    omega arith

pub loop-at-preserved : goal.loop-at-preserved
loop-at-preserved c =
    let more = place_more c.args.chunks.now c.loop-at.at (Text 0 None None) c.loop-at-test.true in
    record {
      place = omega arith;
      places = c.in_ok-push.ensures.items ∙ ap (λ xs. xs ++ c.loop-at.place ∷ []) c.loop-at.invariant.places
          ∙ ap (λ p. map (place_of c.args.chunks.now) (range_with_len 0 c.loop-at.at) ++ p ∷ []) c.loop-at.invariant.place
          ∙ sym (map-range_more (place_of c.args.chunks.now) c.loop-at.at);
    }
