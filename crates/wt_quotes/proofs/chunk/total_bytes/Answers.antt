use Rattle.std.proofs.Common.{◌+◌, None, sym, ◌∙◌, arith}
use Rattle.wt_quotes.specs.declared.chunk.Chunk.TheVariants.{Text}
use Rattle.wt_quotes.proofs.Places.{place_none, place_more, place_le, place_all}
use Rattle.wt_quotes.proofs.chunk.total_bytes.Goals as goal

pub loop-at-init : goal.loop-at-init
loop-at-init c = sym (place_none c.args.chunks.now)

pub overflow_add-total : goal.overflow_add-total
overflow_add-total c =
    let more = place_more c.args.chunks.now c.loop-at.at (Text 0 None None) c.loop-at-test.true in
    let within = place_le c.args.chunks.now (c.loop-at.at + 1) in
    omega arith

pub loop-at-preserved : goal.loop-at-preserved
loop-at-preserved c =
    let more = place_more c.args.chunks.now c.loop-at.at (Text 0 None None) c.loop-at-test.true in
    omega arith

pub returns : goal.returns
returns c = c.loop-at.invariant ∙ place_all c.args.chunks.now c.loop-at.at (omega arith)
