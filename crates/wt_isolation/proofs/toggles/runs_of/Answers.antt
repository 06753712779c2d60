use Rattle.std.proofs.Common.{ap, drop, take, ◌∙◌}
use Rattle.std.proofs.lemmas.List.{drop_all}
use Rattle.wt_isolation.specs.Toggles.{runs_of}
use Rattle.wt_isolation.proofs.QuoteRuns.{tiles_ended, tiles_turn}
use Rattle.wt_isolation.proofs.toggles.runs_of.Goals as goal

pub loop-shape-preserved : goal.loop-shape-preserved
loop-shape-preserved c =
    let left = c.loop-shape.left.now in
    tiles_turn c.args.shapes.now c.loop-shape.shape-index _ (runs_of c.args.shapes.now c.args.glyphs.now) c.loop-shape.out.items
    c.push_tile_runs.new.out.items left c.rest-left.result.now c.front.result.now c.loop-shape-test.true c.in_ok-push_tile_runs.ensures
    (c.front.ensures ∙ ap (λ n. take n left) c.len-len.ensures) (c.rest-left.ensures ∙ ap (λ n. drop n left) c.len-len.ensures) c.loop-shape.invariant

pub returns : goal.returns
returns c =
    tiles_ended c.args.shapes.now c.loop-shape.shape-index (runs_of c.args.shapes.now c.args.glyphs.now) c.loop-shape.out.items c.loop-shape.left.now
    (drop_all c.loop-shape.shape-index c.args.shapes.now c.loop-shape-test.false) c.loop-shape.invariant
