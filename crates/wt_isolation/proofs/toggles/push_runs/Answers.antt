use Rattle.std.proofs.Common.{arith}
use Rattle.std.proofs.lemmas.List.{drop_all}
use Rattle.wt_isolation.proofs.QuoteRuns.{runs_ended, runs_turn}
use Rattle.wt_isolation.proofs.toggles.push_runs.Goals as goal

pub loop-glyph-preserved : goal.loop-glyph-preserved
loop-glyph-preserved c = record {
  few = let a = c.in_ok-count.ensures.few in let b = c.loop-glyph.invariant.few in omega (arith, a, b);
  runs = runs_turn c.args.out.now.items c.loop-glyph.out.items c.push_glyph.new.out.items c.loop-glyph.count c.in_ok-count.count c.args.glyphs.now
      c.loop-glyph.glyph-index _ c.loop-glyph-test.true c.in_ok-count.ensures.runs c.loop-glyph.invariant.runs;
}

pub returns : goal.returns
returns c =
    runs_ended c.args.out.now.items c.loop-glyph.out.items c.push.new.self.items c.loop-glyph.count c.args.glyphs.now c.loop-glyph.glyph-index
    (drop_all c.loop-glyph.glyph-index c.args.glyphs.now c.loop-glyph-test.false) c.in_ok-push.ensures.items c.loop-glyph.invariant.runs
