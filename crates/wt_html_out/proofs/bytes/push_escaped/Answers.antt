use Rattle.std.proofs.Common.{ap, length, length-drop, arith}
use Rattle.wt_html_out.specs.Escaping.{escape_in}
use Rattle.wt_datamw.proofs.Runs.{wrote_more}
use Rattle.wt_html_out.proofs.bytes.push_escaped.Goals as goal

pub loop-at-preserved : goal.loop-at-preserved
loop-at-preserved c = record {
  within = omega (arith, c.in_ok-at.ensures.within, ap length c.rest_of.ensures, length-drop c.loop-at.at c.args.bytes.now, c.loop-at.invariant.within);
  wrote =
      wrote_more (escape_in c.args.escaping) c.args.out.now.items c.loop-at.out.items c.push_some.new.out.items c.args.bytes.now c.rest_of.result.now c.loop-at.at c.in_ok-at.field-0
      c.loop-at.invariant.wrote c.rest_of.ensures c.in_ok-at.ensures.wrote;
}
