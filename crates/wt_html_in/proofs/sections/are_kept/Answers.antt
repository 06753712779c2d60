use Rattle.wt_html_in.proofs.Bared.{kept_on}
use Rattle.wt_html_in.proofs.sections.are_kept.Goals as goal

pub loop-content-preserved : goal.loop-content-preserved
loop-content-preserved c =
    kept_on _ c.args.contents.now c.loop-content.content-index c.content-item.result c.loop-content-test.true c.content-item.is
    (c.is_section.ensures c.if-is_section.false) c.loop-content.invariant
