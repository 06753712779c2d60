use Rattle.std.proofs.Common.{sym, ap, ◌∙◌}
use Rattle.wt_html_elements.specs.Built.{pairs, views}
use Rattle.wt_html_nodes.specs.Told.{data_both, data_said}
use Rattle.wt_html_nodes.proofs.Labels.{body_good}
use Rattle.wt_html_nodes.proofs.head.body_head.Goals as goal

pub returns-in_ok-head-in-Good : goal.returns-in_ok-head-in-Good
returns-in_ok-head-in-Good c =
    body_good c.args.number (pairs c.args.attributes.now) (views c.args.contents.now)
    (data_both c.in-Good.sync c.in-Good.mw) c.text_fits.result c.in_ok-head-in-Good.head
    (sym (ap data_said c.in-Good.is) ∙ c.in_ok-body_data.ensures) c.text_fits.ensures c.if-text_fits.true c.in_ok-head-in-Good.ensures
