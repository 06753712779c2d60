use Rattle.std.proofs.Common.{sym, ap, ◌∙◌}
use Rattle.wt_html_elements.specs.Built.{pairs, views}
use Rattle.wt_html_nodes.specs.Told.{data_both, data_said}
use Rattle.wt_html_nodes.proofs.Labels.{headed_good}
use Rattle.wt_html_nodes.proofs.head.headed_as.Goals as goal

pub returns-in_ok-headed-in-Good : goal.returns-in_ok-headed-in-Good
returns-in_ok-headed-in-Good c =
    headed_good c.args.element.number c.args.inside c.args.element.standing c.args.kind (pairs c.args.element.attributes.now) (views c.args.element.contents.now)
    (data_both c.in-Good.sync c.in-Good.mw) c.text_fits.result c.in_ok-headed-in-Good.headed
    (sym (ap data_said c.in-Good.is) ∙ c.in_ok-data_for.ensures) c.text_fits.ensures c.if-text_fits.true c.in_ok-headed-in-Good.ensures
