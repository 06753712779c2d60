use Rattle.std.proofs.Common.{sym, ◌∙◌}
use Rattle.wt_schema.specs.Rows.{row}
use Rattle.wt_html_elements.specs.Built.{pairs, views}
use Rattle.wt_html_nodes.proofs.Labels.{row_good}
use Rattle.wt_html_nodes.proofs.head.headed_in.Goals as goal

pub returns-then-fits_place : goal.returns-then-fits_place
returns-then-fits_place c =
    row_good c.args.element.number c.args.position c.args.element.standing c.in-Some.kind (row c.args.name.now (pairs c.args.element.own.now))
    (pairs c.args.element.attributes.now) (views c.args.element.contents.now) c.fits_place.result c.headed_as.result
    (sym c.row.ensures ∙ c.in-Some.is) c.fits_place.ensures c.if-fits_place.true c.headed_as.ensures
