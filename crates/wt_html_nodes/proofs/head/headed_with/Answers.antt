use Rattle.std.proofs.Common.{Some, refl, sym, ◌∙◌}
use Rattle.wt_html_elements.specs.Built.{pairs, views}
use Rattle.wt_schema.specs.Fit.{texts_in}
use Rattle.wt_html_nodes.specs.Told.{data_both}
use Rattle.wt_html_nodes.proofs.Labels.{first_headed}
use Rattle.wt_html_nodes.proofs.head.headed_with.Goals as goal

pub returns-in_ok-head : goal.returns-in_ok-head
returns-in_ok-head c =
    first_headed c.args.element.standing c.args.kind (pairs c.args.element.attributes.now) (pairs c.args.element.own.now)
    (data_both c.args.sync c.args.mw) (texts_in (views c.args.element.contents.now)) c.in_ok-group.group c.in_ok-head.head
    (record { standing = c.args.element.standing; group = Some c.in_ok-group.group; head = c.in_ok-head.head })
    (sym c.is_first.ensures ∙ c.if-is_first.true) c.requires.own c.in_ok-group.ensures c.in_ok-head.ensures refl refl refl
