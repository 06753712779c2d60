use Rattle.std.proofs.Common.{refl}
use Rattle.wt_span.specs.Items.{items}
use Rattle.wt_page.specs.Rows.{dashes}
use Rattle.wt_rows.proofs.LineCuts.{dashes_edge}
use Rattle.wt_rows.proofs.Making.{whole_front, whole_back, unbroken_behind}
use Rattle.wt_rows.proofs.rows.PageRows.with_rule.Goals as goal

pub cut_front-requires-clause-edge : goal.cut_front-requires-clause-edge
cut_front-requires-clause-edge c = dashes_edge (items c.rest_of.result.now)

pub with_sign-requires-clause-sign : goal.with_sign-requires-clause-sign
with_sign-requires-clause-sign c =
    let ys = items c.rest_of.result.now in
    whole_front ys c.in_ok-sign.sign c.in_ok-sign.sign (dashes ys) refl c.in_ok-sign.ensures.sound_front c.in_ok-sign.ensures.front
    (unbroken_behind c.args.content.now c.rest_of.result.now c.marks_len-n.result c.rest_of.ensures c.marks_len-n.ensures.cut c.requires.unbroken)

pub with_sign-requires-clause-behind : goal.with_sign-requires-clause-behind
with_sign-requires-clause-behind c =
    let ys = items c.rest_of.result.now in
    whole_back ys c.in_ok-sign.behind c.in_ok-sign.behind (dashes ys) refl c.in_ok-sign.ensures.sound_back c.in_ok-sign.ensures.back
    (unbroken_behind c.args.content.now c.rest_of.result.now c.marks_len-n.result c.rest_of.ensures c.marks_len-n.ensures.cut c.requires.unbroken)
