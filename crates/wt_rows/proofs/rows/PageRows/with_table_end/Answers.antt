use Rattle.std.proofs.Common.{refl}
use Rattle.wt_span.specs.Items.{items}
use Rattle.wt_page.specs.Rows.{idle_len}
use Rattle.wt_rows.proofs.Making.{whole_front, whole_cut}
use Rattle.wt_rows.proofs.rows.PageRows.with_table_end.Goals as goal

pub with_sign-requires-clause-lead : goal.with_sign-requires-clause-lead
with_sign-requires-clause-lead c =
    let xs = items c.args.content.now in
    whole_front xs c.in_ok-lead.lead c.as_slice-2.result.now (idle_len xs) c.as_slice-2.ensures c.in_ok-lead.ensures.sound_front
    c.in_ok-lead.ensures.front c.requires.unbroken

pub with_sign-requires-clause-sign : goal.with_sign-requires-clause-sign
with_sign-requires-clause-sign c =
    let xs = items c.args.content.now in
    (whole_cut xs c.in_ok-lead.rest c.as_slice.result.now c.in_ok-sign.sign c.in_ok-sign.behind (idle_len xs) 2 c.as_slice.ensures
    c.in_ok-lead.ensures.back c.requires.unbroken c.in_ok-sign.ensures.sound_front c.in_ok-sign.ensures.front
    c.in_ok-sign.ensures.sound_back c.in_ok-sign.ensures.back).0

pub with_sign-requires-clause-behind : goal.with_sign-requires-clause-behind
with_sign-requires-clause-behind c =
    let xs = items c.args.content.now in
    (whole_cut xs c.in_ok-lead.rest c.as_slice.result.now c.in_ok-sign.sign c.in_ok-sign.behind (idle_len xs) 2 c.as_slice.ensures
    c.in_ok-lead.ensures.back c.requires.unbroken c.in_ok-sign.ensures.sound_front c.in_ok-sign.ensures.front
    c.in_ok-sign.ensures.sound_back c.in_ok-sign.ensures.back).1
