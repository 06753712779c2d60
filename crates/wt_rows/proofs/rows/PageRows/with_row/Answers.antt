use Rattle.wt_rows.proofs.Making.{added, rows_more, made_more}
use Rattle.wt_rows.proofs.rows.PageRows.with_row.Goals as goal

pub returns-clause-rows : goal.returns-clause-rows
returns-clause-rows c =
    rows_more c.args.kind c.args.self.pieces c.args.lead.now c.args.inside.now c.args.ending.now c.extend_from_slice-3.new.self
    c.args.self.rows c.push.new.self _ c.requires.made
    (added c.args.kind c.args.self.pieces c.args.lead.now c.args.inside.now c.args.ending.now c.extend_from_slice.new.self
    c.extend_from_slice-2.new.self c.extend_from_slice-3.new.self c.len-start.result c.len-from.result c.len-to.result c.len-end.result
    c.in_ok-extend_from_slice.ensures.ok c.in_ok-extend_from_slice-2.ensures.ok c.in_ok-extend_from_slice-3.ensures.ok
    c.len-start.ensures c.len-from.ensures c.len-to.ensures c.len-end.ensures)
    c.in_ok-push.ensures.ok

pub returns-clause-made_after : goal.returns-clause-made_after
returns-clause-made_after c =
    made_more c.args.kind c.args.self.pieces c.args.lead.now c.args.inside.now c.args.ending.now c.extend_from_slice-3.new.self
    c.args.self.rows c.push.new.self _ c.requires.made c.requires.row
    (added c.args.kind c.args.self.pieces c.args.lead.now c.args.inside.now c.args.ending.now c.extend_from_slice.new.self
    c.extend_from_slice-2.new.self c.extend_from_slice-3.new.self c.len-start.result c.len-from.result c.len-to.result c.len-end.result
    c.in_ok-extend_from_slice.ensures.ok c.in_ok-extend_from_slice-2.ensures.ok c.in_ok-extend_from_slice-3.ensures.ok
    c.len-start.ensures c.len-from.ensures c.len-to.ensures c.len-end.ensures)
    c.in_ok-push.ensures.ok
