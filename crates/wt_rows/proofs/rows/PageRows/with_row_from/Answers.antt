use Rattle.std.proofs.Common.{take, drop}
use Rattle.wt_rows.proofs.LinesBehind.{added_from}
use Rattle.wt_rows.proofs.Making.{rows_more, made_more}
use Rattle.wt_rows.proofs.rows.PageRows.with_row_from.Goals as goal

pub returns-clause-rows : goal.returns-clause-rows
returns-clause-rows c =
    let all = c.args.self.pieces in
    let line = drop c.args.start all in
    rows_more c.args.kind (take c.args.start all) (take c.args.lead line) (drop c.args.lead (take c.args.len line)) (drop c.args.len line) all
    c.args.self.rows c.push.new.self _ c.requires.made
    (added_from c.args.kind all c.args.start c.args.lead c.args.len c.len-end.result c.requires.lead c.requires.within c.len-end.ensures)
    c.in_ok-push.ensures.ok

pub returns-clause-made_after : goal.returns-clause-made_after
returns-clause-made_after c =
    let all = c.args.self.pieces in
    let line = drop c.args.start all in
    made_more c.args.kind (take c.args.start all) (take c.args.lead line) (drop c.args.lead (take c.args.len line)) (drop c.args.len line) all
    c.args.self.rows c.push.new.self _ c.requires.made c.requires.row
    (added_from c.args.kind all c.args.start c.args.lead c.args.len c.len-end.result c.requires.lead c.requires.within c.len-end.ensures)
    c.in_ok-push.ensures.ok
