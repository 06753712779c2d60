use Rattle.std.proofs.Common.{arith}
use Rattle.wt_rows.proofs.KindSigns.{some_behind, none_behind}
use Rattle.wt_rows.proofs.rows.lead_len.Goals as goal

pub returns-then-n-content-clause-seen : goal.returns-then-n-content-clause-seen
returns-then-n-content-clause-seen c =
    some_behind c.args.content.now c.index-content-n.result c.marks_len-n.result c.if-n-content.true c.index-content-n.is c.marks_len-n.ensures.cut
    c.see_first.ensures

pub returns-else-n-content-clause-seen : goal.returns-else-n-content-clause-seen
returns-else-n-content-clause-seen c = none_behind c.args.content.now c.marks_len-n.result (omega arith) c.marks_len-n.ensures.cut
