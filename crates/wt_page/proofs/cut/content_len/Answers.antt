use Rattle.std.proofs.Common.{◌<◌, length, arith, sym}
use Rattle.wt_page.proofs.Ends.{ends_by_break, ends_by_all}
use Rattle.wt_page.proofs.cut.content_len.Goals as goal

pub returns-then-is_break-clause-content : goal.returns-then-is_break-clause-content
returns-then-is_break-clause-content c =
    let s : 0 < length c.args.pieces.now = omega arith in
    (ends_by_break c.args.pieces.now c.index-pieces-n.result c.requires s c.index-pieces-n.is (sym c.if-is_break.ensures)).0

pub returns-then-is_break-clause-ending : goal.returns-then-is_break-clause-ending
returns-then-is_break-clause-ending c =
    let s : 0 < length c.args.pieces.now = omega arith in
    (ends_by_break c.args.pieces.now c.index-pieces-n.result c.requires s c.index-pieces-n.is (sym c.if-is_break.ensures)).1

pub returns-else-is_break-clause-content : goal.returns-else-is_break-clause-content
returns-else-is_break-clause-content c =
    let s : 0 < length c.args.pieces.now = omega arith in
    (ends_by_all c.args.pieces.now c.index-pieces-n.result c.requires s c.index-pieces-n.is (sym c.if-is_break.ensures)).0

pub returns-else-is_break-clause-ending : goal.returns-else-is_break-clause-ending
returns-else-is_break-clause-ending c =
    let s : 0 < length c.args.pieces.now = omega arith in
    (ends_by_all c.args.pieces.now c.index-pieces-n.result c.requires s c.index-pieces-n.is (sym c.if-is_break.ensures)).1
