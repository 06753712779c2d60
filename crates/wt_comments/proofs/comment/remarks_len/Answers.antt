use Rattle.std.proofs.Common.{◌<◌, ◌+◌, sym, ap, ◌∙◌, arith, length, length-drop}
use Rattle.wt_comments.specs.Views.{remark_len}
use Rattle.wt_comments.proofs.Remarks.{remarks_none, remarks_more}
use Rattle.wt_comments.proofs.comment.remarks_len.Goals as goal

pub returns-then-n-eq0-clause-value : goal.returns-then-n-eq0-clause-value
returns-then-n-eq0-clause-value c =
    let is = sym (ap remark_len c.rest_of.ensures) ∙ sym c.remark_len-n.ensures.value ∙ c.if-n-eq0.true in
    let none = remarks_none c.args.bytes.now c.loop-at.at (omega arith) is in
    omega arith

pub loop-at-preserved : goal.loop-at-preserved
loop-at-preserved c =
    let is = sym (ap remark_len c.rest_of.ensures) ∙ sym c.remark_len-n.ensures.value in
    let within : c.loop-at.at + c.remark_len-n.result < length c.args.bytes.now + 1 =
    omega (arith, ap length c.rest_of.ensures, length-drop c.loop-at.at c.args.bytes.now) in
    record {
      within = omega arith;
      rest = remarks_more c.args.bytes.now c.loop-at.at c.remark_len-n.result (omega arith)
          (omega arith) (omega arith) is ∙ c.loop-at.invariant.rest;
    }
