use Rattle.std.proofs.Common.{ap, ◌∙◌}
use Rattle.std.specs.List.{list_any}
use Rattle.std.proofs.lemmas.Result.{IfOk-weaker}
use Rattle.wt_isolation.specs.Toggles.{is_odd_line, lines}
use Rattle.wt_isolation.proofs.QuoteRuns.{odd_here, odd_last, odd_later}
use Rattle.wt_isolation.proofs.toggles.has_odd_line.Goals as goal

pub returns-then-odd : goal.returns-then-odd
returns-then-odd c =
    let before = c.loop-len.invariant in
    let is = c.in_ok-odd.ensures ∙ ap is_odd_line c.front_of.ensures in
    odd_here c.loop-len.left.now c.loop-len.len c.in_ok-odd.odd before.first c.loop-len-test.true is c.if-odd.true ∙ before.same

pub loop-len-preserved : goal.loop-len-preserved
loop-len-preserved c =
    let before = c.loop-len.invariant in
    let is = c.in_ok-odd.ensures ∙ ap is_odd_line c.front_of.ensures in
    record {
      first = c.line_len-len-in-loop-len.ensures.value;
      within = c.line_len-len-in-loop-len.ensures.within;
      same = ap (λ gs. list_any is_odd_line (lines gs)) c.rest_of-left.ensures
          ∙ odd_later c.loop-len.left.now c.loop-len.len c.in_ok-odd.odd before.first c.loop-len-test.true is c.if-odd.false ∙ before.same;
    }

pub returns : goal.returns
returns c =
    let before = c.loop-len.invariant in
    IfOk-weaker c.is_odd_line-2.result _ _
    (λ b e. odd_last c.loop-len.left.now c.loop-len.len b before.first c.loop-len-test.false e ∙ before.same) c.is_odd_line-2.ensures
