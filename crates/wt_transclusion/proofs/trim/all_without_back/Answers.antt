use Rattle.std.proofs.Common.{◌≡◌, ◌+◌, ◌-◌, arith}
use Rattle.std.proofs.lemmas.Result.{IfOk-weaker}
use Rattle.wt_span.specs.Items.{is_char_in, items}
use Rattle.wt_expand.specs.Texts.{is_space}
use Rattle.wt_transclusion.specs.Ends.{without_back}
use Rattle.wt_transclusion.proofs.TrimmedPieces.{back_on, back_found}
use Rattle.wt_transclusion.proofs.trim.all_without_back.Goals as goal

pub loop-end-preserved : goal.loop-end-preserved
loop-end-preserved c =
    let l = c.loop-end in
    let z : l.end ≡ (l.end - 1) + 1 = omega (arith, c.loop-end-test.true) in
    record {
      within = omega (arith, l.invariant.within);
      rest = back_on c.args.pieces.now l.end (l.end - 1) c.index-pieces-end.result (without_back (is_char_in is_space) (items c.args.pieces.now)) z
          (omega (arith, c.loop-end-test.true, l.invariant.within)) c.index-pieces-end.is c.in_default.ensures l.invariant.rest;
    }

pub returns-in-Some : goal.returns-in-Some
returns-in-Some c =
    let l = c.loop-end in
    let z : l.end ≡ (l.end - 1) + 1 = omega (arith, c.loop-end-test.true) in
    IfOk-weaker c.with_last.result _ _ (λ ps is. back_found c.args.pieces.now c.front_of.result.now ps l.end
    (l.end - 1) c.index-pieces-end.result c.in-Some.last (without_back (is_char_in is_space) (items c.args.pieces.now)) z
    (omega (arith, c.loop-end-test.true, l.invariant.within)) c.index-pieces-end.is c.in-Some.ensures c.front_of.ensures is l.invariant.rest
    ) c.with_last.ensures
