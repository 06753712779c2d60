use Rattle.std.proofs.Common.{ap, ◌++◌, arith}
use Rattle.std.proofs.lemmas.Grind.{common_steps}
use Rattle.std.proofs.lemmas.Str.{IsCharBoundary-start}
use Rattle.wt_splice.specs.Splice.{spliced_from}
use Rattle.wt_splice.specs.Views.{changes_view}
use Rattle.wt_splice.proofs.Splicing.{spliced_turn, at_borders}
use Rattle.wt_splice.proofs.splice.spliced.Goals as goal

pub push_between-requires-clause-to : goal.push_between-requires-clause-to
push_between-requires-clause-to c =
    (at_borders c.args.page.now c.args.changes.now c.loop-change.change-index c.change-item.result c.loop-change-test.true c.change-item.is c.requires).0

pub loop-change-init : goal.loop-change-init
loop-change-init c =
    let rest = spliced_from c.args.page.now 0 (changes_view c.args.changes.now) in
    record { made = ap (λ bs. bs ++ rest) c.new-out.ensures; border = IsCharBoundary-start c.args.page.now c.utf8.page }

pub loop-change-preserved : goal.loop-change-preserved
loop-change-preserved c =
    let page = c.args.page.now in
    let cs = c.args.changes.now in
    let i = c.loop-change.change-index in
    let change = c.change-item.result in
    let t = spliced_turn page c.loop-change.at cs i change c.loop-change-test.true c.change-item.is in
    record {
      made = grind (arith, common_steps, t, c.loop-change.invariant.made);
      border = (at_borders page cs i change c.loop-change-test.true c.change-item.is c.requires).1;
    }
