use Rattle.std.proofs.Common.{ap, sym, ◌∙◌}
use Rattle.std.proofs.lemmas.List.{drop_all}
use Rattle.wt_selser.specs.Edits.{first_of, bad_pair}
use Rattle.wt_slices.specs.Views.{pairs_of}
use Rattle.wt_selser.proofs.Answering.{found_here, found_later}
use Rattle.wt_selser.proofs.editing.first_bad.Goals as goal

pub returns-in-Some : goal.returns-in-Some
returns-in-Some c = λ same tells.
    found_here (bad_pair same) c.args.pairs.now c.loop-pair.pair-index c.pair-item.result c.in_ok-found.found c.in-Some.refusal
    (c.loop-pair.invariant same tells) c.loop-pair-test.true c.pair-item.is (c.in_ok-found.ensures same tells) c.in-Some.is

pub loop-pair-preserved : goal.loop-pair-preserved
loop-pair-preserved c = λ same tells.
    found_later (bad_pair same) c.args.pairs.now c.loop-pair.pair-index c.pair-item.result c.in_ok-found.found
    (c.loop-pair.invariant same tells) c.loop-pair-test.true c.pair-item.is (c.in_ok-found.ensures same tells) c.in_default.is

pub returns : goal.returns
returns c = λ same tells.
    sym (c.loop-pair.invariant same tells
    ∙ ap (λ ps. first_of (bad_pair same) (pairs_of ps)) (drop_all c.loop-pair.pair-index c.args.pairs.now c.loop-pair-test.false))
