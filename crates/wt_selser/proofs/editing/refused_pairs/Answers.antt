use Rattle.wt_selser.specs.Edits.{first_of, bad_pair, tangled_pair}
use Rattle.wt_slices.specs.Views.{pairs_of}
use Rattle.wt_selser.proofs.Answering.{first_some, first_none}
use Rattle.wt_selser.proofs.editing.refused_pairs.Goals as goal

pub returns-in-Some : goal.returns-in-Some
returns-in-Some c = λ same tells.
    first_some (first_of (bad_pair same) (pairs_of c.args.pairs.now)) (first_of (tangled_pair c.args.items.now c.args.page.now) (pairs_of c.args.pairs.now))
    c.in_ok-bad.bad c.in-Some.refusal (c.in_ok-bad.ensures same tells) c.in-Some.is

pub returns : goal.returns
returns c = λ same tells.
    first_none (first_of (bad_pair same) (pairs_of c.args.pairs.now)) (first_of (tangled_pair c.args.items.now c.args.page.now) (pairs_of c.args.pairs.now))
    c.in_ok-bad.bad c.in_ok-tangled.tangled (c.in_ok-bad.ensures same tells) c.in_default.is c.in_ok-tangled.ensures
