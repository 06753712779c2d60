use Rattle.std.proofs.Common.{ap, refl, sym, ◌∙◌}
use Rattle.std.proofs.lemmas.List.{drop_all}
use Rattle.wt_selser.specs.Edits.{first_of, tangled_pair}
use Rattle.wt_slices.specs.Views.{pairs_of}
use Rattle.wt_selser.specs.Borders.{page_text}
use Rattle.wt_selser.proofs.GroupBorders.{pair_borders}
use Rattle.wt_selser.proofs.Answering.{found_here, found_later}
use Rattle.wt_selser.proofs.editing.first_tangled.Goals as goal

pub loop-pair-init : goal.loop-pair-init
loop-pair-init c = (refl, c.start-passes.ensures c.args.items.now c.args.page.now)

pub returns-in-Some : goal.returns-in-Some
returns-in-Some c =
    found_here (tangled_pair c.args.items.now c.args.page.now) c.args.pairs.now c.loop-pair.pair-index c.pair-item.result c.in_ok-found.found c.in-Some.refusal
    c.loop-pair.invariant.0 c.loop-pair-test.true c.pair-item.is c.in_ok-found.ensures.value c.in-Some.is

pub loop-pair-preserved : goal.loop-pair-preserved
loop-pair-preserved c = (
  found_later (tangled_pair c.args.items.now c.args.page.now) c.args.pairs.now c.loop-pair.pair-index c.pair-item.result c.in_ok-found.found
      c.loop-pair.invariant.0 c.loop-pair-test.true c.pair-item.is c.in_ok-found.ensures.value c.in_default.is,
  c.in_ok-found.ensures.passes,
)

pub returns : goal.returns
returns c =
    sym (c.loop-pair.invariant.0
    ∙ ap (λ ps. first_of (tangled_pair c.args.items.now c.args.page.now) (pairs_of ps)) (drop_all c.loop-pair.pair-index c.args.pairs.now c.loop-pair-test.false))

pub tangled_pair-requires-clause-borders : goal.tangled_pair-requires-clause-borders
tangled_pair-requires-clause-borders c =
    pair_borders (page_text c.args.items.now) c.args.pairs.now c.loop-pair.pair-index c.pair-item.result c.requires c.loop-pair-test.true c.pair-item.is
