use Rattle.std.proofs.Common.{List, [], ◌++◌, ◌≡◌, ap, sym, ◌∙◌, append-nil}
use Rattle.wt_checks.specs.View.{indexed}
use Rattle.wt_slices.specs.ListSlices.{item_slices}
use Rattle.wt_slices.specs.Steps.{Step}
use Rattle.wt_splice.specs.Views.{changes_view}
use Rattle.wt_slices.proofs.ListWalk.{steps_end, steps_turn}
use Rattle.wt_slices.proofs.list.push_items.Goals as goal

pub loop-step-preserved : goal.loop-step-preserved
loop-step-preserved c = λ same tells.
    c.in_ok-at.ensures same tells _
    ∙ ap (λ (ss : List Step). changes_view c.loop-step.found.items ++ item_slices same (indexed c.args.index.now) c.args.sign c.loop-step.at ss)
    (sym (steps_turn c.args.steps.now c.loop-step.step-index c.step-item.result c.loop-step-test.true c.step-item.is))
    ∙ c.loop-step.invariant same tells

pub returns : goal.returns
returns c = λ same tells.
    let found = changes_view c.loop-step.found.items in
    let empty : found ++ [] ≡ found = simp append-nil in
    sym empty
    ∙ ap (λ (ss : List Step). found ++ item_slices same (indexed c.args.index.now) c.args.sign c.loop-step.at ss)
    (sym (steps_end c.args.steps.now c.loop-step.step-index c.loop-step-test.false))
    ∙ c.loop-step.invariant same tells
