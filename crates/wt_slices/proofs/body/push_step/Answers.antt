use Rattle.std.proofs.Common.{◌++◌, ap, sym, ◌∙◌, drop}
use Rattle.wt_checks.specs.View.{indexed}
use Rattle.wt_slices.specs.BodySlices.{step_slices}
use Rattle.wt_splice.specs.Views.{changes_view}
use Rattle.wt_slices.specs.Views.{step_view, steps_view}
use Rattle.wt_slices.proofs.BodyWalk.{comes_slices, goes_slices, nothing_pushed}
use Rattle.wt_slices.proofs.body.push_step.Goals as goal

pub returns-in-Stays : goal.returns-in-Stays
returns-in-Stays c = λ same tells.
    nothing_pushed (changes_view c.args.found.now.items)
    ∙ ap (λ s. changes_view c.args.found.now.items ++ step_slices same (indexed c.args.index.now) c.args.front (step_view s) (steps_view (drop c.args.rest.from c.args.rest.steps.now)))
    (sym c.in-Stays.is)

pub returns-in_ok-push_removed-in-Goes : goal.returns-in_ok-push_removed-in-Goes
returns-in_ok-push_removed-in-Goes c = λ same tells.
    goes_slices same (indexed c.args.index.now) c.args.front c.in-Goes.node.now (steps_view (drop c.args.rest.from c.args.rest.steps.now)) c.is_parted.result
    c.parts-parted.result (changes_view c.args.found.now.items) (changes_view c.push_removed.new.found.items) c.is_parted.ensures c.parts-parted.ensures
    c.in_ok-push_removed-in-Goes.ensures
    ∙ ap (λ s. changes_view c.args.found.now.items ++ step_slices same (indexed c.args.index.now) c.args.front (step_view s) (steps_view (drop c.args.rest.from c.args.rest.steps.now)))
    (sym c.in-Goes.is)

pub returns-in_ok-push_child-in-Kept : goal.returns-in_ok-push_child-in-Kept
returns-in_ok-push_child-in-Kept c = λ same tells.
    c.in_ok-push_child-in-Kept.ensures same tells
    ∙ ap (λ s. changes_view c.args.found.now.items ++ step_slices same (indexed c.args.index.now) c.args.front (step_view s) (steps_view (drop c.args.rest.from c.args.rest.steps.now)))
    (sym c.in-Kept.is)

pub returns-in_ok-push_new-in-Comes : goal.returns-in_ok-push_new-in-Comes
returns-in_ok-push_new-in-Comes c = λ same tells.
    comes_slices same (indexed c.args.index.now) c.args.front c.in-Comes.node.now (steps_view (drop c.args.rest.from c.args.rest.steps.now))
    c.in_ok-tail-in-Comes.tail.now (changes_view c.args.found.now.items) (changes_view c.push_new.new.found.items) c.in_ok-tail-in-Comes.ensures
    (c.in_ok-push_new-in-Comes.ensures same tells)
    ∙ ap (λ s. changes_view c.args.found.now.items ++ step_slices same (indexed c.args.index.now) c.args.front (step_view s) (steps_view (drop c.args.rest.from c.args.rest.steps.now)))
    (sym c.in-Comes.is)
