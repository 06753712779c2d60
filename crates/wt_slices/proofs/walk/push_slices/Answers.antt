use Rattle.std.proofs.Common.{ap, ◌∙◌}
use Rattle.wt_checks.specs.View.{indexed}
use Rattle.wt_splice.specs.Views.{changes_view}
use Rattle.wt_slices.specs.Views.{steps_view}
use Rattle.wt_slices.proofs.BodyWalk.{changed_body, kept_body}
use Rattle.wt_slices.specs.Views.{child_views}
use Rattle.wt_checks.specs.Marks.{is_children}
use Rattle.wt_slices.proofs.walk.push_slices.Goals as goal

pub returns-then-not-is_children : goal.returns-then-not-is_children
returns-then-not-is_children c = λ same tells.
    kept_body same (indexed c.args.index.now) (child_views c.args.old.now) c.args.edited.now c.is_children.result c.as_slice-new.result.now
    (changes_view c.args.found.now.items) (changes_view c.push_children.new.found.items) (c.is_children.ensures ∙ ap is_children c.mark.ensures) c.if-not-is_children.true
    c.as_slice-new.ensures (c.in_ok-push_children.ensures same tells)

pub returns : goal.returns
returns c = λ same tells.
    changed_body same (indexed c.args.index.now) (child_views c.args.old.now) c.args.edited.now c.is_children.result c.as_slice-new.result.now
    (steps_view c.as_slice.result.now) (changes_view c.args.found.now.items) (changes_view c.push_body.new.found.items) (c.is_children.ensures ∙ ap is_children c.mark.ensures)
    c.if-not-is_children.false c.as_slice-new.ensures (ap steps_view c.as_slice.ensures.value ∙ c.in_ok-steps.ensures)
    (c.in_ok-push_body.ensures same tells)
