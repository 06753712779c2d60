use Rattle.std.proofs.Common.{ap, ◌∙◌}
use Rattle.std.specs.Prelude.{option_map}
use Rattle.wt_checks.specs.View.{indexed, seen}
use Rattle.wt_splice.specs.Views.{changes_view}
use Rattle.wt_slices.proofs.BodyWalk.{list_child, other_child}
use Rattle.wt_checks.specs.Marks.{is_children}
use Rattle.wt_slices.proofs.body.push_child.Goals as goal

pub returns-then-is_children : goal.returns-then-is_children
returns-then-is_children c = λ same tells.
    list_child same (indexed c.args.index.now) c.args.node.now c.is_children.result (option_map seen c.original-old.result) c.as_slice.result.now
    (changes_view c.args.found.now.items) (changes_view c.push_list_at.new.found.items) (c.is_children.ensures ∙ ap is_children c.mark.ensures) c.if-is_children.true
    c.original-old.ensures c.as_slice.ensures (c.in_ok-push_list_at.ensures same tells)

pub returns : goal.returns
returns c = λ same tells.
    other_child same (indexed c.args.index.now) c.args.node.now c.is_children.result (changes_view c.args.found.now.items)
    (changes_view c.push_insides.new.found.items) (c.is_children.ensures ∙ ap is_children c.mark.ensures) c.if-is_children.false (c.in_ok-push_insides.ensures same tells)
