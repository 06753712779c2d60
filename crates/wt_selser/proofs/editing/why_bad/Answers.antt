use Rattle.std.proofs.Common.{◌≡◌, ap, ◌∙◌}
use Rattle.wt_tree.specs.View.{view}
use Rattle.wt_content.specs.Children.{bad_children}
use Rattle.wt_content.specs.Content.{bad_content}
use Rattle.wt_selser.specs.Edits.{why_bad}
use Rattle.wt_slices.specs.Views.{pair_of}
use Rattle.wt_selser.proofs.Answering.{why_children, why_content}
use Rattle.wt_slices.proofs.BodyWalk.{if_ok}
use Rattle.wt_checks.specs.Marks.{is_children}
use Rattle.wt_selser.proofs.editing.why_bad.Goals as goal

pub returns-then-is_children : goal.returns-then-is_children
returns-then-is_children c = λ same tells.
    if_ok c.bad_children.result (λ o. o ≡ bad_children same (view c.args.pair.new.now)) (λ o. o ≡ why_bad same (pair_of c.args.pair))
    (λ o is. why_children same c.args.pair c.is_children.result o (c.is_children.ensures ∙ ap is_children c.mark.ensures) c.if-is_children.true is) (c.bad_children.ensures same tells)

pub returns : goal.returns
returns c = λ same tells.
    if_ok c.bad_content.result (λ o. o ≡ bad_content same (view c.args.pair.old.now) (view c.args.pair.new.now)) (λ o. o ≡ why_bad same (pair_of c.args.pair))
    (λ o is. why_content same c.args.pair c.is_children.result o (c.is_children.ensures ∙ ap is_children c.mark.ensures) c.if-is_children.false is) (c.bad_content.ensures same tells)
