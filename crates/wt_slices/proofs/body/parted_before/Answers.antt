use Rattle.std.proofs.Common.{◌∷◌, ap, sym, ◌∙◌}
use Rattle.wt_tree.specs.View.{view}
use Rattle.wt_slices.specs.BodySlices.{is_parted}
use Rattle.wt_slices.specs.Views.{step_view}
use Rattle.wt_slices.proofs.BodyWalk.{parted_by}
use Rattle.wt_slices.proofs.body.parted_before.Goals as goal

pub returns-in-Stays : goal.returns-in-Stays
returns-in-Stays c =
    parted_by (view c.in-Stays.node.now) c.args.behind c.args.step c.parts_with.result (λ ss. ap (λ s. is_parted (step_view s ∷ ss)) c.in-Stays.is) c.parts_with.ensures

pub returns-in-Goes : goal.returns-in-Goes
returns-in-Goes c =
    parted_by (view c.in-Goes.node.now) c.args.behind c.args.step c.parts_with-in-Goes.result (λ ss. ap (λ s. is_parted (step_view s ∷ ss)) c.in-Goes.is) c.parts_with-in-Goes.ensures

pub returns-in-Kept : goal.returns-in-Kept
returns-in-Kept c =
    parted_by (view c.in-Kept.node.now) c.args.behind c.args.step c.parts_with-in-Kept.result (λ ss. ap (λ s. is_parted (step_view s ∷ ss)) c.in-Kept.is) c.parts_with-in-Kept.ensures

pub returns-in-Comes : goal.returns-in-Comes
returns-in-Comes c = λ ss e. e ∙ ap (λ s. is_parted (step_view s ∷ ss)) (sym c.in-Comes.is)
