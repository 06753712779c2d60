use Rattle.std.proofs.Common.{◌∷◌, ◌++◌, ap, sym, ◌∙◌}
use Rattle.wt_checks.specs.View.{indexed}
use Rattle.wt_slices.specs.ListSlices.{item_slices}
use Rattle.wt_splice.specs.Views.{changes_view}
use Rattle.wt_slices.specs.Views.{step_view}
use Rattle.wt_slices.proofs.ListWalk.{goes_step, kept_step, comes_step}
use Rattle.wt_slices.proofs.list.push_step.Goals as goal

pub returns-in-Stays : goal.returns-in-Stays
returns-in-Stays c = λ same tells ss.
    ap (λ st. changes_view c.args.found.now.items ++ item_slices same (indexed c.args.index.now) c.args.sign c.args.at (step_view st ∷ ss)) (sym c.in-Stays.is)

pub returns-in_ok-push_removed-in-Goes : goal.returns-in_ok-push_removed-in-Goes
returns-in_ok-push_removed-in-Goes c = λ same tells ss.
    goes_step same (indexed c.args.index.now) c.args.sign c.args.at c.end_of-end.result c.in-Goes.old.now (changes_view c.args.found.now.items)
    (changes_view c.push_removed.new.found.items) ss c.end_of-end.ensures c.in_ok-push_removed-in-Goes.ensures
    ∙ ap (λ st. changes_view c.args.found.now.items ++ item_slices same (indexed c.args.index.now) c.args.sign c.args.at (step_view st ∷ ss)) (sym c.in-Goes.is)

pub returns-in_ok-push_insides-in-Kept : goal.returns-in_ok-push_insides-in-Kept
returns-in_ok-push_insides-in-Kept c = λ same tells ss.
    kept_step same (indexed c.args.index.now) c.args.sign c.args.at c.end_of.result c.in-Kept.old.now c.in-Kept.new.now (changes_view c.args.found.now.items)
    (changes_view c.push_insides.new.found.items) ss c.end_of.ensures (c.in_ok-push_insides-in-Kept.ensures same tells)
    ∙ ap (λ st. changes_view c.args.found.now.items ++ item_slices same (indexed c.args.index.now) c.args.sign c.args.at (step_view st ∷ ss)) (sym c.in-Kept.is)

pub returns-in_ok-push_new-in-Comes : goal.returns-in_ok-push_new-in-Comes
returns-in_ok-push_new-in-Comes c = λ same tells ss.
    comes_step same (indexed c.args.index.now) c.args.sign c.args.at c.in-Comes.new.now (changes_view c.args.found.now.items)
    (changes_view c.push_new.new.found.items) ss (c.in_ok-push_new-in-Comes.ensures same tells)
    ∙ ap (λ st. changes_view c.args.found.now.items ++ item_slices same (indexed c.args.index.now) c.args.sign c.args.at (step_view st ∷ ss)) (sym c.in-Comes.is)
