use Rattle.std.proofs.Common.{ap, ◌∙◌, subst}
use Rattle.wt_tree.specs.View.{view}
use Rattle.wt_checks.specs.Places.{Page}
use Rattle.wt_checks.specs.View.{indexed}
use Rattle.wt_visible.specs.Children.{IsFirstDiffering, shown_children}
use Rattle.wt_visible.specs.Restored.{restored}
use Rattle.wt_selser.proofs.differing.first_differing.Goals as goal

pub returns : goal.returns
returns c =
    subst (λ (page : Page). IsFirstDiffering (shown_children (view c.args.new.now)) (shown_children (restored page (view c.args.edited.now))) c.in_ok-found.found)
    (ap indexed c.as_slice.ensures.value ∙ c.in_ok-index.ensures.same) c.in_ok-found.ensures
