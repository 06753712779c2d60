use Rattle.std.proofs.Common.{ap, ◌∙◌}
use Rattle.wt_tree.specs.Plain.{ended, plains_before}
use Rattle.wt_tree.specs.View.{views}
use Rattle.wt_checks.specs.View.{indexed}
use Rattle.wt_visible.specs.Children.{listed}
use Rattle.wt_visible.specs.Restored.{all_restored}
use Rattle.wt_visible.proofs.children.held_by.Goals as goal

pub returns : goal.returns
returns c =
    c.in_ok-held.ensures ∙ ap (λ ns. listed (plains_before (all_restored (indexed c.args.element.page.now) (views ns)) ended)) c.as_slice.ensures
