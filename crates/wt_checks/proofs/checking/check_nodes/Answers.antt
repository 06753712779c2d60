use Rattle.std.proofs.Common.{ap, ◌∙◌, List}
use Rattle.wt_tree.specs.View.{view}
use Rattle.wt_checks.specs.Checked.{nodes_refused, nodes_checked}
use Rattle.wt_checks.specs.Places.{Place, Page, page_of}
use Rattle.wt_checks.specs.View.{all_seen, indexed}
use Rattle.wt_checks.proofs.checking.check_nodes.Goals as goal

pub returns : goal.returns
unfolding nodes_checked
returns c =
    c.in_ok-refusal.ensures ∙ ap (λ (page : Page). nodes_refused page (all_seen c.as_slice-2.result.now))
    (ap indexed c.as_slice.ensures.value ∙ c.in_ok-index.ensures.same)
    ∙ ap (λ (ps : List Place). nodes_refused (page_of (view c.args.page.now)) ps) (ap all_seen c.as_slice-2.ensures.value ∙ c.in_ok-edited.ensures)
