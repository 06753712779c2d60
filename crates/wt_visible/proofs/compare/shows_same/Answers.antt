use Rattle.std.proofs.Common.{[], ap, ◌∙◌}
use Rattle.wt_tree.specs.declared.node.Node.{out-Node}
use Rattle.wt_tree.specs.Plain.{ended, plains_before}
use Rattle.wt_tree.specs.View.{views}
use Rattle.wt_checks.specs.View.{indexed}
use Rattle.wt_visible.specs.Children.{listed}
use Rattle.wt_visible.specs.Restored.{all_restored}
use Rattle.wt_visible.specs.Views.{children_view, held_view}
use Rattle.wt_visible.proofs.RestoredShown.{all_restored_none, decided_of, listed_decided}
use Rattle.wt_visible.proofs.compare.shows_same.Goals as goal

pub returns : goal.returns
returns c =
    let ns = views (out-Node c.args.node.now).children in
    listed_decided (plains_before (held_view c.args.element) ended) (plains_before ns ended) c.in_ok-same.same
    (decided_of (children_view c.as_slice-2.result.now) (children_view c.as_slice-3.result.now) _ _ c.in_ok-same.same
    (ap children_view c.as_slice-2.ensures.value ∙ c.in_ok-left.ensures)
    (ap children_view c.as_slice-3.ensures.value ∙ c.in_ok-right.ensures
    ∙ ap (λ ms. listed (plains_before (all_restored (indexed []) (views ms)) ended)) c.as_slice.ensures
    ∙ ap (λ ts. listed (plains_before ts ended)) (all_restored_none ns))
    c.in_ok-same.ensures)
