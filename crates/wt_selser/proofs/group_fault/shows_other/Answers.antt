use Rattle.std.proofs.Common.{◌≡◌, [], ap, refl, ◌∙◌}
use Rattle.wt_span.specs.Items.{items}
use Rattle.wt_tree.specs.Plain.{ended, plains_before}
use Rattle.wt_tree.specs.View.{views}
use Rattle.wt_tree.specs.declared.node.Node.{out-Node}
use Rattle.wt_checks.specs.View.{indexed}
use Rattle.wt_visible.specs.Children.{listed}
use Rattle.wt_selser.specs.GroupFaults.{one_paragraph, shown_alone}
use Rattle.wt_visible.specs.Restored.{all_restored}
use Rattle.wt_visible.specs.Views.{children_view}
use Rattle.wt_selser.proofs.GroupFaultLaws.{other_told}
use Rattle.wt_visible.proofs.RestoredShown.{all_restored_none, decided_of}
use Rattle.wt_selser.proofs.group_fault.shows_other.Goals as goal

pub returns : goal.returns
returns c =
    let ys = one_paragraph (views (out-Node c.args.group.now).children) in
    let shown : children_view c.as_slice-2.result.now ≡ shown_alone (items c.args.pieces.now) =
    ap children_view c.as_slice-2.ensures.value ∙ c.in_ok-shown.ensures
    ∙ ap (λ ns. listed (plains_before (all_restored (indexed []) (views ns)) ended)) c.as_slice.ensures
    ∙ ap (λ ts. listed (plains_before ts ended)) (all_restored_none (views c.in_ok-nodes.nodes))
    ∙ ap (λ ts. listed (plains_before ts ended)) c.in_ok-nodes.ensures in
    other_told c.in_ok-one.one (shown_alone (items c.args.pieces.now)) ys
    (decided_of (children_view c.as_slice-2.result.now) ys (shown_alone (items c.args.pieces.now)) ys c.in_ok-one.one shown refl c.in_ok-one.ensures)
