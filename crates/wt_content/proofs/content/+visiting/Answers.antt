use Rattle.std.proofs.Common.{arith, List, ◌++◌, sym, ap, ◌∙◌, subst}
use Rattle.wt_tree.specs.declared.edit_shape.EditShape.{EditShape}
use Rattle.wt_original.specs.PageViews.{page_view}
use Rattle.wt_content.specs.declared.reason.ContentWhy.{ContentWhy}
use Rattle.wt_content.specs.Views.{HasFaults}
use Rattle.wt_content.proofs.Faulting.{closed_visit, open_visit, next_visit, all_visited}
use Rattle.wt_content.proofs.content.+visiting.Goals as goal

pub visit-returns-else-is_open : goal.visit-returns-else-is_open
visit-returns-else-is_open t c = λ same tells ws h.
    let w = c.edit_shape-inline.result.inline in
    let nested = subst (λ (vs : List ContentWhy). HasFaults c.add_any.new.self (ws ++ vs)) c.nested_fault.ensures (c.add_any.ensures ws h) in
    closed_visit c.args.node.now w (page_view same c.args.page.now) c.args.around c.in_ok-standing.standing c.in_ok-why.why c.add_any-2.new.self ws
    (ap (λ (r : EditShape). r.inline) (sym c.edit_shape-inline.ensures)) (c.in_ok-standing.ensures same tells) c.in_ok-why.ensures
    (sym c.is_open.ensures ∙ c.if-is_open.false) (c.add_any-2.ensures _ nested)

pub visit-returns-in_ok-visit_all : goal.visit-returns-in_ok-visit_all
visit-returns-in_ok-visit_all t c = λ same tells ws h.
    let w = c.edit_shape-inline.result.inline in
    let nested = subst (λ (vs : List ContentWhy). HasFaults c.add_any.new.self (ws ++ vs)) c.nested_fault.ensures (c.add_any.ensures ws h) in
    open_visit c.args.node.now w (page_view same c.args.page.now) c.args.around c.below.result c.in_ok-standing.standing c.in_ok-why.why c.visit_all.new.found ws
    c.as_slice.result.now c.below.ensures c.as_slice.ensures (ap (λ (r : EditShape). r.inline) (sym c.edit_shape-inline.ensures)) (c.in_ok-standing.ensures same tells)
    c.in_ok-why.ensures (sym c.is_open.ensures ∙ c.if-is_open.true) (c.in_ok-visit_all.ensures same tells _ (c.add_any-2.ensures _ nested))

pub visit_all-loop-node-preserved : goal.visit_all-loop-node-preserved
visit_all-loop-node-preserved t c = λ same tells ws h.
    next_visit (page_view same c.args.page.now) c.args.around c.visit.new.found ws c.args.nodes.now c.loop-node.node-index c.node-item.result
    (omega arith) c.node-item.is (c.in_ok-visit.ensures same tells _ (c.loop-node.invariant same tells ws h))

pub visit_all-returns : goal.visit_all-returns
visit_all-returns t c = λ same tells ws h.
    all_visited (page_view same c.args.page.now) c.args.around c.loop-node.found ws c.args.nodes.now c.loop-node.node-index
    (omega arith) (c.loop-node.invariant same tells ws h)
