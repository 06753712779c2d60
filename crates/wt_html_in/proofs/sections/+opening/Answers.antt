use Rattle.std.proofs.Common.{◌≡◌, rules, [], ◌∷◌, sym, ap, ◌∙◌}
use Rattle.std.specs.Vec.Iter.{into_iter_items}
use Rattle.wt_tree.specs.Opened.{opened}
use Rattle.wt_recut.specs.Recutting.{appended}
use Rattle.wt_tree.specs.View.{views}
use Rattle.wt_html_in.proofs.Walking.{no_items}
use Rattle.wt_html_in.proofs.Opened.{opened_node, opened_on, opened_end}
use Rattle.wt_html_in.proofs.sections.+opening.Goals as goal

pub push_opened-returns : goal.push_opened-returns
push_opened-returns t c =
    opened_node c.args.out.now.items c.push.new.self.items c.args.node c.is_section.result c.in_ok-push.ensures.items c.is_section.ensures
    c.if-is_section.false

pub push_all_opened-loop-node-preserved : goal.push_all_opened-loop-node-preserved
push_all_opened-loop-node-preserved t c =
    let s : into_iter_items c.loop-node.node-iterator ≡ c.in-Some.node ∷ into_iter_items c.next.new.self = search rules in
    opened_on c.loop-node.out.items c.push_opened.new.out.items c.in-Some.node
    (into_iter_items c.loop-node.node-iterator) (into_iter_items c.next.new.self) _
    s c.in_ok-push_opened.ensures c.loop-node.invariant

pub push_all_opened-returns : goal.push_all_opened-returns
push_all_opened-returns t c =
    let s : into_iter_items c.loop-node.node-iterator ≡ [] = no_items _ (sym c.loop-node.node-iterator.rest.ok.0 ∙ c.in-None.ensures.steps.0) in
    let b : into_iter_items c.into_iter-node-iterator.result ≡ c.into_vec-node-items.result.items = search rules in
    opened_end c.loop-node.out.items (into_iter_items c.loop-node.node-iterator) _ s c.loop-node.invariant
    ∙ ap (λ xs. appended (views c.args.out.now.items) (opened (views xs))) (b ∙ c.into_vec-node-items.ensures)
