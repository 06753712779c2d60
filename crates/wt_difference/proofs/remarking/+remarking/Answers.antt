use Rattle.std.proofs.Common.{◌≡◌, rules, List, [], ◌∷◌, refl, sym, ap, ◌∙◌}
use Rattle.std.specs.Vec.Iter.{into_iter_items}
use Rattle.wt_tree.specs.View.{views}
use Rattle.wt_recut.proofs.Recuts.{no_items}
use Rattle.wt_checks.specs.View.{indexed}
use Rattle.wt_tree.specs.declared.node.Node.{Node}
use Rattle.wt_difference.specs.Remarked.{are_left, remarked_child, all_remarked}
use Rattle.wt_difference.proofs.Remarks.{made_on, made_end, left_remarked}
use Rattle.wt_difference.proofs.remarking.+remarking.Goals as goal

pub all_remarked-loop-node-preserved : goal.all_remarked-loop-node-preserved
all_remarked-loop-node-preserved t c =
    let s : into_iter_items c.loop-node.node-iterator ≡ c.in-Some.node ∷ into_iter_items c.next.new.self = search rules in
    made_on (remarked_child (indexed c.args.index.now) c.args.holder) (all_remarked (indexed c.args.index.now) c.args.holder) (λ u us. refl)
    c.loop-node.out.items c.push.new.self.items c.in-Some.node c.in_ok-node.node
    (into_iter_items c.loop-node.node-iterator) (into_iter_items c.next.new.self) _ s c.in_ok-push.ensures.items c.in_ok-node.ensures c.loop-node.invariant

pub all_remarked-returns : goal.all_remarked-returns
all_remarked-returns t c =
    let s : into_iter_items c.loop-node.node-iterator ≡ [] = no_items _ (sym c.loop-node.node-iterator.rest.ok.0 ∙ c.in-None.ensures.steps.0) in
    let b : into_iter_items c.into_iter-node-iterator.result ≡ c.into_vec-node-items.result.items = search rules in
    ap views c.from_vec.ensures
    ∙ made_end (all_remarked (indexed c.args.index.now) c.args.holder) refl c.loop-node.out.items (into_iter_items c.loop-node.node-iterator) _ s c.loop-node.invariant
    ∙ ap (λ xs. all_remarked (indexed c.args.index.now) c.args.holder (views xs)) (b ∙ c.into_vec-node-items.ensures)

pub all_remarked-returns-then-are_left : goal.all_remarked-returns-then-are_left
all_remarked-returns-then-are_left t c =
    sym (left_remarked (indexed c.args.index.now) c.args.holder (views c.args.nodes)
    (ap (λ (ns : List Node). are_left (views ns)) (sym c.as_slice.ensures) ∙ sym c.are_left.ensures ∙ c.if-are_left.true))
