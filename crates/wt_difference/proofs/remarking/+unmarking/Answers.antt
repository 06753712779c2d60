use Rattle.std.proofs.Common.{◌≡◌, rules, [], ◌∷◌, refl, sym, ap, ◌∙◌}
use Rattle.std.specs.Vec.Iter.{into_iter_items}
use Rattle.wt_tree.specs.View.{views}
use Rattle.wt_recut.proofs.Recuts.{no_items}
use Rattle.wt_checks.specs.WithoutMarks.{unmarked, all_unmarked}
use Rattle.wt_difference.proofs.Remarks.{made_on, made_end}
use Rattle.wt_difference.proofs.remarking.+unmarking.Goals as goal

pub all_unmarked-loop-node-preserved : goal.all_unmarked-loop-node-preserved
all_unmarked-loop-node-preserved t c =
    let s : into_iter_items c.loop-node.node-iterator ≡ c.in-Some.node ∷ into_iter_items c.next.new.self = search rules in
    made_on unmarked all_unmarked (λ u us. refl) c.loop-node.out.items c.push.new.self.items c.in-Some.node c.in_ok-node.node
    (into_iter_items c.loop-node.node-iterator) (into_iter_items c.next.new.self) _ s c.in_ok-push.ensures.items c.in_ok-node.ensures c.loop-node.invariant

pub all_unmarked-returns : goal.all_unmarked-returns
all_unmarked-returns t c =
    let s : into_iter_items c.loop-node.node-iterator ≡ [] = no_items _ (sym c.loop-node.node-iterator.rest.ok.0 ∙ c.in-None.ensures.steps.0) in
    let b : into_iter_items c.into_iter-node-iterator.result ≡ c.into_vec-node-items.result.items = search rules in
    ap views c.from_vec.ensures
    ∙ made_end all_unmarked refl c.loop-node.out.items (into_iter_items c.loop-node.node-iterator) _ s c.loop-node.invariant
    ∙ ap (λ xs. all_unmarked (views xs)) (b ∙ c.into_vec-node-items.ensures)
