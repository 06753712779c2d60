use Rattle.std.proofs.Common.{◌≡◌, ◌∷◌, [], rules, sym, ap, ◌∙◌}
use Rattle.std.specs.Vec.Iter.{into_iter_items}
use Rattle.wt_tree.specs.Tree.{none}
use Rattle.wt_tree.specs.View.{views}
use Rattle.wt_recut.proofs.Recuts.{pushed_all, all_joined, no_items}
use Rattle.wt_recut.proofs.recut.joined_texts.Goals as goal

pub loop-node-preserved : goal.loop-node-preserved
loop-node-preserved c =
    let s : into_iter_items c.loop-node.node-iterator ≡ c.in-Some.node ∷ into_iter_items c.next.new.self = search rules in
    ap (λ x. pushed_all x (views (into_iter_items c.next.new.self))) c.in_ok-push_joined.ensures
    ∙ ap (λ x. pushed_all (views c.loop-node.joined.items) (views x)) (sym s) ∙ c.loop-node.invariant

pub returns : goal.returns
returns c =
    let s : into_iter_items c.loop-node.node-iterator ≡ [] = no_items _ (sym c.loop-node.node-iterator.rest.ok.0 ∙ c.in-None.ensures.steps.0) in
    let b : into_iter_items c.into_iter-node-iterator.result ≡ c.args.nodes.items = search rules in
    ap (λ x. pushed_all (views c.loop-node.joined.items) (views x)) (sym s) ∙ c.loop-node.invariant
    ∙ ap (λ x. pushed_all (views x) (views (into_iter_items c.into_iter-node-iterator.result))) c.in_ok-joined.ensures.items
    ∙ ap (λ x. pushed_all none (views x)) b ∙ all_joined (views c.args.nodes.items)
