use Rattle.std.proofs.Common.{◌≡◌, ◌∷◌, [], false, reverse, rules, sym, ap, subst, ◌∙◌}
use Rattle.std.specs.Vec.Iter.{into_iter_items}
use Rattle.wt_tree.specs.View.{view, views}
use Rattle.wt_recut.specs.Recutting.{appended, leads_of, parts_view}
use Rattle.wt_recut.specs.Recut.{cut_from}
use Rattle.wt_recut.proofs.Recuts.{IsCutting, cutting_more, some_flags, no_items, appended_none}
use Rattle.wt_recut.proofs.recut.cut_all.Goals as goal

pub pop_flag-leads-requires : goal.pop_flag-leads-requires
pop_flag-leads-requires c =
    let s : into_iter_items c.loop-node.node-iterator ≡ c.in-Some.node ∷ into_iter_items c.next.new.self = search rules in
    some_flags (view c.in-Some.node) (views (into_iter_items c.next.new.self)) c.loop-node.flags.items
    (c.loop-node.invariant.flags_are ∙ ap (λ x. reverse (leads_of (views x))) s)

pub loop-node-preserved : goal.loop-node-preserved
loop-node-preserved c =
    let s : into_iter_items c.loop-node.node-iterator ≡ c.in-Some.node ∷ into_iter_items c.next.new.self = search rules in
    cutting_more (views (into_iter_items c.into_iter-node-iterator.result)) c.loop-node.behind c.loop-node.done.items
    c.push_parts.new.nodes.items c.in-Some.node (views (into_iter_items c.next.new.self))
    (parts_view c.in_ok-parts.parts) c.loop-node.flags.items c.pop_flag-leads.new.flags.items c.pop_flag-leads.result c.is_behind-now.result
    (subst (λ x. IsCutting (views (into_iter_items c.into_iter-node-iterator.result)) c.loop-node.behind
    (views c.loop-node.done.items) (views x) c.loop-node.flags.items) s c.loop-node.invariant)
    c.pop_flag-leads.ensures c.in_ok-parts.ensures c.is_behind-now.ensures c.in_ok-push_parts.ensures

pub returns : goal.returns
returns c =
    let s : into_iter_items c.loop-node.node-iterator ≡ [] = no_items _ (sym c.loop-node.node-iterator.rest.ok.0 ∙ c.in-None.ensures.steps.0) in
    let b : into_iter_items c.into_iter-node-iterator.result ≡ c.args.nodes.items = search rules in
    sym (appended_none (views c.loop-node.done.items))
    ∙ ap (λ x. appended (views c.loop-node.done.items) (cut_from c.loop-node.behind (views x))) (sym s) ∙ c.loop-node.invariant.cut
    ∙ ap (λ x. cut_from false (views x)) b
