use Rattle.std.proofs.Common.{List, ◌++◌, false, drop, ap, ◌∙◌}
use Rattle.wt_tree.specs.declared.node.Node.{Node}
use Rattle.wt_tree.specs.Tree.{Trees}
use Rattle.wt_tree.specs.View.{view, views}
use Rattle.wt_checks.specs.View.{indexed}
use Rattle.wt_difference.specs.declared.insides.Child.{Child}
use Rattle.wt_difference.specs.Views.{child_views}
use Rattle.wt_places.specs.Places.{along, begun}
use Rattle.wt_places.proofs.Walking.{places_pushed}
use Rattle.wt_places.proofs.slots.+placing.Goals as goal

pub push_places-returns : goal.push_places-returns
push_places-returns t c =
    let page = indexed c.args.index.now in
    let old = view c.args.old.now in
    let pushed = c.push_inside_place.new.out.items in
    places_pushed page old c.args.new.now c.in_ok-children.children.items c.args.out.now.items pushed c.push_along.new.out.items
    c.in_ok-children.ensures c.in_ok-push_inside_place.ensures
    (c.in_ok-push_along.ensures
    ∙ ap (λ (x : List Child). pushed ++ along page old false (begun old) (child_views x) (views (drop c.inside_count.result c.as_slice-2.result.now)))
    c.as_slice.ensures.value
    ∙ ap (λ (ms : List Node). pushed ++ along page old false (begun old) (child_views c.in_ok-children.children.items) (views (drop c.inside_count.result ms)))
    c.as_slice-2.ensures
    ∙ ap (λ (x : Trees). pushed ++ along page old false (begun old) (child_views c.in_ok-children.children.items) x) c.inside_count.ensures.behind)
