use Rattle.std.proofs.Common.{List, ◌++◌, ◌+◌, ◌-◌, length, take, drop, refl, ap, sym, ◌∙◌}
use Rattle.wt_tree.specs.declared.node.Node.{out-Node}
use Rattle.wt_tree.specs.View.{views}
use Rattle.wt_checks.specs.View.{indexed}
use Rattle.wt_slices.specs.ListSlices.{item_slices, removed_before}
use Rattle.wt_slices.specs.Steps.{Step}
use Rattle.wt_splice.specs.Views.{changes_view}
use Rattle.wt_slices.specs.Views.{steps_view}
use Rattle.wt_slices.proofs.ListWalk.{list_made, nodes_turn, rest_is, some_there}
use Rattle.wt_slices.specs.Views.{child_views}
use Rattle.wt_slices.proofs.list.push_list.Goals as goal

pub returns : goal.returns
returns c = λ same tells.
    let old = c.args.old.now in
    let new = c.args.new.now in
    let page = indexed c.args.index.now in
    let place = c.first_start-place.result in
    let n = c.in-Some.first.now in
    let behind = take (length old - c.place_of.result) (drop c.place_of.result old) in
    let left = take (length new - c.first_kept.result) (drop c.first_kept.result new) in
    let cs = changes_view c.args.found.now.items in
    let es = changes_view c.push_all_new_before.new.found.items in
    list_made same page c.args.sign place (out-Node n).id (child_views old) (views new) (views left) (child_views behind) (views (drop (0 + 1) left)) n cs
    (changes_view c.push_removed_before.new.found.items) es (changes_view c.push_items.new.found.items)
    (c.first_kept.ensures.behind ∙ sym (ap views (rest_is new c.first_kept.result)))
    (nodes_turn left 0 n (some_there (length left) c.in-Some.ensures.item.0) c.in-Some.ensures.item.1)
    refl
    (ap child_views (rest_is old c.place_of.result) ∙ c.place_of.ensures.behind)
    c.first_start-place.ensures
    (c.in_ok-push_removed_before.ensures ∙ ap (λ r. cs ++ removed_before r place) c.first_removed.ensures)
    (c.in_ok-push_all_new_before.ensures same tells)
    (c.in_ok-push_items.ensures same tells
    ∙ ap (λ (ss : List Step). es ++ item_slices same page c.args.sign place ss) (ap steps_view c.as_slice.ensures.value ∙ c.in_ok-steps.ensures))
