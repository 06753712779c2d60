use Rattle.std.proofs.Common.{◌++◌, ◌∷◌, [], ap, ◌∙◌}
use Rattle.std.proofs.lemmas.List.{map-append}
use Rattle.wt_visible.specs.declared.children.Child.TheVariants as child
use Rattle.wt_visible.specs.Views.{child_view, children_view, node_view}
use Rattle.wt_visible.proofs.ShownChildren.{element_added}
use Rattle.wt_visible.proofs.children.push_element.Goals as goal

pub returns : goal.returns
returns c =
    let s = c.args.element in
    element_added c.args.shown.now (record { done = c.push.new.self; text = c.end_text.new.shown.text }) s
    (ap children_view c.in_ok-push.ensures.items ∙ map-append child_view c.end_text.new.shown.done.items (child.Element s ∷ [])
    ∙ ap (λ ps. ps ++ node_view s ∷ []) c.in_ok-end_text.ensures.children) c.in_ok-end_text.ensures.text
