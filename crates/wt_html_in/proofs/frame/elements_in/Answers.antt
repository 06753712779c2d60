use Rattle.std.proofs.Common.{◌≡◌, rules, [], ◌∷◌, sym, ap, ◌∙◌}
use Rattle.std.specs.Vec.Iter.{into_iter_items}
use Rattle.wt_html_elements.specs.Built.{views}
use Rattle.wt_schema.specs.Fit.{elements_in}
use Rattle.wt_html_in.proofs.Walking.{no_items}
use Rattle.wt_html_in.proofs.Frames.{element_on, elements_end}
use Rattle.wt_html_in.proofs.frame.elements_in.Goals as goal

pub loop-content-preserved-in-Continue-1 : goal.loop-content-preserved-in-Continue-1
loop-content-preserved-in-Continue-1 c =
    let s : into_iter_items c.loop-content.content-iterator ≡ c.in-Some.content ∷ into_iter_items c.next.new.self = search rules in
    element_on c.loop-content.elements.items c.push.new.self.items c.in-Some.content
    (into_iter_items c.loop-content.content-iterator) (into_iter_items c.next.new.self) c.is_element.result _
    c.in_ok-push.ensures.items s c.is_element.ensures c.if-is_element.true c.loop-content.invariant

pub returns : goal.returns
returns c =
    let s : into_iter_items c.loop-content.content-iterator ≡ [] = no_items _ (sym c.loop-content.content-iterator.rest.ok.0 ∙ c.in-None.ensures.steps.0) in
    let b : into_iter_items c.into_iter-content-iterator.result ≡ c.args.contents.items = search rules in
    elements_end c.loop-content.elements.items (into_iter_items c.loop-content.content-iterator) _ s c.loop-content.invariant
    ∙ ap (λ xs. elements_in (views xs)) b
