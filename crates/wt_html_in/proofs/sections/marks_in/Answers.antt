use Rattle.std.proofs.Common.{◌≡◌, rules, [], ◌∷◌, sym, ap, ◌∙◌}
use Rattle.std.specs.Prelude.{filter}
use Rattle.std.specs.Vec.Iter.{into_iter_items}
use Rattle.wt_html_elements.specs.Built.{pairs}
use Rattle.wt_schema.specs.Sections.{is_mark_pair}
use Rattle.wt_html_in.proofs.Walking.{no_items}
use Rattle.wt_html_in.proofs.Bared.{mark_on, mark_off, marks_end}
use Rattle.wt_html_in.proofs.sections.marks_in.Goals as goal

pub loop-attribute-preserved-in-Continue-1 : goal.loop-attribute-preserved-in-Continue-1
loop-attribute-preserved-in-Continue-1 c =
    let s : into_iter_items c.loop-attribute.attribute-iterator ≡ c.in-Some.attribute ∷ into_iter_items c.next.new.self = search rules in
    mark_on c.loop-attribute.marks.items c.push.new.self.items c.in-Some.attribute
    (into_iter_items c.loop-attribute.attribute-iterator) (into_iter_items c.next.new.self) _
    c.in_ok-push.ensures.items s (sym c.is_mark.ensures ∙ c.if-is_mark.true) c.loop-attribute.invariant

pub loop-attribute-preserved : goal.loop-attribute-preserved
loop-attribute-preserved c =
    let s : into_iter_items c.loop-attribute.attribute-iterator ≡ c.in-Some.attribute ∷ into_iter_items c.next.new.self = search rules in
    mark_off c.loop-attribute.marks.items c.in-Some.attribute
    (into_iter_items c.loop-attribute.attribute-iterator) (into_iter_items c.next.new.self) _
    s (sym c.is_mark.ensures ∙ c.if-is_mark.false) c.loop-attribute.invariant

pub returns : goal.returns
returns c =
    let s : into_iter_items c.loop-attribute.attribute-iterator ≡ [] = no_items _ (sym c.loop-attribute.attribute-iterator.rest.ok.0 ∙ c.in-None.ensures.steps.0) in
    let b : into_iter_items c.into_iter-attribute-iterator.result ≡ c.args.attributes.items = search rules in
    marks_end c.loop-attribute.marks.items (into_iter_items c.loop-attribute.attribute-iterator) _ s c.loop-attribute.invariant
    ∙ ap (λ xs. filter is_mark_pair (pairs xs)) b
