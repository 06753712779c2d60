use Rattle.std.proofs.Common.{◌≡◌, rules, [], ◌∷◌, sym, ap, ◌∙◌}
use Rattle.std.specs.Vec.Iter.{into_iter_items}
use Rattle.wt_html_elements.specs.Built.{views}
use Rattle.wt_schema.specs.Sections.{all_bared}
use Rattle.wt_html_in.proofs.Walking.{no_items}
use Rattle.wt_html_in.proofs.Bared.{bared_on, bared_end}
use Rattle.wt_html_in.proofs.sections.+baring.Goals as goal

pub all_bared-loop-content-preserved : goal.all_bared-loop-content-preserved
all_bared-loop-content-preserved t c =
    let s : into_iter_items c.loop-content.content-iterator ≡ c.in-Some.content ∷ into_iter_items c.next.new.self = search rules in
    bared_on c.loop-content.all.items c.push.new.self.items c.in-Some.content c.in_ok-content.content
    (into_iter_items c.loop-content.content-iterator) (into_iter_items c.next.new.self) _
    c.in_ok-push.ensures.items s c.in_ok-content.ensures c.loop-content.invariant

pub all_bared-returns : goal.all_bared-returns
all_bared-returns t c =
    let s : into_iter_items c.loop-content.content-iterator ≡ [] = no_items _ (sym c.loop-content.content-iterator.rest.ok.0 ∙ c.in-None.ensures.steps.0) in
    let b : into_iter_items c.into_iter-content-iterator.result ≡ c.args.contents.items = search rules in
    bared_end c.loop-content.all.items (into_iter_items c.loop-content.content-iterator) _ s c.loop-content.invariant
    ∙ ap (λ xs. all_bared (views xs)) b
