use Rattle.std.proofs.Common.{◌≡◌}
use Rattle.std.specs.Vec.Iter.{into_iter_items}
use Rattle.wt_html_grammar.specs.Events.{append}
use Rattle.wt_html_elements.specs.Built.{views}
use Rattle.wt_schema.specs.Fit.{elements_in}
use Rattle.wt_html_in.proofs.frame.elements_in.Given as goal

abbrev pub invariant-loop-content : goal.invariant-loop-content
invariant-loop-content l = append (views l.elements.items) (elements_in (views (into_iter_items l.content-iterator)))
    ≡ elements_in (views (into_iter_items l.initial.content-iterator))
