use Rattle.std.proofs.Common.{◌≡◌}
use Rattle.std.specs.Vec.Iter.{into_iter_items}
use Rattle.wt_html_grammar.specs.Events.{append}
use Rattle.wt_html_elements.specs.Built.{views}
use Rattle.wt_schema.specs.Sections.{all_bared}
use Rattle.wt_html_in.proofs.sections.+baring.Given as goal

abbrev pub invariant-all_bared-loop-content : goal.invariant-all_bared-loop-content
invariant-all_bared-loop-content l = append (views l.all.items) (all_bared (views (into_iter_items l.content-iterator)))
    ≡ all_bared (views (into_iter_items l.initial.content-iterator))
