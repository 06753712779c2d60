use Rattle.std.proofs.Common.{◌≡◌, ◌++◌}
use Rattle.std.specs.Prelude.{filter}
use Rattle.std.specs.Vec.Iter.{into_iter_items}
use Rattle.wt_html_elements.specs.Built.{pairs}
use Rattle.wt_schema.specs.Sections.{is_mark_pair}
use Rattle.wt_html_in.proofs.sections.marks_in.Given as goal

abbrev pub invariant-loop-attribute : goal.invariant-loop-attribute
invariant-loop-attribute l = pairs l.marks.items ++ filter is_mark_pair (pairs (into_iter_items l.attribute-iterator))
    ≡ filter is_mark_pair (pairs (into_iter_items l.initial.attribute-iterator))
