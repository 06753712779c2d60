use Rattle.std.specs.Vec.Iter.{into_iter_items}
use Rattle.wt_inline.specs.Grown.{growth}
use Rattle.wt_page.specs.Stretches.{stretches_parts}
use Rattle.wt_rows.specs.Views.{stretches_view, IsRest}
use Rattle.wt_rows.proofs.stretch.with_stretches.Given as goal

abbrev pub invariant-loop-stretch : goal.invariant-loop-stretch
invariant-loop-stretch l =
    IsRest (growth l.initial.children) (stretches_parts (stretches_view l.pieces (into_iter_items l.initial.stretch-iterator)))
    (growth l.children) (stretches_parts (stretches_view l.pieces (into_iter_items l.stretch-iterator)))
