use Rattle.wt_annotated.specs.Pieces.{outer_calls}
use Rattle.wt_ranges.proofs.Groupings.{inside_fits}
use Rattle.wt_ranges.proofs.grouping.open_child.Goals as goal

pub children-requires : goal.children-requires
children-requires c = inside_fits (outer_calls c.args.calls.now) c.args.child c.in_ok-ranges.field-0 c.requires c.in_ok-ranges.ensures
