-- How many nodes of a tree over items, and groups, have a number.
use Rattle.std.specs.Prelude.{ℕ, None, List}
use Rattle.wt_span.specs.Origins.{OuterCall}
use Rattle.wt_inline.specs.ItemTree.{ItemTree}
use Rattle.wt_annotated.specs.GroupData.{group_data}
use Rattle.wt_annotated.specs.Numbering.{count}
use Rattle.wt_annotated.specs.Walked.{walked}

abbrev pub numbers_needed : List OuterCall → ItemTree → ℕ
numbers_needed calls t = count (walked calls (group_data calls) None 0 None t)
