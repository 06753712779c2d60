-- Children of a node that is kept, as they are walked over.
use Rattle.std.specs.Prelude.{ℕ, Option, List, map}
use Rattle.wt_span.specs.Origins.{OuterCall}
use Rattle.wt_inline.specs.ItemTree.{ItemTree, forest}
use Rattle.wt_inline.specs.View.{item_tree}
use Rattle.wt_runs.specs.declared.child.Child.{Child}
use Rattle.wt_annotated.specs.GroupData.{group_data}
use Rattle.wt_annotated.specs.Walked.{Near, walked, near}

abbrev pub near_of : List OuterCall → Child → Near
near_of calls c = record {
  tree = item_tree c.tree;
  before = c.before;
  after = c.after;
  byte = c.byte;
  free = c.free;
  clean = c.clean;
  whole = walked calls (group_data calls) c.before c.byte c.after (item_tree c.tree);
}

abbrev pub nears_of : List OuterCall → List Child → List Near
nears_of calls cs = map (near_of calls) cs

-- the children of a node from its first item on
abbrev pub children_at : List OuterCall → Option ℕ → ℕ → Option ℕ → List ItemTree → List Near
children_at calls o at p ts = near calls (group_data calls) o at p (forest ts)
