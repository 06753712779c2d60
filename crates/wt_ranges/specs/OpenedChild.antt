-- A child that is kept, opened to walk over what it holds.
use Rattle.std.specs.Prelude.{◌≡◌, List}
use Rattle.wt_span.specs.Origins.{OuterCall}
use Rattle.wt_inline.specs.View.{item_trees}
use Rattle.wt_inline.specs.declared.tree.PieceTree.{out-PieceTree}
use Rattle.wt_runs.specs.declared.child.Child.{Child}
use Rattle.wt_ranges.specs.declared.grouping.Opened.{Opened}
use Rattle.wt_runs.specs.Children.{nears_of, children_at}
use Rattle.wt_ranges.specs.Kept.{IsFrame}
use Rattle.wt_runs.specs.RunTrees.{AreRunsOf}

-- its frame and head, and the runs of its children
pub record IsOpened (calls : List OuterCall) (c : Child) (o : Opened) : Type 0 where
  pub frame : IsFrame calls c o.frame
  pub head : o.head ≡ (out-PieceTree c.tree).head
  pub children : List Child
  pub runs : AreRunsOf o.runs children
  pub nears : nears_of calls children
      ≡ children_at calls o.frame.before o.frame.byte o.frame.after
      (item_trees (out-PieceTree c.tree).children)
