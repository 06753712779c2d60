use Rattle.wt_tree.specs.View.{view}
use Rattle.wt_original.specs.Page.{restored}
use Rattle.wt_original.specs.PageViews.{kept_in, marks_of}
use Rattle.wt_original.proofs.Sames.{plains_decided}
use Rattle.wt_original.proofs.same.same_plain.Goals as goal

pub returns : goal.returns
returns c =
    plains_decided (restored (kept_in c.args.page.now) (view c.args.node.now)) (view c.args.old.now) (marks_of c.in_ok-left.left.items)
    (marks_of c.in_ok-right.right.items) c.same_marks-same.result c.in_ok-left.ensures c.in_ok-right.ensures
    (rw (c.as_slice-a.ensures.value, c.as_slice-b.ensures.value) at c.same_marks-same.ensures)
