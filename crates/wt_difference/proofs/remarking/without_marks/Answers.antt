use Rattle.std.proofs.Common.{sym, ◌∙◌}
use Rattle.wt_tree.specs.View.{view}
use Rattle.wt_difference.proofs.Remarks.{bare_stays}
use Rattle.wt_difference.proofs.remarking.without_marks.Goals as goal

pub returns-then-not-has_mark : goal.returns-then-not-has_mark
returns-then-not-has_mark c = sym (bare_stays (view c.args.node) (sym c.has_mark.ensures ∙ c.if-not-has_mark.true))
