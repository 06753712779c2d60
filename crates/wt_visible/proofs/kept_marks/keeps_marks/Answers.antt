use Rattle.std.proofs.Common.{ap, ◌∙◌}
use Rattle.wt_checks.specs.View.{all_seen, indexed}
use Rattle.wt_visible.specs.KeptMarks.{KeepsEach}
use Rattle.wt_visible.proofs.Decided.{of_page}
use Rattle.wt_visible.proofs.MarksAlone.{marks_alone}
use Rattle.wt_visible.proofs.kept_marks.keeps_marks.Goals as goal

pub returns : goal.returns
returns c =
    marks_alone c.in_ok-kept.kept _ _ _ _
    (of_page KeepsEach c.in_ok-kept.kept (indexed c.args.index.now) _ (all_seen c.as_slice.result.now) _ (all_seen c.as_slice-2.result.now) _
    (all_seen c.as_slice-3.result.now) _ c.requires.index (ap all_seen c.as_slice.ensures.value ∙ c.in_ok-old.ensures)
    (ap all_seen c.as_slice-2.ensures.value ∙ c.in_ok-edited.ensures) (ap all_seen c.as_slice-3.ensures.value ∙ c.in_ok-new.ensures) c.in_ok-kept.ensures)
