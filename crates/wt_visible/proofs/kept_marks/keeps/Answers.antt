use Rattle.std.proofs.Common.{map, ◌∙◌}
use Rattle.wt_visible.specs.Tally.{trimmed, StandAmong}
use Rattle.wt_visible.proofs.Decided.{of_texts}
use Rattle.wt_visible.proofs.kept_marks.keeps.Goals as goal

pub returns : goal.returns
returns c =
    of_texts (λ xs ys. StandAmong (map trimmed xs) (map trimmed ys)) c.in_ok-among.among c.as_slice.result.now c.as_slice-2.result.now _ _
    (c.as_slice.ensures.value ∙ c.in_ok-kept.ensures) (c.as_slice-2.ensures.value ∙ c.in_ok-there.ensures) c.in_ok-among.ensures
