use Rattle.std.proofs.Common.{◌≡◌, map, ◌∙◌}
use Rattle.wt_visible.specs.Tally.{trimmed}
use Rattle.wt_visible.proofs.Decided.{of_texts}
use Rattle.wt_visible.proofs.kept_marks.keeps_in_order.Goals as goal

pub returns : goal.returns
returns c =
    of_texts (λ xs ys. map trimmed xs ≡ map trimmed ys) c.are_alike.result c.as_slice.result.now c.as_slice-2.result.now _ _
    (c.as_slice.ensures.value ∙ c.in_ok-kept.ensures) (c.as_slice-2.ensures.value ∙ c.in_ok-there.ensures) c.are_alike.ensures
