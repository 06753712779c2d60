-- Marks count for nothing in what an edited tree shows.
use Rattle.std.proofs.Common.{◌≡◌, sym, ap, ◌∙◌}
use Rattle.wt_difference.specs.Remarked.{remarked}
use Rattle.wt_difference.proofs.Remarks.{marks_alone}
use Rattle.wt_visible.proofs.MarksShowNothing.{marks_unseen}
use Rattle.wt_visible.specs.Children.{shown_children}
use Rattle.wt_visible.specs.Restored.{restored_from}
use Rattle.wt_tree.specs.Tree.{Tree}

-- with the marks of the difference an edited tree shows what it shows with its own
pub remarked_shown : (t u : Tree) → shown_children (restored_from t (remarked t u)) ≡ shown_children (restored_from t u)
remarked_shown t u =
    marks_unseen t (remarked t u) ∙ ap (λ x. shown_children (restored_from t x)) (marks_alone t u) ∙ sym (marks_unseen t u)
