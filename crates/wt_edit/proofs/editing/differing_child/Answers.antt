use Rattle.std.proofs.Common.{ap, ◌∙◌}
use Rattle.wt_tree.specs.Tree.{label}
use Rattle.wt_tree.specs.View.{view}
use Rattle.wt_edit.proofs.editing.differing_child.Goals as goal

pub first_differing-requires-clause-body : goal.first_differing-requires-clause-body
first_differing-requires-clause-body c =
    ap (λ t. (label t).kind) (ap view c.body-tree.ensures.body) ∙ c.requires.body
