use Rattle.std.proofs.Common.{ap, ◌∙◌}
use Rattle.wt_inline.specs.View.{item_tree}
use Rattle.wt_edit.proofs.known.annotated_of_items.Goals as goal

pub group-requires-clause-meant : goal.group-requires-clause-meant
group-requires-clause-meant c = ap item_tree c.into_body.ensures ∙ c.in_ok-meaning.ensures
