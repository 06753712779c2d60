use Rattle.std.proofs.Common.{ap, ◌∙◌, subst, List, ℕ}
use Rattle.std.specs.Prelude.{Result}
use Rattle.wt_tree.specs.View.{view}
use Rattle.wt_checks.specs.View.{indexed}
use Rattle.wt_selser.specs.declared.refusal.EditRefusal.{EditRefusal}
use Rattle.wt_selser.specs.Edits.{AnswersEdit}
use Rattle.wt_selser.proofs.Answering.{checked_answer, unchecked_answer}
use Rattle.wt_selser.proofs.editing.edit.Goals as goal

pub returns-in-Some : goal.returns-in-Some
returns-in-Some c = λ same tells.
    checked_answer same c.args.items.now c.args.page.now (view c.args.tree.now) (view c.args.edited.now) c.in_ok-refused.refused c.in-Some.refusal c.in_ok-refused.ensures
    c.in-Some.is

pub checked_edit-requires-clause-index : goal.checked_edit-requires-clause-index
checked_edit-requires-clause-index c = ap indexed c.as_slice.ensures.value ∙ c.in_ok-index.ensures.same

pub returns : goal.returns
returns c = λ same tells.
    subst (λ (a : Result (List ℕ) EditRefusal). AnswersEdit a c.checked_edit.result)
    (unchecked_answer same c.args.items.now c.args.page.now (view c.args.tree.now) (view c.args.edited.now) c.in_ok-refused.refused c.in_ok-refused.ensures
    c.in_default.is) (c.checked_edit.ensures same tells)
