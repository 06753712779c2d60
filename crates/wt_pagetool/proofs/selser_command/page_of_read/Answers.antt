use Rattle.wt_tree.specs.View.{view}
use Rattle.wt_pagetool.proofs.SelserFound.{read_found, unread_found}
use Rattle.wt_pagetool.proofs.selser_command.page_of_read.Goals as goal

pub returns-in_err-edited-clause-answered : goal.returns-in_err-edited-clause-answered
returns-in_err-edited-clause-answered g c = λ pages bytes told fed.
    unread_found pages c.args.page.now c.in_err-edited.field-0.0 bytes c.from_residual.result (c.in_err-edited.ensures.answers bytes fed)
    c.from_residual.ensures.1

pub returns-clause-answered : goal.returns-clause-answered
returns-clause-answered g c = λ pages bytes told fed.
    read_found pages c.args.page.now c.in_ok-edited.edited (view c.into_body-body.result) bytes c.page_to.result
    (c.in_ok-edited.ensures.answers bytes fed) c.into_body-body.ensures (c.page_to.ensures.answered pages told)
