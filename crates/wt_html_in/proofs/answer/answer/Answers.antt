use Rattle.wt_html_elements.specs.Built.{view_content}
use Rattle.wt_html_in.proofs.Reading.{page_answer, misfit_answer}
use Rattle.wt_html_in.proofs.answer.answer.Goals as goal

pub returns-in-Ok : goal.returns-in-Ok
returns-in-Ok c = page_answer (view_content c.args.root) c.in-Ok.edited c.in-Ok.ensures

pub returns-in-Err-Unfit : goal.returns-in-Err-Unfit
returns-in-Err-Unfit c = misfit_answer (view_content c.args.root) c.in-Err-Unfit.element c.in-Err-Unfit.why
    (rw c.in-Err-Unfit.field-0-is at c.in-Err-Unfit.ensures)
