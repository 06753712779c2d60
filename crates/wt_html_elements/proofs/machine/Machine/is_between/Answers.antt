use Rattle.wt_html_elements.proofs.Runs.{between_doctype}
use Rattle.wt_html_elements.proofs.machine.Machine.is_between.Goals as goal

pub returns-in-Doctype : goal.returns-in-Doctype
returns-in-Doctype c = λ x. between_doctype c.args.self.now x c.doctype.result.now c.in-Nothing.is c.in-Doctype.is c.doctype.ensures
