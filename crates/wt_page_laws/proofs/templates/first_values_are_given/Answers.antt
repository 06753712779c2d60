use Rattle.wt_page_laws.proofs.PlainTemplates.{first_page}
use Rattle.wt_page_laws.proofs.templates.first_values_are_given.Goals as goal

pub returns : goal.returns
returns c = first_page
