use Rattle.wt_page_laws.proofs.OneAnswer.{stays_ill}
use Rattle.wt_page_laws.proofs.html_elements.ill_input_stays_ill.Goals as goal

pub returns : goal.returns
returns c = stays_ill
