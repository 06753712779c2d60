use Rattle.wt_page_laws.proofs.TightBody.{tight_meaning}
use Rattle.wt_page_laws.proofs.pages.separators_stand_between.Goals as goal

pub returns : goal.returns
returns c = tight_meaning
