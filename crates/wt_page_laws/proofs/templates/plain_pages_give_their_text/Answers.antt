use Rattle.wt_page_laws.proofs.PlainTemplates.{plain_page}
use Rattle.wt_page_laws.proofs.templates.plain_pages_give_their_text.Goals as goal

pub returns : goal.returns
returns c = plain_page
