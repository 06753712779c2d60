use Rattle.wt_program.proofs.SentPages.{page_html}
use Rattle.wt_program.proofs.sent_html.edits_have_their_html.Goals as goal

pub returns : goal.returns
returns c = page_html
