use Rattle.wt_inside_laws.proofs.as_sent.text_edits_are_sent_on_the_page.Goals as goal
use Rattle.wt_inside_laws.proofs.PageAlike.{text_edit_sent}

pub returns : goal.returns
returns c = text_edit_sent
