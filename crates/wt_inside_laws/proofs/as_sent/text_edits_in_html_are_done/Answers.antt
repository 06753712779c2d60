use Rattle.wt_inside_laws.proofs.HtmlEdits.{html_edit_done}
use Rattle.wt_inside_laws.proofs.as_sent.text_edits_in_html_are_done.Goals as goal

pub returns : goal.returns
returns c = html_edit_done
