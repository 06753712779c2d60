use Rattle.wt_inside_laws.proofs.BesideEdits.{calling_edit_done, html_beside_done}
use Rattle.wt_inside_laws.proofs.as_sent.text_edits_beside_calls_are_done.Goals as goal

pub returns-clause-tree : goal.returns-clause-tree
returns-clause-tree c = calling_edit_done

pub returns-clause-html : goal.returns-clause-html
returns-clause-html c = html_beside_done
