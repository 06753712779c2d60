use Rattle.wt_commands.proofs.AskedLaws.{edit_alone, edit_whole, page_alone, unanswered_work, unread_work}
use Rattle.wt_commands.proofs.laws.refused_calls_ask_no_further.Goals as goal

pub returns-clause-title : goal.returns-clause-title
returns-clause-title c = unanswered_work

pub returns-clause-input : goal.returns-clause-input
returns-clause-input c = unread_work

pub returns-clause-page : goal.returns-clause-page
returns-clause-page c = page_alone

pub returns-clause-edit : goal.returns-clause-edit
returns-clause-edit c = edit_alone

pub returns-clause-done : goal.returns-clause-done
returns-clause-done c = edit_whole
