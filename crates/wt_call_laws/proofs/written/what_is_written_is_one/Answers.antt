use Rattle.wt_call_laws.proofs.OneOutput.{one_page_written, one_source_written, one_edit_written}
use Rattle.wt_call_laws.proofs.written.what_is_written_is_one.Goals as goal

pub returns-clause-page : goal.returns-clause-page
returns-clause-page c = one_page_written

pub returns-clause-source : goal.returns-clause-source
returns-clause-source c = one_source_written

pub returns-clause-edit : goal.returns-clause-edit
returns-clause-edit c = one_edit_written
