-- Paragraphs of texts beside calls may be written anew.
use Rattle.wt_called_edit_laws.proofs.Written.NewContents.{content_in, written_anew}
use Rattle.wt_called_edit_laws.proofs.paragraphs_beside_calls_may_be_written_anew.Goals as goal

pub returns-clause-content : goal.returns-clause-content
returns-clause-content c = content_in

pub returns-clause-anew : goal.returns-clause-anew
returns-clause-anew c = written_anew
