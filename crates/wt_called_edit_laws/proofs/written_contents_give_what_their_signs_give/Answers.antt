use Rattle.wt_called_edit_laws.proofs.Written.Reads.{called_firm, called_alone}
use Rattle.wt_called_edit_laws.proofs.Written.Signs.{content_written}
use Rattle.wt_called_edit_laws.proofs.written_contents_give_what_their_signs_give.Goals as goal

pub returns-clause-gives : goal.returns-clause-gives
returns-clause-gives c = content_written

pub returns-clause-firm : goal.returns-clause-firm
returns-clause-firm c = called_firm

pub returns-clause-alone : goal.returns-clause-alone
returns-clause-alone c = called_alone
