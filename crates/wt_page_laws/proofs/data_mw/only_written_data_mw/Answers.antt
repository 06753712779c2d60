use Rattle.wt_page_laws.proofs.MwAccepted.{mw_accepts}
use Rattle.wt_page_laws.proofs.data_mw.only_written_data_mw.Goals as goal

pub returns : goal.returns
returns c = mw_accepts
