use Rattle.wt_page_laws.proofs.SyncAccepted.{sync_accepts}
use Rattle.wt_page_laws.proofs.data_mw.only_written_data_parsoid.Goals as goal

pub returns : goal.returns
returns c = sync_accepts
