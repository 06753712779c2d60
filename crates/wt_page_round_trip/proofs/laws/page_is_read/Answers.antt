use Rattle.wt_page_round_trip.proofs.Pages.{page_written, page_is_read, same_page}
use Rattle.wt_page_round_trip.proofs.laws.page_is_read.Goals as goal

pub returns : goal.returns
returns c = record { written = page_written; read = page_is_read; source = same_page }
