use Rattle.wt_page_laws.proofs.Counts.{counts_agree}
use Rattle.wt_page_laws.proofs.styles.toggles_are_counted_by_length.Goals as goal

pub returns : goal.returns
returns c = counts_agree c.args.chunks.now
