use Rattle.wt_page_laws.proofs.Widths.{takes_most}
use Rattle.wt_page_laws.proofs.styles.delimiters_take_most.Goals as goal

pub returns : goal.returns
returns c = takes_most c.args.chunks.now
