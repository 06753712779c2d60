use Rattle.wt_tables.proofs.Cutting.{low_border}
use Rattle.wt_tables.proofs.cursor.cut_len.Goals as goal

pub returns-clause-border : goal.returns-clause-border
returns-clause-border c = low_border c.args.text.now c.args.n c.utf8.text c.requires.some c.requires.within c.requires.low
