use Rattle.wt_page_laws.proofs.Cutting.{by_sides, by_width}
use Rattle.wt_page_laws.proofs.lexemes.lexemes_begin_where_others_end.Goals as goal

pub returns-clause-sides : goal.returns-clause-sides
returns-clause-sides c = by_sides

pub returns-clause-width : goal.returns-clause-width
returns-clause-width c = by_width
