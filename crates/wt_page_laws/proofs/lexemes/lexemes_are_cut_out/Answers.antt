use Rattle.wt_page_laws.proofs.Cutting.{cut_out}
use Rattle.wt_page_laws.proofs.lexemes.lexemes_are_cut_out.Goals as goal

pub returns : goal.returns
returns c = cut_out
