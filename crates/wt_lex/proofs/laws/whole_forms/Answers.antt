use Rattle.wt_lex.proofs.WholeWords.{form_whole}
use Rattle.wt_lex.proofs.laws.whole_forms.Goals as goal

pub returns : goal.returns
returns c = form_whole
