use Rattle.wt_lex.proofs.SignWidths.{word_widths}
use Rattle.wt_lex.proofs.laws.sign_widths.Goals as goal

pub returns : goal.returns
returns c = word_widths
