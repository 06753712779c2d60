use Rattle.std.proofs.Common.{refl}
use Rattle.wt_transclusion.proofs.CursorLaws.{start_lexeme, start_call}
use Rattle.wt_transclusion.proofs.cursor.Cursor.start.Goals as goal

pub returns-clause-at : goal.returns-clause-at
returns-clause-at c = λ mode bytes text h. record { at_is = refl; lexeme_is = start_lexeme mode bytes text h; call_is = start_call text }
