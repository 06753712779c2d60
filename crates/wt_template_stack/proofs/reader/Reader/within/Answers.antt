use Rattle.std.proofs.Common.{refl}
use Rattle.wt_template_stack.proofs.reader.Reader.within.Goals as goal

pub returns-clause-reading : goal.returns-clause-reading
returns-clause-reading c = λ mode bytes p s h before.
    let x = c.seek-reader.ensures.reading mode bytes p s h before in
    record { read = x.read; at = record { at_is = x.at.at_is; lexeme_is = x.at.lexeme_is; call_is = x.at.call_is }; starts = refl }
