use Rattle.wt_inline.proofs.Insides.{chars_border}
use Rattle.wt_inline.proofs.inside.front_len.Goals as goal

pub returns-clause-border : goal.returns-clause-border
returns-clause-border c = chars_border c.args.text.now c.as_bytes.result.now c.chars_len.result c.as_bytes.ensures.value
    c.chars_len.ensures.within c.chars_len.ensures.stopped
