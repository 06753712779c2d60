use Rattle.wt_names.proofs.Words.{holds_is}
use Rattle.std.proofs.lemmas.Str.Pattern.{contains_text}
use Rattle.wt_names.proofs.good.holds.Goals as goal

pub returns : goal.returns
returns c = holds_is c.contains.result c.args.word.now c.args.text.now
    (contains_text c.contains.result c.args.word.now c.args.text.now c.contains.ensures.cases)
