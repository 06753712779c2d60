use Rattle.std.proofs.lemmas.Str.Pattern.{split_once_first}
use Rattle.wt_names.proofs.Cuts.{split_once_is}
use Rattle.wt_names.proofs.reading.split_once.Goals as goal

pub returns : goal.returns
returns c = split_once_is c.args.sign c.args.text.now c.split_once.result
    (split_once_first c.args.sign c.args.text.now c.split_once.result c.split_once.ensures.cases c.requires)
