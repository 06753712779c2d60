use Rattle.std.specs.Prelude.{codes}
use Rattle.std.proofs.lemmas.Str.Pattern.{contains_text}
use Rattle.wt_names.proofs.Words.{holds_is}
use Rattle.wt_original.proofs.kept.holds_slashes.Goals as goal

pub returns : goal.returns
returns c = holds_is c.contains.result (codes "//") c.args.text.now (contains_text c.contains.result (codes "//") c.args.text.now c.contains.ensures.cases)
