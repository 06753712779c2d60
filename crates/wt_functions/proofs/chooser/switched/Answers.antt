use Rattle.std.proofs.Common.{sym, ◌∙◌, arith}
use Rattle.wt_functions.proofs.EqualParts.{IsFirst, equal_part_first}
use Rattle.wt_functions.proofs.chooser.switched.Goals as goal

pub value_from-value-requires-clause-some : goal.value_from-value-requires-clause-some
value_from-value-requires-clause-some c = (equal_part_first c.args.texts.now c.in-Some.part (sym c.requires.equal ∙ c.in-Some.is)).behind

pub value_from-value-requires-clause-there : goal.value_from-value-requires-clause-there
value_from-value-requires-clause-there c = let first : IsFirst _ c.args.texts.now c.in-Some.part = equal_part_first c.args.texts.now c.in-Some.part (sym c.requires.equal ∙ c.in-Some.is) in omega arith
