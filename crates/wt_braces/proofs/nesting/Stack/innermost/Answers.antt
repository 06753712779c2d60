use Rattle.std.proofs.Common.{◌∙◌, sym, arith}
use Rattle.wt_braces.proofs.Settled.{few_first}
use Rattle.wt_braces.proofs.nesting.Stack.innermost.Goals as goal

pub overflow_add-result : goal.overflow_add-result
overflow_add-result c = omega (arith, few_first c.args.self.now c.in-Some.first c.requires.few (sym c.first.ensures ∙ c.in-Some.is))

pub overflow_cast-result : goal.overflow_cast-result
overflow_cast-result c = omega (arith, few_first c.args.self.now c.in-Some.first c.requires.few (sym c.first.ensures ∙ c.in-Some.is))
