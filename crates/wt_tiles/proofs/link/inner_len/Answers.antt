use Rattle.std.proofs.Common.{sym, ap, ◌∙◌}
use Rattle.wt_tiles.specs.Tables.{balances}
use Rattle.wt_tiles.proofs.Balances.{balances_within}
use Rattle.wt_tiles.proofs.link.inner_len.Goals as goal

pub overflow_sub-result : goal.overflow_sub-result
overflow_sub-result c = balances_within c.args.rest.now c.in-Some.left (ap balances c.requires.end ∙ sym c.in_ok-left-in-Media.ensures.value ∙ c.in-Some.is)
