use Rattle.std.proofs.Common.{◌≡◌, ◌+◌, ◌++◌, drop}
use Rattle.wt_lint.specs.declared.finding.Kind.TheVariants as kind
use Rattle.wt_lint.specs.Found.{each, as_all}
use Rattle.wt_lint.specs.Texts.{table_ends}
use Rattle.wt_lint.proofs.text.push_table_ends.Given as goal

abbrev pub invariant-loop-at : goal.invariant-loop-at
invariant-loop-at l =
    each l.found.items ++ as_all kind.StrayTableEnd (table_ends l.page l.from (l.start + l.at) (drop l.at l.bytes))
    ≡ each l.fn.found.items ++ as_all kind.StrayTableEnd (table_ends l.page l.from l.start l.bytes)
