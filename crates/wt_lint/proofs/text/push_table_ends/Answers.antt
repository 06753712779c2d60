use Rattle.std.proofs.Common.{ap, ◌∙◌, ◌+◌, ◌++◌}
use Rattle.wt_lint.specs.Found.{as_all, each}
use Rattle.wt_lint.specs.Texts.{end_at}
use Rattle.wt_lint.proofs.TextTurns.{ends_turn}
use Rattle.wt_lint.specs.declared.finding.Kind.TheVariants as kind
use Rattle.wt_lint.proofs.text.push_table_ends.Goals as goal

pub loop-at-preserved : goal.loop-at-preserved
loop-at-preserved c =
    ends_turn c.args.page.now c.args.from c.args.start c.args.bytes.now c.loop-at.at kind.StrayTableEnd (each c.loop-at.found.items)
    (each c.push_table_end.new.found.items) _ c.loop-at-test.true
    (c.in_ok-push_table_end.ensures
    ∙ ap (λ bs. each c.loop-at.found.items ++ as_all kind.StrayTableEnd (end_at c.args.page.now c.args.from (c.args.start + c.loop-at.at) bs)) c.rest_of.ensures)
    c.loop-at.invariant
