use Rattle.std.proofs.Common.{ap, ◌∙◌}
use Rattle.std.proofs.lemmas.Result.{IfOk-weaker}
use Rattle.wt_blocks.specs.Nesting.{nested, lists}
use Rattle.wt_blocks.specs.Slices.{lines_from}
use Rattle.wt_blocks.proofs.Nests.{from_the_first}
use Rattle.wt_blocks.proofs.nest.nest_lists.Goals as goal

pub returns : goal.returns
unfolding nested
returns c = IfOk-weaker c.lists_at.result _ _
    (λ l e. e ∙ ap (λ ps. lists 32 (lines_from 0 0 ps)) c.as_slice.ensures ∙ ap (lists 32) (from_the_first 0 c.args.prefixes.now))
    c.lists_at.ensures
