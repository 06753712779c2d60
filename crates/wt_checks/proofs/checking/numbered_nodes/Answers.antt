use Rattle.std.proofs.Common.{ap, ◌∙◌}
use Rattle.wt_tree.specs.View.{view}
use Rattle.wt_checks.specs.View.{indexed, index_list}
use Rattle.wt_checks.proofs.Lookups.{index_is}
use Rattle.wt_checks.proofs.Numbers.{in_preorder}
use Rattle.wt_checks.proofs.checking.numbered_nodes.Goals as goal

pub returns-clause-same : goal.returns-clause-same
returns-clause-same c =
    ap indexed (c.in_ok-index.ensures ∙ ap index_list c.as_slice.ensures.value)
    ∙ index_is (view c.args.page.now) c.in_ok-all.all.items c.requires.body (in_preorder (view c.args.page.now) c.requires.numbered) c.in_ok-all.ensures
