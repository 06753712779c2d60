use Rattle.wt_tree.specs.View.{view}
use Rattle.wt_annotated.proofs.StandsCut.{before_first, two_first}
use Rattle.wt_annotated.proofs.stands_cut.found_first.Goals as goal

pub returns-in-len2-up : goal.returns-in-len2-up
returns-in-len2-up c =
    let r = c.found_before.result in
    two_first c.args.nodes.now c.first-item.result c.next-item.result c.args.behind r c.in-len2-up.len_at_least c.first-item.is c.next-item.is
    (λ ts. before_first c.args.behind (view c.first-item.result) (view c.next-item.result) ts r c.found_before.ensures)
