use Rattle.wt_span.specs.Items.{items, items_of, call_of_origin}
use Rattle.wt_inline.specs.View.{item_trees}
use Rattle.wt_inline.proofs.Growing.{grows_more}
use Rattle.wt_inline.proofs.children.Children.continued.Goals as goal

pub returns : goal.returns
returns c =
    let old = c.args.run in
    let run = c.in_ok-run.run' in
    grows_more (item_trees c.args.trees) old.loose run.loose (call_of_origin old.origin) (call_of_origin run.origin)
    (items old.pieces) (items_of c.args.piece) (items run.pieces) c.in_ok-run.ensures.loose c.in_ok-run.ensures.items
