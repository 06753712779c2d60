use Rattle.std.proofs.Common.{ap}
use Rattle.wt_span.specs.Items.{items, items_of, call_of_origin}
use Rattle.wt_inline.specs.View.{item_trees}
use Rattle.wt_inline.proofs.Growing.{grows_begun}
use Rattle.wt_inline.proofs.children.Children.begun.Goals as goal

pub returns : goal.returns
returns c =
    let p = c.args.piece in
    let run = c.in_ok-run.run' in
    grows_begun (item_trees c.args.trees) c.args.loose (call_of_origin p.origin) (call_of_origin run.origin) (items_of p)
    (items run.pieces) (ap call_of_origin c.in_ok-run.ensures.origin) c.in_ok-run.ensures.items run.loose c.in_ok-run.ensures.loose
