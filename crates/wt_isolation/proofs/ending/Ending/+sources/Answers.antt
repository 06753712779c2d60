use Rattle.std.proofs.Common.{◌++◌, ap, sym, ◌∙◌}
use Rattle.std.specs.List.{flat_map}
use Rattle.wt_tree.specs.Source.{flat}
use Rattle.wt_tree.specs.View.{texts_of, view}
use Rattle.wt_isolation.specs.Passes.{ending_of}
use Rattle.wt_isolation.proofs.Sources.{source_behind}
use Rattle.wt_isolation.proofs.ending.Ending.+sources.Goals as goal

pub behind_node-returns : goal.behind_node-returns
behind_node-returns t c = λ text at.
    let opened = text ++ texts_of c.opening.result.now in
    let filled = opened ++ flat_map (λ m. flat (view m)) c.as_slice.result.now in
    c.behind_texts-2.ensures filled (c.behind_nodes-filled.ensures opened (c.behind_texts-opened.ensures text at))
    ∙ ap ending_of (source_behind text c.args.node.now c.opening.result.now c.closing.result.now c.as_slice.result.now c.opening.ensures
    c.as_slice.ensures c.closing.ensures (sym c.is_leaf.ensures ∙ c.if-is_leaf.false))
