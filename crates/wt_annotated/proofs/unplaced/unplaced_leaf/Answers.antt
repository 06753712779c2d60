use Rattle.std.proofs.lemmas.Result.{IfOk-weaker}
use Rattle.wt_tree.specs.View.{view}
use Rattle.wt_annotated.proofs.PassPieces.{own_held}
use Rattle.wt_annotated.proofs.UnplacedNodes.{leaf_unplaced}
use Rattle.wt_annotated.proofs.unplaced.unplaced_leaf.Goals as goal

pub returns : goal.returns
returns c =
    IfOk-weaker c.unnumbered_node.result _ _
    (λ n e. leaf_unplaced c.args.tree (view n) c.leaf_sources.result c.in_ok-own.own c.in_ok-held.held c.as_slice.result.now c.new.result
    c.requires e c.leaf_sources.ensures c.new.ensures c.in_ok-own.ensures c.as_slice.ensures
    (own_held c.args.tree c.in_ok-held.held c.in_ok-held.ensures))
    c.unnumbered_node.ensures
