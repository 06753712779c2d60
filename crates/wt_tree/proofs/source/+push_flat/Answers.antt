use Rattle.std.proofs.Common.{sym, ◌∙◌, arith}
use Rattle.std.proofs.lemmas.Grind.{common_steps}
use Rattle.wt_tree.proofs.Views.{flat_inner, flat_views}
use Rattle.wt_tree.proofs.source.+push_flat.Goals as goal

pub returns : goal.returns
returns t c = rw (flat_inner c.args.node.now (sym c.is_leaf.ensures ∙ c.if-is_leaf.false), flat_views) (grind (arith, common_steps))
