use Rattle.std.proofs.lemmas.Result.{IfOk-weaker}
use Rattle.wt_inline.specs.View.{item_trees}
use Rattle.wt_inline.specs.Grown.{growth}
use Rattle.wt_inline.proofs.Growing.{finished}
use Rattle.wt_inline.proofs.children.Children.finish.Goals as goal

pub returns : goal.returns
returns c = IfOk-weaker c.closed.result _ _ (λ l e. finished (growth c.args.self) (item_trees l) e) c.closed.ensures
