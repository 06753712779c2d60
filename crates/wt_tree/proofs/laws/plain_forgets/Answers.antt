use Rattle.wt_tree.proofs.Joining.{labels_like, leaf_nothing}
use Rattle.wt_tree.proofs.laws.plain_forgets.Goals as goal

pub returns : goal.returns
returns c = record { labels = labels_like; leaves = leaf_nothing }
