use Rattle.std.proofs.Common.{sym}
use Rattle.wt_tree.specs.declared.node.Node.{out-Node}
use Rattle.wt_tree.specs.Tree.{label}
use Rattle.wt_tree.specs.View.{view}
use Rattle.wt_original.specs.Page.{restored}
use Rattle.wt_original.specs.PageViews.{kept_in}
use Rattle.wt_original.proofs.Sames.{kind_seen, kinds_decided}
use Rattle.wt_original.proofs.same.same_kinds.Goals as goal

pub returns : goal.returns
returns c =
    kinds_decided c.restored_kind-kind.result (out-Node c.args.old.now).kind (label (restored (kept_in c.args.page.now) (view c.args.node.now))).kind
    (label (view c.args.old.now)).kind c.same_kind-same.result c.restored_kind-kind.ensures (sym (kind_seen c.args.old.now)) c.same_kind-same.ensures
