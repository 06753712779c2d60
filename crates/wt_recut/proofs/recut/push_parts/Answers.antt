use Rattle.std.proofs.Common.{◌∙◌, sym, ap}
use Rattle.wt_tree.specs.Tree.{more}
use Rattle.wt_tree.specs.View.{view, views}
use Rattle.wt_recut.specs.Recutting.{node_if_any, appended}
use Rattle.wt_recut.proofs.Recuts.{push_one, push_two}
use Rattle.wt_recut.proofs.recut.push_parts.Goals as goal

pub returns-in_ok-push-2 : goal.returns-in_ok-push-2
returns-in_ok-push-2 c =
    push_two c.args.nodes.now.items c.push.new.self.items c.push-in-Some.new.self.items c.args.parts.first c.in-Some.second
    c.in_ok-push.ensures.items c.in_ok-push-2.ensures.items
    ∙ sym (ap (λ o. appended (views c.args.nodes.now.items) (more (view c.args.parts.first) (node_if_any o))) c.in-Some.is)

pub returns-in_default : goal.returns-in_default
returns-in_default c =
    push_one c.args.nodes.now.items c.push.new.self.items c.args.parts.first c.in_ok-push.ensures.items
    ∙ sym (ap (λ o. appended (views c.args.nodes.now.items) (more (view c.args.parts.first) (node_if_any o))) c.in_default.is)
