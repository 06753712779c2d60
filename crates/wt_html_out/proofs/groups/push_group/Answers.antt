use Rattle.std.proofs.Common.{◌≡◌, rules}
use Rattle.wt_tree.specs.View.{label_of, views}
use Rattle.wt_tree.specs.declared.node.Node.{out-Node}
use Rattle.wt_html_out.proofs.ShownParts.{group_pushed}
use Rattle.wt_html_out.proofs.groups.push_group.Goals as goal

pub returns : goal.returns
returns c =
    let e : views c.as_slice-nodes.result.now ≡ views (out-Node c.args.group.now).children = search rules in
    group_pushed c.args.number (label_of (out-Node c.args.group.now)) (views (out-Node c.args.group.now).children)
    (views c.as_slice-nodes.result.now) c.args.out.now.items c.push_parts.new.out.items c.push_ending.new.out.items
    c.in_ok-progress.progress e c.in_ok-progress.ensures.text c.in_ok-progress.ensures.after c.in_ok-push_ending.ensures
