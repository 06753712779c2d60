use Rattle.std.proofs.Common.{[], ap, ◌∙◌, subst}
use Rattle.std.proofs.lemmas.Result.{IfOk-weaker}
use Rattle.wt_span.specs.Items.{items}
use Rattle.wt_inline.specs.ItemTree.{ItemTree, plain, inner, forest}
use Rattle.wt_inline.specs.Grown.{growth, made}
use Rattle.wt_inline.specs.View.{item_trees}
use Rattle.wt_context.specs.Line.{line_parts}
use Rattle.wt_page.specs.Lists.{item_kind}
use Rattle.wt_rows.specs.Views.{IsBetween}
use Rattle.wt_rows.proofs.Stretching.{made_is}
use Rattle.wt_build.proofs.item.plain_item.Goals as goal

pub returns : goal.returns
returns c =
    let row = c.args.row in
    let own = items c.args.opening in
    let ps = line_parts (items c.args.line.now) in
    let nodes = made_is (growth c.new.result) (growth c.in_ok-children.children) ps (item_trees c.in_ok-nodes.nodes) c.in_ok-children.ensures
    c.in_ok-nodes.ensures ∙ ap (λ g. made g ps) c.new.ensures in
    let tree = c.plain_node-node.ensures
    ∙ ap (λ k. inner (plain k) own (forest (item_trees c.in_ok-nodes.nodes)) []) c.item_kind.ensures
    ∙ ap (λ ts. inner (plain (item_kind c.args.sign)) own (forest ts) []) nodes in
    IfOk-weaker c.with_separators.result _ _ (λ l b. subst (λ (t : ItemTree). IsBetween t row row l) tree b) c.with_separators.ensures
