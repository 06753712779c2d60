use Rattle.std.proofs.Common.{ap, ◌∙◌}
use Rattle.wt_span.specs.Items.{items}
use Rattle.wt_tree.specs.View.{attrs_of}
use Rattle.wt_tree.specs.declared.kind.Kind.TheVariants as kind
use Rattle.wt_inline.specs.ItemTree.{inner, forest}
use Rattle.wt_inline.specs.View.{item_trees}
use Rattle.wt_page.specs.Tables.{with_attrs}
use Rattle.wt_rows.proofs.part.table_tree.Goals as goal

pub returns : goal.returns
returns c =
    let h = with_attrs kind.Table (attrs_of c.args.attrs) in
    let ts = forest (item_trees c.args.children) in
    c.table_node-tree.ensures
    ∙ ap (λ k. inner k (items c.from_vec.result) ts (items c.from_vec-2.result)) c.in_ok-head.ensures
    ∙ ap (λ ps. inner h (items ps) ts (items c.from_vec-2.result)) (c.from_vec.ensures ∙ c.in_ok-first.ensures.items)
    ∙ ap (λ ps. inner h (items c.args.opening.now) ts (items ps)) (c.from_vec-2.ensures ∙ c.in_ok-last.ensures.items)
