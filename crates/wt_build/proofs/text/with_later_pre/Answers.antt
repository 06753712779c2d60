use Rattle.std.proofs.Common.{ap, ◌∙◌, take, drop}
use Rattle.std.specs.Prelude.{codes}
use Rattle.std.proofs.lemmas.Result.{IfOk-weaker}
use Rattle.wt_span.specs.Bytes.{begins}
use Rattle.wt_span.specs.Items.{items}
use Rattle.wt_tree.specs.declared.kind.Kind.TheVariants as kind
use Rattle.wt_inline.specs.ItemTree.{plain, leaf}
use Rattle.wt_inline.specs.View.{item_tree}
use Rattle.wt_inline.specs.Grown.{growth}
use Rattle.wt_page.specs.Rows.{signs}
use Rattle.wt_rows.specs.Views.{row_view}
use Rattle.wt_rows.proofs.FewItems.{few_rest_items, few_between}
use Rattle.wt_build.proofs.LaterLines.{space_edge, grows_pre}
use Rattle.wt_build.proofs.text.with_later_pre.Goals as goal

pub cut-requires-clause-edge : goal.cut-requires-clause-edge
cut-requires-clause-edge c some =
    space_edge (items c.between-line.result.now) (ap (λ qs. begins (codes " ") (signs (items qs))) c.between-line.ensures ∙ c.requires.spaced)

pub with_line-requires-clause-few : goal.with_line-requires-clause-few
with_line-requires-clause-few c =
    let r = row_view c.args.pieces.now c.args.row.now in
    let rest = ap items c.as_slice.ensures ∙ c.in_ok-space.ensures.back ∙ ap (λ qs. drop 1 (items qs)) c.between-line.ensures in
    few_rest_items 1 r.items (items c.as_slice.result.now) rest (few_between r c.requires.few)

pub returns : goal.returns
returns c =
    IfOk-weaker c.with_line.result _ _
    (λ d e. grows_pre (row_view c.args.pieces.now c.args.row.now) (items c.between-lead.result.now) (items c.as_slice.result.now)
    (item_tree c.plain_leaf.result) (growth c.args.children) (growth c.in_ok-before.before) (growth c.in_ok-behind.behind) (growth d)
    (ap items c.between-lead.ensures)
    (c.plain_leaf.ensures ∙ ap (leaf (plain kind.Skip)) (c.in_ok-space.ensures.front ∙ ap (λ qs. take 1 (items qs)) c.between-line.ensures))
    (ap items c.as_slice.ensures ∙ c.in_ok-space.ensures.back ∙ ap (λ qs. drop 1 (items qs)) c.between-line.ensures)
    c.in_ok-before.ensures c.in_ok-behind.ensures e)
    c.with_line.ensures
