use Rattle.std.proofs.Common.{[], length, get_or, ap, ◌∙◌, arith}
use Rattle.wt_span.specs.Items.{items}
use Rattle.wt_tree.specs.declared.kind.Kind.TheVariants as kind
use Rattle.wt_lines.specs.declared.kind.LineKind.TheVariants as line
use Rattle.wt_inline.specs.ItemTree.{plain, inner, forest}
use Rattle.wt_inline.specs.View.{item_trees}
use Rattle.wt_rows.specs.declared.row.RowAt.{RowAt}
use Rattle.wt_rows.specs.Views.{row_view}
use Rattle.wt_rows.proofs.FewItems.{few_between, few_at}
use Rattle.wt_build.proofs.Slices.{sound_slice}
use Rattle.wt_build.proofs.TextRuns.{same_at, para_is}
use Rattle.wt_build.proofs.text.paragraph.Goals as goal

abbrev none : RowAt
none = record { kind = line.Blank; start = 0; from = 0; to = 0; end = 0 }

pub text_children-requires-clause-sound : goal.text_children-requires-clause-sound
text_children-requires-clause-sound c = sound_slice c.args.pieces.now c.between-content.result.now _ _ c.requires.ready.sound c.between-content.ensures

pub text_children-requires-clause-few : goal.text_children-requires-clause-few
text_children-requires-clause-few c =
    let ps = c.args.pieces.now in
    let rs = c.args.rows.now in
    let few = few_between (row_view ps (get_or rs 0 none)) (few_at ps rs 0 none c.requires.ready c.requires.some) in
    omega (arith, ap (λ qs. length (items qs)) c.between-content.ensures, few)

pub returns : goal.returns
returns c =
    let first = get_or c.args.rows.now 0 none in
    c.plain_node.ensures
    ∙ ap (λ qs. inner (plain kind.Para) (items qs) (forest (item_trees c.in_ok-children.children)) []) c.new.ensures
    ∙ para_is c.args.pieces.now c.args.rows.now first (items c.between-content.result.now) (item_trees c.in_ok-children.children) c.requires.some
    (same_at c.args.rows.now 0 none first c.requires.some) (ap items c.between-content.ensures) c.in_ok-children.ensures
