use Rattle.std.proofs.Common.{length, get_or, ap, ◌∙◌, arith}
use Rattle.std.specs.Prelude.{codes}
use Rattle.std.proofs.lemmas.List.Elements.{All-get_or}
use Rattle.wt_span.specs.Bytes.{begins}
use Rattle.wt_span.specs.Items.{items}
use Rattle.wt_lines.specs.declared.kind.LineKind.TheVariants as line
use Rattle.wt_inline.specs.View.{item_trees}
use Rattle.wt_rows.specs.declared.row.RowAt.{RowAt}
use Rattle.wt_build.specs.declared.text.TextKind.TheVariants as text
use Rattle.wt_page.specs.Rows.{signs}
use Rattle.wt_build.specs.Blocks.{IsOf}
use Rattle.wt_rows.specs.Views.{row_view}
use Rattle.wt_rows.proofs.FewItems.{few_rest_items, few_between, few_at}
use Rattle.wt_build.proofs.LaterLines.{space_edge}
use Rattle.wt_build.proofs.Slices.{sound_slice}
use Rattle.wt_build.proofs.TextRuns.{ready_at, same_at, pre_begins, pre_is}
use Rattle.wt_build.proofs.text.preformatted.Goals as goal

abbrev none : RowAt
none = record { kind = line.Blank; start = 0; from = 0; to = 0; end = 0 }

pub cut-requires-clause-sound : goal.cut-requires-clause-sound
cut-requires-clause-sound c = sound_slice c.args.pieces.now c.between-content.result.now _ _ c.requires.ready.sound c.between-content.ensures

pub cut-requires-clause-edge : goal.cut-requires-clause-edge
cut-requires-clause-edge c some =
    let rs = c.args.rows.now in
    space_edge (items c.between-content.result.now)
    (ap (λ qs. begins (codes " ") (signs (items qs))) c.between-content.ensures
    ∙ pre_begins c.args.pieces.now (get_or rs 0 none) (ready_at c.args.pieces.now rs 0 none c.requires.ready.rows c.requires.some)
    (All-get_or (IsOf text.Pre) rs 0 none c.requires.some c.requires.kind))

pub text_children-requires-clause-few : goal.text_children-requires-clause-few
text_children-requires-clause-few c =
    let ps = c.args.pieces.now in
    let rs = c.args.rows.now in
    let few = few_between (row_view ps (get_or rs 0 none)) (few_at ps rs 0 none c.requires.ready c.requires.some) in
    few_rest_items 1 (items c.between-content.result.now) (items c.as_slice.result.now) (ap items c.as_slice.ensures ∙ c.in_ok-opening.ensures.back)
    (omega (arith, ap (λ qs. length (items qs)) c.between-content.ensures, few))

pub returns : goal.returns
returns c =
    let first = get_or c.args.rows.now 0 none in
    c.plain_node.ensures
    ∙ pre_is c.args.pieces.now c.args.rows.now first (items c.between-content.result.now) (items c.in_ok-opening.opening) (items c.as_slice.result.now)
    (item_trees c.in_ok-children.children) c.requires.some (same_at c.args.rows.now 0 none first c.requires.some) (ap items c.between-content.ensures)
    c.in_ok-opening.ensures.front (ap items c.as_slice.ensures ∙ c.in_ok-opening.ensures.back) c.in_ok-children.ensures
