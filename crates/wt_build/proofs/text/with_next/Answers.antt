use Rattle.std.proofs.Common.{List, sym, subst}
use Rattle.std.proofs.lemmas.Result.{IfOk-weaker}
use Rattle.wt_span.specs.Items.{Item}
use Rattle.wt_inline.specs.declared.loose.Loose.TheVariants.{Text}
use Rattle.wt_inline.specs.Parts.{parts}
use Rattle.wt_inline.specs.Grown.{growth, Grows}
use Rattle.wt_build.specs.declared.text.TextKind.{TextKind}
use Rattle.wt_rows.specs.Views.{row_view}
use Rattle.wt_build.specs.Blocks.{later_of}
use Rattle.wt_build.proofs.TextRuns.{grows_next}
use Rattle.wt_build.proofs.text.with_next.Goals as goal

pub returns-in-Para : goal.returns-in-Para
returns-in-Para c =
    let ps = c.args.pieces.now in
    let row = row_view ps c.args.row.now in
    let end = (row_view ps c.args.before.now).ending in
    let h = growth c.in_ok-children.children in
    IfOk-weaker c.with_later_line.result _ _
    (λ d e. grows_next c.args.kind end row (growth c.args.children) h (growth d)
    (subst (λ (xs : List Item). Grows (growth c.args.children) (parts Text xs) h) c.ending.ensures c.in_ok-children.ensures)
    (subst (λ (k : TextKind). Grows h (later_of k row) (growth d)) (sym c.in-Para.is) e))
    c.with_later_line.ensures

pub returns-in-Pre : goal.returns-in-Pre
returns-in-Pre c =
    let ps = c.args.pieces.now in
    let row = row_view ps c.args.row.now in
    let end = (row_view ps c.args.before.now).ending in
    let h = growth c.in_ok-children.children in
    IfOk-weaker c.with_later_pre.result _ _
    (λ d e. grows_next c.args.kind end row (growth c.args.children) h (growth d)
    (subst (λ (xs : List Item). Grows (growth c.args.children) (parts Text xs) h) c.ending.ensures c.in_ok-children.ensures)
    (subst (λ (k : TextKind). Grows h (later_of k row) (growth d)) (sym c.in-Pre.is) e))
    c.with_later_pre.ensures
