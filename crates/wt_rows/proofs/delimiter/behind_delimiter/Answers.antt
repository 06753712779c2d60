use Rattle.std.proofs.lemmas.Result.{IfOk-weaker}
use Rattle.wt_rows.specs.declared.stretch.StretchAt.TheVariants as at
use Rattle.wt_page.specs.Tables.{gaps}
use Rattle.wt_rows.specs.Views.{rows_view}
use Rattle.wt_rows.proofs.Straying.{behind_is}
use Rattle.wt_rows.proofs.delimiter.behind_delimiter.Goals as goal

pub returns : goal.returns
returns c =
    let ps = c.args.pieces.now in
    IfOk-weaker c.before-2.result _ _ (λ l e.
    behind_is ps (at.Gap c.args.delimiter.to c.args.delimiter.end) c.in_ok-found.found.items c.into_vec-more.result.items c.append.new.self.items
    c.from_vec.result l
    c.args.others (gaps (rows_view ps c.args.blank.now)) e c.from_vec.ensures c.in_ok-append.ensures.items c.in_ok-found.ensures c.into_vec-more.ensures)
    c.before-2.ensures
