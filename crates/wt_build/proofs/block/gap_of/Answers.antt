use Rattle.std.proofs.Common.{ap, ◌∷◌, [], ◌++◌, ◌∙◌}
use Rattle.wt_rows.specs.declared.stretch.StretchAt.TheVariants as at
use Rattle.wt_page.specs.Stretches.{gap}
use Rattle.wt_rows.specs.Views.{stretches_view}
use Rattle.wt_rows.proofs.Straying.{row_slice}
use Rattle.wt_build.proofs.block.gap_of.Goals as goal

pub returns : goal.returns
returns c =
    ap (stretches_view c.args.pieces.now) (c.in_ok-push.ensures.ok ∙ ap (λ ss. ss ++ at.Gap c.args.row.start c.args.row.end ∷ []) c.new-out.ensures)
    ∙ ap (λ xs. gap xs ∷ []) (row_slice c.args.pieces.now c.args.row c.requires)
