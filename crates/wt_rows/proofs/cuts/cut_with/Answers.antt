use Rattle.std.proofs.Common.{List, sym, subst}
use Rattle.wt_span.specs.declared.form.Piece.{Piece}
use Rattle.wt_span.specs.Items.{items}
use Rattle.wt_rows.specs.Fronts.{IsWithCut}
use Rattle.wt_rows.proofs.FrontCuts.{with_cut}
use Rattle.wt_rows.proofs.cuts.cut_with.Goals as goal

pub take_with-requires-clause-edge : goal.take_with-requires-clause-edge
take_with-requires-clause-edge c =
    subst (λ (ps : List Piece). IsWithCut c.args.front c.args.n (items ps)) (sym c.of.ensures)
    (with_cut c.args.front c.args.n (items c.args.pieces.now) c.requires.edge c.requires.edge_behind)
