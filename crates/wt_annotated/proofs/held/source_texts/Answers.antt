use Rattle.std.proofs.Common.{ap, ◌∙◌}
use Rattle.wt_tree.specs.View.{texts_of}
use Rattle.wt_annotated.proofs.HeldPieces.{only_source}
use Rattle.wt_annotated.proofs.held.source_texts.Goals as goal

pub returns-in-len1 : goal.returns-in-len1
returns-in-len1 c =
    ap texts_of c.one.ensures
    ∙ only_source c.args.pieces.now c.piece-item.result c.in-len1.len_at_least c.in-len1.len_below c.piece-item.is
