use Rattle.std.proofs.Common.{ap, ◌∙◌}
use Rattle.wt_annotated.specs.Pieces.{outer_calls}
use Rattle.wt_annotated.specs.Seams.{text_from}
use Rattle.wt_annotated.proofs.PieceWalks.{only_piece}
use Rattle.wt_annotated.proofs.page_text.page_texts.Goals as goal

pub returns-in-len1 : goal.returns-in-len1
returns-in-len1 c =
    c.one_or_none.ensures
    ∙ c.page_text.ensures
    ∙ ap (text_from (outer_calls c.args.calls.now) c.args.before)
    (only_piece c.args.pieces.now c.piece-item.result c.in-len1.len_at_least c.in-len1.len_below c.piece-item.is)
