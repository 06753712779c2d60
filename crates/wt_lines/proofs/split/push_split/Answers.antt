use Rattle.std.proofs.Common.{sym, subst}
use Rattle.std.specs.List.{All}
use Rattle.std.proofs.lemmas.List.Elements.{All-push}
use Rattle.wt_span.specs.Origins.{IsSoundPiece}
use Rattle.wt_lines.proofs.split.push_split.Goals as goal

pub returns-clause-sound_front : goal.returns-clause-sound_front
returns-clause-sound_front c = λ h. subst (All IsSoundPiece) (sym c.in_ok-push_tight-3.ensures.ok)
    (All-push IsSoundPiece c.args.front.now c.cut_piece-cut.result.0 h c.cut_piece-cut.ensures.sound_front)

pub returns-clause-sound_back : goal.returns-clause-sound_back
returns-clause-sound_back c = λ h. subst (All IsSoundPiece) (sym c.in_ok-push_tight-4.ensures.ok)
    (All-push IsSoundPiece c.args.back.now c.cut_piece-cut.result.1 h c.cut_piece-cut.ensures.sound_back)
