use Rattle.std.proofs.Common.{List, sym, subst}
use Rattle.std.specs.Prelude.{All}
use Rattle.wt_span.specs.declared.form.Piece.{Piece}
use Rattle.wt_span.specs.Origins.{IsSoundPiece}
use Rattle.wt_rows.proofs.Unreading.{others_sound}
use Rattle.wt_rows.proofs.unread.Unread.split_first.Goals as goal

pub returns-then-not-is_chars-clause-sound_after : goal.returns-then-not-is_chars-clause-sound_after
returns-then-not-is_chars-clause-sound_after c =
    subst (λ (ps : List Piece). All IsSoundPiece ps) (sym c.of.ensures)
    (others_sound c.args.self.first c.args.self.others.now c.in_ok-piece.piece c.in_ok-piece.was c.requires)

pub cut-requires-clause-sound : goal.cut-requires-clause-sound
cut-requires-clause-sound c = others_sound c.args.self.first c.args.self.others.now c.in_ok-piece.piece c.in_ok-piece.was c.requires
