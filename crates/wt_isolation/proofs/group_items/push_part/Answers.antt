use Rattle.std.proofs.Common.{List, Option, map, sym, subst}
use Rattle.std.specs.Prelude.{All}
use Rattle.std.proofs.lemmas.List.Elements.{All-push}
use Rattle.wt_span.specs.declared.form.Piece.{Piece}
use Rattle.wt_span.specs.Origins.{IsSoundPiece, outer_call}
use Rattle.wt_isolation.specs.PieceParts.{IsPieceOf, part_of}
use Rattle.wt_isolation.proofs.group_items.push_part.Goals as goal

pub returns-in_ok-push-clause-sound_after : goal.returns-in_ok-push-clause-sound_after
returns-in_ok-push-clause-sound_after c =
    let P : Option Piece → Type 0 = λ o. IsPieceOf (part_of (map outer_call c.args.outer.now) c.args.ranges c.args.piece.now) o in
    let sound : IsSoundPiece c.in-Some.part = (subst P c.in-Some.is c.part_of.ensures).0 in
    subst (λ (ps : List Piece). All IsSoundPiece ps) (sym c.in_ok-push.ensures.ok)
    (All-push IsSoundPiece c.args.found.now c.in-Some.part c.requires.sound_before sound)
