use Rattle.std.proofs.Common.{List, [], ◌∷◌, ◌++◌, map, sym, ap, ◌∙◌, subst}
use Rattle.std.specs.Prelude.{All}
use Rattle.std.proofs.lemmas.List.Elements.{All-append}
use Rattle.wt_span.specs.declared.form.Piece.{Piece}
use Rattle.wt_span.specs.Origins.{IsSoundPiece, outer_call}
use Rattle.wt_isolation.proofs.SlicedPieces.{behind_tag}
use Rattle.wt_isolation.proofs.group_items.behind_nowiki.Goals as goal

pub returns-clause-items : goal.returns-clause-items
returns-clause-items c =
    let n = c.empty_nowiki.result in
    behind_tag (map outer_call c.args.outer.now) c.args.pieces.now c.push.new.self c.push_break.new.out c.extend_from_slice.new.self n
    c.empty_nowiki.ensures.items
    (c.in_ok-push.ensures.ok ∙ ap (λ xs. xs ++ n ∷ []) c.new-alone.ensures) c.in_ok-push_break.ensures.items c.in_ok-extend_from_slice.ensures.ok

pub returns-clause-sound : goal.returns-clause-sound
returns-clause-sound c =
    subst (λ (ps : List Piece). All IsSoundPiece ps) (sym c.in_ok-extend_from_slice.ensures.ok)
    (All-append IsSoundPiece c.push_break.new.out c.args.pieces.now c.in_ok-push_break.ensures.sound_after c.requires)
