use Rattle.std.proofs.Common.{sym, ap, ◌∙◌, subst, List, take, drop}
use Rattle.std.specs.List.{All}
use Rattle.std.proofs.lemmas.List.Elements.{All-push}
use Rattle.wt_span.specs.declared.form.Piece.{Piece}
use Rattle.wt_span.specs.Items.{items}
use Rattle.wt_span.specs.Origins.{IsSoundPiece}
use Rattle.wt_tiles.specs.declared.tile.Tile.{Tile}
use Rattle.wt_tiles.specs.Cutting.{rest_pieces}
use Rattle.wt_tiles.proofs.Joining.{parts_next, cuts_next}
use Rattle.wt_tiles.proofs.tile.cut.Goals as goal

pub loop-shape-preserved : goal.loop-shape-preserved
loop-shape-preserved c =
    let before = c.loop-shape.invariant in
    let i = c.loop-shape.shape-index in
    let rest = items (rest_pieces c.loop-shape.rest) in
    let after = items (rest_pieces c.in_ok-taken.after) in
    let front = c.in_ok-taken.ensures.front ∙ ap (λ n. take n rest) c.len.ensures in
    let back = c.in_ok-taken.ensures.back ∙ ap (λ n. drop n rest) c.len.ensures in
    let P : List Piece → Type 0 = λ ps. All IsSoundPiece ps in
    let S : Tile → Type 0 = λ t. All IsSoundPiece t.pieces in
    let T : List Tile → Type 0 = λ ts. All S ts in
    record {
      value = parts_next c.args.shapes.now i _ c.loop-shape.out c.push.new.self c.of.result rest after
          (items c.in_ok-taken.taken) _ c.loop-shape-test.true c.in_ok-push.ensures.ok c.of.ensures.value front back before.value;
      cuts = cuts_next c.args.shapes.now i _ rest after c.loop-shape-test.true back before.cuts;
      sound = c.in_ok-taken.ensures.sound_back;
      sound_tiles = subst T (sym c.in_ok-push.ensures.ok)
          (All-push S c.loop-shape.out c.of.result before.sound_tiles
          (subst P (sym c.of.ensures.pieces_are) c.in_ok-taken.ensures.sound_front));
    }
