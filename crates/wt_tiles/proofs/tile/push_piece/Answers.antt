use Rattle.std.proofs.Common.{◌++◌, sym, ap, ◌∙◌}
use Rattle.std.proofs.lemmas.Result.{on_ok_weaker}
use Rattle.wt_tiles.specs.Glyphs.{byte_glyphs}
use Rattle.wt_tiles.proofs.Pieces.{piece_chars}
use Rattle.wt_tiles.proofs.tile.push_piece.Goals as goal

pub returns-then-is_chars : goal.returns-then-is_chars
returns-then-is_chars c =
    on_ok_weaker c.push_bytes.result
    (λ is. is ∙ ap (λ bs. c.args.out.now ++ byte_glyphs bs) (c.as_bytes.ensures.value ∙ c.as_str.ensures)
    ∙ ap (λ gs. c.args.out.now ++ gs) (sym (piece_chars c.args.piece.now (sym c.is_chars.ensures ∙ c.if-is_chars.true)))) c.push_bytes.ensures
