use Rattle.std.proofs.Common.{◌≡◌, ◌∙◌, ℕ, ap, arith, ◌-◌, ◌+◌, take, drop, subst}
use Rattle.std.specs.Str.{IsUtf8, IsCharBoundary}
use Rattle.wt_span.specs.Slice.{bytes_of, start_of}
use Rattle.wt_lines.proofs.Splits.{cut_front, cut_back}
use Rattle.wt_tiles.proofs.Pieces.{piece_border}
use Rattle.wt_tiles.proofs.tile.cut_piece.Goals as goal

pub split_at-requires-clause-border : goal.split_at-requires-clause-border
split_at-requires-clause-border c =
    let p = c.args.piece in
    let e : c.args.n ≡ (c.range.result.start + c.args.n) - start_of p.text = omega (arith, c.range.ensures.start) in
    let P : ℕ → Type 0 = λ m. IsCharBoundary (bytes_of p.text) m in
    let u : IsUtf8 (bytes_of p.text) = subst IsUtf8 c.as_str-text.ensures c.as_str-text.utf8 in
    subst P e (piece_border p c.args.n u c.requires.some c.requires.within c.requires.edge)

pub returns-clause-front : goal.returns-clause-front
returns-clause-front c =
    let p = c.args.piece in
    let e : (c.range.result.start + c.args.n) - start_of p.text ≡ c.args.n = omega (arith, c.range.ensures.start) in
    c.chars_piece.ensures.items ∙ cut_front p c.args.n _ c.requires.some c.requires.within (c.split_at.ensures.front ∙ ap (λ k. take k (bytes_of p.text)) e)

pub returns-clause-back : goal.returns-clause-back
returns-clause-back c =
    let p = c.args.piece in
    let e : (c.range.result.start + c.args.n) - start_of p.text ≡ c.args.n = omega (arith, c.range.ensures.start) in
    c.chars_piece-2.ensures.items ∙ cut_back p c.args.n _ c.requires.some c.requires.within (c.split_at.ensures.back ∙ ap (λ k. drop k (bytes_of p.text)) e)
