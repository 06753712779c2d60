use Rattle.std.proofs.Common.{◌≡◌, ◌∙◌, ap, arith, ◌-◌, ◌+◌, take, drop}
use Rattle.wt_span.specs.Slice.{bytes_of, start_of}
use Rattle.wt_lines.proofs.Splits.{cut_front, cut_back}
use Rattle.wt_lines.proofs.split.cut_piece.Goals as goal

pub returns-clause-front : goal.returns-clause-front
returns-clause-front c =
    let p = c.args.piece in
    let e : (c.range.result.start + c.args.n) - start_of p.text ≡ c.args.n = omega (arith, c.range.ensures.start) in
    c.chars_piece.ensures.items ∙ cut_front p c.args.n _ c.requires.some c.requires.within (c.split_at.ensures.front ∙ ap (λ k. take k (bytes_of p.text)) e)

pub returns-clause-back : goal.returns-clause-back
returns-clause-back c =
    let p = c.args.piece in
    let e : (c.range.result.start + c.args.n) - start_of p.text ≡ c.args.n = omega (arith, c.range.ensures.start) in
    c.chars_piece-2.ensures.items ∙ cut_back p c.args.n _ c.requires.some c.requires.within (c.split_at.ensures.back ∙ ap (λ k. drop k (bytes_of p.text)) e)
