use Rattle.std.proofs.Common.{◌≡◌, ◌+◌, ◌-◌, map, take, drop, ap, ◌∙◌, arith}
use Rattle.wt_span.specs.Slice.{bytes_of, start_of}
use Rattle.wt_span.specs.Items.{char, items_of, call_of_origin}
use Rattle.wt_rows.specs.Unread.{left}
use Rattle.wt_rows.proofs.Unreading.{cut_own, cut_joined}
use Rattle.wt_rows.proofs.unread.Unread.cut.Goals as goal

pub returns-clause-joined : goal.returns-clause-joined
returns-clause-joined c =
    let p = c.args.piece in
    let bs = bytes_of p.text in
    let o = call_of_origin p.origin in
    let e : (c.range.result.start + c.args.n) - start_of p.text ≡ c.args.n = omega (arith, c.range.ensures.start) in
    cut_joined p c.chars_piece-rest.result c.args.n (items_of c.chars_piece-own.result) c.args.others.now (left c.behind.result) c.requires.chars
    (c.chars_piece-own.ensures.items ∙ ap (map (char o)) (c.split_at.ensures.front ∙ ap (λ k. take k bs) e))
    (c.chars_piece-rest.ensures.items ∙ ap (map (char o)) (c.split_at.ensures.back ∙ ap (λ k. drop k bs) e))
    c.behind.ensures.left

pub returns-clause-front : goal.returns-clause-front
returns-clause-front c =
    let p = c.args.piece in
    let bs = bytes_of p.text in
    let o = call_of_origin p.origin in
    let e : (c.range.result.start + c.args.n) - start_of p.text ≡ c.args.n = omega (arith, c.range.ensures.start) in
    cut_own p c.args.n (items_of c.chars_piece-own.result) c.requires.chars
    (c.chars_piece-own.ensures.items ∙ ap (map (char o)) (c.split_at.ensures.front ∙ ap (λ k. take k bs) e))
