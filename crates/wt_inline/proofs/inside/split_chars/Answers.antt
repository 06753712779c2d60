use Rattle.std.proofs.Common.{◌≡◌, ◌+◌, ◌-◌, arith}
use Rattle.wt_span.specs.Items.{items_of, call_of_origin}
use Rattle.wt_span.specs.Slice.{bytes_of}
use Rattle.wt_inline.proofs.Insides.{split_by}
use Rattle.wt_inline.proofs.inside.split_chars.Goals as goal

pub returns-clause-items : goal.returns-clause-items
returns-clause-items c =
    let n = c.front_len.result in
    let m = c.range.result.start + n - c.args.text.at in
    let e : m ≡ n = omega (arith, c.range.ensures.start) in
    split_by (call_of_origin c.args.origin) (bytes_of c.args.text) c.as_str.result.now (bytes_of c.split_at.result.0)
    (bytes_of c.split_at.result.1) (items_of c.chars_piece.result) m n c.as_str.ensures e c.front_len.ensures.within
    c.front_len.ensures.chars c.chars_piece.ensures.items c.split_at.ensures.front c.split_at.ensures.back
