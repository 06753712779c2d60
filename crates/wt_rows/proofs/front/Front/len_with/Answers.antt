use Rattle.std.proofs.Common.{◌≡◌, ◌+◌, ap, ◌∙◌, arith, drop, min}
use Rattle.std.specs.List.{prefix_len}
use Rattle.wt_span.specs.Items.{items_of}
use Rattle.wt_lines.specs.Pieces.{item_count}
use Rattle.wt_rows.specs.Fronts.{with_front, in_front}
use Rattle.wt_rows.proofs.FrontCuts.{len_chars}
use Rattle.wt_rows.proofs.front.Front.len_with.Goals as goal

pub overflow_add-result : goal.overflow_add-result
overflow_add-result c =
    let all : c.args.n + c.len_in.result ≡ min (with_front c.args.self c.args.n (items_of c.args.piece.now)) (item_count c.args.piece.now) =
    len_chars c.args.self c.args.piece.now c.args.n c.len_in.result c.in-None.ensures (omega (arith, c.if-count-n.false, c.item_count-count.ensures))
    (c.len_in.ensures ∙ ap (prefix_len (in_front c.args.self)) (c.rest_of.ensures ∙ ap (drop c.args.n) (c.as_bytes.ensures.value ∙ c.as_str.ensures))) in
    omega (arith, all, c.item_count-count.ensures)

pub returns-in-None : goal.returns-in-None
returns-in-None c =
    len_chars c.args.self c.args.piece.now c.args.n c.len_in.result c.in-None.ensures (omega (arith, c.if-count-n.false, c.item_count-count.ensures))
    (c.len_in.ensures ∙ ap (prefix_len (in_front c.args.self)) (c.rest_of.ensures ∙ ap (drop c.args.n) (c.as_bytes.ensures.value ∙ c.as_str.ensures)))
