use Rattle.std.proofs.Common.{sym, ap, ◌∙◌, arith, drop}
use Rattle.std.specs.Cmp.Lexicographic.{bytes_decides}
use Rattle.wt_span.specs.Bytes.{lower}
use Rattle.wt_span.specs.Tags.{to_closing}
use Rattle.wt_lex.proofs.Closings.{none_later}
use Rattle.wt_lex.proofs.gone.is_gone.Goals as goal

pub returns-then-is_same_name : goal.returns-then-is_same_name
returns-then-is_same_name c = λ _.
    let known = c.requires c.loop-known.known-index _ (omega arith) in
    let same = (bytes_decides _ (lower c.args.name.now)).0 (sym c.if-is_same_name.ensures) in
    let le = c.if-known-from.true in
    ap (λ n. to_closing n (drop c.args.from c.args.text.now)) (sym same) ∙ none_later _ c.args.text.now _ c.args.from le known
