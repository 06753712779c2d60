use Rattle.std.proofs.Common.{◌≡◌, ◌+◌, ◌-◌, take, drop, sym, ap, ◌∙◌, subst, arith}
use Rattle.std.specs.Str.{IsCharBoundary}
use Rattle.wt_span.specs.Slice.{bytes_of, start_of}
use Rattle.wt_span.specs.Items.{call_of_origin}
use Rattle.wt_lines.proofs.Splits.{count_is, cut_front, cut_back}
use Rattle.wt_context.proofs.Quoting.{quote_border, front_quotes, back_quotes}
use Rattle.wt_context.proofs.stretch.Quotes.split_at.Goals as goal

pub split_at-requires-clause-border : goal.split_at-requires-clause-border
split_at-requires-clause-border c =
    let p = c.args.self.piece in
    let z : c.range.result.start + c.args.n - start_of p.text ≡ c.args.n = omega (arith, c.range.ensures.start) in
    subst (IsCharBoundary (bytes_of p.text)) (sym z) (quote_border p c.args.n c.args.self.chars c.args.self.quotes (omega (arith, c.requires.within)))

pub of-requires-clause-quotes : goal.of-requires-clause-quotes
of-requires-clause-quotes c = front_quotes c.args.self.piece _ _ (bytes_of c.split_at.result.0) c.args.self.chars c.args.self.quotes c.split_at.ensures.front

pub of-requires-2-clause-quotes : goal.of-requires-2-clause-quotes
of-requires-2-clause-quotes c = back_quotes c.args.self.piece _ _ (bytes_of c.split_at.result.1) c.args.self.chars c.args.self.quotes c.split_at.ensures.back

pub returns-clause-front : goal.returns-clause-front
returns-clause-front c =
    let p = c.args.self.piece in
    let z : c.range.result.start + c.args.n - start_of p.text ≡ c.args.n = omega (arith, c.range.ensures.start) in
    c.of.ensures ∙ cut_front p c.args.n (bytes_of c.split_at.result.0) c.requires.some
    (omega (arith, c.requires.within, count_is p.form (call_of_origin p.origin) (bytes_of p.text)))
    (c.split_at.ensures.front ∙ ap (λ n. take n (bytes_of p.text)) z)

pub returns-clause-back : goal.returns-clause-back
returns-clause-back c =
    let p = c.args.self.piece in
    let z : c.range.result.start + c.args.n - start_of p.text ≡ c.args.n = omega (arith, c.range.ensures.start) in
    c.of-2.ensures ∙ cut_back p c.args.n (bytes_of c.split_at.result.1) c.requires.some
    (omega (arith, c.requires.within, count_is p.form (call_of_origin p.origin) (bytes_of p.text)))
    (c.split_at.ensures.back ∙ ap (λ n. drop n (bytes_of p.text)) z)
