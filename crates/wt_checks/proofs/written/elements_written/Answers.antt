use Rattle.std.proofs.Common.{ap, ◌∙◌, ◌++◌, ◌≡◌, [], Bool}
use Rattle.wt_tree.specs.View.{views}
use Rattle.wt_checks.specs.Tokens.{written_signs, span_if_none, all_top_signs, close_span}
use Rattle.std.proofs.Common.{false}
use Rattle.wt_checks.proofs.Spans.{spans_are}
use Rattle.wt_checks.proofs.written.elements_written.Goals as goal

pub returns : goal.returns
returns c =
    let first : written_signs c.new-out.result.items ≡ [] = ap written_signs c.new-out.ensures.items in
    let tops : written_signs c.push_all_top.new.out.items ≡ all_top_signs false (views c.args.nodes.now) =
    c.in_ok-within.ensures.signs ∙ ap (λ ss. ss ++ all_top_signs false (views c.args.nodes.now)) first in
    c.in_ok-push_empty_span.ensures
    ∙ ap span_if_none (c.in_ok-push_close.ensures ∙ ap (λ ss. ss ++ close_span c.in_ok-within.within) tops
    ∙ ap (λ (o : Bool). all_top_signs false (views c.args.nodes.now) ++ close_span o) c.in_ok-within.ensures.span)
    ∙ spans_are (views c.args.nodes.now)
