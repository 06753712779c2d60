use Rattle.std.proofs.Common.{◌≡◌, ap, sym, ◌∙◌, drop, take, length, ◌-◌}
use Rattle.std.specs.Prelude.{if◌then◌else◌}
use Rattle.wt_slices.specs.BodySlices.{tail, tail_at_end, tail_before}
use Rattle.wt_slices.specs.Views.{steps_view}
use Rattle.wt_slices.proofs.BodyWalk.{if_ok, tail_is, tail_new}
use Rattle.wt_slices.proofs.ListWalk.{rest_steps}
use Rattle.wt_slices.proofs.body.tail.Goals as goal

pub returns-then-begins_new : goal.returns-then-begins_new
returns-then-begins_new c =
    let ss = c.args.steps.now in
    tail_new c.args.front (steps_view (take (length ss - c.args.from) (drop c.args.from ss))) (steps_view (drop c.args.from ss)) c.begins_new.result
    (rest_steps ss c.args.from) c.begins_new.ensures c.if-begins_new.true

pub returns-then-holds_kept : goal.returns-then-holds_kept
returns-then-holds_kept c =
    let ss = c.args.steps.now in
    let rest = steps_view (drop c.args.from ss) in
    let t = tail_is c.args.front (steps_view (take (length ss - c.args.from) (drop c.args.from ss))) rest c.begins_new.result c.holds_kept.result
    (rest_steps ss c.args.from) c.begins_new.ensures c.if-begins_new.false c.holds_kept.ensures in
    if_ok c.tail_before.result (λ s. s.now ≡ tail_before (steps_view (take (length ss - c.args.from) (drop c.args.from ss)))) (λ s. s.now ≡ tail c.args.front rest)
    (λ s is. is ∙ ap tail_before (rest_steps ss c.args.from)
    ∙ ap (λ b. if b then tail_before rest else tail_at_end c.args.front rest) (sym c.if-holds_kept.true) ∙ t) c.tail_before.ensures

pub returns : goal.returns
returns c =
    let ss = c.args.steps.now in
    let rest = steps_view (drop c.args.from ss) in
    let t = tail_is c.args.front (steps_view (take (length ss - c.args.from) (drop c.args.from ss))) rest c.begins_new.result c.holds_kept.result
    (rest_steps ss c.args.from) c.begins_new.ensures c.if-begins_new.false c.holds_kept.ensures in
    if_ok c.tail_at_end.result (λ s. s.now ≡ tail_at_end c.args.front rest) (λ s. s.now ≡ tail c.args.front rest)
    (λ s is. is ∙ ap (λ b. if b then tail_before rest else tail_at_end c.args.front rest) (sym c.if-holds_kept.false) ∙ t) c.tail_at_end.ensures
