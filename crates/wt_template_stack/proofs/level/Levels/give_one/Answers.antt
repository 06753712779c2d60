use Rattle.std.proofs.Common.{◌≡◌, ◌+◌, ◌-◌, List, [], ◌∷◌, length, ap, arith}
use Rattle.std.proofs.lemmas.Result.{on_ok_weaker}
use Rattle.wt_span.specs.declared.form.Piece.{Piece}
use Rattle.wt_template_stack.specs.Stacks.{text_level}
use Rattle.wt_template_stack.specs.declared.level.Level.{Level}
use Rattle.wt_template_stack.proofs.StackLaws.{given_in_place, given_to_text}
use Rattle.wt_template_stack.proofs.level.Levels.give_one.Goals as goal

pub returns : goal.returns
returns c =
    let xs = c.args.self.now.later.items in
    let l = c.index_mut.result.now in
    let with_out : List Piece → Level = λ out. record { end = l.end; out = out; task = l.task } in
    let count : length xs ≡ (c.len-count.result - 1) + 1 = omega (arith, c.len-count.ensures, c.if-count-eq0.false) in
    on_ok_weaker c.push-2.result (λ more. given_in_place xs (c.len-count.result - 1) l (with_out c.push-2.new.self) (text_level c.args.self.now.text_end c.args.self.now.text_out) (c.args.piece ∷ []) count
    c.index_mut.ensures.value (ap with_out more)) c.push-2.ensures.ok

pub returns-then-count-eq0 : goal.returns-then-count-eq0
returns-then-count-eq0 c =
    let f = text_level c.args.self.now.text_end c.args.self.now.text_out in
    let with_out : List Piece → Level = text_level c.args.self.now.text_end in
    on_ok_weaker c.push.result (λ more. given_to_text c.args.self.now.later.items f (with_out c.push.new.self) (c.args.piece ∷ [])
    (omega (arith, c.len-count.ensures, c.if-count-eq0.true)) (ap with_out more)) c.push.ensures.ok
