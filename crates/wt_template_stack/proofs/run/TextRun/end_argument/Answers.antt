use Rattle.std.proofs.Common.{◌≡◌, ◌++◌, Some, ap, length, refl, sym, ◌∙◌, arith}
use Rattle.std.specs.Prelude.{codes, slice_get}
use Rattle.std.proofs.lemmas.Option.{slice_get_past, slice_get_read}
use Rattle.wt_span.specs.Items.{items}
use Rattle.wt_expand.specs.Expansion.{chars, value_of}
use Rattle.wt_expand.specs.Texts.{name_text}
use Rattle.wt_template_stack.proofs.CallSteps.{default_begins, spelled_returns, value_returns}
use Rattle.wt_template_stack.proofs.RestLaws.{spends_none}
use Rattle.wt_template_stack.proofs.MeasureLaws.{level_follows}
use Rattle.std.proofs.lemmas.Result.{on_ok_weaker}
use Rattle.wt_template_stack.proofs.run.TextRun.end_argument.Goals as goal

pub returns-in-Some-clause-answer : goal.returns-in-Some-clause-answer
returns-in-Some-clause-answer c = λ r t total h v.
    let name = c.as_str.ensures.value ∙ c.in_ok-name.ensures ∙ ap (λ ps. name_text (items ps)) c.as_slice.ensures in
    c.give.ensures.answer r t total
    (value_returns r t c.args.self.now c.args.call c.args.out c.in-Some.value.now total h
    (ap (λ n. value_of n r.frame) (sym name) ∙ sym (c.in-Some.ensures r.frame v)))

pub returns-in-Some-get-clause-answer : goal.returns-in-Some-get-clause-answer
returns-in-Some-get-clause-answer c = λ r t total h v.
    let name = c.as_str.ensures.value ∙ c.in_ok-name.ensures ∙ ap (λ ps. name_text (items ps)) c.as_slice.ensures in
    let unset = ap (λ n. value_of n r.frame) (sym name) ∙ sym (c.in_default.ensures r.frame v) in
    let parts = c.args.call.parts.now in
    let q = c.in-Some-get.ensures.lookup in
    let at : slice_get parts 1 ≡ Some c.in-Some-get.part.now = slice_get_read parts (length parts) 1 c.in-Some-get.part.now refl q.3.0 q.1 in (
      total,
      spends_none c.args.spent.now total,
      c.in_ok-begin_level.ensures.answer r t total
          (default_begins r t c.args.self.now c.args.call c.args.out c.in-Some-get.part.now total h unset at),
    )

pub returns-clause-answer : goal.returns-clause-answer
returns-clause-answer c = λ r t total h v.
    let name = c.as_str.ensures.value ∙ c.in_ok-name.ensures ∙ ap (λ ps. name_text (items ps)) c.as_slice.ensures in
    let unset = ap (λ n. value_of n r.frame) (sym name) ∙ sym (c.in_default.ensures r.frame v) in
    c.give-2.ensures.answer r t total
    (spelled_returns r t c.args.self.now c.args.call c.args.out c.as_slice-3.result.now total h unset
    (slice_get_past c.args.call.parts.now 1 c.in_default-get.ensures.lookup.3)
    (ap items c.as_slice-3.ensures ∙ c.in_ok-own.ensures
    ∙ ap (λ ps. chars (codes "{{{") ++ (items ps ++ chars (codes "}}}"))) c.as_slice-2.ensures))

pub returns-in-Some-clause-gets_on : goal.returns-in-Some-clause-gets_on
returns-in-Some-clause-gets_on c = on_ok_weaker c.give.result (λ h. omega (arith, h)) c.give.ensures.gets_on

pub returns-in-Some-get-clause-gets_on : goal.returns-in-Some-get-clause-gets_on
returns-in-Some-get-clause-gets_on c =
    let z = c.in_ok-begin_level.ensures.gets_on in
    level_follows _ _ _ _ _ z.0 z.1 (omega arith)

pub returns-clause-gets_on : goal.returns-clause-gets_on
returns-clause-gets_on c = on_ok_weaker c.give-2.result (λ h. omega (arith, h)) c.give-2.ensures.gets_on
