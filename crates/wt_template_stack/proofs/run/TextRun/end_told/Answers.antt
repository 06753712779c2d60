use Rattle.std.proofs.Common.{ap, refl, sym, ◌∙◌, arith}
use Rattle.wt_span.specs.Items.{items}
use Rattle.wt_functions.specs.Choice.{asked}
use Rattle.wt_expand.specs.Texts.{name_text}
use Rattle.wt_template_stack.proofs.AskedParts.{parts_still, told_is_there, given_is_there}
use Rattle.wt_template_stack.proofs.ChoiceSteps.{told_begins, given_again, given_begins, none_of, nothing_returns}
use Rattle.wt_template_stack.specs.ToldParts.{name_end}
use Rattle.wt_template_stack.proofs.RestLaws.{spends_none}
use Rattle.wt_template_stack.proofs.MeasureLaws.{level_follows, part_given}
use Rattle.std.proofs.lemmas.Result.{on_ok_weaker}
use Rattle.wt_template_stack.proofs.run.TextRun.end_told.Goals as goal

pub invariant_of-next-clause-parts : goal.invariant_of-next-clause-parts
invariant_of-next-clause-parts c = parts_still c.args.choosing.chooser _ _ _ c.in_ok-tell.ensures c.args.choosing.parts

pub part_at-part-requires : goal.part_at-part-requires
part_at-part-requires c =
    told_is_there c.args.choosing.chooser _ _ _ _ c.in_ok-tell.ensures c.args.choosing.parts (sym c.ask.ensures ∙ c.in-Tell.is)

pub part_at-part-requires-in-Give : goal.part_at-part-requires-in-Give
part_at-part-requires-in-Give c =
    given_is_there c.args.choosing.chooser _ _ _ _ c.in_ok-tell.ensures c.args.choosing.parts (sym c.ask.ensures ∙ c.in-Give.is)

pub returns-in-Tell-clause-answer : goal.returns-in-Tell-clause-answer
returns-in-Tell-clause-answer c = λ r t total h s.
    let told = name_text (items c.as_slice.result.now) in
    let text = ap (λ ps. name_text (items ps)) c.as_slice.ensures in (
      total,
      spends_none c.args.spent.now total,
      c.in_ok-begin_level-in-Tell.ensures.answer r t total
          (told_begins r t c.args.self.now c.args.choosing _ c.args.out told c.in-Tell.number c.part_at-part.result
          c.told_end-end.result c.args.spent.now total s h text
          (record { call_is = refl; at_start_is = refl; function_is = refl; begun_is = refl; number_is = refl; spent_is = refl; chooser_is = c.in_ok-tell.ensures })
          (sym c.ask.ensures ∙ c.in-Tell.is) c.part_at-part.ensures c.told_end-end.ensures),
    )

pub returns-in-Give-clause-answer : goal.returns-in-Give-clause-answer
returns-in-Give-clause-answer c = λ r t total h s.
    let told = name_text (items c.as_slice.result.now) in
    let text = ap (λ ps. name_text (items ps)) c.as_slice.ensures in (
      total,
      spends_none c.args.spent.now total,
      c.in_ok-begin_level-in-Give.ensures.answer r t total
          (given_begins r t c.args.self.now _ c.args.choosing c.args.out told c.in-Give.number c.part_at-part-in-Give.result
          c.given_start-start.result total h text (ap asked (sym c.in_ok-tell.ensures) ∙ sym c.ask.ensures ∙ c.in-Give.is)
          c.part_at-part-in-Give.ensures (omega arith) c.given_start-start.ensures refl refl refl),
    )

pub returns-clause-answer : goal.returns-clause-answer
returns-clause-answer c = λ r t total h s.
    let told = name_text (items c.as_slice.result.now) in
    let text = ap (λ ps. name_text (items ps)) c.as_slice.ensures in
    c.give.ensures.answer r t total
    (nothing_returns r t c.args.self.now c.args.choosing c.args.out told total h text
    (ap asked (sym c.in_ok-tell.ensures) ∙ sym c.ask.ensures ∙ c.in-Nothing.is))

pub returns-then-is_whole-clause-answer : goal.returns-then-is_whole-clause-answer
returns-then-is_whole-clause-answer c = λ r t total h s.
    let told = name_text (items c.as_slice.result.now) in
    let text = ap (λ ps. name_text (items ps)) c.as_slice.ensures in
    c.give_again.ensures.answer r t total
    (given_again r t c.args.self.now c.args.choosing c.args.out told c.in-Give.number c.part_at-part-in-Give.result total h text
    (ap asked (sym c.in_ok-tell.ensures) ∙ sym c.ask.ensures ∙ c.in-Give.is) c.part_at-part-in-Give.ensures c.if-number-told.true
    (none_of (name_end c.args.choosing.function c.part_at-part-in-Give.result.equals) (sym c.is_whole.ensures ∙ c.if-is_whole.true))) s

pub returns-in-Tell-clause-gets_on : goal.returns-in-Tell-clause-gets_on
returns-in-Tell-clause-gets_on c =
    let z = c.in_ok-begin_level-in-Tell.ensures.gets_on in
    level_follows _ _ _ _ _ z.0 z.1 (omega arith)

pub returns-in-Give-clause-gets_on : goal.returns-in-Give-clause-gets_on
returns-in-Give-clause-gets_on c =
    let z = c.in_ok-begin_level-in-Give.ensures.gets_on in
    part_given _ _ _ _ _ z.0 z.1

pub returns-then-is_whole-clause-gets_on : goal.returns-then-is_whole-clause-gets_on
returns-then-is_whole-clause-gets_on c = on_ok_weaker c.give_again.result (λ h. omega (arith, h)) c.give_again.ensures.gets_on

pub returns-clause-gets_on : goal.returns-clause-gets_on
returns-clause-gets_on c = on_ok_weaker c.give.result (λ h. omega (arith, h)) c.give.ensures.gets_on
