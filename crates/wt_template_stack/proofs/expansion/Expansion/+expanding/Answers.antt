use Rattle.std.proofs.Common.{◌≡◌, ◌-◌, arith, Err, List, None, Ok, Option, Some, refl, rules, subst, sym, ◌∙◌, ℕ}
use Rattle.std.specs.Prelude.{Result, reverse}
use Rattle.wt_span.specs.declared.list.List.{List as Listed}
use Rattle.wt_span.specs.declared.form.Piece.{Piece}
use Rattle.wt_expand.specs.Expansion.{template_output}
use Rattle.wt_transclusion.specs.declared.refusal.ExpandRefusal.TheVariants as answer
use Rattle.wt_transclusion.specs.Answers.{IsCounted}
use Rattle.wt_transclusion.specs.Stores.{Concerns, Grows}
use Rattle.wt_transclusion.specs.Takings.{IsPage}
use Rattle.wt_transclusion.proofs.AskedLaws.{asks_none, asks_then}
use Rattle.wt_transclusion.proofs.GrowthLaws.{agrees_before, agrees_known, grows_none, grows_then}
use Rattle.wt_template_stack.specs.Ledgers.{AnswersAdvance, AnswersOutput, Progress, TakesStep, ledger, reading_of}
use Rattle.wt_template_stack.specs.Measures.{GetsOn, steps_left}
use Rattle.wt_template_stack.specs.declared.run.StepOutcome.{StepOutcome}
use Rattle.wt_template_stack.proofs.LedgerLaws.{page_unread, taking_refused}
use Rattle.wt_template_stack.proofs.ProgressLaws.{link_done, message_done, no_fault_counted, one_less, page_done, page_taken, page_untaken, paged_goes, paged_refused, progress_spent, step_handed, step_refused}
use Rattle.wt_template_stack.proofs.expansion.Expansion.+expanding.Goals as goal

some_is_there : (ps : Listed Piece) → ¬ (Some ps ≡ None)
some_is_there ps e = cc

pub advance-returns-in-Went-clause-grown : goal.advance-returns-in-Went-clause-grown
advance-returns-in-Went-clause-grown g t c = grows_none (g.F.Folder.pages c.args.folder.now) c.args.self.now.store

pub advance-returns-in-Done-clause-grown : goal.advance-returns-in-Done-clause-grown
advance-returns-in-Done-clause-grown g t c = grows_none (g.F.Folder.pages c.args.folder.now) c.args.self.now.store

pub advance-returns-in_err-given-in-Called-clause-given : goal.advance-returns-in_err-given-in-Called-clause-given
advance-returns-in_err-given-in-Called-clause-given g t c = λ pages page text mode frame before all told h.
    let self = c.args.self.now in
    let r = reading_of pages mode frame c.args.left self.names in
    let answered = g.F.Folder.answered c.args.folder.now in
    let w = subst (λ (k : StepOutcome). TakesStep pages page r text before all c.args.run.now self.store self.spent answered k) c.in-Called.is h in
    let e : c.from_residual.result ≡ Err c.in_err-given-in-Called.field-0.0 = search rules in
    let named = subst (λ x. Concerns (g.F.Folder.pages c.args.folder.now) pages c.page.new.self.store x) e told in
    subst (λ x. AnswersAdvance pages page r text before all c.args.run.now c.page.new.self.store c.page.new.self.spent
    (g.F.Folder.answered c.page.new.folder) x) (sym e)
    (page_untaken pages page text r before all c.args.run.now self.store self.spent answered
    (g.F.Folder.answered c.page.new.folder) c.in-Called.pending
    c.in_err-given-in-Called.field-0.0 w
    (c.in_err-given-in-Called.ensures.given pages page w.calls.frame w.met named w.stored w.calls.values))

pub advance-returns-in_err-give_page-in-Called-clause-given : goal.advance-returns-in_err-give_page-in-Called-clause-given
advance-returns-in_err-give_page-in-Called-clause-given g t c = λ pages page text mode frame before all told h.
    let self = c.args.self.now in
    let r = reading_of pages mode frame c.args.left self.names in
    let answered = g.F.Folder.answered c.args.folder.now in
    let w = subst (λ (k : StepOutcome). TakesStep pages page r text before all c.args.run.now self.store self.spent answered k) c.in-Called.is h in
    let e : c.from_residual-in_err-give_page-in-Called.result ≡ Err c.in_err-give_page-in-Called.field-0.0 = search rules in
    let now = c.page.new.self in
    let named = subst (λ x. Concerns (g.F.Folder.pages c.args.folder.now) pages now.store x) e told in
    let agrees = c.in_ok-given-in-Called.ensures.grown.agrees pages named (agrees_known pages w.met self.store w.stored) in
    let told_now = g.F.Folder.answered c.page.new.folder in
    let p = page_taken pages page text r before all c.args.run.now self.store now.store self.spent now.spent answered told_now c.in-Called.pending
    c.in_ok-given-in-Called.given w
    (c.in_ok-given-in-Called.ensures.given pages page w.calls.frame w.met agrees w.stored w.calls.values) in
    subst (λ x. AnswersAdvance pages page r text before all c.give_page.new.self now.store c.give_page.new.spent told_now x) (sym e)
    (paged_refused pages page text r before all c.args.run.now now.store now.spent told_now c.in-Called.pending c.in_ok-given-in-Called.given
    c.in_err-give_page-in-Called.field-0.0 p (c.in_err-give_page-in-Called.ensures.answer r text p.left p.returns))

pub advance-returns-in_err-give_page-in-Called-clause-count : goal.advance-returns-in_err-give_page-in-Called-clause-count
advance-returns-in_err-give_page-in-Called-clause-count g t c =
    let e : c.from_residual-in_err-give_page-in-Called.result ≡ Err c.in_err-give_page-in-Called.field-0.0 = search rules in
    let before = g.F.Folder.fault_count c.args.folder.now in
    let now = g.F.Folder.fault_count c.page.new.folder in
    subst (λ x. IsCounted before now x) (sym e)
    (no_fault_counted before now c.in_err-give_page-in-Called.field-0.0 c.in_err-give_page-in-Called.ensures.fault c.in_ok-given-in-Called.ensures.count)

pub advance-returns-in_ok-give_page-in-Called-clause-given : goal.advance-returns-in_ok-give_page-in-Called-clause-given
advance-returns-in_ok-give_page-in-Called-clause-given g t c = λ pages page text mode frame before all told h.
    let self = c.args.self.now in
    let r = reading_of pages mode frame c.args.left self.names in
    let answered = g.F.Folder.answered c.args.folder.now in
    let w = subst (λ (k : StepOutcome). TakesStep pages page r text before all c.args.run.now self.store self.spent answered k) c.in-Called.is h in
    let now = c.page.new.self in
    let told_now = g.F.Folder.answered c.page.new.folder in
    let p = page_taken pages page text r before all c.args.run.now self.store now.store self.spent now.spent answered told_now c.in-Called.pending
    c.in_ok-given-in-Called.given w
    (c.in_ok-given-in-Called.ensures.given pages page w.calls.frame w.met told w.stored w.calls.values) in
    paged_goes pages page text r before all c.args.run.now c.give_page.new.self now.store now.spent c.give_page.new.spent told_now c.in-Called.pending
    c.in_ok-given-in-Called.given p (c.in_ok-give_page-in-Called.ensures.answer r text p.left p.returns)

pub finish-steps-init : goal.finish-steps-init
finish-steps-init g t c = record {
  kept = refl;
  asks = asks_none (g.F.Folder.answered c.args.folder.now) (g.F.Folder.most_asked c.args.folder.now);
  count = refl;
  names = refl;
  grown = grows_none (g.F.Folder.pages c.args.folder.now) c.args.self.now.store;
  given = λ pages page text mode frame before all told v h.
      h;
}

pub finish-returns-in_err-turn-clause-given : goal.finish-returns-in_err-turn-clause-given
finish-returns-in_err-turn-clause-given g t c = λ pages page text mode frame before all told v h.
    let self = c.args.self.now in
    let r = reading_of pages mode frame c.args.left self.names in
    let answered = g.F.Folder.answered c.steps.folder in
    let e : c.from_residual.result ≡ Err c.in_err-turn.field-0.0 = search rules in
    let named = subst (λ x. Concerns (g.F.Folder.pages c.args.folder.now) pages c.steps.self.store x) e told in
    let agrees = c.steps.invariant.grown.agrees pages named (agrees_known pages h.met self.store h.stored) in
    let p = c.steps.invariant.given pages page text mode frame before all agrees v h in
    subst (λ x. AnswersOutput pages page before all c.steps.self.store c.step.new.spent answered x) (sym e)
    (step_refused pages page text r before all c.steps.run c.steps.self.store c.steps.self.spent answered c.in_err-turn.field-0.0 p
    (c.in_err-turn.ensures.answer r text p.total p.holding v
    (progress_spent pages page text r before all c.steps.run c.steps.self.store c.steps.self.spent answered p)))

pub finish-returns-in_err-turn-clause-count : goal.finish-returns-in_err-turn-clause-count
finish-returns-in_err-turn-clause-count g t c =
    let e : c.from_residual.result ≡ Err c.in_err-turn.field-0.0 = search rules in
    let before = g.F.Folder.fault_count c.args.folder.now in
    let now = g.F.Folder.fault_count c.steps.folder in
    subst (λ x. IsCounted before now x) (sym e)
    (no_fault_counted before now c.in_err-turn.field-0.0 c.in_err-turn.ensures.fault c.steps.invariant.count)

pub finish-returns-in_err-pieces-clause-given : goal.finish-returns-in_err-pieces-clause-given
finish-returns-in_err-pieces-clause-given g t c = λ pages page text mode frame before all told v h.
    let self = c.args.self.now in
    let r = reading_of pages mode frame c.args.left self.names in
    let answered = g.F.Folder.answered c.steps.folder in
    let e : c.from_residual-in_err-pieces.result ≡ Err c.in_err-pieces.field-0.0 = search rules in
    let named = subst (λ x. Concerns (g.F.Folder.pages c.args.folder.now) pages c.advance.new.self.store x) e told in
    let agrees = c.steps.invariant.grown.agrees pages named (agrees_known pages h.met self.store h.stored) in
    let p = c.steps.invariant.given pages page text mode frame before all agrees v h in
    let step = step_handed pages page text mode frame c.args.left self.names c.steps.self.names c.steps.invariant.names before all c.steps.run c.step.new.self
    c.steps.self.store c.steps.self.spent c.step.new.spent answered c.in_ok-turn.turn p (c.in_ok-turn.ensures.answer r text p.total p.holding v
    (progress_spent pages page text r before all c.steps.run c.steps.self.store c.steps.self.spent answered p)) in
    subst (λ x. AnswersOutput pages page before all c.advance.new.self.store c.advance.new.self.spent (g.F.Folder.answered c.advance.new.folder) x) (sym e)
    (c.in_err-pieces.ensures.given pages page text mode frame before all (c.steps.invariant.kept ∙ named) step)

pub finish-returns-in-Some-clause-given : goal.finish-returns-in-Some-clause-given
finish-returns-in-Some-clause-given g t c = λ pages page text mode frame before all told v h.
    let self = c.args.self.now in
    let r = reading_of pages mode frame c.args.left self.names in
    let answered = g.F.Folder.answered c.steps.folder in
    let agrees = agrees_before pages c.steps.self.store c.advance.new.self.store c.in_ok-pieces.ensures.grown.kept told in
    let p = c.steps.invariant.given pages page text mode frame before all agrees v h in
    let step = step_handed pages page text mode frame c.args.left self.names c.steps.self.names c.steps.invariant.names before all c.steps.run c.step.new.self
    c.steps.self.store c.steps.self.spent c.step.new.spent answered c.in_ok-turn.turn p (c.in_ok-turn.ensures.answer r text p.total p.holding v
    (progress_spent pages page text r before all c.steps.run c.steps.self.store c.steps.self.spent answered p)) in
    subst (λ (o : Option (Listed Piece)). AnswersAdvance pages page
    (reading_of pages mode frame c.args.left c.steps.self.names) text before all c.advance.new.run
    c.advance.new.self.store c.advance.new.self.spent (g.F.Folder.answered c.advance.new.folder) (Ok o)) c.in-Some.is
    (c.in_ok-pieces.ensures.given pages page text mode frame before all told step)

pub finish-returns-in-Some-clause-grown : goal.finish-returns-in-Some-clause-grown
finish-returns-in-Some-clause-grown g t c =
    grows_then (g.F.Folder.pages c.args.folder.now) c.args.self.now.store c.steps.self.store c.advance.new.self.store c.steps.invariant.grown
    (subst (λ o. Grows o c.steps.self.store c.advance.new.self.store) c.steps.invariant.kept c.in_ok-pieces.ensures.grown)

pub finish-steps-preserved : goal.finish-steps-preserved
finish-steps-preserved g t c = record {
  kept = c.in_ok-pieces.ensures.kept ∙ c.steps.invariant.kept;
  asks = asks_then _ _ _ _ _ _ c.steps.invariant.asks c.in_ok-pieces.ensures.asks;
  count = c.in_ok-pieces.ensures.count ∙ c.steps.invariant.count;
  names = c.in_ok-pieces.ensures.names ∙ c.steps.invariant.names;
  grown = grows_then (g.F.Folder.pages c.args.folder.now) c.args.self.now.store c.steps.self.store c.advance.new.self.store c.steps.invariant.grown
      (subst (λ o. Grows o c.steps.self.store c.advance.new.self.store) c.steps.invariant.kept c.in_ok-pieces.ensures.grown);
  given = λ pages page text mode frame before all told v h.
      let self = c.args.self.now in
      let r = reading_of pages mode frame c.args.left self.names in
      let answered = g.F.Folder.answered c.steps.folder in
      let agrees = agrees_before pages c.steps.self.store c.advance.new.self.store c.in_ok-pieces.ensures.grown.kept told in
      let p = c.steps.invariant.given pages page text mode frame before all agrees v h in
      let step = step_handed pages page text mode frame c.args.left self.names c.steps.self.names c.steps.invariant.names before all c.steps.run c.step.new.self
      c.steps.self.store c.steps.self.spent c.step.new.spent answered c.in_ok-turn.turn p (c.in_ok-turn.ensures.answer r text p.total p.holding v
      (progress_spent pages page text r before all c.steps.run c.steps.self.store c.steps.self.spent answered p)) in
      subst (λ (ns : List (List ℕ)). Progress pages page (reading_of pages mode frame c.args.left ns) text before all c.advance.new.run c.advance.new.self.store
      c.advance.new.self.spent (g.F.Folder.answered c.advance.new.folder)) c.steps.invariant.names
      (subst (λ (o : Option (Listed Piece)). AnswersAdvance pages page
      (reading_of pages mode frame c.args.left c.steps.self.names) text before all c.advance.new.run
      c.advance.new.self.store c.advance.new.self.spent (g.F.Folder.answered c.advance.new.folder) (Ok o)) c.in_default.is
      (c.in_ok-pieces.ensures.given pages page text mode frame before all told step));
}

pub page-returns-in_err-given-in-Page-clause-given : goal.page-returns-in_err-given-in-Page-clause-given
page-returns-in_err-given-in-Page-clause-given g t c = λ pages page frame met told s v.
    let self = c.args.self.now in
    let answered = g.F.Folder.answered c.args.folder.now in
    let named = g.F.Folder.answered c.take.new.folder in
    let e : c.from_residual-in_err-given-in-Page.result ≡ Err c.in_err-given-in-Page.field-0.0 = search rules in
    let named_pages = subst (λ y. Concerns (g.F.Folder.pages c.args.folder.now) pages c.finish.new.self.store y) e told in
    let agrees = c.in_ok-pieces.ensures.grown.agrees pages named_pages (agrees_known pages met self.store s) in
    let x : Result (Listed Piece) _ = Err c.in_err-given-in-Page.field-0.0 in
    let some = one_less c.args.left (c.args.left - 1) (c.in_ok-pieces.ensures.some_left (subst IsPage (sym c.in-Page.is) tt)) refl in
    let before = ledger self.spent met answered in
    let o = template_output pages c.args.left self.names c.args.pending.now.title frame in
    subst (λ y. AnswersOutput pages page before o c.finish.new.self.store c.finish.new.self.spent (g.F.Folder.answered c.finish.new.folder) y) (sym e)
    (page_done pages page self.spent c.finish.new.self.spent met answered named (g.F.Folder.answered c.finish.new.folder) c.args.left (c.args.left - 1)
    (reverse c.as_slice-names.result.now) self.names c.entered.new.names c.args.pending.now.title frame
    c.in_ok-pieces.field-0 c.in-Page.read
    c.in_ok-run-in-Page.run'
    c.take.new.store c.finish.new.self.store x c.as_slice-names.ensures c.in-Page.is some
    c.in_ok-run-in-Page.ensures.names (c.in_ok-pieces.ensures.taken pages met agrees s)
    (c.in_ok-pieces.ensures.named pages met s)
    c.in_ok-run-in-Page.ensures.run
    (λ bs l all begun. c.in_err-given-in-Page.ensures.given pages page bs _ frame l all (c.in_ok-pieces.ensures.kept ∙ named_pages) v begun))

pub page-returns-in_ok-given-in-Page-clause-given : goal.page-returns-in_ok-given-in-Page-clause-given
page-returns-in_ok-given-in-Page-clause-given g t c = λ pages page frame met told s v.
    let self = c.args.self.now in
    let answered = g.F.Folder.answered c.args.folder.now in
    let named = g.F.Folder.answered c.take.new.folder in
    let agrees = agrees_before pages c.take.new.store c.finish.new.self.store c.in_ok-given-in-Page.ensures.grown.kept told in
    let x : Result (Listed Piece) _ = Ok c.in_ok-given-in-Page.given in
    let some = one_less c.args.left (c.args.left - 1) (c.in_ok-pieces.ensures.some_left (subst IsPage (sym c.in-Page.is) tt)) refl in
    page_done pages page self.spent c.finish.new.self.spent met answered named (g.F.Folder.answered c.finish.new.folder) c.args.left (c.args.left - 1)
    (reverse c.as_slice-names.result.now) self.names c.entered.new.names c.args.pending.now.title frame
    c.in_ok-pieces.field-0 c.in-Page.read
    c.in_ok-run-in-Page.run'
    c.take.new.store c.finish.new.self.store x c.as_slice-names.ensures c.in-Page.is some
    c.in_ok-run-in-Page.ensures.names (c.in_ok-pieces.ensures.taken pages met agrees s)
    (c.in_ok-pieces.ensures.named pages met s)
    c.in_ok-run-in-Page.ensures.run
    (λ bs l all begun. c.in_ok-given-in-Page.ensures.given pages page bs _ frame l all told v begun)

pub page-returns-in_ok-given-in-Page-clause-grown : goal.page-returns-in_ok-given-in-Page-clause-grown
page-returns-in_ok-given-in-Page-clause-grown g t c =
    grows_then (g.F.Folder.pages c.args.folder.now) c.args.self.now.store c.take.new.store c.finish.new.self.store c.in_ok-pieces.ensures.grown
    (subst (λ o. Grows o c.take.new.store c.finish.new.self.store) c.in_ok-pieces.ensures.kept c.in_ok-given-in-Page.ensures.grown)

pub page-returns-in-Message-clause-given : goal.page-returns-in-Message-clause-given
page-returns-in-Message-clause-given g t c = λ pages page frame met told s v.
    let self = c.args.self.now in
    message_done pages page self.spent met (g.F.Folder.answered c.args.folder.now) (g.F.Folder.answered c.take.new.folder) c.args.left
    (reverse c.as_slice-names.result.now) self.names
    c.args.pending.now.title frame c.in_ok-pieces.field-0 c.in-Message.pieces c.take.new.store c.as_slice-names.ensures c.in-Message.is
    (c.in_ok-pieces.ensures.taken pages met told s) (c.in_ok-pieces.ensures.named pages met s)

pub page-returns-in-Link-clause-given : goal.page-returns-in-Link-clause-given
page-returns-in-Link-clause-given g t c = λ pages page frame met told s v.
    let self = c.args.self.now in
    link_done pages page self.spent met (g.F.Folder.answered c.args.folder.now) (g.F.Folder.answered c.take.new.folder) c.args.left
    (reverse c.as_slice-names.result.now) self.names
    c.args.pending.now.title frame c.in_ok-pieces.field-0 c.in-Link.pieces c.take.new.store c.as_slice-names.ensures c.in-Link.is
    (c.in_ok-pieces.ensures.taken pages met told s) (c.in_ok-pieces.ensures.named pages met s)

pub advance-returns-in-Went-clause-asks : goal.advance-returns-in-Went-clause-asks
advance-returns-in-Went-clause-asks g t c =
    asks_none (g.F.Folder.answered c.args.folder.now) (g.F.Folder.most_asked c.args.folder.now)

pub advance-returns-in-Done-clause-asks : goal.advance-returns-in-Done-clause-asks
advance-returns-in-Done-clause-asks g t c =
    asks_none (g.F.Folder.answered c.args.folder.now) (g.F.Folder.most_asked c.args.folder.now)

pub finish-returns-in_err-pieces-clause-asks : goal.finish-returns-in_err-pieces-clause-asks
finish-returns-in_err-pieces-clause-asks g t c =
    asks_then _ _ _ _ _ _ c.steps.invariant.asks c.in_err-pieces.ensures.asks

pub finish-returns-in-Some-clause-asks : goal.finish-returns-in-Some-clause-asks
finish-returns-in-Some-clause-asks g t c =
    asks_then _ _ _ _ _ _ c.steps.invariant.asks c.in_ok-pieces.ensures.asks

pub page-returns-in_err-given-in-Page-clause-asks : goal.page-returns-in_err-given-in-Page-clause-asks
page-returns-in_err-given-in-Page-clause-asks g t c =
    asks_then _ _ _ _ _ _ c.in_ok-pieces.ensures.asks c.in_err-given-in-Page.ensures.asks

pub page-returns-in_ok-given-in-Page-clause-asks : goal.page-returns-in_ok-given-in-Page-clause-asks
page-returns-in_ok-given-in-Page-clause-asks g t c =
    asks_then _ _ _ _ _ _ c.in_ok-pieces.ensures.asks c.in_ok-given-in-Page.ensures.asks

pub page-returns-in_err-pieces-clause-given : goal.page-returns-in_err-pieces-clause-given
page-returns-in_err-pieces-clause-given g t c = λ pages page frame met told s v.
    let self = c.args.self.now in
    let title = c.args.pending.now.title in
    let answered = g.F.Folder.answered c.args.folder.now in
    let before = ledger self.spent met answered in
    let x = c.in_err-pieces.field-0.0 in
    let e : c.from_residual.result ≡ Err x = search rules in
    let named = subst (λ y. Concerns (g.F.Folder.pages c.args.folder.now) pages c.take.new.store y) e told in
    subst (λ y. AnswersOutput pages page before (template_output pages c.args.left self.names title frame)
    c.take.new.store self.spent
    (g.F.Folder.answered c.take.new.folder) y) (sym e)
    (taking_refused pages page self.spent met answered (g.F.Folder.answered c.take.new.folder) c.args.left
    (reverse c.as_slice-names.result.now) self.names
    title frame x c.take.new.store c.as_slice-names.ensures (c.in_err-pieces.ensures.taken pages met named s)
    (c.in_err-pieces.ensures.named pages met s))

pub page-returns-in_err-run-in-Page-clause-given : goal.page-returns-in_err-run-in-Page-clause-given
page-returns-in_err-run-in-Page-clause-given g t c = λ pages page frame met told s v.
    let self = c.args.self.now in
    let title = c.args.pending.now.title in
    let answered = g.F.Folder.answered c.args.folder.now in
    let before = ledger self.spent met answered in
    let told_now = g.F.Folder.answered c.take.new.folder in
    let e : c.from_residual-in_err-run-in-Page.result ≡ Err answer.NoMemory = search rules in
    let named = subst (λ y. Concerns (g.F.Folder.pages c.args.folder.now) pages c.take.new.store y) e told in
    let agrees = c.in_ok-pieces.ensures.grown.agrees pages named (agrees_known pages met self.store s) in
    subst (λ y. AnswersOutput pages page before (template_output pages c.args.left self.names title frame)
    c.take.new.store self.spent told_now y) (sym e)
    (page_unread pages page self.spent met answered told_now c.args.left (reverse c.as_slice-names.result.now)
    self.names title frame
    c.in_ok-pieces.field-0 c.in-Page.read c.take.new.store c.as_slice-names.ensures c.in-Page.is
    (c.in_ok-pieces.ensures.taken pages met agrees s)
    (c.in_ok-pieces.ensures.named pages met s))

pub finish-steps-smaller : goal.finish-steps-smaller
finish-steps-smaller g t c = c.in_ok-pieces.ensures.gets_on (steps_left c.steps.run) c.in_ok-turn.ensures.gets_on c.in_default.is

pub advance-returns-in-Went-clause-gets_on : goal.advance-returns-in-Went-clause-gets_on
advance-returns-in-Went-clause-gets_on g t c = λ before h none.
    subst (λ (k : StepOutcome). GetsOn before (steps_left c.args.run.now) k) c.in-Went.is h

pub advance-returns-in-Done-clause-gets_on : goal.advance-returns-in-Done-clause-gets_on
advance-returns-in-Done-clause-gets_on g t c = λ before h none. absurd (some_is_there _ none)

pub advance-returns-in_ok-give_page-in-Called-clause-gets_on : goal.advance-returns-in_ok-give_page-in-Called-clause-gets_on
advance-returns-in_ok-give_page-in-Called-clause-gets_on g t c = λ before h none.
    let less = subst (λ (k : StepOutcome). GetsOn before (steps_left c.args.run.now) k) c.in-Called.is h in
    omega (arith, less, c.in_ok-give_page-in-Called.ensures.gets_on)
