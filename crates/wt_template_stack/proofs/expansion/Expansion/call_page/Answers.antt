use Rattle.std.proofs.Common.{◌≡◌, Err, List, Ok, Option, [], refl, rules, subst, sym, ℕ}
use Rattle.std.specs.Prelude.{OnOk}
use Rattle.wt_span.specs.declared.list.List.{List as Listed}
use Rattle.wt_span.specs.declared.form.Piece.{Piece}
use Rattle.wt_expand.specs.Expansion.{later_parts}
use Rattle.wt_transclusion.specs.declared.refusal.ExpandRefusal.TheVariants as answer
use Rattle.wt_transclusion.specs.Stores.{Concerns, Grows}
use Rattle.wt_transclusion.proofs.AskedLaws.{asks_none, asks_then}
use Rattle.wt_transclusion.proofs.GrowthLaws.{agrees_between, agrees_known, grows_through}
use Rattle.wt_template_stack.specs.Accounts.{undone}
use Rattle.wt_template_stack.specs.Calls.{parts_of_call}
use Rattle.wt_template_stack.specs.Ledgers.{AnswersAdvance, AnswersOutput, Progress, ledger, reading_of}
use Rattle.wt_template_stack.specs.Readers.{IsReading}
use Rattle.wt_template_stack.specs.Rests.{after_values}
use Rattle.wt_template_stack.specs.Runs.{page_called}
use Rattle.wt_template_stack.specs.declared.reader.Reader.{Reader}
use Rattle.wt_template_stack.proofs.CallSteps.{page_alone}
use Rattle.wt_template_stack.proofs.LedgerLaws.{by_none, cost_refuses, memory_answered}
use Rattle.wt_template_stack.proofs.ProgressLaws.{page_begun, page_does, part_step}
use Rattle.wt_template_stack.proofs.RestLaws.{begun_refused, begun_spent}
use Rattle.wt_template_stack.proofs.expansion.Expansion.call_page.Goals as goal

pub returns-in_err-pieces-clause-given : goal.returns-in_err-pieces-clause-given
returns-in_err-pieces-clause-given g c = λ pages page t frame met p s b told st v reading low.
    let self = c.args.self.now in
    let r = reading_of pages c.args.scope.mode frame c.args.scope.left self.names in
    let answered = g.F.Folder.answered c.args.folder.now in
    let o = page_begun self.spent (after_values r c.args.called.at_start c.args.called.title [] 1 (later_parts (parts_of_call r t c.args.called.call b))) in
    let all = page_called r t c.args.called.call b c.args.called.at_start c.args.called.title in
    let first = page_alone r t c.new-run.result c.args.called.call c.args.called.at_start c.args.called.title c.new-pending.result b p s o refl
    (subst (λ (x : Reader). IsReading c.args.scope.mode t x p s) (sym c.new-run.ensures.reader) reading) c.new-run.ensures.mode c.new-run.ensures.levels low
    (record {
      call = c.new-pending.ensures.call;
      at_start = c.new-pending.ensures.at_start;
      title_is = c.new-pending.ensures.title;
      part = c.new-pending.ensures.part;
      number = c.new-pending.ensures.number;
      values = c.new-pending.ensures.values;
    }) in
    let step = part_step pages page t r self.spent c.charge.new.spent met answered all o c.next_part.new.self self.store c.in_ok-turn.turn st
    (begun_spent self.spent c.charge.new.spent (undone self.spent all) o (page_does self.spent all o.left refl)
    c.in_ok-charge.ensures.large c.in_ok-charge.ensures.spent) (c.in_ok-turn.ensures.answer r t o first) in
    let before = ledger self.spent met answered in
    let e : c.from_residual-in_err-pieces.result ≡ Err c.in_err-pieces.field-0.0 = search rules in
    let named = subst (λ x. Concerns (g.F.Folder.pages c.args.folder.now) pages c.advance.new.self.store x) e told in
    subst (λ x. AnswersOutput pages page before all c.advance.new.self.store c.advance.new.self.spent (g.F.Folder.answered c.advance.new.folder) x) (sym e)
    (c.in_err-pieces.ensures.given pages page t c.args.scope.mode frame before all named step)

pub returns-in-Some-clause-given : goal.returns-in-Some-clause-given
returns-in-Some-clause-given g c = λ pages page t frame met p s b told st v reading low.
    let self = c.args.self.now in
    let r = reading_of pages c.args.scope.mode frame c.args.scope.left self.names in
    let answered = g.F.Folder.answered c.args.folder.now in
    let o = page_begun self.spent (after_values r c.args.called.at_start c.args.called.title [] 1 (later_parts (parts_of_call r t c.args.called.call b))) in
    let all = page_called r t c.args.called.call b c.args.called.at_start c.args.called.title in
    let first = page_alone r t c.new-run.result c.args.called.call c.args.called.at_start c.args.called.title c.new-pending.result b p s o refl
    (subst (λ (x : Reader). IsReading c.args.scope.mode t x p s) (sym c.new-run.ensures.reader) reading) c.new-run.ensures.mode c.new-run.ensures.levels low
    (record {
      call = c.new-pending.ensures.call;
      at_start = c.new-pending.ensures.at_start;
      title_is = c.new-pending.ensures.title;
      part = c.new-pending.ensures.part;
      number = c.new-pending.ensures.number;
      values = c.new-pending.ensures.values;
    }) in
    let step = part_step pages page t r self.spent c.charge.new.spent met answered all o c.next_part.new.self self.store c.in_ok-turn.turn st
    (begun_spent self.spent c.charge.new.spent (undone self.spent all) o (page_does self.spent all o.left refl)
    c.in_ok-charge.ensures.large c.in_ok-charge.ensures.spent) (c.in_ok-turn.ensures.answer r t o first) in
    let before = ledger self.spent met answered in
    subst (λ (x : Option (Listed Piece)). AnswersAdvance pages page r t before all c.advance.new.run c.advance.new.self.store c.advance.new.self.spent
    (g.F.Folder.answered c.advance.new.folder) (Ok x)) c.in-Some.is (c.in_ok-pieces.ensures.given pages page t c.args.scope.mode frame before all told step)

pub returns-clause-given : goal.returns-clause-given
returns-clause-given g c = λ pages page t frame met p s b told st v reading low.
    let self = c.args.self.now in
    let r = reading_of pages c.args.scope.mode frame c.args.scope.left self.names in
    let answered = g.F.Folder.answered c.args.folder.now in
    let o = page_begun self.spent (after_values r c.args.called.at_start c.args.called.title [] 1 (later_parts (parts_of_call r t c.args.called.call b))) in
    let all = page_called r t c.args.called.call b c.args.called.at_start c.args.called.title in
    let first = page_alone r t c.new-run.result c.args.called.call c.args.called.at_start c.args.called.title c.new-pending.result b p s o refl
    (subst (λ (x : Reader). IsReading c.args.scope.mode t x p s) (sym c.new-run.ensures.reader) reading) c.new-run.ensures.mode c.new-run.ensures.levels low
    (record {
      call = c.new-pending.ensures.call;
      at_start = c.new-pending.ensures.at_start;
      title_is = c.new-pending.ensures.title;
      part = c.new-pending.ensures.part;
      number = c.new-pending.ensures.number;
      values = c.new-pending.ensures.values;
    }) in
    let step = part_step pages page t r self.spent c.charge.new.spent met answered all o c.next_part.new.self self.store c.in_ok-turn.turn st
    (begun_spent self.spent c.charge.new.spent (undone self.spent all) o (page_does self.spent all o.left refl)
    c.in_ok-charge.ensures.large c.in_ok-charge.ensures.spent) (c.in_ok-turn.ensures.answer r t o first) in
    let before = ledger self.spent met answered in
    let now = c.advance.new.self in
    let told_now = g.F.Folder.answered c.advance.new.folder in
    let after = subst (λ o. OnOk c.finish.result (Grows o now.store c.finish.new.self.store)) c.in_ok-pieces.ensures.kept c.finish.ensures.grown in
    let agrees = agrees_between (g.F.Folder.pages c.args.folder.now) pages self.store now.store c.finish.new.self.store c.finish.result
    c.in_ok-pieces.ensures.grown after (agrees_known pages met self.store st) told in
    let left = subst (λ (x : Option (Listed Piece)). AnswersAdvance pages page r t before all c.advance.new.run now.store now.spent told_now (Ok x))
    c.in_default.is
    (c.in_ok-pieces.ensures.given pages page t c.args.scope.mode frame before all agrees step) in
    let there = subst (λ (ns : List (List ℕ)). Progress pages page
    (reading_of pages c.args.scope.mode frame c.args.scope.left ns) t before all c.advance.new.run now.store now.spent told_now)
    (sym c.in_ok-pieces.ensures.names) left in
    c.finish.ensures.given pages page t c.args.scope.mode frame before all
    (subst (λ o. Concerns o pages c.finish.new.self.store c.finish.result) (sym c.in_ok-pieces.ensures.kept) told) v there

pub returns-clause-grown : goal.returns-clause-grown
returns-clause-grown g c =
    let now = c.advance.new.self.store in
    grows_through (g.F.Folder.pages c.args.folder.now) c.args.self.now.store now c.finish.new.self.store c.finish.result c.in_ok-pieces.ensures.grown
    (subst (λ o. OnOk c.finish.result (Grows o now c.finish.new.self.store)) c.in_ok-pieces.ensures.kept c.finish.ensures.grown)

pub returns-in_err-charge-clause-given : goal.returns-in_err-charge-clause-given
returns-in_err-charge-clause-given g c = λ pages page t frame met p s b told st v reading low.
    let self = c.args.self.now in
    let r = reading_of pages c.args.scope.mode frame c.args.scope.left self.names in
    let answered = g.F.Folder.answered c.args.folder.now in
    let o = after_values r c.args.called.at_start c.args.called.title [] 1 (later_parts (parts_of_call r t c.args.called.call b)) in
    let all = page_called r t c.args.called.call b c.args.called.at_start c.args.called.title in
    let before = ledger self.spent met answered in
    let e : c.from_residual.result ≡ Err c.in_err-charge.field-0.0 = search rules in
    subst (λ x. AnswersOutput pages page before all self.store c.charge.new.spent answered x) (sym e)
    (cost_refuses pages page before all.work self.spent met answered (undone self.spent all) c.in_err-charge.field-0.0 refl (by_none pages page before all.work)
    (begun_refused self.spent (undone self.spent all) (page_begun self.spent o) c.in_err-charge.field-0.0 (page_does self.spent all o refl)
    c.in_err-charge.ensures.large c.in_err-charge.ensures.refusal))

pub returns-in_err-turn-clause-given : goal.returns-in_err-turn-clause-given
returns-in_err-turn-clause-given g c = λ pages page t frame met p s b told st v reading low.
    let self = c.args.self.now in
    let r = reading_of pages c.args.scope.mode frame c.args.scope.left self.names in
    let before = ledger self.spent met (g.F.Folder.answered c.args.folder.now) in
    let e : c.from_residual-in_err-turn.result ≡ Err answer.NoMemory = search rules in
    memory_answered pages page before (page_called r t c.args.called.call b c.args.called.at_start c.args.called.title) self.store
    c.charge.new.spent
    c.from_residual-in_err-turn.result e

pub returns-clause-asks : goal.returns-clause-asks
returns-clause-asks g c = asks_then _ _ _ _ _ _ c.in_ok-pieces.ensures.asks c.finish.ensures.asks

pub returns-in_err-charge-clause-asks : goal.returns-in_err-charge-clause-asks
returns-in_err-charge-clause-asks g c =
    asks_none (g.F.Folder.answered c.args.folder.now) (g.F.Folder.most_asked c.args.folder.now)

pub returns-in_err-turn-clause-asks : goal.returns-in_err-turn-clause-asks
returns-in_err-turn-clause-asks g c =
    asks_none (g.F.Folder.answered c.args.folder.now) (g.F.Folder.most_asked c.args.folder.now)
