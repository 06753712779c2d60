use Rattle.std.proofs.Common.{◌≡◌, ◌∷◌, [], Err, Some, Ok, ap, rules, subst, sym}
use Rattle.std.specs.Prelude.{Result}
use Rattle.std.proofs.Math.Nat.{le_of_lt}
use Rattle.wt_span.specs.declared.form.Mode.TheVariants as mode
use Rattle.wt_span.specs.Items.{items}
use Rattle.wt_span.specs.Slice.{start_of, end_of}
use Rattle.wt_expand.specs.PageCalls.{outer}
use Rattle.wt_transclusion.specs.declared.refusal.ExpandRefusal.{ExpandRefusal}
use Rattle.wt_transclusion.specs.declared.refusal.ExpandRefusal.TheVariants as answer
use Rattle.wt_transclusion.specs.Stores.{Concerns}
use Rattle.wt_transclusion.proofs.AskedLaws.{asks_none}
use Rattle.wt_transclusion.proofs.GrowthLaws.{agrees_known}
use Rattle.wt_template_stack.specs.Ledgers.{AnswersOutput, Refuses, ledger, reading_of}
use Rattle.wt_template_stack.specs.Runs.{page_called}
use Rattle.wt_expansion.specs.Calls.{outer_of}
use Rattle.wt_expansion.specs.Walks.{Adds, AnswersWalk, page_stretch, page_work_at}
use Rattle.wt_expansion.proofs.Refusals.{given_stops, none_walked}
use Rattle.wt_expansion.proofs.WalkCalls.{page_walked, source_there, target_first}
use Rattle.wt_expansion.proofs.walk.PageWalk.page.Goals as goal

pub returns-in_err-given-clause-given : goal.returns-in_err-given-clause-given
returns-in_err-given-clause-given g c = λ pages page met s n concerns free is.
    let self = c.args.self.now in
    let b = c.args.call in
    let l = ledger self.expansion.spent met (g.F.Folder.answered c.args.folder.now) in
    let e : c.from_residual-in_err-given.result ≡ Err c.in_err-given.field-0.0 = search rules in
    let told = subst (λ (x : Result Unit ExpandRefusal). Concerns (g.F.Folder.pages c.args.folder.now) pages c.call_page.new.self.store x) e concerns in
    let h = c.in_err-given.ensures.given pages page page [] met n.is.at s n.is told free.stored c.new-values.ensures n.reading (le_of_lt (target_first page b n.is)) in
    let answered = g.F.Folder.answered c.call_page.new.folder in
    let named = subst (λ ns. Refuses pages page l
    (page_called (reading_of pages mode.Page [] 40 ns) page b n.is c.args.reader.cursor.at_start
    c.args.title).work answered c.in_err-given.field-0.0)
    free.names h in
    let own = subst (λ x. Refuses pages page l
    (page_work_at pages page b n.is x c.args.title) answered c.in_err-given.field-0.0) n.reading.starts named
    in
    subst (λ x. AnswersWalk pages page l (page_stretch pages page b n.is s c.args.title)
    (page_work_at pages page b n.is s c.args.title) n.is.at b.at.end self.found self.found
    c.call_page.new.self.store c.call_page.new.self.spent answered x) (sym e) own

pub returns-clause-given : goal.returns-clause-given
returns-clause-given g c = λ pages page met s n concerns free is.
    let self = c.args.self.now in
    let b = c.args.call in
    let source = c.slice-source.result in
    let cut = source_there page b c.args.reader s n in
    let given = c.in_ok-given.given in
    let l = ledger self.expansion.spent met (g.F.Folder.answered c.args.folder.now) in
    let now = c.call_page.new.self in
    let answered = g.F.Folder.answered c.call_page.new.folder in
    let h = c.in_ok-given.ensures.given pages page page [] met n.is.at s n.is concerns free.stored c.new-values.ensures n.reading (le_of_lt (target_first page b n.is)) in
    let named = subst (λ ns. AnswersOutput pages page l
    (page_called (reading_of pages mode.Page [] 40 ns) page b n.is c.args.reader.cursor.at_start c.args.title) now.store now.spent answered (Ok given))
    free.names h in
    let own = subst (λ x. AnswersOutput pages page l
    (page_called (reading_of pages mode.Page [] 40 []) page b n.is x c.args.title) now.store now.spent answered (Ok given)) n.reading.starts named in
    page_walked pages page l b c.args.reader s n c.args.title c.in_ok-href.href source self.found c.push_outer.new.self now.store now.spent answered given own
    (ap Some c.in_ok-href.ensures) (c.slice-source.ensures.start cut) (c.slice-source.ensures.end cut) (c.slice-source.ensures.bytes cut)
    (λ some. subst (λ qs. Adds self.found c.push_outer.new.self (start_of source) (outer (outer_of source b (Some c.in_ok-href.href)) (items qs) ∷ [])
    (end_of source)) c.as_slice.ensures
    (c.in_ok-push_outer.ensures some))

pub returns-in_err-push_outer-clause-given : goal.returns-in_err-push_outer-clause-given
returns-in_err-push_outer-clause-given g c = λ pages page met s n concerns free is.
    let self = c.args.self.now in
    let b = c.args.call in
    let l = ledger self.expansion.spent met (g.F.Folder.answered c.args.folder.now) in
    let now = c.call_page.new.self in
    let answered = g.F.Folder.answered c.call_page.new.folder in
    let e : c.from_residual-in_err-push_outer.result ≡ Err answer.NoMemory = search rules in
    let told = subst (λ (x : Result Unit ExpandRefusal). Concerns
    (g.F.Folder.pages c.args.folder.now) pages now.store x) e concerns in
    let agrees = c.in_ok-given.ensures.grown.agrees pages told
    (agrees_known pages met self.expansion.store free.stored) in
    let h = c.in_ok-given.ensures.given pages page page [] met n.is.at s n.is agrees free.stored
    c.new-values.ensures n.reading (le_of_lt (target_first page b n.is)) in
    let stops = given_stops pages page l
    (page_called (reading_of pages mode.Page [] 40 self.expansion.names) page b n.is
    c.args.reader.cursor.at_start c.args.title) now.store now.spent answered
    c.in_ok-given.given h in
    let named = subst (λ ns. Refuses pages page l
    (page_called (reading_of pages mode.Page [] 40 ns) page b n.is c.args.reader.cursor.at_start
    c.args.title).work answered answer.NoMemory) free.names
    stops in
    let own = subst (λ x. Refuses pages page l
    (page_work_at pages page b n.is x c.args.title) answered answer.NoMemory) n.reading.starts named in
    subst (λ x. AnswersWalk pages page l (page_stretch pages page b n.is s c.args.title)
    (page_work_at pages page b n.is s c.args.title) n.is.at b.at.end self.found c.push_outer.new.self
    now.store now.spent answered x) (sym e) own

pub returns-in_err-href-clause-given : goal.returns-in_err-href-clause-given
returns-in_err-href-clause-given g c = λ pages page met s n concerns free is.
    let x = c.args.self.now in
    let e : c.from_residual.result ≡ Err answer.NoMemory = search rules in
    none_walked pages page x.expansion.spent met (g.F.Folder.answered c.args.folder.now)
    (page_stretch pages page c.args.call n.is s c.args.title)
    (page_work_at pages page c.args.call n.is s c.args.title) n.is.at c.args.call.at.end x.found x.found
    x.expansion.store x.expansion.spent
    c.from_residual.result e

pub returns-in_err-href-clause-asks : goal.returns-in_err-href-clause-asks
returns-in_err-href-clause-asks g c = asks_none (g.F.Folder.answered c.args.folder.now)
    (g.F.Folder.most_asked c.args.folder.now)
