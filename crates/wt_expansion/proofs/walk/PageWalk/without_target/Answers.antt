use Rattle.std.proofs.Common.{◌≡◌, ◌∷◌, [], Err, None, Ok, rules, subst, sym}
use Rattle.std.specs.Prelude.{Result}
use Rattle.wt_span.specs.declared.form.Mode.TheVariants as mode
use Rattle.wt_span.specs.Braces.{call}
use Rattle.wt_span.specs.Items.{items}
use Rattle.wt_span.specs.Slice.{start_of, end_of}
use Rattle.wt_expand.specs.PageCalls.{outer}
use Rattle.wt_transclusion.specs.declared.refusal.ExpandRefusal.{ExpandRefusal}
use Rattle.wt_transclusion.specs.declared.refusal.ExpandRefusal.TheVariants as answer
use Rattle.wt_transclusion.specs.Steps.{given_from}
use Rattle.wt_transclusion.specs.Stores.{Concerns}
use Rattle.wt_transclusion.proofs.GrowthLaws.{agrees_known}
use Rattle.wt_template_stack.specs.Ledgers.{AnswersOutput, Refuses, ledger, reading_of}
use Rattle.wt_expansion.specs.Calls.{outer_of}
use Rattle.wt_expansion.specs.Walks.{Adds, AnswersWalk, call_stretches_at, call_work}
use Rattle.wt_expansion.proofs.Refusals.{given_stops}
use Rattle.wt_expansion.proofs.WalkCalls.{refused_one, source_there, unlinked_walked}
use Rattle.wt_expansion.proofs.walk.PageWalk.without_target.Goals as goal

pub returns-in_err-given-clause-given : goal.returns-in_err-given-clause-given
returns-in_err-given-clause-given g c = λ pages page met s n concerns free is.
    let self = c.args.self.now in
    let b = c.args.call in
    let l = ledger self.expansion.spent met (g.F.Folder.answered c.args.folder.now) in
    let e : c.from_residual.result ≡ Err c.in_err-given.field-0.0 = search rules in
    let told = subst (λ (x : Result Unit ExpandRefusal). Concerns (g.F.Folder.pages c.args.folder.now) pages c.stretch.new.self.store x) e concerns in
    let h = c.in_err-given.ensures.given pages page page [] met n.is.at s (call n.is.braces n.is.inside ∷ []) told free.stored c.new-values.ensures n.reading
    n.alone in
    let answered = g.F.Folder.answered c.stretch.new.folder in
    let own = subst (λ ns. Refuses pages page l
    (given_from (reading_of pages mode.Page [] 40 ns) s page n.is.at (call n.is.braces n.is.inside ∷ [])).work
    answered c.in_err-given.field-0.0) free.names h in
    subst (λ x. AnswersWalk pages page l (call_stretches_at pages page b n.is s) (call_work pages page b n.is s) n.is.at b.at.end self.found self.found
    c.stretch.new.self.store c.stretch.new.self.spent answered x) (sym e)
    (refused_one pages page l b n.is s answered c.in_err-given.field-0.0 own)

pub returns-clause-given : goal.returns-clause-given
returns-clause-given g c = λ pages page met s n concerns free is.
    let self = c.args.self.now in
    let b = c.args.call in
    let source = c.slice-source.result in
    let cut = source_there page b c.args.reader s n in
    let given = c.in_ok-given.given in
    let l = ledger self.expansion.spent met (g.F.Folder.answered c.args.folder.now) in
    let now = c.stretch.new.self in
    let answered = g.F.Folder.answered c.stretch.new.folder in
    let h = c.in_ok-given.ensures.given pages page page [] met n.is.at s (call n.is.braces n.is.inside ∷ []) concerns free.stored c.new-values.ensures n.reading
    n.alone in
    let own = subst (λ ns. AnswersOutput pages page l
    (given_from (reading_of pages mode.Page [] 40 ns) s page n.is.at (call n.is.braces n.is.inside ∷ [])) now.store now.spent answered (Ok given))
    free.names h in
    unlinked_walked pages page l b c.args.reader s n source self.found c.push_outer.new.self now.store now.spent answered given is own
    (c.slice-source.ensures.start cut) (c.slice-source.ensures.end cut) (c.slice-source.ensures.bytes cut)
    (λ some. subst (λ qs. Adds self.found c.push_outer.new.self (start_of source) (outer (outer_of source b None) (items qs) ∷ []) (end_of source))
    c.as_slice.ensures (c.in_ok-push_outer.ensures some))

pub returns-in_err-push_outer-clause-given : goal.returns-in_err-push_outer-clause-given
returns-in_err-push_outer-clause-given g c = λ pages page met s n concerns free is.
    let self = c.args.self.now in
    let b = c.args.call in
    let l = ledger self.expansion.spent met (g.F.Folder.answered c.args.folder.now) in
    let now = c.stretch.new.self in
    let answered = g.F.Folder.answered c.stretch.new.folder in
    let e : c.from_residual-in_err-push_outer.result ≡ Err answer.NoMemory = search rules in
    let told = subst (λ (x : Result Unit ExpandRefusal). Concerns
    (g.F.Folder.pages c.args.folder.now) pages now.store x) e concerns in
    let agrees = c.in_ok-given.ensures.grown.agrees pages told
    (agrees_known pages met self.expansion.store free.stored) in
    let h = c.in_ok-given.ensures.given pages page page [] met n.is.at s
    (call n.is.braces n.is.inside ∷ []) agrees free.stored c.new-values.ensures n.reading
    n.alone in
    let own = subst (λ ns. AnswersOutput pages page l
    (given_from (reading_of pages mode.Page [] 40 ns) s page n.is.at (call n.is.braces n.is.inside ∷ []))
    now.store now.spent answered
    (Ok c.in_ok-given.given)) free.names h in
    subst (λ x. AnswersWalk pages page l (call_stretches_at pages page b n.is s)
    (call_work pages page b n.is s) n.is.at b.at.end self.found
    c.push_outer.new.self now.store now.spent answered x) (sym e)
    (refused_one pages page l b n.is s answered answer.NoMemory
    (given_stops pages page l _ now.store now.spent answered c.in_ok-given.given own))
