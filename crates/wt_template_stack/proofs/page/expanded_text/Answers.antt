use Rattle.std.proofs.Common.{◌≡◌, Err, Ok, [], ap, rules, subst, sym, ◌∙◌}
use Rattle.std.specs.Prelude.{IfErr}
use Rattle.wt_span.specs.Items.{items}
use Rattle.wt_expand.specs.Expansion.{page_work}
use Rattle.wt_expand.specs.Texts.{shown_text}
use Rattle.wt_expand.specs.Work.{first_refusal}
use Rattle.wt_expand.proofs.Given.{shows_what_is_given}
use Rattle.wt_transclusion.specs.Answers.{IsRefused}
use Rattle.wt_transclusion.specs.declared.refusal.ExpandRefusal.TheVariants as answer
use Rattle.wt_transclusion.specs.Stops.{Stops}
use Rattle.wt_transclusion.proofs.AskedLaws.{asks_none}
use Rattle.wt_transclusion.proofs.GrowthLaws.{agrees_known}
use Rattle.wt_transclusion.proofs.StopLaws.{stops_refused}
use Rattle.wt_template_stack.proofs.PageLaws.{begun_at_first, page_shown, page_stopped, page_stops_end, refusal_is}
use Rattle.wt_template_stack.proofs.page.expanded_text.Goals as goal

pub returns-in_err-read-clause-refused : goal.returns-in_err-read-clause-refused
returns-in_err-read-clause-refused g c = λ pages told.
    let bytes = c.args.page.now in
    let e : c.from_residual.result ≡ Err c.in_err-read.field-0.0 = search rules in
    subst (λ x. IfErr x (IsRefused (first_refusal pages bytes (page_work pages bytes)))) (sym e) (c.in_err-read.ensures.refused pages)

pub returns-in_err-read-clause-stops : goal.returns-in_err-read-clause-stops
returns-in_err-read-clause-stops g c = λ pages told.
    let bytes = c.args.page.now in
    let answered = g.F.Folder.answered c.args.folder.now in
    let e : c.from_residual.result ≡ Err c.in_err-read.field-0.0 = search rules in
    subst (λ x. IfErr x (Stops pages bytes 0 [] (page_work pages bytes) answered answered)) (sym e) (c.in_err-read.ensures.stops pages [] answered)

pub returns-in_err-pieces-clause-refused : goal.returns-in_err-pieces-clause-refused
returns-in_err-pieces-clause-refused g c = λ pages told.
    let bytes = c.args.page.now in
    let new = c.new-expansion.result in
    let e : c.from_residual-in_err-pieces.result ≡ Err c.in_err-pieces.field-0.0 = search rules in
    let given = begun_at_first pages bytes (g.F.Folder.answered c.args.folder.now)
    (g.F.Folder.answered c.text.new.folder) new.spent c.text.new.self.spent
    new.names c.text.new.self.store (Err c.in_err-pieces.field-0.0) c.new-expansion.ensures.spent
    c.new-expansion.ensures.names
    (c.in_err-pieces.ensures.given pages bytes bytes [] [] told (c.new-expansion.ensures.store pages)
    c.new-values.ensures c.in_ok-read.ensures.read) in
    let answered = g.F.Folder.answered c.args.folder.now in
    let told_now = g.F.Folder.answered c.text.new.folder in
    let stops = page_stopped pages bytes answered told_now c.in_err-pieces.field-0.0 c.in_ok-read.ensures.fits given in
    subst (λ x. IfErr x (IsRefused (first_refusal pages bytes (page_work pages bytes)))) (sym e)
    (subst (λ o. IsRefused o c.in_err-pieces.field-0.0) (sym (refusal_is pages bytes (page_work pages bytes)))
    (stops_refused pages bytes 0 [] (page_work pages bytes) answered told_now c.in_err-pieces.field-0.0 stops))

pub returns-in_err-pieces-clause-stops : goal.returns-in_err-pieces-clause-stops
returns-in_err-pieces-clause-stops g c = λ pages told.
    let bytes = c.args.page.now in
    let new = c.new-expansion.result in
    let answered = g.F.Folder.answered c.args.folder.now in
    let told_now = g.F.Folder.answered c.text.new.folder in
    let e : c.from_residual-in_err-pieces.result ≡ Err c.in_err-pieces.field-0.0 = search rules in
    let given = begun_at_first pages bytes answered told_now new.spent c.text.new.self.spent
    new.names c.text.new.self.store (Err c.in_err-pieces.field-0.0) c.new-expansion.ensures.spent
    c.new-expansion.ensures.names
    (c.in_err-pieces.ensures.given pages bytes bytes [] [] told (c.new-expansion.ensures.store pages)
    c.new-values.ensures c.in_ok-read.ensures.read) in
    subst (λ x. IfErr x (Stops pages bytes 0 [] (page_work pages bytes) answered told_now)) (sym e)
    (page_stopped pages bytes answered told_now c.in_err-pieces.field-0.0 c.in_ok-read.ensures.fits given)

pub returns-in_err-text-clause-stops : goal.returns-in_err-text-clause-stops
returns-in_err-text-clause-stops g c = λ pages told.
    let bytes = c.args.page.now in
    let new = c.new-expansion.result in
    let answered = g.F.Folder.answered c.args.folder.now in
    let told_now = g.F.Folder.answered c.text.new.folder in
    let ps = c.in_ok-pieces.pieces in
    let agrees = c.in_ok-pieces.ensures.grown.agrees pages told
    (agrees_known pages [] new.store (c.new-expansion.ensures.store pages)) in
    let given = begun_at_first pages bytes answered told_now new.spent c.text.new.self.spent new.names
    c.text.new.self.store (Ok ps)
    c.new-expansion.ensures.spent c.new-expansion.ensures.names
    (c.in_ok-pieces.ensures.given pages bytes bytes [] [] agrees (c.new-expansion.ensures.store pages)
    c.new-values.ensures c.in_ok-read.ensures.read) in
    let e : c.from_residual-in_err-text.result ≡ Err answer.NoMemory = search rules in
    subst (λ x. IfErr x (Stops pages bytes 0 [] (page_work pages bytes) answered told_now)) (sym e)
    (page_stops_end pages bytes answered told_now given.1 c.text.new.self.spent c.in_ok-read.ensures.fits given.3)

pub returns-clause-text : goal.returns-clause-text
returns-clause-text g c = λ pages told.
    let bytes = c.args.page.now in
    let new = c.new-expansion.result in
    let answered = g.F.Folder.answered c.args.folder.now in
    let told_now = g.F.Folder.answered c.text.new.folder in
    let ps = c.in_ok-pieces.pieces in
    let agrees = c.in_ok-pieces.ensures.grown.agrees pages told (agrees_known pages [] new.store (c.new-expansion.ensures.store pages)) in
    let given = begun_at_first pages bytes answered told_now new.spent c.text.new.self.spent new.names
    c.text.new.self.store (Ok ps)
    c.new-expansion.ensures.spent c.new-expansion.ensures.names
    (c.in_ok-pieces.ensures.given pages bytes bytes [] [] agrees (c.new-expansion.ensures.store pages)
    c.new-values.ensures c.in_ok-read.ensures.read) in
    let shows = page_shown pages bytes answered told_now c.text.new.self.store c.text.new.self.spent ps
    c.in_ok-read.ensures.fits given in
    c.in_ok-text.ensures ∙ ap (λ qs. shown_text (items qs)) c.as_slice.ensures ∙ ap shown_text shows.items_are ∙ sym (shows_what_is_given pages bytes)

pub returns-clause-whole : goal.returns-clause-whole
returns-clause-whole g c = λ pages told.
    let bytes = c.args.page.now in
    let new = c.new-expansion.result in
    let answered = g.F.Folder.answered c.args.folder.now in
    let told_now = g.F.Folder.answered c.text.new.folder in
    let ps = c.in_ok-pieces.pieces in
    let agrees = c.in_ok-pieces.ensures.grown.agrees pages told (agrees_known pages [] new.store (c.new-expansion.ensures.store pages)) in
    let given = begun_at_first pages bytes answered told_now new.spent c.text.new.self.spent new.names
    c.text.new.self.store (Ok ps)
    c.new-expansion.ensures.spent c.new-expansion.ensures.names
    (c.in_ok-pieces.ensures.given pages bytes bytes [] [] agrees (c.new-expansion.ensures.store pages)
    c.new-values.ensures c.in_ok-read.ensures.read) in
    let shows = page_shown pages bytes answered told_now c.text.new.self.store c.text.new.self.spent ps
    c.in_ok-read.ensures.fits given in
    shows.worked.allowed

pub returns-clause-named : goal.returns-clause-named
returns-clause-named g c = λ pages told.
    let bytes = c.args.page.now in
    let new = c.new-expansion.result in
    let answered = g.F.Folder.answered c.args.folder.now in
    let told_now = g.F.Folder.answered c.text.new.folder in
    let ps = c.in_ok-pieces.pieces in
    let agrees = c.in_ok-pieces.ensures.grown.agrees pages told (agrees_known pages [] new.store (c.new-expansion.ensures.store pages)) in
    let given = begun_at_first pages bytes answered told_now new.spent c.text.new.self.spent new.names
    c.text.new.self.store (Ok ps)
    c.new-expansion.ensures.spent c.new-expansion.ensures.names
    (c.in_ok-pieces.ensures.given pages bytes bytes [] [] agrees (c.new-expansion.ensures.store pages)
    c.new-values.ensures c.in_ok-read.ensures.read) in
    let shows = page_shown pages bytes answered told_now c.text.new.self.store c.text.new.self.spent ps
    c.in_ok-read.ensures.fits given in
    shows.worked.named

pub returns-in_err-read-clause-asks : goal.returns-in_err-read-clause-asks
returns-in_err-read-clause-asks g c =
    asks_none (g.F.Folder.answered c.args.folder.now) (g.F.Folder.most_asked c.args.folder.now)
