use Rattle.std.proofs.Common.{◌≡◌, ◌∙◌, Err, refl, rules, subst}
use Rattle.wt_commands.specs.Answers.{IsText}
use Rattle.wt_transclusion.proofs.AskedLaws.{asks_then}
use Rattle.wt_commands.proofs.AskedLaws.{edit_names_under, edit_unfetched, edit_untexted, reads_text, waits}
use Rattle.wt_commands.proofs.EditLaws.{edited_title}
use Rattle.wt_commands.proofs.FaultLaws.{fetched_alone, kept_alone, unfetched_alone, unread_stops}
use Rattle.wt_commands.proofs.edit_command.edited_page.Goals as goal

pub returns-clause-answered : goal.returns-clause-answered
returns-clause-answered g c =
    let d = g.F.Folder in
    edited_title (d.pages c.args.folder.now) (g.S.Source.left c.args.input.now) c.args.title.now c.in_ok-page.page c.in_ok-text.text.now
    c.edit_of_text.result c.in_ok-page.ensures.page (subst IsText c.as_slice.ensures c.in_ok-text.ensures.answered)
    (c.in_ok-text.ensures.text ∙ c.as_slice.ensures)
    (λ pages told. c.edit_of_text.ensures.answered pages (c.in_ok-page.ensures.pages_kept ∙ told))

pub returns-in_err-page-clause-asked : goal.returns-in_err-page-clause-asked
returns-in_err-page-clause-asked g c =
    let d = g.F.Folder in
    let e : c.from_residual.result ≡ Err c.in_err-page.field-0.0 = search rules in
    edit_unfetched (d.pages c.args.folder.now) (g.S.Source.left c.args.input.now) c.args.title.now (d.answered c.args.folder.now)
    (d.answered c.fetched_page.new.folder) c.from_residual.result c.in_err-page.field-0.0 e c.in_err-page.ensures.page c.in_err-page.ensures.asked

pub returns-in_err-text-clause-asked : goal.returns-in_err-text-clause-asked
returns-in_err-text-clause-asked g c =
    let d = g.F.Folder in
    let e : c.from_residual-in_err-text.result ≡ Err c.in_err-text.field-0.0 = search rules in
    edit_untexted (d.pages c.args.folder.now) (g.S.Source.left c.args.input.now) c.args.title.now c.in_ok-page.page c.as_slice.result.now
    (d.answered c.args.folder.now) (d.answered c.fetched_page.new.folder) c.from_residual-in_err-text.result c.in_err-text.field-0.0 e
    c.in_ok-page.ensures.page c.as_slice.ensures c.in_err-text.ensures.refused c.in_err-text.ensures.of_page c.in_ok-page.ensures.asked

pub returns-clause-asked : goal.returns-clause-asked
returns-clause-asked g c =
    let d = g.F.Folder in
    edit_names_under (d.pages c.args.folder.now) (g.S.Source.left c.args.input.now) c.args.title.now c.in_ok-page.page c.in_ok-text.text.now
    (d.answered c.args.folder.now) (d.answered c.fetched_page.new.folder) (d.answered c.edit_of_text.new.folder) c.edit_of_text.result
    c.in_ok-page.ensures.page (subst IsText c.as_slice.ensures c.in_ok-text.ensures.answered) (c.in_ok-text.ensures.text ∙ c.as_slice.ensures)
    c.in_ok-page.ensures.asked (λ pages told. c.edit_of_text.ensures.asked pages (c.in_ok-page.ensures.pages_kept ∙ told))

pub returns-in_err-page-clause-waits : goal.returns-in_err-page-clause-waits
returns-in_err-page-clause-waits g c = waits (g.F.Folder.pages c.args.folder.now) c.args.title.now refl

pub returns-in_err-text-clause-waits : goal.returns-in_err-text-clause-waits
returns-in_err-text-clause-waits g c = waits (g.F.Folder.pages c.args.folder.now) c.args.title.now refl

pub returns-clause-waits : goal.returns-clause-waits
returns-clause-waits g c =
    reads_text _ (g.F.Folder.pages c.args.folder.now) c.args.title.now c.in_ok-page.page c.in_ok-page.ensures.page
    (subst IsText c.as_slice.ensures c.in_ok-text.ensures.answered)

pub returns-clause-asks : goal.returns-clause-asks
returns-clause-asks g c =
    let d = g.F.Folder in
    asks_then (d.answered c.args.folder.now) (d.answered c.fetched_page.new.folder) (d.answered c.edit_of_text.new.folder)
    (d.most_asked c.args.folder.now) (d.most_asked c.fetched_page.new.folder) (d.most_asked c.edit_of_text.new.folder)
    c.in_ok-page.ensures.asks c.edit_of_text.ensures.asks

pub returns-in_err-page-clause-alone : goal.returns-in_err-page-clause-alone
returns-in_err-page-clause-alone g c =
    let d = g.F.Folder in
    let e : c.from_residual.result ≡ Err c.in_err-page.field-0.0 = search rules in
    unfetched_alone c.from_residual.result c.in_err-page.field-0.0 (g.S.Source.fault_count c.args.input.now) (d.fault_count c.args.folder.now)
    (d.fault_count c.fetched_page.new.folder) e c.in_err-page.ensures.of_title

pub returns-in_err-text-clause-alone : goal.returns-in_err-text-clause-alone
returns-in_err-text-clause-alone g c =
    let d = g.F.Folder in
    kept_alone _ (g.S.Source.fault_count c.args.input.now) (d.fault_count c.args.folder.now) (d.fault_count c.fetched_page.new.folder)
    (c.in_ok-page.ensures.kept tt)

pub returns-clause-alone : goal.returns-clause-alone
returns-clause-alone g c =
    let d = g.F.Folder in
    fetched_alone _ (g.S.Source.fault_count c.args.input.now) (g.S.Source.fault_count c.edit_of_text.new.input)
    (d.fault_count c.args.folder.now) (d.fault_count c.fetched_page.new.folder) (d.fault_count c.edit_of_text.new.folder)
    (c.in_ok-page.ensures.kept tt) c.edit_of_text.ensures.alone

pub returns-in_err-page-clause-stops : goal.returns-in_err-page-clause-stops
returns-in_err-page-clause-stops g c = unread_stops c.from_residual.result (g.S.Source.left c.args.input.now)

pub returns-in_err-text-clause-stops : goal.returns-in_err-text-clause-stops
returns-in_err-text-clause-stops g c = unread_stops c.from_residual-in_err-text.result (g.S.Source.left c.args.input.now)

pub returns-clause-stops : goal.returns-clause-stops
returns-clause-stops g c = c.edit_of_text.ensures.stops
