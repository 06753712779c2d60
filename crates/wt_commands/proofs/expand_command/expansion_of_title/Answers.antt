use Rattle.std.proofs.Common.{◌≡◌, ◌∙◌, Err, rules, subst}
use Rattle.wt_commands.specs.Answers.{IsText}
use Rattle.wt_commands.specs.Asked.{work_done}
use Rattle.wt_transclusion.proofs.AskedLaws.{asks_then}
use Rattle.wt_commands.proofs.AskedLaws.{names_under, title_unfetched, title_untexted}
use Rattle.wt_commands.proofs.expand_command.expansion_of_title.Goals as goal

pub returns-in_err-page-clause-asked : goal.returns-in_err-page-clause-asked
returns-in_err-page-clause-asked g c =
    let d = g.F.Folder in
    let e : c.from_residual.result ≡ Err c.in_err-page.field-0.0 = search rules in
    title_unfetched (d.pages c.args.folder.now) c.args.title.now work_done (d.answered c.args.folder.now)
    (d.answered c.fetched_page.new.folder) c.from_residual.result c.in_err-page.field-0.0 e c.in_err-page.ensures.page c.in_err-page.ensures.asked

pub returns-in_err-text-clause-asked : goal.returns-in_err-text-clause-asked
returns-in_err-text-clause-asked g c =
    let d = g.F.Folder in
    let e : c.from_residual-in_err-text.result ≡ Err c.in_err-text.field-0.0 = search rules in
    title_untexted (d.pages c.args.folder.now) c.args.title.now c.in_ok-page.page c.as_slice.result.now work_done (d.answered c.args.folder.now)
    (d.answered c.fetched_page.new.folder) c.from_residual-in_err-text.result c.in_err-text.field-0.0 e
    c.in_ok-page.ensures.page c.as_slice.ensures c.in_err-text.ensures.refused c.in_err-text.ensures.of_page c.in_ok-page.ensures.asked

pub returns-clause-asked : goal.returns-clause-asked
returns-clause-asked g c =
    let d = g.F.Folder in
    names_under (d.pages c.args.folder.now) c.args.title.now c.in_ok-page.page c.in_ok-text.text.now work_done
    (d.answered c.args.folder.now) (d.answered c.fetched_page.new.folder) (d.answered c.output_of_text.new.folder) c.output_of_text.result
    c.in_ok-page.ensures.page (subst IsText c.as_slice.ensures c.in_ok-text.ensures.answered) (c.in_ok-text.ensures.text ∙ c.as_slice.ensures)
    c.in_ok-page.ensures.asked (λ pages told. c.output_of_text.ensures.asked pages (c.in_ok-page.ensures.pages_kept ∙ told))

pub returns-clause-asks : goal.returns-clause-asks
returns-clause-asks g c =
    let d = g.F.Folder in
    asks_then (d.answered c.args.folder.now) (d.answered c.fetched_page.new.folder) (d.answered c.output_of_text.new.folder)
    (d.most_asked c.args.folder.now) (d.most_asked c.fetched_page.new.folder) (d.most_asked c.output_of_text.new.folder)
    c.in_ok-page.ensures.asks c.output_of_text.ensures.asks
