use Rattle.std.proofs.Common.{ap, ◌∙◌, [], subst}
use Rattle.wt_tree.specs.Tree.{label}
use Rattle.wt_tree.specs.View.{view}
use Rattle.wt_expansion.proofs.KnownLaws.{free_at_first, holds_at_first}
use Rattle.wt_commands.proofs.EditLaws.{edit_expanded}
use Rattle.wt_commands.proofs.EditedLaws.{edit_unexpanded}
use Rattle.wt_commands.proofs.ShownLaws.{page_body}
use Rattle.wt_expand.specs.Expansion.{page_work}
use Rattle.wt_expand.specs.Fronts.{known_after}
use Rattle.wt_expand.specs.Work.{fetches, firsts_after}
use Rattle.wt_commands.specs.Answers.{answer_of_edit}
use Rattle.wt_commands.specs.Asked.{new_work, AsksNames}
use Rattle.wt_transclusion.proofs.AskedLaws.{asks_then}
use Rattle.wt_commands.proofs.AskedLaws.{edit_is, new_names, stopped_names}
use Rattle.wt_commands.proofs.edit_command.edit_to.Goals as goal

pub known_page-requires-clause-known : goal.known_page-requires-clause-known
known_page-requires-clause-known g c =
    holds_at_first c.new-expansion.result c.new-expansion.ensures.store c.new-expansion.ensures.names

pub new_page-requires-clause-body : goal.new_page-requires-clause-body
new_page-requires-clause-body g c =
    let s = c.in_ok-found.ensures.some in ap (λ t. (label t).kind) s.1 ∙ page_body s.0 c.args.page.now

pub returns-in_err-found-clause-answered : goal.returns-in_err-found-clause-answered
returns-in_err-found-clause-answered g c = λ pages told.
    let free = free_at_first pages c.new-expansion.result c.new-expansion.ensures.store c.new-expansion.ensures.names in
    edit_unexpanded pages c.args.page.now (view c.args.edited.now) c.in_err-found.field-0.0 c.from_residual.result
    (c.in_err-found.ensures.refused pages [] told free) c.from_residual.ensures.1

pub returns-clause-answered : goal.returns-clause-answered
returns-clause-answered g c = λ pages told.
    let free = free_at_first pages c.new-expansion.result c.new-expansion.ensures.store c.new-expansion.ensures.names in
    let found = c.in_ok-found.found in
    let more = c.in_ok-found.ensures.named pages [] told free in
    edit_expanded pages c.args.page.now found.annotated.items (view found.annotated.tree.body) (view c.args.edited.now) c.new_page.result
    (c.in_ok-found.ensures.whole pages [] told free) (c.in_ok-found.ensures.items pages [] told free)
    (c.in_ok-found.ensures.tree pages [] told free)
    (c.new_page.ensures.answered pages (known_after [] (fetches (page_work pages c.args.page.now))) (c.in_ok-found.ensures.kept ∙ told) more.free)

pub returns-in_err-found-clause-asked : goal.returns-in_err-found-clause-asked
returns-in_err-found-clause-asked g c = λ pages told.
    let d = g.F.Folder in
    let free = free_at_first pages c.new-expansion.result c.new-expansion.ensures.store c.new-expansion.ensures.names in
    stopped_names pages c.args.page.now (new_work pages (answer_of_edit pages c.args.page.now (view c.args.edited.now))) (d.answered c.args.folder.now)
    (d.answered c.known_page.new.folder) c.from_residual.result c.in_err-found.field-0.0 c.from_residual.ensures.1
    (c.in_err-found.ensures.stops pages [] told free)

pub returns-clause-asked : goal.returns-clause-asked
returns-clause-asked g c = λ pages told.
    let d = g.F.Folder in
    let free = free_at_first pages c.new-expansion.result c.new-expansion.ensures.store c.new-expansion.ensures.names in
    let found = c.in_ok-found.found in
    let more = c.in_ok-found.ensures.named pages [] told free in
    let page = c.args.page.now in
    let edited = view c.args.edited.now in
    let after = d.answered c.new_page.new.folder in
    let known = known_after [] (fetches (page_work pages page)) in
    new_names pages page (new_work pages (answer_of_edit pages page edited)) found.expansion (d.answered c.args.folder.now)
    (d.answered c.known_page.new.folder) after c.new_page.result (c.in_ok-found.ensures.whole pages [] told free) more
    (subst (λ es. AsksNames (firsts_after known (fetches es)) (d.answered c.known_page.new.folder) after c.new_page.result)
    (edit_is pages page found.annotated.items (view found.annotated.tree.body) edited (c.in_ok-found.ensures.items pages [] told free)
    (c.in_ok-found.ensures.tree pages [] told free))
    (c.new_page.ensures.asked pages known (c.in_ok-found.ensures.kept ∙ told) more.free))

pub returns-clause-asks : goal.returns-clause-asks
returns-clause-asks g c =
    let d = g.F.Folder in
    asks_then (d.answered c.args.folder.now) (d.answered c.known_page.new.folder) (d.answered c.new_page.new.folder)
    (d.most_asked c.args.folder.now) (d.most_asked c.known_page.new.folder) (d.most_asked c.new_page.new.folder)
    c.in_ok-found.ensures.asks c.new_page.ensures.asks
