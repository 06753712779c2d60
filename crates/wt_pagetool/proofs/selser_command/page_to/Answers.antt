use Rattle.std.proofs.Common.{ap, ◌∙◌, []}
use Rattle.wt_expand.specs.Expansion.{page_work}
use Rattle.wt_expand.specs.Fronts.{known_after}
use Rattle.wt_expand.specs.Work.{fetches}
use Rattle.wt_transclusion.proofs.AskedLaws.{asks_then}
use Rattle.wt_tree.specs.Tree.{label}
use Rattle.wt_tree.specs.View.{view}
use Rattle.wt_expansion.proofs.KnownLaws.{free_at_first, holds_at_first}
use Rattle.wt_pagetool.proofs.SelserFound.{expanded_found, unexpanded_found}
use Rattle.wt_commands.proofs.ShownLaws.{page_body}
use Rattle.wt_pagetool.proofs.selser_command.page_to.Goals as goal

pub known_page-requires-clause-known : goal.known_page-requires-clause-known
known_page-requires-clause-known g c =
    holds_at_first c.new-expansion.result c.new-expansion.ensures.store c.new-expansion.ensures.names

pub page_of_known-requires-clause-body : goal.page_of_known-requires-clause-body
page_of_known-requires-clause-body g c =
    let s = c.in_ok-found.ensures.some in ap (λ t. (label t).kind) s.1 ∙ page_body s.0 c.args.page.now

pub returns-in_err-found-clause-answered : goal.returns-in_err-found-clause-answered
returns-in_err-found-clause-answered g c = λ pages told.
    let free = free_at_first pages c.new-expansion.result c.new-expansion.ensures.store c.new-expansion.ensures.names in
    unexpanded_found pages c.args.page.now (view c.args.edited) c.in_err-found.field-0.0 c.from_residual.result
    (c.in_err-found.ensures.refused pages [] told free) c.from_residual.ensures.1

pub returns-clause-answered : goal.returns-clause-answered
returns-clause-answered g c = λ pages told.
    let found = c.in_ok-found.found in
    let free = free_at_first pages c.new-expansion.result c.new-expansion.ensures.store c.new-expansion.ensures.names in
    expanded_found pages c.args.page.now found.annotated.items (view found.annotated.tree.body) (view c.args.edited) c.page_of_known.result
    (c.in_ok-found.ensures.whole pages [] told free) (c.in_ok-found.ensures.items pages [] told free)
    (c.in_ok-found.ensures.tree pages [] told free)
    (c.page_of_known.ensures.answered pages (c.in_ok-found.ensures.kept ∙ told)
    (known_after [] (fetches (page_work pages c.args.page.now)), (c.in_ok-found.ensures.named pages [] told free).free))

pub returns-clause-asks : goal.returns-clause-asks
returns-clause-asks g c =
    let d = g.F.Folder in
    asks_then (d.answered c.args.folder.now) (d.answered c.known_page.new.folder) (d.answered c.page_of_known.new.folder)
    (d.most_asked c.args.folder.now) (d.most_asked c.known_page.new.folder) (d.most_asked c.page_of_known.new.folder)
    c.in_ok-found.ensures.asks c.page_of_known.ensures.asks
