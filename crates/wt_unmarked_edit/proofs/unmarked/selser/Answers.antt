use Rattle.std.proofs.Common.{ap, sym, ◌∙◌, subst}
use Rattle.wt_span.specs.Origins.{Expanded}
use Rattle.wt_tree.specs.Tree.{label}
use Rattle.wt_tree.specs.View.{view}
use Rattle.wt_selser.specs.Borders.{page_text}
use Rattle.wt_slices.specs.Borders.{HasBorders}
use Rattle.wt_unmarked_edit.specs.Found.{FindsNew}
use Rattle.wt_unmarked_edit.proofs.TriedLaws.{beside_answers, beside_refused, memory_answers}
use Rattle.wt_unmarked_edit.proofs.unmarked.selser.Goals as goal

pub set_beside-requires-clause-body : goal.set_beside-requires-clause-body
set_beside-requires-clause-body g c = ap (λ t. (label t).kind) (ap view c.body-tree.ensures.body) ∙ c.requires.body

pub new_page-requires-clause-body : goal.new_page-requires-clause-body
new_page-requires-clause-body g c = ap (λ t. (label t).kind) (ap view c.body-tree.ensures.body) ∙ c.requires.body

pub new_page-requires-clause-places : goal.new_page-requires-clause-places
new_page-requires-clause-places g c = subst (HasBorders c.args.page.now) (sym (ap view c.body-tree.ensures.body)) c.requires.places

pub new_page-requires-clause-text : goal.new_page-requires-clause-text
new_page-requires-clause-text g c = ap page_text c.items.ensures ∙ c.requires.text

pub numbered_nodes-requires-clause-body : goal.numbered_nodes-requires-clause-body
numbered_nodes-requires-clause-body g c = ap (λ t. (label t).kind) (ap view c.body-tree.ensures.body) ∙ c.requires.body

pub returns-in_err-index-clause-answered : goal.returns-in_err-index-clause-answered
returns-in_err-index-clause-answered g c = λ pages told knows.
    memory_answers pages c.args.known.annotated.items c.args.page.now (view c.args.known.annotated.tree.body) (view c.args.edited)
    c.from_residual.result c.from_residual.ensures.1

pub returns-in_err-beside-clause-answered : goal.returns-in_err-beside-clause-answered
returns-in_err-beside-clause-answered g c = λ pages told knows.
    memory_answers pages c.args.known.annotated.items c.args.page.now (view c.args.known.annotated.tree.body) (view c.args.edited)
    c.from_residual-in_err-beside.result c.from_residual-in_err-beside.ensures.1

pub returns-in-Some-clause-answered : goal.returns-in-Some-clause-answered
returns-in-Some-clause-answered g c = λ pages told knows.
    beside_refused pages c.args.known.annotated.items c.args.page.now (view c.args.known.annotated.tree.body) (view c.body-tree.result.now)
    (view c.args.edited) c.in_ok-beside.beside c.in-Some.check (ap view c.body-tree.ensures.body) c.in_ok-beside.ensures c.in-Some.is

pub returns-clause-answered : goal.returns-clause-answered
returns-clause-answered g c = λ pages told knows.
    let beside = c.in_ok-beside.beside in
    let v = view c.body-tree.result.now in
    beside_answers pages c.args.known.annotated.items c.args.page.now (view c.args.known.annotated.tree.body) v
    (view c.args.edited) beside c.new_page.result (ap view c.body-tree.ensures.body) c.in_ok-beside.ensures c.in-None.is
    (subst (λ (x : Expanded). FindsNew pages x c.args.page.now v (view beside.edited) beside.same c.new_page.result) c.items.ensures
    (c.new_page.ensures.found pages told knows))
