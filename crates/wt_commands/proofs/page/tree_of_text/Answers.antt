use Rattle.std.proofs.Common.{◌≡◌, Err, rules}
use Rattle.wt_expand.specs.Work.{names_asked}
use Rattle.wt_commands.specs.Asked.{work_done}
use Rattle.wt_commands.proofs.AskedLaws.{named_same}
use Rattle.wt_commands.proofs.page.tree_of_text.Goals as goal

pub returns-in_err-annotated-clause-asked : goal.returns-in_err-annotated-clause-asked
returns-in_err-annotated-clause-asked g c = λ pages told.
    let d = g.F.Folder in
    let e : c.from_residual.result ≡ Err c.in_err-annotated.field-0.0 = search rules in
    named_same (names_asked (work_done pages c.args.page.now)) (d.answered c.args.folder.now) (d.answered c.annotated_of_text.new.folder)
    c.from_residual.result c.in_err-annotated.field-0.0 e (c.in_err-annotated.ensures.asked pages told)

pub returns-clause-asked : goal.returns-clause-asked
returns-clause-asked g c = λ pages told. c.in_ok-annotated.ensures.asked pages told
