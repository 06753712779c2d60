use Rattle.wt_commands.proofs.PageLaws.{found_is, absent_is}
use Rattle.wt_commands.proofs.AskedLaws.{unfetched_names}
use Rattle.wt_transclusion.proofs.AskedLaws.{asks_one}
use Rattle.wt_commands.proofs.fetch.fetched_page.Goals as goal

pub returns-in_err-page-clause-asked : goal.returns-in_err-page-clause-asked
returns-in_err-page-clause-asked g c =
    let d = g.F.Folder in
    unfetched_names c.args.title.now (d.answered c.args.folder.now) (d.answered c.fetch.new.self) c.from_residual.result c.in_err-page.field-0.0
    c.from_residual.ensures.1 c.in_err-page.ensures.unnamed

pub returns-in-Found-clause-page : goal.returns-in-Found-clause-page
returns-in-Found-clause-page g c = found_is (g.F.Folder.pages c.args.folder.now) c.args.title.now c.in-Found.page
    c.in_ok-page.field-0 c.in-Found.is c.in_ok-page.ensures.page

pub returns-in-Absent-clause-page : goal.returns-in-Absent-clause-page
returns-in-Absent-clause-page g c = absent_is (g.F.Folder.pages c.args.folder.now) c.args.title.now c.in_ok-page.field-0
    c.in-Absent.is c.in_ok-page.ensures.page

pub returns-in-Found-clause-asks : goal.returns-in-Found-clause-asks
returns-in-Found-clause-asks g c =
    let d = g.F.Folder in
    asks_one c.args.title.now (d.answered c.args.folder.now) (d.answered c.fetch.new.self) (d.most_asked c.args.folder.now)
    (d.most_asked c.fetch.new.self) c.in_ok-page.ensures.named c.in_ok-page.ensures.asked

pub returns-in-Absent-clause-asks : goal.returns-in-Absent-clause-asks
returns-in-Absent-clause-asks g c =
    let d = g.F.Folder in
    asks_one c.args.title.now (d.answered c.args.folder.now) (d.answered c.fetch.new.self) (d.most_asked c.args.folder.now)
    (d.most_asked c.fetch.new.self) c.in_ok-page.ensures.named c.in_ok-page.ensures.asked
