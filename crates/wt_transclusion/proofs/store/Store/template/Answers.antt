use Rattle.std.proofs.Common.{sym}
use Rattle.wt_transclusion.proofs.AskedLaws.{asks_none}
use Rattle.wt_transclusion.proofs.GrowthLaws.{put_grows, title_kept}
use Rattle.wt_transclusion.proofs.store.Store.template.Goals as goal

pub returns-in_ok-keep-in-Ok-clause-page : goal.returns-in_ok-keep-in-Ok-clause-page
returns-in_ok-keep-in-Ok-clause-page g c = λ pages met agrees stored.
    title_kept pages met c.args.full.now c.in-Ok.found c.args.self.now c.keep.new.self (sym c.in_default.ensures) c.in_ok-keep-in-Ok.ensures agrees stored

pub returns-in_ok-keep-in-Ok-clause-grown : goal.returns-in_ok-keep-in-Ok-clause-grown
returns-in_ok-keep-in-Ok-clause-grown g c =
    put_grows (g.F.Folder.pages c.args.folder.now) c.args.full.now c.in-Ok.found c.args.self.now c.keep.new.self (sym c.in_default.ensures)
    c.in_ok-keep-in-Ok.ensures c.in-Ok.ensures.read c.in-Ok.ensures.page

pub returns-in-Some-clause-asks : goal.returns-in-Some-clause-asks
returns-in-Some-clause-asks g c =
    asks_none (g.F.Folder.answered c.args.folder.now) (g.F.Folder.most_asked c.args.folder.now)
