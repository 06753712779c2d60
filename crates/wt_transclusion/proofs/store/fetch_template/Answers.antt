use Rattle.std.proofs.Common.{◌∷◌, ◌++◌, Some, [], inl, option_map}
use Rattle.wt_devices.specs.declared.device.Fetched.TheVariants.{Found, Absent}
use Rattle.wt_transclusion.proofs.AskedLaws.{asks_one}
use Rattle.wt_transclusion.proofs.StoreLaws.{given_page, found_read, found_refused, absent_read, told_refused}
use Rattle.wt_transclusion.proofs.store.fetch_template.Goals as goal

pub returns-in-Ok-clause-page : goal.returns-in-Ok-clause-page
returns-in-Ok-clause-page g c =
    λ pages told.
    found_read c.args.title.now c.in-Ok-Found.bytes c.as_slice.result.now (pages c.args.title.now) c.in-Ok.read
    (given_page (g.F.Folder.pages c.args.folder.now) pages c.args.title.now 2097153 c.in-Ok-Found.field-0
    (Found c.in-Ok-Found.bytes) told c.in-Ok-Found.field-0-is c.in-Ok-Found.ensures.page)
    c.as_slice.ensures c.in-Ok.ensures

pub returns-in-Ok-Found-clause-page : goal.returns-in-Ok-Found-clause-page
returns-in-Ok-Found-clause-page g c =
    λ pages told.
    found_refused c.args.title.now c.in-Ok-Found.bytes c.as_slice.result.now (pages c.args.title.now) c.in-Err.refusal
    (given_page (g.F.Folder.pages c.args.folder.now) pages c.args.title.now 2097153 c.in-Ok-Found.field-0
    (Found c.in-Ok-Found.bytes) told c.in-Ok-Found.field-0-is c.in-Ok-Found.ensures.page)
    c.as_slice.ensures c.in-Err.ensures

pub returns-in-Ok-Absent-clause-page : goal.returns-in-Ok-Absent-clause-page
returns-in-Ok-Absent-clause-page g c =
    λ pages told.
    absent_read c.args.title.now (pages c.args.title.now)
    (given_page (g.F.Folder.pages c.args.folder.now) pages c.args.title.now 2097153 c.in-Ok-Absent.field-0 Absent told c.in-Ok-Absent.field-0-is
    c.in-Ok-Absent.ensures.page)

pub returns-in-Ok-clause-read : goal.returns-in-Ok-clause-read
returns-in-Ok-clause-read g c = (Some c.as_slice.result.now, c.in-Ok.ensures)

pub returns-in-Ok-clause-asks : goal.returns-in-Ok-clause-asks
returns-in-Ok-clause-asks g c =
    asks_one c.args.title.now (g.F.Folder.answered c.args.folder.now) (g.F.Folder.answered c.fetch.new.self)
    (g.F.Folder.most_asked c.args.folder.now)
    (g.F.Folder.most_asked c.fetch.new.self) c.in-Ok-Found.ensures.named c.in-Ok-Found.ensures.asked

pub returns-in-Ok-Found-clause-asks : goal.returns-in-Ok-Found-clause-asks
returns-in-Ok-Found-clause-asks g c =
    asks_one c.args.title.now (g.F.Folder.answered c.args.folder.now) (g.F.Folder.answered c.fetch.new.self)
    (g.F.Folder.most_asked c.args.folder.now)
    (g.F.Folder.most_asked c.fetch.new.self) c.in-Ok-Found.ensures.named c.in-Ok-Found.ensures.asked

pub returns-in-Ok-Absent-clause-asks : goal.returns-in-Ok-Absent-clause-asks
returns-in-Ok-Absent-clause-asks g c =
    asks_one c.args.title.now (g.F.Folder.answered c.args.folder.now) (g.F.Folder.answered c.fetch.new.self)
    (g.F.Folder.most_asked c.args.folder.now)
    (g.F.Folder.most_asked c.fetch.new.self) c.in-Ok-Absent.ensures.named c.in-Ok-Absent.ensures.asked

pub returns-in-Ok-Found-clause-named : goal.returns-in-Ok-Found-clause-named
returns-in-Ok-Found-clause-named g c =
    let before = g.F.Folder.answered c.args.folder.now in
    told_refused before (option_map (λ names. names ++ c.args.title.now ∷ []) before) (g.F.Folder.answered c.fetch.new.self) c.in-Err.refusal
    c.in-Err.ensures.1 c.in-Ok-Found.ensures.named

pub returns-clause-named : goal.returns-clause-named
returns-clause-named g c = inl c.in-Err-NoMemory.ensures.unnamed
