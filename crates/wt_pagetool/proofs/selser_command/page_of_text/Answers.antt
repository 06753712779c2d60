use Rattle.std.proofs.Common.{◌≡◌, Err, rules}
use Rattle.wt_pagetool.proofs.SelserFound.{input_refused_found, whole_found}
use Rattle.wt_devices.specs.Device.{Rose}
use Rattle.wt_commands.proofs.FaultLaws.{edit_alone, edit_stops, passed_alone, passed_stops}
use Rattle.wt_pagetool.proofs.selser_command.page_of_text.Goals as goal

pub returns-in_err-reader-clause-answered : goal.returns-in_err-reader-clause-answered
returns-in_err-reader-clause-answered g c = λ pages told.
    let e : c.from_residual.result ≡ Err c.in_err-reader.field-0.0 = search rules in
    input_refused_found pages c.args.page.now (g.S.Source.left c.args.input.now) c.from_residual.result c.in_err-reader.field-0.0 e
    c.in_err-reader.ensures.answered

pub returns-clause-answered : goal.returns-clause-answered
returns-clause-answered g c = λ pages told.
    whole_found pages c.args.page.now c.in_ok-reader.reader (g.S.Source.left c.args.input.now)
    (g.S.Source.left c.read_all.new.input) c.page_of_read.result c.in_ok-reader.ensures.fed
    (λ bytes fed. c.page_of_read.ensures.answered pages bytes told fed)

pub returns-in_err-reader-clause-stops : goal.returns-in_err-reader-clause-stops
returns-in_err-reader-clause-stops g c =
    let e : c.from_residual.result ≡ Err c.in_err-reader.field-0.0 = search rules in
    passed_stops c.from_residual.result c.in_err-reader.field-0.0 (g.S.Source.left c.args.input.now) (g.S.Source.left c.read_all.new.input) e
    c.in_err-reader.ensures.stops

pub returns-in_err-reader-clause-alone : goal.returns-in_err-reader-clause-alone
returns-in_err-reader-clause-alone g c =
    let d = g.S.Source in
    let e : c.from_residual.result ≡ Err c.in_err-reader.field-0.0 = search rules in
    passed_alone c.from_residual.result c.in_err-reader.field-0.0 (d.fault_count c.args.input.now) (d.fault_count c.read_all.new.input)
    (g.F.Folder.fault_count c.args.folder.now) e c.in_err-reader.ensures.of_input

pub returns-clause-stops : goal.returns-clause-stops
returns-clause-stops g c =
    edit_stops (Rose (g.F.Folder.fault_count c.args.folder.now) (g.F.Folder.fault_count c.page_of_read.new.folder)) c.page_of_read.result
    (g.S.Source.left c.args.input.now) (g.S.Source.left c.read_all.new.input) c.page_of_read.ensures.of_edit

pub returns-clause-alone : goal.returns-clause-alone
returns-clause-alone g c =
    let d = g.S.Source in
    edit_alone (Rose (g.F.Folder.fault_count c.args.folder.now) (g.F.Folder.fault_count c.page_of_read.new.folder)) c.page_of_read.result
    (d.fault_count c.args.input.now) (d.fault_count c.read_all.new.input)
    (g.F.Folder.fault_count c.args.folder.now) (g.F.Folder.fault_count c.page_of_read.new.folder) c.page_of_read.ensures.of_edit
    (c.in_ok-reader.ensures.kept tt)
