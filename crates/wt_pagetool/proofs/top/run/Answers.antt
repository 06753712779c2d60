use Rattle.std.proofs.Common.{ap}
use Rattle.wt_pagetool.proofs.PromiseLaws.{run_wrote, run_given_back, run_ends_as_edit, run_alone, run_ends, run_asks_for, run_reads}
use Rattle.wt_commands.specs.Asked.{names_told}
use Rattle.wt_commands.specs.Devices.{read_from, fetched_from, written_to}
use Rattle.wt_pagetool.proofs.top.run.Goals as goal

pub returns-clause-wrote : goal.returns-clause-wrote
returns-clause-wrote g c =
    run_wrote c.args.words.now (read_from g.S.Source c.args.input.now c.find_answer-found.new.input)
    (fetched_from g.F.Folder c.args.folder.now c.find_answer-found.new.folder)
    (written_to g.W.Sink c.args.out.now c.report.new.out) (written_to g.E.Sink c.args.err.now c.report.new.err)
    c.find_answer-found.result c.report.result c.code.result c.code.ensures c.find_answer-found.ensures.finds.answered
    c.find_answer-found.ensures.finds.selser c.find_answer-found.ensures.finds.due c.find_answer-found.ensures.reads.ended c.report.ensures

pub returns-clause-gives_back : goal.returns-clause-gives_back
returns-clause-gives_back g c =
    run_given_back c.args.words.now (read_from g.S.Source c.args.input.now c.find_answer-found.new.input)
    (fetched_from g.F.Folder c.args.folder.now c.find_answer-found.new.folder)
    (written_to g.W.Sink c.args.out.now c.report.new.out) (written_to g.E.Sink c.args.err.now c.report.new.err)
    c.find_answer-found.result c.report.result c.code.result c.code.ensures c.find_answer-found.ensures.finds.answered
    c.find_answer-found.ensures.finds.selser c.report.ensures

pub returns-clause-ends_as_edit : goal.returns-clause-ends_as_edit
returns-clause-ends_as_edit g c =
    run_ends_as_edit c.args.words.now (read_from g.S.Source c.args.input.now c.find_answer-found.new.input)
    (fetched_from g.F.Folder c.args.folder.now c.find_answer-found.new.folder)
    (written_to g.W.Sink c.args.out.now c.report.new.out) (written_to g.E.Sink c.args.err.now c.report.new.err)
    c.find_answer-found.result c.report.result c.code.result c.code.ensures c.find_answer-found.ensures.finds.selser c.report.ensures

pub returns-clause-ends : goal.returns-clause-ends
returns-clause-ends g c =
    run_ends c.args.words.now (read_from g.S.Source c.args.input.now c.find_answer-found.new.input)
    (fetched_from g.F.Folder c.args.folder.now c.find_answer-found.new.folder)
    (written_to g.W.Sink c.args.out.now c.report.new.out) (written_to g.E.Sink c.args.err.now c.report.new.err)
    c.find_answer-found.result c.report.result c.code.result c.code.ensures c.find_answer-found.ensures.finds.answered
    c.find_answer-found.ensures.finds.due c.report.ensures c.find_answer-found.ensures.counts.input_kept c.find_answer-found.ensures.counts.folder_kept
    (run_alone c.args.words.now (read_from g.S.Source c.args.input.now c.find_answer-found.new.input)
    (fetched_from g.F.Folder c.args.folder.now c.find_answer-found.new.folder) c.find_answer-found.result c.find_answer-found.ensures.finds.due
    (λ no. ap g.S.Source.fault_count (c.find_answer-found.ensures.unread no))
    (λ no. ap g.F.Folder.fault_count (c.find_answer-found.ensures.unasked no))
    c.find_answer-found.ensures.counts.edit_alone c.find_answer-found.ensures.counts.selser_alone)

pub returns-clause-asks_for : goal.returns-clause-asks_for
returns-clause-asks_for g c =
    let d = g.F.Folder in
    run_asks_for (names_told (d.pages c.args.folder.now) (g.S.Source.left c.args.input.now) c.args.words.now) (d.answered c.args.folder.now)
    (d.answered c.find_answer-found.new.folder) c.find_answer-found.result c.report.result c.code.result
    (written_to g.W.Sink c.args.out.now c.report.new.out) (written_to g.E.Sink c.args.err.now c.report.new.err)
    c.code.ensures c.report.ensures c.find_answer-found.ensures.asks.names c.find_answer-found.ensures.names

pub returns-clause-asks_most : goal.returns-clause-asks_most
returns-clause-asks_most g c = c.find_answer-found.ensures.asks.most

pub returns-clause-reads : goal.returns-clause-reads
returns-clause-reads g c =
    run_reads c.args.words.now (read_from g.S.Source c.args.input.now c.find_answer-found.new.input)
    (fetched_from g.F.Folder c.args.folder.now c.find_answer-found.new.folder)
    (written_to g.W.Sink c.args.out.now c.report.new.out) (written_to g.E.Sink c.args.err.now c.report.new.err)
    c.find_answer-found.result c.report.result c.code.result c.code.ensures c.report.ensures c.find_answer-found.ensures.finds.due
    c.find_answer-found.ensures.reads.takes c.find_answer-found.ensures.reads.stops
