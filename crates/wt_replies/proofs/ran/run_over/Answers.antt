use Rattle.std.proofs.Common.{ap}
use Rattle.std.specs.Prelude.{Some}
use Rattle.wt_commands.specs.Words.{command_of}
use Rattle.wt_replies.specs.Indexes.{entries_of}
use Rattle.wt_replies.specs.Tables.{pages_of}
use Rattle.wt_replies.proofs.RunLaws.{of_library, waits_left}
use Rattle.wt_replies.proofs.ran.run_over.Goals as goal

pub returns : goal.returns
returns c =
    let h = c.run-status.ensures in
    of_library c.args.words.now c.run-status.result
    _ c.args.input.now c.run-status.new.input.left.now
    _ (pages_of (entries_of c.args.index.now)) _ c.run-status.new.folder.faults
    _ c.run-status.new.out.bytes _ c.run-status.new.out.faults
    _ c.run-status.new.err.bytes _ c.run-status.new.err.faults
    _ c.run-status.new.folder.answered
    c.new-source.ensures c.new-folder.ensures.pages c.new-folder.ensures.faults
    (ap Some c.new-out.ensures.bytes) c.new-out.ensures.faults
    (ap Some c.new-line.ensures.bytes) c.new-line.ensures.faults
    c.new-folder.ensures.answered
    (record {
      wrote = h.wrote;
      gives_back = h.gives_back;
      ends_as_edit = h.ends_as_edit;
      ends = h.ends;
      asks_for = h.asks_for;
      reads = h.reads;
      waits = waits_left (command_of c.args.words.now) (Some (pages_of (entries_of c.new-folder.result.index.now)))
          c.new-source.result c.run-status.new.input h.waits;
      unread = λ no. ap (λ s. Some s.left.now) (h.unread no);
      unasked = λ no. ap (λ f. Some f.answered) (h.unasked no);
    })
