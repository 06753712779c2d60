use Rattle.std.proofs.Common.{◌≡◌, ◌*◌, ◌+◌, List, ℕ}
use Rattle.wt_span.specs.declared.form.Mode.{Mode}
use Rattle.wt_expand.specs.Expansion.{Frame, Output}
use Rattle.wt_expand.specs.Work.{Pages}
use Rattle.wt_transclusion.specs.Asked.{Asks}
use Rattle.wt_values.specs.Frames.{AreValues}
use Rattle.wt_transclusion.specs.Stores.{Agrees, Grows}
use Rattle.wt_template_stack.specs.Ledgers.{Ledger, Progress, reading_of}
use Rattle.wt_template_stack.specs.Measures.{steps_left}
use Rattle.wt_template_stack.proofs.expansion.Expansion.+expanding.Given as goal

abbrev pub decreases-advance : goal.decreases-advance
decreases-advance g l = l.left * 3 + 1

abbrev pub decreases-finish : goal.decreases-finish
decreases-finish g l = l.left * 3 + 2

abbrev pub decreases-page : goal.decreases-page
decreases-page g l = l.left * 3

abbrev pub decreases-finish-steps : goal.decreases-finish-steps
decreases-finish-steps g l = steps_left l.run

abbrev pub invariant-finish-steps : goal.invariant-finish-steps
invariant-finish-steps g l = record {
  kept : g.F.Folder.pages l.folder ≡ g.F.Folder.pages l.initial.folder;
  asks : Asks (g.F.Folder.answered l.initial.folder) (g.F.Folder.answered l.folder)
      (g.F.Folder.most_asked l.initial.folder) (g.F.Folder.most_asked l.folder);
  count : g.F.Folder.fault_count l.folder ≡ g.F.Folder.fault_count l.initial.folder;
  names : l.self.names ≡ l.initial.self.names;
  grown : Grows (g.F.Folder.pages l.initial.folder) l.initial.self.store l.self.store;
  given : (pages : Pages) (page t : List ℕ) (mode : Mode) (frame : Frame) (before : Ledger) (all : Output)
      → Agrees pages l.self.store → AreValues l.values frame
      → Progress pages page (reading_of pages mode frame l.left l.initial.self.names) t before all l.initial.run l.initial.self.store l.initial.self.spent
      (g.F.Folder.answered l.initial.folder)
      → Progress pages page (reading_of pages mode frame l.left l.initial.self.names) t before all l.run l.self.store l.self.spent (g.F.Folder.answered l.folder);
}
