use Rattle.std.proofs.Common.{◌≡◌, ◌*◌, ◌+◌, ◌≤◌, Bool, List, ℕ}
use Rattle.wt_span.specs.declared.form.Mode.TheVariants as mode
use Rattle.wt_span.specs.Braces.{Member}
use Rattle.wt_expand.specs.Work.{Pages}
use Rattle.wt_transclusion.specs.Asked.{Asks}
use Rattle.wt_transclusion.specs.Steps.{IsStretchOf, given_from}
use Rattle.wt_transclusion.specs.Stores.{Agrees, Grows}
use Rattle.wt_template_stack.specs.Ledgers.{ledger}
use Rattle.wt_template_stack.specs.Measures.{bytes_left}
use Rattle.wt_template_stack.specs.Readers.{IsReading}
use Rattle.wt_expansion.specs.Walks.{Going, IsFree, at_page}
use Rattle.wt_expansion.proofs.WalkLaws.{strs}
use Rattle.wt_expansion.proofs.walk.PageWalk.+walking.Given as goal

abbrev pub decreases-behind_target : goal.decreases-behind_target
decreases-behind_target g l = bytes_left l.reader * 6 + 1

abbrev pub decreases-target : goal.decreases-target
decreases-target g l = bytes_left l.reader * 6 + 1

abbrev pub decreases-stretch : goal.decreases-stretch
decreases-stretch g l = bytes_left l.reader * 6 + 5

abbrev pub decreases-step : goal.decreases-step
decreases-step g l = bytes_left l.reader * 6 + 4

abbrev pub decreases-walk_call : goal.decreases-walk_call
decreases-walk_call g l = bytes_left l.reader * 6 + 3

abbrev pub decreases-with_target : goal.decreases-with_target
decreases-with_target g l = bytes_left l.reader * 6 + 2

abbrev pub decreases-stretch-steps : goal.decreases-stretch-steps
decreases-stretch-steps g l = bytes_left l.reader

abbrev pub invariant-stretch-steps : goal.invariant-stretch-steps
invariant-stretch-steps g l = record {
  later : bytes_left l.reader ≤ bytes_left l.initial.reader;
  kept : g.F.Folder.pages l.folder ≡ g.F.Folder.pages l.initial.folder;
  count : g.F.Folder.fault_count l.folder ≡ g.F.Folder.fault_count l.initial.folder;
  names : l.self.expansion.names ≡ l.initial.self.expansion.names;
  grown : Grows (g.F.Folder.pages l.initial.folder) l.initial.self.expansion.store l.self.expansion.store;
  asks : Asks (g.F.Folder.answered l.initial.folder) (g.F.Folder.answered l.folder)
      (g.F.Folder.most_asked l.initial.folder)
      (g.F.Folder.most_asked l.folder);
  given : (pages : Pages) (page : List ℕ) (met : List (List ℕ)) (p : ℕ) (s : Bool) (xs : List Member)
      → Agrees pages l.self.expansion.store → IsFree pages met l.initial.self.expansion
      → IsReading mode.Page page l.initial.reader p s → IsStretchOf mode.Page page p l.end xs
      → Going pages page (ledger l.initial.self.expansion.spent met (g.F.Folder.answered l.initial.folder)) (strs (at_page pages) s page p xs)
      (given_from (at_page pages) s page p xs).work p l.end l.initial.self.found l.self.found l.reader l.self.expansion.store l.self.expansion.spent
      (g.F.Folder.answered l.folder);
}
