-- A call that takes texts on pages without calls takes a text in a typed paragraph in a cell: it is one of these.
use Rattle.std.proofs.Common.{◌≡◌, ℕ, ◌≤◌, List, length, sym, subst}
use Rattle.std.specs.Prelude.{◌⊎◌}
use Rattle.wt_span.specs.declared.limits.TheConstants.{PAGE_BYTES}
use Rattle.wt_tree.specs.Tree.{Label, Tree}
use Rattle.wt_commands.specs.declared.command.Command.{Command}
use Rattle.wt_commands.specs.declared.command.Command.TheVariants.{Edit, Selser}
use Rattle.wt_commands.specs.declared.status.Status.TheVariants as status
use Rattle.wt_commands.specs.Calls.{Call}
use Rattle.wt_commands.specs.Statuses.{code, IsFaultOrNoMemory}
use Rattle.wt_pagetool.specs.Promises.{Ends, EndsAsEdit}
use Rattle.wt_typed_blocks.specs.Sent.{Sents}
use Rattle.wt_called_edit_laws.specs.AnyBlocks.{new_page as texts_page}
use Rattle.wt_called_edit_laws.specs.CellEdits.{CellPage, page_with, IsCellPage, new_page, IsCellEdit}
use Rattle.wt_called_edit_laws.specs.UnmarkedCells.{unmarked_page}
use Rattle.wt_called_edit_laws.proofs.Cells.CellSpots.{cell_spots}
use Rattle.wt_called_edit_laws.proofs.Cells.CellsUnmarked.{all_own}
use Rattle.wt_called_edit_laws.proofs.Cells.Takes.{one_spot, CellPath, cell_path, cell_leads, IsThere, there}
use Rattle.wt_program.specs.AnyCalls.{SendsFor, TakesThem, TakesTextsAnywhere}
use Rattle.wt_program.specs.Calls.{WroteNewPage}
use Rattle.wt_program.specs.CellCalls.{sent_page, SendsInCell, TakesThere, TakesTextsInCells}
use Rattle.wt_program.proofs.CalmCalls.{any_calls}

-- the same new page in other words
sends_for : (c : Call) (command : List ℕ → Command) (p : CellPage) (text made : List ℕ) (sent : Label → Tree) → made ≡ new_page p text
    → SendsInCell c command p text sent → SendsFor c command (page_with p p.text) made sent
sends_for c command p text made sent e s = record {
  title = s.title;
  pages = s.pages;
  input = s.input;
  body = s.body;
  unsourced = s.unsourced;
  words = s.words;
  told = s.told;
  found = s.found;
  given = s.given;
  reads = s.reads;
  within = s.within;
  old_within = s.old_within;
  new_within = subst (λ (bs : List ℕ). length bs ≤ PAGE_BYTES) (sym e) s.new_within;
}

takes_there : (c : Call) (ended : ℕ) (p : CellPage) → IsCellPage p → TakesThem c ended (one_spot p) p.behind → TakesThere c ended p
takes_there c ended p h t =
    let o : CellPath p t.paths = cell_path p t.paths t.lead in
    let made : Sents → List ℕ = texts_page (one_spot p) p.behind t.paths in
    let at : (text : List ℕ) (ss : Sents) → IsCellEdit p o.0 text ss → IsThere p t.paths text ss = there p t.paths o in
    record {
      path = o.0;
      leads = cell_leads p t.paths o h;
      edit = λ text ss e s.
          let is : IsThere p t.paths text ss = at text ss e in
          subst (λ (bs : List ℕ). WroteNewPage c ended bs ⊎ IsFaultOrNoMemory ended) is.1
          (t.edit ss is.0 (sends_for c Edit p text (made ss) (sent_page p ss) is.1 s));
      complete = λ text ss e s sound.
          let is : IsThere p t.paths text ss = at text ss e in
          subst (λ (bs : List ℕ). WroteNewPage c ended bs ⊎ (ended ≡ code status.NoMemory)) is.1
          (t.complete ss is.0 (sends_for c Edit p text (made ss) (sent_page p ss) is.1 s) sound);
      selser = λ text ss e s.
          let is : IsThere p t.paths text ss = at text ss e.edit in
          t.selser ss (record { edit = is.0; own = all_own ss e.apart }) (sends_for c Selser p text (made ss) (unmarked_page p ss) is.1 s);
    }

pub cells_so : (c : Call) (ended : ℕ) → TakesTextsAnywhere c ended → TakesTextsInCells c ended
cells_so c ended takes = λ p h. takes_there c ended p h (takes (one_spot p) p.behind (cell_spots p h))

pub takes_in_cells : (c : Call) (ended : ℕ) → Ends c ended → EndsAsEdit c ended → TakesTextsInCells c ended
takes_in_cells c ended ends as_edit = cells_so c ended (any_calls c ended ends as_edit)
