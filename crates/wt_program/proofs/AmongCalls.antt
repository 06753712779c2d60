-- A call that keeps what `run` promises answers an edit of contents among calls with the new page, or a device failed, or memory ran out.
use Rattle.std.proofs.Common.{◌≡◌, ℕ, Option, Some, None, List, sym, ap, ◌∙◌, subst}
use Rattle.std.specs.Str.{IsUtf8}
use Rattle.wt_devices.specs.Device.{Pages}
use Rattle.wt_tree.specs.Tree.{Tree}
use Rattle.wt_commands.specs.Answers.{done, edit_to}
use Rattle.wt_commands.specs.Calls.{Call}
use Rattle.wt_commands.specs.declared.command.Command.TheVariants.{Edit, Selser}
use Rattle.wt_pagetool.specs.Promises.{Ends, EndsAsEdit}
use Rattle.wt_commands.specs.UnmarkedEdits.{DoneByEdit}
use Rattle.wt_typed_blocks.specs.Edited.{Edits}
use Rattle.wt_text_edit_laws.specs.BlockSpots.{BlockSpot, spots_source}
use Rattle.wt_program.proofs.BlocksCalls.{page_ends, page_completes}
use Rattle.wt_program.specs.AnyCalls.{SendsFor}
use Rattle.wt_program.proofs.AnyCalls.{answer_is, selser_ends}
use Rattle.wt_called_edit_laws.specs.CalledTexts.{spots_tree}
use Rattle.wt_called_edit_laws.specs.CallingContents.{IsContentEditIn, IsUnmarkedContentEditIn, TakesContentsIn}
use Rattle.wt_called_edit_laws.specs.EditsAt.{edited_page, sent_contents, bare_contents}
use Rattle.wt_called_edit_laws.proofs.CalledUtf8.{called_utf8}
use Rattle.wt_called_edit_laws.proofs.CallingTaken.{contents_taken}
use Rattle.wt_called_edit_laws.proofs.EditableBlocks.{editable_calling}
use Rattle.wt_program.specs.ContentCalls.{TakesContentsThere, TakesContentsAmongCalls}

-- ---- the pages that the folder tells

pages_or : Pages → Option Pages → Pages
pages_or pages None = pages
pages_or pages (Some others) = others

same_pages : (pages others : Pages) → Some pages ≡ Some others → pages ≡ others
unfolding pages_or
same_pages pages others e = ap (pages_or pages) e

-- ---- the edits

edit_made : (c : Call) (pages : Pages) (ss : List BlockSpot) (behind : List ℕ) (t : TakesContentsIn pages ss behind) (es : Edits)
    → c.folder.pages_before ≡ Some pages → IsContentEditIn pages (spots_tree pages ss behind) ss t.paths es
    → (s : SendsFor c Edit (spots_source ss behind) (edited_page ss behind t.paths es) (sent_contents (spots_tree pages ss behind) es))
    → edit_to s.pages (spots_source ss behind) (sent_contents (spots_tree pages ss behind) es s.body) ≡ done (edited_page ss behind t.paths es)
edit_made c pages ss behind t es told e s =
    let page : List ℕ = spots_source ss behind in
    let u : Tree = sent_contents (spots_tree pages ss behind) es s.body in
    subst (λ (ps : Pages). edit_to ps page u ≡ done (edited_page ss behind t.paths es)) (same_pages pages s.pages (sym told ∙ s.told)) (t.takes s.body es e s.new_within)

unmarked_made : (c : Call) (pages : Pages) (ss : List BlockSpot) (behind : List ℕ) (t : TakesContentsIn pages ss behind) (es : Edits)
    → c.folder.pages_before ≡ Some pages → IsUnmarkedContentEditIn pages (spots_tree pages ss behind) ss t.paths es
    → (s : SendsFor c Selser (spots_source ss behind) (edited_page ss behind t.paths es) (bare_contents (spots_tree pages ss behind) es))
    → DoneByEdit s.pages (s.pages s.title) s.input
unmarked_made c pages ss behind t es told e s =
    subst (λ (ps : Pages). DoneByEdit ps (s.pages s.title) s.input) (same_pages pages s.pages (sym told ∙ s.told))
    (t.unmarked (s.pages s.title) s.input s.body s.unsourced es e s.found s.old_within s.new_within s.within s.reads)

calls_take_there : (c : Call) (ended : ℕ) (pages : Pages) (ss : List BlockSpot) (behind : List ℕ) → Ends c ended → EndsAsEdit c ended
    → c.folder.pages_before ≡ Some pages → IsUtf8 (spots_source ss behind) → TakesContentsIn pages ss behind → TakesContentsThere c ended pages ss behind
calls_take_there c ended pages ss behind ends as_edit told utf8 t =
    let page : List ℕ = spots_source ss behind in
    let body : Tree = spots_tree pages ss behind in
    record {
      paths = t.paths;
      stand = t.stand;
      edits = t.edits;
      edit = λ es e s.
          page_ends c ended (edited_page ss behind t.paths es)
          (answer_is c page (edited_page ss behind t.paths es) (sent_contents body es) utf8 s (edit_made c pages ss behind t es told e s)) ends;
      complete = λ es e s sound.
          page_completes c ended (edited_page ss behind t.paths es)
          (answer_is c page (edited_page ss behind t.paths es) (sent_contents body es) utf8 s (edit_made c pages ss behind t es told e s)) ends sound;
      selser = λ es e s.
          selser_ends c ended page (edited_page ss behind t.paths es) (bare_contents body es) s (unmarked_made c pages ss behind t es told e s) as_edit;
      others = t.others;
    }

pub calls_take : (c : Call) (ended : ℕ) → Ends c ended → EndsAsEdit c ended → TakesContentsAmongCalls c ended
calls_take c ended ends as_edit = λ pages ss behind told h.
    calls_take_there c ended pages ss behind ends as_edit told (called_utf8 pages ss behind h.blocks.called)
    (contents_taken pages ss behind (editable_calling pages ss behind h))
