-- A call that keeps what `run` promises answers HTML that is a text edit with the new page, or a device failed, or memory ran out.
use Rattle.std.proofs.Common.{◌≡◌, ℕ, Option, Some, None, List, sym, ap, ◌∙◌, subst}
use Rattle.wt_span.specs.Items.{Item}
use Rattle.wt_devices.specs.Device.{Pages}
use Rattle.wt_tree.specs.Tree.{Tree}
use Rattle.wt_commands.specs.Answers.{done, remarked_of, edit_to}
use Rattle.wt_commands.specs.Calls.{Call, known_answer}
use Rattle.wt_commands.specs.UnmarkedEdits.{DoneByEdit}
use Rattle.wt_commands.specs.declared.command.Command.TheVariants.{Edit}
use Rattle.wt_pagetool.specs.Promises.{Ends, EndsAsEdit}
use Rattle.wt_called_edit_laws.specs.ContentsTaken.{TakesContents}
use Rattle.wt_called_edit_laws.specs.CallingContents.{TakesContentsIn}
use Rattle.wt_called_edit_laws.specs.LinedAmong.{spots_of_lines, end_of_lines, IsLinedAmong}
use Rattle.wt_called_edit_laws.specs.LinedCalling.{IsLinedCalling}
use Rattle.wt_called_edit_laws.specs.PlacedLines.{LinedBlock}
use Rattle.wt_called_edit_laws.proofs.Among.CallingLines.{calling_editable}
use Rattle.wt_called_edit_laws.proofs.Among.LinedParts.{lined_editable}
use Rattle.wt_called_edit_laws.proofs.BlocksOutside.{editable_called}
use Rattle.wt_called_edit_laws.proofs.CallingTaken.{contents_taken as calling_taken}
use Rattle.wt_called_edit_laws.proofs.CallsTake.{contents_taken}
use Rattle.wt_called_edit_laws.proofs.EditableBlocks.{editable_calling}
use Rattle.wt_program.specs.AnyCalls.{SendsFor}
use Rattle.wt_program.proofs.AnyCalls.{answer_is, selser_ends}
use Rattle.wt_program.proofs.BlocksCalls.{page_ends, page_completes}
use Rattle.wt_program.specs.EditCalls.{retyped_page, TakesToldEdits, TakesBesideEdits, TakesDifferences, TakesTextEdits}
use Rattle.wt_inside_laws.specs.BesideEdits.{IsBesideHtml}
use Rattle.wt_inside_laws.specs.HtmlEdits.{IsHtmlEdit}
use Rattle.wt_inside_laws.specs.EditsWithCalls.{IsMarkedEdit}
use Rattle.wt_inside_laws.proofs.BesideEdits.{calling_edit_done, html_beside}
use Rattle.wt_inside_laws.proofs.HtmlEdits.{html_lined}
use Rattle.wt_inside_laws.proofs.LocalTextEdits.{ordinary_alike, calling_local}
use Rattle.wt_inside_laws.proofs.EditsWithCalls.{marked_done, marked_local, marked_typed, marked_difference}
use Rattle.wt_inside_laws.proofs.ToldEdits.{lined_edit_done}
use Rattle.wt_inside_laws.proofs.TypedBeside.{calling_typed_apart}

pages_or : Pages → Option Pages → Pages
pages_or pages None = pages
pages_or pages (Some others) = others

same_pages : (pages others : Pages) → Some pages ≡ Some others → pages ≡ others
unfolding pages_or
same_pages pages others e = ap (pages_or pages) e

answered : (c : Call) (pages : Pages) (page : List ℕ) (bs : List LinedBlock) (rest : List (List Item)) (new : Tree) → c.folder.pages_before ≡ Some pages
    → IsLinedAmong pages page bs rest → (t : TakesContents pages (spots_of_lines pages page bs) (end_of_lines pages page bs rest))
    → (s : SendsFor c Edit page (retyped_page pages page new) (λ b. new)) → IsHtmlEdit pages page s.input t.paths new s.unsourced
    → known_answer c ≡ Some (done (retyped_page pages page new))
answered c pages page bs rest new told h t s e =
    answer_is c page (retyped_page pages page new) (λ b. new) h.utf8 s
    (subst (λ (ps : Pages). edit_to ps page new ≡ done (retyped_page pages page new)) (same_pages pages s.pages (sym told ∙ s.told))
    (lined_edit_done pages page bs rest new h t (html_lined pages page s.input bs rest t.paths new s.unsourced h e)))

pub calls_take_told : (c : Call) (ended : ℕ) → Ends c ended → TakesToldEdits c ended
calls_take_told c ended ends = λ pages page bs rest told h.
    let t : TakesContents pages (spots_of_lines pages page bs) (end_of_lines pages page bs rest) =
    contents_taken pages (spots_of_lines pages page bs) (end_of_lines pages page bs rest)
    (editable_called pages (spots_of_lines pages page bs) (end_of_lines pages page bs rest) (lined_editable pages page bs rest h)) in
    record {
      paths = t.paths;
      stand = t.stand;
      edit = λ new s e. page_ends c ended (retyped_page pages page new) (answered c pages page bs rest new told h t s e) ends;
      complete = λ new s e sound. page_completes c ended (retyped_page pages page new) (answered c pages page bs rest new told h t s e) ends sound;
    }

-- ---- of any page that isn't refused

marked_answered : (c : Call) (pages : Pages) (page : List ℕ) (new : Tree) → c.folder.pages_before ≡ Some pages
    → (s : SendsFor c Edit page (retyped_page pages page new) (λ b. new)) → IsMarkedEdit pages page s.input new s.unsourced
    → known_answer c ≡ Some (done (retyped_page pages page new))
marked_answered c pages page new told s e =
    answer_is c page (retyped_page pages page new) (λ b. new) e.utf8 s
    (subst (λ (ps : Pages). edit_to ps page new ≡ done (retyped_page pages page new)) (same_pages pages s.pages (sym told ∙ s.told))
    (marked_done pages page s.input new s.unsourced e))

-- ---- of blocks that may hold calls

beside_answered : (c : Call) (pages : Pages) (page : List ℕ) (bs : List LinedBlock) (rest : List (List Item)) (new : Tree) → c.folder.pages_before ≡ Some pages
    → IsLinedCalling pages page bs rest → (t : TakesContentsIn pages (spots_of_lines pages page bs) (end_of_lines pages page bs rest))
    → (s : SendsFor c Edit page (retyped_page pages page new) (λ b. new)) → IsBesideHtml pages page s.input t.paths new s.unsourced
    → known_answer c ≡ Some (done (retyped_page pages page new))
beside_answered c pages page bs rest new told h t s e =
    answer_is c page (retyped_page pages page new) (λ b. new) h.utf8 s
    (subst (λ (ps : Pages). edit_to ps page new ≡ done (retyped_page pages page new)) (same_pages pages s.pages (sym told ∙ s.told))
    (calling_edit_done pages page bs rest new h t (html_beside pages page s.input bs rest t.paths new s.unsourced h e)))

calls_take_beside : (c : Call) (ended : ℕ) → Ends c ended → TakesBesideEdits c ended
calls_take_beside c ended ends = λ pages page bs rest told h.
    let t : TakesContentsIn pages (spots_of_lines pages page bs) (end_of_lines pages page bs rest) =
    calling_taken pages (spots_of_lines pages page bs) (end_of_lines pages page bs rest)
    (editable_calling pages (spots_of_lines pages page bs) (end_of_lines pages page bs rest) (calling_editable pages page bs rest h)) in
    record {
      paths = t.paths;
      stand = t.stand;
      edit = λ new s e. page_ends c ended (retyped_page pages page new) (beside_answered c pages page bs rest new told h t s e) ends;
      complete = λ new s e sound. page_completes c ended (retyped_page pages page new) (beside_answered c pages page bs rest new told h t s e) ends sound;
      local = λ input new unsourced e. calling_local pages page bs rest new h t (html_beside pages page input bs rest t.paths new unsourced h e);
      apart = λ input new unsourced e. calling_typed_apart pages page bs rest new h t (html_beside pages page input bs rest t.paths new unsourced h e);
    }

-- ---- without marks

same_told : (c : Call) (pages others : Pages) → c.folder.pages_before ≡ Some pages → c.folder.pages_before ≡ Some others → pages ≡ others
same_told c pages others a b = same_pages pages others (sym a ∙ b)

calls_take_differences : (c : Call) (ended : ℕ) → EndsAsEdit c ended → TakesDifferences c ended
calls_take_differences c ended ends = λ pages page new told s e.
    selser_ends c ended page (retyped_page pages page (remarked_of pages page new)) (λ b. new) s
    (subst (λ (ps : Pages). DoneByEdit ps (s.pages s.title) s.input) (same_told c pages s.pages told s.told)
    (marked_difference pages page s.input new s.unsourced (s.pages s.title) e s.found s.within)) ends

-- ---- all

pub calls_take_edits : (c : Call) (ended : ℕ) → Ends c ended → EndsAsEdit c ended → TakesTextEdits c ended
calls_take_edits c ended ends as_edit = record {
  edits = record {
    edit = λ pages page new told s e. page_ends c ended (retyped_page pages page new) (marked_answered c pages page new told s e) ends;
    complete = λ pages page new told s e no.
        page_completes c ended (retyped_page pages page new) (marked_answered c pages page new told s e) ends no;
    local = marked_local;
    alike = ordinary_alike;
    apart = marked_typed;
  };
  selser = calls_take_differences c ended as_edit;
  beside = calls_take_beside c ended ends;
}
