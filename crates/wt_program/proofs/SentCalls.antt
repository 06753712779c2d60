-- Calls to which the HTML of an edit is given send it, and write the new page.
use Rattle.std.proofs.Common.{◌≡◌, ◌≤◌, ℕ, Option, Some, None, List, length, sym, ap, ◌∙◌, subst, arith}
use Rattle.std.specs.Prelude.{◌⊎◌}
use Rattle.std.specs.Str.{IsUtf8}
use Rattle.wt_span.specs.declared.limits.TheConstants.{PAGE_BYTES}
use Rattle.wt_expand.specs.Expansion.{page_work}
use Rattle.wt_expand.specs.Work.{Pages, first_refusal}
use Rattle.wt_tree.specs.Tree.{Label, Tree}
use Rattle.wt_page_round_trip.proofs.Pages.{body_written}
use Rattle.wt_page_round_trip.proofs.Sectioned.{IsWrittenBody}
use Rattle.wt_checks.specs.Kept.{children}
use Rattle.wt_commands.specs.Answers.{done, edit_to}
use Rattle.wt_commands.specs.declared.command.Command.TheVariants.{Edit}
use Rattle.wt_commands.specs.Calls.{Call}
use Rattle.wt_commands.specs.Statuses.{IsFaultOrNoMemory}
use Rattle.wt_pagetool.specs.Promises.{Ends}
use Rattle.wt_typed_blocks.specs.Edited.{Edits, page_nodes, AreEdited, AreOutside}
use Rattle.wt_text_edit_laws.specs.BlockSpots.{BlockSpot, spots_source}
use Rattle.wt_called_edit_laws.specs.CalledPages.{IsCalledPage}
use Rattle.wt_called_edit_laws.specs.CalledTexts.{spots_tree}
use Rattle.wt_called_edit_laws.specs.Covered.{IsEditablePage}
use Rattle.wt_called_edit_laws.specs.ChosenContents.{Choice, AreSentAt}
use Rattle.wt_called_edit_laws.specs.EditsAt.{AllStand, edited_page, IsContentEdit, sent_contents}
use Rattle.wt_called_edit_laws.specs.Groups.{called_tree}
use Rattle.wt_called_edit_laws.proofs.BlocksOutside.{editable_called}
use Rattle.wt_called_edit_laws.proofs.CallsTake.{numbered_body, contents_by, contents_paths}
use Rattle.wt_called_edit_laws.proofs.EditFacts.{IsFramedPage, framed_page, paths_of, spots_utf8, spots_stand, well_sent}
use Rattle.wt_called_edit_laws.proofs.OwnContents.{own_contents}
use Rattle.wt_program.specs.AnyCalls.{SendsFor}
use Rattle.wt_program.specs.Calls.{WroteNewPage}
use Rattle.wt_program.specs.EditsSent.{body_read, HasHtml, CanBeSent, IsSentSo, AnyCanBeSent}
use Rattle.wt_program.specs.SentHtml.{edited_html, AreRead, AreChosenRead}
use Rattle.wt_program.proofs.AnyCalls.{answer_is}
use Rattle.wt_program.proofs.BlocksCalls.{page_ends}
use Rattle.wt_program.proofs.ChosenHtml.{html_edits, html_is_edit, html_is_read, html_sends}
use Rattle.wt_program.proofs.SentPages.{page_html}

pub can_be_sent : (pages : Pages) (page : List ℕ) (es : Edits) → IsUtf8 page → length page ≤ PAGE_BYTES
    → first_refusal pages page (page_work pages page) ≡ None → page_nodes es ≡ children (called_tree pages page) → AreEdited es → AreRead es
    → CanBeSent pages page es
can_be_sent pages page es u room e old s r =
    let html : HasHtml (called_tree pages page) es = page_html pages page es u (omega (arith, room)) e old s r in
    record {
      input = html.input;
      edit = λ c title new g was now. record {
        title = title;
        pages = pages;
        input = html.input;
        body = body_read (called_tree pages page);
        unsourced = html.unsourced;
        words = g.words;
        told = g.told;
        found = g.found;
        given = g.given;
        reads = html.marked;
        within = g.within;
        old_within = was;
        new_within = now;
      };
      selser = λ c title new g was now. record {
        title = title;
        pages = pages;
        input = edited_html (called_tree pages page) es;
        body = body_read (called_tree pages page);
        unsourced = None;
        words = g.words;
        told = g.told;
        found = g.found;
        given = g.given;
        reads = html.unmarked;
        within = g.within;
        old_within = was;
        new_within = now;
      };
    }

-- ---- whatever contents are chosen

spots_written : (pages : Pages) (ss : List BlockSpot) (behind : List ℕ) → IsCalledPage pages ss behind → length (spots_source ss behind) ≤ PAGE_BYTES
    → IsWrittenBody (spots_tree pages ss behind)
spots_written pages ss behind h room =
    body_written pages (spots_source ss behind) (spots_utf8 pages ss behind h) (omega (arith, room)) h.unrefused

-- the edit is done
edit_is_done : (pages : Pages) (ss : List BlockSpot) (behind : List ℕ) (f : IsFramedPage pages ss behind) → IsCalledPage pages ss behind → (b : Label)
    (es : Edits) → IsContentEdit (spots_tree pages ss behind) ss (paths_of f) es → length (edited_page ss behind (paths_of f) es) ≤ PAGE_BYTES
    → edit_to pages (spots_source ss behind) (sent_contents (spots_tree pages ss behind) es b) ≡ done (edited_page ss behind (paths_of f) es)
edit_is_done pages ss behind f h =
    let P : List (List ℕ) → Type 0 = λ ps.
    (b : Label) (es : Edits) → IsContentEdit (spots_tree pages ss behind) ss ps es → length (edited_page ss behind ps es) ≤ PAGE_BYTES
    → edit_to pages (spots_source ss behind) (sent_contents (spots_tree pages ss behind) es b) ≡ done (edited_page ss behind ps es) in
    subst P (contents_paths pages ss behind f h) (contents_by pages ss behind f h).takes

-- of the pages that the folder tells
pages_or : Pages → Option Pages → Pages
pages_or pages None = pages
pages_or pages (Some others) = others

same_pages : (pages others : Pages) → Some pages ≡ Some others → pages ≡ others
unfolding pages_or
same_pages pages others e = ap (pages_or pages) e

call_writes : (c : Call) (ended : ℕ) (pages : Pages) (page new : List ℕ) (sent : Label → Tree) → IsUtf8 page → Ends c ended → c.folder.pages_before ≡ Some pages
    → SendsFor c Edit page new sent → ((b : Label) → edit_to pages page (sent b) ≡ done new) → WroteNewPage c ended new ⊎ IsFaultOrNoMemory ended
call_writes c ended pages page new sent utf8 ends told s made =
    page_ends c ended new
    (answer_is c page new sent utf8 s
    (subst (λ (ps : Pages). edit_to ps page (sent s.body) ≡ done new) (same_pages pages s.pages (sym told ∙ s.told)) (made s.body))) ends

sent_so : (pages : Pages) (ss : List BlockSpot) (behind : List ℕ) (at : Choice) → IsEditablePage pages ss behind → length (spots_source ss behind) ≤ PAGE_BYTES
    → (f : IsFramedPage pages ss behind) → AreSentAt (spots_tree pages ss behind) ss (paths_of f) at → AreChosenRead at (paths_of f)
    → IsSentSo pages ss behind (paths_of f) at
sent_so pages ss behind at h room f s r =
    let called : IsCalledPage pages ss behind = editable_called pages ss behind h in
    let page : List ℕ = spots_source ss behind in
    let body : Tree = spots_tree pages ss behind in
    let paths : List (List ℕ) = paths_of f in
    let utf8 : IsUtf8 page = spots_utf8 pages ss behind called in
    let outside : AreOutside s.edits = (well_sent pages ss behind f s.edits called s.edit).outside in
    let es : Edits = html_edits s.edits in
    let edit : IsContentEdit body ss paths es = html_is_edit body ss paths s.edits (spots_written pages ss behind called room) outside s.edit in
    let read : AreRead es = html_is_read s.edits at paths outside s.edit.edits s.are r in
    let sent : CanBeSent pages page es = can_be_sent pages page es utf8 room called.unrefused edit.old edit.sent read in
    record {
      edits = es;
      edit = edit;
      are = html_sends s.edits at paths s.are;
      read = read;
      sent = sent;
      written = λ c ended title ends g now.
          call_writes c ended pages page (edited_page ss behind paths es) (sent_contents body es) utf8 ends g.told
          (sent.edit c title (edited_page ss behind paths es) g room now) (λ b. edit_is_done pages ss behind f called b es edit now);
    }

pub any_can_be_sent : (pages : Pages) (ss : List BlockSpot) (behind : List ℕ) → IsEditablePage pages ss behind → length (spots_source ss behind) ≤ PAGE_BYTES
    → AnyCanBeSent pages ss behind
any_can_be_sent pages ss behind h room =
    let called : IsCalledPage pages ss behind = editable_called pages ss behind h in
    let f : IsFramedPage pages ss behind = framed_page pages ss behind called in
    let stand : AllStand ss (paths_of f) (spots_tree pages ss behind) = spots_stand pages ss behind f called in
    record {
      paths = paths_of f;
      stand = stand;
      sent = λ at of fit r.
          sent_so pages ss behind at h room f
          (own_contents (spots_tree pages ss behind) ss f.nodes (numbered_body pages ss behind called) stand at of fit) r;
    }
