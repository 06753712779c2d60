-- Paragraphs come into prose and go from it: `edit` is done, and the new page is prose.
use Rattle.std.proofs.Common.{arith, ◌≡◌, ℕ, ◌≤◌, Bool, true, false, Option, Some, None, List, [], ◌∷◌, length, refl, sym, ap, ◌∙◌, subst}
use Rattle.std.specs.Prelude.{Ok, Err, if◌then◌else◌}
use Rattle.std.specs.Str.{IsUtf8}
use Rattle.wt_span.specs.declared.limits.TheConstants.{HTML_BYTES, PAGE_BYTES}
use Rattle.wt_devices.specs.Device.{Pages}
use Rattle.wt_tree.specs.declared.kind.Kind.TheVariants as kind
use Rattle.wt_tree.specs.declared.kind.Mark.TheVariants as marks
use Rattle.wt_tree.specs.Tiling.{InPreorder, NoneIsGroup}
use Rattle.wt_tree.specs.Tree.{Label, Tree, tree, Trees, none}
use Rattle.wt_utf8.specs.Places.{not_utf8_place}
use Rattle.wt_utf8.proofs.PlaceLaws.{no_place}
use Rattle.wt_checks.specs.Kept.{children}
use Rattle.wt_checks.specs.Places.{Page, page_of}
use Rattle.wt_checks.specs.PutBack.{have_frame}
use Rattle.wt_expand.specs.PageCalls.{expanded_page}
use Rattle.wt_expand.specs.PageItems.{page_items}
use Rattle.wt_schema.specs.Read.{page as as_page, read}
use Rattle.wt_page_round_trip.specs.PageTree.{page_tree}
use Rattle.wt_page_round_trip.proofs.Pages.{page_opened}
use Rattle.wt_page_round_trip.proofs.PageTrees.{ungathered, ungathered_numbered}
use Rattle.wt_visible.specs.Children.{listed, shown_children, differing}
use Rattle.wt_visible.specs.Restored.{restored_from}
use Rattle.wt_visible.specs.SameNodes.{same_node}
use Rattle.wt_visible.proofs.DifferingLaws.{same_none}
use Rattle.wt_selser.specs.declared.refusal.EditRefusal.TheVariants as refusal
use Rattle.wt_selser.specs.Edits.{most_bytes, if_short, edit_answer}
use Rattle.wt_splice.specs.Splice.{spliced}
use Rattle.wt_commands.specs.declared.refusal.Refusal.TheVariants.{TooLong, InputTooLong}
use Rattle.wt_commands.specs.declared.command.Command.TheVariants.{Edit}
use Rattle.wt_commands.specs.Words.{command_of}
use Rattle.wt_commands.specs.Answers.{Answer, done, refused, text_answer, title_answer, expanded_by, unspelled_by, unspelled_answer, new_by, new_expanded, new_answer, edit_by, edit_from, edit_to, edited_answer, input_answer, edit_of, answer_to, answer_told}
use Rattle.wt_commands.proofs.SectionEdits.{page_bare}
use Rattle.wt_typed_blocks.specs.Coming.{Coming, body_before, body_sent, AllStay}
use Rattle.wt_typed_blocks.proofs.ComingAnswer.{coming_slices, answer_in_sections}
use Rattle.wt_typed_blocks.proofs.ComingShows.{body_shows}
use Rattle.wt_typed_blocks.proofs.EditedSlices.{Same}
use Rattle.wt_text_edit_laws.specs.LonePages.{of_items}
use Rattle.wt_text_edit_laws.specs.ProsePages.{Passage, prose, AreProse, IsProsePage}
use Rattle.wt_text_edit_laws.specs.ProseEdits.{PassageEdit, kept, old_passages}
use Rattle.wt_text_edit_laws.specs.ProseChanges.{ProseChange, passages_before, changed_prose, passages_changed, AreSentAsIs, IsProseChange}
use Rattle.wt_text_edit_laws.proofs.Prose.ProseReading.{prose_expanded, prose_unrefused}
use Rattle.wt_text_edit_laws.proofs.Prose.ProseTrees.{blocks_from, prose_blocks}
use Rattle.wt_text_edit_laws.proofs.Prose.ProseTexts.{prose_tree, prose_written}
use Rattle.wt_text_edit_laws.proofs.Prose.ProseFacts.{FactsOf, facts_all, prose_shows}
use Rattle.wt_text_edit_laws.proofs.Prose.ProseTakes.{prose_utf8, page_shows, body_label, as_edit, not_longer}
use Rattle.wt_text_edit_laws.proofs.Prose.ChangesListed.{coming_of, whole_coming, whole_page, whole_sent, whole_stay, whole_listed, all_stay}
use Rattle.wt_text_edit_laws.proofs.Prose.ChangesSteps.{tail_first, first_tails}
use Rattle.wt_text_edit_laws.proofs.Prose.ChangesMake.{added_make, text_of, changes_make}
use Rattle.wt_text_edit_laws.proofs.Prose.ChangesText.{as_rest, whole_text, whole_prose, whole_shows}

-- ---- the page

-- each passage as one that is kept
abbrev some_node : Tree
some_node = tree (body_label []) none

abbrev as_kept : List Passage → List PassageEdit
as_kept [] = []
as_kept (p ∷ ps) = record { passage = p; sending = kept some_node; breaks = some_node } ∷ as_kept ps

as_they_are : (ps : List Passage) → old_passages (as_kept ps) ≡ ps
as_they_are [] = refl
as_they_are (p ∷ ps) = ap (λ (qs : List Passage). p ∷ qs) (as_they_are ps)

facts_of : (ps : List Passage) → AreProse ps → FactsOf (page_items (prose ps)) 1 [] (as_kept ps)
facts_of ps h =
    let h : AreProse (old_passages (as_kept ps)) = subst AreProse (sym (as_they_are ps)) h in
    facts_all (page_items (prose ps)) (as_kept ps) h 1 [] (omega arith) refl

pub unframed : (ps : List Passage) → AreProse ps → have_frame (blocks_from 1 [] ps) ≡ false
unframed ps h = subst (λ (qs : List Passage). have_frame (blocks_from 1 [] qs) ≡ false) (as_they_are ps) (facts_of ps h).unframed

ungrouped : (ps : List Passage) → AreProse ps → NoneIsGroup (blocks_from 1 [] ps)
ungrouped ps h = subst (λ (qs : List Passage). NoneIsGroup (blocks_from 1 [] qs)) (as_they_are ps) (facts_of ps h).ungrouped

-- ---- what is sent

abbrev pub label_of : ProseChange → Label
label_of c = body_label (passages_before c.changes)

pub sent_is : (b : Label) (c : ProseChange) → changed_prose b c ≡ body_sent (label_of c) b (whole_coming c)
sent_is b c =
    ap (λ (us : Trees). tree (record b { kind = kind.Body; id = 0; attrs = []; mark = marks.Children; mw = None }) us) (sym (whole_sent c))

pub stay_so : (c : ProseChange) → IsProseChange c → AreSentAsIs c.changes (blocks_from 1 [] (passages_before c.changes))
stay_so c h =
    let ps : List Passage = passages_before c.changes in
    subst (λ t. AreSentAsIs c.changes (children t)) (prose_blocks ps (prose_written ps h.are_prose)) h.as_is

pub opened_is : (pages : Pages) (c : ProseChange) (h : IsProseChange c)
    → ungathered (expanded_page pages (prose (passages_before c.changes))).outer (expanded_page pages (prose (passages_before c.changes))).items
    ≡ body_before (label_of c) (whole_coming c)
opened_is pages c h =
    let ps : List Passage = passages_before c.changes in
    prose_tree pages ps h.are_prose ∙ prose_blocks ps (prose_written ps h.are_prose) ∙ ap (λ us. tree (body_label ps) us) (sym (whole_page c))

-- ---- the new page

spliced_is : (same : Same) (c : ProseChange) → IsProseChange c
    → spliced (prose (passages_before c.changes)) (coming_slices same (label_of c) (whole_coming c)) ≡ prose (passages_changed c)
unfolding spliced
spliced_is same c h =
    let page : List ℕ = prose (passages_before c.changes) in
    let found : Page = page_of (body_before (label_of c) (whole_coming c)) in
    let cs : Coming = coming_of 1 [] c.changes in
    let le : 0 ≤ 0 = omega arith in
    let stay : AllStay cs = all_stay 1 [] c.changes (omega arith) (stay_so c h) in
    added_make same found page [] page (text_of c.changes) cs (tail_first c.changes) true c.first true refl
    (λ r. first_tails 1 [] c.changes 0 r h.are_prose)
    (λ r. changes_make same found page c.changes (as_rest c.changes h.are_prose) 1 [] r stay refl) 0 le
    ∙ whole_text c h

short : (new : List ℕ) → length new ≤ most_bytes → if_short new ≡ Ok new
short new h = ap (λ (t : Bool). if t then Err refusal.NewPageTooLong else Ok new) (not_longer (length new) most_bytes h)

answer_so : (pages : Pages) (c : ProseChange) (b : Label) (h : IsProseChange c) → length (prose (passages_changed c)) ≤ PAGE_BYTES
    → edit_answer same_node (of_items (page_items (prose (passages_before c.changes)))) (prose (passages_before c.changes))
    (page_tree pages (prose (passages_before c.changes))) (body_sent (label_of c) b (whole_coming c)) ≡ Ok (prose (passages_changed c))
answer_so pages c b h le =
    let ps : List Passage = passages_before c.changes in
    let page : List ℕ = prose ps in
    let cs : Coming = whole_coming c in
    let u : IsUtf8 page = prose_utf8 ps h.are_prose in
    let free = prose_unrefused pages ps h.are_prose in
    let is = opened_is pages c h in
    answer_in_sections same_node (of_items (page_items page)) page (page_tree pages page) (label_of c) b cs
    (page_bare pages page u free)
    (page_opened pages page u free ∙ is)
    (subst InPreorder is (ungathered_numbered (expanded_page pages page).outer (expanded_page pages page).items))
    (ap have_frame (whole_page c) ∙ unframed ps h.are_prose)
    (whole_stay c (stay_so c h)) (whole_listed c)
    ∙ ap if_short (spliced_is same_node c h)
    ∙ short (prose (passages_changed c)) (as_edit (prose (passages_changed c)) le)

-- ---- it shows what was sent

sent_shows : (t : Tree) (c : ProseChange) (b : Label) (h : IsProseChange c)
    → shown_children (restored_from t (body_sent (label_of c) b (whole_coming c))) ≡ listed (prose_shows (passages_changed c))
sent_shows t c b h =
    body_shows t (label_of c) b (whole_coming c) (whole_stay c (stay_so c h))
    (subst NoneIsGroup (sym (whole_page c)) (ungrouped (passages_before c.changes) h.are_prose))
    ∙ ap listed (whole_shows c h)

new_done : (pages : Pages) (c : ProseChange) (b : Label) (t : Tree) (h : IsProseChange c) → length (prose (passages_changed c)) ≤ PAGE_BYTES
    → new_answer pages t (body_sent (label_of c) b (whole_coming c)) (prose (passages_changed c)) ≡ done (prose (passages_changed c))
unfolding title_answer
new_done pages c b t h le =
    let qs : List Passage = passages_changed c in
    let new : List ℕ = prose qs in
    let u : Tree = body_sent (label_of c) b (whole_coming c) in
    let again : AreProse qs = whole_prose c h in
    let made : List ℕ → Answer = new_expanded pages t u in
    ap (λ (v : Bool). if v then refused TooLong else text_answer new made (not_utf8_place new)) (not_longer (length new) PAGE_BYTES le)
    ∙ ap (text_answer new made) (no_place new (prose_utf8 qs again))
    ∙ ap (new_by (unspelled_answer pages t u new)) (prose_unrefused pages qs again)
    ∙ ap (λ xs. unspelled_by new (differing 1 xs (shown_children (restored_from t u)))) (page_shows pages qs again)
    ∙ ap (λ xs. unspelled_by new (differing 1 (listed (prose_shows qs)) xs)) (sent_shows t c b h)
    ∙ ap (unspelled_by new) (same_none 1 (listed (prose_shows qs)))

-- ---- the edit

pub takes_changes : (pages : Pages) (c : ProseChange) (b : Label) → IsProseChange c → length (prose (passages_changed c)) ≤ PAGE_BYTES
    → edit_to pages (prose (passages_before c.changes)) (changed_prose b c) ≡ done (prose (passages_changed c))
takes_changes pages c b h le =
    let ps : List Passage = passages_before c.changes in
    let page : List ℕ = prose ps in
    let t : Tree = page_tree pages page in
    let u : Tree = body_sent (label_of c) b (whole_coming c) in
    ap (edit_to pages page) (sent_is b c)
    ∙ ap (expanded_by (edit_from pages page u)) (prose_unrefused pages ps h.are_prose)
    ∙ ap (λ e. edit_by pages t u (edit_answer same_node e page t u)) (prose_expanded pages ps h.are_prose)
    ∙ ap (edit_by pages t u) (answer_so pages c b h le)
    ∙ new_done pages c b t h le

-- of what stands under a title, to an input
pub edit_takes_changes : (pages : Pages) (c : ProseChange) (input : List ℕ) (b : Label) (unsourced : Option ℕ) → IsProseChange c
    → length (prose (passages_before c.changes)) ≤ PAGE_BYTES → length (prose (passages_changed c)) ≤ PAGE_BYTES → length input ≤ HTML_BYTES
    → read input ≡ as_page (changed_prose b c) unsourced → edit_of pages (Some (prose (passages_before c.changes))) input ≡ done (prose (passages_changed c))
unfolding title_answer input_answer edited_answer
edit_takes_changes pages c input b unsourced h short le small is =
    let page : List ℕ = prose (passages_before c.changes) in
    let made : List ℕ → Answer = λ page. input_answer (edited_answer pages page) input in
    ap (λ (v : Bool). if v then refused TooLong else text_answer page made (not_utf8_place page)) (not_longer (length page) PAGE_BYTES short)
    ∙ ap (text_answer page made) (no_place page (prose_utf8 (passages_before c.changes) h.are_prose))
    ∙ ap (λ (v : Bool). if v then refused InputTooLong else edited_answer pages page (read input)) (not_longer (length input) HTML_BYTES small)
    ∙ ap (edited_answer pages page) is
    ∙ takes_changes pages c b h le

-- by a command line, over a folder that has the page and this input
pub command_takes_changes : (pages : Pages) (c : ProseChange) (words : List (List ℕ)) (title input : List ℕ) (b : Label) (unsourced : Option ℕ)
    → command_of words ≡ Some (Edit title) → pages title ≡ Some (prose (passages_before c.changes)) → IsProseChange c
    → length (prose (passages_before c.changes)) ≤ PAGE_BYTES → length (prose (passages_changed c)) ≤ PAGE_BYTES → length input ≤ HTML_BYTES
    → read input ≡ as_page (changed_prose b c) unsourced → answer_told (Some pages) (Some input) words ≡ Some (done (prose (passages_changed c)))
unfolding answer_told
command_takes_changes pages c words title input b unsourced command found h short le small is =
    ap (answer_to (Some pages) (Some input)) command
    ∙ ap (λ (stands : Option (List ℕ)). Some (edit_of pages stands input)) found
    ∙ ap (λ (a : Answer). Some a) (edit_takes_changes pages c input b unsourced h short le small is)

-- ---- the class

pub changed_again : (c : ProseChange) → IsProseChange c → IsProsePage (prose (passages_changed c))
changed_again c h = record { passages = passages_changed c; are = whole_prose c h; is = refl }
