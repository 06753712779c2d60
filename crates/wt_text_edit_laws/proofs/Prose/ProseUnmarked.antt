-- Without marks prose takes any texts, too: `edit` of the difference is done, so `selser` finds a new page.
use Rattle.std.proofs.Common.{arith, ◌≡◌, ℕ, ◌≤◌, Bool, Option, Some, List, length, nat_lt, false, refl, sym, ap, ◌∙◌, subst}
use Rattle.std.specs.Prelude.{if◌then◌else◌}
use Rattle.std.specs.Str.{IsUtf8}
use Rattle.std.proofs.lemmas.Bool.Decides.{nat_tests}
use Rattle.wt_span.specs.declared.limits.TheConstants.{HTML_BYTES, PAGE_BYTES}
use Rattle.wt_devices.specs.Device.{Pages}
use Rattle.wt_tree.specs.Opened.{without_sections}
use Rattle.wt_tree.specs.Tiling.{InPreorder, NoneIsGroup}
use Rattle.wt_tree.specs.Tree.{Label, Tree, tree, label}
use Rattle.wt_utf8.specs.Places.{not_utf8_place}
use Rattle.wt_utf8.proofs.PlaceLaws.{no_place}
use Rattle.wt_checks.specs.Kept.{children}
use Rattle.wt_checks.specs.PutBack.{have_frame}
use Rattle.wt_expand.specs.PageCalls.{expanded_page}
use Rattle.wt_schema.specs.Read.{page as as_page, read}
use Rattle.wt_page_round_trip.specs.PageTree.{page_tree}
use Rattle.wt_page_round_trip.proofs.Pages.{page_opened}
use Rattle.wt_page_round_trip.proofs.PageTrees.{ungathered_numbered, page_numbered}
use Rattle.wt_difference.specs.Remarked.{remarked}
use Rattle.wt_commands.specs.declared.refusal.Refusal.TheVariants.{TooLong}
use Rattle.wt_commands.specs.Answers.{refused, text_answer, title_answer, edit_to, IsText}
use Rattle.wt_commands.specs.UnmarkedEdits.{EditIsDone, DoneByEdit}
use Rattle.wt_commands.proofs.SectionEdits.{page_bare}
use Rattle.wt_typed_blocks.specs.Sent.{Sents, old_body}
use Rattle.wt_typed_blocks.specs.Unmarked.{free_body, AreToldApart}
use Rattle.wt_typed_blocks.proofs.SentUnmarked.{told_by_difference}
use Rattle.wt_text_edit_laws.specs.ProsePages.{Passage, prose, AreProse}
use Rattle.wt_text_edit_laws.specs.ProseEdits.{PassageEdit, old_passages, new_passages, sent_children, all_sendings, sent_prose}
use Rattle.wt_text_edit_laws.specs.ProseUnmarked.{unmarked_prose, IsUnmarkedEdit}
use Rattle.wt_text_edit_laws.proofs.Prose.ProseReading.{prose_unrefused}
use Rattle.wt_text_edit_laws.proofs.Prose.ProseTrees.{prose_blocks}
use Rattle.wt_text_edit_laws.proofs.Prose.ProseTexts.{prose_written}
use Rattle.wt_text_edit_laws.proofs.Prose.ProseTakes.{body_label, blocks_sent, sent_is, kept_so, facts_of, opened_is, prose_utf8, takes_texts}

-- ---- the marks of the difference

unmarked_is : (b : Label) (es : List PassageEdit) → AreProse (old_passages es)
    → unmarked_prose b es ≡ free_body (body_label (old_passages es)) b (blocks_sent es)
unmarked_is b es h =
    let ps : List Passage = old_passages es in
    ap (λ (t : Tree). free_body (label t) b (sent_children (all_sendings es) (children t))) (prose_blocks ps (prose_written ps h))

apart_so : (es : List PassageEdit) → IsUnmarkedEdit es → AreToldApart (blocks_sent es)
apart_so es h =
    let ps : List Passage = old_passages es in
    subst (λ (t : Tree). AreToldApart (sent_children (all_sendings es) (children t))) (prose_blocks ps (prose_written ps h.edit.are_prose)) h.apart

pub kind_opened : (t : Tree) → (label t).kind ≡ (label (without_sections t)).kind
kind_opened (tree l ts) = refl

marks_are : (pages : Pages) (es : List PassageEdit) (b : Label) → IsUnmarkedEdit es
    → remarked (page_tree pages (prose (old_passages es))) (unmarked_prose b es) ≡ sent_prose b es
marks_are pages es b h =
    let ps : List Passage = old_passages es in
    let page : List ℕ = prose ps in
    let t : Tree = page_tree pages page in
    let ss : Sents = blocks_sent es in
    let f = facts_of es h.edit in
    let u : IsUtf8 page = prose_utf8 ps h.edit.are_prose in
    let free = prose_unrefused pages ps h.edit.are_prose in
    let is = opened_is pages es h.edit in
    let opened : without_sections t ≡ old_body (body_label ps) ss = page_opened pages page u free ∙ is in
    ap (remarked t) (unmarked_is b es h.edit.are_prose)
    ∙ told_by_difference t (body_label ps) b ss (kind_opened t ∙ ap (λ (o : Tree). (label o).kind) opened)
    (page_numbered pages page) (page_bare pages page u free) opened
    (subst InPreorder is (ungathered_numbered (expanded_page pages page).outer (expanded_page pages page).items))
    (ap have_frame f.old ∙ f.unframed) (f.sent (kept_so es h.edit)) (apart_so es h)
    ∙ sym (sent_is b es h.edit.are_prose)

-- ---- `edit` of the difference

not_longer : (n m : ℕ) → n ≤ m → nat_lt m n ≡ false
not_longer n m h = grind (arith, nat_tests)

pub prose_text : (ps : List Passage) → AreProse ps → length (prose ps) ≤ PAGE_BYTES → IsText (prose ps)
unfolding title_answer
prose_text ps h le = λ made.
    ap (λ (v : Bool). if v then refused TooLong else text_answer (prose ps) made (not_utf8_place (prose ps))) (not_longer (length (prose ps)) PAGE_BYTES le)
    ∙ ap (text_answer (prose ps) made) (no_place (prose ps) (prose_utf8 ps h))

pub unmarked_done : (pages : Pages) (es : List PassageEdit) (stands : Option (List ℕ)) (input : List ℕ) (b : Label) (unsourced : Option ℕ) → IsUnmarkedEdit es
    → stands ≡ Some (prose (old_passages es)) → length (prose (old_passages es)) ≤ PAGE_BYTES → length (prose (new_passages es)) ≤ PAGE_BYTES
    → length input ≤ HTML_BYTES → read input ≡ as_page (unmarked_prose b es) unsourced → DoneByEdit pages stands input
unmarked_done pages es stands input b unsourced h found short le small is =
    let page : List ℕ = prose (old_passages es) in
    let made : EditIsDone pages page (as_page (unmarked_prose b es) unsourced) =
    (prose (new_passages es), ap (edit_to pages page) (marks_are pages es b h) ∙ takes_texts pages es b h.edit le) in
    record {
      page = page;
      found = found;
      text = prose_text (old_passages es) h.edit.are_prose short;
      within = small;
      done = subst (EditIsDone pages page) (sym is) made;
    }
