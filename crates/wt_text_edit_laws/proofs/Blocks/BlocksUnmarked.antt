-- Without marks such a page takes any texts, too: `edit` of the difference is done, so `selser` finds a new page.
use Rattle.std.proofs.Common.{◌≡◌, ℕ, ◌≤◌, Bool, Option, Some, List, length, refl, sym, ap, ◌∙◌, subst}
use Rattle.std.specs.Prelude.{if◌then◌else◌}
use Rattle.std.specs.Str.{IsUtf8}
use Rattle.wt_span.specs.declared.limits.TheConstants.{HTML_BYTES, PAGE_BYTES}
use Rattle.wt_devices.specs.Device.{Pages}
use Rattle.wt_tree.specs.Opened.{without_sections}
use Rattle.wt_tree.specs.Tiling.{InPreorder, NoneIsGroup}
use Rattle.wt_tree.specs.Tree.{Label, Tree, tree, label}
use Rattle.wt_utf8.specs.Places.{not_utf8_place}
use Rattle.wt_utf8.proofs.PlaceLaws.{no_place}
use Rattle.wt_checks.specs.Kept.{children}
use Rattle.wt_checks.specs.PutBack.{have_frame}
use Rattle.wt_expand.specs.PageCalls.{expanded_page}
use Rattle.wt_schema.specs.Read.{page as as_page, read}
use Rattle.wt_page_round_trip.specs.PageTree.{page_tree}
use Rattle.wt_page_round_trip.proofs.Pages.{page_opened}
use Rattle.wt_page_round_trip.proofs.PageTrees.{ungathered_numbered, page_numbered}
use Rattle.wt_difference.specs.Remarked.{remarked}
use Rattle.wt_commands.specs.declared.refusal.Refusal.TheVariants.{TooLong}
use Rattle.wt_commands.specs.Answers.{refused, text_answer, title_answer, edit_to, IsText}
use Rattle.wt_commands.specs.UnmarkedEdits.{EditIsDone, DoneByEdit}
use Rattle.wt_commands.proofs.SectionEdits.{page_bare}
use Rattle.wt_typed_blocks.specs.Sent.{Sents, old_body}
use Rattle.wt_typed_blocks.specs.Unmarked.{free_body, AreToldApart}
use Rattle.wt_typed_blocks.proofs.SentUnmarked.{told_by_difference}
use Rattle.wt_text_edit_laws.proofs.Prose.ProseTakes.{not_longer}
use Rattle.wt_text_edit_laws.proofs.Blocks.BlocksAgain.{spots_utf8}
use Rattle.wt_text_edit_laws.proofs.Blocks.BlocksRead.{spots_unrefused}
use Rattle.wt_text_edit_laws.specs.BlockEdits.{BlockEdit, old_spots, old_page, new_page, sendings, sent_children, sent_page, IsBlockEdit}
use Rattle.wt_text_edit_laws.specs.UnmarkedBlocks.{unmarked_page, IsUnmarkedBlockEdit}
use Rattle.wt_text_edit_laws.proofs.Blocks.BlocksTake.{label_of, blocks_sent, tree_is, sent_is, kept_so, facts_of, opened_is, takes_texts}

-- ---- the marks of the difference

unmarked_is : (b : Label) (e : BlockEdit) → IsBlockEdit e → unmarked_page b e ≡ free_body (label_of e) b (blocks_sent e)
unmarked_is b e h = ap (λ (t : Tree). free_body (label t) b (sent_children (sendings e) (children t))) (tree_is e h)

apart_so : (e : BlockEdit) → IsUnmarkedBlockEdit e → AreToldApart (blocks_sent e)
apart_so e h = subst (λ (t : Tree). AreToldApart (sent_children (sendings e) (children t))) (tree_is e h.edit) h.apart

kind_opened : (t : Tree) → (label t).kind ≡ (label (without_sections t)).kind
kind_opened (tree l ts) = refl

marks_are : (pages : Pages) (e : BlockEdit) (b : Label) → IsUnmarkedBlockEdit e → remarked (page_tree pages (old_page e)) (unmarked_page b e) ≡ sent_page b e
marks_are pages e b h =
    let page : List ℕ = old_page e in
    let t : Tree = page_tree pages page in
    let ss : Sents = blocks_sent e in
    let f = facts_of pages e h.edit in
    let u : IsUtf8 page = spots_utf8 (old_spots e.spots) e.behind h.edit.are_spots in
    let free = spots_unrefused pages (old_spots e.spots) e.behind h.edit.are_spots in
    let is = opened_is pages e h.edit in
    let opened : without_sections t ≡ old_body (label_of e) ss = page_opened pages page u free ∙ is in
    ap (remarked t) (unmarked_is b e h.edit)
    ∙ told_by_difference t (label_of e) b ss (kind_opened t ∙ ap (λ (o : Tree). (label o).kind) opened)
    (page_numbered pages page) (page_bare pages page u free) opened
    (subst InPreorder is (ungathered_numbered (expanded_page pages page).outer (expanded_page pages page).items))
    (ap have_frame f.old ∙ f.unframed) (f.sent (kept_so e h.edit)) (apart_so e h)
    ∙ sym (sent_is b e h.edit)

-- ---- `edit` of the difference

page_text : (e : BlockEdit) → IsBlockEdit e → length (old_page e) ≤ PAGE_BYTES → IsText (old_page e)
unfolding title_answer
page_text e h le = λ made.
    ap (λ (v : Bool). if v then refused TooLong else text_answer (old_page e) made (not_utf8_place (old_page e))) (not_longer (length (old_page e)) PAGE_BYTES le)
    ∙ ap (text_answer (old_page e) made) (no_place (old_page e) (spots_utf8 (old_spots e.spots) e.behind h.are_spots))

pub unmarked_done : (pages : Pages) (e : BlockEdit) (stands : Option (List ℕ)) (input : List ℕ) (b : Label) (unsourced : Option ℕ) → IsUnmarkedBlockEdit e
    → stands ≡ Some (old_page e) → length (old_page e) ≤ PAGE_BYTES → length (new_page e) ≤ PAGE_BYTES
    → length input ≤ HTML_BYTES → read input ≡ as_page (unmarked_page b e) unsourced → DoneByEdit pages stands input
unmarked_done pages e stands input b unsourced h found short le small is =
    let page : List ℕ = old_page e in
    let made : EditIsDone pages page (as_page (unmarked_page b e) unsourced) =
    (new_page e, ap (edit_to pages page) (marks_are pages e b h) ∙ takes_texts pages e b h.edit le) in
    record {
      page = page;
      found = found;
      text = page_text e h.edit short;
      within = small;
      done = subst (EditIsDone pages page) (sym is) made;
    }
