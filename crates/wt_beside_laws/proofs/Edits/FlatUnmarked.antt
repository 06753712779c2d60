-- The same without marks: the difference finds the paragraph, and `edit` of the difference is done.
use Rattle.std.proofs.Common.{◌≡◌, ℕ, ◌≤◌, Bool, Option, Some, List, length, refl, sym, ap, ◌∙◌, subst}
use Rattle.std.specs.Prelude.{if◌then◌else◌}
use Rattle.wt_span.specs.declared.limits.TheConstants.{HTML_BYTES, PAGE_BYTES}
use Rattle.wt_devices.specs.Device.{Pages}
use Rattle.wt_tree.specs.Opened.{without_sections}
use Rattle.wt_tree.specs.Tiling.{InPreorder}
use Rattle.wt_tree.specs.Tree.{Label, Tree, tree, label}
use Rattle.wt_utf8.specs.Places.{not_utf8_place}
use Rattle.wt_utf8.proofs.PlaceLaws.{no_place}
use Rattle.wt_checks.specs.PutBack.{have_frame}
use Rattle.wt_expand.specs.PageCalls.{expanded_page}
use Rattle.wt_schema.specs.Read.{page as as_page, read}
use Rattle.wt_page_round_trip.specs.PageTree.{page_tree}
use Rattle.wt_page_round_trip.proofs.Pages.{page_opened}
use Rattle.wt_page_round_trip.proofs.PageTrees.{ungathered_numbered, page_numbered}
use Rattle.wt_difference.specs.Difference.{same_inside}
use Rattle.wt_difference.specs.Remarked.{remarked}
use Rattle.wt_commands.specs.declared.refusal.Refusal.TheVariants.{TooLong}
use Rattle.wt_commands.specs.Answers.{refused, text_answer, title_answer, edit_to, IsText}
use Rattle.wt_commands.proofs.SectionEdits.{page_bare}
use Rattle.wt_commands.specs.UnmarkedEdits.{EditIsDone, DoneByEdit}
use Rattle.wt_typed_blocks.specs.Edited.{Pieces, Edits, page_body, sent_body}
use Rattle.wt_typed_blocks.specs.EditedUnmarked.{bare_node, bare_body, AreTold}
use Rattle.wt_typed_blocks.proofs.EditedUnmarked.{told_by_difference}
use Rattle.wt_text_edit_laws.proofs.Prose.ProseTakes.{not_longer}
use Rattle.wt_beside_laws.specs.FlatPages.{paragraph_of, IsFlatPage, flat_edits, sent_flat, new_flat, IsUnmarkedFlatEdit, bare_flat}
use Rattle.wt_beside_laws.proofs.Edits.OldPages.{body_label, one_tree, one_unframed, flat_page}
use Rattle.wt_beside_laws.proofs.Edits.FlatEdits.{para_edit, old_node, old_nodes, are_edited, opened_is}
use Rattle.wt_beside_laws.proofs.Edits.NewPages.{takes_texts}

told : (m : Label) (q : List ℕ) (ps : Pieces) → IsUnmarkedFlatEdit m q ps → AreTold (flat_edits m q ps)
told m q ps u = ((ap (λ (t : Tree). same_inside t (bare_node (para_edit m q ps))) (old_node m q ps u.edit) ∙ u.other, u.inline), tt)

kind_opened : (t : Tree) → (label t).kind ≡ (label (without_sections t)).kind
kind_opened (tree l ts) = refl

marks_are : (pages : Pages) (b m : Label) (q : List ℕ) (ps : Pieces) → IsFlatPage q → IsUnmarkedFlatEdit m q ps
    → remarked (page_tree pages q) (bare_flat b m q ps) ≡ sent_flat b m q ps
marks_are pages b m q ps h u =
    let t : Tree = page_tree pages q in
    let es : Edits = flat_edits m q ps in
    let L : Label = body_label (paragraph_of q) in
    let one = flat_page q h in
    let tree_is = one_tree q (paragraph_of q) one in
    let is = opened_is pages m q ps h u.edit in
    let opened : without_sections t ≡ page_body L es = page_opened pages q one.utf8 (one.unrefused pages) ∙ is in
    ap (λ (p : Tree). remarked t (bare_body (label p) b es)) tree_is
    ∙ told_by_difference t L b es (kind_opened t ∙ ap (λ (p : Tree). (label p).kind) opened)
    (page_numbered pages q) (page_bare pages q one.utf8 (one.unrefused pages)) opened
    (subst InPreorder is (ungathered_numbered (expanded_page pages q).outer (expanded_page pages q).items))
    (ap have_frame (old_nodes m q ps u.edit) ∙ one_unframed q (paragraph_of q) one)
    (are_edited m q ps u.edit) (told m q ps u)
    ∙ sym (ap (λ (p : Tree). sent_body (label p) b es) tree_is)

page_text : (q : List ℕ) → IsFlatPage q → length q ≤ PAGE_BYTES → IsText q
unfolding title_answer
page_text q h le = λ made.
    ap (λ (v : Bool). if v then refused TooLong else text_answer q made (not_utf8_place q)) (not_longer (length q) PAGE_BYTES le)
    ∙ ap (text_answer q made) (no_place q h.utf8)

pub unmarked_done : (pages : Pages) (b m : Label) (q : List ℕ) (ps : Pieces) (stands : Option (List ℕ)) (input : List ℕ) (unsourced : Option ℕ)
    → IsFlatPage q → IsUnmarkedFlatEdit m q ps → stands ≡ Some q → length q ≤ PAGE_BYTES → length (new_flat q ps) ≤ PAGE_BYTES
    → length input ≤ HTML_BYTES → read input ≡ as_page (bare_flat b m q ps) unsourced → DoneByEdit pages stands input
unmarked_done pages b m q ps stands input unsourced h u found short le small is =
    let made : EditIsDone pages q (as_page (bare_flat b m q ps) unsourced) =
    (new_flat q ps, ap (edit_to pages q) (marks_are pages b m q ps h u) ∙ takes_texts pages b m q ps h u.edit le) in
    record {
      page = q;
      found = found;
      text = page_text q h short;
      within = small;
      done = subst (EditIsDone pages q) (sym is) made;
    }
