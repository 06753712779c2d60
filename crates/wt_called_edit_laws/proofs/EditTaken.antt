-- `edit` of a page with calls, and the difference of what was sent without marks: by what holds of what is sent.
use Rattle.std.proofs.Common.{◌≡◌, ℕ, ◌≤◌, Bool, false, Option, Some, None, List, length, refl, sym, ap, ◌∙◌, subst}
use Rattle.std.specs.Prelude.{Ok, if◌then◌else◌}
use Rattle.std.specs.Str.{IsUtf8}
use Rattle.wt_span.specs.declared.limits.TheConstants.{HTML_BYTES, PAGE_BYTES}
use Rattle.wt_devices.specs.Device.{Pages}
use Rattle.wt_tree.specs.Opened.{without_sections}
use Rattle.wt_tree.specs.Source.{flat_of_all}
use Rattle.wt_tree.specs.Tiling.{InPreorder}
use Rattle.wt_tree.specs.Tree.{Label, Tree, tree, label}
use Rattle.wt_utf8.specs.Places.{not_utf8_place}
use Rattle.wt_utf8.proofs.PlaceLaws.{no_place}
use Rattle.wt_checks.specs.Kept.{children}
use Rattle.wt_checks.proofs.Sections.{no_difference}
use Rattle.wt_checks.specs.Checked.{checked}
use Rattle.wt_checks.specs.Places.{page_of, is_content}
use Rattle.wt_checks.specs.PutBack.{have_frame}
use Rattle.wt_expand.specs.PageCalls.{expanded_page}
use Rattle.wt_schema.specs.Read.{page as as_page, read}
use Rattle.wt_page_round_trip.specs.PageTree.{page_tree}
use Rattle.wt_page_round_trip.proofs.Pages.{page_opened}
use Rattle.wt_page_round_trip.proofs.PageTrees.{page_numbered}
use Rattle.wt_visible.specs.Children.{listed, shown_children, differing}
use Rattle.wt_visible.specs.Restored.{restored_from}
use Rattle.wt_visible.specs.SameNodes.{same_node}
use Rattle.wt_visible.proofs.DifferingLaws.{same_none}
use Rattle.wt_difference.specs.Remarked.{remarked}
use Rattle.wt_selser.specs.Edits.{most_bytes, edit_answer}
use Rattle.wt_selser.proofs.Sections.{slices_same}
use Rattle.wt_slices.specs.BodySlices.{slices}
use Rattle.wt_splice.specs.Splice.{spliced}
use Rattle.wt_commands.specs.declared.refusal.Refusal.TheVariants.{TooLong}
use Rattle.wt_commands.specs.Answers.{Answer, refusal_of_page, done, refused, text_answer, title_answer, expanded_by, unspelled_by, unspelled_answer, new_by, new_expanded, new_answer, edit_by, edit_from, edit_to, IsText}
use Rattle.wt_commands.proofs.SectionEdits.{page_bare}
use Rattle.wt_commands.specs.UnmarkedEdits.{EditIsDone, DoneByEdit}
use Rattle.wt_typed_blocks.specs.Edited.{Edits, page_nodes, page_body, sent_body, edits_show, AreEdited, AreOutside}
use Rattle.wt_typed_blocks.specs.EditedPage.{edited_sources, AreTaken, LieAt, AreApart}
use Rattle.wt_typed_blocks.specs.EditedUnmarked.{bare_body, AreTold}
use Rattle.wt_typed_blocks.proofs.EditedKept.{found, passes}
use Rattle.wt_typed_blocks.proofs.EditedSections.{one_body, answer_in_sections}
use Rattle.wt_typed_blocks.proofs.EditedSlices.{changes_of, slices_are}
use Rattle.wt_typed_blocks.proofs.EditedSpliced.{spliced_is}
use Rattle.wt_typed_blocks.proofs.EditedShows.{page_shows}
use Rattle.wt_typed_blocks.proofs.EditedUnmarked.{told_by_difference}
use Rattle.wt_text_edit_laws.proofs.Prose.ProseTakes.{as_edit, not_longer}
use Rattle.wt_text_edit_laws.proofs.Texts.TypedShown.{gathered_shows}
use Rattle.wt_called_edit_laws.specs.Groups.{called_tree}
use Rattle.wt_called_edit_laws.proofs.PageBody.{IsBodyOf, page_body as body_of, as_body}

-- A page that is text, and that the folder can expand.
pub record IsExpandable (pages : Pages) (page : List ℕ) : Type 0 where
  pub utf8 : IsUtf8 page
  pub unrefused : refusal_of_page pages page ≡ None

-- What is sent for the nodes of such a page, so that it makes another one.
pub record MakesFrom (pages : Pages) (page new : List ℕ) (es : Edits) : Type 0 where
  pub was : IsExpandable pages page
  pub now : IsExpandable pages new
  pub old : page_nodes es ≡ children (called_tree pages page)
  pub sent : AreEdited es
  pub outside : AreOutside es
  pub taken : AreTaken same_node es
  pub lie : LieAt 0 es
  pub apart : AreApart (expanded_page pages page) page es
  pub source : edited_sources same_node es ≡ new
  pub shows : shown_children (called_tree pages new) ≡ listed (edits_show es)

-- ---- the page's body

body_is : (pages : Pages) (page : List ℕ) → IsExpandable pages page → IsBodyOf page (called_tree pages page)
body_is pages page h = body_of pages page h.utf8 h.unrefused

-- the page's tree with what is sent for its nodes
tree_is : (pages : Pages) (page new : List ℕ) (es : Edits) → MakesFrom pages page new es
    → called_tree pages page ≡ page_body (label (called_tree pages page)) es
tree_is pages page new es h =
    let b = body_is pages page h.was in as_body (called_tree pages page) (page_nodes es) b.kind b.number h.old

opened_is : (pages : Pages) (page new : List ℕ) (es : Edits) → MakesFrom pages page new es
    → without_sections (page_tree pages page) ≡ page_body (label (called_tree pages page)) es
opened_is pages page new es h = page_opened pages page h.was.utf8 h.was.unrefused ∙ tree_is pages page new es h

in_order : (pages : Pages) (page new : List ℕ) (es : Edits) → MakesFrom pages page new es → InPreorder (page_body (label (called_tree pages page)) es)
in_order pages page new es h = let b = body_is pages page h.was in subst InPreorder (tree_is pages page new es h) b.numbered

none_frame : (pages : Pages) (page new : List ℕ) (es : Edits) → MakesFrom pages page new es → have_frame (page_nodes es) ≡ false
none_frame pages page new es h = let b = body_is pages page h.was in ap have_frame h.old ∙ b.unframed

-- ---- the answer

answer_so : (pages : Pages) (page new : List ℕ) (es : Edits) (b : Label) → MakesFrom pages page new es → length new ≤ PAGE_BYTES
    → edit_answer same_node (expanded_page pages page) page (page_tree pages page) (sent_body (label (called_tree pages page)) b es) ≡ Ok new
answer_so pages page new es b h le =
    let body = body_is pages page h.was in
    let short : length (edited_sources same_node es) ≤ most_bytes = subst (λ cs. length cs ≤ most_bytes) (sym h.source) (as_edit new le) in
    answer_in_sections same_node (expanded_page pages page) page (page_tree pages page) (label (called_tree pages page)) b es
    (page_bare pages page h.was.utf8 h.was.unrefused)
    (opened_is pages page new es h)
    (in_order pages page new es h)
    (none_frame pages page new es h)
    h.sent h.outside h.taken h.apart
    (sym (ap flat_of_all h.old ∙ body.source)) h.lie short
    ∙ ap Ok h.source

-- ---- what is spliced

checks_pass : (pages : Pages) (page new : List ℕ) (es : Edits) (b : Label) → MakesFrom pages page new es
    → checked false (page_tree pages page) (sent_body (label (called_tree pages page)) b es) ≡ None
checks_pass pages page new es b h =
    let l : Label = label (called_tree pages page) in
    let u : Tree = sent_body l b es in
    no_difference false (page_tree pages page) u (page_bare pages page h.was.utf8 h.was.unrefused)
    ∙ ap (λ (o : Tree). checked false o u) (opened_is pages page new es h)
    ∙ passes l b es (in_order pages page new es h) (none_frame pages page new es h) h.sent h.outside

pub edit_spliced : (pages : Pages) (page new : List ℕ) (es : Edits) (b : Label) → MakesFrom pages page new es
    → spliced page (slices same_node (page_tree pages page) (sent_body (label (called_tree pages page)) b es)) ≡ new
edit_spliced pages page new es b h =
    let l : Label = label (called_tree pages page) in
    let u : Tree = sent_body l b es in
    let pre : InPreorder (page_body l es) = in_order pages page new es h in
    let bare = page_bare pages page h.was.utf8 h.was.unrefused in
    let body = body_is pages page h.was in
    let own : slices same_node (page_body l es) u ≡ changes_of same_node es =
    slices_are same_node (page_of (page_body l es)) 0 (is_content l.mark) es h.sent (found l es pre) in
    ap (spliced page) (slices_same same_node (page_tree pages page) u bare (one_body l b es h.sent (none_frame pages page new es h)) (checks_pass pages page new es b h))
    ∙ ap (λ (o : Tree). spliced page (slices same_node o u)) (opened_is pages page new es h)
    ∙ ap (spliced page) own
    ∙ spliced_is same_node page es (sym (ap flat_of_all h.old ∙ body.source)) h.lie
    ∙ h.source

-- ---- the new page

new_page_shows : (pages : Pages) (page new : List ℕ) (es : Edits) → MakesFrom pages page new es
    → shown_children (page_tree pages new) ≡ listed (edits_show es)
new_page_shows pages page new es h = gathered_shows (called_tree pages new) ∙ h.shows

sent_shows : (pages : Pages) (page new : List ℕ) (es : Edits) (b : Label) → MakesFrom pages page new es
    → shown_children (restored_from (page_tree pages page) (sent_body (label (called_tree pages page)) b es)) ≡ listed (edits_show es)
sent_shows pages page new es b h =
    page_shows (page_tree pages page) (label (called_tree pages page)) b es (page_bare pages page h.was.utf8 h.was.unrefused)
    (opened_is pages page new es h) (in_order pages page new es h) h.sent h.outside

new_done : (pages : Pages) (page new : List ℕ) (es : Edits) (b : Label) → MakesFrom pages page new es → length new ≤ PAGE_BYTES
    → new_answer pages (page_tree pages page) (sent_body (label (called_tree pages page)) b es) new ≡ done new
unfolding title_answer
new_done pages page new es b h le =
    let t : Tree = page_tree pages page in
    let u : Tree = sent_body (label (called_tree pages page)) b es in
    let shown = listed (edits_show es) in
    let made : List ℕ → Answer = new_expanded pages t u in
    ap (λ (v : Bool). if v then refused TooLong else text_answer new made (not_utf8_place new)) (not_longer (length new) PAGE_BYTES le)
    ∙ ap (text_answer new made) (no_place new h.now.utf8)
    ∙ ap (new_by (unspelled_answer pages t u new)) h.now.unrefused
    ∙ ap (λ xs. unspelled_by new (differing 1 xs (shown_children (restored_from t u)))) (new_page_shows pages page new es h)
    ∙ ap (λ xs. unspelled_by new (differing 1 shown xs)) (sent_shows pages page new es b h)
    ∙ ap (unspelled_by new) (same_none 1 shown)

-- ---- the edit

pub edit_done : (pages : Pages) (page new : List ℕ) (es : Edits) (b : Label) → MakesFrom pages page new es → length new ≤ PAGE_BYTES
    → edit_to pages page (sent_body (label (called_tree pages page)) b es) ≡ done new
edit_done pages page new es b h le =
    let t : Tree = page_tree pages page in
    let u : Tree = sent_body (label (called_tree pages page)) b es in
    ap (expanded_by (edit_from pages page u)) h.was.unrefused
    ∙ ap (edit_by pages t u) (answer_so pages page new es b h le)
    ∙ new_done pages page new es b h le

-- ---- without marks

kind_opened : (t : Tree) → (label t).kind ≡ (label (without_sections t)).kind
kind_opened (tree l ts) = refl

marks_are : (pages : Pages) (page new : List ℕ) (es : Edits) (b : Label) → MakesFrom pages page new es → AreTold es
    → remarked (page_tree pages page) (bare_body (label (called_tree pages page)) b es) ≡ sent_body (label (called_tree pages page)) b es
marks_are pages page new es b h apart =
    let opened = opened_is pages page new es h in
    told_by_difference (page_tree pages page) (label (called_tree pages page)) b es
    (kind_opened (page_tree pages page) ∙ ap (λ (t : Tree). (label t).kind) opened)
    (page_numbered pages page) (page_bare pages page h.was.utf8 h.was.unrefused) opened
    (in_order pages page new es h) (none_frame pages page new es h) h.sent apart

page_text : (pages : Pages) (page : List ℕ) → IsExpandable pages page → length page ≤ PAGE_BYTES → IsText page
unfolding title_answer
page_text pages page h le = λ made.
    ap (λ (v : Bool). if v then refused TooLong else text_answer page made (not_utf8_place page)) (not_longer (length page) PAGE_BYTES le)
    ∙ ap (text_answer page made) (no_place page h.utf8)

pub unmarked_done : (pages : Pages) (page new : List ℕ) (es : Edits) (b : Label) (stands : Option (List ℕ)) (input : List ℕ) (unsourced : Option ℕ)
    → MakesFrom pages page new es → AreTold es → stands ≡ Some page → length page ≤ PAGE_BYTES → length new ≤ PAGE_BYTES → length input ≤ HTML_BYTES
    → read input ≡ as_page (bare_body (label (called_tree pages page)) b es) unsourced → DoneByEdit pages stands input
unmarked_done pages page new es b stands input unsourced h apart found short le small is =
    let made : EditIsDone pages page (as_page (bare_body (label (called_tree pages page)) b es) unsourced) =
    (new, ap (edit_to pages page) (marks_are pages page new es b h apart) ∙ edit_done pages page new es b h le) in
    record {
      page = page;
      found = found;
      text = page_text pages page h.was short;
      within = small;
      done = subst (EditIsDone pages page) (sym is) made;
    }
