-- A page that somebody typed as one paragraph takes any text, whatever somebody types: `edit` answers it as it is spelled.
use Rattle.std.proofs.Common.{arith, ◌≡◌, ℕ, ◌≤◌, Bool, false, Option, Some, List, [], length, nat_lt, refl, sym, ap, ◌∙◌, subst}
use Rattle.std.specs.Prelude.{if◌then◌else◌}
use Rattle.std.specs.Str.{IsUtf8}
use Rattle.std.proofs.lemmas.Bool.Decides.{nat_tests}
use Rattle.wt_span.specs.declared.limits.TheConstants.{HTML_BYTES, PAGE_BYTES}
use Rattle.wt_tree.specs.declared.edit_shape.Place.TheVariants as place
use Rattle.wt_guards.specs.Content.{letters}
use Rattle.wt_guards.specs.Guards.{Setting, spelled}
use Rattle.wt_devices.specs.Device.{Pages}
use Rattle.wt_span.specs.Items.{Item}
use Rattle.wt_tree.specs.Tree.{Label, Tree, Trees}
use Rattle.wt_utf8.specs.Places.{not_utf8_place}
use Rattle.wt_utf8.proofs.PlaceLaws.{no_place}
use Rattle.wt_expand.specs.PageCalls.{expanded_page}
use Rattle.wt_expand.specs.PageItems.{page_items}
use Rattle.wt_expand.proofs.PageLaws.{page_sources}
use Rattle.wt_schema.specs.Read.{page as as_page, read}
use Rattle.wt_visible.specs.Children.{shown_children, differing}
use Rattle.wt_visible.specs.Restored.{restored_from}
use Rattle.wt_visible.specs.SameNodes.{same_node}
use Rattle.wt_visible.proofs.DifferingLaws.{same_none}
use Rattle.wt_selser.specs.Edits.{most_bytes, edit_answer}
use Rattle.wt_commands.specs.declared.refusal.Refusal.TheVariants.{TooLong, InputTooLong}
use Rattle.wt_commands.specs.declared.command.Command.TheVariants.{Edit}
use Rattle.wt_commands.specs.Words.{command_of}
use Rattle.wt_commands.specs.Answers.{Answer, done, refused, text_answer, title_answer, expanded_by, unspelled_by, unspelled_answer, new_by, new_expanded, new_answer, edit_by, edit_from, edit_to, edited_answer, input_answer, edit_of, answer_to, answer_told}
use Rattle.wt_text_edit_laws.specs.PlainTexts.{IsPlainText}
use Rattle.wt_text_edit_laws.specs.TypedPages.{IsTypedPage}
use Rattle.wt_text_edit_laws.specs.LonePages.{of_items, one_shown}
use Rattle.wt_text_edit_laws.specs.LoneEdits.{sent, typed_in}
use Rattle.wt_text_edit_laws.proofs.Texts.SpelledUtf8.{spelled_utf8}
use Rattle.wt_text_edit_laws.proofs.Texts.TypedText.{typed_expanded, typed_unrefused}
use Rattle.wt_text_edit_laws.proofs.Texts.TypedPages.{typed_tree, typed_tree_shows}
use Rattle.wt_text_edit_laws.proofs.Texts.TypedAgain.{old_page, sent_shows, typed_answer}
use Rattle.wt_text_edit_laws.proofs.Texts.TypedItems.{typed_own}
use Rattle.wt_text_edit_laws.proofs.Texts.TypedLeaves.{leaves}
use Rattle.wt_text_edit_laws.proofs.Texts.TypedNodes.{nodes}
use Rattle.wt_text_edit_laws.proofs.Texts.TypedTrees.{leaves_flat, leaves_shut_off, leaves_faultless}
use Rattle.wt_text_edit_laws.proofs.Texts.PlainSpelling.{plain_spelled}

abbrev as_typed : List ℕ → Setting
as_typed page = record { within = false; place = place.Paragraph; source = page }

-- ---- the new page

spelled_so : (pages : Pages) (page : List ℕ) (n : ℕ) (ts : Trees) (text : List ℕ) (b p t : Label) → IsUtf8 text
    → unspelled_answer pages (old_page n ts) (sent b p t text) (typed_in page text) ≡ done (typed_in page text)
spelled_so pages page n ts text b p t u =
    let new : List ℕ = typed_in page text in
    ap (λ xs. unspelled_by new (differing 1 xs (shown_children (restored_from (old_page n ts) (sent b p t text)))))
    (typed_tree_shows pages (as_typed page) text u refl)
    ∙ ap (λ xs. unspelled_by new (differing 1 (one_shown text) xs)) (sent_shows n ts text b p t)
    ∙ ap (unspelled_by new) (same_none 1 (one_shown text))

not_longer : (n m : ℕ) → n ≤ m → nat_lt m n ≡ false
not_longer n m h = grind (arith, nat_tests)

-- the same limit
as_edit : (new : List ℕ) → length new ≤ PAGE_BYTES → length new ≤ most_bytes
unfolding most_bytes
as_edit new h = h

new_done : (pages : Pages) (page : List ℕ) (n : ℕ) (ts : Trees) (text : List ℕ) (b p t : Label) → IsUtf8 text → length (typed_in page text) ≤ PAGE_BYTES
    → new_answer pages (old_page n ts) (sent b p t text) (typed_in page text) ≡ done (typed_in page text)
unfolding title_answer
new_done pages page n ts text b p t u le =
    let new : List ℕ = typed_in page text in
    let made : List ℕ → Answer = new_expanded pages (old_page n ts) (sent b p t text) in
    ap (λ (v : Bool). if v then refused TooLong else text_answer new made (not_utf8_place new)) (not_longer (length new) PAGE_BYTES le)
    ∙ ap (text_answer new made) (no_place new (spelled_utf8 (as_typed page) text u))
    ∙ ap (new_by (unspelled_answer pages (old_page n ts) (sent b p t text) new)) (typed_unrefused pages (as_typed page) text u)
    ∙ spelled_so pages page n ts text b p t u

-- ---- the edit

-- of the page that is this text, as it is spelled
takes : (pages : Pages) (s : Setting) (was text : List ℕ) (b p t : Label) → IsUtf8 was → s.within ≡ false → IsUtf8 text
    → length (typed_in (spelled s (letters was)) text) ≤ PAGE_BYTES
    → edit_to pages (spelled s (letters was)) (sent b p t text) ≡ done (typed_in (spelled s (letters was)) text)
takes pages s was text b p t v w u le =
    let page : List ℕ = spelled s (letters was) in
    let xs : List Item = page_items page in
    let ts : Trees = nodes 2 [] (leaves xs) in
    let old : Tree = old_page (length page) ts in
    let new : Tree = sent b p t text in
    ap (expanded_by (edit_from pages page new)) (typed_unrefused pages s was v)
    ∙ ap (λ o. edit_by pages o new (edit_answer same_node (expanded_page pages page) page o new)) (typed_tree pages s was v w)
    ∙ ap (λ e. edit_by pages old new (edit_answer same_node e page old new)) (typed_expanded pages s was v)
    ∙ ap (edit_by pages old new) (typed_answer same_node xs page ts text b p t (leaves_flat xs (length page) (typed_own s was) ∙ page_sources page)
    (leaves_shut_off xs (typed_own s was)) (leaves_faultless (of_items xs) xs) (as_edit (typed_in page text) le))
    ∙ new_done pages page (length page) ts text b p t u le

pub takes_any : (pages : Pages) (page text : List ℕ) (b p t : Label) → IsTypedPage page → IsUtf8 text → length (typed_in page text) ≤ PAGE_BYTES
    → edit_to pages page (sent b p t text) ≡ done (typed_in page text)
takes_any pages page text b p t h u le =
    let P : List ℕ → Type 0 = λ q. length (typed_in q text) ≤ PAGE_BYTES → edit_to pages q (sent b p t text) ≡ done (typed_in q text) in
    subst P (sym h.is) (takes pages h.setting h.text text b p t h.utf8 h.of_block u) le

typed_utf8 : (page : List ℕ) → IsTypedPage page → IsUtf8 page
typed_utf8 page h = let P : List ℕ → Type 0 = IsUtf8 in subst P (sym h.is) (spelled_utf8 h.setting h.text h.utf8)

-- plain text was typed, and what `edit` answers was, too
pub plain_typed : (page : List ℕ) → IsPlainText page → IsTypedPage page
plain_typed page h = record { setting = as_typed []; text = page; utf8 = h.utf8; of_block = refl; is = sym (plain_spelled [] page h) }

pub typed_again : (page text : List ℕ) → IsUtf8 text → IsTypedPage (typed_in page text)
typed_again page text u = record { setting = as_typed page; text = text; utf8 = u; of_block = refl; is = refl }

-- of what stands under a title, to an input
pub edit_takes_any : (pages : Pages) (page text input : List ℕ) (b p t : Label) (unsourced : Option ℕ) → IsTypedPage page → IsUtf8 text
    → length page ≤ PAGE_BYTES → length (typed_in page text) ≤ PAGE_BYTES → length input ≤ HTML_BYTES
    → read input ≡ as_page (sent b p t text) unsourced → edit_of pages (Some page) input ≡ done (typed_in page text)
unfolding title_answer input_answer edited_answer
edit_takes_any pages page text input b p t unsourced g u short le small is =
    let made : List ℕ → Answer = λ page. input_answer (edited_answer pages page) input in
    ap (λ (v : Bool). if v then refused TooLong else text_answer page made (not_utf8_place page)) (not_longer (length page) PAGE_BYTES short)
    ∙ ap (text_answer page made) (no_place page (typed_utf8 page g))
    ∙ ap (λ (v : Bool). if v then refused InputTooLong else edited_answer pages page (read input)) (not_longer (length input) HTML_BYTES small)
    ∙ ap (edited_answer pages page) is
    ∙ takes_any pages page text b p t g u le

-- by a command line, over a folder that has the page and this input
pub command_takes_any : (pages : Pages) (words : List (List ℕ)) (title page text input : List ℕ) (b p t : Label) (unsourced : Option ℕ)
    → command_of words ≡ Some (Edit title) → pages title ≡ Some page → IsTypedPage page → IsUtf8 text
    → length page ≤ PAGE_BYTES → length (typed_in page text) ≤ PAGE_BYTES → length input ≤ HTML_BYTES
    → read input ≡ as_page (sent b p t text) unsourced → answer_told (Some pages) (Some input) words ≡ Some (done (typed_in page text))
unfolding answer_told
command_takes_any pages words title page text input b p t unsourced command found g u short le small is =
    ap (answer_to (Some pages) (Some input)) command
    ∙ ap (λ (stands : Option (List ℕ)). Some (edit_of pages stands input)) found
    ∙ ap (λ (a : Answer). Some a) (edit_takes_any pages page text input b p t unsourced g u short le small is)
