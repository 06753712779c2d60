-- Prose takes any texts in any of its paragraphs: `edit` answers the page with them, as they are spelled.
use Rattle.std.proofs.Common.{arith, ◌≡◌, ℕ, ◌≤◌, Bool, false, Option, Some, List, [], ◌∷◌, ◌++◌, length, nat_lt, refl, sym, ap, ◌∙◌, subst, append-nil}
use Rattle.std.specs.Prelude.{Ok, if◌then◌else◌, replicate, zero, suc}
use Rattle.std.specs.List.{flat_map}
use Rattle.std.specs.Str.{IsUtf8}
use Rattle.std.proofs.lemmas.Bool.Decides.{nat_tests}
use Rattle.std.proofs.lemmas.Str.{IsUtf8-append, IsUtf8-nil}
use Rattle.wt_span.specs.declared.limits.TheConstants.{HTML_BYTES, PAGE_BYTES}
use Rattle.wt_devices.specs.Device.{Pages}
use Rattle.wt_tree.specs.declared.kind.Kind.TheVariants as kind
use Rattle.wt_tree.specs.Source.{flat_of_all}
use Rattle.wt_tree.specs.Tiling.{InPreorder, NoneIsGroup}
use Rattle.wt_tree.specs.Tree.{Label, Tree, tree, label}
use Rattle.wt_utf8.specs.Places.{not_utf8_place}
use Rattle.wt_utf8.proofs.PlaceLaws.{no_place}
use Rattle.wt_inline.specs.ItemTree.{forest, held_by_all}
use Rattle.wt_checks.specs.Kept.{children}
use Rattle.wt_checks.specs.PutBack.{have_frame}
use Rattle.wt_expand.specs.PageCalls.{expanded_page}
use Rattle.wt_expand.specs.PageItems.{page_items}
use Rattle.wt_sections.specs.Sections.{with_sections}
use Rattle.wt_schema.specs.Read.{page as as_page, read}
use Rattle.wt_page_round_trip.specs.PageTree.{page_tree}
use Rattle.wt_page_round_trip.proofs.Pages.{page_opened}
use Rattle.wt_page_round_trip.proofs.PageTrees.{ungathered, ungathered_numbered}
use Rattle.wt_visible.specs.Children.{listed, shown_children, differing}
use Rattle.wt_visible.specs.Restored.{restored_from}
use Rattle.wt_visible.specs.SameNodes.{same_node}
use Rattle.wt_visible.proofs.DifferingLaws.{same_none}
use Rattle.wt_selser.specs.Edits.{most_bytes, edit_answer}
use Rattle.wt_commands.specs.declared.refusal.Refusal.TheVariants.{TooLong, InputTooLong}
use Rattle.wt_commands.specs.declared.command.Command.TheVariants.{Edit}
use Rattle.wt_commands.specs.Words.{command_of}
use Rattle.wt_commands.specs.Answers.{Answer, done, refused, text_answer, title_answer, expanded_by, unspelled_by, unspelled_answer, new_by, new_expanded, new_answer, edit_by, edit_from, edit_to, edited_answer, input_answer, edit_of, answer_to, answer_told}
use Rattle.wt_commands.proofs.SectionEdits.{page_bare}
use Rattle.wt_text_edit_laws.specs.LonePages.{of_items}
use Rattle.wt_text_edit_laws.specs.TypedPages.{IsTypedPage}
use Rattle.wt_text_edit_laws.proofs.Texts.LoneTrees.{sized}
use Rattle.wt_text_edit_laws.proofs.Texts.SpelledUtf8.{spelled_utf8}
use Rattle.wt_text_edit_laws.proofs.Texts.TypedShown.{gathered_shows}
use Rattle.wt_typed_blocks.specs.Sent.{Sents, old_body, new_body}
use Rattle.wt_typed_blocks.specs.Typed.{new_sources}
use Rattle.wt_typed_blocks.proofs.SentGroups.{outside}
use Rattle.wt_typed_blocks.proofs.SentSections.{answer_in_sections}
use Rattle.wt_typed_blocks.proofs.SentShows.{body_shows}
use Rattle.wt_text_edit_laws.specs.ProsePages.{Passage, passage_source, prose, AreProse, IsProsePage}
use Rattle.wt_text_edit_laws.specs.ProseTrees.{prose_page}
use Rattle.wt_text_edit_laws.specs.ProseEdits.{PassageEdit, old_passages, new_passages, sent_children, all_sendings, sent_prose, AreKept, IsProseEdit}
use Rattle.wt_text_edit_laws.proofs.Prose.ProseReading.{prose_expanded, prose_unrefused}
use Rattle.wt_text_edit_laws.proofs.Prose.ProseTrees.{leafy, blocks_from, prose_blocks}
use Rattle.wt_text_edit_laws.proofs.Prose.ProseTexts.{prose_tree, prose_written}
use Rattle.wt_text_edit_laws.proofs.Prose.ProseFacts.{FactsOf, facts_all, prose_shows, blocks_show, prose_own, shows_same, prose_again}

-- ---- UTF-8

breaks_utf8 : (n : ℕ) → IsUtf8 (replicate n 10)
unfolding lib.Utf8.encode
breaks_utf8 zero = IsUtf8-nil
breaks_utf8 (suc n) = IsUtf8-append (10 ∷ []) (replicate n 10) (10 ∷ [], (refl, refl)) (breaks_utf8 n)

typed_utf8 : (q : List ℕ) → IsTypedPage q → IsUtf8 q
typed_utf8 q h = let P : List ℕ → Type 0 = IsUtf8 in subst P (sym h.is) (spelled_utf8 h.setting h.text h.utf8)

passage_utf8 : (p : Passage) → IsTypedPage p.paragraph → IsUtf8 (passage_source p)
passage_utf8 p h = IsUtf8-append p.paragraph (replicate p.breaks 10) (typed_utf8 p.paragraph h) (breaks_utf8 p.breaks)

pub prose_utf8 : (ps : List Passage) → AreProse ps → IsUtf8 (prose ps)
prose_utf8 [] h = absurd h
prose_utf8 (p ∷ []) h = IsUtf8-append (passage_source p) [] (passage_utf8 p h) IsUtf8-nil
prose_utf8 (p ∷ q ∷ ps) h = IsUtf8-append (passage_source p) (prose (q ∷ ps)) (passage_utf8 p h.0) (prose_utf8 (q ∷ ps) h.2)

-- ---- the page

pub page_is : (pages : Pages) (ps : List Passage) → AreProse ps → page_tree pages (prose ps) ≡ prose_page ps
page_is pages ps h = ap with_sections (prose_tree pages ps h)

abbrev pub body_label : List Passage → Label
body_label ps = sized kind.Body 0 (held_by_all (forest (flat_map leafy ps)) ++ []) [] []

-- what it shows
pub page_shows : (pages : Pages) (ps : List Passage) → AreProse ps → shown_children (page_tree pages (prose ps)) ≡ listed (prose_shows ps)
page_shows pages ps h =
    gathered_shows (ungathered (expanded_page pages (prose ps)).outer (expanded_page pages (prose ps)).items)
    ∙ ap shown_children (prose_tree pages ps h ∙ prose_blocks ps (prose_written ps h))
    ∙ ap listed (blocks_show 1 [] ps (prose_own ps h))

-- ---- what was sent

abbrev pub blocks_sent : List PassageEdit → Sents
blocks_sent es = sent_children (all_sendings es) (blocks_from 1 [] (old_passages es))

pub sent_is : (b : Label) (es : List PassageEdit) → AreProse (old_passages es) → sent_prose b es ≡ new_body (body_label (old_passages es)) b (blocks_sent es)
sent_is b es h =
    let ps : List Passage = old_passages es in
    ap (λ t. new_body (label t) b (sent_children (all_sendings es) (children t))) (prose_blocks ps (prose_written ps h))

pub kept_so : (es : List PassageEdit) → IsProseEdit es → AreKept (all_sendings es) (blocks_from 1 [] (old_passages es))
kept_so es h =
    let ps : List Passage = old_passages es in
    subst (λ t. AreKept (all_sendings es) (children t)) (prose_blocks ps (prose_written ps h.are_prose)) h.are_kept

pub facts_of : (es : List PassageEdit) → IsProseEdit es → FactsOf (page_items (prose (old_passages es))) 1 [] es
facts_of es h = facts_all (page_items (prose (old_passages es))) es h.are_prose 1 [] (omega arith) refl

-- ---- the answer

-- the same limit
pub as_edit : (new : List ℕ) → length new ≤ PAGE_BYTES → length new ≤ most_bytes
unfolding most_bytes
as_edit new h = h

pub opened_is : (pages : Pages) (es : List PassageEdit) (h : IsProseEdit es)
    → ungathered (expanded_page pages (prose (old_passages es))).outer (expanded_page pages (prose (old_passages es))).items
    ≡ old_body (body_label (old_passages es)) (blocks_sent es)
opened_is pages es h =
    let ps : List Passage = old_passages es in
    let f = facts_of es h in
    prose_tree pages ps h.are_prose ∙ prose_blocks ps (prose_written ps h.are_prose) ∙ ap (λ us. tree (body_label ps) us) (sym f.old)

answer_so : (pages : Pages) (es : List PassageEdit) (b : Label) (h : IsProseEdit es) → length (prose (new_passages es)) ≤ PAGE_BYTES
    → edit_answer same_node (of_items (page_items (prose (old_passages es)))) (prose (old_passages es)) (page_tree pages (prose (old_passages es)))
    (new_body (body_label (old_passages es)) b (blocks_sent es)) ≡ Ok (prose (new_passages es))
answer_so pages es b h le =
    let ps : List Passage = old_passages es in
    let page : List ℕ = prose ps in
    let ss : Sents = blocks_sent es in
    let f = facts_of es h in
    let u : IsUtf8 page = prose_utf8 ps h.are_prose in
    let free = prose_unrefused pages ps h.are_prose in
    let is = opened_is pages es h in
    let short : length (new_sources ss) ≤ most_bytes = subst (λ cs. length cs ≤ most_bytes) (sym f.new) (as_edit (prose (new_passages es)) le) in
    answer_in_sections same_node (of_items (page_items page)) page (page_tree pages page) (body_label ps) b ss
    (page_bare pages page u free)
    (page_opened pages page u free ∙ is)
    (subst InPreorder is (ungathered_numbered (expanded_page pages page).outer (expanded_page pages page).items))
    (ap have_frame f.old ∙ f.unframed)
    (f.sent (kept_so es h)) (outside ss (subst NoneIsGroup (sym f.old) f.ungrouped)) f.takes (f.untangled page refl)
    (sym (ap flat_of_all f.old ∙ f.flat)) f.stand short
    ∙ ap Ok f.new

-- ---- the new page

sent_shows_so : (t : Tree) (es : List PassageEdit) (b : Label) (h : IsProseEdit es)
    → shown_children (restored_from t (new_body (body_label (old_passages es)) b (blocks_sent es))) ≡ listed (prose_shows (new_passages es))
sent_shows_so t es b h =
    let f = facts_of es h in
    body_shows t (body_label (old_passages es)) b (blocks_sent es) (f.sent (kept_so es h)) (subst NoneIsGroup (sym f.old) f.ungrouped)
    ∙ ap listed (f.shows ∙ shows_same es h.are_texts (prose_own (old_passages es) h.are_prose))

pub not_longer : (n m : ℕ) → n ≤ m → nat_lt m n ≡ false
not_longer n m h = grind (arith, nat_tests)

new_done : (pages : Pages) (es : List PassageEdit) (b : Label) (t : Tree) (h : IsProseEdit es) → length (prose (new_passages es)) ≤ PAGE_BYTES
    → new_answer pages t (new_body (body_label (old_passages es)) b (blocks_sent es)) (prose (new_passages es)) ≡ done (prose (new_passages es))
unfolding title_answer
new_done pages es b t h le =
    let qs : List Passage = new_passages es in
    let new : List ℕ = prose qs in
    let u : Tree = new_body (body_label (old_passages es)) b (blocks_sent es) in
    let again : AreProse qs = prose_again es h.are_texts h.are_prose in
    let made : List ℕ → Answer = new_expanded pages t u in
    ap (λ (v : Bool). if v then refused TooLong else text_answer new made (not_utf8_place new)) (not_longer (length new) PAGE_BYTES le)
    ∙ ap (text_answer new made) (no_place new (prose_utf8 qs again))
    ∙ ap (new_by (unspelled_answer pages t u new)) (prose_unrefused pages qs again)
    ∙ ap (λ xs. unspelled_by new (differing 1 xs (shown_children (restored_from t u)))) (page_shows pages qs again)
    ∙ ap (λ xs. unspelled_by new (differing 1 (listed (prose_shows qs)) xs)) (sent_shows_so t es b h)
    ∙ ap (unspelled_by new) (same_none 1 (listed (prose_shows qs)))

-- ---- the edit

pub takes_texts : (pages : Pages) (es : List PassageEdit) (b : Label) → IsProseEdit es → length (prose (new_passages es)) ≤ PAGE_BYTES
    → edit_to pages (prose (old_passages es)) (sent_prose b es) ≡ done (prose (new_passages es))
takes_texts pages es b h le =
    let ps : List Passage = old_passages es in
    let page : List ℕ = prose ps in
    let t : Tree = page_tree pages page in
    let u : Tree = new_body (body_label ps) b (blocks_sent es) in
    ap (edit_to pages page) (sent_is b es h.are_prose)
    ∙ ap (expanded_by (edit_from pages page u)) (prose_unrefused pages ps h.are_prose)
    ∙ ap (λ e. edit_by pages t u (edit_answer same_node e page t u)) (prose_expanded pages ps h.are_prose)
    ∙ ap (edit_by pages t u) (answer_so pages es b h le)
    ∙ new_done pages es b t h le

-- of what stands under a title, to an input
pub edit_takes_texts : (pages : Pages) (es : List PassageEdit) (input : List ℕ) (b : Label) (unsourced : Option ℕ) → IsProseEdit es
    → length (prose (old_passages es)) ≤ PAGE_BYTES → length (prose (new_passages es)) ≤ PAGE_BYTES → length input ≤ HTML_BYTES
    → read input ≡ as_page (sent_prose b es) unsourced → edit_of pages (Some (prose (old_passages es))) input ≡ done (prose (new_passages es))
unfolding title_answer input_answer edited_answer
edit_takes_texts pages es input b unsourced h short le small is =
    let page : List ℕ = prose (old_passages es) in
    let made : List ℕ → Answer = λ page. input_answer (edited_answer pages page) input in
    ap (λ (v : Bool). if v then refused TooLong else text_answer page made (not_utf8_place page)) (not_longer (length page) PAGE_BYTES short)
    ∙ ap (text_answer page made) (no_place page (prose_utf8 (old_passages es) h.are_prose))
    ∙ ap (λ (v : Bool). if v then refused InputTooLong else edited_answer pages page (read input)) (not_longer (length input) HTML_BYTES small)
    ∙ ap (edited_answer pages page) is
    ∙ takes_texts pages es b h le

-- by a command line, over a folder that has the page and this input
pub command_takes_texts : (pages : Pages) (es : List PassageEdit) (words : List (List ℕ)) (title input : List ℕ) (b : Label) (unsourced : Option ℕ)
    → command_of words ≡ Some (Edit title) → pages title ≡ Some (prose (old_passages es)) → IsProseEdit es
    → length (prose (old_passages es)) ≤ PAGE_BYTES → length (prose (new_passages es)) ≤ PAGE_BYTES → length input ≤ HTML_BYTES
    → read input ≡ as_page (sent_prose b es) unsourced → answer_told (Some pages) (Some input) words ≡ Some (done (prose (new_passages es)))
unfolding answer_told
command_takes_texts pages es words title input b unsourced command found h short le small is =
    ap (answer_to (Some pages) (Some input)) command
    ∙ ap (λ (stands : Option (List ℕ)). Some (edit_of pages stands input)) found
    ∙ ap (λ (a : Answer). Some a) (edit_takes_texts pages es input b unsourced h short le small is)

-- ---- the class

pub again : (es : List PassageEdit) → IsProseEdit es → IsProsePage (prose (new_passages es))
again es h = record { passages = new_passages es; are = prose_again es h.are_texts h.are_prose; is = refl }

pub lone_prose : (page : List ℕ) → IsTypedPage page → IsProsePage page
lone_prose page h =
    let p : Passage = record { paragraph = page; breaks = 0 } in
    record { passages = p ∷ []; are = h; is = sym (append-nil (page ++ []) ∙ append-nil page) }
