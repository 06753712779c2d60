-- A page takes any texts in any of its typed paragraphs and headings, whatever else is in it: `edit` answers the page with them, as they are
-- spelled.
use Rattle.std.proofs.Common.{arith, ◌≡◌, ℕ, ◌≤◌, Bool, Option, Some, List, [], ◌++◌, length, refl, sym, ap, ◌∙◌, subst}
use Rattle.std.specs.Prelude.{Ok, if◌then◌else◌}
use Rattle.std.specs.Str.{IsUtf8}
use Rattle.wt_span.specs.declared.limits.TheConstants.{HTML_BYTES, PAGE_BYTES}
use Rattle.wt_devices.specs.Device.{Pages}
use Rattle.wt_tree.specs.declared.kind.Kind.TheVariants as kind
use Rattle.wt_tree.specs.Source.{flat_of_all}
use Rattle.wt_tree.specs.Tiling.{InPreorder, NoneIsGroup}
use Rattle.wt_tree.specs.Tree.{Label, Tree, tree, Trees, label}
use Rattle.wt_utf8.specs.Places.{not_utf8_place}
use Rattle.wt_utf8.proofs.PlaceLaws.{no_place}
use Rattle.wt_inline.specs.ItemTree.{forest, held_by_all}
use Rattle.wt_checks.specs.Kept.{children}
use Rattle.wt_checks.specs.PutBack.{have_frame}
use Rattle.wt_expand.specs.PageCalls.{expanded_page}
use Rattle.wt_expand.specs.PageItems.{page_items}
use Rattle.wt_sections.specs.Sections.{with_sections}
use Rattle.wt_schema.specs.Read.{page as as_page, read}
use Rattle.wt_page_round_trip.specs.PageTree.{page_tree}
use Rattle.wt_page_round_trip.proofs.Pages.{page_opened}
use Rattle.wt_page_round_trip.proofs.PageTrees.{ungathered, ungathered_numbered}
use Rattle.wt_visible.specs.Children.{listed, shown_children, differing}
use Rattle.wt_visible.specs.Restored.{restored_from}
use Rattle.wt_visible.specs.SameNodes.{same_node}
use Rattle.wt_visible.proofs.DifferingLaws.{same_none}
use Rattle.wt_selser.specs.Edits.{most_bytes, edit_answer}
use Rattle.wt_commands.specs.declared.refusal.Refusal.TheVariants.{TooLong, InputTooLong}
use Rattle.wt_commands.specs.declared.command.Command.TheVariants.{Edit}
use Rattle.wt_commands.specs.Words.{command_of}
use Rattle.wt_commands.specs.Answers.{Answer, done, refused, text_answer, title_answer, expanded_by, unspelled_by, unspelled_answer, new_by, new_expanded, new_answer, edit_by, edit_from, edit_to, edited_answer, input_answer, edit_of, answer_to, answer_told}
use Rattle.wt_commands.proofs.SectionEdits.{page_bare}
use Rattle.wt_text_edit_laws.specs.LonePages.{of_items}
use Rattle.wt_text_edit_laws.proofs.Texts.LoneTrees.{sized}
use Rattle.wt_text_edit_laws.proofs.Texts.TypedShown.{gathered_shows}
use Rattle.wt_typed_blocks.specs.Sent.{Sents, old_body, new_body}
use Rattle.wt_typed_blocks.specs.Typed.{new_sources}
use Rattle.wt_typed_blocks.proofs.SentGroups.{outside}
use Rattle.wt_typed_blocks.proofs.SentSections.{answer_in_sections}
use Rattle.wt_typed_blocks.proofs.SentShows.{body_shows}
use Rattle.wt_text_edit_laws.proofs.Prose.ProseTrees.{blocks_of}
use Rattle.wt_text_edit_laws.proofs.Prose.ProseTakes.{as_edit, not_longer}
use Rattle.wt_annotated.specs.Annotated.{all_unplaced}
use Rattle.wt_part_laws.specs.Standing.{AreOrdinary}
use Rattle.wt_text_edit_laws.specs.Parts.{part_tree}
use Rattle.wt_text_edit_laws.proofs.Blocks.PageKinds.{page_ordinary}
use Rattle.wt_text_edit_laws.specs.BlockSpots.{BlockSpot, spots_source, page_blocks, AreBlockSpots, AreBlocks}
use Rattle.wt_text_edit_laws.proofs.Blocks.BlocksRead.{spots_expanded, spots_unrefused}
use Rattle.wt_text_edit_laws.proofs.Blocks.BlockMeaning.{spots_meaning}
use Rattle.wt_text_edit_laws.proofs.Blocks.BlockTrees.{leafy_blocks, as_leaves, are_typed, spots_tree}
use Rattle.wt_text_edit_laws.proofs.Blocks.BlocksAgain.{spots_utf8, spots_clear}
use Rattle.wt_text_edit_laws.proofs.Blocks.TypedAgain.{typed_again}
use Rattle.wt_text_edit_laws.specs.BlockEdits.{BlockEdit, old_spots, new_spots, old_page, new_page, sendings, old_tree, sent_children, sent_page, AreKept, IsBlockEdit}
use Rattle.wt_text_edit_laws.proofs.Blocks.BlockSpotFacts.{ordinary_parts, FactsOf, facts_all, page_shows, blocks_show, new_round, typed_over, all_typed}

-- ---- the page

plain_is : (pages : Pages) (ss : List BlockSpot) (behind : List ℕ) → AreBlockSpots ss behind
    → ungathered (expanded_page pages (spots_source ss behind)).outer (expanded_page pages (spots_source ss behind)).items
    ≡ part_tree (spots_source ss behind)
plain_is pages ss behind h = ap (λ x. ungathered x.outer x.items) (spots_expanded pages ss behind h)

pub page_is : (pages : Pages) (ss : List BlockSpot) (behind : List ℕ) → AreBlockSpots ss behind
    → page_tree pages (spots_source ss behind) ≡ with_sections (part_tree (spots_source ss behind))
page_is pages ss behind h = ap with_sections (plain_is pages ss behind h)

abbrev pub body_label : List BlockSpot → List ℕ → Label
body_label ss behind = sized kind.Body 0 (held_by_all (forest (leafy_blocks ss behind)) ++ []) [] []

abbrev pub body_blocks : List BlockSpot → List ℕ → Trees
body_blocks ss behind = blocks_of 1 [] (leafy_blocks ss behind)

-- what it shows
shows_so : (pages : Pages) (ss : List BlockSpot) (behind : List ℕ) → AreBlockSpots ss behind
    → shown_children (page_tree pages (spots_source ss behind)) ≡ listed (page_shows ss behind)
shows_so pages ss behind h =
    gathered_shows (ungathered (expanded_page pages (spots_source ss behind)).outer (expanded_page pages (spots_source ss behind)).items)
    ∙ ap shown_children (plain_is pages ss behind h ∙ spots_tree ss behind h)
    ∙ ap listed (blocks_show ss behind 1 [])

-- ---- what was sent

abbrev pub label_of : BlockEdit → Label
label_of e = body_label (old_spots e.spots) e.behind

abbrev pub blocks_sent : BlockEdit → Sents
blocks_sent e = sent_children (sendings e) (body_blocks (old_spots e.spots) e.behind)

pub tree_is : (e : BlockEdit) → IsBlockEdit e → old_tree e ≡ tree (label_of e) (body_blocks (old_spots e.spots) e.behind)
tree_is e h = spots_tree (old_spots e.spots) e.behind h.are_spots

pub sent_is : (b : Label) (e : BlockEdit) → IsBlockEdit e → sent_page b e ≡ new_body (label_of e) b (blocks_sent e)
sent_is b e h = ap (λ t. new_body (label t) b (sent_children (sendings e) (children t))) (tree_is e h)

pub kept_so : (e : BlockEdit) → IsBlockEdit e → AreKept (sendings e) (body_blocks (old_spots e.spots) e.behind)
kept_so e h = subst (λ t. AreKept (sendings e) (children t)) (tree_is e h) h.are_kept

pub facts_of : (pages : Pages) (e : BlockEdit) → IsBlockEdit e → FactsOf (page_items (old_page e)) 1 [] e.spots e.others e.behind
facts_of pages e h =
    let ss : List BlockSpot = old_spots e.spots in
    let page : List ℕ = old_page e in
    let typed = are_typed ss e.behind h.are_spots in
    let ordinary = page_ordinary pages page (page_blocks ss e.behind) (spots_utf8 ss e.behind h.are_spots) (spots_unrefused pages ss e.behind h.are_spots)
    (spots_expanded pages ss e.behind h.are_spots) (spots_meaning ss e.behind h.are_spots) in
    let parts = ordinary_parts ss e.behind (subst (λ ts. AreOrdinary (all_unplaced (forest ts))) (as_leaves ss e.behind typed) ordinary) in
    facts_all (page_items page) e.spots e.others e.behind h.before h.behind parts typed (all_typed e.spots h.are_texts typed) h.are_texts
    1 [] (omega arith) (spots_clear ss e.behind h.are_spots)

-- ---- the answer

pub opened_is : (pages : Pages) (e : BlockEdit) → IsBlockEdit e
    → ungathered (expanded_page pages (old_page e)).outer (expanded_page pages (old_page e)).items ≡ old_body (label_of e) (blocks_sent e)
opened_is pages e h =
    let f = facts_of pages e h in
    plain_is pages (old_spots e.spots) e.behind h.are_spots ∙ tree_is e h ∙ ap (λ us. tree (label_of e) us) (sym f.old)

answer_so : (pages : Pages) (e : BlockEdit) (b : Label) → IsBlockEdit e → length (new_page e) ≤ PAGE_BYTES
    → edit_answer same_node (of_items (page_items (old_page e))) (old_page e) (page_tree pages (old_page e)) (new_body (label_of e) b (blocks_sent e))
    ≡ Ok (new_page e)
answer_so pages e b h le =
    let page : List ℕ = old_page e in
    let ss : Sents = blocks_sent e in
    let f = facts_of pages e h in
    let u : IsUtf8 page = spots_utf8 (old_spots e.spots) e.behind h.are_spots in
    let free = spots_unrefused pages (old_spots e.spots) e.behind h.are_spots in
    let is = opened_is pages e h in
    let short : length (new_sources ss) ≤ most_bytes = subst (λ cs. length cs ≤ most_bytes) (sym f.new) (as_edit (new_page e) le) in
    answer_in_sections same_node (of_items (page_items page)) page (page_tree pages page) (label_of e) b ss
    (page_bare pages page u free)
    (page_opened pages page u free ∙ is)
    (subst InPreorder is (ungathered_numbered (expanded_page pages page).outer (expanded_page pages page).items))
    (ap have_frame f.old ∙ f.unframed)
    (f.sent (kept_so e h)) (outside ss (subst NoneIsGroup (sym f.old) f.ungrouped)) f.takes (f.untangled page refl)
    (sym (ap flat_of_all f.old ∙ f.flat)) f.stand short
    ∙ ap Ok f.new

-- ---- the new page

pub again : (e : BlockEdit) → IsBlockEdit e → AreBlockSpots (new_spots e.spots) e.behind
again e h =
    let ss : List BlockSpot = old_spots e.spots in
    let were : AreBlocks ss = are_typed ss e.behind h.are_spots in
    typed_again ss (new_spots e.spots) e.behind h.are_spots (new_round e.spots) (all_typed e.spots h.are_texts were) (typed_over e.spots h.are_texts were)

sent_shows_so : (pages : Pages) (t : Tree) (e : BlockEdit) (b : Label) → IsBlockEdit e
    → shown_children (restored_from t (new_body (label_of e) b (blocks_sent e))) ≡ listed (page_shows (new_spots e.spots) e.behind)
sent_shows_so pages t e b h =
    let f = facts_of pages e h in
    body_shows t (label_of e) b (blocks_sent e) (f.sent (kept_so e h)) (subst NoneIsGroup (sym f.old) f.ungrouped)
    ∙ ap listed f.shows

new_done : (pages : Pages) (e : BlockEdit) (b : Label) (t : Tree) → IsBlockEdit e → length (new_page e) ≤ PAGE_BYTES
    → new_answer pages t (new_body (label_of e) b (blocks_sent e)) (new_page e) ≡ done (new_page e)
unfolding title_answer
new_done pages e b t h le =
    let ss : List BlockSpot = new_spots e.spots in
    let new : List ℕ = new_page e in
    let u : Tree = new_body (label_of e) b (blocks_sent e) in
    let are : AreBlockSpots ss e.behind = again e h in
    let made : List ℕ → Answer = new_expanded pages t u in
    ap (λ (v : Bool). if v then refused TooLong else text_answer new made (not_utf8_place new)) (not_longer (length new) PAGE_BYTES le)
    ∙ ap (text_answer new made) (no_place new (spots_utf8 ss e.behind are))
    ∙ ap (new_by (unspelled_answer pages t u new)) (spots_unrefused pages ss e.behind are)
    ∙ ap (λ xs. unspelled_by new (differing 1 xs (shown_children (restored_from t u)))) (shows_so pages ss e.behind are)
    ∙ ap (λ xs. unspelled_by new (differing 1 (listed (page_shows ss e.behind)) xs)) (sent_shows_so pages t e b h)
    ∙ ap (unspelled_by new) (same_none 1 (listed (page_shows ss e.behind)))

-- ---- the edit

pub takes_texts : (pages : Pages) (e : BlockEdit) (b : Label) → IsBlockEdit e → length (new_page e) ≤ PAGE_BYTES
    → edit_to pages (old_page e) (sent_page b e) ≡ done (new_page e)
takes_texts pages e b h le =
    let page : List ℕ = old_page e in
    let t : Tree = page_tree pages page in
    let u : Tree = new_body (label_of e) b (blocks_sent e) in
    ap (edit_to pages page) (sent_is b e h)
    ∙ ap (expanded_by (edit_from pages page u)) (spots_unrefused pages (old_spots e.spots) e.behind h.are_spots)
    ∙ ap (λ x. edit_by pages t u (edit_answer same_node x page t u)) (spots_expanded pages (old_spots e.spots) e.behind h.are_spots)
    ∙ ap (edit_by pages t u) (answer_so pages e b h le)
    ∙ new_done pages e b t h le

-- of what stands under a title, to an input
pub edit_takes_texts : (pages : Pages) (e : BlockEdit) (input : List ℕ) (b : Label) (unsourced : Option ℕ) → IsBlockEdit e
    → length (old_page e) ≤ PAGE_BYTES → length (new_page e) ≤ PAGE_BYTES → length input ≤ HTML_BYTES
    → read input ≡ as_page (sent_page b e) unsourced → edit_of pages (Some (old_page e)) input ≡ done (new_page e)
unfolding title_answer input_answer edited_answer
edit_takes_texts pages e input b unsourced h short le small is =
    let page : List ℕ = old_page e in
    let made : List ℕ → Answer = λ page. input_answer (edited_answer pages page) input in
    ap (λ (v : Bool). if v then refused TooLong else text_answer page made (not_utf8_place page)) (not_longer (length page) PAGE_BYTES short)
    ∙ ap (text_answer page made) (no_place page (spots_utf8 (old_spots e.spots) e.behind h.are_spots))
    ∙ ap (λ (v : Bool). if v then refused InputTooLong else edited_answer pages page (read input)) (not_longer (length input) HTML_BYTES small)
    ∙ ap (edited_answer pages page) is
    ∙ takes_texts pages e b h le

-- by a command line, over a folder that has the page and this input
pub command_takes_texts : (pages : Pages) (e : BlockEdit) (words : List (List ℕ)) (title input : List ℕ) (b : Label) (unsourced : Option ℕ)
    → command_of words ≡ Some (Edit title) → pages title ≡ Some (old_page e) → IsBlockEdit e
    → length (old_page e) ≤ PAGE_BYTES → length (new_page e) ≤ PAGE_BYTES → length input ≤ HTML_BYTES
    → read input ≡ as_page (sent_page b e) unsourced → answer_told (Some pages) (Some input) words ≡ Some (done (new_page e))
unfolding answer_told
command_takes_texts pages e words title input b unsourced command found h short le small is =
    ap (answer_to (Some pages) (Some input)) command
    ∙ ap (λ (stands : Option (List ℕ)). Some (edit_of pages stands input)) found
    ∙ ap (λ (a : Answer). Some a) (edit_takes_texts pages e input b unsourced h short le small is)
