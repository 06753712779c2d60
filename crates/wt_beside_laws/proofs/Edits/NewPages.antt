-- The new page of such an edit: it is such a paragraph again, and shows what was sent; so the edit is done.
use Rattle.std.proofs.Common.{◌≡◌, ℕ, ◌≤◌, Bool, false, None, List, [], ◌∷◌, length, refl, sym, ap, ◌∙◌, subst, append-nil}
use Rattle.std.specs.Prelude.{if◌then◌else◌}
use Rattle.wt_span.specs.declared.limits.TheConstants.{PAGE_BYTES}
use Rattle.wt_span.specs.Items.{Item, sources}
use Rattle.wt_devices.specs.Device.{Pages}
use Rattle.wt_tree.specs.declared.kind.Kind.TheVariants as kind
use Rattle.wt_tree.specs.declared.edit_shape.Place.TheVariants as place
use Rattle.wt_tree.specs.Plain.{Face, face, Plains, ended, along, element, plain_before}
use Rattle.wt_tree.specs.Source.{flat}
use Rattle.wt_tree.specs.Tree.{Label, Tree, label}
use Rattle.wt_utf8.specs.Places.{not_utf8_place}
use Rattle.wt_utf8.proofs.PlaceLaws.{no_place}
use Rattle.wt_guards.specs.Content.{Thing, ContentSign, letter, thing}
use Rattle.wt_guards.specs.Guards.{Setting}
use Rattle.wt_original.specs.Page.{Page, page_of}
use Rattle.wt_link_spelling.specs.Spelling.{children_of}
use Rattle.wt_expand.specs.PageCalls.{expanded_page}
use Rattle.wt_expand.specs.PageItems.{page_items}
use Rattle.wt_expand.proofs.PageLaws.{page_sources}
use Rattle.wt_lines.specs.Lines.{empty_end}
use Rattle.wt_inline.specs.ItemTree.{ItemTree, forest, tree_items, held_by_all}
use Rattle.wt_inline.specs.Parts.{Part}
use Rattle.wt_page.specs.Body.{meaning}
use Rattle.wt_page.proofs.HeldBody.{sources_meaning}
use Rattle.wt_annotated.specs.Labels.{label_at}
use Rattle.wt_page_round_trip.specs.PageTree.{page_tree}
use Rattle.wt_page_round_trip.proofs.PageTrees.{ungathered}
use Rattle.wt_visible.specs.Children.{listed, shown_children, differing}
use Rattle.wt_visible.specs.Restored.{restored_from}
use Rattle.wt_visible.specs.SameNodes.{same_node}
use Rattle.wt_visible.proofs.DifferingLaws.{same_none}
use Rattle.wt_visible.proofs.SameTells.{tells_same}
use Rattle.wt_selser.specs.Edits.{edit_answer}
use Rattle.wt_commands.specs.declared.refusal.Refusal.TheVariants.{TooLong}
use Rattle.wt_commands.specs.Answers.{Answer, done, refused, text_answer, title_answer, expanded_by, unspelled_by, unspelled_answer, new_by, new_expanded, new_answer, edit_by, edit_from, edit_to}
use Rattle.wt_part_laws.specs.Standing.{standing}
use Rattle.wt_typed_blocks.specs.Edited.{Pieces, no_pieces, gone, written, kept, around, new_style, page_pieces, sent_pieces, pieces_before, sent_body}
use Rattle.wt_typed_blocks.proofs.EditedShows.{body_shows}
use Rattle.wt_text_edit_laws.specs.ParagraphBetween.{body_with}
use Rattle.wt_text_edit_laws.proofs.Blocks.KeptBlocks.{held_source}
use Rattle.wt_text_edit_laws.proofs.Prose.InFront.{reads_nothing, read_items}
use Rattle.wt_text_edit_laws.proofs.Prose.ProseTakes.{not_longer}
use Rattle.wt_text_edit_laws.proofs.Texts.TypedShown.{gathered_shows}
use Rattle.wt_beside_laws.specs.Calm.{IsCalm, AreCalm}
use Rattle.wt_beside_laws.specs.Content.{AreKept}
use Rattle.wt_beside_laws.specs.Flat.{IsFlatContent, content_parts}
use Rattle.wt_text_edit_laws.specs.ParagraphParts.{para_with, joined_parts}
use Rattle.wt_beside_laws.specs.PageBlocks.{ShowSources}
use Rattle.wt_beside_laws.specs.PageSigns.{signs_of_lines}
use Rattle.wt_beside_laws.specs.SentPieces.{HaveNoStyle, PiecesShow}
use Rattle.wt_beside_laws.specs.Shown.{parts_shown_at}
use Rattle.wt_beside_laws.specs.Stood.{things}
use Rattle.wt_beside_laws.proofs.Marks.Unjoined.{flat_read}
use Rattle.wt_beside_laws.proofs.BlockSigns.{block_nodes, sent_content, block_shows}
use Rattle.wt_beside_laws.proofs.CalmContents.{content_utf8, calm_utf8, content_expanded, content_unrefused}
use Rattle.wt_beside_laws.proofs.Styled.Plain.{closed_is, meaning_is, content_is_shown}
use Rattle.wt_beside_laws.proofs.OwnSigns.{own_content, own_sent}
use Rattle.wt_beside_laws.proofs.SentNodes.{same_nodes}
use Rattle.wt_beside_laws.proofs.SentPieces.{texts_alone, same_numbers}
use Rattle.wt_beside_laws.proofs.SentShown.{pieces_shown}
use Rattle.wt_beside_laws.specs.FlatPages.{lines_of, paragraph_of, block_of, IsFlatPage, AreNodesAndTexts, IsFlatEdit, flat_edits, sent_flat, new_signs, new_flat}
use Rattle.wt_beside_laws.proofs.Edits.OldPages.{IsOneBlock, body_label, one_tree, flat_page, para_label, label_is, of_lines, is_flat}
use Rattle.wt_beside_laws.proofs.Edits.Pieces.{pieces_characters}
use Rattle.wt_beside_laws.proofs.Edits.FlatEdits.{are_sent, are_edited, ungrouped, answer_so}
use Rattle.wt_beside_laws.proofs.Edits.OldFull.{old_full}
use Rattle.wt_beside_laws.proofs.Each.{Each}
use Rattle.wt_beside_laws.proofs.Edits.FullTrees.{para_plain, content_full, same_full}

-- ---- its nodes are the page's

abbrev pub setting : List ℕ → Setting
setting q = record { within = false; place = place.Paragraph; source = flat (block_of q) }

abbrev known : List ℕ → Page
known q = page_of same_node (block_of q)

opening_none : (q : List ℕ) → length (label (block_of q)).opening ≡ 0
opening_none q = ap (λ (l : Label). length l.opening) (label_is (joined_parts (lines_of q)))

pub same_things : (q : List ℕ) (ps : Pieces) → IsFlatPage q → IsFlatEdit q ps → things (new_signs q ps) ≡ things (signs_of_lines 0 (lines_of q))
same_things q ps h e =
    same_nodes (known q) place.Paragraph (children_of (block_of q)) (sent_pieces ps) (own_sent same_node (block_of q) tells_same (is_flat q h))
    (are_sent q ps h e) (same_numbers (block_of q) ps e.old e.stay e.go)
    ∙ ap things (own_content same_node (block_of q) place.Paragraph tells_same (is_flat q h))
    ∙ block_nodes (lines_of q) (block_of q) h.flat h.unstyled (of_lines q h)
    ∙ ap (λ (n : ℕ). things (signs_of_lines n (lines_of q))) (opening_none q)

pub new_content : (q : List ℕ) (ps : Pieces) → IsFlatPage q → IsFlatEdit q ps → IsFlatContent (setting q) (new_signs q ps)
new_content q ps h e =
    let kept_so : AreKept (signs_of_lines (length (label (block_of q)).opening) (lines_of q)) =
    subst (λ (n : ℕ). AreKept (signs_of_lines n (lines_of q))) (sym (opening_none q)) h.kept in
    sent_content same_node (setting q) place.Paragraph (lines_of q) (block_of q) (sent_pieces ps) tells_same refl h.flat h.unstyled (of_lines q h) kept_so
    (are_sent q ps h e) (same_numbers (block_of q) ps e.old e.stay e.go)
    (pieces_characters (known q) place.Paragraph ps e.stay (are_sent q ps h e) e.are) e.led (e.unclosed (setting q))

-- ---- it calls nothing

abbrev CalmThing : Thing → Type 0
CalmThing t = IsCalm t.source

calm_each : (signs : List ContentSign) → AreCalm signs → Each CalmThing (things signs)
calm_each [] h = tt
calm_each (letter c ∷ after) h = calm_each after h
calm_each (thing t ∷ after) h = (h.0, calm_each after h.1)

each_calm : (signs : List ContentSign) → Each CalmThing (things signs) → AreCalm signs
each_calm [] h = tt
each_calm (letter c ∷ after) h = each_calm after h
each_calm (thing t ∷ after) h = (h.0, each_calm after h.1)

pub new_calm : (q : List ℕ) (ps : Pieces) → IsFlatPage q → IsFlatEdit q ps → AreCalm (new_signs q ps)
new_calm q ps h e =
    each_calm (new_signs q ps) (subst (Each CalmThing) (sym (same_things q ps h e)) (calm_each (signs_of_lines 0 (lines_of q)) h.calm))

-- ---- it is one paragraph

abbrev pub new_parts : List ℕ → Pieces → List Part
new_parts q ps = content_parts (setting q) [] (new_signs q ps)

abbrev pub new_tree : List ℕ → Pieces → ItemTree
new_tree q ps = para_with (new_parts q ps)

pub means_source : (q : List ℕ) (t : ItemTree) → meaning (page_items q) ≡ body_with (t ∷ []) → sources (tree_items t) ≡ q
means_source q t means =
    sym (append-nil (sources (tree_items t)))
    ∙ sym (held_source (t ∷ []))
    ∙ ap sources (sym (append-nil (held_by_all (forest (t ∷ [])))))
    ∙ ap (λ m. sources (tree_items m)) (sym means)
    ∙ sources_meaning (page_items q)
    ∙ page_sources q

abbrev one_empty : List (List Item)
one_empty = [] ∷ []

not_empty : (q : List ℕ) (ps : Pieces) → IsFlatContent (setting q) (new_signs q ps) → new_flat q ps ≡ [] → ⊥
not_empty q ps f z =
    let closed : empty_end (page_items (new_flat q ps)) ≡ [] = closed_is (setting q) (new_signs q ps) refl f in
    let none : page_items (new_flat q ps) ≡ [] = ap page_items z ∙ read_items [] [] reads_nothing in
    let no : one_empty ≡ [] = sym (ap empty_end none) ∙ closed in cc

pub new_page : (q : List ℕ) (ps : Pieces) → IsFlatPage q → IsFlatEdit q ps → IsOneBlock (new_flat q ps) (new_tree q ps)
new_page q ps h e =
    let f = new_content q ps h e in
    let calm = new_calm q ps h e in
    let means : meaning (page_items (new_flat q ps)) ≡ body_with (new_tree q ps ∷ []) = meaning_is (setting q) (new_signs q ps) refl f in
    record {
      utf8 = content_utf8 (setting q) (new_signs q ps) f.characters (calm_utf8 (new_signs q ps) calm);
      expanded = λ pages. content_expanded pages (setting q) (new_signs q ps) (flat_read (setting q) (new_signs q ps) f) calm;
      unrefused = λ pages. content_unrefused pages (setting q) (new_signs q ps) (flat_read (setting q) (new_signs q ps) f) calm;
      means = means;
      plain = para_plain (new_parts q ps) (new_flat q ps)
          (content_full (setting q) [] (new_signs q ps) (same_full (signs_of_lines 0 (lines_of q)) (new_signs q ps) (same_things q ps h e) (old_full q h)))
          (means_source (new_flat q ps) (new_tree q ps) means) (not_empty q ps f);
    }

-- ---- what it shows

abbrev para_face : Face
para_face = record { kind = kind.Para; attrs = []; mw = None }

para_shows : (ps : List Part) (rest : Plains) → plain_before (standing 1 [] (para_with ps)) rest ≡ along (element para_face (parts_shown_at 2 [] ps ended)) rest
unfolding label_at
para_shows ps rest = refl

face_is : (l : Label) (ps : List Part) → l ≡ para_label ps → face (record l { kind = kind.Para }) ≡ para_face
face_is l ps is = ap (λ (k : Label). face (record k { kind = kind.Para })) is

abbrev shown_new : List ℕ → Pieces → Plains
shown_new q ps = along (element para_face (pieces_before ps ended)) ended

pub show_pieces : (p : Page) (ps : Pieces) → ShowSources p (page_pieces ps) → AreNodesAndTexts ps → HaveNoStyle ps → PiecesShow p ps
show_pieces p no_pieces s a n = tt
show_pieces p (gone t ps) s a n = show_pieces p ps s.1 a n
show_pieces p (written x text ps) s a n = (a.0, show_pieces p ps s a.1 n)
show_pieces p (kept t u ps) s a n = (a.0, s.0 a.0, show_pieces p ps s.1 a.1 n)
show_pieces p (around l m is ps) s a n = absurd n
show_pieces p (new_style m is ps) s a n = absurd n

inside_shows : (q : List ℕ) (ps : Pieces) → IsFlatPage q → IsFlatEdit q ps → parts_shown_at 2 [] (new_parts q ps) ended ≡ pieces_before ps ended
inside_shows q ps h e =
    let own : ShowSources (known q) (children_of (block_of q)) = block_shows same_node (lines_of q) (block_of q) h.flat h.unstyled (of_lines q h) in
    let show : PiecesShow (known q) ps = show_pieces (known q) ps (subst (ShowSources (known q)) (sym e.old) own) e.are (texts_alone ps e.go) in
    content_is_shown 2 [] (setting q) (new_signs q ps) ended (new_content q ps h e)
    ∙ pieces_shown (known q) place.Paragraph ps ended e.stay (are_sent q ps h e) show

new_shows : (pages : Pages) (q : List ℕ) (ps : Pieces) → IsFlatPage q → IsFlatEdit q ps
    → shown_children (page_tree pages (new_flat q ps)) ≡ listed (shown_new q ps)
new_shows pages q ps h e =
    let new : List ℕ = new_flat q ps in
    let one = new_page q ps h e in
    gathered_shows (ungathered (expanded_page pages new).outer (expanded_page pages new).items)
    ∙ ap shown_children (ap (λ x. ungathered x.outer x.items) (one.expanded pages) ∙ one_tree new (new_tree q ps) one)
    ∙ ap listed (para_shows (new_parts q ps) ended)
    ∙ ap (λ (qs : Plains). listed (along (element para_face qs) ended)) (inside_shows q ps h e)

sent_shows : (t : Tree) (b m : Label) (q : List ℕ) (ps : Pieces) → IsFlatPage q → IsFlatEdit q ps
    → shown_children (restored_from t (sent_body (body_label (paragraph_of q)) b (flat_edits m q ps))) ≡ listed (shown_new q ps)
sent_shows t b m q ps h e =
    body_shows t (body_label (paragraph_of q)) b (flat_edits m q ps) (are_edited m q ps e) (ungrouped m q ps h e)
    ∙ ap (λ (f : Face). listed (along (element f (pieces_before ps ended)) ended))
    (face_is (label (block_of q)) (joined_parts (lines_of q)) (label_is (joined_parts (lines_of q))))

-- ---- the edit is done

new_done : (pages : Pages) (t : Tree) (b m : Label) (q : List ℕ) (ps : Pieces) → IsFlatPage q → IsFlatEdit q ps → length (new_flat q ps) ≤ PAGE_BYTES
    → new_answer pages t (sent_body (body_label (paragraph_of q)) b (flat_edits m q ps)) (new_flat q ps) ≡ done (new_flat q ps)
unfolding title_answer
new_done pages t b m q ps h e le =
    let new : List ℕ = new_flat q ps in
    let u : Tree = sent_body (body_label (paragraph_of q)) b (flat_edits m q ps) in
    let one = new_page q ps h e in
    let shown = listed (shown_new q ps) in
    let made : List ℕ → Answer = new_expanded pages t u in
    ap (λ (v : Bool). if v then refused TooLong else text_answer new made (not_utf8_place new)) (not_longer (length new) PAGE_BYTES le)
    ∙ ap (text_answer new made) (no_place new one.utf8)
    ∙ ap (new_by (unspelled_answer pages t u new)) (one.unrefused pages)
    ∙ ap (λ xs. unspelled_by new (differing 1 xs (shown_children (restored_from t u)))) (new_shows pages q ps h e)
    ∙ ap (λ xs. unspelled_by new (differing 1 shown xs)) (sent_shows t b m q ps h e)
    ∙ ap (unspelled_by new) (same_none 1 shown)

pub takes_texts : (pages : Pages) (b m : Label) (q : List ℕ) (ps : Pieces) → IsFlatPage q → IsFlatEdit q ps → length (new_flat q ps) ≤ PAGE_BYTES
    → edit_to pages q (sent_flat b m q ps) ≡ done (new_flat q ps)
takes_texts pages b m q ps h e le =
    let t : Tree = page_tree pages q in
    let one = flat_page q h in
    let u : Tree = sent_body (body_label (paragraph_of q)) b (flat_edits m q ps) in
    ap (λ (o : Tree). edit_to pages q (sent_body (label o) b (flat_edits m q ps))) (one_tree q (paragraph_of q) one)
    ∙ ap (expanded_by (edit_from pages q u)) (one.unrefused pages)
    ∙ ap (λ x. edit_by pages t u (edit_answer same_node x q t u)) (one.expanded pages)
    ∙ ap (edit_by pages t u) (answer_so pages b m q ps h e le)
    ∙ new_done pages t b m q ps h e le
