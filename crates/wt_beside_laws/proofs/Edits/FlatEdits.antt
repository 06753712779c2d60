-- The edit of a flat page: it is never refused, and makes the page with what was sent.
use Rattle.std.proofs.Common.{◌≡◌, ℕ, ◌+◌, ◌≤◌, Option, Some, List, [], ◌∷◌, ◌++◌, length, refl, sym, ap, ◌∙◌, subst, append-nil}
use Rattle.std.specs.Prelude.{Ok}
use Rattle.wt_span.specs.declared.limits.TheConstants.{PAGE_BYTES}
use Rattle.wt_span.specs.Items.{sources}
use Rattle.wt_devices.specs.Device.{Pages}
use Rattle.wt_tree.specs.declared.kind.Kind.{Kind}
use Rattle.wt_tree.specs.declared.kind.Kind.TheVariants as kind
use Rattle.wt_tree.specs.declared.kind.Mark.TheVariants as marks
use Rattle.wt_tree.specs.declared.kind.Ranges.{Ranges}
use Rattle.wt_tree.specs.declared.edit_shape.Place.TheVariants as place
use Rattle.wt_tree.specs.EditShapes.{edit_shape}
use Rattle.wt_tree.specs.Source.{flat, flat_of_all}
use Rattle.wt_tree.specs.Tiling.{InPreorder, NoneIsGroup}
use Rattle.wt_tree.specs.Tree.{Label, Tree, tree, Trees, none, more, label}
use Rattle.wt_checks.specs.PutBack.{have_frame}
use Rattle.wt_original.specs.Page.{page_of}
use Rattle.wt_link_spelling.specs.Spelling.{inline_spelling}
use Rattle.wt_content.specs.Content.{is_paragraph, bad_content}
use Rattle.wt_expand.specs.PageCalls.{expanded_page}
use Rattle.wt_expand.specs.PageItems.{page_items}
use Rattle.wt_inline.specs.ItemTree.{forest, tree_items, held_by_all}
use Rattle.wt_inline.specs.Parts.{Part, children}
use Rattle.wt_page_round_trip.specs.PageTree.{page_tree}
use Rattle.wt_page_round_trip.proofs.Pages.{page_opened}
use Rattle.wt_page_round_trip.proofs.PageTrees.{ungathered, ungathered_numbered}
use Rattle.wt_visible.specs.SameNodes.{same_node}
use Rattle.wt_visible.proofs.SameTells.{tells_same}
use Rattle.wt_selser.specs.Edits.{most_bytes, is_tangled, edit_answer}
use Rattle.wt_commands.proofs.SectionEdits.{page_bare}
use Rattle.wt_part_laws.proofs.Sources.{standing_source}
use Rattle.wt_typed_blocks.specs.Sent.{paragraph}
use Rattle.wt_typed_blocks.specs.Typed.{block_source}
use Rattle.wt_typed_blocks.specs.Edited.{Pieces, page_pieces, sent_pieces, Edited, edited, Edits, page_node, sent_node, page_nodes, AreEdited, page_body, sent_body}
use Rattle.wt_typed_blocks.specs.EditedPage.{edited_sources, AreTaken, LieAt, AreApart}
use Rattle.wt_typed_blocks.proofs.EditedSections.{answer_in_sections}
use Rattle.wt_text_edit_laws.specs.LonePages.{of_items}
use Rattle.wt_text_edit_laws.proofs.Prose.ProseTakes.{as_edit}
use Rattle.wt_text_edit_laws.proofs.Prose.ProseTrees.{blocks_of}
use Rattle.wt_text_edit_laws.specs.ParagraphParts.{joined_parts}
use Rattle.wt_beside_laws.specs.SentNodes.{AreSent}
use Rattle.wt_beside_laws.specs.SentPieces.{TextsFit}
use Rattle.wt_beside_laws.proofs.NoFaults.{no_fault}
use Rattle.wt_beside_laws.proofs.SentPieces.{stays_sent, texts_alone}
use Rattle.wt_beside_laws.specs.FlatPages.{lines_of, paragraph_of, block_of, IsFlatPage, IsFlatEdit, flat_edits, new_flat}
use Rattle.wt_beside_laws.proofs.Edits.OldPages.{body_label, one_tree, one_ungrouped, one_unframed, one_flat, flat_page, para_label, label_is, kind_is, block_is, numbered, is_flat, old_untangled}
use Rattle.wt_beside_laws.proofs.Edits.Pieces.{all_fit}

-- ---- the page's nodes

abbrev pub para_edit : Label → List ℕ → Pieces → Edited
para_edit m q ps = edited paragraph (label (block_of q)) m ps

pub old_node : (m : Label) (q : List ℕ) (ps : Pieces) → IsFlatEdit q ps → page_node (para_edit m q ps) ≡ block_of q
old_node m q ps e = block_is q (page_pieces ps) e.old

pub old_nodes : (m : Label) (q : List ℕ) (ps : Pieces) → IsFlatEdit q ps → page_nodes (flat_edits m q ps) ≡ blocks_of 1 [] (paragraph_of q ∷ [])
old_nodes m q ps e = ap (λ (t : Tree). more t none) (old_node m q ps e)

-- ---- what is sent

pub are_sent : (q : List ℕ) (ps : Pieces) → IsFlatPage q → IsFlatEdit q ps → AreSent (page_of same_node (block_of q)) (sent_pieces ps)
are_sent q ps h e = stays_sent same_node (block_of q) ps tells_same (is_flat q h) e.old e.stay (texts_alone ps e.go)

pub are_edited : (m : Label) (q : List ℕ) (ps : Pieces) → IsFlatEdit q ps → AreEdited (flat_edits m q ps)
are_edited m q ps e = ((numbered q, e.stay), tt)

-- in a block of this kind
abbrev TextsFitIn : Kind → Pieces → Type 0
TextsFitIn k ps = TextsFit (is_paragraph (edit_shape k).form) (sent_pieces ps)

are_taken : (m : Label) (q : List ℕ) (ps : Pieces) → IsFlatPage q → IsFlatEdit q ps → AreTaken same_node (flat_edits m q ps)
are_taken m q ps h e =
    let new : Tree = sent_node (para_edit m q ps) in
    let fits = subst (λ (k : Kind). TextsFitIn k ps) (sym (kind_is q)) (all_fit (sent_pieces ps)) in
    let l : Label = record m { kind = kind.Para; id = (label (block_of q)).id; attrs = (label (block_of q)).attrs; mark = marks.Content; mw = (label (block_of q)).mw } in (
      ap (λ (t : Tree). bad_content same_node t new) (old_node m q ps e) ∙ no_fault same_node (block_of q) l (sent_pieces ps) (are_sent q ps h e) fits,
      tt,
    )

are_apart : (m : Label) (q : List ℕ) (ps : Pieces) → IsFlatPage q → IsFlatEdit q ps → AreApart (of_items (page_items q)) q (flat_edits m q ps)
are_apart m q ps h e = (ap (is_tangled (of_items (page_items q)) q) (old_node m q ps e) ∙ old_untangled q h, tt)

-- ---- where it is

source_is : (m : Label) (q : List ℕ) (ps : Pieces) → IsFlatEdit q ps → block_source (label (block_of q)) (page_pieces ps) ≡ sources (tree_items (paragraph_of q))
source_is m q ps e = ap flat (old_node m q ps e) ∙ standing_source 1 [] (paragraph_of q)

abbrev ranged : ℕ → Option Ranges
ranged size = Some (record { start = 0; end = 0 + size; open_w = 0; close_w = 0 })

says_where : (l : Label) (ps : List Part) (size : ℕ) → l ≡ para_label ps → length (sources (held_by_all (forest (children ps)) ++ [])) ≡ size
    → l.ranges ≡ Some (record { start = 0; end = 0 + size; open_w = length l.opening; close_w = length l.closing })
says_where l ps size is e =
    subst (λ (k : Label). k.ranges ≡ Some (record { start = 0; end = 0 + size; open_w = length k.opening; close_w = length k.closing })) (sym is) (ap ranged e)

lies : (m : Label) (q : List ℕ) (ps : Pieces) → IsFlatEdit q ps → LieAt 0 (flat_edits m q ps)
lies m q ps e = (
  says_where (label (block_of q)) (joined_parts (lines_of q)) (length (block_source (label (block_of q)) (page_pieces ps))) (label_is (joined_parts (lines_of q)))
      (ap length (sym (source_is m q ps e))),
  tt,
)

-- ---- the new page

abbrev delimited : Label → List ℕ → List ℕ
delimited l bs = l.opening ++ bs ++ l.closing

plain_label : (l : Label) (ps : List Part) (bs : List ℕ) → l ≡ para_label ps → delimited l bs ++ [] ≡ bs
plain_label l ps bs is = subst (λ (k : Label). delimited k bs ++ [] ≡ bs) (sym is) (append-nil (bs ++ []) ∙ append-nil bs)

spelled_is : (m : Label) (q : List ℕ) (ps : Pieces) → inline_spelling same_node (block_of q) (sent_node (para_edit m q ps)) place.Paragraph ≡ new_flat q ps
unfolding inline_spelling
spelled_is m q ps = refl

pub new_is : (m : Label) (q : List ℕ) (ps : Pieces) → IsFlatEdit q ps → edited_sources same_node (flat_edits m q ps) ≡ new_flat q ps
new_is m q ps e =
    let l : Label = label (block_of q) in
    let new : Tree = sent_node (para_edit m q ps) in
    ap (λ (t : Tree). delimited l (inline_spelling same_node t new place.Paragraph) ++ []) (old_node m q ps e)
    ∙ ap (λ (bs : List ℕ). delimited l bs ++ []) (spelled_is m q ps)
    ∙ plain_label l (joined_parts (lines_of q)) (new_flat q ps) (label_is (joined_parts (lines_of q)))

-- ---- the answer

pub opened_is : (pages : Pages) (m : Label) (q : List ℕ) (ps : Pieces) → IsFlatPage q → IsFlatEdit q ps
    → ungathered (expanded_page pages q).outer (expanded_page pages q).items ≡ page_body (body_label (paragraph_of q)) (flat_edits m q ps)
opened_is pages m q ps h e =
    let one = flat_page q h in
    ap (λ x. ungathered x.outer x.items) (one.expanded pages)
    ∙ one_tree q (paragraph_of q) one
    ∙ ap (λ (us : Trees). tree (body_label (paragraph_of q)) us) (sym (old_nodes m q ps e))

pub ungrouped : (m : Label) (q : List ℕ) (ps : Pieces) → IsFlatPage q → IsFlatEdit q ps → NoneIsGroup (page_nodes (flat_edits m q ps))
ungrouped m q ps h e = subst NoneIsGroup (sym (old_nodes m q ps e)) (one_ungrouped q (paragraph_of q) (flat_page q h))

pub answer_so : (pages : Pages) (b m : Label) (q : List ℕ) (ps : Pieces) → IsFlatPage q → IsFlatEdit q ps → length (new_flat q ps) ≤ PAGE_BYTES
    → edit_answer same_node (of_items (page_items q)) q (page_tree pages q) (sent_body (body_label (paragraph_of q)) b (flat_edits m q ps))
    ≡ Ok (new_flat q ps)
answer_so pages b m q ps h e le =
    let es : Edits = flat_edits m q ps in
    let one = flat_page q h in
    let is = opened_is pages m q ps h e in
    let short : length (edited_sources same_node es) ≤ most_bytes =
    subst (λ (bs : List ℕ). length bs ≤ most_bytes) (sym (new_is m q ps e)) (as_edit (new_flat q ps) le) in
    answer_in_sections same_node (of_items (page_items q)) q (page_tree pages q) (body_label (paragraph_of q)) b es
    (page_bare pages q one.utf8 (one.unrefused pages))
    (page_opened pages q one.utf8 (one.unrefused pages) ∙ is)
    (subst InPreorder is (ungathered_numbered (expanded_page pages q).outer (expanded_page pages q).items))
    (ap have_frame (old_nodes m q ps e) ∙ one_unframed q (paragraph_of q) one)
    (are_edited m q ps e) (tt, tt) (are_taken m q ps h e) (are_apart m q ps h e)
    (sym (ap flat_of_all (old_nodes m q ps e) ∙ one_flat q (paragraph_of q) one)) (lies m q ps e) short
    ∙ ap (λ (bs : List ℕ). Ok bs) (new_is m q ps e)
