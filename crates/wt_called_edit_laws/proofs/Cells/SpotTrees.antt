-- The tree of a page with blocks anywhere, with whatever texts were typed in them, by the places of its blocks.
use Rattle.std.proofs.Common.{◌≡◌, inl, ℕ, suc, None, List, [], ◌∷◌, ◌++◌, map, refl, sym, ap, ◌∙◌, subst, append-nil}
use Rattle.std.specs.Str.{IsUtf8}
use Rattle.wt_devices.specs.Device.{Pages}
use Rattle.wt_tree.specs.declared.kind.Kind.TheVariants as kind
use Rattle.wt_tree.specs.Tiling.{HasNoGroup}
use Rattle.wt_tree.specs.Tree.{Label, tree}
use Rattle.wt_span.specs.Items.{Item, sources}
use Rattle.wt_inline.specs.ItemTree.{plain, ItemTree, forest, tree_items, held_by_all}
use Rattle.wt_inline.specs.Parts.{children}
use Rattle.wt_context.specs.Line.{line_parts}
use Rattle.wt_page.specs.Body.{meaning}
use Rattle.wt_page.proofs.HeldBody.{sources_meaning}
use Rattle.wt_annotated.specs.Annotated.{annotated, all_unplaced}
use Rattle.wt_annotated.specs.GroupData.{group_data}
use Rattle.wt_annotated.specs.WithoutCalls.{IsPlain}
use Rattle.wt_annotated.proofs.NoGroups.{only_plain}
use Rattle.wt_expand.specs.PageCalls.{expanded_page}
use Rattle.wt_expand.specs.PageItems.{page_items}
use Rattle.wt_expand.specs.Work.{first_refusal}
use Rattle.wt_expand.specs.Expansion.{page_work}
use Rattle.wt_expand.proofs.PageLaws.{page_sources}
use Rattle.wt_part_laws.specs.Frames.{Frames, trees_at, all_places, content, AreFrames}
use Rattle.wt_part_laws.specs.Standing.{AreOrdinary}
use Rattle.wt_text_edit_laws.specs.BlockSpots.{BlockSpot, spots_source, AreRead, SameRound, AreBlocks, AreContents}
use Rattle.wt_text_edit_laws.specs.LonePages.{page_chars, of_items}
use Rattle.wt_text_edit_laws.specs.ParagraphBetween.{body_with}
use Rattle.wt_text_edit_laws.specs.Parts.{part_tree, HasNoGroups}
use Rattle.wt_text_edit_laws.specs.TextBlocks.{TextBlock, a_paragraph, a_heading, block_tree, IsBlock}
use Rattle.wt_text_edit_laws.specs.Contents.{content_parts_of}
use Rattle.wt_text_edit_laws.specs.TypedHeadings.{opening, closing_items}
use Rattle.wt_text_edit_laws.proofs.Blocks.BlockReading.{read_items_of, read_expanded, read_unrefused}
use Rattle.wt_text_edit_laws.proofs.Blocks.BlockLeaves.{leaf_block, block_leaves, block_plain}
use Rattle.wt_text_edit_laws.proofs.Blocks.Contents.{blocks_contents, over_new}
use Rattle.wt_text_edit_laws.proofs.Blocks.BlocksAgain.{read_utf8}
use Rattle.wt_text_edit_laws.proofs.Blocks.KeptBlocks.{blocks_source, held_source}
use Rattle.wt_text_edit_laws.proofs.Blocks.PageKinds.{page_ordinary}
use Rattle.wt_text_edit_laws.proofs.Blocks.TypedAgain.{read_again}
use Rattle.wt_text_edit_laws.proofs.Blocks.TypedBraces.{AreTypedOver, AreNewOver}
use Rattle.wt_text_edit_laws.proofs.Paragraphs.PartTrees.{ArePlain, plain_tree}
use Rattle.wt_text_edit_laws.proofs.Prose.ProseTrees.{blocks_of}
use Rattle.wt_text_edit_laws.proofs.Texts.LoneTrees.{sized}
use Rattle.wt_text_edit_laws.proofs.Texts.TypedLeaves.{leaves}
use Rattle.wt_called_edit_laws.specs.AnyBlocks.{AreSpots}
use Rattle.wt_called_edit_laws.proofs.Cells.HolderKinds.{block_at, para_block}
use Rattle.wt_text_edit_laws.proofs.Blocks.PageItems.{all_of}
use Rattle.wt_called_edit_laws.proofs.Cells.FramesBorders.{IsBordered, AreBordered, all_borders}
use Rattle.wt_called_edit_laws.proofs.Cells.FramesPlain.{IsFull, AreFull, frames_plain}
use Rattle.wt_called_edit_laws.proofs.Cells.ManyNodes.{AllBorders}
use Rattle.wt_called_edit_laws.proofs.Cells.PlaceTrees.{tree_by, counted, Framed}
use Rattle.wt_called_edit_laws.proofs.Cells.SpotsRead.{parts_read, parts_blocks, parts_over, whole_over}
use Rattle.wt_text_edit_laws.proofs.Blocks.BlocksUngrouped.{blocks_ungrouped}

-- ---- the trees by numbers

pub counted_same : (ss rs : List BlockSpot) → SameRound ss rs → counted rs ≡ counted ss
counted_same [] [] e = refl
counted_same [] (r ∷ rs) e = absurd e
counted_same (s ∷ ss) [] e = absurd e
counted_same (s ∷ ss) (r ∷ rs) e = ap (λ ns. 0 ∷ map (λ (n : ℕ). suc n) ns) (counted_same ss rs e.2)

block_bordered : (k : TextBlock) (q : List ℕ) → IsBordered (block_tree k q)
block_bordered a_paragraph q m a = block_at m a (plain kind.Para) [] (forest (children (content_parts_of a_paragraph (page_items q)))) [] para_block
block_bordered (a_heading s) q m a =
    block_at m a (plain (kind.Heading s.level)) (page_chars (opening s)) (forest (children (line_parts (page_items q)))) (closing_items s) (refl, refl, refl)

bordered_up : (s : BlockSpot) (ss : List BlockSpot) (ns : List ℕ) → AreBordered (tree_by ss) ns → AreBordered (tree_by (s ∷ ss)) (map (λ (n : ℕ). suc n) ns)
bordered_up s ss [] h = tt
bordered_up s ss (n ∷ ns) h = (h.0, bordered_up s ss ns h.1)

counted_bordered : (ss : List BlockSpot) → AreBordered (tree_by ss) (counted ss)
counted_bordered [] = tt
counted_bordered (s ∷ ss) = (block_bordered s.block s.text, bordered_up s ss (counted ss) (counted_bordered ss))

pub tree_borders : (ss : List BlockSpot) (fs : Frames) → AreFrames fs content → all_places fs ≡ counted ss → AllBorders (tree_by ss) fs
tree_borders ss fs h e = all_borders content (tree_by ss) fs (subst (AreBordered (tree_by ss)) (sym e) (counted_bordered ss)) h

pub leaves_full : (k : TextBlock) (q : List ℕ) → ArePlain (leaf_block k (leaves (page_items q)) ∷ []) → IsFull (leaf_block k (leaves (page_items q)))
leaves_full a_paragraph q h =
    let xs : List Item = tree_items (leaf_block a_paragraph (leaves (page_items q))) in
    (h.none_empty.0, h.none_empty.1, (all_of xs [] (all_of (xs ++ []) [] h.of_page).0).0)
leaves_full (a_heading s) q h =
    let xs : List Item = tree_items (leaf_block (a_heading s) (leaves (page_items q))) in
    (h.none_empty.0, h.none_empty.1, (all_of xs [] (all_of (xs ++ []) [] h.of_page).0).0)

block_full : (k : TextBlock) (q : List ℕ) → IsBlock k q → IsFull (block_tree k q)
block_full k q h = subst IsFull (sym (block_leaves k q h)) (leaves_full k q (block_plain k q h))

full_up : (s : BlockSpot) (ss : List BlockSpot) (ns : List ℕ) → AreFull (tree_by ss) ns → AreFull (tree_by (s ∷ ss)) (map (λ (n : ℕ). suc n) ns)
full_up s ss [] h = tt
full_up s ss (n ∷ ns) h = (h.0, full_up s ss ns h.1)

counted_full : (ss : List BlockSpot) → AreBlocks ss → AreFull (tree_by ss) (counted ss)
counted_full [] h = tt
counted_full (s ∷ ss) h = (block_full s.block s.text h.0, full_up s ss (counted ss) (counted_full ss h.1))

-- ---- the page with texts that were typed

pub same_self : (ss : List BlockSpot) → SameRound ss ss
same_self [] = tt
same_self (s ∷ ss) = (refl, refl, same_self ss)

pub over_self : (ss : List BlockSpot) → AreTypedOver ss ss
over_self [] = tt
over_self (s ∷ ss) = (inl refl, over_self ss)

pub over_blocks : (ss rs : List BlockSpot) (behind : List ℕ) → AreSpots ss behind → SameRound ss rs → AreTypedOver ss rs → AreBlocks rs
over_blocks ss rs behind h e o = parts_blocks rs behind (parts_over ss rs behind h.parts e o)

over_contents : (ss rs : List BlockSpot) (behind : List ℕ) → AreSpots ss behind → SameRound ss rs → AreTypedOver ss rs → AreContents rs
over_contents ss rs behind h e o = blocks_contents rs (over_blocks ss rs behind h e o)

new_read : (ss rs : List BlockSpot) (behind : List ℕ) → AreSpots ss behind → SameRound ss rs → AreContents rs → AreNewOver ss rs → AreRead rs behind
new_read ss rs behind h e c o = read_again ss rs behind (parts_read ss behind h.parts h.whole) e c o

pub over_read : (ss rs : List BlockSpot) (behind : List ℕ) → AreSpots ss behind → SameRound ss rs → AreTypedOver ss rs → AreRead rs behind
over_read ss rs behind h e o = new_read ss rs behind h e (over_contents ss rs behind h e o) (over_new ss rs o)

abbrev pub nodes_over : {ss : List BlockSpot} {behind : List ℕ} → Framed ss behind → List BlockSpot → List ItemTree
nodes_over f rs = trees_at (tree_by rs) f.frames

pub new_means : (ss rs : List BlockSpot) (behind : List ℕ) (f : Framed ss behind) → AreSpots ss behind → SameRound ss rs → AreContents rs → AreNewOver ss rs
    → meaning (page_items (spots_source rs behind)) ≡ body_with (nodes_over f rs)
new_means ss rs behind f h e c o = ap meaning (read_items_of rs behind (new_read ss rs behind h e c o)) ∙ f.means rs e c o

over_means : (ss rs : List BlockSpot) (behind : List ℕ) (f : Framed ss behind) → AreSpots ss behind → SameRound ss rs → AreTypedOver ss rs
    → meaning (page_items (spots_source rs behind)) ≡ body_with (nodes_over f rs)
over_means ss rs behind f h e o = new_means ss rs behind f h e (over_contents ss rs behind h e o) (over_new ss rs o)

own_plain : (ss : List BlockSpot) (behind : List ℕ) (f : Framed ss behind) → AreSpots ss behind → IsPlain (body_with (nodes_over f ss))
own_plain ss behind f h =
    only_plain [] (group_data []) (forest (nodes_over f ss))
    (subst (λ t. HasNoGroup (annotated [] (group_data []) t)) (over_means ss ss behind f h (same_self ss) (over_self ss)) h.ungrouped)

pub over_plain : (ss rs : List BlockSpot) (behind : List ℕ) (f : Framed ss behind) → AreSpots ss behind → SameRound ss rs → AreTypedOver ss rs
    → IsPlain (body_with (nodes_over f rs))
over_plain ss rs behind f h e o =
    frames_plain (tree_by ss) (tree_by rs) f.frames
    (subst (AreFull (tree_by rs)) (counted_same ss rs e ∙ sym f.in_order) (counted_full rs (over_blocks ss rs behind h e o))) (own_plain ss behind f h)

abbrev pub label_over : {ss : List BlockSpot} {behind : List ℕ} → Framed ss behind → List BlockSpot → Label
label_over f rs = sized kind.Body 0 (held_by_all (forest (nodes_over f rs)) ++ []) [] []

pub over_tree : (ss rs : List BlockSpot) (behind : List ℕ) (f : Framed ss behind) → AreSpots ss behind → SameRound ss rs → AreTypedOver ss rs
    → part_tree (spots_source rs behind) ≡ tree (label_over f rs) (blocks_of 1 [] (nodes_over f rs))
over_tree ss rs behind f h e o =
    ap (annotated [] (group_data [])) (over_means ss rs behind f h e o) ∙ plain_tree (nodes_over f rs) (over_plain ss rs behind f h e o)

pub new_source : (ss rs : List BlockSpot) (behind : List ℕ) (f : Framed ss behind) → AreSpots ss behind → SameRound ss rs → AreContents rs → AreNewOver ss rs
    → blocks_source (nodes_over f rs) ≡ spots_source rs behind
new_source ss rs behind f h e c o =
    sym (held_source (nodes_over f rs))
    ∙ ap sources (sym (append-nil (held_by_all (forest (nodes_over f rs)))))
    ∙ ap (λ m. sources (tree_items m)) (sym (new_means ss rs behind f h e c o))
    ∙ sources_meaning (page_items (spots_source rs behind))
    ∙ page_sources (spots_source rs behind)

pub over_utf8 : (ss rs : List BlockSpot) (behind : List ℕ) → AreSpots ss behind → SameRound ss rs → AreTypedOver ss rs → IsUtf8 (spots_source rs behind)
over_utf8 ss rs behind h e o = read_utf8 rs behind (over_read ss rs behind h e o)

pub over_expanded : (pages : Pages) (ss rs : List BlockSpot) (behind : List ℕ) → AreSpots ss behind → SameRound ss rs → AreTypedOver ss rs
    → expanded_page pages (spots_source rs behind) ≡ of_items (page_items (spots_source rs behind))
over_expanded pages ss rs behind h e o = read_expanded pages rs behind (over_read ss rs behind h e o)

pub over_unrefused : (pages : Pages) (ss rs : List BlockSpot) (behind : List ℕ) → AreSpots ss behind → SameRound ss rs → AreTypedOver ss rs
    → first_refusal pages (spots_source rs behind) (page_work pages (spots_source rs behind)) ≡ None
over_unrefused pages ss rs behind h e o = read_unrefused pages rs behind (over_read ss rs behind h e o)

pub over_ordinary : (pages : Pages) (ss rs : List BlockSpot) (behind : List ℕ) (f : Framed ss behind) → AreSpots ss behind → SameRound ss rs → AreTypedOver ss rs
    → AreOrdinary (all_unplaced (forest (nodes_over f rs)))
over_ordinary pages ss rs behind f h e o =
    page_ordinary pages (spots_source rs behind) (nodes_over f rs) (over_utf8 ss rs behind h e o) (over_unrefused pages ss rs behind h e o)
    (over_expanded pages ss rs behind h e o) (over_means ss rs behind f h e o)

-- ---- it is such a page again

no_pages : Pages
no_pages = λ title. None

over_ungrouped : (ss rs : List BlockSpot) (behind : List ℕ) (f : Framed ss behind) → AreSpots ss behind → SameRound ss rs → AreTypedOver ss rs
    → HasNoGroups (spots_source rs behind)
over_ungrouped ss rs behind f h e o =
    subst HasNoGroup (sym (over_tree ss rs behind f h e o))
    (refl, blocks_ungrouped 1 [] (nodes_over f rs) (over_ordinary no_pages ss rs behind f h e o))

pub spots_over : (ss rs : List BlockSpot) (behind : List ℕ) (f : Framed ss behind) → AreSpots ss behind → SameRound ss rs → AreTypedOver ss rs → AreSpots rs behind
spots_over ss rs behind f h e o = record {
  parts = parts_over ss rs behind h.parts e o;
  whole = whole_over ss rs behind h.parts h.whole e o;
  ungrouped = over_ungrouped ss rs behind f h e o;
}
