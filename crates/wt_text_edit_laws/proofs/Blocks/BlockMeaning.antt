-- What a page with typed paragraphs and headings means: a body with what each of its parts makes by itself, and these blocks between.
use Rattle.std.proofs.Common.{◌≡◌, inl, ℕ, List, [], ◌∷◌, ◌++◌, refl, ap, ◌∙◌, subst, sym, append_assoc}
use Rattle.wt_span.specs.Items.{Item}
use Rattle.wt_inline.specs.ItemTree.{ItemTree}
use Rattle.wt_inline.specs.Parts.{Part, node, children}
use Rattle.wt_page.specs.Rows.{Row, rows}
use Rattle.wt_page.specs.Body.{meaning}
use Rattle.wt_expand.specs.PageItems.{page_items}
use Rattle.wt_text_edit_laws.specs.ParagraphBetween.{rows_of_lines, AreClosed, before_marks, BeginApart, EndsParagraph, body_with}
use Rattle.wt_text_edit_laws.proofs.Paragraphs.Joining.{rows_before}
use Rattle.wt_text_edit_laws.proofs.Paragraphs.Marks.{AreMarks, EndsInMarks, marks_end, rows_marks}
use Rattle.wt_text_edit_laws.proofs.Paragraphs.Standing.{parts_in, round_node, body_is}
use Rattle.wt_text_edit_laws.proofs.Paragraphs.Paragraphs.{paragraph_between}
use Rattle.wt_text_edit_laws.specs.TypedHeadings.{Sides, heading_line, EndsLine}
use Rattle.wt_text_edit_laws.proofs.Headings.HeadingRows.{heading_row, first_row, text_inside, round_between}
use Rattle.wt_text_edit_laws.specs.TextBlocks.{TextBlock, a_paragraph, a_heading, block_items, block_tree, IsBlock, LeadsTo, EndsBlock, FirstApart, BeginsApart, BeginsBetween}
use Rattle.wt_text_edit_laws.specs.BlockSpots.{BlockSpot, spots_source, page_blocks, IsBlockSpot, AreFurtherBlocks, AreBlockSpots}
use Rattle.wt_text_edit_laws.proofs.Paragraphs.LineBlocks.{page_breaks, text_tree}
use Rattle.wt_text_edit_laws.proofs.Paragraphs.Texts.{paragraph_written}
use Rattle.wt_text_edit_laws.proofs.Blocks.BlockReading.{spots_items}
use Rattle.wt_text_edit_laws.proofs.Blocks.BlockLines.{heading_sides, heading_text, heading_level}
use Rattle.wt_text_edit_laws.proofs.Blocks.BlocksRead.{items_of_spots}

-- ---- a block between others

block_between : (k : TextBlock) (xs : List Item) (q : List ℕ) (tail : List Item) → LeadsTo k xs → IsBlock k q → EndsBlock k tail
    → parts_in (xs ++ (block_items k q ++ tail)) ≡ parts_in xs ++ node (block_tree k q) ∷ parts_in tail
block_between a_paragraph xs q tail c h e =
    paragraph_between xs q tail c h e
    ∙ ap (λ t. parts_in xs ++ node t ∷ parts_in tail) (sym (text_tree (page_items q) (paragraph_written q h).0 (page_breaks q)))
block_between (a_heading s) xs q tail c h e =
    round_between xs s (page_items q) tail c (heading_sides s q h) (inl (text_inside (page_items q) (heading_text s q h))) (heading_level s q h) e

-- ---- what stands behind one

heading_first : (s : Sides) (ms : List Item) (q : List ℕ) (tail : List Item) → AreMarks ms → IsBlock (a_heading s) q → EndsLine tail
    → BeginApart (rows (ms ++ (heading_line s (page_items q) ++ tail)))
heading_first s ms q tail m h e =
    let line : List Item = heading_line s (page_items q) in
    let f = first_row s (page_items q) tail (heading_sides s q h) (heading_text s q h) (heading_level s q h) e in
    subst BeginApart (sym (rows_marks ms (line ++ tail) (heading_row line f.0) f.1 m f.2 tt)) refl

first_apart : (next : TextBlock) (rs : List Row) (ms : List Item) (q : List ℕ) (tail : List Item) → FirstApart next rs → AreMarks ms → IsBlock next q
    → EndsBlock next tail → BeginApart (rs ++ rows (ms ++ (block_items next q ++ tail)))
first_apart a_paragraph [] ms q tail h m b e = absurd h
first_apart (a_heading s) [] ms q tail h m b e = heading_first s ms q tail m b e
first_apart a_paragraph (r ∷ rs) ms q tail h m b e = h
first_apart (a_heading s) (r ∷ rs) ms q tail h m b e = h

above_apart : (next : TextBlock) (xs : List Item) (q : List ℕ) (tail : List Item) → AreClosed (before_marks xs)
    → FirstApart next (rows_of_lines (before_marks xs)) → IsBlock next q → EndsBlock next tail → BeginApart (rows (xs ++ (block_items next q ++ tail)))
above_apart next xs q tail h f b e =
    let g : EndsInMarks xs = marks_end xs in
    let ys : List Item = block_items next q ++ tail in
    let ls : List Item = before_marks xs in
    let is : rows (xs ++ ys) ≡ rows_of_lines ls ++ rows (g.marks ++ ys) =
    ap (λ (zs : List Item). rows (zs ++ ys)) g.is ∙ ap rows (append_assoc ls g.marks ys) ∙ rows_before ls (g.marks ++ ys) h in
    subst BeginApart (sym is) (first_apart next (rows_of_lines ls) g.marks q tail f g.are_marks b e)

ends_paragraph : (next : TextBlock) (xs : List Item) (q : List ℕ) (tail : List Item) → BeginsApart next xs → IsBlock next q → EndsBlock next tail
    → EndsParagraph (xs ++ (block_items next q ++ tail))
ends_paragraph next [] q tail h b e = absurd h
ends_paragraph next (x ∷ xs) q tail h b e =
    (h.0, above_apart next xs q tail h.1 h.2 b e)

ends_heading : (s : Sides) (next : TextBlock) (xs ys : List Item) → BeginsBetween (a_heading s) next xs → EndsLine (xs ++ ys)
ends_heading s next [] ys h = absurd h
ends_heading s next (x ∷ xs) ys h = h

ends_between : (last next : TextBlock) (xs : List Item) (q : List ℕ) (tail : List Item) → BeginsBetween last next xs → IsBlock next q → EndsBlock next tail
    → EndsBlock last (xs ++ (block_items next q ++ tail))
ends_between a_paragraph next xs q tail h b e = ends_paragraph next xs q tail h b e
ends_between (a_heading s) next xs q tail h b e = ends_heading s next xs (block_items next q ++ tail) h

pub further_end : (last : TextBlock) (ss : List BlockSpot) (behind : List ℕ) → AreFurtherBlocks last ss behind → EndsBlock last (spots_items ss behind)
further_end last [] behind h = h.ends
further_end last (s ∷ ss) behind h =
    ends_between last s.block (page_items s.before) s.text (spots_items ss behind) h.1 h.0.block (further_end s.block ss behind h.2)

-- ---- all parts

abbrev spots_parts : List BlockSpot → List ℕ → List Part
spots_parts [] behind = parts_in (page_items behind)
spots_parts (s ∷ ss) behind = parts_in (page_items s.before) ++ node (block_tree s.block s.text) ∷ spots_parts ss behind

spot_parts : (s : BlockSpot) (ss : List BlockSpot) (behind : List ℕ) → IsBlockSpot s → EndsBlock s.block (spots_items ss behind)
    → parts_in (spots_items ss behind) ≡ spots_parts ss behind → parts_in (spots_items (s ∷ ss) behind) ≡ spots_parts (s ∷ ss) behind
spot_parts s ss behind h e p =
    block_between s.block (page_items s.before) s.text (spots_items ss behind) h.leads h.block e
    ∙ ap (λ ps. parts_in (page_items s.before) ++ node (block_tree s.block s.text) ∷ ps) p

further_parts : (last : TextBlock) (ss : List BlockSpot) (behind : List ℕ) → AreFurtherBlocks last ss behind
    → parts_in (spots_items ss behind) ≡ spots_parts ss behind
further_parts last [] behind h = refl
further_parts last (s ∷ ss) behind h = spot_parts s ss behind h.0 (further_end s.block ss behind h.2) (further_parts s.block ss behind h.2)

all_parts : (ss : List BlockSpot) (behind : List ℕ) → AreBlockSpots ss behind → parts_in (spots_items ss behind) ≡ spots_parts ss behind
all_parts [] behind h = absurd h
all_parts (s ∷ ss) behind h = spot_parts s ss behind h.0 (further_end s.block ss behind h.1) (further_parts s.block ss behind h.1)

-- ---- the body

blocks_are : (ss : List BlockSpot) (behind : List ℕ) → children (spots_parts ss behind) ≡ page_blocks ss behind
blocks_are [] behind = refl
blocks_are (s ∷ ss) behind =
    let t : ItemTree = block_tree s.block s.text in
    round_node t (parts_in (page_items s.before)) (spots_parts ss behind)
    ∙ ap (λ ts. children (parts_in (page_items s.before)) ++ t ∷ ts) (blocks_are ss behind)

pub spots_meaning : (ss : List BlockSpot) (behind : List ℕ) → AreBlockSpots ss behind
    → meaning (page_items (spots_source ss behind)) ≡ body_with (page_blocks ss behind)
spots_meaning ss behind h =
    ap meaning (items_of_spots ss behind h)
    ∙ body_is (spots_items ss behind) (spots_parts ss behind) (all_parts ss behind h)
    ∙ ap body_with (blocks_are ss behind)
