-- The rows of a page with blocks anywhere: those of its lines, and those of each block at its place, led by the marks above it.
use Rattle.std.proofs.Common.{arith, ◌≡◌, ◌+◌, ℕ, zero, suc, Bool, List, [], ◌∷◌, ◌++◌, length, map, refl, sym, ap, ◌∙◌, subst, append-nil, append_assoc, inl, inr, ◌⊎◌}
use Rattle.wt_span.specs.Items.{Item}
use Rattle.wt_lines.specs.Lines.{empty_end, full_lines, lines}
use Rattle.wt_inline.specs.ItemTree.{ItemTree}
use Rattle.wt_page.specs.Rows.{Row, rows_from}
use Rattle.wt_page.specs.Texts.{para}
use Rattle.wt_part_laws.specs.Rounds.{AreTexts as AreTextRows, IsHeading}
use Rattle.wt_part_laws.specs.Slots.{Slot, rows_at, AreAt}
use Rattle.wt_part_laws.proofs.Parsed.{rows_slots}
use Rattle.wt_part_laws.proofs.Places.{rows_join as places_join, own_rows as placed_rows}
use Rattle.wt_text_edit_laws.specs.ParagraphBetween.{before_marks, tables_behind}
use Rattle.wt_text_edit_laws.specs.TextBlocks.{TextBlock, a_paragraph, a_heading, block_tree}
use Rattle.wt_text_edit_laws.specs.TypedHeadings.{Sides, AreSides, heading_line, IsInside, IsOfLevel, EndsLine}
use Rattle.wt_text_edit_laws.proofs.Texts.PlainRows.{text_row}
use Rattle.wt_text_edit_laws.proofs.Prose.ProseReading.{break}
use Rattle.wt_text_edit_laws.proofs.Prose.ProseLines.{first_ended, rest_ended}
use Rattle.wt_text_edit_laws.proofs.Paragraphs.LineBlocks.{later_row, paragraph_rows, IsLineBlock}
use Rattle.wt_text_edit_laws.proofs.Paragraphs.SeenLines.{seen_block}
use Rattle.wt_text_edit_laws.proofs.Headings.HeadingRows.{heading_row, round_then, round_last, round_is}
use Rattle.wt_text_edit_laws.proofs.Paragraphs.Joining.{lines_join, rows_join}
use Rattle.wt_text_edit_laws.proofs.Paragraphs.Marks.{AreMarks, EndsInMarks, marks_end, with_lead, led, rows_led}
use Rattle.wt_called_edit_laws.specs.InCells.{AreBehind, AreTextLines}
use Rattle.wt_called_edit_laws.specs.AnyBlocks.{rows_of_part, open_behind_part, past_break, BeginsAfter, EndsAfter}
use Rattle.wt_called_edit_laws.specs.CalledContents.{items_round, tree_round, AreTextItems, AreItemsOf, StayText}
use Rattle.wt_called_edit_laws.specs.StaysIn.{StaysIn}
use Rattle.wt_called_edit_laws.specs.TableEnds.{IsTableEnd, IsEndFor, AreLater}
use Rattle.wt_called_edit_laws.specs.ItemSpots.{ItemSpot, placed_items, AreContentsIn, IsPlacedAt, ArePlacedAfter, ArePlaced}
use Rattle.wt_called_edit_laws.proofs.Cells.CellRows.{AreAt as AreTextsAt, own_rows, text_rows}
use Rattle.wt_called_edit_laws.proofs.Cells.SignRows.{end_rows, end_unwhole, all_later, later_others, first_is_seen}
use Rattle.wt_called_edit_laws.proofs.Cells.Cells.{end_of, own_are, own_para}
use Rattle.wt_called_edit_laws.proofs.Cells.SpotSlots.{marks_of, slot_of, end_behind, spot_slots, slots_from, page_slots, open_size}

-- ---- a block's own rows

pub text_block : (xs : List Item) → AreTextItems xs → IsLineBlock xs
text_block xs h = seen_block xs h.unled h.seen

abbrev pub block_rows : (k : TextBlock) (xs : List Item) → AreItemsOf k xs → List Item → List Item → List Row
block_rows a_paragraph xs h ms tail = led ms (own_rows xs (text_block xs h) tail)
block_rows (a_heading s) xs h ms tail = with_lead ms (heading_row (heading_line s xs) (end_of tail)) ∷ []

behind_is : (n : ℕ) (tail : List Item) → EndsLine tail → AreBehind n tail (rows_from n (full_lines (past_break tail)))
behind_is n [] e = refl
behind_is n (y ∷ ys) e = (e, refl)

text_led : (n : ℕ) (ms zs l : List Item) (ls : List (List Item)) (rest : List Row) → AreMarks ms
    → rows_from n (full_lines zs) ≡ paragraph_rows l ls ++ rest → rows_from n (full_lines (ms ++ zs)) ≡ led ms (paragraph_rows l ls) ++ rest
text_led n ms zs l ls rest m e = rows_led n ms zs (text_row l) (map later_row ls ++ rest) m e tt

text_is : (n : ℕ) (own ms tail : List Item) (b : IsLineBlock own) → AreTextLines n own → AreMarks ms → EndsLine tail
    → rows_from n (full_lines (ms ++ (own ++ tail))) ≡ led ms (own_rows own b tail) ++ rows_from n (full_lines (past_break tail))
text_is n own ms [] b a m e =
    let rest : List Row = rows_from n (full_lines []) in
    text_led n ms (own ++ []) b.first b.others rest m (text_rows n own [] b rest a (behind_is n [] e))
text_is n own ms (y ∷ ys) b a m e =
    let rest : List Row = rows_from n (full_lines ys) in
    text_led n ms (own ++ y ∷ ys) (first_ended b.first b.others) (rest_ended b.first b.others) rest m (text_rows n own (y ∷ ys) b rest a (behind_is n (y ∷ ys) e))

heading_is : (n : ℕ) (s : Sides) (own ms tail : List Item) → AreSides s → IsInside s own → IsOfLevel s own → AreMarks ms → EndsLine tail
    → rows_from n (full_lines (ms ++ (heading_line s own ++ tail)))
    ≡ with_lead ms (heading_row (heading_line s own) (end_of tail)) ∷ rows_from n (full_lines (past_break tail))
heading_is n s own ms [] a h p m e =
    rows_led n ms (heading_line s own ++ []) (heading_row (heading_line s own) []) (rows_from n (full_lines [])) m
    (ap (λ zs. rows_from n (full_lines zs)) (append-nil (heading_line s own)) ∙ round_last n s own a h p) tt
heading_is n s own ms (y ∷ ys) a h p m e =
    rows_led n ms (heading_line s own ++ y ∷ ys) (heading_row (heading_line s own) (break ∷ [])) (rows_from n (full_lines ys)) m
    (ap (λ z. rows_from n (full_lines (heading_line s own ++ z ∷ ys))) e ∙ round_then n s own ys a h p) tt

pub block_is : (n : ℕ) (k : TextBlock) (xs : List Item) (b : AreItemsOf k xs) (ms tail : List Item) → StayText k n xs → AreMarks ms → EndsLine tail
    → rows_from n (full_lines (ms ++ (items_round k xs ++ tail))) ≡ block_rows k xs b ms tail ++ rows_from n (full_lines (past_break tail))
block_is n a_paragraph xs b ms tail a m e = text_is n xs ms tail (text_block xs b) a m e
block_is n (a_heading s) xs b ms tail a m e = heading_is n s xs ms tail b.sides b.inside b.of_level m e

-- ---- they make its tree

led_texts : (ms end : List Item) (rs : List Row) → AreTextRows [] end rs → AreTextRows ms end (led ms rs)
led_texts ms end [] h = absurd h
led_texts ms end (r ∷ []) h = (h.0, ap (λ xs. ms ++ xs) h.1 ∙ append-nil ms, h.2)
led_texts ms end (r ∷ s ∷ rs) h = (h.0, ap (λ xs. ms ++ xs) h.1 ∙ append-nil ms, h.2)

pub led_para : (ms : List Item) (rs : List Row) → para (led ms rs) ≡ para rs
unfolding para
led_para ms [] = refl
led_para ms (r ∷ rs) = refl

block_at : (k : TextBlock) (own : List Item) (b : AreItemsOf k own) (i : ℕ) (ms tail : List Item) (rest : List Slot) (p : ℕ → List Row) (t : ℕ → ItemTree)
    → p i ≡ block_rows k own b ms tail → t i ≡ tree_round k own → AreAt rest p t → AreAt (slot_of k i ms (end_of tail) ∷ rest) p t
block_at a_paragraph own b i ms tail rest p t e f h =
    let w : IsLineBlock own = text_block own b in (
      subst (AreTextRows ms (end_of tail)) (sym e) (led_texts ms (end_of tail) (own_rows own w tail) (own_are own tail w)),
      ap para e ∙ led_para ms (own_rows own w tail) ∙ own_para own tail w b.own_breaks ∙ sym f,
      h,
    )
block_at (a_heading s) own b i ms tail rest p t e f h =
    let mine : Row = with_lead ms (heading_row (heading_line s own) (end_of tail)) in
    let is : IsHeading ms (end_of tail) mine = record { is = refl; led = append-nil ms; ended = refl } in
    (record { row = mine; one = e; is = is; tree = round_is s own b.sides b.inside b.of_level ∙ sym f }, h)

-- ---- what follows a block

ends_line : (last : TextBlock) (n : ℕ) (ys : List Item) → EndsAfter last n ys → EndsLine ys
ends_line a_paragraph n [] h = tt
ends_line a_paragraph n (y ∷ ys) h = h.0
ends_line (a_heading s) n ys h = h

begins_line : (last next : TextBlock) (bs : List Bool) (ys zs : List Item) → BeginsAfter last next bs ys → EndsLine (ys ++ zs)
begins_line last next bs [] zs h = absurd h
begins_line last next bs (y ∷ ys) zs h = h.0

pub line_behind : (last : TextBlock) (bs : List Bool) (ss : List ItemSpot) (behind : List Item) → ArePlacedAfter last bs ss behind → EndsLine (placed_items ss behind)
line_behind last bs [] behind h = ends_line last (length bs) behind h
line_behind last bs (s ∷ ss) behind h =
    begins_line last s.block bs s.before (items_round s.block s.content ++ placed_items ss behind) h.0

some_end : (last next : TextBlock) (bs : List Bool) (ys zs : List Item) → BeginsAfter last next bs ys → end_of (ys ++ zs) ≡ break ∷ []
some_end last next bs [] zs h = absurd h
some_end last next bs (y ∷ ys) zs h = refl

end_is : (last : TextBlock) (bs : List Bool) (ss : List ItemSpot) (behind : List Item) → ArePlacedAfter last bs ss behind
    → end_of (placed_items ss behind) ≡ end_behind ss behind
end_is last bs [] behind h = refl
end_is last bs (s ∷ ss) behind h =
    some_end last s.block bs s.before (items_round s.block s.content ++ placed_items ss behind) h.0

past_join : (last next : TextBlock) (bs : List Bool) (ys zs : List Item) → BeginsAfter last next bs ys → past_break (ys ++ zs) ≡ past_break ys ++ zs
past_join last next bs [] zs h = absurd h
past_join last next bs (y ∷ ys) zs h = refl

-- ---- a part, and the block behind it

part_is : (bs : List Bool) (xs zs : List Item) → empty_end (before_marks xs) ≡ [] ∷ []
    → rows_from (length bs) (full_lines (xs ++ zs))
    ≡ rows_of_part bs xs ++ rows_from (length (open_behind_part bs xs)) (full_lines (marks_of xs ++ zs))
part_is bs xs zs whole =
    let g : EndsInMarks xs = marks_end xs in
    let ls : List Item = before_marks xs in
    ap (λ (ys : List Item). rows_from (length bs) (full_lines (ys ++ zs))) g.is
    ∙ ap (λ (ys : List Item). rows_from (length bs) (full_lines ys)) (append_assoc ls (marks_of xs) zs)
    ∙ ap (rows_from (length bs)) (lines_join ls (marks_of xs ++ zs) whole)
    ∙ rows_join (length bs) (full_lines ls) (full_lines (marks_of xs ++ zs))
    ∙ ap (λ (n : ℕ). rows_of_part bs xs ++ rows_from n (full_lines (marks_of xs ++ zs))) (open_size bs (length bs) (full_lines ls) refl)

-- a paragraph behind the sign of a table's end
end_is_rows : (bs : List Bool) (xs own tail : List Item) (b : AreTextItems own) → IsTableEnd (length bs) (before_marks xs)
    → AreLater (length (open_behind_part bs xs)) (lines own) → EndsLine tail
    → rows_from (length bs) (full_lines (xs ++ (own ++ tail)))
    ≡ rows_of_part bs xs ++ (led (marks_of xs) (own_rows own (text_block own b) tail) ++ rows_from (length (open_behind_part bs xs)) (full_lines (past_break tail)))
end_is_rows bs xs own tail b g later e =
    let m : EndsInMarks xs = marks_end xs in
    let ls : List Item = before_marks xs in
    let w : IsLineBlock own = text_block own b in
    let tables : tables_behind (length bs) (full_lines ls) ≡ length (open_behind_part bs xs) = open_size bs (length bs) (full_lines ls) refl in
    ap (λ (ys : List Item). rows_from (length bs) (full_lines (ys ++ (own ++ tail)))) m.is
    ∙ ap (λ (ys : List Item). rows_from (length bs) (full_lines ys)) (append_assoc ls (marks_of xs) (own ++ tail))
    ∙ end_rows (length bs) ls g.front g.last own (marks_of xs) tail g.end w g.is g.whole g.tables m.are_marks (first_is_seen own w b.seen)
    (subst (λ (n : ℕ). AreTextsAt n w.others) (sym tables) (later_others (length (open_behind_part bs xs)) own w later)) e
    ∙ ap (λ (n : ℕ). rows_of_part bs xs ++ (led (marks_of xs) (own_rows own w tail) ++ rows_from n (full_lines (past_break tail)))) tables

spot_by : (bs : List Bool) (xs : List Item) (k : TextBlock) (own tail : List Item) (b : AreItemsOf k own)
    → (empty_end (before_marks xs) ≡ [] ∷ []) ⊎ IsEndFor k (length bs) (before_marks xs) → StaysIn k bs xs own → EndsLine tail
    → rows_from (length bs) (full_lines (xs ++ (items_round k own ++ tail)))
    ≡ rows_of_part bs xs ++ (block_rows k own b (marks_of xs) tail ++ rows_from (length (open_behind_part bs xs)) (full_lines (past_break tail)))
spot_by bs xs k own tail b (inl w) (inl t) e =
    part_is bs xs (items_round k own ++ tail) w
    ∙ ap (λ rs. rows_of_part bs xs ++ rs) (block_is (length (open_behind_part bs xs)) k own b (marks_of xs) tail t (marks_end xs).are_marks e)
spot_by bs xs a_paragraph own tail b (inl w) (inr g) e = absurd (end_unwhole (length bs) (before_marks xs) g.0 w)
spot_by bs xs (a_heading s) own tail b (inl w) (inr g) e = absurd g.0
spot_by bs xs a_paragraph own tail b (inr g) (inl t) e = end_is_rows bs xs own tail b g (all_later (length (open_behind_part bs xs)) (lines own) t) e
spot_by bs xs a_paragraph own tail b (inr g) (inr t) e = end_is_rows bs xs own tail b g t.1 e
spot_by bs xs (a_heading s) own tail b (inr g) t e = absurd g

spot_is : (bs : List Bool) (xs : List Item) (s : ItemSpot) (tail : List Item) (b : AreItemsOf s.block s.content) → IsPlacedAt bs xs s → EndsLine tail
    → rows_from (length bs) (full_lines (xs ++ (items_round s.block s.content ++ tail)))
    ≡ rows_of_part bs xs ++ (block_rows s.block s.content b (marks_of xs) tail ++ rows_from (length (open_behind_part bs xs)) (full_lines (past_break tail)))
spot_is bs xs s tail b h e = spot_by bs xs s.block s.content tail b h.1.whole h.2 e

-- ---- all of them

-- by the numbers of the blocks, behind the first
abbrev pub later_rows : (ss : List ItemSpot) → List Item → AreContentsIn ss → ℕ → List Row
later_rows [] behind b j = []
later_rows (s ∷ ss) behind b zero = block_rows s.block s.content b.0 (marks_of (past_break s.before)) (placed_items ss behind)
later_rows (s ∷ ss) behind b (suc j) = later_rows ss behind b.1 j

abbrev pub page_rows : (ss : List ItemSpot) → List Item → AreContentsIn ss → ℕ → List Row
page_rows [] behind b j = []
page_rows (s ∷ ss) behind b zero = block_rows s.block s.content b.0 (marks_of s.before) (placed_items ss behind)
page_rows (s ∷ ss) behind b (suc j) = later_rows ss behind b.1 j

slot_rows : (p : ℕ → List Row) (k : TextBlock) (i : ℕ) (a b : List Item) (rest : List Slot) → rows_at p (slot_of k i a b ∷ rest) ≡ p i ++ rows_at p rest
slot_rows p a_paragraph i a b rest = refl
slot_rows p (a_heading s) i a b rest = refl

spot_rows : (p : ℕ → List Row) (i : ℕ) (bs : List Bool) (xs : List Item) (k : TextBlock) (end : List Item) (rest : List Slot) (own back : List Row) → p i ≡ own
    → rows_at p rest ≡ back → rows_at p (spot_slots i bs xs k end rest) ≡ rows_of_part bs xs ++ (own ++ back)
spot_rows p i bs xs k end rest own back e f =
    let rs : List Row = rows_of_part bs xs in
    places_join p (rows_slots rs) (slot_of k i (marks_of xs) end ∷ rest)
    ∙ ap (λ ys. ys ++ rows_at p (slot_of k i (marks_of xs) end ∷ rest)) (placed_rows p rs)
    ∙ ap (λ ys. rs ++ ys) (slot_rows p k i (marks_of xs) end rest ∙ ap (λ ys. ys ++ rows_at p rest) e ∙ ap (λ ys. own ++ ys) f)

-- the numbers go on from this one
abbrev Shifted : {A : Type 0} → ℕ → (ℕ → A) → (ℕ → A) → Type 0
Shifted i f g = (j : ℕ) → f (i + j) ≡ g j

first_of : {A : Type 0} (i : ℕ) (f g : ℕ → A) → Shifted i f g → f i ≡ g 0
first_of i f g h = let z : i ≡ i + 0 = omega arith in ap f z ∙ h 0

others_of : {A : Type 0} (i : ℕ) (f g : ℕ → A) → Shifted i f g → Shifted (suc i) f (λ j. g (suc j))
others_of i f g h = λ j. let z : suc i + j ≡ i + suc j = omega arith in ap f z ∙ h (suc j)

from_none : {A : Type 0} (f : ℕ → A) → Shifted 0 f f
from_none f = λ j. let z : 0 + j ≡ j = omega arith in ap f z

from_rows : (last : TextBlock) (i : ℕ) (bs : List Bool) (ss : List ItemSpot) (behind : List Item) (b : AreContentsIn ss) (p : ℕ → List Row) → ArePlacedAfter last bs ss behind
    → Shifted i p (later_rows ss behind b) → rows_at p (slots_from i bs ss behind) ≡ rows_from (length bs) (full_lines (past_break (placed_items ss behind)))
from_rows last i bs [] behind b p h e = placed_rows p (rows_from (length bs) (full_lines (past_break behind)))
from_rows last i bs (s ∷ ss) behind b p h e =
    let ys : List Item = s.before in
    let xs : List Item = past_break ys in
    let cs : List Bool = open_behind_part bs xs in
    let tail : List Item = placed_items ss behind in
    let rest : List Item = items_round s.block s.content ++ tail in
    spot_rows p i bs xs s.block (end_behind ss behind) (slots_from (suc i) cs ss behind) (block_rows s.block s.content b.0 (marks_of xs) tail)
    (rows_from (length cs) (full_lines (past_break tail))) (first_of i p (later_rows (s ∷ ss) behind b) e)
    (from_rows s.block (suc i) cs ss behind b.1 p h.2 (others_of i p (later_rows (s ∷ ss) behind b) e))
    ∙ sym (spot_is bs xs s tail b.0 h.1 (line_behind s.block cs ss behind h.2))
    ∙ ap (λ (zs : List Item). rows_from (length bs) (full_lines zs)) (sym (past_join last s.block bs ys rest h.0))

pub slots_rows : (ss : List ItemSpot) (behind : List Item) (b : AreContentsIn ss) → ArePlaced ss behind
    → rows_at (page_rows ss behind b) (page_slots ss behind) ≡ rows_from 0 (full_lines (placed_items ss behind))
slots_rows [] behind b h = absurd h
slots_rows (s ∷ ss) behind b h =
    let xs : List Item = s.before in
    let cs : List Bool = open_behind_part [] xs in
    let tail : List Item = placed_items ss behind in
    let p : ℕ → List Row = page_rows (s ∷ ss) behind b in
    spot_rows p 0 [] xs s.block (end_behind ss behind) (slots_from 1 cs ss behind) (block_rows s.block s.content b.0 (marks_of xs) tail)
    (rows_from (length cs) (full_lines (past_break tail))) refl
    (from_rows s.block 1 cs ss behind b.1 p h.1 (others_of 0 p p (from_none p)))
    ∙ sym (spot_is [] xs s tail b.0 h.0 (line_behind s.block cs ss behind h.1))

-- ---- and each is at its place

-- the block with this number
abbrev pub trees_by : List ItemSpot → ℕ → ItemTree
trees_by [] i = block_tree a_paragraph []
trees_by (s ∷ ss) zero = tree_round s.block s.content
trees_by (s ∷ ss) (suc i) = trees_by ss i

rows_at_places : (rs : List Row) (ss : List Slot) (p : ℕ → List Row) (t : ℕ → ItemTree) → AreAt ss p t → AreAt (rows_slots rs ++ ss) p t
rows_at_places [] ss p t h = h
rows_at_places (r ∷ rs) ss p t h = rows_at_places rs ss p t h

rows_alone : (rs : List Row) (p : ℕ → List Row) (t : ℕ → ItemTree) → AreAt (rows_slots rs) p t
rows_alone [] p t = tt
rows_alone (r ∷ rs) p t = rows_alone rs p t

spot_at : (s : ItemSpot) (b : AreItemsOf s.block s.content) (i : ℕ) (bs : List Bool) (xs tail end : List Item) (rest : List Slot) (p : ℕ → List Row) (t : ℕ → ItemTree)
    → end_of tail ≡ end → p i ≡ block_rows s.block s.content b (marks_of xs) tail → t i ≡ tree_round s.block s.content → AreAt rest p t
    → AreAt (spot_slots i bs xs s.block end rest) p t
spot_at s b i bs xs tail end rest p t is e f h =
    rows_at_places (rows_of_part bs xs) (slot_of s.block i (marks_of xs) end ∷ rest) p t
    (subst (λ end. AreAt (slot_of s.block i (marks_of xs) end ∷ rest) p t) is (block_at s.block s.content b i (marks_of xs) tail rest p t e f h))

from_at : (last : TextBlock) (i : ℕ) (bs : List Bool) (ss : List ItemSpot) (behind : List Item) (b : AreContentsIn ss) (p : ℕ → List Row) (t : ℕ → ItemTree)
    → ArePlacedAfter last bs ss behind → Shifted i p (later_rows ss behind b) → Shifted i t (trees_by ss) → AreAt (slots_from i bs ss behind) p t
from_at last i bs [] behind b p t h e f = rows_alone (rows_from (length bs) (full_lines (past_break behind))) p t
from_at last i bs (s ∷ ss) behind b p t h e f =
    let xs : List Item = past_break s.before in
    let cs : List Bool = open_behind_part bs xs in
    spot_at s b.0 i bs xs (placed_items ss behind) (end_behind ss behind) (slots_from (suc i) cs ss behind) p t (end_is s.block cs ss behind h.2)
    (first_of i p (later_rows (s ∷ ss) behind b) e) (first_of i t (trees_by (s ∷ ss)) f)
    (from_at s.block (suc i) cs ss behind b.1 p t h.2 (others_of i p (later_rows (s ∷ ss) behind b) e) (others_of i t (trees_by (s ∷ ss)) f))

pub slots_at : (ss : List ItemSpot) (behind : List Item) (b : AreContentsIn ss) (t : ℕ → ItemTree) → ((i : ℕ) → t i ≡ trees_by ss i) → ArePlaced ss behind
    → AreAt (page_slots ss behind) (page_rows ss behind b) t
slots_at [] behind b t f h = absurd h
slots_at (s ∷ ss) behind b t f h =
    let xs : List Item = s.before in
    let cs : List Bool = open_behind_part [] xs in
    let p : ℕ → List Row = page_rows (s ∷ ss) behind b in
    spot_at s b.0 0 [] xs (placed_items ss behind) (end_behind ss behind) (slots_from 1 cs ss behind) p t (end_is s.block cs ss behind h.1) refl (f 0)
    (from_at s.block 1 cs ss behind b.1 p t h.1 (others_of 0 p p (from_none p)) (λ j. let z : 1 + j ≡ suc j = omega arith in ap t z ∙ f (suc j)))
