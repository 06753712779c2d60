-- A page whose paragraphs and headings are in the body is one with blocks anywhere.
use Rattle.std.proofs.Common.{arith, ◌≡◌, ℕ, Bool, List, [], ◌∷◌, length, refl, sym, ap, ◌∙◌, subst, inl, inr}
use Rattle.wt_span.specs.Items.{Item}
use Rattle.wt_lines.specs.Kinds.{kind_of_signs}
use Rattle.wt_lines.specs.Lines.{empty_end, full_lines}
use Rattle.wt_page.specs.Rows.{Row, rows}
use Rattle.wt_expand.specs.PageItems.{page_items}
use Rattle.wt_part_laws.specs.Slots.{AllTrue}
use Rattle.wt_text_edit_laws.specs.Paragraphs.{IsParagraph}
use Rattle.wt_text_edit_laws.specs.ParagraphBetween.{written_rows, tables_behind, rows_of_lines, AreClosed, before_marks, EndApart}
use Rattle.wt_text_edit_laws.specs.TextBlocks.{TextBlock, a_paragraph, a_heading, IsBlock, LeadsTo, EndsBlock, BeginsBetween}
use Rattle.wt_text_edit_laws.specs.BlockSpots.{BlockSpot, IsBlockSpot, AreFurtherBlocks, AreBlockSpots}
use Rattle.wt_text_edit_laws.proofs.Prose.ProseReading.{break}
use Rattle.wt_text_edit_laws.proofs.Prose.ProseLines.{blank_row}
use Rattle.wt_text_edit_laws.proofs.Paragraphs.Joining.{lines_join}
use Rattle.wt_called_edit_laws.specs.AnyBlocks.{open_behind_part, EndsFor, StaysText, IsTextRead, IsSpotAt, past_break, BeginsAfter, EndsAfter, AreSpotsAfter, AreParts, AreSpots}
use Rattle.wt_called_edit_laws.proofs.Cells.Cells.{typed_stays_text}
use Rattle.wt_called_edit_laws.proofs.Cells.SpotSlots.{open_size}
use Rattle.wt_text_edit_laws.proofs.Blocks.BlocksUngrouped.{spots_ungrouped}

-- ---- no table is open

none_by : (bs : List Bool) → length bs ≡ 0 → bs ≡ []
none_by [] e = refl
none_by (b ∷ bs) e = absurd (omega (arith, e))

pub none_open : (xs : List Item) → AreClosed (before_marks xs) → open_behind_part [] xs ≡ []
none_open xs h =
    let ls : List (List Item) = full_lines (before_marks xs) in
    none_by (open_behind_part [] xs) (sym (open_size [] 0 ls refl) ∙ h.closed)

paragraph_stays : (q : List ℕ) → IsParagraph q → StaysText a_paragraph 0 q
paragraph_stays q (inl t) = typed_stays_text 0 q t
paragraph_stays q (inr w) = w.are_lines

block_stays : (k : TextBlock) (q : List ℕ) → IsBlock k q → StaysText k 0 q
block_stays a_paragraph q h = paragraph_stays q h
block_stays (a_heading s) q h = tt

spot_in_body : (s : BlockSpot) (xs : List Item) → IsBlockSpot s → AreClosed (before_marks xs) → EndsFor s.block (rows_of_lines (before_marks xs)) → IsSpotAt [] xs s
spot_in_body s xs h c e =
    let is : IsTextRead s = record { ended = h.ended; before_utf8 = h.before_utf8; block = h.block } in
    let none : [] ≡ open_behind_part [] xs = sym (none_open xs c) in (
      is,
      record { whole = inl c.whole; in_cells = subst AllTrue none tt; apart = e },
      subst (λ (bs : List Bool). StaysText s.block (length bs) s.text) none (block_stays s.block s.text h.block),
    )

-- ---- the first part

first_closed : (k : TextBlock) (xs : List Item) → LeadsTo k xs → AreClosed (before_marks xs)
first_closed a_paragraph xs h = h.are_closed
first_closed (a_heading s) xs h = h

first_ends : (k : TextBlock) (xs : List Item) → LeadsTo k xs → EndsFor k (rows_of_lines (before_marks xs))
first_ends a_paragraph xs h = h.apart
first_ends (a_heading s) xs h = tt

-- ---- a part behind a line break

past_whole : (ys : List Item) → empty_end (break ∷ ys) ≡ [] ∷ [] → empty_end ys ≡ [] ∷ []
past_whole [] e = refl
past_whole (y ∷ ys) e = e

past_lines : (ys : List Item) → full_lines (break ∷ ys) ≡ (break ∷ []) ∷ full_lines ys
past_lines ys = lines_join (break ∷ []) ys refl

past_closed : (ys : List Item) → AreClosed (break ∷ ys) → AreClosed ys
unfolding kind_of_signs
past_closed ys h = record { whole = past_whole ys h.whole; closed = ap (tables_behind 0) (sym (past_lines ys)) ∙ h.closed }

past_apart : (r : Row) (rs : List Row) → EndApart (r ∷ rs) → EndApart rs
past_apart r [] h = tt
past_apart r (s ∷ rs) h = h

past_ends : (k : TextBlock) (ys : List Item) → EndsFor k (rows_of_lines (break ∷ ys)) → EndsFor k (rows_of_lines ys)
unfolding kind_of_signs
past_ends a_paragraph ys h =
    let rs : List Row = rows_of_lines ys in
    past_apart blank_row rs (subst (λ ls. EndApart (written_rows 0 ls)) (past_lines ys) h)
past_ends (a_heading s) ys h = tt

later_closed : (last next : TextBlock) (ys : List Item) → BeginsBetween last next ys → LeadsTo next ys → AreClosed (before_marks (past_break ys))
later_closed a_paragraph next [] b l = absurd b
later_closed a_paragraph next (y ∷ ys) b l = b.1
later_closed (a_heading s) next [] b l = absurd b
later_closed (a_heading s) next (y ∷ ys) b l =
    past_closed (before_marks ys) (subst (λ z. AreClosed (before_marks (z ∷ ys))) b (first_closed next (y ∷ ys) l))

later_ends : (last next : TextBlock) (ys : List Item) → BeginsBetween last next ys → LeadsTo next ys → EndsFor next (rows_of_lines (before_marks (past_break ys)))
later_ends a_paragraph next [] b l = absurd b
later_ends a_paragraph next (y ∷ ys) b l =
    past_ends next (before_marks ys) (subst (λ z. EndsFor next (rows_of_lines (before_marks (z ∷ ys)))) b.0 (first_ends next (y ∷ ys) l))
later_ends (a_heading s) next [] b l = absurd b
later_ends (a_heading s) next (y ∷ ys) b l =
    past_ends next (before_marks ys) (subst (λ z. EndsFor next (rows_of_lines (before_marks (z ∷ ys)))) b (first_ends next (y ∷ ys) l))

later_begins : (last next : TextBlock) (ys : List Item) → BeginsBetween last next ys → BeginsAfter last next [] ys
later_begins a_paragraph next [] b = absurd b
later_begins a_paragraph next (y ∷ ys) b = (b.0, b.2)
later_begins (a_heading s) next [] b = absurd b
later_begins (a_heading s) next (y ∷ ys) b = (b, tt)

-- ---- the end

pub last_ends : (last : TextBlock) (ys : List Item) → EndsBlock last ys → EndsAfter last 0 ys
unfolding rows
last_ends a_paragraph [] h = tt
last_ends a_paragraph (y ∷ ys) h = (h.0, h.1)
last_ends (a_heading s) ys h = h

-- ---- all parts

body_after : (last : TextBlock) (ss : List BlockSpot) (behind : List ℕ) → AreFurtherBlocks last ss behind → AreSpotsAfter last [] ss behind
body_after last [] behind h = (h.stands, h.utf8, last_ends last (page_items behind) h.ends)
body_after last (s ∷ ss) behind h =
    let ys : List Item = page_items s.before in
    let xs : List Item = past_break ys in
    let c : AreClosed (before_marks xs) = later_closed last s.block ys h.1 h.0.leads in (
      later_begins last s.block ys h.1,
      spot_in_body s xs h.0 c (later_ends last s.block ys h.1 h.0.leads),
      subst (λ (bs : List Bool). AreSpotsAfter s.block bs ss behind) (sym (none_open xs c)) (body_after s.block ss behind h.2),
    )

body_parts : (ss : List BlockSpot) (behind : List ℕ) → AreBlockSpots ss behind → AreParts ss behind
body_parts [] behind h = absurd h
body_parts (s ∷ ss) behind h =
    let xs : List Item = page_items s.before in
    let c : AreClosed (before_marks xs) = first_closed s.block xs h.0.leads in (
      spot_in_body s xs h.0 c (first_ends s.block xs h.0.leads),
      subst (λ (bs : List Bool). AreSpotsAfter s.block bs ss behind) (sym (none_open xs c)) (body_after s.block ss behind h.1),
    )

-- ---- the page

pub body_spots : (ss : List BlockSpot) (behind : List ℕ) → AreBlockSpots ss behind → AreSpots ss behind
body_spots [] behind h = absurd h
body_spots (s ∷ ss) behind h = record {
  parts = body_parts (s ∷ ss) behind h;
  whole = h.2;
  ungrouped = spots_ungrouped (s ∷ ss) behind h;
}
