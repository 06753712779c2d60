-- A page with blocks anywhere, as rows with places for the blocks among them.
use Rattle.std.proofs.Common.{arith, ◌≡◌, ◌<◌, ℕ, zero, suc, Bool, true, false, List, [], ◌∷◌, ◌++◌, length, map, refl, sym, ap, ap₂, ◌∙◌, subst, append-nil, append_assoc}
use Rattle.std.specs.Prelude.{replicate, if◌then◌else◌}
use Rattle.wt_span.specs.Items.{Item, sign}
use Rattle.wt_lines.specs.declared.kind.LineKind.{LineKind}
use Rattle.wt_lines.specs.declared.kind.LineKind.TheVariants as line
use Rattle.wt_lines.specs.declared.kind.TheConstants.{MOST_TABLES}
use Rattle.wt_lines.specs.Lines.{full_lines, content}
use Rattle.wt_blocks.specs.Paragraphs.{is_text}
use Rattle.wt_tables.specs.Extents.{behind}
use Rattle.wt_page.specs.Lines.{kind_at}
use Rattle.wt_page.specs.Rows.{Row, line_rows, unwritten_end, rows_from}
use Rattle.wt_part_laws.specs.Slots.{open_behind, Slot, a_row, a_paragraph as text_place, a_heading as heading_place, numbers_of, AllTrue, AreInCells, BeginsApart, AreApart, AreFew}
use Rattle.wt_part_laws.proofs.OpenKinds.{opens_few}
use Rattle.wt_part_laws.proofs.Parsed.{rows_slots, rows_join as slots_join}
use Rattle.wt_part_laws.proofs.Places.{no_numbers, row_numbers}
use Rattle.wt_text_edit_laws.specs.ParagraphBetween.{written_rows, tables_behind, before_marks, BeginApart}
use Rattle.wt_text_edit_laws.specs.TextBlocks.{TextBlock, a_paragraph, a_heading, FirstApart}
use Rattle.wt_text_edit_laws.proofs.Prose.ProseReading.{break}
use Rattle.wt_text_edit_laws.proofs.Paragraphs.Joining.{rows_join}
use Rattle.wt_text_edit_laws.proofs.Paragraphs.Marks.{marks_end}
use Rattle.wt_called_edit_laws.specs.AnyBlocks.{open_after, rows_of_part, open_behind_part, EndsFor, NextApart, past_break, BeginsAfter, EndsAfter}
use Rattle.wt_called_edit_laws.specs.ItemSpots.{ItemSpot, SameItems, ArePlacedAfter, ArePlaced}
use Rattle.wt_called_edit_laws.proofs.Cells.Cells.{end_of}
use Rattle.wt_called_edit_laws.proofs.Cells.PageSlots.{open_length, open_join, line_open, lines_in_cells}

-- ---- the slots

-- the marks at the end of a part
abbrev pub marks_of : List Item → List Item
marks_of xs = (marks_end xs).marks

abbrev pub slot_of : TextBlock → ℕ → List Item → List Item → Slot
slot_of a_paragraph n lead end = text_place n lead end
slot_of (a_heading s) n lead end = heading_place n lead end

-- the line break that ends a block, or nothing
abbrev pub end_behind : List ItemSpot → List Item → List Item
end_behind [] behind = end_of behind
end_behind (s ∷ ss) behind = break ∷ []

abbrev pub spot_slots : ℕ → List Bool → List Item → TextBlock → List Item → List Slot → List Slot
spot_slots i bs xs k end rest = rows_slots (rows_of_part bs xs) ++ slot_of k i (marks_of xs) end ∷ rest

-- behind a block at which these tables are open, with numbers from this on
abbrev pub slots_from : ℕ → List Bool → List ItemSpot → List Item → List Slot
slots_from i bs [] behind = rows_slots (rows_from (length bs) (full_lines (past_break behind)))
slots_from i bs (s ∷ ss) behind =
    spot_slots i bs (past_break s.before) s.block (end_behind ss behind)
    (slots_from (suc i) (open_behind_part bs (past_break s.before)) ss behind)

abbrev pub page_slots : List ItemSpot → List Item → List Slot
page_slots [] behind = []
page_slots (s ∷ ss) behind =
    spot_slots 0 [] s.before s.block (end_behind ss behind) (slots_from 1 (open_behind_part [] s.before) ss behind)

-- ---- they hang on no text

same_behind : (ss rs : List ItemSpot) (behind : List Item) → SameItems ss rs → end_behind ss behind ≡ end_behind rs behind
same_behind [] [] behind e = refl
same_behind [] (r ∷ rs) behind e = absurd e
same_behind (s ∷ ss) [] behind e = absurd e
same_behind (s ∷ ss) (r ∷ rs) behind e = refl

abbrev spot_from : ℕ → List Bool → (List Item → List Item) → List Item → TextBlock → List Item → (List Bool → List Slot) → List Slot
spot_from i bs f before k end rest = spot_slots i bs (f before) k end (rest (open_behind_part bs (f before)))

same_from : (i : ℕ) (bs : List Bool) (ss rs : List ItemSpot) (behind : List Item) → SameItems ss rs → slots_from i bs ss behind ≡ slots_from i bs rs behind
same_from i bs [] [] behind e = refl
same_from i bs [] (r ∷ rs) behind e = absurd e
same_from i bs (s ∷ ss) [] behind e = absurd e
same_from i bs (s ∷ ss) (r ∷ rs) behind e =
    ap (λ end. spot_from i bs past_break s.before s.block end (λ cs. slots_from (suc i) cs ss behind)) (same_behind ss rs behind e.2)
    ∙ ap (spot_slots i bs (past_break s.before) s.block (end_behind rs behind))
    (same_from (suc i) (open_behind_part bs (past_break s.before)) ss rs behind e.2)
    ∙ sym (ap₂ (λ b k. spot_from i bs past_break b k (end_behind rs behind) (λ cs. slots_from (suc i) cs rs behind)) e.0 e.1)

pub same_slots : (ss rs : List ItemSpot) (behind : List Item) → SameItems ss rs → page_slots ss behind ≡ page_slots rs behind
same_slots [] [] behind e = refl
same_slots [] (r ∷ rs) behind e = absurd e
same_slots (s ∷ ss) [] behind e = absurd e
same_slots (s ∷ ss) (r ∷ rs) behind e =
    ap (λ end. spot_from 0 [] (λ xs. xs) s.before s.block end (λ cs. slots_from 1 cs ss behind)) (same_behind ss rs behind e.2)
    ∙ ap (spot_slots 0 [] s.before s.block (end_behind rs behind)) (same_from 1 (open_behind_part [] s.before) ss rs behind e.2)
    ∙ sym (ap₂ (λ b k. spot_from 0 [] (λ xs. xs) b k (end_behind rs behind) (λ cs. slots_from 1 cs rs behind)) e.0 e.1)

-- ---- their numbers

abbrev pub numbered_from : ℕ → List ItemSpot → List ℕ
numbered_from i [] = []
numbered_from i (s ∷ ss) = i ∷ numbered_from (suc i) ss

slot_number : (k : TextBlock) (i : ℕ) (a b : List Item) (rest : List Slot) → numbers_of (slot_of k i a b ∷ rest) ≡ i ∷ numbers_of rest
slot_number a_paragraph i a b rest = refl
slot_number (a_heading s) i a b rest = refl

spot_numbers : (i : ℕ) (bs : List Bool) (xs : List Item) (k : TextBlock) (end : List Item) (rest : List Slot)
    → numbers_of (spot_slots i bs xs k end rest) ≡ i ∷ numbers_of rest
spot_numbers i bs xs k end rest =
    no_numbers (rows_of_part bs xs) (slot_of k i (marks_of xs) end ∷ rest) ∙ slot_number k i (marks_of xs) end rest

from_numbers : (i : ℕ) (bs : List Bool) (ss : List ItemSpot) (behind : List Item) → numbers_of (slots_from i bs ss behind) ≡ numbered_from i ss
from_numbers i bs [] behind = row_numbers (rows_from (length bs) (full_lines (past_break behind)))
from_numbers i bs (s ∷ ss) behind =
    let xs : List Item = past_break s.before in
    let cs : List Bool = open_behind_part bs xs in
    spot_numbers i bs xs s.block (end_behind ss behind) (slots_from (suc i) cs ss behind) ∙ ap (λ ns. i ∷ ns) (from_numbers (suc i) cs ss behind)

pub slots_numbers : (ss : List ItemSpot) (behind : List Item) → numbers_of (page_slots ss behind) ≡ numbered_from 0 ss
slots_numbers [] behind = refl
slots_numbers (s ∷ ss) behind =
    let xs : List Item = s.before in
    let cs : List Bool = open_behind_part [] xs in
    spot_numbers 0 [] xs s.block (end_behind ss behind) (slots_from 1 cs ss behind) ∙ ap (λ (ns : List ℕ). 0 ∷ ns) (from_numbers 1 cs ss behind)

-- ---- they are in cells

pub open_size : (bs : List Bool) (n : ℕ) (ls : List (List Item)) → length bs ≡ n → tables_behind n ls ≡ length (open_after bs (written_rows n ls))
open_size bs n [] e = sym e
open_size bs n (l ∷ ls) e =
    let k : LineKind = kind_at n l in
    let rest : List Row = written_rows (behind n k) ls in
    open_size (open_behind bs k) (behind n k) ls (open_length bs k ∙ ap (λ (i : ℕ). behind i k) e)
    ∙ ap length (sym (open_join bs (line_rows k l) rest ∙ ap (λ cs. open_after cs rest) (line_open bs k l)))

ends_in_cells : (bs : List Bool) → AreInCells bs (rows_slots (replicate (length bs) unwritten_end))
ends_in_cells [] = refl
ends_in_cells (b ∷ bs) = (λ z. omega arith, λ z. omega arith, ends_in_cells bs)

-- rows of lines up to the page's end
rest_rows : (n : ℕ) (ls : List (List Item)) → rows_from n ls ≡ written_rows n ls ++ replicate (tables_behind n ls) unwritten_end
rest_rows n ls = ap (rows_from n) (sym (append-nil ls)) ∙ rows_join n ls []

rest_slots : (bs : List Bool) (ls : List (List Item))
    → rows_slots (rows_from (length bs) ls)
    ≡ rows_slots (written_rows (length bs) ls) ++ rows_slots (replicate (length (open_after bs (written_rows (length bs) ls))) unwritten_end)
rest_slots bs ls =
    let n : ℕ = length bs in
    ap rows_slots (rest_rows n ls ∙ ap (λ (m : ℕ). written_rows n ls ++ replicate m unwritten_end) (open_size bs n ls refl))
    ∙ slots_join (written_rows n ls) (replicate (length (open_after bs (written_rows n ls))) unwritten_end)

rest_in_cells : (bs : List Bool) (ls : List (List Item)) → AreInCells bs (rows_slots (rows_from (length bs) ls))
rest_in_cells bs ls =
    let cs : List Bool = open_after bs (written_rows (length bs) ls) in
    subst (AreInCells bs) (sym (rest_slots bs ls)) (lines_in_cells bs (length bs) ls (rows_slots (replicate (length cs) unwritten_end)) refl (ends_in_cells cs))

slot_in_cells : (k : TextBlock) (i : ℕ) (bs : List Bool) (a b : List Item) (rest : List Slot) → AllTrue bs → AreInCells bs rest → AreInCells bs (slot_of k i a b ∷ rest)
slot_in_cells a_paragraph i bs a b rest t h = (t, h)
slot_in_cells (a_heading s) i bs a b rest t h = (t, h)

spot_in_cells : (i : ℕ) (bs : List Bool) (xs : List Item) (k : TextBlock) (end : List Item) (rest : List Slot) → AllTrue (open_behind_part bs xs)
    → AreInCells (open_behind_part bs xs) rest → AreInCells bs (spot_slots i bs xs k end rest)
spot_in_cells i bs xs k end rest t h =
    lines_in_cells bs (length bs) (full_lines (before_marks xs)) (slot_of k i (marks_of xs) end ∷ rest) refl
    (slot_in_cells k i (open_behind_part bs xs) (marks_of xs) end rest t h)

from_in_cells : (last : TextBlock) (i : ℕ) (bs : List Bool) (ss : List ItemSpot) (behind : List Item) → ArePlacedAfter last bs ss behind
    → AreInCells bs (slots_from i bs ss behind)
from_in_cells last i bs [] behind h = rest_in_cells bs (full_lines (past_break behind))
from_in_cells last i bs (s ∷ ss) behind h =
    let xs : List Item = past_break s.before in
    let cs : List Bool = open_behind_part bs xs in
    spot_in_cells i bs xs s.block (end_behind ss behind) (slots_from (suc i) cs ss behind) h.1.1.in_cells (from_in_cells s.block (suc i) cs ss behind h.2)

pub slots_in_cells : (ss : List ItemSpot) (behind : List Item) → ArePlaced ss behind → AreInCells [] (page_slots ss behind)
slots_in_cells [] behind h = absurd h
slots_in_cells (s ∷ ss) behind h =
    let xs : List Item = s.before in
    let cs : List Bool = open_behind_part [] xs in
    spot_in_cells 0 [] xs s.block (end_behind ss behind) (slots_from 1 cs ss behind) h.0.1.in_cells (from_in_cells s.block 1 cs ss behind h.1)

-- ---- no more tables are open than may be

few_first : (bs : List Bool) (k : LineKind) (r : Row) (ss : List Slot) → r.kind ≡ k → (k ≡ line.TableOpen → length bs < MOST_TABLES)
    → AreFew MOST_TABLES (open_behind bs k) ss → AreFew MOST_TABLES bs (a_row r ∷ ss)
few_first bs k r ss e f h = (λ z. f (sym e ∙ z), subst (λ j. AreFew MOST_TABLES (open_behind bs j) ss) (sym e) h)

few_text : (bs : List Bool) (s : Row) (ss : List Slot) → s.kind ≡ line.Text → AreFew MOST_TABLES bs ss → AreFew MOST_TABLES bs (a_row s ∷ ss)
few_text bs s ss e h =
    few_first bs line.Text s ss e (λ z. let y : line.Text ≡ line.TableOpen = z in absurd (cc)) h

few_either : (v : Bool) (bs : List Bool) (k : LineKind) (r q s : Row) (ss : List Slot) → r.kind ≡ k → q.kind ≡ k → s.kind ≡ line.Text
    → (k ≡ line.TableOpen → length bs < MOST_TABLES) → AreFew MOST_TABLES (open_behind bs k) ss
    → AreFew MOST_TABLES bs (rows_slots (if v then r ∷ [] else q ∷ s ∷ []) ++ ss)
few_either true bs k r q s ss d e t f h = few_first bs k r ss d f h
few_either false bs k r q s ss d e t f h = few_first bs k q (a_row s ∷ ss) e f (few_text (open_behind bs k) s ss t h)

line_few : (bs : List Bool) (k : LineKind) (l : List Item) (ss : List Slot) → (k ≡ line.TableOpen → length bs < MOST_TABLES)
    → AreFew MOST_TABLES (open_behind bs k) ss → AreFew MOST_TABLES bs (rows_slots (line_rows k l) ++ ss)
line_few bs line.Blank l ss f h = (f, h)
line_few bs line.TableOpen l ss f h = (f, h)
line_few bs line.TableEnd l ss f h = few_either _ bs _ _ _ _ ss refl refl refl f h
line_few bs line.Caption l ss f h = (f, h)
line_few bs line.Row l ss f h = (f, h)
line_few bs line.Cell l ss f h = (f, h)
line_few bs line.Header l ss f h = (f, h)
line_few bs line.Heading l ss f h = (f, h)
line_few bs line.Rule l ss f h = few_either _ bs _ _ _ _ ss refl refl refl f h
line_few bs line.List l ss f h = (f, h)
line_few bs line.Pre l ss f h = (f, h)
line_few bs line.Text l ss f h = (f, h)

lines_few : (bs : List Bool) (n : ℕ) (ls : List (List Item)) (ss : List Slot) → length bs ≡ n → AreFew MOST_TABLES (open_after bs (written_rows n ls)) ss
    → AreFew MOST_TABLES bs (rows_slots (written_rows n ls) ++ ss)
lines_few bs n [] ss e h = h
lines_few bs n (l ∷ ls) ss e h =
    let k : LineKind = kind_at n l in
    let own : List Row = line_rows k l in
    let rest : List Row = written_rows (behind n k) ls in
    let size : length (open_behind bs k) ≡ behind n k = open_length bs k ∙ ap (λ (i : ℕ). behind i k) e in
    let more : AreFew MOST_TABLES (open_behind bs k) (rows_slots rest ++ ss) =
    lines_few (open_behind bs k) (behind n k) ls ss size
    (subst (λ cs. AreFew MOST_TABLES cs ss) (open_join bs own rest ∙ ap (λ cs. open_after cs rest) (line_open bs k l)) h) in
    subst (AreFew MOST_TABLES bs) (sym (ap (λ xs. xs ++ ss) (slots_join own rest) ∙ append_assoc (rows_slots own) (rows_slots rest) ss))
    (line_few bs k l (rows_slots rest ++ ss) (λ z. subst (λ (i : ℕ). i < MOST_TABLES) (sym e) (opens_few n (map sign (content l)) z)) more)

ends_few : (bs : List Bool) → AreFew MOST_TABLES bs (rows_slots (replicate (length bs) unwritten_end))
ends_few [] = tt
ends_few (b ∷ bs) = (λ z. let y : line.TableEnd ≡ line.TableOpen = z in absurd (cc), ends_few bs)

rest_few : (bs : List Bool) (ls : List (List Item)) → AreFew MOST_TABLES bs (rows_slots (rows_from (length bs) ls))
rest_few bs ls =
    let cs : List Bool = open_after bs (written_rows (length bs) ls) in
    subst (AreFew MOST_TABLES bs) (sym (rest_slots bs ls)) (lines_few bs (length bs) ls (rows_slots (replicate (length cs) unwritten_end)) refl (ends_few cs))

slot_few : (k : TextBlock) (i : ℕ) (bs : List Bool) (a b : List Item) (rest : List Slot) → AreFew MOST_TABLES bs rest → AreFew MOST_TABLES bs (slot_of k i a b ∷ rest)
slot_few a_paragraph i bs a b rest h = h
slot_few (a_heading s) i bs a b rest h = h

spot_few : (i : ℕ) (bs : List Bool) (xs : List Item) (k : TextBlock) (end : List Item) (rest : List Slot) → AreFew MOST_TABLES (open_behind_part bs xs) rest
    → AreFew MOST_TABLES bs (spot_slots i bs xs k end rest)
spot_few i bs xs k end rest h =
    lines_few bs (length bs) (full_lines (before_marks xs)) (slot_of k i (marks_of xs) end ∷ rest) refl
    (slot_few k i (open_behind_part bs xs) (marks_of xs) end rest h)

from_few : (i : ℕ) (bs : List Bool) (ss : List ItemSpot) (behind : List Item) → AreFew MOST_TABLES bs (slots_from i bs ss behind)
from_few i bs [] behind = rest_few bs (full_lines (past_break behind))
from_few i bs (s ∷ ss) behind =
    let xs : List Item = past_break s.before in
    let cs : List Bool = open_behind_part bs xs in
    spot_few i bs xs s.block (end_behind ss behind) (slots_from (suc i) cs ss behind) (from_few (suc i) cs ss behind)

pub slots_few : (ss : List ItemSpot) (behind : List Item) → AreFew MOST_TABLES [] (page_slots ss behind)
slots_few [] behind = tt
slots_few (s ∷ ss) behind =
    let xs : List Item = s.before in
    let cs : List Bool = open_behind_part [] xs in
    spot_few 0 [] xs s.block (end_behind ss behind) (slots_from 1 cs ss behind) (from_few 1 cs ss behind)

-- ---- no text is beside a paragraph

not_text : (k : LineKind) → is_text k ≡ false → k ≡ line.Text → ⊥
not_text k e f = let y : is_text line.Text ≡ false = ap is_text (sym f) ∙ e in absurd (cc)

-- the first of what follows a row
abbrev Follows : Row → List Slot → Type 0
Follows r [] = Unit {0}
Follows r (a_row s ∷ ss) = Unit {0}
Follows r (text_place n a b ∷ ss) = r.kind ≡ line.Text → ⊥
Follows r (heading_place n a b ∷ ss) = Unit {0}

row_apart : (r : Row) (ss : List Slot) → Follows r ss → AreApart ss → AreApart (a_row r ∷ ss)
row_apart r [] f h = tt
row_apart r (a_row s ∷ ss) f h = h
row_apart r (text_place n a b ∷ ss) f h = (f, h)
row_apart r (heading_place n a b ∷ ss) f h = h

-- and of what follows the last of some rows
abbrev FollowAll : List Row → List Slot → Type 0
FollowAll [] ss = Unit {0}
FollowAll (r ∷ []) ss = Follows r ss
FollowAll (r ∷ s ∷ rs) ss = FollowAll (s ∷ rs) ss

rows_apart : (rs : List Row) (ss : List Slot) → FollowAll rs ss → AreApart ss → AreApart (rows_slots rs ++ ss)
rows_apart [] ss f h = h
rows_apart (r ∷ []) ss f h = row_apart r ss f h
rows_apart (r ∷ s ∷ rs) ss f h = rows_apart (s ∷ rs) ss f h

follow_none : (rs : List Row) → FollowAll rs []
follow_none [] = tt
follow_none (r ∷ []) = tt
follow_none (r ∷ s ∷ rs) = follow_none (s ∷ rs)

follow_slot : (k : TextBlock) (i : ℕ) (a b : List Item) (rest : List Slot) (rs : List Row) → EndsFor k rs → FollowAll rs (slot_of k i a b ∷ rest)
follow_slot k i a b rest [] e = tt
follow_slot a_paragraph i a b rest (r ∷ []) e = not_text r.kind e
follow_slot a_paragraph i a b rest (r ∷ s ∷ rs) e = follow_slot a_paragraph i a b rest (s ∷ rs) e
follow_slot (a_heading j) i a b rest (r ∷ []) e = tt
follow_slot (a_heading j) i a b rest (r ∷ s ∷ rs) e = follow_slot (a_heading j) i a b rest (s ∷ rs) e

-- what follows a block
abbrev FollowsBlock : TextBlock → List Slot → Type 0
FollowsBlock a_paragraph ss = BeginsApart ss
FollowsBlock (a_heading s) ss = Unit {0}

slot_apart : (k : TextBlock) (i : ℕ) (a b : List Item) (rest : List Slot) → FollowsBlock k rest → AreApart rest → AreApart (slot_of k i a b ∷ rest)
slot_apart a_paragraph i a b rest f h = (f, h)
slot_apart (a_heading s) i a b rest f h = h

spot_apart : (i : ℕ) (bs : List Bool) (xs : List Item) (k : TextBlock) (end : List Item) (rest : List Slot) → EndsFor k (rows_of_part bs xs) → FollowsBlock k rest
    → AreApart rest → AreApart (spot_slots i bs xs k end rest)
spot_apart i bs xs k end rest e f h =
    rows_apart (rows_of_part bs xs) (slot_of k i (marks_of xs) end ∷ rest) (follow_slot k i (marks_of xs) end rest (rows_of_part bs xs) e)
    (slot_apart k i (marks_of xs) end rest f h)

begins_by : (next : TextBlock) (rs : List Row) (i : ℕ) (a b : List Item) (rest : List Slot) → FirstApart next rs → BeginsApart (rows_slots rs ++ slot_of next i a b ∷ rest)
begins_by a_paragraph [] i a b rest f = absurd f
begins_by (a_heading s) [] i a b rest f = tt
begins_by a_paragraph (r ∷ rs) i a b rest f = not_text r.kind f
begins_by (a_heading s) (r ∷ rs) i a b rest f = not_text r.kind f

begins_rows : (rs : List Row) → BeginApart rs → BeginsApart (rows_slots rs)
begins_rows [] h = tt
begins_rows (r ∷ rs) h = not_text r.kind h

begins_ends : (n : ℕ) → BeginsApart (rows_slots (replicate n unwritten_end))
begins_ends zero = tt
begins_ends (suc n) = λ z. let y : line.TableEnd ≡ line.Text = z in absurd (cc)

begins_end : (n : ℕ) (ys : List Item) → EndsAfter a_paragraph n ys → BeginsApart (rows_slots (rows_from n (full_lines (past_break ys))))
begins_end n [] h = begins_ends n
begins_end n (y ∷ ys) h = begins_rows (rows_from n (full_lines ys)) h.1

next_rows : (last next : TextBlock) (bs : List Bool) (ys : List Item) → BeginsAfter last next bs ys → NextApart last next (rows_of_part bs (past_break ys))
next_rows last next bs [] h = absurd h
next_rows last next bs (y ∷ ys) h = h.1

follows_from : (last : TextBlock) (i : ℕ) (bs : List Bool) (ss : List ItemSpot) (behind : List Item) → ArePlacedAfter last bs ss behind
    → FollowsBlock last (slots_from i bs ss behind)
follows_from (a_heading j) i bs ss behind h = tt
follows_from a_paragraph i bs [] behind h = begins_end (length bs) behind h
follows_from a_paragraph i bs (s ∷ ss) behind h =
    let xs : List Item = past_break s.before in
    begins_by s.block (rows_of_part bs xs) i (marks_of xs) (end_behind ss behind) (slots_from (suc i) (open_behind_part bs xs) ss behind)
    (next_rows a_paragraph s.block bs s.before h.0)

from_apart : (last : TextBlock) (i : ℕ) (bs : List Bool) (ss : List ItemSpot) (behind : List Item) → ArePlacedAfter last bs ss behind
    → AreApart (slots_from i bs ss behind)
from_apart last i bs [] behind h =
    let rs : List Row = rows_from (length bs) (full_lines (past_break behind)) in
    subst AreApart (append-nil (rows_slots rs)) (rows_apart rs [] (follow_none rs) tt)
from_apart last i bs (s ∷ ss) behind h =
    let xs : List Item = past_break s.before in
    let cs : List Bool = open_behind_part bs xs in
    spot_apart i bs xs s.block (end_behind ss behind) (slots_from (suc i) cs ss behind) h.1.1.apart (follows_from s.block (suc i) cs ss behind h.2)
    (from_apart s.block (suc i) cs ss behind h.2)

pub slots_apart : (ss : List ItemSpot) (behind : List Item) → ArePlaced ss behind → AreApart (page_slots ss behind)
slots_apart [] behind h = absurd h
slots_apart (s ∷ ss) behind h =
    let xs : List Item = s.before in
    let cs : List Bool = open_behind_part [] xs in
    spot_apart 0 [] xs s.block (end_behind ss behind) (slots_from 1 cs ss behind) h.0.1.apart (follows_from s.block 1 cs ss behind h.1)
    (from_apart s.block 1 cs ss behind h.1)
