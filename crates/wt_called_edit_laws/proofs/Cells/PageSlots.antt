-- The rows of lines of a page, as rows among which blocks may be in cells.
use Rattle.std.proofs.Common.{arith, ◌≡◌, ◌<◌, ◌-◌, ℕ, zero, suc, Bool, true, false, List, [], ◌∷◌, ◌++◌, length, map, refl, sym, ap, ◌∙◌, subst, append_assoc}
use Rattle.std.specs.Prelude.{if◌then◌else◌}
use Rattle.wt_span.specs.Items.{Item, sign}
use Rattle.wt_lines.specs.declared.kind.LineKind.{LineKind}
use Rattle.wt_lines.specs.declared.kind.LineKind.TheVariants as line
use Rattle.wt_lines.specs.Lines.{content}
use Rattle.wt_tables.specs.Extents.{behind}
use Rattle.wt_tables.specs.Parts.{begins_part}
use Rattle.wt_page.specs.Lines.{kind_at}
use Rattle.wt_page.specs.Rows.{Row, line_rows}
use Rattle.wt_part_laws.specs.Slots.{top_is, past_top, open_behind, Slot, a_row, AreInCells}
use Rattle.wt_part_laws.proofs.OpenKinds.{begins_none, ends_none}
use Rattle.wt_part_laws.proofs.Parsed.{rows_slots, rows_join}
use Rattle.wt_text_edit_laws.specs.ParagraphBetween.{written_rows}
use Rattle.wt_called_edit_laws.specs.AnyBlocks.{open_after}

-- ---- how many tables are open

top_length : (b : Bool) (bs : List Bool) → length (top_is b bs) ≡ length bs
top_length b [] = refl
top_length b (c ∷ cs) = refl

past_length : (bs : List Bool) → length (past_top bs) ≡ length bs - 1
past_length [] = omega arith
past_length (c ∷ cs) = omega arith

pub open_length : (bs : List Bool) (k : LineKind) → length (open_behind bs k) ≡ behind (length bs) k
open_length bs line.Blank = refl
open_length bs line.TableOpen = refl
open_length bs line.TableEnd = past_length bs
open_length bs line.Caption = top_length true bs
open_length bs line.Row = top_length false bs
open_length bs line.Cell = top_length true bs
open_length bs line.Header = top_length true bs
open_length bs line.Heading = refl
open_length bs line.Rule = refl
open_length bs line.List = refl
open_length bs line.Pre = refl
open_length bs line.Text = refl

-- ---- the rows of a line

pub part_open : (n : ℕ) (l : List Item) → begins_part (kind_at n l) ≡ true → 0 < n
part_open zero l e = let f = begins_none (map sign (content l)) in absurd (cc)
part_open (suc n) l e = omega arith

pub end_open : (n : ℕ) (l : List Item) → kind_at n l ≡ line.TableEnd → 0 < n
end_open zero l e = absurd (ends_none (map sign (content l)) e)
end_open (suc n) l e = omega arith

text_behind : (bs : List Bool) (s : Row) (ss : List Slot) → s.kind ≡ line.Text → AreInCells bs ss → AreInCells bs (a_row s ∷ ss)
text_behind bs s ss e h = (
  λ z. let y : line.Text ≡ line.TableEnd = sym e ∙ z in absurd (cc),
  λ z. let y : begins_part line.Text ≡ true = ap begins_part (sym e) ∙ z in absurd (cc),
  subst (λ k. AreInCells (open_behind bs k) ss) (sym e) h,
)

row_first : (bs : List Bool) (k : LineKind) (r : Row) (ss : List Slot) → r.kind ≡ k → (k ≡ line.TableEnd → 0 < length bs) → (begins_part k ≡ true → 0 < length bs)
    → AreInCells (open_behind bs k) ss → AreInCells bs (a_row r ∷ ss)
row_first bs k r ss e f g h =
    (λ z. f (sym e ∙ z), λ z. g (ap begins_part (sym e) ∙ z), subst (λ j. AreInCells (open_behind bs j) ss) (sym e) h)

either : (v : Bool) (bs : List Bool) (k : LineKind) (r q s : Row) (ss : List Slot) → r.kind ≡ k → q.kind ≡ k → s.kind ≡ line.Text
    → (k ≡ line.TableEnd → 0 < length bs) → (begins_part k ≡ true → 0 < length bs) → AreInCells (open_behind bs k) ss
    → AreInCells bs (rows_slots (if v then r ∷ [] else q ∷ s ∷ []) ++ ss)
either true bs k r q s ss d e t f g h = row_first bs k r ss d f g h
either false bs k r q s ss d e t f g h = row_first bs k q (a_row s ∷ ss) e f g (text_behind (open_behind bs k) s ss t h)

line_in_cells : (bs : List Bool) (k : LineKind) (l : List Item) (ss : List Slot) → (k ≡ line.TableEnd → 0 < length bs) → (begins_part k ≡ true → 0 < length bs)
    → AreInCells (open_behind bs k) ss → AreInCells bs (rows_slots (line_rows k l) ++ ss)
line_in_cells bs line.Blank l ss f g h = (f, g, h)
line_in_cells bs line.TableOpen l ss f g h = (f, g, h)
line_in_cells bs line.TableEnd l ss f g h = either _ bs _ _ _ _ ss refl refl refl f g h
line_in_cells bs line.Caption l ss f g h = (f, g, h)
line_in_cells bs line.Row l ss f g h = (f, g, h)
line_in_cells bs line.Cell l ss f g h = (f, g, h)
line_in_cells bs line.Header l ss f g h = (f, g, h)
line_in_cells bs line.Heading l ss f g h = (f, g, h)
line_in_cells bs line.Rule l ss f g h = either _ bs _ _ _ _ ss refl refl refl f g h
line_in_cells bs line.List l ss f g h = (f, g, h)
line_in_cells bs line.Pre l ss f g h = (f, g, h)
line_in_cells bs line.Text l ss f g h = (f, g, h)

-- ---- what is open behind them

pub open_join : (bs : List Bool) (rs ss : List Row) → open_after bs (rs ++ ss) ≡ open_after (open_after bs rs) ss
open_join bs [] ss = refl
open_join bs (r ∷ rs) ss = open_join (open_behind bs r.kind) rs ss

either_open : (v : Bool) (bs : List Bool) (k : LineKind) (r q s : Row) → r.kind ≡ k → q.kind ≡ k → s.kind ≡ line.Text
    → open_after bs (if v then r ∷ [] else q ∷ s ∷ []) ≡ open_behind bs k
either_open true bs k r q s d e f = ap (open_behind bs) d
either_open false bs k r q s d e f = ap (open_behind (open_behind bs q.kind)) f ∙ ap (open_behind bs) e

pub line_open : (bs : List Bool) (k : LineKind) (l : List Item) → open_after bs (line_rows k l) ≡ open_behind bs k
line_open bs line.Blank l = refl
line_open bs line.TableOpen l = refl
line_open bs line.TableEnd l = either_open _ bs _ _ _ _ refl refl refl
line_open bs line.Caption l = refl
line_open bs line.Row l = refl
line_open bs line.Cell l = refl
line_open bs line.Header l = refl
line_open bs line.Heading l = refl
line_open bs line.Rule l = either_open _ bs _ _ _ _ refl refl refl
line_open bs line.List l = refl
line_open bs line.Pre l = refl
line_open bs line.Text l = refl

-- ---- all lines

pub lines_in_cells : (bs : List Bool) (n : ℕ) (ls : List (List Item)) (ss : List Slot) → length bs ≡ n → AreInCells (open_after bs (written_rows n ls)) ss
    → AreInCells bs (rows_slots (written_rows n ls) ++ ss)
lines_in_cells bs n [] ss e h = h
lines_in_cells bs n (l ∷ ls) ss e h =
    let k : LineKind = kind_at n l in
    let own : List Row = line_rows k l in
    let rest : List Row = written_rows (behind n k) ls in
    let size : length (open_behind bs k) ≡ behind n k = open_length bs k ∙ ap (λ (i : ℕ). behind i k) e in
    let more : AreInCells (open_behind bs k) (rows_slots rest ++ ss) =
    lines_in_cells (open_behind bs k) (behind n k) ls ss size
    (subst (λ cs. AreInCells cs ss) (open_join bs own rest ∙ ap (λ cs. open_after cs rest) (line_open bs k l)) h) in
    subst (λ xs. AreInCells bs xs) (sym (ap (λ xs. xs ++ ss) (rows_join own rest) ∙ append_assoc (rows_slots own) (rows_slots rest) ss))
    (line_in_cells bs k l (rows_slots rest ++ ss) (λ z. subst (λ (i : ℕ). 0 < i) (sym e) (end_open n l z)) (λ z. subst (λ (i : ℕ). 0 < i) (sym e) (part_open n l z)) more)
