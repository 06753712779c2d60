-- A page with one typed paragraph in a cell is a page with blocks anywhere.
use Rattle.std.proofs.Common.{arith, ◌≡◌, ◌≤◌, ◌<◌, ℕ, zero, suc, Bool, true, false, List, [], ◌∷◌, ◌++◌, length, refl, sym, ap, ◌∙◌, subst, length-append, inl, inr}
use Rattle.std.specs.Prelude.{◌&&◌, if◌then◌else◌}
use Rattle.std.specs.List.{list_all, AllByRecursion}
use Rattle.wt_span.specs.Items.{Item, is_mark, char, whole}
use Rattle.wt_lines.specs.declared.kind.LineKind.{LineKind}
use Rattle.wt_lines.specs.declared.kind.LineKind.TheVariants as line
use Rattle.wt_lines.specs.Lines.{is_break_item, empty_end, full_lines}
use Rattle.wt_blocks.specs.Paragraphs.{is_text}
use Rattle.wt_tables.specs.Parts.{units, begins_part, begins_group}
use Rattle.wt_page.specs.Rows.{Row, kind_of}
use Rattle.wt_expand.specs.PageItems.{page_items}
use Rattle.wt_part_laws.specs.Blocks.{BeginOtherwise}
use Rattle.wt_part_laws.specs.Rounds.{TableRound, is_cell, BeginNoPart, BeginsPart, AreContent, IsTableRound, EndOtherwise}
use Rattle.wt_part_laws.specs.Slots.{open_behind, AllTrue}
use Rattle.wt_part_laws.specs.Units.{Level}
use Rattle.wt_part_laws.proofs.Falling.{IsOther, sort, Falls, falls_open, falls_end, falls_other}
use Rattle.wt_part_laws.proofs.UnitCuts.{first_unit, cut, level_open, level_other, level_ends}
use Rattle.wt_part_laws.proofs.InCells.{alone_first}
use Rattle.wt_text_edit_laws.specs.ParagraphBetween.{written_rows, before_marks, EndApart, BeginApart}
use Rattle.wt_text_edit_laws.specs.TextBlocks.{a_paragraph}
use Rattle.wt_text_edit_laws.specs.BlockSpots.{BlockSpot}
use Rattle.wt_text_edit_laws.proofs.Between.LineForms.{ends_before_any}
use Rattle.wt_text_edit_laws.proofs.Between.TextReads.{calm_between}
use Rattle.wt_text_edit_laws.proofs.Blocks.Contents.{typed_firmly}
use Rattle.wt_called_edit_laws.specs.AnyBlocks.{open_after, rows_of_part, open_behind_part, LeadsInto, IsTextRead, EndsAfter, AreParts, AreSpots}
use Rattle.wt_called_edit_laws.specs.CellEdits.{CellPage, IsCellPage}
use Rattle.wt_called_edit_laws.specs.InCells.{rows_before, rows_behind, open_tables, AreBehind, IsInCell}
use Rattle.wt_called_edit_laws.proofs.Cells.Cells.{typed_stays_text}
use Rattle.wt_called_edit_laws.proofs.Cells.PageSlots.{open_join}
use Rattle.wt_called_edit_laws.proofs.Cells.SpotSlots.{open_size}

-- ---- what is open behind rows

-- behind one that neither opens nor ends a table
other_open : (k : LineKind) → IsOther k → (c : Bool) (cs : List Bool) → (d : Bool) × (open_behind (c ∷ cs) k ≡ d ∷ cs)
other_open line.Blank o c cs = (c, refl)
other_open line.TableOpen o c cs = let e : true ≡ false = o.opens in absurd (cc)
other_open line.TableEnd o c cs = absurd (o.no_end refl)
other_open line.Caption o c cs = (true, refl)
other_open line.Row o c cs = (false, refl)
other_open line.Cell o c cs = (true, refl)
other_open line.Header o c cs = (true, refl)
other_open line.Heading o c cs = (c, refl)
other_open line.Rule o c cs = (c, refl)
other_open line.List o c cs = (c, refl)
other_open line.Pre o c cs = (c, refl)
other_open line.Text o c cs = (c, refl)

plain_open : (k : LineKind) → IsOther k → begins_part k ≡ false → (bs : List Bool) → open_behind bs k ≡ bs
plain_open line.Blank o e bs = refl
plain_open line.TableOpen o e bs = let f : true ≡ false = o.opens in absurd (cc)
plain_open line.TableEnd o e bs = absurd (o.no_end refl)
plain_open line.Caption o e bs = absurd (cc)
plain_open line.Row o e bs = absurd (cc)
plain_open line.Cell o e bs = absurd (cc)
plain_open line.Header o e bs = absurd (cc)
plain_open line.Heading o e bs = refl
plain_open line.Rule o e bs = refl
plain_open line.List o e bs = refl
plain_open line.Pre o e bs = refl
plain_open line.Text o e bs = refl

-- where tables are ended, those below them stay as they are
falls_back : (ds bs : List Bool) (rs : List Row) → Falls (length ds) rs → open_after (ds ++ bs) rs ≡ bs
falls_back [] bs [] h = refl
falls_back [] bs (r ∷ rs) h = absurd h
falls_back (c ∷ ds) bs [] h = absurd h
falls_back (c ∷ ds) bs (r ∷ rs) h =
    let d : ℕ = length ds in
    elim (sort r.kind) [
      | inl e ↦ ap (λ k. open_after (open_behind (c ∷ (ds ++ bs)) k) rs) e ∙ falls_back (false ∷ c ∷ ds) bs rs (falls_open d r rs e h)
      | inr (inl e) ↦ ap (λ k. open_after (open_behind (c ∷ (ds ++ bs)) k) rs) e ∙ falls_back ds bs rs (falls_end d r rs e h)
      | inr (inr o) ↦ let s = other_open r.kind o c (ds ++ bs) in
          ap (λ cs. open_after cs rs) s.1 ∙ falls_back (s.0 ∷ ds) bs rs (falls_other d r rs o h)
    ]

-- a whole table
table_open : (bs : List Bool) (r : Row) (rs front back : List Row) → r.kind ≡ line.TableOpen → rs ≡ front ++ back → Falls 1 front
    → open_after bs (r ∷ rs) ≡ open_after bs back
table_open bs r rs front back e is f =
    ap (λ k. open_after (open_behind bs k) rs) e
    ∙ ap (open_after (false ∷ bs)) is
    ∙ open_join (false ∷ bs) front back
    ∙ ap (λ cs. open_after cs back) (falls_back (false ∷ []) bs front f)

content_open : (m : ℕ) (rs : List Row) → length rs ≤ m → Level 0 rs → BeginNoPart rs → (bs : List Bool) → open_after bs rs ≡ bs
content_open m [] l h p bs = refl
content_open zero (r ∷ rs) l h p bs = absurd (omega (arith, l))
content_open (suc m) (r ∷ rs) l h p bs =
    let P : List (List Row) → Type 0 = λ us. AllByRecursion (λ u. begins_group kind_of u ≡ false) us in
    elim (sort r.kind) [
      | inl e ↦ let c = cut 0 rs (level_open 0 r rs e h) in
          let us_is : units kind_of (r ∷ rs) ≡ (r ∷ c.front) ∷ units kind_of c.back =
          ap (λ (ss : List Row). units kind_of (r ∷ ss)) c.is ∙ first_unit (r ∷ c.front) c.back (inl (e, c.falls)) in
          let q : P ((r ∷ c.front) ∷ units kind_of c.back) = subst P us_is p in
          table_open bs r rs c.front c.back e c.is c.falls
          ∙ content_open m c.back (omega (arith, l, ap length c.is, length-append c.front c.back)) c.level q.1 bs
      | inr (inl e) ↦ let no : 0 < 0 = level_ends 0 r rs h e in absurd (omega (arith, no))
      | inr (inr o) ↦ let q : P ((r ∷ []) ∷ units kind_of rs) = subst P (alone_first r rs o) p in
          ap (λ cs. open_after cs rs) (plain_open r.kind o q.0 bs) ∙ content_open m rs (omega (arith, l)) (level_other 0 r rs o h) q.1 bs
    ]

abbrev StaysOpen : List Bool → List Row → Bool → Type 0
StaysOpen bs rs b = (c : Bool) × (open_after (b ∷ bs) rs ≡ c ∷ bs)

level_stays : (m : ℕ) (rs : List Row) → length rs ≤ m → Level 0 rs → (b : Bool) (bs : List Bool) → StaysOpen bs rs b
level_stays m [] l h b bs = (b, refl)
level_stays zero (r ∷ rs) l h b bs = absurd (omega (arith, l))
level_stays (suc m) (r ∷ rs) l h b bs =
    elim (sort r.kind) [
      | inl e ↦ let c = cut 0 rs (level_open 0 r rs e h) in
          let s = level_stays m c.back (omega (arith, l, ap length c.is, length-append c.front c.back)) c.level b bs in
          (s.0, table_open (b ∷ bs) r rs c.front c.back e c.is c.falls ∙ s.1)
      | inr (inl e) ↦ let no : 0 < 0 = level_ends 0 r rs h e in absurd (omega (arith, no))
      | inr (inr o) ↦ let q = other_open r.kind o b bs in
          let s = level_stays m rs (omega (arith, l)) (level_other 0 r rs o h) q.0 bs in
          (s.0, ap (λ cs. open_after cs rs) q.1 ∙ s.1)
    ]

cell_open : (k : LineKind) → is_cell k ≡ true → (b : Bool) (bs : List Bool) → open_behind (b ∷ bs) k ≡ true ∷ bs
cell_open line.Blank e b bs = absurd (cc)
cell_open line.TableOpen e b bs = absurd (cc)
cell_open line.TableEnd e b bs = absurd (cc)
cell_open line.Caption e b bs = absurd (cc)
cell_open line.Row e b bs = absurd (cc)
cell_open line.Cell e b bs = refl
cell_open line.Header e b bs = refl
cell_open line.Heading e b bs = absurd (cc)
cell_open line.Rule e b bs = absurd (cc)
cell_open line.List e b bs = absurd (cc)
cell_open line.Pre e b bs = absurd (cc)
cell_open line.Text e b bs = absurd (cc)

content_is : (rs : List Row) → AreContent rs → (bs : List Bool) → open_after bs rs ≡ bs
content_is rs h bs = let n : length rs ≤ length rs = omega arith in content_open (length rs) rs n h.level h.plain bs

-- in each table is a cell
rounds_open : (bs : List Bool) (ts : List TableRound) (front : List Row) → AllByRecursion IsTableRound ts → AreContent front → AllTrue bs
    → AllTrue (open_after bs (rows_before ts front))
rounds_open bs [] front h f a = subst AllTrue (sym (content_is front f bs)) a
rounds_open bs (t ∷ ts) front h f a =
    let is : IsTableRound t = h.0 in
    let back : List Row = rows_before ts front in
    let n : length t.inside ≤ length t.inside = omega arith in
    let s = level_stays (length t.inside) t.inside n is.inside false bs in
    let e : open_after bs (t.before ++ (t.first ∷ (t.inside ++ (t.cell ∷ back)))) ≡ open_after (true ∷ bs) back =
    open_join bs t.before (t.first ∷ (t.inside ++ (t.cell ∷ back)))
    ∙ ap (λ cs. open_after cs (t.first ∷ (t.inside ++ (t.cell ∷ back)))) (content_is t.before is.before bs)
    ∙ ap (λ k. open_after (open_behind bs k) (t.inside ++ (t.cell ∷ back))) is.opens
    ∙ open_join (false ∷ bs) t.inside (t.cell ∷ back)
    ∙ ap (λ cs. open_after cs (t.cell ∷ back)) s.1
    ∙ ap (λ cs. open_after cs back) (cell_open t.cell.kind is.of_cells s.0 bs) in
    subst AllTrue (sym e) (rounds_open (true ∷ bs) ts front h.1 f (refl, a))

-- ---- no text beside it

not_text : (k : LineKind) → (k ≡ line.Text → ⊥) → is_text k ≡ false
not_text line.Blank h = refl
not_text line.TableOpen h = refl
not_text line.TableEnd h = refl
not_text line.Caption h = refl
not_text line.Row h = refl
not_text line.Cell h = refl
not_text line.Header h = refl
not_text line.Heading h = refl
not_text line.Rule h = refl
not_text line.List h = refl
not_text line.Pre h = refl
not_text line.Text h = absurd (h refl)

cell_no_text : (k : LineKind) → is_cell k ≡ true → is_text k ≡ false
cell_no_text k e = not_text k (λ z. let f : is_cell line.Text ≡ true = ap is_cell (sym z) ∙ e in absurd (cc))

part_no_text : (k : LineKind) → begins_part k ≡ true → is_text k ≡ false
part_no_text k e = not_text k (λ z. let f : begins_part line.Text ≡ true = ap begins_part (sym z) ∙ e in absurd (cc))

front_apart : (rs : List Row) → EndOtherwise line.Text rs → EndApart rs
front_apart [] h = tt
front_apart (r ∷ []) h = not_text r.kind h
front_apart (r ∷ s ∷ rs) h = front_apart (s ∷ rs) h

end_behind : (xs : List Row) (y : Row) (ys : List Row) → EndApart (y ∷ ys) → EndApart (xs ++ y ∷ ys)
end_behind [] y ys h = h
end_behind (x ∷ []) y ys h = h
end_behind (x ∷ z ∷ xs) y ys h = end_behind (z ∷ xs) y ys h

first_cell : (c : Row) (rs : List Row) → is_cell c.kind ≡ true → EndApart rs → EndApart (c ∷ rs)
first_cell c [] e h = cell_no_text c.kind e
first_cell c (r ∷ rs) e h = h

past_first : (r : Row) (xs : List Row) (y : Row) (ys : List Row) → EndApart (y ∷ ys) → EndApart (r ∷ (xs ++ y ∷ ys))
past_first r xs y ys h = end_behind (r ∷ xs) y ys h

rounds_apart : (ts : List TableRound) (front : List Row) → AllByRecursion IsTableRound ts → EndOtherwise line.Text front → EndApart (rows_before ts front)
rounds_apart [] front h f = front_apart front f
rounds_apart (t ∷ ts) front h f =
    let is : IsTableRound t = h.0 in
    let back : List Row = rows_before ts front in
    end_behind t.before t.first (t.inside ++ (t.cell ∷ back))
    (past_first t.first t.inside t.cell back (first_cell t.cell back is.of_cells (rounds_apart ts front h.1 f)))

back_apart : (rs : List Row) → BeginOtherwise line.Text rs → BeginApart rs
back_apart [] h = tt
back_apart (r ∷ rs) h = not_text r.kind h

begin_join : (xs ys : List Row) → BeginApart xs → BeginApart ys → BeginApart (xs ++ ys)
begin_join [] ys h k = k
begin_join (x ∷ xs) ys h k = h

part_apart : (rs : List Row) → BeginsPart rs → BeginApart rs
part_apart [] h = tt
part_apart (r ∷ rs) h = part_no_text r.kind h

rounds_begin : (ts : List TableRound) (back : List Row) → AllByRecursion IsTableRound ts → BeginOtherwise line.Text back → BeginApart (rows_behind ts back)
rounds_begin [] back h f = back_apart back f
rounds_begin (t ∷ ts) back h f =
    let is : IsTableRound t = h.0 in
    begin_join (rows_behind ts back) (t.further ++ (t.last ∷ t.behind)) (rounds_begin ts back h.1 f)
    (begin_join t.further (t.last ∷ t.behind) (part_apart t.further is.begins) (ap is_text is.ends))

-- ---- no marks at its end

break_no_mark : (x : Item) → is_break_item x ≡ true → is_mark x ≡ false
break_no_mark (char o b) e = refl
break_no_mark (whole f o bs) e = absurd (cc)

is_break_by : (v : Bool) → if◌then◌else◌ {A = List (List Item)} v ([] ∷ []) [] ≡ [] ∷ [] → v ≡ true
is_break_by true e = refl
is_break_by false e = cc

not_all : (v : Bool) (w : Bool) → w ≡ false → (v && w) ≡ false
not_all true w e = e
not_all false w e = refl

no_all : (x : Item) (xs : List Item) → empty_end (x ∷ xs) ≡ [] ∷ [] → list_all is_mark (x ∷ xs) ≡ false
no_all x [] e = ap (λ (v : Bool). v && true) (break_no_mark x (is_break_by (is_break_item x) e))
no_all x (y ∷ ys) e = not_all (is_mark x) (list_all is_mark (y ∷ ys)) (no_all y ys e)

put_first : (v : Bool) (x : Item) (xs : List Item) → v ≡ false → (if v then [] else x ∷ xs) ≡ x ∷ xs
put_first true x xs e = absurd (cc)
put_first false x xs e = refl

rest_whole : (x : Item) (xs : List Item) → empty_end (x ∷ xs) ≡ [] ∷ [] → empty_end xs ≡ [] ∷ []
rest_whole x [] e = refl
rest_whole x (y ∷ ys) e = e

no_marks : (xs : List Item) → empty_end xs ≡ [] ∷ [] → before_marks xs ≡ xs
no_marks [] e = refl
no_marks (x ∷ xs) e =
    put_first (list_all is_mark (x ∷ xs)) x (before_marks xs) (no_all x xs e) ∙ ap (λ ys. x ∷ ys) (no_marks xs (rest_whole x xs e))

-- ---- the page

ends_so : (n : ℕ) (tail : List Item) (rs : List Row) → AreBehind n tail rs → BeginApart rs → EndsAfter a_paragraph n tail
ends_so n [] rs h b = tt
ends_so n (y ∷ ys) rs h b = (h.0, subst BeginApart (sym h.1) b)

pub cell_spots : (c : CellPage) → IsCellPage c → AreSpots (record { before = c.before; block = a_paragraph; text = c.text } ∷ []) c.behind
cell_spots c h =
    let s : BlockSpot = record { before = c.before; block = a_paragraph; text = c.text } in
    let xs : List Item = page_items c.before in
    let tail : List Item = page_items c.behind in
    let i : IsInCell xs tail = h.in_cell in
    let none : before_marks xs ≡ xs = no_marks xs i.whole in
    let rows_are : rows_of_part [] xs ≡ rows_before i.tables i.front = ap (λ ys. written_rows 0 (full_lines ys)) none ∙ i.are_before in
    let size : open_tables xs ≡ length (open_behind_part [] xs) =
    ap (λ ys. open_tables ys) (sym none) ∙ open_size [] 0 (full_lines (before_marks xs)) refl in
    let leads : LeadsInto a_paragraph [] xs = record {
      whole = inl (ap empty_end none ∙ i.whole);
      in_cells = subst (λ rs. AllTrue (open_after [] rs)) (sym rows_are) (rounds_open [] i.tables i.front i.rounds i.front_content tt);
      apart = subst EndApart (sym rows_are) (rounds_apart i.tables i.front i.rounds i.front_apart);
    } in
    let is : IsTextRead s = record { ended = h.stands.ends; before_utf8 = h.before_utf8; block = inl h.is_typed } in
    let parts : AreParts (s ∷ []) c.behind = (
      (is, leads, typed_stays_text (length (open_behind_part [] xs)) c.text h.is_typed),
      (
        h.follows,
        h.behind_utf8,
        subst (λ (n : ℕ). EndsAfter a_paragraph n tail) size
            (ends_so (open_tables xs) tail (rows_behind i.tables i.back) i.are_behind (rounds_begin i.tables i.back i.rounds i.back_apart)),
      ),
    ) in
    record {
      parts = parts;
      whole = record {
        calls_nothing = calm_between c.before c.text c.behind h.stands h.is_typed h.follows h.calls_nothing;
        end_before = (ends_before_any (c.text ++ c.behind) c.before h.stands.has_ends, inl (typed_firmly a_paragraph c.text h.is_typed), tt);
      };
      ungrouped = h.ungrouped;
    }
