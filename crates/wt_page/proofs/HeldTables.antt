-- Tables hold their rows, where what is read in cells holds its own.
use Rattle.std.proofs.Common.{◌≡◌, ℕ, Bool, true, false, List, [], ◌∷◌, ◌++◌, take, drop, map, refl, sym, ap, ◌∙◌, append_assoc, append-nil}
use Rattle.std.specs.List.{flat_map}
use Rattle.std.proofs.lemmas.List.{take-append-drop}
use Rattle.std.proofs.lemmas.Grind.{flat_map-append}
use Rattle.wt_tree.specs.declared.kind.Kind.TheVariants as kind
use Rattle.wt_span.specs.Items.{Item}
use Rattle.wt_lines.specs.Lines.{content}
use Rattle.wt_tables.specs.Cells.{Cell, parts, cell_of, opening_len, cells_in, cells_from, signs, split_by, header_by, sign_len, whole, table_attributes, row_attributes}
use Rattle.wt_tables.specs.Parts.{joined, RowOf, TableOf, table_of, row_lines, table_lines}
use Rattle.wt_tables.proofs.CellReads.{parts_joined}
use Rattle.wt_tables.proofs.PartLines.{table_joined}
use Rattle.wt_inline.specs.Inside.{opened_all}
use Rattle.wt_inline.specs.ItemTree.{plain}
use Rattle.wt_inline.proofs.HeldLaws.{opened_append}
use Rattle.wt_context.specs.Line.{line_parts}
use Rattle.wt_page.specs.Lines.{ending}
use Rattle.wt_page.proofs.Ends.{content_ending}
use Rattle.wt_page.specs.Rows.{Row, row_items, all_items, kind_of, first_lead}
use Rattle.wt_page.specs.Stretches.{Stretch, gap, block, tree_block, node_of, opened_by}
use Rattle.wt_page.specs.Tables.{Reading, with_attrs, gaps, cell_kind, cell_by, cells_by, cell_stretches, stray_len, from_sign, delimiter, behind_delimiter, delimiter_lead, first_items, row_by, row_stretches, rows_stretches, table_inside, table_by, last_of, without_last, table}
use Rattle.wt_context.proofs.LineHolding.{line_holds}
use Rattle.wt_page.proofs.Held.{kept, kept_append, of_gap, of_block, of_tree, of_node, of_opened, of_enclosed}
use Rattle.wt_page.proofs.HeldTexts.{opened_row, opened_rows}

-- what is read holds its rows
abbrev pub Reads : Reading → Type 0
Reads read = (rs : List Row) → kept (read rs) ≡ opened_all (all_items rs)

pub all_append : (rs ss : List Row) → opened_all (all_items (rs ++ ss)) ≡ opened_all (all_items rs) ++ opened_all (all_items ss)
all_append rs ss = ap opened_all (flat_map-append row_items rs ss) ∙ opened_append (all_items rs) (all_items ss)

pub of_gaps : (rs : List Row) → kept (gaps rs) ≡ opened_all (all_items rs)
of_gaps [] = refl
of_gaps (r ∷ rs) = of_gap (row_items r) (gaps rs) ∙ ap (λ ys. opened_all (row_items r) ++ ys) (of_gaps rs) ∙ sym (opened_append (row_items r) (all_items rs))

-- ---- the cells of a line join to it

whole_is : (header : Bool) (n : ℕ) (p : List Item) → whole (cell_of header n p) ≡ p
unfolding cell_of
whole_is header n p = take-append-drop (opening_len n p) p

wholes : (header : Bool) (n : ℕ) (ps : List (List Item)) → flat_map whole (map (cell_of header n) ps) ≡ joined ps
wholes header n [] = refl
wholes header n (p ∷ ps) = ap (λ ys. ys ++ flat_map whole (map (cell_of header n) ps)) (whole_is header n p) ∙ ap (λ ys. p ++ ys) (wholes header n ps)

in_joined : (header : Bool) (n : ℕ) (ps : List (List Item)) → flat_map whole (cells_in header n ps) ≡ joined ps
in_joined header n [] = refl
in_joined header n (p ∷ ps) = ap (λ ys. ys ++ flat_map whole (map (cell_of header 2) ps)) (whole_is header n p) ∙ ap (λ ys. p ++ ys) (wholes header 2 ps)

pub cells_joined : (caption : Bool) (xs : List Item) → flat_map whole (cells_from caption xs) ≡ xs
cells_joined caption xs =
    in_joined (header_by caption (signs xs)) (sign_len caption) (parts (split_by caption (signs xs)) (sign_len caption) xs)
    ∙ parts_joined (split_by caption (signs xs)) (sign_len caption) xs

-- ---- cells

of_cell : (caption : Bool) (c : Cell) (ss : List Stretch) → kept (cell_by caption c ss) ≡ opened_all (whole c) ++ kept ss
of_cell caption c ss =
    of_opened (with_attrs (cell_kind caption c.header) c.attrs) c.opening (block (line_parts c.rest) ∷ ss)
    ∙ ap (λ ys. opened_all c.opening ++ ys) (of_block (line_parts c.rest) ss ∙ ap (λ ys. ys ++ kept ss) (line_holds c.rest))
    ∙ sym (append_assoc (opened_all c.opening) (opened_all c.rest) (kept ss))
    ∙ ap (λ ys. ys ++ kept ss) (sym (opened_append c.opening c.rest))

of_cells : (caption : Bool) (cs : List Cell) (ss : List Stretch) → kept (cells_by caption cs ss) ≡ opened_all (flat_map whole cs) ++ kept ss
of_cells caption [] ss = refl
of_cells caption (c ∷ []) ss = of_cell caption c ss ∙ ap (λ ys. opened_all ys ++ kept ss) (sym (append-nil (whole c)))
of_cells caption (c ∷ d ∷ cs) ss =
    let others = cells_by caption (d ∷ cs) ss in
    kept_append (cell_by caption c []) others
    ∙ ap (λ ys. ys ++ kept others) (of_cell caption c [] ∙ append-nil (opened_all (whole c)))
    ∙ ap (λ ys. opened_all (whole c) ++ ys) (of_cells caption (d ∷ cs) ss)
    ∙ sym (append_assoc (opened_all (whole c)) (opened_all (flat_map whole (d ∷ cs))) (kept ss))
    ∙ ap (λ ys. ys ++ kept ss) (sym (opened_append (whole c) (flat_map whole (d ∷ cs))))

of_line : (read : Reading) → Reads read → (caption : Bool) (rs : List Row) → kept (cell_stretches read caption rs) ≡ opened_all (all_items rs)
unfolding cell_stretches
of_line read h caption [] = refl
of_line read h caption (r ∷ rs) =
    let cs = cells_from caption r.items in
    let more = gap r.ending ∷ read rs in
    of_gap r.lead (cells_by caption cs more)
    ∙ ap (λ ys. opened_all r.lead ++ ys) (of_cells caption cs more ∙ ap (λ ys. opened_all ys ++ kept more) (cells_joined caption r.items)
    ∙ ap (λ ys. opened_all r.items ++ ys) (of_gap r.ending (read rs) ∙ ap (λ ys. opened_all r.ending ++ ys) (h rs)))
    ∙ sym (opened_rows r rs)

of_lines : (read : Reading) → Reads read → (caption : Bool) (gs : List (List Row))
    → kept (flat_map (cell_stretches read caption) gs) ≡ opened_all (all_items (joined gs))
of_lines read h caption [] = refl
of_lines read h caption (g ∷ gs) =
    kept_append (cell_stretches read caption g) (flat_map (cell_stretches read caption) gs)
    ∙ ap (λ ys. ys ++ kept (flat_map (cell_stretches read caption) gs)) (of_line read h caption g)
    ∙ ap (λ ys. opened_all (all_items g) ++ ys) (of_lines read h caption gs)
    ∙ sym (all_append g (joined gs))

-- ---- delimiters

pub lead_sign : (rs : List Row) → first_lead rs ++ from_sign rs ≡ all_items rs
lead_sign [] = refl
lead_sign (r ∷ rs) = simp (append_assoc)

-- the rows of a delimiter, with something behind them
of_delimiter : (rs : List Row) (ys : List Item)
    → opened_all (delimiter_lead rs) ++ (opened_all (delimiter rs) ++ (kept (behind_delimiter rs) ++ ys)) ≡ opened_all (all_items rs) ++ ys
of_delimiter rs ys =
    let n = stray_len rs in
    let front = take n rs in
    let back = drop n rs in
    let xs = from_sign front in
    let a = opened_all (first_lead front) in
    let b = opened_all (content xs) in
    let c = opened_all (ending xs) in
    let d = opened_all (all_items back) in
    let shift : a ++ (b ++ ((c ++ d) ++ ys)) ≡ a ++ ((b ++ c) ++ (d ++ ys)) = simp (append_assoc) in
    ap (λ zs. a ++ (b ++ (zs ++ ys))) (of_gap (ending xs) (gaps back) ∙ ap (λ zs. c ++ zs) (of_gaps back))
    ∙ shift
    ∙ ap (λ zs. a ++ (zs ++ (d ++ ys))) (sym (opened_append (content xs) (ending xs)) ∙ ap opened_all (content_ending xs))
    ∙ sym (append_assoc a (opened_all xs) (d ++ ys))
    ∙ ap (λ zs. zs ++ (d ++ ys)) (sym (opened_append (first_lead front) xs) ∙ ap opened_all (lead_sign front))
    ∙ sym (append_assoc (opened_all (all_items front)) d ys)
    ∙ ap (λ zs. zs ++ ys) (sym (all_append front back) ∙ ap (λ ss. opened_all (all_items ss)) (take-append-drop n rs))

-- ---- rows

of_row_by : (rs : List Row) (cells : List Stretch) → kept (row_by rs cells) ≡ opened_all (all_items rs) ++ kept cells
of_row_by [] cells = of_enclosed (plain kind.Tr) cells
of_row_by (r ∷ rs) cells =
    let all = r ∷ rs in
    let h = with_attrs kind.Tr (row_attributes r.items) in
    of_gap (delimiter_lead all) (opened_by h (delimiter all) (behind_delimiter all ++ cells))
    ∙ ap (λ ys. opened_all (delimiter_lead all) ++ ys) (of_opened h (delimiter all) (behind_delimiter all ++ cells)
    ∙ ap (λ ys. opened_all (delimiter all) ++ ys) (kept_append (behind_delimiter all) cells))
    ∙ of_delimiter all (kept cells)

of_row : (read : Reading) → Reads read → (r : RowOf Row) → kept (row_stretches read r) ≡ opened_all (all_items (row_lines r))
unfolding row_stretches
of_row read h r =
    of_row_by (r.opening ++ r.between) (flat_map (cell_stretches read false) r.cells)
    ∙ ap (λ ys. opened_all (all_items (r.opening ++ r.between)) ++ ys) (of_lines read h false r.cells)
    ∙ sym (all_append (r.opening ++ r.between) (joined r.cells))
    ∙ ap (λ ls. opened_all (all_items ls)) (append_assoc r.opening r.between (joined r.cells))

of_each_row : (read : Reading) → Reads read → (rs : List (RowOf Row)) → kept (flat_map (row_stretches read) rs) ≡ opened_all (all_items (flat_map row_lines rs))
of_each_row read h [] = refl
of_each_row read h (r ∷ rs) =
    kept_append (row_stretches read r) (flat_map (row_stretches read) rs)
    ∙ ap (λ ys. ys ++ kept (flat_map (row_stretches read) rs)) (of_row read h r)
    ∙ ap (λ ys. opened_all (all_items (row_lines r)) ++ ys) (of_each_row read h rs)
    ∙ sym (all_append (row_lines r) (flat_map row_lines rs))

of_rows : (read : Reading) → Reads read → (rs : List (RowOf Row)) → kept (rows_stretches read rs) ≡ opened_all (all_items (flat_map row_lines rs))
of_rows read h [] = refl
of_rows read h (r ∷ rs) = of_enclosed (plain kind.Tbody) (flat_map (row_stretches read) (r ∷ rs)) ∙ of_each_row read h (r ∷ rs)

-- ---- tables

of_inside : (read : Reading) → Reads read → (t : TableOf Row)
    → kept (table_inside read t) ≡ opened_all (all_items (joined t.captions ++ flat_map row_lines t.rows))
of_inside read h t =
    kept_append (flat_map (cell_stretches read true) t.captions) (rows_stretches read t.rows)
    ∙ ap (λ ys. ys ++ kept (rows_stretches read t.rows)) (of_lines read h true t.captions)
    ∙ ap (λ ys. opened_all (all_items (joined t.captions)) ++ ys) (of_rows read h t.rows)
    ∙ sym (all_append (joined t.captions) (flat_map row_lines t.rows))

of_table_by : (read : Reading) → Reads read → (t : TableOf Row) (end : Row)
    → kept (table_by read t end) ≡ opened_all (all_items (table_lines t)) ++ opened_all (row_items end)
unfolding table_by
of_table_by read h t end =
    let opening = t.opening ++ t.between in
    let lead = opened_all (delimiter_lead opening) in
    let delim = opened_all (delimiter opening) in
    let behind = kept (behind_delimiter opening) in
    let inside = kept (table_inside read t) in
    let head = with_attrs kind.Table (table_attributes (first_items opening)) in
    let last = gap end.lead ∷ [] in
    let ss = behind_delimiter opening ++ (table_inside read t ++ last) in
    let node = node_of head (delimiter opening) ss end.items in
    let a = opened_all end.lead in
    let b = opened_all end.items in
    let c = opened_all end.ending in
    let shift : lead ++ ((delim ++ ((behind ++ (inside ++ a)) ++ b)) ++ c) ≡ lead ++ (delim ++ (behind ++ (inside ++ (a ++ (b ++ c))))) = simp (append_assoc) in
    of_gap (delimiter_lead opening) (tree_block node ∷ gap end.ending ∷ [])
    ∙ ap (λ ys. lead ++ ys) (of_tree node (gap end.ending ∷ [])
    ∙ ap (λ ys. ys ++ kept (gap end.ending ∷ [])) (of_node head (delimiter opening) ss end.items
    ∙ ap (λ ys. delim ++ (ys ++ opened_all end.items)) (kept_append (behind_delimiter opening) (table_inside read t ++ last)
    ∙ ap (λ ys. behind ++ ys) (kept_append (table_inside read t) last ∙ ap (λ ys. inside ++ ys) (of_gap end.lead [] ∙ append-nil (opened_all end.lead)))))
    ∙ ap (λ ys. (delim ++ ((behind ++ (inside ++ opened_all end.lead)) ++ opened_all end.items)) ++ ys)
    (of_gap end.ending [] ∙ append-nil (opened_all end.ending)))
    ∙ shift
    ∙ of_delimiter opening (inside ++ (opened_all end.lead ++ (opened_all end.items ++ opened_all end.ending)))
    ∙ ap (λ ys. opened_all (all_items opening) ++ (ys ++ (opened_all end.lead ++ (opened_all end.items ++ opened_all end.ending)))) (of_inside read h t)
    ∙ ap (λ ys. opened_all (all_items opening) ++ (opened_all (all_items (joined t.captions ++ flat_map row_lines t.rows)) ++ ys)) (sym (opened_row end))
    ∙ sym (append_assoc (opened_all (all_items opening)) (opened_all (all_items (joined t.captions ++ flat_map row_lines t.rows))) (opened_all (row_items end)))
    ∙ ap (λ ys. ys ++ opened_all (row_items end)) (sym (all_append opening (joined t.captions ++ flat_map row_lines t.rows))
    ∙ ap (λ ls. opened_all (all_items ls)) (append_assoc t.opening t.between (joined t.captions ++ flat_map row_lines t.rows)))

pub last_joined : (r : Row) (rs : List Row) → without_last r rs ++ (last_of r rs ∷ []) ≡ r ∷ rs
last_joined r [] = refl
last_joined r (s ∷ rs) = ap (λ ls. r ∷ ls) (last_joined s rs)

pub of_table : (read : Reading) → Reads read → Reads (table read)
of_table read h [] = refl
of_table read h (r ∷ []) = of_gaps (r ∷ [])
of_table read h (r ∷ s ∷ rs) =
    let front = without_last s rs in
    let last = last_of s rs in
    of_table_by read h (table_of kind_of r front) last
    ∙ ap (λ ls. opened_all (all_items ls) ++ opened_all (row_items last)) (table_joined kind_of r front)
    ∙ ap (λ ys. opened_all (all_items (r ∷ front)) ++ ys) (sym (ap opened_all (append-nil (row_items last))))
    ∙ sym (all_append (r ∷ front) (last ∷ []))
    ∙ ap (λ ls. opened_all (all_items (r ∷ ls))) (last_joined s rs)
