-- Rows of a table by groups.
use Rattle.std.proofs.Common.{◌≡◌, ◌<◌, ◌≤◌, ℕ, zero, suc, ◌+◌, Bool, true, false, not, List, [], ◌∷◌, ◌++◌, length, take, drop, map, get_or, refl, sym, ap, ◌∙◌, subst, cond, arith}
use Rattle.std.specs.Prelude.{codes}
use Rattle.std.specs.List.{flat_map, prefix_len}
use Rattle.std.proofs.lemmas.List.{drop-drop, drop-map, take-map, take_all}
use Rattle.wt_tree.specs.declared.kind.Kind.TheVariants as kind
use Rattle.wt_span.specs.Bytes.{begins}
use Rattle.wt_span.specs.declared.form.Piece.{Piece}
use Rattle.wt_tables.specs.Parts.{unit_kind, is_row}
use Rattle.wt_inline.specs.ItemTree.{plain}
use Rattle.wt_rows.specs.declared.row.RowAt.{RowAt}
use Rattle.wt_rows.specs.declared.group.Group.{Group}
use Rattle.wt_rows.specs.declared.stretch.StretchAt.{StretchAt}
use Rattle.wt_page.specs.Rows.{Row, signs, kind_of}
use Rattle.wt_page.specs.Stretches.{Stretch, enclosed}
use Rattle.wt_page.specs.Tables.{Reading, cell_stretches, first_items, row_by}
use Rattle.wt_rows.specs.Units.{kind_at}
use Rattle.wt_rows.specs.Groups.{goes_on}
use Rattle.wt_build.specs.RowGroups.{row_groups, row_with, row_of_groups, rows_of_groups}
use Rattle.wt_rows.specs.GroupViews.{group_view, groups_view}
use Rattle.wt_build.specs.CellGroups.{groups_rows, FirstBegins, AllBegin, IsPart, AreParts}
use Rattle.wt_rows.specs.Views.{rows_view, stretches_view}
use Rattle.wt_rows.proofs.Grouping.{runs_front}
use Rattle.wt_rows.proofs.GroupSteps.{kind_viewed}
use Rattle.wt_build.proofs.TableSteps.{group_more}
use Rattle.wt_rows.proofs.Celling.{made_added}

-- ---- a row: by its first group

row_with_first : (ps : List Piece) (rows : List RowAt) (gs : List Group) (d : Group) → 0 < length gs
    → groups_rows ps rows gs ≡ rows_view ps (group_view rows (get_or gs 0 d)) ∷ groups_rows ps rows (drop 1 gs)
row_with_first ps rows gs d some = group_more ps rows gs 0 d some

pub row_opened : (read : Reading) (ps : List Piece) (rows own : List RowAt) (gs : List Group) (d : Group) (t : Bool) (cells ls : List Stretch) → 0 < length gs
    → own ≡ group_view rows (get_or gs 0 d) → t ≡ is_row (unit_kind kind_at (group_view rows (get_or gs 0 d))) → t ≡ true
    → cells ≡ flat_map (cell_stretches read false) (groups_rows ps rows (drop 1 gs)) → ls ≡ row_by (rows_view ps own) cells
    → ls ≡ row_of_groups read (groups_rows ps rows gs)
row_opened read ps rows own gs d t cells ls some eo et is ec el =
    let g = group_view rows (get_or gs 0 d) in
    let fs = groups_rows ps rows (drop 1 gs) in
    let row : is_row (unit_kind kind_of (rows_view ps g)) ≡ true = ap is_row (kind_viewed ps g) ∙ sym et ∙ is in
    el ∙ ap (λ ss. row_by (rows_view ps own) ss) ec
    ∙ ap (λ rs. row_by (rows_view ps rs) (flat_map (cell_stretches read false) fs)) eo
    ∙ ap (λ b. row_with read b (rows_view ps g) fs) (sym row)
    ∙ ap (row_of_groups read) (sym (row_with_first ps rows gs d some))

pub row_plain : (read : Reading) (ps : List Piece) (rows : List RowAt) (gs : List Group) (d : Group) (t : Bool) (cells ls : List Stretch) → 0 < length gs
    → t ≡ is_row (unit_kind kind_at (group_view rows (get_or gs 0 d))) → t ≡ false
    → cells ≡ flat_map (cell_stretches read false) (groups_rows ps rows gs) → ls ≡ enclosed (plain kind.Tr) cells
    → ls ≡ row_of_groups read (groups_rows ps rows gs)
row_plain read ps rows gs d t cells ls some et is ec el =
    let g = group_view rows (get_or gs 0 d) in
    let fs = groups_rows ps rows (drop 1 gs) in
    let row : is_row (unit_kind kind_of (rows_view ps g)) ≡ false = ap is_row (kind_viewed ps g) ∙ sym et ∙ is in
    let all = row_with_first ps rows gs d some in
    el ∙ ap (enclosed (plain kind.Tr)) (ec ∙ ap (flat_map (cell_stretches read false)) all)
    ∙ ap (λ b. row_with read b (rows_view ps g) fs) (sym row)
    ∙ ap (row_of_groups read) (sym all)

-- ---- what its first group begins with

part_opens : (ps : List Piece) (g : List RowAt) → is_row (unit_kind kind_at g) ≡ true → IsPart (rows_view ps g)
    → (0 < length g) × (begins (codes "|-") (signs (first_items (rows_view ps g))) ≡ true)
part_opens ps [] e h = cc
part_opens ps (r ∷ g) e h = (omega arith, h.row e)

part_cell : (ps : List Piece) (g : List RowAt) → is_row (unit_kind kind_at g) ≡ false → IsPart (rows_view ps g) → FirstBegins false (rows_view ps g)
part_cell ps [] e h = tt
part_cell ps (r ∷ g) e h = h.cell e

pub first_opens : (ps : List Piece) (rows own : List RowAt) (gs : List Group) (d : Group) (t : Bool) → 0 < length gs → own ≡ group_view rows (get_or gs 0 d)
    → t ≡ is_row (unit_kind kind_at (group_view rows (get_or gs 0 d))) → t ≡ true → IsPart (rows_view ps (group_view rows (get_or gs 0 d)))
    → (0 < length own) × (begins (codes "|-") (signs (first_items (rows_view ps own))) ≡ true)
first_opens ps rows own gs d t some eo et is h =
    subst (λ (rs : List RowAt). (0 < length rs) × (begins (codes "|-") (signs (first_items (rows_view ps rs))) ≡ true)) (sym eo)
    (part_opens ps (group_view rows (get_or gs 0 d)) (sym et ∙ is) h)

pub all_begin : (ps : List Piece) (rows : List RowAt) (gs : List Group) (d : Group) (t : Bool) → 0 < length gs
    → t ≡ is_row (unit_kind kind_at (group_view rows (get_or gs 0 d))) → t ≡ false → IsPart (rows_view ps (group_view rows (get_or gs 0 d)))
    → AllBegin false (groups_rows ps rows (drop 1 gs)) → AllBegin false (groups_rows ps rows gs)
all_begin ps rows gs d t some et is h others =
    subst (λ (fs : List (List Row)). AllBegin false fs) (sym (row_with_first ps rows gs d some))
    (part_cell ps (group_view rows (get_or gs 0 d)) (sym et ∙ is) h, others)

-- ---- rows, one after the other

goes_viewed : (ps : List Piece) (rows : List RowAt) (gs : List Group)
    → prefix_len (goes_on kind_of) (groups_rows ps rows gs) ≡ prefix_len (goes_on kind_at) (groups_view rows gs)
goes_viewed ps rows [] = refl
goes_viewed ps rows (g ∷ gs) =
    let own = group_view rows g in
    ap (λ k. cond (not (is_row k)) (1 + prefix_len (goes_on kind_of) (groups_rows ps rows gs)) 0) (kind_viewed ps own)
    ∙ ap (λ m. cond (goes_on kind_at own) (1 + m) 0) (goes_viewed ps rows gs)

pub map_map : (ps : List Piece) (rows : List RowAt) (n : ℕ) (gs : List Group) → drop n (groups_rows ps rows gs) ≡ groups_rows ps rows (drop n gs)
map_map ps rows n gs = drop-map (rows_view ps) n (groups_view rows gs) ∙ ap (map (rows_view ps)) (drop-map (group_view rows) n gs)

pub map_front : (ps : List Piece) (rows : List RowAt) (n : ℕ) (gs : List Group) → take n (groups_rows ps rows gs) ≡ groups_rows ps rows (take n gs)
map_front ps rows n gs = take-map (rows_view ps) n (groups_view rows gs) ∙ ap (map (rows_view ps)) (take-map (group_view rows) n gs)

run_of : (ps : List Piece) (rows : List RowAt) (gs : List Group) (n : ℕ) → 0 < length gs → n ≡ 1 + prefix_len (goes_on kind_at) (groups_view rows (drop 1 gs))
    → row_groups kind_of (groups_rows ps rows gs) ≡ groups_rows ps rows (take n gs) ∷ row_groups kind_of (groups_rows ps rows (drop n gs))
run_of ps rows [] n some e = absurd (omega arith)
run_of ps rows (g ∷ gs) n some e =
    let f = rows_view ps (group_view rows g) in
    let fs = groups_rows ps rows gs in
    let m = prefix_len (goes_on kind_of) fs in
    let is : n ≡ suc m = let q = goes_viewed ps rows gs in omega (arith, e, q) in
    runs_front (goes_on kind_of) f fs
    ∙ ap (λ us. (f ∷ us) ∷ row_groups kind_of (drop m fs)) (map_front ps rows m gs)
    ∙ ap (λ us. (f ∷ groups_rows ps rows (take m gs)) ∷ row_groups kind_of us) (map_map ps rows m gs)
    ∙ ap (λ k. groups_rows ps rows (take k (g ∷ gs)) ∷ row_groups kind_of (groups_rows ps rows (drop k (g ∷ gs)))) (sym is)

pub row_added : (read : Reading) (ps : List Piece) (rows : List RowAt) (gs rest front : List Group) (at n : ℕ) (out made all : List StretchAt)
    (whole : List Stretch)
    → 0 < length rest → rest ≡ drop at gs → n ≡ 1 + prefix_len (goes_on kind_at) (groups_view rows (drop 1 rest)) → front ≡ take n rest
    → stretches_view ps made ≡ row_of_groups read (groups_rows ps rows front) → all ≡ out ++ made
    → stretches_view ps out ++ rows_of_groups read (groups_rows ps rows (drop at gs)) ≡ whole
    → stretches_view ps all ++ rows_of_groups read (groups_rows ps rows (drop (at + n) gs)) ≡ whole
row_added read ps rows gs rest front at n out made all whole some er en ef is a h =
    let cut = run_of ps rows rest n some en in
    let next : drop n rest ≡ drop (at + n) gs = ap (drop n) er ∙ drop-drop n at gs in
    let step = made_added ps (row_of_groups read) out made all (groups_rows ps rows (take n rest)) (row_groups kind_of (groups_rows ps rows rest))
    (row_groups kind_of (groups_rows ps rows (drop n rest))) whole cut (is ∙ ap (λ us. row_of_groups read (groups_rows ps rows us)) ef) a
    (ap (λ us. stretches_view ps out ++ rows_of_groups read (groups_rows ps rows us)) er ∙ h) in
    ap (λ us. stretches_view ps all ++ rows_of_groups read (groups_rows ps rows us)) (sym next) ∙ step

-- ---- what the groups of a row begin with

parts_drop : (ps : List Piece) (rows : List RowAt) (n : ℕ) (gs : List Group) → AreParts (groups_rows ps rows gs) → AreParts (groups_rows ps rows (drop n gs))
parts_drop ps rows zero gs h = h
parts_drop ps rows (suc n) [] h = tt
parts_drop ps rows (suc n) (g ∷ gs) h = parts_drop ps rows n gs h.1

parts_take : (ps : List Piece) (rows : List RowAt) (n : ℕ) (gs : List Group) → AreParts (groups_rows ps rows gs) → AreParts (groups_rows ps rows (take n gs))
parts_take ps rows zero gs h = tt
parts_take ps rows (suc n) [] h = tt
parts_take ps rows (suc n) (g ∷ gs) h = (h.0, parts_take ps rows n gs h.1)

pub row_first : (ps : List Piece) (rows : List RowAt) (gs rest front : List Group) (at n : ℕ) → rest ≡ drop at gs → front ≡ take n rest
    → AreParts (groups_rows ps rows (drop at gs)) → AreParts (groups_rows ps rows (take 1 front))
row_first ps rows gs rest front at n er ef h =
    subst (λ (fs : List Group). AreParts (groups_rows ps rows (take 1 fs))) (sym (ef ∙ ap (take n) er))
    (parts_take ps rows 1 (take n (drop at gs)) (parts_take ps rows n (drop at gs) h))

pub next_parts : (ps : List Piece) (rows : List RowAt) (gs : List Group) (at n : ℕ) → AreParts (groups_rows ps rows (drop at gs))
    → AreParts (groups_rows ps rows (drop (at + n) gs))
next_parts ps rows gs at n h = subst (λ (fs : List Group). AreParts (groups_rows ps rows fs)) (drop-drop n at gs) (parts_drop ps rows n (drop at gs) h)

not_true : (b : Bool) → not b ≡ true → b ≡ false
not_true true e = cc
not_true false e = refl

goes_by : (v : Bool) (m k : ℕ) (own : List RowAt) → goes_on kind_at own ≡ v → suc m ≤ cond v (1 + k) 0 → (is_row (unit_kind kind_at own) ≡ false) × (m ≤ k)
goes_by true m k own e h = (not_true (is_row (unit_kind kind_at own)) e, omega arith)
goes_by false m k own e h = absurd (omega arith)

run_cells : (ps : List Piece) (rows : List RowAt) (m : ℕ) (gs : List Group) → m ≤ prefix_len (goes_on kind_at) (groups_view rows gs)
    → AreParts (groups_rows ps rows gs) → AllBegin false (groups_rows ps rows (take m gs))
run_cells ps rows zero gs l h = tt
run_cells ps rows (suc m) [] l h = tt
run_cells ps rows (suc m) (g ∷ gs) l h =
    let own = group_view rows g in
    let by = goes_by (goes_on kind_at own) m (prefix_len (goes_on kind_at) (groups_view rows gs)) own refl l in
    (part_cell ps own by.0 h.0, run_cells ps rows m gs by.1 h.1)

others_by : (ps : List Piece) (rows : List RowAt) (rest : List Group) (n : ℕ) → n ≡ 1 + prefix_len (goes_on kind_at) (groups_view rows (drop 1 rest))
    → AreParts (groups_rows ps rows rest) → AllBegin false (groups_rows ps rows (drop 1 (take n rest)))
others_by ps rows [] n e h = subst (λ (fs : List Group). AllBegin false (groups_rows ps rows (drop 1 fs))) (sym (take_all n [] (omega arith))) tt
others_by ps rows (g ∷ gs) n e h =
    let m = prefix_len (goes_on kind_at) (groups_view rows gs) in
    let is : n ≡ suc m = omega (arith, e) in
    subst (λ (k : ℕ). AllBegin false (groups_rows ps rows (drop 1 (take k (g ∷ gs))))) (sym is) (run_cells ps rows m gs (omega arith) h.1)

pub row_others : (ps : List Piece) (rows : List RowAt) (gs rest front : List Group) (at n : ℕ) → rest ≡ drop at gs → front ≡ take n rest
    → n ≡ 1 + prefix_len (goes_on kind_at) (groups_view rows (drop 1 rest)) → AreParts (groups_rows ps rows (drop at gs))
    → AllBegin false (groups_rows ps rows (drop 1 front))
row_others ps rows gs rest front at n er ef en h =
    subst (λ (fs : List Group). AllBegin false (groups_rows ps rows (drop 1 fs))) (sym ef)
    (others_by ps rows rest n en (subst (λ (fs : List Group). AreParts (groups_rows ps rows fs)) (sym er) h))
