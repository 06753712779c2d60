-- Tables by groups of their rows: steps.
use Rattle.std.proofs.Common.{◌≡◌, ◌<◌, ◌≤◌, ℕ, zero, suc, ◌+◌, ◌-◌, Bool, List, [], ◌∷◌, ◌++◌, length, drop, get_or, refl, sym, ap, ◌∙◌, subst, arith, append-nil}
use Rattle.std.specs.List.{flat_map}
use Rattle.std.proofs.lemmas.List.{drop_more, drop_all}
use Rattle.wt_span.specs.declared.form.Piece.{Piece}
use Rattle.wt_tables.specs.Cells.{cells_from}
use Rattle.wt_rows.specs.declared.row.RowAt.{RowAt}
use Rattle.wt_rows.specs.declared.group.Group.{Group}
use Rattle.wt_rows.specs.declared.stretch.StretchAt.{StretchAt}
use Rattle.wt_page.specs.Rows.{Row, signs}
use Rattle.wt_page.specs.Stretches.{Stretch, gap}
use Rattle.wt_page.specs.Tables.{Reading, gaps, cells_by, cell_stretches}
use Rattle.wt_page.specs.Body.{within}
use Rattle.wt_rows.specs.Ready.{BeginsCell, AreReadyRows}
use Rattle.wt_build.specs.Blocks.{reading_at}
use Rattle.wt_rows.specs.GroupViews.{group_view}
use Rattle.wt_build.specs.CellGroups.{groups_rows, FirstBegins, AllBegin}
use Rattle.wt_rows.specs.Views.{row_view, rows_view, stretches_view}
use Rattle.wt_rows.proofs.Celling.{made_added}
use Rattle.wt_rows.proofs.Straying.{ready_front, ready_rest}

-- ---- what is read in a cell

pub gaps_read : (n : ℕ) (rs : List Row) → n ≤ 0 → gaps rs ≡ reading_at n rs
gaps_read zero rs h = refl
gaps_read (suc n) rs h = absurd (omega arith)

pub blocks_read : (n m : ℕ) (rs : List Row) → 0 < n → m ≡ n - 1 → within m rs ≡ reading_at n rs
blocks_read zero m rs h e = absurd (omega arith)
blocks_read (suc n) m rs h e = let is : m ≡ n = omega (arith, e) in ap (λ k. within k rs) is

-- ---- the cells of a group

pub first_sign : (ps : List Piece) (rows : List RowAt) (d : RowAt) (caption : Bool) → 0 < length rows → FirstBegins caption (rows_view ps rows)
    → BeginsCell caption (signs (row_view ps (get_or rows 0 d)).items)
first_sign ps [] d caption some h = absurd (omega arith)
first_sign ps (r ∷ rows) d caption some h = h

pub no_cells : (read : Reading) (caption : Bool) (ps : List Piece) (rows : List RowAt) (l : List StretchAt) → length rows ≡ 0 → l ≡ []
    → stretches_view ps l ≡ cell_stretches read caption (rows_view ps rows)
unfolding cell_stretches
no_cells read caption ps [] l e el = ap (stretches_view ps) el
no_cells read caption ps (r ∷ rows) l e el = absurd (omega arith)

pub cells_read : (read : Reading) (caption : Bool) (ps : List Piece) (rows rest : List RowAt) (d : RowAt) (inside ls : List Stretch) → 0 < length rows
    → rest ≡ drop 1 rows → inside ≡ read (rows_view ps rest)
    → ls ≡ gap (row_view ps (get_or rows 0 d)).lead ∷ cells_by caption (cells_from caption (row_view ps (get_or rows 0 d)).items)
    (gap (row_view ps (get_or rows 0 d)).ending ∷ inside)
    → ls ≡ cell_stretches read caption (rows_view ps rows)
unfolding cell_stretches
cells_read read caption ps [] rest d inside ls some er ei el = absurd (omega arith)
cells_read read caption ps (r ∷ rows) rest d inside ls some er ei el =
    el ∙ ap (λ ss. gap (row_view ps r).lead ∷ cells_by caption (cells_from caption (row_view ps r).items) (gap (row_view ps r).ending ∷ ss))
    (ei ∙ ap (λ rs. read (rows_view ps rs)) er)

-- ---- groups, one after the other

pub group_more : (ps : List Piece) (rows : List RowAt) (gs : List Group) (i : ℕ) (d : Group) → i < length gs
    → groups_rows ps rows (drop i gs) ≡ rows_view ps (group_view rows (get_or gs i d)) ∷ groups_rows ps rows (drop (i + 1) gs)
group_more ps rows gs i d l = ap (groups_rows ps rows) (drop_more gs i d l)

pub group_begins : (ps : List Piece) (rows own : List RowAt) (gs : List Group) (i : ℕ) (d : Group) (caption : Bool) → i < length gs
    → own ≡ group_view rows (get_or gs i d) → AllBegin caption (groups_rows ps rows (drop i gs))
    → FirstBegins caption (rows_view ps own) × AllBegin caption (groups_rows ps rows (drop (i + 1) gs))
group_begins ps rows own gs i d caption l e h =
    let all : AllBegin caption (rows_view ps (group_view rows (get_or gs i d)) ∷ groups_rows ps rows (drop (i + 1) gs)) =
    subst (λ (fs : List (List Row)). AllBegin caption fs) (group_more ps rows gs i d l) h in
    (subst (λ (rs : List RowAt). FirstBegins caption (rows_view ps rs)) (sym e) all.0, all.1)

pub group_read : (ps : List Piece) (rows own : List RowAt) (gs : List Group) (i : ℕ) (d : Group) (f : List Row → List Stretch) (out made all : List StretchAt)
    (whole : List Stretch) → i < length gs → own ≡ group_view rows (get_or gs i d) → stretches_view ps made ≡ f (rows_view ps own) → all ≡ out ++ made
    → stretches_view ps out ++ flat_map f (groups_rows ps rows (drop i gs)) ≡ whole
    → stretches_view ps all ++ flat_map f (groups_rows ps rows (drop (i + 1) gs)) ≡ whole
group_read ps rows own gs i d f out made all whole l e is a h =
    made_added ps f out made all (rows_view ps (group_view rows (get_or gs i d))) (groups_rows ps rows (drop i gs))
    (groups_rows ps rows (drop (i + 1) gs)) whole
    (group_more ps rows gs i d l) (is ∙ ap (λ rs. f (rows_view ps rs)) e) a h

pub groups_done : (ps : List Piece) (rows : List RowAt) (gs : List Group) (i : ℕ) (f : List Row → List Stretch) (out l : List StretchAt) (whole : List Stretch)
    → length gs ≤ i → l ≡ out → stretches_view ps out ++ flat_map f (groups_rows ps rows (drop i gs)) ≡ whole → stretches_view ps l ≡ whole
groups_done ps rows gs i f out l whole w el h =
    ap (stretches_view ps) el ∙ sym (append-nil (stretches_view ps out))
    ∙ ap (λ fs. stretches_view ps out ++ flat_map f (groups_rows ps rows fs)) (sym (drop_all i gs w)) ∙ h

pub ready_group : (ps : List Piece) (rows own : List RowAt) (g : Group) → AreReadyRows ps rows → own ≡ group_view rows g → AreReadyRows ps own
ready_group ps rows own g h e = ready_front ps (drop g.from rows) own (g.to - g.from) (ready_rest ps rows (drop g.from rows) g.from h refl) e
