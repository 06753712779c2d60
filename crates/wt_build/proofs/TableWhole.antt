-- A table from the row that opens it to the one that ends it.
use Rattle.std.proofs.Common.{◌≡◌, ◌≤◌, ℕ, suc, ◌+◌, ◌-◌, List, [], ◌∷◌, ◌++◌, length, min, take, drop, map, get_or, refl, sym, ap, ◌∙◌, arith}
use Rattle.std.proofs.lemmas.List.{take-map, drop-map, length-map, length-take}
use Rattle.wt_span.specs.declared.form.Piece.{Piece}
use Rattle.wt_tables.specs.Parts.{table_of}
use Rattle.wt_rows.specs.declared.row.RowAt.{RowAt}
use Rattle.wt_page.specs.Rows.{Row, kind_of}
use Rattle.wt_page.specs.Stretches.{Stretch}
use Rattle.wt_page.specs.Tables.{Reading, gaps, table_by, table_inside, last_of, without_last, table}
use Rattle.wt_rows.specs.Units.{kind_at, plain_count}
use Rattle.wt_rows.specs.Groups.{group_rows}
use Rattle.wt_build.specs.RowGroups.{inside_groups}
use Rattle.wt_rows.specs.Delimiters.{table_with}
use Rattle.wt_rows.specs.Views.{row_view, rows_view}
use Rattle.wt_rows.proofs.Grouping.{plain_within}
use Rattle.wt_rows.proofs.GroupSteps.{kinds_viewed}
use Rattle.wt_rows.proofs.JoinedRows.{take_take}
use Rattle.wt_build.proofs.TableGroups.{inside_is, opening_is}

pub table_short : (read : Reading) (ps : List Piece) (rows : List RowAt) → length rows ≤ 1 → gaps (rows_view ps rows) ≡ table read (rows_view ps rows)
table_short read ps [] h = refl
table_short read ps (r ∷ []) h = refl
table_short read ps (r ∷ s ∷ rows) h = absurd (omega arith)

without_is : (s : Row) (rs : List Row) → without_last s rs ≡ take (length rs) (s ∷ rs)
without_is s [] = refl
without_is s (t ∷ rs) = ap (λ us. s ∷ us) (without_is t rs)

last_is : (ps : List Piece) (s d : RowAt) (rs : List RowAt) → last_of (row_view ps s) (rows_view ps rs) ≡ row_view ps (get_or (s ∷ rs) (length rs) d)
last_is ps s d [] = refl
last_is ps s d (t ∷ rs) = last_is ps t d rs

by_parts : (read : Reading) (r end : Row) (inside : List Row)
    → table_by read (table_of kind_of r inside) end
    ≡ table_with ((table_of kind_of r inside).opening ++ (table_of kind_of r inside).between) (table_inside read (table_of kind_of r inside)) end
unfolding table_by
by_parts read r end inside = refl

by_groups : (read : Reading) (r end : Row) (inside : List Row) (n : ℕ) → n ≡ plain_count 0 (map kind_of inside)
    → table_with (r ∷ take n inside) (inside_groups read (group_rows kind_of (drop n inside))) end ≡ table_by read (table_of kind_of r inside) end
by_groups read r end inside n e =
    ap (λ k. table_with (r ∷ take k inside) (inside_groups read (group_rows kind_of (drop k inside))) end) e
    ∙ ap (λ os. table_with os (inside_groups read (group_rows kind_of (drop (plain_count 0 (map kind_of inside)) inside))) end) (sym (opening_is r inside))
    ∙ ap (λ ss. table_with ((table_of kind_of r inside).opening ++ (table_of kind_of r inside).between) ss end) (sym (inside_is read r inside))
    ∙ sym (by_parts read r end inside)

pub table_whole : (read : Reading) (ps : List Piece) (rows inner behind front rest : List RowAt) (d : RowAt) (n : ℕ) (held ls : List Stretch) → 2 ≤ length rows
    → behind ≡ drop 1 rows → inner ≡ take (length rows - 1 - 1) behind → n ≡ plain_count 0 (map kind_at inner) → rest ≡ drop n inner → front ≡ take (1 + n) rows
    → held ≡ inside_groups read (group_rows kind_of (rows_view ps rest))
    → ls ≡ table_with (rows_view ps front) held (row_view ps (get_or rows (length rows - 1) d)) → ls ≡ table read (rows_view ps rows)
table_whole read ps [] inner behind front rest d n held ls w eb ei en er ef eh el = absurd (omega arith)
table_whole read ps (r ∷ []) inner behind front rest d n held ls w eb ei en er ef eh el = absurd (omega arith)
table_whole read ps (r ∷ s ∷ rs) inner behind front rest d n held ls w eb ei en er ef eh el =
    let k = length rs in
    let size : length (r ∷ s ∷ rs) - 1 - 1 ≡ k = omega arith in
    let last : length (r ∷ s ∷ rs) - 1 ≡ suc k = omega arith in
    let one : 1 + n ≡ suc n = omega arith in
    let is : inner ≡ take k (s ∷ rs) = ei ∙ ap (take (length (r ∷ s ∷ rs) - 1 - 1)) eb ∙ ap (λ m. take m (s ∷ rs)) size in
    let view : rows_view ps inner ≡ without_last (row_view ps s) (rows_view ps rs) =
    ap (rows_view ps) is ∙ sym (take-map (row_view ps) k (s ∷ rs)) ∙ ap (λ m. take m (rows_view ps (s ∷ rs))) (sym (length-map rs (row_view ps)))
    ∙ sym (without_is (row_view ps s) (rows_view ps rs)) in
    let len : length inner ≡ min k (suc k) = ap length is ∙ length-take k (s ∷ rs) in
    let few : plain_count 0 (map kind_at inner) ≤ length (map kind_at inner) = plain_within 0 (map kind_at inner) in
    let same : length (map kind_at inner) ≡ length inner = length-map inner kind_at in
    let whole : k ≡ n + (k - n) = omega (arith, len, few, same, en) in
    let cut : take n inner ≡ take n (s ∷ rs) = ap (take n) is ∙ ap (λ m. take n (take m (s ∷ rs))) whole ∙ take_take n (k - n) (s ∷ rs) in
    let fv : rows_view ps front ≡ row_view ps r ∷ take n (rows_view ps inner) =
    ap (rows_view ps) (ef ∙ ap (λ m. take m (r ∷ s ∷ rs)) one ∙ ap (λ us. r ∷ us) (sym cut))
    ∙ ap (λ us. row_view ps r ∷ us) (sym (take-map (row_view ps) n inner)) in
    let rv : rows_view ps rest ≡ drop n (rows_view ps inner) = ap (rows_view ps) er ∙ sym (drop-map (row_view ps) n inner) in
    let end = row_view ps (get_or (r ∷ s ∷ rs) (length (r ∷ s ∷ rs) - 1) d) in
    let ends : end ≡ last_of (row_view ps s) (rows_view ps rs) = ap (λ m. row_view ps (get_or (r ∷ s ∷ rs) m d)) last ∙ sym (last_is ps s d rs) in
    el
    ∙ ap (λ os. table_with os held end) fv
    ∙ ap (λ ss. table_with (row_view ps r ∷ take n (rows_view ps inner)) ss end) (eh ∙ ap (λ us. inside_groups read (group_rows kind_of us)) rv)
    ∙ by_groups read (row_view ps r) end (rows_view ps inner) n (en ∙ ap (plain_count 0) (sym (kinds_viewed ps inner)))
    ∙ ap (λ us. table_by read (table_of kind_of (row_view ps r) us) end) view
    ∙ ap (λ v. table_by read (table_of kind_of (row_view ps r) (without_last (row_view ps s) (rows_view ps rs))) v) ends
