-- Some of the rows have no more bytes than all.
use Rattle.std.proofs.Common.{◌≡◌, ℕ, ◌+◌, ◌≤◌, ◌^◌, ◌<◌, List, [], ◌∷◌, ◌++◌, length, take, drop, sym, ap, ◌∙◌, arith, append-nil, length-append, replicate}
use Rattle.std.proofs.lemmas.Grind.{flat_map-append}
use Rattle.std.proofs.lemmas.List.{map-append, take-append-drop}
use Rattle.wt_span.specs.declared.form.Piece.{Piece}
use Rattle.wt_span.specs.Items.{Item, items, source, sources}
use Rattle.wt_span.proofs.RunLaws.{runs_joined}
use Rattle.wt_lines.specs.Lines.{full_lines, goes_on}
use Rattle.wt_page.specs.Rows.{Row, row_items, all_items, rows, rows_from, unwritten_end}
use Rattle.wt_page.proofs.HeldRows.{from_lines, rows_join, unwritten}
use Rattle.wt_rows.specs.declared.row.RowAt.{RowAt}
use Rattle.wt_rows.specs.Building.{IsRowsSoFar}
use Rattle.wt_rows.specs.Ready.{AreFewRows}
use Rattle.wt_rows.specs.Views.{row_view, rows_view}

pub bytes_join : (xs ys : List Item) → length (sources (xs ++ ys)) ≡ length (sources xs) + length (sources ys)
bytes_join xs ys = ap length (flat_map-append source xs ys) ∙ length-append (sources xs) (sources ys)

rows_join_bytes : (rs ss : List Row) → length (sources (all_items (rs ++ ss))) ≡ length (sources (all_items rs)) + length (sources (all_items ss))
rows_join_bytes rs ss = ap (λ xs. length (sources xs)) (flat_map-append row_items rs ss) ∙ bytes_join (all_items rs) (all_items ss)

apart : (ps : List Piece) (rs : List RowAt) (n : ℕ)
    → length (sources (all_items (rows_view ps rs)))
    ≡ length (sources (all_items (rows_view ps (take n rs)))) + length (sources (all_items (rows_view ps (drop n rs))))
apart ps rs n =
    ap (λ vs. length (sources (all_items vs)))
    (ap (rows_view ps) (sym (take-append-drop n rs)) ∙ map-append (row_view ps) (take n rs) (drop n rs))
    ∙ rows_join_bytes (rows_view ps (take n rs)) (rows_view ps (drop n rs))

pub few_rest : (ps : List Piece) (rs : List RowAt) (n : ℕ) → AreFewRows (rows_view ps rs) → AreFewRows (rows_view ps (drop n rs))
few_rest ps rs n h = omega (arith, apart ps rs n, h)

pub few_front : (ps : List Piece) (rs : List RowAt) (n : ℕ) → AreFewRows (rows_view ps rs) → AreFewRows (rows_view ps (take n rs))
few_front ps rs n h = omega (arith, apart ps rs n, h)

-- the items of the first row
pub few_first : (r : Row) (rs : List Row) → AreFewRows (r ∷ rs) → length (sources r.items) < 2 ^ 32
few_first r rs h =
    omega (
      arith,
      bytes_join (row_items r) (all_items rs),
      bytes_join r.lead (r.items ++ r.ending),
      bytes_join r.items r.ending,
      h,
    )

-- ---- portions

-- the rows of a portion and what is left are all items
pub portion_kept : (made final : List Row) (tables : ℕ) (xs : List Item) (left : List Piece) → final ≡ made ++ replicate tables unwritten_end
    → IsRowsSoFar made tables left (rows xs) → all_items final ++ items left ≡ xs
portion_kept made final tables xs left e so_far =
    let ends : all_items final ≡ all_items made =
    ap all_items e ∙ flat_map-append row_items made (replicate tables unwritten_end) ∙ ap (λ ys. all_items made ++ ys) (unwritten tables)
    ∙ append-nil (all_items made) in
    let lines : all_items (rows_from tables (full_lines (items left))) ≡ items left =
    from_lines tables (full_lines (items left)) ∙ runs_joined goes_on (items left) in
    ap (λ ys. ys ++ items left) ends
    ∙ ap (λ ys. all_items made ++ ys) (sym lines)
    ∙ sym (flat_map-append row_items made (rows_from tables (full_lines (items left))))
    ∙ ap all_items so_far
    ∙ rows_join xs
