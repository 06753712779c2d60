-- Rows of few bytes have few items.
use Rattle.std.proofs.Common.{◌≡◌, ℕ, zero, suc, ◌≤◌, ◌^◌, ◌<◌, List, [], ◌∷◌, ◌++◌, length, get_or, take, drop, refl, ap, arith, length-append, length-drop}
use Rattle.std.specs.Prelude.{All}
use Rattle.std.proofs.lemmas.List.{length-take}
use Rattle.std.proofs.lemmas.List.Elements.{All-take, All-drop}
use Rattle.wt_span.specs.declared.form.Piece.{Piece}
use Rattle.wt_span.specs.Items.{Item, items, sources}
use Rattle.wt_span.specs.Origins.{IsSoundPiece}
use Rattle.wt_page.proofs.PieceWidths.{items_within}
use Rattle.wt_page.specs.Rows.{Row, row_items, all_items, unwritten_end}
use Rattle.wt_rows.specs.declared.row.RowAt.{RowAt}
use Rattle.wt_rows.specs.Ready.{IsReadyRow, AreInOrder, AreFewRows, AreReadyRows}
use Rattle.wt_rows.specs.Views.{slice, row_view, rows_view}
use Rattle.wt_rows.proofs.FewRows.{bytes_join}
use Rattle.wt_rows.proofs.Straying.{row_slice}

row_few : (ps : List Piece) (r : RowAt) (bytes : ℕ) → All IsSoundPiece ps → IsReadyRow ps r → length (sources (row_items (row_view ps r))) ≤ bytes
    → length (row_items (row_view ps r)) ≤ bytes
row_few ps r bytes sound ready few =
    let own = slice r.start r.end ps in
    let is = row_slice ps r ready in
    let within = items_within own (All-take IsSoundPiece _ _ (All-drop IsSoundPiece _ _ sound)) in
    omega (arith, within, ap length is, ap (λ xs. length (sources xs)) is, few)

rows_few : (ps : List Piece) (rs : List RowAt) (n : ℕ) → All IsSoundPiece ps → AreInOrder ps rs → AreFewRows (rows_view ps rs)
    → length (row_items (get_or (rows_view ps rs) n unwritten_end)) < 2 ^ 32
rows_few ps [] n sound order few = omega arith
rows_few ps (r ∷ rs) zero sound order few =
    let bytes = length (sources (row_items (row_view ps r))) in
    omega
    (arith, row_few ps r bytes sound order.0 (omega arith), bytes_join (row_items (row_view ps r)) (all_items (rows_view ps rs)), few)
rows_few ps (r ∷ rs) (suc n) sound order few =
    rows_few ps rs n sound order.2 (omega (arith, bytes_join (row_items (row_view ps r)) (all_items (rows_view ps rs)), few))

-- a row has few items
pub few_items : (ps : List Piece) (rs : List RowAt) (n : ℕ) → AreReadyRows ps rs → length (row_items (get_or (rows_view ps rs) n unwritten_end)) < 2 ^ 32
few_items ps rs n h = rows_few ps rs n h.sound h.rows h.few

view_at : (ps : List Piece) (rs : List RowAt) (n : ℕ) (d : RowAt) → n < length rs
    → row_view ps (get_or rs n d) ≡ get_or (rows_view ps rs) n unwritten_end
view_at ps [] n d l = absurd (omega arith)
view_at ps (r ∷ rs) zero d l = refl
view_at ps (r ∷ rs) (suc n) d l = view_at ps rs n d (omega arith)

pub few_at : (ps : List Piece) (rs : List RowAt) (n : ℕ) (d : RowAt) → AreReadyRows ps rs → n < length rs
    → length (row_items (row_view ps (get_or rs n d))) < 2 ^ 32
few_at ps rs n d h l = omega (arith, ap (λ r. length (row_items r)) (view_at ps rs n d l), few_items ps rs n h)

-- what lies between the places of a row
pub few_between : (r : Row) → length (row_items r) < 2 ^ 32 → length r.items < 2 ^ 32
few_between r h = omega (arith, length-append r.lead (r.items ++ r.ending), length-append r.items r.ending, h)

-- ---- parts of a line

pub few_front_items : (n : ℕ) (xs ys : List Item) → ys ≡ take n xs → length xs < 2 ^ 32 → length ys < 2 ^ 32
few_front_items n xs ys e h = omega (arith, ap length e, length-take n xs, h)

pub few_rest_items : (n : ℕ) (xs ys : List Item) → ys ≡ drop n xs → length xs < 2 ^ 32 → length ys < 2 ^ 32
few_rest_items n xs ys e h = omega (arith, ap length e, length-drop n xs, h)
