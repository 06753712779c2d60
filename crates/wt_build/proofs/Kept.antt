-- What is read of pieces and what is left of them have their bytes.
use Rattle.std.proofs.Common.{◌≡◌, ◌+◌, ◌^◌, ◌<◌, ◌≤◌, List, ◌++◌, length, sym, ap, subst, arith}
use Rattle.wt_span.specs.declared.form.Piece.{Piece}
use Rattle.wt_span.specs.Items.{Item, sources}
use Rattle.wt_page.specs.Rows.{all_items}
use Rattle.wt_rows.specs.declared.row.RowAt.{RowAt}
use Rattle.wt_rows.specs.declared.rows.PageRows.{PageRows}
use Rattle.wt_rows.specs.Building.{ArePageRows, made_rows}
use Rattle.wt_rows.specs.Ready.{AreReadyRows}
use Rattle.wt_rows.proofs.FewRows.{bytes_join}

-- what is left has at most the bytes of all
pub left_few : (front back all : List Item) → all ≡ front ++ back → length (sources back) ≤ length (sources all)
left_few front back all e =
    let same : length (sources all) ≡ length (sources (front ++ back)) = ap (λ xs. length (sources xs)) e in
    omega (arith, same, bytes_join front back)

-- the rows of a portion
pub page_ready : (p : PageRows) (ps : List Piece) (rs : List RowAt) (after all : List Item) → ArePageRows p → ps ≡ p.pieces → rs ≡ p.rows
    → all_items (made_rows p) ++ after ≡ all → length (sources all) < 2 ^ 32 → AreReadyRows ps rs
page_ready p ps rs after all h e f kept few =
    let same : length (sources (all_items (made_rows p) ++ after)) ≡ length (sources all) = ap (λ xs. length (sources xs)) kept in
    let own : AreReadyRows p.pieces p.rows = record {
      sound = h.ready.sound;
      parted = h.ready.parted;
      rows = h.ready.rows;
      few = omega (arith, same, bytes_join (all_items (made_rows p)) after, few);
    } in
    subst (λ (qs : List Piece). AreReadyRows qs rs) (sym e) (subst (λ (ss : List RowAt). AreReadyRows p.pieces ss) (sym f) own)
