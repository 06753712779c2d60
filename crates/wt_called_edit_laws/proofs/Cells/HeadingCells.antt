-- A heading in a cell is at the same place, whatever its text is.
use Rattle.std.proofs.Common.{◌≡◌, ℕ, None, List, [], ◌∷◌, ◌++◌, refl, sym, ap, ◌∙◌, append-nil}
use Rattle.wt_tree.specs.declared.kind.Kind.TheVariants as kind
use Rattle.wt_span.specs.Characters as byte
use Rattle.wt_span.specs.Items.{Item, char}
use Rattle.wt_lines.specs.Lines.{empty_end, full_lines}
use Rattle.wt_inline.specs.ItemTree.{plain}
use Rattle.wt_inline.specs.Parts.{children}
use Rattle.wt_page.specs.Headings.{heading}
use Rattle.wt_page.specs.Rows.{Row, rows_from, rows}
use Rattle.wt_page.specs.Stretches.{stretches_parts, node_of}
use Rattle.wt_page.specs.Body.{blocks}
use Rattle.wt_expand.specs.PageItems.{page_items}
use Rattle.wt_part_laws.specs.Rounds.{filled, in_cells, IsHeading, HeadingStands}
use Rattle.wt_part_laws.proofs.Fitting.{node_is}
use Rattle.wt_part_laws.proofs.HeadingsInCells.{heading_stands}
use Rattle.wt_text_edit_laws.specs.ParagraphBetween.{written_rows}
use Rattle.wt_text_edit_laws.specs.TypedHeadings.{Sides, AreSides, heading_line, heading_with, IsHeadingText, IsOfLevel}
use Rattle.wt_text_edit_laws.proofs.Headings.HeadingRows.{heading_row, rows_then, rows_last, tree_is}
use Rattle.wt_text_edit_laws.proofs.Blocks.BlockLines.{heading_sides, heading_text, heading_level}
use Rattle.wt_text_edit_laws.proofs.Paragraphs.Joining.{lines_join, rows_join}
use Rattle.wt_called_edit_laws.specs.InCells.{rows_behind, open_tables, AreBehind}
use Rattle.wt_called_edit_laws.specs.HeadingsInCells.{IsHeadingInCell, HeadingStandsInCell}
use Rattle.wt_called_edit_laws.proofs.Cells.CellRows.{in_order}
use Rattle.wt_called_edit_laws.proofs.Cells.Cells.{end_of, means}

-- ---- its row, and those behind it

own_row : (n : ℕ) (s : Sides) (own tail : List Item) (rs : List Row) → AreSides s → IsHeadingText own → IsOfLevel s own → AreBehind n tail rs
    → rows_from n (full_lines (heading_line s own ++ tail)) ≡ heading_row (heading_line s own) (end_of tail) ∷ rs
own_row n s own [] rs a h p e =
    ap (λ zs. rows_from n (full_lines zs)) (append-nil (heading_line s own))
    ∙ rows_last n s own a h p
    ∙ ap (λ zs. heading_row (heading_line s own) [] ∷ zs) e
own_row n s own (y ∷ ys) rs a h p e =
    ap (λ z. rows_from n (full_lines (heading_line s own ++ z ∷ ys))) e.0
    ∙ rows_then n s own ys a h p
    ∙ ap (λ zs. heading_row (heading_line s own) (char None byte.line_break ∷ []) ∷ zs) e.1

page_rows : (xs own tail : List Item) (s : Sides) (rs : List Row) → empty_end xs ≡ [] ∷ [] → AreSides s → IsHeadingText own → IsOfLevel s own
    → AreBehind (open_tables xs) tail rs
    → rows (xs ++ (heading_line s own ++ tail)) ≡ written_rows 0 (full_lines xs) ++ heading_row (heading_line s own) (end_of tail) ∷ rs
unfolding rows
page_rows xs own tail s rs whole a h p e =
    ap (rows_from 0) (lines_join xs (heading_line s own ++ tail) whole)
    ∙ rows_join 0 (full_lines xs) (full_lines (heading_line s own ++ tail))
    ∙ ap (λ zs. written_rows 0 (full_lines xs) ++ zs) (own_row (open_tables xs) s own tail rs a h p e)

-- ---- the page

pub heading_in_cell : (xs tail : List Item) → IsHeadingInCell xs tail → HeadingStandsInCell xs tail
heading_in_cell xs tail h =
    let p : HeadingStands h.tables h.front h.back [] (end_of tail) =
    heading_stands h.tables h.front h.back [] (end_of tail) h.rounds h.few h.front_content h.back_content in
    record {
      before = children (stretches_parts p.around.front);
      holders = p.around.holders;
      behind = children (stretches_parts p.around.back);
      of_cells = p.of_cells;
      stands = λ s q w.
          let own : List Item = page_items q in
          let a : AreSides s = heading_sides s q w in
          let t : IsHeadingText own = heading_text s q w in
          let v : IsOfLevel s own = heading_level s q w in
          let mine : Row = heading_row (heading_line s own) (end_of tail) in
          let is : IsHeading [] (end_of tail) mine = record { is = refl; led = refl; ended = refl } in
          let made : rows (xs ++ (heading_line s own ++ tail)) ≡ in_cells h.tables (h.front ++ mine ∷ h.back) =
          page_rows xs own tail s (rows_behind h.tables h.back) h.whole a t v h.are_behind
          ∙ ap (λ zs. zs ++ mine ∷ rows_behind h.tables h.back) h.are_before
          ∙ sym (in_order h.tables h.front (mine ∷ []) h.back) in
          means (xs ++ (heading_line s own ++ tail)) (filled p.around (heading (heading_line s own))) (ap blocks made ∙ p.stands mine is)
          ∙ ap (λ u. node_of (plain kind.Body) [] (filled p.around u) []) (tree_is s own a t v)
          ∙ node_is (plain kind.Body) [] p.around (heading_with s own) p.around.front p.around.back [];
    }
