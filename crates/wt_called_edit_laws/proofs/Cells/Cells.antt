-- A paragraph in a cell is at the same place, whatever its text is.
use Rattle.std.proofs.Common.{◌≡◌, ℕ, List, [], ◌∷◌, ◌++◌, refl, sym, ap, ◌∙◌, subst}
use Rattle.wt_tree.specs.declared.kind.Kind.TheVariants as kind
use Rattle.wt_span.specs.Items.{Item}
use Rattle.wt_lines.specs.Lines.{lines}
use Rattle.wt_inline.specs.ItemTree.{plain}
use Rattle.wt_inline.specs.Parts.{children}
use Rattle.wt_page.specs.Rows.{Row, rows}
use Rattle.wt_page.specs.Stretches.{Stretch, stretches_parts, node_of}
use Rattle.wt_page.specs.Texts.{para}
use Rattle.wt_page.specs.Body.{blocks, meaning}
use Rattle.wt_expand.specs.PageItems.{page_items}
use Rattle.wt_typed_blocks.proofs.TextKinds.{lines_are_text}
use Rattle.wt_part_laws.specs.Rounds.{filled, in_cells, AreTexts as AreTextRows, ParagraphStands}
use Rattle.wt_part_laws.proofs.Fitting.{node_is}
use Rattle.wt_part_laws.proofs.InCells.{paragraph_stands}
use Rattle.wt_text_edit_laws.specs.LonePages.{para_of}
use Rattle.wt_text_edit_laws.specs.TypedPages.{IsTypedPage}
use Rattle.wt_text_edit_laws.specs.ParagraphParts.{joined_parts, para_with}
use Rattle.wt_text_edit_laws.proofs.Prose.ProseReading.{break}
use Rattle.wt_text_edit_laws.proofs.Prose.ProseLines.{first_ended, rest_ended, IsTextBlock}
use Rattle.wt_text_edit_laws.proofs.Prose.ProseBlocks.{last_ended, last_unended}
use Rattle.wt_text_edit_laws.proofs.Paragraphs.LineBlocks.{OwnBreaks, page_breaks, IsLineBlock, as_lines, paragraph_last, paragraph_texts, rows_para, ended_para, text_tree}
use Rattle.wt_text_edit_laws.proofs.Paragraphs.Texts.{paragraph_written}
use Rattle.wt_called_edit_laws.specs.InCells.{rows_behind, AreTextLines, IsInCell, StandsInCell}
use Rattle.wt_called_edit_laws.proofs.Cells.CellRows.{in_order, own_rows, page_rows}

-- ---- its rows are one paragraph

abbrev pub end_of : List Item → List Item
end_of [] = []
end_of (y ∷ ys) = break ∷ []

pub own_are : (own tail : List Item) (b : IsLineBlock own) → AreTextRows [] (end_of tail) (own_rows own b tail)
own_are own [] b =
    (paragraph_texts b.first b.others, refl, paragraph_last b.first b.others ∙ last_unended b.first b.others ∙ b.are_unended)
own_are own (y ∷ ys) b =
    let first : List Item = first_ended b.first b.others in
    let rest : List (List Item) = rest_ended b.first b.others in
    (paragraph_texts first rest, refl, paragraph_last first rest ∙ last_ended b.first b.others)

pub own_para : (own tail : List Item) (b : IsLineBlock own) → OwnBreaks own → para (own_rows own b tail) ≡ para_with (joined_parts (lines own))
own_para own [] b o = rows_para own b o
own_para own (y ∷ ys) b o = ended_para own b o

-- ---- the page

pub means : (xs : List Item) (ss : List Stretch) → blocks (rows xs) ≡ ss → meaning xs ≡ node_of (plain kind.Body) [] ss []
unfolding meaning
means xs ss e = ap (λ zs. node_of (plain kind.Body) [] zs []) e

pub stands_in_cell : (xs tail : List Item) → IsInCell xs tail → StandsInCell xs tail
stands_in_cell xs tail h =
    let p : ParagraphStands h.tables h.front h.back [] (end_of tail) =
    paragraph_stands h.tables h.front h.back [] (end_of tail) h.rounds h.few h.front_content h.back_content h.front_apart h.back_apart in
    record {
      before = children (stretches_parts p.around.front);
      holders = p.around.holders;
      behind = children (stretches_parts p.around.back);
      of_cells = p.of_cells;
      stands = λ q w a.
          let own : List Item = page_items q in
          let text : IsTextBlock own = (paragraph_written q w).0 in
          let b : IsLineBlock own = as_lines own text in
          let mine : List Row = own_rows own b tail in
          let made : rows (xs ++ (own ++ tail)) ≡ in_cells h.tables (h.front ++ (mine ++ h.back)) =
          page_rows xs own tail b (rows_behind h.tables h.back) h.whole a h.are_behind
          ∙ ap (λ zs. zs ++ (mine ++ rows_behind h.tables h.back)) h.are_before
          ∙ sym (in_order h.tables h.front mine h.back) in
          means (xs ++ (own ++ tail)) (filled p.around (para mine)) (ap blocks made ∙ p.stands mine (own_are own tail b))
          ∙ ap (λ t. node_of (plain kind.Body) [] (filled p.around t) []) (own_para own tail b (page_breaks q) ∙ text_tree own text (page_breaks q))
          ∙ node_is (plain kind.Body) [] p.around (para_of own) p.around.front p.around.back [];
    }

-- ---- typed text

pub typed_stays_text : (n : ℕ) (q : List ℕ) → IsTypedPage q → AreTextLines n (page_items q)
typed_stays_text n q h =
    subst (λ bs. AreTextLines n (page_items bs)) (sym h.is) (lines_are_text h.setting h.text n h.utf8 h.of_block)
