-- The tree of a paragraph behind the sign of a table's end is that of its rows.
use Rattle.std.proofs.Common.{arith, ◌≡◌, ℕ, suc, ◌-◌, true, false, List, [], ◌∷◌, ◌++◌, length, map, sym, ap, ◌∙◌, append_assoc}
use Rattle.std.specs.List.{list_all}
use Rattle.wt_span.specs.Items.{Item, is_mark}
use Rattle.wt_expand.specs.PageItems.{page_items}
use Rattle.wt_lines.specs.declared.kind.LineKind.{LineKind}
use Rattle.wt_lines.specs.declared.kind.LineKind.TheVariants as line
use Rattle.wt_lines.specs.Lines.{content, full_lines}
use Rattle.wt_tables.specs.Extents.{behind}
use Rattle.wt_tables.specs.Parts.{joined}
use Rattle.wt_page.specs.Lines.{ending}
use Rattle.wt_page.specs.Rows.{Row, is_unseen, line_rows, rows_from}
use Rattle.wt_page.specs.Texts.{para}
use Rattle.wt_page.proofs.Ends.{content_ending}
use Rattle.wt_text_edit_laws.specs.TextBlocks.{a_paragraph, block_tree}
use Rattle.wt_text_edit_laws.proofs.Cuts.RowLines.{AllText}
use Rattle.wt_text_edit_laws.proofs.Cuts.TextLines.{joined_both, lines_of}
use Rattle.wt_text_edit_laws.proofs.Paragraphs.LineBlocks.{IsLineBlock}
use Rattle.wt_text_edit_laws.proofs.Paragraphs.Marks.{led}
use Rattle.wt_called_edit_laws.specs.AnyBlocks.{open_after, past_break}
use Rattle.wt_called_edit_laws.specs.PlacedLines.{LinedBlock, front_rows}
use Rattle.wt_called_edit_laws.specs.RowBlocks.{text_row}
use Rattle.wt_called_edit_laws.specs.TableEnds.{IsEndSign}
use Rattle.wt_called_edit_laws.specs.ToldLines.{a_paragraph_of, lined}
use Rattle.wt_called_edit_laws.proofs.AllTold.EndSigns.{none_sign}
use Rattle.wt_called_edit_laws.proofs.AllTold.LineKinds.{Lines}
use Rattle.wt_called_edit_laws.proofs.AllTold.OwnTrees.{OwnRound, tail_is, tail_ends, split, cancel_right, texts_from, marks_are}
use Rattle.wt_called_edit_laws.proofs.Cells.Cells.{own_para}
use Rattle.wt_called_edit_laws.proofs.Cells.CellRows.{own_rows}
use Rattle.wt_called_edit_laws.proofs.Cells.PlacedLines.{own_items}
use Rattle.wt_called_edit_laws.proofs.Cells.SignRows.{sign_kind, end_row, seen_rows, alone_rows, text_on_sign, first_is_seen, later_others}
use Rattle.wt_called_edit_laws.proofs.Cells.SpotRows.{text_block, led_para}

-- the rows of the sign's line, and of those behind it
signed_from : (n : ℕ) (s l : List Item) (r rest : Lines) (h : IsEndSign s) → is_unseen l ≡ false → AllText n r
    → rows_from (suc n) (((s ++ l) ∷ r) ++ rest) ≡ end_row h ∷ (map text_row (l ∷ r) ++ rows_from n rest)
signed_from n s l r rest h seen texts =
    let whole : List Item = h.lead ++ (h.bar ∷ h.brace ∷ l) in
    let is : s ++ l ≡ whole = ap (λ (xs : List Item). xs ++ l) h.is ∙ append_assoc h.lead (h.bar ∷ h.brace ∷ []) l in
    let one : suc n - 1 ≡ n = omega arith in
    ap (λ (xs : List Item). rows_from (suc n) ((xs ∷ r) ++ rest)) is
    ∙ ap (λ (k : LineKind). line_rows k whole ++ rows_from (behind (suc n) k) (r ++ rest)) (sign_kind n s l h)
    ∙ ap (λ (m : ℕ). line_rows line.TableEnd whole ++ rows_from m (r ++ rest)) one
    ∙ ap (λ (rs : List Row). rs ++ rows_from n (r ++ rest)) (seen_rows s l h seen)
    ∙ ap (λ (rs : List Row). end_row h ∷ text_row l ∷ rs) (texts_from n r rest texts)

sign_paragraph_is : (before : Lines) (x : Item) (xs m f : List Item) (r rest : Lines) → OwnRound (lined (a_paragraph_of before (x ∷ xs) m f r)) rest
    → IsEndSign (x ∷ xs) → list_all is_mark m ≡ true → is_unseen (m ++ f) ≡ false
    → AllText (length (open_after [] (front_rows 0 (lined (a_paragraph_of before (x ∷ xs) m f r))))) r
    → para (map text_row ((m ++ f) ∷ r)) ≡ block_tree a_paragraph (lined (a_paragraph_of before (x ∷ xs) m f r)).text
sign_paragraph_is before x xs m f r rest o h marks seen texts =
    let s : List Item = x ∷ xs in
    let b : LinedBlock = lined (a_paragraph_of before s m f r) in
    let n : ℕ = length (open_after [] (front_rows 0 b)) in
    let own : List Item = own_items b in
    let zs : List Item = page_items b.text in
    let ks : Lines = ((s ++ m) ++ f) ∷ r in
    let tail : List Item = ending own ++ joined rest in
    let w : IsLineBlock zs = text_block zs o.are in
    let mine : List Row = own_rows zs w tail in
    let whole_is : s ++ (m ++ (zs ++ tail)) ≡ joined (ks ++ rest) =
    ap (λ (ys : List Item). s ++ (m ++ (ys ++ tail))) o.items
    ∙ ap (λ (ys : List Item). s ++ (m ++ ys)) (sym (append_assoc (content own) (ending own) (joined rest)))
    ∙ ap (λ (ys : List Item). s ++ (m ++ (ys ++ joined rest))) (content_ending own)
    ∙ sym (append_assoc s m (own ++ joined rest))
    ∙ sym (append_assoc (s ++ m) own (joined rest))
    ∙ ap (λ (ys : List Item). ys ++ joined rest) (sym (append_assoc (s ++ m) f (joined r)))
    ∙ sym (joined_both ks rest) in
    let lines_are : full_lines (s ++ (m ++ (zs ++ tail))) ≡ ks ++ rest = ap full_lines whole_is ∙ lines_of (ks ++ rest) o.runs in
    let rest_are : full_lines (past_break tail) ≡ rest = tail_is (ending own) rest o.round.own_ending o.round.ends o.round.tail_runs in
    let rows_are : rows_from (suc n) (full_lines (s ++ (m ++ (zs ++ tail)))) ≡ line_rows line.TableEnd s ++ (led m mine ++ rows_from n (full_lines (past_break tail))) =
    text_on_sign n s zs m tail h w (marks_are m marks) (first_is_seen zs w o.are.seen) (later_others n zs w o.stays)
    (tail_ends (ending own) rest o.round.own_ending o.round.ends) in
    let own_lines : rows_from (suc n) (ks ++ rest) ≡ end_row h ∷ (map text_row ((m ++ f) ∷ r) ++ rows_from n rest) =
    ap (λ (l : List Item). rows_from (suc n) ((l ∷ r) ++ rest)) (append_assoc s m f) ∙ signed_from n s (m ++ f) r rest h seen texts in
    let both : end_row h ∷ (map text_row ((m ++ f) ∷ r) ++ rows_from n rest) ≡ end_row h ∷ (led m mine ++ rows_from n rest) =
    sym own_lines ∙ ap (rows_from (suc n)) (sym lines_are) ∙ rows_are
    ∙ ap (λ (rs : List Row). rs ++ (led m mine ++ rows_from n (full_lines (past_break tail)))) (alone_rows s h)
    ∙ ap (λ (ls : Lines). end_row h ∷ (led m mine ++ rows_from n ls)) rest_are in
    let same = split (end_row h) (end_row h) (map text_row ((m ++ f) ∷ r) ++ rows_from n rest) (led m mine ++ rows_from n rest) both in
    ap para (cancel_right (map text_row ((m ++ f) ∷ r)) (led m mine) (rows_from n rest) same.1)
    ∙ led_para m mine ∙ own_para zs tail w o.are.own_breaks

pub end_paragraph_is : (before : Lines) (s m f : List Item) (r rest : Lines) → OwnRound (lined (a_paragraph_of before s m f r)) rest → IsEndSign s
    → list_all is_mark m ≡ true → is_unseen (m ++ f) ≡ false → AllText (length (open_after [] (front_rows 0 (lined (a_paragraph_of before s m f r))))) r
    → para (map text_row ((m ++ f) ∷ r)) ≡ block_tree a_paragraph (lined (a_paragraph_of before s m f r)).text
end_paragraph_is before [] m f r rest o h marks seen texts = absurd (none_sign h)
end_paragraph_is before (x ∷ xs) m f r rest o h marks seen texts = sign_paragraph_is before x xs m f r rest o h marks seen texts
