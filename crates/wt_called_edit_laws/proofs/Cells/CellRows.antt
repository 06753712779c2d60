-- The rows of a page with a paragraph in a cell: those before it, its own lines as rows of text, and those behind it.
use Rattle.std.proofs.Common.{◌≡◌, ℕ, List, [], ◌∷◌, ◌++◌, map, refl, sym, ap, ◌∙◌, subst, append-nil, append_assoc, All}
use Rattle.std.proofs.lemmas.List.Elements.{All-head, All-tail}
use Rattle.wt_span.specs.Items.{Item}
use Rattle.wt_span.proofs.RunLaws.{runs_only}
use Rattle.wt_lines.specs.declared.kind.LineKind.{LineKind}
use Rattle.wt_lines.specs.declared.kind.LineKind.TheVariants as line
use Rattle.wt_lines.specs.Kinds.{line_kind}
use Rattle.wt_lines.specs.Lines.{goes_on, full_lines, content, empty_end}
use Rattle.wt_lines.proofs.FullLines.{same_lines}
use Rattle.wt_tables.specs.Extents.{behind}
use Rattle.wt_page.specs.Lines.{kind_at, ending}
use Rattle.wt_page.specs.Rows.{Row, marks_len, whole_row, line_rows, rows_from, rows}
use Rattle.wt_part_laws.specs.Rounds.{TableRound, in_cell, in_cells}
use Rattle.wt_text_edit_laws.specs.ParagraphBetween.{written_rows}
use Rattle.wt_text_edit_laws.proofs.Texts.PlainRows.{last_break}
use Rattle.wt_text_edit_laws.proofs.Prose.ProseReading.{break}
use Rattle.wt_text_edit_laws.proofs.Prose.ProseLines.{first_ended, rest_ended, ended, content_ended, ended_runs}
use Rattle.wt_text_edit_laws.proofs.Paragraphs.LineBlocks.{later_row, paragraph_rows, IsLineBlock, block_runs, still_unled}
use Rattle.wt_text_edit_laws.proofs.Paragraphs.Joining.{lines_join, rows_join}
use Rattle.wt_called_edit_laws.specs.InCells.{rows_before, rows_behind, open_tables, AreBehind, AreTextLines}

-- ---- rows in cells, in order

one_cell : (t : TableRound) (B rs H : List Row) → in_cell t (B ++ (rs ++ H))
    ≡ (t.before ++ (t.first ∷ (t.inside ++ (t.cell ∷ B)))) ++ (rs ++ (H ++ (t.further ++ (t.last ∷ t.behind))))
one_cell t B rs H =
    let Z : List Row = rs ++ (H ++ t.further) in
    let W : List Row = rs ++ (H ++ (t.further ++ (t.last ∷ t.behind))) in
    let inner : (B ++ (rs ++ H)) ++ t.further ≡ B ++ Z = append_assoc B (rs ++ H) t.further ∙ ap (λ zs. B ++ zs) (append_assoc rs H t.further) in
    let ended_so : (t.inside ++ (t.cell ∷ (B ++ Z))) ++ t.last ∷ [] ≡ t.inside ++ (t.cell ∷ (B ++ (Z ++ t.last ∷ []))) =
    append_assoc t.inside (t.cell ∷ (B ++ Z)) (t.last ∷ []) ∙ ap (λ zs. t.inside ++ (t.cell ∷ zs)) (append_assoc B Z (t.last ∷ [])) in
    let with_rest : (t.inside ++ (t.cell ∷ (B ++ (Z ++ t.last ∷ [])))) ++ t.behind ≡ t.inside ++ (t.cell ∷ (B ++ ((Z ++ t.last ∷ []) ++ t.behind))) =
    append_assoc t.inside (t.cell ∷ (B ++ (Z ++ t.last ∷ []))) t.behind ∙ ap (λ zs. t.inside ++ (t.cell ∷ zs)) (append_assoc B (Z ++ t.last ∷ []) t.behind) in
    let last_so : (Z ++ t.last ∷ []) ++ t.behind ≡ W =
    append_assoc Z (t.last ∷ []) t.behind
    ∙ append_assoc rs (H ++ t.further) (t.last ∷ t.behind)
    ∙ ap (λ zs. rs ++ zs) (append_assoc H t.further (t.last ∷ t.behind)) in
    ap (λ zs. t.before ++ ((t.first ∷ ((t.inside ++ (t.cell ∷ zs)) ++ t.last ∷ [])) ++ t.behind)) inner
    ∙ ap (λ zs. t.before ++ ((t.first ∷ zs) ++ t.behind)) ended_so
    ∙ ap (λ zs. t.before ++ (t.first ∷ zs)) (with_rest ∙ ap (λ zs. t.inside ++ (t.cell ∷ (B ++ zs))) last_so)
    ∙ ap (λ zs. t.before ++ (t.first ∷ zs)) (sym (append_assoc t.inside (t.cell ∷ B) W))
    ∙ sym (append_assoc t.before (t.first ∷ (t.inside ++ (t.cell ∷ B))) W)

pub in_order : (ts : List TableRound) (front rs back : List Row) → in_cells ts (front ++ (rs ++ back)) ≡ rows_before ts front ++ (rs ++ rows_behind ts back)
in_order [] front rs back = refl
in_order (t ∷ ts) front rs back = ap (in_cell t) (in_order ts front rs back) ∙ one_cell t (rows_before ts front) rs (rows_behind ts back)

-- ---- lines of text where tables are open

abbrev pub AreAt : ℕ → List (List Item) → Type 0
AreAt n [] = Unit {0}
AreAt n (l ∷ ls) = (kind_at n l ≡ line.Text) × AreAt n ls

pub later_at : (n : ℕ) (ls ms : List (List Item)) → AreAt n ls → rows_from n (ls ++ ms) ≡ map later_row ls ++ rows_from n ms
later_at n [] ms k = refl
later_at n (l ∷ ls) ms k =
    ap (λ (j : LineKind). line_rows j l ++ rows_from (behind n j) (ls ++ ms)) k.0 ∙ ap (λ rs. later_row l ∷ rs) (later_at n ls ms k.1)

texts_at : (n : ℕ) (l : List Item) (ls ms : List (List Item)) → marks_len l ≡ 0 → AreAt n (l ∷ ls)
    → rows_from n ((l ∷ ls) ++ ms) ≡ paragraph_rows l ls ++ rows_from n ms
texts_at n l ls ms h k =
    later_at n (l ∷ ls) ms k ∙ ap (λ (m : ℕ). whole_row line.Text m l ∷ (map later_row ls ++ rows_from n ms)) h

abbrev IsTextAt : ℕ → List Item → Type 0
IsTextAt n l = line_kind n l ≡ line.Text

pub kinds_by : (n : ℕ) (ls ends : List (List Item)) → All (IsTextAt n) (map content ls ++ ends) → AreAt n ls
kinds_by n [] ends a = tt
kinds_by n (l ∷ ls) ends a =
    (All-head (IsTextAt n) (content l) (map content ls ++ ends) a, kinds_by n ls ends (All-tail (IsTextAt n) (content l) (map content ls ++ ends) a))

kinds_at : (n : ℕ) (xs : List Item) (b : IsLineBlock xs) → AreTextLines n xs → AreAt n (b.first ∷ b.others)
kinds_at n xs b a = subst (AreAt n) b.are_lines (kinds_by n (full_lines xs) (empty_end xs) (subst (All (IsTextAt n)) (same_lines xs) a))

ended_at : (n : ℕ) (l : List Item) (ls : List (List Item)) → AreAt n (l ∷ ls) → last_break (ending l) ls ≡ [] → AreAt n (ended l ls)
ended_at n l [] h e = (ap (line_kind n) (content_ended l e) ∙ h.0, tt)
ended_at n l (m ∷ ls) h e = (h.0, ended_at n m ls h.1 e)

-- ---- the paragraph's rows, and those behind it

-- by what follows the paragraph
abbrev pub own_rows : (own : List Item) → IsLineBlock own → List Item → List Row
own_rows own b [] = paragraph_rows b.first b.others
own_rows own b (y ∷ ys) = paragraph_rows (first_ended b.first b.others) (rest_ended b.first b.others)

pub ended_lines : (own ys : List Item) (b : IsLineBlock own) → full_lines (own ++ break ∷ ys) ≡ ended b.first b.others ++ full_lines ys
ended_lines own ys b =
    sym (runs_only goes_on (ended b.first b.others ++ full_lines ys) (own ++ break ∷ ys)
    (ended_runs b.first b.others own ys (block_runs own b) b.are_unended))

pub text_rows : (n : ℕ) (own tail : List Item) (b : IsLineBlock own) (rs : List Row) → AreTextLines n own → AreBehind n tail rs
    → rows_from n (full_lines (own ++ tail)) ≡ own_rows own b tail ++ rs
text_rows n own [] b rs a e =
    ap (λ zs. rows_from n (full_lines zs)) (append-nil own)
    ∙ ap (rows_from n) (b.are_lines ∙ sym (append-nil (b.first ∷ b.others)))
    ∙ texts_at n b.first b.others [] b.unled (kinds_at n own b a)
    ∙ ap (λ zs. paragraph_rows b.first b.others ++ zs) e
text_rows n own (y ∷ ys) b rs a e =
    ap (λ z. rows_from n (full_lines (own ++ z ∷ ys))) e.0
    ∙ ap (rows_from n) (ended_lines own ys b)
    ∙ texts_at n (first_ended b.first b.others) (rest_ended b.first b.others) (full_lines ys) (still_unled b.first b.others b.unled)
    (ended_at n b.first b.others (kinds_at n own b a) b.are_unended)
    ∙ ap (λ zs. paragraph_rows (first_ended b.first b.others) (rest_ended b.first b.others) ++ zs) e.1

pub page_rows : (xs own tail : List Item) (b : IsLineBlock own) (rs : List Row) → empty_end xs ≡ [] ∷ [] → AreTextLines (open_tables xs) own
    → AreBehind (open_tables xs) tail rs
    → rows (xs ++ (own ++ tail)) ≡ written_rows 0 (full_lines xs) ++ (own_rows own b tail ++ rs)
unfolding rows
page_rows xs own tail b rs whole a e =
    ap (rows_from 0) (lines_join xs (own ++ tail) whole)
    ∙ rows_join 0 (full_lines xs) (full_lines (own ++ tail))
    ∙ ap (λ zs. written_rows 0 (full_lines xs) ++ zs) (text_rows (open_tables xs) own tail b rs a e)
