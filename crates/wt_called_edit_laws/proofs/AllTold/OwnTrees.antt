-- The tree of a block that its lines tell is that of its rows.
use Rattle.std.proofs.Common.{arith, ◌≡◌, ℕ, Bool, true, false, List, [], ◌∷◌, ◌++◌, length, map, refl, sym, ap, ◌∙◌, subst, append-nil, append_assoc, length-append}
use Rattle.std.specs.Prelude.{◌&&◌}
use Rattle.std.specs.List.{list_all}
use Rattle.wt_span.specs.Items.{Item, is_mark}
use Rattle.wt_span.specs.Runs.{AreRuns}
use Rattle.wt_expand.specs.PageItems.{page_items}
use Rattle.wt_lines.specs.declared.kind.LineKind.{LineKind}
use Rattle.wt_lines.specs.Lines.{goes_on, content, full_lines}
use Rattle.wt_tables.specs.Extents.{behind}
use Rattle.wt_tables.specs.Parts.{joined}
use Rattle.wt_page.specs.Headings.{heading}
use Rattle.wt_page.specs.Lines.{ending}
use Rattle.wt_page.specs.Rows.{Row, line_rows, rows_from}
use Rattle.wt_page.specs.Texts.{para}
use Rattle.wt_page.proofs.Ends.{content_ending}
use Rattle.wt_text_edit_laws.specs.ParagraphParts.{break}
use Rattle.wt_text_edit_laws.specs.ParagraphBetween.{written_rows}
use Rattle.wt_text_edit_laws.specs.TextBlocks.{TextBlock, a_paragraph, a_heading, block_tree}
use Rattle.wt_text_edit_laws.specs.TypedHeadings.{Sides, EndsLine}
use Rattle.wt_text_edit_laws.proofs.Cuts.RowLines.{AllText}
use Rattle.wt_text_edit_laws.proofs.Cuts.TextLines.{joined_both, lines_of, IsEnding}
use Rattle.wt_text_edit_laws.proofs.Headings.HeadingRows.{round_is as heading_round_is}
use Rattle.wt_text_edit_laws.proofs.Paragraphs.Marks.{AreMarks}
use Rattle.wt_called_edit_laws.specs.AnyBlocks.{open_after, past_break}
use Rattle.wt_called_edit_laws.specs.CalledContents.{items_round, tree_round, AreItemsOf}
use Rattle.wt_called_edit_laws.specs.LinedHeadings.{sides_of}
use Rattle.wt_called_edit_laws.specs.PlacedLines.{LinedBlock, lead_of, front_rows}
use Rattle.wt_called_edit_laws.specs.RowBlocks.{text_row}
use Rattle.wt_called_edit_laws.specs.ToldLines.{a_paragraph_of, a_heading_on, lined}
use Rattle.wt_called_edit_laws.proofs.Cells.Cells.{own_para}
use Rattle.wt_called_edit_laws.proofs.Cells.CellRows.{own_rows}
use Rattle.wt_called_edit_laws.proofs.Cells.PlacedLines.{own_items, Round}
use Rattle.wt_called_edit_laws.proofs.Cells.SignLeads.{StaysOn}
use Rattle.wt_called_edit_laws.proofs.Cells.SpotRows.{text_block, block_rows, block_is, led_para}
use Rattle.wt_called_edit_laws.proofs.AllTold.LineKinds.{Lines}

-- ---- one block of a page, by its lines

-- these items, with a block's delimiters, are what is on its lines
pub record IsRoundOf (k : TextBlock) (xs : List Item) (b : LinedBlock) (rest : Lines) : Type 0 where
  pub items : items_round k xs ≡ content (own_items b)
  pub are : AreItemsOf k xs
  pub stays : StaysOn b.sign k (length (open_after [] (front_rows 0 b))) xs
  pub round : Round b rest
  pub runs : AreRuns goes_on (((lead_of b ++ b.first) ∷ b.more) ++ rest) (joined (((lead_of b ++ b.first) ∷ b.more) ++ rest))

-- so is what is read of its content
abbrev pub OwnRound : LinedBlock → Lines → Type 0
OwnRound b rest = IsRoundOf b.block (page_items b.text) b rest

pub stay_so : (sign : List Item) (k : TextBlock) (n : ℕ) (xs ys : List Item) → items_round k xs ≡ ys → StaysOn sign k n ys → StaysOn sign k n xs
stay_so sign a_paragraph n xs ys e h = subst (StaysOn sign a_paragraph n) (sym e) h
stay_so [] (a_heading s) n xs ys e h = tt
stay_so (z ∷ zs) (a_heading s) n xs ys e h = absurd h

-- ---- what is behind it

pub tail_is : (es : List Item) (rest : Lines) → IsEnding es → ((m : List Item) (ms : Lines) → rest ≡ m ∷ ms → es ≡ break ∷ []) → AreRuns goes_on rest (joined rest)
    → full_lines (past_break (es ++ joined rest)) ≡ rest
tail_is [] [] i f r = lines_of [] r
tail_is (x ∷ es) [] i f r = ap (λ (ys : List Item). full_lines (ys ++ [])) i.1 ∙ lines_of [] r
tail_is es (m ∷ ms) i f r = ap (λ (ys : List Item). full_lines (past_break (ys ++ joined (m ∷ ms)))) (f m ms refl) ∙ lines_of (m ∷ ms) r

pub tail_ends : (es : List Item) (rest : Lines) → IsEnding es → ((m : List Item) (ms : Lines) → rest ≡ m ∷ ms → es ≡ break ∷ []) → EndsLine (es ++ joined rest)
tail_ends [] [] i f = tt
tail_ends (x ∷ es) rest i f = i.0
tail_ends [] (m ∷ ms) i f = let wrong : [] ≡ break ∷ [] = f m ms refl in absurd (cc)

first_or : Row → List Row → Row
first_or r [] = r
first_or r (s ∷ rs) = s

rest_of : List Row → List Row
rest_of [] = []
rest_of (s ∷ rs) = rs

pub split : (a b : Row) (xs ys : List Row) → a ∷ xs ≡ b ∷ ys → (a ≡ b) × (xs ≡ ys)
unfolding first_or rest_of
split a b xs ys f = (ap (first_or a) f, ap rest_of f)

pub cancel_right : (xs ys zs : List Row) → xs ++ zs ≡ ys ++ zs → xs ≡ ys
cancel_right [] [] zs e = refl
cancel_right [] (y ∷ ys) zs e = absurd (omega (arith, ap length e, length-append ys zs))
cancel_right (x ∷ xs) [] zs e = absurd (omega (arith, ap length e, length-append xs zs))
cancel_right (x ∷ xs) (y ∷ ys) zs e =
    let s = split x y (xs ++ zs) (ys ++ zs) e in
    ap (λ (r : Row). r ∷ xs) s.0 ∙ ap (λ (rs : List Row). y ∷ rs) (cancel_right xs ys zs s.1)

pub texts_from : (n : ℕ) (ls rest : Lines) → AllText n ls → rows_from n (ls ++ rest) ≡ map text_row ls ++ rows_from n rest
texts_from n [] rest h = refl
texts_from n (l ∷ ls) rest h =
    ap (λ (k : LineKind). line_rows k l ++ rows_from (behind n k) (ls ++ rest)) h.0 ∙ ap (λ (rs : List Row). text_row l ∷ rs) (texts_from n ls rest h.1)

and_first : (a b : Bool) → (a && b) ≡ true → a ≡ true
and_first true b e = refl
and_first false b e = absurd (cc)

and_rest : (a b : Bool) → (a && b) ≡ true → b ≡ true
and_rest true b e = e
and_rest false b e = absurd (cc)

pub marks_are : (ms : List Item) → list_all is_mark ms ≡ true → AreMarks ms
marks_are [] h = tt
marks_are (m ∷ ms) h = (and_first (is_mark m) (list_all is_mark ms) h, marks_are ms (and_rest (is_mark m) (list_all is_mark ms) h))

-- ---- its tree

pub paragraph_of : (xs : List Item) (before : Lines) (m f : List Item) (r rest : Lines) → IsRoundOf a_paragraph xs (lined (a_paragraph_of before [] m f r)) rest
    → list_all is_mark m ≡ true → AllText (length (open_after [] (written_rows 0 before))) ((m ++ f) ∷ r)
    → para (map text_row ((m ++ f) ∷ r)) ≡ tree_round a_paragraph xs
paragraph_of xs before m f r rest o marks h =
    let b : LinedBlock = lined (a_paragraph_of before [] m f r) in
    let n : ℕ = length (open_after [] (written_rows 0 before)) in
    let own : List Item = own_items b in
    let ks : Lines = (m ++ f) ∷ r in
    let tail : List Item = ending own ++ joined rest in
    let whole_is : m ++ (xs ++ tail) ≡ joined (ks ++ rest) =
    ap (λ (ys : List Item). m ++ (ys ++ tail)) o.items
    ∙ ap (λ (ys : List Item). m ++ ys) (sym (append_assoc (content own) (ending own) (joined rest)))
    ∙ ap (λ (ys : List Item). m ++ (ys ++ joined rest)) (content_ending own)
    ∙ sym (append_assoc m own (joined rest))
    ∙ ap (λ (ys : List Item). ys ++ joined rest) (sym (append_assoc m f (joined r)))
    ∙ sym (joined_both ks rest) in
    let lines_are : full_lines (m ++ (xs ++ tail)) ≡ ks ++ rest = ap full_lines whole_is ∙ lines_of (ks ++ rest) o.runs in
    let rest_are : full_lines (past_break tail) ≡ rest = tail_is (ending own) rest o.round.own_ending o.round.ends o.round.tail_runs in
    let rows_are : rows_from n (full_lines (m ++ (xs ++ tail))) ≡ block_rows a_paragraph xs o.are m tail ++ rows_from n (full_lines (past_break tail)) =
    block_is n a_paragraph xs o.are m tail o.stays (marks_are m marks) (tail_ends (ending own) rest o.round.own_ending o.round.ends) in
    let both : map text_row ks ++ rows_from n rest ≡ block_rows a_paragraph xs o.are m tail ++ rows_from n rest =
    sym (texts_from n ks rest h) ∙ ap (rows_from n) (sym lines_are) ∙ rows_are
    ∙ ap (λ (ls : Lines). block_rows a_paragraph xs o.are m tail ++ rows_from n ls) rest_are in
    ap para (cancel_right (map text_row ks) (block_rows a_paragraph xs o.are m tail) (rows_from n rest) both)
    ∙ led_para m (own_rows xs (text_block xs o.are) tail) ∙ own_para xs tail (text_block xs o.are) o.are.own_breaks

pub paragraph_is : (before : Lines) (m f : List Item) (r rest : Lines) → OwnRound (lined (a_paragraph_of before [] m f r)) rest → list_all is_mark m ≡ true
    → AllText (length (open_after [] (written_rows 0 before))) ((m ++ f) ∷ r)
    → para (map text_row ((m ++ f) ∷ r)) ≡ block_tree a_paragraph (lined (a_paragraph_of before [] m f r)).text
paragraph_is before m f r rest o marks h = paragraph_of (page_items (lined (a_paragraph_of before [] m f r)).text) before m f r rest o marks h

pub heading_of : (s : Sides) (xs : List Item) (before : Lines) (m l : List Item) (rest : Lines) → IsRoundOf (a_heading s) xs (lined (a_heading_on before m l)) rest
    → heading (content l) ≡ tree_round (a_heading s) xs
heading_of s xs before m l rest o =
    ap (λ (ys : List Item). heading (content ys)) (sym (append-nil l)) ∙ ap heading (sym o.items) ∙ heading_round_is s xs o.are.sides o.are.inside o.are.of_level

pub heading_is : (before : Lines) (m l : List Item) (rest : Lines) → OwnRound (lined (a_heading_on before m l)) rest
    → heading (content l) ≡ block_tree (lined (a_heading_on before m l)).block (lined (a_heading_on before m l)).text
heading_is before m l rest o = heading_of (sides_of (content l)) (page_items (lined (a_heading_on before m l)).text) before m l rest o
