-- Lines of text of a page are one paragraph, with a line break between each two.
use Rattle.std.proofs.Common.{◌≡◌, ℕ, List, [], ◌∷◌, ◌++◌, map, refl, sym, ap, ◌∙◌, subst, append-nil, All}
use Rattle.std.proofs.lemmas.List.Elements.{All-nil}
use Rattle.wt_span.specs.Items.{Item, char, whole, is_mark}
use Rattle.wt_expand.specs.PageItems.{page_items}
use Rattle.wt_lines.specs.declared.kind.TheConstants.{MOST_TABLES}
use Rattle.wt_lines.specs.Lines.{onto, lines, full_lines, content, empty_end}
use Rattle.wt_lines.proofs.FullLines.{same_lines}
use Rattle.wt_page.specs.Rows.{marks_len, rows, rows_from}
use Rattle.wt_page.specs.Body.{within, blocks, meaning}
use Rattle.wt_text_edit_laws.specs.ParagraphBetween.{body_with}
use Rattle.wt_text_edit_laws.specs.ParagraphParts.{para_with, joined_parts}
use Rattle.wt_text_edit_laws.proofs.Paragraphs.LineBlocks.{OwnBreaks, page_breaks, paragraph_rows, IsLineBlock, block_runs, line_block, rows_para}
use Rattle.wt_text_edit_laws.proofs.Prose.ProseLines.{unled_by}
use Rattle.wt_beside_laws.specs.Lines.{IsLineOfText, AreLinesOfText}
use Rattle.wt_beside_laws.proofs.LineParagraphs.{front_all, rows_text, body_of, body_by}

-- ---- the paragraph

own_rows : (xs : List Item) (b : IsLineBlock xs) → All (IsLineOfText 0) (lines xs) → rows xs ≡ paragraph_rows b.first b.others
unfolding rows
own_rows xs b h =
    let ls : List (List Item) = full_lines xs in
    let all : All (IsLineOfText 0) (map content ls) =
    front_all (IsLineOfText 0) (map content ls) (empty_end xs) (subst (All (IsLineOfText 0)) (same_lines xs) h) in
    ap (rows_from 0) (b.are_lines ∙ sym (append-nil (b.first ∷ b.others)))
    ∙ rows_text 0 b.first b.others [] b.unled (subst (λ (ms : List (List Item)). All (IsLineOfText 0) (map content ms)) b.are_lines all)
    ∙ append-nil (paragraph_rows b.first b.others)

pub own_meaning : (xs : List Item) → OwnBreaks xs → marks_len xs ≡ 0 → All (IsLineOfText 0) (lines xs) → meaning xs ≡ body_with (para_with (joined_parts (lines xs)) ∷ [])
unfolding meaning blocks
own_meaning xs o u h =
    let b : IsLineBlock xs = line_block xs u h in
    ap (λ rs. body_of (within MOST_TABLES rs)) (own_rows xs b h)
    ∙ body_by b.first b.others xs (para_with (joined_parts (lines xs))) (block_runs xs b) b.are_closed (rows_para xs b o)

pub text_meaning : (q : List ℕ) → marks_len (page_items q) ≡ 0 → All (IsLineOfText 0) (lines (page_items q))
    → meaning (page_items q) ≡ body_with (para_with (joined_parts (lines (page_items q))) ∷ [])
text_meaning q u h = own_meaning (page_items q) (page_breaks q) u h

-- ---- by its lines

-- what is first in the first line is first
pub lines_unled : (n : ℕ) (xs : List Item) → AreLinesOfText n (lines xs) → marks_len xs ≡ 0
lines_unled n [] h = refl
lines_unled n (char o b ∷ xs) h = refl
lines_unled n (whole f o bs ∷ xs) h = by (lines xs) h
  where
    by : (ls : List (List Item)) → AreLinesOfText n (onto (whole f o bs ∷ []) ls) → marks_len (whole f o bs ∷ xs) ≡ 0
    by [] k = unled_by (whole f o bs) [] xs (is_mark (whole f o bs)) refl k.0
    by (l ∷ ls) k = unled_by (whole f o bs) l xs (is_mark (whole f o bs)) refl k.0

pub lines_text : (n : ℕ) (ls : List (List Item)) → AreLinesOfText n ls → All (IsLineOfText n) ls
lines_text n [] h = All-nil (IsLineOfText n)
lines_text n (l ∷ ls) h = h.1

pub lines_meaning : (q : List ℕ) → AreLinesOfText 0 (lines (page_items q)) → meaning (page_items q) ≡ body_with (para_with (joined_parts (lines (page_items q))) ∷ [])
lines_meaning q h = text_meaning q (lines_unled 0 (page_items q) h) (lines_text 0 (lines (page_items q)) h)
