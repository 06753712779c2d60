-- A typed paragraph by itself: its parts, and those of what stands before and behind it.
use Rattle.std.proofs.Common.{◌≡◌, ℕ, true, None, List, [], ◌∷◌, ◌++◌, map, refl, sym, ap, ◌∙◌, subst, append-nil, append_assoc}
use Rattle.std.specs.List.{flat_map}
use Rattle.std.specs.Prelude.{replicate}
use Rattle.wt_span.specs.Items.{Item, char}
use Rattle.wt_lines.specs.declared.kind.TheConstants.{MOST_TABLES}
use Rattle.wt_lines.specs.Lines.{is_break_item, full_lines}
use Rattle.wt_inline.specs.declared.loose.Loose.TheVariants.{Sep}
use Rattle.wt_inline.specs.ItemTree.{ItemTree}
use Rattle.wt_inline.specs.Parts.{node, parts}
use Rattle.wt_page.specs.Rows.{Row, rows, rows_from}
use Rattle.wt_page.specs.Stretches.{stretch_parts}
use Rattle.wt_page.specs.Body.{blocks, body_parts, meaning}
use Rattle.wt_expand.specs.PageItems.{page_items}
use Rattle.wt_rows.proofs.Portions.{no_parts, breaks_first}
use Rattle.wt_text_edit_laws.specs.LonePages.{para_of}
use Rattle.wt_text_edit_laws.proofs.Texts.PlainRows.{text_row}
use Rattle.wt_text_edit_laws.specs.ProsePages.{Passage}
use Rattle.wt_text_edit_laws.proofs.Prose.ProseReading.{break}
use Rattle.wt_text_edit_laws.proofs.Prose.ProseLines.{ended, first_ended, rest_ended, IsTextBlock, broken_rows, rows_broken, rows_last}
use Rattle.wt_text_edit_laws.proofs.Prose.ProseBlocks.{sep, alone_read, all_parts}
use Rattle.wt_text_edit_laws.specs.Paragraphs.{IsParagraph}
use Rattle.wt_text_edit_laws.proofs.Paragraphs.Texts.{paragraph_written}
use Rattle.wt_text_edit_laws.specs.ParagraphBetween.{EndsApart, EndsParagraph, blocks_in, body_with, body_round}
use Rattle.wt_text_edit_laws.proofs.Paragraphs.Apart.{BeginsText, after_text}
use Rattle.wt_text_edit_laws.proofs.Paragraphs.Standing.{parts_in, parts_before, round_node, body_is}

-- ---- its rows

unbroken_rows : (xs : List Item) (b : IsTextBlock xs) → rows xs ≡ map text_row (b.first ∷ b.others)
unfolding rows
unbroken_rows xs b =
    ap (λ zs. rows_from 0 (full_lines zs)) (sym (append-nil xs) ∙ sym (append-nil (xs ++ []))) ∙ rows_last 0 xs b ∙ append-nil (map text_row (b.first ∷ b.others))

ended_rows : (xs ys : List Item) (b : IsTextBlock xs) → rows (xs ++ break ∷ ys) ≡ map text_row (ended b.first b.others) ++ rows ys
unfolding rows
ended_rows xs ys b =
    ap (λ zs. rows_from 0 (full_lines zs)) (sym (append_assoc xs (break ∷ []) ys))
    ∙ rows_broken 0 xs ys b
    ∙ ap (λ rs. rs ++ rows_from 0 (full_lines ys)) (append-nil (map text_row (ended b.first b.others)))

-- with what stands behind it, they begin with text
begins_text : (xs tail : List Item) → IsTextBlock xs → EndsParagraph tail → BeginsText (rows (xs ++ tail))
begins_text xs [] b e = subst BeginsText (sym (ap rows (append-nil xs) ∙ unbroken_rows xs b)) refl
begins_text xs (y ∷ ys) b e = subst (λ z. BeginsText (rows (xs ++ z ∷ ys))) (sym e.0) (subst BeginsText (sym (ended_rows xs ys b)) refl)

-- ---- its parts

own_parts : (n : ℕ) (q : List ℕ) (b : IsTextBlock (page_items q))
    → body_parts (broken_rows n b.first b.others ++ []) ≡ (node (para_of (page_items q)) ∷ replicate n sep) ++ []
unfolding blocks
own_parts n q b =
    let p : Passage = record { paragraph = q; breaks = n } in
    ap (flat_map stretch_parts) (alone_read MOST_TABLES n (page_items q) b) ∙ all_parts (p ∷ [])

ended_parts : (q : List ℕ) (b : IsTextBlock (page_items q))
    → body_parts (map text_row (ended b.first b.others)) ≡ node (para_of (page_items q)) ∷ parts Sep (break ∷ [])
ended_parts q b =
    let rs : List Row = map text_row (ended b.first b.others) in
    ap body_parts (sym (append-nil rs)) ∙ ap (λ ss. body_parts (ss ++ [])) (sym (append-nil rs)) ∙ own_parts 1 q b

break_by : (y : Item) → y ≡ char None 10 → is_break_item y ≡ true
break_by y e = subst (λ z. is_break_item z ≡ true) (sym e) refl

paragraph_parts : (q : List ℕ) (tail : List Item) → IsParagraph q → EndsParagraph tail
    → parts_in (page_items q ++ tail) ≡ node (para_of (page_items q)) ∷ parts_in tail
paragraph_parts q [] h e =
    let b = (paragraph_written q h).0 in
    ap parts_in (append-nil (page_items q))
    ∙ ap body_parts (unbroken_rows (page_items q) b ∙ sym (append-nil (map text_row (b.first ∷ b.others))))
    ∙ own_parts 0 q b
    ∙ ap (λ ps. node (para_of (page_items q)) ∷ ps) (sym no_parts)
paragraph_parts q (y ∷ ys) h e =
    let b = (paragraph_written q h).0 in
    let xs : List Item = page_items q in
    ap (λ z. parts_in (xs ++ z ∷ ys)) e.0
    ∙ ap body_parts (ended_rows xs ys b)
    ∙ after_text (first_ended b.first b.others) (rest_ended b.first b.others) (rows ys) e.1
    ∙ ap (λ ps. ps ++ parts_in ys) (ended_parts q b)
    ∙ ap (λ z. node (para_of xs) ∷ (parts Sep (z ∷ []) ++ parts_in ys)) (sym e.0)
    ∙ ap (λ ps. node (para_of xs) ∷ ps) (sym (breaks_first (y ∷ []) ys (break_by y e.0, tt)))

-- ---- with what stands before it

pub paragraph_between : (xs : List Item) (q : List ℕ) (tail : List Item) → EndsApart xs → IsParagraph q → EndsParagraph tail
    → parts_in (xs ++ (page_items q ++ tail)) ≡ parts_in xs ++ node (para_of (page_items q)) ∷ parts_in tail
paragraph_between xs q tail c h e =
    parts_before xs (page_items q ++ tail) c (begins_text (page_items q) tail (paragraph_written q h).0 e)
    ∙ ap (λ ps. parts_in xs ++ ps) (paragraph_parts q tail h e)

pub stands_between : (xs : List Item) (q : List ℕ) (tail : List Item) → EndsApart xs → IsParagraph q → EndsParagraph tail
    → meaning (xs ++ (page_items q ++ tail)) ≡ body_round (blocks_in xs) (page_items q) (blocks_in tail)
stands_between xs q tail c h e =
    let t : ItemTree = para_of (page_items q) in
    body_is (xs ++ (page_items q ++ tail)) (parts_in xs ++ node t ∷ parts_in tail) (paragraph_between xs q tail c h e)
    ∙ ap body_with (round_node t (parts_in xs) (parts_in tail))
