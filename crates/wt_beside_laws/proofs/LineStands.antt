-- Lines of text between other lines of a page: they are rows of text, and one paragraph.
use Rattle.std.proofs.Common.{◌≡◌, ℕ, true, None, List, [], ◌∷◌, ◌++◌, map, refl, sym, ap, ◌∙◌, subst, append-nil, All}
use Rattle.std.proofs.lemmas.List.Elements.{All-nil, All-cons, All-head, All-tail}
use Rattle.wt_tree.specs.declared.kind.Kind.TheVariants as kind
use Rattle.wt_span.specs.Items.{Item, char}
use Rattle.wt_span.specs.Runs.{AreRuns}
use Rattle.wt_span.proofs.RunLaws.{runs_are, runs_only}
use Rattle.wt_lines.specs.declared.kind.TheConstants.{MOST_TABLES}
use Rattle.wt_lines.specs.Lines.{full_lines, content, empty_end, is_break_item, goes_on}
use Rattle.wt_page.specs.Lines.{ending}
use Rattle.wt_inline.specs.declared.loose.Loose.TheVariants.{Sep}
use Rattle.wt_inline.specs.ItemTree.{plain, ItemTree, inner, forest}
use Rattle.wt_inline.specs.Parts.{Part, node, parts, children}
use Rattle.wt_page.specs.Rows.{Row, marks_len, rows_from, rows, last_ending}
use Rattle.wt_page.specs.Stretches.{stretches_parts}
use Rattle.wt_page.specs.Texts.{para_parts, para}
use Rattle.wt_page.specs.Body.{blocks, body_parts, meaning}
use Rattle.wt_rows.proofs.Portions.{no_parts, breaks_first}
use Rattle.wt_text_edit_laws.specs.ParagraphBetween.{EndsApart, EndsParagraph, blocks_in, body_with}
use Rattle.wt_text_edit_laws.specs.ParagraphParts.{para_with}
use Rattle.wt_text_edit_laws.proofs.Paragraphs.Apart.{BeginsText, after_rows, within_text}
use Rattle.wt_text_edit_laws.proofs.Paragraphs.LineBlocks.{later_row, paragraph_rows, paragraph_parts, paragraph_last, paragraph_texts, first_unled, still_unled}
use Rattle.wt_text_edit_laws.proofs.Paragraphs.Standing.{parts_in, parts_before, round_node, body_is}
use Rattle.wt_text_edit_laws.proofs.Prose.ProseLines.{ended, first_ended, rest_ended, ended_runs, content_ended}
use Rattle.wt_text_edit_laws.proofs.Prose.ProseBlocks.{para_ended, last_ended, last_unended}
use Rattle.wt_text_edit_laws.proofs.Texts.PlainRows.{text_row, last_break}
use Rattle.wt_beside_laws.specs.Lines.{IsLineOfText}
use Rattle.wt_beside_laws.proofs.LineParagraphs.{rows_text, last_none, para_by}

abbrev break : Item
break = char None 10

-- ---- its lines

pub record ContentLines (xs : List Item) (t : ItemTree) : Type 0 where
  pub first : List Item
  pub others : List (List Item)
  pub are : full_lines xs ≡ first ∷ others
  pub unled : marks_len first ≡ 0
  pub text : (n : ℕ) → All (IsLineOfText n) (map content (first ∷ others))
  pub unended : last_break (ending first) others ≡ []
  pub makes : para (paragraph_rows first others) ≡ t

abbrev one_empty : List (List Item)
one_empty = [] ∷ []

pub lines_by : (xs : List Item) (ps : List Part) (ls : List (List Item)) → full_lines xs ≡ ls → AreRuns goes_on ls xs → empty_end xs ≡ [] → marks_len xs ≡ 0
    → ((n : ℕ) → All (IsLineOfText n) (map content ls)) → para_parts (map text_row ls) ≡ ps → ContentLines xs (para_with ps)
lines_by xs ps [] i r e u a p = let no : one_empty ≡ [] = sym (ap empty_end r) ∙ e in cc
lines_by xs ps (l ∷ ls) i r e u a p = record {
  first = l;
  others = ls;
  are = i;
  unled = first_unled l ls xs r u;
  text = a;
  unended = sym (last_unended l ls) ∙ last_none l ls xs r e;
  makes = para_by (paragraph_rows l ls) ps (paragraph_parts l ls ∙ p);
}

-- with a line break behind the last
ended_all : (n : ℕ) (l : List Item) (ls : List (List Item)) → All (IsLineOfText n) (map content (l ∷ ls)) → last_break (ending l) ls ≡ []
    → All (IsLineOfText n) (map content (ended l ls))
ended_all n l [] h e =
    let P : List Item → Type 0 = IsLineOfText n in
    All-cons P (content (l ++ break ∷ [])) [] (subst P (sym (content_ended l e)) (All-head P (content l) [] h)) (All-nil P)
ended_all n l (m ∷ ls) h e =
    let P : List Item → Type 0 = IsLineOfText n in
    All-cons P (content l) (map content (ended m ls)) (All-head P (content l) (map content (m ∷ ls)) h)
    (ended_all n m ls (All-tail P (content l) (map content (m ∷ ls)) h) e)

-- ---- their rows, where so many tables are open

rows_last : (n : ℕ) (xs : List Item) (t : ItemTree) (c : ContentLines xs t)
    → rows_from n (full_lines xs) ≡ paragraph_rows c.first c.others ++ rows_from n []
rows_last n xs t c = ap (rows_from n) (c.are ∙ sym (append-nil (c.first ∷ c.others))) ∙ rows_text n c.first c.others [] c.unled (c.text n)

rows_then : (n : ℕ) (xs ys : List Item) (t : ItemTree) (c : ContentLines xs t)
    → rows_from n (full_lines (xs ++ break ∷ ys)) ≡ paragraph_rows (first_ended c.first c.others) (rest_ended c.first c.others) ++ rows_from n (full_lines ys)
rows_then n xs ys t c =
    let are : AreRuns goes_on (c.first ∷ c.others) xs = subst (λ ms. AreRuns goes_on ms xs) c.are (runs_are goes_on xs) in
    let cut : full_lines (xs ++ break ∷ ys) ≡ ended c.first c.others ++ full_lines ys =
    sym (runs_only goes_on (ended c.first c.others ++ full_lines ys) (xs ++ break ∷ ys) (ended_runs c.first c.others xs ys are c.unended)) in
    ap (rows_from n) cut
    ∙ rows_text n (first_ended c.first c.others) (rest_ended c.first c.others) (full_lines ys) (still_unled c.first c.others c.unled)
    (ended_all n c.first c.others (c.text n) c.unended)

pub unbroken_rows : (xs : List Item) (t : ItemTree) (c : ContentLines xs t) → rows (xs ++ []) ≡ paragraph_rows c.first c.others
unfolding rows
unbroken_rows xs t c =
    ap (λ zs. rows_from 0 (full_lines zs)) (append-nil xs) ∙ rows_last 0 xs t c ∙ append-nil (paragraph_rows c.first c.others)

ended_rows : (xs ys : List Item) (t : ItemTree) (c : ContentLines xs t)
    → rows (xs ++ break ∷ ys) ≡ paragraph_rows (first_ended c.first c.others) (rest_ended c.first c.others) ++ rows ys
unfolding rows
ended_rows xs ys t c = rows_then 0 xs ys t c

begins_text : (xs tail : List Item) (t : ItemTree) → ContentLines xs t → EndsParagraph tail → BeginsText (rows (xs ++ tail))
begins_text xs [] t c e = subst BeginsText (sym (unbroken_rows xs t c)) refl
begins_text xs (y ∷ ys) t c e = subst (λ z. BeginsText (rows (xs ++ z ∷ ys))) (sym e.0) (subst BeginsText (sym (ended_rows xs ys t c)) refl)

-- ---- the paragraph

-- rows of text, and what ends the last
text_parts : (l : List Item) (ls : List (List Item))
    → body_parts (paragraph_rows l ls) ≡ node (para (paragraph_rows l ls)) ∷ parts Sep (last_ending (paragraph_rows l ls))
unfolding blocks
text_parts l ls =
    let rs : List Row = paragraph_rows l ls in
    ap stretches_parts (within_text MOST_TABLES (text_row l) (map later_row ls) (paragraph_texts l ls))
    ∙ ap (λ ps. node (para rs) ∷ ps) (append-nil (parts Sep (last_ending rs)))

ended_para : (xs : List Item) (t : ItemTree) (c : ContentLines xs t) → para (paragraph_rows (first_ended c.first c.others) (rest_ended c.first c.others)) ≡ t
unfolding para
ended_para xs t c =
    ap (λ ps. inner (plain kind.Para) [] (forest (children ps)) [])
    (paragraph_parts (first_ended c.first c.others) (rest_ended c.first c.others) ∙ para_ended c.first c.others c.unended
    ∙ sym (paragraph_parts c.first c.others))
    ∙ c.makes

break_by : (y : Item) → y ≡ break → is_break_item y ≡ true
break_by y e = subst (λ z. is_break_item z ≡ true) (sym e) refl

stands_parts : (xs tail : List Item) (t : ItemTree) → ContentLines xs t → EndsParagraph tail → parts_in (xs ++ tail) ≡ node t ∷ parts_in tail
stands_parts xs [] t c e =
    let rs : List Row = paragraph_rows c.first c.others in
    ap body_parts (unbroken_rows xs t c)
    ∙ text_parts c.first c.others
    ∙ ap (λ u. node u ∷ parts Sep (last_ending rs)) c.makes
    ∙ ap (λ zs. node t ∷ parts Sep zs) (paragraph_last c.first c.others ∙ last_unended c.first c.others ∙ c.unended)
    ∙ ap (λ ps. node t ∷ ps) (sym no_parts)
stands_parts xs (y ∷ ys) t c e =
    let first : List Item = first_ended c.first c.others in
    let rest : List (List Item) = rest_ended c.first c.others in
    let rs : List Row = paragraph_rows first rest in
    let own : body_parts rs ≡ node t ∷ parts Sep (break ∷ []) =
    text_parts first rest
    ∙ ap (λ u. node u ∷ parts Sep (last_ending rs)) (ended_para xs t c)
    ∙ ap (λ zs. node t ∷ parts Sep zs) (paragraph_last first rest ∙ last_ended c.first c.others) in
    ap (λ z. parts_in (xs ++ z ∷ ys)) e.0
    ∙ ap body_parts (ended_rows xs ys t c)
    ∙ after_rows (text_row first) (map later_row rest) (rows ys) (paragraph_texts first rest) e.1
    ∙ ap (λ ps. ps ++ parts_in ys) own
    ∙ ap (λ z. node t ∷ (parts Sep (z ∷ []) ++ parts_in ys)) (sym e.0)
    ∙ ap (λ ps. node t ∷ ps) (sym (breaks_first (y ∷ []) ys (break_by y e.0, tt)))

-- ---- between other lines

pub stands_so : (before own tail : List Item) (t : ItemTree) → EndsApart before → ContentLines own t → EndsParagraph tail
    → meaning (before ++ (own ++ tail)) ≡ body_with (blocks_in before ++ t ∷ blocks_in tail)
stands_so before own tail t a c e =
    let all : parts_in (before ++ (own ++ tail)) ≡ parts_in before ++ node t ∷ parts_in tail =
    parts_before before (own ++ tail) a (begins_text own tail t c e) ∙ ap (λ ps. parts_in before ++ ps) (stands_parts own tail t c e) in
    body_is (before ++ (own ++ tail)) (parts_in before ++ node t ∷ parts_in tail) all ∙ ap body_with (round_node t (parts_in before) (parts_in tail))
