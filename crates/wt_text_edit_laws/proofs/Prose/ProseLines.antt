-- The lines of prose as rows: those of each paragraph are rows of text, and each line break more behind them is a blank row.
use Rattle.std.proofs.Common.{arith, ◌≡◌, ◌≢◌, ℕ, zero, suc, ◌+◌, Bool, true, false, not, List, [], ◌∷◌, ◌++◌, map, refl, sym, ap, ◌∙◌, subst, append-nil, append_assoc, All}
use Rattle.std.specs.Prelude.{if◌then◌else◌, replicate}
use Rattle.std.proofs.lemmas.List.Elements.{All-head}
use Rattle.wt_span.specs.Items.{Item, is_mark}
use Rattle.wt_span.specs.Runs.{IsRun, AreRuns}
use Rattle.wt_span.proofs.RunLaws.{runs_cut, runs_only, runs_are, runs_joined}
use Rattle.wt_lines.specs.declared.kind.LineKind.{LineKind}
use Rattle.wt_lines.specs.declared.kind.LineKind.TheVariants as line
use Rattle.wt_lines.specs.Lines.{is_break_item, goes_on, lines, full_lines, content, empty_end}
use Rattle.wt_lines.specs.Kinds.{kind_of_signs, line_kind}
use Rattle.wt_lines.proofs.FullLines.{same_lines}
use Rattle.wt_tables.specs.Extents.{behind}
use Rattle.wt_tables.specs.Parts.{joined}
use Rattle.wt_inline.specs.declared.loose.Loose.TheVariants.{Text}
use Rattle.wt_inline.specs.Parts.{parts}
use Rattle.wt_context.specs.Line.{line_parts}
use Rattle.wt_page.specs.Lines.{ending}
use Rattle.wt_page.specs.Rows.{Row, marks_len, whole_row, line_rows, rows_from}
use Rattle.wt_expand.specs.PageItems.{page_items}
use Rattle.wt_text_edit_laws.specs.StillItems.{StillItems}
use Rattle.wt_text_edit_laws.proofs.Texts.PlainRows.{no_text, IsTextLine, AreTexts, texts_by, unended, text_row, last_break, break_is}
use Rattle.wt_text_edit_laws.specs.ProsePages.{Passage}
use Rattle.wt_text_edit_laws.proofs.Prose.ProseReading.{break}

-- ---- lines of text, and the same lines with a line break behind the last

abbrev pub first_ended : List Item → List (List Item) → List Item
first_ended l [] = l ++ break ∷ []
first_ended l (m ∷ ls) = l

abbrev pub rest_ended : List Item → List (List Item) → List (List Item)
rest_ended l [] = []
rest_ended l (m ∷ ls) = first_ended m ls ∷ rest_ended m ls

abbrev pub ended : List Item → List (List Item) → List (List Item)
ended l ls = first_ended l ls ∷ rest_ended l ls

not_by : (x : Item) (v : Bool) → (if v then x ∷ [] else []) ≡ [] → v ≡ false
not_by x true e = cc
not_by x false e = refl

break_alone : (zs : List Item) → IsRun goes_on (break ∷ []) zs
break_alone [] = tt
break_alone (y ∷ zs) = refl

run_ended : (l zs : List Item) → IsRun goes_on l [] → ending l ≡ [] → IsRun goes_on (l ++ break ∷ []) zs
run_ended [] zs r e = absurd r
run_ended (x ∷ []) zs r e = (ap not (not_by x (is_break_item x) e), break_alone zs)
run_ended (x ∷ y ∷ ys) zs r e = (r.0, run_ended (y ∷ ys) zs r.1 e)

abbrev HasItems : List Item → Type 0
HasItems [] = ⊥
HasItems (x ∷ xs) = Unit {0}

run_more : (l others ys : List Item) → HasItems others → IsRun goes_on l others → IsRun goes_on l (others ++ ys)
run_more [] others ys h r = absurd r
run_more (x ∷ []) [] ys h r = absurd h
run_more (x ∷ []) (y ∷ others) ys h r = r
run_more (x ∷ z ∷ zs) others ys h r = (r.0, run_more (z ∷ zs) others ys h r.1)

run_items : (m os others : List Item) → others ≡ m ++ os → IsRun goes_on m os → HasItems others
run_items [] os others e r = absurd r
run_items (x ∷ m) os others e r = subst HasItems (sym e) tt

pub ended_runs : (l : List Item) (ls : List (List Item)) (xs zs : List Item) → AreRuns goes_on (l ∷ ls) xs → last_break (ending l) ls ≡ []
    → AreRuns goes_on (ended l ls ++ full_lines zs) (xs ++ break ∷ zs)
ended_runs l [] xs zs r e =
    let is : xs ≡ l = r.1 ∙ ap (λ os. l ++ os) r.3 ∙ append-nil l in
    (zs, ap (λ ys. ys ++ break ∷ zs) is ∙ sym (append_assoc l (break ∷ []) zs), run_ended l zs (subst (IsRun goes_on l) r.3 r.2) e, runs_are goes_on zs)
ended_runs l (m ∷ ls) xs zs r e =
    let some : HasItems r.0 = run_items m r.3.0 r.0 r.3.1 r.3.2 in
    (r.0 ++ break ∷ zs, ap (λ ys. ys ++ break ∷ zs) r.1 ∙ append_assoc l r.0 (break ∷ zs), run_more l r.0 (break ∷ zs) some r.2, ended_runs m ls r.0 zs r.3 e)

breaks_lines : (n : ℕ) (zs : List Item) → full_lines (replicate n break ++ zs) ≡ replicate n (break ∷ []) ++ full_lines zs
breaks_lines zero zs = refl
breaks_lines (suc n) zs =
    runs_cut goes_on (break ∷ []) (replicate n break ++ zs) (break_alone (replicate n break ++ zs)) ∙ ap (λ ls. (break ∷ []) ∷ ls) (breaks_lines n zs)

-- ---- their rows

abbrev pub blank_row : Row
blank_row = record { kind = line.Blank; lead = []; items = break ∷ []; ending = [] }

rows_texts : (ls ms : List (List Item)) → AreTexts ls → rows_from 0 (ls ++ ms) ≡ map text_row ls ++ rows_from 0 ms
rows_texts [] ms h = refl
rows_texts (l ∷ ls) ms h =
    ap (λ (k : LineKind). line_rows k l ++ rows_from (behind 0 k) (ls ++ ms)) h.0.kind
    ∙ ap (λ (n : ℕ). whole_row line.Text n l ∷ rows_from 0 (ls ++ ms)) h.0.unled
    ∙ ap (λ rs. text_row l ∷ rs) (rows_texts ls ms h.1)

rows_blank : (n : ℕ) (ms : List (List Item)) → rows_from 0 (replicate n (break ∷ []) ++ ms) ≡ replicate n blank_row ++ rows_from 0 ms
unfolding kind_of_signs
rows_blank zero ms = refl
rows_blank (suc n) ms = ap (λ rs. blank_row ∷ rs) (rows_blank n ms)

pub content_ended : (l : List Item) → ending l ≡ [] → content (l ++ break ∷ []) ≡ content l
content_ended [] e = refl
content_ended (x ∷ []) e = let n : is_break_item x ≡ false = not_by x (is_break_item x) e in rw n refl
content_ended (x ∷ y ∷ ys) e = ap (λ xs. x ∷ xs) (content_ended (y ∷ ys) e)

pub unled_by : (x : Item) (xs ys : List Item) (v : Bool) → is_mark x ≡ v → marks_len (x ∷ xs) ≡ 0 → marks_len (x ∷ ys) ≡ 0
unled_by x xs ys true e h = let k : marks_len (x ∷ xs) ≡ 1 + marks_len xs = rw e refl in absurd (omega (arith, k, h))
unled_by x xs ys false e h = rw e refl

pub ended_unled : (l : List Item) → marks_len l ≡ 0 → marks_len (l ++ break ∷ []) ≡ 0
ended_unled [] h = refl
ended_unled (x ∷ xs) h = unled_by x xs (xs ++ break ∷ []) (is_mark x) refl h

ended_line : (l : List Item) → IsTextLine l → ending l ≡ [] → IsTextLine (l ++ break ∷ [])
ended_line l h e =
    let c : content (l ++ break ∷ []) ≡ content l = content_ended l e in
    record { kind = ap (line_kind 0) c ∙ h.kind; unled = ended_unled l h.unled; is = ap line_parts c ∙ h.is ∙ ap (parts Text) (sym c) }

pub ended_texts : (l : List Item) (ls : List (List Item)) → AreTexts (l ∷ ls) → last_break (ending l) ls ≡ [] → AreTexts (ended l ls)
ended_texts l [] h e = (ended_line l h.0 e, tt)
ended_texts l (m ∷ ls) h e = (h.0, ended_texts m ls h.1 e)

-- ---- a paragraph as its lines

pub record IsTextBlock (xs : List Item) : Type 0 where
  pub first : List Item
  pub others : List (List Item)
  pub are_lines : full_lines xs ≡ first ∷ others
  pub are_joined : joined (first ∷ others) ≡ xs
  pub are_texts : AreTexts (first ∷ others)
  pub are_unended : last_break (ending first) others ≡ []

abbrev IsText : List Item → Type 0
IsText l = line_kind 0 l ≡ line.Text

block_by : (xs : List Item) (ls : List (List Item)) → full_lines xs ≡ ls → joined ls ≡ xs → AreTexts ls → ending xs ≡ [] → xs ≢ [] → IsTextBlock xs
block_by xs [] e is h u some = absurd (some (sym is))
block_by xs (l ∷ ls) e is h u some =
    record { first = l; others = ls; are_lines = e; are_joined = is; are_texts = h; are_unended = break_is l ls h.1 ∙ ap ending is ∙ u }

pub some_item : (xs : List Item) → All IsText (lines xs) → xs ≢ []
some_item xs a e = no_text (All-head IsText [] [] (subst (λ ys. All IsText (lines ys)) e a))

pub text_block : (xs : List Item) → StillItems xs → All IsText (lines xs) → IsTextBlock xs
text_block xs still a =
    let ls : List (List Item) = full_lines xs in
    let is : joined ls ≡ xs = runs_joined goes_on xs in
    let all : All IsText (map content ls ++ empty_end xs) = subst (All IsText) (same_lines xs) a in
    block_by xs ls refl is (texts_by ls (empty_end xs) all (subst StillItems (sym is) still)) (unended xs (map content ls) all) (some_item xs a)

-- by its lines
pub lines_block : (xs : List Item) → AreTexts (full_lines xs) → All IsText (lines xs) → IsTextBlock xs
lines_block xs h a =
    let ls : List (List Item) = full_lines xs in
    let all : All IsText (map content ls ++ empty_end xs) = subst (All IsText) (same_lines xs) a in
    block_by xs ls refl (runs_joined goes_on xs) h (unended xs (map content ls) all) (some_item xs a)

-- ---- the rows of a paragraph and the line breaks behind it

abbrev pub broken_rows : ℕ → List Item → List (List Item) → List Row
broken_rows zero l ls = map text_row (l ∷ ls)
broken_rows (suc n) l ls = map text_row (ended l ls) ++ replicate n blank_row

-- in front of other lines, where a line break stands between
pub rows_broken : (n : ℕ) (xs zs : List Item) (b : IsTextBlock xs)
    → rows_from 0 (full_lines ((xs ++ replicate (suc n) break) ++ zs)) ≡ broken_rows (suc n) b.first b.others ++ rows_from 0 (full_lines zs)
rows_broken n xs zs b =
    let l : List Item = b.first in
    let ls : List (List Item) = b.others in
    let more : List Item = replicate n break ++ zs in
    let texts : List Row = map text_row (ended l ls) in
    let are : AreRuns goes_on (l ∷ ls) xs = subst (λ ms. AreRuns goes_on ms xs) b.are_lines (runs_are goes_on xs) in
    let cut : full_lines (xs ++ break ∷ more) ≡ ended l ls ++ full_lines more =
    sym (runs_only goes_on (ended l ls ++ full_lines more) (xs ++ break ∷ more) (ended_runs l ls xs more are b.are_unended)) in
    ap (λ ys. rows_from 0 (full_lines ys)) (append_assoc xs (replicate (suc n) break) zs)
    ∙ ap (rows_from 0) cut
    ∙ rows_texts (ended l ls) (full_lines more) (ended_texts l ls b.are_texts b.are_unended)
    ∙ ap (λ ms. texts ++ rows_from 0 ms) (breaks_lines n zs)
    ∙ ap (λ rs. texts ++ rs) (rows_blank n (full_lines zs))
    ∙ sym (append_assoc texts (replicate n blank_row) (rows_from 0 (full_lines zs)))

-- at the page's end
pub rows_last : (n : ℕ) (xs : List Item) (b : IsTextBlock xs) → rows_from 0 (full_lines ((xs ++ replicate n break) ++ [])) ≡ broken_rows n b.first b.others ++ []
rows_last zero xs b =
    ap (λ ys. rows_from 0 (full_lines ys)) (append-nil (xs ++ []) ∙ append-nil xs)
    ∙ ap (rows_from 0) (b.are_lines ∙ sym (append-nil (b.first ∷ b.others)))
    ∙ rows_texts (b.first ∷ b.others) [] b.are_texts
rows_last (suc n) xs b = rows_broken n xs [] b

-- ---- all rows of prose

abbrev pub AreBlocks : List Passage → Type 0
AreBlocks [] = Unit {0}
AreBlocks (p ∷ ps) = IsTextBlock (page_items p.paragraph) × AreBlocks ps

abbrev pub passage_rows : (p : Passage) → IsTextBlock (page_items p.paragraph) → List Row
passage_rows p b = broken_rows p.breaks b.first b.others

abbrev pub prose_rows : (ps : List Passage) → AreBlocks ps → List Row
prose_rows [] bs = []
prose_rows (p ∷ ps) bs = passage_rows p bs.0 ++ prose_rows ps bs.1
