-- Lines of text, whatever is in them, as the rows of one paragraph: before the first stands no mark, and the last isn't empty.
use Rattle.std.proofs.Common.{arith, ◌≡◌, ◌≢◌, ℕ, suc, ◌==◌, Bool, true, false, not, Some, None, List, [], ◌∷◌, ◌++◌, map, take, drop, refl, sym, ap, ◌∙◌, subst, append-nil, All}
use Rattle.std.specs.Prelude.{if◌then◌else◌}
use Rattle.std.specs.List.{AllByRecursion}
use Rattle.std.proofs.lemmas.Bool.Decides.{nat_tests}
use Rattle.std.proofs.lemmas.List.Elements.{All-head, All-tail}
use Rattle.wt_tree.specs.declared.kind.Kind.TheVariants as kind
use Rattle.std.proofs.lemmas.Grind.{flat_map-append}
use Rattle.wt_span.specs.Items.{Item, char, whole, call_of, is_mark, source, sources}
use Rattle.wt_span.specs.Runs.{IsRun, AreRuns}
use Rattle.wt_span.proofs.RunLaws.{runs_are}
use Rattle.wt_expand.specs.PageItems.{page_items}
use Rattle.wt_expand.proofs.PageLaws.{page_has_no_calls}
use Rattle.wt_lines.specs.declared.kind.LineKind.TheVariants as line
use Rattle.wt_lines.specs.Lines.{is_break_item, goes_on, lines, full_lines, content, empty_end, AreLines}
use Rattle.wt_lines.proofs.FullLines.{same_lines}
use Rattle.wt_inline.specs.declared.loose.Loose.TheVariants.{Text}
use Rattle.wt_inline.specs.ItemTree.{plain, inner, forest}
use Rattle.wt_inline.specs.Parts.{parts, held_parts, children}
use Rattle.wt_inline.proofs.HeldLaws.{held_append}
use Rattle.wt_context.specs.Line.{line_parts}
use Rattle.wt_context.proofs.LineHolding.{line_source}
use Rattle.wt_page.specs.Lines.{ending}
use Rattle.wt_page.specs.Rows.{Row, marks_len, whole_row, last_ending}
use Rattle.wt_page.specs.Texts.{later_parts, later_line, para_parts, para}
use Rattle.wt_part_laws.specs.Blocks.{AllAre}
use Rattle.wt_text_edit_laws.specs.LonePages.{page_chars, para_of}
use Rattle.wt_text_edit_laws.specs.ParagraphParts.{break, joined_parts, para_with}
use Rattle.wt_text_edit_laws.specs.Paragraphs.{IsTextLine}
use Rattle.wt_text_edit_laws.proofs.Texts.PlainRows.{unended, text_row, last_break, ending_behind}
use Rattle.wt_text_edit_laws.proofs.Prose.ProseLines.{first_ended, rest_ended, unled_by, ended_unled, IsTextBlock, some_item}
use Rattle.wt_text_edit_laws.proofs.Prose.ProseBlocks.{para_ended, block_para}

-- ---- the line breaks of a page are its own characters

abbrev pub OwnBreaks : List Item → Type 0
OwnBreaks xs = AllByRecursion (λ x. is_break_item x ≡ true → x ≡ break) xs

own_first : (xs ys : List Item) → OwnBreaks (xs ++ ys) → OwnBreaks xs
own_first [] ys h = tt
own_first (x ∷ xs) ys h = (h.0, own_first xs ys h.1)

own_rest : (xs ys : List Item) → OwnBreaks (xs ++ ys) → OwnBreaks ys
own_rest [] ys h = h
own_rest (x ∷ xs) ys h = own_rest xs ys h.1

pub chars_own : (bs : List ℕ) → OwnBreaks (page_chars bs)
chars_own [] = tt
chars_own (b ∷ bs) = ((λ e. ap (char None) (is_ten b e)), chars_own bs)
  where
    is_ten : (b : ℕ) → (b == 10) ≡ true → b ≡ 10
    is_ten b e = grind (arith, nat_tests, e)

first_own : (x : Item) → call_of x ≡ None → OwnBreaks (x ∷ [])
first_own (char None b) e = chars_own (b ∷ [])
first_own (char (Some k) b) e = absurd (cc)
first_own (whole f o bs) e = ((λ z. absurd (cc)), tt)

all_own : (xs : List Item) → All (λ x. call_of x ≡ None) xs → OwnBreaks xs
all_own [] h = tt
all_own (x ∷ xs) h =
    ((first_own x (All-head (λ x. call_of x ≡ None) x xs h)).0, all_own xs (All-tail (λ x. call_of x ≡ None) x xs h))

pub page_breaks : (q : List ℕ) → OwnBreaks (page_items q)
page_breaks q = all_own (page_items q) (page_has_no_calls q)

not_true : (b : Bool) → not b ≡ false → b ≡ true
not_true true e = refl
not_true false e = cc

-- a line before another one ends with its line break
ends_line : (l : List Item) (y : Item) (others : List Item) → IsRun goes_on l (y ∷ others) → OwnBreaks l → ending l ≡ break ∷ []
ends_line [] y others r o = absurd r
ends_line (x ∷ []) y others r o =
    let e : is_break_item x ≡ true = not_true (is_break_item x) r in
    ap (λ (t : Bool). if t then x ∷ [] else []) e ∙ ap (λ z. z ∷ []) (o.0 e)
ends_line (x ∷ z ∷ zs) y others r o = ends_line (z ∷ zs) y others r.1 o.1

-- ---- the parts of their rows

pub row_parts : (ls : List (List Item)) (xs : List Item) → AreRuns goes_on ls xs → OwnBreaks xs → para_parts (map text_row ls) ≡ joined_parts (map content ls)
row_parts [] xs r o = refl
row_parts (l ∷ []) xs r o = refl
row_parts (l ∷ [] ∷ ls) xs r o = absurd r.3.2
row_parts (l ∷ (y ∷ m) ∷ ls) xs r o =
    let own : OwnBreaks (l ++ r.0) = subst OwnBreaks r.1 o in
    let on : IsRun goes_on l (y ∷ (m ++ r.3.0)) = subst (IsRun goes_on l) r.3.1 r.2 in
    ap (λ zs. line_parts (content l) ++ (parts Text zs ++ para_parts (map text_row ((y ∷ m) ∷ ls)))) (ends_line l y (m ++ r.3.0) on (own_first l r.0 own))
    ∙ ap (λ ps. line_parts (content l) ++ (parts Text (break ∷ []) ++ ps)) (row_parts ((y ∷ m) ∷ ls) r.0 r.3 (own_rest l r.0 own))

-- ---- marks before a later line are in the paragraph

abbrev pub later_row : List Item → Row
later_row l = whole_row line.Text (marks_len l) l

-- the rows of a paragraph
abbrev pub paragraph_rows : List Item → List (List Item) → List Row
paragraph_rows l ls = text_row l ∷ map later_row ls

one_more : (x : Item) (xs : List Item) → is_mark x ≡ true → marks_len (x ∷ xs) ≡ suc (marks_len xs)
one_more x xs e = rw e (omega arith)

none_more : (x : Item) (xs : List Item) → is_mark x ≡ false → marks_len (x ∷ xs) ≡ 0
none_more x xs e = rw e refl

mark_content : (x : Item) (xs : List Item) → is_mark x ≡ true → content (x ∷ xs) ≡ x ∷ content xs
mark_content (char o b) [] e = cc
mark_content (whole f o bs) [] e = refl
mark_content x (y ∷ ys) e = refl

mark_ending : (x : Item) (xs : List Item) → is_mark x ≡ true → ending (x ∷ xs) ≡ ending xs
mark_ending (char o b) [] e = cc
mark_ending (whole f o bs) [] e = refl
mark_ending x (y ∷ ys) e = refl

-- with the marks before it, a line's row has all that the line holds
record IsLed (l : List Item) (n : ℕ) : Type 0 where
  inside : take n l ++ content (drop n l) ≡ content l
  end : ending (drop n l) ≡ ending l

led_by : (x : Item) (xs : List Item) (v : Bool) → is_mark x ≡ v → IsLed xs (marks_len xs) → IsLed (x ∷ xs) (marks_len (x ∷ xs))
led_by x xs true e h =
    subst (IsLed (x ∷ xs)) (sym (one_more x xs e))
    (record { inside = ap (λ ys. x ∷ ys) h.inside ∙ sym (mark_content x xs e); end = h.end ∙ sym (mark_ending x xs e) })
led_by x xs false e h = subst (IsLed (x ∷ xs)) (sym (none_more x xs e)) (record { inside = refl; end = refl })

led : (l : List Item) → IsLed l (marks_len l)
led [] = record { inside = refl; end = refl }
led (x ∷ xs) = led_by x xs (is_mark x) refl (led xs)

later_same : (before : List Item) (ls : List (List Item))
    → later_parts later_line before (map later_row ls) ≡ later_parts later_line before (map text_row ls)
later_same before [] = refl
later_same before (l ∷ ls) =
    let h = led l in
    let end : List Item = ending (drop (marks_len l) l) in
    ap (λ xs. parts Text before ++ (line_parts xs ++ later_parts later_line end (map later_row ls))) h.inside
    ∙ ap (λ (xs : List Item). parts Text before ++ (line_parts (content l) ++ later_parts later_line xs (map later_row ls))) h.end
    ∙ ap (λ ps. parts Text before ++ (line_parts (content l) ++ ps)) (later_same (ending l) ls)

pub paragraph_parts : (l : List Item) (ls : List (List Item)) → para_parts (paragraph_rows l ls) ≡ para_parts (map text_row (l ∷ ls))
paragraph_parts l ls = ap (λ ps. line_parts (content l) ++ ps) (later_same (ending l) ls)

later_last : (l : List Item) (ls : List (List Item)) → last_ending (map later_row (l ∷ ls)) ≡ last_ending (map text_row (l ∷ ls))
later_last l [] = let h = led l in h.end
later_last l (m ∷ ls) = later_last m ls

pub paragraph_last : (l : List Item) (ls : List (List Item)) → last_ending (paragraph_rows l ls) ≡ last_ending (map text_row (l ∷ ls))
paragraph_last l [] = refl
paragraph_last l (m ∷ ls) = later_last m ls

later_texts : (ls : List (List Item)) → AllAre line.Text (map later_row ls)
later_texts [] = tt
later_texts (l ∷ ls) = (refl, later_texts ls)

pub paragraph_texts : (l : List Item) (ls : List (List Item)) → AllAre line.Text (paragraph_rows l ls)
paragraph_texts l ls = (refl, later_texts ls)

-- ---- the first line

-- where no mark stands before the lines, none stands before the first, and the other way round
pub first_unled : (l : List Item) (ls : List (List Item)) (xs : List Item) → AreRuns goes_on (l ∷ ls) xs → marks_len xs ≡ 0 → marks_len l ≡ 0
first_unled [] ls xs r h = absurd r.2
first_unled (x ∷ l) ls xs r h = unled_by x (l ++ r.0) l (is_mark x) refl (subst (λ ys. marks_len ys ≡ 0) r.1 h)

all_by : (l : List Item) (ls : List (List Item)) (xs : List Item) → AreRuns goes_on (l ∷ ls) xs → marks_len l ≡ 0 → marks_len xs ≡ 0
all_by [] ls xs r h = absurd r.2
all_by (x ∷ l) ls xs r h = subst (λ ys. marks_len ys ≡ 0) (sym r.1) (unled_by x l (l ++ r.0) (is_mark x) refl h)

-- ---- the last line

break_runs : (l : List Item) (ls : List (List Item)) (xs : List Item) → AreRuns goes_on (l ∷ ls) xs → last_break (ending l) ls ≡ ending xs
break_runs l [] xs r = sym (ap ending (r.1 ∙ ap (λ os. l ++ os) r.3 ∙ append-nil l))
break_runs l ([] ∷ ls) xs r = absurd r.3.2
break_runs l ((y ∷ m) ∷ ls) xs r =
    break_runs (y ∷ m) ls r.0 r.3
    ∙ ap ending r.3.1
    ∙ sym (ending_behind l y (m ++ r.3.0))
    ∙ sym (ap ending (r.1 ∙ ap (λ os. l ++ os) r.3.1))

abbrev one_empty : List (List Item)
one_empty = [] ∷ []

closed_by : (x : Item) (xs : List Item) → ending (x ∷ xs) ≡ [] → empty_end (x ∷ xs) ≡ []
closed_by x [] e = by (is_break_item x) e
  where
    by : (v : Bool) → (if v then x ∷ [] else []) ≡ [] → (if v then one_empty else []) ≡ []
    by true k = cc
    by false k = refl
closed_by x (y ∷ ys) e = closed_by y ys e

closed : (xs l : List Item) (ls : List (List Item)) → full_lines xs ≡ l ∷ ls → ending xs ≡ [] → empty_end xs ≡ []
closed [] l ls e u = cc
closed (x ∷ xs) l ls e u = closed_by x xs u

-- ---- a paragraph as its lines

pub record IsLineBlock (xs : List Item) : Type 0 where
  pub first : List Item
  pub others : List (List Item)
  pub are_lines : full_lines xs ≡ first ∷ others
  pub unled : marks_len first ≡ 0
  pub are_unended : last_break (ending first) others ≡ []
  pub are_closed : empty_end xs ≡ []

pub block_runs : (xs : List Item) (b : IsLineBlock xs) → AreRuns goes_on (b.first ∷ b.others) xs
block_runs xs b = subst (λ ms. AreRuns goes_on ms xs) b.are_lines (runs_are goes_on xs)

pub block_by : (xs : List Item) (ls : List (List Item)) → full_lines xs ≡ ls → marks_len xs ≡ 0 → ending xs ≡ [] → xs ≢ [] → IsLineBlock xs
block_by xs [] e h u some = absurd (some (subst (λ ms. AreRuns goes_on ms xs) e (runs_are goes_on xs)))
block_by xs (l ∷ ls) e h u some = record {
  first = l;
  others = ls;
  are_lines = e;
  unled = first_unled l ls xs (subst (λ ms. AreRuns goes_on ms xs) e (runs_are goes_on xs)) h;
  are_unended = break_runs l ls xs (subst (λ ms. AreRuns goes_on ms xs) e (runs_are goes_on xs)) ∙ u;
  are_closed = closed xs l ls e u;
}

pub line_block : (xs : List Item) → marks_len xs ≡ 0 → All IsTextLine (lines xs) → IsLineBlock xs
line_block xs h a =
    let ls : List (List Item) = full_lines xs in
    let all : All IsTextLine (map content ls ++ empty_end xs) = subst (All IsTextLine) (same_lines xs) a in
    block_by xs ls refl h (unended xs (map content ls) all) (some_item xs a)

-- one of one text
pub as_lines : (xs : List Item) → IsTextBlock xs → IsLineBlock xs
as_lines xs b =
    let are : AreRuns goes_on (b.first ∷ b.others) xs = subst (λ ms. AreRuns goes_on ms xs) b.are_lines (runs_are goes_on xs) in
    record {
      first = b.first;
      others = b.others;
      are_lines = b.are_lines;
      unled = b.are_texts.0.unled;
      are_unended = b.are_unended;
      are_closed = closed xs b.first b.others b.are_lines (sym (break_runs b.first b.others xs are) ∙ b.are_unended);
    }

pub all_unled : (xs : List Item) → IsTextBlock xs → marks_len xs ≡ 0
all_unled xs b = all_by b.first b.others xs (subst (λ ms. AreRuns goes_on ms xs) b.are_lines (runs_are goes_on xs)) b.are_texts.0.unled

-- with a line break behind the last
pub still_unled : (l : List Item) (ls : List (List Item)) → marks_len l ≡ 0 → marks_len (first_ended l ls) ≡ 0
still_unled l [] h = ended_unled l h
still_unled l (m ∷ ls) h = h

-- ---- their rows are this paragraph

lines_are : (xs : List Item) (b : IsLineBlock xs) → map content (b.first ∷ b.others) ≡ lines xs
lines_are xs b =
    let ls : List (List Item) = full_lines xs in
    ap (map content) (sym b.are_lines)
    ∙ sym (append-nil (map content ls))
    ∙ sym (ap (λ ms. map content ls ++ ms) b.are_closed)
    ∙ sym (same_lines xs)

pub own_parts : (xs : List Item) (b : IsLineBlock xs) → OwnBreaks xs → para_parts (map text_row (b.first ∷ b.others)) ≡ joined_parts (lines xs)
own_parts xs b o = row_parts (b.first ∷ b.others) xs (block_runs xs b) o ∙ ap joined_parts (lines_are xs b)

pub rows_para : (xs : List Item) (b : IsLineBlock xs) → OwnBreaks xs → para (paragraph_rows b.first b.others) ≡ para_with (joined_parts (lines xs))
unfolding para
rows_para xs b o = ap (λ ps. inner (plain kind.Para) [] (forest (children ps)) []) (paragraph_parts b.first b.others ∙ own_parts xs b o)

pub ended_para : (xs : List Item) (b : IsLineBlock xs) → OwnBreaks xs
    → para (paragraph_rows (first_ended b.first b.others) (rest_ended b.first b.others)) ≡ para_with (joined_parts (lines xs))
unfolding para
ended_para xs b o =
    ap (λ ps. inner (plain kind.Para) [] (forest (children ps)) [])
    (paragraph_parts (first_ended b.first b.others) (rest_ended b.first b.others) ∙ para_ended b.first b.others b.are_unended ∙ own_parts xs b o)

-- of one text it is all its items
pub text_tree : (xs : List Item) → IsTextBlock xs → OwnBreaks xs → para_with (joined_parts (lines xs)) ≡ para_of xs
unfolding as_lines para
text_tree xs b o =
    sym (ap (λ ps. inner (plain kind.Para) [] (forest (children ps)) []) (own_parts xs (as_lines xs b) o)) ∙ block_para xs b

-- ---- their source

pub parts_source : (ls : List (List Item)) (xs : List Item) → AreLines ls xs → OwnBreaks xs → sources (held_parts (joined_parts ls)) ≡ sources xs
parts_source [] xs r o = absurd r
parts_source (l ∷ []) xs r o = ap (λ ps. sources (held_parts ps)) (append-nil (line_parts l)) ∙ line_source l ∙ ap sources (sym r.1)
parts_source (l ∷ m ∷ ls) xs r o =
    let own : OwnBreaks (l ++ r.1 ∷ r.2) = subst OwnBreaks r.4 o in
    let rest : OwnBreaks (r.1 ∷ r.2) = own_rest l (r.1 ∷ r.2) own in
    let others : List Item = held_parts (joined_parts (m ∷ ls)) in
    ap sources (held_append (line_parts l) (parts Text (break ∷ []) ++ joined_parts (m ∷ ls)))
    ∙ flat_map-append source (held_parts (line_parts l)) (break ∷ others)
    ∙ ap (λ bs. bs ++ sources (break ∷ others)) (line_source l)
    ∙ ap (λ (bs : List ℕ). sources l ++ 10 ∷ bs) (parts_source (m ∷ ls) r.2 r.5 rest.1)
    ∙ ap (λ x. sources l ++ sources (x ∷ r.2)) (sym (rest.0 r.3))
    ∙ sym (flat_map-append source l (r.1 ∷ r.2))
    ∙ ap sources (sym r.4)
