-- Lines of text are one paragraph.
use Rattle.std.proofs.Common.{◌≡◌, ℕ, Bool, true, false, List, [], ◌∷◌, ◌++◌, map, refl, sym, ap, ◌∙◌, append-nil, All}
use Rattle.std.specs.Prelude.{if◌then◌else◌}
use Rattle.std.proofs.lemmas.List.Elements.{All-nil, All-cons, All-head, All-tail}
use Rattle.wt_tree.specs.declared.kind.Kind.TheVariants as kind
use Rattle.wt_span.specs.Items.{Item}
use Rattle.wt_span.specs.Runs.{AreRuns}
use Rattle.wt_lines.specs.declared.kind.LineKind.{LineKind}
use Rattle.wt_lines.specs.declared.kind.LineKind.TheVariants as line
use Rattle.wt_lines.specs.declared.kind.TheConstants.{MOST_TABLES}
use Rattle.wt_lines.specs.Lines.{content, empty_end, is_break_item, goes_on}
use Rattle.wt_lines.specs.Kinds.{kind_of_signs, line_kind}
use Rattle.wt_tables.specs.Extents.{behind}
use Rattle.wt_page.specs.Lines.{ending}
use Rattle.wt_inline.specs.ItemTree.{plain, ItemTree, inner, nothing, further, forest}
use Rattle.wt_inline.specs.Parts.{Part, children}
use Rattle.wt_page.specs.Rows.{Row, marks_len, whole_row, line_rows, rows_from, last_ending}
use Rattle.wt_page.specs.Stretches.{Stretch, gap, tree_block, stretches_parts}
use Rattle.wt_page.specs.Texts.{para_parts, para}
use Rattle.wt_page.specs.Body.{within}
use Rattle.wt_text_edit_laws.specs.ParagraphBetween.{body_with}
use Rattle.wt_text_edit_laws.proofs.Paragraphs.Apart.{within_text}
use Rattle.wt_text_edit_laws.proofs.Paragraphs.LineBlocks.{later_row, paragraph_rows, paragraph_last, paragraph_texts}
use Rattle.wt_text_edit_laws.proofs.Texts.PlainRows.{text_row}
use Rattle.wt_text_edit_laws.specs.ParagraphParts.{para_with}
use Rattle.wt_beside_laws.specs.Lines.{IsLineOfText}

-- ---- lines of text

pub front_all : (P : List Item → Type 0) (ls ms : List (List Item)) → All P (ls ++ ms) → All P ls
front_all P [] ms h = All-nil P
front_all P (l ∷ ls) ms h = All-cons P l ls (All-head P l (ls ++ ms) h) (front_all P ls ms (All-tail P l (ls ++ ms) h))

pub rest_all : (P : List Item → Type 0) (ls ms : List (List Item)) → All P (ls ++ ms) → All P ms
rest_all P [] ms h = h
rest_all P (l ∷ ls) ms h = rest_all P ls ms (All-tail P l (ls ++ ms) h)

abbrev one_empty : List (List Item)
one_empty = [] ∷ []

-- an empty line is none, however many tables are open
no_text_at : (n : ℕ) → line_kind n [] ≡ line.Text → ⊥
unfolding kind_of_signs
no_text_at n e = cc

pub no_end : (n : ℕ) (xs : List Item) → All (IsLineOfText n) (empty_end xs) → empty_end xs ≡ []
no_end n [] h = absurd (no_text_at n (All-head (IsLineOfText n) [] [] h))
no_end n (x ∷ []) h = by (is_break_item x) h
  where
    by : (t : Bool) → All (IsLineOfText n) (if t then one_empty else []) → (if t then one_empty else []) ≡ []
    by true k = absurd (no_text_at n (All-head (IsLineOfText n) [] [] k))
    by false k = refl
no_end n (x ∷ y ∷ ys) h = no_end n (y ∷ ys) h

-- ---- their rows

later_rows : (n : ℕ) (ls ms : List (List Item)) → All (IsLineOfText n) (map content ls) → rows_from n (ls ++ ms) ≡ map later_row ls ++ rows_from n ms
later_rows n [] ms h = refl
later_rows n (l ∷ ls) ms h =
    ap (λ (k : LineKind). line_rows k l ++ rows_from (behind n k) (ls ++ ms)) (All-head (IsLineOfText n) (content l) (map content ls) h)
    ∙ ap (λ rs. later_row l ∷ rs) (later_rows n ls ms (All-tail (IsLineOfText n) (content l) (map content ls) h))

-- before other lines
pub rows_text : (n : ℕ) (l : List Item) (ls ms : List (List Item)) → marks_len l ≡ 0 → All (IsLineOfText n) (map content (l ∷ ls))
    → rows_from n ((l ∷ ls) ++ ms) ≡ paragraph_rows l ls ++ rows_from n ms
rows_text n l ls ms u h =
    later_rows n (l ∷ ls) ms h ∙ ap (λ (m : ℕ). whole_row line.Text m l ∷ (map later_row ls ++ rows_from n ms)) u

-- ---- nothing ends the last one

ends_none : (l : List Item) → empty_end l ≡ [] → ending l ≡ []
ends_none [] e = refl
ends_none (x ∷ []) e = by (is_break_item x) e
  where
    by : (t : Bool) → (if t then one_empty else []) ≡ [] → (if t then x ∷ [] else []) ≡ []
    by true k = cc
    by false k = refl
ends_none (x ∷ y ∷ ys) e = ends_none (y ∷ ys) e

end_behind : (l : List Item) (y : Item) (ys : List Item) → empty_end (l ++ y ∷ ys) ≡ empty_end (y ∷ ys)
end_behind [] y ys = refl
end_behind (x ∷ []) y ys = refl
end_behind (x ∷ z ∷ zs) y ys = end_behind (z ∷ zs) y ys

pub last_none : (l : List Item) (ls : List (List Item)) (xs : List Item) → AreRuns goes_on (l ∷ ls) xs → empty_end xs ≡ []
    → last_ending (map text_row (l ∷ ls)) ≡ []
last_none l [] xs r e =
    let is : xs ≡ l = r.1 ∙ ap (λ os. l ++ os) r.3 ∙ append-nil l in
    ends_none l (sym (ap empty_end is) ∙ e)
last_none l ([] ∷ ls) xs r e = absurd r.3.2
last_none l ((y ∷ m) ∷ ls) xs r e =
    let is : xs ≡ l ++ y ∷ (m ++ r.3.0) = r.1 ∙ ap (λ os. l ++ os) r.3.1 in
    last_none (y ∷ m) ls r.0 r.3 (ap empty_end r.3.1 ∙ sym (end_behind l y (m ++ r.3.0)) ∙ sym (ap empty_end is) ∙ e)

-- ---- the content

pub para_by : (rs : List Row) (ps : List Part) → para_parts rs ≡ ps → para rs ≡ para_with ps
unfolding para
para_by rs ps e = ap (λ qs. inner (plain kind.Para) [] (forest (children qs)) []) e

abbrev pub body_of : List Stretch → ItemTree
body_of ss = inner (plain kind.Body) [] (forest (children (stretches_parts ss))) []

pub body_by : (l : List Item) (ls : List (List Item)) (xs : List Item) (t : ItemTree) → AreRuns goes_on (l ∷ ls) xs → empty_end xs ≡ [] → para (paragraph_rows l ls) ≡ t
    → body_of (within MOST_TABLES (paragraph_rows l ls)) ≡ body_with (t ∷ [])
unfolding children
body_by l ls xs t r e p =
    ap body_of (within_text MOST_TABLES (text_row l) (map later_row ls) (paragraph_texts l ls))
    ∙ ap (λ ys. body_of (gap [] ∷ tree_block (para (paragraph_rows l ls)) ∷ gap ys ∷ [])) (paragraph_last l ls ∙ last_none l ls xs r e)
    ∙ ap (λ u. inner (plain kind.Body) [] (further u nothing) []) p
