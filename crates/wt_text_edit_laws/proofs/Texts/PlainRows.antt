-- What lines of such text are as rows: each is a row of text, and all of them are one paragraph of one text.
use Rattle.std.proofs.Common.{◌≡◌, ℕ, zero, suc, Bool, true, false, None, List, [], ◌∷◌, ◌++◌, map, drop, refl, sym, ap, ◌∙◌, subst, append-nil, append_assoc, All}
use Rattle.std.specs.Prelude.{if◌then◌else◌}
use Rattle.std.specs.List.{flat_map}
use Rattle.std.proofs.lemmas.List.Elements.{All-head, All-tail}
use Rattle.wt_tree.specs.declared.kind.Kind.TheVariants as kind
use Rattle.wt_span.specs.Items.{Item, char, whole}
use Rattle.wt_span.specs.Runs.{runs, IsRun}
use Rattle.wt_span.proofs.RunLaws.{runs_cut, runs_joined}
use Rattle.wt_lines.specs.declared.kind.LineKind.{LineKind}
use Rattle.wt_lines.specs.declared.kind.LineKind.TheVariants as line
use Rattle.wt_lines.specs.declared.kind.TheConstants.{MOST_TABLES}
use Rattle.wt_lines.specs.Lines.{is_break_item, goes_on, lines, full_lines, content, empty_end}
use Rattle.wt_lines.specs.Kinds.{kind_of_signs, line_kind}
use Rattle.wt_lines.proofs.FullLines.{same_lines}
use Rattle.wt_tables.specs.Extents.{behind}
use Rattle.wt_tables.specs.Parts.{joined, put_first, units_from, unit_kind}
use Rattle.wt_inline.specs.declared.loose.Loose.TheVariants.{Text}
use Rattle.wt_inline.specs.ItemTree.{plain, ItemTree, inner, nothing, further, forest}
use Rattle.wt_inline.specs.Parts.{Part, part, parts, one_leaf, held_parts, loose_leaf, child, children}
use Rattle.wt_tiles.specs.Contexts.{in_line}
use Rattle.wt_context.specs.Line.{most_contexts, context_parts, line_parts}
use Rattle.wt_page.specs.Lines.{ending, kind_at}
use Rattle.wt_page.specs.Rows.{Row, marks_len, whole_row, line_rows, rows_from, rows, kind_of, last_ending}
use Rattle.wt_page.specs.Stretches.{Stretch, gap, tree_block, stretches_parts}
use Rattle.wt_page.specs.Tables.{Reading, gaps}
use Rattle.wt_page.specs.Texts.{later_parts, later_line, para}
use Rattle.wt_page.specs.Body.{same_block, block_stretches, run_stretches, blocks_by, within, blocks, meaning}
use Rattle.wt_text_edit_laws.specs.LonePages.{page_chars, lone_body, para_of, page_of}
use Rattle.wt_text_edit_laws.specs.StillItems.{StillItems}
use Rattle.wt_text_edit_laws.proofs.Texts.StillLines.{no_mark, still_left, still_right, still_within}

-- ---- a line without its line break, and its line break

is_both_by : (x : Item) (v : Bool) → is_break_item x ≡ v → (if v then [] else x ∷ []) ++ (if v then x ∷ [] else []) ≡ x ∷ []
is_both_by x true e = refl
is_both_by x false e = refl

is_both : (l : List Item) → content l ++ ending l ≡ l
is_both [] = refl
is_both (x ∷ []) = is_both_by x (is_break_item x) refl
is_both (x ∷ y ∷ ys) = ap (λ xs. x ∷ xs) (is_both (y ∷ ys))

still_content : (l : List Item) → StillItems l → StillItems (content l)
still_content l c = still_left (content l) (ending l) (subst StillItems (sym (is_both l)) c)

-- what ends a list hangs on its last item
pub ending_behind : (xs : List Item) (y : Item) (ys : List Item) → ending (xs ++ y ∷ ys) ≡ ending (y ∷ ys)
ending_behind [] y ys = refl
ending_behind (x ∷ []) y ys = refl
ending_behind (x ∷ z ∷ zs) y ys = ending_behind (z ∷ zs) y ys

-- ---- lines of text

no_marks : (l : List Item) → StillItems l → marks_len l ≡ 0
no_marks [] e = refl
no_marks (char o b ∷ xs) e = refl
no_marks (whole f o bs ∷ xs) e = rw (no_mark f e.0) refl

line_is : (l : List Item) → StillItems l → line_parts (content l) ≡ parts Text (content l)
unfolding context_parts
line_is l e = still_within most_contexts in_line (content l) (still_content l e)

-- a line of text: no mark stands before it, and its parts are its characters, references and nowikis
pub record IsTextLine (l : List Item) : Type 0 where
  pub kind : kind_at 0 l ≡ line.Text
  pub unled : marks_len l ≡ 0
  pub is : line_parts (content l) ≡ parts Text (content l)

abbrev pub AreTexts : List (List Item) → Type 0
AreTexts [] = Unit {0}
AreTexts (l ∷ ls) = IsTextLine l × AreTexts ls

pub no_text : kind_of_signs 0 [] ≡ line.Text → ⊥
unfolding kind_of_signs
no_text e = cc

abbrev pub IsText : List Item → Type 0
IsText l = line_kind 0 l ≡ line.Text

pub texts_by : (ls : List (List Item)) (ends : List (List Item)) → All IsText (map content ls ++ ends) → StillItems (joined ls) → AreTexts ls
texts_by [] ends a e = tt
texts_by (l ∷ ls) ends a e = (
  record {
    kind = All-head IsText (content l) (map content ls ++ ends) a;
    unled = no_marks l (still_left l (joined ls) e);
    is = line_is l (still_left l (joined ls) e);
  },
  texts_by ls ends (All-tail IsText (content l) (map content ls ++ ends) a) (still_right l (joined ls) e),
)

-- the last line isn't empty, so that no line break ends the text
unended_by : (x : Item) (v : Bool) (zs : List (List Item)) → All IsText (zs ++ (if v then [] ∷ [] else [])) → (if v then x ∷ [] else []) ≡ []
unended_by x true [] a = absurd (no_text (All-head IsText [] [] a))
unended_by x true (z ∷ zs) a = unended_by x true zs (All-tail IsText z (zs ++ [] ∷ []) a)
unended_by x false zs a = refl

pub unended : (xs : List Item) (zs : List (List Item)) → All IsText (zs ++ empty_end xs) → ending xs ≡ []
unended [] zs a = refl
unended (x ∷ []) zs a = unended_by x (is_break_item x) zs a
unended (x ∷ y ∷ ys) zs a = unended (y ∷ ys) zs a

-- ---- rows

abbrev pub text_row : List Item → Row
text_row l = record { kind = line.Text; lead = []; items = content l; ending = ending l }

rows_are : (ls : List (List Item)) → AreTexts ls → rows_from 0 ls ≡ map text_row ls
rows_are [] h = refl
rows_are (l ∷ ls) h =
    ap (λ (k : LineKind). line_rows k l ++ rows_from (behind 0 k) ls) h.0.kind
    ∙ ap (λ (n : ℕ). whole_row line.Text n l ∷ rows_from 0 ls) h.0.unled
    ∙ ap (λ rs. text_row l ∷ rs) (rows_are ls h.1)

abbrev single : List Item → List Row
single l = text_row l ∷ []

units_are : (ls : List (List Item)) → units_from kind_of 0 (map text_row ls) ≡ [] ∷ map single ls
units_are [] = refl
units_are (l ∷ ls) = let F : List (List Row) → List (List Row) = λ us. [] ∷ put_first (text_row l) us in ap F (units_are ls)

one_run : (l : List Item) (ls : List (List Item)) → IsRun same_block (map single (l ∷ ls)) []
one_run l [] = tt
one_run l (m ∷ ls) = (refl, one_run m ls)

runs_are : (l : List Item) (ls : List (List Item)) → runs same_block (map single (l ∷ ls)) ≡ map single (l ∷ ls) ∷ []
runs_are l ls =
    ap (runs same_block) (sym (append-nil (map single (l ∷ ls)))) ∙ runs_cut same_block (map single (l ∷ ls)) [] (one_run l ls)

joined_units : (ls : List (List Item)) → joined (map single ls) ≡ map text_row ls
joined_units [] = refl
joined_units (l ∷ ls) = ap (λ rs. text_row l ∷ rs) (joined_units ls)

-- a paragraph, and what ends it
abbrev with_gaps : List Row → List Stretch
with_gaps rs = gap [] ∷ tree_block (para rs) ∷ gap (last_ending rs) ∷ []

blocks_are : (read : Reading) (l : List Item) (ls : List (List Item)) → blocks_by read (map text_row (l ∷ ls)) ≡ with_gaps (map text_row (l ∷ ls))
blocks_are read l ls =
    ap (λ us. flat_map (run_stretches read) (runs same_block (drop 1 us))) (units_are (l ∷ ls))
    ∙ ap (λ rs. flat_map (run_stretches read) rs) (runs_are l ls)
    ∙ ap (λ rs. block_stretches read (unit_kind kind_of rs) rs ++ []) (joined_units (l ∷ ls))

pub within_are : (n : ℕ) (l : List Item) (ls : List (List Item)) → within n (map text_row (l ∷ ls)) ≡ with_gaps (map text_row (l ∷ ls))
within_are zero l ls = blocks_are gaps l ls
within_are (suc n) l ls = blocks_are (within n) l ls

-- ---- the paragraph

parts_append : (xs ys : List Item) → parts Text (xs ++ ys) ≡ parts Text xs ++ parts Text ys
parts_append [] ys = refl
parts_append (x ∷ xs) ys = ap (λ ps. part Text x ∷ ps) (parts_append xs ys)

-- the line break that ends the last line
abbrev pub last_break : List Item → List (List Item) → List Item
last_break break [] = break
last_break break (l ∷ ls) = last_break (ending l) ls

abbrev later : List Item → List (List Item) → List Part
later break ls = later_parts later_line break (map text_row ls)

-- a line, and what is told of its line break and the lines behind it
with_line : (l : List Item) (ls : List (List Item)) → IsTextLine l
    → later (ending l) ls ++ parts Text (last_break (ending l) ls) ≡ parts Text (ending l ++ joined ls)
    → (line_parts (content l) ++ later (ending l) ls) ++ parts Text (last_break (ending l) ls) ≡ parts Text (l ++ joined ls)
with_line l ls e h =
    append_assoc (line_parts (content l)) (later (ending l) ls) (parts Text (last_break (ending l) ls))
    ∙ ap (λ ps. ps ++ (later (ending l) ls ++ parts Text (last_break (ending l) ls))) e.is
    ∙ ap (λ ps. parts Text (content l) ++ ps) h
    ∙ sym (parts_append (content l) (ending l ++ joined ls))
    ∙ ap (parts Text) (sym (append_assoc (content l) (ending l) (joined ls)) ∙ ap (λ xs. xs ++ joined ls) (is_both l))

later_are : (break : List Item) (ls : List (List Item)) → AreTexts ls
    → later break ls ++ parts Text (last_break break ls) ≡ parts Text (break ++ joined ls)
later_are break [] h = ap (parts Text) (sym (append-nil break))
later_are break (l ∷ ls) h =
    append_assoc (parts Text break) (line_parts (content l) ++ later (ending l) ls) (parts Text (last_break (ending l) ls))
    ∙ ap (λ ps. parts Text break ++ ps) (with_line l ls h.0 (later_are (ending l) ls h.1))
    ∙ sym (parts_append break (l ++ joined ls))

pub break_is : (l : List Item) (ls : List (List Item)) → AreTexts ls → last_break (ending l) ls ≡ ending (joined (l ∷ ls))
break_is l [] h = ap ending (sym (append-nil l))
break_is l ([] ∷ ls) h = absurd (no_text h.0.kind)
break_is l ((x ∷ m) ∷ ls) h = break_is (x ∷ m) ls h.1 ∙ sym (ending_behind l x (m ++ joined ls))

last_is : (l : List Item) (ls : List (List Item)) → last_ending (map text_row (l ∷ ls)) ≡ last_break (ending l) ls
last_is l [] = refl
last_is l (m ∷ ls) = last_is m ls

-- what stands in it
pub para_is : (xs : List Item) (l : List Item) (ls : List (List Item)) → joined (l ∷ ls) ≡ xs → AreTexts (l ∷ ls)
    → last_break (ending l) ls ≡ [] → para (map text_row (l ∷ ls)) ≡ para_of xs
unfolding para
para_is xs l ls is h e =
    let ps : List Part = line_parts (content l) ++ later (ending l) ls in
    let all : ps ≡ parts Text xs =
    sym (append-nil ps) ∙ ap (λ xs. ps ++ parts Text xs) (sym e) ∙ with_line l ls h.0 (later_are (ending l) ls h.1) ∙ ap (parts Text) is in
    ap (λ qs. inner (plain kind.Para) [] (forest (children qs)) []) all

-- ---- all of it

abbrev body_of : List Stretch → ItemTree
body_of ss = inner (plain kind.Body) [] (forest (children (stretches_parts ss))) []

body_by : (x : Item) (xs : List Item) (ls : List (List Item)) → joined ls ≡ x ∷ xs → AreTexts ls → ending (x ∷ xs) ≡ []
    → body_of (within MOST_TABLES (rows_from 0 ls)) ≡ page_of (x ∷ xs)
unfolding children
body_by x xs [] is h e = cc
body_by x xs (l ∷ ls) is h e =
    let break : last_break (ending l) ls ≡ [] = break_is l ls h.1 ∙ ap ending is ∙ e in
    let rs : List Row = map text_row (l ∷ ls) in
    ap (λ rs. body_of (within MOST_TABLES rs)) (rows_are (l ∷ ls) h)
    ∙ ap body_of (within_are MOST_TABLES l ls)
    ∙ ap (λ xs. body_of (gap [] ∷ tree_block (para rs) ∷ gap xs ∷ [])) (last_is l ls ∙ break)
    ∙ ap (λ t. inner (plain kind.Body) [] (further t nothing) []) (para_is (x ∷ xs) l ls is h break)

meaning_of : (x : Item) (xs : List Item) → StillItems (x ∷ xs) → All IsText (lines (x ∷ xs)) → meaning (x ∷ xs) ≡ page_of (x ∷ xs)
unfolding meaning blocks rows
meaning_of x xs e a =
    let ls : List (List Item) = full_lines (x ∷ xs) in
    let is : joined ls ≡ x ∷ xs = runs_joined goes_on (x ∷ xs) in
    let all : All IsText (map content ls ++ empty_end (x ∷ xs)) = subst (All IsText) (same_lines (x ∷ xs)) a in
    let i : StillItems (joined ls) = subst StillItems (sym is) e in
    body_by x xs ls is (texts_by ls (empty_end (x ∷ xs)) all i) (unended (x ∷ xs) (map content ls) all)

-- one line at least, and it isn't empty
pub meaning_typed : (xs : List Item) → StillItems xs → All IsText (lines xs) → meaning xs ≡ page_of xs
meaning_typed [] e a = absurd (no_text (All-head IsText [] [] a))
meaning_typed (x ∷ xs) e a = meaning_of x xs e a

-- ---- one text

all_loose : (b : ℕ) (bs : List ℕ) → IsRun one_leaf (parts Text (page_chars (b ∷ bs))) []
all_loose b [] = tt
all_loose b (c ∷ bs) = (refl, all_loose c bs)

held_chars : (bs : List ℕ) → held_parts (parts Text (page_chars bs)) ≡ page_chars bs
held_chars [] = refl
held_chars (b ∷ bs) = ap (λ xs. char None b ∷ xs) (held_chars bs)

one_text : (b : ℕ) (bs : List ℕ) → children (parts Text (page_chars (b ∷ bs))) ≡ loose_leaf Text (page_chars (b ∷ bs)) ∷ []
unfolding children
one_text b bs =
    ap (λ ps. map child (runs one_leaf ps)) (sym (append-nil (parts Text (page_chars (b ∷ bs)))))
    ∙ ap (map child) (runs_cut one_leaf (parts Text (page_chars (b ∷ bs))) [] (all_loose b bs))
    ∙ ap (λ xs. loose_leaf Text (char None b ∷ xs) ∷ []) (held_chars bs)

pub meaning_by : (b : ℕ) (bs : List ℕ) → StillItems (page_chars (b ∷ bs)) → All IsText (lines (page_chars (b ∷ bs)))
    → meaning (page_chars (b ∷ bs)) ≡ lone_body (page_chars (b ∷ bs))
meaning_by b bs e a =
    meaning_typed (page_chars (b ∷ bs)) e a
    ∙ ap (λ ts. inner (plain kind.Body) [] (further (inner (plain kind.Para) [] (forest ts) []) nothing) []) (one_text b bs)
