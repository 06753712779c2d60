-- The blocks of prose: each paragraph, and the line breaks behind it as one separator.
use Rattle.std.proofs.Common.{◌≡◌, ℕ, zero, suc, ◌-◌, false, List, [], ◌∷◌, ◌++◌, drop, map, refl, sym, ap, ◌∙◌, subst, append_assoc, arith, None}
use Rattle.std.specs.Prelude.{replicate}
use Rattle.std.specs.List.{flat_map}
use Rattle.std.proofs.lemmas.List.{map-append}
use Rattle.wt_tree.specs.declared.kind.Kind.TheVariants as kind
use Rattle.wt_span.specs.Items.{Item}
use Rattle.wt_span.specs.Runs.{runs, IsRun}
use Rattle.wt_span.proofs.RunLaws.{runs_cut}
use Rattle.wt_lines.specs.declared.kind.TheConstants.{MOST_TABLES}
use Rattle.wt_lines.specs.Lines.{full_lines, content}
use Rattle.wt_tables.specs.Extents.{inner_len}
use Rattle.wt_tables.specs.Parts.{joined, put_first, taken_len, units_from, unit_kind}
use Rattle.wt_inline.specs.declared.loose.Loose.TheVariants.{Text, Sep}
use Rattle.wt_inline.specs.ItemTree.{plain, ItemTree, inner, forest}
use Rattle.wt_inline.specs.Parts.{Part, loose, node, held_parts, parts, one_leaf, loose_leaf, child, children}
use Rattle.wt_context.specs.Line.{line_parts}
use Rattle.wt_page.specs.Lines.{ending}
use Rattle.wt_page.specs.Rows.{Row, kind_of, rows, rows_from, last_ending}
use Rattle.wt_page.specs.Stretches.{Stretch, gap, tree_block, stretch_parts}
use Rattle.wt_page.specs.Tables.{Reading, gaps}
use Rattle.wt_page.specs.Texts.{later_parts, later_line, para_parts, para}
use Rattle.wt_page.specs.Body.{same_block, block_stretches, run_stretches, blocks_by, within, blocks, meaning}
use Rattle.wt_expand.specs.PageItems.{page_items}
use Rattle.wt_text_edit_laws.specs.LonePages.{page_chars, para_of}
use Rattle.wt_text_edit_laws.proofs.Texts.PlainRows.{text_row, last_break, para_is, ending_behind}
use Rattle.wt_text_edit_laws.specs.ProsePages.{Passage, AreProse}
use Rattle.wt_text_edit_laws.specs.ProseTrees.{separator, passage_blocks, prose_meaning}
use Rattle.wt_text_edit_laws.proofs.Prose.ProseReading.{break, prose_items}
use Rattle.wt_text_edit_laws.proofs.Prose.ProseLines.{first_ended, rest_ended, ended, content_ended, blank_row, IsTextBlock, broken_rows, rows_broken, rows_last, AreBlocks, passage_rows, prose_rows}

-- ---- the rows of all

rows_more : (n k : ℕ) (xs zs : List Item) (b : IsTextBlock xs) → n ≡ suc k
    → rows_from 0 (full_lines ((xs ++ replicate n break) ++ zs)) ≡ broken_rows n b.first b.others ++ rows_from 0 (full_lines zs)
rows_more n k xs zs b e =
    let P : ℕ → Type 0 = λ n. rows_from 0 (full_lines ((xs ++ replicate n break) ++ zs)) ≡ broken_rows n b.first b.others ++ rows_from 0 (full_lines zs) in
    subst P (sym e) (rows_broken k xs zs b)

prose_are : (ps : List Passage) (h : AreProse ps) (bs : AreBlocks ps) → rows_from 0 (full_lines (prose_items ps)) ≡ prose_rows ps bs
prose_are [] h bs = absurd h
prose_are (p ∷ []) h bs = rows_last p.breaks (page_items p.paragraph) bs.0
prose_are (p ∷ q ∷ ps) h bs =
    let is : p.breaks ≡ suc (p.breaks - 1) = omega (arith, h.1) in
    rows_more p.breaks (p.breaks - 1) (page_items p.paragraph) (prose_items (q ∷ ps)) bs.0 is
    ∙ ap (λ rs. passage_rows p bs.0 ++ rs) (prose_are (q ∷ ps) h.2 bs.1)

-- ---- each row is a unit

abbrev AreFlat : List Row → Type 0
AreFlat [] = Unit {0}
AreFlat (r ∷ rs) = ((n : ℕ) → taken_len r.kind n ≡ 0) × AreFlat rs

abbrev alone : Row → List Row
alone r = r ∷ []

units_flat : (rs : List Row) → AreFlat rs → units_from kind_of 0 rs ≡ [] ∷ map alone rs
units_flat [] h = refl
units_flat (r ∷ rs) h =
    let F : List (List Row) → List (List Row) = λ us. [] ∷ put_first r us in
    ap (λ (n : ℕ). F (units_from kind_of n rs)) (h.0 (inner_len (map kind_of rs))) ∙ ap F (units_flat rs h.1)

both_flat : (rs ss : List Row) → AreFlat rs → AreFlat ss → AreFlat (rs ++ ss)
both_flat [] ss h g = g
both_flat (r ∷ rs) ss h g = (h.0, both_flat rs ss h.1 g)

texts_flat : (ls : List (List Item)) → AreFlat (map text_row ls)
texts_flat [] = tt
texts_flat (l ∷ ls) = (λ n. refl, texts_flat ls)

blanks_flat : (n : ℕ) → AreFlat (replicate n blank_row)
blanks_flat zero = tt
blanks_flat (suc n) = (λ k. refl, blanks_flat n)

broken_flat : (n : ℕ) (l : List Item) (ls : List (List Item)) → AreFlat (broken_rows n l ls)
broken_flat zero l ls = texts_flat (l ∷ ls)
broken_flat (suc n) l ls = both_flat (map text_row (ended l ls)) (replicate n blank_row) (texts_flat (ended l ls)) (blanks_flat n)

prose_flat : (ps : List Passage) (bs : AreBlocks ps) → AreFlat (prose_rows ps bs)
prose_flat [] bs = tt
prose_flat (p ∷ ps) bs = both_flat (passage_rows p bs.0) (prose_rows ps bs.1) (broken_flat p.breaks bs.0.first bs.0.others) (prose_flat ps bs.1)

-- ---- runs of rows as blocks

abbrev read_rows : Reading → List Row → List Stretch
read_rows read rs = flat_map (run_stretches read) (runs same_block (map alone rs))

abbrev with_gaps : List Row → List Stretch
with_gaps rs = gap [] ∷ tree_block (para rs) ∷ gap (last_ending rs) ∷ []

-- no text follows directly
abbrev NoTextFirst : List Row → Type 0
NoTextFirst [] = Unit {0}
NoTextFirst (r ∷ rs) = (l : List Item) → same_block (alone (text_row l)) (alone r) ≡ false

one_run : (l : List Item) (ls : List (List Item)) (rs : List Row) → NoTextFirst rs → IsRun same_block (map alone (map text_row (l ∷ ls))) (map alone rs)
one_run l [] [] h = tt
one_run l [] (r ∷ rs) h = h l
one_run l (m ∷ ls) rs h = (refl, one_run m ls rs h)

joined_alone : (rs : List Row) → joined (map alone rs) ≡ rs
joined_alone [] = refl
joined_alone (r ∷ rs) = ap (λ ss. r ∷ ss) (joined_alone rs)

texts_read : (read : Reading) (l : List Item) (ls : List (List Item)) (rs : List Row) → NoTextFirst rs
    → read_rows read (map text_row (l ∷ ls) ++ rs) ≡ with_gaps (map text_row (l ∷ ls)) ++ read_rows read rs
texts_read read l ls rs h =
    let T : List Row = map text_row (l ∷ ls) in
    ap (λ us. flat_map (run_stretches read) (runs same_block us)) (map-append alone T rs)
    ∙ ap (λ us. flat_map (run_stretches read) us) (runs_cut same_block (map alone T) (map alone rs) (one_run l ls rs h))
    ∙ ap (λ ss. block_stretches read (unit_kind kind_of ss) ss ++ read_rows read rs) (joined_alone T)

blank_apart : (rs : List Row) → IsRun same_block (alone blank_row ∷ []) (map alone rs)
blank_apart [] = tt
blank_apart (r ∷ rs) = refl

blanks_read : (read : Reading) (n : ℕ) (rs : List Row) → read_rows read (replicate n blank_row ++ rs) ≡ replicate n (gap (break ∷ [])) ++ read_rows read rs
blanks_read read zero rs = refl
blanks_read read (suc n) rs =
    ap (λ us. flat_map (run_stretches read) us) (runs_cut same_block (alone blank_row ∷ []) (map alone (replicate n blank_row ++ rs)) (blank_apart (replicate n blank_row ++ rs)))
    ∙ ap (λ ss. gap (break ∷ []) ∷ ss) (blanks_read read n rs)

-- ---- a paragraph whose last line ends is the same paragraph

later_ended : (before : List Item) (l : List Item) (ls : List (List Item)) → last_break (ending l) ls ≡ []
    → later_parts later_line before (map text_row (ended l ls)) ≡ later_parts later_line before (map text_row (l ∷ ls))
later_ended before l [] e = ap (λ xs. parts Text before ++ (line_parts xs ++ [])) (content_ended l e)
later_ended before l (m ∷ ls) e = ap (λ qs. parts Text before ++ (line_parts (content l) ++ qs)) (later_ended (ending l) m ls e)

pub para_ended : (l : List Item) (ls : List (List Item)) → last_break (ending l) ls ≡ [] → para_parts (map text_row (ended l ls)) ≡ para_parts (map text_row (l ∷ ls))
para_ended l [] e = ap (λ xs. line_parts xs ++ []) (content_ended l e)
para_ended l (m ∷ ls) e = ap (λ qs. line_parts (content l) ++ qs) (later_ended (ending l) m ls e)

pub last_ended : (l : List Item) (ls : List (List Item)) → last_ending (map text_row (ended l ls)) ≡ break ∷ []
last_ended l [] = ending_behind l break []
last_ended l (m ∷ ls) = last_ended m ls

pub last_unended : (l : List Item) (ls : List (List Item)) → last_ending (map text_row (l ∷ ls)) ≡ last_break (ending l) ls
last_unended l [] = refl
last_unended l (m ∷ ls) = last_unended m ls

pub block_para : (xs : List Item) (b : IsTextBlock xs) → para (map text_row (b.first ∷ b.others)) ≡ para_of xs
block_para xs b = para_is xs b.first b.others b.are_joined b.are_texts b.are_unended

pub block_ended : (xs : List Item) (b : IsTextBlock xs) → para (map text_row (ended b.first b.others)) ≡ para_of xs
unfolding para
block_ended xs b =
    ap (λ ps. inner (plain kind.Para) [] (forest (children ps)) []) (para_ended b.first b.others b.are_unended) ∙ block_para xs b

-- ---- the stretches of a paragraph and the line breaks behind it

abbrev pub broken_stretches : ℕ → List Item → List Stretch
broken_stretches zero xs = gap [] ∷ tree_block (para_of xs) ∷ gap [] ∷ []
broken_stretches (suc n) xs = gap [] ∷ tree_block (para_of xs) ∷ gap (break ∷ []) ∷ replicate n (gap (break ∷ []))

abbrev pub passage_stretches : Passage → List Stretch
passage_stretches p = broken_stretches p.breaks (page_items p.paragraph)

unbroken_read : (read : Reading) (xs : List Item) (b : IsTextBlock xs)
    → read_rows read (map text_row (b.first ∷ b.others) ++ []) ≡ broken_stretches 0 xs ++ []
unbroken_read read xs b =
    let T : List Row = map text_row (b.first ∷ b.others) in
    texts_read read b.first b.others [] tt
    ∙ ap (λ t. gap [] ∷ tree_block t ∷ gap (last_ending T) ∷ []) (block_para xs b)
    ∙ ap (λ ys. gap [] ∷ tree_block (para_of xs) ∷ gap ys ∷ []) (last_unended b.first b.others ∙ b.are_unended)

broken_read : (read : Reading) (n : ℕ) (xs : List Item) (rs : List Row) (b : IsTextBlock xs) → NoTextFirst (replicate n blank_row ++ rs)
    → read_rows read (broken_rows (suc n) b.first b.others ++ rs) ≡ broken_stretches (suc n) xs ++ read_rows read rs
broken_read read n xs rs b h =
    let E : List Row = map text_row (ended b.first b.others) in
    ap (read_rows read) (append_assoc E (replicate n blank_row) rs)
    ∙ texts_read read (first_ended b.first b.others) (rest_ended b.first b.others) (replicate n blank_row ++ rs) h
    ∙ ap (λ ss. with_gaps E ++ ss) (blanks_read read n rs)
    ∙ ap (λ t. gap [] ∷ tree_block t ∷ gap (last_ending E) ∷ (replicate n (gap (break ∷ [])) ++ read_rows read rs)) (block_ended xs b)
    ∙ ap (λ ys. gap [] ∷ tree_block (para_of xs) ∷ gap ys ∷ (replicate n (gap (break ∷ [])) ++ read_rows read rs)) (last_ended b.first b.others)

no_text_last : (n : ℕ) → NoTextFirst (replicate n blank_row ++ [])
no_text_last zero = tt
no_text_last (suc n) = λ l. refl

last_read : (read : Reading) (n : ℕ) (xs : List Item) (b : IsTextBlock xs)
    → read_rows read (broken_rows n b.first b.others ++ []) ≡ broken_stretches n xs ++ []
last_read read zero xs b = unbroken_read read xs b
last_read read (suc n) xs b = broken_read read n xs [] b (no_text_last n)

read_more : (read : Reading) (n k : ℕ) (xs : List Item) (rs : List Row) (b : IsTextBlock xs) → n ≡ suc (suc k)
    → read_rows read (broken_rows n b.first b.others ++ rs) ≡ broken_stretches n xs ++ read_rows read rs
read_more read n k xs rs b e =
    let P : ℕ → Type 0 = λ n. read_rows read (broken_rows n b.first b.others ++ rs) ≡ broken_stretches n xs ++ read_rows read rs in
    subst P (sym e) (broken_read read (suc k) xs rs b (λ l. refl))

prose_read : (read : Reading) (ps : List Passage) (h : AreProse ps) (bs : AreBlocks ps) → read_rows read (prose_rows ps bs) ≡ flat_map passage_stretches ps
prose_read read [] h bs = absurd h
prose_read read (p ∷ []) h bs = last_read read p.breaks (page_items p.paragraph) bs.0
prose_read read (p ∷ q ∷ ps) h bs =
    let is : p.breaks ≡ suc (suc (p.breaks - 2)) = omega (arith, h.1) in
    read_more read p.breaks (p.breaks - 2) (page_items p.paragraph) (prose_rows (q ∷ ps) bs.1) bs.0 is
    ∙ ap (λ ss. passage_stretches p ++ ss) (prose_read read (q ∷ ps) h.2 bs.1)

blocks_read : (read : Reading) (ps : List Passage) (h : AreProse ps) (bs : AreBlocks ps) → blocks_by read (prose_rows ps bs) ≡ flat_map passage_stretches ps
blocks_read read ps h bs =
    ap (λ us. flat_map (run_stretches read) (runs same_block (drop 1 us))) (units_flat (prose_rows ps bs) (prose_flat ps bs)) ∙ prose_read read ps h bs

pub within_read : (n : ℕ) (ps : List Passage) (h : AreProse ps) (bs : AreBlocks ps) → within n (prose_rows ps bs) ≡ flat_map passage_stretches ps
within_read zero ps h bs = blocks_read gaps ps h bs
within_read (suc n) ps h bs = blocks_read (within n) ps h bs

-- of one block of text by itself
alone_by : (read : Reading) (n : ℕ) (xs : List Item) (b : IsTextBlock xs) → blocks_by read (broken_rows n b.first b.others ++ []) ≡ broken_stretches n xs ++ []
alone_by read n xs b =
    let rs : List Row = broken_rows n b.first b.others in
    ap (λ us. flat_map (run_stretches read) (runs same_block (drop 1 us))) (units_flat (rs ++ []) (both_flat rs [] (broken_flat n b.first b.others) tt))
    ∙ last_read read n xs b

pub alone_read : (m n : ℕ) (xs : List Item) (b : IsTextBlock xs) → within m (broken_rows n b.first b.others ++ []) ≡ broken_stretches n xs ++ []
alone_read zero n xs b = alone_by gaps n xs b
alone_read (suc m) n xs b = alone_by (within m) n xs b

-- ---- their parts

abbrev pub sep : Part
sep = loose Sep None 10

abbrev pub passage_parts : Passage → List Part
passage_parts p = node (para_of (page_items p.paragraph)) ∷ replicate p.breaks sep

gaps_parts : (n : ℕ) (ss : List Stretch) → flat_map stretch_parts (replicate n (gap (break ∷ [])) ++ ss) ≡ replicate n sep ++ flat_map stretch_parts ss
gaps_parts zero ss = refl
gaps_parts (suc n) ss = ap (λ ps. sep ∷ ps) (gaps_parts n ss)

broken_parts : (n : ℕ) (xs : List Item) (ss : List Stretch)
    → flat_map stretch_parts (broken_stretches n xs ++ ss) ≡ (node (para_of xs) ∷ replicate n sep) ++ flat_map stretch_parts ss
broken_parts zero xs ss = refl
broken_parts (suc n) xs ss = ap (λ ps. node (para_of xs) ∷ sep ∷ ps) (gaps_parts n ss)

pub all_parts : (ps : List Passage) → flat_map stretch_parts (flat_map passage_stretches ps) ≡ flat_map passage_parts ps
all_parts [] = refl
all_parts (p ∷ ps) =
    broken_parts p.breaks (page_items p.paragraph) (flat_map passage_stretches ps) ∙ ap (λ qs. passage_parts p ++ qs) (all_parts ps)

-- ---- their trees

node_alone : (t : ItemTree) (qs : List Part) → IsRun one_leaf (node t ∷ []) qs
node_alone t [] = tt
node_alone t (q ∷ qs) = refl

seps_run : (n : ℕ) (ps : List Passage) → IsRun one_leaf (replicate (suc n) sep) (flat_map passage_parts ps)
seps_run zero [] = tt
seps_run zero (p ∷ ps) = refl
seps_run (suc n) ps = (refl, seps_run n ps)

seps_held : (n : ℕ) → held_parts (replicate n sep) ≡ page_chars (replicate n 10)
seps_held zero = refl
seps_held (suc n) = ap (λ xs. break ∷ xs) (seps_held n)

seps_trees : (n : ℕ) (ps : List Passage)
    → map child (runs one_leaf (replicate n sep ++ flat_map passage_parts ps)) ≡ separator n ++ map child (runs one_leaf (flat_map passage_parts ps))
seps_trees zero ps = refl
seps_trees (suc n) ps =
    ap (map child) (runs_cut one_leaf (replicate (suc n) sep) (flat_map passage_parts ps) (seps_run n ps))
    ∙ ap (λ xs. loose_leaf Sep (break ∷ xs) ∷ map child (runs one_leaf (flat_map passage_parts ps))) (seps_held n)

all_trees : (ps : List Passage) → map child (runs one_leaf (flat_map passage_parts ps)) ≡ flat_map passage_blocks ps
all_trees [] = refl
all_trees (p ∷ ps) =
    let t : ItemTree = para_of (page_items p.paragraph) in
    ap (map child) (runs_cut one_leaf (node t ∷ []) (replicate p.breaks sep ++ flat_map passage_parts ps) (node_alone t (replicate p.breaks sep ++ flat_map passage_parts ps)))
    ∙ ap (λ ts. t ∷ ts) (seps_trees p.breaks ps ∙ ap (λ ts. separator p.breaks ++ ts) (all_trees ps))

pub meaning_of : (ps : List Passage) (h : AreProse ps) (bs : AreBlocks ps) → meaning (prose_items ps) ≡ prose_meaning ps
unfolding meaning blocks rows children
meaning_of ps h bs =
    let F : List Part → ItemTree = λ qs. inner (plain kind.Body) [] (forest (map child (runs one_leaf qs))) [] in
    ap (λ rs. F (flat_map stretch_parts (within MOST_TABLES rs))) (prose_are ps h bs)
    ∙ ap (λ ss. F (flat_map stretch_parts ss)) (within_read MOST_TABLES ps h bs)
    ∙ ap F (all_parts ps)
    ∙ ap (λ ts. inner (plain kind.Body) [] (forest ts) []) (all_trees ps)
