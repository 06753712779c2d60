-- A heading's line as a row and as a tree, before others and behind others.
use Rattle.std.proofs.Common.{arith, ◌≡◌, inl, inr, ℕ, zero, suc, ◌+◌, true, false, not, None, List, [], ◌∷◌, ◌++◌, length, take, drop, map, refl, sym, ap, ◌∙◌, subst, append-nil, append_assoc, length-append}
use Rattle.std.specs.Prelude.{replicate}
use Rattle.std.specs.List.{flat_map}
use Rattle.std.proofs.Math.Seq.{take-append_seam, drop-append_seam}
use Rattle.std.proofs.lemmas.Bool.Decides.{nat_tests}
use Rattle.std.proofs.lemmas.List.{map-append, length-replicate, length-map}
use Rattle.wt_tree.specs.declared.kind.Kind.TheVariants as kind
use Rattle.wt_span.specs.Bytes.{is_blank}
use Rattle.wt_span.specs.Items.{Item, char, whole, sign}
use Rattle.wt_span.specs.Runs.{runs, IsRun}
use Rattle.wt_span.proofs.RunLaws.{runs_cut}
use Rattle.wt_lines.specs.declared.kind.LineKind.{LineKind}
use Rattle.wt_lines.specs.declared.kind.LineKind.TheVariants as line
use Rattle.wt_lines.specs.Lines.{is_break_item, goes_on, full_lines, content}
use Rattle.wt_blocks.specs.Headings.{core, level_of, open_len, inside_len, level, opening, inside, closing}
use Rattle.wt_lines.specs.Kinds.{is_idle, kind_of_signs}
use Rattle.wt_tables.specs.Extents.{behind, is_open}
use Rattle.wt_tables.specs.Parts.{units, unit_kind}
use Rattle.wt_inline.specs.declared.loose.Loose.TheVariants.{Sep}
use Rattle.wt_inline.specs.ItemTree.{plain, ItemTree, inner, forest}
use Rattle.wt_inline.specs.Parts.{Part, node, parts, children}
use Rattle.wt_context.specs.Line.{line_trees}
use Rattle.wt_page.specs.Headings.{heading}
use Rattle.wt_page.specs.Lines.{kind_at, ending}
use Rattle.wt_page.specs.Rows.{Row, kind_of, unwritten_end, line_rows, rows, rows_from}
use Rattle.wt_page.specs.Stretches.{Stretch, stretches_parts}
use Rattle.wt_page.specs.Body.{one_block, same_block, run_stretches, within, blocks, body_parts, meaning}
use Rattle.wt_rows.proofs.FirstUnits.{unit_one}
use Rattle.wt_expand.specs.PageItems.{page_items}
use Rattle.wt_text_edit_laws.specs.LonePages.{page_chars}
use Rattle.wt_text_edit_laws.proofs.Texts.PlainRows.{ending_behind}
use Rattle.wt_rows.proofs.Portions.{breaks_first}
use Rattle.wt_text_edit_laws.proofs.Prose.ProseLines.{content_ended}
use Rattle.wt_text_edit_laws.specs.ParagraphBetween.{AreClosed, before_marks, blocks_in, body_with}
use Rattle.wt_text_edit_laws.proofs.Paragraphs.Marks.{with_lead, IsLed}
use Rattle.wt_text_edit_laws.proofs.Paragraphs.Standing.{parts_in, row_beside, parts_above, round_node, body_is}
use Rattle.wt_text_edit_laws.specs.TypedHeadings.{Sides, AreBlanks, AreIdle, AreSides, equals as run_of, opening as opening_of, closing_items, between, heading_line, heading_with, heading_round, NoBreaks, IsHeadingInside, IsInside, IsHeadingText, IsOfLevel, StandsApart, EndsLine}
use Rattle.wt_text_edit_laws.proofs.Headings.HeadingSigns.{line_signs, body_signs, core_is, level_is, AreSeen, open_seen, inside_seen, signs_seen, kind_is}

-- ---- its signs

-- the parts of the line, of a heading of the next level
abbrev sides : ℕ → List ℕ → List ℕ → List ℕ → Sides
sides n bs ds cs = record { level = suc n; lead = bs; trail = ds; rest = cs }

chars_signs : (bs : List ℕ) → map sign (page_chars bs) ≡ bs
chars_signs [] = refl
chars_signs (b ∷ bs) = ap (λ (ss : List ℕ). b ∷ ss) (chars_signs bs)

-- behind the last `=`
abbrev rest_signs : Sides → List ℕ
rest_signs s = map sign (page_items s.rest)

closing_signs : (s : Sides) → map sign (closing_items s) ≡ s.trail ++ (run_of s.level ++ rest_signs s)
closing_signs s =
    let runs : List ℕ = run_of s.level in
    map-append sign (page_chars (s.trail ++ runs)) (page_items s.rest)
    ∙ ap (λ (ts : List ℕ). ts ++ rest_signs s) (chars_signs (s.trail ++ runs))
    ∙ append_assoc s.trail runs (rest_signs s)

signs_are : (s : Sides) (own : List Item) → map sign (heading_line s own) ≡ line_signs s.level (between s own) (rest_signs s)
signs_are s own =
    let ss : List ℕ = map sign own in
    let runs : List ℕ = run_of s.level in
    let end : List ℕ = s.trail ++ (runs ++ rest_signs s) in
    map-append sign (page_chars (opening_of s)) (own ++ closing_items s)
    ∙ ap (λ (ts : List ℕ). ts ++ map sign (own ++ closing_items s)) (chars_signs (opening_of s))
    ∙ ap (λ (ts : List ℕ). opening_of s ++ ts) (map-append sign own (closing_items s) ∙ ap (λ (ts : List ℕ). ss ++ ts) (closing_signs s))
    ∙ append_assoc runs s.lead (ss ++ end)
    ∙ ap (λ (ts : List ℕ). runs ++ (s.lead ++ ts)) (sym (append_assoc ss s.trail (runs ++ rest_signs s)))
    ∙ ap (λ (ts : List ℕ). runs ++ ts) (sym (append_assoc s.lead (ss ++ s.trail) (runs ++ rest_signs s)))

core_signs : (n : ℕ) (bs ds cs : List ℕ) (own : List Item) → AreSides (sides n bs ds cs)
    → core (map sign (heading_line (sides n bs ds cs) own)) ≡ body_signs (suc n) (between (sides n bs ds cs) own)
core_signs n bs ds cs own a =
    let s : Sides = sides n bs ds cs in
    ap core (signs_are s own) ∙ core_is n (between s own) (rest_signs s) a.rest

-- ---- what is between them

pub inside_unbroken : (s : Sides) (own : List Item) → IsInside s own → NoBreaks own
inside_unbroken s own (inl h) = h.unbroken
inside_unbroken s own (inr h) = subst NoBreaks (sym h.0) tt

pub inside_signs : (s : Sides) (own : List Item) → IsInside s own → AreSeen (map sign own) s.trail
inside_signs s own (inl h) = inl (h.begins, h.ends)
inside_signs s own (inr h) = inr (ap (map sign) h.0, h.1)

-- ---- its tree

-- the level by its signs
level_signs : (n : ℕ) (bs ds cs : List ℕ) (own : List Item) → AreSides (sides n bs ds cs) → IsOfLevel (sides n bs ds cs) own
    → level_of (body_signs (suc n) (between (sides n bs ds cs) own)) ≡ suc n
unfolding level
level_signs n bs ds cs own a p = sym (ap level_of (core_signs n bs ds cs own a)) ∙ p

apart_so : (n : ℕ) (bs ds cs : List ℕ) (own : List Item) → AreSides (sides n bs ds cs) → StandsApart (sides n bs ds cs) own → IsOfLevel (sides n bs ds cs) own
unfolding level
apart_so n bs ds cs own a p =
    ap level_of (core_signs n bs ds cs own a) ∙ level_is (suc n) (between (sides n bs ds cs) own) a.some a.most p.first p.last

opening_length : (s : Sides) → s.level + length s.lead ≡ length (page_chars (opening_of s))
opening_length s = omega (arith, length-map (opening_of s) (char None), length-replicate {A = ℕ} s.level 61, length-append (run_of s.level) s.lead)

opening_len : (n : ℕ) (bs ds cs : List ℕ) (own : List Item) → AreSides (sides n bs ds cs) → IsInside (sides n bs ds cs) own → IsOfLevel (sides n bs ds cs) own
    → open_len (core (map sign (heading_line (sides n bs ds cs) own))) ≡ length (page_chars (opening_of (sides n bs ds cs)))
opening_len n bs ds cs own a h p =
    let s : Sides = sides n bs ds cs in
    ap open_len (core_signs n bs ds cs own a)
    ∙ open_seen (suc n) bs (map sign own) ds (level_signs n bs ds cs own a p) a.lead (inside_signs (sides n bs ds cs) own h)
    ∙ opening_length s

inside_length : (n : ℕ) (bs ds cs : List ℕ) (own : List Item) → AreSides (sides n bs ds cs) → IsInside (sides n bs ds cs) own → IsOfLevel (sides n bs ds cs) own
    → inside_len (core (map sign (heading_line (sides n bs ds cs) own))) ≡ length own
inside_length n bs ds cs own a h p =
    let s : Sides = sides n bs ds cs in
    ap inside_len (core_signs n bs ds cs own a)
    ∙ inside_seen (suc n) bs (map sign own) ds (level_signs n bs ds cs own a p) a.lead a.trail (inside_signs (sides n bs ds cs) own h)
    ∙ length-map own sign

opening_so : (n : ℕ) (bs ds cs : List ℕ) (own : List Item) → AreSides (sides n bs ds cs) → IsInside (sides n bs ds cs) own → IsOfLevel (sides n bs ds cs) own
    → opening (heading_line (sides n bs ds cs) own) ≡ page_chars (opening_of (sides n bs ds cs))
unfolding opening
opening_so n bs ds cs own a h p =
    let s : Sides = sides n bs ds cs in
    ap (λ (k : ℕ). take k (heading_line s own)) (opening_len n bs ds cs own a h p)
    ∙ take-append_seam (page_chars (opening_of s)) (own ++ closing_items s)

inside_so : (n : ℕ) (bs ds cs : List ℕ) (own : List Item) → AreSides (sides n bs ds cs) → IsInside (sides n bs ds cs) own → IsOfLevel (sides n bs ds cs) own
    → inside (heading_line (sides n bs ds cs) own) ≡ own
unfolding inside
inside_so n bs ds cs own a h p =
    let s : Sides = sides n bs ds cs in
    let l : List Item = heading_line s own in
    ap (λ (k : ℕ). take k (drop (open_len (core (map sign l))) l)) (inside_length n bs ds cs own a h p)
    ∙ ap (λ (k : ℕ). take (length own) (drop k l)) (opening_len n bs ds cs own a h p)
    ∙ ap (take (length own)) (drop-append_seam (page_chars (opening_of s)) (own ++ closing_items s))
    ∙ take-append_seam own (closing_items s)

closing_so : (n : ℕ) (bs ds cs : List ℕ) (own : List Item) → AreSides (sides n bs ds cs) → IsInside (sides n bs ds cs) own → IsOfLevel (sides n bs ds cs) own
    → closing (heading_line (sides n bs ds cs) own) ≡ closing_items (sides n bs ds cs)
unfolding closing
closing_so n bs ds cs own a h p =
    let s : Sides = sides n bs ds cs in
    let l : List Item = heading_line s own in
    let o : List Item = page_chars (opening_of s) in
    let size : length o + length own ≡ length (o ++ own) = omega (arith, length-append o own) in
    ap (λ (k : ℕ). drop (k + inside_len (core (map sign l))) l) (opening_len n bs ds cs own a h p)
    ∙ ap (λ (k : ℕ). drop (length o + k) l) (inside_length n bs ds cs own a h p)
    ∙ ap (λ (k : ℕ). drop k l) size
    ∙ ap (drop (length (o ++ own))) (sym (append_assoc o own (closing_items s)))
    ∙ drop-append_seam (o ++ own) (closing_items s)

tree_so : (n : ℕ) (bs ds cs : List ℕ) (own : List Item) → AreSides (sides n bs ds cs) → IsInside (sides n bs ds cs) own → IsOfLevel (sides n bs ds cs) own
    → heading (heading_line (sides n bs ds cs) own) ≡ heading_round (sides n bs ds cs) own
unfolding heading line_trees
tree_so n bs ds cs own a h p =
    let s : Sides = sides n bs ds cs in
    let l : List Item = heading_line s own in
    ap (λ (k : ℕ). inner (plain (kind.Heading k)) (opening l) (forest (line_trees (inside l))) (closing l)) p
    ∙ ap (λ (xs : List Item). inner (plain (kind.Heading (suc n))) xs (forest (line_trees (inside l))) (closing l)) (opening_so n bs ds cs own a h p)
    ∙ ap (λ (xs : List Item). inner (plain (kind.Heading (suc n))) (page_chars (opening_of s)) (forest (line_trees xs)) (closing l)) (inside_so n bs ds cs own a h p)
    ∙ ap (λ (xs : List Item). inner (plain (kind.Heading (suc n))) (page_chars (opening_of s)) (forest (line_trees own)) xs) (closing_so n bs ds cs own a h p)

-- ---- its line

both_unbroken : (xs ys : List Item) → NoBreaks xs → NoBreaks ys → NoBreaks (xs ++ ys)
both_unbroken [] ys h g = g
both_unbroken (x ∷ xs) ys h g = (h.0, both_unbroken xs ys h.1 g)

chars_joined : (bs cs : List ℕ) → NoBreaks (page_chars bs) → NoBreaks (page_chars cs) → NoBreaks (page_chars (bs ++ cs))
chars_joined [] cs h g = g
chars_joined (b ∷ bs) cs h g = (h.0, chars_joined bs cs h.1 g)

equals_unbroken : (n : ℕ) → NoBreaks (page_chars (run_of n))
equals_unbroken zero = tt
equals_unbroken (suc n) = (refl, equals_unbroken n)

unbroken_by : (b : ℕ) → is_blank b ≡ true → is_break_item (char None b) ≡ false
unbroken_by b e = grind (arith, nat_tests, e)

blanks_unbroken : (bs : List ℕ) → AreBlanks bs → NoBreaks (page_chars bs)
blanks_unbroken [] h = tt
blanks_unbroken (b ∷ bs) h = (unbroken_by b h.0, blanks_unbroken bs h.1)

idle_by : (b : ℕ) → is_idle b ≡ true → is_break_item (char None b) ≡ false
idle_by b e = grind (arith, nat_tests, e)

idle_unbroken : (xs : List Item) → AreIdle (map sign xs) → NoBreaks xs
idle_unbroken [] h = tt
idle_unbroken (char o b ∷ xs) h = (idle_by b h.0, idle_unbroken xs h.1)
idle_unbroken (whole f o bs ∷ xs) h = (refl, idle_unbroken xs h.1)

line_unbroken : (s : Sides) (own : List Item) → AreSides s → NoBreaks own → NoBreaks (heading_line s own)
line_unbroken s own a h =
    let begin : NoBreaks (page_chars (opening_of s)) = chars_joined (run_of s.level) s.lead (equals_unbroken s.level) (blanks_unbroken s.lead a.lead) in
    let run : NoBreaks (page_chars (s.trail ++ run_of s.level)) = chars_joined s.trail (run_of s.level) (blanks_unbroken s.trail a.trail) (equals_unbroken s.level) in
    let end : NoBreaks (closing_items s) =
    both_unbroken (page_chars (s.trail ++ run_of s.level)) (page_items s.rest) run (idle_unbroken (page_items s.rest) a.rest) in
    both_unbroken (page_chars (opening_of s)) (own ++ closing_items s) begin (both_unbroken own (closing_items s) h end)

alone_run : (x : Item) (xs zs : List Item) → NoBreaks (x ∷ xs) → IsRun goes_on (x ∷ xs) []
alone_run x [] zs h = tt
alone_run x (y ∷ xs) zs h = (ap not h.0, alone_run y xs zs h.1)

break_alone : (zs : List Item) → IsRun goes_on (char None 10 ∷ []) zs
break_alone [] = tt
break_alone (z ∷ zs) = refl

ended_run : (x : Item) (xs zs : List Item) → NoBreaks (x ∷ xs) → IsRun goes_on ((x ∷ xs) ++ char None 10 ∷ []) zs
ended_run x [] zs h = (ap not h.0, break_alone zs)
ended_run x (y ∷ xs) zs h = (ap not h.0, ended_run y xs zs h.1)

none_ends : (xs : List Item) → NoBreaks xs → ending xs ≡ []
none_ends [] h = refl
none_ends (x ∷ []) h = rw h.0 refl
none_ends (x ∷ y ∷ xs) h = none_ends (y ∷ xs) h.1

content_whole : (xs : List Item) → NoBreaks xs → content xs ≡ xs
content_whole [] h = refl
content_whole (x ∷ []) h = rw h.0 refl
content_whole (x ∷ y ∷ xs) h = ap (λ zs. x ∷ zs) (content_whole (y ∷ xs) h.1)

-- ---- its row

abbrev pub heading_row : List Item → List Item → Row
heading_row l end = record { kind = line.Heading; lead = []; items = l; ending = end }

row_by : (tables : ℕ) (xs l end : List Item) (k : LineKind) → kind_at tables (char None 61 ∷ xs) ≡ k → k ≡ line.Heading
    → content (char None 61 ∷ xs) ≡ l → ending (char None 61 ∷ xs) ≡ end → line_rows k (char None 61 ∷ xs) ≡ heading_row l end ∷ []
row_by tables xs l end k e f c d =
    ap (λ (j : LineKind). line_rows j (char None 61 ∷ xs)) f
    ∙ ap (λ (ys : List Item). record { kind = line.Heading; lead = []; items = ys; ending = ending (char None 61 ∷ xs) } ∷ []) c
    ∙ ap (λ (ys : List Item). heading_row l ys ∷ []) d

kind_so : (tables n : ℕ) (bs ds cs : List ℕ) (own l : List Item) → AreSides (sides n bs ds cs) → IsInside (sides n bs ds cs) own
    → IsOfLevel (sides n bs ds cs) own → content l ≡ heading_line (sides n bs ds cs) own → kind_at tables l ≡ line.Heading
kind_so tables n bs ds cs own l a h p e =
    let s : Sides = sides n bs ds cs in
    ap (λ (xs : List Item). kind_of_signs tables (map sign xs)) e ∙ ap (kind_of_signs tables) (signs_are s own) ∙ kind_is tables n (between s own) (rest_signs s) a.rest
    (signs_seen (suc n) bs (map sign own) ds (level_signs n bs ds cs own a p) a.some a.most (inside_signs s own h))

-- behind the first `=`
abbrev others : ℕ → List ℕ → List ℕ → List ℕ → List Item → List Item
others n bs ds cs own = page_chars (run_of n ++ bs) ++ (own ++ closing_items (sides n bs ds cs))

-- where so many tables are open
ended_from : (tables n : ℕ) (bs ds cs : List ℕ) (own zs : List Item) → AreSides (sides n bs ds cs) → IsInside (sides n bs ds cs) own → IsOfLevel (sides n bs ds cs) own
    → rows_from tables (full_lines (heading_line (sides n bs ds cs) own ++ char None 10 ∷ zs))
    ≡ heading_row (heading_line (sides n bs ds cs) own) (char None 10 ∷ []) ∷ rows_from tables (full_lines zs)
ended_from tables n bs ds cs own zs a h p =
    let l : List Item = heading_line (sides n bs ds cs) own in
    let u : NoBreaks l = line_unbroken (sides n bs ds cs) own a (inside_unbroken (sides n bs ds cs) own h) in
    let m : List Item = l ++ char None 10 ∷ [] in
    let c : content m ≡ l = content_ended l (none_ends l u) ∙ content_whole l u in
    let k : kind_at tables m ≡ line.Heading = kind_so tables n bs ds cs own m a h p c in
    let rest : List Item = others n bs ds cs own in
    ap (λ ys. rows_from tables (full_lines ys)) (sym (append_assoc l (char None 10 ∷ []) zs))
    ∙ ap (rows_from tables) (runs_cut goes_on m zs (ended_run (char None 61) rest zs u))
    ∙ ap (λ (j : LineKind). line_rows j m ++ rows_from (behind tables j) (full_lines zs)) k
    ∙ ap (λ (rs : List Row). rs ++ rows_from tables (full_lines zs))
    (row_by tables (rest ++ char None 10 ∷ []) l (char None 10 ∷ []) line.Heading k refl c (ending_behind l (char None 10) []))

last_from : (tables n : ℕ) (bs ds cs : List ℕ) (own : List Item) → AreSides (sides n bs ds cs) → IsInside (sides n bs ds cs) own → IsOfLevel (sides n bs ds cs) own
    → rows_from tables (full_lines (heading_line (sides n bs ds cs) own))
    ≡ heading_row (heading_line (sides n bs ds cs) own) [] ∷ replicate tables unwritten_end
last_from tables n bs ds cs own a h p =
    let l : List Item = heading_line (sides n bs ds cs) own in
    let u : NoBreaks l = line_unbroken (sides n bs ds cs) own a (inside_unbroken (sides n bs ds cs) own h) in
    let c : content l ≡ l = content_whole l u in
    let k : kind_at tables l ≡ line.Heading = kind_so tables n bs ds cs own l a h p c in
    let rest : List Item = others n bs ds cs own in
    ap (λ ys. rows_from tables (full_lines ys)) (sym (append-nil l))
    ∙ ap (rows_from tables) (runs_cut goes_on l [] (alone_run (char None 61) rest [] u))
    ∙ ap (λ (j : LineKind). line_rows j l ++ rows_from (behind tables j) []) k
    ∙ ap (λ (rs : List Row). rs ++ replicate tables unwritten_end) (row_by tables rest l [] line.Heading k refl c (none_ends l u))

ended_rows : (n : ℕ) (bs ds cs : List ℕ) (own zs : List Item) → AreSides (sides n bs ds cs) → IsInside (sides n bs ds cs) own → IsOfLevel (sides n bs ds cs) own
    → rows (heading_line (sides n bs ds cs) own ++ char None 10 ∷ zs) ≡ heading_row (heading_line (sides n bs ds cs) own) (char None 10 ∷ []) ∷ rows zs
unfolding rows
ended_rows n bs ds cs own zs a h p = ended_from 0 n bs ds cs own zs a h p

last_rows : (n : ℕ) (bs ds cs : List ℕ) (own : List Item) → AreSides (sides n bs ds cs) → IsInside (sides n bs ds cs) own → IsOfLevel (sides n bs ds cs) own
    → rows (heading_line (sides n bs ds cs) own) ≡ heading_row (heading_line (sides n bs ds cs) own) [] ∷ []
unfolding rows
last_rows n bs ds cs own a h p = last_from 0 n bs ds cs own a h p

-- ---- its parts

heading_alone : (r : Row) (us : List (List Row)) → r.kind ≡ line.Heading → IsRun same_block ((r ∷ []) ∷ []) us
heading_alone r [] e = tt
heading_alone r (u ∷ us) e = ap (λ (k : LineKind). one_block k (unit_kind kind_of u)) e

row_parts : (l end : List Item) (rs : List Row) → body_parts (heading_row l end ∷ rs) ≡ node (heading l) ∷ (parts Sep end ++ body_parts rs)
unfolding blocks
row_parts l end rs =
    let r : Row = heading_row l end in
    let F : List (List Row) → List Stretch = run_stretches (within 15) in
    ap (λ (us : List (List Row)). stretches_parts (flat_map F (runs same_block us))) (unit_one r rs refl)
    ∙ ap (λ (us : List (List (List Row))). stretches_parts (flat_map F us)) (runs_cut same_block ((r ∷ []) ∷ []) (units kind_of rs) (heading_alone r (units kind_of rs) refl))

-- ---- behind others

before_heading : (k : LineKind) → one_block k line.Heading ≡ false
before_heading line.Blank = refl
before_heading line.TableOpen = refl
before_heading line.TableEnd = refl
before_heading line.Caption = refl
before_heading line.Row = refl
before_heading line.Cell = refl
before_heading line.Header = refl
before_heading line.Heading = refl
before_heading line.Rule = refl
before_heading line.List = refl
before_heading line.Pre = refl
before_heading line.Text = refl

heading_led : (k : LineKind) → k ≡ line.Heading → IsLed k
heading_led k e = subst IsLed (sym e) tt

heading_joins : (j k : LineKind) → j ≡ line.Heading → one_block k j ≡ false
heading_joins j k e = ap (one_block k) e ∙ before_heading k

-- rows that are those of items
row_behind : (xs ys : List Item) (r : Row) (rs : List Row) → AreClosed (before_marks xs) → rows ys ≡ r ∷ rs → r.kind ≡ line.Heading
    → parts_in (xs ++ ys) ≡ parts_in xs ++ parts_in ys
row_behind xs ys r rs h e k =
    parts_above xs ys r rs h e (heading_led r.kind k)
    (λ ms f. row_beside (before_marks xs) (ms ++ ys) (with_lead ms r) rs h f (ap is_open k) (λ j. heading_joins r.kind j k))

-- ---- the body

no_parts : parts_in [] ≡ []
unfolding rows blocks
no_parts = refl

nothing_parts : body_parts [] ≡ []
unfolding blocks
nothing_parts = refl

heading_parts : (n : ℕ) (bs ds cs : List ℕ) (own tail : List Item) → AreSides (sides n bs ds cs) → IsInside (sides n bs ds cs) own → IsOfLevel (sides n bs ds cs) own
    → EndsLine tail → parts_in (heading_line (sides n bs ds cs) own ++ tail) ≡ node (heading_round (sides n bs ds cs) own) ∷ parts_in tail
heading_parts n bs ds cs own [] a h p e =
    let s : Sides = sides n bs ds cs in
    let l : List Item = heading_line s own in
    ap parts_in (append-nil l)
    ∙ ap body_parts (last_rows n bs ds cs own a h p)
    ∙ row_parts l [] []
    ∙ ap (λ (t : ItemTree). node t ∷ body_parts []) (tree_so n bs ds cs own a h p)
    ∙ ap (λ (ps : List Part). node (heading_round s own) ∷ ps) (nothing_parts ∙ sym no_parts)
heading_parts n bs ds cs own (y ∷ ys) a h p e =
    let s : Sides = sides n bs ds cs in
    let l : List Item = heading_line s own in
    ap (λ (z : Item). parts_in (l ++ z ∷ ys)) e
    ∙ ap body_parts (ended_rows n bs ds cs own ys a h p)
    ∙ row_parts l (char None 10 ∷ []) (rows ys)
    ∙ ap (λ (t : ItemTree). node t ∷ (parts Sep (char None 10 ∷ []) ++ parts_in ys)) (tree_so n bs ds cs own a h p)
    ∙ ap (λ (ps : List Part). node (heading_round s own) ∷ ps) (sym (breaks_first (char None 10 ∷ []) ys (refl, tt)))
    ∙ ap (λ (z : Item). node (heading_round s own) ∷ parts_in (z ∷ ys)) (sym e)

abbrev IsFirstRow : List Item → List Item → Type 0
IsFirstRow l tail = (end : List Item) × (rs : List Row) × (rows (l ++ tail) ≡ heading_row l end ∷ rs)

row_first : (n : ℕ) (bs ds cs : List ℕ) (own tail : List Item) → AreSides (sides n bs ds cs) → IsInside (sides n bs ds cs) own → IsOfLevel (sides n bs ds cs) own → EndsLine tail
    → IsFirstRow (heading_line (sides n bs ds cs) own) tail
row_first n bs ds cs own [] a h p e =
    ([], [], ap rows (append-nil (heading_line (sides n bs ds cs) own)) ∙ last_rows n bs ds cs own a h p)
row_first n bs ds cs own (y ∷ ys) a h p e =
    (char None 10 ∷ [], rows ys, ap (λ (z : Item). rows (heading_line (sides n bs ds cs) own ++ z ∷ ys)) e ∙ ended_rows n bs ds cs own ys a h p)

abbrev level_sides : ℕ → List ℕ → List ℕ → List ℕ → Sides
level_sides n bs ds cs = record { level = n; lead = bs; trail = ds; rest = cs }

first_by : (n : ℕ) (bs ds cs : List ℕ) (own tail : List Item) → AreSides (level_sides n bs ds cs) → IsInside (level_sides n bs ds cs) own → IsOfLevel (level_sides n bs ds cs) own
    → EndsLine tail → IsFirstRow (heading_line (level_sides n bs ds cs) own) tail
first_by zero bs ds cs own tail a h p e = absurd (omega (arith, a.some))
first_by (suc n) bs ds cs own tail a h p e = row_first n bs ds cs own tail a h p e

pub round_first : (s : Sides) (own tail : List Item) → AreSides s → IsInside s own → IsOfLevel s own → EndsLine tail
    → (end : List Item) × (rs : List Row) × (rows (heading_line s own ++ tail) ≡ heading_row (heading_line s own) end ∷ rs)
round_first s own tail a h p e = first_by s.level s.lead s.trail s.rest own tail
    (record { some = a.some; most = a.most; lead = a.lead; trail = a.trail; rest = a.rest }) h p e

parts_by : (n : ℕ) (bs ds cs : List ℕ) (own tail : List Item) → AreSides (level_sides n bs ds cs) → IsInside (level_sides n bs ds cs) own → IsOfLevel (level_sides n bs ds cs) own
    → EndsLine tail → parts_in (heading_line (level_sides n bs ds cs) own ++ tail) ≡ node (heading_round (level_sides n bs ds cs) own) ∷ parts_in tail
parts_by zero bs ds cs own tail a h p e = absurd (omega (arith, a.some))
parts_by (suc n) bs ds cs own tail a h p e = heading_parts n bs ds cs own tail a h p e

apart_by : (n : ℕ) (bs ds cs : List ℕ) (own : List Item) → AreSides (level_sides n bs ds cs) → StandsApart (level_sides n bs ds cs) own
    → IsOfLevel (level_sides n bs ds cs) own
apart_by zero bs ds cs own a p = absurd (omega (arith, a.some))
apart_by (suc n) bs ds cs own a p = apart_so n bs ds cs own a p

pub apart_level : (s : Sides) (own : List Item) → AreSides s → StandsApart s own → IsOfLevel s own
apart_level s own a p = apart_by s.level s.lead s.trail s.rest own
    (record { some = a.some; most = a.most; lead = a.lead; trail = a.trail; rest = a.rest }) (record { first = p.first; last = p.last })

-- with what stands before it
pub round_between : (xs : List Item) (s : Sides) (own tail : List Item) → AreClosed (before_marks xs) → AreSides s → IsInside s own → IsOfLevel s own → EndsLine tail
    → parts_in (xs ++ (heading_line s own ++ tail)) ≡ parts_in xs ++ node (heading_round s own) ∷ parts_in tail
round_between xs s own tail c a h p e =
    let f = round_first s own tail a h p e in
    row_behind xs (heading_line s own ++ tail) (heading_row (heading_line s own) f.0) f.1 c f.2 refl
    ∙ ap (λ (ps : List Part). parts_in xs ++ ps) (parts_by s.level s.lead s.trail s.rest own tail
    (record { some = a.some; most = a.most; lead = a.lead; trail = a.trail; rest = a.rest }) h p e)

pub round_stands : (xs : List Item) (s : Sides) (own tail : List Item) → AreClosed (before_marks xs) → AreSides s → IsInside s own → IsOfLevel s own → EndsLine tail
    → meaning (xs ++ (heading_line s own ++ tail)) ≡ body_with (blocks_in xs ++ heading_round s own ∷ blocks_in tail)
round_stands xs s own tail c a h p e =
    let t : ItemTree = heading_round s own in
    body_is (xs ++ (heading_line s own ++ tail)) (parts_in xs ++ node t ∷ parts_in tail) (round_between xs s own tail c a h p e)
    ∙ ap body_with (round_node t (parts_in xs) (parts_in tail))

-- ---- where tables are open

abbrev by_level : Sides → Sides
by_level s = level_sides s.level s.lead s.trail s.rest

sides_so : (s : Sides) → AreSides s → AreSides (by_level s)
sides_so s a = record { some = a.some; most = a.most; lead = a.lead; trail = a.trail; rest = a.rest }

then_by : (tables n : ℕ) (bs ds cs : List ℕ) (own zs : List Item) → AreSides (level_sides n bs ds cs) → IsInside (level_sides n bs ds cs) own → IsOfLevel (level_sides n bs ds cs) own
    → rows_from tables (full_lines (heading_line (level_sides n bs ds cs) own ++ char None 10 ∷ zs))
    ≡ heading_row (heading_line (level_sides n bs ds cs) own) (char None 10 ∷ []) ∷ rows_from tables (full_lines zs)
then_by tables zero bs ds cs own zs a h p = absurd (omega (arith, a.some))
then_by tables (suc n) bs ds cs own zs a h p = ended_from tables n bs ds cs own zs a h p

pub round_then : (tables : ℕ) (s : Sides) (own zs : List Item) → AreSides s → IsInside s own → IsOfLevel s own
    → rows_from tables (full_lines (heading_line s own ++ char None 10 ∷ zs))
    ≡ heading_row (heading_line s own) (char None 10 ∷ []) ∷ rows_from tables (full_lines zs)
round_then tables s own zs a h p = then_by tables s.level s.lead s.trail s.rest own zs (sides_so s a) h p

last_by : (tables n : ℕ) (bs ds cs : List ℕ) (own : List Item) → AreSides (level_sides n bs ds cs) → IsInside (level_sides n bs ds cs) own → IsOfLevel (level_sides n bs ds cs) own
    → rows_from tables (full_lines (heading_line (level_sides n bs ds cs) own))
    ≡ heading_row (heading_line (level_sides n bs ds cs) own) [] ∷ replicate tables unwritten_end
last_by tables zero bs ds cs own a h p = absurd (omega (arith, a.some))
last_by tables (suc n) bs ds cs own a h p = last_from tables n bs ds cs own a h p

pub round_last : (tables : ℕ) (s : Sides) (own : List Item) → AreSides s → IsInside s own → IsOfLevel s own
    → rows_from tables (full_lines (heading_line s own)) ≡ heading_row (heading_line s own) [] ∷ replicate tables unwritten_end
round_last tables s own a h p = last_by tables s.level s.lead s.trail s.rest own (sides_so s a) h p

tree_by : (n : ℕ) (bs ds cs : List ℕ) (own : List Item) → AreSides (level_sides n bs ds cs) → IsInside (level_sides n bs ds cs) own → IsOfLevel (level_sides n bs ds cs) own
    → heading (heading_line (level_sides n bs ds cs) own) ≡ heading_round (level_sides n bs ds cs) own
tree_by zero bs ds cs own a h p = absurd (omega (arith, a.some))
tree_by (suc n) bs ds cs own a h p = tree_so n bs ds cs own a h p

pub round_is : (s : Sides) (own : List Item) → AreSides s → IsInside s own → IsOfLevel s own → heading (heading_line s own) ≡ heading_round s own
round_is s own a h p = tree_by s.level s.lead s.trail s.rest own (sides_so s a) h p

-- ---- of one text

pub text_inside : (own : List Item) → IsHeadingText own → IsHeadingInside own
text_inside own h = record { unbroken = h.unbroken; begins = h.begins; ends = h.ends }

pub with_text : (s : Sides) (own : List Item) → IsHeadingText own → heading_round s own ≡ heading_with s own
with_text s own h = ap (λ ps. inner (plain (kind.Heading s.level)) (page_chars (opening_of s)) (forest (children ps)) (closing_items s)) h.is_one

pub first_row : (s : Sides) (own tail : List Item) → AreSides s → IsHeadingText own → IsOfLevel s own → EndsLine tail
    → (end : List Item) × (rs : List Row) × (rows (heading_line s own ++ tail) ≡ heading_row (heading_line s own) end ∷ rs)
first_row s own tail a h p e = round_first s own tail a (inl (text_inside own h)) p e

pub heading_stands : (xs : List Item) (s : Sides) (own tail : List Item) → AreClosed (before_marks xs) → AreSides s → IsHeadingText own → IsOfLevel s own → EndsLine tail
    → meaning (xs ++ (heading_line s own ++ tail)) ≡ body_with (blocks_in xs ++ heading_with s own ∷ blocks_in tail)
heading_stands xs s own tail c a h p e =
    round_stands xs s own tail c a (inl (text_inside own h)) p e ∙ ap (λ (t : ItemTree). body_with (blocks_in xs ++ t ∷ blocks_in tail)) (with_text s own h)

pub rows_then : (tables : ℕ) (s : Sides) (own zs : List Item) → AreSides s → IsHeadingText own → IsOfLevel s own
    → rows_from tables (full_lines (heading_line s own ++ char None 10 ∷ zs))
    ≡ heading_row (heading_line s own) (char None 10 ∷ []) ∷ rows_from tables (full_lines zs)
rows_then tables s own zs a h p = round_then tables s own zs a (inl (text_inside own h)) p

pub rows_last : (tables : ℕ) (s : Sides) (own : List Item) → AreSides s → IsHeadingText own → IsOfLevel s own
    → rows_from tables (full_lines (heading_line s own)) ≡ heading_row (heading_line s own) [] ∷ replicate tables unwritten_end
rows_last tables s own a h p = round_last tables s own a (inl (text_inside own h)) p

pub tree_is : (s : Sides) (own : List Item) → AreSides s → IsHeadingText own → IsOfLevel s own → heading (heading_line s own) ≡ heading_with s own
tree_is s own a h p = round_is s own a (inl (text_inside own h)) p ∙ with_text s own h
