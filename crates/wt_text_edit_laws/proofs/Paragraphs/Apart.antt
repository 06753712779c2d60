-- Rows before others that they don't join: their parts stand before the others' parts.
use Rattle.std.proofs.Common.{◌≡◌, ℕ, zero, suc, Bool, false, List, [], ◌∷◌, ◌++◌, map, refl, sym, ap, ap₂, ◌∙◌, subst, append-nil, append_assoc, arith, inl, inr}
use Rattle.std.specs.List.{AllByRecursion, flat_map}
use Rattle.std.proofs.lemmas.Grind.{flat_map-append}
use Rattle.wt_span.specs.Runs.{runs, IsRun, AreRuns}
use Rattle.wt_span.proofs.RunLaws.{runs_are, runs_cut, runs_only}
use Rattle.wt_lines.specs.declared.kind.LineKind.{LineKind}
use Rattle.wt_lines.specs.declared.kind.LineKind.TheVariants as line
use Rattle.wt_blocks.specs.Paragraphs.{is_text}
use Rattle.wt_tables.specs.Extents.{is_open}
use Rattle.wt_tables.specs.Parts.{joined, units, unit_kind}
use Rattle.wt_inline.specs.Parts.{Part}
use Rattle.wt_page.specs.Rows.{Row, kind_of, rows}
use Rattle.wt_page.specs.Stretches.{Stretch, stretch_parts, stretches_parts}
use Rattle.wt_page.specs.Body.{one_block, same_block, block_stretches, run_stretches, blocks_by, within, blocks, body_parts}
use Rattle.wt_page.specs.Tables.{Reading, gaps}
use Rattle.wt_page.specs.Texts.{with_separators, para}
use Rattle.wt_span.specs.Items.{Item}
use Rattle.wt_lines.specs.Lines.{full_lines}
use Rattle.wt_part_laws.specs.Blocks.{AllAre}
use Rattle.wt_part_laws.specs.Units.{IsUnit, AreUnits}
use Rattle.wt_part_laws.proofs.Falling.{IsPart, unit_is_part}
use Rattle.wt_part_laws.proofs.UnitCuts.{units_only, units_are}
use Rattle.wt_rows.proofs.FirstUnits.{units_more, unit_one}
use Rattle.wt_text_edit_laws.proofs.Texts.PlainRows.{text_row}
use Rattle.wt_text_edit_laws.specs.ParagraphBetween.{EndApart, BeginApart}

-- ---- runs

-- the last doesn't join the first of the others
abbrev pub Apart : {A : Type 0} → (A → A → Bool) → List A → List A → Type 0
Apart joins [] ys = Unit {0}
Apart joins (x ∷ []) ys = IsRun joins (x ∷ []) ys
Apart joins (x ∷ z ∷ zs) ys = Apart joins (z ∷ zs) ys

run_alone : {A : Type 0} (joins : A → A → Bool) (l ys : List A) → IsRun joins l [] → Apart joins l ys → IsRun joins l ys
run_alone joins [] ys r e = absurd r
run_alone joins (x ∷ []) ys r e = e
run_alone joins (x ∷ z ∷ zs) ys r e = (r.0, run_alone joins (z ∷ zs) ys r.1 e)

run_more : {A : Type 0} (joins : A → A → Bool) (l : List A) (x : A) (others ys : List A) → IsRun joins l (x ∷ others)
    → IsRun joins l (x ∷ others ++ ys)
run_more joins [] x others ys r = absurd r
run_more joins (z ∷ []) x others ys r = r
run_more joins (z ∷ w ∷ l) x others ys r = (r.0, run_more joins (w ∷ l) x others ys r.1)

run_over : {A : Type 0} (joins : A → A → Bool) (l others ys : List A) → IsRun joins l others → Apart joins (l ++ others) ys
    → IsRun joins l (others ++ ys)
run_over joins l [] ys r e = run_alone joins l ys r (subst (λ zs. Apart joins zs ys) (append-nil l) e)
run_over joins l (x ∷ others) ys r e = run_more joins l x others ys r

last_apart : {A : Type 0} (joins : A → A → Bool) (l : List A) (x : A) (others ys : List A) → Apart joins (l ++ x ∷ others) ys
    → Apart joins (x ∷ others) ys
last_apart joins [] x others ys e = e
last_apart joins (z ∷ []) x others ys e = e
last_apart joins (z ∷ w ∷ l) x others ys e = last_apart joins (w ∷ l) x others ys e

rest_apart : {A : Type 0} (joins : A → A → Bool) (l others ys : List A) → Apart joins (l ++ others) ys → Apart joins others ys
rest_apart joins l [] ys e = tt
rest_apart joins l (x ∷ others) ys e = last_apart joins l x others ys e

both_runs : {A : Type 0} (joins : A → A → Bool) (rs : List (List A)) (xs ys : List A) → AreRuns joins rs xs → Apart joins xs ys
    → AreRuns joins (rs ++ runs joins ys) (xs ++ ys)
both_runs joins [] xs ys r e = subst (λ zs. AreRuns joins (runs joins ys) (zs ++ ys)) (sym r) (runs_are joins ys)
both_runs joins (l ∷ rs) xs ys r e =
    let w : Apart joins (l ++ r.0) ys = subst (λ zs. Apart joins zs ys) r.1 e in
    (r.0 ++ ys, ap (λ zs. zs ++ ys) r.1 ∙ append_assoc l r.0 ys, run_over joins l r.0 ys r.2 w, both_runs joins rs r.0 ys r.3 (rest_apart joins l r.0 ys w))

pub runs_apart : {A : Type 0} (joins : A → A → Bool) (xs ys : List A) → Apart joins xs ys → runs joins (xs ++ ys) ≡ runs joins xs ++ runs joins ys
runs_apart joins xs ys e = sym (runs_only joins (runs joins xs ++ runs joins ys) (xs ++ ys) (both_runs joins (runs joins xs) xs ys (runs_are joins xs) e))

-- ---- units

abbrev alone : Row → List Row
alone r = r ∷ []

each_unit : (us vs : List (List Row)) → AllByRecursion IsUnit us → AllByRecursion IsUnit vs → AllByRecursion IsUnit (us ++ vs)
each_unit [] vs h g = g
each_unit (u ∷ us) vs (h, hs) g = (h, each_unit us vs hs g)

pub units_beside : (rs ss : List Row) → AreUnits (units kind_of rs) rs → AreUnits (units kind_of ss) ss
    → units kind_of (rs ++ ss) ≡ units kind_of rs ++ units kind_of ss
units_beside rs ss h g =
    let us : List (List Row) = units kind_of rs in
    let vs : List (List Row) = units kind_of ss in
    sym (units_only (us ++ vs) (rs ++ ss) (record {
      join = flat_map-append (λ (u : List Row). u) us vs ∙ ap (λ xs. xs ++ joined vs) h.join ∙ ap (λ xs. rs ++ xs) g.join;
      each = each_unit us vs h.each g.each;
    }))

-- the rows of a page
pub page_units : (xs : List Item) → AreUnits (units kind_of (rows xs)) (rows xs)
unfolding rows
page_units xs = units_are (full_lines xs)

-- ---- their parts

abbrev parts_of_units : List (List Row) → List Part
parts_of_units us = stretches_parts (flat_map (run_stretches (within 15)) (runs same_block us))

units_apart : (us vs : List (List Row)) → Apart same_block us vs → parts_of_units (us ++ vs) ≡ parts_of_units us ++ parts_of_units vs
units_apart us vs e =
    let F : List (List Row) → List Stretch = run_stretches (within 15) in
    ap (λ rs. stretches_parts (flat_map F rs)) (runs_apart same_block us vs e)
    ∙ ap stretches_parts (flat_map-append F (runs same_block us) (runs same_block vs))
    ∙ flat_map-append stretch_parts (flat_map F (runs same_block us)) (flat_map F (runs same_block vs))

parts_are : (rs : List Row) → body_parts rs ≡ parts_of_units (units kind_of rs)
unfolding blocks
parts_are rs = refl

pub parts_beside : (rs ss : List Row) → units kind_of (rs ++ ss) ≡ units kind_of rs ++ units kind_of ss
    → Apart same_block (units kind_of rs) (units kind_of ss) → body_parts (rs ++ ss) ≡ body_parts rs ++ body_parts ss
parts_beside rs ss h e =
    parts_are (rs ++ ss)
    ∙ ap parts_of_units h
    ∙ units_apart (units kind_of rs) (units kind_of ss) e
    ∙ ap (λ ps. ps ++ parts_of_units (units kind_of ss)) (sym (parts_are rs))
    ∙ ap (λ ps. body_parts rs ++ ps) (sym (parts_are ss))

-- ---- beside text

text_behind : (k : LineKind) → is_text k ≡ false → one_block k line.Text ≡ false
text_behind line.Blank e = refl
text_behind line.TableOpen e = refl
text_behind line.TableEnd e = refl
text_behind line.Caption e = refl
text_behind line.Row e = refl
text_behind line.Cell e = refl
text_behind line.Header e = refl
text_behind line.Heading e = refl
text_behind line.Rule e = refl
text_behind line.List e = refl
text_behind line.Pre e = refl
text_behind line.Text e = absurd cc

text_before : (k : LineKind) → is_text k ≡ false → one_block line.Text k ≡ false
text_before k e = rw e refl

-- the first row is text
abbrev pub BeginsText : List Row → Type 0
BeginsText [] = ⊥
BeginsText (r ∷ rs) = r.kind ≡ line.Text

-- a unit whose last row isn't text is a table, or this row
part_kind : (u : List Row) → IsPart u → EndApart u → is_text (unit_kind kind_of u) ≡ false
part_kind [] h e = absurd h
part_kind (r ∷ rs) (inl (o, f)) e = ap is_text o
part_kind (r ∷ []) (inr (o, z)) e = e
part_kind (r ∷ s ∷ rs) (inr (o, z)) e = absurd cc

ends_rest : (us : List Row) (r : Row) (rs : List Row) → EndApart (us ++ r ∷ rs) → EndApart (r ∷ rs)
ends_rest [] r rs e = e
ends_rest (u ∷ []) r rs e = e
ends_rest (u ∷ v ∷ us) r rs e = ends_rest (v ∷ us) r rs e

unit_ends : (us u rs : List Row) → IsUnit u → EndApart (us ++ (u ++ rs)) → EndApart (u ++ rs)
unit_ends us [] rs h e = absurd (omega (arith, h.holds_rows))
unit_ends us (r ∷ u) rs h e = ends_rest us r (u ++ rs) e

ends_apart : (us : List (List Row)) (v : List Row) (vs : List (List Row)) → AllByRecursion IsUnit us → EndApart (joined us)
    → unit_kind kind_of v ≡ line.Text → Apart same_block us (v ∷ vs)
ends_apart [] v vs h e t = tt
ends_apart (u ∷ []) v vs h e t =
    ap (one_block (unit_kind kind_of u)) t ∙ text_behind (unit_kind kind_of u) (part_kind u (unit_is_part u h.0) (subst EndApart (append-nil u) e))
ends_apart (u ∷ w ∷ us) v vs h e t = ends_apart (w ∷ us) v vs h.1 (unit_ends u w (joined us) h.1.0 e) t

-- before rows that begin with text
pub before_text : (rs ss : List Row) → AreUnits (units kind_of rs) rs → AreUnits (units kind_of ss) ss → EndApart rs → BeginsText ss
    → body_parts (rs ++ ss) ≡ body_parts rs ++ body_parts ss
before_text rs [] h g e t = absurd t
before_text rs (r ∷ ss) h g e t =
    parts_beside rs (r ∷ ss) (units_beside rs (r ∷ ss) h g)
    (subst (λ us. Apart same_block (units kind_of rs) us) (sym (unit_one r ss (ap is_open t)))
    (ends_apart (units kind_of rs) (alone r) (units kind_of ss) h.each (subst EndApart (sym h.join) e) t))

-- ---- behind text

texts_units : (rs ss : List Row) → AllAre line.Text rs → units kind_of (rs ++ ss) ≡ map alone rs ++ units kind_of ss
texts_units [] ss h = refl
texts_units (r ∷ rs) ss h = unit_one r (rs ++ ss) (ap is_open h.0) ∙ ap (λ us. alone r ∷ us) (texts_units rs ss h.1)

pub texts_alone : (rs : List Row) → AllAre line.Text rs → units kind_of rs ≡ map alone rs
texts_alone rs h = ap (units kind_of) (sym (append-nil rs)) ∙ texts_units rs [] h ∙ append-nil (map alone rs)

texts_apart : (r : Row) (rs : List Row) (us : List (List Row)) → AllAre line.Text (r ∷ rs)
    → ((m : Row) → m.kind ≡ line.Text → IsRun same_block (alone m ∷ []) us) → Apart same_block (map alone (r ∷ rs)) us
texts_apart r [] us h f = f r h.0
texts_apart r (m ∷ rs) us h f = texts_apart m rs us h.1 f

texts_beside : (r : Row) (rs ss : List Row) → AllAre line.Text (r ∷ rs) → ((m : Row) → m.kind ≡ line.Text → IsRun same_block (alone m ∷ []) (units kind_of ss))
    → body_parts ((r ∷ rs) ++ ss) ≡ body_parts (r ∷ rs) ++ body_parts ss
texts_beside r rs ss h f =
    parts_beside (r ∷ rs) ss (texts_units (r ∷ rs) ss h ∙ ap (λ us. us ++ units kind_of ss) (sym (texts_alone (r ∷ rs) h)))
    (subst (λ us. Apart same_block us (units kind_of ss)) (sym (texts_alone (r ∷ rs) h)) (texts_apart r rs (units kind_of ss) h f))

-- a row that is no text doesn't join a row of text
no_join : (m r : Row) (ss : List Row) → m.kind ≡ line.Text → is_text r.kind ≡ false → IsRun same_block (alone m ∷ []) (units kind_of (r ∷ ss))
no_join m r ss i h =
    subst (λ us. IsRun same_block (alone m ∷ []) us) (sym (units_more r ss)) (ap (λ (k : LineKind). one_block k r.kind) i ∙ text_before r.kind h)

-- rows of text before what doesn't begin with text
pub after_rows : (r : Row) (rs ss : List Row) → AllAre line.Text (r ∷ rs) → BeginApart ss
    → body_parts ((r ∷ rs) ++ ss) ≡ body_parts (r ∷ rs) ++ body_parts ss
after_rows r rs [] h b = texts_beside r rs [] h (λ m i. tt)
after_rows r rs (s ∷ ss) h b = texts_beside r rs (s ∷ ss) h (λ m i. no_join m s ss i b)

all_text : (ls : List (List Item)) → AllAre line.Text (map text_row ls)
all_text [] = tt
all_text (l ∷ ls) = (refl, all_text ls)

pub after_text : (l : List Item) (ls : List (List Item)) (ss : List Row) → BeginApart ss
    → body_parts (map text_row (l ∷ ls) ++ ss) ≡ body_parts (map text_row (l ∷ ls)) ++ body_parts ss
after_text l ls ss h = after_rows (text_row l) (map text_row ls) ss (all_text (l ∷ ls)) h

-- ---- rows of text alone

one_run : (r : Row) (rs : List Row) → AllAre line.Text (r ∷ rs) → IsRun same_block (map alone (r ∷ rs)) []
one_run r [] h = tt
one_run r (m ∷ rs) h =
    let first = h.0 in
    let second = h.1.0 in
    (ap₂ one_block first second, one_run m rs h.1)

joined_alone : (rs : List Row) → joined (map alone rs) ≡ rs
joined_alone [] = refl
joined_alone (r ∷ rs) = ap (λ ss. r ∷ ss) (joined_alone rs)

texts_read : (read : Reading) (r : Row) (rs : List Row) → AllAre line.Text (r ∷ rs) → blocks_by read (r ∷ rs) ≡ with_separators (para (r ∷ rs)) (r ∷ rs)
texts_read read r rs h =
    let all : List Row = r ∷ rs in
    ap (λ us. flat_map (run_stretches read) (runs same_block us)) (texts_alone all h)
    ∙ ap (λ us. flat_map (run_stretches read) (runs same_block us)) (sym (append-nil (map alone all)))
    ∙ ap (λ us. flat_map (run_stretches read) us) (runs_cut same_block (map alone all) [] (one_run r rs h))
    ∙ ap (λ ss. block_stretches read (unit_kind kind_of ss) ss ++ []) (joined_alone all)
    ∙ ap (λ (k : LineKind). block_stretches read k all ++ []) h.0

-- they are one paragraph
pub within_text : (n : ℕ) (r : Row) (rs : List Row) → AllAre line.Text (r ∷ rs) → within n (r ∷ rs) ≡ with_separators (para (r ∷ rs)) (r ∷ rs)
within_text zero r rs h = texts_read gaps r rs h
within_text (suc n) r rs h = texts_read (within n) r rs h
