-- The parts of a table whose rows are whole units: what is in its cells and captions is blocks.
use Rattle.std.proofs.Common.{arith, ◌≡◌, ℕ, zero, suc, ◌+◌, Bool, true, false, List, [], ◌∷◌, ◌++◌, take, drop, refl, sym, ap, subst, cond, inl, inr}
use Rattle.std.specs.Prelude.{not, map}
use Rattle.std.specs.List.{AllByRecursion, prefix_len}
use Rattle.wt_span.specs.Runs.{runs, IsRun, AreRuns}
use Rattle.wt_span.proofs.RunLaws.{runs_are}
use Rattle.wt_lines.specs.declared.kind.LineKind.{LineKind}
use Rattle.wt_lines.specs.declared.kind.LineKind.TheVariants as line
use Rattle.wt_tables.specs.Parts.{RowOf, TableOf, joined, units, unit_kind, begins_part, begins_group, group_kind, groups, is_row, is_caption, row_by, row_of, stray_len, plain_len, captions_len, table_of}
use Rattle.wt_page.specs.Rows.{Row, kind_of}
use Rattle.wt_part_laws.specs.Blocks.{BeginOtherwise}
use Rattle.wt_part_laws.specs.Units.{IsUnit, Level}
use Rattle.wt_part_laws.proofs.Contents.{table_whole}
use Rattle.wt_part_laws.proofs.Falling.{IsPart, unit_is_part}
use Rattle.wt_part_laws.proofs.InCells.{level_join, one_level}
use Rattle.wt_part_laws.proofs.PageBlocks.{is_inner, Blocked, put_table, put_row, no_open}
use Rattle.wt_part_laws.proofs.UnitCuts.{level_units, inside_of}

-- ---- what is known of them

-- a line of cells or of a caption, and blocks behind it
abbrev pub AreCells : List Row → Type 0
AreCells [] = ⊥
AreCells (r ∷ rs) = (begins_part r.kind ≡ true) × (is_row r.kind ≡ false) × Blocked rs

-- what opens a row is level, and is no text
abbrev pub Opening : List Row → Type 0
Opening rs = BeginOtherwise line.Text rs × Level 0 rs

abbrev pub IsRow : RowOf Row → Type 0
IsRow r = Opening (r.opening ++ r.between) × AllByRecursion AreCells r.cells

pub record IsTable (first : Row) (t : TableOf Row) : Type 0 where
  pub rest : List Row
  pub opening : t.opening ++ t.between ≡ first ∷ rest
  pub level : Level 0 rest
  pub captions : AllByRecursion AreCells t.captions
  pub rows : AllByRecursion IsRow t.rows

-- ---- lists

all_front : {A : Type 0} (P : A → Type 0) (xs ys : List A) → AllByRecursion P (xs ++ ys) → AllByRecursion P xs
all_front P [] ys h = tt
all_front P (x ∷ xs) ys (h, hs) = (h, all_front P xs ys hs)

all_back : {A : Type 0} (P : A → Type 0) (xs ys : List A) → AllByRecursion P (xs ++ ys) → AllByRecursion P ys
all_back P [] ys h = h
all_back P (x ∷ xs) ys (h, hs) = all_back P xs ys hs

all_take : {A : Type 0} (P : A → Type 0) (n : ℕ) (xs : List A) → AllByRecursion P xs → AllByRecursion P (take n xs)
all_take P zero xs h = tt
all_take P (suc n) [] h = tt
all_take P (suc n) (x ∷ xs) (h, hs) = (h, all_take P n xs hs)

all_drop : {A : Type 0} (P : A → Type 0) (n : ℕ) (xs : List A) → AllByRecursion P xs → AllByRecursion P (drop n xs)
all_drop P zero xs h = h
all_drop P (suc n) [] h = tt
all_drop P (suc n) (x ∷ xs) (h, hs) = all_drop P n xs hs

not_true : (b : Bool) → not b ≡ true → b ≡ false
not_true true h = absurd cc
not_true false h = refl

not_false : (b : Bool) → not b ≡ false → b ≡ true
not_false true h = refl
not_false false h = absurd cc

-- the first ones pass
first_pass : {A : Type 0} (p : A → Bool) (xs : List A) → AllByRecursion (λ (x : A). p x ≡ true) (take (prefix_len p xs) xs)
first_pass p [] = tt
first_pass p (x ∷ xs) = by (p x) refl (first_pass p xs)
  where
    by : (v : Bool) → p x ≡ v → AllByRecursion (λ y. p y ≡ true) (take (prefix_len p xs) xs) → AllByRecursion (λ y. p y ≡ true) (take (cond v (1 + prefix_len p xs) 0) (x ∷ xs))
    by true e h =
        let z : 1 + prefix_len p xs ≡ suc (prefix_len p xs) = omega arith in
        subst (λ (n : ℕ). AllByRecursion (λ y. p y ≡ true) (take n (x ∷ xs))) (sym z) (e, h)
    by false e h = tt

-- ---- units

part_level : (u : List Row) → IsPart u → Level 0 u
part_level [] h = absurd h
part_level (r ∷ rs) (inl (e, f)) =
    let i = inside_of 0 rs f in
    subst (λ (ss : List Row). Level 0 (r ∷ ss)) (sym i.is) (table_whole r i.last i.inside e i.ends i.level).level
part_level (r ∷ rs) (inr (o, z)) = subst (λ (ss : List Row). Level 0 (r ∷ ss)) (sym z) (one_level r o)

units_level : (us : List (List Row)) → AllByRecursion IsUnit us → Level 0 (joined us)
units_level [] h = tt
units_level (u ∷ us) (h, hs) = level_join 0 u (joined us) (part_level u (unit_is_part u h)) (units_level us hs)

cut_level : (u : List Row) (n : ℕ) (us : List (List Row)) → Level 0 u → AllByRecursion IsUnit us → Level 0 ((u ++ joined (take n us)) ++ joined (drop n us))
cut_level u n us h a =
    level_join 0 (u ++ joined (take n us)) (joined (drop n us)) (level_join 0 u (joined (take n us)) h (units_level (take n us) (all_take IsUnit n us a)))
    (units_level (drop n us) (all_drop IsUnit n us a))

-- ---- blocks of units that begin no part

inner_by : (k : LineKind) → begins_part k ≡ false → (k ≡ line.TableEnd → ⊥) → is_inner k ≡ false
inner_by line.Blank b e = refl
inner_by line.TableOpen b e = refl
inner_by line.TableEnd b e = absurd (e refl)
inner_by line.Caption b e = absurd cc
inner_by line.Row b e = absurd cc
inner_by line.Cell b e = absurd cc
inner_by line.Header b e = absurd cc
inner_by line.Heading b e = refl
inner_by line.Rule b e = refl
inner_by line.List b e = refl
inner_by line.Pre b e = refl
inner_by line.Text b e = refl

abbrev Begins : List Row → Type 0
Begins u = begins_group kind_of u ≡ true

abbrev IsPlain : List Row → Type 0
IsPlain u = begins_group kind_of u ≡ false

put_unit : (u rs : List Row) → IsPart u → IsPlain u → Blocked rs → Blocked (u ++ rs)
put_unit [] rs p b more = absurd p
put_unit (r ∷ ss) rs (inl (e, f)) b more = put_table r ss rs e f more
put_unit (r ∷ ss) rs (inr (o, z)) b more =
    subst (λ (ts : List Row). Blocked (r ∷ (ts ++ rs))) (sym z) (put_row r.kind r rs refl (inner_by r.kind b o.no_end) (no_open r.kind o) more)

units_blocked : (us : List (List Row)) → AllByRecursion IsUnit us → AllByRecursion IsPlain us → Blocked (joined us)
units_blocked [] h p = record { its_blocks = []; are = refl }
units_blocked (u ∷ us) (h, hs) (p, ps) = put_unit u (joined us) (unit_is_part u h) p (units_blocked us hs ps)

-- ---- groups

abbrev Group : Type 0
Group = List (List Row)

abbrev IsGroup : Group → Type 0
IsGroup [] = ⊥
IsGroup (u ∷ us) = Begins u × AllByRecursion IsPlain us × AllByRecursion IsUnit (u ∷ us)

abbrev FirstBegins : List (List Row) → Type 0
FirstBegins [] = Unit {0}
FirstBegins (u ∷ us) = Begins u

abbrev goes_on : List Row → List Row → Bool
goes_on u v = not (begins_group kind_of v)

run_plain : (u : List Row) (us others : List (List Row)) → IsRun goes_on (u ∷ us) others → AllByRecursion IsPlain us
run_plain u [] others h = tt
run_plain u (v ∷ us) others (h, hs) = (not_true (begins_group kind_of v) h, run_plain v us others hs)

run_ends : (u : List Row) (us others : List (List Row)) → IsRun goes_on (u ∷ us) others → FirstBegins others
run_ends u [] [] h = tt
run_ends u [] (v ∷ others) h = not_false (begins_group kind_of v) h
run_ends u (v ∷ us) others (h, hs) = run_ends v us others hs

are_groups : (gs : List Group) (us : List (List Row)) → AreRuns goes_on gs us → AllByRecursion IsUnit us → FirstBegins us → AllByRecursion IsGroup gs
are_groups [] us z h b = tt
are_groups ([] ∷ gs) us (others, z, run, are) h b = absurd run
are_groups ((u ∷ vs) ∷ gs) us (others, z, run, are) h b =
    let all = subst (AllByRecursion IsUnit) z h in (
      (subst FirstBegins z b, run_plain u vs others run, all_front IsUnit (u ∷ vs) others all),
      are_groups gs others are (all_back IsUnit (u ∷ vs) others all) (run_ends u vs others run),
    )

begins_by : (t : Bool) (u : List Row) (us : List (List Row)) (n : ℕ) → begins_group kind_of u ≡ t → FirstBegins (drop n us)
    → FirstBegins (drop (cond (not t) (1 + n) 0) (u ∷ us))
begins_by true u us n e h = e
begins_by false u us n e h =
    let m : 1 + n ≡ suc n = omega arith in subst (λ (k : ℕ). FirstBegins (drop k (u ∷ us))) (sym m) h

past_plain : (us : List (List Row)) → FirstBegins (drop (plain_len kind_of us) us)
past_plain [] = tt
past_plain (u ∷ us) = begins_by (begins_group kind_of u) u us (plain_len kind_of us) refl (past_plain us)

-- ---- cells

no_table : (k : LineKind) → k ≡ line.TableOpen → begins_part k ≡ true → ⊥
no_table k e b =
    let f : begins_part k ≡ false = ap begins_part e in absurd cc

-- a line that begins no row
abbrev NoRow : Group → Type 0
NoRow g = is_row (group_kind kind_of g) ≡ false

group_cells : (g : Group) → IsGroup g → NoRow g → AreCells (joined g)
group_cells [] h n = absurd h
group_cells (u ∷ us) (b, p, (h, hs)) n = by_part u b n (unit_is_part u h)
  where
    by_part : (v : List Row) → Begins v → is_row (unit_kind kind_of v) ≡ false → IsPart v → AreCells (v ++ joined us)
    by_part [] c m part = absurd part
    by_part (r ∷ rs) c m (inl (e, f)) = absurd (no_table r.kind e c)
    by_part (r ∷ rs) c m (inr (o, z)) = subst (λ (ss : List Row). AreCells (r ∷ (ss ++ joined us))) (sym z) (c, m, units_blocked us hs p)

groups_cells : (gs : List Group) → AllByRecursion IsGroup gs → AllByRecursion NoRow gs → AllByRecursion AreCells (map joined gs)
groups_cells [] h n = tt
groups_cells (g ∷ gs) (h, hs) (n, ns) = (group_cells g h n, groups_cells gs hs ns)

caption_no_row : (k : LineKind) → is_caption k ≡ true → is_row k ≡ false
caption_no_row line.Blank e = refl
caption_no_row line.TableOpen e = refl
caption_no_row line.TableEnd e = refl
caption_no_row line.Caption e = refl
caption_no_row line.Row e = absurd cc
caption_no_row line.Cell e = refl
caption_no_row line.Header e = refl
caption_no_row line.Heading e = refl
caption_no_row line.Rule e = refl
caption_no_row line.List e = refl
caption_no_row line.Pre e = refl
caption_no_row line.Text e = refl

captions_no_row : (gs : List Group) → AllByRecursion (λ (g : Group). is_caption (group_kind kind_of g) ≡ true) gs → AllByRecursion NoRow gs
captions_no_row [] h = tt
captions_no_row (g ∷ gs) (h, hs) = (caption_no_row (group_kind kind_of g) h, captions_no_row gs hs)

-- ---- rows

part_no_text : (k : LineKind) → begins_part k ≡ true → k ≡ line.Text → ⊥
part_no_text k b e = let f : begins_part k ≡ false = ap begins_part e in absurd cc

unit_opening : (u : List Row) (n : ℕ) (us : List (List Row)) → Begins u → IsUnit u → AllByRecursion IsUnit us
    → Opening ((u ++ joined (take n us)) ++ joined (drop n us))
unit_opening [] n us b h a = absurd (unit_is_part [] h)
unit_opening (r ∷ rs) n us b h a = (part_no_text r.kind b, cut_level (r ∷ rs) n us (part_level (r ∷ rs) (unit_is_part (r ∷ rs) h)) a)

row_is_by : (begun : Bool) (g : Group) (gs : List Group) → is_row (group_kind kind_of g) ≡ begun → IsGroup g → AllByRecursion IsGroup gs → AllByRecursion NoRow gs
    → IsRow (row_by kind_of begun g gs)
row_is_by begun [] gs e h hs n = absurd h
row_is_by true (u ∷ us) gs e h hs n = (unit_opening u (stray_len kind_of us) us h.0 h.2.0 h.2.1, groups_cells gs hs n)
row_is_by false (u ∷ us) gs e h hs n = ((tt, tt), (group_cells (u ∷ us) h e, groups_cells gs hs n))

abbrev same_row : Group → Group → Bool
same_row g h = not (is_row (group_kind kind_of h))

run_no_row : (g : Group) (gs others : List Group) → IsRun same_row (g ∷ gs) others → AllByRecursion NoRow gs
run_no_row g [] others h = tt
run_no_row g (k ∷ gs) others (h, hs) = (not_true (is_row (group_kind kind_of k)) h, run_no_row k gs others hs)

rows_are : (rr : List (List Group)) (gs : List Group) → AreRuns same_row rr gs → AllByRecursion IsGroup gs → AllByRecursion IsRow (map (row_of kind_of) rr)
rows_are [] gs z h = tt
rows_are ([] ∷ rr) gs (others, z, run, are) h = absurd run
rows_are ((g ∷ hs) ∷ rr) gs (others, z, run, are) h =
    let all = subst (AllByRecursion IsGroup) z h in
    let own = all_front IsGroup (g ∷ hs) others all in (
      row_is_by (is_row (group_kind kind_of g)) g hs refl own.0 own.1 (run_no_row g hs others run),
      rows_are rr others are (all_back IsGroup (g ∷ hs) others all),
    )

-- ---- a table

pub table_is : (first : Row) (inside : List Row) → Level 0 inside → IsTable first (table_of kind_of first inside)
table_is first inside level =
    let us : List (List Row) = units kind_of inside in
    let each : AllByRecursion IsUnit us = (level_units inside level).each in
    let n : ℕ = plain_len kind_of us in
    let front : List (List Row) = take n us in
    let parts : List (List Row) = drop n us in
    let gs : List Group = groups kind_of parts in
    let m : ℕ = captions_len kind_of gs in
    let further : List Group = drop m gs in
    let k : ℕ = stray_len kind_of front in
    let are : AllByRecursion IsGroup gs = are_groups gs parts (runs_are goes_on parts) (all_drop IsUnit n us each) (past_plain us) in
    record {
      rest = joined (take k front) ++ joined (drop k front);
      opening = refl;
      level = cut_level [] k front tt (all_take IsUnit n us each);
      captions = groups_cells (take m gs) (all_take IsGroup m gs are) (captions_no_row (take m gs) (first_pass (λ g. is_caption (group_kind kind_of g)) gs));
      rows = rows_are (runs same_row further) further (runs_are same_row further) (all_drop IsGroup m gs are);
    }
