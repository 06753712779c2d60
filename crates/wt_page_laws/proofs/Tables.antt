-- The parts of a table are laid out as they should be.
use Rattle.std.proofs.Common.{◌≡◌, ◌⊎◌, refl, sym, ◌∙◌, ap, subst, ℕ, zero, suc, ◌+◌, ◌-◌, Bool, true, false, cond, List, [], ◌∷◌, ◌++◌, length, take, drop, map, reverse, arith, append_assoc, length-append, inl, inr}
use Rattle.std.specs.Prelude.{not}
use Rattle.std.specs.List.{AllByRecursion, flat_map, prefix_len}
use Rattle.std.proofs.lemmas.List.{reverse-append, reverse-reverse, length-reverse, take-append-drop}
use Rattle.std.proofs.lemmas.List.Concat.{flat_map-append}
use Rattle.std.proofs.lemmas.List.Folds.{length-prefix_len}
use Rattle.std.proofs.Math.Seq.{take-append_seam, drop-append_seam}
use Rattle.wt_span.specs.Runs.{runs, IsRun, AreRuns}
use Rattle.wt_span.proofs.RunLaws.{runs_are, runs_joined}
use Rattle.wt_lines.specs.declared.kind.LineKind.{LineKind}
use Rattle.wt_lines.specs.declared.kind.LineKind.TheVariants as kind
use Rattle.wt_tables.specs.Parts.{joined, units, unit_kind, begins_part, begins_group, groups, group_kind, is_blank_kind, stray_len, is_row, row_by, row_of, is_caption, plain_len, captions_len, table_by, table_of}
use Rattle.wt_page_laws.specs.TableLayout.{BeginsPart, caption, row, cell, header, BeginsFirstCell, first_cell, first_header, BeginsCell, plain_cell, header_cell, late_caption, IsCaption, BeginsNone, Follow, IsPart, LaidRow, row_units, row_made, IsBegun, IsImplied, AreRows, IsLaidOut}

-- ---- kinds

begins : (k : LineKind) → BeginsPart k → begins_part k ≡ true
begins k caption = refl
begins k row = refl
begins k cell = refl
begins k header = refl

begins_none : (k : LineKind) → begins_part k ≡ false → BeginsPart k → ⊥
begins_none k e h = let q : true ≡ false = sym (begins k h) ∙ e in cc

blank_is : (k : LineKind) → is_blank_kind k ≡ true → k ≡ kind.Blank
blank_is kind.Blank e = refl
blank_is kind.TableOpen e = cc
blank_is kind.TableEnd e = cc
blank_is kind.Caption e = cc
blank_is kind.Row e = cc
blank_is kind.Cell e = cc
blank_is kind.Header e = cc
blank_is kind.Heading e = cc
blank_is kind.Rule e = cc
blank_is kind.List e = cc
blank_is kind.Pre e = cc
blank_is kind.Text e = cc

row_is : (k : LineKind) → is_row k ≡ true → k ≡ kind.Row
row_is kind.Blank e = cc
row_is kind.TableOpen e = cc
row_is kind.TableEnd e = cc
row_is kind.Caption e = cc
row_is kind.Row e = refl
row_is kind.Cell e = cc
row_is kind.Header e = cc
row_is kind.Heading e = cc
row_is kind.Rule e = cc
row_is kind.List e = cc
row_is kind.Pre e = cc
row_is kind.Text e = cc

caption_is : (k : LineKind) → is_caption k ≡ true → k ≡ kind.Caption
caption_is kind.Blank e = cc
caption_is kind.TableOpen e = cc
caption_is kind.TableEnd e = cc
caption_is kind.Caption e = refl
caption_is kind.Row e = cc
caption_is kind.Cell e = cc
caption_is kind.Header e = cc
caption_is kind.Heading e = cc
caption_is kind.Rule e = cc
caption_is kind.List e = cc
caption_is kind.Pre e = cc
caption_is kind.Text e = cc

cell_is : (k : LineKind) → begins_part k ≡ true → is_row k ≡ false → BeginsCell k
cell_is kind.Blank e f = cc
cell_is kind.TableOpen e f = cc
cell_is kind.TableEnd e f = cc
cell_is kind.Caption e f = late_caption
cell_is kind.Row e f = cc
cell_is kind.Cell e f = plain_cell
cell_is kind.Header e f = header_cell
cell_is kind.Heading e f = cc
cell_is kind.Rule e f = cc
cell_is kind.List e f = cc
cell_is kind.Pre e f = cc
cell_is kind.Text e f = cc

first_is : (k : LineKind) → begins_part k ≡ true → is_row k ≡ false → is_caption k ≡ false → BeginsFirstCell k
first_is kind.Blank e f g = cc
first_is kind.TableOpen e f g = cc
first_is kind.TableEnd e f g = cc
first_is kind.Caption e f g = cc
first_is kind.Row e f g = cc
first_is kind.Cell e f g = first_cell
first_is kind.Header e f g = first_header
first_is kind.Heading e f g = cc
first_is kind.Rule e f g = cc
first_is kind.List e f g = cc
first_is kind.Pre e f g = cc
first_is kind.Text e f g = cc

not_true : (b : Bool) → not b ≡ true → b ≡ false
not_true true e = cc
not_true false e = refl

not_false : (b : Bool) → not b ≡ false → b ≡ true
not_false true e = refl
not_false false e = cc

-- ---- lists

all_left : {A : Type 0} (P : A → Type 0) (n : ℕ) (xs : List A) → AllByRecursion P xs → AllByRecursion P (take n xs)
all_left P zero xs h = tt
all_left P (suc n) [] h = tt
all_left P (suc n) (x ∷ xs) h = (h.0, all_left P n xs h.1)

all_right : {A : Type 0} (P : A → Type 0) (n : ℕ) (xs : List A) → AllByRecursion P xs → AllByRecursion P (drop n xs)
all_right P zero xs h = h
all_right P (suc n) [] h = tt
all_right P (suc n) (x ∷ xs) h = all_right P n xs h.1

all_join : {A : Type 0} (P : A → Type 0) (xs ys : List A) → AllByRecursion P xs → AllByRecursion P ys → AllByRecursion P (xs ++ ys)
all_join P [] ys h g = g
all_join P (x ∷ xs) ys h g = (h.0, all_join P xs ys h.1 g)

all_back : {A : Type 0} (P : A → Type 0) (xs : List A) → AllByRecursion P xs → AllByRecursion P (reverse xs)
all_back P [] h = tt
all_back P (x ∷ xs) h = subst (AllByRecursion P) (sym (reverse-append (x ∷ []) xs)) (all_join P (reverse xs) (x ∷ []) (all_back P xs h.1) (h.0, tt))

all_so : {A : Type 0} (P Q : A → Type 0) (xs : List A) → ((x : A) → P x → Q x) → AllByRecursion P xs → AllByRecursion Q xs
all_so P Q [] f h = tt
all_so P Q (x ∷ xs) f h = (f x h.0, all_so P Q xs f h.1)

prefix_by : {A : Type 0} (p : A → Bool) (x : A) (xs : List A) (b : Bool) → p x ≡ b → AllByRecursion (λ y. p y ≡ true) (take (prefix_len p xs) xs)
    → AllByRecursion (λ y. p y ≡ true) (take (cond b (1 + prefix_len p xs) 0) (x ∷ xs))
prefix_by p x xs true e h =
    let one : 1 + prefix_len p xs ≡ suc (prefix_len p xs) = omega arith in
    subst (λ n. AllByRecursion (λ y. p y ≡ true) (take n (x ∷ xs))) (sym one) (e, h)
prefix_by p x xs false e h = tt

prefix_passes : {A : Type 0} (p : A → Bool) (xs : List A) → AllByRecursion (λ y. p y ≡ true) (take (prefix_len p xs) xs)
prefix_passes p [] = tt
prefix_passes p (x ∷ xs) = prefix_by p x xs (p x) refl (prefix_passes p xs)

stops_by : {A : Type 0} (p : A → Bool) (x : A) (xs : List A) (b : Bool) (y : A) (ys : List A) → p x ≡ b → (drop (prefix_len p xs) xs ≡ y ∷ ys → p y ≡ false)
    → drop (cond b (1 + prefix_len p xs) 0) (x ∷ xs) ≡ y ∷ ys → p y ≡ false
stops_by p x xs true y ys e f h =
    let one : 1 + prefix_len p xs ≡ suc (prefix_len p xs) = omega arith in
    f (ap (λ n. drop n (x ∷ xs)) (sym one) ∙ h)
stops_by p x xs false y ys e f h = let same : x ≡ y = cc in ap p (sym same) ∙ e

stops : {A : Type 0} (p : A → Bool) (xs : List A) (y : A) (ys : List A) → drop (prefix_len p xs) xs ≡ y ∷ ys → p y ≡ false
stops p [] y ys h = cc
stops p (x ∷ xs) y ys h = stops_by p x xs (p x) y ys refl (stops p xs y ys) h

-- ---- what follows a delimiter's line

record CutBack {A : Type 0} (n : ℕ) (us : List A) : Type 0 where
  left : take (length us - n) us ≡ reverse (drop n (reverse us))
  right : drop (length us - n) us ≡ reverse (take n (reverse us))

cut_back : {A : Type 0} (n : ℕ) (us : List A) → length (take n (reverse us)) ≡ n → CutBack n us
cut_back n us e =
    let t = take n (reverse us) in
    let d = drop n (reverse us) in
    let whole : us ≡ reverse d ++ reverse t = sym (reverse-reverse us) ∙ ap reverse (sym (take-append-drop n (reverse us))) ∙ reverse-append t d in
    let len : length us ≡ length (reverse d) + length (reverse t) = ap length whole ∙ length-append (reverse d) (reverse t) in
    let back : length (reverse t) ≡ n = length-reverse t ∙ e in
    let place : length us - n ≡ length (reverse d) = omega arith in
    record {
      left = ap (λ m. take m us) place ∙ ap (take (length (reverse d))) whole ∙ take-append_seam (reverse d) (reverse t);
      right = ap (λ m. drop m us) place ∙ ap (drop (length (reverse d))) whole ∙ drop-append_seam (reverse d) (reverse t);
    }

abbrev IsPlain : {A : Type 0} → (A → LineKind) → List A → Type 0
IsPlain kind_of u = begins_group kind_of u ≡ false

follows : {A : Type 0} (kind_of : A → LineKind) (us : List (List A)) → AllByRecursion (IsPlain kind_of) us
    → Follow kind_of (take (stray_len kind_of us) us) (drop (stray_len kind_of us) us)
follows kind_of us h =
    let n = prefix_len (λ u. is_blank_kind (unit_kind kind_of u)) (reverse us) in
    let c = cut_back n us (length-prefix_len (λ u. is_blank_kind (unit_kind kind_of u)) (reverse us)) in
    record {
      begin_none = all_left (BeginsNone kind_of) (stray_len kind_of us) us (all_so (IsPlain kind_of) (BeginsNone kind_of) us (λ u e. begins_none (unit_kind kind_of u) e) h);
      ends = λ front u e b.
          let first : drop n (reverse us) ≡ u ∷ reverse front =
          sym (reverse-reverse (drop n (reverse us))) ∙ ap reverse (sym c.left ∙ e) ∙ reverse-append front (u ∷ []) in
          let no : is_blank_kind (unit_kind kind_of u) ≡ false = stops (λ u. is_blank_kind (unit_kind kind_of u)) (reverse us) u (reverse front) first in
          let yes : is_blank_kind (unit_kind kind_of u) ≡ true = ap is_blank_kind b in
          let q : true ≡ false = sym yes ∙ no in
          cc;
      blanks =
          subst (AllByRecursion (λ u. unit_kind kind_of u ≡ kind.Blank)) (sym c.right)
          (all_back (λ u. unit_kind kind_of u ≡ kind.Blank) (take n (reverse us))
          (all_so (λ u. is_blank_kind (unit_kind kind_of u) ≡ true) (λ u. unit_kind kind_of u ≡ kind.Blank) (take n (reverse us))
          (λ u e. blank_is (unit_kind kind_of u) e) (prefix_passes (λ u. is_blank_kind (unit_kind kind_of u)) (reverse us))));
    }

-- ---- runs before each member of which the test holds

-- a run: its first, and others of which the test doesn't hold
record Headed {A : Type 0} (p : A → Bool) (r : List A) : Type 0 where
  head : A
  others : List A
  all : r ≡ head ∷ others
  rest : AllByRecursion (λ x. p x ≡ false) others

-- and of the first it does
record HeadedBy {A : Type 0} (p : A → Bool) (r : List A) : Type 0 where
  headed : Headed p r
  passes : p headed.head ≡ true

abbrev BeginsWith : {A : Type 0} → (A → Bool) → List A → Type 0
BeginsWith p [] = Unit {0}
BeginsWith p (x ∷ xs) = p x ≡ true

record OneRun {A : Type 0} (p : A → Bool) (x : A) (xs others : List A) : Type 0 where
  rest : AllByRecursion (λ y. p y ≡ false) xs
  next : BeginsWith p others

one_run : {A : Type 0} (p : A → Bool) (x : A) (xs others : List A) → IsRun (λ u v. not (p v)) (x ∷ xs) others → OneRun p x xs others
one_run p x [] [] h = record { rest = tt; next = tt }
one_run p x [] (y ∷ others) h = record { rest = tt; next = not_false (p y) h }
one_run p x (y ∷ ys) others h = let r = one_run p y ys others h.1 in record { rest = (not_true (p y) h.0, r.rest); next = r.next }

abbrev FirstRun : {A : Type 0} → (A → Bool) → List (List A) → Type 0
FirstRun p [] = Unit {0}
FirstRun p (r ∷ rs) = Headed p r × AllByRecursion (HeadedBy p) rs

further_runs : {A : Type 0} (p : A → Bool) (rs : List (List A)) (xs : List A) → AreRuns (λ u v. not (p v)) rs xs → BeginsWith p xs → AllByRecursion (HeadedBy p) rs
further_runs p [] xs h b = tt
further_runs p ([] ∷ rs) xs h b = absurd h.2
further_runs p ((x ∷ r) ∷ rs) xs h b =
    let o = one_run p x r h.0 h.2 in
    (record { headed = record { head = x; others = r; all = refl; rest = o.rest }; passes = subst (BeginsWith p) h.1 b }, further_runs p rs h.0 h.3 o.next)

first_run : {A : Type 0} (p : A → Bool) (rs : List (List A)) (xs : List A) → AreRuns (λ u v. not (p v)) rs xs → FirstRun p rs
first_run p [] xs h = tt
first_run p ([] ∷ rs) xs h = absurd h.2
first_run p ((x ∷ r) ∷ rs) xs h =
    let o = one_run p x r h.0 h.2 in
    (record { head = x; others = r; all = refl; rest = o.rest }, further_runs p rs h.0 h.3 o.next)

-- ---- parts

abbrev IsGroup : {A : Type 0} → (A → LineKind) → List (List A) → Type 0
IsGroup kind_of g = HeadedBy (begins_group kind_of) g

-- the kind of a group is that of its first unit
part_by : {A : Type 0} (kind_of : A → LineKind) (P : LineKind → Type 0) (g : List (List A)) → IsGroup kind_of g → P (group_kind kind_of g) → IsPart kind_of P g
part_by kind_of P g h k = record {
  first = h.headed.head;
  others = h.headed.others;
  all = h.headed.all;
  begins = subst P (ap (group_kind kind_of) h.headed.all) k;
  begin_none = all_so (IsPlain kind_of) (BeginsNone kind_of) h.headed.others (λ u e. begins_none (unit_kind kind_of u) e) h.headed.rest;
}

kind_passes : {A : Type 0} (kind_of : A → LineKind) (g : List (List A)) → IsGroup kind_of g → begins_part (group_kind kind_of g) ≡ true
kind_passes kind_of g h = ap (λ x. begins_part (group_kind kind_of x)) h.headed.all ∙ h.passes

cell_part : {A : Type 0} (kind_of : A → LineKind) (g : List (List A)) → IsGroup kind_of g → is_row (group_kind kind_of g) ≡ false → IsPart kind_of BeginsCell g
cell_part kind_of g h e = part_by kind_of BeginsCell g h (cell_is (group_kind kind_of g) (kind_passes kind_of g h) e)

abbrev row_group : {A : Type 0} → (A → LineKind) → List (List A) → Bool
row_group kind_of g = is_row (group_kind kind_of g)

cell_parts : {A : Type 0} (kind_of : A → LineKind) (gs : List (List (List A))) → AllByRecursion (IsGroup kind_of) gs
    → AllByRecursion (λ g. is_row (group_kind kind_of g) ≡ false) gs → AllByRecursion (IsPart kind_of BeginsCell) gs
cell_parts kind_of [] h e = tt
cell_parts kind_of (g ∷ gs) h e = (cell_part kind_of g h.0 e.0, cell_parts kind_of gs h.1 e.1)

-- ---- rows

abbrev laid_by : {A : Type 0} → (A → LineKind) → Bool → List A → List (List A) → List (List (List A)) → LaidRow A
laid_by kind_of true u us gs = record { line = u ∷ []; stray = take (stray_len kind_of us) us; blank = drop (stray_len kind_of us) us; cells = gs }
laid_by kind_of false u us gs = record { line = []; stray = []; blank = []; cells = (u ∷ us) ∷ gs }

-- what is so of a row of groups
record IsLaidRow {A : Type 0} (kind_of : A → LineKind) (gs : List (List (List A))) (r : LaidRow A) : Type 0 where
  made : row_of kind_of gs ≡ row_made r
  all : row_units r ≡ joined gs

made_by : {A : Type 0} (kind_of : A → LineKind) (b : Bool) (u : List A) (us : List (List A)) (gs : List (List (List A)))
    → row_by kind_of b (u ∷ us) gs ≡ row_made (laid_by kind_of b u us gs)
made_by kind_of true u us gs = refl
made_by kind_of false u us gs = refl

units_by : {A : Type 0} (kind_of : A → LineKind) (b : Bool) (u : List A) (us : List (List A)) (gs : List (List (List A)))
    → row_units (laid_by kind_of b u us gs) ≡ joined ((u ∷ us) ∷ gs)
units_by kind_of true u us gs =
    ap (λ xs. u ∷ xs) (sym (append_assoc (take (stray_len kind_of us) us) (drop (stray_len kind_of us) us) (joined gs))
    ∙ ap (λ xs. xs ++ joined gs) (take-append-drop (stray_len kind_of us) us))
units_by kind_of false u us gs = refl

laid_row : {A : Type 0} (kind_of : A → LineKind) (gs : List (List (List A))) (g : List (List A)) (more : List (List (List A))) (b : Bool) → gs ≡ g ∷ more
    → (h : IsGroup kind_of g) → row_group kind_of g ≡ b → IsLaidRow kind_of gs (laid_by kind_of b h.headed.head h.headed.others more)
laid_row kind_of gs g more b e h k =
    let u = h.headed.head in
    let us = h.headed.others in
    let whole : gs ≡ (u ∷ us) ∷ more = e ∙ ap (λ x. x ∷ more) h.headed.all in
    let row : is_row (group_kind kind_of (u ∷ us)) ≡ b = ap (row_group kind_of) (sym h.headed.all) ∙ k in
    record {
      made = ap (row_of kind_of) whole ∙ ap (λ x. row_by kind_of x (u ∷ us) more) row ∙ made_by kind_of b u us more;
      all = units_by kind_of b u us more ∙ ap joined (sym whole);
    }

-- all groups of a row begin parts, and those behind the first aren't rows
begun_row : {A : Type 0} (kind_of : A → LineKind) (gs : List (List (List A))) → AllByRecursion (IsGroup kind_of) gs → HeadedBy (row_group kind_of) gs
    → (r : LaidRow A) × IsLaidRow kind_of gs r × IsBegun kind_of r
begun_row kind_of gs all h =
    let g = h.headed.head in
    let more = h.headed.others in
    let whole : gs ≡ g ∷ more = h.headed.all in
    let each : AllByRecursion (IsGroup kind_of) (g ∷ more) = subst (AllByRecursion (IsGroup kind_of)) whole all in
    let group : IsGroup kind_of g = each.0 in (
      laid_by kind_of true group.headed.head group.headed.others more,
      laid_row kind_of gs g more true whole group h.passes,
      record {
        unit = group.headed.head;
        line = refl;
        begins = row_is (unit_kind kind_of group.headed.head) (ap (row_group kind_of) (sym group.headed.all) ∙ h.passes);
        follow = follows kind_of group.headed.others group.headed.rest;
        cells = cell_parts kind_of more each.1 h.headed.rest;
      },
    )

implied_row : {A : Type 0} (kind_of : A → LineKind) (gs : List (List (List A))) → AllByRecursion (IsGroup kind_of) gs → (h : Headed (row_group kind_of) gs)
    → row_group kind_of h.head ≡ false → is_caption (group_kind kind_of h.head) ≡ false → (r : LaidRow A) × IsLaidRow kind_of gs r × IsImplied kind_of r
implied_row kind_of gs all h no_row no_caption =
    let g = h.head in
    let more = h.others in
    let whole : gs ≡ g ∷ more = h.all in
    let each : AllByRecursion (IsGroup kind_of) (g ∷ more) = subst (AllByRecursion (IsGroup kind_of)) whole all in
    let group : IsGroup kind_of g = each.0 in (
      laid_by kind_of false group.headed.head group.headed.others more,
      laid_row kind_of gs g more false whole group no_row,
      record {
        first = group.headed.head ∷ group.headed.others;
        others = more;
        line = refl;
        stray = refl;
        blank = refl;
        all = refl;
        begins = subst (IsPart kind_of BeginsFirstCell) group.headed.all
            (part_by kind_of BeginsFirstCell g group (first_is (group_kind kind_of g) (kind_passes kind_of g group) no_row no_caption));
        cells = cell_parts kind_of more each.1 h.rest;
      },
    )

-- ---- all rows

record HasRows {A : Type 0} (kind_of : A → LineKind) (P : List (LaidRow A) → Type 0) (rs : List (List (List (List A)))) : Type 0 where
  rows : List (LaidRow A)
  made : map (row_of kind_of) rs ≡ map row_made rows
  all : flat_map row_units rows ≡ joined (joined rs)
  are : P rows

join_rows : {A : Type 0} (kind_of : A → LineKind) (gs : List (List (List A))) (r : LaidRow A) (rs : List (List (List (List A)))) (rows : List (LaidRow A))
    → IsLaidRow kind_of gs r → flat_map row_units rows ≡ joined (joined rs) → flat_map row_units (r ∷ rows) ≡ joined (joined (gs ∷ rs))
join_rows kind_of gs r rs rows h e =
    ap (λ xs. xs ++ flat_map row_units rows) h.all ∙ ap (λ xs. joined gs ++ xs) e ∙ sym (flat_map-append (λ g. g) gs (joined rs))

begun_rows : {A : Type 0} (kind_of : A → LineKind) (rs : List (List (List (List A)))) → AllByRecursion (AllByRecursion (IsGroup kind_of)) rs
    → AllByRecursion (HeadedBy (row_group kind_of)) rs → HasRows kind_of (AllByRecursion (IsBegun kind_of)) rs
begun_rows kind_of [] all h = record { rows = []; made = refl; all = refl; are = tt }
begun_rows kind_of (gs ∷ rs) all h =
    let r = begun_row kind_of gs all.0 h.0 in
    let more = begun_rows kind_of rs all.1 h.1 in
    record {
      rows = r.0 ∷ more.rows;
      made = ap (λ x. x ∷ map (row_of kind_of) rs) r.1.made ∙ ap (λ x. row_made r.0 ∷ x) more.made;
      all = join_rows kind_of gs r.0 rs more.rows r.1 more.all;
      are = (r.2, more.are);
    }

-- the first group isn't a caption
abbrev NoCaption : {A : Type 0} → (A → LineKind) → List (List (List A)) → Type 0
NoCaption kind_of [] = Unit {0}
NoCaption kind_of (g ∷ gs) = is_caption (group_kind kind_of g) ≡ false

first_row : {A : Type 0} (kind_of : A → LineKind) (gs : List (List (List A))) → AllByRecursion (IsGroup kind_of) gs → (h : Headed (row_group kind_of) gs) → NoCaption kind_of gs
    → (b : Bool) → row_group kind_of h.head ≡ b → (r : LaidRow A) × IsLaidRow kind_of gs r × (IsBegun kind_of r ⊎ IsImplied kind_of r)
first_row kind_of gs all h none true e = let r = begun_row kind_of gs all (record { headed = h; passes = e }) in (r.0, r.1, inl r.2)
first_row kind_of gs all h none false e = let r = implied_row kind_of gs all h e (subst (NoCaption kind_of) h.all none) in (r.0, r.1, inr r.2)

none_first : {A : Type 0} (kind_of : A → LineKind) (gs : List (List (List A))) (rs : List (List (List (List A)))) → Headed (row_group kind_of) gs
    → NoCaption kind_of (gs ++ joined rs) → NoCaption kind_of gs
none_first kind_of [] rs h none = tt
none_first kind_of (g ∷ gs) rs h none = none

all_rows : {A : Type 0} (kind_of : A → LineKind) (rs : List (List (List (List A)))) → AllByRecursion (AllByRecursion (IsGroup kind_of)) rs
    → FirstRun (row_group kind_of) rs → NoCaption kind_of (joined rs) → HasRows kind_of (AreRows kind_of) rs
all_rows kind_of [] all h none = record { rows = []; made = refl; all = refl; are = tt }
all_rows kind_of (gs ∷ rs) all h none =
    let r = first_row kind_of gs all.0 h.0 (none_first kind_of gs rs h.0 none) (row_group kind_of h.0.head) refl in
    let more = begun_rows kind_of rs all.1 h.1 in
    record {
      rows = r.0 ∷ more.rows;
      made = ap (λ x. x ∷ map (row_of kind_of) rs) r.1.made ∙ ap (λ x. row_made r.0 ∷ x) more.made;
      all = join_rows kind_of gs r.0 rs more.rows r.1 more.all;
      are = (r.2, more.are);
    }

all_parts : {A : Type 0} (P : A → Type 0) (xs ys : List A) → AllByRecursion P (xs ++ ys) → AllByRecursion P xs × AllByRecursion P ys
all_parts P [] ys h = (tt, h)
all_parts P (x ∷ xs) ys h = let r = all_parts P xs ys h.1 in ((h.0, r.0), r.1)

all_split : {A : Type 0} (P : A → Type 0) (rs : List (List A)) → AllByRecursion P (joined rs) → AllByRecursion (AllByRecursion P) rs
all_split P [] h = tt
all_split P (r ∷ rs) h = let t = all_parts P r (joined rs) h in (t.0, all_split P rs t.1)

abbrev by_rows : {A : Type 0} → (A → LineKind) → List (List (List A)) → List (List (List (List A)))
by_rows kind_of gs = runs (λ g h. not (is_row (group_kind kind_of h))) gs

rows_are : {A : Type 0} (kind_of : A → LineKind) (gs : List (List (List A))) → AllByRecursion (IsGroup kind_of) gs → NoCaption kind_of gs
    → HasRows kind_of (AreRows kind_of) (by_rows kind_of gs)
rows_are kind_of gs all none =
    let back : joined (by_rows kind_of gs) ≡ gs = runs_joined (λ g h. not (is_row (group_kind kind_of h))) gs in
    all_rows kind_of (by_rows kind_of gs) (all_split (IsGroup kind_of) (by_rows kind_of gs) (subst (AllByRecursion (IsGroup kind_of)) (sym back) all))
    (first_run (row_group kind_of) (by_rows kind_of gs) gs (runs_are (λ g h. not (is_row (group_kind kind_of h))) gs))
    (subst (NoCaption kind_of) (sym back) none)

-- ---- tables

caption_parts : {A : Type 0} (kind_of : A → LineKind) (gs : List (List (List A))) → AllByRecursion (IsGroup kind_of) gs
    → AllByRecursion (λ g. is_caption (group_kind kind_of g) ≡ true) gs → AllByRecursion (IsPart kind_of IsCaption) gs
caption_parts kind_of [] h e = tt
caption_parts kind_of (g ∷ gs) h e = (part_by kind_of IsCaption g h.0 (caption_is (group_kind kind_of g) e.0), caption_parts kind_of gs h.1 e.1)

no_caption : {A : Type 0} (kind_of : A → LineKind) (gs hs : List (List (List A))) → drop (captions_len kind_of gs) gs ≡ hs → NoCaption kind_of hs
no_caption kind_of gs [] e = tt
no_caption kind_of gs (h ∷ hs) e = stops (λ g. is_caption (group_kind kind_of g)) gs h hs e

begin_parts : {A : Type 0} (kind_of : A → LineKind) (us vs : List (List A)) → drop (plain_len kind_of us) us ≡ vs → BeginsWith (begins_group kind_of) vs
begin_parts kind_of us [] e = tt
begin_parts kind_of us (v ∷ vs) e = not_false (begins_group kind_of v) (stops (λ u. not (begins_group kind_of u)) us v vs e)

laid_out : {A : Type 0} (kind_of : A → LineKind) (first : A) (inside : List A) (plain rest : List (List A)) → units kind_of inside ≡ plain ++ rest
    → AllByRecursion (IsPlain kind_of) plain → BeginsWith (begins_group kind_of) rest → IsLaidOut kind_of first inside (table_by kind_of first plain (groups kind_of rest))
laid_out kind_of first inside plain rest whole plains begin =
    let gs = groups kind_of rest in
    let each : AllByRecursion (IsGroup kind_of) gs = further_runs (begins_group kind_of) gs rest (runs_are (λ u v. not (begins_group kind_of v)) rest) begin in
    let n = captions_len kind_of gs in
    let rows = rows_are kind_of (drop n gs) (all_right (IsGroup kind_of) n gs each) (no_caption kind_of gs (drop n gs) refl) in
    let back : joined (by_rows kind_of (drop n gs)) ≡ drop n gs = runs_joined (λ g h. not (is_row (group_kind kind_of h))) (drop n gs) in
    let behind : joined (take n gs) ++ flat_map row_units rows.rows ≡ rest =
    ap (λ xs. joined (take n gs) ++ xs) (rows.all ∙ ap joined back) ∙ sym (flat_map-append (λ g. g) (take n gs) (drop n gs))
    ∙ ap joined (take-append-drop n gs) ∙ runs_joined (λ u v. not (begins_group kind_of v)) rest in
    let k = stray_len kind_of plain in
    record {
      stray = take k plain;
      blank = drop k plain;
      captions = take n gs;
      rows = rows.rows;
      all = whole ∙ ap (λ xs. xs ++ rest) (sym (take-append-drop k plain)) ∙ append_assoc (take k plain) (drop k plain) rest
          ∙ ap (λ xs. take k plain ++ (drop k plain ++ xs)) (sym behind);
      opening = refl;
      between = refl;
      made_captions = refl;
      made_rows = rows.made;
      follow = follows kind_of plain plains;
      are_captions = caption_parts kind_of (take n gs) (all_left (IsGroup kind_of) n gs each) (prefix_passes (λ g. is_caption (group_kind kind_of g)) gs);
      are_rows = rows.are;
    }

pub parts_laid_out : {A : Type 0} (kind_of : A → LineKind) (first : A) (inside : List A) → IsLaidOut kind_of first inside (table_of kind_of first inside)
parts_laid_out kind_of first inside =
    let us = units kind_of inside in
    let n = plain_len kind_of us in
    laid_out kind_of first inside (take n us) (drop n us) (sym (take-append-drop n us))
    (all_so (λ u. not (begins_group kind_of u) ≡ true) (IsPlain kind_of) (take n us) (λ u e. not_true (begins_group kind_of u) e)
    (prefix_passes (λ u. not (begins_group kind_of u)) us))
    (begin_parts kind_of us (drop n us) refl)
