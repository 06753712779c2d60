-- A table, whatever blocks are at the places in its cells and captions.
use Rattle.std.proofs.Common.{◌≡◌, ℕ, zero, suc, ◌+◌, Bool, true, false, List, [], ◌∷◌, ◌++◌, map, take, drop, refl, sym, ap, ap₂, ◌∙◌, subst, append-nil, append_assoc, arith, cond}
use Rattle.std.specs.Prelude.{not, if◌then◌else◌}
use Rattle.std.specs.List.{AllByRecursion, flat_map, prefix_len}
use Rattle.wt_tree.specs.declared.kind.Kind.TheVariants as kind
use Rattle.wt_span.specs.Runs.{put, runs}
use Rattle.wt_tables.specs.Parts.{TableOf, joined, units, begins_part, begins_group, groups, group_kind, is_row, is_caption, with_stray, past_stray, plain_len, captions_len, table_by as parts_by, table_of, row_by as row_parts, row_of, rows_of}
use Rattle.wt_tables.specs.Cells.{table_attributes, row_attributes}
use Rattle.wt_inline.specs.ItemTree.{Head, plain, ItemTree}
use Rattle.wt_page.specs.Rows.{Row, kind_of}
use Rattle.wt_page.proofs.HeldBody.{units_joined}
use Rattle.wt_page.specs.Stretches.{Stretch, gap, tree_block, node_of, opened_by}
use Rattle.wt_page.specs.Tables.{Reading, cell_stretches, delimiter, behind_delimiter, delimiter_lead, first_items, row_by, row_stretches, rows_stretches, table_by, with_attrs}
use Rattle.wt_part_laws.specs.Frames.{content, in_table, in_body, in_row}
use Rattle.wt_part_laws.specs.Rounds.{BeginNoPart}
use Rattle.wt_part_laws.specs.Units.{Level}
use Rattle.wt_part_laws.proofs.Apart.{units_beside}
use Rattle.wt_part_laws.proofs.FrameFits.{FitsAll, same_fit, fixed_fit, joined_fit, node_fit, opened_fit, enclosed_fit}
use Rattle.wt_part_laws.proofs.InCells.{part_other, level_join, one_level, rows_units, alone_first}
use Rattle.wt_part_laws.proofs.TableCells.{Group, IsPlain, FirstBegins, groups_round}

-- ---- lists, element by element

prefix_map : {A B : Type 0} (g : A → B) (p : B → Bool) (q : A → Bool) → ((x : A) → p (g x) ≡ q x) → (xs : List A) → prefix_len p (map g xs) ≡ prefix_len q xs
prefix_map g p q h [] = refl
prefix_map g p q h (x ∷ xs) =
    ap (λ (v : Bool). cond v (1 + prefix_len p (map g xs)) 0) (h x) ∙ ap (λ (n : ℕ). cond (q x) (1 + n) 0) (prefix_map g p q h xs)

take_map : {A B : Type 0} (g : A → B) (n : ℕ) (xs : List A) → take n (map g xs) ≡ map g (take n xs)
take_map g zero xs = refl
take_map g (suc n) [] = refl
take_map g (suc n) (x ∷ xs) = ap (λ ys. g x ∷ ys) (take_map g n xs)

drop_map : {A B : Type 0} (g : A → B) (n : ℕ) (xs : List A) → drop n (map g xs) ≡ map g (drop n xs)
drop_map g zero xs = refl
drop_map g (suc n) [] = refl
drop_map g (suc n) (x ∷ xs) = drop_map g n xs

put_map : {A B : Type 0} (g : A → B) (j : B → B → Bool) (i : A → A → Bool) → ((x y : A) → j (g x) (g y) ≡ i x y) → (x : A) (rs : List (List A))
    → put j (g x) (map (map g) rs) ≡ map (map g) (put i x rs)
put_map g j i h x [] = refl
put_map g j i h x ([] ∷ rs) = refl
put_map g j i h x ((y ∷ ys) ∷ rs) =
    ap (λ (v : Bool). if v then (g x ∷ g y ∷ map g ys) ∷ map (map g) rs else (g x ∷ []) ∷ (g y ∷ map g ys) ∷ map (map g) rs) (h x y) ∙ by_test (i x y)
  where
    by_test : (v : Bool) → (if v then (g x ∷ g y ∷ map g ys) ∷ map (map g) rs else (g x ∷ []) ∷ (g y ∷ map g ys) ∷ map (map g) rs)
        ≡ map (map g) (if v then (x ∷ y ∷ ys) ∷ rs else (x ∷ []) ∷ (y ∷ ys) ∷ rs)
    by_test true = refl
    by_test false = refl

runs_map : {A B : Type 0} (g : A → B) (j : B → B → Bool) (i : A → A → Bool) → ((x y : A) → j (g x) (g y) ≡ i x y) → (xs : List A)
    → runs j (map g xs) ≡ map (map g) (runs i xs)
runs_map g j i h [] = refl
runs_map g j i h (x ∷ xs) = ap (put j (g x)) (runs_map g j i h xs) ∙ put_map g j i h x (runs i xs)

-- ---- a line that begins a part, and the rows that belong to it

-- rows without places
pub record AreFixed (E : Type 0) (ns : List ℕ) (rows : E → List Row) : Type 0 where
  pub own : List Row
  pub are : (e : E) → rows e ≡ own
  pub none : ns ≡ []

pub record GroupFit (E : Type 0) (t : E → ℕ → ItemTree) (read : Reading) : Type 0 where
  pub line : Row
  pub begins : begins_part line.kind ≡ true
  pub places : List ℕ
  pub rows : E → List Row
  pub level : (e : E) → Level 0 (rows e)
  pub no_part : (e : E) → BeginNoPart (rows e)
  pub cells : FitsAll E t in_row places (λ e. cell_stretches read false (line ∷ rows e))
  pub captions : FitsAll E t in_table places (λ e. cell_stretches read true (line ∷ rows e))
  pub opens_row : is_row line.kind ≡ true → AreFixed E places rows

abbrev pub group_at : {E : Type 0} {t : E → ℕ → ItemTree} {read : Reading} → E → GroupFit E t read → Group
group_at e g = (g.line ∷ []) ∷ units kind_of (g.rows e)

abbrev pub places_of : {E : Type 0} {t : E → ℕ → ItemTree} {read : Reading} → List (GroupFit E t read) → List ℕ
places_of [] = []
places_of (g ∷ gs) = g.places ++ places_of gs

abbrev pub lines_of : {E : Type 0} {t : E → ℕ → ItemTree} {read : Reading} → E → List (GroupFit E t read) → List Row
lines_of e [] = []
lines_of e (g ∷ gs) = g.line ∷ (g.rows e ++ lines_of e gs)

pub with_places : {E : Type 0} (t : E → ℕ → ItemTree) {ms ns : List ℕ} (f : E → List Stretch) → ms ≡ ns → FitsAll E t content ms f → FitsAll E t content ns f
with_places t f e h = record { frames = h.frames; held = h.held; order = h.order ∙ e; is = h.is }

-- ---- cells

cells_all : {E : Type 0} (t : E → ℕ → ItemTree) (read : Reading) (gs : List (GroupFit E t read))
    → FitsAll E t in_row (places_of gs) (λ e. flat_map (cell_stretches read false) (map joined (map (group_at e) gs)))
cells_all t read [] = fixed_fit t in_row []
cells_all t read (g ∷ gs) =
    joined_fit t in_row g.places (places_of gs) (λ e. cell_stretches read false (joined (group_at e g)))
    (λ e. flat_map (cell_stretches read false) (map joined (map (group_at e) gs)))
    (same_fit t in_row g.places (λ e. cell_stretches read false (joined (group_at e g))) (λ e. cell_stretches read false (g.line ∷ g.rows e))
    (λ e. ap (λ (d : List Row). cell_stretches read false (g.line ∷ d)) (units_joined kind_of (g.rows e))) g.cells)
    (cells_all t read gs)

captions_all : {E : Type 0} (t : E → ℕ → ItemTree) (read : Reading) (gs : List (GroupFit E t read))
    → FitsAll E t in_table (places_of gs) (λ e. flat_map (cell_stretches read true) (map joined (map (group_at e) gs)))
captions_all t read [] = fixed_fit t in_table []
captions_all t read (g ∷ gs) =
    joined_fit t in_table g.places (places_of gs) (λ e. cell_stretches read true (joined (group_at e g)))
    (λ e. flat_map (cell_stretches read true) (map joined (map (group_at e) gs)))
    (same_fit t in_table g.places (λ e. cell_stretches read true (joined (group_at e g))) (λ e. cell_stretches read true (g.line ∷ g.rows e))
    (λ e. ap (λ (d : List Row). cell_stretches read true (g.line ∷ d)) (units_joined kind_of (g.rows e))) g.captions)
    (captions_all t read gs)

-- ---- rows

made_fit : {E : Type 0} (t : E → ℕ → ItemTree) (rs : List Row) (ns : List ℕ) (f : E → List Stretch) → FitsAll E t in_row ns f
    → FitsAll E t in_body ns (λ e. row_by rs (f e))
made_fit t [] ns f h = enclosed_fit t in_body in_row ns f (plain kind.Tr) refl h
made_fit t (r ∷ rs) ns f h =
    let head : Head = with_attrs kind.Tr (row_attributes r.items) in
    joined_fit t in_body [] ns (λ e. gap (delimiter_lead (r ∷ rs)) ∷ []) (λ e. opened_by head (delimiter (r ∷ rs)) (behind_delimiter (r ∷ rs) ++ f e))
    (fixed_fit t in_body (gap (delimiter_lead (r ∷ rs)) ∷ []))
    (opened_fit t in_body in_row ns (λ e. behind_delimiter (r ∷ rs) ++ f e) head (delimiter (r ∷ rs)) refl
    (joined_fit t in_row [] ns (λ e. behind_delimiter (r ∷ rs)) f (fixed_fit t in_row (behind_delimiter (r ∷ rs))) h))

one_row : {E : Type 0} (t : E → ℕ → ItemTree) (read : Reading) (run : List (GroupFit E t read))
    → FitsAll E t in_body (places_of run) (λ e. row_stretches read (row_of kind_of (map (group_at e) run)))
unfolding row_stretches
one_row t read [] = fixed_fit t in_body (row_by [] [])
one_row {E} t read (g ∷ gs) = by_row (is_row g.line.kind) refl
  where
    rest : E → List Group
    rest e = map (group_at e) gs

    by_row : (v : Bool) → is_row g.line.kind ≡ v
        → FitsAll E t in_body (g.places ++ places_of gs) (λ e. row_stretches read (row_parts kind_of (is_row g.line.kind) (group_at e g) (map (group_at e) gs)))
    by_row true w =
        let x = g.opens_row w in
        let us : List (List Row) = units kind_of x.own in
        let rs : List Row = with_stray kind_of (g.line ∷ []) us ++ past_stray kind_of us in
        let made : E → List Stretch = λ e. row_by rs (flat_map (cell_stretches read false) (map joined (map (group_at e) gs))) in
        same_fit t in_body (g.places ++ places_of gs) (λ e. row_stretches read (row_parts kind_of (is_row g.line.kind) (group_at e g) (map (group_at e) gs))) made
        (λ e. ap (λ (v : Bool). row_stretches read (row_parts kind_of v (group_at e g) (map (group_at e) gs))) w
        ∙ ap (λ (ds : List Row). row_stretches read (row_parts kind_of true ((g.line ∷ []) ∷ units kind_of ds) (map (group_at e) gs))) (x.are e))
        (subst (λ ms. FitsAll E t in_body (ms ++ places_of gs) made) (sym x.none)
        (made_fit t rs (places_of gs) (λ e. flat_map (cell_stretches read false) (map joined (map (group_at e) gs))) (cells_all t read gs)))
    by_row false w =
        let made : E → List Stretch = λ e. row_by [] (flat_map (cell_stretches read false) (map joined (map (group_at e) (g ∷ gs)))) in
        same_fit t in_body (g.places ++ places_of gs) (λ e. row_stretches read (row_parts kind_of (is_row g.line.kind) (group_at e g) (map (group_at e) gs))) made
        (λ e. ap (λ (v : Bool). row_stretches read (row_parts kind_of v (group_at e g) (map (group_at e) gs))) w)
        (made_fit t [] (places_of (g ∷ gs)) (λ e. flat_map (cell_stretches read false) (map joined (map (group_at e) (g ∷ gs)))) (cells_all t read (g ∷ gs)))

abbrev places_of_rows : {E : Type 0} {t : E → ℕ → ItemTree} {read : Reading} → List (List (GroupFit E t read)) → List ℕ
places_of_rows [] = []
places_of_rows (gs ∷ rr) = places_of gs ++ places_of_rows rr

all_rows : {E : Type 0} (t : E → ℕ → ItemTree) (read : Reading) (rr : List (List (GroupFit E t read)))
    → FitsAll E t in_body (places_of_rows rr) (λ e. flat_map (row_stretches read) (map (row_of kind_of) (map (map (group_at e)) rr)))
all_rows t read [] = fixed_fit t in_body []
all_rows t read (run ∷ rr) =
    joined_fit t in_body (places_of run) (places_of_rows rr) (λ e. row_stretches read (row_of kind_of (map (group_at e) run)))
    (λ e. flat_map (row_stretches read) (map (row_of kind_of) (map (map (group_at e)) rr))) (one_row t read run) (all_rows t read rr)

body_fit : {E : Type 0} (t : E → ℕ → ItemTree) (read : Reading) (rr : List (List (GroupFit E t read)))
    → FitsAll E t in_table (places_of_rows rr) (λ e. rows_stretches read (map (row_of kind_of) (map (map (group_at e)) rr)))
body_fit t read [] = fixed_fit t in_table []
body_fit t read (run ∷ rr) =
    enclosed_fit t in_table in_body (places_of_rows (run ∷ rr)) (λ e. flat_map (row_stretches read) (map (row_of kind_of) (map (map (group_at e)) (run ∷ rr)))) (plain kind.Tbody) refl
    (all_rows t read (run ∷ rr))

-- by groups
abbrev same_row : {E : Type 0} {t : E → ℕ → ItemTree} {read : Reading} → GroupFit E t read → GroupFit E t read → Bool
same_row g h = not (is_row h.line.kind)

put_places : {E : Type 0} {t : E → ℕ → ItemTree} {read : Reading} (g : GroupFit E t read) (rr : List (List (GroupFit E t read)))
    → places_of_rows (put same_row g rr) ≡ g.places ++ places_of_rows rr
put_places g [] = append-nil (g.places ++ [])
put_places g ([] ∷ rr) = ap (λ ns. ns ++ places_of_rows rr) (append-nil g.places)
put_places g ((h ∷ hs) ∷ rr) = by_test (not (is_row h.line.kind))
  where
    by_test : (v : Bool) → places_of_rows (if v then (g ∷ h ∷ hs) ∷ rr else (g ∷ []) ∷ (h ∷ hs) ∷ rr) ≡ g.places ++ places_of_rows ((h ∷ hs) ∷ rr)
    by_test true = append_assoc g.places (places_of (h ∷ hs)) (places_of_rows rr)
    by_test false = ap (λ ns. ns ++ places_of_rows ((h ∷ hs) ∷ rr)) (append-nil g.places)

runs_places : {E : Type 0} {t : E → ℕ → ItemTree} {read : Reading} (gs : List (GroupFit E t read)) → places_of_rows (runs same_row gs) ≡ places_of gs
runs_places [] = refl
runs_places (g ∷ gs) = put_places g (runs same_row gs) ∙ ap (λ ns. g.places ++ ns) (runs_places gs)

rows_fit : {E : Type 0} (t : E → ℕ → ItemTree) (read : Reading) (gs : List (GroupFit E t read))
    → FitsAll E t in_table (places_of gs) (λ e. rows_stretches read (rows_of kind_of (map (group_at e) gs)))
rows_fit {E} t read gs =
    subst (λ ns. FitsAll E t in_table ns (λ e. rows_stretches read (rows_of kind_of (map (group_at e) gs)))) (runs_places gs)
    (same_fit t in_table (places_of_rows (runs same_row gs)) (λ e. rows_stretches read (rows_of kind_of (map (group_at e) gs)))
    (λ e. rows_stretches read (map (row_of kind_of) (map (map (group_at e)) (runs same_row gs))))
    (λ e. ap (λ rr. rows_stretches read (map (row_of kind_of) rr))
    (runs_map (group_at e) (λ g h. not (is_row (group_kind kind_of h))) same_row (λ g h. refl) gs))
    (body_fit t read (runs same_row gs)))

-- ---- a table

abbrev is_caption_group : {E : Type 0} {t : E → ℕ → ItemTree} {read : Reading} → GroupFit E t read → Bool
is_caption_group g = is_caption g.line.kind

split_places : {E : Type 0} {t : E → ℕ → ItemTree} {read : Reading} (n : ℕ) (gs : List (GroupFit E t read)) → places_of (take n gs) ++ places_of (drop n gs) ≡ places_of gs
split_places zero gs = refl
split_places (suc n) [] = refl
split_places (suc n) (g ∷ gs) = append_assoc g.places (places_of (take n gs)) (places_of (drop n gs)) ∙ ap (λ ns. g.places ++ ns) (split_places n gs)

abbrev parts_with : Row → List (List Row) → List Group → List Group → TableOf Row
parts_with first front captions rest = record {
  opening = with_stray kind_of (first ∷ []) front;
  between = past_stray kind_of front;
  captions = map joined captions;
  rows = rows_of kind_of rest;
}

parts_fit : {E : Type 0} (t : E → ℕ → ItemTree) (read : Reading) (first last : Row) (front : List (List Row)) (gs : List (GroupFit E t read))
    → FitsAll E t content (places_of gs) (λ e. table_by read (parts_by kind_of first front (map (group_at e) gs)) last)
unfolding table_by
parts_fit {E} t read first last front gs =
    let m : ℕ = prefix_len is_caption_group gs in
    let cs : List (GroupFit E t read) = take m gs in
    let rs : List (GroupFit E t read) = drop m gs in
    let opening : List Row = with_stray kind_of (first ∷ []) front ++ past_stray kind_of front in
    let C : E → List Stretch = λ e. flat_map (cell_stretches read true) (map joined (map (group_at e) cs)) in
    let R : E → List Stretch = λ e. rows_stretches read (rows_of kind_of (map (group_at e) rs)) in
    let end : List Stretch = gap last.lead ∷ [] in
    let inside : E → List Stretch = λ e. behind_delimiter opening ++ ((C e ++ R e) ++ end) in
    let head : Head = with_attrs kind.Table (table_attributes (first_items opening)) in
    let ns : List ℕ = (places_of cs ++ places_of rs) ++ [] in
    let inner : FitsAll E t in_table ns inside =
    joined_fit t in_table [] ns (λ e. behind_delimiter opening) (λ e. (C e ++ R e) ++ end) (fixed_fit t in_table (behind_delimiter opening))
    (joined_fit t in_table (places_of cs ++ places_of rs) [] (λ e. C e ++ R e) (λ e. end)
    (joined_fit t in_table (places_of cs) (places_of rs) C R (captions_all t read cs) (rows_fit t read rs)) (fixed_fit t in_table end)) in
    let node : E → List Stretch = λ e. tree_block (node_of head (delimiter opening) (inside e) last.items) ∷ [] in
    let made : E → List Stretch = λ e. gap (delimiter_lead opening) ∷ (node e ++ (gap last.ending ∷ [])) in
    let all : FitsAll E t content (ns ++ []) made =
    joined_fit t content [] (ns ++ []) (λ e. gap (delimiter_lead opening) ∷ []) (λ e. node e ++ (gap last.ending ∷ [])) (fixed_fit t content (gap (delimiter_lead opening) ∷ []))
    (joined_fit t content ns [] node (λ e. gap last.ending ∷ []) (node_fit t content in_table ns inside head (delimiter opening) last.items refl inner)
    (fixed_fit t content (gap last.ending ∷ []))) in
    same_fit t content (places_of gs) (λ e. table_by read (parts_by kind_of first front (map (group_at e) gs)) last) made
    (λ e.
    let ks : List Group = map (group_at e) gs in
    let n : captions_len kind_of ks ≡ m = prefix_map (group_at e) (λ g. is_caption (group_kind kind_of g)) is_caption_group (λ g. refl) gs in
    ap (λ (k : ℕ). table_by read (parts_with first front (take k ks) (drop k ks)) last) n
    ∙ ap₂ (λ xs ys. table_by read (parts_with first front xs ys) last) (take_map (group_at e) m gs) (drop_map (group_at e) m gs))
    (with_places t made (append-nil ns ∙ append-nil (places_of cs ++ places_of rs) ∙ split_places m gs) all)

-- ---- by its rows

begins_first : {E : Type 0} {t : E → ℕ → ItemTree} {read : Reading} (e : E) (gs : List (GroupFit E t read)) → FirstBegins (flat_map (group_at e) gs)
begins_first e [] = tt
begins_first e (g ∷ gs) = g.begins

groups_all : {E : Type 0} {t : E → ℕ → ItemTree} {read : Reading} (e : E) (gs : List (GroupFit E t read)) → groups kind_of (flat_map (group_at e) gs) ≡ map (group_at e) gs
groups_all e [] = refl
groups_all e (g ∷ gs) =
    groups_round [] (units kind_of (g.rows e)) (flat_map (group_at e) gs) (g.line ∷ []) g.begins (g.no_part e) (begins_first e gs)
    ∙ ap (λ ks. group_at e g ∷ ks) (groups_all e gs)

pub lines_level : {E : Type 0} {t : E → ℕ → ItemTree} {read : Reading} (e : E) (gs : List (GroupFit E t read)) → Level 0 (lines_of e gs)
lines_level e [] = tt
lines_level e (g ∷ gs) =
    level_join 0 (g.line ∷ []) (g.rows e ++ lines_of e gs) (one_level g.line (part_other g.line.kind g.begins))
    (level_join 0 (g.rows e) (lines_of e gs) (g.level e) (lines_level e gs))

lines_units : {E : Type 0} {t : E → ℕ → ItemTree} {read : Reading} (e : E) (gs : List (GroupFit E t read)) → units kind_of (lines_of e gs) ≡ flat_map (group_at e) gs
lines_units e [] = refl
lines_units e (g ∷ gs) =
    alone_first g.line (g.rows e ++ lines_of e gs) (part_other g.line.kind g.begins)
    ∙ ap (λ us. (g.line ∷ []) ∷ us) (units_beside (g.rows e) (lines_of e gs) (rows_units (g.rows e) (g.level e)) (rows_units (lines_of e gs) (lines_level e gs))
    ∙ ap (λ us. units kind_of (g.rows e) ++ us) (lines_units e gs))

abbrev is_plain : List Row → Bool
is_plain u = not (begins_group kind_of u)

take_one : {A : Type 0} (n : ℕ) (x : A) (xs : List A) → take (1 + n) (x ∷ xs) ≡ x ∷ take n xs
take_one n x xs = let z : 1 + n ≡ suc n = omega arith in ap (λ (k : ℕ). take k (x ∷ xs)) z

drop_one : {A : Type 0} (n : ℕ) (x : A) (xs : List A) → drop (1 + n) (x ∷ xs) ≡ drop n xs
drop_one n x xs = let z : 1 + n ≡ suc n = omega arith in ap (λ (k : ℕ). drop k (x ∷ xs)) z

front_taken : (us ws : List (List Row)) → AllByRecursion IsPlain us → FirstBegins ws → take (prefix_len is_plain (us ++ ws)) (us ++ ws) ≡ us
front_taken [] [] h b = refl
front_taken [] (w ∷ ws) h b = ap (λ (v : Bool). take (cond v (1 + prefix_len is_plain ws) 0) (w ∷ ws)) (ap not b)
front_taken (u ∷ us) ws h b =
    ap (λ (v : Bool). take (cond v (1 + prefix_len is_plain (us ++ ws)) 0) (u ∷ us ++ ws)) (ap not h.0)
    ∙ take_one (prefix_len is_plain (us ++ ws)) u (us ++ ws) ∙ ap (λ xs. u ∷ xs) (front_taken us ws h.1 b)

front_dropped : (us ws : List (List Row)) → AllByRecursion IsPlain us → FirstBegins ws → drop (prefix_len is_plain (us ++ ws)) (us ++ ws) ≡ ws
front_dropped [] [] h b = refl
front_dropped [] (w ∷ ws) h b = ap (λ (v : Bool). drop (cond v (1 + prefix_len is_plain ws) 0) (w ∷ ws)) (ap not b)
front_dropped (u ∷ us) ws h b =
    ap (λ (v : Bool). drop (cond v (1 + prefix_len is_plain (us ++ ws)) 0) (u ∷ us ++ ws)) (ap not h.0)
    ∙ drop_one (prefix_len is_plain (us ++ ws)) u (us ++ ws) ∙ front_dropped us ws h.1 b

-- rows before the first line that begins a part, and such lines with what belongs to each
pub table_fit : {E : Type 0} (t : E → ℕ → ItemTree) (read : Reading) (first last : Row) (front : List Row) (gs : List (GroupFit E t read)) → Level 0 front
    → BeginNoPart front → FitsAll E t content (places_of gs) (λ e. table_by read (table_of kind_of first (front ++ lines_of e gs)) last)
table_fit {E} t read first last front gs h b =
    let us : List (List Row) = units kind_of front in
    same_fit t content (places_of gs) (λ e. table_by read (table_of kind_of first (front ++ lines_of e gs)) last)
    (λ e. table_by read (parts_by kind_of first us (map (group_at e) gs)) last)
    (λ e.
    let ws : List (List Row) = flat_map (group_at e) gs in
    let cut : units kind_of (front ++ lines_of e gs) ≡ us ++ ws =
    units_beside front (lines_of e gs) (rows_units front h) (rows_units (lines_of e gs) (lines_level e gs)) ∙ ap (λ xs. us ++ xs) (lines_units e gs) in
    let T : List (List Row) → List Stretch = λ xs. table_by read (parts_by kind_of first (take (plain_len kind_of xs) xs) (groups kind_of (drop (plain_len kind_of xs) xs))) last in
    ap T cut
    ∙ ap₂ (λ xs ys. table_by read (parts_by kind_of first xs (groups kind_of ys)) last) (front_taken us ws b (begins_first e gs)) (front_dropped us ws b (begins_first e gs))
    ∙ ap (λ ks. table_by read (parts_by kind_of first us ks) last) (groups_all e gs))
    (parts_fit t read first last us gs)
