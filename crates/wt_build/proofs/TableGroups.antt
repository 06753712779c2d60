-- The parts of a table by groups of its rows.
use Rattle.std.proofs.Common.{◌≡◌, ◌≤◌, ℕ, zero, suc, Bool, true, false, not, List, [], ◌∷◌, ◌++◌, length, take, drop, map, refl, sym, ap, ◌∙◌, arith, append_assoc, length-drop}
use Rattle.std.specs.List.{flat_map, prefix_len}
use Rattle.std.proofs.lemmas.List.{take-map, drop-map, take-append-drop}
use Rattle.std.proofs.lemmas.Grind.{flat_map-append}
use Rattle.wt_tree.specs.declared.kind.Kind.TheVariants as kind
use Rattle.wt_tables.specs.Parts.{joined, units, unit_kind, groups, group_kind, plain_len, stray_len, is_row, is_caption, captions_len, row_by, row_of, rows_of, table_of}
use Rattle.wt_inline.specs.ItemTree.{plain}
use Rattle.wt_page.specs.Rows.{Row, kind_of}
use Rattle.wt_page.specs.Stretches.{enclosed}
use Rattle.wt_page.specs.Tables.{Reading, cell_stretches, row_by as row_stretches_by, row_stretches, rows_stretches, table_inside}
use Rattle.wt_rows.specs.Units.{plain_count}
use Rattle.wt_rows.specs.Groups.{group_rows, goes_on, captions_count}
use Rattle.wt_build.specs.RowGroups.{row_with, row_of_groups, rows_of_groups, body_of_groups, inside_groups}
use Rattle.wt_rows.proofs.Grouping.{runs_front, plain_are, AreFirst, first_are, first_rest, count_same}

stray_all : (n : ℕ) (u : List Row) (us : List (List Row)) → (u ++ joined (take n us)) ++ joined (drop n us) ≡ u ++ joined us
stray_all n u us =
    append_assoc u (joined (take n us)) (joined (drop n us))
    ∙ ap (λ ls. u ++ ls) (sym (flat_map-append (λ l. l) (take n us) (drop n us)) ∙ ap joined (take-append-drop n us))

row_with_is : (read : Reading) (t : Bool) (g : List (List Row)) (gs : List (List (List Row))) → is_row (group_kind kind_of g) ≡ t
    → row_stretches read (row_by kind_of t g gs) ≡ row_with read t (joined g) (map joined gs)
unfolding row_stretches cell_stretches
row_with_is read true [] gs e = cc
row_with_is read false [] gs e = refl
row_with_is read true (u ∷ us) gs e = ap (λ ls. row_stretches_by ls (flat_map (cell_stretches read false) (map joined gs)))
    (stray_all (stray_len kind_of us) u us)
row_with_is read false (u ∷ us) gs e = refl

row_is : (read : Reading) (g : List (List Row)) (gs : List (List (List Row))) → group_kind kind_of g ≡ unit_kind kind_of (joined g)
    → row_stretches read (row_of kind_of (g ∷ gs)) ≡ row_of_groups read (joined g ∷ map joined gs)
row_is read g gs e =
    row_with_is read (is_row (group_kind kind_of g)) g gs refl ∙ ap (λ k. row_with read (is_row k) (joined g) (map joined gs)) e

abbrev goes : List (List Row) → Bool
goes g = not (is_row (group_kind kind_of g))

rows_by : (read : Reading) (fuel : ℕ) (gs : List (List (List Row))) → length gs ≤ fuel → AreFirst kind_of gs
    → flat_map (row_stretches read) (rows_of kind_of gs) ≡ rows_of_groups read (map joined gs)
rows_by read fuel [] h f = refl
rows_by read zero (g ∷ gs) h f = absurd (omega arith)
rows_by read (suc fuel) (g ∷ gs) h f =
    let m = prefix_len goes gs in
    let same : m ≡ prefix_len (goes_on kind_of) (map joined gs) = count_same kind_of (λ k. not (is_row k)) gs f.1 in
    let others : flat_map (row_stretches read) (rows_of kind_of (drop m gs)) ≡ rows_of_groups read (map joined (drop m gs)) =
    rows_by read fuel (drop m gs) (omega (arith, h, length-drop m gs)) (first_rest kind_of m gs f.1) in
    ap (λ rs. flat_map (row_stretches read) (map (row_of kind_of) rs)) (runs_front goes g gs)
    ∙ ap (λ ss. ss ++ flat_map (row_stretches read) (rows_of kind_of (drop m gs))) (row_is read g (take m gs) f.0)
    ∙ ap (λ ss. row_of_groups read (joined g ∷ map joined (take m gs)) ++ ss) others
    ∙ ap (λ fs. row_of_groups read (joined g ∷ fs) ++ rows_of_groups read (map joined (drop m gs))) (sym (take-map joined m gs))
    ∙ ap (λ fs. row_of_groups read (joined g ∷ take m (map joined gs)) ++ rows_of_groups read fs) (sym (drop-map joined m gs))
    ∙ ap (λ n. row_of_groups read (joined g ∷ take n (map joined gs)) ++ rows_of_groups read (drop n (map joined gs))) same
    ∙ ap (flat_map (row_of_groups read)) (sym (runs_front (goes_on kind_of) (joined g) (map joined gs)))

body_is : (read : Reading) (gs : List (List (List Row))) → AreFirst kind_of gs → rows_stretches read (rows_of kind_of gs) ≡ body_of_groups read (map joined gs)
body_is read [] f = refl
body_is read (g ∷ gs) f =
    let m = prefix_len goes gs in
    let some = ap (map (row_of kind_of)) (runs_front goes g gs) in
    ap (rows_stretches read) some
    ∙ ap (λ rs. enclosed (plain kind.Tbody) (flat_map (row_stretches read) rs)) (sym some)
    ∙ ap (enclosed (plain kind.Tbody)) (rows_by read (length (g ∷ gs)) (g ∷ gs) (omega arith) f)

inside_by : (read : Reading) (gs : List (List (List Row))) → AreFirst kind_of gs
    → flat_map (cell_stretches read true) (map joined (take (captions_len kind_of gs) gs)) ++ rows_stretches read
    (rows_of kind_of (drop (captions_len kind_of gs) gs))
    ≡ inside_groups read (map joined gs)
inside_by read gs f =
    let c = captions_len kind_of gs in
    let same : c ≡ captions_count kind_of (map joined gs) = count_same kind_of is_caption gs f in
    ap (λ ss. flat_map (cell_stretches read true) (map joined (take c gs)) ++ ss) (body_is read (drop c gs) (first_rest kind_of c gs f))
    ∙ ap (λ fs. flat_map (cell_stretches read true) fs ++ body_of_groups read (map joined (drop c gs))) (sym (take-map joined c gs))
    ∙ ap (λ fs. flat_map (cell_stretches read true) (take c (map joined gs)) ++ body_of_groups read fs) (sym (drop-map joined c gs))
    ∙ ap (λ n. flat_map (cell_stretches read true) (take n (map joined gs)) ++ body_of_groups read (drop n (map joined gs))) same

-- what stands in the table, by the rows behind the plain ones
pub inside_is : (read : Reading) (first : Row) (inside : List Row)
    → table_inside read (table_of kind_of first inside) ≡ inside_groups read (group_rows kind_of (drop (plain_count 0 (map kind_of inside)) inside))
inside_is read first inside =
    let us = units kind_of inside in
    let gs = groups kind_of (drop (plain_len kind_of us) us) in
    let rest = drop (plain_count 0 (map kind_of inside)) inside in
    let cut : gs ≡ groups kind_of (units kind_of rest) = ap (groups kind_of) (plain_are kind_of inside).back in
    ap (λ fs. flat_map (cell_stretches read true) (map joined (take (captions_len kind_of fs) fs)) ++ rows_stretches read
    (rows_of kind_of (drop (captions_len kind_of fs) fs))) cut
    ∙ inside_by read (groups kind_of (units kind_of rest)) (first_are kind_of rest)

-- its open delimiter with all lines before the first that begins a part
pub opening_is : (first : Row) (inside : List Row)
    → (table_of kind_of first inside).opening ++ (table_of kind_of first inside).between ≡ first ∷ take (plain_count 0 (map kind_of inside)) inside
opening_is first inside =
    let us = units kind_of inside in
    let plain_units = take (plain_len kind_of us) us in
    stray_all (stray_len kind_of plain_units) (first ∷ []) plain_units ∙ ap (λ ls. first ∷ ls) (plain_are kind_of inside).front
