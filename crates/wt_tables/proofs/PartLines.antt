-- The parts of a table join to its lines.
use Rattle.std.proofs.Common.{◌≡◌, ℕ, zero, suc, Bool, true, false, List, [], ◌∷◌, ◌++◌, take, drop, map, refl, sym, ap, ◌∙◌, append_assoc}
use Rattle.std.specs.Prelude.{not}
use Rattle.std.specs.List.{flat_map}
use Rattle.std.proofs.lemmas.List.{take-append-drop}
use Rattle.std.proofs.lemmas.List.Concat.{flat_map-append}
use Rattle.wt_span.specs.Runs.{runs}
use Rattle.wt_span.proofs.RunLaws.{runs_joined}
use Rattle.wt_lines.specs.declared.kind.LineKind.{LineKind}
use Rattle.wt_tables.specs.Extents.{inner_len}
use Rattle.wt_tables.specs.Parts.{joined, taken_len, put_first, units_from, units, groups, group_kind, begins_group, stray_len, with_stray, past_stray, row_by, row_of, is_row, rows_of, table_by, table_of, plain_len, captions_len, row_lines, table_lines}

put_joined : {A : Type 0} (l : A) (us : List (List A)) → joined (put_first l us) ≡ l ∷ joined us
put_joined l [] = refl
put_joined l (u ∷ us) = refl

from_joined : {A : Type 0} (kind_of : A → LineKind) (n : ℕ) (ls : List A) → joined (units_from kind_of n ls) ≡ ls
from_joined kind_of n [] = refl
from_joined kind_of (suc n) (l ∷ ls) = put_joined l (units_from kind_of n ls) ∙ ap (λ ks. l ∷ ks) (from_joined kind_of n ls)
from_joined kind_of zero (l ∷ ls) =
    let us = units_from kind_of (taken_len (kind_of l) (inner_len (map kind_of ls))) ls in
    put_joined l us ∙ ap (λ ks. l ∷ ks) (from_joined kind_of (taken_len (kind_of l) (inner_len (map kind_of ls))) ls)

units_joined : {A : Type 0} (kind_of : A → LineKind) (ls : List A) → joined (units kind_of ls) ≡ ls
units_joined kind_of [] = refl
units_joined kind_of (l ∷ ls) = from_joined kind_of 0 (l ∷ ls)

two_levels : {A : Type 0} (gs : List (List (List A))) → joined (map joined gs) ≡ joined (joined gs)
two_levels [] = refl
two_levels (g ∷ gs) = ap (λ ks. joined g ++ ks) (two_levels gs) ∙ sym (flat_map-append (λ l. l) g (joined gs))

map_both : {A : Type 0} (gs hs : List (List (List A))) → joined (map joined (gs ++ hs)) ≡ joined (map joined gs) ++ joined (map joined hs)
map_both [] hs = refl
map_both (g ∷ gs) hs = ap (λ ks. joined g ++ ks) (map_both gs hs) ∙ sym (append_assoc (joined g) (joined (map joined gs)) (joined (map joined hs)))

stray_joined : {A : Type 0} (n : ℕ) (u : List A) (us : List (List A)) (rest : List A)
    → (u ++ joined (take n us)) ++ (joined (drop n us) ++ rest) ≡ (u ++ joined us) ++ rest
stray_joined n u us rest =
    sym (append_assoc (u ++ joined (take n us)) (joined (drop n us)) rest) ∙ ap (λ ks. ks ++ rest) (append_assoc u (joined (take n us)) (joined (drop n us)))
    ∙ ap (λ ks. (u ++ ks) ++ rest) (sym (flat_map-append (λ l. l) (take n us) (drop n us)) ∙ ap joined (take-append-drop n us))

row_by_joined : {A : Type 0} (kind_of : A → LineKind) (b : Bool) (g : List (List A)) (gs : List (List (List A)))
    → row_lines (row_by kind_of b g gs) ≡ joined g ++ joined (map joined gs)
row_by_joined kind_of b [] gs = refl
row_by_joined kind_of true (u ∷ us) gs = stray_joined (stray_len kind_of us) u us (joined (map joined gs))
row_by_joined kind_of false (u ∷ us) gs = refl

row_joined : {A : Type 0} (kind_of : A → LineKind) (gs : List (List (List A))) → row_lines (row_of kind_of gs) ≡ joined (map joined gs)
row_joined kind_of [] = refl
row_joined kind_of (g ∷ gs) = row_by_joined kind_of (is_row (group_kind kind_of g)) g gs

rows_by_joined : {A : Type 0} (kind_of : A → LineKind) (rs : List (List (List (List A))))
    → flat_map row_lines (map (row_of kind_of) rs) ≡ joined (map joined (joined rs))
rows_by_joined kind_of [] = refl
rows_by_joined kind_of (r ∷ rs) =
    ap (λ ks. ks ++ flat_map row_lines (map (row_of kind_of) rs)) (row_joined kind_of r)
    ∙ ap (λ ks. joined (map joined r) ++ ks) (rows_by_joined kind_of rs) ∙ sym (map_both r (joined rs))

rows_joined : {A : Type 0} (kind_of : A → LineKind) (gs : List (List (List A))) → flat_map row_lines (rows_of kind_of gs) ≡ joined (map joined gs)
rows_joined kind_of gs = rows_by_joined kind_of (runs (λ g h. not (is_row (group_kind kind_of h))) gs)
    ∙ ap (λ hs. joined (map joined hs)) (runs_joined (λ g h. not (is_row (group_kind kind_of h))) gs)

table_by_joined : {A : Type 0} (kind_of : A → LineKind) (first : A) (plain : List (List A)) (gs : List (List (List A)))
    → table_lines (table_by kind_of first plain gs) ≡ first ∷ (joined plain ++ joined (joined gs))
table_by_joined kind_of first plain gs =
    let n = captions_len kind_of gs in
    let inner = ap (λ ks. joined (map joined (take n gs)) ++ ks) (rows_joined kind_of (drop n gs))
    ∙ sym (map_both (take n gs) (drop n gs)) ∙ ap (λ hs. joined (map joined hs)) (take-append-drop n gs) ∙ two_levels gs in
    ap (λ ks. with_stray kind_of (first ∷ []) plain ++ (past_stray kind_of plain ++ ks)) inner
    ∙ stray_joined (stray_len kind_of plain) (first ∷ []) plain (joined (joined gs))

pub table_joined : {A : Type 0} (kind_of : A → LineKind) (first : A) (inside : List A) → table_lines (table_of kind_of first inside) ≡ first ∷ inside
table_joined kind_of first inside =
    let us = units kind_of inside in
    let n = plain_len kind_of us in
    table_by_joined kind_of first (take n us) (groups kind_of (drop n us))
    ∙ ap (λ ks. first ∷ (joined (take n us) ++ joined ks)) (runs_joined (λ u v. not (begins_group kind_of v)) (drop n us))
    ∙ ap (λ ks. first ∷ ks) (sym (flat_map-append (λ l. l) (take n us) (drop n us)) ∙ ap joined (take-append-drop n us) ∙ units_joined kind_of inside)
