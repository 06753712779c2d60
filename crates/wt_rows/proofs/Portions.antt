-- A page is cut into portions: its units, blocks and the parts of its body are those of the portions, one after the other.
use Rattle.std.proofs.Common.{◌≡◌, ◌<◌, ℕ, zero, suc, ◌-◌, Bool, true, false, List, [], ◌∷◌, ◌++◌, length, drop, map, replicate, refl, sym, ap, ◌∙◌, arith, append-nil, inl, inr}
use Rattle.std.specs.List.{flat_map}
use Rattle.std.specs.Prelude.{◌⊎◌}
use Rattle.std.proofs.lemmas.Grind.{flat_map-append}
use Rattle.wt_span.specs.declared.form.Piece.{Piece}
use Rattle.wt_span.specs.Items.{Item, items}
use Rattle.wt_span.specs.Runs.{runs, IsRun}
use Rattle.wt_span.proofs.RunLaws.{runs_cut, runs_alone}
use Rattle.wt_lines.specs.declared.kind.LineKind.{LineKind}
use Rattle.wt_lines.specs.declared.kind.LineKind.TheVariants as line
use Rattle.wt_lines.specs.Kinds.{kind_of_signs}
use Rattle.wt_lines.specs.Lines.{is_break_item, goes_on, full_lines}
use Rattle.wt_tables.specs.Extents.{behind, inner_len}
use Rattle.wt_tables.specs.Parts.{taken_len, put_first, units_from, units, unit_kind}
use Rattle.wt_tables.proofs.Ends.{after_line, depth_len, inner_is}
use Rattle.wt_inline.specs.declared.loose.Loose.TheVariants.{Sep}
use Rattle.wt_inline.specs.Parts.{parts}
use Rattle.wt_inline.specs.Grown.{made}
use Rattle.wt_page.specs.Lines.{kind_at}
use Rattle.wt_page.specs.Rows.{Row, kind_of, line_rows, sign_rows, is_unseen, behind_sign, unwritten_end, rows_from, rows, marks_len, idle_len, dashes}
use Rattle.wt_page.specs.Stretches.{gap, stretches_parts}
use Rattle.wt_page.specs.Tables.{Reading}
use Rattle.wt_page.specs.Body.{one_block, same_block, run_stretches, blocks_by, within, blocks, body_parts}
use Rattle.wt_rows.specs.Building.{IsRowsSoFar}
use Rattle.wt_rows.specs.Unread.{AreBreaks, begins_break}
use Rattle.wt_rows.specs.Portions.{open_behind, AreFirst}
use Rattle.wt_rows.proofs.FirstUnits.{unit_one}

-- ---- units, by how many tables are open

abbrev units_at : ℕ → List Row → List (List Row)
units_at n [] = [] ∷ []
units_at zero (r ∷ rs) = [] ∷ put_first r (units_at (behind zero r.kind) rs)
units_at (suc n) (r ∷ rs) = put_first r (units_at (behind (suc n) r.kind) rs)

-- both ways to count to the end of a unit, of the rows behind one
record SameUnits (rs : List Row) : Type 0 where
  out : units_from kind_of 0 rs ≡ units_at 0 rs
  inside : (d : ℕ) → units_from kind_of (depth_len (map kind_of rs) d) rs ≡ units_at (suc d) rs

outer_by : (k : LineKind) (rs : List Row) → SameUnits rs → units_from kind_of (taken_len k (inner_len (map kind_of rs))) rs ≡ units_at (behind zero k) rs
outer_by line.Blank rs h = h.out
outer_by line.TableOpen rs h = ap (λ n. units_from kind_of n rs) (inner_is (map kind_of rs)) ∙ h.inside 0
outer_by line.TableEnd rs h = let e : 0 - 1 ≡ 0 = omega arith in rw e h.out
outer_by line.Caption rs h = h.out
outer_by line.Row rs h = h.out
outer_by line.Cell rs h = h.out
outer_by line.Header rs h = h.out
outer_by line.Heading rs h = h.out
outer_by line.Rule rs h = h.out
outer_by line.List rs h = h.out
outer_by line.Pre rs h = h.out
outer_by line.Text rs h = h.out

inner_by : (k : LineKind) (d : ℕ) (r : Row) (rs : List Row) → SameUnits rs
    → units_from kind_of (after_line k d (depth_len (map kind_of rs))) (r ∷ rs) ≡ put_first r (units_at (behind (suc d) k) rs)
inner_by line.Blank d r rs h = ap (put_first r) (h.inside d)
inner_by line.TableOpen d r rs h = ap (put_first r) (h.inside (suc d))
inner_by line.TableEnd zero r rs h = let e : 1 - 1 ≡ 0 = omega arith in rw e (ap (put_first r) h.out)
inner_by line.TableEnd (suc d) r rs h = let e : suc (suc d) - 1 ≡ suc d = omega arith in rw e (ap (put_first r) (h.inside d))
inner_by line.Caption d r rs h = ap (put_first r) (h.inside d)
inner_by line.Row d r rs h = ap (put_first r) (h.inside d)
inner_by line.Cell d r rs h = ap (put_first r) (h.inside d)
inner_by line.Header d r rs h = ap (put_first r) (h.inside d)
inner_by line.Heading d r rs h = ap (put_first r) (h.inside d)
inner_by line.Rule d r rs h = ap (put_first r) (h.inside d)
inner_by line.List d r rs h = ap (put_first r) (h.inside d)
inner_by line.Pre d r rs h = ap (put_first r) (h.inside d)
inner_by line.Text d r rs h = ap (put_first r) (h.inside d)

same_units : (rs : List Row) → SameUnits rs
same_units [] = record { out = refl; inside = λ d. refl }
same_units (r ∷ rs) = record {
  out = ap (λ us. [] ∷ put_first r us) (outer_by r.kind rs (same_units rs));
  inside = λ d. inner_by r.kind d r rs (same_units rs);
}

put_over : (r : Row) (us zs : List (List Row)) → 0 < length us → put_first r (us ++ zs) ≡ put_first r us ++ zs
put_over r [] zs s = absurd (omega arith)
put_over r (u ∷ us) zs s = refl

put_some : (r : Row) (us : List (List Row)) → 0 < length (put_first r us)
put_some r [] = omega arith
put_some r (u ∷ us) = omega arith

units_some : (n : ℕ) (rs : List Row) → 0 < length (units_at n rs)
units_some n [] = omega arith
units_some zero (r ∷ rs) = omega arith
units_some (suc n) (r ∷ rs) = put_some r (units_at (behind (suc n) r.kind) rs)

begun : (ys : List Row) → units_at 0 ys ≡ [] ∷ drop 1 (units_at 0 ys)
begun [] = refl
begun (y ∷ ys) = refl

units_split : (n : ℕ) (xs ys : List Row) → open_behind n xs ≡ 0 → units_at n (xs ++ ys) ≡ units_at n xs ++ drop 1 (units_at 0 ys)
units_split n [] ys e = ap (λ m. units_at m ys) e ∙ begun ys
units_split zero (r ∷ rs) ys e =
    let us = units_at (behind zero r.kind) rs in
    ap (λ vs. [] ∷ put_first r vs) (units_split (behind zero r.kind) rs ys e)
    ∙ ap (λ vs. [] ∷ vs) (put_over r us (drop 1 (units_at 0 ys)) (units_some (behind zero r.kind) rs))
units_split (suc n) (r ∷ rs) ys e =
    let us = units_at (behind (suc n) r.kind) rs in
    ap (put_first r) (units_split (behind (suc n) r.kind) rs ys e)
    ∙ put_over r us (drop 1 (units_at 0 ys)) (units_some (behind (suc n) r.kind) rs)

drop_first : (us zs : List (List Row)) → 0 < length us → drop 1 (us ++ zs) ≡ drop 1 us ++ zs
drop_first [] zs s = absurd (omega arith)
drop_first (u ∷ us) zs s = refl

units_cut : (xs ys : List Row) → open_behind 0 xs ≡ 0 → units kind_of (xs ++ ys) ≡ units kind_of xs ++ units kind_of ys
units_cut xs ys e =
    ap (drop 1) ((same_units (xs ++ ys)).out ∙ units_split 0 xs ys e)
    ∙ drop_first (units_at 0 xs) (drop 1 (units_at 0 ys)) (units_some 0 xs)
    ∙ ap (λ us. drop 1 us ++ drop 1 (units_at 0 ys)) (sym (same_units xs).out)
    ∙ ap (λ us. units kind_of xs ++ drop 1 us) (sym (same_units ys).out)

-- ---- blocks: no block goes over a blank line

blank_alone : (k : LineKind) → one_block k line.Blank ≡ false
blank_alone line.Blank = refl
blank_alone line.TableOpen = refl
blank_alone line.TableEnd = refl
blank_alone line.Caption = refl
blank_alone line.Row = refl
blank_alone line.Cell = refl
blank_alone line.Header = refl
blank_alone line.Heading = refl
blank_alone line.Rule = refl
blank_alone line.List = refl
blank_alone line.Pre = refl
blank_alone line.Text = refl

-- the row of an empty line
abbrev pub empty_row : Item → Row
empty_row b = record { kind = line.Blank; lead = []; items = b ∷ []; ending = [] }

blocks_cut : (read : Reading) (b : Item) (xs ys : List Row) → open_behind 0 xs ≡ 0
    → blocks_by read (xs ++ empty_row b ∷ ys) ≡ blocks_by read xs ++ gap (b ∷ []) ∷ blocks_by read ys
blocks_cut read b xs ys e =
    let own = empty_row b ∷ [] in
    let us = units kind_of xs in
    let vs = units kind_of ys in
    ap (λ ws. flat_map (run_stretches read) (runs same_block ws))
    (units_cut xs (empty_row b ∷ ys) e ∙ ap (λ ws. us ++ ws) (unit_one (empty_row b) ys refl))
    ∙ ap (flat_map (run_stretches read)) (runs_alone same_block own us vs (λ u. blank_alone (unit_kind kind_of u)) (λ v. refl))
    ∙ flat_map-append (run_stretches read) (runs same_block us) ((own ∷ []) ∷ runs same_block vs)

pub parts_cut : (b : Item) (xs ys : List Row) → open_behind 0 xs ≡ 0
    → body_parts (xs ++ empty_row b ∷ ys) ≡ body_parts xs ++ (parts Sep (b ∷ []) ++ body_parts ys)
unfolding blocks
parts_cut b xs ys e =
    ap stretches_parts (blocks_cut (within 15) b xs ys e)
    ∙ flat_map-append Rattle.wt_page.specs.Stretches.stretch_parts (blocks xs) (gap (b ∷ []) ∷ blocks ys)

no_rows : body_parts [] ≡ []
unfolding blocks
no_rows = refl

parts_first : (b : Item) (ys : List Row) → body_parts (empty_row b ∷ ys) ≡ parts Sep (b ∷ []) ++ body_parts ys
parts_first b ys = parts_cut b [] ys refl ∙ ap (λ ps. ps ++ (parts Sep (b ∷ []) ++ body_parts ys)) no_rows

-- ---- empty lines

lone_line : (b : Item) (ys : List Item) → is_break_item b ≡ true → IsRun goes_on (b ∷ []) ys
lone_line b [] e = tt
lone_line b (y ∷ ys) e = rw e refl

empty_kind : (b : Item) → is_break_item b ≡ true → kind_at 0 (b ∷ []) ≡ line.Blank
unfolding kind_of_signs
empty_kind b e = rw e refl

pub empty_first : (b : Item) (ys : List Item) → is_break_item b ≡ true → rows (b ∷ ys) ≡ empty_row b ∷ rows ys
unfolding rows
empty_first b ys e =
    let k = empty_kind b e in
    ap (rows_from 0) (runs_cut goes_on (b ∷ []) ys (lone_line b ys e))
    ∙ ap (λ j. line_rows j (b ∷ []) ++ rows_from (behind 0 j) (full_lines ys)) k

-- rows of a portion before an empty line, or at the end
parts_before : (xs : List Row) (ys : List Item) → open_behind 0 xs ≡ 0 → begins_break ys ≡ true
    → body_parts (xs ++ rows ys) ≡ body_parts xs ++ body_parts (rows ys)
parts_before xs [] e h = absurd cc
parts_before xs (b ∷ ys) e h =
    ap (λ rs. body_parts (xs ++ rs)) (empty_first b ys h)
    ∙ parts_cut b xs (rows ys) e
    ∙ ap (λ ps. body_parts xs ++ ps) (sym (parts_first b (rows ys)))
    ∙ ap (λ rs. body_parts xs ++ body_parts rs) (sym (empty_first b ys h))

pub no_parts : body_parts (rows []) ≡ []
unfolding rows blocks
no_parts = refl

pub breaks_first : (bs ys : List Item) → AreBreaks bs → body_parts (rows (bs ++ ys)) ≡ parts Sep bs ++ body_parts (rows ys)
breaks_first [] ys h = refl
breaks_first (b ∷ bs) ys h =
    ap body_parts (empty_first b (bs ++ ys) h.0)
    ∙ parts_first b (rows (bs ++ ys))
    ∙ ap (λ ps. parts Sep (b ∷ []) ++ ps) (breaks_first bs ys h.1)

-- ---- the rows of a portion

pub open_append : (n : ℕ) (xs ys : List Row) → open_behind n (xs ++ ys) ≡ open_behind (open_behind n xs) ys
open_append n [] ys = refl
open_append n (r ∷ rs) ys = open_append (behind n r.kind) rs ys

signs_open : (n lead len : ℕ) (k : LineKind) (l : List Item) (v : Bool) → is_unseen (behind_sign lead len l) ≡ v
    → open_behind n (sign_rows k lead len l) ≡ behind n k
signs_open n lead len k l true e = rw e refl
signs_open n lead len k l false e = rw e refl

line_open : (n : ℕ) (k : LineKind) (l : List Item) → open_behind n (line_rows k l) ≡ behind n k
line_open n line.Blank l = refl
line_open n line.TableOpen l = refl
line_open n line.TableEnd l = signs_open n (idle_len l) 2 line.TableEnd l (is_unseen (behind_sign (idle_len l) 2 l)) refl
line_open n line.Caption l = refl
line_open n line.Row l = refl
line_open n line.Cell l = refl
line_open n line.Header l = refl
line_open n line.Heading l = refl
line_open n line.Rule l =
    let m = marks_len l in signs_open n m (dashes (drop m l)) line.Rule l (is_unseen (behind_sign m (dashes (drop m l)) l)) refl
line_open n line.List l = refl
line_open n line.Pre l = refl
line_open n line.Text l = refl

pub count_step : (made news : List Row) (tables after : ℕ) (k : LineKind) (l : List Item) → news ≡ made ++ line_rows k l → open_behind 0 made ≡ tables
    → after ≡ behind tables k → open_behind 0 news ≡ after
count_step made news tables after k l en et ea =
    ap (open_behind 0) en ∙ open_append 0 made (line_rows k l) ∙ ap (λ n. open_behind n (line_rows k l)) et ∙ line_open tables k l ∙ sym ea

first_by : (made final all : List Row) (tables : ℕ) (left : List Piece) → final ≡ made ++ replicate tables unwritten_end → open_behind 0 made ≡ tables
    → IsRowsSoFar made tables left all → (left ≡ []) ⊎ ((tables ≡ 0) × (begins_break (items left) ≡ true))
    → body_parts all ≡ body_parts final ++ body_parts (rows (items left))
unfolding rows
first_by made final all tables left ef et so_far (inl e) =
    let whole : final ≡ all = ef ∙ ap (λ ps. made ++ rows_from tables (full_lines (items ps))) (sym e) ∙ so_far in
    sym (ap body_parts whole) ∙ sym (append-nil (body_parts final))
    ∙ ap (λ ps. body_parts final ++ ps) (sym no_parts)
    ∙ ap (λ ps. body_parts final ++ body_parts (rows (items ps))) (sym e)
first_by made final all tables left ef et so_far (inr h) =
    let whole : made ++ rows (items left) ≡ all = ap (λ n. made ++ rows_from n (full_lines (items left))) (sym h.0) ∙ so_far in
    let same : final ≡ made = ef ∙ ap (λ n. made ++ replicate n unwritten_end) h.0 ∙ append-nil made in
    sym (ap body_parts whole) ∙ parts_before made (items left) (et ∙ h.0) h.1
    ∙ ap (λ rs. body_parts rs ++ body_parts (rows (items left))) (sym same)

pub portion_first : (made final : List Row) (tables : ℕ) (xs : List Item) (left : List Piece) → final ≡ made ++ replicate tables unwritten_end
    → open_behind 0 made ≡ tables → IsRowsSoFar made tables left (rows xs) → (left ≡ []) ⊎ ((tables ≡ 0) × (begins_break (items left) ≡ true))
    → AreFirst final xs (items left)
portion_first made final tables xs left ef et so_far end = first_by made final (rows xs) tables left ef et so_far end

-- ---- steps of the code

pub portion_begins : (made : List Row) (ps : List Piece) → made ≡ [] → IsRowsSoFar made 0 ps (rows (items ps))
unfolding rows
portion_begins made ps e = ap (λ rs. rs ++ rows_from 0 (full_lines (items ps))) e
