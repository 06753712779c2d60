-- Rows and the tables that open and end among them: units, each a row or all rows of a table.
use Rattle.std.proofs.Common.{◌≡◌, ℕ, zero, suc, ◌+◌, ◌-◌, ◌<◌, ◌≤◌, Bool, true, false, List, [], ◌∷◌, ◌++◌, length, map, drop, replicate, refl, sym, ap, ap₂, ◌∙◌, subst, arith, append_assoc, length-append}
use Rattle.std.specs.Prelude.{if◌then◌else◌}
use Rattle.std.specs.List.{AllByRecursion}
use Rattle.wt_span.specs.Items.{Item}
use Rattle.wt_lines.specs.declared.kind.LineKind.{LineKind}
use Rattle.wt_lines.specs.declared.kind.LineKind.TheVariants as line
use Rattle.wt_lines.specs.Lines.{content, full_lines}
use Rattle.wt_tables.specs.Extents.{is_open, is_end, behind, inner_len}
use Rattle.wt_tables.specs.Parts.{joined, taken_len, put_first, units_from, units}
use Rattle.wt_tables.proofs.Ends.{after_line, depth_len, inner_is}
use Rattle.wt_tables.proofs.Opens.{open_few, end_inside}
use Rattle.wt_page.specs.Lines.{kind_at}
use Rattle.wt_page.specs.Rows.{Row, kind_of, whole_row, sign_row, behind_sign, is_unseen, marks_len, idle_len, dashes, line_rows, unwritten_end, rows_from, rows}

-- ---- rows in which tables open and end

abbrev pub WalkBy : Bool → Bool → ℕ → ℕ → (ℕ → Type 0) → Type 0
WalkBy true e n d go = (d < n) × go (suc d)
WalkBy false true n d go = (0 < d) × go (d - 1)
WalkBy false false n d go = go d

-- so many tables are open at the first row and none behind the last, and never more than n
abbrev pub Walk : ℕ → ℕ → List Row → Type 0
Walk n d [] = d ≡ 0
Walk n d (r ∷ rs) = WalkBy (is_open r.kind) (is_end r.kind) n d (λ e. Walk n e rs)

walk_on : (n d : ℕ) (r : Row) (rs : List Row) (o e : Bool) → is_open r.kind ≡ o → is_end r.kind ≡ e → WalkBy o e n d (λ x. Walk n x rs) → Walk n d (r ∷ rs)
walk_on n d r rs o e f g w =
    subst (λ x. WalkBy x (is_end r.kind) n d (λ y. Walk n y rs)) (sym f) (subst (λ x. WalkBy o x n d (λ y. Walk n y rs)) (sym g) w)

-- ---- the end of a table

abbrev end_step : ℕ → (ℕ → ℕ) → ℕ
end_step zero go = 1
end_step (suc d) go = suc (go d)

abbrev step_by : Bool → Bool → ℕ → (ℕ → ℕ) → ℕ
step_by true e d go = suc (go (suc d))
step_by false true d go = end_step d go
step_by false false d go = suc (go d)

step_is : (k : LineKind) (d : ℕ) (go : ℕ → ℕ) → after_line k d go ≡ step_by (is_open k) (is_end k) d go
step_is line.Blank d go = refl
step_is line.TableOpen d go = refl
step_is line.TableEnd zero go = refl
step_is line.TableEnd (suc d) go = refl
step_is line.Caption d go = refl
step_is line.Row d go = refl
step_is line.Cell d go = refl
step_is line.Header d go = refl
step_is line.Heading d go = refl
step_is line.Rule d go = refl
step_is line.List d go = refl
step_is line.Pre d go = refl
step_is line.Text d go = refl

-- the rows up to the one that ends a table, at whose first `d` more are open in it
pub record IsClosed (n d : ℕ) (rs : List Row) : Type 0 where
  pub inside : List Row
  pub last : Row
  pub rest : List Row
  pub are : rs ≡ inside ++ last ∷ rest
  pub len : depth_len (map kind_of rs) d ≡ suc (length inside)
  pub ends : is_end last.kind ≡ true
  pub within : Walk n d inside
  pub behind : Walk (suc n) 0 rest

close_by : (r : Row) (rs : List Row) (n d : ℕ) (o e : Bool) → is_open r.kind ≡ o → is_end r.kind ≡ e → WalkBy o e (suc n) (suc d) (λ x. Walk (suc n) x rs)
    → ((m c : ℕ) → Walk (suc m) (suc c) rs → IsClosed m c rs) → IsClosed n d (r ∷ rs)
close_by r rs n d true e f g w more =
    let c : IsClosed n (suc d) rs = more n (suc d) w.1 in
    let small : d < n = omega (arith, w.0) in
    record {
      inside = r ∷ c.inside;
      last = c.last;
      rest = c.rest;
      are = ap (λ xs. r ∷ xs) c.are;
      len = step_is r.kind d (depth_len (map kind_of rs)) ∙ ap₂ (λ x y. step_by x y d (depth_len (map kind_of rs))) f g ∙ ap suc c.len;
      ends = c.ends;
      within = walk_on n d r c.inside true e f g (small, c.within);
      behind = c.behind;
    }
close_by r rs n zero false true f g w more =
    let z : suc 0 - 1 ≡ 0 = omega arith in
    record {
      inside = [];
      last = r;
      rest = rs;
      are = refl;
      len = step_is r.kind 0 (depth_len (map kind_of rs)) ∙ ap₂ (λ x y. step_by x y 0 (depth_len (map kind_of rs))) f g;
      ends = g;
      within = refl;
      behind = subst (λ x. Walk (suc n) x rs) z w.1;
    }
close_by r rs n (suc d) false true f g w more =
    let z : suc (suc d) - 1 ≡ suc d = omega arith in
    let y : suc d - 1 ≡ d = omega arith in
    let c : IsClosed n d rs = more n d (subst (λ x. Walk (suc n) x rs) z w.1) in
    record {
      inside = r ∷ c.inside;
      last = c.last;
      rest = c.rest;
      are = ap (λ xs. r ∷ xs) c.are;
      len = step_is r.kind (suc d) (depth_len (map kind_of rs)) ∙ ap₂ (λ x y. step_by x y (suc d) (depth_len (map kind_of rs))) f g ∙ ap suc c.len;
      ends = c.ends;
      within = walk_on n (suc d) r c.inside false true f g (omega arith, subst (λ x. Walk n x c.inside) (sym y) c.within);
      behind = c.behind;
    }
close_by r rs n d false false f g w more =
    let c : IsClosed n d rs = more n d w in
    record {
      inside = r ∷ c.inside;
      last = c.last;
      rest = c.rest;
      are = ap (λ xs. r ∷ xs) c.are;
      len = step_is r.kind d (depth_len (map kind_of rs)) ∙ ap₂ (λ x y. step_by x y d (depth_len (map kind_of rs))) f g ∙ ap suc c.len;
      ends = c.ends;
      within = walk_on n d r c.inside false false f g c.within;
      behind = c.behind;
    }

close : (rs : List Row) (n d : ℕ) → Walk (suc n) (suc d) rs → IsClosed n d rs
close [] n d w = absurd (omega (arith, w))
close (r ∷ rs) n d w =
    close_by r rs n d (is_open r.kind) (is_end r.kind) refl refl w (λ m c v. close rs m c v)

-- ---- units

abbrev onto_front : List Row → List (List Row) → List (List Row)
onto_front [] us = us
onto_front (r ∷ rs) us = put_first r (onto_front rs us)

take_units : (pre rest : List Row) → units_from kind_of (length pre) (pre ++ rest) ≡ onto_front pre (units_from kind_of 0 rest)
take_units [] rest = refl
take_units (r ∷ pre) rest = ap (put_first r) (take_units pre rest)

from_zero : (rest : List Row) → units_from kind_of 0 rest ≡ [] ∷ units kind_of rest
from_zero [] = refl
from_zero (r ∷ rest) = refl

onto_none : (pre : List Row) (us : List (List Row)) → onto_front pre ([] ∷ us) ≡ pre ∷ us
onto_none [] us = refl
onto_none (r ∷ pre) us = ap (put_first r) (onto_none pre us)

units_next : (r : Row) (pre rest : List Row) → taken_len r.kind (inner_len (map kind_of (pre ++ rest))) ≡ length pre
    → units kind_of (r ∷ (pre ++ rest)) ≡ (r ∷ pre) ∷ units kind_of rest
units_next r pre rest e =
    ap (λ n. put_first r (units_from kind_of n (pre ++ rest))) e
    ∙ ap (put_first r) (take_units pre rest ∙ ap (onto_front pre) (from_zero rest) ∙ onto_none pre (units kind_of rest))

taken_open : (k : LineKind) (i : ℕ) → is_open k ≡ true → taken_len k i ≡ i
taken_open line.TableOpen i e = refl
taken_open k i e = absurd cc

taken_other : (k : LineKind) (i : ℕ) → is_open k ≡ false → taken_len k i ≡ 0
taken_other line.TableOpen i e = absurd cc
taken_other k i e = refl

-- the rows of a table behind the one that opens it
pub record IsTable (n : ℕ) (ms : List Row) : Type 0 where
  pub inside : List Row
  pub last : Row
  pub are : ms ≡ inside ++ (last ∷ [])
  pub ends : is_end last.kind ≡ true
  pub within : Walk n 0 inside

abbrev pub UnitBy : Bool → Bool → ℕ → List Row → Type 0
UnitBy true e zero ms = ⊥
UnitBy true e (suc n) ms = IsTable n ms
UnitBy false true n ms = ⊥
UnitBy false false n ms = ms ≡ []

-- a row that neither opens nor ends a table, or a table in which so few stand one in another
abbrev pub IsUnit : ℕ → List Row → Type 0
IsUnit n [] = ⊥
IsUnit n (r ∷ ms) = UnitBy (is_open r.kind) (is_end r.kind) n ms

unit_on : (n : ℕ) (r : Row) (ms : List Row) (o e : Bool) → is_open r.kind ≡ o → is_end r.kind ≡ e → UnitBy o e n ms → IsUnit n (r ∷ ms)
unit_on n r ms o e f g u = subst (λ x. UnitBy x (is_end r.kind) n ms) (sym f) (subst (λ x. UnitBy o x n ms) (sym g) u)

unit_by : (r : Row) (rs : List Row) (n : ℕ) (o e : Bool) → is_open r.kind ≡ o → is_end r.kind ≡ e → WalkBy o e n 0 (λ x. Walk n x rs)
    → ((ss : List Row) → length ss ≤ length rs → Walk n 0 ss → AllByRecursion (IsUnit n) (units kind_of ss))
    → AllByRecursion (IsUnit n) (units kind_of (r ∷ rs))
unit_by r rs zero true e f g w more = absurd (let h = w.0 in omega (arith, h))
unit_by r rs (suc n) true e f g w more =
    let c : IsClosed n 0 rs = close rs n 0 w.1 in
    let pre : List Row = c.inside ++ (c.last ∷ []) in
    let all : rs ≡ pre ++ c.rest = c.are ∙ sym (append_assoc c.inside (c.last ∷ []) c.rest) in
    let wide : length pre ≡ length c.inside + 1 = length-append c.inside (c.last ∷ []) in
    let len : taken_len r.kind (inner_len (map kind_of (pre ++ c.rest))) ≡ length pre =
    ap (λ (ss : List Row). taken_len r.kind (inner_len (map kind_of ss))) (sym all) ∙ taken_open r.kind (inner_len (map kind_of rs)) f
    ∙ inner_is (map kind_of rs) ∙ c.len ∙ omega (arith, wide) in
    let fewer : length (pre ++ c.rest) ≡ length pre + length c.rest = length-append pre c.rest in
    let same : length rs ≡ length (pre ++ c.rest) = ap (λ (ss : List Row). length ss) all in
    subst (λ (ss : List Row). AllByRecursion (IsUnit (suc n)) (units kind_of (r ∷ ss))) (sym all)
    (subst (λ (us : List (List Row)). AllByRecursion (IsUnit (suc n)) us) (sym (units_next r pre c.rest len)) (
      unit_on (suc n) r pre true e f g (record { inside = c.inside; last = c.last; are = refl; ends = c.ends; within = c.within }),
      more c.rest (omega (arith, fewer, same)) c.behind,
    ))
unit_by r rs n false true f g w more = absurd (let h = w.0 in omega (arith, h))
unit_by r rs n false false f g w more =
    subst (λ (us : List (List Row)). AllByRecursion (IsUnit n) us) (sym (units_next r [] rs (taken_other r.kind (inner_len (map kind_of rs)) f)))
    (unit_on n r [] false false f g refl, more rs (omega arith) w)

units_within : (m : ℕ) (rs : List Row) (n : ℕ) → length rs ≤ m → Walk n 0 rs → AllByRecursion (IsUnit n) (units kind_of rs)
units_within m [] n le w = tt
units_within zero (r ∷ rs) n le w = absurd (omega (arith, le))
units_within (suc m) (r ∷ rs) n le w =
    unit_by r rs n (is_open r.kind) (is_end r.kind) refl refl w (λ ss few v. units_within m ss n (omega (arith, le, few)) v)

pub units_good : (rs : List Row) (n : ℕ) → Walk n 0 rs → AllByRecursion (IsUnit n) (units kind_of rs)
units_good rs n w = units_within (length rs) rs n (omega arith) w

-- ---- rows of units

end_no_open : (k : LineKind) → is_end k ≡ true → is_open k ≡ false
end_no_open line.TableEnd e = refl
end_no_open k e = absurd cc

lift_by : (r : Row) (xs : List Row) (n d : ℕ) (last : Row) (rest : List Row) (o e : Bool) → is_open r.kind ≡ o → is_end r.kind ≡ e
    → WalkBy o e n d (λ x. Walk n x xs) → ((c : ℕ) → Walk n c xs → Walk (suc n) (suc c) (xs ++ last ∷ rest))
    → Walk (suc n) (suc d) (r ∷ (xs ++ last ∷ rest))
lift_by r xs n d last rest true e f g w more =
    let small : suc d < suc n = omega (arith, w.0) in
    walk_on (suc n) (suc d) r (xs ++ last ∷ rest) true e f g (small, more (suc d) w.1)
lift_by r xs n zero last rest false true f g w more = absurd (let h = w.0 in omega (arith, h))
lift_by r xs n (suc d) last rest false true f g w more =
    let y : suc d - 1 ≡ d = omega arith in
    let z : suc (suc d) - 1 ≡ suc d = omega arith in
    walk_on (suc n) (suc (suc d)) r (xs ++ last ∷ rest) false true f g
    (omega arith, subst (λ x. Walk (suc n) x (xs ++ last ∷ rest)) (sym z) (more d (subst (λ x. Walk n x xs) y w.1)))
lift_by r xs n d last rest false false f g w more = walk_on (suc n) (suc d) r (xs ++ last ∷ rest) false false f g (more d w)

lift : (inside : List Row) (n d : ℕ) (last : Row) (rest : List Row) → is_end last.kind ≡ true → Walk n d inside → Walk (suc n) 0 rest
    → Walk (suc n) (suc d) (inside ++ last ∷ rest)
lift [] n d last rest e w v =
    let z : 0 ≡ suc d - 1 = omega (arith, w) in
    walk_on (suc n) (suc d) last rest false true (end_no_open last.kind e) e (omega arith, subst (λ x. Walk (suc n) x rest) z v)
lift (r ∷ xs) n d last rest e w v =
    lift_by r xs n d last rest (is_open r.kind) (is_end r.kind) refl refl w (λ c u. lift xs n c last rest e u v)

walk_unit : (n : ℕ) (r : Row) (ms rest : List Row) (o e : Bool) → is_open r.kind ≡ o → is_end r.kind ≡ e → UnitBy o e n ms → Walk n 0 rest
    → Walk n 0 ((r ∷ ms) ++ rest)
walk_unit zero r ms rest true e f g u w = absurd u
walk_unit (suc n) r ms rest true e f g u w =
    let inner : Walk (suc n) 1 (u.inside ++ u.last ∷ rest) = lift u.inside n 0 u.last rest u.ends u.within w in
    let all : ms ++ rest ≡ u.inside ++ u.last ∷ rest = ap (λ (xs : List Row). xs ++ rest) u.are ∙ append_assoc u.inside (u.last ∷ []) rest in
    walk_on (suc n) 0 r (ms ++ rest) true e f g (omega arith, subst (Walk (suc n) 1) (sym all) inner)
walk_unit n r ms rest false true f g u w = absurd u
walk_unit n r ms rest false false f g u w = subst (λ (xs : List Row). Walk n 0 ((r ∷ xs) ++ rest)) (sym u) (walk_on n 0 r rest false false f g w)

pub walk_units : (n : ℕ) (us : List (List Row)) → AllByRecursion (IsUnit n) us → Walk n 0 (joined us)
walk_units n [] a = refl
walk_units n ([] ∷ us) a = absurd a.0
walk_units n ((r ∷ ms) ∷ us) a = walk_unit n r ms (joined us) (is_open r.kind) (is_end r.kind) refl refl a.0 (walk_units n us a.1)

-- ---- the rows of a page

ends_walk : (n : ℕ) → Walk 16 n (replicate n unwritten_end)
ends_walk zero = refl
ends_walk (suc n) = let z : n ≡ suc n - 1 = omega arith in (omega arith, subst (λ x. Walk 16 x (replicate n unwritten_end)) z (ends_walk n))

line_walk : (tables : ℕ) (l : List Item) (rest : List Row) (k : LineKind) → kind_at tables l ≡ k → Walk 16 (behind tables k) rest
    → Walk 16 tables (line_rows k l ++ rest)
line_walk tables l rest line.Blank e w = w
line_walk tables l rest line.TableOpen e w = (open_few tables (content l) e, w)
line_walk tables l rest line.TableEnd e w = by_test (is_unseen (behind_sign (idle_len l) 2 l))
  where
    n : ℕ
    n = idle_len l

    by_test : (t : Bool) → Walk 16 tables ((if t then sign_row line.TableEnd n 2 l (behind_sign n 2 l) ∷ []
        else sign_row line.TableEnd n 2 l [] ∷ whole_row line.Text (marks_len (behind_sign n 2 l)) (behind_sign n 2 l) ∷ []) ++ rest)
    by_test true = (end_inside tables (content l) e, w)
    by_test false = (end_inside tables (content l) e, w)
line_walk tables l rest line.Caption e w = w
line_walk tables l rest line.Row e w = w
line_walk tables l rest line.Cell e w = w
line_walk tables l rest line.Header e w = w
line_walk tables l rest line.Heading e w = w
line_walk tables l rest line.Rule e w = by_test (is_unseen (behind_sign n m l))
  where
    n : ℕ
    n = marks_len l

    m : ℕ
    m = dashes (drop n l)

    by_test : (t : Bool) → Walk 16 tables ((if t then sign_row line.Rule n m l (behind_sign n m l) ∷ []
        else sign_row line.Rule n m l [] ∷ whole_row line.Text (marks_len (behind_sign n m l)) (behind_sign n m l) ∷ []) ++ rest)
    by_test true = w
    by_test false = w
line_walk tables l rest line.List e w = w
line_walk tables l rest line.Pre e w = w
line_walk tables l rest line.Text e w = w

from_walk : (tables : ℕ) (ls : List (List Item)) → Walk 16 tables (rows_from tables ls)
from_walk tables [] = ends_walk tables
from_walk tables (l ∷ ls) =
    let k : LineKind = kind_at tables l in
    line_walk tables l (rows_from (behind tables k) ls) k refl (from_walk (behind tables k) ls)

pub page_walk : (xs : List Item) → Walk 16 0 (rows xs)
unfolding rows
page_walk xs = from_walk 0 (full_lines xs)
