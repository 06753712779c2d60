-- Rows are cut into units by counts, and in no other way.
use Rattle.std.proofs.Common.{◌≡◌, ◌<◌, ◌≤◌, ℕ, zero, suc, ◌-◌, Bool, true, false, List, [], ◌∷◌, ◌++◌, length, drop, replicate, refl, sym, ap, ◌∙◌, subst, cond, inl, inr, arith, length-append}
use Rattle.std.specs.Prelude.{map}
use Rattle.std.specs.List.{AllByRecursion}
use Rattle.wt_span.specs.Items.{Item}
use Rattle.wt_lines.specs.declared.kind.LineKind.{LineKind}
use Rattle.wt_lines.specs.declared.kind.LineKind.TheVariants as line
use Rattle.wt_lines.specs.Lines.{content}
use Rattle.wt_tables.specs.Extents.{behind, inner_len, is_open}
use Rattle.wt_tables.specs.Parts.{joined, taken_len, put_first, units_from, units}
use Rattle.wt_tables.proofs.Ends.{inner_is}
use Rattle.wt_tables.proofs.Opens.{end_inside}
use Rattle.wt_page.specs.Lines.{kind_at}
use Rattle.wt_page.specs.Rows.{Row, kind_of, idle_len, marks_len, dashes, behind_sign, is_unseen, sign_row, whole_row, line_rows, unwritten_end, rows_from}
use Rattle.wt_page.proofs.HeldBody.{units_joined}
use Rattle.wt_part_laws.specs.Units.{IsUnit, AreUnits, HoldsUnits, Level}
use Rattle.wt_part_laws.proofs.Falling.{IsOther, sort, Falls, falls_open, falls_end, falls_other, falls_len, IsPart, part_is_unit, unit_is_part}

-- ---- the first unit

taken_units : (front back : List Row) → units_from kind_of (length front) (front ++ back) ≡ front ∷ units kind_of back
taken_units [] [] = refl
taken_units [] (r ∷ rs) = refl
taken_units (f ∷ fs) back = ap (put_first f) (taken_units fs back)

pub first_unit : (u others : List Row) → IsPart u → units kind_of (u ++ others) ≡ u ∷ units kind_of others
first_unit [] others h = absurd h
first_unit (r ∷ rs) others (inl (e, f)) =
    let ks = map kind_of (rs ++ others) in
    let n : taken_len r.kind (inner_len ks) ≡ length rs =
    ap (λ (k : LineKind). taken_len k (inner_len ks)) e ∙ inner_is ks ∙ falls_len 0 rs others f in
    ap (λ (m : ℕ). put_first r (units_from kind_of m (rs ++ others))) n ∙ ap (put_first r) (taken_units rs others)
first_unit (r ∷ rs) others (inr (t, z)) =
    let ks = map kind_of (rs ++ others) in
    let n : taken_len r.kind (inner_len ks) ≡ length rs = t.alone (inner_len ks) ∙ ap length (sym z) in
    ap (λ (m : ℕ). put_first r (units_from kind_of m (rs ++ others))) n ∙ ap (put_first r) (taken_units rs others)

each_only : (us : List (List Row)) → AllByRecursion IsUnit us → us ≡ units kind_of (joined us)
each_only [] h = refl
each_only (u ∷ us) (h, hs) = ap (λ (vs : List (List Row)). u ∷ vs) (each_only us hs) ∙ sym (first_unit u (joined us) (unit_is_part u h))

pub units_only : (us : List (List Row)) (rs : List Row) → AreUnits us rs → us ≡ units kind_of rs
units_only us rs h = each_only us h.each ∙ ap (units kind_of) h.join

-- ---- level rows

pub level_rest : (d : ℕ) (r : Row) (rs : List Row) → Level d (r ∷ rs) → Level (behind d r.kind) rs
level_rest zero r rs h = h.1
level_rest (suc d) r rs h = h.1

pub level_ends : (d : ℕ) (r : Row) (rs : List Row) → Level d (r ∷ rs) → r.kind ≡ line.TableEnd → 0 < d
level_ends zero r rs h e = h.0 e
level_ends (suc d) r rs h e = h.0 e

pub level_put : (d : ℕ) (r : Row) (rs : List Row) → (r.kind ≡ line.TableEnd → 0 < d) → Level (behind d r.kind) rs → Level d (r ∷ rs)
level_put zero r rs e h = (e, h)
level_put (suc d) r rs e h = (e, h)

pub level_open : (d : ℕ) (r : Row) (rs : List Row) → r.kind ≡ line.TableOpen → Level d (r ∷ rs) → Level (suc d) rs
level_open d r rs e h = subst (λ (n : ℕ). Level n rs) (ap (behind d) e) (level_rest d r rs h)

pub level_end : (d : ℕ) (r : Row) (rs : List Row) → r.kind ≡ line.TableEnd → Level (suc d) (r ∷ rs) → Level d rs
level_end d r rs e h =
    let n : suc d - 1 ≡ d = omega arith in subst (λ (m : ℕ). Level m rs) (ap (behind (suc d)) e ∙ n) (level_rest (suc d) r rs h)

pub level_other : (d : ℕ) (r : Row) (rs : List Row) → IsOther r.kind → Level d (r ∷ rs) → Level d rs
level_other d r rs o h = subst (λ (n : ℕ). Level n rs) (o.stays d) (level_rest d r rs h)

-- ---- level rows are cut where no table is open

pub record Cut (d : ℕ) (rs : List Row) : Type 0 where
  pub front : List Row
  pub back : List Row
  pub is : rs ≡ front ++ back
  pub falls : Falls d front
  pub level : Level 0 back

put_cut : (d e : ℕ) (r : Row) (rs : List Row) → behind (suc d) r.kind ≡ e → Cut e rs → Cut (suc d) (r ∷ rs)
put_cut d e r rs z c = record {
  front = r ∷ c.front;
  back = c.back;
  is = ap (λ (ss : List Row). r ∷ ss) c.is;
  falls = subst (λ (n : ℕ). Falls n c.front) (sym z) c.falls;
  level = c.level;
}

cut_rest : (d : ℕ) (rs : List Row) → ((e : ℕ) → d ≡ suc e → Cut d rs) → Level d rs → Cut d rs
cut_rest zero rs go h = record { front = []; back = rs; is = refl; falls = tt; level = h }
cut_rest (suc d) rs go h = go d refl

pub cut : (d : ℕ) (rs : List Row) → Level (suc d) rs → Cut (suc d) rs
cut d [] h = absurd h
cut d (r ∷ rs) h =
    elim (sort r.kind) [
      | inl e ↦ put_cut d (suc (suc d)) r rs (ap (behind (suc d)) e) (cut (suc d) rs (level_open (suc d) r rs e h))
      | inr (inl e) ↦ let n : suc d - 1 ≡ d = omega arith in
          let below = level_end d r rs e h in
          put_cut d d r rs (ap (behind (suc d)) e ∙ n)
          (cut_rest d rs (λ m z. subst (λ (x : ℕ). Cut x rs) (sym z) (cut m rs (subst (λ (x : ℕ). Level x rs) z below))) below)
      | inr (inr o) ↦ put_cut d (suc d) r rs (o.stays (suc d)) (cut d rs (level_other (suc d) r rs o h))
    ]

-- ---- level rows are units

abbrev All : List (List Row) → Type 0
All us = AllByRecursion IsUnit us

pub units_level : (m : ℕ) (rs : List Row) → length rs ≤ m → Level 0 rs → All (units kind_of rs)
units_level m [] l h = tt
units_level zero (r ∷ rs) l h = absurd (omega (arith, l))
units_level (suc m) (r ∷ rs) l h =
    elim (sort r.kind) [
      | inl e ↦ let c = cut 0 rs (level_open 0 r rs e h) in
          let whole : units kind_of (r ∷ rs) ≡ (r ∷ c.front) ∷ units kind_of c.back =
          ap (λ (ss : List Row). units kind_of (r ∷ ss)) c.is ∙ first_unit (r ∷ c.front) c.back (inl (e, c.falls)) in
          subst All (sym whole) (
            part_is_unit (r ∷ c.front) (inl (e, c.falls)),
            units_level m c.back (omega (arith, l, ap length c.is, length-append c.front c.back)) c.level,
          )
      | inr (inl e) ↦ let no : 0 < 0 = level_ends 0 r rs h e in absurd (omega (arith, no))
      | inr (inr o) ↦ subst All (sym (first_unit (r ∷ []) rs (inr (o, refl))))
          (part_is_unit (r ∷ []) (inr (o, refl)), units_level m rs (omega (arith, l)) (level_other 0 r rs o h))
    ]

-- ---- rows of lines are level

signs_level : (unseen : Bool) (n : ℕ) (k : LineKind) (r s t : Row) (rs : List Row) → r.kind ≡ k → s.kind ≡ k → t.kind ≡ line.Text
    → (k ≡ line.TableEnd → 0 < n) → Level (behind n k) rs → Level n (cond unseen (r ∷ []) (s ∷ t ∷ []) ++ rs)
signs_level true n k r s t rs a b c h g = level_put n r rs (λ e. h (sym a ∙ e)) (subst (λ (x : LineKind). Level (behind n x) rs) (sym a) g)
signs_level false n k r s t rs a b c h g =
    level_put n s (t ∷ rs) (λ e. h (sym b ∙ e)) (subst (λ (x : LineKind). Level (behind n x) (t ∷ rs)) (sym b)
    (level_put (behind n k) t rs (λ e. absurd (no_text (sym c ∙ e))) (subst (λ (x : LineKind). Level (behind (behind n k) x) rs) (sym c) g)))
  where
    no_text : line.Text ≡ line.TableEnd → ⊥
    no_text e = absurd cc

line_level : (k : LineKind) (n : ℕ) (l : List Item) (rs : List Row) → (k ≡ line.TableEnd → 0 < n) → Level (behind n k) rs → Level n (line_rows k l ++ rs)
line_level line.Blank n l rs h g = level_put n (record { kind = line.Blank; lead = []; items = l; ending = [] }) rs h g
line_level line.TableOpen n l rs h g = level_put n (whole_row line.TableOpen (idle_len l) l) rs h g
line_level line.TableEnd n l rs h g =
    let m = idle_len l in
    let rest = behind_sign m 2 l in
    signs_level (is_unseen rest) n line.TableEnd (sign_row line.TableEnd m 2 l rest) (sign_row line.TableEnd m 2 l [])
    (whole_row line.Text (marks_len rest) rest) rs refl refl refl h g
line_level line.Caption n l rs h g = level_put n (whole_row line.Caption (idle_len l) l) rs h g
line_level line.Row n l rs h g = level_put n (whole_row line.Row (idle_len l) l) rs h g
line_level line.Cell n l rs h g = level_put n (whole_row line.Cell (idle_len l) l) rs h g
line_level line.Header n l rs h g = level_put n (whole_row line.Header (idle_len l) l) rs h g
line_level line.Heading n l rs h g = level_put n (whole_row line.Heading (marks_len l) l) rs h g
line_level line.Rule n l rs h g =
    let m = marks_len l in
    let d = dashes (drop m l) in
    let rest = behind_sign m d l in
    signs_level (is_unseen rest) n line.Rule (sign_row line.Rule m d l rest) (sign_row line.Rule m d l [])
    (whole_row line.Text (marks_len rest) rest) rs refl refl refl h g
line_level line.List n l rs h g = level_put n (whole_row line.List (marks_len l) l) rs h g
line_level line.Pre n l rs h g = level_put n (whole_row line.Pre (marks_len l) l) rs h g
line_level line.Text n l rs h g = level_put n (whole_row line.Text (marks_len l) l) rs h g

ends_level : (n : ℕ) → Level n (replicate n unwritten_end)
ends_level zero = tt
ends_level (suc n) =
    let m : suc n - 1 ≡ n = omega arith in
    level_put (suc n) unwritten_end (replicate n unwritten_end) (λ e. omega arith) (subst (λ (x : ℕ). Level x (replicate n unwritten_end)) (sym m) (ends_level n))

pub rows_level : (n : ℕ) (ls : List (List Item)) → Level n (rows_from n ls)
rows_level n [] = ends_level n
rows_level n (l ∷ ls) =
    line_level (kind_at n l) n l (rows_from (behind n (kind_at n l)) ls) (end_inside n (content l)) (rows_level (behind n (kind_at n l)) ls)

pub level_units : (rs : List Row) → Level 0 rs → AreUnits (units kind_of rs) rs
level_units rs h = record { join = units_joined kind_of rs; each = units_level (length rs) rs (omega arith) h }

pub units_are : (ls : List (List Item)) → AreUnits (units kind_of (rows_from 0 ls)) (rows_from 0 ls)
units_are ls = level_units (rows_from 0 ls) (rows_level 0 ls)

-- ---- what stands inside a table

pub record Inside (d : ℕ) (rs : List Row) : Type 0 where
  pub inside : List Row
  pub last : Row
  pub is : rs ≡ inside ++ last ∷ []
  pub ends : last.kind ≡ line.TableEnd
  pub level : Level d inside

put_inside : (d e : ℕ) (r : Row) (rs : List Row) → (r.kind ≡ line.TableEnd → 0 < d) → behind d r.kind ≡ e → Inside e rs → Inside d (r ∷ rs)
put_inside d e r rs n z i = record {
  inside = r ∷ i.inside;
  last = i.last;
  is = ap (λ (ss : List Row). r ∷ ss) i.is;
  ends = i.ends;
  level = level_put d r i.inside n (subst (λ (x : ℕ). Level x i.inside) (sym z) i.level);
}

end_inside_by : (d : ℕ) (r : Row) (rs : List Row) → r.kind ≡ line.TableEnd → ((e : ℕ) → d ≡ suc e → Inside e rs) → Falls d rs → Inside d (r ∷ rs)
end_inside_by zero r [] e go f = record { inside = []; last = r; is = refl; ends = e; level = tt }
end_inside_by zero r (s ∷ rs) e go f = absurd f
end_inside_by (suc d) r rs e go f =
    let n : suc d - 1 ≡ d = omega arith in put_inside (suc d) d r rs (λ z. omega arith) (ap (behind (suc d)) e ∙ n) (go d refl)

open_no_end : (k : LineKind) → k ≡ line.TableOpen → k ≡ line.TableEnd → ⊥
open_no_end k e f = let z : line.TableOpen ≡ line.TableEnd = sym e ∙ f in absurd cc

pub inside_of : (d : ℕ) (rs : List Row) → Falls (suc d) rs → Inside d rs
inside_of d [] h = absurd h
inside_of d (r ∷ rs) h =
    elim (sort r.kind) [
      | inl e ↦ put_inside d (suc d) r rs (λ z. absurd (open_no_end r.kind e z)) (ap (behind d) e) (inside_of (suc d) rs (falls_open d r rs e h))
      | inr (inl e) ↦ let f = falls_end d r rs e h in
          end_inside_by d r rs e (λ m z. inside_of m rs (subst (λ (x : ℕ). Falls x rs) z f)) f
      | inr (inr o) ↦ put_inside d d r rs (λ z. absurd (o.no_end z)) (o.stays d) (inside_of d rs (falls_other d r rs o h))
    ]

table_holds : (r : Row) (rs : List Row) → r.kind ≡ line.TableOpen → IsPart (r ∷ rs) → Inside 0 rs
table_holds r rs e (inl (z, f)) = inside_of 0 rs f
table_holds r rs e (inr (o, z)) =
    let t : is_open r.kind ≡ true = ap is_open e in
    let f : is_open r.kind ≡ false = o.opens in absurd cc

pub holds_units : (r : Row) (rs : List Row) → r.kind ≡ line.TableOpen → IsUnit (r ∷ rs) → HoldsUnits rs
holds_units r rs e u =
    let i = table_holds r rs e (unit_is_part (r ∷ rs) u) in
    record { inside = i.inside; last = i.last; are_rows = i.is; ends = i.ends; are_units = level_units i.inside i.level }
