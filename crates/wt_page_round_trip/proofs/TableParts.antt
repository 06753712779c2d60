-- The table of a unit of rows is written.
use Rattle.std.proofs.Common.{◌≡◌, ℕ, zero, suc, ◌+◌, ◌*◌, ◌<◌, List, [], ◌∷◌, ◌++◌, map, take, drop, refl, sym, ap, ◌∙◌, subst}
use Rattle.std.specs.Prelude.{true, codes}
use Rattle.std.specs.List.{AllByRecursion}
use Rattle.wt_span.specs.Bytes.{begins}
use Rattle.wt_tree.specs.declared.kind.Kind.{Kind}
use Rattle.wt_tree.specs.declared.kind.Kind.TheVariants as kind
use Rattle.wt_tables.specs.Extents.{inner_len}
use Rattle.wt_tables.specs.Parts.{joined, taken_len, put_first, units_from, units, table_of, plain_len, groups, captions_len}
use Rattle.wt_page.specs.Rows.{Row, kind_of, signs}
use Rattle.wt_page.specs.Tables.{Reading, first_items, table}
use Rattle.wt_page_round_trip.proofs.OfPage.{ArePageItems}
use Rattle.wt_page_round_trip.proofs.PageLines.{all_left, all_right, all_taken, all_dropped}
use Rattle.wt_page_round_trip.proofs.Stretched.{StandsIn, ArePlaced}
use Rattle.wt_page_round_trip.proofs.GoodRows.{IsGoodRow, AreGoodRows}
use Rattle.wt_page_round_trip.proofs.RowUnits.{Walk, IsTable, units_good}
use Rattle.wt_page_round_trip.proofs.TableRows.{IsGroup, rows_apart, rows_together, table_groups, captions_good, rows_good, stray_rows}
use Rattle.wt_page_round_trip.proofs.TableNodes.{Reads, AreTableParts, table_by_placed, table_is}

-- ---- units join to the rows

put_joined : (r : Row) (us : List (List Row)) → joined (put_first r us) ≡ r ∷ joined us
put_joined r [] = refl
put_joined r (u ∷ us) = refl

from_joined : (n : ℕ) (rs : List Row) → joined (units_from kind_of n rs) ≡ rs
from_joined n [] = refl
from_joined (suc n) (r ∷ rs) = put_joined r (units_from kind_of n rs) ∙ ap (λ ks. r ∷ ks) (from_joined n rs)
from_joined zero (r ∷ rs) =
    let n : ℕ = taken_len (kind_of r) (inner_len (map kind_of rs)) in
    put_joined r (units_from kind_of n rs) ∙ ap (λ ks. r ∷ ks) (from_joined n rs)

pub units_joined : (rs : List Row) → joined (units kind_of rs) ≡ rs
units_joined [] = refl
units_joined (r ∷ rs) = from_joined 0 (r ∷ rs)

-- ---- the parts of a table

parts_good : (m : ℕ) (r : Row) (inside : List Row) → IsGoodRow r → begins (codes "{|") (signs r.items) ≡ true → AreGoodRows inside
    → Walk m 0 inside → AreTableParts m (table_of kind_of r inside)
parts_good m r inside g e rows w =
    let us : List (List Row) = units kind_of inside in
    let n : ℕ = plain_len kind_of us in
    let apart : AllByRecursion AreGoodRows us = rows_apart us (subst AreGoodRows (sym (units_joined inside)) rows) in
    let gs : List (List (List Row)) = groups kind_of (drop n us) in
    let all : AllByRecursion (IsGroup m) gs = table_groups m us (units_good inside m w) apart in
    let front : AreGoodRows (joined (take n us)) = rows_together (take n us) (all_taken AreGoodRows n us apart) in
    record {
      opens = subst (λ (rs : List Row). begins (codes "{|") (signs (first_items rs)) ≡ true) (sym (stray_rows (r ∷ []) (take n us))) e;
      first = subst (λ (rs : List Row). ArePageItems (first_items rs)) (sym (stray_rows (r ∷ []) (take n us))) g.items;
      delimiter = subst AreGoodRows (sym (stray_rows (r ∷ []) (take n us))) (g, front);
      captions = captions_good m gs all;
      rows = rows_good m (drop (captions_len kind_of gs) gs) (all_dropped (IsGroup m) (captions_len kind_of gs) gs all);
    }

pub table_placed : (read : Reading) (m : ℕ) → Reads read m → (k : ℕ) (parent : Kind) → StandsIn parent kind.Table → k + 4 * suc m < 78
    → (r : Row) (ms : List Row) → IsGoodRow r → begins (codes "{|") (signs r.items) ≡ true → IsTable m ms → AreGoodRows ms
    → ArePlaced k parent (table read (r ∷ ms))
table_placed read m i k parent s small r ms g e t rows =
    let good : AreGoodRows (t.inside ++ (t.last ∷ [])) = subst AreGoodRows t.are rows in
    subst (λ (rs : List Row). ArePlaced k parent (table read (r ∷ rs))) (sym t.are)
    (subst (λ ss. ArePlaced k parent ss) (sym (table_is read r t.inside t.last))
    (table_by_placed read m i k parent s small (table_of kind_of r t.inside)
    (parts_good m r t.inside g e (all_left IsGoodRow t.inside (t.last ∷ []) good) t.within)
    t.last (all_right IsGoodRow t.inside (t.last ∷ []) good).0))
