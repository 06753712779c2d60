-- Where the attributes of a table and of a row begin.
use Rattle.std.proofs.Common.{◌≡◌, ◌<◌, ◌≤◌, ℕ, ◌+◌, Bool, true, false, List, [], ◌∷◌, length, drop, map, get_or, refl, sym, ap, ◌∙◌, cond, arith}
use Rattle.std.specs.Prelude.{codes}
use Rattle.std.specs.List.{prefix_len}
use Rattle.std.proofs.lemmas.Bool.Decides.{nat_tests}
use Rattle.wt_span.specs.Bytes.{begins}
use Rattle.wt_span.specs.Items.{Item, sign}
use Rattle.wt_lines.specs.Kinds.{is_idle}
use Rattle.wt_attributes.specs.Attributes.{attributes}
use Rattle.wt_tables.specs.Cells.{from_sign, is_dash, row_sign_len, table_attributes, row_attributes}
use Rattle.wt_tiles.specs.Glyphs.{glyph_of}
use Rattle.wt_tiles.specs.Cutting.{IsEdgeIn}
use Rattle.wt_tiles.proofs.Words.{edge_after}
use Rattle.wt_page.specs.Rows.{signs}
use Rattle.wt_rows.specs.declared.front.Front.TheVariants as front
use Rattle.wt_rows.specs.Fronts.{with_front}
use Rattle.wt_page.proofs.LowSigns.{low_sign}

-- two signs at the front
pub record BeginWith (a b : ℕ) (xs : List Item) : Type 0 where
  pub first : get_or (signs xs) 0 0 ≡ a
  pub second : get_or (signs xs) 1 0 ≡ b
  pub some : 2 ≤ length xs

open_signs : (xs : List Item) → begins (codes "{|") (signs xs) ≡ true → BeginWith 123 124 xs
open_signs [] e = cc
open_signs (x ∷ []) e = absurd (grind (arith, nat_tests))
open_signs (x ∷ y ∷ ys) e = record { first = grind (arith, nat_tests); second = grind (arith, nat_tests); some = omega arith }

row_signs : (xs : List Item) → begins (codes "|-") (signs xs) ≡ true → BeginWith 124 45 xs
row_signs [] e = cc
row_signs (x ∷ []) e = absurd (grind (arith, nat_tests))
row_signs (x ∷ y ∷ ys) e = record { first = grind (arith, nat_tests); second = grind (arith, nat_tests); some = omega arith }

no_lead : (a b : ℕ) (xs : List Item) → is_idle a ≡ false → BeginWith a b xs → from_sign xs ≡ xs
no_lead a b [] i h = refl
no_lead a b (x ∷ xs) i h =
    let seen : is_idle (sign x) ≡ false = ap is_idle h.first ∙ i in
    ap (λ n. drop n (x ∷ xs)) (ap (λ (t : Bool). cond t (1 + prefix_len is_idle (signs xs)) 0) seen)

-- ---- a table

pub table_cut : (xs : List Item) → begins (codes "{|") (signs xs) ≡ true → (2 ≤ length xs) × IsEdgeIn xs 2
table_cut xs e =
    let h = open_signs xs e in
    let s = h.some in
    let low : get_or (signs xs) 1 0 < 128 = let q = h.second in omega (arith, q) in
    (s, edge_after (map glyph_of xs) 1 2 refl (low_sign xs 1 (omega (arith, s)) low))

pub table_read : (xs : List Item) → begins (codes "{|") (signs xs) ≡ true → attributes (drop 2 xs) ≡ table_attributes xs
unfolding table_attributes
table_read xs e = ap (λ ys. attributes (drop 2 ys)) (sym (no_lead 123 124 xs refl (open_signs xs e)))

-- ---- a row

pub row_cut : (xs : List Item) → begins (codes "|-") (signs xs) ≡ true → (1 ≤ length xs) × IsEdgeIn xs 1
row_cut xs e =
    let h = row_signs xs e in
    let s = h.some in
    let low : get_or (signs xs) 0 0 < 128 = let q = h.first in omega (arith, q) in
    (omega (arith, s), edge_after (map glyph_of xs) 0 1 refl (low_sign xs 0 (omega (arith, s)) low))

pub row_read : (xs : List Item) → begins (codes "|-") (signs xs) ≡ true → attributes (drop (with_front front.Dashes 1 xs) xs) ≡ row_attributes xs
unfolding row_attributes
row_read xs e = ap (λ ys. attributes (drop (row_sign_len (signs ys)) ys)) (sym (no_lead 124 45 xs refl (row_signs xs e)))
