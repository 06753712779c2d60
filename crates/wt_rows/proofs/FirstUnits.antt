-- The first unit of rows.
use Rattle.std.proofs.Common.{◌≡◌, ℕ, zero, suc, false, List, [], ◌∷◌, take, drop, map, refl, ap, ◌∙◌}
use Rattle.wt_lines.specs.declared.kind.LineKind.{LineKind}
use Rattle.wt_lines.specs.declared.kind.LineKind.TheVariants as line
use Rattle.wt_tables.specs.Extents.{is_open, inner_len}
use Rattle.wt_tables.specs.Parts.{taken_len, put_first, units_from, units}
use Rattle.wt_page.specs.Rows.{Row, kind_of}

taken_none : (k : LineKind) → is_open k ≡ false → (n : ℕ) → taken_len k n ≡ 0
taken_none line.Blank e n = refl
taken_none line.TableOpen e n = absurd cc
taken_none line.TableEnd e n = refl
taken_none line.Caption e n = refl
taken_none line.Row e n = refl
taken_none line.Cell e n = refl
taken_none line.Header e n = refl
taken_none line.Heading e n = refl
taken_none line.Rule e n = refl
taken_none line.List e n = refl
taken_none line.Pre e n = refl
taken_none line.Text e n = refl

units_behind : (n : ℕ) (rs : List Row) → units_from kind_of n rs ≡ take n rs ∷ units kind_of (drop n rs)
units_behind zero [] = refl
units_behind (suc n) [] = refl
units_behind zero (r ∷ rs) = refl
units_behind (suc n) (r ∷ rs) = ap (put_first r) (units_behind n rs)

pub units_more : (r : Row) (rs : List Row)
    → units kind_of (r ∷ rs)
    ≡ (r ∷ take (taken_len r.kind (inner_len (map kind_of rs))) rs) ∷ units kind_of (drop (taken_len r.kind (inner_len (map kind_of rs))) rs)
units_more r rs = ap (put_first r) (units_behind (taken_len r.kind (inner_len (map kind_of rs))) rs)

pub unit_one : (r : Row) (rs : List Row) → is_open r.kind ≡ false → units kind_of (r ∷ rs) ≡ (r ∷ []) ∷ units kind_of rs
unit_one r rs h = units_more r rs ∙ ap (λ n. (r ∷ take n rs) ∷ units kind_of (drop n rs)) (taken_none r.kind h (inner_len (map kind_of rs)))
