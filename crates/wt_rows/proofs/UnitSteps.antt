-- Units of rows, found one after the other.
use Rattle.std.proofs.Common.{◌≡◌, ◌<◌, ◌≤◌, ℕ, zero, suc, ◌+◌, Bool, true, false, List, ◌∷◌, length, drop, map, get_or, refl, sym, ap, ◌∙◌, subst, arith}
use Rattle.std.specs.Prelude.{if◌then◌else◌}
use Rattle.std.proofs.lemmas.List.{drop_more, drop_all, drop-drop, drop-map, length-map}
use Rattle.wt_lines.specs.declared.kind.LineKind.{LineKind}
use Rattle.wt_lines.specs.declared.kind.LineKind.TheVariants as line
use Rattle.wt_tables.specs.Extents.{inner_len}
use Rattle.wt_tables.specs.Parts.{taken_len, begins_part}
use Rattle.wt_tables.proofs.Ends.{after_line, depth_len, inner_is}
use Rattle.wt_rows.specs.declared.row.RowAt.{RowAt}
use Rattle.wt_rows.specs.Units.{kind_at, after_kind, unit_len, plain_count}
use Rattle.wt_rows.proofs.Grouping.{taken_within, plain_from}

-- the two tables of what a row of a kind does to the depth are one
same_after : (k : LineKind) (d : ℕ) (go : ℕ → ℕ) → after_line k d go ≡ after_kind k d go
same_after line.Blank d go = refl
same_after line.TableOpen d go = refl
same_after line.TableEnd zero go = refl
same_after line.TableEnd (suc d) go = refl
same_after line.Caption d go = refl
same_after line.Row d go = refl
same_after line.Cell d go = refl
same_after line.Header d go = refl
same_after line.Heading d go = refl
same_after line.Rule d go = refl
same_after line.List d go = refl
same_after line.Pre d go = refl
same_after line.Text d go = refl

kinds_more : (i : ℕ) (rs : List RowAt) (r d0 : RowAt) → i < length rs → r ≡ get_or rs i d0 → drop i (map kind_at rs) ≡ r.kind ∷ drop (i + 1) (map kind_at rs)
kinds_more i rs r d0 l is =
    drop-map kind_at i rs ∙ ap (map kind_at) (drop_more rs i d0 l ∙ ap (λ s. s ∷ drop (i + 1) rs) (sym is))
    ∙ ap (λ ks. r.kind ∷ ks) (sym (drop-map kind_at (i + 1) rs))

pub depth_ends : (i d : ℕ) (rs : List RowAt) (r d0 : RowAt) → i < length rs → r ≡ get_or rs i d0
    → ((go : ℕ → ℕ) → after_kind r.kind d go ≡ 1) → i + depth_len (drop i (map kind_at rs)) d ≡ depth_len (map kind_at rs) 0
    → i + 1 ≡ inner_len (map kind_at rs)
depth_ends i d rs r d0 l is step h =
    let now = drop (i + 1) (map kind_at rs) in
    let s : depth_len (drop i (map kind_at rs)) d ≡ 1 =
    ap (λ ks. depth_len ks d) (kinds_more i rs r d0 l is) ∙ same_after r.kind d (depth_len now) ∙ step (depth_len now) in
    let all : i + 1 ≡ depth_len (map kind_at rs) 0 = omega (arith, s, h) in
    all ∙ sym (inner_is (map kind_at rs))

pub depth_goes : (i d e : ℕ) (rs : List RowAt) (r d0 : RowAt) → i < length rs → r ≡ get_or rs i d0
    → ((go : ℕ → ℕ) → after_kind r.kind d go ≡ suc (go e)) → i + depth_len (drop i (map kind_at rs)) d ≡ depth_len (map kind_at rs) 0
    → i + 1 + depth_len (drop (i + 1) (map kind_at rs)) e ≡ depth_len (map kind_at rs) 0
depth_goes i d e rs r d0 l is step h =
    let now = drop (i + 1) (map kind_at rs) in
    let s : depth_len (drop i (map kind_at rs)) d ≡ suc (depth_len now e) =
    ap (λ ks. depth_len ks d) (kinds_more i rs r d0 l is) ∙ same_after r.kind d (depth_len now) ∙ step (depth_len now) in
    omega (arith, s, h)

pub depth_all : (i d : ℕ) (rs : List RowAt) → length rs ≤ i → i ≤ length rs → i + depth_len (drop i (map kind_at rs)) d ≡ depth_len (map kind_at rs) 0
    → length rs ≡ inner_len (map kind_at rs)
depth_all i d rs l m h =
    let len : length (map kind_at rs) ≡ length rs = length-map rs kind_at in
    let e : depth_len (drop i (map kind_at rs)) d ≡ 0 = ap (λ ks. depth_len ks d) (drop_all i (map kind_at rs) (omega arith)) in
    let t : length rs ≡ depth_len (map kind_at rs) 0 = omega (arith, e, h) in
    t ∙ sym (inner_is (map kind_at rs))

-- ---- rows before the first part

part_stops : (t : Bool) (n : ℕ) → t ≡ true → (if t then 0 else n) ≡ 0
part_stops true n e = refl
part_stops false n e = cc

part_goes : (t : Bool) (n : ℕ) → t ≡ false → (if t then 0 else n) ≡ n
part_goes true n e = cc
part_goes false n e = refl

pub plain_stops : (at total : ℕ) (rs : List RowAt) (r d0 : RowAt) → at < length rs → r ≡ get_or rs at d0 → begins_part r.kind ≡ true
    → at + plain_count 0 (drop at (map kind_at rs)) ≡ total → at ≡ total
plain_stops at total rs r d0 l is b h =
    let s : plain_count 0 (drop at (map kind_at rs)) ≡ 0 = ap (plain_count 0) (kinds_more at rs r d0 l is) ∙ part_stops (begins_part r.kind) _ b in
    omega (arith, s, h)

unit_step : (k : LineKind) (ks : List LineKind) → begins_part k ≡ false
    → plain_count 0 (k ∷ ks) ≡ unit_len (k ∷ ks) + plain_count 0 (drop (unit_len (k ∷ ks)) (k ∷ ks))
unit_step k ks b =
    let n = taken_len k (inner_len ks) in
    let p = plain_count 0 (drop n ks) in
    let e : suc (n + p) ≡ suc n + p = omega arith in
    part_goes (begins_part k) (suc (plain_count n ks)) b ∙ ap (λ m. suc m) (plain_from n ks (taken_within k ks)) ∙ e

pub plain_goes : (at n total : ℕ) (rs rest : List RowAt) (r d0 : RowAt) → at < length rs → r ≡ get_or rs at d0 → begins_part r.kind ≡ false
    → rest ≡ drop at rs → n ≡ unit_len (map kind_at rest) → at + plain_count 0 (drop at (map kind_at rs)) ≡ total
    → at + n + plain_count 0 (drop (at + n) (map kind_at rs)) ≡ total
plain_goes at n total rs rest r d0 l is b er en h =
    let ks = map kind_at rs in
    let here : drop at ks ≡ r.kind ∷ drop (at + 1) ks = kinds_more at rs r d0 l is in
    let unit : n ≡ unit_len (drop at ks) = en ∙ ap (λ ss. unit_len (map kind_at ss)) er ∙ ap unit_len (sym (drop-map kind_at at rs)) in
    let step : plain_count 0 (drop at ks) ≡ unit_len (drop at ks) + plain_count 0 (drop (unit_len (drop at ks)) (drop at ks)) =
    subst (λ (js : List LineKind). plain_count 0 js ≡ unit_len js + plain_count 0 (drop (unit_len js) js)) (sym here) (unit_step r.kind (drop (at + 1) ks) b) in
    let more : plain_count 0 (drop (unit_len (drop at ks)) (drop at ks)) ≡ plain_count 0 (drop (at + n) ks) =
    ap (λ m. plain_count 0 (drop m (drop at ks))) (sym unit) ∙ ap (plain_count 0) (drop-drop n at ks) in
    omega (arith, unit, step, more, h)

pub plain_all : (at total : ℕ) (rs : List RowAt) → length rs ≤ at → at + plain_count 0 (drop at (map kind_at rs)) ≡ total → at ≡ total
plain_all at total rs l h =
    let len : length (map kind_at rs) ≡ length rs = length-map rs kind_at in
    let e : plain_count 0 (drop at (map kind_at rs)) ≡ 0 = ap (plain_count 0) (drop_all at (map kind_at rs) (omega arith)) in
    omega (arith, e, h)
