-- Groups of rows, found one after the other, and as rows of items.
use Rattle.std.proofs.Common.{◌≡◌, ◌<◌, ◌≤◌, ℕ, zero, suc, ◌+◌, ◌-◌, List, [], ◌∷◌, ◌++◌, length, take, drop, map, refl, sym, ap, ◌∙◌, arith, append_assoc, length-drop}
use Rattle.std.proofs.lemmas.List.{drop-drop, drop-map, take-map, map-append}
use Rattle.wt_span.specs.declared.form.Piece.{Piece}
use Rattle.wt_tables.specs.Extents.{inner_len}
use Rattle.wt_tables.specs.Parts.{taken_len, unit_kind}
use Rattle.wt_rows.specs.declared.row.RowAt.{RowAt}
use Rattle.wt_rows.specs.declared.group.Group.{Group}
use Rattle.wt_page.specs.Rows.{kind_of}
use Rattle.wt_rows.specs.Units.{kind_at, unit_len, plain_count}
use Rattle.wt_rows.specs.Groups.{group_rows}
use Rattle.wt_rows.specs.GroupViews.{group_view, groups_view}
use Rattle.wt_rows.specs.Views.{row_view, rows_view}
use Rattle.wt_rows.proofs.Grouping.{group_len, group_front}

abbrev pub first_len : List RowAt → ℕ
first_len rs = unit_len (map kind_at rs) + plain_count 0 (drop (unit_len (map kind_at rs)) (map kind_at rs))

first_is : (r : RowAt) (rs : List RowAt) → first_len (r ∷ rs) ≡ group_len kind_at r rs
first_is r rs =
    let t = taken_len r.kind (inner_len (map kind_at rs)) in
    let p = plain_count 0 (drop t (map kind_at rs)) in
    let e : suc t + p ≡ suc (t + p) = omega arith in
    e ∙ ap (λ ks. suc (t + plain_count 0 ks)) (drop-map kind_at t rs)

pub group_cut : (rs : List RowAt) (n : ℕ) → 0 < length rs → n ≡ first_len rs → group_rows kind_at rs ≡ take n rs ∷ group_rows kind_at (drop n rs)
group_cut [] n some e = absurd (omega arith)
group_cut (r ∷ rs) n some e =
    group_front kind_at r rs ∙ ap (λ m. take m (r ∷ rs) ∷ group_rows kind_at (drop m (r ∷ rs))) (sym (e ∙ first_is r rs))

pub group_added : (rs rest : List RowAt) (out new : List Group) (at n : ℕ) (whole : List (List RowAt)) → at < length rs → rest ≡ drop at rs → n ≡ first_len rest
    → new ≡ out ++ (record { from = at; to = at + n }) ∷ []
    → groups_view rs out ++ group_rows kind_at (drop at rs) ≡ whole → groups_view rs new ++ group_rows kind_at (drop (at + n) rs) ≡ whole
group_added rs rest out new at n whole l er en e h =
    let g : Group = record { from = at; to = at + n } in
    let some : 0 < length (drop at rs) = omega (arith, l, length-drop at rs) in
    let cut = group_cut (drop at rs) n some (en ∙ ap first_len er) in
    let len : at + n - at ≡ n = omega arith in
    ap (λ gs. groups_view rs gs ++ group_rows kind_at (drop (at + n) rs)) e
    ∙ ap (λ gs. gs ++ group_rows kind_at (drop (at + n) rs)) (map-append (group_view rs) out (g ∷ []))
    ∙ append_assoc (groups_view rs out) (group_view rs g ∷ []) (group_rows kind_at (drop (at + n) rs))
    ∙ ap (λ m. groups_view rs out ++ take m (drop at rs) ∷ group_rows kind_at (drop (at + n) rs)) len
    ∙ ap (λ ss. groups_view rs out ++ take n (drop at rs) ∷ group_rows kind_at ss) (sym (drop-drop n at rs))
    ∙ ap (λ gs. groups_view rs out ++ gs) (sym cut) ∙ h

-- ---- the same of rows of items

pub kinds_viewed : (ps : List Piece) (rs : List RowAt) → map kind_of (rows_view ps rs) ≡ map kind_at rs
kinds_viewed ps [] = refl
kinds_viewed ps (r ∷ rs) = ap (λ ks. r.kind ∷ ks) (kinds_viewed ps rs)

pub kind_viewed : (ps : List Piece) (rs : List RowAt) → unit_kind kind_of (rows_view ps rs) ≡ unit_kind kind_at rs
kind_viewed ps [] = refl
kind_viewed ps (r ∷ rs) = refl

len_viewed : (ps : List Piece) (r : RowAt) (rs : List RowAt) → group_len kind_of (row_view ps r) (rows_view ps rs) ≡ group_len kind_at r rs
len_viewed ps r rs =
    let t = taken_len r.kind (inner_len (map kind_at rs)) in
    ap (λ ks. suc (taken_len r.kind (inner_len ks) + plain_count 0 (map kind_of (drop (taken_len r.kind (inner_len ks)) (rows_view ps rs)))))
    (kinds_viewed ps rs)
    ∙ ap (λ ss. suc (t + plain_count 0 (map kind_of ss))) (drop-map (row_view ps) t rs)
    ∙ ap (λ ks. suc (t + plain_count 0 ks)) (kinds_viewed ps (drop t rs))

viewed_by : (ps : List Piece) (fuel : ℕ) (rs : List RowAt) → length rs ≤ fuel
    → group_rows kind_of (rows_view ps rs) ≡ map (rows_view ps) (group_rows kind_at rs)
viewed_by ps fuel [] h = refl
viewed_by ps zero (r ∷ rs) h = absurd (omega arith)
viewed_by ps (suc fuel) (r ∷ rs) h =
    let g = group_len kind_at r rs in
    let all = rows_view ps (r ∷ rs) in
    group_front kind_of (row_view ps r) (rows_view ps rs)
    ∙ ap (λ m. take m all ∷ group_rows kind_of (drop m all)) (len_viewed ps r rs)
    ∙ ap (λ ss. ss ∷ group_rows kind_of (drop g all)) (take-map (row_view ps) g (r ∷ rs))
    ∙ ap (λ ss. rows_view ps (take g (r ∷ rs)) ∷ group_rows kind_of ss) (drop-map (row_view ps) g (r ∷ rs))
    ∙ ap (λ gs. rows_view ps (take g (r ∷ rs)) ∷ gs) (viewed_by ps fuel (drop g (r ∷ rs)) (omega (arith, h, length-drop g (r ∷ rs))))
    ∙ sym (ap (map (rows_view ps)) (group_front kind_at r rs))

pub groups_viewed : (ps : List Piece) (rs : List RowAt) → group_rows kind_of (rows_view ps rs) ≡ map (rows_view ps) (group_rows kind_at rs)
groups_viewed ps rs = viewed_by ps (length rs) rs (omega arith)
