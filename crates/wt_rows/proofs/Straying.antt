-- Rows up to the last one that isn't blank, and rows as gaps.
use Rattle.std.proofs.Common.{◌≡◌, ◌<◌, ◌≤◌, ℕ, zero, suc, ◌+◌, ◌-◌, Bool, true, false, List, [], ◌∷◌, ◌++◌, length, take, drop, map, get_or, refl, sym, ap, ◌∙◌, subst, cond, arith}
use Rattle.std.specs.Prelude.{reverse}
use Rattle.std.specs.List.{prefix_len}
use Rattle.std.proofs.lemmas.List.{take_all, take_more, drop-drop, length-map, get_or-map, map-append, reverse-append}
use Rattle.std.proofs.lemmas.Grind.{flat_map-append}
use Rattle.wt_span.specs.declared.form.Piece.{Piece}
use Rattle.wt_span.specs.Items.{items, items_of}
use Rattle.wt_rows.specs.declared.row.RowAt.{RowAt}
use Rattle.wt_rows.specs.declared.stretch.StretchAt.{StretchAt}
use Rattle.wt_rows.specs.declared.stretch.StretchAt.TheVariants as at
use Rattle.wt_page.specs.Rows.{Row, row_items}
use Rattle.wt_page.specs.Stretches.{Stretch, gap}
use Rattle.wt_page.specs.Tables.{is_blank_row, stray_len, gaps}
use Rattle.wt_rows.specs.Ready.{IsReadyRow, BeginAt, AreInOrder, AreReadyRows}
use Rattle.wt_rows.proofs.FewRows.{few_front, few_rest}
use Rattle.wt_rows.proofs.Grouping.{take_join}
use Rattle.wt_rows.specs.Views.{slice, row_view, rows_view, stretch_view, stretches_view}

back_more : (test : Row → Bool) (xs : List Row) (m : ℕ) (d : Row) → m < length xs
    → prefix_len test (reverse (take (m + 1) xs)) ≡ cond (test (get_or xs m d)) (1 + prefix_len test (reverse (take m xs))) 0
back_more test xs m d l =
    ap (λ ys. prefix_len test (reverse ys)) (take_more xs m d l) ∙ ap (prefix_len test) (reverse-append (take m xs) (get_or xs m d ∷ []))

back_by : (t : Bool) (n m p q total : ℕ) → n ≡ m + 1 → q ≡ cond t (1 + p) 0 → t ≡ true → n - q ≡ total → m - p ≡ total
back_by true n m p q total en eq e h = omega (arith, en, eq, h)
back_by false n m p q total en eq e h = absurd cc

stop_by : (t : Bool) (n p q total : ℕ) → q ≡ cond t (1 + p) 0 → t ≡ false → n - q ≡ total → n ≡ total
stop_by true n p q total eq e h = absurd cc
stop_by false n p q total eq e h = omega (arith, eq, h)

-- the row before a place
before_is : (ps : List Piece) (rs : List RowAt) (m : ℕ) (r : RowAt) (d : Row) → m < length rs → get_or (rows_view ps rs) m d ≡ row_view ps (get_or rs m r)
before_is ps rs m r d l = get_or-map (row_view ps) rs m r d l

pub stray_goes : (ps : List Piece) (rs : List RowAt) (n : ℕ) (r : RowAt) (t : Bool) → 0 < n → n ≤ length rs
    → t ≡ is_blank_row (row_view ps (get_or rs (n - 1) r)) → t ≡ true
    → n - prefix_len is_blank_row (reverse (take n (rows_view ps rs))) ≡ stray_len (rows_view ps rs)
    → n - 1 - prefix_len is_blank_row (reverse (take (n - 1) (rows_view ps rs))) ≡ stray_len (rows_view ps rs)
stray_goes ps rs n r t some w et e h =
    let xs = rows_view ps rs in
    let d = row_view ps r in
    let len : length xs ≡ length rs = length-map rs (row_view ps) in
    let at : n - 1 + 1 ≡ n = omega arith in
    let more = ap (λ k. prefix_len is_blank_row (reverse (take k xs))) (sym at) ∙ back_more is_blank_row xs (n - 1) d (omega (arith, len)) in
    let test : is_blank_row (get_or xs (n - 1) d) ≡ true = ap is_blank_row (before_is ps rs (n - 1) r d (omega arith)) ∙ sym et ∙ e in
    back_by (is_blank_row (get_or xs (n - 1) d)) n (n - 1) _ _ (stray_len xs) (sym at) more test h

pub stray_stops : (ps : List Piece) (rs : List RowAt) (n : ℕ) (r : RowAt) (t : Bool) → 0 < n → n ≤ length rs
    → t ≡ is_blank_row (row_view ps (get_or rs (n - 1) r)) → t ≡ false
    → n - prefix_len is_blank_row (reverse (take n (rows_view ps rs))) ≡ stray_len (rows_view ps rs) → n ≡ stray_len (rows_view ps rs)
stray_stops ps rs n r t some w et e h =
    let xs = rows_view ps rs in
    let d = row_view ps r in
    let len : length xs ≡ length rs = length-map rs (row_view ps) in
    let at : n - 1 + 1 ≡ n = omega arith in
    let more = ap (λ k. prefix_len is_blank_row (reverse (take k xs))) (sym at) ∙ back_more is_blank_row xs (n - 1) d (omega (arith, len)) in
    let test : is_blank_row (get_or xs (n - 1) d) ≡ false = ap is_blank_row (before_is ps rs (n - 1) r d (omega arith)) ∙ sym et ∙ e in
    stop_by (is_blank_row (get_or xs (n - 1) d)) n _ _ (stray_len xs) more test h

-- ---- gaps

pub slices_join : (ps : List Piece) (a b c : ℕ) → a ≤ b → b ≤ c → items (slice a c ps) ≡ items (slice a b ps) ++ items (slice b c ps)
slices_join ps a b c h k =
    let both : c - a ≡ (b - a) + (c - b) = omega arith in
    let place : a + (b - a) ≡ b = omega arith in
    ap items (ap (λ n. take n (drop a ps)) both ∙ take_join (b - a) (c - b) (drop a ps)
    ∙ ap (λ qs. slice a b ps ++ take (c - b) qs) (drop-drop (b - a) a ps ∙ ap (λ n. drop n ps) place))
    ∙ flat_map-append items_of (slice a b ps) (slice b c ps)

pub row_slice : (ps : List Piece) (r : RowAt) → IsReadyRow ps r → items (slice r.start r.end ps) ≡ row_items (row_view ps r)
row_slice ps r h =
    let a = h.lead in
    let b = h.items in
    let d = h.ending in
    slices_join ps r.start r.from r.end a (omega (arith, b, d))
    ∙ ap (λ xs. items (slice r.start r.from ps) ++ xs) (slices_join ps r.from r.to r.end b d)

abbrev pub gap_at : RowAt → StretchAt
gap_at r = at.Gap r.start r.end

gaps_of : (ps : List Piece) (rs : List RowAt) → AreInOrder ps rs → stretches_view ps (map gap_at rs) ≡ gaps (rows_view ps rs)
gaps_of ps [] h = refl
gaps_of ps (r ∷ rs) h =
    ap (λ xs. gap xs ∷ stretches_view ps (map gap_at rs)) (row_slice ps r h.0) ∙ ap (λ ss. gap (row_items (row_view ps r)) ∷ ss) (gaps_of ps rs h.2)

pub gaps_are : (ps : List Piece) (rs : List RowAt) (n : ℕ) (out : List StretchAt) → AreInOrder ps rs → length rs ≤ n → out ≡ map gap_at (take n rs)
    → stretches_view ps out ≡ gaps (rows_view ps rs)
gaps_are ps rs n out h l e = ap (stretches_view ps) (e ∙ ap (map gap_at) (take_all n rs l)) ∙ gaps_of ps rs h

pub behind_is : (ps : List Piece) (x : StretchAt) (found more all rest l others : List StretchAt) (gs : List Stretch) → l ≡ x ∷ rest → rest ≡ all
    → all ≡ found ++ more
    → stretches_view ps found ≡ gs → more ≡ others → stretches_view ps l ≡ stretch_view ps x ∷ (gs ++ stretches_view ps others)
behind_is ps x found more all rest l others gs el er ea ef em =
    ap (stretches_view ps) (el ∙ ap (λ ss. x ∷ ss) (er ∙ ea))
    ∙ ap (λ ss. stretch_view ps x ∷ ss) (map-append (stretch_view ps) found more ∙ ap (λ ss. ss ++ stretches_view ps more) ef
    ∙ ap (λ ss. gs ++ stretches_view ps ss) em)

-- ---- some of the rows

order_drop : (ps : List Piece) (n : ℕ) (rs : List RowAt) → AreInOrder ps rs → AreInOrder ps (drop n rs)
order_drop ps zero rs h = h
order_drop ps (suc n) [] h = tt
order_drop ps (suc n) (r ∷ rs) h = order_drop ps n rs h.2

begin_take : (n place : ℕ) (rs : List RowAt) → BeginAt place rs → BeginAt place (take n rs)
begin_take zero place rs h = tt
begin_take (suc n) place [] h = tt
begin_take (suc n) place (r ∷ rs) h = h

order_take : (ps : List Piece) (n : ℕ) (rs : List RowAt) → AreInOrder ps rs → AreInOrder ps (take n rs)
order_take ps zero rs h = tt
order_take ps (suc n) [] h = tt
order_take ps (suc n) (r ∷ rs) h = (h.0, begin_take n r.end rs h.1, order_take ps n rs h.2)

pub ready_rest : (ps : List Piece) (rs qs : List RowAt) (n : ℕ) → AreReadyRows ps rs → qs ≡ drop n rs → AreReadyRows ps qs
ready_rest ps rs qs n h e =
    subst (λ (ss : List RowAt). AreReadyRows ps ss) (sym e) (record { sound = h.sound; parted = h.parted; rows = order_drop ps n rs h.rows; few = few_rest ps rs n h.few })

pub ready_front : (ps : List Piece) (rs qs : List RowAt) (n : ℕ) → AreReadyRows ps rs → qs ≡ take n rs → AreReadyRows ps qs
ready_front ps rs qs n h e =
    subst (λ (ss : List RowAt). AreReadyRows ps ss) (sym e) (record { sound = h.sound; parted = h.parted; rows = order_take ps n rs h.rows; few = few_front ps rs n h.few })
