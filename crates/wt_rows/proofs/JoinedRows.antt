-- Rows that follow one another are a slice of the pieces.
use Rattle.std.proofs.Common.{◌≡◌, ◌<◌, ◌≤◌, ℕ, zero, suc, ◌+◌, ◌-◌, List, [], ◌∷◌, ◌++◌, length, min, take, drop, get_or, refl, sym, ap, ◌∙◌, subst, arith, append-nil}
use Rattle.std.proofs.lemmas.List.{take_all, drop-drop, drop-take, length-take}
use Rattle.wt_span.specs.declared.form.Piece.{Piece}
use Rattle.wt_span.specs.Items.{items}
use Rattle.wt_lines.specs.declared.kind.LineKind.{LineKind}
use Rattle.wt_lines.specs.Lines.{content}
use Rattle.wt_lines.specs.Pieces.{AllParted}
use Rattle.wt_page.specs.Lines.{ending}
use Rattle.wt_rows.specs.declared.row.RowAt.{RowAt}
use Rattle.wt_page.specs.Rows.{row_items, all_items}
use Rattle.wt_page.specs.Tables.{from_sign}
use Rattle.wt_rows.specs.Ready.{IsReadyRow, AreInOrder}
use Rattle.wt_rows.specs.Delimiters.{IsJoined}
use Rattle.wt_rows.specs.Views.{slice, row_view, rows_view}
use Rattle.wt_rows.proofs.Straying.{slices_join, row_slice}

-- the place behind the last of rows
abbrev pub last_end : RowAt → List RowAt → ℕ
last_end r [] = r.end
last_end r (s ∷ rs) = last_end s rs

pub last_get : (r d : RowAt) (rs : List RowAt) → (get_or (r ∷ rs) (length rs) d).end ≡ last_end r rs
last_get r d [] = refl
last_get r d (s ∷ rs) = last_get s d rs

end_within : (ps : List Piece) (r : RowAt) (rs : List RowAt) → AreInOrder ps (r ∷ rs) → r.end ≤ last_end r rs
end_within ps r [] h = omega arith
end_within ps r (s ∷ rs) h =
    let more = end_within ps s rs h.2 in
    let at : r.end ≡ s.start = h.1 in
    let row : IsReadyRow ps s = h.2.0 in
    let a = row.lead in
    let b = row.items in
    let d = row.ending in
    omega (arith, more, at, a, b, d)

rows_slice : (ps : List Piece) (r : RowAt) (rs : List RowAt) → AreInOrder ps (r ∷ rs)
    → all_items (rows_view ps (r ∷ rs)) ≡ items (slice r.start (last_end r rs) ps)
rows_slice ps r [] h = append-nil (row_items (row_view ps r)) ∙ sym (row_slice ps r h.0)
rows_slice ps r (s ∷ rs) h =
    let row : IsReadyRow ps r = h.0 in
    let a = row.lead in
    let b = row.items in
    let d = row.ending in
    let at : r.end ≡ s.start = h.1 in
    let w = end_within ps r (s ∷ rs) h in
    ap (λ xs. xs ++ all_items (rows_view ps (s ∷ rs))) (sym (row_slice ps r row))
    ∙ ap (λ xs. items (slice r.start r.end ps) ++ xs) (rows_slice ps s rs h.2 ∙ ap (λ n. items (slice n (last_end s rs) ps)) (sym at))
    ∙ sym (slices_join ps r.start r.end (last_end s rs) (omega (arith, a, b, d)) w)

pub sign_slice : (ps : List Piece) (r : RowAt) (rs : List RowAt) → AreInOrder ps (r ∷ rs)
    → from_sign (rows_view ps (r ∷ rs)) ≡ items (slice r.from (last_end r rs) ps)
sign_slice ps r [] h =
    let row : IsReadyRow ps r = h.0 in
    ap (λ xs. items (slice r.from r.to ps) ++ xs) (append-nil (items (slice r.to r.end ps))) ∙ sym (slices_join ps r.from r.to r.end row.items row.ending)
sign_slice ps r (s ∷ rs) h =
    let row : IsReadyRow ps r = h.0 in
    let b = row.items in
    let d = row.ending in
    let at : r.end ≡ s.start = h.1 in
    let w = end_within ps r (s ∷ rs) h in
    ap (λ xs. items (slice r.from r.to ps) ++ (items (slice r.to r.end ps) ++ xs)) (rows_slice ps s rs h.2
    ∙ ap (λ n. items (slice n (last_end s rs) ps)) (sym at))
    ∙ ap (λ xs. items (slice r.from r.to ps) ++ xs) (sym (slices_join ps r.to r.end (last_end s rs) d w))
    ∙ sym (slices_join ps r.from r.to (last_end s rs) b (omega (arith, d, w)))

pub take_take : {A : Type 0} (n m : ℕ) (xs : List A) → take n (take (n + m) xs) ≡ take n xs
take_take zero m xs = refl
take_take (suc n) m [] = ap (take (suc n)) (take_all (suc n + m) [] (omega arith))
take_take (suc n) m (x ∷ xs) =
    let e : suc n + m ≡ suc (n + m) = omega arith in
    ap (λ k. take (suc n) (take k (x ∷ xs))) e ∙ ap (λ ys. x ∷ ys) (take_take n m xs)

-- a slice that is cut behind so many pieces
pub slice_cut : (ps all : List Piece) (from end n : ℕ) → all ≡ slice from end ps → n ≤ end - from
    → (take n all ≡ slice from (from + n) ps) × (drop n all ≡ slice (from + n) end ps)
slice_cut ps all from end n e w =
    let k = end - (from + n) in
    let len : end - from ≡ n + k = omega arith in
    let one : from + n - from ≡ n = omega arith in
    let cut : all ≡ take (n + k) (drop from ps) = e ∙ ap (λ m. take m (drop from ps)) len in (
      ap (take n) cut ∙ take_take n k (drop from ps) ∙ ap (λ m. take m (drop from ps)) (sym one),
      ap (drop n) cut ∙ drop-take n k (drop from ps) ∙ ap (take k) (drop-drop n from ps),
    )

pub joined_are : (ps all : List Piece) (r : RowAt) (rs : List RowAt) (k : LineKind) (n : ℕ) → AreInOrder ps (r ∷ rs) → all ≡ slice r.from (last_end r rs) ps
    → n ≤ last_end r rs - r.from → content (items all) ≡ items (take n all) → ending (items all) ≡ items (drop n all)
    → IsJoined (row_view ps (record { kind = k; start = r.start; from = r.from; to = r.from + n; end = last_end r rs })) (rows_view ps (r ∷ rs))
joined_are ps all r rs k n h e w ec ee =
    let cut = slice_cut ps all r.from (last_end r rs) n e w in
    let is : items all ≡ from_sign (rows_view ps (r ∷ rs)) = ap items e ∙ sym (sign_slice ps r rs h) in
    record {
      lead = refl;
      items = ap items (sym cut.0) ∙ sym ec ∙ ap content is;
      ending = ap items (sym cut.1) ∙ sym ee ∙ ap ending is;
    }

pub joined_some : (ps all : List Piece) (rs : List RowAt) (first last d e : RowAt) (n : ℕ) → 0 < length rs → first ≡ get_or rs 0 d
    → last ≡ get_or rs (length rs - 1) e
    → AreInOrder ps rs → all ≡ slice first.from last.end ps → n ≤ length all → content (items all) ≡ items (take n all)
    → ending (items all) ≡ items (drop n all)
    → IsJoined (row_view ps (record { kind = first.kind; start = first.start; from = first.from; to = first.from + n; end = last.end })) (rows_view ps rs)
joined_some ps all [] first last d e n some ef el h ea w ec ee = absurd (omega arith)
joined_some ps all (r ∷ rs) first last d e n some ef el h ea w ec ee =
    let at : length (r ∷ rs) - 1 ≡ length rs = omega arith in
    let end : last.end ≡ last_end r rs = ap (λ (s : RowAt). s.end) (el ∙ ap (λ k. get_or (r ∷ rs) k e) at) ∙ last_get r e rs in
    let whole : all ≡ slice r.from (last_end r rs) ps = ea ∙ ap (λ (s : RowAt). slice s.from last.end ps) ef ∙ ap (λ k. slice r.from k ps) end in
    let len : length all ≡ min (last_end r rs - r.from) (length (drop r.from ps)) = ap length whole ∙ length-take (last_end r rs - r.from) (drop r.from ps) in
    let few : n ≤ last_end r rs - r.from = omega (arith, len, w) in
    subst (λ (s : RowAt). IsJoined (row_view ps (record { kind = s.kind; start = s.start; from = s.from; to = s.from + n; end = last.end }))
    (rows_view ps (r ∷ rs))) (sym ef)
    (subst (λ (k : ℕ). IsJoined (row_view ps (record { kind = r.kind; start = r.start; from = r.from; to = r.from + n; end = k })) (rows_view ps (r ∷ rs)))
    (sym end)
    (joined_are ps all r rs r.kind n h whole few ec ee))

-- ---- pieces of a slice are parted

parted_drop : (n : ℕ) (ps : List Piece) → AllParted ps → AllParted (drop n ps)
parted_drop zero ps h = h
parted_drop (suc n) [] h = tt
parted_drop (suc n) (p ∷ ps) h = parted_drop n ps h.1

parted_take : (n : ℕ) (ps : List Piece) → AllParted ps → AllParted (take n ps)
parted_take zero ps h = tt
parted_take (suc n) [] h = tt
parted_take (suc n) (p ∷ ps) h = (h.0, parted_take n ps h.1)

pub parted_slice : (ps qs : List Piece) (a b : ℕ) → AllParted ps → qs ≡ slice a b ps → AllParted qs
parted_slice ps qs a b h e = subst (λ (rs : List Piece). AllParted rs) (sym e) (parted_take (b - a) (drop a ps) (parted_drop a ps h))

pub joined_none : (ps : List Piece) (rs : List RowAt) (k : LineKind) → length rs ≡ 0
    → IsJoined (row_view ps (record { kind = k; start = 0; from = 0; to = 0; end = 0 })) (rows_view ps rs)
joined_none ps [] k e = record { lead = refl; items = refl; ending = refl }
joined_none ps (r ∷ rs) k e = absurd (omega arith)
