-- Pieces that are taken from the front, one at a time.
use Rattle.std.proofs.Common.{◌≡◌, ℕ, zero, suc, ◌+◌, ◌-◌, ◌<◌, ◌≤◌, List, [], ◌∷◌, ◌++◌, length, map, take, drop, refl, sym, ap, ◌∙◌, inl, inr, arith, subst, length-append}
use Rattle.std.proofs.lemmas.List.{length-map, map-append}
use Rattle.wt_span.specs.declared.form.Piece.{Piece}
use Rattle.wt_span.specs.Slice.{bytes_of}
use Rattle.wt_span.specs.Items.{Item, items, items_of, call_of_origin}
use Rattle.wt_span.proofs.Lists.{drop_append}
use Rattle.wt_lines.specs.Pieces.{item_count}
use Rattle.wt_lines.proofs.Splits.{count_is, whole_back, front_next}
use Rattle.wt_tiles.specs.declared.glyph.Glyph.{Glyph}
use Rattle.wt_tiles.specs.Glyphs.{glyph_of}
use Rattle.wt_tiles.specs.Edges.{low_at, IsEdge}
use Rattle.wt_tiles.specs.Cutting.{IsEdgeIn}

count_of : (p : Piece) → length (items_of p) ≡ item_count p
count_of p = count_is p.form (call_of_origin p.origin) (bytes_of p.text)

glyph_count : (p : Piece) → length (map glyph_of (items_of p)) ≡ item_count p
glyph_count p = length-map (items_of p) glyph_of ∙ count_of p

-- ---- edges of what stands before, and behind

low_front : (gs hs : List Glyph) (k : ℕ) → k < length gs → low_at (gs ++ hs) k ≡ low_at gs k
low_front [] hs k h = absurd (omega arith)
low_front (g ∷ gs) hs zero h = refl
low_front (g ∷ gs) hs (suc k) h = low_front gs hs k (omega arith)

low_back : (gs hs : List Glyph) (k m : ℕ) → k ≡ length gs + m → low_at (gs ++ hs) k ≡ low_at hs m
low_back [] hs k m e = let z : k ≡ m = omega arith in ap (low_at hs) z
low_back (g ∷ gs) hs zero m e = absurd (omega arith)
low_back (g ∷ gs) hs (suc k) m e = low_back gs hs k m (omega arith)

edge_front : (gs hs : List Glyph) (n : ℕ) → 0 < n → n < length gs → IsEdge (gs ++ hs) n → IsEdge gs n
edge_front gs hs n pos h (inl end) = absurd (omega (arith, length-append gs hs))
edge_front gs hs n pos h (inr (inl low)) = inr (inl (sym (low_front gs hs n h) ∙ low))
edge_front gs hs zero pos h (inr (inr low)) = absurd (omega arith)
edge_front gs hs (suc k) pos h (inr (inr low)) = inr (inr (sym (low_front gs hs k (omega arith)) ∙ low))

edge_back : (gs hs : List Glyph) (n m : ℕ) → 0 < m → n ≡ length gs + m → IsEdge (gs ++ hs) n → IsEdge hs m
edge_back gs hs n m pos e (inl end) = inl (omega (arith, length-append gs hs))
edge_back gs hs n m pos e (inr (inl low)) = inr (inl (sym (low_back gs hs n m e) ∙ low))
edge_back gs hs zero m pos e (inr (inr low)) = absurd (omega arith)
edge_back gs hs (suc k) zero pos e (inr (inr low)) = absurd (omega arith)
edge_back gs hs (suc k) (suc m) pos e (inr (inr low)) = inr (inr (sym (low_back gs hs k m (omega arith)) ∙ low))

pub front_edge : (rs qs : List Piece) (p : Piece) (n : ℕ) → rs ≡ p ∷ qs → 0 < n → IsEdgeIn (items rs) n → n < item_count p → IsEdgeIn (items_of p) n
front_edge rs qs p n e pos edge h =
    let P : List Piece → Type 0 = λ ps. IsEdgeIn (items ps) n in
    let Q : List Glyph → Type 0 = λ gs. IsEdge gs n in
    edge_front (map glyph_of (items_of p)) (map glyph_of (items qs)) n pos (omega (arith, glyph_count p))
    (subst Q (map-append glyph_of (items_of p) (items qs)) (subst P e edge))

back_edge : (rs qs : List Piece) (p : Piece) (n m : ℕ) → rs ≡ p ∷ qs → 0 < m → n ≡ item_count p + m → IsEdgeIn (items rs) n → IsEdgeIn (items qs) m
back_edge rs qs p n m e pos is edge =
    let P : List Piece → Type 0 = λ ps. IsEdgeIn (items ps) n in
    let Q : List Glyph → Type 0 = λ gs. IsEdge gs n in
    edge_back (map glyph_of (items_of p)) (map glyph_of (items qs)) n m pos (omega (arith, glyph_count p))
    (subst Q (map-append glyph_of (items_of p) (items qs)) (subst P e edge))

-- ---- one piece

-- what is left behind a piece that is taken whole
whole_rest : (p : Piece) (qs rest : List Piece) (left : ℕ) → items rest ≡ drop left (items_of p) ++ items qs → item_count p ≤ left → items rest ≡ items qs
whole_rest p qs rest left e h = e ∙ ap (λ xs. xs ++ items qs) (whole_back p left h)

pub next_edge : (rs qs rest : List Piece) (p : Piece) (left k : ℕ) → rs ≡ p ∷ qs → k ≡ left - item_count p
    → items rest ≡ drop left (items_of p) ++ items qs → 0 < k → IsEdgeIn (items rs) left → IsEdgeIn (items rest) k
next_edge rs qs rest p left k e is back pos edge =
    let P : List Item → Type 0 = λ xs. IsEdgeIn xs k in
    subst P (sym (whole_rest p qs rest left back (omega arith))) (back_edge rs qs p left k e pos (omega arith) edge)

take_same : (p : Piece) (qs rest : List Piece) (left k : ℕ) → k ≡ left - item_count p
    → items rest ≡ drop left (items_of p) ++ items qs → take k (items rest) ≡ take k (items qs)
take_same p qs rest left zero is back = refl
take_same p qs rest left (suc k) is back = ap (take (suc k)) (whole_rest p qs rest left back (omega arith))

pub next_front : (taken more rs qs rest : List Piece) (p : Piece) (left k : ℕ) (whole : List Item) → rs ≡ p ∷ qs
    → k ≡ left - item_count p → items rest ≡ drop left (items_of p) ++ items qs
    → items more ≡ items taken ++ take left (items_of p) → items taken ++ take left (items rs) ≡ whole → items more ++ take k (items rest) ≡ whole
next_front taken more rs qs rest p left k whole e is back front had =
    ap (λ xs. items more ++ xs) (take_same p qs rest left k is back)
    ∙ front_next taken more (p ∷ qs) 0 left k p whole (omega arith) front is (ap (λ ps. items taken ++ take left (items ps)) (sym e) ∙ had)

drop_same : (p : Piece) (qs rest : List Piece) (left k : ℕ) → k ≡ left - item_count p
    → items rest ≡ drop left (items_of p) ++ items qs → drop k (items rest) ≡ drop left (items_of p) ++ drop k (items qs)
drop_same p qs rest left zero is back = back
drop_same p qs rest left (suc k) is back =
    ap (drop (suc k)) (whole_rest p qs rest left back (omega arith)) ∙ ap (λ xs. xs ++ drop (suc k) (items qs)) (sym (whole_back p left (omega arith)))

pub next_back : (rs qs rest : List Piece) (p : Piece) (left k : ℕ) (whole : List Item) → rs ≡ p ∷ qs → k ≡ left - item_count p
    → items rest ≡ drop left (items_of p) ++ items qs → drop left (items rs) ≡ whole → drop k (items rest) ≡ whole
next_back rs qs rest p left k whole e is back had =
    drop_same p qs rest left k is back
    ∙ ap (λ m. drop left (items_of p) ++ drop m (items qs)) (is ∙ ap (λ c. left - c) (sym (count_of p)))
    ∙ sym (drop_append left (items_of p) (items qs)) ∙ ap (λ ps. drop left (items ps)) (sym e) ∙ had

-- the measure goes down
pub some_items : (p : Piece) → 0 < length (items_of p) → 0 < item_count p
some_items p h = omega (arith, count_of p)
