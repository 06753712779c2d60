-- What is taken from the front of pieces: so many items, and those behind them by their signs, piece by piece.
use Rattle.std.proofs.Common.{◌≡◌, ◌<◌, ◌≤◌, ℕ, zero, suc, ◌+◌, ◌-◌, Bool, true, false, List, [], ◌∷◌, ◌++◌, length, map, take, drop, min, refl, sym, ap, ◌∙◌, subst, cond, arith, inl, inr, length-append, length-drop, append-nil}
use Rattle.std.specs.List.{prefix_len}
use Rattle.std.proofs.lemmas.List.{drop_all, drop-map, length-map, map-append, take_all, take-append-le, drop-append-le}
use Rattle.std.proofs.lemmas.List.Sums.{prefix_len-le-length}
use Rattle.wt_span.proofs.Lists.{drop_append}
use Rattle.wt_span.specs.declared.form.Piece.{Piece}
use Rattle.wt_span.specs.Items.{Item, sign, items, items_of, call_of_origin}
use Rattle.wt_span.specs.Origins.{IsSoundPiece}
use Rattle.wt_span.specs.Slice.{bytes_of}
use Rattle.wt_lines.specs.Pieces.{is_chars, item_count}
use Rattle.wt_lines.proofs.PieceSigns.{false_true, signs_of_chars}
use Rattle.wt_lines.proofs.Splits.{count_is, whole_front, whole_back}
use Rattle.wt_tiles.specs.declared.glyph.Glyph.{Glyph}
use Rattle.wt_tiles.specs.Glyphs.{glyph_of}
use Rattle.wt_tiles.specs.Edges.{IsEdge}
use Rattle.wt_tiles.specs.Cutting.{IsEdgeIn}
use Rattle.wt_tiles.proofs.Taking.{front_edge, next_edge, next_front, next_back}
use Rattle.wt_page.specs.Rows.{signs}
use Rattle.wt_rows.specs.declared.front.Front.{Front}
use Rattle.wt_rows.specs.Fronts.{in_front, front_len, with_front, IsFrontCut, IsWithCut}
use Rattle.wt_rows.proofs.Unreading.{sound_some}

-- ---- the signs at the front of two lists

all_by : (v : Bool) (n m len k : ℕ) → cond v (1 + n) 0 ≡ suc len → (n ≡ len → m ≡ len + k) → cond v (1 + m) 0 ≡ suc len + k
all_by true n m len k e next = let h = next (omega (arith, e)) in omega (arith, h)
all_by false n m len k e next = absurd (omega (arith, e))

prefix_all : (p : ℕ → Bool) (xs ys : List ℕ) → prefix_len p xs ≡ length xs → prefix_len p (xs ++ ys) ≡ length xs + prefix_len p ys
prefix_all p [] ys e = omega arith
prefix_all p (x ∷ xs) ys e =
    all_by (p x) (prefix_len p xs) (prefix_len p (xs ++ ys)) (length xs) (prefix_len p ys) e (prefix_all p xs ys)

stops_by : (v : Bool) (n m len : ℕ) → cond v (1 + n) 0 < suc len → (n < len → m ≡ n) → cond v (1 + m) 0 ≡ cond v (1 + n) 0
stops_by true n m len l next = ap (λ k. 1 + k) (next (omega (arith, l)))
stops_by false n m len l next = refl

prefix_stops : (p : ℕ → Bool) (xs ys : List ℕ) → prefix_len p xs < length xs → prefix_len p (xs ++ ys) ≡ prefix_len p xs
prefix_stops p [] ys l = absurd (omega (arith, l))
prefix_stops p (x ∷ xs) ys l =
    stops_by (p x) (prefix_len p xs) (prefix_len p (xs ++ ys)) (length xs) l (prefix_stops p xs ys)

-- behind the first n
behind_stops : (p : ℕ → Bool) (n : ℕ) (xs ys : List ℕ) → n + prefix_len p (drop n xs) < length xs
    → prefix_len p (drop n (xs ++ ys)) ≡ prefix_len p (drop n xs)
behind_stops p n xs ys l =
    ap (prefix_len p) (drop_append n xs ys)
    ∙ prefix_stops p (drop n xs) (drop (n - length xs) ys) (omega (arith, l, length-drop n xs))

behind_goes : (p : ℕ → Bool) (n : ℕ) (xs ys : List ℕ) → length xs ≤ n + prefix_len p (drop n xs)
    → n + prefix_len p (drop n (xs ++ ys)) ≡ length xs + ((n - length xs) + prefix_len p (drop (n - length xs) ys))
behind_goes p n xs ys h =
    let len = length-drop n xs in
    let le = prefix_len-le-length p (drop n xs) in
    let all = prefix_all p (drop n xs) (drop (n - length xs) ys) (omega (arith, h, len, le)) in
    let is = ap (prefix_len p) (drop_append n xs ys) in
    omega (arith, is, all, len)

-- ---- the items at the front of two lists

with_stops : (f : Front) (n : ℕ) (xs ys : List Item) → with_front f n xs < length xs → with_front f n (xs ++ ys) ≡ with_front f n xs
with_stops f n xs ys l =
    let len : length (signs xs) ≡ length xs = length-map xs sign in
    ap (λ ss. n + prefix_len (in_front f) (drop n ss)) (map-append sign xs ys)
    ∙ ap (λ k. n + k) (behind_stops (in_front f) n (signs xs) (signs ys) (omega (arith, l, len)))

with_goes : (f : Front) (n : ℕ) (xs ys : List Item) → length xs ≤ with_front f n xs
    → with_front f n (xs ++ ys) ≡ length xs + with_front f (n - length xs) ys
with_goes f n xs ys h =
    let len : length (signs xs) ≡ length xs = length-map xs sign in
    ap (λ ss. n + prefix_len (in_front f) (drop n ss)) (map-append sign xs ys)
    ∙ behind_goes (in_front f) n (signs xs) (signs ys) (omega (arith, h, len))
    ∙ ap (λ k. k + with_front f (n - k) ys) len

with_within : (f : Front) (n : ℕ) (xs : List Item) → n ≤ length xs → with_front f n xs ≤ length xs
with_within f n xs h =
    let le = prefix_len-le-length (in_front f) (drop n (signs xs)) in
    let len : length (signs xs) ≡ length xs = length-map xs sign in
    omega (arith, le, length-drop n (signs xs), len, h)

-- ---- how many are in one piece

count_of : (p : Piece) → length (items_of p) ≡ item_count p
count_of p = count_is p.form (call_of_origin p.origin) (bytes_of p.text)

pub len_chars : (f : Front) (p : Piece) (n k : ℕ) → is_chars p.form ≡ true → n < item_count p
    → k ≡ prefix_len (in_front f) (drop n (bytes_of p.text)) → n + k ≡ min (with_front f n (items_of p)) (item_count p)
len_chars f p n k e l ek =
    let is : with_front f n (items_of p) ≡ n + k =
    ap (λ ss. n + prefix_len (in_front f) (drop n ss)) (signs_of_chars p e) ∙ ap (λ m. n + m) (sym ek) in
    let len = count_of p in
    let within = with_within f n (items_of p) (omega (arith, l, len)) in
    omega (arith, is, within, len)

-- ---- and of pieces that begin with it

piece_stops : (f : Front) (n own : ℕ) (rs qs : List Piece) (p : Piece) → rs ≡ p ∷ qs → own ≡ min (with_front f n (items_of p)) (item_count p)
    → own < item_count p → with_front f n (items rs) ≡ own
piece_stops f n own rs qs p e is l =
    let here : with_front f n (items_of p) ≡ own = omega (arith, is, l) in
    ap (λ ps. with_front f n (items ps)) e ∙ with_stops f n (items_of p) (items qs) (omega (arith, here, l, count_of p)) ∙ here

piece_goes : (f : Front) (n own : ℕ) (rs qs : List Piece) (p : Piece) → rs ≡ p ∷ qs → own ≡ min (with_front f n (items_of p)) (item_count p)
    → item_count p ≤ own → with_front f n (items rs) ≡ item_count p + with_front f (n - item_count p) (items qs)
piece_goes f n own rs qs p e is h =
    let len = count_of p in
    ap (λ ps. with_front f n (items ps)) e ∙ with_goes f n (items_of p) (items qs) (omega (arith, is, h, len))
    ∙ ap (λ k. k + with_front f (n - k) (items qs)) len

-- ---- pieces that are taken one at a time

-- with what is to be taken of these pieces, what was taken is this, and that is what stays
pub record Takes (f : Front) (n : ℕ) (taken rs : List Piece) (fs bs : List Item) : Type 0 where
  pub front : items taken ++ take (with_front f n (items rs)) (items rs) ≡ fs
  pub back : drop (with_front f n (items rs)) (items rs) ≡ bs
  pub edge : IsWithCut f n (items rs)

pub takes_none : (f : Front) (n : ℕ) (taken rs : List Piece) (fs bs : List Item) → rs ≡ [] → Takes f n taken rs fs bs
    → (items taken ≡ fs) × (items rs ≡ bs)
takes_none f n taken rs fs bs e h =
    let w = with_front f n (items rs) in
    let none : items rs ≡ [] = ap items e in
    let len : length (items rs) ≡ 0 = ap length none in (
      sym (append-nil (items taken)) ∙ ap (λ xs. items taken ++ xs) (sym (take_all w (items rs) (omega (arith, len)) ∙ none)) ∙ h.front,
      none ∙ sym (drop_all w (items rs) (omega (arith, len))) ∙ h.back,
    )

-- nothing of a piece is taken
pub takes_no_more : (f : Front) (n own : ℕ) (taken rs qs : List Piece) (p : Piece) (fs bs : List Item) → rs ≡ p ∷ qs → IsSoundPiece p
    → own ≡ min (with_front f n (items_of p)) (item_count p) → own ≡ 0 → Takes f n taken rs fs bs → (items taken ≡ fs) × (items rs ≡ bs)
takes_no_more f n own taken rs qs p fs bs e s is zer h =
    let some = sound_some p s in
    let none : with_front f n (items rs) ≡ 0 = piece_stops f n own rs qs p e is (omega (arith, zer, some, count_of p)) ∙ zer in (
      sym (append-nil (items taken)) ∙ sym (ap (λ k. items taken ++ take k (items rs)) none) ∙ h.front,
      sym (ap (λ k. drop k (items rs)) none) ∙ h.back,
    )

-- a piece may be cut where it is not taken whole
pub takes_edge : (f : Front) (n own : ℕ) (rs qs : List Piece) (p : Piece) → rs ≡ p ∷ qs
    → own ≡ min (with_front f n (items_of p)) (item_count p) → 0 < own → IsWithCut f n (items rs) → own < item_count p → IsEdgeIn (items_of p) own
takes_edge f n own rs qs p e is pos edge l =
    let here = piece_stops f n own rs qs p e is l in
    front_edge rs qs p own e pos (subst (λ (k : ℕ). IsEdgeIn (items rs) k) here (edge (omega (arith, here, pos)))) l

-- a part of a piece is taken
pub takes_part : (f : Front) (n own : ℕ) (taken more rs qs rest : List Piece) (p : Piece) (fs bs : List Item) → rs ≡ p ∷ qs
    → own ≡ min (with_front f n (items_of p)) (item_count p) → own < item_count p → items more ≡ items taken ++ take own (items_of p)
    → items rest ≡ drop own (items_of p) ++ items qs → Takes f n taken rs fs bs → (items more ≡ fs) × (items rest ≡ bs)
takes_part f n own taken more rs qs rest p fs bs e is l em er h =
    let here = piece_stops f n own rs qs p e is l in
    let le : own ≤ length (items_of p) = omega (arith, l, count_of p) in (
      em ∙ ap (λ xs. items taken ++ xs) (sym (take-append-le own (items_of p) (items qs) le) ∙ ap (λ ps. take own (items ps)) (sym e))
          ∙ ap (λ k. items taken ++ take k (items rs)) (sym here) ∙ h.front,
      er ∙ sym (drop-append-le own (items_of p) (items qs) le) ∙ ap (λ ps. drop own (items ps)) (sym e)
          ∙ ap (λ k. drop k (items rs)) (sym here) ∙ h.back,
    )

-- a piece is taken whole
past : (p : Piece) (qs rest : List Piece) (own : ℕ) → item_count p ≤ own → items rest ≡ drop own (items_of p) ++ items qs → items rest ≡ items qs
past p qs rest own h er = er ∙ ap (λ xs. xs ++ items qs) (whole_back p own h)

pub takes_whole : (f : Front) (n own k : ℕ) (taken more rs qs rest : List Piece) (p : Piece) (fs bs : List Item) → rs ≡ p ∷ qs
    → own ≡ min (with_front f n (items_of p)) (item_count p) → item_count p ≤ own → k ≡ n - item_count p
    → items more ≡ items taken ++ take own (items_of p) → items rest ≡ drop own (items_of p) ++ items qs
    → Takes f n taken rs fs bs → Takes f k more rest fs bs
takes_whole f n own k taken more rs qs rest p fs bs e is whole ek em er h =
    let w = with_front f n (items rs) in
    let v = with_front f k (items rest) in
    let goes = piece_goes f n own rs qs p e is whole in
    let le : item_count p ≤ w = omega (arith, goes) in
    let at = past p qs rest own whole er in
    let same : v ≡ with_front f (n - item_count p) (items qs) =
    ap (λ m. with_front f m (items rest)) ek ∙ ap (with_front f (n - item_count p)) at in
    let less : v ≡ w - item_count p = omega (arith, goes, same) in
    let all : items more ≡ items taken ++ take w (items_of p) =
    em ∙ ap (λ xs. items taken ++ xs) (whole_front p own whole ∙ sym (whole_front p w le)) in
    let left : items rest ≡ drop w (items_of p) ++ items qs = at ∙ ap (λ xs. xs ++ items qs) (sym (whole_back p w le)) in
    record {
      front = next_front taken more rs qs rest p w v fs e less left all h.front;
      back = next_back rs qs rest p w v bs e less left h.back;
      edge = λ s. next_edge rs qs rest p w v e less left s (h.edge (omega (arith, less, s)));
    }

-- and fewer items are left
pub fewer : (own : ℕ) (rs qs rest : List Piece) (p : Piece) → rs ≡ p ∷ qs → IsSoundPiece p → item_count p ≤ own
    → items rest ≡ drop own (items_of p) ++ items qs → length (items rest) < length (items rs)
fewer own rs qs rest p e s whole er =
    let at = ap length (past p qs rest own whole er) in
    let had = ap (λ ps. length (items ps)) e in
    let len = length-append (items_of p) (items qs) in
    omega (arith, at, had, len, sound_some p s)

-- ---- where the cut is

edge_more : (g : Glyph) (gs : List Glyph) (k : ℕ) → IsEdge gs (suc k) → IsEdge (g ∷ gs) (suc (suc k))
edge_more g gs k (inl end) = inl (ap suc end)
edge_more g gs k (inr (inl low)) = inr (inl low)
edge_more g gs k (inr (inr low)) = inr (inr low)

no_edge : (m k : ℕ) → IsEdge [] (suc m) → IsEdge [] k
no_edge m k (inl end) = absurd (omega (arith, end))
no_edge m k (inr (inl low)) = false_true low
no_edge m k (inr (inr low)) = false_true low

edge_drop : (gs : List Glyph) (n m k : ℕ) → k ≡ n + suc m → IsEdge (drop n gs) (suc m) → IsEdge gs k
edge_drop gs zero m k e h = let z : k ≡ suc m = omega (arith, e) in subst (λ (i : ℕ). IsEdge gs i) (sym z) h
edge_drop [] (suc n) m k e h = no_edge m k h
edge_drop (g ∷ gs) (suc n) m zero e h = absurd (omega (arith, e))
edge_drop (g ∷ gs) (suc n) m (suc zero) e h = absurd (omega (arith, e))
edge_drop (g ∷ gs) (suc n) m (suc (suc k)) e h = edge_more g gs k (edge_drop gs n m (suc k) (omega (arith, e)) h)

edge_behind : (xs : List Item) (n m k : ℕ) → k ≡ n + m → (0 < n → IsEdgeIn xs n) → (0 < m → IsEdgeIn (drop n xs) m) → 0 < k → IsEdgeIn xs k
edge_behind xs n zero k e here behind s =
    let z : k ≡ n = omega (arith, e) in subst (λ (i : ℕ). IsEdgeIn xs i) (sym z) (here (omega (arith, z, s)))
edge_behind xs n (suc m) k e here behind s =
    edge_drop (map glyph_of xs) n m k e
    (subst (λ (gs : List Glyph). IsEdge gs (suc m)) (sym (drop-map glyph_of n xs)) (behind (omega arith)))

pub with_cut : (f : Front) (n : ℕ) (xs : List Item) → (0 < n → IsEdgeIn xs n) → IsFrontCut f (drop n xs) → IsWithCut f n xs
with_cut f n xs here behind s =
    edge_behind xs n (front_len f (drop n xs)) (with_front f n xs)
    (ap (λ ss. n + prefix_len (in_front f) ss) (drop-map sign n xs)) here behind s
