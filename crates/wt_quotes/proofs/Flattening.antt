-- The delimiters of the line are the apostrophes that switch.
use Rattle.std.proofs.Common.{◌≡◌, ℕ, ◌+◌, ◌-◌, ◌<◌, ◌≤◌, zero, suc, Bool, true, false, not, List, [], ◌∷◌, ◌++◌, length, get_or, refl, sym, ap, subst, ◌∙◌, arith, inl, inr, ◌⊎◌}
use Rattle.std.specs.Prelude.{◌&&◌, nat_lt, nat_le, All, count_by}
use Rattle.std.proofs.lemmas.Bool.{cases_lt}
use Rattle.std.proofs.lemmas.Bool.Decides.{nat_tests}
use Rattle.std.proofs.lemmas.List.Sums.{sum_by-append, sum_by-cons}
use Rattle.wt_quotes.specs.declared.chunk.Chunk.{Chunk}
use Rattle.wt_quotes.specs.declared.style.Style.{Style}
use Rattle.wt_quotes.specs.Runs.{bytes_of}
use Rattle.wt_quotes.specs.Toggles.{toggles_of}
use Rattle.wt_quotes.specs.Styles.{styles_by, style_tree_of}
use Rattle.wt_quotes.specs.StyleLaws.{delimits, is_switch}
use Rattle.wt_quotes.specs.Forest.{Forest, bare, grown, preorder, forest_of, Piece, text, mark, pieces, AreJoined, IsAllSwitch, line_of, FlattenedIsTheLine}
use Rattle.wt_quotes.proofs.SixStates.{run}
use Rattle.wt_quotes.proofs.Nesting.{nested, whole, begin_from}
use Rattle.wt_quotes.proofs.Counting.{one}
use Rattle.wt_quotes.proofs.Reading.{steps_of, are_steps, styles_read}
use Rattle.wt_quotes.proofs.Bytes.{each_switch}
use Rattle.wt_quotes.proofs.Planting.{Fill, fill_le, joined, fills, preorder_of}

-- pieces that have a byte, and the delimiters and texts among them

abbrev contains : ℕ → Piece → Bool
contains p q = nat_le q.from p && nat_lt p q.to

abbrev cuts : ℕ → Piece → Bool
cuts p q = q.delimiter && contains p q

abbrev texts : ℕ → Piece → Bool
texts p q = not q.delimiter && contains p q

contains_yes : (p : ℕ) (q : Piece) → q.from ≤ p → p < q.to → contains p q ≡ true
contains_yes p q h k = grind (arith, nat_tests)

contains_no : (p : ℕ) (q : Piece) → (p < q.from) ⊎ (q.to ≤ p) → contains p q ≡ false
contains_no p q (inl h) = grind (arith, nat_tests)
contains_no p q (inr h) = grind (arith, nat_tests)

count_before : (p low high : ℕ) (qs : List Piece) → AreJoined low high qs → p < low → count_by (contains p) qs ≡ 0
count_before p low high [] h l = refl
count_before p low high (q ∷ qs) h l =
    let no = ap one (contains_no p q (inl (omega (arith, h.0)))) in
    omega (arith, sum_by-cons (λ r. one (contains p r)) q qs, no, count_before p q.to high qs h.2 (omega (arith, h.0, h.1)))

count_one : (p low high : ℕ) (qs : List Piece) → AreJoined low high qs → low ≤ p → p < high → count_by (contains p) qs ≡ 1
count_one p low high [] h l m = absurd (omega (arith, h))
count_one p low high (q ∷ qs) h l m = one_by (cases_lt p q.to) (λ k. count_one p q.to high qs h.2 k m)
  where
    one_by : ((p < q.to) ⊎ (q.to ≤ p)) → (q.to ≤ p → count_by (contains p) qs ≡ 1) → count_by (contains p) (q ∷ qs) ≡ 1
    one_by (inl k) f = let yes = ap one (contains_yes p q (omega (arith, h.0)) k) in
        omega (arith, sum_by-cons (λ r. one (contains p r)) q qs, yes, count_before p q.to high qs h.2 k)
    one_by (inr k) f = let no = ap one (contains_no p q (inr k)) in omega (arith, sum_by-cons (λ r. one (contains p r)) q qs, no, f k)

joined_le : (low high : ℕ) (qs : List Piece) → AreJoined low high qs → low ≤ high
joined_le low high [] h = omega (arith, h)
joined_le low high (q ∷ qs) h = omega (arith, h.0, h.1, joined_le q.to high qs h.2)

piece_within : (low high : ℕ) (qs : List Piece) → AreJoined low high qs → All (λ q. q.to ≤ high) qs
piece_within low high [] h i d l = absurd (omega arith)
piece_within low high (q ∷ qs) h zero d l = joined_le q.to high qs h.2
piece_within low high (q ∷ qs) h (suc i) d l = piece_within q.to high qs h.2 i d (omega arith)

both_kinds : (b c : Bool) → one c ≡ one (b && c) + one (not b && c)
both_kinds true c = omega arith
both_kinds false c = omega arith

count_kinds : (p : ℕ) (qs : List Piece) → count_by (contains p) qs ≡ count_by (cuts p) qs + count_by (texts p) qs
count_kinds p [] = refl
count_kinds p (q ∷ qs) =
    omega (
      arith,
      sum_by-cons (λ r. one (contains p r)) q qs,
      sum_by-cons (λ r. one (cuts p r)) q qs,
      sum_by-cons (λ r. one (texts p r)) q qs,
      both_kinds q.delimiter (contains p q),
      count_kinds p qs,
    )

count_at : (r : Piece → Bool) (qs : List Piece) (i : ℕ) (d : Piece) → i < length qs → one (r (get_or qs i d)) ≤ count_by r qs
count_at r [] i d l = absurd (omega arith)
count_at r (q ∷ qs) zero d l = omega (arith, sum_by-cons (λ x. one (r x)) q qs)
count_at r (q ∷ qs) (suc i) d l = omega (arith, sum_by-cons (λ x. one (r x)) q qs, count_at r qs i d (omega arith))

-- the delimiters that a forest shows are those of its styles

two_marks : (s : Style) (p : ℕ) → s.from + s.open_w ≤ s.to - s.close_w → s.close_w ≤ s.to
    → one (nat_le s.from p && nat_lt p (s.from + s.open_w)) + one (nat_le (s.to - s.close_w) p && nat_lt p s.to) ≡ one (delimits p s)
two_marks s p h k = grind (arith, nat_tests)

pub count_cuts : (p low high : ℕ) (f : Forest) → Fill low high f → count_by (cuts p) (pieces low high f) ≡ count_by (delimits p) (preorder f)
count_cuts p low high bare h = refl
count_cuts p low high (grown s f g) h =
    let inner : List Piece = pieces (s.from + s.open_w) (s.to - s.close_w) f in
    let outer : List Piece = pieces s.to high g in
    let opening : Piece = mark s.from (s.from + s.open_w) in
    let closing : Piece = mark (s.to - s.close_w) s.to in
    let a = sum_by-cons (λ x. one (cuts p x)) (text low s.from) (opening ∷ (inner ++ (closing ∷ outer))) in
    let b = sum_by-cons (λ x. one (cuts p x)) opening (inner ++ (closing ∷ outer)) in
    let c = sum_by-append (λ x. one (cuts p x)) inner (closing ∷ outer) in
    let d = sum_by-cons (λ x. one (cuts p x)) closing outer in
    let e = sum_by-cons (λ x. one (delimits p x)) s (preorder f ++ preorder g) in
    let i = sum_by-append (λ x. one (delimits p x)) (preorder f) (preorder g) in
    let j = two_marks s p (fill_le (s.from + s.open_w) (s.to - s.close_w) f h.1) h.2 in
    omega (arith, a, b, c, d, e, i, j, count_cuts p (s.from + s.open_w) (s.to - s.close_w) f h.1, count_cuts p s.to high g h.3)

-- each piece of a context's line

pub context_fills : (chunks : List Chunk) → Fill 0 (bytes_of chunks) (forest_of (style_tree_of chunks))
context_fills chunks =
    let rs = steps_of chunks (toggles_of chunks) in
    let us : List Style = styles_by (bytes_of chunks) (run false false false rs) in
    let steps = are_steps chunks in
    subst (λ ss. Fill 0 (bytes_of chunks) (forest_of ss)) (sym (styles_read chunks))
    (fills 0 (bytes_of chunks) us (nested (bytes_of chunks) 0 false false false rs steps)
    (whole (bytes_of chunks) 0 false false false rs steps) (begin_from (bytes_of chunks) 0 false false false rs steps) (omega arith))

is_yes : (b : Bool) → 1 ≤ one b → b ≡ true
is_yes true h = refl
is_yes false h = absurd (omega arith)

is_no : (b : Bool) → one b ≡ 0 → b ≡ false
is_no true h = absurd (omega arith)
is_no false h = refl

switch_by : (b c switch : Bool) (marks plain : ℕ) → c ≡ true → marks + plain ≡ 1 → marks ≡ one switch → one (b && c) ≤ marks
    → one (not b && c) ≤ plain → switch ≡ b
switch_by true c switch marks plain e sum is h k = is_yes switch (omega (arith, ap one e, is, h))
switch_by false c switch marks plain e sum is h k = is_no switch (omega (arith, ap one e, is, k, sum))

all_switch : (chunks : List Chunk) → All (IsAllSwitch chunks) (line_of chunks)
all_switch chunks k d l p low high =
    let total : ℕ = bytes_of chunks in
    let f : Forest = forest_of (style_tree_of chunks) in
    let qs : List Piece = line_of chunks in
    let q : Piece = get_or qs k d in
    let fill = context_fills chunks in
    let tiles = joined 0 total f fill in
    let m : p < total = omega (arith, high, piece_within 0 total qs tiles k d l) in
    let marks = count_cuts p 0 total f fill ∙ ap (count_by (delimits p)) (preorder_of (style_tree_of chunks)) ∙ each_switch chunks p m in
    let sum = sym (count_kinds p qs) ∙ count_one p 0 total qs tiles (omega arith) m in
    switch_by q.delimiter (contains p q) (is_switch chunks p) (count_by (cuts p) qs) (count_by (texts p) qs)
    (contains_yes p q low high) sum marks (count_at (cuts p) qs k d l) (count_at (texts p) qs k d l)

pub flattened : (chunks : List Chunk) → FlattenedIsTheLine chunks
flattened chunks = (preorder_of (style_tree_of chunks), joined 0 (bytes_of chunks) (forest_of (style_tree_of chunks)) (context_fills chunks), all_switch chunks)
