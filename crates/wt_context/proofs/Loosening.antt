-- Items that follow one another, cut into apostrophes and stretches.
use Rattle.std.proofs.Common.{◌≡◌, ℕ, ◌+◌, ◌-◌, ◌<◌, ◌≤◌, Bool, true, false, Option, List, [], ◌∷◌, ◌++◌, length, take, map, get_or, refl, sym, ap, ◌∙◌, subst, arith, append_assoc, append-nil}
use Rattle.std.specs.Prelude.{◌||◌, ◌==◌, not, if◌then◌else◌}
use Rattle.std.specs.List.{list_all, prefix_len}
use Rattle.std.specs.Str.{IsUtf8, IsCharBoundary}
use Rattle.std.proofs.Math.Numerals.{one-add}
use Rattle.std.proofs.lemmas.Bool.Decides.{nat_tests}
use Rattle.std.proofs.lemmas.List.{map-append, take_more, take_all}
use Rattle.std.proofs.lemmas.List.Sums.{prefix_len_stops, prefix_len_passes, prefix_len-le-length}
use Rattle.std.proofs.lemmas.Str.{IsCharBoundary-after_ascii}
use Rattle.std.proofs.lemmas.Grind.{flat_map-append}
use Rattle.wt_span.specs.declared.form.Piece.{Piece}
use Rattle.wt_span.specs.Items.{Item, char, items, items_of}
use Rattle.wt_span.specs.Runs.{runs, IsRun}
use Rattle.wt_span.proofs.RunLaws.{runs_cut, runs_alone}
use Rattle.wt_context.specs.declared.token.Token.{Token}
use Rattle.wt_context.specs.declared.token.Token.TheVariants as token
use Rattle.wt_context.specs.declared.stretch.Stretch.{Stretch}
use Rattle.wt_context.specs.declared.stretch.Quotes.{Quotes}
use Rattle.wt_context.specs.Segments.{Segment, is_quote, are_quotes, are_plain, one_stretch, loose_segment, loose_segments}
use Rattle.wt_context.specs.Tokens.{quote_segments, token_segments, segments_of}
use Rattle.wt_context.specs.Loosened.{is_alike}
use Rattle.wt_context.proofs.Quoting.{and_left, and_right}

-- ---- bytes that are alike

pub alike_quotes : (o : Option ℕ) (bs : List ℕ) (q : Bool) → q ≡ true → list_all (is_alike q) bs ≡ true → are_quotes (map (char o) bs) ≡ true
alike_quotes o [] q e h = refl
alike_quotes o (b ∷ bs) true e h =
    rw (and_left (b == 39) (list_all (is_alike true) bs) h) (alike_quotes o bs true refl (and_right (b == 39) (list_all (is_alike true) bs) h))
alike_quotes o (b ∷ bs) false e h = cc

pub alike_plain : (o : Option ℕ) (bs : List ℕ) (q : Bool) → q ≡ false → list_all (is_alike q) bs ≡ true → are_plain (map (char o) bs) ≡ true
alike_plain o [] q e h = refl
alike_plain o (b ∷ bs) true e h = cc
alike_plain o (b ∷ bs) false e h =
    rw (and_left (not (b == 39)) (list_all (is_alike false) bs) h) (alike_plain o bs false refl (and_right (not (b == 39)) (list_all (is_alike false) bs) h))

taken_by : {A : Type 0} (p : A → Bool) (x : A) (xs : List A) (v : Bool) (n : ℕ) → p x ≡ v → list_all p (take n xs) ≡ true
    → list_all p (take (if v then 1 + n else 0) (x ∷ xs)) ≡ true
taken_by p x xs false n e h = refl
taken_by p x xs true n e h = rw (one-add n, e) h

pub all_taken : {A : Type 0} (p : A → Bool) (xs : List A) → list_all p (take (prefix_len p xs) xs) ≡ true
all_taken p [] = refl
all_taken p (x ∷ xs) = taken_by p x xs (p x) (prefix_len p xs) refl (all_taken p xs)

no_other : (b : ℕ) → not (b == 39) ≡ false → b ≡ 39
no_other b e = grind (arith, nat_tests)

is_one : (b : ℕ) → (b == 39) ≡ true → b ≡ 39
is_one b e = grind (arith, nat_tests)

passes_first : {A : Type 0} (p : A → Bool) (xs : List A) (d : A) → 0 < length xs → p (get_or xs 0 d) ≡ true → 0 < prefix_len p xs
passes_first p [] d s e = absurd (omega arith)
passes_first p (x ∷ xs) d s e = rw e (omega arith)

-- a text can be cut behind them
pub alike_border : (bs : List ℕ) (q : Bool) (n : ℕ) → IsUtf8 bs → 0 < length bs → q ≡ (get_or bs 0 0 == 39) → n ≡ prefix_len (is_alike q) bs
    → IsCharBoundary bs n
alike_border bs false n u s e i =
    let w = prefix_len-le-length (is_alike false) bs in (
      omega (arith, i, w),
      λ l high. let k : prefix_len (is_alike false) bs < length bs = omega (arith, i, l) in
          let is = no_other _ (ap (λ m. is_alike false (get_or bs m 0)) i ∙ prefix_len_stops (is_alike false) bs 0 k) in absurd (omega arith),
    )
alike_border bs true n u s e i =
    let w = prefix_len-le-length (is_alike true) bs in
    let some = passes_first (is_alike true) bs 0 s (sym e) in
    let k : n - 1 < prefix_len (is_alike true) bs = omega (arith, i, some) in
    let is = is_one _ (prefix_len_passes (is_alike true) bs (n - 1) 0 k) in
    let z : n - 1 + 1 ≡ n = omega (arith, i, some) in
    subst (IsCharBoundary bs) z (IsCharBoundary-after_ascii bs (n - 1) u (omega (arith, k, w)) (omega (arith, is)))

-- ---- stretches

pub loose_none : loose_segments [] ≡ []
unfolding loose_segments
loose_none = refl

both_plain : (x y : Item) → not (is_quote x) ≡ true → not (is_quote y) ≡ true → one_stretch x y ≡ true
both_plain x y e f = plain_by (is_quote x) (is_quote y) e f
  where
    plain_by : (a b : Bool) → not a ≡ true → not b ≡ true → not (a || b) ≡ true
    plain_by true b g h = cc
    plain_by false b g h = h

plain_run : (xs : List Item) → 0 < length xs → are_plain xs ≡ true → IsRun one_stretch xs []
plain_run [] s e = absurd (omega arith)
plain_run (x ∷ []) s e = tt
plain_run (x ∷ y ∷ ys) s e =
    let t = and_right (not (is_quote x)) (are_plain (y ∷ ys)) e in
    (both_plain x y (and_left (not (is_quote x)) (are_plain (y ∷ ys)) e) (and_left (not (is_quote y)) (are_plain ys) t), plain_run (y ∷ ys) (omega arith) t)

-- a stretch is one segment
pub loose_one : (xs : List Item) → 0 < length xs → are_plain xs ≡ true → loose_segments xs ≡ loose_segment xs ∷ []
unfolding loose_segments
loose_one xs s e = ap (λ ys. map loose_segment (runs one_stretch ys)) (sym (append-nil xs))
    ∙ ap (map loose_segment) (runs_cut one_stretch xs [] (plain_run xs s e))

left_of : (q x : Item) → is_quote q ≡ true → one_stretch x q ≡ false
left_of q x e = by (is_quote x) (is_quote q) e
  where
    by : (a b : Bool) → b ≡ true → not (a || b) ≡ false
    by true b h = refl
    by false b h = rw h refl

right_of : (q x : Item) → is_quote q ≡ true → one_stretch q x ≡ false
right_of q x e = rw e refl

-- an apostrophe is a segment by itself
pub loose_quote : (q : Item) (xs ys : List Item) → is_quote q ≡ true
    → loose_segments (xs ++ q ∷ ys) ≡ loose_segments xs ++ loose_segment (q ∷ []) ∷ loose_segments ys
unfolding loose_segments
loose_quote q xs ys e =
    ap (map loose_segment) (runs_alone one_stretch q xs ys (λ x. left_of q x e) (λ x. right_of q x e))
    ∙ map-append loose_segment (runs one_stretch xs) ((q ∷ []) ∷ runs one_stretch ys)

pub quotes_before : (qs ys : List Item) → are_quotes qs ≡ true → loose_segments (qs ++ ys) ≡ quote_segments qs ++ loose_segments ys
quotes_before [] ys e = refl
quotes_before (q ∷ qs) ys e =
    let f = and_left (is_quote q) (are_quotes qs) e in
    loose_quote q [] (qs ++ ys) f ∙ ap (λ us. us ++ loose_segment (q ∷ []) ∷ loose_segments (qs ++ ys)) loose_none
    ∙ ap (λ us. loose_segment (q ∷ []) ∷ us) (quotes_before qs ys (and_right (is_quote q) (are_quotes qs) e))

pub quotes_behind : (xs qs ys : List Item) → 0 < length qs → are_quotes qs ≡ true
    → loose_segments (xs ++ (qs ++ ys)) ≡ loose_segments xs ++ (quote_segments qs ++ loose_segments ys)
quotes_behind xs [] ys s e = absurd (omega arith)
quotes_behind xs (q ∷ qs) ys s e =
    loose_quote q xs (qs ++ ys) (and_left (is_quote q) (are_quotes qs) e)
    ∙ ap (λ us. loose_segments xs ++ loose_segment (q ∷ []) ∷ us) (quotes_before qs ys (and_right (is_quote q) (are_quotes qs) e))

-- ---- tokens

pub segments_more : (ts us : List Token) (t : Token) → us ≡ ts ++ t ∷ [] → segments_of us ≡ segments_of ts ++ token_segments t
segments_more ts us t e = ap segments_of e ∙ flat_map-append token_segments ts (t ∷ []) ∙ ap (λ ss. segments_of ts ++ ss) (append-nil (token_segments t))

-- no stretch is open
pub closed_none : (ts : List Token) (ps : List Piece) → ps ≡ [] → segments_of ts ≡ segments_of ts ++ loose_segments (items ps ++ [])
closed_none ts ps e = sym (append-nil (segments_of ts)) ∙ ap (λ ss. segments_of ts ++ ss) (sym loose_none ∙ ap (λ qs. loose_segments (items qs ++ [])) (sym e))

-- one is
pub closed_one : (ts us : List Token) (s : Stretch) → 0 < length (items s.pieces) → us ≡ ts ++ token.Stretch s ∷ []
    → segments_of us ≡ segments_of ts ++ loose_segments (items s.pieces ++ [])
closed_one ts us s some e =
    segments_more ts us (token.Stretch s) e
    ∙ ap (λ ss. segments_of ts ++ ss) (sym (loose_one (items s.pieces) some s.plain) ∙ ap loose_segments (sym (append-nil (items s.pieces))))

-- apostrophes end it
pub with_quotes_by : (old mid new : List Token) (ps qs : List Piece) (q : Quotes) → segments_of mid ≡ segments_of old ++ loose_segments (items ps ++ [])
    → new ≡ mid ++ token.Quotes q ∷ [] → items qs ≡ []
    → (xs : List Item) → segments_of new ++ loose_segments (items qs ++ xs) ≡ segments_of old ++ loose_segments (items ps ++ (items_of q.piece ++ xs))
with_quotes_by old mid new ps qs q e f z xs =
    ap (λ ys. segments_of new ++ loose_segments (ys ++ xs)) z
    ∙ ap (λ ss. ss ++ loose_segments xs)
    (segments_more mid new (token.Quotes q) f
    ∙ ap (λ ss. ss ++ quote_segments (items_of q.piece)) (e ∙ ap (λ ys. segments_of old ++ loose_segments ys) (append-nil (items ps))))
    ∙ append_assoc (segments_of old ++ loose_segments (items ps)) (quote_segments (items_of q.piece)) (loose_segments xs)
    ∙ append_assoc (segments_of old) (loose_segments (items ps)) (quote_segments (items_of q.piece) ++ loose_segments xs)
    ∙ ap (λ ss. segments_of old ++ ss) (sym (quotes_behind (items ps) (items_of q.piece) xs q.some q.quotes))

-- ---- more of the items

pub text_step : (f : List Item → List Segment) (g : List Item → List Segment) (h : List Item → List Segment) (o : Option ℕ) (all front after rest : List ℕ)
    → rest ≡ front ++ after
    → ((xs : List Item) → h xs ≡ g (map (char o) front ++ xs)) → ((xs : List Item) → g (map (char o) rest ++ xs) ≡ f (map (char o) all ++ xs))
    → (xs : List Item) → h (map (char o) after ++ xs) ≡ f (map (char o) all ++ xs)
text_step f g h o all front after rest e a i xs =
    a (map (char o) after ++ xs)
    ∙ ap g (sym (append_assoc (map (char o) front) (map (char o) after) xs)
    ∙ ap (λ ys. ys ++ xs) (sym (map-append (char o) front after) ∙ ap (map (char o)) (sym e)))
    ∙ i xs

pub piece_step : (ss : List Segment) (g h : List Item → List Segment) (ps : List Piece) (at : ℕ) (p : Piece) → at < length ps → p ≡ get_or ps at p
    → ((xs : List Item) → h xs ≡ g (items_of p ++ xs)) → ((xs : List Item) → g xs ≡ ss ++ loose_segments (items (take at ps) ++ xs)) → (xs : List Item)
    → h xs ≡ ss ++ loose_segments (items (take (at + 1) ps) ++ xs)
piece_step ss g h ps at p l e a i xs =
    let more : take (at + 1) ps ≡ take at ps ++ p ∷ [] = take_more ps at p l ∙ ap (λ q. take at ps ++ q ∷ []) (sym e) in
    let one : items (take (at + 1) ps) ≡ items (take at ps) ++ items_of p = ap items more ∙ flat_map-append items_of (take at ps) (p ∷ [])
    ∙ ap (λ ys. items (take at ps) ++ ys) (append-nil (items_of p)) in
    a xs ∙ i (items_of p ++ xs)
    ∙ ap (λ ys. ss ++ loose_segments ys) (sym (append_assoc (items (take at ps)) (items_of p) xs) ∙ ap (λ ys. ys ++ xs) (sym one))

pub piece_done : (ss ts : List Segment) (g : List Item → List Segment) (ps : List Piece) (at : ℕ) → length ps ≤ at → ts ≡ g []
    → ((xs : List Item) → g xs ≡ ss ++ loose_segments (items (take at ps) ++ xs)) → ts ≡ ss ++ loose_segments (items ps)
piece_done ss ts g ps at l e i = e ∙ i [] ∙ ap (λ ys. ss ++ loose_segments ys) (append-nil (items (take at ps)) ∙ ap items (take_all at ps l))
