-- Pieces one after the other: what lies of them in a slice is what lies of their items, and those before and after the slice hold none.
use Rattle.std.proofs.Common.{◌≡◌, ℕ, zero, suc, ◌+◌, ◌<◌, ◌≤◌, inl, inr, Bool, true, false, cond, List, [], ◌∷◌, ◌++◌, length, map, drop, get_or, refl, sym, ap, ◌∙◌, subst, arith, append-nil}
use Rattle.std.specs.Prelude.{◌==◌, All, slice_get}
use Rattle.std.specs.List.{AllByRecursion}
use Rattle.std.proofs.lemmas.Bool.Decides.{nat_tests}
use Rattle.std.proofs.lemmas.List.Elements.{All-head, All-tail}
use Rattle.std.proofs.lemmas.List.{length-map, get_or-map}
use Rattle.std.proofs.lemmas.Grind.{flat_map-append}
use Rattle.wt_span.specs.declared.form.Piece.{Piece}
use Rattle.wt_span.specs.declared.origin.Origin.{Origin}
use Rattle.wt_span.specs.declared.origin.Origin.TheVariants as origin
use Rattle.wt_span.specs.Items.{Item, items_of, items}
use Rattle.wt_span.specs.Origins.{OuterCall, Span, AreItems, IsAmong, IsSoundPiece, FollowFrom, origin_before, once, span_of_entry, span_of_origin}
use Rattle.wt_lines.proofs.PieceSigns.{false_true}
use Rattle.wt_tree.specs.declared.kind.Ranges.{Ranges}
use Rattle.wt_isolation.specs.GroupItems.{items_in, break_before, with_break_anew, empty_nowiki, items_alone}
use Rattle.wt_isolation.specs.PieceParts.{span_of_piece, part_of, parts_of, AreOrderly}
use Rattle.wt_isolation.proofs.SliceItems.{place_after, in_append, after_piece, free_next, no_part, ordered}

abbrev pub origins : List Piece → List Origin
origins ps = map (λ p. p.origin) ps

abbrev Follow : List OuterCall → ℕ → List Piece → Type 0
Follow cs at ps = FollowFrom at (map (span_of_origin cs) (once (origins ps)))

-- ---- what lies of items is what lies of their pieces

two : (xs ys : List Item) (us vs : List Item) → xs ≡ us → ys ≡ vs → xs ++ ys ≡ us ++ vs
two xs ys us vs e f = ap (λ zs. zs ++ ys) e ∙ ap (λ zs. us ++ zs) f

step_apart : (cs : List OuterCall) (r : Ranges) (at : ℕ) (p : Piece) (ps : List Piece) → IsSoundPiece p → (span_of_piece cs p).0 ≡ at
    → items_in cs r (span_of_piece cs p).1 (items ps) ≡ parts_of cs r ps
    → items_in cs r at (items_of p ++ items ps) ≡ part_of cs r p ++ parts_of cs r ps
step_apart cs r at p ps h e rest =
    let from = (span_of_piece cs p).0 in
    ap (λ (k : ℕ). items_in cs r k (items_of p ++ items ps)) (sym e) ∙ in_append cs r from (items_of p) (items ps)
    ∙ two (items_in cs r from (items_of p)) (items_in cs r (place_after cs from (items_of p)) (items ps)) (part_of cs r p) (parts_of cs r ps) refl
    (ap (λ (k : ℕ). items_in cs r k (items ps)) (after_piece cs p h) ∙ rest)

-- pieces of one call stand at one place
same_place : (cs : List OuterCall) (o q : Origin) (os : List Origin) → origin_before (q ∷ os) o ≡ true → span_of_origin cs o ≡ span_of_origin cs q
same_place cs (origin.Page s) q os t = false_true t
same_place cs (origin.Call j) (origin.Page s) os t = false_true t
same_place cs (origin.Call j) (origin.Call k) os t = let e : j ≡ k = grind (arith, nat_tests) in ap (λ (n : ℕ). span_of_entry (slice_get cs n)) e

self_call : (cs : List OuterCall) (r : Ranges) (o q : Origin) (os : List Origin) (p : Piece) (at to : ℕ) → o ≡ p.origin
    → origin_before (q ∷ os) o ≡ true → IsSoundPiece p → items_in cs r at (items_of p ++ []) ≡ items_in cs r to (items_of p ++ [])
self_call cs r (origin.Page s) q os p at to e t h = false_true t
self_call cs r (origin.Call j) q os p at to e t h =
    let same : (j == j) ≡ true = grind (arith, nat_tests) in
    free_next cs r (origin.Call j) at to p (origin.Call j) e same [] h

step_same : (cs : List OuterCall) (r : Ranges) (at : ℕ) (p q : Piece) (qs : List Piece) → IsSoundPiece p → IsSoundPiece q
    → origin_before (q.origin ∷ origins qs) p.origin ≡ true
    → items_in cs r at (items (q ∷ qs)) ≡ parts_of cs r (q ∷ qs)
    → items_in cs r at (items_of p ++ items (q ∷ qs)) ≡ part_of cs r p ++ parts_of cs r (q ∷ qs)
step_same cs r at p q qs h i t rest =
    let from = (span_of_piece cs p).0 in
    let own : items_in cs r at (items_of p) ≡ part_of cs r p =
    ap (λ (xs : List Item). items_in cs r at xs) (sym (append-nil (items_of p))) ∙ self_call cs r p.origin q.origin (origins qs) p at from refl t h
    ∙ ap (λ (xs : List Item). items_in cs r from xs) (append-nil (items_of p)) in
    let later = place_after cs at (items_of p) in
    in_append cs r at (items_of p) (items (q ∷ qs))
    ∙ two (items_in cs r at (items_of p)) (items_in cs r later (items (q ∷ qs))) (part_of cs r p) (parts_of cs r (q ∷ qs)) own
    (free_next cs r p.origin later at q q.origin refl t (items qs) i ∙ rest)

chain_by : (cs : List OuterCall) (r : Ranges) (at : ℕ) (p : Piece) (ps : List Piece) (v : Bool) → origin_before (origins ps) p.origin ≡ v
    → AllByRecursion IsSoundPiece (p ∷ ps) → FollowFrom at (map (span_of_origin cs) (cond v (once (origins ps)) (p.origin ∷ once (origins ps))))
    → ((to : ℕ) → Follow cs to ps → items_in cs r to (items ps) ≡ parts_of cs r ps)
    → items_in cs r at (items_of p ++ items ps) ≡ part_of cs r p ++ parts_of cs r ps
chain_by cs r at p ps false t h f rest = step_apart cs r at p ps h.0 f.0 (rest (span_of_piece cs p).1 f.1)
chain_by cs r at p [] true t h f rest = false_true t
chain_by cs r at p (q ∷ qs) true t h f rest = step_same cs r at p q qs h.0 h.1.0 t (rest at f)

chain : (cs : List OuterCall) (r : Ranges) (at : ℕ) (ps : List Piece) → AllByRecursion IsSoundPiece ps → Follow cs at ps
    → items_in cs r at (items ps) ≡ parts_of cs r ps
chain cs r at [] h f = refl
chain cs r at (p ∷ ps) h f = chain_by cs r at p ps (origin_before (origins ps) p.origin) refl h f (λ to g. chain cs r to ps h.1 g)

-- ---- the places of pieces rise

abbrev Later : List OuterCall → Piece → Piece → Type 0
Later cs p q = ((span_of_piece cs p).0 ≤ (span_of_piece cs q).0) × ((span_of_piece cs p).1 ≤ (span_of_piece cs q).1)

abbrev LiesFrom : List OuterCall → ℕ → Piece → Type 0
LiesFrom cs at q = (at ≤ (span_of_piece cs q).0) × (at ≤ (span_of_piece cs q).1)

abbrev Rise : List OuterCall → List Piece → Type 0
Rise cs [] = Unit {0}
Rise cs (p ∷ ps) = AllByRecursion (Later cs p) ps × Rise cs ps

turned : (P Q : Piece → Type 0) (ps : List Piece) → ((p : Piece) → P p → Q p) → AllByRecursion P ps → AllByRecursion Q ps
turned P Q [] f h = tt
turned P Q (p ∷ ps) f h = (f p h.0, turned P Q ps f h.1)

lie_by : (cs : List OuterCall) (at : ℕ) (p : Piece) (ps : List Piece) (v : Bool) → origin_before (origins ps) p.origin ≡ v
    → AllByRecursion IsSoundPiece (p ∷ ps) → FollowFrom at (map (span_of_origin cs) (cond v (once (origins ps)) (p.origin ∷ once (origins ps))))
    → ((to : ℕ) → Follow cs to ps → AllByRecursion (LiesFrom cs to) ps) → AllByRecursion (LiesFrom cs at) (p ∷ ps)
lie_by cs at p ps false t h f rest =
    let o = ordered cs p h.0 in
    let e : (span_of_piece cs p).0 ≡ at = f.0 in (
      (omega (arith, o, e), omega (arith, o, e)),
      turned (LiesFrom cs (span_of_piece cs p).1) (LiesFrom cs at) ps
          (λ q l. let a = l.0 in let b = l.1 in (omega (arith, o, e, a), omega (arith, o, e, b))) (rest (span_of_piece cs p).1 f.1),
    )
lie_by cs at p [] true t h f rest = false_true t
lie_by cs at p (q ∷ qs) true t h f rest =
    let l = rest at f in
    let e : span_of_origin cs q.origin ≡ span_of_origin cs p.origin = sym (same_place cs p.origin q.origin (origins qs) t) in
    (subst (λ (s : Span). (at ≤ s.0) × (at ≤ s.1)) e l.0, l)

lie : (cs : List OuterCall) (at : ℕ) (ps : List Piece) → AllByRecursion IsSoundPiece ps → Follow cs at ps → AllByRecursion (LiesFrom cs at) ps
lie cs at [] h f = tt
lie cs at (p ∷ ps) h f = lie_by cs at p ps (origin_before (origins ps) p.origin) refl h f (λ to g. lie cs to ps h.1 g)

rise_by : (cs : List OuterCall) (at : ℕ) (p : Piece) (ps : List Piece) (v : Bool) → origin_before (origins ps) p.origin ≡ v
    → AllByRecursion IsSoundPiece (p ∷ ps) → FollowFrom at (map (span_of_origin cs) (cond v (once (origins ps)) (p.origin ∷ once (origins ps))))
    → ((to : ℕ) → Follow cs to ps → Rise cs ps) → Rise cs (p ∷ ps)
rise_by cs at p ps false t h f rest =
    let o = ordered cs p h.0 in (
      turned (LiesFrom cs (span_of_piece cs p).1) (Later cs p) ps
          (λ q l. let a = l.0 in let b = l.1 in (omega (arith, o, a), b)) (lie cs (span_of_piece cs p).1 ps h.1 f.1),
      rest (span_of_piece cs p).1 f.1,
    )
rise_by cs at p [] true t h f rest = false_true t
rise_by cs at p (q ∷ qs) true t h f rest =
    let l = rest at f in
    let e : span_of_origin cs q.origin ≡ span_of_origin cs p.origin = sym (same_place cs p.origin q.origin (origins qs) t) in
    let own : Later cs q q = (omega arith, omega arith) in
    let all : AllByRecursion (Later cs q) (q ∷ qs) = (own, l.0) in
    (subst (λ (s : Span). AllByRecursion (λ z. (s.0 ≤ (span_of_piece cs z).0) × (s.1 ≤ (span_of_piece cs z).1)) (q ∷ qs)) e all, l)

rise : (cs : List OuterCall) (at : ℕ) (ps : List Piece) → AllByRecursion IsSoundPiece ps → Follow cs at ps → Rise cs ps
rise cs at [] h f = tt
rise cs at (p ∷ ps) h f = rise_by cs at p ps (origin_before (origins ps) p.origin) refl h f (λ to g. rise cs to ps h.1 g)

-- ---- before and after the slice

pub member : (P : Piece → Type 0) (ps : List Piece) (k : ℕ) (d : Piece) → k < length ps → AllByRecursion P ps → P (get_or ps k d)
member P [] k d l h = absurd (omega (arith, l))
member P (p ∷ ps) zero d l h = h.0
member P (p ∷ ps) (suc k) d l h = let m : length (p ∷ ps) ≡ suc (length ps) = refl in member P ps k d (omega (arith, l, m)) h.1

skip : (cs : List OuterCall) (r : Ranges) (k : ℕ) (d : Piece) (ps : List Piece) → AllByRecursion IsSoundPiece ps → Rise cs ps → k < length ps
    → (span_of_piece cs (get_or ps k d)).1 < r.start → parts_of cs r (drop (suc k) ps) ≡ parts_of cs r ps
skip cs r k d [] h u l b = absurd (omega (arith, l))
skip cs r zero d (p ∷ ps) h u l b = ap (λ xs. xs ++ parts_of cs r ps) (sym (no_part cs r p h.0 (inl b)))
skip cs r (suc k) d (p ∷ ps) h u l b =
    let m : length (p ∷ ps) ≡ suc (length ps) = refl in
    let less : k < length ps = omega (arith, l, m) in
    let later = (member (Later cs p) ps k d less u.0).1 in
    skip cs r k d ps h.1 u.1 less b ∙ ap (λ xs. xs ++ parts_of cs r ps) (sym (no_part cs r p h.0 (inl (omega (arith, later, b)))))

none_later : (cs : List OuterCall) (r : Ranges) (p : Piece) (ps : List Piece) → AllByRecursion IsSoundPiece ps → AllByRecursion (Later cs p) ps
    → r.end < (span_of_piece cs p).0 → parts_of cs r ps ≡ []
none_later cs r p [] h u b = refl
none_later cs r p (q ∷ qs) h u b =
    let later = u.0.0 in
    ap (λ xs. xs ++ parts_of cs r qs) (no_part cs r q h.0 (inr (omega (arith, later, b)))) ∙ none_later cs r p qs h.1 u.1 b

stop : (cs : List OuterCall) (r : Ranges) (k : ℕ) (d : Piece) (ps : List Piece) → AllByRecursion IsSoundPiece ps → Rise cs ps → k < length ps
    → r.end < (span_of_piece cs (get_or ps k d)).0 → parts_of cs r (drop k ps) ≡ []
stop cs r k d [] h u l b = absurd (omega (arith, l))
stop cs r zero d (p ∷ ps) h u l b = ap (λ xs. xs ++ parts_of cs r ps) (no_part cs r p h.0 (inr b)) ∙ none_later cs r p ps h.1 u.0 b
stop cs r (suc k) d (p ∷ ps) h u l b =
    let m : length (p ∷ ps) ≡ suc (length ps) = refl in
    stop cs r k d ps h.1 u.1 (omega (arith, l, m)) b

-- ---- pieces of a page

all_sound : (ps : List Piece) → All IsSoundPiece ps → AllByRecursion IsSoundPiece ps
all_sound [] h = tt
all_sound (p ∷ ps) h = (All-head IsSoundPiece p ps h, all_sound ps (All-tail IsSoundPiece p ps h))

-- what lies of the items in a slice is what lies of their pieces
pub parts_are : (cs : List OuterCall) (r : Ranges) (ps : List Piece) → AreOrderly cs ps → items_in cs r 0 (items ps) ≡ parts_of cs r ps
parts_are cs r ps h = chain cs r 0 ps (all_sound ps h.sound) h.follow

-- of pieces up to one that ends before the slice, nothing lies in it
pub nothing_before : (cs : List OuterCall) (r : Ranges) (ps : List Piece) (k : ℕ) (d : Piece) → AreOrderly cs ps → k < length ps
    → (span_of_piece cs (get_or ps k d)).1 < r.start → parts_of cs r (drop (k + 1) ps) ≡ parts_of cs r ps
nothing_before cs r ps k d h l b =
    let sound = all_sound ps h.sound in
    let e : k + 1 ≡ suc k = omega arith in
    ap (λ (n : ℕ). parts_of cs r (drop n ps)) e ∙ skip cs r k d ps sound (rise cs 0 ps sound h.follow) l b

-- of pieces from one on that begins after the slice, nothing lies in it
pub nothing_after : (cs : List OuterCall) (r : Ranges) (ps : List Piece) (k : ℕ) (d : Piece) → AreOrderly cs ps → k < length ps
    → r.end < (span_of_piece cs (get_or ps k d)).0 → parts_of cs r (drop k ps) ≡ []
nothing_after cs r ps k d h l b = let sound = all_sound ps h.sound in stop cs r k d ps sound (rise cs 0 ps sound h.follow) l b

-- the call of a piece is there, and each piece is sound
pub named_at : (cs : List OuterCall) (ps : List Piece) (k : ℕ) (d : Piece) → AreOrderly cs ps → k < length ps → IsAmong cs (get_or ps k d).origin
named_at cs ps k d h l =
    let m = length-map ps (λ (p : Piece). p.origin) in
    subst (IsAmong cs) (get_or-map (λ (p : Piece). p.origin) ps k d d.origin l) (h.named k d.origin (omega (arith, l, m)))

pub sound_at : (cs : List OuterCall) (ps : List Piece) (k : ℕ) (d : Piece) → AreOrderly cs ps → k < length ps → IsSoundPiece (get_or ps k d)
sound_at cs ps k d h l = h.sound k d l

-- the items of a page are such pieces
pub orderly : (cs ds : List OuterCall) (ps : List Piece) (ts : List Span) → AreItems ps cs ts → ds ≡ cs → AreOrderly ds ps
orderly cs ds ps ts h e =
    subst (λ (xs : List OuterCall). AreOrderly xs ps) (sym e) (record { sound = h.sound_pieces; named = h.named; follow = h.follow })

-- pieces behind the empty tag, from what was appended
pub behind_tag : (cs : List OuterCall) (found one begun all : List Piece) (n : Piece) → items_of n ≡ empty_nowiki ∷ [] → one ≡ n ∷ []
    → items begun ≡ items one ++ break_before cs (items found) → all ≡ begun ++ found → items all ≡ empty_nowiki ∷ with_break_anew cs (items found)
behind_tag cs found one begun all n w o b a =
    let first : items one ≡ empty_nowiki ∷ [] = ap items o ∙ append-nil (items_of n) ∙ w in
    ap items a ∙ flat_map-append items_of begun found ∙ ap (λ ys. ys ++ items found) (b ∙ ap (λ ys. ys ++ break_before cs (items found)) first)

-- the slice by itself, by the items of its pieces
pub alone_are : (cs ds : List OuterCall) (r : Ranges) (ps : List Piece) (found xs : List Item) → ds ≡ cs → items ps ≡ xs → AreOrderly ds ps
    → found ≡ parts_of ds r ps → empty_nowiki ∷ with_break_anew ds found ≡ items_alone cs xs r
alone_are cs ds r ps found xs e i h f =
    let own : found ≡ items_in ds r 0 (items ps) = f ∙ sym (parts_are ds r ps h) in
    ap (λ zs. empty_nowiki ∷ (break_before ds zs ++ zs)) own ∙ ap (λ zs. items_alone zs (items ps) r) e ∙ ap (λ zs. items_alone cs zs r) i

-- what lies of a page's items in a slice, by its pieces
pub by_pieces : (ps : List Piece) (cs : List OuterCall) (ts : List Span) (r : Ranges) → AreItems ps cs ts → items_in cs r 0 (items ps) ≡ parts_of cs r ps
by_pieces ps cs ts r h = parts_are cs r ps (orderly cs cs ps ts h refl)
