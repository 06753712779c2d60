-- What lies of one piece of the page in a slice, and that what lies of all pieces is what lies of their items.
use Rattle.std.proofs.Common.{◌≡◌, ℕ, suc, ◌+◌, ◌-◌, ◌<◌, ◌≤◌, ◌⊎◌, inl, inr, Bool, true, false, cond, Option, Some, None, List, [], ◌∷◌, ◌++◌, length, map, take, drop, refl, sym, ap, ◌∙◌, subst, arith}
use Rattle.std.specs.Prelude.{◌&&◌, nat_le, is_none, slice_get, if◌then◌else◌}
use Rattle.std.proofs.lemmas.Bool.Decides.{nat_tests}
use Rattle.std.proofs.lemmas.List.{take_all, drop_all, length-take}
use Rattle.wt_span.specs.declared.form.ItemForm.{ItemForm}
use Rattle.wt_span.specs.declared.form.ItemForm.TheVariants as form
use Rattle.wt_span.specs.declared.form.Piece.{Piece}
use Rattle.wt_span.specs.declared.origin.Origin.{Origin}
use Rattle.wt_span.specs.declared.origin.Origin.TheVariants as origin
use Rattle.wt_span.specs.Slice.{bytes_of, start_of}
use Rattle.wt_span.specs.Items.{Item, char, call_of_origin, items_by, items_of}
use Rattle.wt_span.specs.Origins.{OuterCall, Span, IsPlaced, IsSoundPiece, origin_before, span_of_entry, span_of_origin}
use Rattle.wt_span.specs.Whole.{IsWhole}
use Rattle.wt_lines.specs.Pieces.{is_chars}
use Rattle.wt_lines.proofs.PieceSigns.{false_true, true_false}
use Rattle.wt_tree.specs.declared.kind.Ranges.{Ranges}
use Rattle.wt_isolation.specs.GroupItems.{span_by, span_at, lies_in, items_in}
use Rattle.wt_isolation.specs.PieceParts.{span_of_piece, part_of, is_page_chars, bytes_in}

-- ---- tests of numbers

le_true : (a b : ℕ) → nat_le a b ≡ true → a ≤ b
le_true a b h = grind (arith, nat_tests)

le_false : (a b : ℕ) → nat_le a b ≡ false → b < a
le_false a b h = grind (arith, nat_tests)

not_le : (a b : ℕ) → b < a → nat_le a b ≡ false
not_le a b h = grind (arith, nat_tests)

-- ---- characters of the page

byte_by : (s e at b : ℕ) (bs : List ℕ) (u v : Bool) → nat_le s at ≡ u → nat_le (at + 1) e ≡ v
    → (if u && v then char None b ∷ map (char None) (drop (s - (at + 1)) (take (e - (at + 1)) bs))
    else map (char None) (drop (s - (at + 1)) (take (e - (at + 1)) bs)))
    ≡ map (char None) (drop (s - at) (take (e - at) (b ∷ bs)))
byte_by s e at b bs true true x y =
    let le = le_true s at x in
    let more = le_true (at + 1) e y in
    let i : s - at ≡ 0 = omega (arith, le) in
    let j : s - (at + 1) ≡ 0 = omega (arith, le) in
    let k : e - at ≡ suc (e - (at + 1)) = omega (arith, more) in
    rw (i, j, k) refl
byte_by s e at b bs true false x y =
    let le = le_true s at x in
    let less = le_false (at + 1) e y in
    let i : s - at ≡ 0 = omega (arith, le) in
    let j : s - (at + 1) ≡ 0 = omega (arith, le) in
    let k : e - at ≡ 0 = omega (arith, less) in
    let l : e - (at + 1) ≡ 0 = omega (arith, less) in
    rw (i, j, k, l) refl
byte_by s e at b bs false true x y =
    let le = le_false s at x in
    let more = le_true (at + 1) e y in
    let i : s - at ≡ suc (s - (at + 1)) = omega (arith, le) in
    let k : e - at ≡ suc (e - (at + 1)) = omega (arith, more) in
    rw (i, k) refl
byte_by s e at b bs false false x y =
    let less = le_false (at + 1) e y in
    let k : e - at ≡ 0 = omega (arith, less) in
    let l : e - (at + 1) ≡ 0 = omega (arith, less) in
    let none : drop (s - (at + 1)) [] ≡ drop (s - at) [] = drop_all (s - (at + 1)) [] (omega arith) ∙ sym (drop_all (s - at) [] (omega arith)) in
    rw (k, l) (ap (map (char None)) none)

none_taken : (n : ℕ) → take {A = ℕ} n [] ≡ []
none_taken n = take_all n [] (omega arith)

none_dropped : (n : ℕ) → drop {A = ℕ} n [] ≡ []
none_dropped n = drop_all n [] (omega arith)

page_bytes : (cs : List OuterCall) (r : Ranges) (at : ℕ) (bs : List ℕ)
    → items_in cs r at (map (char None) bs) ≡ map (char None) (drop (r.start - at) (take (r.end - at) bs))
page_bytes cs r at [] =
    sym (ap (λ xs. map (char None) (drop (r.start - at) xs)) (none_taken (r.end - at)) ∙ ap (map (char None)) (none_dropped (r.start - at)))
page_bytes cs r at (b ∷ bs) = rw (page_bytes cs r (at + 1) bs) (byte_by r.start r.end at b bs (nat_le r.start at) (nat_le (at + 1) r.end) refl refl)

chars_by : (cs : List OuterCall) (r : Ranges) (f : ItemForm) (o : Origin) (a : ℕ) (bs : List ℕ) → (is_chars f && is_none (call_of_origin o)) ≡ true
    → IsPlaced o (a, a + length bs)
    → items_in cs r (span_of_origin cs o).0 (items_by f (call_of_origin o) bs) ≡ map (char None) (drop (r.start - a) (take (r.end - a) bs))
chars_by cs r form.Chars (origin.Page q) a bs t h =
    let e : q.start ≡ a = ap (λ (s : Span). s.0) h in
    page_bytes cs r q.start bs ∙ ap (λ k. map (char None) (drop (r.start - k) (take (r.end - k) bs))) e
chars_by cs r form.Chars (origin.Call k) a bs t h = false_true t
chars_by cs r (form.Entity c) o a bs t h = false_true t
chars_by cs r form.Nowiki o a bs t h = false_true t
chars_by cs r form.Extension o a bs t h = false_true t
chars_by cs r form.Function o a bs t h = false_true t
chars_by cs r form.Comment o a bs t h = false_true t
chars_by cs r form.Include o a bs t h = false_true t
chars_by cs r form.Hidden o a bs t h = false_true t
chars_by cs r form.EmptyCall o a bs t h = false_true t

-- of characters of the page, the bytes that stand in the slice
pub chars_part : (cs : List OuterCall) (r : Ranges) (p : Piece) → is_page_chars p ≡ true → IsSoundPiece p
    → part_of cs r p ≡ map (char None) (bytes_in r p.text)
chars_part cs r p t h = chars_by cs r p.form p.origin (start_of p.text) (bytes_of p.text) t h.placed

-- ---- pieces that can't be cut

call_bytes_by : (cs : List OuterCall) (r : Ranges) (k : ℕ) (v : Bool) → lies_in r (span_of_entry (slice_get cs k)) ≡ v → (at : ℕ) (bs : List ℕ)
    → items_in cs r at (map (char (Some k)) bs) ≡ cond v (map (char (Some k)) bs) []
call_bytes_by cs r k true e at [] = refl
call_bytes_by cs r k false e at [] = refl
call_bytes_by cs r k true e at (b ∷ bs) = rw e (ap (λ ys. char (Some k) b ∷ ys) (call_bytes_by cs r k true e (span_of_entry (slice_get cs k)).1 bs))
call_bytes_by cs r k false e at (b ∷ bs) = rw e (call_bytes_by cs r k false e (span_of_entry (slice_get cs k)).1 bs)

uncut_by : (cs : List OuterCall) (r : Ranges) (f : ItemForm) (o : Option ℕ) (at : ℕ) (bs : List ℕ) (s : Span) → (is_chars f && is_none o) ≡ false
    → span_by cs at (length bs) o ≡ s → items_in cs r at (items_by f o bs) ≡ cond (lies_in r s) (items_by f o bs) []
uncut_by cs r form.Chars None at bs s t h = true_false t
uncut_by cs r form.Chars (Some k) at bs s t h =
    call_bytes_by cs r k (lies_in r (span_of_entry (slice_get cs k))) refl at bs ∙ ap (λ (z : Span). cond (lies_in r z) (map (char (Some k)) bs) []) h
uncut_by cs r (form.Entity c) o at bs s t h = ap (λ (z : Span). cond (lies_in r z) (items_by (form.Entity c) o bs) []) h
uncut_by cs r form.Nowiki o at bs s t h = ap (λ (z : Span). cond (lies_in r z) (items_by form.Nowiki o bs) []) h
uncut_by cs r form.Extension o at bs s t h = ap (λ (z : Span). cond (lies_in r z) (items_by form.Extension o bs) []) h
uncut_by cs r form.Function o at bs s t h = ap (λ (z : Span). cond (lies_in r z) (items_by form.Function o bs) []) h
uncut_by cs r form.Comment o at bs s t h = ap (λ (z : Span). cond (lies_in r z) (items_by form.Comment o bs) []) h
uncut_by cs r form.Include o at bs s t h = ap (λ (z : Span). cond (lies_in r z) (items_by form.Include o bs) []) h
uncut_by cs r form.Hidden o at bs s t h = ap (λ (z : Span). cond (lies_in r z) (items_by form.Hidden o bs) []) h
uncut_by cs r form.EmptyCall o at bs s t h = ap (λ (z : Span). cond (lies_in r z) (items_by form.EmptyCall o bs) []) h

placed_by : (cs : List OuterCall) (o : Origin) (a n : ℕ) → IsPlaced o (a, a + n)
    → span_by cs (span_of_origin cs o).0 n (call_of_origin o) ≡ span_of_origin cs o
placed_by cs (origin.Page q) a n h =
    let from : q.start ≡ a = ap (λ (s : Span). s.0) h in
    let to : q.end ≡ a + n = ap (λ (s : Span). s.1) h in
    let e : q.start + n ≡ q.end = omega (arith, from, to) in
    ap (λ (z : ℕ). (q.start, z)) e
placed_by cs (origin.Call k) a n h = refl

pub uncut_part : (cs : List OuterCall) (r : Ranges) (p : Piece) → is_page_chars p ≡ false → IsSoundPiece p
    → part_of cs r p ≡ cond (lies_in r (span_of_piece cs p)) (items_of p) []
uncut_part cs r p t h =
    uncut_by cs r p.form (call_of_origin p.origin) (span_of_piece cs p).0 (bytes_of p.text) (span_of_piece cs p) t
    (placed_by cs p.origin (start_of p.text) (length (bytes_of p.text)) h.placed)

-- ---- pieces outside the slice

ordered_entry : (c : Option OuterCall) → (span_of_entry c).0 ≤ (span_of_entry c).1
ordered_entry None = omega arith
ordered_entry (Some c) = omega arith

ordered_by : (cs : List OuterCall) (o : Origin) (a n : ℕ) → IsPlaced o (a, a + n) → (span_of_origin cs o).0 ≤ (span_of_origin cs o).1
ordered_by cs (origin.Page q) a n h =
    let from : q.start ≡ a = ap (λ (s : Span). s.0) h in
    let to : q.end ≡ a + n = ap (λ (s : Span). s.1) h in
    omega (arith, from, to)
ordered_by cs (origin.Call k) a n h = ordered_entry (slice_get cs k)

pub ordered : (cs : List OuterCall) (p : Piece) → IsSoundPiece p → (span_of_piece cs p).0 ≤ (span_of_piece cs p).1
ordered cs p h = ordered_by cs p.origin (start_of p.text) (length (bytes_of p.text)) h.placed

-- it ends before the slice, or begins after it
abbrev pub IsOutside : Ranges → Span → Type 0
IsOutside r s = (s.1 < r.start) ⊎ (r.end < s.0)

and_false : (u v : Bool) → v ≡ false → (u && v) ≡ false
and_false true v e = e
and_false false v e = refl

not_in : (r : Ranges) (s : Span) → s.0 ≤ s.1 → IsOutside r s → lies_in r s ≡ false
not_in r s o (inl h) = let e : nat_le r.start s.0 ≡ false = not_le r.start s.0 (omega (arith, o, h)) in ap (λ u. u && nat_le s.1 r.end) e
not_in r s o (inr h) = and_false (nat_le r.start s.0) (nat_le s.1 r.end) (not_le s.1 r.end (omega (arith, o, h)))

no_bytes : (s e a : ℕ) (bs : List ℕ) → (a + length bs < s) ⊎ (e < a) → drop (s - a) (take (e - a) bs) ≡ []
no_bytes s e a bs (inl h) = let l = length-take (e - a) bs in drop_all (s - a) (take (e - a) bs) (omega (arith, l, h))
no_bytes s e a bs (inr h) = let l = length-take (e - a) bs in drop_all (s - a) (take (e - a) bs) (omega (arith, l, h))

outside_by : (cs : List OuterCall) (r : Ranges) (o : Origin) (a n : ℕ) → is_none (call_of_origin o) ≡ true → IsPlaced o (a, a + n)
    → IsOutside r (span_of_origin cs o) → (a + n < r.start) ⊎ (r.end < a)
outside_by cs r (origin.Page q) a n t h (inl l) = let to : q.end ≡ a + n = ap (λ (s : Span). s.1) h in inl (omega (arith, to, l))
outside_by cs r (origin.Page q) a n t h (inr l) = let from : q.start ≡ a = ap (λ (s : Span). s.0) h in inr (omega (arith, from, l))
outside_by cs r (origin.Call k) a n t h l = false_true t

pub and_second : (u v : Bool) → (u && v) ≡ true → v ≡ true
and_second true v e = e
and_second false v e = false_true e

no_part_by : (cs : List OuterCall) (r : Ranges) (p : Piece) (v : Bool) → is_page_chars p ≡ v → IsSoundPiece p → IsOutside r (span_of_piece cs p)
    → part_of cs r p ≡ []
no_part_by cs r p true t h o =
    chars_part cs r p t h ∙ ap (map (char None)) (no_bytes r.start r.end (start_of p.text) (bytes_of p.text)
    (outside_by cs r p.origin (start_of p.text) (length (bytes_of p.text)) (and_second (is_chars p.form) (is_none (call_of_origin p.origin)) t)
    h.placed o))
no_part_by cs r p false t h o =
    uncut_part cs r p t h ∙ ap (λ v. cond v (items_of p) []) (not_in r (span_of_piece cs p) (ordered cs p h) o)

pub no_part : (cs : List OuterCall) (r : Ranges) (p : Piece) → IsSoundPiece p → IsOutside r (span_of_piece cs p) → part_of cs r p ≡ []
no_part cs r p h o = no_part_by cs r p (is_page_chars p) refl h o

-- ---- from piece to piece

-- the place behind items that stand in the page from this byte on
abbrev pub place_after : List OuterCall → ℕ → List Item → ℕ
place_after cs at [] = at
place_after cs at (x ∷ xs) = place_after cs (span_at cs at x).1 xs

if_onto : (v : Bool) (x : Item) (xs ys zs : List Item) → xs ≡ ys ++ zs → cond v (x ∷ xs) xs ≡ cond v (x ∷ ys) ys ++ zs
if_onto true x xs ys zs e = ap (λ ws. x ∷ ws) e
if_onto false x xs ys zs e = e

pub in_append : (cs : List OuterCall) (r : Ranges) (at : ℕ) (xs ys : List Item)
    → items_in cs r at (xs ++ ys) ≡ items_in cs r at xs ++ items_in cs r (place_after cs at xs) ys
in_append cs r at [] ys = refl
in_append cs r at (x ∷ xs) ys =
    let s = span_at cs at x in
    if_onto (lies_in r s) x (items_in cs r s.1 (xs ++ ys)) (items_in cs r s.1 xs) (items_in cs r (place_after cs s.1 xs) ys)
    (in_append cs r s.1 xs ys)

after_bytes : (cs : List OuterCall) (at : ℕ) (bs : List ℕ) → place_after cs at (map (char None) bs) ≡ at + length bs
after_bytes cs at [] = omega arith
after_bytes cs at (b ∷ bs) = let e = after_bytes cs (at + 1) bs in let l : length (b ∷ bs) ≡ suc (length bs) = refl in omega (arith, e, l)

after_call : (cs : List OuterCall) (k : ℕ) (bs : List ℕ)
    → place_after cs (span_of_entry (slice_get cs k)).1 (map (char (Some k)) bs) ≡ (span_of_entry (slice_get cs k)).1
after_call cs k [] = refl
after_call cs k (b ∷ bs) = after_call cs k bs

after_chars : (cs : List OuterCall) (o : Option ℕ) (at : ℕ) (bs : List ℕ) → 0 < length bs
    → place_after cs at (map (char o) bs) ≡ (span_by cs at (length bs) o).1
after_chars cs None at bs l = after_bytes cs at bs
after_chars cs (Some k) at [] l = absurd (omega (arith, l))
after_chars cs (Some k) at (b ∷ bs) l = after_call cs k bs

after_by : (cs : List OuterCall) (f : ItemForm) (o : Option ℕ) (at : ℕ) (bs : List ℕ) → IsWhole f bs
    → place_after cs at (items_by f o bs) ≡ (span_by cs at (length bs) o).1
after_by cs form.Chars o at bs h = after_chars cs o at bs h
after_by cs (form.Entity c) o at bs h = refl
after_by cs form.Nowiki o at bs h = refl
after_by cs form.Extension o at bs h = refl
after_by cs form.Function o at bs h = refl
after_by cs form.Comment o at bs h = refl
after_by cs form.Include o at bs h = refl
after_by cs form.Hidden o at bs h = refl
after_by cs form.EmptyCall o at bs h = refl

-- behind a piece is its end
pub after_piece : (cs : List OuterCall) (p : Piece) → IsSoundPiece p → place_after cs (span_of_piece cs p).0 (items_of p) ≡ (span_of_piece cs p).1
after_piece cs p h =
    after_by cs p.form (call_of_origin p.origin) (span_of_piece cs p).0 (bytes_of p.text) h.whole
    ∙ ap (λ (s : Span). s.1) (placed_by cs p.origin (start_of p.text) (length (bytes_of p.text)) h.placed)

-- the items of a call say themselves where they stand
free_by : (cs : List OuterCall) (r : Ranges) (f : ItemForm) (k at to : ℕ) (bs : List ℕ) (xs : List Item) → IsWhole f bs
    → items_in cs r at (items_by f (Some k) bs ++ xs) ≡ items_in cs r to (items_by f (Some k) bs ++ xs)
free_by cs r form.Chars k at to [] xs h = absurd (omega (arith, h))
free_by cs r form.Chars k at to (b ∷ bs) xs h = refl
free_by cs r (form.Entity c) k at to bs xs h = refl
free_by cs r form.Nowiki k at to bs xs h = refl
free_by cs r form.Extension k at to bs xs h = refl
free_by cs r form.Function k at to bs xs h = refl
free_by cs r form.Comment k at to bs xs h = refl
free_by cs r form.Include k at to bs xs h = refl
free_by cs r form.Hidden k at to bs xs h = refl
free_by cs r form.EmptyCall k at to bs xs h = refl

-- so do those of the next piece, where it is of the same call
pub free_next : (cs : List OuterCall) (r : Ranges) (o : Origin) (at to : ℕ) (q : Piece) (v : Origin) → v ≡ q.origin → origin_before (v ∷ []) o ≡ true
    → (xs : List Item) → IsSoundPiece q → items_in cs r at (items_of q ++ xs) ≡ items_in cs r to (items_of q ++ xs)
free_next cs r (origin.Page s) at to q v e t xs h = false_true t
free_next cs r (origin.Call j) at to q (origin.Page s) e t xs h = false_true t
free_next cs r (origin.Call j) at to q (origin.Call k) e t xs h =
    let c : Some k ≡ call_of_origin q.origin = ap call_of_origin e in
    subst (λ (o : Option ℕ). items_in cs r at (items_by q.form o (bytes_of q.text) ++ xs)
    ≡ items_in cs r to (items_by q.form o (bytes_of q.text) ++ xs)) c
    (free_by cs r q.form k at to (bytes_of q.text) xs h.whole)
