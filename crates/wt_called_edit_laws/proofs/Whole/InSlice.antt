-- Of the items of a page those that lie in the slice of a call are those that come from it.
use Rattle.std.proofs.Common.{◌≡◌, ◌⊎◌, inl, inr, ℕ, ◌+◌, ◌<◌, ◌≤◌, Bool, true, false, Option, Some, None, List, [], ◌∷◌, ◌++◌, length, refl, sym, ap, ◌∙◌, subst, arith, length-append}
use Rattle.std.specs.Prelude.{slice_get, nat_le, ◌&&◌, not, if◌then◌else◌}
use Rattle.std.proofs.lemmas.Bool.Decides.{nat_tests}
use Rattle.wt_tree.specs.declared.kind.Ranges.{Ranges}
use Rattle.wt_span.specs.Items.{Item, char, whole, source, call_of}
use Rattle.wt_span.specs.Origins.{OuterCall, Span, same_call, span_of_entry}
use Rattle.wt_span.specs.Cuts.{source_of_call, text_by}
use Rattle.wt_annotated.specs.Seams.{parted, text_step, text_from}
use Rattle.wt_isolation.specs.GroupItems.{span_by, span_at, lies_in, items_in}
use Rattle.wt_page.proofs.FormLengths.{whole_some}
use Rattle.wt_page_round_trip.proofs.OpenedPages.{IsOne, AreOnes}
use Rattle.wt_called_edit_laws.specs.WholeContents.{of_call}
use Rattle.wt_called_edit_laws.proofs.Whole.CallPlaces.{IsAtPlace, AtPlaces}
use Rattle.wt_called_edit_laws.proofs.Whole.OfCall.{same_is, is_same, of_here, of_past}

-- ---- where an item is

-- the bytes of a call
abbrev pub call_span : List OuterCall → ℕ → Span
call_span calls j = span_of_entry (slice_get calls j)

pub span_long : (c : Option OuterCall) → (span_of_entry c).1 ≡ (span_of_entry c).0 + length (source_of_call c)
span_long None = omega arith
span_long (Some c) = refl

-- Behind an item of this call the page goes on where the call ends.
abbrev IsBehind : List OuterCall → ℕ → Option ℕ → Type 0
IsBehind calls p None = Unit {0}
IsBehind calls p (Some k) = ((call_span calls k).1 ≡ p) × (0 < length (source_of_call (slice_get calls k)))

pub unparted : (o : Option ℕ) (j : ℕ) → parted o (Some j) ≡ false → same_call o (Some j) ≡ true
unparted o j e = by (same_call o (Some j)) e
  where
    by : (v : Bool) → not v ≡ false → v ≡ true
    by true e = refl
    by false e = absurd (cc)

pub is_parted : (o : Option ℕ) (j : ℕ) → same_call o (Some j) ≡ false → parted o (Some j) ≡ true
is_parted o j e = ap not e

none_parted : (o : Option ℕ) → parted o None ≡ true
none_parted None = refl
none_parted (Some k) = refl

-- what is on the page for an item of this call, behind one of that
abbrev step_by : List OuterCall → Option ℕ → Option ℕ → List ℕ → List ℕ
step_by calls o c bs = if parted o c then text_by calls c bs else []

-- an item that begins something on the page, or goes on with the call before it
pub record IsStep (calls : List OuterCall) (p : ℕ) (o c : Option ℕ) (bs : List ℕ) : Type 0 where
  pub ends : (span_by calls p (length bs) c).1 ≡ p + length (step_by calls o c bs)
  pub behind : IsBehind calls (p + length (step_by calls o c bs)) c
  pub begins : ((span_by calls p (length bs) c).0 ≡ p) × (0 < length (step_by calls o c bs)) ⊎ ((o ≡ c) × (length (step_by calls o c bs) ≡ 0) × ((span_by calls p (length bs) c).0 < p))

call_step : (calls : List OuterCall) (p : ℕ) (o : Option ℕ) (k : ℕ) (bs : List ℕ) (v : Bool) → parted o (Some k) ≡ v → IsAtPlace calls p o (Some k) → IsBehind calls p o
    → IsStep calls p o (Some k) bs
call_step calls p o k bs true e h b =
    let r = h e in
    let long = span_long (slice_get calls k) in
    let size : length (step_by calls o (Some k) bs) ≡ length (source_of_call (slice_get calls k)) =
    ap (λ (v : Bool). length (if v then source_of_call (slice_get calls k) else [])) e in
    let start : (call_span calls k).0 ≡ p = r.0 in
    let some : 0 < length (source_of_call (slice_get calls k)) = r.1 in
    let end : (call_span calls k).1 ≡ p + length (step_by calls o (Some k) bs) = omega (arith, long, size, start) in
    record { ends = end; behind = (end, some); begins = inl (start, omega (arith, size, some)) }
call_step calls p o k bs false e h b =
    let same : o ≡ Some k = same_is o k (unparted o k e) in
    let own : IsBehind calls p (Some k) = subst (IsBehind calls p) same b in
    let long = span_long (slice_get calls k) in
    let size : length (step_by calls o (Some k) bs) ≡ 0 = ap (λ (v : Bool). length (if v then source_of_call (slice_get calls k) else [])) e in
    let there : (call_span calls k).1 ≡ p = own.0 in
    let some : 0 < length (source_of_call (slice_get calls k)) = own.1 in
    let end : (call_span calls k).1 ≡ p + length (step_by calls o (Some k) bs) = omega (arith, size, there) in
    record { ends = end; behind = (end, some); begins = inr (same, size, omega (arith, long, there, some)) }

page_step : (calls : List OuterCall) (p : ℕ) (o : Option ℕ) (bs : List ℕ) → 0 < length bs → IsStep calls p o None bs
page_step calls p o bs n =
    let size : length (step_by calls o None bs) ≡ length bs = ap (λ (v : Bool). length (if v then bs else [])) (none_parted o) in
    record { ends = omega (arith, size); behind = tt; begins = inl (refl, omega (arith, size, n)) }

step : (calls : List OuterCall) (p : ℕ) (o c : Option ℕ) (bs : List ℕ) → 0 < length bs ⊎ (c ≡ None → ⊥) → IsAtPlace calls p o c → IsBehind calls p o
    → IsStep calls p o c bs
step calls p o None bs (inl n) h b = page_step calls p o bs n
step calls p o None bs (inr n) h b = absurd (n refl)
step calls p o (Some k) bs n h b = call_step calls p o k bs (parted o (Some k)) refl h b

-- each item has a source
pub one_some : (x : Item) → IsOne x → 0 < length (source x)
one_some (char o b) h = omega arith
one_some (whole f o bs) h = whole_some f bs h

-- ---- in the slice, or not

and_false : (u v : Bool) → v ≡ false → (u && v) ≡ false
and_false true v e = e
and_false false v e = refl

not_le : (a b : ℕ) → b < a → nat_le a b ≡ false
not_le a b h = grind (arith, nat_tests)

is_le : (a b : ℕ) → a ≤ b → nat_le a b ≡ true
is_le a b h = grind (arith, nat_tests)

begins_before : (r : Ranges) (s : Span) → s.0 < r.start → lies_in r s ≡ false
begins_before r s h = ap (λ (u : Bool). u && nat_le s.1 r.end) (not_le r.start s.0 h)

ends_after : (r : Ranges) (s : Span) → r.end < s.1 → lies_in r s ≡ false
ends_after r s h = and_false (nat_le r.start s.0) (nat_le s.1 r.end) (not_le s.1 r.end h)

-- a call lies in its slice
lies_there : (r : Ranges) (s : Span) → r.start ≡ s.0 → r.end ≡ s.1 → lies_in r s ≡ true
lies_there r s e f =
    ap (λ (u : Bool). u && nat_le s.1 r.end) (is_le r.start s.0 (omega (arith, e))) ∙ is_le s.1 r.end (omega (arith, f))

in_here : (calls : List OuterCall) (r : Ranges) (p : ℕ) (x : Item) (xs : List Item) → lies_in r (span_at calls p x) ≡ true
    → items_in calls r p (x ∷ xs) ≡ x ∷ items_in calls r (span_at calls p x).1 xs
in_here calls r p x xs e =
    ap (λ (v : Bool). if v then x ∷ items_in calls r (span_at calls p x).1 xs else items_in calls r (span_at calls p x).1 xs) e

in_past : (calls : List OuterCall) (r : Ranges) (p : ℕ) (x : Item) (xs : List Item) → lies_in r (span_at calls p x) ≡ false
    → items_in calls r p (x ∷ xs) ≡ items_in calls r (span_at calls p x).1 xs
in_past calls r p x xs e =
    ap (λ (v : Bool). if v then x ∷ items_in calls r (span_at calls p x).1 xs else items_in calls r (span_at calls p x).1 xs) e

-- this slice is that of this call
abbrev IsSliceOf : List OuterCall → ℕ → Ranges → Type 0
IsSliceOf calls j r = (r.start ≡ (call_span calls j).0) × (r.end ≡ (call_span calls j).1)

item_step : (calls : List OuterCall) (p : ℕ) (o : Option ℕ) (x : Item) (xs : List Item) → AtPlaces calls p o (x ∷ xs) → AreOnes (x ∷ xs) → IsBehind calls p o
    → IsStep calls p o (call_of x) (source x)
item_step calls p o x xs h g b = step calls p o (call_of x) (source x) (inl (one_some x g.0)) h.0 b

-- behind it
pub after_slice : (calls : List OuterCall) (j : ℕ) (r : Ranges) (p : ℕ) (o : Option ℕ) (xs : List Item) → IsSliceOf calls j r → r.end < p → AtPlaces calls p o xs
    → AreOnes xs → IsBehind calls p o → (items_in calls r p xs ≡ []) × (of_call j xs ≡ [])
after_slice calls j r p o [] s l h g b = (refl, refl)
after_slice calls j r p o (x ∷ xs) s l h g b =
    let t = item_step calls p o x xs h g b in
    let next : ℕ = p + length (text_step calls o x) in
    let ends : (span_at calls p x).1 ≡ next = t.ends in
    let out : lies_in r (span_at calls p x) ≡ false = ends_after r (span_at calls p x) (omega (arith, l, ends)) in
    let past : r.end < next = omega (arith, l) in
    let rest = after_slice calls j r next (call_of x) xs s past h.1 g.1 t.behind in
    let other : same_call (call_of x) (Some j) ≡ false = by (same_call (call_of x) (Some j)) refl ends in (
      in_past calls r p x xs out ∙ ap (λ (i : ℕ). items_in calls r i xs) ends ∙ rest.0,
      of_past j x xs other ∙ rest.1,
    )
  where
    by : (v : Bool) → same_call (call_of x) (Some j) ≡ v → (span_at calls p x).1 ≡ p + length (text_step calls o x) → v ≡ false
    by false e f = refl
    by true e f =
        let is : call_of x ≡ Some j = same_is (call_of x) j e in
        let end : (span_at calls p x).1 ≡ (call_span calls j).1 = ap (λ (c : Option ℕ). (span_by calls p (length (source x)) c).1) is in
        let slice : r.end ≡ (call_span calls j).1 = s.1 in
        absurd (omega (arith, l, f, end, slice))

-- from its call's items on
from_call : (calls : List OuterCall) (j : ℕ) (r : Ranges) (p : ℕ) (o : Option ℕ) (xs : List Item) → IsSliceOf calls j r → r.end ≡ p → o ≡ Some j → AtPlaces calls p o xs
    → AreOnes xs → IsBehind calls p o → items_in calls r p xs ≡ of_call j xs
from_call calls j r p o [] s l i h g b = refl
from_call calls j r p o (x ∷ xs) s l i h g b =
    by (same_call (call_of x) (Some j)) refl (λ is at behind. from_call calls j r p (call_of x) xs s l is at g.1 behind)
  where
    by : (v : Bool) → same_call (call_of x) (Some j) ≡ v
        → ((call_of x ≡ Some j) → AtPlaces calls p (call_of x) xs → IsBehind calls p (call_of x) → items_in calls r p xs ≡ of_call j xs)
        → items_in calls r p (x ∷ xs) ≡ of_call j (x ∷ xs)
    by true e rest =
        let t = item_step calls p o x xs h g b in
        let is : call_of x ≡ Some j = same_is (call_of x) j e in
        let at : span_at calls p x ≡ call_span calls j = ap (λ (c : Option ℕ). span_by calls p (length (source x)) c) is in
        let lies : lies_in r (span_at calls p x) ≡ true = ap (lies_in r) at ∙ lies_there r (call_span calls j) s.0 s.1 in
        let there : (span_at calls p x).1 ≡ p = ap (λ (z : Span). z.1) at ∙ sym s.1 ∙ l in
        let ends : (span_at calls p x).1 ≡ p + length (text_step calls o x) = t.ends in
        let same : p + length (text_step calls o x) ≡ p = sym ends ∙ there in
        in_here calls r p x xs lies
        ∙ ap (λ (zs : List Item). x ∷ zs)
        (ap (λ (k : ℕ). items_in calls r k xs) there
        ∙ rest is (subst (λ (k : ℕ). AtPlaces calls k (call_of x) xs) same h.1) (subst (λ (k : ℕ). IsBehind calls k (call_of x)) same t.behind))
        ∙ sym (of_here j x xs e)
    by false e rest =
        let t = item_step calls p o x xs h g b in
        let ends : (span_at calls p x).1 ≡ p + length (text_step calls o x) = t.ends in
        let some : 0 < length (text_step calls o x) = elim t.begins [
          | inl k ↦ k.1
          | inr k ↦ absurd (let z : true ≡ false = sym (is_same (call_of x) j (sym k.0 ∙ i)) ∙ e in cc)
        ] in
        let out : lies_in r (span_at calls p x) ≡ false = ends_after r (span_at calls p x) (omega (arith, l, ends, some)) in
        let past : r.end < p + length (text_step calls o x) = omega (arith, l, some) in
        let later = after_slice calls j r (p + length (text_step calls o x)) (call_of x) xs s past h.1 g.1 t.behind in
        in_past calls r p x xs out ∙ ap (λ (k : ℕ). items_in calls r k xs) ends ∙ later.0 ∙ sym (of_past j x xs e ∙ later.1)

-- up to the first of its items
pub begins_behind : (calls : List OuterCall) (j p : ℕ) (o : Option ℕ) (xs : List Item) (y : Item) (ys : List Item) → parted o (Some j) ≡ true → AtPlaces calls p o xs
    → of_call j xs ≡ y ∷ ys → p ≤ (call_span calls j).0
begins_behind calls j p o [] y ys t h e = absurd (cc)
begins_behind calls j p o (x ∷ xs) y ys t h e =
    by (same_call (call_of x) (Some j)) refl
    (λ apart found. begins_behind calls j (p + length (text_step calls o x)) (call_of x) xs y ys apart h.1 found)
  where
    by : (v : Bool) → same_call (call_of x) (Some j) ≡ v
        → ((parted (call_of x) (Some j) ≡ true) → of_call j xs ≡ y ∷ ys → p + length (text_step calls o x) ≤ (call_span calls j).0) → p ≤ (call_span calls j).0
    by true f rest =
        let own : IsAtPlace calls p o (Some j) = subst (λ (c : Option ℕ). IsAtPlace calls p o c) (same_is (call_of x) j f) h.0 in
        let at = own t in
        let there : (call_span calls j).0 ≡ p = at.0 in omega (arith, there)
    by false f rest = let later = rest (is_parted (call_of x) j f) (sym (of_past j x xs f) ∙ e) in omega (arith, later)

pub in_slice : (calls : List OuterCall) (j : ℕ) (r : Ranges) (p : ℕ) (o : Option ℕ) (xs : List Item) (y : Item) (ys : List Item) → IsSliceOf calls j r
    → parted o (Some j) ≡ true → AtPlaces calls p o xs → AreOnes xs → IsBehind calls p o → of_call j xs ≡ y ∷ ys → items_in calls r p xs ≡ of_call j xs
in_slice calls j r p o [] y ys s t h g b e = refl
in_slice calls j r p o (x ∷ xs) y ys s t h g b e =
    by (same_call (call_of x) (Some j)) refl
    (λ apart behind found. in_slice calls j r (p + length (text_step calls o x)) (call_of x) xs y ys s apart h.1 g.1 behind found)
  where
    by : (v : Bool) → same_call (call_of x) (Some j) ≡ v
        → ((parted (call_of x) (Some j) ≡ true) → IsBehind calls (p + length (text_step calls o x)) (call_of x) → of_call j xs ≡ y ∷ ys
        → items_in calls r (p + length (text_step calls o x)) xs ≡ of_call j xs)
        → items_in calls r p (x ∷ xs) ≡ of_call j (x ∷ xs)
    by true f rest =
        let k = item_step calls p o x xs h g b in
        let is : call_of x ≡ Some j = same_is (call_of x) j f in
        let at : span_at calls p x ≡ call_span calls j = ap (λ (c : Option ℕ). span_by calls p (length (source x)) c) is in
        let lies : lies_in r (span_at calls p x) ≡ true = ap (lies_in r) at ∙ lies_there r (call_span calls j) s.0 s.1 in
        let ends : (span_at calls p x).1 ≡ p + length (text_step calls o x) = k.ends in
        let there : r.end ≡ p + length (text_step calls o x) = s.1 ∙ sym (ap (λ (z : Span). z.1) at) ∙ ends in
        in_here calls r p x xs lies
        ∙ ap (λ (zs : List Item). x ∷ zs)
        (ap (λ (i : ℕ). items_in calls r i xs) ends ∙ from_call calls j r (p + length (text_step calls o x)) (call_of x) xs s there is h.1 g.1 k.behind)
        ∙ sym (of_here j x xs f)
    by false f rest =
        let k = item_step calls p o x xs h g b in
        let next : ℕ = p + length (text_step calls o x) in
        let ends : (span_at calls p x).1 ≡ p + length (text_step calls o x) = k.ends in
        let found : of_call j xs ≡ y ∷ ys = sym (of_past j x xs f) ∙ e in
        let le = begins_behind calls j next (call_of x) xs y ys (is_parted (call_of x) j f) h.1 found in
        let slice : r.start ≡ (call_span calls j).0 = s.0 in
        let early : (span_at calls p x).0 < r.start = elim k.begins [
          | inl z ↦ let from : (span_at calls p x).0 ≡ p = z.0 in let some : 0 < length (text_step calls o x) = z.1 in omega (arith, le, slice, from, some)
          | inr z ↦ let from : (span_at calls p x).0 < p = z.2 in omega (arith, le, slice, from)
        ] in
        in_past calls r p x xs (begins_before r (span_at calls p x) early)
        ∙ ap (λ (i : ℕ). items_in calls r i xs) ends
        ∙ rest (is_parted (call_of x) j f) k.behind found
        ∙ sym (of_past j x xs f)

-- ---- the page

pub call_items_in : (calls : List OuterCall) (j : ℕ) (r : Ranges) (xs : List Item) (y : Item) (ys : List Item) → r.start ≡ (call_span calls j).0
    → r.end ≡ (call_span calls j).1 → AtPlaces calls 0 None xs → AreOnes xs → of_call j xs ≡ y ∷ ys → items_in calls r 0 xs ≡ of_call j xs
call_items_in calls j r xs y ys e f h g o = in_slice calls j r 0 None xs y ys (e, f) refl h g tt o

-- ---- the same call is nowhere else

-- before it
pub none_before : (calls : List OuterCall) (j p : ℕ) (o : Option ℕ) (xs : List Item) → parted o (Some j) ≡ true → AtPlaces calls p o xs
    → (call_span calls j).0 ≡ p + length (text_from calls o xs) → of_call j xs ≡ []
none_before calls j p o [] t h e = refl
none_before calls j p o (x ∷ xs) t h e =
    by (same_call (call_of x) (Some j)) refl
    (λ apart there. none_before calls j (p + length (text_step calls o x)) (call_of x) xs apart h.1 there)
  where
    by : (v : Bool) → same_call (call_of x) (Some j) ≡ v
        → ((parted (call_of x) (Some j) ≡ true)
        → (call_span calls j).0 ≡ (p + length (text_step calls o x)) + length (text_from calls (call_of x) xs) → of_call j xs ≡ [])
        → of_call j (x ∷ xs) ≡ []
    by true f rest =
        let is : call_of x ≡ Some j = same_is (call_of x) j f in
        let at : IsAtPlace calls p o (Some j) = subst (λ (c : Option ℕ). IsAtPlace calls p o c) is h.0 in
        let r = at t in
        let start : (call_span calls j).0 ≡ p = r.0 in
        let some : 0 < length (source_of_call (slice_get calls j)) = r.1 in
        let size : length (text_step calls o x) ≡ length (source_of_call (slice_get calls j)) =
        ap (λ (c : Option ℕ). length (if parted o c then text_by calls c (source x) else [])) is
        ∙ ap (λ (v : Bool). length (if v then source_of_call (slice_get calls j) else [])) t in
        let both : length (text_step calls o x ++ text_from calls (call_of x) xs) ≡ length (text_step calls o x) + length (text_from calls (call_of x) xs) =
        length-append (text_step calls o x) (text_from calls (call_of x) xs) in
        absurd (omega (arith, e, start, some, size, both))
    by false f rest =
        let both : length (text_step calls o x ++ text_from calls (call_of x) xs) ≡ length (text_step calls o x) + length (text_from calls (call_of x) xs) =
        length-append (text_step calls o x) (text_from calls (call_of x) xs) in
        of_past j x xs f ∙ rest (is_parted (call_of x) j f) (omega (arith, e, both))

-- nor behind it
pub none_later : (calls : List OuterCall) (j p : ℕ) (o : Option ℕ) (xs : List Item) → parted o (Some j) ≡ true → AtPlaces calls p o xs
    → (call_span calls j).0 < p → of_call j xs ≡ []
none_later calls j p o [] t h e = refl
none_later calls j p o (x ∷ xs) t h e =
    by (same_call (call_of x) (Some j)) refl
    (λ apart. none_later calls j (p + length (text_step calls o x)) (call_of x) xs apart h.1 (omega (arith, e)))
  where
    by : (v : Bool) → same_call (call_of x) (Some j) ≡ v → ((parted (call_of x) (Some j) ≡ true) → of_call j xs ≡ []) → of_call j (x ∷ xs) ≡ []
    by true f rest =
        let at : IsAtPlace calls p o (Some j) = subst (λ (c : Option ℕ). IsAtPlace calls p o c) (same_is (call_of x) j f) h.0 in
        let r = at t in
        let start : (call_span calls j).0 ≡ p = r.0 in absurd (omega (arith, e, start))
    by false f rest = of_past j x xs f ∙ rest (is_parted (call_of x) j f)
