-- The parts of a group, joined.
use Rattle.std.proofs.Common.{◌≡◌, refl, sym, ◌∙◌, ap, subst, ℕ, zero, suc, ◌+◌, ◌-◌, ◌<◌, ◌≤◌, Bool, true, false, cond, Option, Some, None, List, [], ◌∷◌, ◌++◌, length, drop, map, arith, append_assoc, append-nil, inl, inr}
use Rattle.std.proofs.lemmas.Bool.{cases_lt}
use Rattle.std.proofs.lemmas.List.Concat.{flat_map-append}
use Rattle.std.proofs.Math.Seq.{drop-append_seam}
use Rattle.std.specs.List.{flat_map, slice_get}
use Rattle.wt_span.specs.Items.{Item}
use Rattle.wt_span.specs.Origins.{OuterCall}
use Rattle.wt_span.specs.Cuts.{is_free, call_of_item, source_of_call, origin_text, text_at, text_between}
use Rattle.wt_annotated.specs.GroupParts.{Part, called, Begun, begun_by, begun_at, begun, slice_part, text_after, parts_by, parts}
use Rattle.wt_page_laws.specs.ReadingPlaces.{IsFirst, IsLast, IsNowhere}
use Rattle.wt_page_laws.specs.GroupTexts.{CallBegins, Begins, page_text, calls_among, AreItsCalls, FollowCall, AreParted}

-- ---- at one cut

-- a call begins at a cut, or none does
data AtCut (all : List Item) (n : ℕ) : Type 0 where
  begins : (k : ℕ) → is_free all n ≡ true → call_of_item (slice_get all n) ≡ Some k → begun_at all n ≡ (n, k) ∷ [] → AtCut all n
  nothing : ((k : ℕ) → is_free all n ≡ true → call_of_item (slice_get all n) ≡ Some k → ⊥) → begun_at all n ≡ [] → AtCut all n

at_cut : (all : List Item) (n : ℕ) → AtCut all n
at_cut all n = by (is_free all n) (call_of_item (slice_get all n)) refl refl
  where
    by : (b : Bool) (o : Option ℕ) → is_free all n ≡ b → call_of_item (slice_get all n) ≡ o → AtCut all n
    by true (Some k) e f = begins k e f (ap (λ (x : Bool). cond x (begun_by n (call_of_item (slice_get all n))) []) e ∙ ap (begun_by n) f)
    by true None e f = nothing (λ k g h. let q : Some k ≡ None = sym h ∙ f in cc) (ap (λ (x : Bool). cond x (begun_by n (call_of_item (slice_get all n))) []) e ∙ ap (begun_by n) f)
    by false o e f = nothing (λ k g h. let q : true ≡ false = sym g ∙ e in cc) (ap (λ (x : Bool). cond x (begun_by n (call_of_item (slice_get all n))) []) e)

-- ---- in a group without its first item

later : (all : List Item) (n size p : ℕ) → n < p → Begins all n (suc size) p → Begins all (suc n) size p
later all n size p above b = let c = b.1 in (b.0, record { starts = omega arith; ends = (let e : p < n + suc size = c.ends in omega arith); free = c.free; comes = c.comes })

wider : (all : List Item) (n size p k : ℕ) → CallBegins all (suc n) size p k → CallBegins all n (suc size) p k
wider all n size p k c = record {
  starts = (let e : suc n ≤ p = c.starts in omega arith);
  ends = (let e : p < suc n + size = c.ends in omega arith);
  free = c.free;
  comes = c.comes;
}

first_above : (all : List Item) (n size p : ℕ) → n ≤ p → (p ≡ n → ⊥) → n < p
first_above all n size p le other = elim (cases_lt n p) [
  | inl lt ↦ lt
  | inr ge ↦ absurd (other (omega arith))
]

-- a beginning isn't at the first item where none begins there
not_here : (all : List Item) (n size p : ℕ) → ((k : ℕ) → is_free all n ≡ true → call_of_item (slice_get all n) ≡ Some k → ⊥) → Begins all n (suc size) p → n < p
not_here all n size p none b =
    let c = b.1 in
    first_above all n size p c.starts
    (λ e. none b.0 (ap (is_free all) (sym e) ∙ c.free) (ap (λ m. call_of_item (slice_get all m)) (sym e) ∙ c.comes))

nowhere_wider : (all : List Item) (n size : ℕ) → ((k : ℕ) → is_free all n ≡ true → call_of_item (slice_get all n) ≡ Some k → ⊥)
    → IsNowhere (Begins all (suc n) size) → IsNowhere (Begins all n (suc size))
nowhere_wider all n size none h p b = h p (later all n size p (not_here all n size p none b) b)

first_wider : (all : List Item) (n size m : ℕ) → ((k : ℕ) → is_free all n ≡ true → call_of_item (slice_get all n) ≡ Some k → ⊥)
    → IsFirst (Begins all (suc n) size) m → IsFirst (Begins all n (suc size)) m
first_wider all n size m none f = record {
  here = (f.here.0, wider all n size m f.here.0 f.here.1);
  none_before = λ p below b. f.none_before p below (later all n size p (not_here all n size p none b) b);
}

last_wider : (all : List Item) (n size m : ℕ) → IsLast (Begins all (suc n) size) m → IsLast (Begins all n (suc size)) m
last_wider all n size m l =
    let low : suc n ≤ m = l.here.1.starts in
    record {
      here = (l.here.0, wider all n size m l.here.0 l.here.1);
      none_behind = λ p above b. l.none_behind p above (later all n size p (omega arith) b);
    }

first_here : (all : List Item) (n size k : ℕ) → is_free all n ≡ true → call_of_item (slice_get all n) ≡ Some k → IsFirst (Begins all n (suc size)) n
first_here all n size k e f = record {
  here = (k, record { starts = omega arith; ends = omega arith; free = e; comes = f });
  none_before = λ p below b. absurd (let l : n ≤ p = b.1.starts in omega arith);
}

last_here : (all : List Item) (n size k : ℕ) → is_free all n ≡ true → call_of_item (slice_get all n) ≡ Some k → IsNowhere (Begins all (suc n) size) → IsLast (Begins all n (suc size)) n
last_here all n size k e f h = record {
  here = (k, record { starts = omega arith; ends = omega arith; free = e; comes = f });
  none_behind = λ p above b. h p (later all n size p above b);
}

-- ---- where calls begin

abbrev last_of : ℕ → List Begun → ℕ
last_of m [] = m
last_of m (b ∷ bs) = last_of b.0 bs

abbrev StandsFirst : List Item → ℕ → ℕ → List Begun → Type 0
StandsFirst all n size [] = IsNowhere (Begins all n size)
StandsFirst all n size (b ∷ bs) = IsFirst (Begins all n size) b.0 × IsLast (Begins all n size) (last_of b.0 bs)

-- the cuts rise, and these calls begin at them
abbrev Rise : List Item → ℕ → List Begun → Type 0
Rise all low [] = Unit {0}
Rise all low (b ∷ bs) = (low ≤ b.0) × (is_free all b.0 ≡ true) × (call_of_item (slice_get all b.0) ≡ Some b.1) × Rise all (suc b.0) bs

rise_from : (all : List Item) (low more : ℕ) (bs : List Begun) → low ≤ more → Rise all more bs → Rise all low bs
rise_from all low more [] le r = tt
rise_from all low more (b ∷ bs) le r = let l : more ≤ b.0 = r.0 in (omega arith, r.1, r.2, r.3)

numbers : List Begun → List ℕ
numbers bs = map (λ b. b.1) bs

record Facts (all : List Item) (n size : ℕ) (bs : List Begun) : Type 0 where
  first : StandsFirst all n size bs
  rise : Rise all n bs
  calls : AreItsCalls all n size (map (λ b. b.1) bs)

calls_wider : (all : List Item) (n size : ℕ) (ks : List ℕ) → ((k : ℕ) → is_free all n ≡ true → call_of_item (slice_get all n) ≡ Some k → ⊥)
    → AreItsCalls all (suc n) size ks → AreItsCalls all n (suc size) ks
calls_wider all n size [] none h = nowhere_wider all n size none h
calls_wider all n size (k ∷ ks) none h =
    let e : (suc n + size) - suc h.0 ≡ (n + suc size) - suc h.0 = ap (λ (x : ℕ). x - suc h.0) (let s : suc n + size ≡ n + suc size = omega arith in s) in
    (h.0, first_wider all n size h.0 none h.1, wider all n size h.0 k h.2, subst (λ x. AreItsCalls all (suc h.0) x ks) e h.3)

facts_wider : (all : List Item) (n size : ℕ) (bs : List Begun) → ((k : ℕ) → is_free all n ≡ true → call_of_item (slice_get all n) ≡ Some k → ⊥)
    → Facts all (suc n) size bs → Facts all n (suc size) bs
facts_wider all n size [] none f = record { first = nowhere_wider all n size none f.first; rise = tt; calls = nowhere_wider all n size none f.first }
facts_wider all n size (b ∷ bs) none f = record {
  first = (first_wider all n size b.0 none f.first.0, last_wider all n size (last_of b.0 bs) f.first.1);
  rise = rise_from all n (suc n) (b ∷ bs) (omega arith) f.rise;
  calls = calls_wider all n size (map (λ c. c.1) (b ∷ bs)) none f.calls;
}

last_behind : (all : List Item) (n size k : ℕ) (bs : List Begun) → is_free all n ≡ true → call_of_item (slice_get all n) ≡ Some k → StandsFirst all (suc n) size bs
    → IsLast (Begins all n (suc size)) (last_of n bs)
last_behind all n size k [] e f h = last_here all n size k e f h
last_behind all n size k (b ∷ bs) e f h = last_wider all n size (last_of b.0 bs) h.1

facts_here : (all : List Item) (n size k : ℕ) (bs : List Begun) → is_free all n ≡ true → call_of_item (slice_get all n) ≡ Some k → Facts all (suc n) size bs
    → Facts all n (suc size) ((n, k) ∷ bs)
facts_here all n size k bs e f h =
    let s : size ≡ (n + suc size) - suc n = omega arith in
    record {
      first = (first_here all n size k e f, last_behind all n size k bs e f h.first);
      rise = (omega arith, e, f, h.rise);
      calls = (
        n,
        first_here all n size k e f,
        record { starts = omega arith; ends = omega arith; free = e; comes = f },
        subst (λ x. AreItsCalls all (suc n) x (map (λ b. b.1) bs)) s h.calls,
      );
    }

facts : (all : List Item) (size n : ℕ) → Facts all n size (begun all n size)
facts all zero n = record {
  first = λ p b. absurd (let l : n ≤ p = b.1.starts in let h : p < n + zero = b.1.ends in omega arith);
  rise = tt;
  calls = λ p b. absurd (let l : n ≤ p = b.1.starts in let h : p < n + zero = b.1.ends in omega arith);
}
facts all (suc size) n = by (at_cut all n) (facts all size (suc n))
  where
    by : AtCut all n → Facts all (suc n) size (begun all (suc n) size) → Facts all n (suc size) (begun all n (suc size))
    by (begins k e f g) h =
        subst (λ bs. Facts all n (suc size) (bs ++ begun all (suc n) size)) (sym g) (facts_here all n size k (begun all (suc n) size) e f h)
    by (nothing none g) h =
        subst (λ bs. Facts all n (suc size) (bs ++ begun all (suc n) size)) (sym g) (facts_wider all n size (begun all (suc n) size) none h)

-- ---- texts

joins : (calls : List OuterCall) (all : List Item) (n a b : ℕ) → text_between calls all n (a + b) ≡ text_between calls all n a ++ text_between calls all (n + a) b
joins calls all n zero b = ap (text_between calls all n) (let z : zero + b ≡ b = omega arith in z) ∙ ap (λ (m : ℕ). text_between calls all m b) (let z : n ≡ n + zero = omega arith in z)
joins calls all n (suc a) b =
    ap (text_between calls all n) (let z : suc a + b ≡ suc (a + b) = omega arith in z)
    ∙ ap (λ (t : List ℕ). text_at calls all n ++ t) (joins calls all (suc n) a b ∙ ap (λ (m : ℕ). text_between calls all (suc n) a ++ text_between calls all m b) (let z : suc n + a ≡ n + suc a = omega arith in z))
    ∙ sym (append_assoc (text_at calls all n) (text_between calls all (suc n) a) (text_between calls all (n + suc a) b))

origin : (calls : List OuterCall) (o : Option Item) (k : ℕ) → call_of_item o ≡ Some k → origin_text calls o ≡ source_of_call (slice_get calls k)
origin calls None k e = cc
origin calls (Some x) k e = rw e refl

call_text : (calls : List OuterCall) (all : List Item) (n k : ℕ) → is_free all n ≡ true → call_of_item (slice_get all n) ≡ Some k
    → text_at calls all n ≡ source_of_call (slice_get calls k)
call_text calls all n k e f = ap (λ (b : Bool). cond b (origin_text calls (slice_get all n)) []) e ∙ origin calls (slice_get all n) k f

slice_text : (calls : List OuterCall) (bs : List ℕ) → flat_map (page_text calls) (slice_part bs) ≡ bs
slice_text calls [] = refl
slice_text calls (b ∷ bs) = append-nil (b ∷ bs)

-- a call and what stands behind it, up to a later cut
with_text : (calls : List OuterCall) (all : List Item) (n k m size : ℕ) → is_free all n ≡ true → call_of_item (slice_get all n) ≡ Some k → m - n ≡ suc size
    → source_of_call (slice_get calls k) ++ drop (length (source_of_call (slice_get calls k))) (text_between calls all n (m - n)) ≡ text_between calls all n (m - n)
with_text calls all n k m size e f g =
    let source = source_of_call (slice_get calls k) in
    let rest = text_between calls all (suc n) size in
    let whole : text_between calls all n (m - n) ≡ source ++ rest =
    ap (text_between calls all n) g ∙ ap (λ (t : List ℕ). t ++ rest) (call_text calls all n k e f) in
    ap (λ (t : List ℕ). source ++ drop (length source) t) whole ∙ ap (λ (t : List ℕ). source ++ t) (drop-append_seam source rest) ∙ sym whole

joined_by : (calls : List OuterCall) (all : List Item) (low m k : ℕ) (bs : List Begun) → Rise all low ((m, k) ∷ bs)
    → (flat_map (page_text calls) (parts_by calls all ((m, k) ∷ bs)) ≡ text_between calls all m (suc (last_of m bs - m))) × (m ≤ last_of m bs)
joined_by calls all low m k [] r =
    let nothing : suc (m - m) ≡ suc zero = omega arith in (
      append-nil (source_of_call (slice_get calls k)) ∙ sym (call_text calls all m k r.1 r.2) ∙ sym (append-nil (text_at calls all m))
          ∙ sym (ap (text_between calls all m) nothing),
      omega arith,
    )
joined_by calls all low m k ((p, j) ∷ bs) r =
    let source = source_of_call (slice_get calls k) in
    let rest = joined_by calls all (suc m) p j bs r.3 in
    let above : suc m ≤ p = r.3.0 in
    let further : p ≤ last_of p bs = rest.1 in
    let t = text_after calls all (m, k) (p, j) in
    let tail = flat_map (page_text calls) (parts_by calls all ((p, j) ∷ bs)) in
    let step : p - m ≡ suc (p - suc m) = omega arith in
    let size : (p - m) + suc (last_of p bs - p) ≡ suc (last_of p bs - m) = omega arith in
    let place : m + (p - m) ≡ p = omega arith in (
      ap (λ (x : List ℕ). source ++ x) (flat_map-append (page_text calls) (slice_part t) (parts_by calls all ((p, j) ∷ bs)) ∙ ap (λ (x : List ℕ). x ++ tail) (slice_text calls t))
          ∙ sym (append_assoc source t tail)
          ∙ ap (λ (x : List ℕ). x ++ tail) (with_text calls all m k p (p - suc m) r.1 r.2 step)
          ∙ ap (λ (x : List ℕ). text_between calls all m (p - m) ++ x) (rest.0 ∙ ap (λ (n : ℕ). text_between calls all n (suc (last_of p bs - p))) (sym place))
          ∙ sym (joins calls all m (p - m) (suc (last_of p bs - p)))
          ∙ ap (text_between calls all m) size,
      omega arith,
    )

one_first : (P : ℕ → Type 0) (m n : ℕ) → IsFirst P m → IsFirst P n → m ≡ n
one_first P m n f g = elim (cases_lt m n) [
  | inl lt ↦ absurd (g.none_before m lt f.here)
  | inr ge ↦ elim (cases_lt n m) [ inl lt ↦ absurd (f.none_before n lt g.here) | inr le ↦ omega arith ]
]

one_last : (P : ℕ → Type 0) (m n : ℕ) → IsLast P m → IsLast P n → m ≡ n
one_last P m n f g = elim (cases_lt m n) [
  | inl lt ↦ absurd (f.none_behind n lt g.here)
  | inr ge ↦ elim (cases_lt n m) [ inl lt ↦ absurd (g.none_behind m lt f.here) | inr le ↦ omega arith ]
]

joined_from : (calls : List OuterCall) (all : List Item) (n size first last : ℕ) (bs : List Begun) → Facts all n size bs
    → IsFirst (Begins all n size) first → IsLast (Begins all n size) last
    → flat_map (page_text calls) (parts_by calls all bs) ≡ text_between calls all first (suc (last - first))
joined_from calls all n size first last [] f g h = absurd (f.first first g.here)
joined_from calls all n size first last ((m, k) ∷ bs) f g h =
    let a : m ≡ first = one_first (Begins all n size) m first f.first.0 g in
    let b : last_of m bs ≡ last = one_last (Begins all n size) (last_of m bs) last f.first.1 h in
    (joined_by calls all n m k bs f.rise).0
    ∙ ap (λ (x : ℕ). text_between calls all m (suc (x - m))) b
    ∙ ap (λ (x : ℕ). text_between calls all x (suc (last - x))) a

pub parts_joined : (calls : List OuterCall) (all : List Item) (n size first last : ℕ) → IsFirst (Begins all n size) first → IsLast (Begins all n size) last
    → flat_map (page_text calls) (parts calls all n size) ≡ text_between calls all first (suc (last - first))
parts_joined calls all n size first last g h = joined_from calls all n size first last (begun all n size) (facts all size n) g h

-- ---- calls and texts

slice_among : (bs : List ℕ) (ps : List Part) → calls_among (slice_part bs ++ ps) ≡ calls_among ps
slice_among [] ps = refl
slice_among (b ∷ bs) ps = refl

among : (calls : List OuterCall) (all : List Item) (bs : List Begun) → map (λ b. b.1) bs ≡ calls_among (parts_by calls all bs)
among calls all [] = refl
among calls all (b ∷ []) = refl
among calls all (b ∷ c ∷ bs) =
    ap (λ (ks : List ℕ). b.1 ∷ ks) (among calls all (c ∷ bs) ∙ sym (slice_among (text_after calls all b c) (parts_by calls all (c ∷ bs))))

pub its_calls : (calls : List OuterCall) (all : List Item) (n size : ℕ) → AreItsCalls all n size (calls_among (parts calls all n size))
its_calls calls all n size = subst (AreItsCalls all n size) (among calls all (begun all n size)) (facts all size n).calls

slice_follows : (bs : List ℕ) (k : ℕ) (ps : List Part) → FollowCall ps → FollowCall (slice_part bs ++ (called k ∷ ps))
slice_follows [] k ps h = h
slice_follows (b ∷ bs) k ps h = (λ e. cc, h)

behind_call : (calls : List OuterCall) (all : List Item) (b : Begun) (bs : List Begun) → (ps : List Part) × (parts_by calls all (b ∷ bs) ≡ called b.1 ∷ ps) × FollowCall ps
behind_call calls all b [] = ([], refl, tt)
behind_call calls all b (c ∷ bs) =
    let r = behind_call calls all c bs in
    let t = text_after calls all b c in
    (slice_part t ++ (called c.1 ∷ r.0), ap (λ (ps : List Part). called b.1 ∷ (slice_part t ++ ps)) r.1, slice_follows t c.1 r.0 r.2)

parted_by : (calls : List OuterCall) (all : List Item) (bs : List Begun) → AreParted (parts_by calls all bs)
parted_by calls all [] = tt
parted_by calls all (b ∷ bs) = let r = behind_call calls all b bs in subst AreParted (sym r.1) r.2

pub are_parted : (calls : List OuterCall) (all : List Item) (n size : ℕ) → AreParted (parts calls all n size)
are_parted calls all n size = parted_by calls all (begun all n size)
