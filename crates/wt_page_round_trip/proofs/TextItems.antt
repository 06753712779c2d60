-- Items whose runs of characters are texts in UTF-8, those of each origin by themselves, and where they can be cut.
use Rattle.std.proofs.Common.{◌≡◌, ℕ, ◌+◌, ◌<◌, ◌≤◌, Bool, true, false, Option, List, [], ◌∷◌, ◌++◌, length, get_or, IsUtf8, refl, sym, subst, arith, append_assoc, append-nil, length-append}
use Rattle.std.specs.Prelude.{◌&&◌, nat_le, nat_lt}
use Rattle.std.specs.Str.{IsCharBoundary}
use Rattle.std.proofs.Math.Seq.{get_or-append_seam, take-append_seam, drop-append_seam}
use Rattle.std.proofs.lemmas.Bool.Decides.{nat_tests}
use Rattle.std.proofs.lemmas.Str.{IsUtf8-nil, IsUtf8-append, IsUtf8-take, IsUtf8-drop, IsCharBoundary-start, IsCharBoundary-before_ascii, IsCharBoundary-after_ascii}
use Rattle.wt_span.specs.Items.{Item, char, whole}
use Rattle.wt_inline.specs.Parts.{same_origin}

-- a byte that goes on with a character
abbrev pub continues : ℕ → Bool
continues b = nat_le 128 b && nat_lt b 192

abbrev pub IfOther : Bool → Type 0 → Type 0
IfOther true there = Unit {0}
IfOther false there = there

-- where characters of another origin follow, a character begins there
abbrev pub IsSeam : Option ℕ → List Item → Type 0
IsSeam o [] = Unit {0}
IsSeam o (char p b ∷ xs) = IfOther (same_origin o p) (continues b ≡ false)
IsSeam o (whole f p bs ∷ xs) = Unit {0}

-- These bytes, and then the characters up to the next form, and those between any two forms, are UTF-8; so are those of each
-- origin among them by themselves.
abbrev pub AreTexts : List ℕ → List Item → Type 0
AreTexts run [] = IsUtf8 run
AreTexts run (char o b ∷ xs) = IsSeam o xs × AreTexts (run ++ b ∷ []) xs
AreTexts run (whole f o bs ∷ xs) = IsUtf8 run × AreTexts [] xs

-- ---- bytes

-- a text that goes on with these bytes can be cut before them
abbrev pub CanCut : List ℕ → List ℕ → Type 0
CanCut r s = (t : List ℕ) → IsUtf8 (r ++ (s ++ t)) → IsUtf8 r × IsUtf8 (s ++ t)

pub cut_at : (r s : List ℕ) → IsUtf8 (r ++ s) → IsCharBoundary (r ++ s) (length r) → IsUtf8 r × IsUtf8 s
cut_at r s u b = (
  subst IsUtf8 (take-append_seam r s) (IsUtf8-take (r ++ s) (length r) u b),
  subst IsUtf8 (drop-append_seam r s) (IsUtf8-drop (r ++ s) (length r) u b),
)

not_within : (b : ℕ) → continues b ≡ false → 128 ≤ b → 192 ≤ b
not_within b e g = grind (arith, nat_tests)

is_within : (b : ℕ) → (128 ≤ b → 192 ≤ b) → continues b ≡ false
is_within b h = by_test (nat_le 128 b) refl
  where
    by_test : (t : Bool) → nat_le 128 b ≡ t → (t && nat_lt b 192) ≡ false
    by_test true e = let g : 192 ≤ b = h (grind (arith, nat_tests)) in grind (arith, nat_tests)
    by_test false e = refl

pub before_low : (r : List ℕ) (b : ℕ) → b < 128 → CanCut r (b ∷ [])
before_low r b low t u =
    let e : get_or (r ++ b ∷ t) (length r) 0 ≡ b = get_or-append_seam r b t 0 in
    cut_at r (b ∷ t) u (IsCharBoundary-before_ascii (r ++ b ∷ t) (length r) (omega (arith, length-append r (b ∷ t))) (omega arith))

pub after_low : (r : List ℕ) (b : ℕ) → b < 128 → CanCut (r ++ b ∷ []) []
after_low r b low t u =
    let v : IsUtf8 (r ++ b ∷ t) = subst IsUtf8 (append_assoc r (b ∷ []) t) u in
    let e : get_or (r ++ b ∷ t) (length r) 0 ≡ b = get_or-append_seam r b t 0 in
    let c : IsCharBoundary (r ++ b ∷ t) (length r + 1) = IsCharBoundary-after_ascii (r ++ b ∷ t) (length r) v
    (omega (arith, length-append r (b ∷ t))) (omega arith) in
    let n : length r + 1 ≡ length (r ++ b ∷ []) = omega (arith, length-append r (b ∷ [])) in
    cut_at (r ++ b ∷ []) t u (subst (λ x. IsCharBoundary x (length (r ++ b ∷ []))) (sym (append_assoc r (b ∷ []) t)) (subst (IsCharBoundary (r ++ b ∷ t)) n c))

-- a text can be cut before a byte that begins a character
pub before_first : (r : List ℕ) (b : ℕ) → continues b ≡ false → CanCut r (b ∷ [])
before_first r b e t u =
    let f : get_or (r ++ b ∷ t) (length r) 0 ≡ b = get_or-append_seam r b t 0 in
    let first : 128 ≤ b → 192 ≤ b = not_within b e in
    cut_at r (b ∷ t) u (omega (arith, length-append r (b ∷ t)), λ l a. let g : 128 ≤ b = subst (λ x. 128 ≤ x) f a in subst (λ x. 192 ≤ x) (sym f) (first g))

-- the first byte of a text does so
pub first_byte : (b : ℕ) (s : List ℕ) → IsUtf8 (b ∷ s) → continues b ≡ false
first_byte b s u = let c = IsCharBoundary-start (b ∷ s) u in is_within b (λ g. c.1 (omega arith) g)

pub more_cut : (r s : List ℕ) (b : ℕ) → CanCut r s → CanCut r (s ++ b ∷ [])
more_cut r s b h t u =
    let e : (s ++ b ∷ []) ++ t ≡ s ++ b ∷ t = append_assoc s (b ∷ []) t in
    let q : IsUtf8 r × IsUtf8 (s ++ b ∷ t) = h (b ∷ t) (subst (λ x. IsUtf8 (r ++ x)) e u) in
    (q.0, subst IsUtf8 (sym e) q.1)

pub cut_end : (r s : List ℕ) → CanCut r s → IsUtf8 (r ++ s) → IsUtf8 r × IsUtf8 s
cut_end r s h t =
    let q : IsUtf8 r × IsUtf8 (s ++ []) = h [] (subst (λ x. IsUtf8 (r ++ x)) (sym (append-nil s)) t) in
    (q.0, subst IsUtf8 (append-nil s) q.1)

-- ---- seams

seam_left : (o : Option ℕ) (xs ys : List Item) → IsSeam o (xs ++ ys) → IsSeam o xs
seam_left o [] ys s = tt
seam_left o (char p b ∷ xs) ys s = s
seam_left o (whole f p bs ∷ xs) ys s = tt

-- some text begins with these bytes
front_text : (run : List ℕ) (xs : List Item) → AreTexts run xs → (s : List ℕ) × IsUtf8 (run ++ s)
front_text run [] t = ([], subst IsUtf8 (sym (append-nil run)) t)
front_text run (char o b ∷ xs) t = let q = front_text (run ++ b ∷ []) xs t.1 in (b ∷ q.0, subst IsUtf8 (append_assoc run (b ∷ []) q.0) q.1)
front_text run (whole f o bs ∷ xs) t = ([], subst IsUtf8 (sym (append-nil run)) t.0)

-- a byte that begins a character makes a seam with any
pub seam_by : (t : Bool) (b : ℕ) → continues b ≡ false → IfOther t (continues b ≡ false)
seam_by true b e = tt
seam_by false b e = e

-- texts begin with a character, so they may stand behind characters of any origin
pub begin_seam : (o : Option ℕ) (xs : List Item) → AreTexts [] xs → IsSeam o xs
begin_seam o [] t = tt
begin_seam o (whole f p bs ∷ xs) t = tt
begin_seam o (char p b ∷ xs) t = let q = front_text (b ∷ []) xs t.1 in seam_by (same_origin o p) b (first_byte b q.0 q.1)

seam_both : (o : Option ℕ) (xs ys : List Item) → IsSeam o xs → AreTexts [] ys → IsSeam o (xs ++ ys)
seam_both o [] ys s t = begin_seam o ys t
seam_both o (char p b ∷ xs) ys s t = s
seam_both o (whole f p bs ∷ xs) ys s t = tt

-- ---- items

-- a run is cut where its bytes can be
pub shift : (r s : List ℕ) (xs : List Item) → CanCut r s → AreTexts (r ++ s) xs → IsUtf8 r × AreTexts s xs
shift r s [] h t = cut_end r s h t
shift r s (char o b ∷ xs) h t =
    let q : IsUtf8 r × AreTexts (s ++ b ∷ []) xs = shift r (s ++ b ∷ []) xs (more_cut r s b h) (subst (λ z. AreTexts z xs) (append_assoc r s (b ∷ [])) t.1) in
    (q.0, (t.0, q.1))
shift r s (whole f o bs ∷ xs) h t = let q = cut_end r s h t.0 in (q.0, (q.1, t.1))

-- what stands before a byte that begins a character
shift_char : (run : List ℕ) (o : Option ℕ) (b : ℕ) (ys : List Item) → CanCut run (b ∷ []) → AreTexts run (char o b ∷ ys)
    → IsUtf8 run × AreTexts [] (char o b ∷ ys)
shift_char run o b ys h t = let q : IsUtf8 run × AreTexts (b ∷ []) ys = shift run (b ∷ []) ys h t.1 in (q.0, (t.0, q.1))

-- the first of these items can be cut off from what stands before
abbrev pub BeginsLow : List Item → Type 0
BeginsLow [] = Unit {0}
BeginsLow (char o b ∷ xs) = b < 128
BeginsLow (whole f o bs ∷ xs) = Unit {0}

pub cut_before : (run : List ℕ) (ys : List Item) → BeginsLow ys → AreTexts run ys → IsUtf8 run × AreTexts [] ys
cut_before run [] h t = (t, IsUtf8-nil)
cut_before run (char o b ∷ ys) h t = shift_char run o b ys (before_low run b h) t
cut_before run (whole f o bs ∷ ys) h t = (t.0, (IsUtf8-nil, t.1))

pub cut_items_before : (run : List ℕ) (xs ys : List Item) → BeginsLow ys → AreTexts run (xs ++ ys) → AreTexts run xs × AreTexts [] ys
cut_items_before run [] ys h t = cut_before run ys h t
cut_items_before run (char o b ∷ xs) ys h t =
    let q : AreTexts (run ++ b ∷ []) xs × AreTexts [] ys = cut_items_before (run ++ b ∷ []) xs ys h t.1 in ((seam_left o xs ys t.0, q.0), q.1)
cut_items_before run (whole f o bs ∷ xs) ys h t =
    let q : AreTexts [] xs × AreTexts [] ys = cut_items_before [] xs ys h t.1 in ((t.0, q.0), q.1)

-- the last of these items can be cut off from what stands behind
abbrev pub EndsLow : List Item → Type 0
EndsLow [] = Unit {0}
EndsLow (char o b ∷ []) = b < 128
EndsLow (whole f o bs ∷ []) = Unit {0}
EndsLow (x ∷ y ∷ xs) = EndsLow (y ∷ xs)

cut_items_after : (run : List ℕ) (x : Item) (xs ys : List Item) → EndsLow (x ∷ xs) → AreTexts run ((x ∷ xs) ++ ys) → AreTexts run (x ∷ xs) × AreTexts [] ys
cut_items_after run (char o b) [] ys h t =
    let q : IsUtf8 (run ++ b ∷ []) × AreTexts [] ys = shift (run ++ b ∷ []) [] ys (after_low run b h)
    (subst (λ z. AreTexts z ys) (sym (append-nil (run ++ b ∷ []))) t.1) in ((tt, q.0), q.1)
cut_items_after run (whole f o bs) [] ys h t = ((t.0, IsUtf8-nil), t.1)
cut_items_after run (char o b) (x ∷ xs) ys h t =
    let q : AreTexts (run ++ b ∷ []) (x ∷ xs) × AreTexts [] ys = cut_items_after (run ++ b ∷ []) x xs ys h t.1 in
    ((seam_left o (x ∷ xs) ys t.0, q.0), q.1)
cut_items_after run (whole f o bs) (x ∷ xs) ys h t =
    let q : AreTexts [] (x ∷ xs) × AreTexts [] ys = cut_items_after [] x xs ys h t.1 in ((t.0, q.0), q.1)

pub cut_after : (xs ys : List Item) → EndsLow xs → AreTexts [] (xs ++ ys) → AreTexts [] xs × AreTexts [] ys
cut_after [] ys h t = (IsUtf8-nil, t)
cut_after (x ∷ xs) ys h t = cut_items_after [] x xs ys h t

-- ---- texts that are put together

texts_behind : (run s : List ℕ) (ys : List Item) → IsUtf8 run → AreTexts s ys → AreTexts (run ++ s) ys
texts_behind run s [] u t = IsUtf8-append run s u t
texts_behind run s (char o b ∷ ys) u t =
    (t.0, subst (λ r. AreTexts r ys) (sym (append_assoc run s (b ∷ []))) (texts_behind run (s ++ b ∷ []) ys u t.1))
texts_behind run s (whole f o bs ∷ ys) u t = (IsUtf8-append run s u t.0, t.1)

pub texts_both : (run : List ℕ) (xs ys : List Item) → AreTexts run xs → AreTexts [] ys → AreTexts run (xs ++ ys)
texts_both run [] ys h t = subst (λ r. AreTexts r ys) (append-nil run) (texts_behind run [] ys h t)
texts_both run (char o b ∷ xs) ys h t = (seam_both o xs ys h.0 t, texts_both (run ++ b ∷ []) xs ys h.1 t)
texts_both run (whole f o bs ∷ xs) ys h t = (h.0, texts_both [] xs ys h.1 t)
