-- One turn of each loop over the bytes of a text.
use Rattle.std.proofs.Common.{◌≡◌, ℕ, ◌+◌, ◌-◌, ◌<◌, Bool, true, false, List, [], ◌∷◌, ◌++◌, length, drop, get_or, refl, sym, ap, ◌∙◌, arith, append_assoc, eq-eqb}
use Rattle.std.specs.Prelude.{◌==◌, ◌&&◌, not}
use Rattle.std.proofs.lemmas.Bool.Decides.{nat_tests}
use Rattle.std.proofs.lemmas.List.{drop_more, map-append}
use Rattle.wt_lint.specs.Found.{Span, KindAndRange, as_all}
use Rattle.wt_lint.specs.Texts.{when, pairs, end_at, table_ends}
use Rattle.wt_lint.specs.declared.finding.Kind.{Kind}

-- what is taken now goes before what is left
pub taken : (kind : Kind) (xs ys t : List KindAndRange) (now rest : List Span) → ys ≡ xs ++ as_all kind now → xs ++ as_all kind (now ++ rest) ≡ t
    → ys ++ as_all kind rest ≡ t
taken kind xs ys t now rest e h =
    ap (λ zs. zs ++ as_all kind rest) e ∙ append_assoc xs (as_all kind now) (as_all kind rest)
    ∙ ap (λ zs. xs ++ zs) (sym (map-append _ now rest)) ∙ h

-- ---- ends of tables

ends_here : (page : List ℕ) (from p : ℕ) (bs : List ℕ) (i : ℕ) → i < length bs
    → table_ends page from p (drop i bs) ≡ end_at page from p (drop i bs) ++ table_ends page from (p + 1) (drop (i + 1) bs)
ends_here page from p bs i lt =
    let e = drop_more bs i 0 lt in
    ap (table_ends page from p) e ∙ ap (λ xs. end_at page from p xs ++ table_ends page from (p + 1) (drop (i + 1) bs)) (sym e)

pub ends_turn : (page : List ℕ) (from start : ℕ) (bs : List ℕ) (i : ℕ) (kind : Kind) (xs ys t : List KindAndRange) → i < length bs
    → ys ≡ xs ++ as_all kind (end_at page from (start + i) (drop i bs))
    → xs ++ as_all kind (table_ends page from (start + i) (drop i bs)) ≡ t
    → ys ++ as_all kind (table_ends page from (start + (i + 1)) (drop (i + 1) bs)) ≡ t
ends_turn page from start bs i kind xs ys t lt e h =
    let next : start + (i + 1) ≡ start + i + 1 = omega arith in
    let rest = table_ends page from (start + i + 1) (drop (i + 1) bs) in
    ap (λ (p : ℕ). ys ++ as_all kind (table_ends page from p (drop (i + 1) bs))) next
    ∙ taken kind xs ys t (end_at page from (start + i) (drop i bs)) rest e
    (ap (λ ss. xs ++ as_all kind ss) (sym (ends_here page from (start + i) bs i lt)) ∙ h)

-- ---- pairs

-- what is left of a text where the byte before it is the first of a pair, or isn't
abbrev pub left : ℕ → ℕ → Bool → List ℕ → List Span
left byte p true bs = pairs byte (p - 1) (byte ∷ bs)
left byte p false bs = pairs byte p bs

-- whether a byte is the first of a pair
abbrev pub is_held : Bool → Bool → Bool
is_held held is = is && not held

same_byte : (b byte : ℕ) → (b == byte) ≡ true → b ≡ byte
same_byte b byte e = grind (arith, nat_tests)

self_byte : (byte : ℕ) → (byte == byte) ≡ true
self_byte byte = eq-eqb byte byte refl

-- a byte that is another one is passed over
passed_over : (byte p b : ℕ) (bs : List ℕ) → (b == byte) ≡ false → pairs byte p (b ∷ bs) ≡ pairs byte (p + 1) bs
passed_over byte p b [] e = refl
passed_over byte p b (c ∷ bs) e = rw e refl

-- two that stand side by side are taken
taken_both : (byte p b : ℕ) (bs : List ℕ) → (b == byte) ≡ true → pairs byte p (byte ∷ b ∷ bs) ≡ (p, p + 2) ∷ pairs byte (p + 2) bs
taken_both byte p b bs e = rw (self_byte byte, e) refl

-- one alone is no pair
passed_one : (byte p b : ℕ) (bs : List ℕ) → (b == byte) ≡ false → pairs byte p (byte ∷ b ∷ bs) ≡ pairs byte (p + 2) bs
passed_one byte p b bs e =
    let next : p + 1 + 1 ≡ p + 2 = omega arith in
    rw (self_byte byte, e) (passed_over byte (p + 1) b bs e ∙ ap (λ (n : ℕ). pairs byte n bs) next)

pub left_turn : (byte p b : ℕ) (bs : List ℕ) (held is : Bool) → (b == byte) ≡ is → (held ≡ true → 0 < p)
    → left byte p held (b ∷ bs) ≡ when (held && is) ((p - 1, p + 1) ∷ []) ++ left byte (p + 1) (is_held held is) bs
left_turn byte p b bs true true e h =
    let up : p - 1 + 2 ≡ p + 1 = omega (arith, h refl) in
    taken_both byte (p - 1) b bs e ∙ ap (λ (n : ℕ). (p - 1, n) ∷ pairs byte n bs) up
left_turn byte p b bs true false e h =
    let up : p - 1 + 2 ≡ p + 1 = omega (arith, h refl) in
    passed_one byte (p - 1) b bs e ∙ ap (λ (n : ℕ). pairs byte n bs) up
left_turn byte p b bs false true e h =
    let here : p ≡ p + 1 - 1 = omega arith in
    ap (λ (c : ℕ). pairs byte p (c ∷ bs)) (same_byte b byte e) ∙ ap (λ (n : ℕ). pairs byte n (byte ∷ bs)) here
left_turn byte p b bs false false e h = passed_over byte p b bs e

pub pairs_turn : (byte start : ℕ) (bs : List ℕ) (i : ℕ) (held is next : Bool) (kind : Kind) (xs ys t : List KindAndRange)
    → i < length bs → (get_or bs i 0 == byte) ≡ is → (held ≡ true → 0 < i) → next ≡ is_held held is
    → ys ≡ xs ++ as_all kind (when (held && is) ((start + i - 1, start + i + 1) ∷ []))
    → xs ++ as_all kind (left byte (start + i) held (drop i bs)) ≡ t
    → ys ++ as_all kind (left byte (start + (i + 1)) next (drop (i + 1) bs)) ≡ t
pairs_turn byte start bs i held is next kind xs ys t lt test behind on_held e h =
    let on : start + (i + 1) ≡ start + i + 1 = omega arith in
    let rest = left byte (start + i + 1) (is_held held is) (drop (i + 1) bs) in
    ap (λ (n : Bool). ys ++ as_all kind (left byte (start + (i + 1)) n (drop (i + 1) bs))) on_held
    ∙ ap (λ (p : ℕ). ys ++ as_all kind (left byte p (is_held held is) (drop (i + 1) bs))) on
    ∙ taken kind xs ys t (when (held && is) ((start + i - 1, start + i + 1) ∷ [])) rest e
    (ap (λ ss. xs ++ as_all kind ss)
    (sym (ap (left byte (start + i) held) (drop_more bs i 0 lt) ∙ left_turn byte (start + i) (get_or bs i 0) (drop (i + 1) bs) held is test (λ is_so. omega (arith, behind is_so)))) ∙ h)
