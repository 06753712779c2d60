-- Characters as they are spelled: as they are, by a name or by a number.
use Rattle.std.proofs.Common.{◌≡◌, ℕ, zero, suc, ◌<◌, ◌≤◌, Bool, true, false, nat_lt, List, [], ◌∷◌, ◌++◌, length, map, flat_map, decimal, IsUtf8, chars, inl, inr, refl, sym, ap, ap₂, ◌∙◌, arith, append-nil, codes}
use Rattle.std.specs.Prelude.{◌==◌, ◌&&◌, encode_utf8, if◌then◌else◌}
use Rattle.std.specs.Fmt.{digits}
use Rattle.std.proofs.lemmas.Bool.{eqb-true, ltb-true, and_parts, cases_lt, cases_eq}
use Rattle.std.proofs.lemmas.Bool.Decides.{nat_tests}
use Rattle.std.proofs.lemmas.Grind.{flat_map-append}
use Rattle.std.proofs.lemmas.Str.{encode_ascii, encodes-chars, scalars-chars}
use lib.Utf8.{scalar, scalars, encode, encodes}
use Rattle.wt_schema.specs.Escapes.{is_control, escape, escape_double, escape_single}
use Rattle.wt_html_grammar.specs.declared.names.EscapeName.TheVariants.{Amp, Lt, Gt, Quot}
use Rattle.wt_html_grammar.specs.declared.names.Radix.TheVariants.{Decimal}
use Rattle.wt_html_grammar.specs.Signs.{is_digit, in_text, in_value, is_digit_of, number_from, Each}
use Rattle.wt_html_grammar.specs.Grammar.{Piece, plain, named, number, spell_piece, IsPiece, spell_pieces, ArePieces}
use Rattle.wt_html_grammar.specs.Markup.{unit_of}
use Rattle.wt_html_grammar.proofs.Steps.{if_false, if_case}

-- the piece for a character of a text, of a value in `"` and of a value in `'`
abbrev pub text_piece : ℕ → Piece
text_piece c =
    if c == 38 then named Amp
    else (if c == 60 then named Lt
    else (if c == 62 then named Gt
    else (if is_control c then number Decimal (decimal c)
    else plain c)))

abbrev pub double_piece : ℕ → Piece
double_piece c = if c == 34 then named Quot else text_piece c

abbrev pub single_piece : ℕ → Piece
single_piece c = if c == 39 then number Decimal (codes "39") else text_piece c

-- pieces for characters: spelled as bytes are escaped, standing for the characters, and good
pub record Spells (p : ℕ → Piece) (esc : ℕ → List ℕ) (test : ℕ → Bool) : Type 0 where
  pub low : (c : ℕ) → c < 128 → spell_piece (p c) ≡ esc c
  pub high : (c : ℕ) → 128 ≤ c → p c ≡ plain c
  pub same : (b : ℕ) → 128 ≤ b → esc b ≡ b ∷ []
  pub unit : (c : ℕ) → unit_of (p c) ≡ encode_utf8 c
  pub good : (c : ℕ) → scalar c ≡ true → IsPiece test (p c)

-- ---- controls, by computing

abbrev is_good_number : ℕ → Bool
is_good_number c = number_from Decimal 0 (decimal c) == c

abbrev all_below : (ℕ → Bool) → ℕ → Bool
all_below p zero = true
all_below p (suc n) = p n && all_below p n

below : (p : ℕ → Bool) (n : ℕ) → all_below p n ≡ true → (c : ℕ) → c < n → p c ≡ true
below p zero e c h = absurd (omega arith)
below p (suc n) e c h =
    let q = and_parts _ _ e in
    elim (cases_eq c n) [ inl same ↦ rw same q.0 | inr other ↦ below p n q.1 c (omega arith) ]

numbers_good : all_below is_good_number 32 ≡ true
unfolding digits
numbers_good = refl

abbrev are_digits : List ℕ → Bool
are_digits [] = true
are_digits (d ∷ ds) = is_digit d && are_digits ds

each_digit : (ds : List ℕ) → are_digits ds ≡ true → Each (is_digit_of Decimal) ds
each_digit [] e = tt
each_digit (d ∷ ds) e = let q = and_parts _ _ e in (q.0, each_digit ds q.1)

abbrev is_good_text : ℕ → Bool
is_good_text c = are_digits (decimal c) && (nat_lt 0 (length (decimal c)) && nat_lt (length (decimal c)) 8)

texts_good : all_below is_good_text 32 ≡ true
unfolding digits
texts_good = refl

control_below : (c : ℕ) → is_control c ≡ true → c < 32
control_below c e = grind (arith, nat_tests)

number_is : (c : ℕ) → is_control c ≡ true → number_from Decimal 0 (decimal c) ≡ c
number_is c e = eqb-true _ _ (below is_good_number 32 numbers_good c (control_below c e))

scalar_low : (c : ℕ) → c < 55296 → scalar c ≡ true
scalar_low c h = grind (arith, nat_tests)

control_piece : (test : ℕ → Bool) (c : ℕ) → is_control c ≡ true → IsPiece test (number Decimal (decimal c))
control_piece test c e =
    let q = and_parts _ _ (below is_good_text 32 texts_good c (control_below c e)) in
    let r = and_parts _ _ q.1 in
    let some : 0 < length (decimal c) = ltb-true _ _ r.0 in
    let few : length (decimal c) < 8 = ltb-true _ _ r.1 in
    let l : c < 32 = control_below c e in
    (some, omega arith, each_digit _ q.0, ap scalar (number_is c e) ∙ scalar_low c (omega arith))

-- ---- texts

text_low : (c : ℕ) → c < 128 → spell_piece (text_piece c) ≡ escape c
unfolding escape
text_low c h = by_tests (c == 38) (c == 60) (c == 62) (is_control c)
  where
    by_tests : (r s t u : Bool)
        → spell_piece (if r then named Amp else (if s then named Lt else (if t then named Gt else (if u then number Decimal (decimal c) else plain c))))
        ≡ (if r then codes "&amp;" else (if s then codes "&lt;" else
        (if t then codes "&gt;" else (if u then codes "&#" ++ (decimal c ++ codes ";") else c ∷ []))))
    by_tests true s t u = refl
    by_tests false true t u = refl
    by_tests false false true u = refl
    by_tests false false false true = refl
    by_tests false false false false = encode_ascii c h

high_plain : (c : ℕ) → 128 ≤ c → text_piece c ≡ plain c
high_plain c h =
    if_false (c == 38) _ _ (other c 38 (omega arith)) ∙ if_false (c == 60) _ _ (other c 60 (omega arith)) ∙ if_false (c == 62) _ _ (other c 62 (omega arith))
    ∙ if_false (is_control c) _ _ (no_control c h)
  where
    other : (c d : ℕ) → d < c → (c == d) ≡ false
    other c d h = grind (arith, nat_tests)

    no_control : (c : ℕ) → 128 ≤ c → is_control c ≡ false
    no_control c h = grind (arith, nat_tests)

high_same : (b : ℕ) → 128 ≤ b → escape b ≡ b ∷ []
unfolding escape
high_same c h =
    if_false (c == 38) _ _ (other c 38 (omega arith)) ∙ if_false (c == 60) _ _ (other c 60 (omega arith)) ∙ if_false (c == 62) _ _ (other c 62 (omega arith))
    ∙ if_false (is_control c) _ _ (no_control c h)
  where
    other : (c d : ℕ) → d < c → (c == d) ≡ false
    other c d h = grind (arith, nat_tests)

    no_control : (c : ℕ) → 128 ≤ c → is_control c ≡ false
    no_control c h = grind (arith, nat_tests)

text_unit : (c : ℕ) → unit_of (text_piece c) ≡ encode_utf8 c
text_unit c =
    let P : Piece → Type 0 = λ p. unit_of p ≡ encode_utf8 c in
    if_case P (c == 38) _ _ (λ e. ap encode_utf8 (sym (eqb-true c 38 e))) (λ _.
    if_case P (c == 60) _ _ (λ e. ap encode_utf8 (sym (eqb-true c 60 e))) (λ _.
    if_case P (c == 62) _ _ (λ e. ap encode_utf8 (sym (eqb-true c 62 e))) (λ _.
    if_case P (is_control c) _ _ (λ e. ap encode_utf8 (number_is c e)) (λ _. refl))))

-- a character that is none of the four meets the test
text_good : (test : ℕ → Bool) (c : ℕ) → ((c == 38) ≡ false → (c == 60) ≡ false → test c ≡ true) → scalar c ≡ true → IsPiece test (text_piece c)
text_good test c f s =
    let P : Piece → Type 0 = λ p. IsPiece test p in
    if_case P (c == 38) _ _ (λ e. tt) (λ a.
    if_case P (c == 60) _ _ (λ e. tt) (λ b.
    if_case P (c == 62) _ _ (λ e. tt) (λ _.
    if_case P (is_control c) _ _ (λ e. control_piece test c e) (λ _. (s, f a b)))))

pub spells_text : Spells text_piece escape in_text
spells_text = record { low = text_low; high = high_plain; same = high_same; unit = text_unit; good = λ c s. text_good in_text c (λ a b. rw (a, b)) s }

-- ---- values

other : (c d : ℕ) → d < c → (c == d) ≡ false
other c d h = grind (arith, nat_tests)

double_low : (c : ℕ) → c < 128 → spell_piece (double_piece c) ≡ escape_double c
unfolding escape_double
double_low c h = by_test (c == 34)
  where
    by_test : (t : Bool) → spell_piece (if t then named Quot else text_piece c) ≡ (if t then codes "&quot;" else escape c)
    by_test true = refl
    by_test false = text_low c h

double_same : (b : ℕ) → 128 ≤ b → escape_double b ≡ b ∷ []
unfolding escape_double
double_same b h = if_false (b == 34) _ _ (other b 34 (omega arith)) ∙ high_same b h

double_unit : (c : ℕ) → unit_of (double_piece c) ≡ encode_utf8 c
double_unit c =
    let P : Piece → Type 0 = λ p. unit_of p ≡ encode_utf8 c in
    if_case P (c == 34) _ _ (λ e. ap encode_utf8 (sym (eqb-true c 34 e))) (λ _. text_unit c)

double_good : (c : ℕ) → scalar c ≡ true → IsPiece (in_value 34) (double_piece c)
double_good c s =
    let P : Piece → Type 0 = λ p. IsPiece (in_value 34) p in
    if_case P (c == 34) _ _ (λ e. tt) (λ n. text_good (in_value 34) c (λ a b. rw (n, a)) s)

pub spells_double : Spells double_piece escape_double (in_value 34)
spells_double = record {
  low = double_low;
  high = λ c h. if_false (c == 34) _ _ (other c 34 (omega arith)) ∙ high_plain c h;
  same = double_same;
  unit = double_unit;
  good = double_good;
}

single_low : (c : ℕ) → c < 128 → spell_piece (single_piece c) ≡ escape_single c
unfolding escape_single
single_low c h = by_test (c == 39)
  where
    by_test : (t : Bool) → spell_piece (if t then number Decimal (codes "39") else text_piece c) ≡ (if t then codes "&#39;" else escape c)
    by_test true = refl
    by_test false = text_low c h

single_same : (b : ℕ) → 128 ≤ b → escape_single b ≡ b ∷ []
unfolding escape_single
single_same b h = if_false (b == 39) _ _ (other b 39 (omega arith)) ∙ high_same b h

single_unit : (c : ℕ) → unit_of (single_piece c) ≡ encode_utf8 c
single_unit c =
    let P : Piece → Type 0 = λ p. unit_of p ≡ encode_utf8 c in
    if_case P (c == 39) _ _ (λ e. ap encode_utf8 (sym (eqb-true c 39 e))) (λ _. text_unit c)

single_good : (c : ℕ) → scalar c ≡ true → IsPiece (in_value 39) (single_piece c)
single_good c s =
    let P : Piece → Type 0 = λ p. IsPiece (in_value 39) p in
    if_case P (c == 39) _ _ (λ e. (omega arith, omega arith, (refl, (refl, tt)), refl)) (λ n. text_good (in_value 39) c (λ a b. rw (n, a)) s)

pub spells_single : Spells single_piece escape_single (in_value 39)
spells_single = record {
  low = single_low;
  high = λ c h. if_false (c == 39) _ _ (other c 39 (omega arith)) ∙ high_plain c h;
  same = single_same;
  unit = single_unit;
  good = single_good;
}

-- ---- all characters of a text

-- the bytes of a character past ASCII are past ASCII
abbrev AreHigh : List ℕ → Type 0
AreHigh [] = Unit {0}
AreHigh (b ∷ bs) = (128 ≤ b) × AreHigh bs

high_bytes : (c : ℕ) → 128 ≤ c → AreHigh (encode c)
unfolding encode
high_bytes c h =
    let P : List ℕ → Type 0 = λ bs. AreHigh bs in
    if_case P (nat_lt c 128) _ _ (λ e. absurd (omega (arith, ltb-true c 128 e))) (λ _.
    if_case P (nat_lt c 2048) _ _ (λ _. (omega arith, (omega arith, tt))) (λ _.
    if_case P (nat_lt c 65536) _ _ (λ _. (omega arith, (omega arith, (omega arith, tt))))
    (λ _. (omega arith, (omega arith, (omega arith, (omega arith, tt)))))))

module _ (p : ℕ → Piece) (esc : ℕ → List ℕ) (test : ℕ → Bool) (s : Spells p esc test) where
  high_escape : (bs : List ℕ) → AreHigh bs → flat_map esc bs ≡ bs
  high_escape [] h = refl
  high_escape (b ∷ bs) h = ap₂ (λ (x y : List ℕ). x ++ y) (s.same b h.0) (high_escape bs h.1)

  spell_one : (c : ℕ) → spell_piece (p c) ≡ flat_map esc (encode c)
  spell_one c = elim (cases_lt c 128) [
    | inl small ↦ s.low c small ∙ sym (ap (flat_map esc) (encode_ascii c small) ∙ append-nil (esc c))
    | inr big ↦ ap spell_piece (s.high c big) ∙ sym (high_escape (encode c) (high_bytes c big))
  ]

  spell_all : (cs : List ℕ) → spell_pieces (map p cs) ≡ flat_map esc (encodes cs)
  spell_all [] = refl
  spell_all (c ∷ cs) = ap₂ (λ (x y : List ℕ). x ++ y) (spell_one c) (spell_all cs) ∙ sym (flat_map-append esc (encode c) (encodes cs))

  units_all : (cs : List ℕ) → flat_map unit_of (map p cs) ≡ encodes cs
  units_all [] = refl
  units_all (c ∷ cs) = ap₂ (λ (x y : List ℕ). x ++ y) (s.unit c) (units_all cs)

  good_all : (cs : List ℕ) → scalars cs ≡ true → ArePieces test (map p cs)
  good_all [] h = tt
  good_all (c ∷ cs) h = let q = and_parts _ _ h in (s.good c q.0, good_all cs q.1)

  -- the pieces of a text are spelled as it is escaped, stand for it, and are good
  pub pieces_spelled : (bs : List ℕ) → IsUtf8 bs → spell_pieces (map p (chars bs)) ≡ flat_map esc bs
  pieces_spelled bs u = spell_all (chars bs) ∙ ap (flat_map esc) (encodes-chars bs u)

  pub pieces_stand : (bs : List ℕ) → IsUtf8 bs → flat_map unit_of (map p (chars bs)) ≡ bs
  pieces_stand bs u = units_all (chars bs) ∙ encodes-chars bs u

  pub pieces_good : (bs : List ℕ) → IsUtf8 bs → ArePieces test (map p (chars bs))
  pieces_good bs u = good_all (chars bs) (scalars-chars bs u)
