-- Each state can be completed.
use Rattle.std.proofs.Common.{◌≡◌, ℕ, zero, suc, ◌+◌, ◌*◌, ◌<◌, ◌≤◌, Bool, true, false, Ok, List, [], ◌∷◌, ◌++◌, length, refl, ap, ◌∙◌, nat_eq, nat_lt, eq-eqb, arith, append_assoc, length-append, codes}
use Rattle.std.specs.Prelude.{if◌then◌else◌, ◌&&◌, ◌||◌, ◌==◌, not}
use Rattle.std.specs.Char.{to_ascii_lowercase}
use Rattle.std.specs.Str.{bytes_eq}
use Rattle.std.proofs.lemmas.Bool.Decides.{nat_tests}
use Rattle.std.proofs.lemmas.List.{append-nil}
use Rattle.wt_html_grammar.specs.declared.names.EscapeName.{EscapeName}
use Rattle.wt_html_grammar.specs.declared.names.Radix.{Radix}
use Rattle.wt_html_grammar.specs.declared.names.Radix.TheVariants.{Decimal, Hexadecimal}
use Rattle.wt_html_grammar.specs.Signs.{in_value, between, is_attribute_byte, is_digit_of, digit_value, base_of, Each, is_among}
use Rattle.wt_html_grammar.specs.Machine.{State, start, first, doctype, inside, less, naming, gap, attribute, named_so, equals, value, valued, slashed, opened, closing, closed, escaping, Escape, ampersand, apart, letters, sharp, digits, wide, is_begun, is_whole, is_plain, turned, Tag, with_seen, step, run}
use Rattle.wt_html_grammar.proofs.Steps.{if_true, if_false, if_case, run_step}

-- the end tags of these
abbrev pub closers : List (List ℕ) → List ℕ
closers [] = []
closers (n ∷ ns) = 60 ∷ 47 ∷ (n ++ (62 ∷ closers ns))

abbrev low_bytes : ℕ → List ℕ
low_bytes zero = []
low_bytes (suc n) = 128 ∷ low_bytes n

abbrev complete_escape : Escape → List ℕ
complete_escape ampersand = codes "lt;"
complete_escape apart = codes "mp;"
complete_escape (letters n cs) = cs ++ codes ";"
complete_escape sharp = codes "0;"
complete_escape (digits r k n) = if is_whole k n then codes ";" else codes "0;"
complete_escape (wide low high n) = low ∷ low_bytes n

-- as many letters
abbrev as_long : List ℕ → List ℕ
as_long [] = []
as_long (c ∷ cs) = 97 ∷ as_long cs

-- a letter more than in all of these
abbrev padding : List (List ℕ) → List ℕ
padding [] = []
padding (n ∷ ns) = 97 ∷ (as_long n ++ padding ns)

abbrev root : List ℕ
root = codes "a></a>"

abbrev value_and_close : List (List ℕ) → List ℕ
value_and_close ns = 34 ∷ 34 ∷ 62 ∷ closers ns

-- what leads from there to the end
abbrev pub complete : State → List ℕ
complete start = 60 ∷ root
complete first = root
complete (doctype cs) = cs ++ (60 ∷ root)
complete (inside ns) = closers ns
complete (less []) = root
complete (less (n ∷ ns)) = 47 ∷ (n ++ (62 ∷ closers ns))
complete (naming ns n) = 62 ∷ closers (opened (record { outer = ns; name = n; seen = [] }))
complete (gap t) = 62 ∷ closers (opened t)
complete (attribute t a) = padding t.seen ++ (61 ∷ value_and_close (opened t))
complete (named_so t) = 61 ∷ value_and_close (opened t)
complete (equals t) = value_and_close (opened t)
complete (value t q) = q ∷ 62 ∷ closers (opened t)
complete (valued t) = 62 ∷ closers (opened t)
complete (slashed t) = 62 ∷ closers t.outer
complete (closing cs ns) = cs ++ (62 ∷ closers ns)
complete (closed ns) = 62 ∷ closers ns
complete (escaping s e) = complete_escape e ++ complete s

pub eq_self : (c : ℕ) → nat_eq c c ≡ true
eq_self c = eq-eqb c c refl

pub closing_run : (cs : List ℕ) (ns : List (List ℕ)) (rest : List ℕ) → run (closing cs ns) (cs ++ rest) ≡ run (closing [] ns) rest
closing_run [] ns rest = refl
closing_run (c ∷ cs) ns rest =
    run_step (closing (c ∷ cs) ns) (closing cs ns) c (cs ++ rest) (if_true (nat_eq c c) _ _ (eq_self c))
    ∙ closing_run cs ns rest

pub letters_run : (cs : List ℕ) (n : EscapeName) (s : State) (rest : List ℕ) → run (escaping s (letters n cs)) (cs ++ rest)
    ≡ run (escaping s (letters n [])) rest
letters_run [] n s rest = refl
letters_run (c ∷ cs) n s rest =
    run_step (escaping s (letters n (c ∷ cs))) (escaping s (letters n cs)) c (cs ++ rest)
    (ap (turned s (letters n (c ∷ cs))) (if_true (nat_eq c c) _ _ (eq_self c)))
    ∙ letters_run cs n s rest

pub close_all : (ns : List (List ℕ)) → run (inside ns) (closers ns) ≡ Ok (inside [])
close_all [] = refl
close_all (n ∷ ns) = closing_run n ns (62 ∷ closers ns) ∙ close_all ns

-- a number that may go on
abbrev pub IsBegun : Radix → ℕ → ℕ → Type 0
IsBegun r k n = (is_begun r k n ≡ true) × (k ≡ 0 → n ≡ 0)

abbrev pub OkEscape : Escape → Type 0
OkEscape (wide low high n) = low ≤ high
OkEscape (digits r k n) = IsBegun r k n
OkEscape e = Unit {0}

-- a doctype goes on in small letters
abbrev pub IsSmall : List ℕ → Type 0
IsSmall cs = Each (λ c. to_ascii_lowercase c == c) cs

abbrev pub Viable : State → Type 0
Viable (escaping s e) = OkEscape e × Viable s
Viable (doctype cs) = IsSmall cs
Viable s = Unit {0}

zero_begun : (r : Radix) (k n : ℕ) → is_begun r k n ≡ true → (k ≡ 0 → n ≡ 0) → is_whole k n ≡ false → is_begun r (k + 1) (n * base_of r + digit_value 48) ≡ true
zero_begun Decimal k n e z h = grind (arith, nat_tests)
zero_begun Hexadecimal k n e z h = grind (arith, nat_tests)

zero_whole : (r : Radix) (k n : ℕ) → is_begun r k n ≡ true → (k ≡ 0 → n ≡ 0) → is_whole k n ≡ false → is_whole (k + 1) (n * base_of r + digit_value 48) ≡ true
zero_whole Decimal k n e z h = grind (arith, nat_tests)
zero_whole Hexadecimal k n e z h = grind (arith, nat_tests)

low_between : (low high : ℕ) → low ≤ high → between low high low ≡ true
low_between low high h = grind (arith, nat_tests)

wide_completes : (n low high : ℕ) → low ≤ high → (s : State) (rest : List ℕ) → run (escaping s (wide low high n)) (low ∷ (low_bytes n ++ rest)) ≡ run s rest
wide_completes zero low high h s rest =
    run_step (escaping s (wide low high zero)) s low rest (ap (turned s (wide low high zero)) (if_true (between low high low) _ _ (low_between low high h)))
wide_completes (suc n) low high h s rest =
    run_step (escaping s (wide low high (suc n))) (escaping s (wide 128 191 n)) low (128 ∷ (low_bytes n ++ rest))
    (ap (turned s (wide low high (suc n))) (if_true (between low high low) _ _ (low_between low high h)))
    ∙ wide_completes n 128 191 (omega arith) s rest

zero_digit : (r : Radix) → is_digit_of r 48 ≡ true
zero_digit Decimal = refl
zero_digit Hexadecimal = refl

pub semicolon_not : (r : Radix) → is_digit_of r 59 ≡ false
semicolon_not Decimal = refl
semicolon_not Hexadecimal = refl

-- behind its digits a number ends
pub digits_end : (r : Radix) (k n : ℕ) (s : State) (rest : List ℕ) → is_whole k n ≡ true → run (escaping s (digits r k n)) (59 ∷ rest) ≡ run s rest
digits_end r k n s rest t =
    run_step (escaping s (digits r k n)) s 59 rest
    (ap (turned s (digits r k n)) (if_false (is_digit_of r 59) _ _ (semicolon_not r) ∙ if_true (is_whole k n) _ _ t))

pub digits_step : (r : Radix) (k n b : ℕ) (s : State) (rest : List ℕ) → is_digit_of r b ≡ true → is_begun r (k + 1) (n * base_of r + digit_value b) ≡ true
    → run (escaping s (digits r k n)) (b ∷ rest) ≡ run (escaping s (digits r (k + 1) (n * base_of r + digit_value b))) rest
digits_step r k n b s rest d e =
    run_step (escaping s (digits r k n)) (escaping s (digits r (k + 1) (n * base_of r + digit_value b))) b rest
    (ap (turned s (digits r k n)) (if_true (is_digit_of r b) _ _ d ∙ if_true (is_begun r (k + 1) (n * base_of r + digit_value b)) _ _ e))

escape_completes : (e : Escape) → OkEscape e → (s : State) (rest : List ℕ) → run (escaping s e) (complete_escape e ++ rest) ≡ run s rest
escape_completes ampersand h s rest = refl
escape_completes apart h s rest = refl
escape_completes sharp h s rest = refl
escape_completes (wide low high n) h s rest = wide_completes n low high h s rest
escape_completes (letters n cs) h s rest =
    ap (run (escaping s (letters n cs))) (append_assoc cs (59 ∷ []) rest) ∙ letters_run cs n s (59 ∷ rest)
escape_completes (digits r k n) h s rest =
    if_case (λ (l : List ℕ). run (escaping s (digits r k n)) (l ++ rest) ≡ run s rest) (is_whole k n) _ _
    (λ t. digits_end r k n s rest t)
    (λ t. digits_step r k n 48 s (59 ∷ rest) (zero_digit r) (zero_begun r k n h.0 h.1 t)
    ∙ digits_end r (k + 1) (n * base_of r + digit_value 48) s rest (zero_whole r k n h.0 h.1 t))

-- the padding is no name before it
length_as_long : (n : List ℕ) → length (as_long n) ≡ length n
length_as_long [] = refl
length_as_long (c ∷ cs) = ap suc (length_as_long cs)

or_false : (a b : Bool) → a ≡ false → b ≡ false → (a || b) ≡ false
or_false true b e f = cc
or_false false b e f = f

differs : (a b : List ℕ) → length b < length a → bytes_eq a b ≡ false
differs [] b h = absurd (omega arith)
differs (x ∷ xs) [] h = refl
differs (x ∷ xs) (y ∷ ys) h = and_false (nat_eq x y) (bytes_eq xs ys) (differs xs ys (omega arith))
  where
    and_false : (a b : Bool) → b ≡ false → (a && b) ≡ false
    and_false true b e = e
    and_false false b e = refl

long_is_new : (w : List ℕ) (ns : List (List ℕ)) → length (padding ns) ≤ length w → is_among w ns ≡ false
long_is_new w [] h = refl
long_is_new w (n ∷ ns) h =
    let e : length (as_long n ++ padding ns) ≡ length (as_long n) + length (padding ns) = length-append (as_long n) (padding ns) in
    or_false (bytes_eq w n) (is_among w ns) (differs w n (omega (arith, length_as_long n))) (long_is_new w ns (omega arith))

pub each_append : (p : ℕ → Bool) (xs ys : List ℕ) → Each p xs → Each p ys → Each p (xs ++ ys)
each_append p [] ys h g = g
each_append p (x ∷ xs) ys h g = (h.0, each_append p xs ys h.1 g)

as_long_letters : (n : List ℕ) → Each is_attribute_byte (as_long n)
as_long_letters [] = tt
as_long_letters (c ∷ cs) = (refl, as_long_letters cs)

padding_letters : (ns : List (List ℕ)) → Each is_attribute_byte (padding ns)
padding_letters [] = tt
padding_letters (n ∷ ns) = (refl, each_append is_attribute_byte (as_long n) (padding ns) (as_long_letters n) (padding_letters ns))

pub attribute_run : (cs : List ℕ) (t : Tag) (a rest : List ℕ) → Each is_attribute_byte cs → run (attribute t a) (cs ++ rest) ≡ run (attribute t (a ++ cs)) rest
attribute_run [] t a rest h = simp append-nil
attribute_run (c ∷ cs) t a rest h =
    run_step (attribute t a) (attribute t (a ++ c ∷ [])) c (cs ++ rest) (if_true (is_attribute_byte c) _ _ h.0)
    ∙ attribute_run cs t (a ++ c ∷ []) rest h.1
    ∙ ap (λ m. run (attribute t m) rest) (append_assoc a (c ∷ []) cs)

attribute_completes : (t : Tag) (a : List ℕ) → run (attribute t a) (complete (attribute t a)) ≡ Ok (inside [])
attribute_completes t a =
    let w : List ℕ = a ++ padding t.seen in
    let rest : List ℕ = value_and_close (opened t) in
    attribute_run (padding t.seen) t a (61 ∷ rest) (padding_letters t.seen)
    ∙ run_step (attribute t w) (equals (with_seen t w)) 61 rest
    (if_false (is_among w t.seen) _ _ (long_is_new w t.seen (omega (arith, length-append a (padding t.seen)))))
    ∙ close_all (opened t)

-- the quote ends a value
pub not_plain_quote : (q : ℕ) → is_plain (in_value q) q ≡ false
not_plain_quote q = not_plain (nat_lt q 128) (nat_eq q q) (not (q == 38)) (eq_self q)
  where
    not_plain : (a b c : Bool) → b ≡ true → (a && (not b && c)) ≡ false
    not_plain true true c e = refl
    not_plain false true c e = refl
    not_plain a false c e = cc

pub quote_ends : (t : Tag) (q : ℕ) → step (value t q) q ≡ Ok (valued t)
quote_ends t q = if_false (is_plain (in_value q) q) _ _ (not_plain_quote q) ∙ if_true (q == q) _ _ (eq_self q)

doctype_completes : (cs : List ℕ) → IsSmall cs → (rest : List ℕ) → run (doctype cs) (cs ++ rest) ≡ run (doctype []) rest
doctype_completes [] h rest = refl
doctype_completes (c ∷ cs) h rest =
    run_step (doctype (c ∷ cs)) (doctype cs) c (cs ++ rest) (if_true (to_ascii_lowercase c == c) _ _ h.0) ∙ doctype_completes cs h.1 rest

pub completes : (s : State) → Viable s → run s (complete s) ≡ Ok (inside [])
completes start h = refl
completes first h = refl
completes (doctype cs) h = doctype_completes cs h (60 ∷ root)
completes (inside ns) h = close_all ns
completes (less []) h = refl
completes (less (n ∷ ns)) h = closing_run n ns (62 ∷ closers ns) ∙ close_all ns
completes (naming ns n) h = close_all (opened (record { outer = ns; name = n; seen = [] }))
completes (gap t) h = close_all (opened t)
completes (slashed t) h = close_all t.outer
completes (attribute t a) h = attribute_completes t a
completes (named_so t) h = close_all (opened t)
completes (equals t) h = close_all (opened t)
completes (value t q) h = run_step (value t q) (valued t) q (62 ∷ closers (opened t)) (quote_ends t q) ∙ close_all (opened t)
completes (valued t) h = close_all (opened t)
completes (closing cs ns) h = closing_run cs ns (62 ∷ closers ns) ∙ close_all ns
completes (closed ns) h = close_all ns
completes (escaping s e) h = escape_completes e h.0 s (complete s) ∙ completes s h.1
