-- What is read so far is in UTF-8: whole characters, and maybe a part of one behind them.
use Rattle.std.proofs.Common.{◌≡◌, ℕ, zero, suc, ◌+◌, ◌*◌, ◌<◌, Bool, true, false, Option, Some, None, Result, Ok, Err, List, [], ◌∷◌, ◌++◌, length, map, refl, sym, ap, ◌∙◌, subst, nat_lt, append_assoc, arith, codes, inl, inr}
use Rattle.std.specs.Prelude.{◌==◌, ◌⊎◌}
use Rattle.std.specs.Str.{IsUtf8}
use Rattle.std.specs.Char.{to_ascii_lowercase}
use Rattle.std.proofs.lemmas.List.{append-nil}
use Rattle.std.proofs.lemmas.Bool.{eqb-true}
use Rattle.std.proofs.lemmas.Bool.Decides.{nat_tests}
use Rattle.std.proofs.lemmas.Str.{encode_ascii, IsUtf8-nil, IsUtf8-append, IsUtf8-encode}
use lib.Utf8.{low_scalar}
use Rattle.wt_html_grammar.specs.declared.names.EscapeName.{EscapeName}
use Rattle.wt_html_grammar.specs.declared.names.EscapeName.TheVariants.{Amp, Lt, Gt, Quot, Apos, Nbsp}
use Rattle.wt_html_grammar.specs.declared.names.Radix.{Radix}
use Rattle.wt_html_grammar.specs.declared.names.Radix.TheVariants.{Decimal, Hexadecimal}
use Rattle.wt_html_grammar.specs.declared.why.HtmlWhy.{HtmlWhy}
use Rattle.wt_html_grammar.specs.Signs.{is_quote, is_void, is_among, Follow, follow, between, IsFollow, Follows, begins_character, is_lower, is_name_byte, is_attribute_byte, is_space, is_digit_of, digit_value, base_of, in_text, in_value, letters_of, number_from, Each, IsName}
use Rattle.wt_html_grammar.specs.Machine.{State, start, inside, value, escaping, Escape, ampersand, apart, letters, sharp, digits, wide, EscapeStep, is_begun, is_whole, in_digits, in_escape, begins, special, at_end, at_open, at_name, end_tag, in_doctype, is_plain, turned, Tag, with_seen, mended, step, onward, run}
use Rattle.wt_html_grammar.proofs.Steps.{if_case}
use Rattle.wt_html_grammar.proofs.Chars.{IsChar, of_bytes}
use Rattle.wt_html_grammar.proofs.Partial.{names_of, Partial, p_text, p_less, p_naming, p_gap, p_attribute, p_named, p_equals, p_value, p_slashed, p_valued, p_closing, p_closed, p_done, p_escaping, Begun, b_ampersand, b_apart, b_letters, b_sharp, b_digits, b_wide, escape_of, IsBegunEscape, TakesPiece, Sound, seen, names, tag}
use Rattle.wt_html_grammar.proofs.Whole.{Ahead, a_lead, a_first, a_word, a_gap, state_of, IsAhead, InHead, Behind, reached}
use Rattle.wt_html_grammar.proofs.Places.{run_push}
use Rattle.wt_html_grammar.proofs.Reading.{others_eq}

-- what is left of a character in the midst of which the machine is
abbrev pub left_of : State → Option Follow
left_of (escaping s (wide low high n)) = Some (record { low = low; high = high; more = n })
left_of s = None

-- whole characters, and a part of one: what follows is the rest of it, exactly
abbrev pub InCharacter : Option Follow → List ℕ → Type 0
InCharacter None bytes = IsUtf8 bytes
InCharacter (Some f) bytes =
    (done : List ℕ) × (b : ℕ) × (got : List ℕ) × IsUtf8 done × (bytes ≡ done ++ (b ∷ got)) × (nat_lt b 128 ≡ false)
    × ((x : List ℕ) → IsFollow f.low f.high f.more x → Follows (follow b) (got ++ x))
    × ((x rest tail : List ℕ) → Follows (follow b) x → got ++ tail ≡ x ++ rest → (y : List ℕ) × IsFollow f.low f.high f.more y × (tail ≡ y ++ rest))

abbrev pub Goes : List ℕ → Result State HtmlWhy → Type 0
Goes bytes (Err w) = Unit {0}
Goes bytes (Ok s) = InCharacter (left_of s) bytes

-- bytes below 128
space_low : (b : ℕ) → is_space b ≡ true → b < 128
space_low b e = grind (arith, nat_tests)

attribute_low : (b : ℕ) → is_attribute_byte b ≡ true → b < 128
attribute_low b e = grind (arith, nat_tests)

pub name_low : (b : ℕ) → is_name_byte b ≡ true → b < 128
name_low b e = grind (arith, nat_tests)

lower_low : (b : ℕ) → is_lower b ≡ true → b < 128
lower_low b e = grind (arith, nat_tests)

quote_low : (b : ℕ) → is_quote b ≡ true → b < 128
quote_low b e = grind (arith, nat_tests)

digit_low : (r : Radix) (b : ℕ) → is_digit_of r b ≡ true → b < 128
digit_low Decimal b e = grind (arith, nat_tests)
digit_low Hexadecimal b e = grind (arith, nat_tests)

plain_low : (p : ℕ → Bool) (b : ℕ) → is_plain p b ≡ true → b < 128
plain_low p b e = by_test (nat_lt b 128) refl
  where
    by_test : (t : Bool) → nat_lt b 128 ≡ t → b < 128
    by_test true f = grind (arith, nat_tests)
    by_test false f = grind (arith, nat_tests)

small_low : (b c : ℕ) → to_ascii_lowercase b ≡ c → c < 128 → b < 128
small_low b c e h = grind (arith, nat_tests)

like : (b c : ℕ) → (b == c) ≡ true → c < 128 → b < 128
like b c e h = let q : b ≡ c = eqb-true b c e in omega arith

-- a byte below 128 more
low : (bytes : List ℕ) (b : ℕ) → IsUtf8 bytes → b < 128 → IsUtf8 (bytes ++ b ∷ [])
low bytes b u h =
    let one : IsUtf8 (b ∷ []) = subst IsUtf8 (encode_ascii b h) (IsUtf8-encode b (low_scalar b (omega arith))) in
    IsUtf8-append bytes (b ∷ []) u one

end_goes : (bytes : List ℕ) (ns : List (List ℕ)) (b : ℕ) → IsUtf8 bytes → Goes (bytes ++ b ∷ []) (at_end ns b)
end_goes bytes ns b u =
    let P : Result State HtmlWhy → Type 0 = Goes (bytes ++ b ∷ []) in
    if_case P (is_space b) _ _ (λ e. low bytes b u (space_low b e)) (λ _. if_case P (b == 62) _ _ (λ e. low bytes b u (like b 62 e (omega arith))) (λ _. tt))

open_goes : (bytes : List ℕ) (t : Tag) (b : ℕ) → IsUtf8 bytes → Goes (bytes ++ b ∷ []) (at_open t b)
open_goes bytes t b u =
    let P : Result State HtmlWhy → Type 0 = Goes (bytes ++ b ∷ []) in
    if_case P (is_space b) _ _ (λ e. low bytes b u (space_low b e))
    (λ _. if_case P (b == 62) _ _ (λ e. low bytes b u (like b 62 e (omega arith)))
    (λ _. if_case P (b == 47) _ _ (λ e. if_case P (is_void t.name) _ _ (λ _. low bytes b u (like b 47 e (omega arith))) (λ _. tt))
    (λ _. tt)))

name_goes : (bytes : List ℕ) (t : Tag) (b : ℕ) → IsUtf8 bytes → Goes (bytes ++ b ∷ []) (at_name t b)
name_goes bytes t b u =
    let P : Result State HtmlWhy → Type 0 = Goes (bytes ++ b ∷ []) in
    if_case P (is_space b) _ _ (λ e. low bytes b u (space_low b e)) (λ _. if_case P (b == 61) _ _ (λ e. low bytes b u (like b 61 e (omega arith))) (λ _. tt))

low_none : (b : ℕ) → nat_lt b 128 ≡ true → follow b ≡ None
low_none b e = grind (arith, nat_tests)

some_high : (b : ℕ) (f : Follow) (t : Bool) → nat_lt b 128 ≡ t → follow b ≡ Some f → nat_lt b 128 ≡ false
some_high b f true e g = let n : None ≡ Some f = sym (low_none b e) ∙ g in absurd cc
some_high b f false e g = e

begins_goes : (bytes : List ℕ) (s : State) (b : ℕ) (o : Option Follow) → IsUtf8 bytes → follow b ≡ o → Goes (bytes ++ b ∷ []) (begins s o)
begins_goes bytes s b None u e = tt
begins_goes bytes s b (Some f) u e = (
  bytes,
  b,
  [],
  u,
  refl,
  some_high b f (nat_lt b 128) refl e,
  (λ x h. let P : Option Follow → Type 0 = λ o. Follows o x in subst P (sym e) h),
  (λ x rest tail h q. (x, (let P : Option Follow → Type 0 = λ o. Follows o x in subst P e h), q)),
)

special_goes : (bytes : List ℕ) (s : State) (b : ℕ) → IsUtf8 bytes → Goes (bytes ++ b ∷ []) (special s b)
special_goes bytes s b u =
    let P : Result State HtmlWhy → Type 0 = Goes (bytes ++ b ∷ []) in
    if_case P (b == 38) _ _ (λ e. low bytes b u (like b 38 e (omega arith))) (λ _. begins_goes bytes s b (follow b) u refl)

tag_goes : (bytes : List ℕ) (ns : List (List ℕ)) (b : ℕ) → IsUtf8 bytes → (b == 47) ≡ true → Goes (bytes ++ b ∷ []) (end_tag ns)
tag_goes bytes [] b u e = tt
tag_goes bytes (n ∷ ns) b u e = low bytes b u (like b 47 e (omega arith))

-- behind what takes characters
none_left : (p : Partial) → TakesPiece p → left_of (seen p) ≡ None
none_left (p_text l ls) t = refl
none_left (p_value o g a lg rg q ps) t = refl
none_left (p_less ls) t = absurd t
none_left (p_naming ls n) t = absurd t
none_left (p_gap o g) t = absurd t
none_left (p_attribute o g a) t = absurd t
none_left (p_named o g a lg) t = absurd t
none_left (p_equals o g a lg rg) t = absurd t
none_left (p_slashed o g) t = absurd t
none_left (p_valued o) t = absurd t
none_left (p_closing l ls got left) t = absurd t
none_left (p_closed l ls g) t = absurd t
none_left (p_done e g) t = absurd t
none_left (p_escaping p e) t = absurd t

ended_goes : (bytes : List ℕ) (p : Partial) → TakesPiece p → IsUtf8 bytes → Goes bytes (Ok (seen p))
ended_goes bytes p t u = let P : Option Follow → Type 0 = λ o. InCharacter o bytes in subst P (sym (none_left p t)) u

digits_goes : (bytes : List ℕ) (p : Partial) (e : Escape) (r : Radix) (k n b : ℕ) → TakesPiece p → IsUtf8 bytes
    → Goes (bytes ++ b ∷ []) (turned (seen p) e (in_digits r k n b))
digits_goes bytes p x r k n b t u =
    let P : EscapeStep → Type 0 = λ o. Goes (bytes ++ b ∷ []) (turned (seen p) x o) in
    if_case P (is_digit_of r b) _ _
    (λ e. if_case P (is_begun r (k + 1) (n * base_of r + digit_value b)) _ _ (λ _. low bytes b u (digit_low r b e)) (λ _. tt))
    (λ _. if_case P (b == 59) _ _
    (λ e. if_case P (is_whole k n) _ _ (λ _. ended_goes (bytes ++ b ∷ []) p t (low bytes b u (like b 59 e (omega arith)))) (λ _. tt))
    (λ _. tt))

abbrev low_byte : ℕ → Bool
low_byte b = nat_lt b 128

-- the byte behind a part
byte_behind : (p : ℕ → Bool) (got : List ℕ) (c : ℕ) (cs : List ℕ) → Each p (got ++ c ∷ cs) → p c ≡ true
byte_behind p [] c cs h = h.0
byte_behind p (d ∷ got) c cs h = byte_behind p got c cs h.1

is_low : (c : ℕ) → low_byte c ≡ true → c < 128
is_low c e = grind (arith, nat_tests)

low_letters : (n : EscapeName) → Each low_byte (letters_of n)
low_letters Amp = (refl, (refl, (refl, tt)))
low_letters Lt = (refl, (refl, tt))
low_letters Gt = (refl, (refl, tt))
low_letters Quot = (refl, (refl, (refl, (refl, tt))))
low_letters Apos = (refl, (refl, (refl, (refl, tt))))
low_letters Nbsp = (refl, (refl, (refl, (refl, tt))))

letter_low : (n : EscapeName) (got : List ℕ) (c : ℕ) (cs : List ℕ) → got ++ c ∷ cs ≡ letters_of n → c < 128
letter_low n got c cs e = is_low c (byte_behind low_byte got c cs (let P : List ℕ → Type 0 = Each low_byte in subst P (sym e) (low_letters n)))

name_bytes : (n : List ℕ) → IsName n → Each is_name_byte n
name_bytes [] h = absurd h
name_bytes (c ∷ cs) h = (lower_name c h.0, h.1)
  where
    lower_name : (c : ℕ) → is_lower c ≡ true → is_name_byte c ≡ true
    lower_name c e = grind (arith, nat_tests)

name_byte_low : (n got : List ℕ) (c : ℕ) (cs : List ℕ) → IsName n → got ++ c ∷ cs ≡ n → c < 128
name_byte_low n got c cs h e =
    name_low c (byte_behind is_name_byte got c cs (let P : List ℕ → Type 0 = Each is_name_byte in subst P (sym e) (name_bytes n h)))

-- in a character of several bytes
done_char : (done : List ℕ) (begin : ℕ) (got : List ℕ) (b : ℕ) → IsUtf8 done → Follows (follow begin) (got ++ b ∷ []) → IsUtf8 ((done ++ begin ∷ got) ++ b ∷ [])
done_char done begin got b u f =
    let r : IsChar (begin ∷ (got ++ b ∷ [])) = of_bytes begin (got ++ b ∷ []) f in
    let one : IsUtf8 (begin ∷ (got ++ b ∷ [])) = subst IsUtf8 r.2 (IsUtf8-encode r.0 r.1) in
    subst IsUtf8 (sym (append_assoc done (begin ∷ got) (b ∷ []))) (IsUtf8-append done (begin ∷ (got ++ b ∷ [])) u one)

first_of_rest : (low high n b : ℕ) (tail rest y : List ℕ) → IsFollow low high (suc n) y → b ∷ tail ≡ y ++ rest
    → (z : List ℕ) × IsFollow 128 191 n z × (tail ≡ z ++ rest)
first_of_rest low high n b tail rest [] h e = absurd h
first_of_rest low high n b tail rest (c ∷ z) h e = (z, h.1, others_eq b c tail (z ++ rest) e)

wide_goes : (p : Partial) (low high n b : ℕ) (bytes : List ℕ) → TakesPiece p → InCharacter (Some (record { low = low; high = high; more = n })) bytes
    → Goes (bytes ++ b ∷ []) (turned (seen p) (wide low high n) (in_escape (wide low high n) b))
wide_goes p low high zero b bytes t h =
    let P : EscapeStep → Type 0 = λ o. Goes (bytes ++ b ∷ []) (turned (seen p) (wide low high zero) o) in
    if_case P (between low high b) _ _
    (λ e. ended_goes (bytes ++ b ∷ []) p t
    (let Q : List ℕ → Type 0 = λ w. IsUtf8 (w ++ b ∷ []) in subst Q (sym h.4) (done_char h.0 h.1 h.2 b h.3 (h.6 (b ∷ []) (e, refl)))))
    (λ _. tt)
wide_goes p low high (suc n) b bytes t h =
    let P : EscapeStep → Type 0 = λ o. Goes (bytes ++ b ∷ []) (turned (seen p) (wide low high (suc n)) o) in
    let F : List ℕ → Type 0 = Follows (follow h.1) in
    if_case P (between low high b) _ _
    (λ e. (
      h.0,
      h.1,
      h.2 ++ b ∷ [],
      h.3,
      ap (λ w. w ++ b ∷ []) h.4 ∙ append_assoc h.0 (h.1 ∷ h.2) (b ∷ []),
      h.5,
      (λ x f. subst F (sym (append_assoc h.2 (b ∷ []) x)) (h.6 (b ∷ x) (e, f))),
      (λ x rest tail f q. (let r = h.7 x rest (b ∷ tail) f (sym (append_assoc h.2 (b ∷ []) tail) ∙ q) in first_of_rest low high n b tail rest r.0 r.1 r.2)),
    ))
    (λ _. tt)

escape_goes : (p : Partial) (e : Begun) (b : ℕ) (bytes : List ℕ) → TakesPiece p → IsBegunEscape e
    → InCharacter (left_of (escaping (seen p) (escape_of e))) bytes
    → Goes (bytes ++ b ∷ []) (turned (seen p) (escape_of e) (in_escape (escape_of e) b))
escape_goes p b_ampersand b bytes t h u =
    let P : EscapeStep → Type 0 = λ o. Goes (bytes ++ b ∷ []) (turned (seen p) ampersand o) in
    if_case P (b == 35) _ _ (λ e. low bytes b u (like b 35 e (omega arith)))
    (λ _. if_case P (b == 97) _ _ (λ e. low bytes b u (like b 97 e (omega arith)))
    (λ _. if_case P (b == 108) _ _ (λ e. low bytes b u (like b 108 e (omega arith)))
    (λ _. if_case P (b == 103) _ _ (λ e. low bytes b u (like b 103 e (omega arith)))
    (λ _. if_case P (b == 113) _ _ (λ e. low bytes b u (like b 113 e (omega arith)))
    (λ _. if_case P (b == 110) _ _ (λ e. low bytes b u (like b 110 e (omega arith))) (λ _. tt))))))
escape_goes p b_apart b bytes t h u =
    let P : EscapeStep → Type 0 = λ o. Goes (bytes ++ b ∷ []) (turned (seen p) apart o) in
    if_case P (b == 109) _ _ (λ e. low bytes b u (like b 109 e (omega arith)))
    (λ _. if_case P (b == 112) _ _ (λ e. low bytes b u (like b 112 e (omega arith))) (λ _. tt))
escape_goes p (b_letters n got (c ∷ cs)) b bytes t h u =
    let P : EscapeStep → Type 0 = λ o. Goes (bytes ++ b ∷ []) (turned (seen p) (letters n (c ∷ cs)) o) in
    if_case P (b == c) _ _ (λ e. low bytes b u (like b c e (letter_low n got c cs h))) (λ _. tt)
escape_goes p (b_letters n got []) b bytes t h u =
    let P : EscapeStep → Type 0 = λ o. Goes (bytes ++ b ∷ []) (turned (seen p) (letters n []) o) in
    if_case P (b == 59) _ _ (λ e. ended_goes (bytes ++ b ∷ []) p t (low bytes b u (like b 59 e (omega arith)))) (λ _. tt)
escape_goes p b_sharp b bytes t h u =
    let P : EscapeStep → Type 0 = λ o. Goes (bytes ++ b ∷ []) (turned (seen p) sharp o) in
    if_case P (b == 120) _ _ (λ e. low bytes b u (like b 120 e (omega arith))) (λ _. digits_goes bytes p sharp Decimal 0 0 b t u)
escape_goes p (b_digits r ds) b bytes t h u = digits_goes bytes p (digits r (length ds) (number_from r 0 ds)) r (length ds) (number_from r 0 ds) b t u
escape_goes p (b_wide begin got low high n) b bytes t h u = wide_goes p low high n b bytes t u

-- one byte more, behind the head
partial_goes : (p : Partial) (b : ℕ) (bytes : List ℕ) → Sound p → InCharacter (left_of (seen p)) bytes → Goes (bytes ++ b ∷ []) (step (seen p) b)
partial_goes (p_text l ls) b bytes h u =
    let P : Result State HtmlWhy → Type 0 = Goes (bytes ++ b ∷ []) in
    if_case P (is_plain in_text b) _ _ (λ e. low bytes b u (plain_low in_text b e))
    (λ _. if_case P (b == 60) _ _ (λ e. low bytes b u (like b 60 e (omega arith)))
    (λ _. special_goes bytes (inside (l.name ∷ names ls)) b u))
partial_goes (p_less ls) b bytes h u =
    let P : Result State HtmlWhy → Type 0 = Goes (bytes ++ b ∷ []) in
    if_case P (is_lower b) _ _ (λ e. if_case P (nat_lt (length (names ls)) 200) _ _ (λ _. low bytes b u (lower_low b e)) (λ _. tt))
    (λ _. if_case P (b == 47) _ _ (λ e. tag_goes bytes (names ls) b u e) (λ _. tt))
partial_goes (p_naming ls n) b bytes h u =
    let P : Result State HtmlWhy → Type 0 = Goes (bytes ++ b ∷ []) in
    if_case P (is_name_byte b) _ _ (λ e. low bytes b u (name_low b e)) (λ _. open_goes bytes (record { outer = names ls; name = n; seen = [] }) b u)
partial_goes (p_gap o g) b bytes h u =
    let P : Result State HtmlWhy → Type 0 = Goes (bytes ++ b ∷ []) in
    if_case P (is_attribute_byte b) _ _ (λ e. low bytes b u (attribute_low b e)) (λ _. open_goes bytes (tag o) b u)
partial_goes (p_attribute o g a) b bytes h u =
    let P : Result State HtmlWhy → Type 0 = Goes (bytes ++ b ∷ []) in
    if_case P (is_attribute_byte b) _ _ (λ e. low bytes b u (attribute_low b e))
    (λ _. if_case P (is_among a (names_of o.attributes)) _ _ (λ _. tt) (λ _. name_goes bytes (with_seen (tag o) a) b u))
partial_goes (p_named o g a lg) b bytes h u = name_goes bytes (with_seen (tag o) a) b u
partial_goes (p_equals o g a lg rg) b bytes h u =
    let P : Result State HtmlWhy → Type 0 = Goes (bytes ++ b ∷ []) in
    if_case P (is_quote b) _ _ (λ e. low bytes b u (quote_low b e)) (λ _. if_case P (is_space b) _ _ (λ e. low bytes b u (space_low b e)) (λ _. tt))
partial_goes (p_value o g a lg rg q ps) b bytes h u =
    let P : Result State HtmlWhy → Type 0 = Goes (bytes ++ b ∷ []) in
    if_case P (is_plain (in_value q) b) _ _ (λ e. low bytes b u (plain_low (in_value q) b e))
    (λ _. if_case P (b == q) _ _ (λ e. low bytes b u (like b q e (quote_low q h.5)))
    (λ _. special_goes bytes (value (with_seen (tag o) a) q) b u))
partial_goes (p_slashed o g) b bytes h u =
    let P : Result State HtmlWhy → Type 0 = Goes (bytes ++ b ∷ []) in
    if_case P (b == 62) _ _ (λ e. low bytes b u (like b 62 e (omega arith))) (λ _. tt)
partial_goes (p_valued o) b bytes h u = open_goes bytes (tag o) b u
partial_goes (p_closing l ls got (c ∷ cs)) b bytes h u =
    let P : Result State HtmlWhy → Type 0 = Goes (bytes ++ b ∷ []) in
    if_case P (b == c) _ _ (λ e. low bytes b u (like b c e (name_byte_low l.name got c cs h.0.1 h.2))) (λ _. tt)
partial_goes (p_closing l ls got []) b bytes h u =
    let P : Result State HtmlWhy → Type 0 = Goes (bytes ++ b ∷ []) in
    if_case P (is_name_byte b) _ _ (λ _. tt) (λ _. end_goes bytes (names ls) b u)
partial_goes (p_closed l ls g) b bytes h u = end_goes bytes (names ls) b u
partial_goes (p_done e g) b bytes h u =
    let P : Result State HtmlWhy → Type 0 = Goes (bytes ++ b ∷ []) in
    if_case P (is_space b) _ _ (λ e. low bytes b u (space_low b e)) (λ _. tt)
partial_goes (p_escaping p e) b bytes h u = escape_goes p e b bytes h.1 h.2 u

-- in the head
doctype_low : Each low_byte (codes "<!doctype html>")
doctype_low = (refl, (refl, (refl, (refl, (refl, (refl, (refl, (refl, (refl, (refl, (refl, (refl, (refl, (refl, (refl, tt)))))))))))))))

prolog_goes : (b : ℕ) (bytes : List ℕ) → IsUtf8 bytes → Goes (bytes ++ b ∷ []) (in_doctype [] b)
prolog_goes b bytes u =
    let P : Result State HtmlWhy → Type 0 = Goes (bytes ++ b ∷ []) in
    if_case P (is_space b) _ _ (λ e. low bytes b u (space_low b e)) (λ _. if_case P (b == 60) _ _ (λ e. low bytes b u (like b 60 e (omega arith))) (λ _. tt))

ahead_goes : (a : Ahead) (b : ℕ) (bytes : List ℕ) → IsAhead a → InCharacter (left_of (state_of a)) bytes → Goes (bytes ++ b ∷ []) (step (state_of a) b)
ahead_goes (a_lead l) b bytes h u =
    let P : Result State HtmlWhy → Type 0 = Goes (bytes ++ b ∷ []) in
    if_case P (is_space b) _ _ (λ e. low bytes b u (space_low b e)) (λ _. if_case P (b == 60) _ _ (λ e. low bytes b u (like b 60 e (omega arith))) (λ _. tt))
ahead_goes (a_first l) b bytes h u =
    let P : Result State HtmlWhy → Type 0 = Goes (bytes ++ b ∷ []) in
    if_case P (is_lower b) _ _ (λ e. low bytes b u (lower_low b e)) (λ _. if_case P (b == 33) _ _ (λ e. low bytes b u (like b 33 e (omega arith))) (λ _. tt))
ahead_goes (a_word l got (c ∷ cs)) b bytes h u =
    let P : Result State HtmlWhy → Type 0 = Goes (bytes ++ b ∷ []) in
    let small : low_byte c ≡ true = byte_behind low_byte (map to_ascii_lowercase got) c cs
    (let Q : List ℕ → Type 0 = Each low_byte in subst Q (sym h.1.0) doctype_low) in
    if_case P (to_ascii_lowercase b == c) _ _ (λ e. low bytes b u (small_low b c (eqb-true (to_ascii_lowercase b) c e) (is_low c small))) (λ _. tt)
ahead_goes (a_word l got []) b bytes h u = prolog_goes b bytes u
ahead_goes (a_gap l d g) b bytes h u = prolog_goes b bytes u

one_goes : (w bytes : List ℕ) (s : State) (b : ℕ) → InHead w s ⊎ Behind w s → InCharacter (left_of s) bytes → Goes (bytes ++ b ∷ []) (step s b)
one_goes w bytes s b (inl r) u =
    let P : State → Type 0 = λ t. Goes (bytes ++ b ∷ []) (step t b) in
    let Q : State → Type 0 = λ t. InCharacter (left_of t) bytes in
    subst P r.2 (ahead_goes r.0 b bytes r.1 (subst Q (sym r.2) u))
one_goes w bytes s b (inr r) u =
    let P : State → Type 0 = λ t. Goes (bytes ++ b ∷ []) (step t b) in
    let Q : State → Type 0 = λ t. InCharacter (left_of t) bytes in
    subst P r.4 (partial_goes r.2 b bytes r.3 (subst Q (sym r.4) u))

mended_goes : (bytes : List ℕ) (b : ℕ) (o : Result State HtmlWhy) → Goes bytes o → Goes bytes (mended b o)
mended_goes bytes b (Ok s) h = h
mended_goes bytes b (Err w) h = if_case (Goes bytes) (begins_character b) (Err w) _ (λ _. tt) (λ _. tt)

more_goes : (w : List ℕ) (b : ℕ) (bs : List ℕ)
    → ((t : State) → run start (w ++ b ∷ []) ≡ Ok t → InCharacter (left_of t) (w ++ b ∷ []) → Goes ((w ++ b ∷ []) ++ bs) (run t bs))
    → (o : Result State HtmlWhy) → run start (w ++ b ∷ []) ≡ o → Goes (w ++ b ∷ []) o → Goes (w ++ b ∷ bs) (onward (λ t. run t bs) o)
more_goes w b bs h (Err v) e u = tt
more_goes w b bs h (Ok t) e u = let P : List ℕ → Type 0 = λ x. Goes x (run t bs) in subst P (append_assoc w (b ∷ []) bs) (h t e u)

all_goes : (bs w : List ℕ) (s : State) → run start w ≡ Ok s → InCharacter (left_of s) w → Goes (w ++ bs) (run s bs)
all_goes [] w s e u = let P : List ℕ → Type 0 = λ x. Goes x (Ok s) in subst P (sym (append-nil w)) u
all_goes (b ∷ bs) w s e u =
    more_goes w b bs (all_goes bs (w ++ b ∷ [])) (mended b (step s b)) (run_push w b start s e)
    (mended_goes (w ++ b ∷ []) b (step s b) (one_goes w w s b (reached w (Ok s) e) u))

-- what is read is in UTF-8
pub characters_read : (bytes : List ℕ) (s : State) → run start bytes ≡ Ok s → InCharacter (left_of s) bytes
characters_read bytes s e = let P : Result State HtmlWhy → Type 0 = Goes bytes in subst P e (all_goes bytes [] start refl IsUtf8-nil)
