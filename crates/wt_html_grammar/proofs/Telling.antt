-- What is built from what is spelled.
use Rattle.std.proofs.Common.{◌≡◌, ℕ, zero, suc, ◌+◌, ◌*◌, ◌<◌, ◌≤◌, Bool, true, false, Option, Some, None, Result, Ok, List, [], ◌∷◌, ◌++◌, length, map, refl, sym, ap, ◌∙◌, nat_eq, nat_lt, append_assoc, arith, lit<, codes}
use Rattle.std.specs.Prelude.{◌&&◌, ◌||◌, ◌==◌, not, if◌then◌else◌, encode_utf8}
use Rattle.std.specs.List.{flat_map}
use Rattle.std.specs.Char.{to_ascii_lowercase}
use Rattle.std.proofs.lemmas.Bool.Decides.{nat_tests}
use Rattle.std.proofs.lemmas.List.{append-nil}
use Rattle.std.proofs.lemmas.Str.{encode_ascii}
use lib.Utf8.{scalar}
use Rattle.wt_html_grammar.specs.declared.names.EscapeName.{EscapeName}
use Rattle.wt_html_grammar.specs.declared.names.EscapeName.TheVariants.{Amp, Lt, Gt, Quot, Apos, Nbsp}
use Rattle.wt_html_grammar.specs.declared.names.Radix.{Radix}
use Rattle.wt_html_grammar.specs.declared.names.Radix.TheVariants.{Decimal, Hexadecimal}
use Rattle.wt_html_grammar.specs.declared.why.HtmlWhy.{HtmlWhy}
use Rattle.wt_html_grammar.specs.declared.event.Event.{Event}
use Rattle.wt_html_grammar.specs.declared.event.Event.TheVariants as ev
use Rattle.wt_html_grammar.specs.Signs.{is_quote, is_void, is_among, Follow, follow, between, IsFollow, Follows, is_lower, is_name_byte, is_attribute_byte, is_space, is_digit, is_digit_of, digit_value, base_of, most_digits, sign_of, in_text, in_value, letters_of, character_of, number_from, Each, IsName, IsAttributeName, IsGap, IsWideGap}
use Rattle.wt_html_grammar.specs.Grammar.{Piece, plain, named, number, void, Slash, bare, slash, spell_slash, spell_piece, IsPiece, ArePieces, Attribute, AreAttributes, Element, Items, element, none, sign, child, IsElement, AreItems, spell_head, MayBeDoctype, Document}
use Rattle.wt_html_grammar.specs.Machine.{State, start, first, doctype, inside, less, naming, gap, attribute, named_so, equals, value, valued, slashed, begins, mended, closing, closed, escaping, ampersand, sharp, digits, wide, is_begun, is_whole, is_plain, turned, Tag, with_seen, step}
use Rattle.wt_html_grammar.specs.Markup.{Pair, Markup, Markups, node, empty, more, unit_of, pair_of, flush, meaning, contents, Stands}
use Rattle.wt_html_grammar.specs.Events.{out, out_open, unit_byte, unit_char, unit_if, Frame, Building, append, with_bytes, with_child, tree_of, calm, with_open, with_value, add_bytes, closed_into, put, tell_on, tell, built}
use Rattle.wt_html_grammar.proofs.Steps.{if_true, if_false, lt_test}
use Rattle.wt_html_grammar.proofs.Chars.{InTable, of_char}
use Rattle.wt_html_grammar.proofs.Complete.{eq_self, quote_ends, semicolon_not}
use Rattle.wt_html_grammar.proofs.Reading.{inner_pieces, inner_attributes, inner, inner_items, spell_is, space_not_name, space_not_attribute, space_not_quote, begun, and_true, digit_not_sign, high_follow, high_le, low_lt, Takes, takes_text, takes_value, Opens, opens_gap, opens_naming, Names, names_first, names_less, depth, eq_test, first_eq, others_eq, small_less, small_mark}

tell_step : (x : Building) (s t : State) (b : ℕ) (bs : List ℕ) (v : Event) → step s b ≡ Ok t → out s b ≡ v → tell x s (b ∷ bs) ≡ tell (put x v) t bs
tell_step x s t b bs v e f =
    ap (λ (o : Result State HtmlWhy). tell_on x (λ u. tell (put x (out s b)) u bs) (mended b o)) e ∙ ap (λ w. tell (put x w) t bs) f

closing_tell : (cs : List ℕ) (x : Building) (ns : List (List ℕ)) (rest : List ℕ) → tell x (closing cs ns) (cs ++ rest) ≡ tell x (closing [] ns) rest
closing_tell [] x ns rest = refl
closing_tell (c ∷ cs) x ns rest =
    tell_step x (closing (c ∷ cs) ns) (closing cs ns) c (cs ++ rest) ev.Quiet (if_true (nat_eq c c) _ _ (eq_self c)) refl
    ∙ closing_tell cs x ns rest

-- numbers
digit_not_end : (r : Radix) (b : ℕ) → is_digit_of r b ≡ true → (b == 59) ≡ false
digit_not_end Decimal b e = grind (arith, nat_tests)
digit_not_end Hexadecimal b e = grind (arith, nat_tests)

quiet_digit : (r : Radix) (k n b : ℕ) (s : State) → is_digit_of r b ≡ true → out (escaping s (digits r k n)) b ≡ ev.Quiet
quiet_digit r k n b s e = ap (unit_if s) (if_false (b == 59) _ _ (digit_not_end r b e))

digits_tell : (r : Radix) (ds : List ℕ) (k n : ℕ) (x : Building) (s : State) (rest : List ℕ) → k + length ds ≤ most_digits r
    → 0 < k + length ds → Each (is_digit_of r) ds
    → scalar (number_from r n ds) ≡ true → tell x (escaping s (digits r k n)) (ds ++ (59 ∷ rest)) ≡ tell (put x (unit_char s (number_from r n ds))) s rest
digits_tell r [] k n x s rest h some d e =
    tell_step x (escaping s (digits r k n)) s 59 rest (unit_char s n)
    (ap (turned s (digits r k n)) (if_false (is_digit_of r 59) _ _ (semicolon_not r)
    ∙ if_true (is_whole k n) _ _ (and_true (nat_lt 0 k) (scalar n) (lt_test 0 k (omega arith)) e))) refl
digits_tell r (c ∷ cs) k n x s rest h some d e =
    tell_step x (escaping s (digits r k n)) (escaping s (digits r (k + 1) (n * base_of r + digit_value c))) c (cs ++ (59 ∷ rest)) ev.Quiet
    (ap (turned s (digits r k n)) (if_true (is_digit_of r c) _ _ d.0
    ∙ if_true (is_begun r (k + 1) (n * base_of r + digit_value c)) _ _
    (begun r cs (k + 1) (n * base_of r + digit_value c) (omega arith) e)))
    (quiet_digit r k n c s d.0)
    ∙ digits_tell r cs (k + 1) (n * base_of r + digit_value c) x s rest (omega arith) (omega arith) d.1 e

number_tell : (r : Radix) (ds : List ℕ) (x : Building) (s : State) (rest : List ℕ) → 0 < length ds → length ds ≤ most_digits r → Each (is_digit_of r) ds
    → scalar (number_from r 0 ds) ≡ true → tell x (escaping s sharp) (sign_of r ++ (ds ++ (59 ∷ rest))) ≡ tell (put x (unit_char s (number_from r 0 ds))) s rest
number_tell Hexadecimal ds x s rest some h d e =
    tell_step x (escaping s sharp) (escaping s (digits Hexadecimal 0 0)) 120 (ds ++ (59 ∷ rest)) ev.Quiet refl refl
    ∙ digits_tell Hexadecimal ds 0 0 x s rest (omega arith) (omega arith) d e
number_tell Decimal [] x s rest some h d e = absurd (omega arith)
number_tell Decimal (c ∷ cs) x s rest some h d e =
    tell_step x (escaping s sharp) (escaping s (digits Decimal 1 (0 * 10 + digit_value c))) c (cs ++ (59 ∷ rest)) ev.Quiet
    (ap (turned s sharp) (if_false (c == 120) _ _ (digit_not_sign c d.0) ∙ if_true (is_digit c) _ _ d.0
    ∙ if_true (is_begun Decimal 1 (0 * 10 + digit_value c)) _ _ (begun Decimal cs 1 (0 * 10 + digit_value c) (omega arith) e))) refl
    ∙ digits_tell Decimal cs 1 (0 * 10 + digit_value c) x s rest (omega arith) (omega arith) d.1 e

named_tell : (n : EscapeName) (x : Building) (s : State) (rest : List ℕ)
    → tell x (escaping s ampersand) ((letters_of n ++ 59 ∷ []) ++ rest) ≡ tell (put x (unit_char s (character_of n))) s rest
named_tell Amp x s rest = refl
named_tell Lt x s rest = refl
named_tell Gt x s rest = refl
named_tell Quot x s rest = refl
named_tell Apos x s rest = refl
named_tell Nbsp x s rest = refl

-- what the bytes of a text or of a value add
abbrev pub adding : State → Building → List ℕ → Building
adding (value t q) x bs = with_value x (x.value ++ bs)
adding s x bs = with_open x (add_bytes x.opened bs)

-- a state in which pieces are told
abbrev Tells : (ℕ → Bool) → State → Type 0
Tells p s =
    Takes p s × ((b : ℕ) → is_plain p b ≡ true → out s b ≡ unit_byte s b) × (out s 38 ≡ ev.Quiet) × ((b : ℕ) → nat_lt b 128 ≡ false → out s b ≡ unit_byte s b)
    × ((x : Building) (b : ℕ) → put x (unit_byte s b) ≡ adding s x (b ∷ [])) × ((x : Building) (c : ℕ) → put x (unit_char s c) ≡ adding s x (encode_utf8 c))
    × ((x : Building) (bs cs : List ℕ) → adding s (adding s x bs) cs ≡ adding s x (bs ++ cs))

-- characters of several bytes
follow_tell : (p : ℕ → Bool) (s : State) → Tells p s → (bs : List ℕ) (low high n : ℕ) (x : Building) (rest : List ℕ) → IsFollow low high n bs
    → tell x (escaping s (wide low high n)) (bs ++ rest) ≡ tell (adding s x bs) s rest
follow_tell p s t [] low high n x rest h = absurd h
follow_tell p s t (b ∷ bs) low high zero x rest h =
    tell_step x (escaping s (wide low high zero)) s b (bs ++ rest) (unit_byte s b)
    (ap (turned s (wide low high zero)) (if_true (between low high b) _ _ h.0)) refl
    ∙ ap (λ y. tell y s (bs ++ rest)) (t.4 x b) ∙ ap (λ cs. tell (adding s x (b ∷ [])) s (cs ++ rest)) h.1
    ∙ ap (λ cs. tell (adding s x (b ∷ cs)) s rest) (sym h.1)
follow_tell p s t (b ∷ bs) low high (suc n) x rest h =
    tell_step x (escaping s (wide low high (suc n))) (escaping s (wide 128 191 n)) b (bs ++ rest) (unit_byte s b)
    (ap (turned s (wide low high (suc n))) (if_true (between low high b) _ _ h.0)) refl
    ∙ ap (λ y. tell y (escaping s (wide 128 191 n)) (bs ++ rest)) (t.4 x b)
    ∙ follow_tell p s t bs 128 191 n (adding s x (b ∷ [])) rest h.1
    ∙ ap (λ y. tell y s rest) (t.6 x (b ∷ []) bs)

follows_tell : (p : ℕ → Bool) (s : State) → Tells p s → (b : ℕ) (o : Option Follow) (bs : List ℕ) (x y : Building) (rest : List ℕ) → Follows o bs
    → tell_on x (λ u. tell y u (bs ++ rest)) (mended b (begins s o)) ≡ tell (adding s y bs) s rest
follows_tell p s t b None bs x y rest h = absurd h
follows_tell p s t b (Some f) bs x y rest h = follow_tell p s t bs f.low f.high f.more y rest h

char_tell : (p : ℕ → Bool) (s : State) → Tells p s → (c : ℕ) (x : Building) (rest : List ℕ) → scalar c ≡ true → p c ≡ true → (t : Bool) → nat_lt c 128 ≡ t
    → tell x s (encode_utf8 c ++ rest) ≡ tell (adding s x (encode_utf8 c)) s rest
char_tell p s t c x rest sc pc true e =
    let a : encode_utf8 c ≡ c ∷ [] = encode_ascii c (low_lt c e) in
    let plain : is_plain p c ≡ true = and_true (nat_lt c 128) (p c) e pc in
    ap (λ y. tell x s (y ++ rest)) a ∙ tell_step x s s c rest (unit_byte s c) (t.0.0 c plain) (t.1 c plain)
    ∙ ap (λ y. tell y s rest) (t.4 x c) ∙ ap (λ y. tell (adding s x y) s rest) (sym a)
char_tell p s t c x rest sc pc false e =
    let r : InTable c = of_char c sc (high_le c e) in
    let high : nat_lt r.0 128 ≡ false = high_follow r.0 r.1 (nat_lt r.0 128) refl r.3 in
    let y : Building = put x (out s r.0) in
    ap (λ z. tell x s (z ++ rest)) r.2
    ∙ ap (λ o. tell_on x (λ u. tell y u (r.1 ++ rest)) (mended r.0 o)) (t.0.2 r.0 high)
    ∙ follows_tell p s t r.0 (follow r.0) r.1 x y rest r.3
    ∙ ap (λ z. tell (adding s z r.1) s rest) (ap (put x) (t.3 r.0 high) ∙ t.4 x r.0)
    ∙ ap (λ z. tell z s rest) (t.6 x (r.0 ∷ []) r.1)
    ∙ ap (λ z. tell (adding s x z) s rest) (sym r.2)

piece_tell : (p : ℕ → Bool) (s : State) → Tells p s → (x : Building) (q : Piece) (rest : List ℕ) → IsPiece p q
    → tell x s (spell_piece q ++ rest) ≡ tell (adding s x (unit_of q)) s rest
piece_tell p s t x (plain c) rest h = char_tell p s t c x rest h.0 h.1 (nat_lt c 128) refl
piece_tell p s t x (named n) rest h =
    tell_step x s (escaping s ampersand) 38 ((letters_of n ++ 59 ∷ []) ++ rest) ev.Quiet t.0.1 t.2 ∙ named_tell n x s rest
    ∙ ap (λ y. tell y s rest) (t.5 x (character_of n))
piece_tell p s t x (number r ds) rest h =
    tell_step x s (escaping s ampersand) 38 (35 ∷ ((sign_of r ++ (ds ++ 59 ∷ [])) ++ rest)) ev.Quiet t.0.1 t.2
    ∙ ap (tell x (escaping s sharp)) (append_assoc (sign_of r) (ds ++ 59 ∷ []) rest ∙ ap (λ y. sign_of r ++ y) (append_assoc ds (59 ∷ []) rest))
    ∙ number_tell r ds x s rest h.0 h.1 h.2 h.3
    ∙ ap (λ y. tell y s rest) (t.5 x (number_from r 0 ds))

plain_holds : (p : ℕ → Bool) (b : ℕ) → is_plain p b ≡ true → p b ≡ true
plain_holds p b e = right (nat_lt b 128) (p b) e
  where
    right : (a c : Bool) → (a && c) ≡ true → c ≡ true
    right true c e = e
    right false c e = cc

high_in_text : (b : ℕ) → nat_lt b 128 ≡ false → in_text b ≡ true
high_in_text b e = grind (arith, nat_tests)

high_in_value : (q b : ℕ) → is_quote q ≡ true → nat_lt b 128 ≡ false → in_value q b ≡ true
high_in_value q b h e = grind (arith, nat_tests)

add_twice : (x : Building) (fs : List Frame) (bs cs : List ℕ) → with_open x (add_bytes (add_bytes fs bs) cs) ≡ with_open x (add_bytes fs (bs ++ cs))
add_twice x [] bs cs = refl
add_twice x (f ∷ fs) bs cs = ap (λ r. with_open x
    (record { name = f.name; attributes = f.attributes; items = f.items; run = r } ∷ fs)) (append_assoc f.run bs cs)

tells_text : (n : List ℕ) (ns : List (List ℕ)) → Tells in_text (inside (n ∷ ns))
tells_text n ns = (
  takes_text n ns,
  λ b e. if_true (in_text b) _ _ (plain_holds in_text b e),
  refl,
  λ b e. if_true (in_text b) _ _ (high_in_text b e),
  λ x b. refl,
  λ x c. refl,
  λ x bs cs. add_twice x x.opened bs cs,
)

ampersand_quiet : (q : ℕ) → is_quote q ≡ true → (if in_value q 38 then ev.ValueByte 38 else if 38 == q then ev.ValueEnd else ev.Quiet) ≡ ev.Quiet
ampersand_quiet q h = if_false (in_value q 38) _ _ (not_in q) ∙ if_false (38 == q) _ _ (not_quote q h)
  where
    not_in : (q : ℕ) → in_value q 38 ≡ false
    not_in q = and_false (not (38 == q))
      where
        and_false : (a : Bool) → (a && false) ≡ false
        and_false true = refl
        and_false false = refl

    not_quote : (q : ℕ) → is_quote q ≡ true → (38 == q) ≡ false
    not_quote q e = grind (arith, nat_tests)

tells_value : (t : Tag) (q : ℕ) → is_quote q ≡ true → Tells (in_value q) (value t q)
tells_value t q h = (
  takes_value t q h,
  λ b e. if_true (in_value q b) _ _ (plain_holds (in_value q) b e),
  ampersand_quiet q h,
  λ b e. if_true (in_value q b) _ _ (high_in_value q b h e),
  λ x b. refl,
  λ x c. refl,
  λ x bs cs. ap (with_value x) (append_assoc x.value bs cs),
)

-- a value
value_tell : (ps : List Piece) (t : Tag) (q : ℕ) → is_quote q ≡ true → (x : Building) (rest : List ℕ) → ArePieces (in_value q) ps
    → tell x (value t q) (inner_pieces ps rest) ≡ tell (with_value x (x.value ++ flat_map unit_of ps)) (value t q) rest
value_tell [] t q i x rest h = simp append-nil
value_tell (p ∷ ps) t q i x rest h =
    piece_tell (in_value q) (value t q) (tells_value t q i) x p (inner_pieces ps rest) h.0
    ∙ value_tell ps t q i (with_value x (x.value ++ unit_of p)) rest h.1
    ∙ ap (λ v. tell (with_value x v) (value t q) rest) (append_assoc x.value (unit_of p) (flat_map unit_of ps))

-- names
abbrev with_name : Building → List ℕ → Building
with_name x n = record { opened = x.opened; name = n; attributes = x.attributes; key = x.key; value = x.value; root = x.root }

name_tell : (cs : List ℕ) (ns : List (List ℕ)) (n : List ℕ) (x : Building) (rest : List ℕ) → Each is_name_byte cs
    → tell x (naming ns n) (cs ++ rest) ≡ tell (with_name x (x.name ++ cs)) (naming ns (n ++ cs)) rest
name_tell [] ns n x rest h = simp append-nil
name_tell (c ∷ cs) ns n x rest h =
    tell_step x (naming ns n) (naming ns (n ++ c ∷ [])) c (cs ++ rest) (ev.Name c) (if_true (is_name_byte c) _ _ h.0) (if_true (is_name_byte c) _ _ h.0)
    ∙ name_tell cs ns (n ++ c ∷ []) (put x (ev.Name c)) rest h.1
    ∙ ap (λ m. tell (with_name x m) (naming ns ((n ++ c ∷ []) ++ cs)) rest) (append_assoc x.name (c ∷ []) cs)
    ∙ ap (λ m. tell (with_name x (x.name ++ c ∷ cs)) (naming ns m) rest) (append_assoc n (c ∷ []) cs)

abbrev with_key : Building → List ℕ → Building
with_key x k = record { opened = x.opened; name = x.name; attributes = x.attributes; key = k; value = x.value; root = x.root }

key_tell : (cs : List ℕ) (t : Tag) (a : List ℕ) (x : Building) (rest : List ℕ) → Each is_attribute_byte cs
    → tell x (attribute t a) (cs ++ rest) ≡ tell (with_key x (x.key ++ cs)) (attribute t (a ++ cs)) rest
key_tell [] t a x rest h = simp append-nil
key_tell (c ∷ cs) t a x rest h =
    tell_step x (attribute t a) (attribute t (a ++ c ∷ [])) c (cs ++ rest) (ev.Key c) (if_true (is_attribute_byte c) _ _ h.0)
    (if_true (is_attribute_byte c) _ _ h.0)
    ∙ key_tell cs t (a ++ c ∷ []) (put x (ev.Key c)) rest h.1
    ∙ ap (λ m. tell (with_key x m) (attribute t ((a ++ c ∷ []) ++ cs)) rest) (append_assoc x.key (c ∷ []) cs)
    ∙ ap (λ m. tell (with_key x (x.key ++ c ∷ cs)) (attribute t m) rest) (append_assoc a (c ∷ []) cs)

-- white space in a start tag
abbrev Quiets : Tag → State → Type 0
Quiets t s = (b : ℕ) → is_attribute_byte b ≡ false → out s b ≡ out_open t b

space_not_end : (b : ℕ) → is_space b ≡ true → (b == 62) ≡ false
space_not_end b e = grind (arith, nat_tests)

space_tell : (x : Building) (t : Tag) (s : State) → Opens t s → Quiets t s → (c : ℕ) (rest : List ℕ) → is_space c ≡ true
    → tell x s (c ∷ rest) ≡ tell x (gap t) rest
space_tell x t s o q c rest e =
    tell_step x s (gap t) c rest ev.Quiet (o c (space_not_attribute c e) ∙ if_true (is_space c) _ _ e)
    (q c (space_not_attribute c e) ∙ if_false (c == 62) _ _ (space_not_end c e))

quiets_gap : (t : Tag) → Quiets t (gap t)
quiets_gap t = λ b e. if_false (is_attribute_byte b) _ _ e

name_or : (b : ℕ) → is_attribute_byte b ≡ false → is_name_byte b ≡ false
name_or b e = grind (arith, nat_tests)

quiets_naming : (ns : List (List ℕ)) (n : List ℕ) → Quiets (record { outer = ns; name = n; seen = [] }) (naming ns n)
quiets_naming ns n = λ b e. if_false (is_name_byte b) _ _ (name_or b e)

spaces_tell : (cs : List ℕ) (x : Building) (t : Tag) (rest : List ℕ) → IsGap cs → tell x (gap t) (cs ++ rest) ≡ tell x (gap t) rest
spaces_tell [] x t rest h = refl
spaces_tell (c ∷ cs) x t rest h = space_tell x t (gap t) (opens_gap t) (quiets_gap t) c (cs ++ rest) h.0 ∙ spaces_tell cs x t rest h.1

wide_tell : (g : List ℕ) (x : Building) (t : Tag) (s : State) → Opens t s → Quiets t s → (rest : List ℕ) → IsWideGap g
    → tell x s (g ++ rest) ≡ tell x (gap t) rest
wide_tell [] x t s o q rest h = absurd h
wide_tell (c ∷ cs) x t s o q rest h = space_tell x t s o q c (cs ++ rest) h.0 ∙ spaces_tell cs x t rest h.1

-- where a start tag ends: with > of an element, with > of a void one, or with / and >
end_open : (x : Building) (t : Tag) (s : State) → Opens t s → Quiets t s → (rest : List ℕ) → is_void t.name ≡ false
    → tell x s (62 ∷ rest) ≡ tell (put x ev.Opened) (inside (t.name ∷ t.outer)) rest
end_open x t s o q rest v =
    tell_step x s (inside (t.name ∷ t.outer)) 62 rest ev.Opened
    (o 62 refl ∙ ap (λ m. Ok (inside m)) (if_false (is_void t.name) t.outer (t.name ∷ t.outer) v))
    (q 62 refl ∙ if_false (is_void t.name) ev.Void ev.Opened v)

open_tell : (g : List ℕ) (x : Building) (t : Tag) (s : State) → Opens t s → Quiets t s → (rest : List ℕ) → IsGap g → is_void t.name ≡ false
    → tell x s (g ++ (62 ∷ rest)) ≡ tell (put x ev.Opened) (inside (t.name ∷ t.outer)) rest
open_tell [] x t s o q rest h v = end_open x t s o q rest v
open_tell (c ∷ cs) x t s o q rest h v =
    space_tell x t s o q c (cs ++ (62 ∷ rest)) h.0 ∙ spaces_tell cs x t (62 ∷ rest) h.1 ∙ end_open x t (gap t) (opens_gap t) (quiets_gap t) rest v

end_void : (x : Building) (t : Tag) (s : State) → Opens t s → Quiets t s → (rest : List ℕ) → is_void t.name ≡ true
    → tell x s (62 ∷ rest) ≡ tell (put x ev.Void) (inside t.outer) rest
end_void x t s o q rest v =
    tell_step x s (inside t.outer) 62 rest ev.Void
    (o 62 refl ∙ ap (λ m. Ok (inside m)) (if_true (is_void t.name) t.outer (t.name ∷ t.outer) v))
    (q 62 refl ∙ if_true (is_void t.name) ev.Void ev.Opened v)

end_slash : (x : Building) (t : Tag) (s : State) → Opens t s → Quiets t s → (rest : List ℕ) → is_void t.name ≡ true
    → tell x s (47 ∷ 62 ∷ rest) ≡ tell (put x ev.Void) (inside t.outer) rest
end_slash x t s o q rest v =
    tell_step x s (slashed t) 47 (62 ∷ rest) ev.Quiet (o 47 refl ∙ if_true (is_void t.name) _ _ v) (q 47 refl)
    ∙ tell_step x (slashed t) (inside t.outer) 62 rest ev.Void refl refl

void_end : (e : Slash) (x : Building) (t : Tag) (s : State) → Opens t s → Quiets t s → (rest : List ℕ) → is_void t.name ≡ true
    → tell x s (spell_slash e ++ rest) ≡ tell (put x ev.Void) (inside t.outer) rest
void_end bare x t s o q rest v = end_void x t s o q rest v
void_end slash x t s o q rest v = end_slash x t s o q rest v

void_tell : (g : List ℕ) (e : Slash) (x : Building) (t : Tag) (s : State) → Opens t s → Quiets t s → (rest : List ℕ) → IsGap g → is_void t.name ≡ true
    → tell x s (g ++ (spell_slash e ++ rest)) ≡ tell (put x ev.Void) (inside t.outer) rest
void_tell [] e x t s o q rest h v = void_end e x t s o q rest v
void_tell (c ∷ cs) e x t s o q rest h v =
    space_tell x t s o q c (cs ++ (spell_slash e ++ rest)) h.0 ∙ spaces_tell cs x t (spell_slash e ++ rest) h.1
    ∙ void_end e x t (gap t) (opens_gap t) (quiets_gap t) rest v

key_start : (n : List ℕ) (x : Building) (t : Tag) (rest : List ℕ) → IsAttributeName n → tell x (gap t) (n ++ rest) ≡ tell (with_key x n) (attribute t n) rest
key_start [] x t rest h = absurd h
key_start (c ∷ cs) x t rest h =
    tell_step x (gap t) (attribute t (c ∷ [])) c (cs ++ rest) (ev.KeyBegin c) (if_true (is_attribute_byte c) _ _ h.0) (if_true (is_attribute_byte c) _ _ h.0)
    ∙ key_tell cs t (c ∷ []) (put x (ev.KeyBegin c)) rest h.1

-- the white space round =
named_tell_on : (cs : List ℕ) (x : Building) (t : Tag) (rest : List ℕ) → IsGap cs → tell x (named_so t) (cs ++ (61 ∷ rest)) ≡ tell x (equals t) rest
named_tell_on [] x t rest h = refl
named_tell_on (c ∷ cs) x t rest h =
    tell_step x (named_so t) (named_so t) c (cs ++ (61 ∷ rest)) ev.Quiet (if_true (is_space c) _ _ h.0) refl ∙ named_tell_on cs x t rest h.1

left_tell : (cs : List ℕ) (x : Building) (t : Tag) (a : List ℕ) → is_among a t.seen ≡ false → (rest : List ℕ) → IsGap cs
    → tell x (attribute t a) (cs ++ (61 ∷ rest)) ≡ tell x (equals (with_seen t a)) rest
left_tell [] x t a n rest h = tell_step x (attribute t a) (equals (with_seen t a)) 61 rest ev.Quiet (if_false (is_among a t.seen) _ _ n) refl
left_tell (c ∷ cs) x t a n rest h =
    tell_step x (attribute t a) (named_so (with_seen t a)) c (cs ++ (61 ∷ rest)) ev.Quiet
    (if_false (is_attribute_byte c) _ _ (space_not_attribute c h.0) ∙ if_false (is_among a t.seen) _ _ n ∙ if_true (is_space c) _ _ h.0)
    (if_false (is_attribute_byte c) _ _ (space_not_attribute c h.0))
    ∙ named_tell_on cs x (with_seen t a) rest h.1

space_not_double : (b : ℕ) → is_space b ≡ true → (b == 34) ≡ false
space_not_double b e = grind (arith, nat_tests)

space_not_single : (b : ℕ) → is_space b ≡ true → (b == 39) ≡ false
space_not_single b e = grind (arith, nat_tests)

right_tell : (cs : List ℕ) (x : Building) (t : Tag) (rest : List ℕ) → IsGap cs → tell x (equals t) (cs ++ rest) ≡ tell x (equals t) rest
right_tell [] x t rest h = refl
right_tell (c ∷ cs) x t rest h =
    tell_step x (equals t) (equals t) c (cs ++ rest) ev.Quiet (if_false (is_quote c) _ _ (space_not_quote c h.0) ∙ if_true (is_space c) _ _ h.0)
    (if_false (c == 34) _ _ (space_not_double c h.0) ∙ if_false (c == 39) _ _ (space_not_single c h.0))
    ∙ right_tell cs x t rest h.1

begin_value : (t : Tag) (q : ℕ) → is_quote q ≡ true → out (equals t) q ≡ ev.ValueBegin
begin_value t q h = by_test (q == 34) (q == 39) h
  where
    by_test : (a b : Bool) → (a || b) ≡ true → (if a then ev.ValueBegin else if b then ev.ValueBegin else ev.Quiet) ≡ ev.ValueBegin
    by_test true b e = refl
    by_test false true e = refl
    by_test false false e = cc

end_value : (t : Tag) (q : ℕ) → out (value t q) q ≡ ev.ValueEnd
end_value t q = if_false (in_value q q) _ _ (not_in (nat_eq q q) (not (q == 38)) (eq_self q)) ∙ if_true (q == q) _ _ (eq_self q)
  where
    not_in : (b c : Bool) → b ≡ true → (not b && c) ≡ false
    not_in true c e = refl
    not_in false c e = cc

-- behind the attributes it goes on as k says
abbrev with_attributes : Building → List Pair → Building
with_attributes x ps = record { opened = x.opened; name = x.name; attributes = ps; key = x.key; value = x.value; root = x.root }

abbrev SameTag : Building → Building → Type 0
SameTag x y = (y.opened ≡ x.opened) × (y.name ≡ x.name) × (y.root ≡ x.root)

attributes_tell : (attributes : List Attribute) (x : Building) (t : Tag) (s : State) → Opens t s → Quiets t s → (end : List ℕ) → AreAttributes t.seen attributes
    → (o : Building) → ((y : Building) (u : Tag) (r : State) → Opens u r → Quiets u r → u.name ≡ t.name → u.outer ≡ t.outer → SameTag x y
    → y.attributes ≡ x.attributes ++ map pair_of attributes → tell y r end ≡ o)
    → tell x s (inner_attributes attributes end) ≡ o
attributes_tell [] x t s o q end h b k = k x t s o q refl refl (refl, refl, refl) (sym (append-nil x.attributes))
attributes_tell (a ∷ others) x t s o q end h b k =
    let u : Tag = with_seen t a.name in
    let more_bytes : List ℕ = inner_attributes others end in
    let y : Building = with_key x a.name in
    let z : Building = with_value y (flat_map unit_of a.value) in
    wide_tell a.gap x t s o q _ h.0.0
    ∙ key_start a.name x t _ h.0.1
    ∙ left_tell a.left y t a.name h.1 (a.right ++ (a.quote ∷ inner_pieces a.value (a.quote ∷ more_bytes))) h.0.4
    ∙ right_tell a.right y u (a.quote ∷ inner_pieces a.value (a.quote ∷ more_bytes)) h.0.5
    ∙ tell_step y (equals u) (value u a.quote) a.quote (inner_pieces a.value (a.quote ∷ more_bytes)) ev.ValueBegin
    (if_true (is_quote a.quote) _ _ h.0.3) (begin_value u a.quote h.0.3)
    ∙ value_tell a.value u a.quote h.0.3 (with_value y []) (a.quote ∷ more_bytes) h.0.2
    ∙ tell_step z (value u a.quote) (valued u) a.quote more_bytes ev.ValueEnd (quote_ends u a.quote) (end_value u a.quote)
    ∙ attributes_tell others (put z ev.ValueEnd) u (valued u) (λ c e. refl) (λ c e. refl) end h.2 b
    (λ v w r p g e f i j. k v w r p g e f i (j ∙ append_assoc x.attributes (pair_of a ∷ []) (map pair_of others)))

-- end tags
closed_tell : (g : List ℕ) (x : Building) (ns : List (List ℕ)) (rest : List ℕ) → IsGap g
    → tell x (closed ns) (g ++ (62 ∷ rest)) ≡ tell (put x ev.Closed) (inside ns) rest
closed_tell [] x ns rest h = tell_step x (closed ns) (inside ns) 62 rest ev.Closed refl refl
closed_tell (c ∷ cs) x ns rest h =
    tell_step x (closed ns) (closed ns) c (cs ++ (62 ∷ rest)) ev.Quiet (if_true (is_space c) _ _ h.0) (if_false (c == 62) _ _ (space_not_end c h.0))
    ∙ closed_tell cs x ns rest h.1

end_tell : (g : List ℕ) (x : Building) (ns : List (List ℕ)) (rest : List ℕ) → IsGap g
    → tell x (closing [] ns) (g ++ (62 ∷ rest)) ≡ tell (put x ev.Closed) (inside ns) rest
end_tell [] x ns rest h = tell_step x (closing [] ns) (inside ns) 62 rest ev.Closed refl refl
end_tell (c ∷ cs) x ns rest h =
    tell_step x (closing [] ns) (closed ns) c (cs ++ (62 ∷ rest)) ev.Quiet
    (if_false (is_name_byte c) _ _ (space_not_name c h.0) ∙ if_true (is_space c) _ _ h.0) (if_false (c == 62) _ _ (space_not_end c h.0))
    ∙ closed_tell cs x ns rest h.1

-- where an element with a name may begin
abbrev Begins : State → Type 0
Begins s = (b : ℕ) → is_lower b ≡ true → out s b ≡ ev.NameBegin b

begins_less : (ns : List (List ℕ)) → Begins (less ns)
begins_less ns = λ b e. if_true (is_lower b) _ _ e

begins_first : Begins first
begins_first = λ b e. if_true (is_lower b) _ _ e

start_tell : (n : List ℕ) (ns : List (List ℕ)) (s : State) → Names ns s → Begins s → (fs : List Frame) (root : Markups) (rest : List ℕ) → IsName n
    → tell (calm fs root) s (n ++ rest) ≡ tell (with_name (calm fs root) n) (naming ns n) rest
start_tell [] ns s o q fs root rest h = absurd h
start_tell (c ∷ cs) ns s o q fs root rest h =
    tell_step (calm fs root) s (naming ns (c ∷ [])) c (cs ++ rest) (ev.NameBegin c) (o c h.0) (q c h.0)
    ∙ name_tell cs ns (c ∷ []) (put (calm fs root) (ev.NameBegin c)) rest h.1

-- the frame with more contents
abbrev extend : Frame → Items → Frame
extend f none = f
extend f (sign p items) = extend (with_bytes f (unit_of p)) items
extend f (child e items) = extend (with_child f (meaning e)) items

append_assoc_trees : (a b c : Markups) → append (append a b) c ≡ append a (append b c)
append_assoc_trees empty b c = refl
append_assoc_trees (more t ts) b c = ap (more t) (append_assoc_trees ts b c)

flush_append : (r : List ℕ) (t : Markup) (us : Markups) → append (flush r (more t empty)) us ≡ flush r (more t us)
flush_append [] t us = refl
flush_append (c ∷ cs) t us = refl

extend_is : (items : Items) (f : Frame) → tree_of (extend f items) ≡ node f.name f.attributes (append f.items (contents f.run items))
extend_is none f = refl
extend_is (sign p items) f = extend_is items (with_bytes f (unit_of p))
extend_is (child e items) f =
    extend_is items (with_child f (meaning e))
    ∙ ap (node f.name f.attributes) (append_assoc_trees f.items (flush f.run (more (meaning e) empty)) (contents [] items)
    ∙ ap (append f.items) (flush_append f.run (meaning e) (contents [] items)))

-- behind a start tag
opened_same : (x y : Building) (n : List ℕ) (ps : List Pair) → SameTag x y → x.name ≡ n → y.attributes ≡ ps
    → put y ev.Opened ≡ calm (record { name = n; attributes = ps; items = empty; run = [] } ∷ x.opened) x.root
opened_same x y n ps s e a =
    ap (λ m. calm (record { name = m; attributes = y.attributes; items = empty; run = [] } ∷ y.opened) y.root) (s.1 ∙ e)
    ∙ ap (λ m. calm (record { name = n; attributes = m; items = empty; run = [] } ∷ y.opened) y.root) a
    ∙ ap (λ m. calm (record { name = n; attributes = ps; items = empty; run = [] } ∷ m) y.root) s.0
    ∙ ap (λ m. calm (record { name = n; attributes = ps; items = empty; run = [] } ∷ x.opened) m) s.2

void_same : (x y : Building) (n : List ℕ) (ps : List Pair) → SameTag x y → x.name ≡ n → y.attributes ≡ ps
    → put y ev.Void ≡ closed_into (node n ps empty) x.opened x.root
void_same x y n ps s e a =
    ap (λ m. closed_into (node m y.attributes empty) y.opened y.root) (s.1 ∙ e) ∙ ap (λ m. closed_into (node n m empty) y.opened y.root) a
    ∙ ap (λ m. closed_into (node n ps empty) m y.root) s.0 ∙ ap (λ m. closed_into (node n ps empty) x.opened m) s.2

mutual
  element_tell : (e : Element) (ns : List (List ℕ)) (s : State) → Names ns s → Begins s
      → (fs : List Frame) (root : Markups) (rest : List ℕ) → IsElement (length ns) e
      → tell (calm fs root) s (inner e rest) ≡ tell (closed_into (meaning e) fs root) (inside ns) rest
  element_tell (element n attributes g items end) ns s q b fs root rest h =
      let f : Frame = record { name = n; attributes = map pair_of attributes; items = empty; run = [] } in
      let tail : List ℕ = 60 ∷ 47 ∷ (n ++ (end ++ (62 ∷ rest))) in
      let after : List ℕ = inner_items items tail in
      start_tell n ns s q b fs root _ h.1
      ∙ attributes_tell attributes (with_name (calm fs root) n) (record { outer = ns; name = n; seen = [] }) (naming ns n)
      (opens_naming ns n) (quiets_naming ns n) _ h.2 _
      (λ y u r o c e i j a. open_tell g y u r o c after h.3 (ap is_void e ∙ h.6)
      ∙ ap (λ m. tell m (inside (u.name ∷ u.outer)) after) (opened_same (with_name (calm fs root) n) y n (map pair_of attributes) j refl a)
      ∙ ap (λ m. tell (calm (f ∷ fs) root) (inside (m ∷ u.outer)) after) e ∙ ap (λ m. tell (calm (f ∷ fs) root) (inside (n ∷ m)) after) i)
      ∙ items_tell items n ns f fs root tail h.4
      ∙ tell_step (calm (extend f items ∷ fs) root) (inside (n ∷ ns)) (less (n ∷ ns)) 60 (47 ∷ (n ++ (end ++ (62 ∷ rest)))) ev.Quiet refl refl
      ∙ tell_step (calm (extend f items ∷ fs) root) (less (n ∷ ns)) (closing n ns) 47 (n ++ (end ++ (62 ∷ rest))) ev.Quiet refl refl
      ∙ closing_tell n (calm (extend f items ∷ fs) root) ns (end ++ (62 ∷ rest))
      ∙ end_tell end (calm (extend f items ∷ fs) root) ns rest h.5
      ∙ ap (λ t. tell (closed_into t fs root) (inside ns) rest) (extend_is items f)
  element_tell (void n attributes g end) ns s q b fs root rest h =
      start_tell n ns s q b fs root _ h.1
      ∙ attributes_tell attributes (with_name (calm fs root) n) (record { outer = ns; name = n; seen = [] }) (naming ns n)
      (opens_naming ns n) (quiets_naming ns n) _ h.2 _
      (λ y u r o c e i j a. void_tell g end y u r o c rest h.3 (ap is_void e ∙ h.4)
      ∙ ap (λ m. tell m (inside u.outer) rest) (void_same (with_name (calm fs root) n) y n (map pair_of attributes) j refl a)
      ∙ ap (λ m. tell (closed_into (node n (map pair_of attributes) empty) fs root) (inside m) rest) i)

  items_tell : (items : Items) (n : List ℕ) (ns : List (List ℕ)) (f : Frame) (fs : List Frame) (root : Markups) (rest : List ℕ)
      → AreItems (suc (length ns)) items
      → tell (calm (f ∷ fs) root) (inside (n ∷ ns)) (inner_items items rest) ≡ tell (calm (extend f items ∷ fs) root) (inside (n ∷ ns)) rest
  items_tell none n ns f fs root rest h = refl
  items_tell (sign p items) n ns f fs root rest h =
      piece_tell in_text (inside (n ∷ ns)) (tells_text n ns) (calm (f ∷ fs) root) p (inner_items items rest) h.0
      ∙ items_tell items n ns (with_bytes f (unit_of p)) fs root rest h.1
  items_tell (child e items) n ns f fs root rest h =
      tell_step (calm (f ∷ fs) root) (inside (n ∷ ns)) (less (n ∷ ns)) 60 (inner e (inner_items items rest)) ev.Quiet refl refl
      ∙ element_tell e (n ∷ ns) (less (n ∷ ns)) (names_less (n ∷ ns) (depth e (suc (length ns)) h.0)) (begins_less (n ∷ ns))
      (f ∷ fs) root (inner_items items rest) h.0
      ∙ items_tell items n ns (with_child f (meaning e)) fs root rest h.1

end_spaces_tell : (g : List ℕ) (x : Building) → IsGap g → tell x (inside []) g ≡ x
end_spaces_tell [] x h = refl
end_spaces_tell (c ∷ cs) x h = tell_step x (inside []) (inside []) c cs ev.Quiet (if_true (is_space c) _ _ h.0) refl ∙ end_spaces_tell cs x h.1

-- the head tells nothing
lead_tell : (g : List ℕ) (x : Building) (rest : List ℕ) → IsGap g → tell x start (g ++ rest) ≡ tell x start rest
lead_tell [] x rest h = refl
lead_tell (c ∷ cs) x rest h = tell_step x start start c (cs ++ rest) ev.Quiet (if_true (is_space c) _ _ h.0) refl ∙ lead_tell cs x rest h.1

prolog_tell : (g : List ℕ) (x : Building) (rest : List ℕ) → IsGap g → tell x (doctype []) (g ++ rest) ≡ tell x (doctype []) rest
prolog_tell [] x rest h = refl
prolog_tell (c ∷ cs) x rest h = tell_step x (doctype []) (doctype []) c (cs ++ rest) ev.Quiet (if_true (is_space c) _ _ h.0) refl ∙ prolog_tell cs x rest h.1

word_tell : (bs cs : List ℕ) (x : Building) (rest : List ℕ) → map to_ascii_lowercase bs ≡ cs → tell x (doctype cs) (bs ++ rest) ≡ tell x (doctype []) rest
word_tell [] [] x rest e = refl
word_tell [] (c ∷ cs) x rest e = absurd cc
word_tell (b ∷ bs) [] x rest e = absurd cc
word_tell (b ∷ bs) (c ∷ cs) x rest e =
    tell_step x (doctype (c ∷ cs)) (doctype cs) b (bs ++ rest) ev.Quiet
    (if_true (to_ascii_lowercase b == c) _ _ (eq_test (to_ascii_lowercase b) c (first_eq _ _ _ _ e))) refl
    ∙ word_tell bs cs x rest (others_eq _ _ _ _ e)

doctype_tell : (bs : List ℕ) (x : Building) (rest : List ℕ) → map to_ascii_lowercase bs ≡ codes "<!doctype html>"
    → tell x start (bs ++ rest) ≡ tell x (doctype []) rest
doctype_tell [] x rest e = absurd cc
doctype_tell (a ∷ []) x rest e = absurd cc
doctype_tell (a ∷ b ∷ bs) x rest e =
    let p : a ≡ 60 = small_less a (first_eq _ _ _ _ e) in
    let f : to_ascii_lowercase b ∷ map to_ascii_lowercase bs ≡ codes "!doctype html>" = others_eq _ _ _ _ e in
    let q : b ≡ 33 = small_mark b (first_eq _ _ _ _ f) in
    ap (λ y. tell x start (y ∷ b ∷ (bs ++ rest))) p ∙ ap (λ y. tell x start (60 ∷ y ∷ (bs ++ rest))) q
    ∙ word_tell bs (codes "doctype html>") x rest (others_eq _ _ _ _ f)

head_tell : (lead d g : List ℕ) (x : Building) (rest : List ℕ) → IsGap lead → MayBeDoctype d → IsGap g
    → (s : State) × Names [] s × Begins s × (tell x start ((lead ++ (d ++ g)) ++ (60 ∷ rest)) ≡ tell x s rest)
head_tell lead [] g x rest hl hd hg = (
  first,
  names_first,
  begins_first,
  ap (tell x start) (append_assoc lead g (60 ∷ rest)) ∙ lead_tell lead x (g ++ (60 ∷ rest)) hl ∙ lead_tell g x (60 ∷ rest) hg,
)
head_tell lead (b ∷ bs) g x rest hl hd hg = (
  less [],
  names_less [] (lit< tt),
  begins_less [],
  ap (tell x start) (append_assoc lead ((b ∷ bs) ++ g) (60 ∷ rest)) ∙ lead_tell lead x (((b ∷ bs) ++ g) ++ (60 ∷ rest)) hl
      ∙ ap (tell x start) (append_assoc (b ∷ bs) g (60 ∷ rest)) ∙ doctype_tell (b ∷ bs) x (g ++ (60 ∷ rest)) hd ∙ prolog_tell g x (60 ∷ rest) hg,
)

-- what stands for a tree builds it
pub stands_told : (bytes : List ℕ) (t : Markup) → Stands bytes t → built bytes ≡ calm [] (more t empty)
stands_told bytes t w =
    let d : Document = w.0 in
    let x : Building = calm [] empty in
    let r = head_tell d.head.lead d.head.doctype d.head.gap x (inner d.root d.end) w.1.0.0 w.1.0.1 w.1.0.2 in
    ap (tell x start) (w.2 ∙ ap (λ y. spell_head d.head ++ y) (spell_is d.root d.end)) ∙ r.3
    ∙ element_tell d.root [] r.0 r.1 r.2 [] empty d.end w.1.1 ∙ end_spaces_tell d.end _ w.1.2
    ∙ ap (λ u. calm [] (more u empty)) w.3

-- it stands for no other
pub one_tree : (bytes : List ℕ) (t u : Markup) → Stands bytes t → Stands bytes u → t ≡ u
one_tree bytes t u v w =
    let e = ap (λ (x : Building). x.root) (sym (stands_told bytes t v) ∙ stands_told bytes u w) in cc
