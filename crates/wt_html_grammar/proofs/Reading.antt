-- What is spelled is read.
use Rattle.std.proofs.Common.{◌≡◌, ℕ, zero, suc, Option, Some, None, subst, ◌+◌, ◌*◌, ◌<◌, ◌≤◌, Bool, true, false, Result, Ok, List, [], ◌∷◌, ◌++◌, length, map, refl, ap, ◌∙◌, nat_lt, append_assoc, arith, lit<, codes}
use Rattle.std.specs.Prelude.{◌&&◌, ◌==◌, not, encode_utf8}
use Rattle.std.specs.Char.{to_ascii_lowercase}
use Rattle.std.proofs.lemmas.Bool.Decides.{nat_tests}
use Rattle.std.proofs.lemmas.List.{append-nil}
use Rattle.std.proofs.lemmas.Str.{encode_ascii}
use lib.Utf8.{scalar}
use Rattle.wt_html_grammar.specs.declared.names.EscapeName.{EscapeName}
use Rattle.wt_html_grammar.specs.declared.names.EscapeName.TheVariants.{Amp, Lt, Gt, Quot, Apos, Nbsp}
use Rattle.wt_html_grammar.specs.declared.names.Radix.{Radix}
use Rattle.wt_html_grammar.specs.declared.names.Radix.TheVariants.{Decimal, Hexadecimal}
use Rattle.wt_html_grammar.specs.declared.why.HtmlWhy.{HtmlWhy}
use Rattle.wt_html_grammar.specs.Signs.{is_quote, is_void, is_among, Follow, follow, between, IsFollow, Follows, is_lower, is_name_byte, is_attribute_byte, is_space, is_digit, is_digit_of, digit_value, base_of, most_digits, sign_of, in_text, in_value, letters_of, number_from, Each, IsName, IsAttributeName, IsGap, IsWideGap}
use Rattle.wt_html_grammar.specs.Grammar.{Piece, plain, named, number, void, bare, slash, spell_slash, spell_piece, IsPiece, spell_pieces, ArePieces, Attribute, spell_attribute, spell_attributes, AreAttributes, Element, Items, element, none, sign, child, spell, spell_items, IsElement, AreItems, spell_head, MayBeDoctype, Document, Well}
use Rattle.wt_html_grammar.specs.Machine.{State, start, first, doctype, inside, less, naming, gap, attribute, named_so, equals, value, valued, slashed, opened, begins, mended, onward, closing, closed, escaping, ampersand, sharp, digits, wide, is_begun, is_plain, turned, Tag, with_seen, at_open, step, run}
use Rattle.wt_html_grammar.proofs.Steps.{if_true, if_false, run_step, lt_test}
use Rattle.wt_html_grammar.proofs.Chars.{InTable, of_char}
use Rattle.wt_html_grammar.proofs.Complete.{closing_run, attribute_run, quote_ends, digits_end, digits_step}

-- the bytes of a part, and what follows them
abbrev pub inner_pieces : List Piece → List ℕ → List ℕ
inner_pieces [] rest = rest
inner_pieces (p ∷ ps) rest = spell_piece p ++ inner_pieces ps rest

abbrev pub inner_attributes : List Attribute → List ℕ → List ℕ
inner_attributes [] rest = rest
inner_attributes (a ∷ others) rest = a.gap ++
    (a.name ++ (a.left ++ (61 ∷ (a.right ++ (a.quote ∷ inner_pieces a.value (a.quote ∷ inner_attributes others rest))))))

abbrev mutual
  pub inner : Element → List ℕ → List ℕ
  inner (element n attributes g items end) rest =
      n ++ inner_attributes attributes (g ++ (62 ∷ inner_items items (60 ∷ 47 ∷ (n ++ (end ++ (62 ∷ rest))))))
  inner (void n attributes g end) rest = n ++ inner_attributes attributes (g ++ (spell_slash end ++ rest))

  pub inner_items : Items → List ℕ → List ℕ
  inner_items none rest = rest
  inner_items (sign p items) rest = spell_piece p ++ inner_items items rest
  inner_items (child e items) rest = 60 ∷ inner e (inner_items items rest)

pub pieces_is : (ps : List Piece) (rest : List ℕ) → spell_pieces ps ++ rest ≡ inner_pieces ps rest
pieces_is [] rest = refl
pieces_is (p ∷ ps) rest = append_assoc (spell_piece p) (spell_pieces ps) rest ∙ ap (λ x. spell_piece p ++ x) (pieces_is ps rest)

pub attributes_is : (attributes : List Attribute) (rest : List ℕ) → spell_attributes attributes ++ rest ≡ inner_attributes attributes rest
attributes_is [] rest = refl
attributes_is (a ∷ others) rest =
    let one : spell_attribute a ++ inner_attributes others rest ≡ inner_attributes (a ∷ others) rest =
    simp append_assoc (ap (λ x. a.gap ++ (a.name ++ (a.left ++ (61 ∷ (a.right ++ (a.quote ∷ x))))))
    (pieces_is a.value (a.quote ∷ inner_attributes others rest))) in
    append_assoc (spell_attribute a) (spell_attributes others) rest ∙ ap (λ x. spell_attribute a ++ x) (attributes_is others rest) ∙ one

mutual
  pub spell_is : (e : Element) (rest : List ℕ) → spell e ++ rest ≡ 60 ∷ inner e rest
  spell_is (element n attributes g items end) rest =
      simp append_assoc
      (ap (λ x. 60 ∷ (n ++ (spell_attributes attributes ++ (g ++ (62 ∷ x))))) (items_is items (60 ∷ 47 ∷ (n ++ (end ++ (62 ∷ rest)))))
      ∙ ap (λ x. 60 ∷ (n ++ x)) (attributes_is attributes _))
  spell_is (void n attributes g end) rest =
      simp append_assoc (ap (λ x. 60 ∷ (n ++ x)) (attributes_is attributes _))

  pub items_is : (items : Items) (rest : List ℕ) → spell_items items ++ rest ≡ inner_items items rest
  items_is none rest = refl
  items_is (sign p items) rest = append_assoc (spell_piece p) (spell_items items) rest ∙ ap (λ x. spell_piece p ++ x) (items_is items rest)
  items_is (child e items) rest =
      append_assoc (spell e) (spell_items items) rest ∙ ap (λ x. spell e ++ x) (items_is items rest) ∙ spell_is e (inner_items items rest)

pub space_not_name : (b : ℕ) → is_space b ≡ true → is_name_byte b ≡ false
space_not_name b e = grind (arith, nat_tests)

pub space_not_attribute : (b : ℕ) → is_space b ≡ true → is_attribute_byte b ≡ false
space_not_attribute b e = grind (arith, nat_tests)

-- numbers
number_le : (r : Radix) (ds : List ℕ) (n : ℕ) → n ≤ number_from r n ds
number_le r [] n = omega arith
number_le Decimal (d ∷ ds) n = omega (arith, number_le Decimal ds (n * 10 + digit_value d))
number_le Hexadecimal (d ∷ ds) n = omega (arith, number_le Hexadecimal ds (n * 16 + digit_value d))

scalar_le : (n : ℕ) → scalar n ≡ true → n ≤ 1114111
scalar_le n e = grind (arith, nat_tests)

begun_last : (r : Radix) (k n : ℕ) → k ≤ most_digits r → scalar n ≡ true → is_begun r k n ≡ true
begun_last Decimal k n h e = grind (arith, nat_tests)
begun_last Hexadecimal k n h e = grind (arith, nat_tests)

begun_more : (r : Radix) (k n : ℕ) → k < most_digits r → n ≤ 1114111 → is_begun r k n ≡ true
begun_more Decimal k n h e = grind (arith, nat_tests)
begun_more Hexadecimal k n h e = grind (arith, nat_tests)

pub begun : (r : Radix) (ds : List ℕ) (k n : ℕ) → k + length ds ≤ most_digits r → scalar (number_from r n ds) ≡ true → is_begun r k n ≡ true
begun r [] k n h e = begun_last r k n (omega arith) e
begun r (d ∷ ds) k n h e = begun_more r k n (omega arith) (omega (arith, number_le r (d ∷ ds) n, scalar_le (number_from r n (d ∷ ds)) e))

pub and_true : (a b : Bool) → a ≡ true → b ≡ true → (a && b) ≡ true
and_true true b e f = f
and_true false b e f = cc

digits_run : (r : Radix) (ds : List ℕ) (k n : ℕ) (s : State) (rest : List ℕ) → k + length ds ≤ most_digits r → 0 < k + length ds → Each (is_digit_of r) ds
    → scalar (number_from r n ds) ≡ true → run (escaping s (digits r k n)) (ds ++ (59 ∷ rest)) ≡ run s rest
digits_run r [] k n s rest h some d e = digits_end r k n s rest (and_true (nat_lt 0 k) (scalar n) (lt_test 0 k (omega arith)) e)
digits_run r (c ∷ cs) k n s rest h some d e =
    digits_step r k n c s (cs ++ (59 ∷ rest)) d.0 (begun r cs (k + 1) (n * base_of r + digit_value c) (omega arith) e)
    ∙ digits_run r cs (k + 1) (n * base_of r + digit_value c) s rest (omega arith) (omega arith) d.1 e

pub digit_not_sign : (b : ℕ) → is_digit b ≡ true → (b == 120) ≡ false
digit_not_sign b e = grind (arith, nat_tests)

-- behind `&#`
number_run : (r : Radix) (ds : List ℕ) (s : State) (rest : List ℕ) → 0 < length ds → length ds ≤ most_digits r → Each (is_digit_of r) ds
    → scalar (number_from r 0 ds) ≡ true → run (escaping s sharp) (sign_of r ++ (ds ++ (59 ∷ rest))) ≡ run s rest
number_run Hexadecimal ds s rest some h d e = digits_run Hexadecimal ds 0 0 s rest (omega arith) (omega arith) d e
number_run Decimal [] s rest some h d e = absurd (omega arith)
number_run Decimal (c ∷ cs) s rest some h d e =
    run_step (escaping s sharp) (escaping s (digits Decimal 1 (0 * 10 + digit_value c))) c (cs ++ (59 ∷ rest))
    (ap (turned s sharp) (if_false (c == 120) _ _ (digit_not_sign c d.0) ∙ if_true (is_digit c) _ _ d.0
    ∙ if_true (is_begun Decimal 1 (0 * 10 + digit_value c)) _ _ (begun Decimal cs 1 (0 * 10 + digit_value c) (omega arith) e)))
    ∙ digits_run Decimal cs 1 (0 * 10 + digit_value c) s rest (omega arith) (omega arith) d.1 e

named_run : (n : EscapeName) (s : State) (rest : List ℕ) → run (escaping s ampersand) ((letters_of n ++ 59 ∷ []) ++ rest) ≡ run s rest
named_run Amp s rest = refl
named_run Lt s rest = refl
named_run Gt s rest = refl
named_run Quot s rest = refl
named_run Apos s rest = refl
named_run Nbsp s rest = refl

-- characters of several bytes
follow_run : (bs : List ℕ) (low high n : ℕ) (s : State) (rest : List ℕ) → IsFollow low high n bs → run (escaping s (wide low high n)) (bs ++ rest) ≡ run s rest
follow_run [] low high n s rest h = absurd h
follow_run (b ∷ bs) low high zero s rest h =
    run_step (escaping s (wide low high zero)) s b (bs ++ rest) (ap (turned s (wide low high zero)) (if_true (between low high b) _ _ h.0))
    ∙ ap (λ cs. run s (cs ++ rest)) h.1
follow_run (b ∷ bs) low high (suc n) s rest h =
    run_step (escaping s (wide low high (suc n))) (escaping s (wide 128 191 n)) b (bs ++ rest)
    (ap (turned s (wide low high (suc n))) (if_true (between low high b) _ _ h.0))
    ∙ follow_run bs 128 191 n s rest h.1

follows_run : (b : ℕ) (o : Option Follow) (bs : List ℕ) (s : State) (rest : List ℕ) → Follows o bs
    → onward (λ t. run t (bs ++ rest)) (mended b (begins s o)) ≡ run s rest
follows_run b None bs s rest h = absurd h
follows_run b (Some f) bs s rest h = follow_run bs f.low f.high f.more s rest h

low_none : (b : ℕ) → nat_lt b 128 ≡ true → follow b ≡ None
low_none b e = grind (arith, nat_tests)

pub high_follow : (b : ℕ) (bs : List ℕ) (t : Bool) → nat_lt b 128 ≡ t → Follows (follow b) bs → nat_lt b 128 ≡ false
high_follow b bs true e h = absurd (let P : Option Follow → Type 0 = λ o. Follows o bs in subst P (low_none b e) h)
high_follow b bs false e h = e

-- what takes pieces: text, and a value
abbrev pub Takes : (ℕ → Bool) → State → Type 0
Takes p s = ((b : ℕ) → is_plain p b ≡ true → step s b ≡ Ok s) × (step s 38 ≡ Ok (escaping s ampersand))
    × ((b : ℕ) → nat_lt b 128 ≡ false → step s b ≡ begins s (follow b))

pub high_le : (b : ℕ) → nat_lt b 128 ≡ false → 128 ≤ b
high_le b e = grind (arith, nat_tests)

pub low_lt : (b : ℕ) → nat_lt b 128 ≡ true → b < 128
low_lt b e = grind (arith, nat_tests)

-- a character, of one byte or of several
char_run : (p : ℕ → Bool) (s : State) → Takes p s → (c : ℕ) (rest : List ℕ) → scalar c ≡ true → p c ≡ true → (t : Bool) → nat_lt c 128 ≡ t
    → run s (encode_utf8 c ++ rest) ≡ run s rest
char_run p s t c rest sc pc true e =
    ap (λ x. run s (x ++ rest)) (encode_ascii c (low_lt c e)) ∙ run_step s s c rest (t.0 c (and_true (nat_lt c 128) (p c) e pc))
char_run p s t c rest sc pc false e =
    let r : InTable c = of_char c sc (high_le c e) in
    let high : nat_lt r.0 128 ≡ false = high_follow r.0 r.1 (nat_lt r.0 128) refl r.3 in
    ap (λ x. run s (x ++ rest)) r.2
    ∙ ap (λ o. onward (λ u. run u (r.1 ++ rest)) (mended r.0 o)) (t.2 r.0 high)
    ∙ follows_run r.0 (follow r.0) r.1 s rest r.3

piece_run : (p : ℕ → Bool) (s : State) → Takes p s → (x : Piece) (rest : List ℕ) → IsPiece p x → run s (spell_piece x ++ rest) ≡ run s rest
piece_run p s t (plain c) rest h = char_run p s t c rest h.0 h.1 (nat_lt c 128) refl
piece_run p s t (named n) rest h = run_step s (escaping s ampersand) 38 ((letters_of n ++ 59 ∷ []) ++ rest) t.1 ∙ named_run n s rest
piece_run p s t (number r ds) rest h =
    run_step s (escaping s ampersand) 38 (35 ∷ ((sign_of r ++ (ds ++ 59 ∷ [])) ++ rest)) t.1
    ∙ ap (run (escaping s sharp)) (append_assoc (sign_of r) (ds ++ 59 ∷ []) rest ∙ ap (λ x. sign_of r ++ x) (append_assoc ds (59 ∷ []) rest))
    ∙ number_run r ds s rest h.0 h.1 h.2 h.3

pub pieces_run : (p : ℕ → Bool) (s : State) → Takes p s → (ps : List Piece) (rest : List ℕ) → ArePieces p ps → run s (inner_pieces ps rest) ≡ run s rest
pieces_run p s t [] rest h = refl
pieces_run p s t (x ∷ xs) rest h = piece_run p s t x (inner_pieces xs rest) h.0 ∙ pieces_run p s t xs rest h.1

not_both : (a b : Bool) → a ≡ false → (a && b) ≡ false
not_both true b e = cc
not_both false b e = refl

high_not : (b q : ℕ) → q < 128 → nat_lt b 128 ≡ false → (b == q) ≡ false
high_not b q h e = grind (arith, nat_tests)

pub takes_text : (n : List ℕ) (ns : List (List ℕ)) → Takes in_text (inside (n ∷ ns))
takes_text n ns = (
  λ b e. if_true (is_plain in_text b) _ _ e,
  refl,
  λ b e.
      if_false (is_plain in_text b) _ _ (not_both (nat_lt b 128) _ e) ∙ if_false (b == 60) _ _ (high_not b 60 (lit< tt) e)
      ∙ if_false (b == 38) _ _ (high_not b 38 (lit< tt) e),
)

quote_low : (q : ℕ) → is_quote q ≡ true → q < 128
quote_low q e = grind (arith, nat_tests)

quote_not : (q : ℕ) → is_quote q ≡ true → (38 == q) ≡ false
quote_not q e = grind (arith, nat_tests)

value_not : (q : ℕ) → is_plain (in_value q) 38 ≡ false
value_not q = and_false (not (38 == q))
  where
    and_false : (a : Bool) → (a && false) ≡ false
    and_false true = refl
    and_false false = refl

pub takes_value : (t : Tag) (q : ℕ) → is_quote q ≡ true → Takes (in_value q) (value t q)
takes_value t q h = (
  λ b e. if_true (is_plain (in_value q) b) _ _ e,
  if_false (is_plain (in_value q) 38) _ _ (value_not q) ∙ if_false (38 == q) _ _ (quote_not q h),
  λ b e.
      if_false (is_plain (in_value q) b) _ _ (not_both (nat_lt b 128) _ e)
      ∙ if_false (b == q) _ _ (high_not b q (quote_low q h) e) ∙ if_false (b == 38) _ _ (high_not b 38 (lit< tt) e),
)

-- start tags
name_run : (cs : List ℕ) (ns : List (List ℕ)) (n rest : List ℕ) → Each is_name_byte cs → run (naming ns n) (cs ++ rest) ≡ run (naming ns (n ++ cs)) rest
name_run [] ns n rest h = simp append-nil
name_run (c ∷ cs) ns n rest h =
    run_step (naming ns n) (naming ns (n ++ c ∷ [])) c (cs ++ rest) (if_true (is_name_byte c) _ _ h.0)
    ∙ name_run cs ns (n ++ c ∷ []) rest h.1
    ∙ ap (λ m. run (naming ns m) rest) (append_assoc n (c ∷ []) cs)

-- a state in which white space, > or / may follow
abbrev pub Opens : Tag → State → Type 0
Opens t s = (b : ℕ) → is_attribute_byte b ≡ false → step s b ≡ at_open t b

pub opens_gap : (t : Tag) → Opens t (gap t)
opens_gap t = λ b e. if_false (is_attribute_byte b) _ _ e

name_or : (b : ℕ) → is_attribute_byte b ≡ false → is_name_byte b ≡ false
name_or b e = grind (arith, nat_tests)

pub opens_naming : (ns : List (List ℕ)) (n : List ℕ) → Opens (record { outer = ns; name = n; seen = [] }) (naming ns n)
opens_naming ns n = λ b e. if_false (is_name_byte b) _ _ (name_or b e)

space_step : (t : Tag) (s : State) → Opens t s → (c : ℕ) (rest : List ℕ) → is_space c ≡ true → run s (c ∷ rest) ≡ run (gap t) rest
space_step t s o c rest e = run_step s (gap t) c rest (o c (space_not_attribute c e) ∙ if_true (is_space c) _ _ e)

spaces_run : (cs : List ℕ) (t : Tag) (rest : List ℕ) → IsGap cs → run (gap t) (cs ++ rest) ≡ run (gap t) rest
spaces_run [] t rest h = refl
spaces_run (c ∷ cs) t rest h = space_step t (gap t) (opens_gap t) c (cs ++ rest) h.0 ∙ spaces_run cs t rest h.1

pub wide_run : (g : List ℕ) (t : Tag) (s : State) → Opens t s → (rest : List ℕ) → IsWideGap g → run s (g ++ rest) ≡ run (gap t) rest
wide_run [] t s o rest h = absurd h
wide_run (c ∷ cs) t s o rest h = space_step t s o c (cs ++ rest) h.0 ∙ spaces_run cs t rest h.1

pub open_run : (g : List ℕ) (t : Tag) (s : State) → Opens t s → (rest : List ℕ) → IsGap g → run s (g ++ (62 ∷ rest)) ≡ run (inside (opened t)) rest
open_run [] t s o rest h = run_step s (inside (opened t)) 62 rest (o 62 refl)
open_run (c ∷ cs) t s o rest h = space_step t s o c (cs ++ (62 ∷ rest)) h.0 ∙ spaces_run cs t (62 ∷ rest) h.1

pub attribute_start : (n : List ℕ) (t : Tag) (rest : List ℕ) → IsAttributeName n → run (gap t) (n ++ rest) ≡ run (attribute t n) rest
attribute_start [] t rest h = absurd h
attribute_start (c ∷ cs) t rest h =
    run_step (gap t) (attribute t (c ∷ [])) c (cs ++ rest) (if_true (is_attribute_byte c) _ _ h.0) ∙ attribute_run cs t (c ∷ []) rest h.1

slash_run : (g : List ℕ) (t : Tag) (s : State) → Opens t s → (rest : List ℕ) → IsGap g → is_void t.name ≡ true
    → run s (g ++ (47 ∷ 62 ∷ rest)) ≡ run (inside t.outer) rest
slash_run [] t s o rest h v = run_step s (slashed t) 47 (62 ∷ rest) (o 47 refl ∙ if_true (is_void t.name) _ _ v)
slash_run (c ∷ cs) t s o rest h v =
    space_step t s o c (cs ++ (47 ∷ 62 ∷ rest)) h.0 ∙ spaces_run cs t (47 ∷ 62 ∷ rest) h.1
    ∙ run_step (gap t) (slashed t) 47 (62 ∷ rest) (if_true (is_void t.name) _ _ v)

-- the white space round =
named_run_on : (cs : List ℕ) (t : Tag) (rest : List ℕ) → IsGap cs → run (named_so t) (cs ++ (61 ∷ rest)) ≡ run (equals t) rest
named_run_on [] t rest h = refl
named_run_on (c ∷ cs) t rest h = run_step (named_so t) (named_so t) c (cs ++ (61 ∷ rest)) (if_true (is_space c) _ _ h.0) ∙ named_run_on cs t rest h.1

pub left_run : (cs : List ℕ) (t : Tag) (a : List ℕ) → is_among a t.seen ≡ false → (rest : List ℕ) → IsGap cs
    → run (attribute t a) (cs ++ (61 ∷ rest)) ≡ run (equals (with_seen t a)) rest
left_run [] t a n rest h = run_step (attribute t a) (equals (with_seen t a)) 61 rest (if_false (is_among a t.seen) _ _ n)
left_run (c ∷ cs) t a n rest h =
    run_step (attribute t a) (named_so (with_seen t a)) c (cs ++ (61 ∷ rest))
    (if_false (is_attribute_byte c) _ _ (space_not_attribute c h.0) ∙ if_false (is_among a t.seen) _ _ n ∙ if_true (is_space c) _ _ h.0)
    ∙ named_run_on cs (with_seen t a) rest h.1

pub space_not_quote : (b : ℕ) → is_space b ≡ true → is_quote b ≡ false
space_not_quote b e = grind (arith, nat_tests)

pub right_run : (cs : List ℕ) (t : Tag) (rest : List ℕ) → IsGap cs → run (equals t) (cs ++ rest) ≡ run (equals t) rest
right_run [] t rest h = refl
right_run (c ∷ cs) t rest h =
    run_step (equals t) (equals t) c (cs ++ rest) (if_false (is_quote c) _ _ (space_not_quote c h.0) ∙ if_true (is_space c) _ _ h.0) ∙ right_run cs t rest h.1

-- behind the attributes it goes on as k says
pub attributes_run : (attributes : List Attribute) (t : Tag) (s : State) → Opens t s → (end : List ℕ) → AreAttributes t.seen attributes
    → (o : Result State HtmlWhy) → ((u : Tag) (r : State) → Opens u r → u.name ≡ t.name → u.outer ≡ t.outer → run r end ≡ o)
    → run s (inner_attributes attributes end) ≡ o
attributes_run [] t s o end h r k = k t s o refl refl
attributes_run (a ∷ others) t s o end h r k =
    let u : Tag = with_seen t a.name in
    let more : List ℕ = inner_attributes others end in
    wide_run a.gap t s o _ h.0.0
    ∙ attribute_start a.name t _ h.0.1
    ∙ left_run a.left t a.name h.1 _ h.0.4
    ∙ right_run a.right u (a.quote ∷ inner_pieces a.value (a.quote ∷ more)) h.0.5
    ∙ run_step (equals u) (value u a.quote) a.quote (inner_pieces a.value (a.quote ∷ more)) (if_true (is_quote a.quote) _ _ h.0.3)
    ∙ pieces_run (in_value a.quote) (value u a.quote) (takes_value u a.quote h.0.3) a.value (a.quote ∷ more) h.0.2
    ∙ run_step (value u a.quote) (valued u) a.quote more (quote_ends u a.quote)
    ∙ attributes_run others u (valued u) (λ b e. refl) end h.2 r k

-- end tags
closed_run : (g : List ℕ) (ns : List (List ℕ)) (rest : List ℕ) → IsGap g → run (closed ns) (g ++ (62 ∷ rest)) ≡ run (inside ns) rest
closed_run [] ns rest h = refl
closed_run (c ∷ cs) ns rest h =
    run_step (closed ns) (closed ns) c (cs ++ (62 ∷ rest)) (if_true (is_space c) _ _ h.0) ∙ closed_run cs ns rest h.1

end_run : (g : List ℕ) (ns : List (List ℕ)) (rest : List ℕ) → IsGap g → run (closing [] ns) (g ++ (62 ∷ rest)) ≡ run (inside ns) rest
end_run [] ns rest h = refl
end_run (c ∷ cs) ns rest h =
    run_step (closing [] ns) (closed ns) c (cs ++ (62 ∷ rest))
    (if_false (is_name_byte c) _ _ (space_not_name c h.0) ∙ if_true (is_space c) _ _ h.0) ∙ closed_run cs ns rest h.1

-- where an element with this name may begin
abbrev pub Names : List (List ℕ) → State → Type 0
Names ns s = (b : ℕ) → is_lower b ≡ true → step s b ≡ Ok (naming ns (b ∷ []))

pub names_less : (ns : List (List ℕ)) → length ns < 200 → Names ns (less ns)
names_less ns lt = λ b e. if_true (is_lower b) _ _ e ∙ if_true (nat_lt (length ns) 200) _ _ (lt_test (length ns) 200 lt)

pub names_first : Names [] first
names_first = λ b e. if_true (is_lower b) _ _ e

pub start_run : (n : List ℕ) (ns : List (List ℕ)) (s : State) → Names ns s → (rest : List ℕ) → IsName n → run s (n ++ rest) ≡ run (naming ns n) rest
start_run [] ns s o rest h = absurd h
start_run (c ∷ cs) ns s o rest h =
    run_step s (naming ns (c ∷ [])) c (cs ++ rest) (o c h.0) ∙ name_run cs ns (c ∷ []) rest h.1

mutual
  element_run : (e : Element) (ns : List (List ℕ)) (s : State) → Names ns s → (rest : List ℕ) → IsElement (length ns) e
      → run s (inner e rest) ≡ run (inside ns) rest
  element_run (element n attributes g items end) ns s q rest h =
      let tail : List ℕ = 60 ∷ 47 ∷ (n ++ (end ++ (62 ∷ rest))) in
      let after : List ℕ = inner_items items tail in
      start_run n ns s q _ h.1
      ∙ attributes_run attributes (record { outer = ns; name = n; seen = [] }) (naming ns n) (opens_naming ns n) _ h.2 _
      (λ u r o e f. open_run g u r o after h.3 ∙ ap (λ m. run (inside m) after)
      (if_false (is_void u.name) u.outer (u.name ∷ u.outer) (ap is_void e ∙ h.6) ∙ ap (λ m. m ∷ u.outer) e ∙ ap (λ m. n ∷ m) f))
      ∙ items_run items n ns tail h.4
      ∙ closing_run n ns (end ++ (62 ∷ rest))
      ∙ end_run end ns rest h.5
  element_run (void n attributes g bare) ns s q rest h =
      start_run n ns s q _ h.1
      ∙ attributes_run attributes (record { outer = ns; name = n; seen = [] }) (naming ns n) (opens_naming ns n) _ h.2 _
      (λ u r o e f. open_run g u r o rest h.3 ∙ ap (λ m. run (inside m) rest) (if_true (is_void u.name) u.outer (u.name ∷ u.outer) (ap is_void e ∙ h.4) ∙ f))
  element_run (void n attributes g slash) ns s q rest h =
      start_run n ns s q _ h.1
      ∙ attributes_run attributes (record { outer = ns; name = n; seen = [] }) (naming ns n) (opens_naming ns n) _ h.2 _
      (λ u r o e f. slash_run g u r o rest h.3 (ap is_void e ∙ h.4) ∙ ap (λ m. run (inside m) rest) f)

  pub items_run : (items : Items) (n : List ℕ) (ns : List (List ℕ)) (rest : List ℕ) → AreItems (suc (length ns)) items
      → run (inside (n ∷ ns)) (inner_items items rest) ≡ run (inside (n ∷ ns)) rest
  items_run none n ns rest h = refl
  items_run (sign p items) n ns rest h =
      piece_run in_text (inside (n ∷ ns)) (takes_text n ns) p (inner_items items rest) h.0 ∙ items_run items n ns rest h.1
  items_run (child e items) n ns rest h =
      element_run e (n ∷ ns) (less (n ∷ ns)) (names_less (n ∷ ns) (depth e (suc (length ns)) h.0)) (inner_items items rest) h.0 ∙ items_run items n ns rest h.1

  pub depth : (e : Element) (k : ℕ) → IsElement k e → k < 200
  depth (element n attributes g items end) k h = h.0
  depth (void n attributes g end) k h = h.0

end_spaces : (g : List ℕ) → IsGap g → run (inside []) g ≡ Ok (inside [])
end_spaces [] h = refl
end_spaces (c ∷ cs) h = run_step (inside []) (inside []) c cs (if_true (is_space c) _ _ h.0) ∙ end_spaces cs h.1

-- the head
lead_run : (g : List ℕ) (rest : List ℕ) → IsGap g → run start (g ++ rest) ≡ run start rest
lead_run [] rest h = refl
lead_run (c ∷ cs) rest h = run_step start start c (cs ++ rest) (if_true (is_space c) _ _ h.0) ∙ lead_run cs rest h.1

prolog_run : (g : List ℕ) (rest : List ℕ) → IsGap g → run (doctype []) (g ++ rest) ≡ run (doctype []) rest
prolog_run [] rest h = refl
prolog_run (c ∷ cs) rest h = run_step (doctype []) (doctype []) c (cs ++ rest) (if_true (is_space c) _ _ h.0) ∙ prolog_run cs rest h.1

pub eq_test : (x y : ℕ) → x ≡ y → (x == y) ≡ true
eq_test x y e = grind (arith, nat_tests)

pub first_eq : {A : Type 0} (x y : A) (xs ys : List A) → x ∷ xs ≡ y ∷ ys → x ≡ y
first_eq x y xs ys e = cc

pub others_eq : {A : Type 0} (x y : A) (xs ys : List A) → x ∷ xs ≡ y ∷ ys → xs ≡ ys
others_eq x y xs ys e = cc

-- a word without case
word_run : (bs cs : List ℕ) (rest : List ℕ) → map to_ascii_lowercase bs ≡ cs → run (doctype cs) (bs ++ rest) ≡ run (doctype []) rest
word_run [] [] rest e = refl
word_run [] (c ∷ cs) rest e = absurd cc
word_run (b ∷ bs) [] rest e = absurd cc
word_run (b ∷ bs) (c ∷ cs) rest e =
    run_step (doctype (c ∷ cs)) (doctype cs) b (bs ++ rest) (if_true (to_ascii_lowercase b == c) _ _ (eq_test (to_ascii_lowercase b) c (first_eq _ _ _ _ e)))
    ∙ word_run bs cs rest (others_eq _ _ _ _ e)

pub small_less : (b : ℕ) → to_ascii_lowercase b ≡ 60 → b ≡ 60
small_less b e = grind (arith, nat_tests)

pub small_mark : (b : ℕ) → to_ascii_lowercase b ≡ 33 → b ≡ 33
small_mark b e = grind (arith, nat_tests)

-- a whole doctype
doctype_run : (bs : List ℕ) (rest : List ℕ) → map to_ascii_lowercase bs ≡ codes "<!doctype html>" → run start (bs ++ rest) ≡ run (doctype []) rest
doctype_run [] rest e = absurd cc
doctype_run (a ∷ []) rest e = absurd cc
doctype_run (a ∷ b ∷ bs) rest e =
    let p : a ≡ 60 = small_less a (first_eq _ _ _ _ e) in
    let f : to_ascii_lowercase b ∷ map to_ascii_lowercase bs ≡ codes "!doctype html>" = others_eq _ _ _ _ e in
    let q : b ≡ 33 = small_mark b (first_eq _ _ _ _ f) in
    ap (λ x. run start (x ∷ b ∷ (bs ++ rest))) p ∙ ap (λ x. run start (60 ∷ x ∷ (bs ++ rest))) q
    ∙ word_run bs (codes "doctype html>") rest (others_eq _ _ _ _ f)

-- the head and the < of the root
pub head_run : (lead d g : List ℕ) (rest : List ℕ) → IsGap lead → MayBeDoctype d → IsGap g
    → (s : State) × Names [] s × (run start ((lead ++ (d ++ g)) ++ (60 ∷ rest)) ≡ run s rest)
head_run lead [] g rest hl hd hg =
    (first, names_first, ap (run start) (append_assoc lead g (60 ∷ rest)) ∙ lead_run lead (g ++ (60 ∷ rest)) hl ∙ lead_run g (60 ∷ rest) hg)
head_run lead (b ∷ bs) g rest hl hd hg = (
  less [],
  names_less [] (lit< tt),
  ap (run start) (append_assoc lead ((b ∷ bs) ++ g) (60 ∷ rest)) ∙ lead_run lead (((b ∷ bs) ++ g) ++ (60 ∷ rest)) hl
      ∙ ap (run start) (append_assoc (b ∷ bs) g (60 ∷ rest)) ∙ doctype_run (b ∷ bs) (g ++ (60 ∷ rest)) hd ∙ prolog_run g (60 ∷ rest) hg,
)

pub well_read : (bytes : List ℕ) → Well bytes → run start bytes ≡ Ok (inside [])
well_read bytes w =
    let d : Document = w.0 in
    let r = head_run d.head.lead d.head.doctype d.head.gap (inner d.root d.end) w.1.0.0 w.1.0.1 w.1.0.2 in
    ap (run start) (w.2 ∙ ap (λ x. spell_head d.head ++ x) (spell_is d.root d.end)) ∙ r.2
    ∙ element_run d.root [] r.0 r.1 d.end w.1.1 ∙ end_spaces d.end w.1.2
