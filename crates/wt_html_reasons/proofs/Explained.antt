-- Where the machine refuses a byte, its reason holds there.
use Rattle.std.proofs.Common.{◌≡◌, ℕ, ◌<◌, ◌≤◌, Bool, true, false, Option, Some, None, Result, Ok, Err, List, [], ◌∷◌, ◌++◌, length, refl, sym, ap, ◌∙◌, subst, nat_lt, append_assoc, arith, inl, inr}
use Rattle.std.specs.Prelude.{◌==◌, ◌⊎◌, ◌||◌, not}
use Rattle.std.specs.Char.{to_ascii_lowercase}
use Rattle.std.proofs.lemmas.Bool.Decides.{nat_tests}
use Rattle.wt_html_grammar.specs.declared.names.EscapeName.{EscapeName}
use Rattle.wt_html_grammar.specs.declared.names.EscapeName.TheVariants.{Amp, Lt, Gt, Quot, Apos, Nbsp}
use Rattle.wt_html_grammar.specs.declared.names.Radix.{Radix}
use Rattle.wt_html_grammar.specs.declared.names.Radix.TheVariants.{Decimal, Hexadecimal}
use Rattle.wt_html_grammar.specs.declared.why.HtmlWhy.{HtmlWhy}
use Rattle.wt_html_grammar.specs.declared.why.HtmlWhy.TheVariants as why
use Rattle.wt_html_grammar.specs.Signs.{is_quote, is_void, is_among, Follow, follow, is_there, begins_character, is_lower, is_name_byte, is_attribute_byte, is_space, is_digit_of, in_text, in_value, letters_of, Each}
use Rattle.wt_html_grammar.specs.Grammar.{Head, spell_head, IsHead}
use Rattle.wt_html_grammar.specs.Machine.{State, start, first, doctype, inside, less, naming, gap, attribute, named_so, equals, value, valued, slashed, closing, closed, Escape, EscapeStep, stop, on, ended, in_escape, begins, special, at_end, at_open, at_name, end_tag, in_doctype, is_plain, turned, why_of, Tag, with_seen, step}
use Rattle.wt_html_grammar.proofs.Steps.{if_case}
use Rattle.wt_html_grammar.proofs.Partial.{Level, Opening, Partial, p_text, p_less, p_naming, p_gap, p_attribute, p_named, p_equals, p_value, p_slashed, p_valued, p_closing, p_closed, p_done, p_escaping, Begun, b_ampersand, b_apart, b_letters, b_sharp, b_digits, b_wide, escape_of, TakesPiece, Sound, seen, written, names, names_of, tag, opened, levels, AreLevels, length_names}
use Rattle.wt_html_grammar.proofs.Whole.{Ahead, a_lead, a_first, a_word, a_gap, state_of, InHead, Behind}
use Rattle.wt_html_reasons.specs.Written.{InContents, InValue}
use Rattle.wt_html_reasons.specs.Reasons.{InEscape, HoldsBetween}
use Rattle.wt_html_reasons.proofs.Characters.{left_of}
use Rattle.wt_html_reasons.proofs.Opened.{level_of, levels_of, as_many, within, in_contents, tag_bytes, in_start_tag, tag_and, names_same, in_value as in_value_of}

-- what the machine's reason says of the bytes before, the byte and the state
abbrev pub Explains : HtmlWhy → List ℕ → ℕ → State → Type 0
Explains why.NotUtf8 before b s = left_of s ≡ None → begins_character b ≡ false
Explains why.End before b s = ⊥
Explains w before b s = (behind : List ℕ) → HoldsBetween w before (b ∷ behind)

abbrev pub Told : List ℕ → ℕ → State → Result State HtmlWhy → Type 0
Told before b s (Ok t) = Unit {0}
Told before b s (Err w) = Explains w before b s

end_told : (before : List ℕ) (b : ℕ) (s : State) (ns : List (List ℕ)) → Told before b s (at_end ns b)
end_told before b s ns =
    let P : Result State HtmlWhy → Type 0 = Told before b s in
    if_case P (is_space b) _ _ (λ _. tt) (λ _. if_case P (b == 62) _ _ (λ _. tt) (λ _ _. tt))

open_told : (before : List ℕ) (b : ℕ) (s : State) (t : Tag) → Told before b s (at_open t b)
open_told before b s t =
    let P : Result State HtmlWhy → Type 0 = Told before b s in
    if_case P (is_space b) _ _ (λ _. tt) (λ _. if_case P (b == 62) _ _ (λ _. tt)
    (λ _. if_case P (b == 47) _ _ (λ _. if_case P (is_void t.name) _ _ (λ _. tt) (λ _ _. tt)) (λ _ _. tt)))

name_told : (before : List ℕ) (b : ℕ) (s : State) (t : Tag) → Told before b s (at_name t b)
name_told before b s t =
    let P : Result State HtmlWhy → Type 0 = Told before b s in
    if_case P (is_space b) _ _ (λ _. tt) (λ _. if_case P (b == 61) _ _ (λ _. tt) (λ _ _. tt))

begins_not : (s t : Bool) → s ≡ false → t ≡ false → (s || t) ≡ false
begins_not true t e f = cc
begins_not false t e f = f

begins_told : (before : List ℕ) (b : ℕ) (s t : State) (o : Option Follow) → follow b ≡ o → nat_lt b 128 ≡ false → Told before b s (begins t o)
begins_told before b s t None e h = λ _. begins_not (nat_lt b 128) (is_there (follow b)) h (ap is_there e)
begins_told before b s t (Some f) e h = tt

special_told : (before : List ℕ) (b : ℕ) (s t : State) → ((b == 38) ≡ false → nat_lt b 128 ≡ false) → Told before b s (special t b)
special_told before b s t h =
    let P : Result State HtmlWhy → Type 0 = Told before b s in
    if_case P (b == 38) _ _ (λ _. tt) (λ e. begins_told before b s t (follow b) refl (h e))

high_text : (b : ℕ) → is_plain in_text b ≡ false → (b == 60) ≡ false → (b == 38) ≡ false → nat_lt b 128 ≡ false
high_text b e f g = grind (arith, nat_tests)

high_value : (b q : ℕ) → is_plain (in_value q) b ≡ false → (b == q) ≡ false → (b == 38) ≡ false → nat_lt b 128 ≡ false
high_value b q e f g = grind (arith, nat_tests)

-- 200 elements may be open, and no more
most_open : (ls : List Level) → AreLevels ls → length ls ≤ 200
most_open [] h = omega arith
most_open (l ∷ ls) h = let k : length ls < 200 = h.0.0 in omega arith

not_less : (m n : ℕ) → nat_lt m n ≡ false → n ≤ m
not_less m n e = grind (arith, nat_tests)

deep_told : (h : Head) (ls : List Level) (b : ℕ) → IsHead h → AreLevels ls → nat_lt (length (names ls)) 200 ≡ false → is_lower b ≡ true
    → Told (spell_head h ++ (levels ls ++ 60 ∷ [])) b (less (names ls)) (Err why.TooDeep)
deep_told h ls b i a e f = λ _. (
  levels_of ls,
  spell_head h ++ levels ls,
  within h ls i a,
  omega (arith, as_many ls, length_names ls, not_less (length (names ls)) 200 e, most_open ls a),
  sym (append_assoc (spell_head h) (levels ls) (60 ∷ [])),
  f,
)

tag_told : (before : List ℕ) (b : ℕ) (s : State) (ns : List (List ℕ)) → Told before b s (end_tag ns)
tag_told before b s [] = λ _. tt
tag_told before b s (n ∷ ns) = tt

less_told : (h : Head) (ls : List Level) (b : ℕ) → IsHead h → AreLevels ls → Told (spell_head h ++ (levels ls ++ 60 ∷ [])) b
    (less (names ls)) (step (less (names ls)) b)
less_told h ls b i a =
    let before : List ℕ = spell_head h ++ (levels ls ++ 60 ∷ []) in
    let P : Result State HtmlWhy → Type 0 = Told before b (less (names ls)) in
    if_case P (is_lower b) _ _ (λ f. if_case P (nat_lt (length (names ls)) 200) _ _ (λ _. tt) (λ e. deep_told h ls b i a e f))
    (λ _. if_case P (b == 47) _ _ (λ _. tag_told before b (less (names ls)) (names ls)) (λ _ _. tt))

-- in the name of an end tag
closing_told : (h : Head) (l : Level) (ls : List Level) (got left : List ℕ) (b : ℕ) → IsHead h → Sound (p_closing l ls got left)
    → ((behind : List ℕ) → left ≡ [] → is_name_byte b ≡ true) → Told (spell_head h ++ written (p_closing l ls got left)) b
    (closing left (names ls)) (Err why.EndTag)
closing_told h l ls got left b i s next = λ behind. (
  level_of l,
  levels_of ls,
  spell_head h ++ (levels ls ++ opened l),
  got,
  left,
  within h (l ∷ ls) i (s.0, s.1),
  s.2,
  sym (append_assoc (spell_head h) (levels ls ++ opened l) (60 ∷ 47 ∷ got)),
  next behind,
)

-- behind the name of an attribute that came before
repeated_told : (h : Head) (o : Opening) (g a : List ℕ) (b : ℕ) → IsHead h → Sound (p_attribute o g a)
    → is_attribute_byte b ≡ false → is_among a (names_of o.attributes) ≡ true
    → Told (spell_head h ++ written (p_attribute o g a)) b (attribute (tag o) a) (Err why.Repeated)
repeated_told h o g a b i s e f = λ behind. (
  o.attributes,
  tag_bytes h o,
  g,
  a,
  in_start_tag h o i s.0,
  s.1,
  s.2,
  ap (is_among a) (sym (names_same o.attributes)) ∙ f,
  tag_and h o (g ++ a),
  (λ n. let q : true ≡ false = sym n ∙ e in cc),
)

-- in an escape
abbrev is_inner : ℕ → Bool
is_inner b = not (b == 59)

each_left : (p : ℕ → Bool) (xs ys : List ℕ) → Each p (xs ++ ys) → Each p xs
each_left p [] ys h = tt
each_left p (x ∷ xs) ys h = (h.0, each_left p xs ys h.1)

letters_inner : (n : EscapeName) → Each is_inner (letters_of n)
letters_inner Amp = (refl, (refl, (refl, tt)))
letters_inner Lt = (refl, (refl, tt))
letters_inner Gt = (refl, (refl, tt))
letters_inner Quot = (refl, (refl, (refl, (refl, tt))))
letters_inner Apos = (refl, (refl, (refl, (refl, tt))))
letters_inner Nbsp = (refl, (refl, (refl, (refl, tt))))

digit_inner : (r : Radix) (b : ℕ) → is_digit_of r b ≡ true → is_inner b ≡ true
digit_inner Decimal b e = grind (arith, nat_tests)
digit_inner Hexadecimal b e = grind (arith, nat_tests)

digits_inner : (r : Radix) (ds : List ℕ) → Each (is_digit_of r) ds → Each is_inner ds
digits_inner r [] h = tt
digits_inner r (d ∷ ds) h = (digit_inner r d h.0, digits_inner r ds h.1)

-- directly before the escape
where_escaped : (h : Head) (p : Partial) → IsHead h → Sound p → TakesPiece p → InContents (spell_head h ++ written p) ⊎ InValue (spell_head h ++ written p)
where_escaped h (p_text l ls) i s t = inl (in_contents h l ls i s.0 s.1)
where_escaped h (p_value o g a lg rg q ps) i s t = inr (in_value_of h o g a lg rg q ps i s)
where_escaped h (p_less ls) i s t = absurd t
where_escaped h (p_naming ls n) i s t = absurd t
where_escaped h (p_gap o g) i s t = absurd t
where_escaped h (p_attribute o g a) i s t = absurd t
where_escaped h (p_named o g a lg) i s t = absurd t
where_escaped h (p_equals o g a lg rg) i s t = absurd t
where_escaped h (p_slashed o g) i s t = absurd t
where_escaped h (p_valued o) i s t = absurd t
where_escaped h (p_closing l ls got left) i s t = absurd t
where_escaped h (p_closed l ls g) i s t = absurd t
where_escaped h (p_done e g) i s t = absurd t
where_escaped h (p_escaping p e) i s t = absurd t

in_escape_of : (h : Head) (p : Partial) (got : List ℕ) → IsHead h → Sound p → TakesPiece p → Each is_inner got
    → InEscape (spell_head h ++ (written p ++ (38 ∷ got)))
in_escape_of h p got i s t e = (spell_head h ++ written p, got, where_escaped h p i s t, sym (append_assoc (spell_head h) (written p) (38 ∷ got)), e)

turn_told : (before : List ℕ) (b : ℕ) (s t : State) (e : Escape) (u : EscapeStep) → Explains (why_of e) before b s → Told before b s (turned t e u)
turn_told before b s t e stop h = h
turn_told before b s t e (on f) h = tt
turn_told before b s t e ended h = tt

stop_told : (h : Head) (p : Partial) (e : Begun) (b : ℕ) → IsHead h → Sound (p_escaping p e)
    → Explains (why_of (escape_of e)) (spell_head h ++ written (p_escaping p e)) b (seen (p_escaping p e))
stop_told h p b_ampersand b i s = λ _. in_escape_of h p [] i s.0 s.1 tt
stop_told h p b_apart b i s = λ _. in_escape_of h p (97 ∷ []) i s.0 s.1 (refl, tt)
stop_told h p (b_letters n got left) b i s = λ _. in_escape_of h p got i s.0 s.1
    (each_left is_inner got left (let P : List ℕ → Type 0 = Each is_inner in subst P (sym s.2) (letters_inner n)))
stop_told h p b_sharp b i s = λ _. in_escape_of h p (35 ∷ []) i s.0 s.1 (refl, tt)
stop_told h p (b_digits Decimal ds) b i s = λ _. in_escape_of h p (35 ∷ ds) i s.0 s.1 (refl, digits_inner Decimal ds s.2.0)
stop_told h p (b_digits Hexadecimal ds) b i s = λ _. in_escape_of h p (35 ∷ 120 ∷ ds) i s.0 s.1 (refl, (refl, digits_inner Hexadecimal ds s.2.0))
stop_told h p (b_wide begin got low high n) b i s = λ e. absurd cc

partial_told : (h : Head) (p : Partial) (b : ℕ) → IsHead h → Sound p → Told (spell_head h ++ written p) b (seen p) (step (seen p) b)
partial_told h (p_text l ls) b i s =
    let before : List ℕ = spell_head h ++ (levels ls ++ opened l) in
    let t : State = inside (l.name ∷ names ls) in
    let P : Result State HtmlWhy → Type 0 = Told before b t in
    if_case P (is_plain in_text b) _ _ (λ _. tt) (λ e. if_case P (b == 60) _ _ (λ _. tt) (λ f. special_told before b t t (high_text b e f)))
partial_told h (p_less ls) b i s = less_told h ls b i s
partial_told h (p_naming ls n) b i s =
    let before : List ℕ = spell_head h ++ (levels ls ++ (60 ∷ n)) in
    let P : Result State HtmlWhy → Type 0 = Told before b (naming (names ls) n) in
    if_case P (is_name_byte b) _ _ (λ _. tt) (λ _. open_told before b (naming (names ls) n) (record { outer = names ls; name = n; seen = [] }))
partial_told h (p_gap o g) b i s =
    let before : List ℕ = spell_head h ++ written (p_gap o g) in
    let P : Result State HtmlWhy → Type 0 = Told before b (gap (tag o)) in
    if_case P (is_attribute_byte b) _ _ (λ _. tt) (λ _. open_told before b (gap (tag o)) (tag o))
partial_told h (p_attribute o g a) b i s =
    let before : List ℕ = spell_head h ++ written (p_attribute o g a) in
    let P : Result State HtmlWhy → Type 0 = Told before b (attribute (tag o) a) in
    if_case P (is_attribute_byte b) _ _ (λ _. tt)
    (λ e. if_case P (is_among a (names_of o.attributes)) _ _ (λ f. repeated_told h o g a b i s e f)
    (λ _. name_told before b (attribute (tag o) a) (with_seen (tag o) a)))
partial_told h (p_named o g a lg) b i s = name_told (spell_head h ++ written (p_named o g a lg)) b (named_so (with_seen (tag o) a)) (with_seen (tag o) a)
partial_told h (p_equals o g a lg rg) b i s =
    let P : Result State HtmlWhy → Type 0 = Told (spell_head h ++ written (p_equals o g a lg rg)) b (equals (with_seen (tag o) a)) in
    if_case P (is_quote b) _ _ (λ _. tt) (λ _. if_case P (is_space b) _ _ (λ _. tt) (λ _ _. tt))
partial_told h (p_value o g a lg rg q ps) b i s =
    let before : List ℕ = spell_head h ++ written (p_value o g a lg rg q ps) in
    let t : State = value (with_seen (tag o) a) q in
    let P : Result State HtmlWhy → Type 0 = Told before b t in
    if_case P (is_plain (in_value q) b) _ _ (λ _. tt) (λ e. if_case P (b == q) _ _ (λ _. tt) (λ f. special_told before b t t (high_value b q e f)))
partial_told h (p_slashed o g) b i s =
    let P : Result State HtmlWhy → Type 0 = Told (spell_head h ++ written (p_slashed o g)) b (slashed (tag o)) in
    if_case P (b == 62) _ _ (λ _. tt) (λ _ _. tt)
partial_told h (p_valued o) b i s = open_told (spell_head h ++ written (p_valued o)) b (valued (tag o)) (tag o)
partial_told h (p_closing l ls got (c ∷ cs)) b i s =
    let P : Result State HtmlWhy → Type 0 = Told (spell_head h ++ written (p_closing l ls got (c ∷ cs))) b (closing (c ∷ cs) (names ls)) in
    if_case P (b == c) _ _ (λ _. tt) (λ _. closing_told h l ls got (c ∷ cs) b i s (λ behind e. absurd cc))
partial_told h (p_closing l ls got []) b i s =
    let before : List ℕ = spell_head h ++ written (p_closing l ls got []) in
    let P : Result State HtmlWhy → Type 0 = Told before b (closing [] (names ls)) in
    if_case P (is_name_byte b) _ _ (λ e. closing_told h l ls got [] b i s (λ behind _. e)) (λ _. end_told before b (closing [] (names ls)) (names ls))
partial_told h (p_closed l ls g) b i s = end_told (spell_head h ++ written (p_closed l ls g)) b (closed (names ls)) (names ls)
partial_told h (p_done e g) b i s =
    let P : Result State HtmlWhy → Type 0 = Told (spell_head h ++ written (p_done e g)) b (inside []) in
    if_case P (is_space b) _ _ (λ _. tt) (λ _ _. tt)
partial_told h (p_escaping p e) b i s =
    turn_told (spell_head h ++ written (p_escaping p e)) b (seen (p_escaping p e)) (seen p) (escape_of e) (in_escape (escape_of e) b) (stop_told h p e b i s)

-- in the head all faults are of syntax
prolog_told : (before : List ℕ) (b : ℕ) → Told before b (doctype []) (in_doctype [] b)
prolog_told before b =
    let P : Result State HtmlWhy → Type 0 = Told before b (doctype []) in
    if_case P (is_space b) _ _ (λ _. tt) (λ _. if_case P (b == 60) _ _ (λ _. tt) (λ _ _. tt))

ahead_told : (before : List ℕ) (a : Ahead) (b : ℕ) → Told before b (state_of a) (step (state_of a) b)
ahead_told before (a_lead l) b =
    let P : Result State HtmlWhy → Type 0 = Told before b start in
    if_case P (is_space b) _ _ (λ _. tt) (λ _. if_case P (b == 60) _ _ (λ _. tt) (λ _ _. tt))
ahead_told before (a_first l) b =
    let P : Result State HtmlWhy → Type 0 = Told before b first in
    if_case P (is_lower b) _ _ (λ _. tt) (λ _. if_case P (b == 33) _ _ (λ _. tt) (λ _ _. tt))
ahead_told before (a_word l got (c ∷ cs)) b =
    let P : Result State HtmlWhy → Type 0 = Told before b (doctype (c ∷ cs)) in
    if_case P (to_ascii_lowercase b == c) _ _ (λ _. tt) (λ _ _. tt)
ahead_told before (a_word l got []) b = prolog_told before b
ahead_told before (a_gap l d g) b = prolog_told before b

pub told : (before : List ℕ) (b : ℕ) (s : State) → InHead before s ⊎ Behind before s → Told before b s (step s b)
told before b s (inl r) = let P : State → Type 0 = λ t. Told before b t (step t b) in subst P r.2 (ahead_told before r.0 b)
told before b s (inr r) =
    let P : State → Type 0 = λ t. Told before b t (step t b) in
    let Q : List ℕ → Type 0 = λ w. Told w b (seen r.2) (step (seen r.2) b) in
    subst P r.4 (subst Q r.5 (partial_told r.0 r.2 b r.1 r.3))
