-- A document that is written in part: what a state has behind it. The head stands apart.
use Rattle.std.proofs.Common.{◌≡◌, ℕ, zero, suc, Option, Some, None, ◌+◌, ◌*◌, ◌<◌, ◌≤◌, Bool, true, false, Result, Ok, Err, List, [], ◌∷◌, ◌++◌, length, refl, sym, ap, ◌∙◌, subst, nat_lt, append_assoc, length-append, arith, lit≤, codes, inl, inr, ⊎_elim}
use Rattle.std.specs.Prelude.{◌==◌, ◌&&◌, ◌⊎◌, encode_utf8}
use Rattle.std.proofs.lemmas.List.{append-nil}
use Rattle.std.proofs.lemmas.Bool.{eqb-true}
use Rattle.std.proofs.lemmas.Bool.Decides.{nat_tests}
use Rattle.std.proofs.lemmas.Str.{encode_ascii}
use lib.Utf8.{scalar, low_scalar}
use Rattle.wt_html_grammar.specs.declared.names.EscapeName.{EscapeName}
use Rattle.wt_html_grammar.specs.declared.names.EscapeName.TheVariants.{Amp, Lt, Gt, Quot, Apos, Nbsp}
use Rattle.wt_html_grammar.specs.declared.names.Radix.{Radix}
use Rattle.wt_html_grammar.specs.declared.names.Radix.TheVariants.{Decimal, Hexadecimal}
use Rattle.wt_html_grammar.specs.declared.why.HtmlWhy.{HtmlWhy}
use Rattle.wt_html_grammar.specs.Signs.{is_quote, is_void, is_among, Follow, follow, between, IsFollow, Follows, is_lower, is_name_byte, is_attribute_byte, is_space, is_digit_of, digit_value, base_of, most_digits, sign_of, in_text, in_value, letters_of, number_from, Each, IsName, IsAttributeName, IsGap, IsWideGap}
use Rattle.wt_html_grammar.specs.Grammar.{Piece, plain, named, number, void, bare, slash, spell_piece, IsPiece, spell_pieces, ArePieces, Attribute, spell_attribute, IsAttribute, spell_attributes, AreAttributes, Element, Items, element, none, sign, child, spell, spell_items, IsElement, AreItems}
use Rattle.wt_html_grammar.specs.Machine.{State, inside, less, naming, gap, attribute, named_so, at_name, equals, value, valued, slashed, opened as opened_names, begins, special, closing, closed, escaping, Escape, ampersand, apart, letters, sharp, digits, wide, EscapeStep, is_begun, is_whole, in_digits, in_escape, is_plain, turned, Tag, with_seen, at_open, at_end, end_tag, step}
use Rattle.wt_html_grammar.proofs.Steps.{if_case, lt_of_test}
use Rattle.wt_html_grammar.proofs.Chars.{IsChar, of_bytes}

pub record Level : Type 0 where
  pub name : List ℕ
  pub attributes : List Attribute
  pub gap : List ℕ
  pub items : Items

pub data Begun : Type 0 where
  b_ampersand : Begun
  b_apart : Begun
  b_letters : EscapeName → List ℕ → List ℕ → Begun
  b_sharp : Begun
  b_digits : Radix → List ℕ → Begun
  b_wide : ℕ → List ℕ → ℕ → ℕ → ℕ → Begun

-- a start tag, with its attributes so far
pub record Opening : Type 0 where
  pub outer : List Level
  pub name : List ℕ
  pub attributes : List Attribute

pub data Partial : Type 0 where
  p_text : Level → List Level → Partial
  p_less : List Level → Partial
  p_naming : List Level → List ℕ → Partial
  p_gap : Opening → List ℕ → Partial
  p_attribute : Opening → List ℕ → List ℕ → Partial
  p_named : Opening → List ℕ → List ℕ → List ℕ → Partial
  p_equals : Opening → List ℕ → List ℕ → List ℕ → List ℕ → Partial
  p_value : Opening → List ℕ → List ℕ → List ℕ → List ℕ → ℕ → List Piece → Partial
  p_slashed : Opening → List ℕ → Partial
  p_valued : Opening → Partial
  p_closing : Level → List Level → List ℕ → List ℕ → Partial
  p_closed : Level → List Level → List ℕ → Partial
  p_done : Element → List ℕ → Partial
  p_escaping : Partial → Begun → Partial

-- the state that it leads to
abbrev pub names : List Level → List (List ℕ)
names [] = []
names (l ∷ ls) = l.name ∷ names ls

abbrev pub names_of : List Attribute → List (List ℕ)
names_of [] = []
names_of (a ∷ others) = a.name ∷ names_of others

abbrev pub tag : Opening → Tag
tag o = record { outer = names o.outer; name = o.name; seen = names_of o.attributes }

abbrev pub escape_of : Begun → Escape
escape_of b_ampersand = ampersand
escape_of (b_letters n got left) = letters n left
escape_of b_apart = apart
escape_of (b_wide b got low high n) = wide low high n
escape_of b_sharp = sharp
escape_of (b_digits r ds) = digits r (length ds) (number_from r 0 ds)

abbrev pub seen : Partial → State
seen (p_text l ls) = inside (l.name ∷ names ls)
seen (p_less ls) = less (names ls)
seen (p_naming ls n) = naming (names ls) n
seen (p_gap o g) = gap (tag o)
seen (p_attribute o g a) = attribute (tag o) a
seen (p_named o g a lg) = named_so (with_seen (tag o) a)
seen (p_equals o g a lg rg) = equals (with_seen (tag o) a)
seen (p_value o g a lg rg q ps) = value (with_seen (tag o) a) q
seen (p_slashed o g) = slashed (tag o)
seen (p_valued o) = valued (tag o)
seen (p_closing l ls got left) = closing left (names ls)
seen (p_closed l ls g) = closed (names ls)
seen (p_done e g) = inside []
seen (p_escaping p e) = escaping (seen p) (escape_of e)

-- its bytes
abbrev pub opened : Level → List ℕ
opened l = 60 ∷ (l.name ++ (spell_attributes l.attributes ++ (l.gap ++ (62 ∷ spell_items l.items))))

abbrev pub levels : List Level → List ℕ
levels [] = []
levels (l ∷ ls) = levels ls ++ opened l

abbrev pub in_tag : Opening → List ℕ → List ℕ
in_tag o more = levels o.outer ++ (60 ∷ (o.name ++ (spell_attributes o.attributes ++ more)))

abbrev pub in_end : Level → List Level → List ℕ → List ℕ
in_end l ls more = (levels ls ++ opened l) ++ (60 ∷ 47 ∷ more)

abbrev pub escape_bytes : Begun → List ℕ
escape_bytes b_ampersand = 38 ∷ []
escape_bytes (b_letters n got left) = 38 ∷ got
escape_bytes b_apart = 38 ∷ 97 ∷ []
escape_bytes (b_wide b got low high n) = b ∷ got
escape_bytes b_sharp = 38 ∷ 35 ∷ []
escape_bytes (b_digits r ds) = 38 ∷ 35 ∷ (sign_of r ++ ds)

abbrev pub written : Partial → List ℕ
written (p_text l ls) = levels ls ++ opened l
written (p_less ls) = levels ls ++ 60 ∷ []
written (p_naming ls n) = levels ls ++ (60 ∷ n)
written (p_gap o g) = in_tag o g
written (p_attribute o g a) = in_tag o (g ++ a)
written (p_named o g a lg) = in_tag o (g ++ (a ++ lg))
written (p_equals o g a lg rg) = in_tag o (g ++ (a ++ (lg ++ (61 ∷ rg))))
written (p_value o g a lg rg q ps) = in_tag o (g ++ (a ++ (lg ++ (61 ∷ (rg ++ (q ∷ spell_pieces ps))))))
written (p_slashed o g) = in_tag o (g ++ 47 ∷ [])
written (p_valued o) = in_tag o []
written (p_closing l ls got left) = in_end l ls got
written (p_closed l ls g) = in_end l ls (l.name ++ g)
written (p_done e g) = spell e ++ g
written (p_escaping p e) = written p ++ escape_bytes e

-- it follows the grammar
abbrev pub IsLevel : ℕ → Level → Type 0
IsLevel k l = (k < 200) × IsName l.name × AreAttributes [] l.attributes × IsGap l.gap × AreItems (suc k) l.items × (is_void l.name ≡ false)

abbrev pub AreLevels : List Level → Type 0
AreLevels [] = Unit {0}
AreLevels (l ∷ ls) = IsLevel (length ls) l × AreLevels ls

abbrev pub IsOpening : Opening → Type 0
IsOpening o = (length o.outer < 200) × IsName o.name × AreAttributes [] o.attributes × AreLevels o.outer

abbrev pub IsBegunEscape : Begun → Type 0
IsBegunEscape b_ampersand = Unit {0}
IsBegunEscape (b_letters n got left) = got ++ left ≡ letters_of n
IsBegunEscape b_apart = Unit {0}
IsBegunEscape (b_wide b got low high n) = ((bs : List ℕ) → IsFollow low high n bs → Follows (follow b) (got ++ bs)) × (low ≤ high)
IsBegunEscape b_sharp = Unit {0}
IsBegunEscape (b_digits r ds) = Each (is_digit_of r) ds × (is_begun r (length ds) (number_from r 0 ds) ≡ true)

-- a piece may stand behind it
abbrev pub TakesPiece : Partial → Type 0
TakesPiece (p_text l ls) = Unit {0}
TakesPiece (p_value o g a lg rg q ps) = Unit {0}
TakesPiece p = ⊥

abbrev pub Sound : Partial → Type 0
Sound (p_text l ls) = IsLevel (length ls) l × AreLevels ls
Sound (p_less ls) = AreLevels ls
Sound (p_naming ls n) = (length ls < 200) × IsName n × AreLevels ls
Sound (p_gap o g) = IsOpening o × IsWideGap g
Sound (p_attribute o g a) = IsOpening o × IsWideGap g × IsAttributeName a
Sound (p_named o g a lg) = IsOpening o × IsWideGap g × IsAttributeName a × (is_among a (names_of o.attributes) ≡ false) × IsGap lg
Sound (p_equals o g a lg rg) = IsOpening o × IsWideGap g × IsAttributeName a × (is_among a (names_of o.attributes) ≡ false) × IsGap lg × IsGap rg
Sound (p_value o g a lg rg q ps) =
    IsOpening o × IsWideGap g × IsAttributeName a × (is_among a (names_of o.attributes) ≡ false) × ArePieces (in_value q) ps
    × (is_quote q ≡ true) × IsGap lg × IsGap rg
Sound (p_slashed o g) = IsOpening o × IsGap g × (is_void o.name ≡ true)
Sound (p_valued o) = IsOpening o
Sound (p_closing l ls got left) = IsLevel (length ls) l × AreLevels ls × (got ++ left ≡ l.name)
Sound (p_closed l ls g) = IsLevel (length ls) l × AreLevels ls × IsGap g
Sound (p_done e g) = IsElement 0 e × IsGap g
Sound (p_escaping p e) = Sound p × TakesPiece p × IsBegunEscape e

-- something that is written so leads to this state
abbrev pub Reached : List ℕ → Result State HtmlWhy → Type 0
Reached w (Err why) = Unit {0}
Reached w (Ok s) = (p : Partial) × Sound p × (seen p ≡ s) × (written p ≡ w)

along : (a b : List ℕ) (o : Result State HtmlWhy) → a ≡ b → Reached a o → Reached b o
along a b o e h = let P : List ℕ → Type 0 = λ w. Reached w o in subst P e h

-- lists that grow
each_push : (p : ℕ → Bool) (bs : List ℕ) (b : ℕ) → Each p bs → p b ≡ true → Each p (bs ++ b ∷ [])
each_push p [] b h e = (e, tt)
each_push p (c ∷ cs) b h e = (h.0, each_push p cs b h.1 e)

name_push : (n : List ℕ) (b : ℕ) → IsName n → is_name_byte b ≡ true → IsName (n ++ b ∷ [])
name_push [] b h e = absurd h
name_push (c ∷ cs) b h e = (h.0, each_push is_name_byte cs b h.1 e)

attribute_name_push : (n : List ℕ) (b : ℕ) → IsAttributeName n → is_attribute_byte b ≡ true → IsAttributeName (n ++ b ∷ [])
attribute_name_push [] b h e = absurd h
attribute_name_push (c ∷ cs) b h e = (h.0, each_push is_attribute_byte cs b h.1 e)

wide_push : (g : List ℕ) (b : ℕ) → IsGap g → is_space b ≡ true → IsWideGap (g ++ b ∷ [])
wide_push [] b h e = (e, tt)
wide_push (c ∷ cs) b h e = (h.0, each_push is_space cs b h.1 e)

wide_gap : (g : List ℕ) → IsWideGap g → IsGap g
wide_gap [] h = absurd h
wide_gap (c ∷ cs) h = h

pub length_names : (ls : List Level) → length (names ls) ≡ length ls
length_names [] = refl
length_names (l ∷ ls) = ap suc (length_names ls)

number_push : (r : Radix) (ds : List ℕ) (n b : ℕ) → number_from r n (ds ++ b ∷ []) ≡ number_from r n ds * base_of r + digit_value b
number_push r [] n b = refl
number_push r (d ∷ ds) n b = number_push r ds (n * base_of r + digit_value d) b

pieces_push : (ps : List Piece) (x : Piece) → spell_pieces (ps ++ x ∷ []) ≡ spell_pieces ps ++ spell_piece x
pieces_push [] x = append-nil (spell_piece x)
pieces_push (p ∷ ps) x = ap (λ s. spell_piece p ++ s) (pieces_push ps x) ∙ sym (append_assoc (spell_piece p) (spell_pieces ps) (spell_piece x))

are_pieces_push : (t : ℕ → Bool) (ps : List Piece) (x : Piece) → ArePieces t ps → IsPiece t x → ArePieces t (ps ++ x ∷ [])
are_pieces_push t [] x h g = (g, tt)
are_pieces_push t (p ∷ ps) x h g = (h.0, are_pieces_push t ps x h.1 g)

attributes_push : (xs : List Attribute) (a : Attribute) → spell_attributes (xs ++ a ∷ []) ≡ spell_attributes xs ++ spell_attribute a
attributes_push [] a = append-nil (spell_attribute a)
attributes_push (x ∷ xs) a = ap (λ s. spell_attribute x ++ s) (attributes_push xs a)
    ∙ sym (append_assoc (spell_attribute x) (spell_attributes xs) (spell_attribute a))

names_push : (xs : List Attribute) (a : Attribute) → names_of (xs ++ a ∷ []) ≡ names_of xs ++ a.name ∷ []
names_push [] a = refl
names_push (x ∷ xs) a = ap (λ s. x.name ∷ s) (names_push xs a)

are_attributes_push : (before : List (List ℕ)) (xs : List Attribute) (a : Attribute) → AreAttributes before xs → IsAttribute a
    → is_among a.name (before ++ names_of xs) ≡ false → AreAttributes before (xs ++ a ∷ [])
are_attributes_push before [] a h g e = (g, ap (is_among a.name) (sym (append-nil before)) ∙ e, tt)
are_attributes_push before (x ∷ xs) a h g e =
    (h.0, h.1, are_attributes_push (before ++ x.name ∷ []) xs a h.2 g (ap (is_among a.name) (append_assoc before (x.name ∷ []) (names_of xs)) ∙ e))

-- items, one after the other
abbrev add : Items → Items → Items
add none more = more
add (sign p items) more = sign p (add items more)
add (child e items) more = child e (add items more)

spell_add : (xs ys : Items) → spell_items (add xs ys) ≡ spell_items xs ++ spell_items ys
spell_add none ys = refl
spell_add (sign p items) ys = ap (λ x. spell_piece p ++ x) (spell_add items ys) ∙ sym (append_assoc (spell_piece p) (spell_items items) (spell_items ys))
spell_add (child e items) ys = ap (λ x. spell e ++ x) (spell_add items ys) ∙ sym (append_assoc (spell e) (spell_items items) (spell_items ys))

are_added : (k : ℕ) (xs ys : Items) → AreItems k xs → AreItems k ys → AreItems k (add xs ys)
are_added k none ys h g = g
are_added k (sign p items) ys h g = (h.0, are_added k items ys h.1 g)
are_added k (child e items) ys h g = (h.0, are_added k items ys h.1 g)

abbrev with_items : Level → Items → Level
with_items l more = record { name = l.name; attributes = l.attributes; gap = l.gap; items = add l.items more }

opened_push : (l : Level) (more : Items) → opened (with_items l more) ≡ opened l ++ spell_items more
opened_push l more = simp (append_assoc, spell_add)

level_push : (k : ℕ) (l : Level) (more : Items) → IsLevel k l → AreItems (suc k) more → IsLevel k (with_items l more)
level_push k l more h g = (h.0, h.1, h.2, h.3, are_added (suc k) l.items more h.4 g, h.5)

-- a piece more
abbrev with_piece : Partial → Piece → Partial
with_piece (p_text l ls) x = p_text (with_items l (sign x none)) ls
with_piece (p_value o g a lg rg q ps) x = p_value o g a lg rg q (ps ++ x ∷ [])
with_piece p x = p

-- it may stand in a text and in a value
abbrev AnyPiece : Piece → Type 0
AnyPiece x = IsPiece in_text x × ((q : ℕ) → is_quote q ≡ true → IsPiece (in_value q) x)

piece_reached : (p : Partial) (x : Piece) → Sound p → TakesPiece p → AnyPiece x → Reached (written p ++ spell_piece x) (Ok (seen p))
piece_reached (p_text l ls) x h t g = (
  p_text (with_items l (sign x none)) ls,
  (level_push (length ls) l (sign x none) h.0 (g.0, tt), h.1),
  refl,
  ap (λ s. levels ls ++ s) (opened_push l (sign x none)) ∙ simp (append_assoc, append-nil),
)
piece_reached (p_value o gs a lg rg q ps) x h t g = (
  p_value o gs a lg rg q (ps ++ x ∷ []),
  (h.0, h.1, h.2, h.3, are_pieces_push (in_value q) ps x h.4 (g.1 q h.5), h.5, h.6, h.7),
  refl,
  ap (λ s. in_tag o (gs ++ (a ++ (lg ++ (61 ∷ (rg ++ (q ∷ s))))))) (pieces_push ps x) ∙ simp append_assoc,
)
piece_reached (p_slashed o gs) x h t g = absurd t
piece_reached (p_less ls) x h t g = absurd t
piece_reached (p_naming ls n) x h t g = absurd t
piece_reached (p_gap o gs) x h t g = absurd t
piece_reached (p_attribute o gs a) x h t g = absurd t
piece_reached (p_named o gs a lg) x h t g = absurd t
piece_reached (p_equals o gs a lg rg) x h t g = absurd t
piece_reached (p_valued o) x h t g = absurd t
piece_reached (p_closing l ls got left) x h t g = absurd t
piece_reached (p_closed l ls gs) x h t g = absurd t
piece_reached (p_done e gs) x h t g = absurd t
piece_reached (p_escaping p e) x h t g = absurd t

pushed : (bs : List ℕ) (b : ℕ) → 0 < length (bs ++ b ∷ [])
pushed bs b = omega (arith, length-append bs (b ∷ []))

-- a byte in an escape
and_left : (a b : Bool) → (a && b) ≡ true → a ≡ true
and_left true b e = refl
and_left false b e = e

and_right : (a b : Bool) → (a && b) ≡ true → b ≡ true
and_right true b e = e
and_right false b e = cc

begun_le : (r : Radix) (k n : ℕ) → is_begun r k n ≡ true → k ≤ most_digits r
begun_le Decimal k n e = grind (arith, nat_tests)
begun_le Hexadecimal k n e = grind (arith, nat_tests)

begun_push : (r : Radix) (ds : List ℕ) (b : ℕ) → is_begun r (length ds + 1) (number_from r 0 ds * base_of r + digit_value b) ≡ true
    → is_begun r (length (ds ++ b ∷ [])) (number_from r 0 (ds ++ b ∷ [])) ≡ true
begun_push r ds b e =
    let l : length (ds ++ b ∷ []) ≡ length ds + 1 = length-append ds (b ∷ []) in
    ap (λ (k : ℕ). is_begun r k (number_from r 0 (ds ++ b ∷ []))) l ∙ ap (λ (n : ℕ). is_begun r (length ds + 1) n) (number_push r ds 0 b) ∙ e

-- a character of several bytes may stand anywhere
high_text : (c : ℕ) → 128 ≤ c → in_text c ≡ true
high_text c h = grind (arith, nat_tests)

high_value : (c q : ℕ) → 128 ≤ c → is_quote q ≡ true → in_value q c ≡ true
high_value c q h e = grind (arith, nat_tests)

any_high : (c : ℕ) → scalar c ≡ true → 128 ≤ c → AnyPiece (plain c)
any_high c s h = ((s, high_text c h), λ q e. (s, high_value c q h e))

low_or_high : (c : ℕ) (t : Bool) → nat_lt c 128 ≡ t → (encode_utf8 c ≡ c ∷ []) ⊎ (128 ≤ c)
low_or_high c true e = inl (encode_ascii c (lt_of_test c 128 e))
low_or_high c false e = inr (not_low c e)
  where
    not_low : (c : ℕ) → nat_lt c 128 ≡ false → 128 ≤ c
    not_low c e = grind (arith, nat_tests)

not_single : (c b : ℕ) (bs : List ℕ) → encode_utf8 c ≡ c ∷ [] → encode_utf8 c ≡ b ∷ bs → 0 < length bs → ⊥
not_single c b [] e f h = omega arith
not_single c b (x ∷ xs) e f h = let g : c ∷ [] ≡ b ∷ x ∷ xs = sym e ∙ f in cc

-- the bytes of a character of several
wide_char : (b : ℕ) (bs : List ℕ) → 0 < length bs → Follows (follow b) bs → (c : ℕ) × (encode_utf8 c ≡ b ∷ bs) × AnyPiece (plain c)
wide_char b bs some f =
    let r : IsChar (b ∷ bs) = of_bytes b bs f in
    (r.0, r.2, any_high r.0 r.1 (⊎_elim (λ low. absurd (not_single r.0 b bs low r.2 some)) (λ high. high) (low_or_high r.0 (nat_lt r.0 128) refl)))

-- in a number
digits_advance : (p : Partial) (e : Escape) (r : Radix) (ds : List ℕ) (b : ℕ) → Sound p → TakesPiece p → IsBegunEscape (b_digits r ds)
    → Reached ((written p ++ escape_bytes (b_digits r ds)) ++ b ∷ []) (turned (seen p) e (in_digits r (length ds) (number_from r 0 ds) b))
digits_advance p e r ds b h t g =
    let sg : List ℕ = sign_of r in
    let w : List ℕ = (written p ++ (38 ∷ 35 ∷ (sg ++ ds))) ++ b ∷ [] in
    let P : EscapeStep → Type 0 = λ u. Reached w (turned (seen p) e u) in
    let same : written p ++ (38 ∷ 35 ∷ (sg ++ (ds ++ b ∷ []))) ≡ w = simp append_assoc in
    if_case P (is_digit_of r b) _ _
    (λ d. if_case P (is_begun r (length ds + 1) (number_from r 0 ds * base_of r + digit_value b)) _ _
    (λ f. (
      p_escaping p (b_digits r (ds ++ b ∷ [])),
      (h, t, (each_push (is_digit_of r) ds b g.0 d, begun_push r ds b f)),
      ap (escaping (seen p)) (ap (λ (k : ℕ). digits r k (number_from r 0 (ds ++ b ∷ []))) (length-append ds (b ∷ []))
          ∙ ap (digits r (length ds + 1)) (number_push r ds 0 b)),
      same,
    ))
    (λ _. tt))
    (λ _. if_case P (b == 59) _ _
    (λ d. if_case P (is_whole (length ds) (number_from r 0 ds)) _ _
    (λ f. along (written p ++ spell_piece (number r ds)) w (Ok (seen p))
    (ap (λ c. written p ++ (38 ∷ 35 ∷ (sg ++ (ds ++ c ∷ [])))) (sym (eqb-true b 59 d)) ∙ same)
    (piece_reached p (number r ds) h t
    (let m : IsPiece in_text (number r ds) = (
      lt_of_test 0 (length ds) (and_left _ _ f),
      begun_le r (length ds) (number_from r 0 ds) g.1,
      g.0,
      and_right (nat_lt 0 (length ds)) _ f,
    ) in (m, λ q _. m))))
    (λ _. tt))
    (λ _. tt))

-- the first letter behind `&`
letter_advance : (p : Partial) (b : ℕ) (n : EscapeName) (c : ℕ) (cs : List ℕ) → Sound p → TakesPiece p → (c ∷ cs ≡ letters_of n) → b ≡ c
    → Reached ((written p ++ 38 ∷ []) ++ b ∷ []) (Ok (escaping (seen p) (letters n cs)))
letter_advance p b n c cs h t g e =
    (p_escaping p (b_letters n (c ∷ []) cs), (h, t, g), refl, ap (λ x. written p ++ (38 ∷ x ∷ [])) (sym e) ∙ sym (append_assoc (written p) (38 ∷ []) (b ∷ [])))

ampersand_advance : (p : Partial) (b : ℕ) → Sound p → TakesPiece p
    → Reached ((written p ++ 38 ∷ []) ++ b ∷ []) (turned (seen p) ampersand (in_escape ampersand b))
ampersand_advance p b h t =
    let w : List ℕ = (written p ++ 38 ∷ []) ++ b ∷ [] in
    let P : EscapeStep → Type 0 = λ u. Reached w (turned (seen p) ampersand u) in
    let same : written p ++ (38 ∷ b ∷ []) ≡ w = sym (append_assoc (written p) (38 ∷ []) (b ∷ [])) in
    if_case P (b == 35) _ _
    (λ e. (p_escaping p b_sharp, (h, t, tt), refl, ap (λ c. written p ++ (38 ∷ c ∷ [])) (sym (eqb-true b 35 e)) ∙ same))
    (λ _. if_case P (b == 97) _ _
    (λ e. (p_escaping p b_apart, (h, t, tt), refl, ap (λ c. written p ++ (38 ∷ c ∷ [])) (sym (eqb-true b 97 e)) ∙ same))
    (λ _. if_case P (b == 108) _ _ (λ e. letter_advance p b Lt 108 (codes "t") h t refl (eqb-true b 108 e))
    (λ _. if_case P (b == 103) _ _ (λ e. letter_advance p b Gt 103 (codes "t") h t refl (eqb-true b 103 e))
    (λ _. if_case P (b == 113) _ _ (λ e. letter_advance p b Quot 113 (codes "uot") h t refl (eqb-true b 113 e))
    (λ _. if_case P (b == 110) _ _ (λ e. letter_advance p b Nbsp 110 (codes "bsp") h t refl (eqb-true b 110 e))
    (λ _. tt))))))

escape_advance : (p : Partial) (e : Begun) (b : ℕ) → Sound p → TakesPiece p → IsBegunEscape e
    → Reached ((written p ++ escape_bytes e) ++ b ∷ []) (turned (seen p) (escape_of e) (in_escape (escape_of e) b))
escape_advance p b_ampersand b h t g = ampersand_advance p b h t
escape_advance p b_apart b h t g =
    let w : List ℕ = (written p ++ (38 ∷ 97 ∷ [])) ++ b ∷ [] in
    let P : EscapeStep → Type 0 = λ u. Reached w (turned (seen p) apart u) in
    let same : written p ++ (38 ∷ 97 ∷ b ∷ []) ≡ w = sym (append_assoc (written p) (38 ∷ 97 ∷ []) (b ∷ [])) in
    if_case P (b == 109) _ _
    (λ e. (
      p_escaping p (b_letters Amp (97 ∷ 109 ∷ []) (112 ∷ [])),
      (h, t, refl),
      refl,
      ap (λ c. written p ++ (38 ∷ 97 ∷ c ∷ [])) (sym (eqb-true b 109 e)) ∙ same,
    ))
    (λ _. if_case P (b == 112) _ _
    (λ e. (
      p_escaping p (b_letters Apos (97 ∷ 112 ∷ []) (111 ∷ 115 ∷ [])),
      (h, t, refl),
      refl,
      ap (λ c. written p ++ (38 ∷ 97 ∷ c ∷ [])) (sym (eqb-true b 112 e)) ∙ same,
    ))
    (λ _. tt))
escape_advance p (b_wide begin got low high zero) b h t g =
    let w : List ℕ = (written p ++ (begin ∷ got)) ++ b ∷ [] in
    let P : EscapeStep → Type 0 = λ u. Reached w (turned (seen p) (wide low high zero) u) in
    if_case P (between low high b) _ _
    (λ e. let r = wide_char begin (got ++ b ∷ []) (pushed got b) (g.0 (b ∷ []) (e, refl)) in
    along (written p ++ spell_piece (plain r.0)) w (Ok (seen p)) (ap (λ x. written p ++ x) r.1 ∙ sym (append_assoc (written p) (begin ∷ got) (b ∷ [])))
    (piece_reached p (plain r.0) h t r.2))
    (λ _. tt)
escape_advance p (b_wide begin got low high (suc n)) b h t g =
    let w : List ℕ = (written p ++ (begin ∷ got)) ++ b ∷ [] in
    let P : EscapeStep → Type 0 = λ u. Reached w (turned (seen p) (wide low high (suc n)) u) in
    let F : List ℕ → Type 0 = Follows (follow begin) in
    if_case P (between low high b) _ _
    (λ e. (
      p_escaping p (b_wide begin (got ++ b ∷ []) 128 191 n),
      (h, t, (λ bs f. subst F (sym (append_assoc got (b ∷ []) bs)) (g.0 (b ∷ bs) (e, f)), omega arith)),
      refl,
      sym (append_assoc (written p) (begin ∷ got) (b ∷ [])),
    ))
    (λ _. tt)
escape_advance p (b_letters n got (c ∷ cs)) b h t g =
    let w : List ℕ = (written p ++ (38 ∷ got)) ++ b ∷ [] in
    let P : EscapeStep → Type 0 = λ u. Reached w (turned (seen p) (letters n (c ∷ cs)) u) in
    if_case P (b == c) _ _
    (λ e. (
      p_escaping p (b_letters n (got ++ b ∷ []) cs),
      (h, t, append_assoc got (b ∷ []) cs ∙ ap (λ d. got ++ d ∷ cs) (eqb-true b c e) ∙ g),
      refl,
      sym (append_assoc (written p) (38 ∷ got) (b ∷ [])),
    ))
    (λ _. tt)
escape_advance p (b_letters n got []) b h t g =
    let w : List ℕ = (written p ++ (38 ∷ got)) ++ b ∷ [] in
    let P : EscapeStep → Type 0 = λ u. Reached w (turned (seen p) (letters n []) u) in
    if_case P (b == 59) _ _
    (λ e. along (written p ++ spell_piece (named n)) w (Ok (seen p))
    (ap (λ s. written p ++ (38 ∷ (s ++ 59 ∷ []))) (sym g ∙ append-nil got) ∙ ap (λ c. written p ++ (38 ∷ (got ++ c ∷ []))) (sym (eqb-true b 59 e))
    ∙ sym (append_assoc (written p) (38 ∷ got) (b ∷ [])))
    (piece_reached p (named n) h t (tt, λ q _. tt)))
    (λ _. tt)
escape_advance p b_sharp b h t g =
    let w : List ℕ = (written p ++ (38 ∷ 35 ∷ [])) ++ b ∷ [] in
    let P : EscapeStep → Type 0 = λ u. Reached w (turned (seen p) sharp u) in
    if_case P (b == 120) _ _
    (λ e. (
      p_escaping p (b_digits Hexadecimal []),
      (h, t, (tt, refl)),
      refl,
      ap (λ c. written p ++ (38 ∷ 35 ∷ c ∷ [])) (sym (eqb-true b 120 e)) ∙ sym (append_assoc (written p) (38 ∷ 35 ∷ []) (b ∷ [])),
    ))
    (λ _. digits_advance p sharp Decimal [] b h t (tt, refl))
escape_advance p (b_digits r ds) b h t g = digits_advance p (digits r (length ds) (number_from r 0 ds)) r ds b h t g

-- an end tag ends
abbrev element_of : Level → List ℕ → Element
element_of l end = element l.name l.attributes l.gap l.items end

-- an element is whole
settle : (e : Element) (ls : List Level) → IsElement (length ls) e → AreLevels ls → Reached (levels ls ++ spell e) (Ok (inside (names ls)))
settle e [] h hs = (p_done e [], (h, tt), refl, append-nil (spell e))
settle e (m ∷ ms) h hs = (
  p_text (with_items m (child e none)) ms,
  (level_push (length ms) m (child e none) hs.0 (h, tt), hs.1),
  refl,
  ap (λ x. levels ms ++ x) (opened_push m (child e none)) ∙ simp (append_assoc, append-nil),
)

leave : (l : Level) (ls : List Level) (end : List ℕ) → IsLevel (length ls) l → AreLevels ls → IsGap end
    → Reached (in_end l ls (l.name ++ (end ++ 62 ∷ []))) (Ok (inside (names ls)))
leave l ls end h hs g =
    let w : List ℕ = in_end l ls (l.name ++ (end ++ 62 ∷ [])) in
    let same : levels ls ++ spell (element_of l end) ≡ w = simp append_assoc in
    along _ w (Ok (inside (names ls))) same (settle (element_of l end) ls (h.0, h.1, h.2, h.3, h.4, g, h.5) hs)

-- in an end tag, behind its name
end_advance : (l : Level) (ls : List Level) (g : List ℕ) (b : ℕ) → IsLevel (length ls) l → AreLevels ls → IsGap g
    → Reached (in_end l ls (l.name ++ (g ++ b ∷ []))) (at_end (names ls) b)
end_advance l ls g b h hs hg =
    let w : List ℕ = in_end l ls (l.name ++ (g ++ b ∷ [])) in
    if_case (Reached w) (is_space b) _ _
    (λ e. (p_closed l ls (g ++ b ∷ []), (h, hs, each_push is_space g b hg e), refl, refl))
    (λ _. if_case (Reached w) (b == 62) _ _
    (λ e. let P : ℕ → Type 0 = λ c. Reached (in_end l ls (l.name ++ (g ++ c ∷ []))) (Ok (inside (names ls))) in
    subst P (sym (eqb-true b 62 e)) (leave l ls g h hs hg))
    (λ _. tt))

start_ends : (o : Opening) (g : List ℕ) → IsOpening o → IsGap g → Reached (in_tag o (g ++ 62 ∷ [])) (Ok (inside (opened_names (tag o))))
start_ends o g h hg =
    if_case (λ (ns : List (List ℕ)). Reached (in_tag o (g ++ 62 ∷ [])) (Ok (inside ns))) (is_void o.name) _ _
    (λ v. settle (void o.name o.attributes g bare) o.outer (h.0, h.1, h.2, hg, v) h.3)
    (λ v. (p_text (record { name = o.name; attributes = o.attributes; gap = g; items = none }) o.outer, ((h.0, h.1, h.2, hg, tt, v), h.3), refl, refl))

-- in a start tag, where it may end
open_advance : (o : Opening) (g : List ℕ) (b : ℕ) → IsOpening o → IsGap g → Reached (in_tag o (g ++ b ∷ [])) (at_open (tag o) b)
open_advance o g b h hg =
    let w : List ℕ = in_tag o (g ++ b ∷ []) in
    if_case (Reached w) (is_space b) _ _
    (λ e. (p_gap o (g ++ b ∷ []), (h, wide_push g b hg e), refl, refl))
    (λ _. if_case (Reached w) (b == 62) _ _
    (λ e. along _ w (Ok (inside (opened_names (tag o)))) (ap (λ c. in_tag o (g ++ c ∷ [])) (sym (eqb-true b 62 e))) (start_ends o g h hg))
    (λ _. if_case (Reached w) (b == 47) _ _
    (λ e. if_case (Reached w) (is_void o.name) _ _
    (λ v. (p_slashed o g, (h, hg, v), refl, ap (λ c. in_tag o (g ++ c ∷ [])) (sym (eqb-true b 47 e))))
    (λ _. tt))
    (λ _. tt)))

end_slash : (ls : List Level) (b : ℕ) → AreLevels ls → b ≡ 47 → Reached ((levels ls ++ 60 ∷ []) ++ b ∷ []) (end_tag (names ls))
end_slash [] b h e = tt
end_slash (l ∷ ls) b h e = (
  p_closing l ls [] l.name,
  (h.0, h.1, refl),
  refl,
  ap (λ c. (levels ls ++ opened l) ++ (60 ∷ c ∷ [])) (sym e) ∙ sym (append_assoc (levels ls ++ opened l) (60 ∷ []) (b ∷ [])),
)

-- the bounds of the next byte are in order
abbrev pub InOrder : Option Follow → Type 0
InOrder None = Unit {0}
InOrder (Some f) = f.low ≤ f.high

pub follow_order : (b : ℕ) → InOrder (follow b)
follow_order b =
    if_case InOrder (between 194 223 b) _ _ (λ _. lit≤ tt) (λ _.
    if_case InOrder (b == 224) _ _ (λ _. lit≤ tt) (λ _.
    if_case InOrder (b == 237) _ _ (λ _. lit≤ tt) (λ _.
    if_case InOrder (between 225 239 b) _ _ (λ _. lit≤ tt) (λ _.
    if_case InOrder (b == 240) _ _ (λ _. lit≤ tt) (λ _.
    if_case InOrder (between 241 243 b) _ _ (λ _. lit≤ tt) (λ _.
    if_case InOrder (b == 244) _ _ (λ _. lit≤ tt) (λ _. tt)))))))

escape_starts : (p : Partial) (b : ℕ) → Sound p → TakesPiece p → b ≡ 38 → Reached (written p ++ b ∷ []) (Ok (escaping (seen p) ampersand))
escape_starts p b h t e = (p_escaping p b_ampersand, (h, t, tt), refl, ap (λ c. written p ++ c ∷ []) (sym e))

begins_advance : (p : Partial) (b : ℕ) (f : Option Follow) → Sound p → TakesPiece p → follow b ≡ f → Reached (written p ++ b ∷ []) (begins (seen p) f)
begins_advance p b None h t e = tt
begins_advance p b (Some f) h t e = (
  p_escaping p (b_wide b [] f.low f.high f.more),
  (h, t, (λ bs g. (let Q : Option Follow → Type 0 = λ o. Follows o bs in subst Q (sym e) g), subst InOrder e (follow_order b))),
  refl,
  refl,
)

special_advance : (p : Partial) (b : ℕ) → Sound p → TakesPiece p → Reached (written p ++ b ∷ []) (special (seen p) b)
special_advance p b h t =
    if_case (Reached (written p ++ b ∷ [])) (b == 38) _ _
    (λ e. escape_starts p b h t (eqb-true b 38 e))
    (λ _. begins_advance p b (follow b) h t refl)

-- a value ends
value_ends : (o : Opening) (g a lg rg : List ℕ) (q : ℕ) (ps : List Piece) (b : ℕ) → Sound (p_value o g a lg rg q ps) → b ≡ q
    → Reached (in_tag o (g ++ (a ++ (lg ++ (61 ∷ (rg ++ (q ∷ spell_pieces ps)))))) ++ b ∷ []) (Ok (valued (with_seen (tag o) a)))
value_ends o g a lg rg q ps b h e =
    let x : Attribute = record { gap = g; name = a; left = lg; right = rg; quote = q; value = ps } in
    let p : Opening = record { outer = o.outer; name = o.name; attributes = o.attributes ++ x ∷ [] } in (
      p_valued p,
      (h.0.0, h.0.1, are_attributes_push [] o.attributes x h.0.2 (h.1, h.2, h.4, h.5, h.6, h.7) h.3, h.0.3),
      ap (λ s. valued (record { outer = names o.outer; name = o.name; seen = s })) (names_push o.attributes x),
      ap (λ s. levels o.outer ++ (60 ∷ (o.name ++ (s ++ [])))) (attributes_push o.attributes x)
          ∙ ap (λ c. levels o.outer ++ (60 ∷ (o.name ++
          ((spell_attributes o.attributes ++ (g ++ (a ++ (lg ++ (61 ∷ (rg ++ (q ∷ (spell_pieces ps ++ c ∷ [])))))))) ++ [])))) (sym e)
          ∙ simp (append_assoc, append-nil),
    )

-- behind the name of an attribute
name_advance : (o : Opening) (g a lg : List ℕ) (b : ℕ) → IsOpening o → IsWideGap g → IsAttributeName a → is_among a (names_of o.attributes) ≡ false → IsGap lg
    → Reached (in_tag o (g ++ (a ++ (lg ++ b ∷ [])))) (at_name (with_seen (tag o) a) b)
name_advance o g a lg b h hg ha n hl =
    let w : List ℕ = in_tag o (g ++ (a ++ (lg ++ b ∷ []))) in
    if_case (Reached w) (is_space b) _ _
    (λ e. (p_named o g a (lg ++ b ∷ []), (h, hg, ha, n, each_push is_space lg b hl e), refl, refl))
    (λ _. if_case (Reached w) (b == 61) _ _
    (λ e. (p_equals o g a lg [], (h, hg, ha, n, hl, tt), refl, ap (λ c. in_tag o (g ++ (a ++ (lg ++ c ∷ [])))) (sym (eqb-true b 61 e))))
    (λ _. tt))

-- a byte that stands for itself is a character
plain_char : (p : ℕ → Bool) (b : ℕ) → is_plain p b ≡ true → IsPiece p (plain b) × (encode_utf8 b ≡ b ∷ [])
plain_char p b e =
    let lt : b < 128 = lt_of_test b 128 (and_left _ _ e) in
    ((low_scalar b (omega arith), and_right (nat_lt b 128) (p b) e), encode_ascii b lt)

-- one byte more
pub advance : (p : Partial) (b : ℕ) → Sound p → Reached (written p ++ b ∷ []) (step (seen p) b)
advance (p_text l ls) b h =
    let w : List ℕ = (levels ls ++ opened l) ++ b ∷ [] in
    if_case (Reached w) (is_plain in_text b) _ _
    (λ e. let m = plain_char in_text b e in (
      p_text (with_items l (sign (plain b) none)) ls,
      (level_push (length ls) l (sign (plain b) none) h.0 (m.0, tt), h.1),
      refl,
      ap (λ x. levels ls ++ x) (opened_push l (sign (plain b) none) ∙ ap (λ y. opened l ++ (y ++ [])) m.1) ∙ sym (append_assoc (levels ls) (opened l) (b ∷ [])),
    ))
    (λ d. if_case (Reached w) (b == 60) _ _
    (λ e. (p_less (l ∷ ls), h, refl, ap (λ c. (levels ls ++ opened l) ++ c ∷ []) (sym (eqb-true b 60 e))))
    (λ f. special_advance (p_text l ls) b h tt))
advance (p_less ls) b h =
    let w : List ℕ = (levels ls ++ 60 ∷ []) ++ b ∷ [] in
    if_case (Reached w) (is_lower b) _ _
    (λ e. if_case (Reached w) (nat_lt (length (names ls)) 200) _ _
    (λ d. (p_naming ls (b ∷ []), (omega (arith, lt_of_test _ _ d, length_names ls), (e, tt), h), refl, sym (append_assoc (levels ls) (60 ∷ []) (b ∷ []))))
    (λ _. tt))
    (λ _. if_case (Reached w) (b == 47) _ _ (λ e. end_slash ls b h (eqb-true b 47 e)) (λ _. tt))
advance (p_naming ls n) b h =
    let w : List ℕ = (levels ls ++ (60 ∷ n)) ++ b ∷ [] in
    let same : levels ls ++ (60 ∷ (n ++ b ∷ [])) ≡ w = sym (append_assoc (levels ls) (60 ∷ n) (b ∷ [])) in
    if_case (Reached w) (is_name_byte b) _ _
    (λ e. (p_naming ls (n ++ b ∷ []), (h.0, name_push n b h.1 e, h.2), refl, same))
    (λ _. along _ w _ same (open_advance (record { outer = ls; name = n; attributes = [] }) [] b (h.0, h.1, tt, h.2) tt))
advance (p_gap o g) b h =
    let w : List ℕ = in_tag o g ++ b ∷ [] in
    let same : in_tag o (g ++ b ∷ []) ≡ w = simp append_assoc in
    if_case (Reached w) (is_attribute_byte b) _ _
    (λ e. (p_attribute o g (b ∷ []), (h.0, h.1, (e, tt)), refl, same))
    (λ _. along _ w _ same (open_advance o g b h.0 (wide_gap g h.1)))
advance (p_attribute o g a) b h =
    let w : List ℕ = in_tag o (g ++ a) ++ b ∷ [] in
    let same : in_tag o (g ++ (a ++ ([] ++ b ∷ []))) ≡ w = simp append_assoc in
    if_case (Reached w) (is_attribute_byte b) _ _
    (λ e. (p_attribute o g (a ++ b ∷ []), (h.0, h.1, attribute_name_push a b h.2 e), refl, simp append_assoc))
    (λ _. if_case (Reached w) (is_among a (names_of o.attributes)) _ _ (λ _. tt)
    (λ f. along _ w _ same (name_advance o g a [] b h.0 h.1 h.2 f tt)))
advance (p_named o g a lg) b h =
    let w : List ℕ = in_tag o (g ++ (a ++ lg)) ++ b ∷ [] in
    let same : in_tag o (g ++ (a ++ (lg ++ b ∷ []))) ≡ w = simp append_assoc in
    along _ w _ same (name_advance o g a lg b h.0 h.1 h.2 h.3 h.4)
advance (p_equals o g a lg rg) b h =
    let w : List ℕ = in_tag o (g ++ (a ++ (lg ++ (61 ∷ rg)))) ++ b ∷ [] in
    if_case (Reached w) (is_quote b) _ _
    (λ e. (p_value o g a lg rg b [], (h.0, h.1, h.2, h.3, tt, e, h.4, h.5), refl, simp append_assoc))
    (λ _. if_case (Reached w) (is_space b) _ _
    (λ e. (p_equals o g a lg (rg ++ b ∷ []), (h.0, h.1, h.2, h.3, h.4, each_push is_space rg b h.5 e), refl, simp append_assoc))
    (λ _. tt))
advance (p_value o g a lg rg q ps) b h =
    let w : List ℕ = in_tag o (g ++ (a ++ (lg ++ (61 ∷ (rg ++ (q ∷ spell_pieces ps)))))) ++ b ∷ [] in
    if_case (Reached w) (is_plain (in_value q) b) _ _
    (λ e. let m = plain_char (in_value q) b e in (
      p_value o g a lg rg q (ps ++ plain b ∷ []),
      (h.0, h.1, h.2, h.3, are_pieces_push (in_value q) ps (plain b) h.4 m.0, h.5, h.6, h.7),
      refl,
      ap (λ s. in_tag o (g ++ (a ++ (lg ++ (61 ∷ (rg ++ (q ∷ s))))))) (pieces_push ps (plain b) ∙ ap (λ y. spell_pieces ps ++ y) m.1) ∙ simp append_assoc,
    ))
    (λ d. if_case (Reached w) (b == q) _ _
    (λ e. value_ends o g a lg rg q ps b h (eqb-true b q e))
    (λ f. special_advance (p_value o g a lg rg q ps) b h tt))
advance (p_slashed o g) b h =
    let w : List ℕ = in_tag o (g ++ 47 ∷ []) ++ b ∷ [] in
    if_case (Reached w) (b == 62) _ _
    (λ e. let same : in_tag o (g ++ (47 ∷ b ∷ [])) ≡ w = simp append_assoc in
    along _ w (Ok (inside (names o.outer))) (ap (λ c. in_tag o (g ++ (47 ∷ c ∷ []))) (sym (eqb-true b 62 e)) ∙ same)
    (settle (void o.name o.attributes g slash) o.outer (h.0.0, h.0.1, h.0.2, h.1, h.2) h.0.3))
    (λ _. tt)
advance (p_valued o) b h =
    let same : in_tag o (b ∷ []) ≡ in_tag o [] ++ b ∷ [] = simp (append_assoc, append-nil) in
    along _ _ _ same (open_advance o [] b h tt)
advance (p_closing l ls got (c ∷ cs)) b h =
    let w : List ℕ = in_end l ls got ++ b ∷ [] in
    if_case (Reached w) (b == c) _ _
    (λ e. (
      p_closing l ls (got ++ b ∷ []) cs,
      (h.0, h.1, append_assoc got (b ∷ []) cs ∙ ap (λ d. got ++ d ∷ cs) (eqb-true b c e) ∙ h.2),
      refl,
      simp append_assoc,
    ))
    (λ _. tt)
advance (p_closing l ls got []) b h =
    let same : in_end l ls (l.name ++ b ∷ []) ≡ in_end l ls got ++ b ∷ [] =
    ap (λ x. in_end l ls (x ++ b ∷ [])) (sym h.2 ∙ append-nil got) ∙ simp append_assoc in
    if_case (Reached (in_end l ls got ++ b ∷ [])) (is_name_byte b) _ _ (λ _. tt) (λ _. along _ _ _ same (end_advance l ls [] b h.0 h.1 tt))
advance (p_closed l ls g) b h =
    let same : in_end l ls (l.name ++ (g ++ b ∷ [])) ≡ in_end l ls (l.name ++ g) ++ b ∷ [] = simp append_assoc in
    along _ _ _ same (end_advance l ls g b h.0 h.1 h.2)
advance (p_done e g) b h =
    if_case (Reached ((spell e ++ g) ++ b ∷ [])) (is_space b) _ _
    (λ t. (p_done e (g ++ b ∷ []), (h.0, each_push is_space g b h.1 t), refl, sym (append_assoc (spell e) g (b ∷ []))))
    (λ _. tt)
advance (p_escaping p e) b h = escape_advance p e b h.0 h.1 h.2
