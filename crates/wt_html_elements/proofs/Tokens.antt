-- The bytes of a token come outside at its end and not before.
use Rattle.std.proofs.Common.{◌≡◌, ℕ, zero, suc, ◌<◌, ◌≤◌, Bool, true, false, Option, Some, None, List, [], ◌∷◌, ◌++◌, length, map, refl, sym, ap, ◌∙◌, subst, nat_lt, append_assoc, arith, codes, inl, inr, ⊎_elim, lit<, lit≤}
use Rattle.std.specs.Prelude.{◌==◌, ◌&&◌, ◌⊎◌, not, encode_utf8}
use Rattle.std.specs.Char.{to_ascii_lowercase}
use Rattle.std.proofs.lemmas.Bool.{eqb-true}
use Rattle.std.proofs.lemmas.Bool.Decides.{nat_tests}
use Rattle.std.proofs.lemmas.Str.{encode_ascii}
use lib.Utf8.{scalar}
use Rattle.wt_html_grammar.specs.declared.names.EscapeName.{EscapeName}
use Rattle.wt_html_grammar.specs.declared.names.EscapeName.TheVariants.{Amp, Lt, Gt, Quot, Apos, Nbsp}
use Rattle.wt_html_grammar.specs.declared.names.Radix.{Radix}
use Rattle.wt_html_grammar.specs.declared.names.Radix.TheVariants.{Decimal, Hexadecimal}
use Rattle.wt_html_grammar.specs.Signs.{is_quote, is_lower, is_name_byte, is_attribute_byte, is_space, is_digit_of, in_text, in_value, between, Follow, follow, IsFollow, Follows, letters_of, sign_of, Each, IsName, IsAttributeName, IsGap, IsWideGap}
use Rattle.wt_html_grammar.specs.Grammar.{Piece, plain, named, number, spell_piece, IsPiece, spell_pieces, ArePieces, Attribute, spell_attribute, IsAttribute, spell_attributes, AreAttributes, bare, slash, doctype as doctype_word}
use Rattle.wt_html_grammar.proofs.Steps.{if_true, if_false, if_case}
use Rattle.wt_html_grammar.proofs.Chars.{of_char, InTable}
use Rattle.wt_html_grammar.proofs.Reading.{high_follow, high_le, low_lt, first_eq, others_eq, small_less}
use Rattle.wt_html_elements.specs.Kept.{Token, start_tag, end_tag, declaration, sign, spell_token, IsToken}
use Rattle.wt_html_elements.proofs.Scan.{Scan, outside, in_tag, in_value as inside_value, in_escape, in_wide, wide_of, scan, IsIn, Closes, Leads, IsOne, leads_then, closes_then}

-- bytes in a tag that are none of its marks
tag_byte : (b : ℕ) → (b == 62) ≡ false → (b == 34) ≡ false → (b == 39) ≡ false → scan in_tag b ≡ in_tag
tag_byte b e f g = if_false (b == 62) _ _ e ∙ if_false (b == 34) _ _ f ∙ if_false (b == 39) _ _ g

name_not : (b c : ℕ) → is_name_byte b ≡ true → c < 48 → (b == c) ≡ false
name_not b c e l = grind (arith, nat_tests)

name_not_end : (b : ℕ) → is_name_byte b ≡ true → (b == 62) ≡ false
name_not_end b e = grind (arith, nat_tests)

name_byte : (b : ℕ) → is_name_byte b ≡ true → scan in_tag b ≡ in_tag
name_byte b e = tag_byte b (name_not_end b e) (name_not b 34 e (lit< tt)) (name_not b 39 e (lit< tt))

key_not : (b c : ℕ) → is_attribute_byte b ≡ true → c < 45 → (b == c) ≡ false
key_not b c e l = grind (arith, nat_tests)

key_not_end : (b : ℕ) → is_attribute_byte b ≡ true → (b == 62) ≡ false
key_not_end b e = grind (arith, nat_tests)

key_byte : (b : ℕ) → is_attribute_byte b ≡ true → scan in_tag b ≡ in_tag
key_byte b e = tag_byte b (key_not_end b e) (key_not b 34 e (lit< tt)) (key_not b 39 e (lit< tt))

space_not : (b c : ℕ) → is_space b ≡ true → 32 < c → (b == c) ≡ false
space_not b c e l = grind (arith, nat_tests)

space_byte : (b : ℕ) → is_space b ≡ true → scan in_tag b ≡ in_tag
space_byte b e = tag_byte b (space_not b 62 e (lit< tt)) (space_not b 34 e (lit< tt)) (space_not b 39 e (lit< tt))

-- several of one class
pub each_leads : (m : Scan) (p : ℕ → Bool) → IsIn m → ((b : ℕ) → p b ≡ true → scan m b ≡ m) → (bs : List ℕ) → Each p bs → Leads m bs m
each_leads m p i f [] h = (refl, i)
each_leads m p i f (b ∷ bs) h = (i, let P : Scan → Type 0 = λ n. Leads n bs m in subst P (sym (f b h.0)) (each_leads m p i f bs h.1))

pub names_lead : (bs : List ℕ) → Each is_name_byte bs → Leads in_tag bs in_tag
names_lead bs h = each_leads in_tag is_name_byte tt name_byte bs h

lower_name : (b : ℕ) → is_lower b ≡ true → is_name_byte b ≡ true
lower_name b e = grind (arith, nat_tests)

pub name_each : (n : List ℕ) → IsName n → Each is_name_byte n
name_each [] h = absurd h
name_each (c ∷ cs) h = (lower_name c h.0, h.1)

pub keys_lead : (bs : List ℕ) → Each is_attribute_byte bs → Leads in_tag bs in_tag
keys_lead bs h = each_leads in_tag is_attribute_byte tt key_byte bs h

pub key_each : (n : List ℕ) → IsAttributeName n → Each is_attribute_byte n
key_each [] h = absurd h
key_each (c ∷ cs) h = h

pub gap_leads : (bs : List ℕ) → IsGap bs → Leads in_tag bs in_tag
gap_leads bs h = each_leads in_tag is_space tt space_byte bs h

pub wide_each : (g : List ℕ) → IsWideGap g → IsGap g
wide_each [] h = absurd h
wide_each (c ∷ cs) h = h

-- bytes in a value that aren't its quote
abbrev pub Others : ℕ → List ℕ → Type 0
Others q bs = Each (λ b. not (b == q)) bs

value_byte : (q b : ℕ) → not (b == q) ≡ true → scan (inside_value q) b ≡ inside_value q
value_byte q b e = if_false (b == q) _ _ (was (b == q) e)
  where
    was : (t : Bool) → not t ≡ true → t ≡ false
    was true e = cc
    was false e = refl

pub others_lead : (q : ℕ) (bs : List ℕ) → Others q bs → Leads (inside_value q) bs (inside_value q)
others_lead q bs h = each_leads (inside_value q) (λ b. not (b == q)) tt (value_byte q) bs h

pub each_join : (p : ℕ → Bool) (xs ys : List ℕ) → Each p xs → Each p ys → Each p (xs ++ ys)
each_join p [] ys h g = g
each_join p (x ∷ xs) ys h g = (h.0, each_join p xs ys h.1 g)

each_more : (p r : ℕ → Bool) → ((b : ℕ) → p b ≡ true → r b ≡ true) → (bs : List ℕ) → Each p bs → Each r bs
each_more p r f [] h = tt
each_more p r f (b ∷ bs) h = (f b h.0, each_more p r f bs h.1)

low_of : (low high b : ℕ) → 128 ≤ low → between low high b ≡ true → not (nat_lt b 128) ≡ true
low_of low high b l e = grind (arith, nat_tests)

follow_high : (low high n : ℕ) (bs : List ℕ) → 128 ≤ low → IsFollow low high n bs → Each (λ b. not (nat_lt b 128)) bs
follow_high low high n [] l h = absurd h
follow_high low high zero (b ∷ bs) l h = (low_of low high b l h.0, let P : List ℕ → Type 0 = Each (λ b. not (nat_lt b 128)) in subst P (sym h.1) tt)
follow_high low high (suc n) (b ∷ bs) l h = (low_of low high b l h.0, follow_high 128 191 n bs (lit≤ tt) h.1)

abbrev pub LowOf : Option Follow → Type 0
LowOf None = Unit {0}
LowOf (Some f) = 128 ≤ f.low

pub follow_low : (b : ℕ) → LowOf (follow b)
follow_low b =
    if_case LowOf (between 194 223 b) _ _ (λ _. lit≤ tt) (λ _.
    if_case LowOf (b == 224) _ _ (λ _. lit≤ tt) (λ _.
    if_case LowOf (b == 237) _ _ (λ _. lit≤ tt) (λ _.
    if_case LowOf (between 225 239 b) _ _ (λ _. lit≤ tt) (λ _.
    if_case LowOf (b == 240) _ _ (λ _. lit≤ tt) (λ _.
    if_case LowOf (between 241 243 b) _ _ (λ _. lit≤ tt) (λ _.
    if_case LowOf (b == 244) _ _ (λ _. lit≤ tt) (λ _. tt)))))))

pub follows_high : (o : Option Follow) (bs : List ℕ) → LowOf o → Follows o bs → Each (λ b. not (nat_lt b 128)) bs
follows_high None bs l h = absurd h
follows_high (Some f) bs l h = follow_high f.low f.high f.more bs l h

high_other : (b q : ℕ) → q < 128 → not (nat_lt b 128) ≡ true → not (b == q) ≡ true
high_other b q l e = grind (arith, nat_tests)

quote_low : (q : ℕ) → is_quote q ≡ true → q < 128
quote_low q e = grind (arith, nat_tests)

not_low : (b : ℕ) → nat_lt b 128 ≡ false → not (nat_lt b 128) ≡ true
not_low b e = ap not e

-- a character that isn't the quote
char_others : (q c : ℕ) → q < 128 → scalar c ≡ true → in_value q c ≡ true → (t : Bool) → nat_lt c 128 ≡ t → Others q (encode_utf8 c)
char_others q c l s v true e = let P : List ℕ → Type 0 = Others q in subst P (sym (encode_ascii c (low_lt c e))) (left (not (c == q)) (not (c == 38)) v, tt)
  where
    left : (a b : Bool) → (a && b) ≡ true → a ≡ true
    left true b e = refl
    left false b e = cc
char_others q c l s v false e =
    let r : InTable c = of_char c s (high_le c e) in
    let f : nat_lt r.0 128 ≡ false = high_follow r.0 r.1 (nat_lt r.0 128) refl r.3 in
    let P : List ℕ → Type 0 = Others q in
    subst P (sym r.2) (
      high_other r.0 q l (not_low r.0 f),
      each_more (λ b. not (nat_lt b 128)) (λ b. not (b == q)) (λ b h. high_other b q l h) r.1 (follows_high (follow r.0) r.1 (follow_low r.0) r.3),
    )

quote_cases : (q : ℕ) → is_quote q ≡ true → (q ≡ 34) ⊎ (q ≡ 39)
quote_cases q e = by (q == 34) (q == 39) refl refl e
  where
    by : (s t : Bool) → (q == 34) ≡ s → (q == 39) ≡ t → is_quote q ≡ true → (q ≡ 34) ⊎ (q ≡ 39)
    by true t f g e = inl (eqb-true q 34 f)
    by false true f g e = inr (eqb-true q 39 g)
    by false false f g e = absurd (grind (arith, nat_tests))

named_34 : (n : EscapeName) → Others 34 (38 ∷ (letters_of n ++ 59 ∷ []))
named_34 Amp = (refl, (refl, (refl, (refl, (refl, tt)))))
named_34 Lt = (refl, (refl, (refl, (refl, tt))))
named_34 Gt = (refl, (refl, (refl, (refl, tt))))
named_34 Quot = (refl, (refl, (refl, (refl, (refl, (refl, tt))))))
named_34 Apos = (refl, (refl, (refl, (refl, (refl, (refl, tt))))))
named_34 Nbsp = (refl, (refl, (refl, (refl, (refl, (refl, tt))))))

named_39 : (n : EscapeName) → Others 39 (38 ∷ (letters_of n ++ 59 ∷ []))
named_39 Amp = (refl, (refl, (refl, (refl, (refl, tt)))))
named_39 Lt = (refl, (refl, (refl, (refl, tt))))
named_39 Gt = (refl, (refl, (refl, (refl, tt))))
named_39 Quot = (refl, (refl, (refl, (refl, (refl, (refl, tt))))))
named_39 Apos = (refl, (refl, (refl, (refl, (refl, (refl, tt))))))
named_39 Nbsp = (refl, (refl, (refl, (refl, (refl, (refl, tt))))))

digit_other : (r : Radix) (q b : ℕ) → q < 48 → is_digit_of r b ≡ true → not (b == q) ≡ true
digit_other Decimal q b l e = grind (arith, nat_tests)
digit_other Hexadecimal q b l e = grind (arith, nat_tests)

sign_34 : (r : Radix) → Others 34 (sign_of r)
sign_34 Decimal = tt
sign_34 Hexadecimal = (refl, tt)

sign_39 : (r : Radix) → Others 39 (sign_of r)
sign_39 Decimal = tt
sign_39 Hexadecimal = (refl, tt)

pub digits_others : (q : ℕ) (r : Radix) (ds : List ℕ) → is_quote q ≡ true → Each (is_digit_of r) ds → Others q (38 ∷ 35 ∷ (sign_of r ++ ds))
digits_others q r ds e h =
    let P : ℕ → Type 0 = λ k. Others k (38 ∷ 35 ∷ (sign_of r ++ ds)) in
    let ds_34 = each_more (is_digit_of r) (λ b. not (b == 34)) (λ b. digit_other r 34 b (lit< tt)) ds h in
    let ds_39 = each_more (is_digit_of r) (λ b. not (b == 39)) (λ b. digit_other r 39 b (lit< tt)) ds h in
    ⊎_elim (λ (is : q ≡ 34). subst P (sym is) (refl, (refl, each_join (λ b. not (b == 34)) (sign_of r) ds (sign_34 r) ds_34)))
    (λ (is : q ≡ 39). subst P (sym is) (refl, (refl, each_join (λ b. not (b == 39)) (sign_of r) ds (sign_39 r) ds_39))) (quote_cases q e)

end_other : (q : ℕ) → is_quote q ≡ true → not (59 == q) ≡ true
end_other q e = grind (arith, nat_tests)

piece_others : (q : ℕ) (p : Piece) → is_quote q ≡ true → IsPiece (in_value q) p → Others q (spell_piece p)
piece_others q (plain c) e h = char_others q c (quote_low q e) h.0 h.1 (nat_lt c 128) refl
piece_others q (named n) e h =
    let P : ℕ → Type 0 = λ k. Others k (38 ∷ (letters_of n ++ 59 ∷ [])) in
    ⊎_elim (λ (is : q ≡ 34). subst P (sym is) (named_34 n)) (λ (is : q ≡ 39). subst P (sym is) (named_39 n)) (quote_cases q e)
piece_others q (number r ds) e h =
    let d = digits_others q r ds e h.2 in
    let same : (38 ∷ 35 ∷ (sign_of r ++ ds)) ++ 59 ∷ [] ≡ 38 ∷ 35 ∷ (sign_of r ++ (ds ++ 59 ∷ [])) = simp append_assoc in
    let P : List ℕ → Type 0 = Others q in
    subst P same (each_join (λ b. not (b == q)) (38 ∷ 35 ∷ (sign_of r ++ ds)) (59 ∷ []) d (end_other q e, tt))

pub pieces_others : (q : ℕ) (ps : List Piece) → is_quote q ≡ true → ArePieces (in_value q) ps → Others q (spell_pieces ps)
pieces_others q [] e h = tt
pieces_others q (p ∷ ps) e h = each_join (λ b. not (b == q)) (spell_piece p) (spell_pieces ps) (piece_others q p e h.0) (pieces_others q ps e h.1)

-- an attribute up to its value, and whole
pub quoted : (q : ℕ) → is_quote q ≡ true → scan in_tag q ≡ inside_value q
quoted q e =
    let P : ℕ → Type 0 = λ k. scan in_tag k ≡ inside_value k in
    ⊎_elim (λ (is : q ≡ 34). subst P (sym is) refl) (λ (is : q ≡ 39). subst P (sym is) refl) (quote_cases q e)

pub value_leads : (q : ℕ) (ps : List Piece) → is_quote q ≡ true → ArePieces (in_value q) ps → Leads in_tag (q ∷ spell_pieces ps) (inside_value q)
value_leads q ps e h = (
  tt,
  let P : Scan → Type 0 = λ m. Leads m (spell_pieces ps) (inside_value q) in subst P (sym (quoted q e))
      (others_lead q (spell_pieces ps) (pieces_others q ps e h)),
)

pub equals_leads : (bs : List ℕ) (m : Scan) → Leads in_tag bs m → Leads in_tag (61 ∷ bs) m
equals_leads bs m h = (tt, h)

quote_ends : (q : ℕ) → Leads (inside_value q) (q ∷ []) in_tag
quote_ends q = (tt, let P : Scan → Type 0 = λ m. Leads m [] in_tag in subst P (sym (if_true (q == q) _ _ (same q))) (refl, tt))
  where
    same : (q : ℕ) → (q == q) ≡ true
    same q = grind (arith, nat_tests)

attribute_leads : (a : Attribute) → IsAttribute a → Leads in_tag (spell_attribute a) in_tag
attribute_leads a h =
    leads_then in_tag a.gap in_tag _ in_tag (gap_leads a.gap (wide_each a.gap h.0))
    (leads_then in_tag a.name in_tag _ in_tag (keys_lead a.name (key_each a.name h.1))
    (leads_then in_tag a.left in_tag _ in_tag (gap_leads a.left h.4)
    (equals_leads _ in_tag
    (leads_then in_tag a.right in_tag _ in_tag (gap_leads a.right h.5)
    (leads_then in_tag (a.quote ∷ spell_pieces a.value) (inside_value a.quote) (a.quote ∷ []) in_tag (value_leads a.quote a.value h.3 h.2)
    (quote_ends a.quote))))))

pub attributes_lead : (before : List (List ℕ)) (xs : List Attribute) → AreAttributes before xs → Leads in_tag (spell_attributes xs) in_tag
attributes_lead before [] h = (refl, tt)
attributes_lead before (a ∷ others) h =
    leads_then in_tag (spell_attribute a) in_tag (spell_attributes others) in_tag (attribute_leads a h.0) (attributes_lead (before ++ a.name ∷ []) others h.2)

-- a start tag without its end
pub begun_tag : (name : List ℕ) (before : List (List ℕ)) (xs : List Attribute) (more : List ℕ) (m : Scan) → IsName name → AreAttributes before xs
    → Leads in_tag more m → Leads in_tag (name ++ (spell_attributes xs ++ more)) m
begun_tag name before xs more m n h g =
    leads_then in_tag name in_tag _ m (names_lead name (name_each name n))
    (leads_then in_tag (spell_attributes xs) in_tag more m (attributes_lead before xs h) g)

closes_tag : (bs : List ℕ) → Leads in_tag bs in_tag → Closes in_tag (bs ++ 62 ∷ [])
closes_tag bs h = closes_then in_tag bs in_tag (62 ∷ []) h refl

-- escapes
letters_close : (n : EscapeName) → Closes in_escape (letters_of n ++ 59 ∷ [])
letters_close Amp = refl
letters_close Lt = refl
letters_close Gt = refl
letters_close Quot = refl
letters_close Apos = refl
letters_close Nbsp = refl

escape_byte : (r : Radix) (b : ℕ) → is_digit_of r b ≡ true → scan in_escape b ≡ in_escape
escape_byte r b e = if_false (b == 59) _ _ (not_end r b e)
  where
    not_end : (r : Radix) (b : ℕ) → is_digit_of r b ≡ true → (b == 59) ≡ false
    not_end Decimal b e = grind (arith, nat_tests)
    not_end Hexadecimal b e = grind (arith, nat_tests)

sign_leads : (r : Radix) → Leads in_escape (sign_of r) in_escape
sign_leads Decimal = (refl, tt)
sign_leads Hexadecimal = (tt, (refl, tt))

pub number_leads : (r : Radix) (ds : List ℕ) → Each (is_digit_of r) ds → Leads in_escape (35 ∷ (sign_of r ++ ds)) in_escape
number_leads r ds h =
    (tt, leads_then in_escape (sign_of r) in_escape ds in_escape (sign_leads r) (each_leads in_escape (is_digit_of r) tt (escape_byte r) ds h))

number_closes : (r : Radix) (ds : List ℕ) → Each (is_digit_of r) ds → Closes in_escape (35 ∷ (sign_of r ++ (ds ++ 59 ∷ [])))
number_closes r ds h =
    let same : (35 ∷ (sign_of r ++ ds)) ++ 59 ∷ [] ≡ 35 ∷ (sign_of r ++ (ds ++ 59 ∷ [])) = simp append_assoc in
    let P : List ℕ → Type 0 = Closes in_escape in
    subst P same (closes_then in_escape (35 ∷ (sign_of r ++ ds)) in_escape (59 ∷ []) (number_leads r ds h) refl)

-- characters
follow_closes : (low high n : ℕ) (bs : List ℕ) → IsFollow low high n bs → Closes (in_wide n) bs
follow_closes low high n [] h = absurd h
follow_closes low high zero (b ∷ bs) h = h.1
follow_closes low high (suc n) (b ∷ bs) h = follow_closes 128 191 n bs h.1

follows_close : (o : Option Follow) (bs : List ℕ) → Follows o bs → Closes (wide_of o) bs
follows_close None bs h = absurd h
follows_close (Some f) bs h = follow_closes f.low f.high f.more bs h

high_not : (b q : ℕ) → q < 128 → nat_lt b 128 ≡ false → (b == q) ≡ false
high_not b q h e = grind (arith, nat_tests)

pub scan_high : (b : ℕ) → nat_lt b 128 ≡ false → scan outside b ≡ wide_of (follow b)
scan_high b e = if_false (b == 60) _ _ (high_not b 60 (lit< tt) e) ∙ if_false (b == 38) _ _ (high_not b 38 (lit< tt) e) ∙ if_false (nat_lt b 128) _ _ e

scan_low : (c : ℕ) → nat_lt c 128 ≡ true → in_text c ≡ true → scan outside c ≡ outside
scan_low c e h = if_false (c == 60) _ _ (not_less c h) ∙ if_false (c == 38) _ _ (not_and c h) ∙ if_true (nat_lt c 128) _ _ e
  where
    not_less : (c : ℕ) → in_text c ≡ true → (c == 60) ≡ false
    not_less c h = grind (arith, nat_tests)

    not_and : (c : ℕ) → in_text c ≡ true → (c == 38) ≡ false
    not_and c h = grind (arith, nat_tests)

char_one : (c : ℕ) → scalar c ≡ true → in_text c ≡ true → (t : Bool) → nat_lt c 128 ≡ t → IsOne (encode_utf8 c)
char_one c s h true e =
    let P : List ℕ → Type 0 = IsOne in
    let Q : Scan → Type 0 = λ m. Closes m [] in
    subst P (sym (encode_ascii c (low_lt c e))) (subst Q (sym (scan_low c e h)) refl)
char_one c s h false e =
    let r : InTable c = of_char c s (high_le c e) in
    let f : nat_lt r.0 128 ≡ false = high_follow r.0 r.1 (nat_lt r.0 128) refl r.3 in
    let P : List ℕ → Type 0 = IsOne in
    let Q : Scan → Type 0 = λ m. Closes m r.1 in
    subst P (sym r.2) (subst Q (sym (scan_high r.0 f)) (follows_close (follow r.0) r.1 r.3))

piece_one : (p : Piece) → IsPiece in_text p → IsOne (spell_piece p)
piece_one (plain c) h = char_one c h.0 h.1 (nat_lt c 128) refl
piece_one (named n) h = letters_close n
piece_one (number r ds) h = number_closes r ds h.2

-- a doctype

lower_not : (b c m : ℕ) → to_ascii_lowercase b ≡ c → to_ascii_lowercase m ≡ m → (c == m) ≡ false → (b == m) ≡ false
lower_not b c m e f g = by (b == m) refl
  where
    eq_test : (x y : ℕ) → x ≡ y → (x == y) ≡ true
    eq_test x y e = grind (arith, nat_tests)

    by : (t : Bool) → (b == m) ≡ t → (b == m) ≡ false
    by true h =
        let is : b ≡ m = eqb-true b m h in
        let other : true ≡ false = sym (eq_test c m (sym e ∙ ap to_ascii_lowercase is ∙ f)) ∙ g in
        absurd cc
    by false h = h

small_end : (b : ℕ) → to_ascii_lowercase b ≡ 62 → b ≡ 62
small_end b e = grind (arith, nat_tests)

no_more : (bs : List ℕ) → map to_ascii_lowercase bs ≡ [] → bs ≡ []
no_more [] e = refl
no_more (b ∷ bs) e = absurd cc

abbrev pub AreMiddle : List ℕ → Type 0
AreMiddle [] = Unit {0}
AreMiddle (c ∷ cs) = ((c == 62) ≡ false) × ((c == 34) ≡ false) × ((c == 39) ≡ false) × AreMiddle cs

word_byte : (b c : ℕ) → to_ascii_lowercase b ≡ c → (c == 62) ≡ false → (c == 34) ≡ false → (c == 39) ≡ false → scan in_tag b ≡ in_tag
word_byte b c e f g h = tag_byte b (lower_not b c 62 e refl f) (lower_not b c 34 e refl g) (lower_not b c 39 e refl h)

word_closes : (bs cs : List ℕ) → map to_ascii_lowercase bs ≡ cs ++ 62 ∷ [] → AreMiddle cs → Closes in_tag bs
word_closes [] [] e h = absurd cc
word_closes [] (c ∷ cs) e h = absurd cc
word_closes (b ∷ bs) [] e h =
    let end : b ≡ 62 = small_end b (first_eq _ _ _ _ e) in
    let rest : bs ≡ [] = no_more bs (others_eq _ _ _ _ e) in
    let P : ℕ → Type 0 = λ k. Closes (scan in_tag k) bs in subst P (sym end) rest
word_closes (b ∷ bs) (c ∷ cs) e h =
    let P : Scan → Type 0 = λ m. Closes m bs in
    subst P (sym (word_byte b c (first_eq _ _ _ _ e) h.0 h.1 h.2)) (word_closes bs cs (others_eq _ _ _ _ e) h.3)

pub middle : AreMiddle (codes "!doctype html")
middle = (
  refl,
  refl,
  refl,
  (
    refl,
    refl,
    refl,
    (
      refl,
      refl,
      refl,
      (
        refl,
        refl,
        refl,
        (
          refl,
          refl,
          refl,
          (
            refl,
            refl,
            refl,
            (
              refl,
              refl,
              refl,
              (
                refl,
                refl,
                refl,
                (refl, refl, refl, (refl, refl, refl, (refl, refl, refl, (refl, refl, refl, (refl, refl, refl, tt))))),
              ),
            ),
          ),
        ),
      ),
    ),
  ),
)

word_one : (word : List ℕ) → map to_ascii_lowercase word ≡ doctype_word → IsOne word
word_one [] e = absurd cc
word_one (b ∷ bs) e =
    let first : b ≡ 60 = small_less b (first_eq _ _ _ _ e) in
    let rest : map to_ascii_lowercase bs ≡ codes "!doctype html" ++ 62 ∷ [] = others_eq _ _ _ _ e in
    let P : ℕ → Type 0 = λ k. Closes (scan outside k) bs in
    subst P (sym first) (word_closes bs (codes "!doctype html") rest middle)

-- a doctype in part
pub word_leads : (bs cs left : List ℕ) → map to_ascii_lowercase bs ++ left ≡ cs ++ 62 ∷ [] → AreMiddle cs → 0 < length left → Leads in_tag bs in_tag
word_leads [] cs left e h lt = (refl, tt)
word_leads (b ∷ bs) [] left e h lt = absurd
    (omega (arith, ap length (others_eq _ _ _ _ e), Rattle.std.proofs.Common.length-append (map to_ascii_lowercase bs) left))
word_leads (b ∷ bs) (c ∷ cs) left e h lt =
    let P : Scan → Type 0 = λ m. Leads m bs in_tag in
    (tt, subst P (sym (word_byte b c (first_eq _ _ _ _ e) h.0 h.1 h.2)) (word_leads bs cs left (others_eq _ _ _ _ e) h.3 lt))

pub token_one : (t : Token) → IsToken t → IsOne (spell_token t)
token_one (start_tag name attributes gap bare) h =
    let same : (name ++ (spell_attributes attributes ++ gap)) ++ 62 ∷ [] ≡ name ++ (spell_attributes attributes ++ (gap ++ 62 ∷ [])) = simp append_assoc in
    let P : List ℕ → Type 0 = Closes in_tag in
    subst P same (closes_tag (name ++ (spell_attributes attributes ++ gap)) (begun_tag name [] attributes gap in_tag h.0 h.1 (gap_leads gap h.2)))
token_one (start_tag name attributes gap slash) h =
    let same : (name ++ (spell_attributes attributes ++ (gap ++ 47 ∷ []))) ++ 62 ∷ [] ≡ name ++ (spell_attributes attributes ++ (gap ++ (47 ∷ 62 ∷ [])))
    = simp append_assoc in
    let P : List ℕ → Type 0 = Closes in_tag in
    subst P same (closes_tag (name ++ (spell_attributes attributes ++ (gap ++ 47 ∷ [])))
    (begun_tag name [] attributes (gap ++ 47 ∷ []) in_tag h.0 h.1 (leads_then in_tag gap in_tag (47 ∷ []) in_tag (gap_leads gap h.2) (tt, (refl, tt)))))
token_one (end_tag name gap) h =
    let same : (47 ∷ (name ++ gap)) ++ 62 ∷ [] ≡ 47 ∷ (name ++ (gap ++ 62 ∷ [])) = simp append_assoc in
    let P : List ℕ → Type 0 = Closes in_tag in
    let inner : Leads in_tag (name ++ gap) in_tag = leads_then in_tag name in_tag gap in_tag (names_lead name (name_each name h.0)) (gap_leads gap h.1) in
    subst P same (closes_tag (47 ∷ (name ++ gap)) (tt, inner))
token_one (declaration word) h = word_one word h
token_one (sign p) h = piece_one p h
