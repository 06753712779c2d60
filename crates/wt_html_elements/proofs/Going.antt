-- A byte more: what is held stays what is needed, fits to the state, and grows by one byte at most.
use Rattle.std.proofs.Common.{◌≡◌, ℕ, zero, suc, ◌+◌, ◌*◌, ◌<◌, ◌≤◌, Bool, true, false, Option, Some, None, Result, Ok, Err, List, [], ◌∷◌, ◌++◌, length, map, refl, sym, ap, ◌∙◌, subst, nat_lt, length-append, arith}
use Rattle.std.specs.Prelude.{◌==◌, ◌&&◌, ◌||◌, not, encode_utf8, if◌then◌else◌}
use Rattle.std.specs.Char.{to_ascii_lowercase}
use Rattle.std.proofs.lemmas.Bool.Decides.{nat_tests}
use Rattle.std.proofs.lemmas.Str.{length-encode, len_utf8_bounds}
use Rattle.wt_html_grammar.specs.declared.why.HtmlWhy.{HtmlWhy}
use Rattle.wt_html_grammar.specs.declared.why.HtmlWhy.TheVariants.{NotUtf8}
use Rattle.wt_html_grammar.specs.declared.event.Event.{Event}
use Rattle.wt_html_grammar.specs.declared.event.Event.TheVariants as ev
use Rattle.wt_html_grammar.specs.declared.names.EscapeName.{EscapeName}
use Rattle.wt_html_grammar.specs.declared.names.EscapeName.TheVariants.{Amp, Lt, Gt, Quot, Apos, Nbsp}
use Rattle.wt_html_grammar.specs.declared.names.Radix.{Radix}
use Rattle.wt_html_grammar.specs.declared.names.Radix.TheVariants.{Decimal, Hexadecimal}
use Rattle.wt_html_grammar.specs.Signs.{Follow, follow, is_among, is_space, is_void, is_lower, is_name_byte, is_attribute_byte, is_quote, is_digit_of, digit_value, base_of, between, letters_of, in_text, in_value, begins_character}
use Rattle.wt_html_grammar.specs.Machine.{State, start, first, doctype, inside, less, naming, gap, attribute, named_so, equals, value, valued, slashed, closing, closed, escaping, Escape, ampersand, apart, letters, sharp, digits, wide, EscapeStep, stop, on, ended, Tag, is_plain, is_begun, is_whole, begins, turned, in_escape, in_digits, end_tag, opened, at_end, at_open, at_name, with_seen, in_doctype, mended, step}
use Rattle.wt_html_grammar.specs.Markup.{Pair, Markup, Markups, node, empty}
use Rattle.wt_html_grammar.specs.Events.{Frame, Building, calm, close, closed_into, tree_of, put, out, out_open, out_end, out_escape, unit_if, decoded}
use Rattle.wt_html_grammar.proofs.Steps.{if_true, if_false, if_case}
use Rattle.wt_html_elements.specs.Reads.{held_behind}
use Rattle.wt_html_elements.specs.Held.{pairs_len, tag_len, moved, outside_tag, between_attributes, before_value, needed, escape_len, spent, is_new, is_some_open, fits}

-- what holds of a state, of what is held and of what was built, where so many bytes are held undecoded
pub record Holds (s : State) (x y : Building) (k : ℕ) : Type 0 where
  pub same : x ≡ needed s y
  pub fit : fits s x ≡ true
  pub few : tag_len x + spent s ≤ held_behind s k

-- where a byte is taken that tells this
abbrev pub Goes : Building → ℕ → Result State HtmlWhy → Event → Building → Type 0
Goes y k (Ok s) e x = Holds s (moved x e) (put y e) k
Goes y k (Err w) e x = Unit {0}

-- two choices by one test
if_both : {A B : Type 0} (P : A → B → Type 0) (t : Bool) (x y : A) (u v : B) → (t ≡ true → P x u) → (t ≡ false → P y v)
    → P (if t then x else y) (if t then u else v)
if_both P true x y u v f g = f refl
if_both P false x y u v f g = g refl

told : (P : Event → Type 0) (e f : Event) → e ≡ f → P f → P e
told P e f h p = subst P (sym h) p

clash : (t : Bool) → t ≡ true → t ≡ false → ⊥
clash true e f = cc
clash false e f = cc

none_held : (k : ℕ) → 0 ≤ k
none_held k = omega arith

space_not_end : (b : ℕ) → is_space b ≡ true → (b == 62) ≡ false
space_not_end b e = grind (arith, nat_tests)

-- outside start tags nothing is held of one
outside : (s : State) (fs : List Frame) (root : Markups) (k : ℕ) (y : Building) → calm fs root ≡ needed s y → fits s (calm fs root) ≡ true → spent s ≡ 0
    → Holds s (calm fs root) y k
outside s fs root k y e f z = record { same = e; fit = f; few = subst (λ n. 0 + n ≤ held_behind s k) (sym z) (none_held (held_behind s k)) }

closed_calm : (t : Markup) (fs : List Frame) (root : Markups) → closed_into t fs root ≡ outside_tag (closed_into t fs root)
closed_calm t [] root = refl
closed_calm t (f ∷ fs) root = refl

close_calm : (fs : List Frame) (root : Markups) → close fs root ≡ outside_tag (close fs root)
close_calm [] root = refl
close_calm (f ∷ fs) root = closed_calm (tree_of f) fs root

-- an element is whole
settled : (s : State) (x : Building) (k : ℕ) → x ≡ outside_tag x → needed s x ≡ outside_tag x → fits s x ≡ true → spent s ≡ 0 → Holds s x x k
settled s x k e n f z = record {
  same = e ∙ sym n;
  fit = f;
  few = subst (λ n. n ≤ held_behind s k) (sym (ap (λ w. tag_len w + spent s) e ∙ ap (λ n. 0 + n) z)) (none_held (held_behind s k));
}

-- where a start tag may end
open_goes : (t : Tag) (b : ℕ) (y : Building) (k : ℕ) → tag_len (between_attributes y) ≤ k
    → Goes y (k + 1) (at_open t b) (out_open t b) (between_attributes y)
open_goes t b y k h =
    let x : Building = between_attributes y in
    let P : Result State HtmlWhy → Event → Type 0 = λ o e. Goes y (k + 1) o e x in
    if_case (λ o. P o (out_open t b)) (is_space b) _ _
    (λ e. told (P (Ok (gap t))) (out_open t b) ev.Quiet (if_false (b == 62) _ _ (space_not_end b e)) (record { same = refl; fit = refl; few = omega (arith, h) }))
    (λ _. if_both P (b == 62) _ _ _ _
    (λ _. if_case (P (Ok (inside (opened t)))) (is_void t.name) _ _
    (λ _. settled (inside (opened t)) (closed_into (node y.name y.attributes empty) y.opened y.root) (k + 1) (closed_calm _ y.opened y.root) refl refl refl)
    (λ _. outside (inside (opened t)) _ y.root (k + 1) _ refl refl refl))
    (λ _. if_case (λ o. P o ev.Quiet) (b == 47) _ _
    (λ _. if_case (λ o. P o ev.Quiet) (is_void t.name) _ _ (λ _. record { same = refl; fit = refl; few = omega (arith, h) }) (λ _. tt)) (λ _. tt)))

-- where an end tag may end
end_goes : (ns : List (List ℕ)) (b : ℕ) (y : Building) (k : ℕ) → Goes y k (at_end ns b) (out_end b) (outside_tag y)
end_goes ns b y k =
    let x : Building = outside_tag y in
    let P : Result State HtmlWhy → Event → Type 0 = λ o e. Goes y k o e x in
    if_case (λ o. P o (out_end b)) (is_space b) _ _
    (λ e. told (P (Ok (closed ns))) (out_end b) ev.Quiet (if_false (b == 62) _ _ (space_not_end b e)) (outside (closed ns) y.opened y.root k y refl refl refl))
    (λ _. if_both P (b == 62) _ _ _ _
    (λ _. settled (inside ns) (close y.opened y.root) k (close_calm y.opened y.root) refl refl refl)
    (λ _. tt))

-- a name begins
begin_goes : (ns : List (List ℕ)) (b : ℕ) (y : Building) (k : ℕ) → Goes y (k + 1) (Ok (naming ns (b ∷ []))) (ev.NameBegin b) (outside_tag y)
begin_goes ns b y k = record { same = refl; fit = refl; few = omega arith }

-- behind the name of an attribute
name_goes : (t : Tag) (b : ℕ) (y : Building) (k : ℕ) → is_new (before_value y) ≡ true → tag_len (before_value y) ≤ k
    → Goes y (k + 1) (at_name t b) ev.Quiet (before_value y)
name_goes t b y k f h =
    if_case (λ o. Goes y (k + 1) o ev.Quiet (before_value y)) (is_space b) _ _ (λ _. record { same = refl; fit = f; few = omega (arith, h) })
    (λ _. if_case (λ o. Goes y (k + 1) o ev.Quiet (before_value y)) (b == 61) _ _ (λ _. record { same = refl; fit = f; few = omega (arith, h) }) (λ _. tt))

-- escapes
letters_len : (n : EscapeName) → 2 ≤ length (letters_of n)
letters_len Amp = omega arith
letters_len Lt = omega arith
letters_len Gt = omega arith
letters_len Quot = omega arith
letters_len Apos = omega arith
letters_len Nbsp = omega arith

char_len : (c : ℕ) → length (encode_utf8 c) ≤ 4
char_len c = omega (arith, length-encode c, (len_utf8_bounds c).1)

-- an escape that goes on is a byte longer; one that ends has three bytes before its last
abbrev Turned : Escape → EscapeStep → Option ℕ → Type 0
Turned e stop d = Unit {0}
Turned e (on f) d = (escape_len f ≤ suc (escape_len e)) × (d ≡ None)
Turned e ended None = Unit {0}
Turned e ended (Some c) = 3 ≤ escape_len e

ends : (e : Escape) (d : Option ℕ) → 3 ≤ escape_len e → Turned e ended d
ends e None h = tt
ends e (Some c) h = h

goes_on : (e f : Escape) (d : Option ℕ) → escape_len f ≤ suc (escape_len e) → d ≡ None → Turned e (on f) d
goes_on e f d h z = (h, z)

digit_not_end : (r : Radix) (b : ℕ) → is_digit_of r b ≡ true → (b == 59) ≡ false
digit_not_end Decimal b e = grind (arith, nat_tests)
digit_not_end Hexadecimal b e = grind (arith, nat_tests)

whole_some : (k n : ℕ) → is_whole k n ≡ true → 0 < k
whole_some k n e = grind (arith, nat_tests)

digits_turned : (e : Escape) (r : Radix) (k n b : ℕ) (d : Option ℕ) → 2 + k ≤ escape_len e → 2 + (k + 1) ≤ suc (escape_len e)
    → ((b == 59) ≡ false → d ≡ None) → Turned e (in_digits r k n b) d
digits_turned e r k n b d h g z =
    if_case (λ t. Turned e t d) (is_digit_of r b) _ _
    (λ i. if_case (λ t. Turned e t d) (is_begun r (k + 1) (n * base_of r + digit_value b)) _ _ (λ _. (g, z (digit_not_end r b i))) (λ _. tt))
    (λ _. if_case (λ t. Turned e t d) (b == 59) _ _
    (λ _. if_case (λ t. Turned e t d) (is_whole k n) _ _ (λ w. ends e d (omega (arith, h, whole_some k n w))) (λ _. tt)) (λ _. tt))

turned_so : (e : Escape) (b : ℕ) → Turned e (in_escape e b) (decoded e b)
turned_so ampersand b =
    let Q : EscapeStep → Type 0 = λ t. Turned ampersand t None in
    if_case Q (b == 35) _ _ (λ _. (omega arith, refl)) (λ _. if_case Q (b == 97) _ _ (λ _. (omega arith, refl))
    (λ _. if_case Q (b == 108) _ _ (λ _. (omega arith, refl)) (λ _. if_case Q (b == 103) _ _ (λ _. (omega arith, refl))
    (λ _. if_case Q (b == 113) _ _ (λ _. (omega arith, refl)) (λ _. if_case Q (b == 110) _ _ (λ _. (omega arith, refl)) (λ _. tt))))))
turned_so apart b =
    let Q : EscapeStep → Type 0 = λ t. Turned apart t None in
    if_case Q (b == 109) _ _ (λ _. (omega arith, refl)) (λ _. if_case Q (b == 112) _ _ (λ _. (omega arith, refl)) (λ _. tt))
turned_so (letters n (c ∷ cs)) b =
    if_case (λ t. Turned (letters n (c ∷ cs)) t None) (b == c) _ _ (λ _. (omega arith, refl)) (λ _. tt)
turned_so (letters n []) b =
    if_case (λ t. Turned (letters n []) t (decoded (letters n []) b)) (b == 59) _ _
    (λ _. ends (letters n []) (decoded (letters n []) b) (omega (arith, letters_len n))) (λ _. tt)
turned_so sharp b =
    if_case (λ t. Turned sharp t None) (b == 120) _ _ (λ _. (omega arith, refl))
    (λ _. digits_turned sharp Decimal 0 0 b None (omega arith) (omega arith) (λ _. refl))
turned_so (digits r k n) b =
    digits_turned (digits r k n) r k n b (decoded (digits r k n) b) (omega arith) (omega arith) (λ e. if_false (b == 59) _ _ e)
turned_so (wide low high zero) b = if_case (λ t. Turned (wide low high zero) t None) (between low high b) _ _ (λ _. tt) (λ _. tt)
turned_so (wide low high (suc n)) b =
    if_case (λ t. Turned (wide low high (suc n)) t None) (between low high b) _ _ (λ _. (omega arith, refl)) (λ _. tt)

-- what is built of a text keeps what is held of a tag, and of a value adds to it
abbrev IsText : Building → Event → Type 0
IsText y e = (moved (outside_tag y) e ≡ outside_tag (put y e)) × (tag_len (moved (outside_tag y) e) ≡ 0)

text_told : (ns : List (List ℕ)) (e : Escape) (b : ℕ) (y : Building) → IsText y (out_escape (inside ns) e b)
text_told ns ampersand b y = (refl, refl)
text_told ns apart b y = (refl, refl)
text_told ns (letters n (c ∷ cs)) b y = (refl, refl)
text_told ns (letters n []) b y = if_case (λ d. IsText y (unit_if (inside ns) d)) (b == 59) _ _ (λ _. (refl, refl)) (λ _. (refl, refl))
text_told ns sharp b y = (refl, refl)
text_told ns (digits r i n) b y = if_case (λ d. IsText y (unit_if (inside ns) d)) (b == 59) _ _ (λ _. (refl, refl)) (λ _. (refl, refl))
text_told ns (wide low high n) b y = (refl, refl)

text_on : (ns : List (List ℕ)) (f : Escape) (y : Building) (k : ℕ) (e : Event) → escape_len f ≤ k + 1 → IsText y e
    → Goes y (k + 1) (Ok (escaping (inside ns) f)) e (outside_tag y)
text_on ns f y k e h i = record { same = i.0; fit = refl; few = omega (arith, i.1, h) }

text_in : (ns : List (List ℕ)) (y : Building) (k : ℕ) (e : Event) → IsText y e → Goes y (k + 1) (Ok (inside ns)) e (outside_tag y)
text_in ns y k e i = record { same = i.0; fit = refl; few = omega (arith, i.1) }

text_turned : (ns : List (List ℕ)) (e : Escape) (t : EscapeStep) (d : Option ℕ) (v : Event) (y : Building) (k : ℕ) → Turned e t d → escape_len e ≤ k → IsText y v
    → Goes y (k + 1) (turned (inside ns) e t) v (outside_tag y)
text_turned ns e stop d v y k g h i = tt
text_turned ns e (on f) d v y k g h i = text_on ns f y k v (omega (arith, g.0, h)) i
text_turned ns e ended d v y k g h i = text_in ns y k v i

-- in a value
abbrev IsValue : Building → Event → ℕ → Type 0
IsValue y e n = (moved y e ≡ put y e) × (is_new (put y e) ≡ is_new y) × (tag_len (put y e) ≤ tag_len y + n)

value_byte : (y : Building) (b : ℕ) → IsValue y (ev.ValueByte b) 1
value_byte y b = (refl, refl, omega (arith, length-append y.value (b ∷ [])))

value_char : (y : Building) (c : ℕ) → IsValue y (ev.ValueChar c) 4
value_char y c = (refl, refl, omega (arith, length-append y.value (encode_utf8 c), char_len c))

value_quiet : (y : Building) → IsValue y ev.Quiet 0
value_quiet y = (refl, refl, omega arith)

value_on : (t : Tag) (q : ℕ) (f : Escape) (y : Building) (k n : ℕ) (e : Event) → is_new y ≡ true → IsValue y e n → tag_len y + n + escape_len f ≤ k + 1
    → Goes y (k + 1) (Ok (escaping (value t q) f)) e y
value_on t q f y k n e new i h = record {
  same = i.0;
  fit = ap is_new i.0 ∙ i.1 ∙ new;
  few = omega (arith, ap tag_len i.0, i.2, h);
}

value_in : (t : Tag) (q : ℕ) (y : Building) (k n : ℕ) (e : Event) → is_new y ≡ true → IsValue y e n → tag_len y + n ≤ k + 1
    → Goes y (k + 1) (Ok (value t q)) e y
value_in t q y k n e new i h = record { same = i.0; fit = ap is_new i.0 ∙ i.1 ∙ new; few = omega (arith, ap tag_len i.0, i.2, h) }

value_unit : (t : Tag) (q : ℕ) (e : Escape) (f : EscapeStep) (d : Option ℕ) (y : Building) (k : ℕ) → is_new y ≡ true → tag_len y + escape_len e ≤ k → Turned e f d
    → Goes y (k + 1) (turned (value t q) e f) (unit_if (value t q) d) y
value_unit t q e stop d y k new h g = tt
value_unit t q e (on f) d y k new h g =
    let P : Option ℕ → Type 0 = λ o. Goes y (k + 1) (Ok (escaping (value t q) f)) (unit_if (value t q) o) y in
    subst P (sym g.1) (value_on t q f y k 0 ev.Quiet new (value_quiet y) (omega (arith, h, g.0)))
value_unit t q e ended None y k new h g = value_in t q y k 0 ev.Quiet new (value_quiet y) (omega (arith, h))
value_unit t q e ended (Some c) y k new h g = value_in t q y k 4 (ev.ValueChar c) new (value_char y c) (omega (arith, h, g))

wide_turned : (t : Tag) (q low high n b : ℕ) (f : EscapeStep) (y : Building) (k : ℕ) → is_new y ≡ true → tag_len y ≤ k
    → ((u : Escape) → f ≡ on u → escape_len u ≡ 0) → Goes y (k + 1) (turned (value t q) (wide low high n) f) (ev.ValueByte b) y
wide_turned t q low high n b stop y k new h z = tt
wide_turned t q low high n b (on u) y k new h z = value_on t q u y k 1 (ev.ValueByte b) new (value_byte y b) (omega (arith, h, z u refl))
wide_turned t q low high n b ended y k new h z = value_in t q y k 1 (ev.ValueByte b) new (value_byte y b) (omega (arith, h))

wide_none : (low high n b : ℕ) (u : Escape) → in_escape (wide low high n) b ≡ on u → escape_len u ≡ 0
wide_none low high zero b u = if_case (λ f. f ≡ on u → escape_len u ≡ 0) (between low high b) _ _ (λ _ e. cc) (λ _ e. cc)
wide_none low high (suc n) b u =
    if_case (λ f. f ≡ on u → escape_len u ≡ 0) (between low high b) _ _ (λ _ e. by (wide 128 191 n) u refl e) (λ _ e. cc)
  where
    by : (v u : Escape) → escape_len v ≡ 0 → on v ≡ on u → escape_len u ≡ 0
    by v u z e = let same : v ≡ u = cc in sym (ap escape_len same) ∙ z

value_turned : (t : Tag) (q : ℕ) (e : Escape) (b : ℕ) (y : Building) (k : ℕ) → is_new y ≡ true → tag_len y + escape_len e ≤ k
    → Goes y (k + 1) (turned (value t q) e (in_escape e b)) (out_escape (value t q) e b) y
value_turned t q ampersand b y k new h = value_unit t q ampersand _ None y k new h (turned_so ampersand b)
value_turned t q apart b y k new h = value_unit t q apart _ None y k new h (turned_so apart b)
value_turned t q (letters n cs) b y k new h = value_unit t q (letters n cs) _ (decoded (letters n cs) b) y k new h (turned_so (letters n cs) b)
value_turned t q sharp b y k new h = value_unit t q sharp _ None y k new h (turned_so sharp b)
value_turned t q (digits r i n) b y k new h = value_unit t q (digits r i n) _ (decoded (digits r i n) b) y k new h (turned_so (digits r i n) b)
value_turned t q (wide low high n) b y k new h =
    wide_turned t q low high n b (in_escape (wide low high n) b) y k new (omega (arith, h)) (wide_none low high n b)

pairs_push : (ps : List Pair) (k v : List ℕ) → pairs_len (ps ++ (k, v) ∷ []) ≡ pairs_len ps + length k + length v
pairs_push [] k v = omega arith
pairs_push (p ∷ ps) k v = omega (arith, pairs_push ps k v)

plain_there : (p : ℕ → Bool) (b : ℕ) → is_plain p b ≡ true → p b ≡ true
plain_there p b e = second (nat_lt b 128) (p b) e
  where
    second : (u v : Bool) → (u && v) ≡ true → v ≡ true
    second true v e = e
    second false v e = cc

quote_not : (u v : Bool) → u ≡ true → (not u && v) ≡ false
quote_not true v e = refl
quote_not false v e = cc

mark_not : (u v : Bool) → v ≡ true → (u && not v) ≡ false
mark_not true true e = refl
mark_not false true e = refl
mark_not u false e = absurd cc

value_begins : (t : Tag) (q : ℕ) (o : Option Follow) (y : Building) (k n : ℕ) (e : Event) → is_new y ≡ true → tag_len y ≤ k → n ≤ 1 → IsValue y e n
    → Goes y (k + 1) (begins (value t q) o) e y
value_begins t q None y k n e new h l i = tt
value_begins t q (Some f) y k n e new h l i = value_on t q (wide f.low f.high f.more) y k n e new i (omega (arith, h, l))

value_goes : (t : Tag) (q b : ℕ) (y : Building) (k : ℕ) → is_new y ≡ true → tag_len y ≤ k → Goes y (k + 1) (step (value t q) b) (out (value t q) b) y
value_goes t q b y k new h =
    let P : Result State HtmlWhy → Event → Type 0 = λ o e. Goes y (k + 1) o e y in
    let v : Event = out (value t q) b in
    if_case (λ o. P o v) (is_plain (in_value q) b) _ _
    (λ e. told (P (Ok (value t q))) v (ev.ValueByte b) (if_true (in_value q b) _ _ (plain_there (in_value q) b e))
    (value_in t q y k 1 (ev.ValueByte b) new (value_byte y b) (omega (arith, h))))
    (λ _. if_case (λ o. P o v) (b == q) _ _
    (λ e. told (P (Ok (valued t))) v ev.ValueEnd (if_false (in_value q b) _ _ (quote_not (b == q) (not (b == 38)) e) ∙ if_true (b == q) _ _ e)
    (record { same = refl; fit = refl; few = omega (arith, pairs_push y.attributes y.key y.value, h) }))
    (λ d. if_case (λ o. P o v) (b == 38) _ _
    (λ e. told (P (Ok (escaping (value t q) ampersand))) v ev.Quiet
    (if_false (in_value q b) _ _ (mark_not (not (b == q)) (b == 38) e) ∙ if_false (b == q) _ _ d)
    (value_on t q ampersand y k 0 ev.Quiet new (value_quiet y) (omega (arith, h))))
    (λ _. if_case (P (begins (value t q) (follow b))) (in_value q b) _ _
    (λ _. value_begins t q (follow b) y k 1 (ev.ValueByte b) new h (omega arith) (value_byte y b))
    (λ _. told (P (begins (value t q) (follow b))) (if b == q then ev.ValueEnd else ev.Quiet) ev.Quiet (if_false (b == q) _ _ d)
    (value_begins t q (follow b) y k 0 ev.Quiet new h (omega arith) (value_quiet y))))))

text_begins : (ns : List (List ℕ)) (o : Option Follow) (y : Building) (k : ℕ) (e : Event) → IsText y e
    → Goes y (k + 1) (begins (inside ns) o) e (outside_tag y)
text_begins ns None y k e i = tt
text_begins ns (Some f) y k e i = text_on ns (wide f.low f.high f.more) y k e (omega arith) i

text_goes : (n : List ℕ) (ns : List (List ℕ)) (b : ℕ) (y : Building) (k : ℕ) → Goes y (k + 1) (step (inside (n ∷ ns)) b) (out (inside (n ∷ ns)) b) (outside_tag y)
text_goes n ns b y k =
    let v : Event = out (inside (n ∷ ns)) b in
    let Q : Result State HtmlWhy → Type 0 = λ o. Goes y (k + 1) o v (outside_tag y) in
    let i : IsText y v = if_case (IsText y) (in_text b) _ _ (λ _. (refl, refl)) (λ _. (refl, refl)) in
    if_case Q (is_plain in_text b) _ _ (λ _. text_in (n ∷ ns) y k v i)
    (λ _. if_case Q (b == 60) _ _ (λ _. record { same = i.0; fit = refl; few = omega (arith, i.1) })
    (λ _. if_case Q (b == 38) _ _ (λ _. text_on (n ∷ ns) ampersand y k v (omega arith) i)
    (λ _. text_begins (n ∷ ns) (follow b) y k v i)))

doctype_goes : (cs : List ℕ) (b : ℕ) (y : Building) (k : ℕ) → not (is_some_open y.opened) ≡ true → Goes y k (in_doctype cs b) ev.Quiet (outside_tag y)
doctype_goes [] b y k f =
    let Q : Result State HtmlWhy → Type 0 = λ o. Goes y k o ev.Quiet (outside_tag y) in
    if_case Q (is_space b) _ _ (λ _. outside (doctype []) y.opened y.root k y refl f refl)
    (λ _. if_case Q (b == 60) _ _ (λ _. outside (less []) y.opened y.root k y refl refl refl) (λ _. tt))
doctype_goes (c ∷ cs) b y k f =
    if_case (λ o. Goes y k o ev.Quiet (outside_tag y)) (to_ascii_lowercase b == c) _ _ (λ _. outside (doctype cs) y.opened y.root k y refl f refl) (λ _. tt)

end_tag_goes : (ns : List (List ℕ)) (y : Building) (k : ℕ) → Goes y k (end_tag ns) ev.Quiet (outside_tag y)
end_tag_goes [] y k = tt
end_tag_goes (n ∷ ns) y k = outside (closing n ns) y.opened y.root k y refl refl refl

quoted : (p r : Bool) (u v : Event) → (p || r) ≡ true → (if p then u else if r then u else v) ≡ u
quoted true r u v e = refl
quoted false true u v e = refl
quoted false false u v e = cc

unquoted : (p r : Bool) (u v : Event) → (p || r) ≡ false → (if p then u else if r then u else v) ≡ v
unquoted true r u v e = cc
unquoted false true u v e = cc
unquoted false false u v e = refl

equals_goes : (t : Tag) (b : ℕ) (y : Building) (k : ℕ) → is_new (before_value y) ≡ true → tag_len (before_value y) ≤ k
    → Goes y (k + 1) (step (equals t) b) (out (equals t) b) (before_value y)
equals_goes t b y k f h =
    let v : Event = out (equals t) b in
    let P : Result State HtmlWhy → Event → Type 0 = λ o e. Goes y (k + 1) o e (before_value y) in
    if_case (λ o. P o v) (is_quote b) _ _
    (λ e. told (P (Ok (value t b))) v ev.ValueBegin (quoted (b == 34) (b == 39) _ _ e) (record { same = refl; fit = f; few = omega (arith, h) }))
    (λ e. told (P _) v ev.Quiet (unquoted (b == 34) (b == 39) _ _ e)
    (if_case (λ o. P o ev.Quiet) (is_space b) _ _ (λ _. record { same = refl; fit = f; few = omega (arith, h) }) (λ _. tt)))

-- the tag of the state is the one that is held
abbrev pub Linked : State → Building → Type 0
Linked (attribute t a) x = (t.seen ≡ map (λ p. p.0) x.attributes) × (a ≡ x.key)
Linked s x = Unit {0}

key_goes : (t : Tag) (a : List ℕ) (b : ℕ) (y : Building) (k : ℕ) → Linked (attribute t a) (before_value y) → tag_len (before_value y) ≤ k
    → Goes y (k + 1) (step (attribute t a) b) (out (attribute t a) b) (before_value y)
key_goes t a b y k l h =
    let P : Result State HtmlWhy → Event → Type 0 = λ o e. Goes y (k + 1) o e (before_value y) in
    if_both P (is_attribute_byte b) _ _ _ _ (λ _. record { same = refl; fit = refl; few = omega (arith, length-append y.key (b ∷ []), h) })
    (λ _. if_case (λ o. P o ev.Quiet) (is_among a t.seen) _ _ (λ _. tt)
    (λ e. name_goes (with_seen t a) b y k (ap (λ r. not r) (sym (linked t.seen (map (λ p. p.0) y.attributes) a y.key l.0 l.1) ∙ e)) h))
  where
    linked : (seen names : List (List ℕ)) (a key : List ℕ) → seen ≡ names → a ≡ key → is_among a seen ≡ is_among key names
    linked seen names a key e f = ap (λ w. is_among w seen) f ∙ ap (is_among key) e

goes : (s : State) (b : ℕ) (y : Building) (k : ℕ) → Linked s (needed s y) → fits s (needed s y) ≡ true → tag_len (needed s y) + spent s ≤ k
    → Goes y (k + 1) (step s b) (out s b) (needed s y)
goes start b y k l f h =
    let Q : Result State HtmlWhy → Type 0 = λ o. Goes y (k + 1) o ev.Quiet (outside_tag y) in
    if_case Q (is_space b) _ _ (λ _. outside start y.opened y.root (k + 1) y refl f refl)
    (λ _. if_case Q (b == 60) _ _ (λ _. outside first y.opened y.root (k + 1) y refl f refl) (λ _. tt))
goes first b y k l f h =
    let P : Result State HtmlWhy → Event → Type 0 = λ o e. Goes y (k + 1) o e (outside_tag y) in
    if_both P (is_lower b) _ _ _ _ (λ _. begin_goes [] b y k)
    (λ _. if_case (λ o. P o ev.Quiet) (b == 33) _ _ (λ _. outside (doctype _) y.opened y.root (k + 1) y refl f refl) (λ _. tt))
goes (doctype cs) b y k l f h = doctype_goes cs b y (k + 1) f
goes (inside []) b y k l f h =
    if_case (λ o. Goes y (k + 1) o ev.Quiet (outside_tag y)) (is_space b) _ _ (λ _. outside (inside []) y.opened y.root (k + 1) y refl refl refl) (λ _. tt)
goes (inside (n ∷ ns)) b y k l f h = text_goes n ns b y k
goes (less ns) b y k l f h =
    let P : Result State HtmlWhy → Event → Type 0 = λ o e. Goes y (k + 1) o e (outside_tag y) in
    if_both P (is_lower b) _ _ _ _
    (λ _. if_case (λ o. P o (ev.NameBegin b)) (nat_lt (length ns) 200) _ _ (λ _. begin_goes ns b y k) (λ _. tt))
    (λ _. if_case (λ o. P o ev.Quiet) (b == 47) _ _ (λ _. end_tag_goes ns y (k + 1)) (λ _. tt))
goes (naming ns n) b y k l f h =
    if_both (λ o e. Goes y (k + 1) o e (between_attributes y)) (is_name_byte b) _ _ _ _
    (λ _. record { same = refl; fit = f; few = omega (arith, length-append y.name (b ∷ []), h) })
    (λ _. open_goes (record { outer = ns; name = n; seen = [] }) b y k (omega (arith, h)))
goes (gap t) b y k l f h =
    if_both (λ o e. Goes y (k + 1) o e (between_attributes y)) (is_attribute_byte b) _ _ _ _
    (λ _. record { same = refl; fit = refl; few = omega (arith, h) }) (λ _. open_goes t b y k (omega (arith, h)))
goes (attribute t a) b y k l f h = key_goes t a b y k l (omega (arith, h))
goes (named_so t) b y k l f h = name_goes t b y k f (omega (arith, h))
goes (equals t) b y k l f h = equals_goes t b y k f (omega (arith, h))
goes (value t q) b y k l f h = value_goes t q b y k f (omega (arith, h))
goes (valued t) b y k l f h = open_goes t b y k (omega (arith, h))
goes (slashed t) b y k l f h =
    if_case (λ o. Goes y (k + 1) o ev.Void (between_attributes y)) (b == 62) _ _
    (λ _. settled (inside t.outer) (closed_into (node y.name y.attributes empty) y.opened y.root) (k + 1) (closed_calm _ y.opened y.root) refl refl refl) (λ _. tt)
goes (closing (c ∷ cs) ns) b y k l f h =
    if_case (λ o. Goes y (k + 1) o ev.Quiet (outside_tag y)) (b == c) _ _ (λ _. outside (closing cs ns) y.opened y.root (k + 1) y refl refl refl) (λ _. tt)
goes (closing [] ns) b y k l f h =
    if_case (λ o. Goes y (k + 1) o (out_end b) (outside_tag y)) (is_name_byte b) _ _ (λ _. tt) (λ _. end_goes ns b y (k + 1))
goes (closed ns) b y k l f h = end_goes ns b y (k + 1)
goes (escaping (inside ns) e) b y k l f h =
    text_turned ns e (in_escape e b) (decoded e b) (out_escape (inside ns) e b) y k (turned_so e b) (omega (arith, h)) (text_told ns e b y)
goes (escaping (value t q) e) b y k l f h = value_turned t q e b y k f (omega (arith, h))
goes (escaping start e) b y k l f h = absurd cc
goes (escaping first e) b y k l f h = absurd cc
goes (escaping (doctype cs) e) b y k l f h = absurd cc
goes (escaping (less ns) e) b y k l f h = absurd cc
goes (escaping (naming ns n) e) b y k l f h = absurd cc
goes (escaping (gap t) e) b y k l f h = absurd cc
goes (escaping (attribute t a) e) b y k l f h = absurd cc
goes (escaping (named_so t) e) b y k l f h = absurd cc
goes (escaping (equals t) e) b y k l f h = absurd cc
goes (escaping (valued t) e) b y k l f h = absurd cc
goes (escaping (slashed t) e) b y k l f h = absurd cc
goes (escaping (closing cs ns) e) b y k l f h = absurd cc
goes (escaping (closed ns) e) b y k l f h = absurd cc
goes (escaping (escaping s d) e) b y k l f h = absurd cc

mended_goes : (b : ℕ) (o : Result State HtmlWhy) (e : Event) (y : Building) (k : ℕ) (x : Building) (s : State) → Goes y k o e x → mended b o ≡ Ok s
    → Goes y k (Ok s) e x
mended_goes b (Ok t) e y k x s h m =
    let P : State → Type 0 = λ u. Goes y k (Ok u) e x in
    let same : t ≡ s = cc in subst P same h
mended_goes b (Err w) e y k x s h m = absurd (never (begins_character b) w s m)
  where
    never : (t : Bool) (w : HtmlWhy) (s : State) → (if t then Err w else Err NotUtf8) ≡ Ok s → ⊥
    never true w s m = cc
    never false w s m = cc

-- a byte that is taken
pub goes_byte : (s t : State) (b : ℕ) (x y : Building) (k : ℕ) → Linked s x → x ≡ needed s y → fits s x ≡ true → tag_len x + spent s ≤ k
    → mended b (step s b) ≡ Ok t → Holds t (moved x (out s b)) (put y (out s b)) (k + 1)
goes_byte s t b x y k l e f h m =
    let P : Building → Type 0 = λ z. Linked s z → fits s z ≡ true → tag_len z + spent s ≤ k → Holds t (moved z (out s b)) (put y (out s b)) (k + 1) in
    subst P (sym e) (λ l f h. mended_goes b (step s b) (out s b) y (k + 1) (needed s y) t (goes s b y k l f h) m) l f h
