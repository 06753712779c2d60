-- Words, signs and entities that begin lines, or what ends with a comment or tag, end with or before their last byte.
use Rattle.std.proofs.Common.{arith, ◌≡◌, ◌⊎◌, inl, inr, ℕ, zero, suc, ◌+◌, ◌-◌, ◌<◌, ◌≤◌, ◌==◌, Bool, true, false, Option, Some, None, List, [], ◌∷◌, length, get_or, drop, nat_lt, refl, sym, ap, ◌∙◌, subst}
use Rattle.std.specs.Prelude.{◌&&◌, ◌||◌, not, if◌then◌else◌, codes}
use Rattle.std.specs.Option.{option_or}
use Rattle.std.specs.Char.{is_ascii_digit, is_ascii_hexdigit}
use Rattle.std.specs.List.{list_all, prefix_len}
use Rattle.std.proofs.lemmas.Bool.{cases_lt, eqb-true}
use Rattle.std.proofs.lemmas.List.{get_or-drop}
use Rattle.std.proofs.lemmas.List.Sums.{prefix_len_passes}
use Rattle.wt_span.specs.declared.form.LexKind.{LexKind}
use Rattle.wt_span.specs.declared.form.LexKind.TheVariants.{Opens, Closes, LinkOpen, LinkClose, Pipe, Equals}
use Rattle.wt_span.specs.Bytes.{begins}
use Rattle.wt_span.specs.Entities.{named_in, entity_names, named_entity, numbered, decimal_entity, hex_entity, entity_at}
use Rattle.wt_span.specs.Lexemes.{Word, entity_word, run_at, sign_at, sign_word}
use Rattle.wt_lex.proofs.Begins.{and_left, and_right, begins_get}
use Rattle.wt_text_edit_laws.specs.SignParts.{is_sign_end}
use Rattle.wt_text_edit_laws.specs.TextBetween.{is_end}

pub either : (a b : Bool) → (a || b) ≡ true → (a ≡ true) ⊎ (b ≡ true)
either true b e = inl refl
either false b e = inr e

-- ---- words in which no byte passes a test

abbrev pub lacks : (ℕ → Bool) → List ℕ → Bool
lacks test w = list_all (λ b. not (test b)) w

-- neither a line break nor a `>`
abbrev pub unbroken : List ℕ → Bool
unbroken w = lacks is_end w

is_not : (v : Bool) → not v ≡ true → v ≡ false
is_not true e = sym e
is_not false e = refl

pub none_at : (test : ℕ → Bool) (w : List ℕ) (k : ℕ) → lacks test w ≡ true → k < length w → test (get_or w k 0) ≡ false
none_at test [] k e h = absurd (omega arith)
none_at test (x ∷ w) zero e h = is_not (test x) (and_left (not (test x)) (lacks test w) e)
none_at test (x ∷ w) (suc k) e h = none_at test w k (and_right (not (test x)) (lacks test w) e) (omega (arith, h))

-- it ends before a byte that does
pub word_before : (test : ℕ → Bool) (w bs : List ℕ) (k : ℕ) → begins w bs ≡ true → lacks test w ≡ true → test (get_or bs k 0) ≡ true → length w ≤ k
word_before test w bs k e u g = elim (cases_lt k (length w)) [
  | inl lt ↦
      let f : test (get_or w k 0) ≡ true = subst (λ (x : ℕ). test x ≡ true) (begins_get w bs e k lt) g in
      let n : test (get_or w k 0) ≡ false = none_at test w k u lt in
      absurd (cc)
  | inr le ↦ le
]

pub word_within : (w bs : List ℕ) (k : ℕ) → begins w bs ≡ true → unbroken w ≡ true → is_end (get_or bs k 0) ≡ true → length w ≤ k
word_within w bs k e u g = word_before is_end w bs k e u g

-- words of which at most the last byte is a line break or a `>`
abbrev pub unbroken_front : List ℕ → Bool
unbroken_front [] = true
unbroken_front (b ∷ []) = true
unbroken_front (b ∷ c ∷ cs) = not (is_end b) && unbroken_front (c ∷ cs)

none_in_front : (w : List ℕ) (k : ℕ) → unbroken_front w ≡ true → k + 1 < length w → is_end (get_or w k 0) ≡ false
none_in_front [] k e h = absurd (omega (arith, h))
none_in_front (b ∷ []) k e h = absurd (omega (arith, h))
none_in_front (b ∷ c ∷ cs) zero e h = is_not (is_end b) (and_left (not (is_end b)) (unbroken_front (c ∷ cs)) e)
none_in_front (b ∷ c ∷ cs) (suc k) e h = none_in_front (c ∷ cs) k (and_right (not (is_end b)) (unbroken_front (c ∷ cs)) e) (omega (arith, h))

-- one ends with such a byte at the latest
pub word_up_to : (w bs : List ℕ) (k : ℕ) → begins w bs ≡ true → unbroken_front w ≡ true → is_end (get_or bs k 0) ≡ true → length w ≤ k + 1
word_up_to w bs k e u g = elim (cases_lt (k + 1) (length w)) [
  | inl lt ↦
      let f : is_end (get_or w k 0) ≡ true = subst (λ (x : ℕ). is_end x ≡ true) (begins_get w bs e k (omega (arith, lt))) g in
      let n : is_end (get_or w k 0) ≡ false = none_in_front w k u lt in
      absurd (cc)
  | inr le ↦ le
]

-- ---- signs

abbrev pub Within : ℕ → Option Word → Type 0
Within k None = Unit {0}
Within k (Some w) = w.1 ≤ k + 1

pub or_within : (k : ℕ) (a b : Option Word) → Within k a → Within k b → Within k (option_or a b)
or_within k None b f g = g
or_within k (Some w) b f g = f

pub if_within : (k : ℕ) (t : Bool) (w : Word) → (t ≡ true → w.1 ≤ k + 1) → Within k (if t then Some w else None)
if_within k true w f = f refl
if_within k false w f = tt

pub run_ends : (test : ℕ → Bool) (byte k : ℕ) (bs : List ℕ) → test byte ≡ false → test (get_or bs k 0) ≡ true → prefix_len (λ b. b == byte) bs ≤ k
run_ends test byte k bs e g = elim (cases_lt k (prefix_len (λ b. b == byte) bs)) [
  | inl lt ↦ let p : (get_or bs k 0 == byte) ≡ true = prefix_len_passes (λ b. b == byte) bs k 0 lt in
      let q : test byte ≡ true = ap test (sym (eqb-true (get_or bs k 0) byte p)) ∙ g in absurd (cc)
  | inr le ↦ le
]

pub run_within : (test : ℕ → Bool) (kind : LexKind) (byte k : ℕ) (bs : List ℕ) → test byte ≡ false → test (get_or bs k 0) ≡ true → Within k (run_at kind byte bs)
run_within test kind byte k bs e g =
    let n = prefix_len (λ b. b == byte) bs in
    let le = run_ends test byte k bs e g in
    if_within k (nat_lt 1 n) (kind, n) (λ t. omega (arith, le))

pub sign_within : (test : ℕ → Bool) (kind : LexKind) (w : List ℕ) (n k : ℕ) (bs : List ℕ) → lacks test w ≡ true → length w ≡ n → test (get_or bs k 0) ≡ true
    → Within k (sign_at kind w n bs)
sign_within test kind w n k bs u is g = if_within k (begins w bs) (kind, n) (λ e. let le = word_before test w bs k e u g in omega (arith, le, is))

pub signs_within : (k : ℕ) (bs : List ℕ) → is_end (get_or bs k 0) ≡ true → Within k (sign_word bs)
unfolding sign_word
signs_within k bs g =
    or_within k (run_at Opens 123 bs) _ (run_within is_end Opens 123 k bs refl g)
    (or_within k (run_at Closes 125 bs) _ (run_within is_end Closes 125 k bs refl g)
    (or_within k (sign_at LinkOpen (codes "[[") 2 bs) _ (sign_within is_end LinkOpen (codes "[[") 2 k bs refl refl g)
    (or_within k (sign_at LinkClose (codes "]]") 2 bs) _ (sign_within is_end LinkClose (codes "]]") 2 k bs refl refl g)
    (or_within k (sign_at Pipe (codes "|") 1 bs) (sign_at Equals (codes "=") 1 bs) (sign_within is_end Pipe (codes "|") 1 k bs refl refl g)
    (sign_within is_end Equals (codes "=") 1 k bs refl refl g)))))

-- ---- entities

abbrev EntityWithin : ℕ → Option (ℕ × ℕ) → Type 0
EntityWithin k None = Unit {0}
EntityWithin k (Some e) = e.1 ≤ k + 1

or_entity : (k : ℕ) (a b : Option (ℕ × ℕ)) → EntityWithin k a → EntityWithin k b → EntityWithin k (option_or a b)
or_entity k None b f g = g
or_entity k (Some e) b f g = f

if_entity : (k : ℕ) (t : Bool) (o : Option (ℕ × ℕ)) → (t ≡ true → EntityWithin k o) → EntityWithin k (if t then o else None)
if_entity k true o f = f refl
if_entity k false o f = tt

if_found : (k c n : ℕ) (t : Bool) → n ≤ k + 1 → EntityWithin k (if t then Some (c, n) else None)
if_found k c n true le = le
if_found k c n false le = tt

-- no byte of a name passes a test
abbrev all_lack : (ℕ → Bool) → List (List ℕ × ℕ) → Bool
all_lack test [] = true
all_lack test ((name, c) ∷ entries) = lacks test name && all_lack test entries

named_within : (test : ℕ → Bool) (entries : List (List ℕ × ℕ)) (k : ℕ) (bs : List ℕ) → all_lack test entries ≡ true → test (get_or bs k 0) ≡ true
    → EntityWithin k (named_in entries bs)
named_within test [] k bs u g = tt
named_within test ((name, c) ∷ entries) k bs u g =
    by (begins name bs) refl (named_within test entries k bs (and_right (lacks test name) (all_lack test entries) u) g)
  where
    by : (t : Bool) → begins name bs ≡ t → EntityWithin k (named_in entries bs) → EntityWithin k (if t then Some (c, length name) else named_in entries bs)
    by true e h = let le = word_before test name bs k e (and_left (lacks test name) (all_lack test entries) u) g in omega (arith, le)
    by false e h = h

names_unbroken : all_lack is_end entity_names ≡ true
unfolding entity_names
names_unbroken = refl

names_unsigned : all_lack is_sign_end entity_names ≡ true
unfolding entity_names
names_unsigned = refl

-- a run of bytes that pass no such test ends before one that does
abbrev StopsAt : (ℕ → Bool) → (ℕ → Bool) → Type 0
StopsAt test p = (x : ℕ) → test x ≡ true → p x ≡ false

stops_before : (test : ℕ → Bool) (start k : ℕ) (p : ℕ → Bool) (bs : List ℕ) → StopsAt test p → test (get_or bs k 0) ≡ true → start ≤ k
    → start + prefix_len p (drop start bs) ≤ k
stops_before test start k p bs d g le = elim (cases_lt k (start + prefix_len p (drop start bs))) [
  | inl lt ↦
      let at : start + (k - start) ≡ k = omega (arith, le) in
      let passes : p (get_or (drop start bs) (k - start) 0) ≡ true = prefix_len_passes p (drop start bs) (k - start) 0 (omega (arith, lt, le)) in
      let here : p (get_or bs k 0) ≡ true = ap p (sym (get_or-drop start bs (k - start) 0 ∙ ap (λ (n : ℕ). get_or bs n 0) at)) ∙ passes in
      let stops : p (get_or bs k 0) ≡ false = d (get_or bs k 0) g in
      absurd (cc)
  | inr shorter ↦ shorter
]

-- a line break and a `>` end it
abbrev pub StopsAtEnds : (ℕ → Bool) → Type 0
StopsAtEnds p = (p 10 ≡ false) × (p 62 ≡ false)

stops_at : (p : ℕ → Bool) → StopsAtEnds p → StopsAt is_end p
stops_at p d x e = elim (either (x == 10) (x == 62) e) [
  | inl f ↦ ap p (eqb-true x 10 f) ∙ d.0
  | inr f ↦ ap p (eqb-true x 62 f) ∙ d.1
]

stops_at_sign : (p : ℕ → Bool) → p 125 ≡ false → p 45 ≡ false → StopsAt is_sign_end p
stops_at_sign p d h x e = elim (either (x == 125) (x == 45) e) [
  | inl f ↦ ap p (eqb-true x 125 f) ∙ d
  | inr f ↦ ap p (eqb-true x 45 f) ∙ h
]

pub run_before : (start k : ℕ) (p : ℕ → Bool) (bs : List ℕ) → StopsAtEnds p → is_end (get_or bs k 0) ≡ true → start ≤ k → start + prefix_len p (drop start bs) ≤ k
run_before start k p bs d g le = stops_before is_end start k p bs (stops_at p d) g le

numbered_within : (test : ℕ → Bool) (start most base k : ℕ) (is_digit : ℕ → Bool) (w bs : List ℕ) → begins w bs ≡ true → lacks test w ≡ true → length w ≡ start
    → StopsAt test is_digit → test (get_or bs k 0) ≡ true → EntityWithin k (numbered start most base is_digit bs)
numbered_within test start most base k is_digit w bs b u is d g =
    let n : ℕ = prefix_len is_digit (drop start bs) in
    let before = word_before test w bs k b u g in
    let le : start + n ≤ k = stops_before test start k is_digit bs d g (omega (arith, before, is)) in
    let size : start + n + 1 ≤ k + 1 = omega (arith, le) in
    if_found k _ (start + n + 1) _ size

entity_before : (test : ℕ → Bool) (k : ℕ) (bs : List ℕ) → all_lack test entity_names ≡ true → lacks test (codes "&#") ≡ true → lacks test (codes "&#x") ≡ true
    → lacks test (codes "&#X") ≡ true → StopsAt test is_ascii_digit → StopsAt test is_ascii_hexdigit → test (get_or bs k 0) ≡ true → EntityWithin k (entity_at bs)
unfolding entity_at named_entity decimal_entity hex_entity
entity_before test k bs names u v w d h g =
    or_entity k (named_in entity_names bs) _ (named_within test entity_names k bs names g)
    (or_entity k (if begins (codes "&#") bs then numbered 2 7 10 is_ascii_digit bs else None) _
    (if_entity k (begins (codes "&#") bs) (numbered 2 7 10 is_ascii_digit bs)
    (λ e. numbered_within test 2 7 10 k is_ascii_digit (codes "&#") bs e u refl d g))
    (if_entity k (begins (codes "&#x") bs || begins (codes "&#X") bs) (numbered 3 6 16 is_ascii_hexdigit bs)
    (λ e. elim (either (begins (codes "&#x") bs) (begins (codes "&#X") bs) e) [
      | inl f ↦ numbered_within test 3 6 16 k is_ascii_hexdigit (codes "&#x") bs f v refl h g
      | inr f ↦ numbered_within test 3 6 16 k is_ascii_hexdigit (codes "&#X") bs f w refl h g
    ])))

pub entity_within : (k : ℕ) (bs : List ℕ) → is_end (get_or bs k 0) ≡ true → EntityWithin k (entity_at bs)
entity_within k bs g =
    entity_before is_end k bs names_unbroken refl refl refl (stops_at is_ascii_digit (refl, refl)) (stops_at is_ascii_hexdigit (refl, refl)) g

pub entity_signed : (k : ℕ) (bs : List ℕ) → is_sign_end (get_or bs k 0) ≡ true → EntityWithin k (entity_at bs)
entity_signed k bs g =
    entity_before is_sign_end k bs names_unsigned refl refl refl (stops_at_sign is_ascii_digit refl refl) (stops_at_sign is_ascii_hexdigit refl refl) g

pub entity_word_within : (k : ℕ) (o : Option (ℕ × ℕ)) → EntityWithin k o → Within k (entity_word o)
entity_word_within k None h = tt
entity_word_within k (Some e) h = h
