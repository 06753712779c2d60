-- Entities and signs, and what any form has.
use Rattle.std.proofs.Common.{◌≡◌, ℕ, ◌+◌, ◌-◌, ◌<◌, ◌==◌, Bool, true, false, Option, Some, None, List, [], ◌∷◌, length, get_or, take, drop, nat_lt, nat_le, refl, ap, subst, inr, arith, codes, ◌∙◌, sym}
use Rattle.std.specs.Prelude.{if◌then◌else◌, ◌&&◌, ◌||◌}
use Rattle.std.specs.Option.{option_or}
use Rattle.std.specs.Char.{is_ascii_digit, is_ascii_hexdigit}
use Rattle.std.specs.List.{prefix_len, list_all}
use Rattle.std.specs.Str.Parse.{digits_value}
use Rattle.std.proofs.lemmas.Bool.{eqb-true}
use Rattle.std.proofs.lemmas.List.Sums.{prefix_len_passes, prefix_len-le-length}
use Rattle.wt_span.specs.declared.form.Mode.{Mode}
use Rattle.wt_span.specs.declared.form.LexKind.{LexKind}
use Rattle.wt_span.specs.declared.form.LexKind.TheVariants.{Comment, Raw, Entity, Opens, Closes, LinkOpen, LinkClose, Pipe, Equals}
use Rattle.wt_span.specs.Bytes.{begins}
use Rattle.wt_span.specs.Comments.{comment_len}
use Rattle.wt_span.specs.Tags.{raw_len, include_at}
use Rattle.wt_span.specs.Entities.{named_in, entity_names, named_entity, is_entity_number, numbered, decimal_entity, hex_entity, entity_at}
use Rattle.wt_span.specs.Lexemes.{Word, as_word, run_at, sign_at, sign_word, entity_word, comment_line_word, form_at}
use Rattle.wt_lex.specs.Reading.{IsForm}
use Rattle.wt_lex.specs.Words.{is_form_byte, may_begin}
use Rattle.wt_lex.proofs.Begins.{and_left, and_right, lt_is, is_within, byte_is, begins_get, begins_len}
use Rattle.wt_lex.proofs.Forms.{Fits, FormFits, OptForm, or_form, if_form, form_by, as_form, comment_fits, comment_line_fits}
use Rattle.wt_lex.proofs.TagForms.{raw_fits, include_fits}

-- a word with a first byte of a form and an ASCII last one
abbrev has_ends : List ℕ → Bool
has_ends word = nat_lt 0 (length word) && (is_form_byte (get_or word 0 0) && nat_lt (get_or word (length word - 1) 0) 128)

word_fits : (word bs : List ℕ) → has_ends word ≡ true → begins word bs ≡ true → Fits bs (length word)
word_fits word bs h e =
    let pos = lt_is 0 (length word) (and_left (nat_lt 0 (length word)) _ h) in
    let both = and_right (nat_lt 0 (length word)) _ h in
    let low = and_left (is_form_byte (get_or word 0 0)) _ both in
    let high = lt_is (get_or word (length word - 1) 0) 128 (and_right (is_form_byte (get_or word 0 0)) _ both) in
    let first = begins_get word bs e 0 pos in
    let last = begins_get word bs e (length word - 1) (omega arith) in
    record { some = pos; within = begins_len word bs e; begins = ap is_form_byte first ∙ low; ends = inr (omega arith) }

-- ---- entities

abbrev pub OptEntity : List ℕ → Option (ℕ × ℕ) → Type 0
OptEntity bs None = Unit {0}
OptEntity bs (Some e) = Fits bs e.1 × (get_or bs 0 0 ≡ 38)

or_entity : (bs : List ℕ) (a b : Option (ℕ × ℕ)) → OptEntity bs a → OptEntity bs b → OptEntity bs (option_or a b)
or_entity bs None b f g = g
or_entity bs (Some e) b f g = f

if_entity : (bs : List ℕ) (t : Bool) (o : Option (ℕ × ℕ)) → (t ≡ true → OptEntity bs o) → OptEntity bs (if t then o else None)
if_entity bs true o f = f refl
if_entity bs false o f = tt

entry_by : (bs : List ℕ) (t : Bool) (name : List ℕ) (c : ℕ) (o : Option (ℕ × ℕ))
    → (t ≡ true → Fits bs (length name) × (get_or bs 0 0 ≡ 38)) → OptEntity bs o → OptEntity bs (if t then Some (c, length name) else o)
entry_by bs true name c o f g = f refl
entry_by bs false name c o f g = g

-- a name that can be an entity's
abbrev is_name : List ℕ → Bool
is_name name = has_ends name && get_or name 0 0 == 38

name_fits : (name bs : List ℕ) → is_name name ≡ true → begins name bs ≡ true → Fits bs (length name) × (get_or bs 0 0 ≡ 38)
name_fits name bs h e =
    let ends = and_left (has_ends name) _ h in
    let pos = lt_is 0 (length name) (and_left (nat_lt 0 (length name)) _ ends) in
    (word_fits name bs ends e, begins_get name bs e 0 pos ∙ byte_is name 0 38 (and_right (has_ends name) _ h))

table_fits : (table : List (List ℕ × ℕ)) (bs : List ℕ) → list_all (λ e. is_name e.0) table ≡ true → OptEntity bs (named_in table bs)
table_fits [] bs h = tt
table_fits ((name, c) ∷ entries) bs h =
    entry_by bs (begins name bs) name c (named_in entries bs) (name_fits name bs (and_left (is_name name) _ h))
    (table_fits entries bs (and_right (is_name name) _ h))

names_fit : (bs : List ℕ) → OptEntity bs (named_entity bs)
unfolding named_entity entity_names
names_fit bs = table_fits entity_names bs refl

numbered_fits : (start most base : ℕ) (is_digit : ℕ → Bool) (bs : List ℕ) → get_or bs 0 0 ≡ 38 → OptEntity bs (numbered start most base is_digit bs)
numbered_fits start most base is_digit bs first =
    let n = prefix_len is_digit (drop start bs) in
    let c = digits_value base (take n (drop start bs)) in
    if_entity bs (nat_lt 0 n && (nat_le n most && (get_or bs (start + n) 0 == 59 && is_entity_number c))) (Some (c, start + n + 1))
    (λ e.
    let last = byte_is bs (start + n) 59 (and_left (get_or bs (start + n) 0 == 59) _ (and_right (nat_le n most) _ (and_right (nat_lt 0 n) _ e))) in
    let there = is_within bs (start + n) 59 last (omega arith) in
    let z : start + n + 1 - 1 ≡ start + n = omega arith in
    let low : get_or bs (start + n + 1 - 1) 0 < 128 = omega (arith, ap (λ k. get_or bs k 0) z) in
    (record { some = omega arith; within = omega arith; begins = ap is_form_byte first; ends = inr low }, first))

decimal_fits : (bs : List ℕ) → OptEntity bs (decimal_entity bs)
unfolding decimal_entity
decimal_fits bs = if_entity bs (begins (codes "&#") bs) (numbered 2 7 10 is_ascii_digit bs)
    (λ e. numbered_fits 2 7 10 is_ascii_digit bs (begins_get (codes "&#") bs e 0 (omega arith)))

or_first : (a b : Bool) (bs : List ℕ) → (a ≡ true → get_or bs 0 0 ≡ 38) → (b ≡ true → get_or bs 0 0 ≡ 38) → (a || b) ≡ true → get_or bs 0 0 ≡ 38
or_first true b bs f g e = f refl
or_first false b bs f g e = g e

hex_fits : (bs : List ℕ) → OptEntity bs (hex_entity bs)
unfolding hex_entity
hex_fits bs =
    if_entity bs (begins (codes "&#x") bs || begins (codes "&#X") bs) (numbered 3 6 16 is_ascii_hexdigit bs)
    (λ e.
    numbered_fits 3 6 16 is_ascii_hexdigit bs
    (or_first (begins (codes "&#x") bs) (begins (codes "&#X") bs) bs (λ f. begins_get (codes "&#x") bs f 0 (omega arith))
    (λ f. begins_get (codes "&#X") bs f 0 (omega arith)) e))

pub entity_fits : (bs : List ℕ) → OptEntity bs (entity_at bs)
unfolding entity_at
entity_fits bs = or_entity bs (named_entity bs) _ (names_fit bs) (or_entity bs (decimal_entity bs) (hex_entity bs) (decimal_fits bs) (hex_fits bs))

entity_form : (after : Bool) (bs : List ℕ) (o : Option (ℕ × ℕ)) → OptEntity bs o → OptForm after bs (entity_word o)
entity_form after bs None f = tt
entity_form after bs (Some e) f = form_by after bs (Entity e.0) e.1 tt f.0

entity_none_by : (bs : List ℕ) (o : Option (ℕ × ℕ)) → OptEntity bs o → (get_or bs 0 0 ≡ 38 → ⊥) → o ≡ None
entity_none_by bs None f h = refl
entity_none_by bs (Some e) f h = absurd (h f.1)

-- an entity begins with `&`
pub entity_none : (bs : List ℕ) → (get_or bs 0 0 ≡ 38 → ⊥) → entity_at bs ≡ None
entity_none bs h = entity_none_by bs (entity_at bs) (entity_fits bs) h

-- ---- signs

run_fits : (after : Bool) (kind : LexKind) (byte : ℕ) (bs : List ℕ) → IsForm kind → byte < 128 → is_form_byte byte ≡ true
    → OptForm after bs (run_at kind byte bs)
run_fits after kind byte bs is low first_byte =
    let n = prefix_len (λ b. b == byte) bs in
    if_form after bs (nat_lt 1 n) (Some (kind, n))
    (λ e.
    let more = lt_is 1 n e in
    let first : get_or bs 0 0 ≡ byte = eqb-true (get_or bs 0 0) byte (prefix_len_passes (λ b. b == byte) bs 0 0 (omega arith)) in
    let last : get_or bs (n - 1) 0 ≡ byte = eqb-true (get_or bs (n - 1) 0) byte (prefix_len_passes (λ b. b == byte) bs (n - 1) 0 (omega arith)) in
    form_by after bs kind n is (record {
      some = omega arith;
      within = prefix_len-le-length (λ b. b == byte) bs;
      begins =
          ap is_form_byte first ∙ first_byte;
      ends = inr (omega arith);
    }))

sign_fits : (after : Bool) (kind : LexKind) (sign : List ℕ) (bs : List ℕ) → IsForm kind → has_ends sign ≡ true
    → OptForm after bs (sign_at kind sign (length sign) bs)
sign_fits after kind sign bs is h = if_form after bs (begins sign bs) (Some (kind, length sign))
    (λ e. form_by after bs kind (length sign) is (word_fits sign bs h e))

pub signs_fit : (after : Bool) (bs : List ℕ) → OptForm after bs (sign_word bs)
unfolding sign_word
signs_fit after bs =
    or_form after bs (run_at Opens 123 bs) _ (run_fits after Opens 123 bs tt (omega arith) refl)
    (or_form after bs (run_at Closes 125 bs) _ (run_fits after Closes 125 bs tt (omega arith) refl)
    (or_form after bs (sign_at LinkOpen (codes "[[") 2 bs) _ (sign_fits after LinkOpen (codes "[[") bs tt refl)
    (or_form after bs (sign_at LinkClose (codes "]]") 2 bs) _ (sign_fits after LinkClose (codes "]]") bs tt refl)
    (or_form after bs (sign_at Pipe (codes "|") 1 bs) (sign_at Equals (codes "=") 1 bs)
    (sign_fits after Pipe (codes "|") bs tt refl) (sign_fits after Equals (codes "=") bs tt refl)))))

-- ---- any form

comment_line_form : (after : Bool) (bs : List ℕ) → OptForm after bs (comment_line_word after bs)
comment_line_form true bs = comment_line_fits bs
comment_line_form false bs = tt

all_fit : (mode : Mode) (after : Bool) (bs : List ℕ) → OptForm after bs (form_at mode after bs)
unfolding form_at
all_fit mode after bs =
    or_form after bs (comment_line_word after bs) _ (comment_line_form after bs)
    (or_form after bs (as_word Comment (comment_len bs)) _ (as_form after bs Comment (comment_len bs) tt (comment_fits bs))
    (or_form after bs (as_word Raw (raw_len bs)) _ (as_form after bs Raw (raw_len bs) tt (raw_fits bs))
    (or_form after bs (include_at mode bs) _ (include_fits after mode bs)
    (or_form after bs (entity_word (entity_at bs)) (sign_word bs) (entity_form after bs (entity_at bs) (entity_fits bs)) (signs_fit after bs)))))

pub form_fits : (mode : Mode) (after : Bool) (bs : List ℕ) (w : Word) → form_at mode after bs ≡ Some w → FormFits after bs w
form_fits mode after bs w e = let P : Option Word → Type 0 = λ o. OptForm after bs o in subst P e (all_fit mode after bs)

none_by : (mode : Mode) (after : Bool) (bs : List ℕ) (o : Option Word) → form_at mode after bs ≡ o
    → may_begin after (get_or bs 0 0) ≡ false → form_at mode after bs ≡ None
none_by mode after bs None e h = e
none_by mode after bs (Some w) e h = let f = form_fits mode after bs w e in let no : true ≡ false = sym f.begins ∙ h in cc

-- no form begins with another byte
pub no_form : (mode : Mode) (after : Bool) (bs : List ℕ) → may_begin after (get_or bs 0 0) ≡ false → form_at mode after bs ≡ None
no_form mode after bs h = none_by mode after bs (form_at mode after bs) refl h
