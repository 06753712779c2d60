-- The last byte of a lexeme that is one item, where what begins in a text ends in it: a `>` or a `;`.
use Rattle.std.proofs.Common.{arith, ◌≡◌, ℕ, zero, suc, ◌+◌, ◌-◌, ◌<◌, ◌≤◌, ◌==◌, Bool, true, false, Option, Some, None, List, [], ◌∷◌, length, get_or, take, drop, nat_lt, refl, sym, ap, ◌∙◌, length-drop}
use Rattle.std.specs.Prelude.{◌&&◌, ◌||◌, nat_le, is_some, codes, if◌then◌else◌, slice_index}
use Rattle.std.specs.Char.{is_ascii_digit, is_ascii_hexdigit}
use Rattle.std.specs.List.{prefix_len}
use Rattle.std.specs.Option.{option_map, option_or, unwrap_or}
use Rattle.std.specs.Str.Parse.{digits_value}
use Rattle.std.proofs.lemmas.List.{get_or-drop}
use Rattle.wt_span.specs.declared.form.LexKind.{LexKind}
use Rattle.wt_span.specs.declared.form.LexKind.TheVariants as lex
use Rattle.wt_span.specs.declared.form.Mode.TheVariants.{Page}
use Rattle.wt_span.specs.Bytes.{begins, through}
use Rattle.wt_span.specs.Comments.{comment_len}
use Rattle.wt_span.specs.Entities.{named_in, entity_names, named_entity, is_entity_number, numbered, decimal_entity, hex_entity, entity_at}
use Rattle.wt_span.specs.Lexemes.{Word, as_word, entity_word, run_at, sign_at, sign_word, form_at}
use Rattle.wt_span.specs.Tags.{Tag, opening_tag, closing_tag, with_inside, to_closing, is_raw_name, raw_by, raw_len, hides, is_left_out, hidden_len, opening_include, closing_include, include_at}
use Rattle.wt_lex.proofs.Begins.{and_left, and_right, is_within, byte_is, lt_is, begins_get, begins_len}
use Rattle.wt_lex.proofs.TagForms.{TagFits, OptTag, opening_fits, closing_fits, EndsTag, OptEnds, closing_ends}
use Rattle.wt_typed_blocks.specs.Reading.{stands}
use Rattle.wt_text_edit_laws.specs.TextBetween.{EndsBy, ends_comment, ends_tag, ends_here}
use Rattle.wt_beside_laws.specs.Kept.{is_lexeme_end}

-- ---- comments

-- so many bytes end with a word
record Stood (w ys : List ℕ) (n : ℕ) : Type 0 where
  some : 0 < n
  within : n ≤ length ys
  last : get_or ys (n - 1) 0 ≡ get_or w (length w - 1) 0

stood_by : (w : List ℕ) (b : ℕ) (ys : List ℕ) (t : Bool) → begins w (b ∷ ys) ≡ t → 0 < length w → (t || stands w ys) ≡ true
    → (stands w ys ≡ true → Stood w ys (through w ys)) → Stood w (b ∷ ys) (if t then length w else 1 + through w ys)
stood_by w b ys true e some h go = record {
  some = some;
  within = begins_len w (b ∷ ys) e;
  last = begins_get w (b ∷ ys) e (length w - 1) (omega (arith, some));
}
stood_by w b ys false e some h go =
    let f = go h in
    let z : 1 + through w ys - 1 ≡ suc (through w ys - 1) = omega (arith, f.some) in
    record { some = omega arith; within = omega (arith, f.within); last = ap (λ (i : ℕ). get_or (b ∷ ys) i 0) z ∙ f.last }

stood : (w ys : List ℕ) → 0 < length w → stands w ys ≡ true → Stood w ys (through w ys)
stood w [] some h = cc
stood w (b ∷ ys) some h = stood_by w b ys (begins w (b ∷ ys)) refl some h (λ f. stood w ys some f)

pub comment_ends : (bs : List ℕ) → ends_comment bs ≡ true → OptEnds bs (comment_len bs)
unfolding comment_len
comment_ends bs h = by (begins (codes "<!--") bs) refl h
  where
    by : (t : Bool) → begins (codes "<!--") bs ≡ t → (if t then stands (codes "-->") (drop 4 bs) else true) ≡ true
        → OptEnds bs (if t then Some (4 + through (codes "-->") (drop 4 bs)) else None)
    by true e h =
        let m : ℕ = through (codes "-->") (drop 4 bs) in
        let f = stood (codes "-->") (drop 4 bs) (omega arith) h in
        let le = begins_len (codes "<!--") bs e in
        let z : 4 + m - 1 ≡ 4 + (m - 1) = omega (arith, f.some) in
        record {
          some = omega arith;
          within = omega (arith, f.within, le, length-drop 4 bs);
          last = ap (λ (i : ℕ). get_or bs i 0) z ∙ sym (get_or-drop 4 bs (m - 1) 0) ∙ f.last;
        }
    by false e h = tt

-- ---- tags

pub tag_end : (bs : List ℕ) (t : Tag) → TagFits bs t → EndsTag bs t.len
tag_end bs t f = record { some = f.some; within = f.within; last = f.last }

pub inside_end : (bs : List ℕ) (t : Tag) → TagFits bs t → OptEnds bs (with_inside t bs)
unfolding with_inside
inside_end bs t f = by t.alone (to_closing t.name (drop t.len bs)) (closing_ends t.name (drop t.len bs))
  where
    by : (v : Bool) (o : Option ℕ) → OptEnds (drop t.len bs) o → OptEnds bs (if v then Some t.len else option_map (λ n. t.len + n) o)
    by true o e = tag_end bs t f
    by false None e = tt
    by false (Some n) e =
        let z : t.len + n - 1 ≡ t.len + (n - 1) = omega (arith, e.some) in
        record {
          some = omega (arith, f.some);
          within = omega (arith, f.within, e.within, length-drop t.len bs);
          last = ap (λ (i : ℕ). get_or bs i 0) z ∙ sym (get_or-drop t.len bs (n - 1) 0) ∙ e.last;
        }

pub raw_end : (bs : List ℕ) → OptEnds bs (raw_len bs)
unfolding raw_len
raw_end bs = by (opening_tag bs) (opening_fits bs)
  where
    by : (o : Option Tag) → OptTag bs o → OptEnds bs (raw_by is_raw_name o bs)
    by None f = tt
    by (Some t) f = named (is_raw_name t.name)
      where
        named : (v : Bool) → OptEnds bs (if v then with_inside t bs else None)
        named true = inside_end bs t f
        named false = tt

hidden_found : (raw hidden u : Bool) → (if raw || hidden then u else true) ≡ true → hidden ≡ true → u ≡ true
hidden_found true true u h e = h
hidden_found false true u h e = h
hidden_found raw false u h e = absurd (cc)

-- ---- the last byte

pub record LexemeEnds (bs : List ℕ) (n : ℕ) : Type 0 where
  pub some : 0 < n
  pub within : n ≤ length bs
  pub last : is_lexeme_end (get_or bs (n - 1) 0) ≡ true

-- of a lexeme that is one item; a sign ends with one of its own bytes
abbrev pub WordEnds : LexKind → List ℕ → ℕ → Type 0
WordEnds lex.Chars bs n = ⊥
WordEnds lex.CommentLine bs n = ⊥
WordEnds lex.Comment bs n = LexemeEnds bs n
WordEnds lex.Raw bs n = LexemeEnds bs n
WordEnds lex.Include bs n = LexemeEnds bs n
WordEnds lex.Hidden bs n = LexemeEnds bs n
WordEnds (lex.Entity c) bs n = LexemeEnds bs n
WordEnds lex.Opens bs n = Unit {0}
WordEnds lex.Closes bs n = Unit {0}
WordEnds lex.LinkOpen bs n = Unit {0}
WordEnds lex.LinkClose bs n = Unit {0}
WordEnds lex.Pipe bs n = Unit {0}
WordEnds lex.Equals bs n = Unit {0}

abbrev pub OptWordEnds : List ℕ → Option Word → Type 0
OptWordEnds bs None = Unit {0}
OptWordEnds bs (Some (kind, n)) = WordEnds kind bs n

or_ends : (bs : List ℕ) (a b : Option Word) → OptWordEnds bs a → OptWordEnds bs b → OptWordEnds bs (option_or a b)
or_ends bs None b f g = g
or_ends bs (Some w) b f g = f

greater_ends : (bs : List ℕ) (n : ℕ) → EndsTag bs n → LexemeEnds bs n
greater_ends bs n e = record { some = e.some; within = e.within; last = ap is_lexeme_end e.last }

comment_word : (bs : List ℕ) (o : Option ℕ) → OptEnds bs o → OptWordEnds bs (as_word lex.Comment o)
comment_word bs None e = tt
comment_word bs (Some n) e = greater_ends bs n e

raw_word : (bs : List ℕ) (o : Option ℕ) → OptEnds bs o → OptWordEnds bs (as_word lex.Raw o)
raw_word bs None e = tt
raw_word bs (Some n) e = greater_ends bs n e

-- ---- include tags

opening_word : (bs : List ℕ) (o : Option Tag) → OptTag bs o → ends_tag o bs ≡ true → OptWordEnds bs (opening_include Page o bs)
opening_word bs None f h = tt
opening_word bs (Some t) f h = by (hides Page t.name) refl (is_left_out Page t.name)
  where
    hidden : (o : Option ℕ) → OptEnds bs o → is_some o ≡ true → LexemeEnds bs (unwrap_or o (length bs))
    hidden None e i = absurd (cc)
    hidden (Some n) e i = greater_ends bs n e

    by : (v : Bool) → hides Page t.name ≡ v → (u : Bool) → OptWordEnds bs (if v then Some (lex.Hidden, hidden_len t bs) else (if u then Some (lex.Include, t.len) else None))
    by true e u = hidden (with_inside t bs) (inside_end bs t f) (hidden_found (is_raw_name t.name) (hides Page t.name) (is_some (with_inside t bs)) h e)
    by false e true = greater_ends bs t.len (tag_end bs t f)
    by false e false = tt

closing_word : (bs : List ℕ) (o : Option Tag) → OptTag bs o → OptWordEnds bs (closing_include Page o)
closing_word bs None f = tt
closing_word bs (Some t) f = by (is_left_out Page t.name)
  where
    by : (v : Bool) → OptWordEnds bs (if v then Some (lex.Include, t.len) else None)
    by true = greater_ends bs t.len (tag_end bs t f)
    by false = tt

include_word : (bs : List ℕ) → ends_tag (opening_tag bs) bs ≡ true → OptWordEnds bs (include_at Page bs)
unfolding include_at
include_word bs h =
    or_ends bs (opening_include Page (opening_tag bs) bs) (closing_include Page (closing_tag bs)) (opening_word bs (opening_tag bs) (opening_fits bs) h)
    (closing_word bs (closing_tag bs) (closing_fits bs))

-- ---- references

-- so many bytes end with a `;`
pub record SemicolonEnds (bs : List ℕ) (n : ℕ) : Type 0 where
  pub some : 0 < n
  pub within : n ≤ length bs
  pub last : get_or bs (n - 1) 0 ≡ 59

abbrev pub OptReference : List ℕ → Option (ℕ × ℕ) → Type 0
OptReference bs None = Unit {0}
OptReference bs (Some e) = SemicolonEnds bs e.1

or_reference : (bs : List ℕ) (a b : Option (ℕ × ℕ)) → OptReference bs a → OptReference bs b → OptReference bs (option_or a b)
or_reference bs None b f g = g
or_reference bs (Some e) b f g = f

ends_semicolon : List ℕ → Bool
ends_semicolon w = nat_lt 0 (length w) && get_or w (length w - 1) 0 == 59

abbrev all_semicolons : List (List ℕ × ℕ) → Bool
all_semicolons [] = true
all_semicolons ((name, c) ∷ entries) = ends_semicolon name && all_semicolons entries

name_ends : (w bs : List ℕ) → ends_semicolon w ≡ true → begins w bs ≡ true → SemicolonEnds bs (length w)
unfolding ends_semicolon
name_ends w bs s e =
    let some = lt_is 0 (length w) (and_left (nat_lt 0 (length w)) (get_or w (length w - 1) 0 == 59) s) in
    let last : get_or w (length w - 1) 0 ≡ 59 = byte_is w (length w - 1) 59 (and_right (nat_lt 0 (length w)) (get_or w (length w - 1) 0 == 59) s) in
    let here : get_or bs (length w - 1) 0 ≡ 59 = begins_get w bs e (length w - 1) (omega (arith, some)) ∙ last in
    record { some = some; within = begins_len w bs e; last = here }

named_ends : (entries : List (List ℕ × ℕ)) (bs : List ℕ) → all_semicolons entries ≡ true → OptReference bs (named_in entries bs)
named_ends [] bs s = tt
named_ends ((name, c) ∷ entries) bs s = by (begins name bs) refl (named_ends entries bs (and_right (ends_semicolon name) (all_semicolons entries) s))
  where
    by : (t : Bool) → begins name bs ≡ t → OptReference bs (named_in entries bs) → OptReference bs (if t then Some (c, length name) else named_in entries bs)
    by true e h = name_ends name bs (and_left (ends_semicolon name) (all_semicolons entries) s) e
    by false e h = h

names_end : all_semicolons entity_names ≡ true
unfolding entity_names ends_semicolon
names_end = refl

number_ends : (start most base : ℕ) (is_digit : ℕ → Bool) (bs : List ℕ) → OptReference bs (numbered start most base is_digit bs)
number_ends start most base is_digit bs =
    let n : ℕ = prefix_len is_digit (drop start bs) in
    let c : ℕ = digits_value base (take n (drop start bs)) in
    by (nat_lt 0 n && (nat_le n most && (slice_index bs (start + n) == 59 && is_entity_number c))) refl
  where
    by : (t : Bool) → (nat_lt 0 (prefix_len is_digit (drop start bs)) && (nat_le (prefix_len is_digit (drop start bs)) most
        && (slice_index bs (start + prefix_len is_digit (drop start bs)) == 59
        && is_entity_number (digits_value base (take (prefix_len is_digit (drop start bs)) (drop start bs)))))) ≡ t
        → OptReference bs (if t then Some (digits_value base (take (prefix_len is_digit (drop start bs)) (drop start bs)), start + prefix_len is_digit (drop start bs) + 1) else None)
    by true e =
        let n : ℕ = prefix_len is_digit (drop start bs) in
        let last : get_or bs (start + n) 0 ≡ 59 =
        byte_is bs (start + n) 59 (and_left (slice_index bs (start + n) == 59) _ (and_right (nat_le n most) _ (and_right (nat_lt 0 n) _ e))) in
        let there = is_within bs (start + n) 59 last (omega arith) in
        let z : start + n + 1 - 1 ≡ start + n = omega arith in
        record { some = omega arith; within = omega (arith, there); last = ap (λ (i : ℕ). get_or bs i 0) z ∙ last }
    by false e = tt

if_reference : (bs : List ℕ) (t : Bool) (o : Option (ℕ × ℕ)) → OptReference bs o → OptReference bs (if t then o else None)
if_reference bs true o h = h
if_reference bs false o h = tt

pub reference_ends : (bs : List ℕ) → OptReference bs (entity_at bs)
unfolding entity_at named_entity decimal_entity hex_entity
reference_ends bs =
    or_reference bs (named_in entity_names bs) _ (named_ends entity_names bs names_end)
    (or_reference bs (if begins (codes "&#") bs then numbered 2 7 10 is_ascii_digit bs else None) _
    (if_reference bs (begins (codes "&#") bs) (numbered 2 7 10 is_ascii_digit bs) (number_ends 2 7 10 is_ascii_digit bs))
    (if_reference bs (begins (codes "&#x") bs || begins (codes "&#X") bs) (numbered 3 6 16 is_ascii_hexdigit bs) (number_ends 3 6 16 is_ascii_hexdigit bs)))

pub reference_word : (bs : List ℕ) (o : Option (ℕ × ℕ)) → OptReference bs o → OptWordEnds bs (entity_word o)
reference_word bs None h = tt
reference_word bs (Some e) h = record { some = h.some; within = h.within; last = ap is_lexeme_end h.last }

-- ---- signs

if_sign : (bs : List ℕ) (t : Bool) (kind : LexKind) (n : ℕ) → WordEnds kind bs n → OptWordEnds bs (if t then Some (kind, n) else None)
if_sign bs true kind n h = h
if_sign bs false kind n h = tt

pub sign_ends : (bs : List ℕ) → OptWordEnds bs (sign_word bs)
unfolding sign_word
sign_ends bs =
    or_ends bs (run_at lex.Opens 123 bs) _ (if_sign bs (nat_lt 1 (prefix_len (λ b. b == 123) bs)) lex.Opens (prefix_len (λ b. b == 123) bs) tt)
    (or_ends bs (run_at lex.Closes 125 bs) _ (if_sign bs (nat_lt 1 (prefix_len (λ b. b == 125) bs)) lex.Closes (prefix_len (λ b. b == 125) bs) tt)
    (or_ends bs (sign_at lex.LinkOpen (codes "[[") 2 bs) _ (if_sign bs (begins (codes "[[") bs) lex.LinkOpen 2 tt)
    (or_ends bs (sign_at lex.LinkClose (codes "]]") 2 bs) _ (if_sign bs (begins (codes "]]") bs) lex.LinkClose 2 tt)
    (or_ends bs (sign_at lex.Pipe (codes "|") 1 bs) (sign_at lex.Equals (codes "=") 1 bs) (if_sign bs (begins (codes "|") bs) lex.Pipe 1 tt)
    (if_sign bs (begins (codes "=") bs) lex.Equals 1 tt)))))

-- ---- any lexeme, where no line break stands before it

pub word_ends : (bs : List ℕ) → ends_here bs ≡ true → OptWordEnds bs (form_at Page false bs)
unfolding form_at
word_ends bs h =
    let comment = and_left (ends_comment bs) (ends_tag (opening_tag bs) bs) h in
    let tag = and_right (ends_comment bs) (ends_tag (opening_tag bs) bs) h in
    or_ends bs (as_word lex.Comment (comment_len bs)) _ (comment_word bs (comment_len bs) (comment_ends bs comment))
    (or_ends bs (as_word lex.Raw (raw_len bs)) _ (raw_word bs (raw_len bs) (raw_end bs))
    (or_ends bs (include_at Page bs) _ (include_word bs tag)
    (or_ends bs (entity_word (entity_at bs)) (sign_word bs) (reference_word bs (entity_at bs) (reference_ends bs)) (sign_ends bs))))

-- ---- the bytes of a word

pub ends_taken : (test : ℕ → Bool) (j : ℕ) (bs : List ℕ) → j < length bs → test (get_or bs j 0) ≡ true → EndsBy test (take (suc j) bs)
ends_taken test j [] lt e = absurd (omega (arith, lt))
ends_taken test zero (b ∷ []) lt e = e
ends_taken test zero (b ∷ c ∷ cs) lt e = e
ends_taken test (suc j) (b ∷ []) lt e = absurd (omega (arith, lt))
ends_taken test (suc j) (b ∷ c ∷ cs) lt e = ends_taken test j (c ∷ cs) (omega (arith, lt)) e
