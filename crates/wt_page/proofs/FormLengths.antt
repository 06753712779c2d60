-- Each whole form has two bytes or more.
use Rattle.std.proofs.Common.{◌≡◌, ℕ, zero, suc, ◌+◌, ◌-◌, ◌<◌, Bool, true, false, Option, Some, None, List, [], ◌∷◌, length, take, drop, get_or, codes, nat_lt, nat_le, refl, sym, ap, ◌∙◌, subst, arith, ⊎_elim, length-drop}
use Rattle.std.specs.Prelude.{◌&&◌, ◌||◌, ◌==◌, if◌then◌else◌, slice_index}
use Rattle.std.specs.Char.{is_ascii_digit, is_ascii_hexdigit}
use Rattle.std.specs.List.{list_all, prefix_len}
use Rattle.std.specs.Option.{option_or}
use Rattle.std.specs.Str.Parse.{digits_value}
use Rattle.std.proofs.lemmas.Bool.{and_parts}
use Rattle.wt_span.specs.declared.form.ItemForm.{ItemForm}
use Rattle.wt_span.specs.declared.form.ItemForm.TheVariants as form
use Rattle.wt_span.specs.declared.form.LexKind.{LexKind}
use Rattle.wt_span.specs.declared.form.Mode.{Mode}
use Rattle.wt_span.specs.declared.form.Mode.TheVariants as mode
use Rattle.wt_span.specs.declared.form.Mode.TheVariants.{Page}
use Rattle.wt_span.specs.Lexemes.{Word, words}
use Rattle.wt_span.specs.Braces.{call, members, width_of_all, reduced, reduced_onto, IsCall}
use Rattle.wt_span.specs.Bytes.{begins, is_break, through, blank_len}
use Rattle.wt_span.specs.Comments.{comment_len, remarks_len, comment_line_len}
use Rattle.wt_span.specs.Entities.{named_in, entity_names, named_entity, is_entity_number, numbered as numbered_entity, decimal_entity, hex_entity, entity_at}
use Rattle.wt_span.specs.Tags.{Tag, opening_tag, closing_tag, raw_by, opening_include, closing_include, include_at}
use Rattle.wt_span.specs.Whole.{IsWhole}
use Rattle.wt_lex.specs.Reading.{AreLexemes}
use Rattle.wt_lex.proofs.Begins.{begins_len}
use Rattle.wt_lex.proofs.Readings.{words_are}
use Rattle.wt_lex.proofs.TagForms.{OptTag, TagFits, opening_fits, closing_fits}
use Rattle.wt_lex.proofs.WholeTags.{raw_at}
use Rattle.wt_attributes.proofs.Fronts.{some_same, lt_of_test}
use Rattle.wt_braces.specs.Alone.{IsOneCall}
use Rattle.wt_braces.specs.Words.{total_width}
use Rattle.wt_braces.proofs.AloneLaws.{one_call}
use Rattle.wt_braces.proofs.Sizes.{AreWide, wide_reduced, wide_text}
use Rattle.wt_braces.proofs.TextLaws.{text_width}

-- ---- tags

tag_by : (bs : List ℕ) (n : ℕ) → 0 < n → get_or bs 0 0 ≡ 60 → get_or bs (n - 1) 0 ≡ 62 → 1 < n
tag_by bs zero some first last = absurd (omega arith)
tag_by bs (suc zero) some first last = absurd (omega (arith, first, last))
tag_by bs (suc (suc n)) some first last = omega arith

pub tag_long : (bs : List ℕ) (t : Tag) → TagFits bs t → 1 < length bs
tag_long bs t f = omega (arith, tag_by bs t.len f.some f.first f.last, f.within)

pub opening_long : (bs : List ℕ) (t : Tag) → opening_tag bs ≡ Some t → 1 < length bs
opening_long bs t e = tag_long bs t (subst (OptTag bs) e (opening_fits bs))

closing_long : (bs : List ℕ) (t : Tag) → closing_tag bs ≡ Some t → 1 < length bs
closing_long bs t e = tag_long bs t (subst (OptTag bs) e (closing_fits bs))

raw_long : (named : List ℕ → Bool) (bs : List ℕ) → raw_by named (opening_tag bs) bs ≡ Some (length bs) → 1 < length bs
raw_long named bs h = let q = raw_at named (opening_tag bs) bs (length bs) h in opening_long bs q.0 q.1

include_by : (k : LexKind) (bs : List ℕ) (o p : Option Tag) → opening_tag bs ≡ o → closing_tag bs ≡ p
    → option_or (opening_include Page o bs) (closing_include Page p) ≡ Some (k, length bs) → 1 < length bs
include_by k bs None None e f h = cc
include_by k bs None (Some t) e f h = closing_long bs t f
include_by k bs (Some t) p e f h = opening_long bs t e

include_long : (k : LexKind) (bs : List ℕ) → include_at Page bs ≡ Some (k, length bs) → 1 < length bs
unfolding include_at
include_long k bs h = include_by k bs (opening_tag bs) (closing_tag bs) refl refl h

-- ---- comments

comment_long : (bs : List ℕ) → comment_len bs ≡ Some (length bs) → 1 < length bs
unfolding comment_len
comment_long bs h = by_test (begins (codes "<!--") bs) refl h
  where
    by_test : (t : Bool) → begins (codes "<!--") bs ≡ t → (if t then Some (4 + through (codes "-->") (drop 4 bs)) else None) ≡ Some (length bs) → 1 < length bs
    by_test true e i = omega (arith, begins_len (codes "<!--") bs e)
    by_test false e i = cc

line_long : (bs : List ℕ) → comment_line_len bs ≡ Some (length bs) → 1 < length bs
unfolding comment_line_len
line_long bs h = by_test (nat_lt (blank_len bs) (remarks_len 0 bs)) (is_break (slice_index bs (remarks_len 0 bs))) refl h
  where
    by_test : (t b : Bool) → nat_lt (blank_len bs) (remarks_len 0 bs) ≡ t → (if t && b then Some (remarks_len 0 bs + 1) else None) ≡ Some (length bs)
        → 1 < length bs
    by_test true true e i = let l : blank_len bs < remarks_len 0 bs = lt_of_test (blank_len bs) (remarks_len 0 bs) e in
        let n : remarks_len 0 bs + 1 ≡ length bs = some_same (remarks_len 0 bs + 1) (length bs) i in omega (arith, l, n)
    by_test true false e i = cc
    by_test false b e i = cc

-- ---- entities

abbrev OptLong : Option (ℕ × ℕ) → Type 0
OptLong None = Unit {0}
OptLong (Some e) = 1 < e.1

or_long : (a b : Option (ℕ × ℕ)) → OptLong a → OptLong b → OptLong (option_or a b)
or_long None b h g = g
or_long (Some e) b h g = h

entry_long : (t : Bool) (c n : ℕ) (o : Option (ℕ × ℕ)) → 1 < n → OptLong o → OptLong (if t then Some (c, n) else o)
entry_long true c n o h g = h
entry_long false c n o h g = g

named_long : (es : List (List ℕ × ℕ)) (bs : List ℕ) → list_all (λ e. nat_lt 1 (length e.0)) es ≡ true → OptLong (named_in es bs)
named_long [] bs h = tt
named_long ((name, c) ∷ es) bs h =
    let q = and_parts _ _ h in entry_long (begins name bs) c (length name) (named_in es bs) (lt_of_test 1 (length name) q.0) (named_long es bs q.1)

names_long : list_all (λ e. nat_lt 1 (length e.0)) entity_names ≡ true
unfolding entity_names
names_long = refl

numbered_long : (start most base : ℕ) (is_digit : ℕ → Bool) (bs : List ℕ) → 0 < start → OptLong (numbered_entity start most base is_digit bs)
numbered_long start most base is_digit bs some =
    let n : ℕ = prefix_len is_digit (drop start bs) in
    entry_long (nat_lt 0 n && (nat_le n most && (slice_index bs (start + n) == 59 && is_entity_number (digits_value base (take n (drop start bs))))))
    (digits_value base (take n (drop start bs))) (start + n + 1) None (omega (arith, some)) tt

if_long : (t : Bool) (o : Option (ℕ × ℕ)) → OptLong o → OptLong (if t then o else None)
if_long true o h = h
if_long false o h = tt

entity_long : (bs : List ℕ) → OptLong (entity_at bs)
unfolding entity_at named_entity decimal_entity hex_entity
entity_long bs =
    or_long (named_in entity_names bs) _ (named_long entity_names bs names_long)
    (or_long (if begins (codes "&#") bs then numbered_entity 2 7 10 is_ascii_digit bs else None)
    (if begins (codes "&#x") bs || begins (codes "&#X") bs then numbered_entity 3 6 16 is_ascii_hexdigit bs else None)
    (if_long (begins (codes "&#") bs) _ (numbered_long 2 7 10 is_ascii_digit bs (omega arith)))
    (if_long (begins (codes "&#x") bs || begins (codes "&#X") bs) _ (numbered_long 3 6 16 is_ascii_hexdigit bs (omega arith))))

-- ---- calls

lexemes_width : (m : Mode) (after : Bool) (ws : List Word) (bs : List ℕ) → AreLexemes m after ws bs → total_width ws ≡ length bs
lexemes_width m after [] bs a = ap length (sym a)
lexemes_width m after ((kind, n) ∷ ws) bs a =
    omega (arith, lexemes_width m (is_break (slice_index bs (n - 1))) ws (drop n bs) a.4, length-drop n bs, a.1)

members_wide : (ws : List Word) → AreWide (members (reduced ws))
unfolding reduced
members_wide ws = wide_text (reduced_onto [] ws) (wide_reduced [] ws tt)

call_long : (m : Mode) (bs : List ℕ) → IsCall m bs → 1 < length bs
call_long m bs h =
    let c : IsOneCall m bs = one_call m bs h in
    let ws = words m bs in
    let wide : AreWide (members (call c.braces c.inside ∷ [])) = subst (λ xs. AreWide (members xs)) c.is (members_wide ws) in
    let width : width_of_all (members (call c.braces c.inside ∷ [])) ≡ length bs =
    ap (λ ms. width_of_all (members ms)) (sym c.is) ∙ text_width ws ∙ lexemes_width m false ws bs (words_are m bs) in
    omega (arith, wide.0.0, width)

-- ---- any form

-- a whole form, in whatever bytes
abbrev pub IsFormOf : ItemForm → List ℕ → Type 0
IsFormOf form.Chars bs = ⊥
IsFormOf f bs = IsWhole f bs

entity_form_long : (c : ℕ) (bs : List ℕ) → entity_at bs ≡ Some (c, length bs) → 1 < length bs
entity_form_long c bs h = subst OptLong h (entity_long bs)

pub form_long : (f : ItemForm) (bs : List ℕ) → IsFormOf f bs → 1 < length bs
form_long form.Chars bs h = absurd h
form_long (form.Entity c) bs h = entity_form_long c bs h
form_long form.Nowiki bs h = raw_long _ bs h
form_long form.Extension bs h = raw_long _ bs h
form_long form.Function bs h = ⊎_elim (λ e. call_long mode.Page bs e) (λ e. call_long mode.Template bs e) h
form_long form.Comment bs h = ⊎_elim (λ e. comment_long bs e) (λ e. line_long bs e) h
form_long form.Include bs h = include_long _ bs h
form_long form.Hidden bs h = include_long _ bs h
form_long form.EmptyCall bs h = call_long mode.Page bs h

-- whatever the form is
pub whole_some : (f : ItemForm) (bs : List ℕ) → IsWhole f bs → 0 < length bs
whole_some form.Chars bs h = h
whole_some (form.Entity c) bs h = omega (arith, form_long (form.Entity c) bs h)
whole_some form.Nowiki bs h = omega (arith, form_long form.Nowiki bs h)
whole_some form.Extension bs h = omega (arith, form_long form.Extension bs h)
whole_some form.Function bs h = omega (arith, form_long form.Function bs h)
whole_some form.Comment bs h = omega (arith, form_long form.Comment bs h)
whole_some form.Include bs h = omega (arith, form_long form.Include bs h)
whole_some form.Hidden bs h = omega (arith, form_long form.Hidden bs h)
whole_some form.EmptyCall bs h = omega (arith, form_long form.EmptyCall bs h)
