-- Tags, with what they hold: where they begin and end.
use Rattle.std.proofs.Common.{◌≡◌, ℕ, suc, ◌+◌, ◌-◌, ◌<◌, ◌≤◌, ◌==◌, Bool, true, false, Option, Some, None, List, [], ◌∷◌, length, get_or, take, drop, nat_lt, refl, sym, ap, ◌∙◌, inl, inr, arith, length-drop, length-take, codes}
use Rattle.std.specs.Prelude.{if◌then◌else◌, ◌&&◌}
use Rattle.std.specs.Option.{option_or, option_map, unwrap_or}
use Rattle.std.specs.Char.{is_ascii_alphabetic, is_ascii_alphanumeric}
use Rattle.std.specs.List.{prefix_len}
use Rattle.std.specs.Str.{bytes_eq}
use Rattle.std.proofs.lemmas.List.{get_or-drop}
use Rattle.std.proofs.lemmas.List.Sums.{prefix_len-le-length}
use Rattle.wt_span.specs.declared.form.Mode.{Mode}
use Rattle.wt_span.specs.declared.form.LexKind.TheVariants.{Raw, Include, Hidden}
use Rattle.wt_span.specs.Lexemes.{as_word}
use Rattle.wt_span.specs.Bytes.{begins, blank_len, name_len, lower}
use Rattle.wt_span.specs.Tags.{Tag, is_tag_byte, is_tag_inside, closes_itself, tag_after, opening_tag, closing_tag, len_if_named, to_closing, with_inside, is_raw_name, raw_by, raw_len, hides, is_left_out, hidden_len, opening_include, closing_include, include_at}
use Rattle.wt_lex.specs.Words.{is_form_byte, tag_word}
use Rattle.wt_lex.proofs.Begins.{and_left, and_right, lt_is, is_within, byte_is, begins_get}
use Rattle.wt_lex.proofs.Forms.{Fits, OptFits, OptForm, or_form, form_by}

-- ---- tags

-- a tag begins with `<` and ends with `>`
pub record TagFits (bs : List ℕ) (t : Tag) : Type 0 where
  pub some : 0 < t.len
  pub within : t.len ≤ length bs
  pub first : get_or bs 0 0 ≡ 60
  pub last : get_or bs (t.len - 1) 0 ≡ 62

abbrev pub OptTag : List ℕ → Option Tag → Type 0
OptTag bs None = Unit {0}
OptTag bs (Some t) = TagFits bs t

if_tag : (bs : List ℕ) (t : Bool) (o : Option Tag) → (t ≡ true → OptTag bs o) → OptTag bs (if t then o else None)
if_tag bs true o f = f refl
if_tag bs false o f = tt

if_le : (t : Bool) (m k : ℕ) → m ≤ k → (if t then m else 0) ≤ k
if_le true m k h = h
if_le false m k h = omega arith

pub name_len-le : (bs : List ℕ) → name_len bs ≤ length bs
name_len-le bs = if_le (is_ascii_alphabetic (get_or bs 0 0)) (prefix_len is_ascii_alphanumeric bs) (length bs) (prefix_len-le-length is_ascii_alphanumeric bs)

-- what follows the name, up to the `>`
abbrev pub After : List ℕ → List ℕ → Tag → Type 0
After name rest t = (k : ℕ) × (t.len ≡ 2 + length name + k) × (get_or rest k 0 ≡ 62) × (k < length rest)

abbrev pub OptAfter : List ℕ → List ℕ → Option Tag → Type 0
OptAfter name rest None = Unit {0}
OptAfter name rest (Some t) = After name rest t

if_after : (name rest : List ℕ) (t : Bool) (x : Tag) → (t ≡ true → After name rest x) → OptAfter name rest (if t then Some x else None)
if_after name rest true x f = f refl
if_after name rest false x f = tt

pub after_fits : (name rest : List ℕ) → OptAfter name rest (tag_after name rest)
unfolding tag_after
after_fits name rest =
    let inside = take (prefix_len is_tag_byte rest) rest in
    if_after name rest (get_or rest (length inside) 0 == 62 && is_tag_inside inside)
    (record { name = lower name; len = 2 + length name + length inside; alone = closes_itself inside })
    (λ e.
    let last = byte_is rest (length inside) 62 (and_left (get_or rest (length inside) 0 == 62) _ e) in
    (length inside, refl, last, is_within rest (length inside) 62 last (omega arith)))

opened : (bs : List ℕ) (n : ℕ) (o : Option Tag) → get_or bs 0 0 ≡ 60 → 0 < n → n ≤ length (drop 1 bs)
    → OptAfter (take n (drop 1 bs)) (drop (1 + n) bs) o → OptTag bs o
opened bs n None first pos le a = tt
opened bs n (Some t) first pos le (k, size, last, there) =
    let named : length (take n (drop 1 bs)) ≡ n = omega (arith, length-take n (drop 1 bs)) in
    let end : t.len - 1 ≡ 1 + n + k = omega arith in
    record {
      some = omega arith;
      within = omega (arith, length-drop (1 + n) bs);
      first = first;
      last = ap (λ i. get_or bs i 0) end ∙ sym (get_or-drop (1 + n) bs k 0) ∙ last;
    }

pub opening_fits : (bs : List ℕ) → OptTag bs (opening_tag bs)
unfolding opening_tag
opening_fits bs =
    let n = name_len (drop 1 bs) in
    if_tag bs (get_or bs 0 0 == 60 && nat_lt 0 n) (tag_after (take n (drop 1 bs)) (drop (1 + n) bs))
    (λ e.
    let first = byte_is bs 0 60 (and_left (get_or bs 0 0 == 60) _ e) in
    let pos = lt_is 0 n (and_right (get_or bs 0 0 == 60) _ e) in
    opened bs n (tag_after (take n (drop 1 bs)) (drop (1 + n) bs)) first pos (name_len-le (drop 1 bs)) (after_fits (take n (drop 1 bs)) (drop (1 + n) bs)))

pub closing_fits : (bs : List ℕ) → OptTag bs (closing_tag bs)
unfolding closing_tag
closing_fits bs =
    let n = name_len (drop 2 bs) in
    let k = blank_len (drop (2 + n) bs) in
    let t : Tag = record { name = lower (take n (drop 2 bs)); len = 3 + n + k; alone = false } in
    if_tag bs (begins (codes "</") bs && (nat_lt 0 n && get_or bs (2 + n + k) 0 == 62)) (Some t)
    (λ e.
    let starts = and_left (begins (codes "</") bs) _ e in
    let last = byte_is bs (2 + n + k) 62 (and_right (nat_lt 0 n) _ (and_right (begins (codes "</") bs) _ e)) in
    let end : 3 + n + k - 1 ≡ 2 + n + k = omega arith in
    let there = is_within bs (2 + n + k) 62 last (omega arith) in
    record { some = omega arith; within = omega arith; first = begins_get (codes "</") bs starts 0 (omega arith); last = ap (λ i. get_or bs i 0) end ∙ last })

-- ---- the next closing tag

-- so many bytes end with a `>`
pub record EndsTag (bs : List ℕ) (n : ℕ) : Type 0 where
  pub some : 0 < n
  pub within : n ≤ length bs
  pub last : get_or bs (n - 1) 0 ≡ 62

abbrev pub OptEnds : List ℕ → Option ℕ → Type 0
OptEnds bs None = Unit {0}
OptEnds bs (Some n) = EndsTag bs n

named_ends : (name bs : List ℕ) (o : Option Tag) → OptTag bs o → OptEnds bs (len_if_named name o)
named_ends name bs None f = tt
named_ends name bs (Some t) f = by (bytes_eq t.name name)
  where
    by : (v : Bool) → OptEnds bs (if v then Some t.len else None)
    by true = record { some = f.some; within = f.within; last = f.last }
    by false = tt

or_ends : (bs : List ℕ) (a b : Option ℕ) → OptEnds bs a → OptEnds bs b → OptEnds bs (option_or a b)
or_ends bs None b f g = g
or_ends bs (Some n) b f g = f

ends_later : (b : ℕ) (bs : List ℕ) (o : Option ℕ) → OptEnds bs o → OptEnds (b ∷ bs) (option_map (λ n. 1 + n) o)
ends_later b bs None f = tt
ends_later b bs (Some n) f =
    let z : 1 + n - 1 ≡ suc (n - 1) = omega (arith, f.some) in
    record { some = omega arith; within = omega (arith, f.within); last = ap (λ i. get_or (b ∷ bs) i 0) z ∙ f.last }

pub closing_ends : (name bs : List ℕ) → OptEnds bs (to_closing name bs)
closing_ends name [] = tt
closing_ends name (b ∷ bs) =
    or_ends (b ∷ bs) (len_if_named name (closing_tag (b ∷ bs))) _ (named_ends name (b ∷ bs) (closing_tag (b ∷ bs)) (closing_fits (b ∷ bs)))
    (ends_later b bs (to_closing name bs) (closing_ends name bs))

-- ---- a tag with its inside

tag_alone : (bs : List ℕ) (t : Tag) → TagFits bs t → Fits bs t.len
tag_alone bs t f = record { some = f.some; within = f.within; begins = ap is_form_byte f.first; ends = inr (omega (arith, f.last)) }

inside_by : (bs : List ℕ) (t : Tag) (o : Option ℕ) → TagFits bs t → OptEnds (drop t.len bs) o → OptFits bs (option_map (λ n. t.len + n) o)
inside_by bs t None f g = tt
inside_by bs t (Some n) f g =
    let z : t.len + n - 1 ≡ t.len + (n - 1) = omega (arith, g.some) in
    let last : get_or bs (t.len + n - 1) 0 ≡ 62 = ap (λ i. get_or bs i 0) z ∙ sym (get_or-drop t.len bs (n - 1) 0) ∙ g.last in
    record {
      some = omega (arith, f.some);
      within = omega (arith, f.within, g.within, length-drop t.len bs);
      begins =
          ap is_form_byte f.first;
      ends = inr (omega arith);
    }

inside_if : (bs : List ℕ) (t : Tag) (v : Bool) (o : Option ℕ) → Fits bs t.len → OptFits bs o → OptFits bs (if v then Some t.len else o)
inside_if bs t true o f g = f
inside_if bs t false o f g = g

pub inside_fits : (bs : List ℕ) (t : Tag) → TagFits bs t → OptFits bs (with_inside t bs)
unfolding with_inside
inside_fits bs t f =
    inside_if bs t t.alone (option_map (λ n. t.len + n) (to_closing t.name (drop t.len bs))) (tag_alone bs t f)
    (inside_by bs t (to_closing t.name (drop t.len bs)) f (closing_ends t.name (drop t.len bs)))

-- ---- raw tags and include tags

raw_by_fits : (named : List ℕ → Bool) (o : Option Tag) (bs : List ℕ) → OptTag bs o → OptFits bs (raw_by named o bs)
raw_by_fits named None bs f = tt
raw_by_fits named (Some t) bs f = by (named t.name)
  where
    by : (v : Bool) → OptFits bs (if v then with_inside t bs else None)
    by true = inside_fits bs t f
    by false = tt

pub raw_fits : (bs : List ℕ) → OptFits bs (raw_len bs)
unfolding raw_len
raw_fits bs = raw_by_fits is_raw_name (opening_tag bs) bs (opening_fits bs)

hidden_by : (bs : List ℕ) (t : Tag) (o : Option ℕ) → TagFits bs t → OptFits bs o → Fits bs (unwrap_or o (length bs))
hidden_by bs t None f g = record { some = omega (arith, f.some, f.within); within = omega arith; begins = ap is_form_byte f.first; ends = inl refl }
hidden_by bs t (Some n) f g = g

opening_include_fits : (after : Bool) (mode : Mode) (o : Option Tag) (bs : List ℕ) → OptTag bs o → OptForm after bs (opening_include mode o bs)
opening_include_fits after mode None bs f = tt
opening_include_fits after mode (Some t) bs f = by (hides mode t.name) (is_left_out mode t.name)
  where
    by : (u v : Bool) → OptForm after bs (if u then Some (Hidden, hidden_len t bs) else (if v then Some (Include, t.len) else None))
    by true v = form_by after bs Hidden (hidden_len t bs) tt (hidden_by bs t (with_inside t bs) f (inside_fits bs t f))
    by false true = form_by after bs Include t.len tt (tag_alone bs t f)
    by false false = tt

closing_include_fits : (after : Bool) (mode : Mode) (o : Option Tag) (bs : List ℕ) → OptTag bs o → OptForm after bs (closing_include mode o)
closing_include_fits after mode None bs f = tt
closing_include_fits after mode (Some t) bs f = by (is_left_out mode t.name)
  where
    by : (v : Bool) → OptForm after bs (if v then Some (Include, t.len) else None)
    by true = form_by after bs Include t.len tt (tag_alone bs t f)
    by false = tt

pub include_fits : (after : Bool) (mode : Mode) (bs : List ℕ) → OptForm after bs (include_at mode bs)
unfolding include_at
include_fits after mode bs =
    or_form after bs (opening_include mode (opening_tag bs) bs) (closing_include mode (closing_tag bs))
    (opening_include_fits after mode (opening_tag bs) bs (opening_fits bs))
    (closing_include_fits after mode (closing_tag bs) bs (closing_fits bs))

-- ---- texts that begin with another byte

none_by : (bs : List ℕ) (o : Option Tag) → OptTag bs o → (get_or bs 0 0 ≡ 60 → ⊥) → o ≡ None
none_by bs None f h = refl
none_by bs (Some t) f h = absurd (h f.first)

pub tag_none : (mode : Mode) (bs : List ℕ) → (get_or bs 0 0 ≡ 60 → ⊥) → tag_word mode bs ≡ None
unfolding raw_len include_at
tag_none mode bs h =
    let opening = none_by bs (opening_tag bs) (opening_fits bs) h in
    let closing = none_by bs (closing_tag bs) (closing_fits bs) h in
    ap (λ (o : Option Tag). option_or (as_word Raw (raw_by is_raw_name o bs))
    (option_or (opening_include mode o bs) (closing_include mode (closing_tag bs)))) opening
    ∙ ap (closing_include mode) closing
