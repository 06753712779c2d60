-- Which lexemes go on over the end of a text, whatever is read behind it: none but signs, where each `<` and each `&` in it has something behind it
-- that ends what could begin there.
use Rattle.std.proofs.Common.{arith, ◌≡◌, ◌≢◌, ◌⊎◌, inl, inr, ℕ, zero, suc, ◌+◌, ◌-◌, ◌<◌, ◌≤◌, ◌==◌, Bool, true, false, Option, Some, None, List, [], ◌∷◌, ◌++◌, length, get_or, take, drop, nat_eq, nat_lt, refl, sym, ap, ◌∙◌, subst, length-append, length-take, length-drop}
use Rattle.std.specs.Prelude.{◌&&◌, ◌||◌, not, is_some, codes, if◌then◌else◌, slice_index}
use Rattle.std.specs.Char.{is_ascii_alphabetic, is_ascii_alphanumeric, is_ascii_digit, is_ascii_hexdigit}
use Rattle.std.specs.List.{list_any, list_all, prefix_len}
use Rattle.std.specs.Cmp.Lexicographic.{pointwise}
use Rattle.std.specs.Option.{option_map, option_or, unwrap_or}
use Rattle.std.proofs.lemmas.Bool.{cases_lt, eqb-true}
use Rattle.std.proofs.lemmas.Bool.Decides.{nat_tests}
use Rattle.std.proofs.lemmas.List.{get_or-drop, drop-append-le}
use Rattle.std.proofs.lemmas.List.Sums.{prefix_len_passes}
use Rattle.std.proofs.Math.Seq.{take-append_seam}
use Rattle.wt_span.specs.declared.form.LexKind.{LexKind}
use Rattle.wt_span.specs.declared.form.LexKind.TheVariants as lex
use Rattle.wt_span.specs.declared.form.Mode.TheVariants.{Page}
use Rattle.wt_span.specs.Bytes.{begins, through, name_len, lower}
use Rattle.wt_span.specs.Comments.{comment_len}
use Rattle.wt_span.specs.Entities.{named_in, entity_names, named_entity, numbered, decimal_entity, hex_entity, entity_at}
use Rattle.wt_span.specs.Lexemes.{Word, as_word, entity_word, run_at, sign_at, sign_word, form_at}
use Rattle.wt_span.specs.Tags.{Tag, is_tag_byte, is_tag_inside, closes_itself, tag_after, opening_tag, closing_tag, len_if_named, to_closing, with_inside, is_raw_name, raw_by, raw_len, hides, is_left_out, hidden_len, opening_include, closing_include, include_at}
use Rattle.wt_lex.proofs.AllForms.{entity_none}
use Rattle.wt_lex.proofs.Begins.{and_left, and_right, begins_get, begins_len}
use Rattle.wt_lex.proofs.Forms.{OptFits}
use Rattle.wt_lex.proofs.Fronts.{begins_front, begins_more}
use Rattle.wt_lex.proofs.TagForms.{OptTag, opening_fits, inside_fits}
use Rattle.wt_lex.proofs.WholeTags.{opening_front, closing_front, closing_more}
use Rattle.wt_isolation.specs.OpenTags.{is_stop, ends_open}
use Rattle.wt_isolation.proofs.OpenTags.{opens}
use Rattle.wt_typed_blocks.specs.Reading.{stands}
use Rattle.wt_typed_blocks.proofs.TextReads.{equal_or, apart}
use Rattle.wt_text_edit_laws.specs.TextBetween.{ends_comment, ends_tag, ends_here}
use Rattle.wt_text_edit_laws.proofs.Between.ClosingTags.{not_less}
use Rattle.wt_text_edit_laws.proofs.Between.LineTags.{TagWithin, IsFound}
use Rattle.wt_text_edit_laws.proofs.Between.LineWords.{word_before, Within, or_within, entity_word_within}
use Rattle.wt_beside_laws.specs.References.{is_reference_byte, begins_name, may_be_reference, ReferencesEnd}
use Rattle.wt_text_edit_laws.specs.ReadContents.{joins_reference, BeginsUnjoined}
use Rattle.wt_beside_laws.proofs.Made.Sealed.{stops, closing_within}
use Rattle.wt_beside_laws.proofs.Own.Words.{SemicolonEnds, OptReference, reference_ends}

-- ---- a byte behind a place

pub get_front : (xs ys : List ℕ) (i : ℕ) → i < length xs → get_or (xs ++ ys) i 0 ≡ get_or xs i 0
get_front [] ys i lt = absurd (omega (arith, lt))
get_front (x ∷ xs) ys zero lt = refl
get_front (x ∷ xs) ys (suc i) lt = get_front xs ys i (omega (arith, lt))

pub get_behind : (xs ys : List ℕ) → get_or (xs ++ ys) (length xs) 0 ≡ get_or ys 0 0
get_behind [] ys = refl
get_behind (x ∷ xs) ys = get_behind xs ys

record IsAt (p : ℕ → Bool) (xs : List ℕ) : Type 0 where
  at : ℕ
  within : at < length xs
  passes : p (get_or xs at 0) ≡ true

any_at : (p : ℕ → Bool) (xs : List ℕ) → list_any p xs ≡ true → IsAt p xs
any_at p [] e = absurd (cc)
any_at p (x ∷ xs) e = by (p x) refl e (λ f. any_at p xs f)
  where
    by : (t : Bool) → p x ≡ t → (t || list_any p xs) ≡ true → (list_any p xs ≡ true → IsAt p xs) → IsAt p (x ∷ xs)
    by true i f go = record { at = 0; within = omega arith; passes = i }
    by false i f go = let r = go f in record { at = suc r.at; within = omega (arith, r.within); passes = r.passes }

all_at : (p : ℕ → Bool) (xs : List ℕ) → list_all p xs ≡ false → IsAt (λ b. not (p b)) xs
all_at p [] e = absurd (cc)
all_at p (x ∷ xs) e = by (p x) refl e (λ f. all_at p xs f)
  where
    by : (t : Bool) → p x ≡ t → (t && list_all p xs) ≡ false → (list_all p xs ≡ false → IsAt (λ b. not (p b)) xs) → IsAt (λ b. not (p b)) (x ∷ xs)
    by false i f go = record { at = 0; within = omega arith; passes = ap not i }
    by true i f go = let r = go f in record { at = suc r.at; within = omega (arith, r.within); passes = r.passes }

unpassed : (v : Bool) → not v ≡ true → v ≡ false
unpassed true e = absurd (cc)
unpassed false e = refl

-- ---- what is asked of a text

-- behind each `<` comes a byte that is in no name, no blank, and no beginning of a comment
abbrev pub TagsStop : List ℕ → Type 0
TagsStop [] = Unit {0}
TagsStop (b ∷ bs) = ((b == 60) ≡ true → list_any stops bs ≡ true) × TagsStop bs

-- behind each `<` before a letter comes a `<`, a `>` or a line break
abbrev pub AfterTag : List ℕ → Type 0
AfterTag [] = Unit {0}
AfterTag (c ∷ cs) = is_ascii_alphabetic c ≡ true → list_any is_stop (c ∷ cs) ≡ true

abbrev pub TagsShut : List ℕ → Type 0
TagsShut [] = Unit {0}
TagsShut (b ∷ bs) = ((b == 60) ≡ true → AfterTag bs) × TagsShut bs

-- and no reference that begins in it goes on in what is behind it
pub record Settled (rest bs : List ℕ) : Type 0 where
  pub stop : TagsStop bs
  pub shut : TagsShut bs
  pub references : ReferencesEnd bs ⊎ BeginsUnjoined rest

references_rest : (b : ℕ) (bs rest : List ℕ) → ReferencesEnd (b ∷ bs) ⊎ BeginsUnjoined rest → ReferencesEnd bs ⊎ BeginsUnjoined rest
references_rest b bs rest (inl r) = inl r.1
references_rest b bs rest (inr u) = inr u

pub settled_rest : (b : ℕ) (bs rest : List ℕ) → Settled rest (b ∷ bs) → Settled rest bs
settled_rest b bs rest s = record { stop = s.stop.1; shut = s.shut.1; references = references_rest b bs rest s.references }

-- no text that ends in no open tag has a place from which on it does
shut_after : (front : List ℕ) (b : ℕ) (bs : List ℕ) → ends_open (front ++ b ∷ bs) ≡ false → (b == 60) ≡ true → AfterTag bs
shut_after front b [] e i = tt
shut_after front b (c ∷ cs) e i = λ letter. by letter (list_any is_stop (c ∷ cs)) refl
  where
    by : is_ascii_alphabetic c ≡ true → (v : Bool) → list_any is_stop (c ∷ cs) ≡ v → v ≡ true
    by letter true f = refl
    by letter false f =
        let less : b ≡ 60 = eqb-true b 60 i in
        let opened : ends_open (front ++ b ∷ c ∷ cs) ≡ true =
        opens (front ++ b ∷ c ∷ cs) (record { front = front; letter = c; rest = cs; is = ap (λ (x : ℕ). front ++ x ∷ c ∷ cs) less; is_letter = letter; bare = f }) in
        absurd (let no : true ≡ false = sym opened ∙ e in cc)

shut_from : (front bs : List ℕ) → ends_open (front ++ bs) ≡ false → TagsShut bs
shut_from front [] e = tt
shut_from front (b ∷ bs) e = (λ i. shut_after front b bs e i, shut_from (front ++ b ∷ []) bs (ap ends_open (further front b bs) ∙ e))
  where
    further : (xs : List ℕ) (y : ℕ) (ys : List ℕ) → (xs ++ y ∷ []) ++ ys ≡ xs ++ y ∷ ys
    further [] y ys = refl
    further (x ∷ xs) y ys = ap (λ (zs : List ℕ). x ∷ zs) (further xs y ys)

pub tags_shut : (bs : List ℕ) → ends_open bs ≡ false → TagsShut bs
tags_shut bs e = shut_from [] bs e

-- ---- opening tags

-- none of its bytes but the first and the last is a `<`, a `>` or a line break
abbrev OptBare : List ℕ → Option Tag → Type 0
OptBare bs None = Unit {0}
OptBare bs (Some t) = (i : ℕ) → 1 ≤ i → i + 1 < t.len → is_stop (get_or bs i 0) ≡ false

name_stop : (b : ℕ) → is_ascii_alphanumeric b ≡ true → is_stop b ≡ false
name_stop b e = grind (arith, nat_tests, e)

tag_stop : (b : ℕ) → is_tag_byte b ≡ true → is_stop b ≡ false
tag_stop b e = unpassed (is_stop b) e

name_passes : (bs : List ℕ) (i : ℕ) → i < name_len bs → is_ascii_alphanumeric (get_or bs i 0) ≡ true
name_passes bs i lt = by (is_ascii_alphabetic (slice_index bs 0)) lt
  where
    by : (t : Bool) → i < (if t then prefix_len is_ascii_alphanumeric bs else 0) → is_ascii_alphanumeric (get_or bs i 0) ≡ true
    by true h = prefix_len_passes is_ascii_alphanumeric bs i 0 h
    by false h = absurd (omega (arith, h))

after_bare : (bs : List ℕ) (n : ℕ) → n ≡ name_len (drop 1 bs) → OptBare bs (tag_after (take n (drop 1 bs)) (drop (1 + n) bs))
unfolding tag_after
after_bare bs n e =
    let rest : List ℕ = drop (1 + n) bs in
    let m : ℕ = prefix_len is_tag_byte rest in
    let inside : List ℕ = take m rest in
    let name : List ℕ = take n (drop 1 bs) in
    if_bare (slice_index rest (length inside) == 62 && is_tag_inside inside) (record { name = lower name; len = 2 + length name + length inside; alone = closes_itself inside })
    (λ i some lt. by i some (omega (arith, lt, length-take n (drop 1 bs), length-take m rest)) (cases_lt n i))
  where
    if_bare : (v : Bool) (t : Tag) → OptBare bs (Some t) → OptBare bs (if v then Some t else None)
    if_bare true t f = f
    if_bare false t f = tt

    by : (i : ℕ) → 1 ≤ i → i < 1 + n + prefix_len is_tag_byte (drop (1 + n) bs) → (n < i) ⊎ (i ≤ n) → is_stop (get_or bs i 0) ≡ false
    by i some lt (inl past) =
        let j : ℕ = i - (1 + n) in
        let at : 1 + n + j ≡ i = omega (arith, past) in
        let here : get_or (drop (1 + n) bs) j 0 ≡ get_or bs i 0 = get_or-drop (1 + n) bs j 0 ∙ ap (λ (k : ℕ). get_or bs k 0) at in
        tag_stop (get_or bs i 0) (ap is_tag_byte (sym here) ∙ prefix_len_passes is_tag_byte (drop (1 + n) bs) j 0 (omega (arith, lt, past)))
    by i some lt (inr le) =
        let j : ℕ = i - 1 in
        let at : 1 + j ≡ i = omega (arith, some) in
        let here : get_or (drop 1 bs) j 0 ≡ get_or bs i 0 = get_or-drop 1 bs j 0 ∙ ap (λ (k : ℕ). get_or bs k 0) at in
        name_stop (get_or bs i 0) (ap is_ascii_alphanumeric (sym here) ∙ name_passes (drop 1 bs) j (omega (arith, le, some, e)))

opening_bare : (bs : List ℕ) → OptBare bs (opening_tag bs)
unfolding opening_tag
opening_bare bs = by (slice_index bs 0 == 60 && nat_lt 0 (name_len (drop 1 bs)))
  where
    by : (v : Bool) → OptBare bs (if v then tag_after (take (name_len (drop 1 bs)) (drop 1 bs)) (drop (1 + name_len (drop 1 bs)) bs) else None)
    by true = after_bare bs (name_len (drop 1 bs)) refl
    by false = tt

-- a name begins it
opening_letter : (bs : List ℕ) (t : Tag) → opening_tag bs ≡ Some t → is_ascii_alphabetic (get_or bs 1 0) ≡ true
unfolding opening_tag
opening_letter bs t e =
    by (slice_index bs 0 == 60) (is_ascii_alphabetic (slice_index (drop 1 bs) 0)) refl (prefix_len is_ascii_alphanumeric (drop 1 bs)) e
  where
    first : get_or (drop 1 bs) 0 0 ≡ get_or bs 1 0
    first = get_or-drop 1 bs 0 0

    by : (u v : Bool) → is_ascii_alphabetic (slice_index (drop 1 bs) 0) ≡ v → (n : ℕ)
        → (if u && nat_lt 0 (if v then n else 0) then tag_after (take (if v then n else 0) (drop 1 bs)) (drop (1 + (if v then n else 0)) bs) else None) ≡ Some t
        → is_ascii_alphabetic (get_or bs 1 0) ≡ true
    by true true i n f = ap is_ascii_alphabetic (sym first) ∙ i
    by true false i n f = absurd (cc)
    by false v i n f = absurd (cc)

-- so it ends in the text that it begins
opening_ends : (b : ℕ) (q rest : List ℕ) (t : Tag) → Settled rest (b ∷ q) → opening_tag (b ∷ (q ++ rest)) ≡ Some t → t.len ≤ suc (length q)
opening_ends b q rest t s e = elim (cases_lt (suc (length q)) t.len) [
  | inl over ↦
      let bs : List ℕ = b ∷ (q ++ rest) in
      let fits = subst (OptTag bs) e (opening_fits bs) in
      let less : (b == 60) ≡ true = equal fits.first in
      let bare : OptBare bs (Some t) = subst (OptBare bs) e (opening_bare bs) in
      none_stops q less (s.stop.0 less) (s.shut.0 less) (opening_letter bs t e) (λ i lt. bare (suc i) (omega arith) (omega (arith, lt, over)))
  | inr le ↦ le
]
  where
    equal : b ≡ 60 → (b == 60) ≡ true
    equal is = subst (λ (k : ℕ). (k == 60) ≡ true) (sym is) refl

    none_stops : (xs : List ℕ) → (b == 60) ≡ true → list_any stops xs ≡ true → AfterTag xs → is_ascii_alphabetic (get_or (xs ++ rest) 0 0) ≡ true
        → ((i : ℕ) → i < length xs → is_stop (get_or (xs ++ rest) i 0) ≡ false) → t.len ≤ suc (length q)
    none_stops [] less some after letter bare = absurd (cc)
    none_stops (c ∷ cs) less some after letter bare =
        let r = any_at is_stop (c ∷ cs) (after letter) in
        let here : is_stop (get_or ((c ∷ cs) ++ rest) r.at 0) ≡ true = ap is_stop (get_front (c ∷ cs) rest r.at r.within) ∙ r.passes in
        absurd (let no : true ≡ false = sym here ∙ bare r.at r.within in cc)

opening_own : (b : ℕ) (q rest : List ℕ) (t : Tag) → Settled rest (b ∷ q) → opening_tag (b ∷ (q ++ rest)) ≡ Some t → opening_tag (b ∷ q) ≡ Some t
opening_own b q rest t s e =
    sym (ap opening_tag (take-append_seam (b ∷ q) rest)) ∙ opening_front (b ∷ (q ++ rest)) t (suc (length q)) e (opening_ends b q rest t s e)

-- ---- closing tags

closing_ends : (b : ℕ) (q rest : List ℕ) → TagsStop (b ∷ q) → TagWithin (length q) (closing_tag (b ∷ (q ++ rest)))
closing_ends b q rest s = elim (equal_or b 60) [
  | inl is ↦
      let r = any_at stops q (s.0 (subst (λ (k : ℕ). (k == 60) ≡ true) (sym is) refl)) in
      let here : stops (get_or (b ∷ (q ++ rest)) (suc r.at) 0) ≡ true = ap stops (get_front q rest r.at r.within) ∙ r.passes in
      shorter (closing_tag (b ∷ (q ++ rest))) (suc r.at) (omega (arith, r.within)) (closing_within (suc r.at) (b ∷ (q ++ rest)) here)
  | inr differs ↦ subst (TagWithin (length q)) (sym (not_less b (q ++ rest) (apart b 60 differs))) tt
]
  where
    shorter : (o : Option Tag) (k : ℕ) → k ≤ length q → TagWithin k o → TagWithin (length q) o
    shorter None k le h = tt
    shorter (Some t) k le h = omega (arith, le, h)

closing_same : (b : ℕ) (q rest : List ℕ) → TagsStop (b ∷ q) → closing_tag (b ∷ (q ++ rest)) ≡ closing_tag (b ∷ q)
closing_same b q rest s = by (closing_tag bs) (closing_tag (b ∷ q)) refl refl
  where
    bs : List ℕ
    bs = b ∷ (q ++ rest)

    cut : closing_tag (take (suc (length q)) bs) ≡ closing_tag (b ∷ q)
    cut = ap closing_tag (take-append_seam (b ∷ q) rest)

    by : (o p : Option Tag) → closing_tag bs ≡ o → closing_tag (b ∷ q) ≡ p → o ≡ p
    by None None e f = refl
    by None (Some t) e f = let z : None ≡ Some t = sym e ∙ closing_more bs t (suc (length q)) (cut ∙ f) in cc
    by (Some t) p e f =
        let le = subst (TagWithin (length q)) e (closing_ends b q rest s) in
        sym (sym cut ∙ closing_front bs t (suc (length q)) e (omega (arith, le))) ∙ f

stop_dropped : (n : ℕ) (bs : List ℕ) → TagsStop bs → TagsStop (drop n bs)
stop_dropped zero [] s = s
stop_dropped zero (b ∷ bs) s = s
stop_dropped (suc n) [] s = s
stop_dropped (suc n) (b ∷ bs) s = stop_dropped n bs s.1

found_map : (f : ℕ → ℕ) (o : Option ℕ) → IsFound (option_map f o) → IsFound o
found_map f None h = h
found_map f (Some n) h = tt

to_closing_same : (name ys rest : List ℕ) → TagsStop ys → IsFound (to_closing name ys) → to_closing name (ys ++ rest) ≡ to_closing name ys
to_closing_same name [] rest s h = absurd h
to_closing_same name (b ∷ ys) rest s h =
    ap (λ (o : Option Tag). option_or (len_if_named name o) (option_map (λ n. 1 + n) (to_closing name (ys ++ rest)))) (closing_same b ys rest s)
    ∙ by (len_if_named name (closing_tag (b ∷ ys))) h (λ f. to_closing_same name ys rest s.1 f)
  where
    by : (o : Option ℕ) → IsFound (option_or o (option_map (λ n. 1 + n) (to_closing name ys)))
        → (IsFound (to_closing name ys) → to_closing name (ys ++ rest) ≡ to_closing name ys)
        → option_or o (option_map (λ n. 1 + n) (to_closing name (ys ++ rest))) ≡ option_or o (option_map (λ n. 1 + n) (to_closing name ys))
    by None h f = ap (option_map (λ n. 1 + n)) (f (found_map (λ n. 1 + n) (to_closing name ys) h))
    by (Some n) h f = refl

found_inside : (t : Tag) (v : Bool) (o : Option ℕ) → v ≡ false → IsFound (if v then Some t.len else option_map (λ n. t.len + n) o) → IsFound o
found_inside t true o e h = cc
found_inside t false o e h = found_map (λ n. t.len + n) o h

inside_same : (t : Tag) (q rest : List ℕ) → TagsStop q → t.len ≤ length q → IsFound (with_inside t q) → with_inside t (q ++ rest) ≡ with_inside t q
unfolding with_inside
inside_same t q rest s le h = by t.alone refl
  where
    by : (v : Bool) → t.alone ≡ v → (if v then Some t.len else option_map (λ n. t.len + n) (to_closing t.name (drop t.len (q ++ rest))))
        ≡ (if v then Some t.len else option_map (λ n. t.len + n) (to_closing t.name (drop t.len q)))
    by true e = refl
    by false e =
        ap (λ (ys : List ℕ). option_map (λ n. t.len + n) (to_closing t.name ys)) (drop-append-le t.len q rest le)
        ∙ ap (option_map (λ n. t.len + n)) (to_closing_same t.name (drop t.len q) rest (stop_dropped t.len q s)
        (found_inside t t.alone (to_closing t.name (drop t.len q)) e h))

-- ---- tags with their inside

abbrev pub LenWithin : ℕ → Option ℕ → Type 0
LenWithin k None = Unit {0}
LenWithin k (Some n) = n ≤ k + 1

len_word : (k : ℕ) (kind : LexKind) (o : Option ℕ) → LenWithin k o → Within k (as_word kind o)
len_word k kind None h = tt
len_word k kind (Some n) h = h

fits_len : (b : ℕ) (q : List ℕ) (o : Option ℕ) → OptFits (b ∷ q) o → LenWithin (length q) o
fits_len b q None f = tt
fits_len b q (Some n) f = omega (arith, f.within)

as_found : (o : Option ℕ) → is_some o ≡ true → IsFound o
as_found None e = cc
as_found (Some n) e = tt

inside_ends : (b : ℕ) (q rest : List ℕ) (t : Tag) → Settled rest (b ∷ q) → opening_tag (b ∷ q) ≡ Some t → is_some (with_inside t (b ∷ q)) ≡ true
    → (LenWithin (length q) (with_inside t (b ∷ (q ++ rest)))) × (is_some (with_inside t (b ∷ (q ++ rest))) ≡ true)
inside_ends b q rest t s e h =
    let fits = subst (OptTag (b ∷ q)) e (opening_fits (b ∷ q)) in
    let same : with_inside t ((b ∷ q) ++ rest) ≡ with_inside t (b ∷ q) = inside_same t (b ∷ q) rest s.stop fits.within (as_found (with_inside t (b ∷ q)) h) in (
      subst (LenWithin (length q)) (sym same) (fits_len b q (with_inside t (b ∷ q)) (inside_fits (b ∷ q) t fits)),
      ap is_some same ∙ h,
    )

-- what is looked for ends there
raw_found : (raw hidden u : Bool) → (if raw || hidden then u else true) ≡ true → raw ≡ true → u ≡ true
raw_found true hidden u h e = h
raw_found false hidden u h e = absurd (cc)

hidden_found : (raw hidden u : Bool) → (if raw || hidden then u else true) ≡ true → hidden ≡ true → u ≡ true
hidden_found true true u h e = h
hidden_found false true u h e = h
hidden_found raw false u h e = absurd (cc)

tag_here : (bs : List ℕ) (t : Tag) → opening_tag bs ≡ Some t → ends_tag (opening_tag bs) bs ≡ true → ends_tag (Some t) bs ≡ true
tag_here bs t e h = sym (ap (λ o. ends_tag o bs) e) ∙ h

raw_within : (b : ℕ) (q rest : List ℕ) → Settled rest (b ∷ q) → ends_tag (opening_tag (b ∷ q)) (b ∷ q) ≡ true → LenWithin (length q) (raw_len (b ∷ (q ++ rest)))
unfolding raw_len
raw_within b q rest s h = by (opening_tag bs) refl
  where
    bs : List ℕ
    bs = b ∷ (q ++ rest)

    named : (t : Tag) (v : Bool) → is_raw_name t.name ≡ v → opening_tag bs ≡ Some t → LenWithin (length q) (if v then with_inside t bs else None)
    named t false e f = tt
    named t true e f =
        let own : opening_tag (b ∷ q) ≡ Some t = opening_own b q rest t s f in
        let found = raw_found (is_raw_name t.name) (hides Page t.name) (is_some (with_inside t (b ∷ q))) (tag_here (b ∷ q) t own h) e in
        (inside_ends b q rest t s own found).0

    by : (o : Option Tag) → opening_tag bs ≡ o → LenWithin (length q) (raw_by is_raw_name o bs)
    by None e = tt
    by (Some t) e = named t (is_raw_name t.name) refl e

include_within : (b : ℕ) (q rest : List ℕ) → Settled rest (b ∷ q) → ends_tag (opening_tag (b ∷ q)) (b ∷ q) ≡ true → Within (length q) (include_at Page (b ∷ (q ++ rest)))
unfolding include_at
include_within b q rest s h =
    or_within (length q) (opening_include Page (opening_tag bs) bs) (closing_include Page (closing_tag bs)) (begun (opening_tag bs) refl)
    (closed (closing_tag bs) (closing_ends b q rest s.stop))
  where
    bs : List ℕ
    bs = b ∷ (q ++ rest)

    closed : (o : Option Tag) → TagWithin (length q) o → Within (length q) (closing_include Page o)
    closed None le = tt
    closed (Some t) le = by (is_left_out Page t.name)
      where
        by : (v : Bool) → Within (length q) (if v then Some (lex.Include, t.len) else None)
        by true = le
        by false = tt

    hidden : (o : Option ℕ) → LenWithin (length q) o → is_some o ≡ true → unwrap_or o (length bs) ≤ length q + 1
    hidden None le e = absurd (cc)
    hidden (Some n) le e = le

    begun : (o : Option Tag) → opening_tag bs ≡ o → Within (length q) (opening_include Page o bs)
    begun None e = tt
    begun (Some t) e = by (hides Page t.name) refl (is_left_out Page t.name)
      where
        own : opening_tag (b ∷ q) ≡ Some t
        own = opening_own b q rest t s e

        le : t.len ≤ length q + 1
        le = let ends = opening_ends b q rest t s e in omega (arith, ends)

        by : (v : Bool) → hides Page t.name ≡ v → (u : Bool)
            → Within (length q) (if v then Some (lex.Hidden, hidden_len t bs) else (if u then Some (lex.Include, t.len) else None))
        by true f u =
            let found = hidden_found (is_raw_name t.name) (hides Page t.name) (is_some (with_inside t (b ∷ q))) (tag_here (b ∷ q) t own h) f in
            let r = inside_ends b q rest t s own found in
            hidden (with_inside t bs) r.0 r.1
        by false f true = le
        by false f false = tt

-- ---- comments

stands_len : (w ys : List ℕ) → stands w ys ≡ true → length w ≤ length ys
stands_len w [] h = absurd (cc)
stands_len w (b ∷ ys) h = by (begins w (b ∷ ys)) refl h (λ f. stands_len w ys f)
  where
    by : (t : Bool) → begins w (b ∷ ys) ≡ t → (t || stands w ys) ≡ true → (stands w ys ≡ true → length w ≤ length ys) → length w ≤ suc (length ys)
    by true e f go = begins_len w (b ∷ ys) e
    by false e f go = let le = go f in omega (arith, le)

-- a word that stands in a text ends in it, whatever follows
through_ends : (w ys rest : List ℕ) → stands w ys ≡ true → through w (ys ++ rest) ≤ length ys
through_ends w [] rest h = absurd (cc)
through_ends w (b ∷ ys) rest h = by (begins w (b ∷ (ys ++ rest))) (begins w (b ∷ ys)) refl refl h (λ f. through_ends w ys rest f)
  where
    more : begins w (b ∷ ys) ≡ true → begins w (b ∷ (ys ++ rest)) ≡ true
    more e = begins_more w (b ∷ (ys ++ rest)) (suc (length ys)) (ap (begins w) (take-append_seam (b ∷ ys) rest) ∙ e)

    by : (u v : Bool) → begins w (b ∷ (ys ++ rest)) ≡ u → begins w (b ∷ ys) ≡ v → (v || stands w ys) ≡ true → (stands w ys ≡ true → through w (ys ++ rest) ≤ length ys)
        → (if u then length w else 1 + through w (ys ++ rest)) ≤ suc (length ys)
    by true v i j f go = stands_len w (b ∷ ys) h
    by false true i j f go = let no : false ≡ true = sym i ∙ more j in cc
    by false false i j f go = let le = go f in omega (arith, le)

pub comment_within : (b : ℕ) (q rest : List ℕ) → TagsStop (b ∷ q) → ends_comment (b ∷ q) ≡ true → LenWithin (length q) (comment_len (b ∷ (q ++ rest)))
unfolding comment_len
comment_within b q rest s h = by (begins (codes "<!--") bs) refl
  where
    bs : List ℕ
    bs = b ∷ (q ++ rest)

    -- the beginning of the comment is in the text
    long : begins (codes "<!--") bs ≡ true → 4 ≤ suc (length q)
    long e =
        let first : b ≡ 60 = begins_get (codes "<!--") bs e 0 (omega arith) in
        let r = any_at stops q (s.0 (subst (λ (k : ℕ). (k == 60) ≡ true) (sym first) refl)) in
        let here : stops (get_or bs (suc r.at) 0) ≡ true = ap stops (get_front q rest r.at r.within) ∙ r.passes in
        let le = word_before stops (codes "<!--") bs (suc r.at) e refl here in
        omega (arith, le, r.within)

    own : begins (codes "<!--") bs ≡ true → begins (codes "<!--") (b ∷ q) ≡ true
    own e = sym (ap (begins (codes "<!--")) (take-append_seam (b ∷ q) rest)) ∙ begins_front (codes "<!--") bs (suc (length q)) (long e) e

    inside : (v : Bool) → begins (codes "<!--") (b ∷ q) ≡ v → v ≡ true → (if v then stands (codes "-->") (drop 4 (b ∷ q)) else true) ≡ true
        → stands (codes "-->") (drop 4 (b ∷ q)) ≡ true
    inside true i j k = k
    inside false i j k = absurd (cc)

    by : (t : Bool) → begins (codes "<!--") bs ≡ t → LenWithin (length q) (if t then Some (4 + through (codes "-->") (drop 4 bs)) else None)
    by true e =
        let le = long e in
        let there = inside (begins (codes "<!--") (b ∷ q)) refl (own e) h in
        let end = through_ends (codes "-->") (drop 4 (b ∷ q)) rest there in
        let cut : drop 4 bs ≡ drop 4 (b ∷ q) ++ rest = drop-append-le 4 (b ∷ q) rest le in
        let same : through (codes "-->") (drop 4 bs) ≡ through (codes "-->") (drop 4 (b ∷ q) ++ rest) = ap (through (codes "-->")) cut in
        omega (arith, same, end, le, length-drop 4 (b ∷ q))
    by false e = tt

-- ---- references

abbrev pub EntityWithin : ℕ → Option (ℕ × ℕ) → Type 0
EntityWithin k None = Unit {0}
EntityWithin k (Some e) = e.1 ≤ k + 1

or_entity : (k : ℕ) (a b : Option (ℕ × ℕ)) → EntityWithin k a → EntityWithin k b → EntityWithin k (option_or a b)
or_entity k None b f g = g
or_entity k (Some e) b f g = f

if_entity : (k : ℕ) (t : Bool) (o : Option (ℕ × ℕ)) → (t ≡ true → EntityWithin k o) → EntityWithin k (if t then o else None)
if_entity k true o f = f refl
if_entity k false o f = tt

-- all of these but the last are bytes of a reference
abbrev are_middle : List ℕ → Bool
are_middle [] = true
are_middle (b ∷ []) = true
are_middle (b ∷ c ∷ cs) = is_reference_byte b && are_middle (c ∷ cs)

abbrev is_name : List ℕ → Bool
is_name [] = true
is_name (b ∷ w) = are_middle w

abbrev all_names : List (List ℕ × ℕ) → Bool
all_names [] = true
all_names ((name, c) ∷ entries) = is_name name && all_names entries

middle_at : (w : List ℕ) (i : ℕ) → are_middle w ≡ true → i + 1 < length w → is_reference_byte (get_or w i 0) ≡ true
middle_at [] i e lt = absurd (omega (arith, lt))
middle_at (b ∷ []) i e lt = absurd (omega (arith, lt))
middle_at (b ∷ c ∷ cs) zero e lt = and_left (is_reference_byte b) (are_middle (c ∷ cs)) e
middle_at (b ∷ c ∷ cs) (suc i) e lt = middle_at (c ∷ cs) i (and_right (is_reference_byte b) (are_middle (c ∷ cs)) e) (omega (arith, lt))

name_within : (w bs : List ℕ) (k : ℕ) → is_name w ≡ true → begins w bs ≡ true → 1 ≤ k → is_reference_byte (get_or bs k 0) ≡ false → length w ≤ k + 1
name_within [] bs k n e some g = omega arith
name_within (b ∷ w) bs zero n e some g = absurd (omega (arith, some))
name_within (b ∷ w) bs (suc i) n e some g = elim (cases_lt (suc i + 1) (length (b ∷ w))) [
  | inl lt ↦
      let same : get_or bs (suc i) 0 ≡ get_or w i 0 = begins_get (b ∷ w) bs e (suc i) (omega (arith, lt)) in
      let here : is_reference_byte (get_or bs (suc i) 0) ≡ true = ap is_reference_byte same ∙ middle_at w i n (omega (arith, lt)) in
      absurd (let no : true ≡ false = sym here ∙ g in cc)
  | inr le ↦ le
]

named_within : (entries : List (List ℕ × ℕ)) (k : ℕ) (bs : List ℕ) → all_names entries ≡ true → 1 ≤ k → is_reference_byte (get_or bs k 0) ≡ false
    → EntityWithin k (named_in entries bs)
named_within [] k bs n some g = tt
named_within ((name, c) ∷ entries) k bs n some g =
    by (begins name bs) refl (named_within entries k bs (and_right (is_name name) (all_names entries) n) some g)
  where
    by : (t : Bool) → begins name bs ≡ t → EntityWithin k (named_in entries bs) → EntityWithin k (if t then Some (c, length name) else named_in entries bs)
    by true e h = name_within name bs k (and_left (is_name name) (all_names entries) n) e some g
    by false e h = h

names_are : all_names entity_names ≡ true
unfolding entity_names
names_are = refl

digit_is : (b : ℕ) → is_ascii_digit b ≡ true → is_reference_byte b ≡ true
digit_is b e = grind (arith, nat_tests, e)

hexdigit_is : (b : ℕ) → is_ascii_hexdigit b ≡ true → is_reference_byte b ≡ true
hexdigit_is b e = grind (arith, nat_tests, e)

-- bytes of a reference, all but the first
abbrev are_after : List ℕ → Bool
are_after [] = true
are_after (b ∷ w) = list_all is_reference_byte w

all_of : (w : List ℕ) (i : ℕ) → list_all is_reference_byte w ≡ true → i < length w → is_reference_byte (get_or w i 0) ≡ true
all_of [] i e lt = absurd (omega (arith, lt))
all_of (b ∷ w) zero e lt = and_left (is_reference_byte b) (list_all is_reference_byte w) e
all_of (b ∷ w) (suc i) e lt = all_of w i (and_right (is_reference_byte b) (list_all is_reference_byte w) e) (omega (arith, lt))

sign_before : (w bs : List ℕ) (k : ℕ) → are_after w ≡ true → begins w bs ≡ true → 1 ≤ k → is_reference_byte (get_or bs k 0) ≡ false → length w ≤ k
sign_before [] bs k a e some g = omega arith
sign_before (b ∷ w) bs zero a e some g = absurd (omega (arith, some))
sign_before (b ∷ w) bs (suc i) a e some g = elim (cases_lt (suc i) (length (b ∷ w))) [
  | inl lt ↦
      let same : get_or bs (suc i) 0 ≡ get_or w i 0 = begins_get (b ∷ w) bs e (suc i) lt in
      let here : is_reference_byte (get_or bs (suc i) 0) ≡ true = ap is_reference_byte same ∙ all_of w i a (omega (arith, lt)) in
      absurd (let no : true ≡ false = sym here ∙ g in cc)
  | inr le ↦ le
]

number_within : (start most base k : ℕ) (is_digit : ℕ → Bool) (w bs : List ℕ) → begins w bs ≡ true → are_after w ≡ true → length w ≡ start
    → ((b : ℕ) → is_digit b ≡ true → is_reference_byte b ≡ true) → 1 ≤ k → is_reference_byte (get_or bs k 0) ≡ false
    → EntityWithin k (numbered start most base is_digit bs)
number_within start most base k is_digit w bs e a is d some g =
    let n : ℕ = prefix_len is_digit (drop start bs) in
    let le = sign_before w bs k a e some g in
    let size : start + n + 1 ≤ k + 1 = let s = digits (omega (arith, le, is)) (cases_lt k (start + n)) in omega (arith, s) in
    found _ _ (start + n + 1) size
  where
    digits : start ≤ k → (k < start + prefix_len is_digit (drop start bs)) ⊎ (start + prefix_len is_digit (drop start bs) ≤ k)
        → start + prefix_len is_digit (drop start bs) ≤ k
    digits le (inr past) = past
    digits le (inl lt) =
        let j : ℕ = k - start in
        let at : start + j ≡ k = omega (arith, le) in
        let here : get_or (drop start bs) j 0 ≡ get_or bs k 0 = get_or-drop start bs j 0 ∙ ap (λ (i : ℕ). get_or bs i 0) at in
        let passes : is_digit (get_or bs k 0) ≡ true = ap is_digit (sym here) ∙ prefix_len_passes is_digit (drop start bs) j 0 (omega (arith, lt, le)) in
        absurd (let no : true ≡ false = sym (d (get_or bs k 0) passes) ∙ g in cc)

    found : (t : Bool) (c m : ℕ) → m ≤ k + 1 → EntityWithin k (if t then Some (c, m) else None)
    found true c m h = h
    found false c m h = tt

pub entity_within : (k : ℕ) (bs : List ℕ) → 1 ≤ k → is_reference_byte (get_or bs k 0) ≡ false → EntityWithin k (entity_at bs)
unfolding entity_at named_entity decimal_entity hex_entity
entity_within k bs some g =
    or_entity k (named_in entity_names bs) _ (named_within entity_names k bs names_are some g)
    (or_entity k (if begins (codes "&#") bs then numbered 2 7 10 is_ascii_digit bs else None) _
    (if_entity k (begins (codes "&#") bs) (numbered 2 7 10 is_ascii_digit bs)
    (λ e. number_within 2 7 10 k is_ascii_digit (codes "&#") bs e refl refl digit_is some g))
    (if_entity k (begins (codes "&#x") bs || begins (codes "&#X") bs) (numbered 3 6 16 is_ascii_hexdigit bs)
    (λ e. either (begins (codes "&#x") bs) (begins (codes "&#X") bs) refl refl e)))
  where
    either : (u v : Bool) → begins (codes "&#x") bs ≡ u → begins (codes "&#X") bs ≡ v → (u || v) ≡ true → EntityWithin k (numbered 3 6 16 is_ascii_hexdigit bs)
    either true v i j e = number_within 3 6 16 k is_ascii_hexdigit (codes "&#x") bs i refl refl hexdigit_is some g
    either false true i j e = number_within 3 6 16 k is_ascii_hexdigit (codes "&#X") bs j refl refl hexdigit_is some g
    either false false i j e = absurd (cc)

-- ---- what no reference begins with

both_true : (u v : Bool) → u ≡ true → v ≡ true → (u && v) ≡ true
both_true true v e f = f
both_true false v e f = e

parts_false : (u v : Bool) → (u || v) ≡ false → (u ≡ false) × (v ≡ false)
parts_false false v e = (refl, e)
parts_false true v e = cc

begins_by : (word bs : List ℕ) → length word ≤ length bs → ((i : ℕ) → i < length word → get_or word i 0 ≡ get_or bs i 0) → begins word bs ≡ true
begins_by [] bs le h = refl
begins_by (x ∷ word) [] le h = absurd (omega (arith, le))
begins_by (x ∷ word) (b ∷ bs) le h =
    let first : x ≡ b = h 0 (omega arith) in
    both_true (nat_eq x b) (pointwise nat_eq word (take (length word) bs)) (let z : (x == b) ≡ true = grind (arith, nat_tests, first) in z)
    (begins_by word bs (omega (arith, le)) (λ i lt. h (suc i) (omega (arith, lt))))

name_past : (w p rest : List ℕ) → begins w (p ++ rest) ≡ true → begins p w ≡ false → length w ≤ length p
name_past w p rest e f = elim (cases_lt (length p) (length w)) [
  | inl lt ↦ (
      let is : begins p w ≡ true =
      begins_by p w (omega (arith, lt)) (λ i l. sym (get_front p rest i l) ∙ begins_get w (p ++ rest) e i (omega (arith, lt, l))) in
      absurd (let no : true ≡ false = sym is ∙ f in cc)
      )
  | inr le ↦ le
]

named_past : (entries : List (List ℕ × ℕ)) (b : ℕ) (q rest : List ℕ) → begins_name entries (b ∷ q) ≡ false
    → EntityWithin (length q) (named_in entries (b ∷ (q ++ rest)))
named_past [] b q rest n = tt
named_past ((name, c) ∷ entries) b q rest n =
    let both = parts_false (begins (b ∷ q) name) (begins_name entries (b ∷ q)) n in
    by (begins name (b ∷ (q ++ rest))) refl both.0 (named_past entries b q rest both.1)
  where
    by : (t : Bool) → begins name (b ∷ (q ++ rest)) ≡ t → begins (b ∷ q) name ≡ false → EntityWithin (length q) (named_in entries (b ∷ (q ++ rest)))
        → EntityWithin (length q) (if t then Some (c, length name) else named_in entries (b ∷ (q ++ rest)))
    by true e f h = let le = name_past name (b ∷ q) rest e f in omega (arith, le)
    by false e f h = h

front_false : (w p rest : List ℕ) → length w ≤ length p → begins w p ≡ false → begins w (p ++ rest) ≡ true → ⊥
front_false w p rest le f e =
    let is : begins w p ≡ true = begins_by w p le (λ i l. sym (begins_get w (p ++ rest) e i l) ∙ get_front p rest i (omega (arith, le, l))) in
    absurd (let no : true ≡ false = sym is ∙ f in cc)

first_begins : (w v bs : List ℕ) → begins (w ++ v) bs ≡ true → begins w bs ≡ true
first_begins w v bs e =
    let long = begins_len (w ++ v) bs e in
    let sum = length-append w v in
    begins_by w bs (omega (arith, long, sum)) (λ i l. sym (begins_get (w ++ v) bs e i (omega (arith, sum, l)) ∙ get_front w v i l))

alone_may : begins_name entity_names (38 ∷ []) ≡ true
unfolding entity_names
alone_may = refl

-- so `&` isn't alone
some_behind : (b : ℕ) (q : List ℕ) → b ≡ 38 → begins_name entity_names (b ∷ q) ≡ false → 1 ≤ length q
some_behind b [] is f = absurd (let no : true ≡ false = sym alone_may ∙ ap (λ (c : ℕ). begins_name entity_names (c ∷ [])) (sym is) ∙ f in cc)
some_behind b (c ∷ q) is f = omega arith

reference_past : (b : ℕ) (q rest : List ℕ) → b ≡ 38 → may_be_reference (b ∷ q) ≡ false → EntityWithin (length q) (entity_at (b ∷ (q ++ rest)))
unfolding entity_at named_entity decimal_entity hex_entity
reference_past b q rest is f =
    let k : ℕ = length q in
    let bs : List ℕ = b ∷ (q ++ rest) in
    let both = parts_false (begins_name entity_names (b ∷ q)) (begins (codes "&#") (b ∷ q)) f in
    let some = some_behind b q is both.0 in
    or_entity k (named_in entity_names bs) _ (named_past entity_names b q rest both.0)
    (or_entity k (if begins (codes "&#") bs then numbered 2 7 10 is_ascii_digit bs else None) _
    (if_entity k (begins (codes "&#") bs) (numbered 2 7 10 is_ascii_digit bs)
    (λ e. absurd (front_false (codes "&#") (b ∷ q) rest (omega (arith, some)) both.1 e)))
    (if_entity k (begins (codes "&#x") bs || begins (codes "&#X") bs) (numbered 3 6 16 is_ascii_hexdigit bs)
    (λ e. absurd (either (begins (codes "&#x") bs) (begins (codes "&#X") bs) refl refl e some both.1))))
  where
    either : (u v : Bool) → begins (codes "&#x") (b ∷ (q ++ rest)) ≡ u → begins (codes "&#X") (b ∷ (q ++ rest)) ≡ v → (u || v) ≡ true → 1 ≤ length q
        → begins (codes "&#") (b ∷ q) ≡ false → ⊥
    either true v i j e some n =
        front_false (codes "&#") (b ∷ q) rest (omega (arith, some)) n (first_begins (codes "&#") (codes "x") (b ∷ (q ++ rest)) i)
    either false true i j e some n =
        front_false (codes "&#") (b ∷ q) rest (omega (arith, some)) n (first_begins (codes "&#") (codes "X") (b ∷ (q ++ rest)) j)
    either false false i j e some n = absurd (cc)

-- behind it stands neither a byte of a reference nor a `;`
unjoined_first : (rest : List ℕ) → BeginsUnjoined rest → (is_reference_byte (get_or rest 0 0) ≡ false) × (get_or rest 0 0 ≢ 59)
unjoined_first [] u = (refl, λ e. cc)
unjoined_first (c ∷ rest) u = by (is_ascii_alphanumeric c) (c == 35) (c == 59) refl refl refl u
  where
    by : (a h s : Bool) → is_ascii_alphanumeric c ≡ a → (c == 35) ≡ h → (c == 59) ≡ s → (a || (h || s)) ≡ false → (is_reference_byte c ≡ false) × (c ≢ 59)
    by true h s i j k e = absurd (cc)
    by false true s i j k e = absurd (cc)
    by false false true i j k e = absurd (cc)
    by false false false i j k e = (rw i (rw j refl), λ is. (let no : true ≡ false = sym (ap (λ (d : ℕ). d == 59) is) ∙ k in absurd (cc)))

reference_before : (b : ℕ) (q rest : List ℕ) → BeginsUnjoined rest → EntityWithin (length q) (entity_at (b ∷ (q ++ rest)))
reference_before b q rest u =
    by (entity_at (b ∷ (q ++ rest))) (entity_within (suc (length q)) (b ∷ (q ++ rest)) (omega arith) (ap is_reference_byte behind ∙ first.0)) (reference_ends (b ∷ (q ++ rest)))
  where
    first : (is_reference_byte (get_or rest 0 0) ≡ false) × (get_or rest 0 0 ≢ 59)
    first = unjoined_first rest u

    behind : get_or (b ∷ (q ++ rest)) (suc (length q)) 0 ≡ get_or rest 0 0
    behind = get_behind q rest

    by : (o : Option (ℕ × ℕ)) → EntityWithin (suc (length q)) o → OptReference (b ∷ (q ++ rest)) o → EntityWithin (length q) o
    by None le e = tt
    by (Some r) le e = elim (cases_lt (suc (length q)) r.1) [
      | inl lt ↦
          let z : r.1 - 1 ≡ suc (length q) = omega (arith, lt, le) in
          absurd (first.1 (sym behind ∙ ap (λ (i : ℕ). get_or (b ∷ (q ++ rest)) i 0) (sym z) ∙ e.last))
      | inr few ↦ omega (arith, few)
    ]

reference_inside : (b : ℕ) (q rest : List ℕ) → ReferencesEnd (b ∷ q) → Within (length q) (entity_word (entity_at (b ∷ (q ++ rest))))
reference_inside b q rest r = entity_word_within (length q) (entity_at (b ∷ (q ++ rest))) (elim (equal_or b 38) [
  | inl is ↦ by is (r.0 (subst (λ (k : ℕ). (k == 38) ≡ true) (sym is) refl))
  | inr differs ↦ subst (EntityWithin (length q)) (sym (entity_none (b ∷ (q ++ rest)) (λ e. apart b 38 differs e))) tt
])
  where
    shorter : (o : Option (ℕ × ℕ)) (k : ℕ) → k ≤ length q → EntityWithin k o → EntityWithin (length q) o
    shorter None k le h = tt
    shorter (Some e) k le h = omega (arith, le, h)

    by : b ≡ 38 → (list_all is_reference_byte q ≡ false) ⊎ (may_be_reference (b ∷ q) ≡ false) → EntityWithin (length q) (entity_at (b ∷ (q ++ rest)))
    by is (inl all) =
        let s = all_at is_reference_byte q all in
        let here : is_reference_byte (get_or (b ∷ (q ++ rest)) (suc s.at) 0) ≡ false =
        ap is_reference_byte (get_front q rest s.at s.within) ∙ unpassed (is_reference_byte (get_or q s.at 0)) s.passes in
        shorter (entity_at (b ∷ (q ++ rest))) (suc s.at) (omega (arith, s.within)) (entity_within (suc s.at) (b ∷ (q ++ rest)) (omega arith) here)
    by is (inr none) = reference_past b q rest is none

reference_within : (b : ℕ) (q rest : List ℕ) → ReferencesEnd (b ∷ q) ⊎ BeginsUnjoined rest → Within (length q) (entity_word (entity_at (b ∷ (q ++ rest))))
reference_within b q rest (inl r) = reference_inside b q rest r
reference_within b q rest (inr u) = entity_word_within (length q) (entity_at (b ∷ (q ++ rest))) (reference_before b q rest u)

-- ---- any lexeme

abbrev pub IsSignKind : LexKind → Type 0
IsSignKind lex.Chars = ⊥
IsSignKind lex.CommentLine = ⊥
IsSignKind lex.Comment = ⊥
IsSignKind lex.Raw = ⊥
IsSignKind lex.Include = ⊥
IsSignKind lex.Hidden = ⊥
IsSignKind (lex.Entity c) = ⊥
IsSignKind lex.Opens = Unit {0}
IsSignKind lex.Closes = Unit {0}
IsSignKind lex.LinkOpen = Unit {0}
IsSignKind lex.LinkClose = Unit {0}
IsSignKind lex.Pipe = Unit {0}
IsSignKind lex.Equals = Unit {0}

-- it is a sign, or ends by then
abbrev pub EndsBySign : ℕ → Option Word → Type 0
EndsBySign k None = Unit {0}
EndsBySign k (Some (kind, n)) = (n ≤ k + 1) ⊎ IsSignKind kind

or_sign : (k : ℕ) (a b : Option Word) → EndsBySign k a → EndsBySign k b → EndsBySign k (option_or a b)
or_sign k None b f g = g
or_sign k (Some w) b f g = f

within_sign : (k : ℕ) (o : Option Word) → Within k o → EndsBySign k o
within_sign k None h = tt
within_sign k (Some (kind, n)) h = inl h

if_sign : (k : ℕ) (t : Bool) (kind : LexKind) (n : ℕ) → IsSignKind kind → EndsBySign k (if t then Some (kind, n) else None)
if_sign k true kind n h = inr h
if_sign k false kind n h = tt

sign_is : (k : ℕ) (bs : List ℕ) → EndsBySign k (sign_word bs)
unfolding sign_word
sign_is k bs =
    or_sign k (run_at lex.Opens 123 bs) _ (if_sign k (nat_lt 1 (prefix_len (λ b. b == 123) bs)) lex.Opens (prefix_len (λ b. b == 123) bs) tt)
    (or_sign k (run_at lex.Closes 125 bs) _ (if_sign k (nat_lt 1 (prefix_len (λ b. b == 125) bs)) lex.Closes (prefix_len (λ b. b == 125) bs) tt)
    (or_sign k (sign_at lex.LinkOpen (codes "[[") 2 bs) _ (if_sign k (begins (codes "[[") bs) lex.LinkOpen 2 tt)
    (or_sign k (sign_at lex.LinkClose (codes "]]") 2 bs) _ (if_sign k (begins (codes "]]") bs) lex.LinkClose 2 tt)
    (or_sign k (sign_at lex.Pipe (codes "|") 1 bs) (sign_at lex.Equals (codes "=") 1 bs) (if_sign k (begins (codes "|") bs) lex.Pipe 1 tt)
    (if_sign k (begins (codes "=") bs) lex.Equals 1 tt)))))

pub lexeme_ends : (b : ℕ) (q rest : List ℕ) → Settled rest (b ∷ q) → ends_here (b ∷ q) ≡ true → EndsBySign (length q) (form_at Page false (b ∷ (q ++ rest)))
unfolding form_at
lexeme_ends b q rest s h =
    let bs : List ℕ = b ∷ (q ++ rest) in
    let k : ℕ = length q in
    let comment = and_left (ends_comment (b ∷ q)) (ends_tag (opening_tag (b ∷ q)) (b ∷ q)) h in
    let tag = and_right (ends_comment (b ∷ q)) (ends_tag (opening_tag (b ∷ q)) (b ∷ q)) h in
    or_sign k (as_word lex.Comment (comment_len bs)) _
    (within_sign k (as_word lex.Comment (comment_len bs)) (len_word k lex.Comment (comment_len bs) (comment_within b q rest s.stop comment)))
    (or_sign k (as_word lex.Raw (raw_len bs)) _ (within_sign k (as_word lex.Raw (raw_len bs)) (len_word k lex.Raw (raw_len bs) (raw_within b q rest s tag)))
    (or_sign k (include_at Page bs) _ (within_sign k (include_at Page bs) (include_within b q rest s tag))
    (or_sign k (entity_word (entity_at bs)) (sign_word bs) (within_sign k (entity_word (entity_at bs)) (reference_within b q rest s.references)) (sign_is k bs))))
