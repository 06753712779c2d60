-- The lexemes of lines in which what begins ends, and of what ends with a comment or tag: none goes over the end, whatever follows.
use Rattle.std.proofs.Common.{arith, ◌≡◌, ℕ, zero, suc, ◌+◌, ◌<◌, ◌≤◌, Bool, true, false, Option, Some, None, List, [], ◌∷◌, ◌++◌, length, nat_lt, get_or, inl, inr, refl, sym, ap, ◌∙◌, subst}
use Rattle.std.specs.Prelude.{◌⊎◌, ◌&&◌, ◌||◌, not, is_some, if◌then◌else◌, slice_index}
use Rattle.std.specs.Option.{unwrap_or}
use Rattle.std.proofs.lemmas.Bool.{cases_lt}
use Rattle.wt_span.specs.declared.form.Mode.TheVariants.{Page}
use Rattle.wt_span.specs.declared.form.LexKind.{LexKind}
use Rattle.wt_span.specs.declared.form.LexKind.TheVariants.{CommentLine, Comment, Raw, Include, Hidden}
use Rattle.wt_span.specs.Bytes.{is_break, blank_len}
use Rattle.wt_span.specs.Comments.{comment_len, comment_line_len, remarks_len}
use Rattle.wt_span.specs.Tags.{Tag, opening_tag, closing_tag, with_inside, is_raw_name, raw_by, raw_len, hides, is_left_out, hidden_len, opening_include, closing_include, include_at}
use Rattle.wt_span.specs.Entities.{entity_at}
use Rattle.wt_span.specs.Lexemes.{Word, as_word, comment_line_word, entity_word, sign_word, form_at}
use Rattle.wt_lex.proofs.Begins.{and_left, and_right}
use Rattle.wt_lex.proofs.Forms.{OptFits, comment_fits}
use Rattle.wt_lex.proofs.TagForms.{OptTag, opening_fits, inside_fits}
use Rattle.wt_part_laws.specs.Lexer.{lexer}
use Rattle.wt_part_laws.specs.Scans.{skipped_by, AtStarts, Settles, IsFrontOf}
use Rattle.wt_part_laws.proofs.LexemeFronts.{lexemes_front}
use Rattle.wt_text_edit_laws.specs.TextBetween.{EndsBy, AreWholeLines, is_end, AreEnded, BeginsShown, ends_comment, ends_tag, ends_here, HasEnds, ends_tag_before, ends_before, HasEndsBefore}
use Rattle.wt_text_edit_laws.proofs.Between.LineWords.{either, Within, or_within, signs_within, entity_within, entity_word_within}
use Rattle.wt_text_edit_laws.proofs.Between.LineComments.{ends_behind, last_end, lines_ended, comment_same, remarks_same}
use Rattle.wt_text_edit_laws.proofs.Between.LineRemarks.{AllEnd, remarks_short, remarks_through}
use Rattle.wt_text_edit_laws.proofs.Between.LineTags.{TagWithin, opening_within, closing_within, opening_here, IsFound, inside_same}

-- ---- lengths

abbrev LenWithin : ℕ → Option ℕ → Type 0
LenWithin k None = Unit {0}
LenWithin k (Some n) = n ≤ k + 1

fits_within : (k : ℕ) (bs : List ℕ) (o : Option ℕ) → OptFits bs o → length bs ≡ suc k → LenWithin k o
fits_within k bs None f e = tt
fits_within k bs (Some n) f e = omega (arith, f.within, e)

word_within_len : (k : ℕ) (kind : LexKind) (o : Option ℕ) → LenWithin k o → Within k (as_word kind o)
word_within_len k kind None h = tt
word_within_len k kind (Some n) h = h

-- what has its end in lines: a comment
comment_word : (b : ℕ) (q rest : List ℕ) → AreEnded (b ∷ q) → ends_comment (b ∷ q) ≡ true → LenWithin (length q) (comment_len ((b ∷ q) ++ rest))
comment_word b q rest l h =
    let P : Option ℕ → Type 0 = LenWithin (length q) in
    subst P (sym (comment_same b q rest l h)) (fits_within (length q) (b ∷ q) (comment_len (b ∷ q)) (comment_fits (b ∷ q)) refl)

-- lines of comments and blanks
line_ends : (a : Bool) (b : ℕ) (q rest : List ℕ) → AreEnded (b ∷ q) → remarks_len 0 (b ∷ q) < length (b ∷ q)
    → Within (length q) (comment_line_word a ((b ∷ q) ++ rest))
unfolding comment_line_len
line_ends false b q rest l h = tt
line_ends true b q rest l h =
    let bs : List ℕ = (b ∷ q) ++ rest in
    let same = remarks_same 0 (b ∷ q) rest l h in
    by bs (nat_lt (blank_len bs) (remarks_len 0 bs) && is_break (slice_index bs (remarks_len 0 bs))) (omega (arith, same, h))
  where
    by : (bs : List ℕ) (t : Bool) → remarks_len 0 bs + 1 ≤ length q + 1 → Within (length q) (as_word CommentLine (if t then Some (remarks_len 0 bs + 1) else None))
    by bs true le = le
    by bs false le = tt

-- a tag with its inside
inside_within : (b : ℕ) (q rest : List ℕ) (t : Tag) → AreEnded (b ∷ q) → opening_tag (b ∷ q) ≡ Some t → IsFound (with_inside t (b ∷ q))
    → (n : ℕ) × (with_inside t ((b ∷ q) ++ rest) ≡ Some n) × (n ≤ length q + 1)
inside_within b q rest t l e h =
    let P : Option Tag → Type 0 = OptTag (b ∷ q) in
    let fits = subst P e (opening_fits (b ∷ q)) in
    let same = inside_same t (b ∷ q) rest l fits.within h in
    by (with_inside t (b ∷ q)) h (inside_fits (b ∷ q) t fits) same
  where
    by : (o : Option ℕ) → IsFound o → OptFits (b ∷ q) o → with_inside t ((b ∷ q) ++ rest) ≡ o
        → (n : ℕ) × (with_inside t ((b ∷ q) ++ rest) ≡ Some n) × (n ≤ length q + 1)
    by None f g s = absurd f
    by (Some n) f g s = (n, s, omega (arith, g.within))

as_found : (o : Option ℕ) → is_some o ≡ true → IsFound o
as_found None e = cc
as_found (Some n) e = tt

-- where it is looked for, its end is there, or it has none at all
raw_ends : (raw hidden u v : Bool) → (if raw || hidden then u || (not hidden && v) else true) ≡ true → raw ≡ true → (u ≡ true) ⊎ (v ≡ true)
raw_ends true hidden u v h e = elim (either u (not hidden && v) h) [
  | inl f ↦ inl f
  | inr f ↦ inr (and_right (not hidden) v f)
]
raw_ends false hidden u v h e = absurd (cc)

hidden_ends : (raw hidden u v : Bool) → (if raw || hidden then u || (not hidden && v) else true) ≡ true → hidden ≡ true → u ≡ true
hidden_ends raw false u v h e = absurd (cc)
hidden_ends true true true v h e = refl
hidden_ends true true false v h e = h
hidden_ends false true true v h e = refl
hidden_ends false true false v h e = h

none_within : (k : ℕ) (o : Option ℕ) → not (is_some o) ≡ true → LenWithin k o
none_within k None e = tt
none_within k (Some n) e = absurd (cc)

and_none : (u v : Bool) → v ≡ false → (u && v) ≡ false
and_none true v e = e
and_none false v e = refl

abbrev EndsTag : List ℕ → List ℕ → Type 0
EndsTag rest bs = ends_tag_before rest (opening_tag bs) bs ≡ true

tag_ended : (rest bs : List ℕ) (t : Tag) → opening_tag bs ≡ Some t → EndsTag rest bs → ends_tag_before rest (Some t) bs ≡ true
tag_ended rest bs t e h = sym (ap (λ o. ends_tag_before rest o bs) e) ∙ h

raw_word : (b : ℕ) (q rest : List ℕ) → AreEnded (b ∷ q) → EndsTag rest (b ∷ q) → LenWithin (length q) (raw_len ((b ∷ q) ++ rest))
unfolding raw_len
raw_word b q rest l h = by (opening_tag bs) refl
  where
    bs : List ℕ
    bs = (b ∷ q) ++ rest

    named : (t : Tag) (v : Bool) → is_raw_name t.name ≡ v → opening_tag bs ≡ Some t → LenWithin (length q) (if v then with_inside t bs else None)
    named t false e f = tt
    named t true e f =
        let g : opening_tag (b ∷ q) ≡ Some t = opening_here b q rest t l f in
        let P : Option ℕ → Type 0 = LenWithin (length q) in
        elim (raw_ends (is_raw_name t.name) (hides Page t.name) (is_some (with_inside t (b ∷ q))) (not (is_some (with_inside t bs))) (tag_ended rest (b ∷ q) t g h) e) [
          | inl s ↦ let w = inside_within b q rest t l g (as_found (with_inside t (b ∷ q)) s) in subst P (sym w.1) w.2
          | inr n ↦ none_within (length q) (with_inside t bs) n
        ]

    by : (o : Option Tag) → opening_tag bs ≡ o → LenWithin (length q) (raw_by is_raw_name o bs)
    by None e = tt
    by (Some t) e = named t (is_raw_name t.name) refl e

include_word : (b : ℕ) (q rest : List ℕ) → AreEnded (b ∷ q) → EndsTag rest (b ∷ q) → Within (length q) (include_at Page ((b ∷ q) ++ rest))
unfolding include_at
include_word b q rest l h =
    or_within (length q) (opening_include Page (opening_tag bs) bs) (closing_include Page (closing_tag bs)) (opens (opening_tag bs) refl)
    (closes (closing_tag bs) (closing_within (length q) bs (last_end is_end b q rest l)))
  where
    bs : List ℕ
    bs = (b ∷ q) ++ rest

    closes : (o : Option Tag) → TagWithin (length q) o → Within (length q) (closing_include Page o)
    closes None le = tt
    closes (Some t) le = by (is_left_out Page t.name)
      where
        by : (v : Bool) → Within (length q) (if v then Some (Include, t.len) else None)
        by true = le
        by false = tt

    hidden : (t : Tag) → opening_tag bs ≡ Some t → hides Page t.name ≡ true → hidden_len t bs ≤ length q + 1
    hidden t f e =
        let g : opening_tag (b ∷ q) ≡ Some t = opening_here b q rest t l f in
        let found : is_some (with_inside t (b ∷ q)) ≡ true =
        hidden_ends (is_raw_name t.name) (hides Page t.name) (is_some (with_inside t (b ∷ q))) (not (is_some (with_inside t bs))) (tag_ended rest (b ∷ q) t g h) e in
        let w = inside_within b q rest t l g (as_found (with_inside t (b ∷ q)) found) in
        let P : ℕ → Type 0 = λ (n : ℕ). n ≤ length q + 1 in
        subst P (sym (ap (λ o. unwrap_or o (length bs)) w.1)) w.2

    opens : (o : Option Tag) → opening_tag bs ≡ o → Within (length q) (opening_include Page o bs)
    opens None e = tt
    opens (Some t) e = by (hides Page t.name) refl (is_left_out Page t.name) (subst (TagWithin (length q)) e (opening_within (length q) bs (last_end is_end b q rest l)))
      where
        by : (v : Bool) → hides Page t.name ≡ v → (u : Bool) → t.len ≤ length q + 1
            → Within (length q) (if v then Some (Hidden, hidden_len t bs) else (if u then Some (Include, t.len) else None))
        by true f u le = hidden t e f
        by false f true le = le
        by false f false le = tt

-- ---- any lexeme

pub within_lines : (a : Bool) (b : ℕ) (q rest : List ℕ) → AreEnded (b ∷ q) → ends_before rest (b ∷ q) ≡ true
    → Within (length q) (comment_line_word a ((b ∷ q) ++ rest)) → Within (length q) (form_at Page a ((b ∷ q) ++ rest))
unfolding form_at
within_lines a b q rest l h line =
    let bs : List ℕ = (b ∷ q) ++ rest in
    let k : ℕ = length q in
    let g = last_end is_end b q rest l in
    let comment = and_left (ends_comment (b ∷ q)) (ends_tag_before rest (opening_tag (b ∷ q)) (b ∷ q)) h in
    let tag = and_right (ends_comment (b ∷ q)) (ends_tag_before rest (opening_tag (b ∷ q)) (b ∷ q)) h in
    or_within k (comment_line_word a bs) _ line
    (or_within k (as_word Comment (comment_len bs)) _ (word_within_len k Comment (comment_len bs) (comment_word b q rest l comment))
    (or_within k (as_word Raw (raw_len bs)) _ (word_within_len k Raw (raw_len bs) (raw_word b q rest l tag))
    (or_within k (include_at Page bs) _ (include_word b q rest l tag)
    (or_within k (entity_word (entity_at bs)) (sign_word bs) (entity_word_within k (entity_at bs) (entity_within k bs g)) (signs_within k bs g)))))

pub front_of : (b : ℕ) (q : List ℕ) (o p : Option Word) → IsFrontOf (lexer Page) (b ∷ q) o p → Within (length q) o → o ≡ p
front_of b q None p f h = sym f
front_of b q (Some w) p f h = sym (f (omega (arith, h)))

-- none of a line of comments and blanks goes over it
abbrev LineWithin : List ℕ → List ℕ → Type 0
LineWithin rest [] = Unit {0}
LineWithin rest (b ∷ q) = (a : Bool) → AllEnd rest a 0 (b ∷ q) → Within (length q) (comment_line_word a ((b ∷ q) ++ rest))

form_settles : (a : Bool) (b : ℕ) (q rest : List ℕ) → AreEnded (b ∷ q) → AllEnd rest a 0 (b ∷ q) → LineWithin rest (b ∷ q)
    → form_at Page a ((b ∷ q) ++ rest) ≡ form_at Page a (b ∷ q)
form_settles a b q rest l h line =
    front_of b q (form_at Page a ((b ∷ q) ++ rest)) (form_at Page a (b ∷ q)) (lexemes_front Page a (b ∷ q) rest)
    (within_lines a b q rest l h.0 (line a h))

-- what follows changes none of the lexemes, where it ends no line of comments and blanks that begins before it
settle_by : (test : ℕ → Bool) (rest : List ℕ) → ((q : List ℕ) → EndsBy test q → AreEnded q × LineWithin rest q)
    → (a : Bool) (n : ℕ) (q : List ℕ) → EndsBy test q → AllEnd rest a n q → Settles (lexer Page) rest a n q
settle_by test rest f a n [] l h = h
settle_by test rest f a (suc n) (b ∷ q) l h = settle_by test rest f (is_break b) n q (ends_behind test b q l) h
settle_by test rest f a zero (b ∷ q) l h = (
  form_settles a b q rest (f (b ∷ q) l).0 h (f (b ∷ q) l).1,
  settle_by test rest f (is_break b) (skipped_by (lexer Page) (form_at Page a (b ∷ q))) q (ends_behind test b q l) h.1,
)

-- ---- behind lines

line_within : (rest q : List ℕ) → AreWholeLines q → LineWithin rest q
line_within rest [] l = tt
line_within rest (b ∷ q) l = λ a h. line_ends a b q rest (lines_ended (b ∷ q) l) (remarks_short rest a 0 (b ∷ q) l (omega arith) h)

pub lines_settle : (rest : List ℕ) (a : Bool) (n : ℕ) (q : List ℕ) → AreWholeLines q → AllEnd rest a n q → Settles (lexer Page) rest a n q
lines_settle rest a n q l h = settle_by is_break rest (λ q l. (lines_ended q l, line_within rest q l)) a n q l h

-- ---- behind a comment or tag

pub get_behind : (xs ys : List ℕ) (i : ℕ) → get_or (xs ++ ys) (length xs + i) 0 ≡ get_or ys i 0
get_behind [] ys i = let f : 0 + i ≡ i = omega arith in ap (λ (j : ℕ). get_or ys j 0) f
get_behind (x ∷ xs) ys i =
    let f : suc (length xs) + i ≡ suc (length xs + i) = omega arith in
    ap (λ (j : ℕ). get_or (x ∷ (xs ++ ys)) j 0) f ∙ get_behind xs ys i

pub no_line_by : (a : Bool) (bs : List ℕ) (n k : ℕ) → remarks_len 0 bs ≡ n → is_break (slice_index bs n) ≡ false → Within k (comment_line_word a bs)
unfolding comment_line_len
no_line_by false bs n k e f = tt
no_line_by true bs n k e f =
    let g : is_break (slice_index bs (remarks_len 0 bs)) ≡ false = ap (λ (i : ℕ). is_break (slice_index bs i)) e ∙ f in
    let none : (nat_lt (blank_len bs) (remarks_len 0 bs) && is_break (slice_index bs (remarks_len 0 bs))) ≡ false =
    and_none (nat_lt (blank_len bs) (remarks_len 0 bs)) (is_break (slice_index bs (remarks_len 0 bs))) g in
    subst (λ (t : Bool). Within k (as_word CommentLine (if t then Some (remarks_len 0 bs + 1) else None))) (sym none) tt

line_through : (a : Bool) (b : ℕ) (q rest : List ℕ) → AreEnded (b ∷ q) → AllEnd rest a 0 (b ∷ q) → BeginsShown rest
    → Within (length q) (comment_line_word a ((b ∷ q) ++ rest))
line_through a b q rest l h s = elim (cases_lt (remarks_len 0 (b ∷ q)) (length (b ∷ q))) [
  | inl less ↦ line_ends a b q rest l less
  | inr all ↦
      no_line_by a ((b ∷ q) ++ rest) (length (b ∷ q) + remarks_len 0 rest) (length q) (remarks_through rest a 0 (b ∷ q) l h all)
      (ap is_break (get_behind (b ∷ q) rest (remarks_len 0 rest)) ∙ s)
]

shown_within : (rest q : List ℕ) → BeginsShown rest → AreEnded q → LineWithin rest q
shown_within rest [] s l = tt
shown_within rest (b ∷ q) s l = λ a h. line_through a b q rest l h s

pub marks_settle : (rest : List ℕ) (a : Bool) (n : ℕ) (q : List ℕ) → BeginsShown rest → AreEnded q → AllEnd rest a n q → Settles (lexer Page) rest a n q
marks_settle rest a n q s l h = settle_by is_end rest (λ q l. (l, shown_within rest q s l)) a n q l h

-- ---- where everything ends in a part, it does before any rest

tag_before : (rest bs : List ℕ) (o : Option Tag) → ends_tag o bs ≡ true → ends_tag_before rest o bs ≡ true
tag_before rest bs None h = refl
tag_before rest bs (Some t) h =
    by (is_raw_name t.name || hides Page t.name) (is_some (with_inside t bs)) (not (hides Page t.name) && not (is_some (with_inside t (bs ++ rest)))) h
  where
    by : (c u v : Bool) → (if c then u else true) ≡ true → (if c then u || v else true) ≡ true
    by false u v e = refl
    by true true v e = refl
    by true false v e = absurd (cc)

and_both : (u v : Bool) → u ≡ true → v ≡ true → (u && v) ≡ true
and_both true v e f = f
and_both false v e f = e

here_before : (rest bs : List ℕ) → ends_here bs ≡ true → ends_before rest bs ≡ true
here_before rest bs h =
    and_both (ends_comment bs) (ends_tag_before rest (opening_tag bs) bs) (and_left (ends_comment bs) (ends_tag (opening_tag bs) bs) h)
    (tag_before rest bs (opening_tag bs) (and_right (ends_comment bs) (ends_tag (opening_tag bs) bs) h))

all_before : (rest : List ℕ) (a : Bool) (n : ℕ) (q : List ℕ) → AtStarts (lexer Page) (λ after here. ends_here here ≡ true) a n q → AllEnd rest a n q
all_before rest a n [] h = h
all_before rest a (suc n) (b ∷ q) h = all_before rest (is_break b) n q h
all_before rest a zero (b ∷ q) h =
    (here_before rest (b ∷ q) h.0, all_before rest (is_break b) (skipped_by (lexer Page) (form_at Page a (b ∷ q))) q h.1)

pub ends_before_any : (rest bs : List ℕ) → HasEnds bs → HasEndsBefore rest bs
ends_before_any rest bs h = all_before rest false 0 bs h
