-- Texts that are read, and what refuses a page as a template.
use Rattle.std.proofs.Common.{◌≡◌, ℕ, ◌<◌, ◌≤◌, Bool, true, false, cond, Option, Some, None, option_map, List, [], ◌∷◌, Ok, Err, length, map, refl, sym, ap, ◌∙◌, subst, arith}
use Rattle.std.specs.Prelude.{nat_lt}
use Rattle.std.specs.List.{All}
use Rattle.std.specs.Option.{option_or}
use Rattle.std.specs.Str.{IsUtf8}
use Rattle.std.proofs.lemmas.Bool.Decides.{nat_tests}
use Rattle.wt_span.specs.declared.form.Mode.{Mode}
use Rattle.wt_span.specs.declared.form.Mode.TheVariants as mode
use Rattle.wt_span.specs.Lexemes.{words}
use Rattle.wt_span.specs.Braces.{CallAt, calls}
use Rattle.wt_lex.specs.declared.lexeme.Lexeme.{Lexeme}
use Rattle.wt_lex.specs.Places.{word_of, Follow, AtBorders}
use Rattle.wt_braces.specs.declared.call.BraceRefusal.{BraceRefusal}
use Rattle.wt_braces.specs.declared.call.BraceRefusal.TheVariants as refusal
use Rattle.wt_braces.specs.Found.{first_place, too_deep, AnswersCalls}
use Rattle.wt_utf8.specs.Places.{not_utf8_place}
use Rattle.wt_utf8.proofs.PlaceLaws.{at_place}
use Rattle.wt_expand.specs.Templates.{template_text}
use Rattle.wt_expand.specs.Work.{Refused, braces_too_deep, not_utf8, too_long, most_bytes, deep_place, template_refusal}
use Rattle.wt_transclusion.specs.declared.read.ReadText.{ReadText}
use Rattle.wt_transclusion.specs.Reads.{braces_of, AnswersText}
use Rattle.wt_transclusion.proofs.Insides.{template_len}

-- ---- texts

first_zero : (xs : List Lexeme) (to : ℕ) → Follow 0 xs to → first_place xs ≡ 0
first_zero [] to h = refl
first_zero (x ∷ xs) to h = h.0

same_calls : (m : Mode) (text : List ℕ) (xs : List Lexeme) (to : ℕ) → map word_of xs ≡ words m text → Follow 0 xs to
    → calls (first_place xs) (map word_of xs) ≡ calls 0 (words m text)
same_calls m text xs to w h = ap (λ n. calls n (map word_of xs)) (first_zero xs to h) ∙ ap (calls 0) w

deep_is : (m : Mode) (text : List ℕ) → deep_place m text ≡ too_deep (calls 0 (words m text))
unfolding deep_place
deep_is m text = refl

pub text_read : (m : Mode) (text : List ℕ) (xs : List Lexeme) (cs : List CallAt) (r : ReadText) → IsUtf8 text → map word_of xs ≡ words m text → Follow 0 xs (length text)
    → All (AtBorders text) xs
    → cs ≡ calls (first_place xs) (map word_of xs) → too_deep (calls (first_place xs) (map word_of xs)) ≡ None → r.text.now ≡ text → r.lexemes.now ≡ xs
    → map braces_of r.calls.now ≡ cs
    → AnswersText m text (Ok r)
text_read m text xs cs r u w f b c d t l k =
    let same = same_calls m text xs (length text) w f in
    let P : List Lexeme → Type 0 = λ ys. Follow 0 ys (length text) in (
      record {
        text_is = t;
        characters = u;
        words_are = ap (map word_of) l ∙ w;
        follow = subst P (sym l) f;
        borders = subst (All (AtBorders text)) (sym l) b;
        calls_are = k
            ∙ c ∙ same;
      },
      deep_is m text ∙ ap too_deep (sym same) ∙ d,
    )

pub text_refused : (m : Mode) (text : List ℕ) (xs : List Lexeme) (e : BraceRefusal) → map word_of xs ≡ words m text → Follow 0 xs (length text)
    → AnswersCalls (calls (first_place xs) (map word_of xs)) (Err e) → AnswersText m text (Err e)
text_refused m text xs (refusal.BracesTooDeep place) w f h = deep_is m text ∙ ap too_deep (sym (same_calls m text xs (length text) w f)) ∙ h
text_refused m text xs refusal.NoMemory w f h = tt

-- ---- pages

-- by its length, where it is UTF-8, and the nesting of its text
abbrev refused_by : Bool → List ℕ → Option ℕ → Option ℕ → Option Refused
refused_by long title place deep = cond long (Some (too_long title))
    (option_or (option_map (not_utf8 title) place) (option_map (braces_too_deep (Some title)) deep))

refusal_is : (title bytes : List ℕ) → template_refusal title bytes
    ≡ refused_by (nat_lt most_bytes (length bytes)) title (not_utf8_place bytes) (deep_place mode.Template (template_text bytes))
unfolding template_refusal
refusal_is title bytes = refl

is_long : (n : ℕ) → 2097152 < n → nat_lt most_bytes n ≡ true
unfolding most_bytes
is_long n l = grind (arith, nat_tests)

is_short : (n : ℕ) → n ≤ 2097152 → nat_lt most_bytes n ≡ false
unfolding most_bytes
is_short n l = grind (arith, nat_tests)

pub long_refused : (title kept bytes : List ℕ) → kept ≡ title → 2097152 < length bytes → template_refusal title bytes ≡ Some (too_long kept)
long_refused title kept bytes k l =
    refusal_is title bytes ∙ ap (λ t. refused_by t title (not_utf8_place bytes) (deep_place mode.Template (template_text bytes))) (is_long (length bytes) l)
    ∙ ap (λ t. Some (too_long t)) (sym k)

short_is : (title bytes : List ℕ) → length bytes ≤ 2097152
    → template_refusal title bytes ≡ refused_by false title (not_utf8_place bytes) (deep_place mode.Template (template_text bytes))
short_is title bytes l = refusal_is title bytes
    ∙ ap (λ t. refused_by t title (not_utf8_place bytes) (deep_place mode.Template (template_text bytes))) (is_short (length bytes) l)

pub utf8_refused : (title kept bytes : List ℕ) (place : ℕ) → kept ≡ title → length bytes ≤ 2097152 → not_utf8_place bytes ≡ Some place
    → template_refusal title bytes ≡ Some (not_utf8 kept place)
utf8_refused title kept bytes place k l e =
    short_is title bytes l ∙ ap (λ o. refused_by false title o (deep_place mode.Template (template_text bytes))) e ∙ ap (λ t. Some (not_utf8 t place)) (sym k)

pub deep_refused : (title kept bytes : List ℕ) (place : ℕ) → kept ≡ title → length bytes ≤ 2097152 → not_utf8_place bytes ≡ None
    → deep_place mode.Template (template_text bytes) ≡ Some place → template_refusal title bytes ≡ Some (braces_too_deep (Some kept) place)
deep_refused title kept bytes place k l e d =
    short_is title bytes l ∙ ap (λ o. refused_by false title o (deep_place mode.Template (template_text bytes))) e ∙ ap (refused_by false title None) d
    ∙ ap (λ t. Some (braces_too_deep (Some t) place)) (sym k)

pub not_refused : (title bytes : List ℕ) → length bytes ≤ 2097152 → not_utf8_place bytes ≡ None → deep_place mode.Template (template_text bytes) ≡ None
    → template_refusal title bytes ≡ None
not_refused title bytes l e d =
    short_is title bytes l ∙ ap (λ o. refused_by false title o (deep_place mode.Template (template_text bytes))) e ∙ ap (refused_by false title None) d

-- places and texts are small
pub small_place : (bytes : List ℕ) (place : ℕ) → length bytes ≤ 2097152 → not_utf8_place bytes ≡ Some place → place < 4294967296
small_place bytes place l e = let p = at_place bytes place e in omega (arith, l, p.within)

pub small_text : (bytes text taken : List ℕ) → length bytes ≤ 2097152 → text ≡ bytes → taken ≡ template_text text → length taken < 4294967296
small_text bytes text taken l t e =
    let n = template_len text in
    let a = ap length t in
    let b = ap length e in
    omega (arith, l, n, a, b)
