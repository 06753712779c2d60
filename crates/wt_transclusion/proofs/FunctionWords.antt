-- A target that names a function begins with characters: its blanks and its word begin no other lexeme.
use Rattle.std.proofs.Common.{◌≡◌, ◌∙◌, ℕ, zero, suc, ◌+◌, ◌-◌, ◌<◌, ◌≤◌, Bool, true, false, Option, Some, None, List, [], ◌∷◌, ◌++◌, length, take, drop, refl, sym, ap, subst, arith, append_assoc, take-append-drop, length-append}
use Rattle.std.specs.Prelude.{replicate, slice_index, if◌then◌else◌, ◌&&◌, is_some, nat_lt}
use Rattle.std.specs.Option.{option_or}
use Rattle.std.specs.List.{AllPass, prefix_len}
use Rattle.std.specs.Char.{to_ascii_lowercase}
use Rattle.std.proofs.lemmas.Bool.Decides.{nat_tests}
use Rattle.std.proofs.lemmas.List.{drop-drop, drop_at, get_or-drop, length-map, length-replicate}
use Rattle.wt_span.specs.declared.form.Mode.{Mode}
use Rattle.wt_span.specs.declared.form.Mode.TheVariants as mode
use Rattle.wt_span.specs.declared.form.LexKind.{LexKind}
use Rattle.wt_span.specs.declared.form.LexKind.TheVariants as lex
use Rattle.wt_span.specs.declared.function.Function.{Function}
use Rattle.wt_span.specs.declared.function.Function.TheVariants.{If, IfEq, Switch}
use Rattle.wt_span.specs.Braces.{Member, Members, lexeme, call, members, width_of_all}
use Rattle.wt_span.specs.Characters as byte
use Rattle.wt_span.specs.Bytes.{is_blank, is_break, is_white, lower, blank_len}
use Rattle.wt_span.specs.Comments.{comment_len, remarks_with, remarks_len, comment_line_len}
use Rattle.wt_span.specs.Entities.{entity_at}
use Rattle.wt_span.specs.Functions.{word_of, function_of}
use Rattle.wt_span.specs.Items.{Item}
use Rattle.wt_span.specs.Lexemes.{as_word, entity_word, sign_word, form_at, words}
use Rattle.wt_span.specs.Tags.{raw_len, include_at}
use Rattle.wt_functions.proofs.Naming.{naming}
use Rattle.wt_lex.specs.Reading.{Stands}
use Rattle.wt_lex.specs.Words.{is_form_byte}
use Rattle.wt_lex.proofs.AllForms.{no_form}
use Rattle.wt_lex.proofs.Forms.{OptFits, comment_fits}
use Rattle.wt_expand.specs.Expansion.{Output, Reading, lexeme_items, chars}
use Rattle.wt_transclusion.specs.Cursors.{starts}
use Rattle.wt_transclusion.specs.Ends.{BeginsAscii}
use Rattle.wt_transclusion.specs.Marks.{Mark, opens, closes, of, marks_from, word_marks, words_marks, marks_of_all}
use Rattle.wt_transclusion.specs.Steps.{IsStretchOf, given_from}
use Rattle.wt_transclusion.proofs.Chunks.{first_gives}
use Rattle.wt_transclusion.proofs.MarkBytes.{text_says}
use Rattle.wt_transclusion.proofs.StretchCuts.{marks_len, stretch_back}
use Rattle.wt_transclusion.proofs.StretchLaws.{lt_false}

-- So many bytes begin a text that are ASCII and begin no form; the last of them is no blank.
abbrev pub IsPlain : ℕ → List ℕ → Type 0
IsPlain zero bs = Unit {0}
IsPlain (suc n) [] = ⊥
IsPlain (suc n) (b ∷ bs) = (is_form_byte b ≡ false) × (b < 128) × (n ≡ 0 → is_blank b ≡ false) × IsPlain n bs

-- ---- cut

pub plain_front : (n k : ℕ) (bs : List ℕ) → IsPlain n (take k bs) → IsPlain n bs
plain_front zero k bs h = tt
plain_front (suc n) zero bs h = absurd h
plain_front (suc n) (suc k) [] h = absurd h
plain_front (suc n) (suc k) (b ∷ bs) h = (h.0, h.1, h.2, plain_front n k bs h.3)

plain_behind : (n w : ℕ) (bs : List ℕ) → IsPlain n bs → IsPlain (n - w) (drop w bs)
plain_behind zero w bs h = let z : 0 ≡ 0 - w = omega arith in subst (λ k. IsPlain k (drop w bs)) z tt
plain_behind (suc n) zero bs h = let z : suc n ≡ suc n - 0 = omega arith in subst (λ k. IsPlain k bs) z h
plain_behind (suc n) (suc w) [] h = absurd h
plain_behind (suc n) (suc w) (b ∷ bs) h = let z : n - w ≡ suc n - suc w = omega arith in subst (λ k. IsPlain k (drop w bs)) z (plain_behind n w bs h.3)

pub plain_first : (n : ℕ) (bs : List ℕ) → IsPlain (suc n) bs → is_form_byte (slice_index bs 0) ≡ false
plain_first n [] h = absurd h
plain_first n (b ∷ bs) h = h.0

-- ---- no form begins there

no_comment : (bs : List ℕ) (o : Option ℕ) → is_form_byte (slice_index bs 0) ≡ false → OptFits bs o → o ≡ None
no_comment bs None h f = refl
no_comment bs (Some n) h f = let z : true ≡ false = sym f.begins ∙ h in cc

remarks_plain : (n : ℕ) (bs : List ℕ) → IsPlain (suc n) bs → remarks_len 0 bs ≡ blank_len bs
remarks_plain n [] h = absurd h
remarks_plain zero (b ∷ bs) h =
    ap (λ o. remarks_with o b (λ k. remarks_len k bs)) (no_comment (b ∷ bs) (comment_len (b ∷ bs)) h.0 (comment_fits (b ∷ bs)))
    ∙ ap (λ x. if x then 1 + remarks_len 0 bs else 0) (h.2 refl) ∙ sym (ap (λ x. if x then 1 + prefix_len is_blank bs else 0) (h.2 refl))
remarks_plain (suc n) (b ∷ bs) h =
    ap (λ o. remarks_with o b (λ k. remarks_len k bs)) (no_comment (b ∷ bs) (comment_len (b ∷ bs)) h.0 (comment_fits (b ∷ bs)))
    ∙ ap (λ k. if is_blank b then 1 + k else 0) (remarks_plain n bs h.3)

no_line : (bs : List ℕ) → remarks_len 0 bs ≡ blank_len bs → comment_line_len bs ≡ None
unfolding comment_line_len
no_line bs e =
    ap (λ n. if nat_lt (blank_len bs) n && is_break (slice_index bs n) then Some (n + 1) else None) e
    ∙ ap (λ x. if x && is_break (slice_index bs (blank_len bs)) then Some (blank_len bs + 1) else None) (lt_false (blank_len bs) (blank_len bs) (omega arith))

no_other : (m : Mode) (bs : List ℕ) → comment_line_len bs ≡ None → form_at m true bs ≡ form_at m false bs
unfolding form_at
no_other m bs e =
    ap (λ o. option_or (as_word lex.CommentLine o) (option_or (as_word lex.Comment (comment_len bs)) (option_or (as_word lex.Raw (raw_len bs))
    (option_or (include_at m bs) (option_or (entity_word (entity_at bs)) (sign_word bs)))))) e

plain_inside : (m : Mode) (n : ℕ) (bs : List ℕ) → IsPlain (suc n) bs → form_at m false bs ≡ None
plain_inside m n [] h = absurd h
plain_inside m n (b ∷ bs) h = no_form m false (b ∷ bs) (let e : is_form_byte b ≡ false = h.0 in rw e refl)

plain_form : (m : Mode) (after : Bool) (n : ℕ) (bs : List ℕ) → IsPlain (suc n) bs → form_at m after bs ≡ None
plain_form m false n bs h = plain_inside m n bs h
plain_form m true n bs h = no_other m bs (no_line bs (remarks_plain n bs h)) ∙ plain_inside m n bs h

no_word : (m : Mode) (after : Bool) (kind : LexKind) (w n : ℕ) (bs : List ℕ) → form_at m after bs ≡ Some (kind, w) → IsPlain (suc n) bs → ⊥
no_word m after kind w n bs e h = let z : true ≡ false = ap is_some (sym e ∙ plain_form m after n bs h) in cc

plain_word : (m : Mode) (after : Bool) (kind : LexKind) (w n : ℕ) (bs : List ℕ) → Stands m after kind w bs → IsPlain (suc n) bs → kind ≡ lex.Chars
plain_word m after lex.Chars w n bs s h = refl
plain_word m after lex.CommentLine w n bs s h = absurd (no_word m after lex.CommentLine w n bs s h)
plain_word m after lex.Comment w n bs s h = absurd (no_word m after lex.Comment w n bs s h)
plain_word m after lex.Raw w n bs s h = absurd (no_word m after lex.Raw w n bs s h)
plain_word m after lex.Include w n bs s h = absurd (no_word m after lex.Include w n bs s h)
plain_word m after lex.Hidden w n bs s h = absurd (no_word m after lex.Hidden w n bs s h)
plain_word m after (lex.Entity c) w n bs s h = absurd (no_word m after (lex.Entity c) w n bs s h)
plain_word m after lex.Opens w n bs s h = absurd (no_word m after lex.Opens w n bs s h)
plain_word m after lex.Closes w n bs s h = absurd (no_word m after lex.Closes w n bs s h)
plain_word m after lex.LinkOpen w n bs s h = absurd (no_word m after lex.LinkOpen w n bs s h)
plain_word m after lex.LinkClose w n bs s h = absurd (no_word m after lex.LinkClose w n bs s h)
plain_word m after lex.Pipe w n bs s h = absurd (no_word m after lex.Pipe w n bs s h)
plain_word m after lex.Equals w n bs s h = absurd (no_word m after lex.Equals w n bs s h)

-- ---- the members there

pub no_brace : (n byte : ℕ) (bs : List ℕ) → slice_index bs 0 ≡ byte → is_form_byte byte ≡ true → IsPlain (suc n) bs → ⊥
no_brace n byte bs e is h = let z : true ≡ false = sym is ∙ ap is_form_byte (sym e) ∙ plain_first n bs h in cc

marks_plain : (m : Mode) (t : List ℕ) (p : ℕ) (kind : LexKind) (w n : ℕ) (after : List Mark) → 1 ≤ w
    → drop p (words_marks (words m t)) ≡ marks_from kind w 0 w ++ after → IsPlain (suc n) (drop p t) → kind ≡ lex.Chars
marks_plain m t p kind zero n after l e h = absurd (omega (arith, l))
marks_plain m t p kind (suc w) n after l e h =
    let here = text_says m t p (of kind (suc w) 0) (marks_from kind (suc w) 1 w ++ after) e in
    plain_word m here.after kind (suc w) n (drop p t) here.stands h

opens_plain : (m : Mode) (t : List ℕ) (p w n : ℕ) (after : List Mark) → 1 ≤ w → drop p (words_marks (words m t)) ≡ replicate w opens ++ after
    → IsPlain (suc n) (drop p t) → ⊥
opens_plain m t p zero n after l e h = absurd (omega (arith, l))
opens_plain m t p (suc w) n after l e h = no_brace n 123 (drop p t) (text_says m t p opens (replicate w opens ++ after) e) refl h

closes_plain : (m : Mode) (t : List ℕ) (p w n : ℕ) (after : List Mark) → 1 ≤ w → drop p (words_marks (words m t)) ≡ replicate w closes ++ after
    → IsPlain (suc n) (drop p t) → ⊥
closes_plain m t p zero n after l e h = absurd (omega (arith, l))
closes_plain m t p (suc w) n after l e h = no_brace n 125 (drop p t) (text_says m t p closes (replicate w closes ++ after) e) refl h

lexeme_plain : (m : Mode) (t : List ℕ) (p : ℕ) (kind : LexKind) (w n : ℕ) (after : List Mark) → 1 ≤ w
    → drop p (words_marks (words m t)) ≡ word_marks kind w ++ after → IsPlain (suc n) (drop p t) → kind ≡ lex.Chars
lexeme_plain m t p lex.Chars w n after l e h = marks_plain m t p lex.Chars w n after l e h
lexeme_plain m t p lex.CommentLine w n after l e h = marks_plain m t p lex.CommentLine w n after l e h
lexeme_plain m t p lex.Comment w n after l e h = marks_plain m t p lex.Comment w n after l e h
lexeme_plain m t p lex.Raw w n after l e h = marks_plain m t p lex.Raw w n after l e h
lexeme_plain m t p lex.Include w n after l e h = marks_plain m t p lex.Include w n after l e h
lexeme_plain m t p lex.Hidden w n after l e h = marks_plain m t p lex.Hidden w n after l e h
lexeme_plain m t p (lex.Entity c) w n after l e h = marks_plain m t p (lex.Entity c) w n after l e h
lexeme_plain m t p lex.Opens w n after l e h = absurd (opens_plain m t p w n after l e h)
lexeme_plain m t p lex.Closes w n after l e h = absurd (closes_plain m t p w n after l e h)
lexeme_plain m t p lex.LinkOpen w n after l e h = marks_plain m t p lex.LinkOpen w n after l e h
lexeme_plain m t p lex.LinkClose w n after l e h = marks_plain m t p lex.LinkClose w n after l e h
lexeme_plain m t p lex.Pipe w n after l e h = marks_plain m t p lex.Pipe w n after l e h
lexeme_plain m t p lex.Equals w n after l e h = marks_plain m t p lex.Equals w n after l e h

-- ---- what they give

chars_of : (m : Mode) (kind : LexKind) (bs : List ℕ) → kind ≡ lex.Chars → lexeme_items m kind bs ≡ chars bs
chars_of m kind bs e = ap (λ k. lexeme_items m k bs) e ∙ (elim m as (λ (d : Mode). lexeme_items d lex.Chars bs ≡ chars bs) [ mode.Page ↦ refl | mode.Template ↦ refl ])

chars_ascii : (n w : ℕ) (bs : List ℕ) (rest : List Item) → IsPlain n bs → BeginsAscii (n - w) rest → BeginsAscii n (chars (take w bs) ++ rest)
chars_ascii zero w bs rest h a = tt
chars_ascii (suc n) zero bs rest h a = let z : suc n - 0 ≡ suc n = omega arith in subst (λ k. BeginsAscii k rest) z a
chars_ascii (suc n) (suc w) [] rest h a = absurd h
chars_ascii (suc n) (suc w) (b ∷ bs) rest h a =
    let z : suc n - suc w ≡ n - w = omega arith in (h.1, chars_ascii n w bs rest h.3 (subst (λ k. BeginsAscii k rest) z a))

-- the marks of a stretch, and those behind it
pub marks_there : (m : Mode) (t : List ℕ) (p e : ℕ) (xs : List Member) → IsStretchOf m t p e xs
    → drop p (words_marks (words m t)) ≡ marks_of_all (members xs) ++ drop (width_of_all (members xs)) (drop p (words_marks (words m t)))
marks_there m t p e xs st =
    let w = drop p (words_marks (words m t)) in
    let n = width_of_all (members xs) in
    sym (take-append-drop n w) ∙ ap (λ ys. ys ++ drop n w) st.bytes

-- a run of braces from one of them on
pub brace_mark : (o : Mark) (k i : ℕ) (after : List Mark) → i < k → drop i (replicate k o ++ after) ≡ o ∷ drop (suc i) (replicate k o ++ after)
brace_mark o zero i after l = absurd (omega (arith, l))
brace_mark o (suc k) zero after l = refl
brace_mark o (suc k) (suc i) after l = brace_mark o k i after (omega (arith, l))

-- the first bytes of a call are braces
pub opening_there : (m : Mode) (t : List ℕ) (p e k : ℕ) (ms : Members) (ys : List Member) → IsStretchOf m t p e (call k ms ∷ ys)
    → (i : ℕ) → i < k → slice_index t (p + i) ≡ byte.opening_brace
opening_there m t p e k ms ys st i l =
    let all = marks_there m t p e (call k ms ∷ ys) st in
    let inner = marks_of_all ms ++ replicate k closes in
    let rest = drop (width_of_all (members (call k ms ∷ ys))) (drop p (words_marks (words m t))) in
    let after = inner ++ (marks_of_all (members ys) ++ rest) in
    let is : drop (p + i) (words_marks (words m t)) ≡ opens ∷ drop (suc i) (replicate k opens ++ after) =
    sym (drop-drop i p (words_marks (words m t)))
    ∙ ap (drop i) (all ∙ append_assoc (replicate k opens ++ inner) (marks_of_all (members ys)) rest ∙ append_assoc (replicate k opens) inner (marks_of_all (members ys) ++ rest))
    ∙ brace_mark opens k i after l in
    let z : p + i ≡ p + i + 0 = omega arith in
    ap (slice_index t) z ∙ sym (get_or-drop (p + i) t 0 0) ∙ text_says m t (p + i) opens (drop (suc i) (replicate k opens ++ after)) is

-- and so are its last ones
pub closing_there : (m : Mode) (t : List ℕ) (p e k : ℕ) (ms : Members) (ys : List Member) → IsStretchOf m t p e (call k ms ∷ ys)
    → (i : ℕ) → i < k → slice_index t (p + (k + width_of_all ms) + i) ≡ byte.closing_brace
closing_there m t p e k ms ys st i l =
    let w = words_marks (words m t) in
    let all = marks_there m t p e (call k ms ∷ ys) st in
    let rest = drop (width_of_all (members (call k ms ∷ ys))) (drop p w) in
    let front = replicate k opens ++ marks_of_all ms in
    let after = marks_of_all (members ys) ++ rest in
    let wide : length front ≡ k + width_of_all ms = (let a = length-append (replicate k opens) (marks_of_all ms) in let b = length-replicate k opens in
    let c = marks_len ms in omega (arith, a, b, c)) in
    let split : drop p w ≡ front ++ (replicate k closes ++ after) =
    all ∙ append_assoc (replicate k opens ++ (marks_of_all ms ++ replicate k closes)) (marks_of_all (members ys)) rest
    ∙ ap (λ os. os ++ after) (sym (append_assoc (replicate k opens) (marks_of_all ms) (replicate k closes)))
    ∙ append_assoc front (replicate k closes) after in
    let q = p + (k + width_of_all ms) in
    let is : drop (q + i) w ≡ closes ∷ drop (suc i) (replicate k closes ++ after) =
    sym (drop-drop i q w) ∙ ap (drop i) (sym (drop-drop (k + width_of_all ms) p w) ∙ ap (drop (k + width_of_all ms)) split
    ∙ drop_at front (replicate k closes ++ after) (k + width_of_all ms) wide)
    ∙ brace_mark closes k i after l in
    let z : q + i ≡ q + i + 0 = omega arith in
    ap (slice_index t) z ∙ sym (get_or-drop (q + i) t 0 0) ∙ text_says m t (q + i) closes (drop (suc i) (replicate k closes ++ after)) is

pub given_ascii : (r : Reading) (t : List ℕ) (p e n : ℕ) (s : Bool) (xs : List Member) → IsStretchOf r.mode t p e xs → IsPlain n (drop p t)
    → BeginsAscii n (given_from r s t p xs).items
given_ascii r t p e zero s xs st h = tt
given_ascii r t p e (suc n) s [] st h = tt
given_ascii r t p e (suc n) s (call k ms ∷ ys) st h =
    let all = marks_there r.mode t p e (call k ms ∷ ys) st in
    let two = st.full.0.0 in
    let inner = marks_of_all ms ++ replicate k closes in
    let rest = drop (width_of_all (members (call k ms ∷ ys))) (drop p (words_marks (words r.mode t))) in
    absurd (opens_plain r.mode t p k n (inner ++ (marks_of_all (members ys) ++ rest)) (omega (arith, two))
    (all ∙ append_assoc (replicate k opens ++ inner) (marks_of_all (members ys)) rest ∙ append_assoc (replicate k opens) inner (marks_of_all (members ys) ++ rest)) h)
given_ascii r t p e (suc n) s (lexeme (kind, w) ∷ ys) st h =
    let all = marks_there r.mode t p e (lexeme (kind, w) ∷ ys) st in
    let rest = drop (width_of_all (members (lexeme (kind, w) ∷ ys))) (drop p (words_marks (words r.mode t))) in
    let some : 1 ≤ w = st.full.0 in
    let is : kind ≡ lex.Chars = lexeme_plain r.mode t p kind w n (marks_of_all (members ys) ++ rest) some
    (all ∙ append_assoc (word_marks kind w) (marks_of_all (members ys)) rest) h in
    let z : p + (w + 0) ≡ p + w = omega arith in
    let behind = subst (λ q. IsStretchOf r.mode t q e ys) z (stretch_back _ _ p e (lexeme (kind, w) ∷ []) ys st) in
    let plain = subst (IsPlain (suc n - w)) (drop-drop w p t) (plain_behind (suc n) w (drop p t) h) in
    let more = given_ascii r t (p + w) e (suc n - w) (starts t (p + w)) ys behind plain in
    let bs = take w (drop p t) in
    let given = (given_from r (starts t (p + w)) t (p + w) ys).items in
    subst (BeginsAscii (suc n)) (sym (ap (λ (o : Output). o.items) (first_gives t p w kind ys r s some) ∙ ap (λ xs. xs ++ given) (chars_of r.mode kind bs is)))
    (chars_ascii (suc n) w (drop p t) given h more)

-- ---- the word of a function

lower_form : (b : ℕ) → is_form_byte (to_ascii_lowercase b) ≡ false → is_form_byte b ≡ false
lower_form b h = grind (arith, nat_tests)

lower_ascii : (b : ℕ) → to_ascii_lowercase b < 128 → b < 128
lower_ascii b h = grind (arith, nat_tests)

lower_blank : (b : ℕ) → is_blank (to_ascii_lowercase b) ≡ false → is_blank b ≡ false
lower_blank b h = grind (arith, nat_tests)

word_plain : (word rest ws : List ℕ) → lower word ≡ ws → IsPlain (length ws) ws → IsPlain (length word) (word ++ rest)
word_plain [] rest ws e h = tt
word_plain (b ∷ bs) rest [] e h = let z : to_ascii_lowercase b ∷ lower bs ≡ [] = e in cc
word_plain (b ∷ bs) rest (w ∷ ws) e h =
    let z : to_ascii_lowercase b ∷ lower bs ≡ w ∷ ws = e in
    let first : to_ascii_lowercase b ≡ w = cc in
    let more : lower bs ≡ ws = cc in
    let long : length bs ≡ length ws = sym (length-map bs to_ascii_lowercase) ∙ ap length more in (
      lower_form b (ap is_form_byte first ∙ h.0),
      lower_ascii b (let l = h.1 in omega (arith, first, l)),
      λ none. lower_blank b (ap is_blank first ∙ h.2 (sym long ∙ none)),
      word_plain bs rest ws more h.3,
    )

white_form : (b : ℕ) → is_white b ≡ true → is_form_byte b ≡ false
white_form b h = grind (arith, nat_tests)

white_ascii : (b : ℕ) → is_white b ≡ true → b < 128
white_ascii b h = grind (arith, nat_tests)

white_plain : (space tail : List ℕ) (k : ℕ) → AllPass is_white space → 0 < k → IsPlain k tail → IsPlain (length space + k) (space ++ tail)
white_plain [] tail k all some h = let z : k ≡ 0 + k = omega arith in subst (λ n. IsPlain n tail) z h
white_plain (s ∷ ss) tail k all some h =
    let is = all zero 0 (omega arith) in
    let z : suc (length ss + k) ≡ length (s ∷ ss) + k = omega arith in
    subst (λ n. IsPlain n (s ∷ (ss ++ tail))) z (
      white_form s is,
      white_ascii s is,
      λ none. absurd (omega (arith, none, some)),
      white_plain ss tail k (λ i d l. all (suc i) d (omega (arith, l))) some h,
    )

function_plain : (f : Function) → IsPlain (length (word_of f)) (word_of f)
function_plain If = (refl, omega arith, λ e. refl, (refl, omega arith, λ e. refl, (refl, omega arith, λ e. refl, (refl, omega arith, λ e. refl, tt))))
function_plain IfEq = (refl, omega arith, λ e. refl, (refl, omega arith, λ e. refl, (refl, omega arith, λ e. refl, (refl, omega arith, λ e. refl, (refl, omega arith, λ e. refl, (refl, omega arith, λ e. refl, tt))))))
function_plain Switch = (refl, omega arith, λ e. refl, (refl, omega arith, λ e. refl, (refl, omega arith, λ e. refl, (refl, omega arith, λ e. refl, (refl, omega arith, λ e. refl, (refl, omega arith, λ e. refl, (refl, omega arith, λ e. refl, (refl, omega arith, λ e. refl, tt))))))))

some_word : (f : Function) → 0 < length (word_of f)
some_word If = omega arith
some_word IfEq = omega arith
some_word Switch = omega arith

pub named_plain : (target : List ℕ) (f : Function) (n : ℕ) → function_of target ≡ Some (f, n) → IsPlain n target
named_plain target f n e =
    let h = (naming target f n).0 e in
    let long : length h.word ≡ length (word_of f) = sym (length-map h.word to_ascii_lowercase) ∙ ap length h.is_word in
    let some = some_word f in
    let plain = white_plain h.space (h.word ++ h.rest) (length h.word) h.is_white (omega (arith, long, some))
    (word_plain h.word h.rest (word_of f) h.is_word (function_plain f)) in
    subst (λ k. IsPlain k target) (sym h.behind) (subst (IsPlain (length h.space + length h.word)) (sym h.all) plain)
