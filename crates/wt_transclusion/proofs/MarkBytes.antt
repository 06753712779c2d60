-- What a mark says of the bytes where it stands.
use Rattle.std.proofs.Common.{◌≡◌, ℕ, zero, suc, ◌+◌, ◌-◌, ◌<◌, ◌≤◌, Bool, true, false, Some, List, [], ◌∷◌, ◌++◌, length, take, drop, refl, sym, ap, ◌∙◌, subst, arith, length-take}
use Rattle.std.specs.Prelude.{replicate, slice_index, nat_lt}
use Rattle.std.proofs.lemmas.Bool.Decides.{nat_tests}
use Rattle.std.proofs.lemmas.List.{drop-drop, drop_at, get_or-drop}
use Rattle.wt_span.specs.declared.form.Mode.{Mode}
use Rattle.wt_span.specs.declared.form.LexKind.{LexKind}
use Rattle.wt_span.specs.declared.form.LexKind.TheVariants as lex
use Rattle.wt_span.specs.Bytes.{is_break}
use Rattle.wt_span.specs.Lexemes.{Word, words, form_at}
use Rattle.wt_lex.specs.Reading.{IsForm, Stands, AreLexemes}
use Rattle.wt_lex.specs.WholeWords.{IsWholeWord}
use Rattle.wt_lex.proofs.AllForms.{form_fits}
use Rattle.wt_lex.proofs.Forms.{FormFits}
use Rattle.wt_lex.proofs.Readings.{words_are}
use Rattle.wt_lex.proofs.WholeWords.{form_whole}
use Rattle.wt_transclusion.specs.Marks.{Mark, opens, closes, of, marks_from, word_marks, words_marks}
use Rattle.wt_transclusion.proofs.StretchCuts.{word_len}
use Rattle.wt_transclusion.proofs.SignBytes.{HasSign, form_sign}

-- the word of a kind that begins a text here
pub record IsWordHere (mode : Mode) (kind : LexKind) (n : ℕ) (bs : List ℕ) : Type 0 where
  pub after : Bool
  pub stands : Stands mode after kind n bs
  pub some : 0 < n
  pub within : n ≤ length bs
  pub whole : IsWholeWord mode kind (take n bs)
  pub sign : HasSign kind n bs
  pub cut : IsForm kind → (after : Bool) × FormFits after bs (kind, n)

-- a brace, the first byte of a lexeme, or a later one
abbrev pub Says : Mode → Mark → List ℕ → Type 0
Says mode opens bs = slice_index bs 0 ≡ 123
Says mode closes bs = slice_index bs 0 ≡ 125
Says mode (of kind n zero) bs = IsWordHere mode kind n bs
Says mode (of kind n (suc j)) bs = Unit {0}

-- ---- one word

form_here : (mode : Mode) (after : Bool) (kind : LexKind) (n : ℕ) (bs : List ℕ) → 0 < n → n ≤ length bs → form_at mode after bs ≡ Some (kind, n)
    → Stands mode after kind n bs → IsWordHere mode kind n bs
form_here mode after kind n bs some le e s =
    record {
      after = after;
      stands = s;
      some = some;
      within = le;
      whole = form_whole mode after kind n bs e;
      sign = form_sign mode after kind n bs e;
      cut = λ f. (after, form_fits mode after bs (kind, n) e);
    }

word_here : (mode : Mode) (after : Bool) (kind : LexKind) (n : ℕ) (bs : List ℕ) → 0 < n → n ≤ length bs → Stands mode after kind n bs
    → IsWordHere mode kind n bs
word_here mode after lex.Chars n bs some le s = record { after = after; stands = s; some = some; within = le; whole = omega (arith, length-take n bs); sign = tt; cut = λ f. absurd f }
word_here mode after lex.CommentLine n bs some le s = form_here mode after lex.CommentLine n bs some le s s
word_here mode after lex.Comment n bs some le s = form_here mode after lex.Comment n bs some le s s
word_here mode after lex.Raw n bs some le s = form_here mode after lex.Raw n bs some le s s
word_here mode after lex.Include n bs some le s = form_here mode after lex.Include n bs some le s s
word_here mode after lex.Hidden n bs some le s = form_here mode after lex.Hidden n bs some le s s
word_here mode after (lex.Entity c) n bs some le s = form_here mode after (lex.Entity c) n bs some le s s
word_here mode after lex.Opens n bs some le s = form_here mode after lex.Opens n bs some le s s
word_here mode after lex.Closes n bs some le s = form_here mode after lex.Closes n bs some le s s
word_here mode after lex.LinkOpen n bs some le s = form_here mode after lex.LinkOpen n bs some le s s
word_here mode after lex.LinkClose n bs some le s = form_here mode after lex.LinkClose n bs some le s s
word_here mode after lex.Pipe n bs some le s = form_here mode after lex.Pipe n bs some le s s
word_here mode after lex.Equals n bs some le s = form_here mode after lex.Equals n bs some le s s

-- the mark so many bytes behind the first of a lexeme
from_mark : (mode : Mode) (kind : LexKind) (n j k i : ℕ) (bs : List ℕ) (m : Mark) (rest more : List Mark) → i < k
    → drop i (marks_from kind n j k ++ more) ≡ m ∷ rest → m ≡ of kind n (j + i)
from_mark mode kind n j zero i bs m rest more l e = absurd (omega (arith, l))
from_mark mode kind n j (suc k) zero bs m rest more l e = let z : of kind n j ≡ m = cc in sym z ∙ ap (of kind n) (omega arith)
from_mark mode kind n j (suc k) (suc i) bs m rest more l e = from_mark mode kind n (suc j) k i bs m rest more (omega (arith, l)) e
    ∙ ap (of kind n) (omega arith)

form_says : (mode : Mode) (kind : LexKind) (n i : ℕ) (bs : List ℕ) → IsWordHere mode kind n bs → Says mode (of kind n i) (drop i bs)
form_says mode kind n zero bs h = h
form_says mode kind n (suc i) bs h = tt

marks_say : (mode : Mode) (kind : LexKind) (n i : ℕ) (bs : List ℕ) (m : Mark) (rest more : List Mark) → IsWordHere mode kind n bs → i < n
    → drop i (marks_from kind n 0 n ++ more) ≡ m ∷ rest → Says mode m (drop i bs)
marks_say mode kind n i bs m rest more h l e =
    let z : m ≡ of kind n i = from_mark mode kind n 0 n i bs m rest more l e ∙ ap (of kind n) (omega arith) in
    subst (λ x. Says mode x (drop i bs)) (sym z) (form_says mode kind n i bs h)

run_mark : (o m : Mark) (n i : ℕ) (rest more : List Mark) → i < n → drop i (replicate n o ++ more) ≡ m ∷ rest → m ≡ o
run_mark o m zero i rest more l e = absurd (omega (arith, l))
run_mark o m (suc n) zero rest more l e = let z : o ≡ m = cc in sym z
run_mark o m (suc n) (suc i) rest more l e = run_mark o m n i rest more (omega (arith, l)) e

byte_there : (byte i : ℕ) (bs : List ℕ) → slice_index bs i ≡ byte → slice_index (drop i bs) 0 ≡ byte
byte_there byte i bs e = get_or-drop i bs 0 0 ∙ ap (slice_index bs) (omega arith) ∙ e

word_says : (mode : Mode) (kind : LexKind) (n i : ℕ) (bs : List ℕ) (m : Mark) (rest more : List Mark) → IsWordHere mode kind n bs → i < n
    → drop i (word_marks kind n ++ more) ≡ m ∷ rest → Says mode m (drop i bs)
word_says mode lex.Chars n i bs m rest more h l e = marks_say mode lex.Chars n i bs m rest more h l e
word_says mode lex.CommentLine n i bs m rest more h l e = marks_say mode lex.CommentLine n i bs m rest more h l e
word_says mode lex.Comment n i bs m rest more h l e = marks_say mode lex.Comment n i bs m rest more h l e
word_says mode lex.Raw n i bs m rest more h l e = marks_say mode lex.Raw n i bs m rest more h l e
word_says mode lex.Include n i bs m rest more h l e = marks_say mode lex.Include n i bs m rest more h l e
word_says mode lex.Hidden n i bs m rest more h l e = marks_say mode lex.Hidden n i bs m rest more h l e
word_says mode (lex.Entity c) n i bs m rest more h l e = marks_say mode (lex.Entity c) n i bs m rest more h l e
word_says mode lex.Opens n i bs m rest more h l e =
    subst (λ x. Says mode x (drop i bs)) (sym (run_mark opens m n i rest more l e)) (byte_there 123 i bs (h.sign i l))
word_says mode lex.Closes n i bs m rest more h l e =
    subst (λ x. Says mode x (drop i bs)) (sym (run_mark closes m n i rest more l e)) (byte_there 125 i bs (h.sign i l))
word_says mode lex.LinkOpen n i bs m rest more h l e = marks_say mode lex.LinkOpen n i bs m rest more h l e
word_says mode lex.LinkClose n i bs m rest more h l e = marks_say mode lex.LinkClose n i bs m rest more h l e
word_says mode lex.Pipe n i bs m rest more h l e = marks_say mode lex.Pipe n i bs m rest more h l e
word_says mode lex.Equals n i bs m rest more h l e = marks_say mode lex.Equals n i bs m rest more h l e

-- ---- a text

nothing_there : (i : ℕ) (m : Mark) (rest : List Mark) → drop i [] ≡ m ∷ rest → ⊥
nothing_there zero m rest e = cc
nothing_there (suc i) m rest e = cc

words_say : (mode : Mode) (after : Bool) (ws : List Word) (bs : List ℕ) → AreLexemes mode after ws bs → (i : ℕ) (m : Mark) (rest : List Mark)
    → drop i (words_marks ws) ≡ m ∷ rest → Says mode m (drop i bs)
words_say mode after [] bs a i m rest e = absurd (nothing_there i m rest e)
words_say mode after ((kind, n) ∷ ws) bs a i m rest e =
    by_test (nat_lt i n) refl (words_say mode (is_break (slice_index bs (n - 1))) ws (drop n bs) a.4 (i - n) m rest)
  where
    by_test : (t : Bool) → nat_lt i n ≡ t → (drop (i - n) (words_marks ws) ≡ m ∷ rest → Says mode m (drop (i - n) (drop n bs))) → Says mode m (drop i bs)
    by_test true h on =
        let l : i < n = grind (arith, nat_tests) in
        word_says mode kind n i bs m rest (words_marks ws) (word_here mode after kind n bs a.0 a.1 a.2) l e
    by_test false h on =
        let l : n ≤ i = grind (arith, nat_tests) in
        let j = i - n in
        let z : n + j ≡ i = omega (arith, l) in
        let all = word_marks kind n ++ words_marks ws in
        let back : drop j (words_marks ws) ≡ m ∷ rest =
        ap (drop j) (sym (drop_at (word_marks kind n) (words_marks ws) n (word_len kind n))) ∙ drop-drop j n all ∙ ap (λ k. drop k all) z ∙ e in
        subst (Says mode m) (drop-drop j n bs ∙ ap (λ k. drop k bs) z) (on back)

-- what the marks of a text say of its bytes
pub text_says : (mode : Mode) (t : List ℕ) (i : ℕ) (m : Mark) (rest : List Mark) → drop i (words_marks (words mode t)) ≡ m ∷ rest → Says mode m (drop i t)
text_says mode t i m rest e = words_say mode false (words mode t) t (words_are mode t) i m rest e
