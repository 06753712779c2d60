-- The members of a text in UTF-8 are cut between characters.
use Rattle.std.proofs.Common.{◌≡◌, ℕ, zero, suc, ◌+◌, ◌-◌, ◌<◌, ◌≤◌, Bool, true, false, List, [], ◌∷◌, ◌++◌, length, take, drop, get_or, IsUtf8, refl, sym, ap, ◌∙◌, subst, arith, append_assoc, append-nil, length-append, length-drop}
use Rattle.std.specs.Prelude.{replicate, slice_index, nat_lt}
use Rattle.std.specs.Str.{IsCharBoundary}
use Rattle.std.proofs.lemmas.Bool.Decides.{nat_tests}
use Rattle.std.proofs.lemmas.List.{drop-drop, drop_at, drop_all, length-replicate}
use Rattle.std.proofs.lemmas.Str.{IsUtf8-nil, IsUtf8-take, IsUtf8-drop, IsCharBoundary-before_ascii, IsCharBoundary-from_drop}
use Rattle.wt_span.specs.declared.form.Mode.{Mode}
use Rattle.wt_span.specs.declared.form.LexKind.{LexKind}
use Rattle.wt_span.specs.declared.form.LexKind.TheVariants as lex
use Rattle.wt_span.specs.Bytes.{is_break}
use Rattle.wt_span.specs.Lexemes.{Word, words}
use Rattle.wt_span.specs.Braces.{Member, Members, lexeme, call, none, more, members, width, width_of_all, reduced}
use Rattle.wt_lex.specs.Reading.{IsForm, Stands, BeginsWithForm, Apart, AreLexemes}
use Rattle.wt_lex.proofs.AllForms.{form_fits}
use Rattle.wt_lex.proofs.Borders.{border_before, border_after}
use Rattle.wt_lex.proofs.Forms.{EndsWell, FormFits, begins_low}
use Rattle.wt_lex.proofs.Readings.{words_are}
use Rattle.wt_transclusion.specs.Marks.{Mark, opens, closes, of, marks_from, word_marks, words_marks, member_marks, marks_of_all}
use Rattle.wt_transclusion.specs.Stretch.{IsFull, AreFull}
use Rattle.wt_transclusion.proofs.Full.{full_text, text_bytes}
use Rattle.wt_transclusion.proofs.MarkLaws.{text_marks}
use Rattle.wt_transclusion.proofs.StretchCuts.{marks_len, word_len}
use Rattle.wt_transclusion.proofs.StretchLaws.{full_members}
use Rattle.wt_expand.specs.Expansion.{text_members}
use Rattle.wt_transclusion.proofs.SignBytes.{form_sign}

-- The bytes of each member are UTF-8, and so are those of the members in each call.
abbrev mutual
  pub IsTextMember : List ℕ → Member → Type 0
  IsTextMember bs (lexeme w) = Unit {0}
  IsTextMember bs (call k ms) = AreTextMembers (drop k bs) ms

  pub AreTextMembers : List ℕ → Members → Type 0
  AreTextMembers bs none = Unit {0}
  AreTextMembers bs (more m ms) = IsUtf8 (take (width m) bs) × IsTextMember bs m × AreTextMembers (drop (width m) bs) ms

-- ---- words

-- a brace, or the first byte of a lexeme
abbrev IsFirst : Mark → Type 0
IsFirst opens = Unit {0}
IsFirst closes = Unit {0}
IsFirst (of kind n zero) = Unit {0}
IsFirst (of kind n (suc j)) = ⊥

none_dropped : (xs : List ℕ) → xs ≡ drop 0 xs
none_dropped [] = refl
none_dropped (x ∷ xs) = refl

low_cut : (bs : List ℕ) (i byte : ℕ) → IsUtf8 bs → i < length bs → slice_index bs i ≡ byte → byte < 128 → IsUtf8 (drop i bs)
low_cut bs i byte u l e low = IsUtf8-drop bs i u (IsCharBoundary-before_ascii bs i l (omega (arith, e, low)))

-- the mark so many bytes behind the first of a lexeme
from_mark : (kind : LexKind) (n j k i : ℕ) (m : Mark) (rest later : List Mark) → i < k
    → drop i (marks_from kind n j k ++ later) ≡ m ∷ rest → m ≡ of kind n (j + i)
from_mark kind n j zero i m rest later l e = absurd (omega (arith, l))
from_mark kind n j (suc k) zero m rest later l e = let z : of kind n j ≡ m = cc in sym z ∙ ap (of kind n) (omega arith)
from_mark kind n j (suc k) (suc i) m rest later l e = from_mark kind n (suc j) k i m rest later (omega (arith, l)) e ∙ ap (of kind n) (omega arith)

at_first : (kind : LexKind) (n i : ℕ) (bs : List ℕ) → IsFirst (of kind n i) → IsUtf8 bs → IsUtf8 (drop i bs)
at_first kind n zero bs f u = subst IsUtf8 (none_dropped bs) u
at_first kind n (suc i) bs f u = absurd f

marks_cut : (kind : LexKind) (n i : ℕ) (bs : List ℕ) (m : Mark) (rest later : List Mark) → IsUtf8 bs → i < n
    → drop i (marks_from kind n 0 n ++ later) ≡ m ∷ rest → IsFirst m → IsUtf8 (drop i bs)
marks_cut kind n i bs m rest later u l e f =
    let z : m ≡ of kind n i = from_mark kind n 0 n i m rest later l e ∙ ap (of kind n) (omega arith) in
    at_first kind n i bs (subst IsFirst z f) u

word_cut : (mode : Mode) (after : Bool) (kind : LexKind) (n i : ℕ) (bs : List ℕ) (m : Mark) (rest later : List Mark) → IsUtf8 bs → n ≤ length bs → i < n
    → Stands mode after kind n bs → drop i (word_marks kind n ++ later) ≡ m ∷ rest → IsFirst m → IsUtf8 (drop i bs)
word_cut mode after lex.Chars n i bs m rest later u w l s e f = marks_cut lex.Chars n i bs m rest later u l e f
word_cut mode after lex.CommentLine n i bs m rest later u w l s e f = marks_cut lex.CommentLine n i bs m rest later u l e f
word_cut mode after lex.Comment n i bs m rest later u w l s e f = marks_cut lex.Comment n i bs m rest later u l e f
word_cut mode after lex.Raw n i bs m rest later u w l s e f = marks_cut lex.Raw n i bs m rest later u l e f
word_cut mode after lex.Include n i bs m rest later u w l s e f = marks_cut lex.Include n i bs m rest later u l e f
word_cut mode after lex.Hidden n i bs m rest later u w l s e f = marks_cut lex.Hidden n i bs m rest later u l e f
word_cut mode after (lex.Entity c) n i bs m rest later u w l s e f = marks_cut (lex.Entity c) n i bs m rest later u l e f
word_cut mode after lex.Opens n i bs m rest later u w l s e f =
    low_cut bs i 123 u (omega (arith, l, w)) (form_sign mode after lex.Opens n bs s i l) (omega arith)
word_cut mode after lex.Closes n i bs m rest later u w l s e f =
    low_cut bs i 125 u (omega (arith, l, w)) (form_sign mode after lex.Closes n bs s i l) (omega arith)
word_cut mode after lex.LinkOpen n i bs m rest later u w l s e f = marks_cut lex.LinkOpen n i bs m rest later u l e f
word_cut mode after lex.LinkClose n i bs m rest later u w l s e f = marks_cut lex.LinkClose n i bs m rest later u l e f
word_cut mode after lex.Pipe n i bs m rest later u w l s e f = marks_cut lex.Pipe n i bs m rest later u l e f
word_cut mode after lex.Equals n i bs m rest later u w l s e f = marks_cut lex.Equals n i bs m rest later u l e f

stands_fits : (mode : Mode) (after : Bool) (kind : LexKind) (n : ℕ) (bs : List ℕ) → IsForm kind → Stands mode after kind n bs
    → FormFits after bs (kind, n)
stands_fits mode after lex.Chars n bs f s = absurd f
stands_fits mode after lex.CommentLine n bs f s = form_fits mode after bs _ s
stands_fits mode after lex.Comment n bs f s = form_fits mode after bs _ s
stands_fits mode after lex.Raw n bs f s = form_fits mode after bs _ s
stands_fits mode after lex.Include n bs f s = form_fits mode after bs _ s
stands_fits mode after lex.Hidden n bs f s = form_fits mode after bs _ s
stands_fits mode after (lex.Entity c) n bs f s = form_fits mode after bs _ s
stands_fits mode after lex.Opens n bs f s = form_fits mode after bs _ s
stands_fits mode after lex.Closes n bs f s = form_fits mode after bs _ s
stands_fits mode after lex.LinkOpen n bs f s = form_fits mode after bs _ s
stands_fits mode after lex.LinkClose n bs f s = form_fits mode after bs _ s
stands_fits mode after lex.Pipe n bs f s = form_fits mode after bs _ s
stands_fits mode after lex.Equals n bs f s = form_fits mode after bs _ s

-- behind a form
form_behind : (after : Bool) (kind : LexKind) (n : ℕ) (bs : List ℕ) → IsUtf8 bs → FormFits after bs (kind, n) → IsUtf8 (drop n bs)
form_behind after kind n bs u f =
    let z : 0 + n ≡ n = omega arith in
    let g = f.within in
    let h = f.ends in
    let c : IsCharBoundary bs n = subst (IsCharBoundary bs) z (border_after bs 0 n u (omega arith) f.some
    (subst (λ xs. n ≤ length xs) (none_dropped bs) g) (ends_there h)) in
    IsUtf8-drop bs n u c
  where
    ends_there : (h : EndsWell bs n) → EndsWell (drop 0 bs) n
    ends_there h = subst (λ xs. EndsWell xs n) (none_dropped bs) h

-- behind a run of characters a form begins, or the text ends
chars_behind : (mode : Mode) (after next : Bool) (n : ℕ) (ws : List Word) (bs : List ℕ) → IsUtf8 bs → n ≤ length bs → BeginsWithForm ws
    → AreLexemes mode next ws (drop n bs) → IsUtf8 (drop n bs)
chars_behind mode after next n [] bs u w f a = subst IsUtf8 (sym a) IsUtf8-nil
chars_behind mode after next n ((kind, k) ∷ ws) bs u w f a =
    let h = stands_fits mode next kind k (drop n bs) f a.2 in
    let low = begins_low next (get_or (drop n bs) 0 0) h.begins in
    let x = h.within in
    let y = h.some in
    IsUtf8-drop bs n u (border_before bs n (omega (arith, w, x, y, length-drop n bs)) low)

word_behind : (mode : Mode) (after next : Bool) (kind : LexKind) (n : ℕ) (ws : List Word) (bs : List ℕ) → IsUtf8 bs → n ≤ length bs
    → Stands mode after kind n bs → Apart kind ws → AreLexemes mode next ws (drop n bs) → IsUtf8 (drop n bs)
word_behind mode after next lex.Chars n ws bs u w s f a = chars_behind mode after next n ws bs u w f a
word_behind mode after next lex.CommentLine n ws bs u w s f a =
    form_behind after lex.CommentLine n bs u (stands_fits mode after lex.CommentLine n bs tt s)
word_behind mode after next lex.Comment n ws bs u w s f a = form_behind after lex.Comment n bs u (stands_fits mode after lex.Comment n bs tt s)
word_behind mode after next lex.Raw n ws bs u w s f a = form_behind after lex.Raw n bs u (stands_fits mode after lex.Raw n bs tt s)
word_behind mode after next lex.Include n ws bs u w s f a = form_behind after lex.Include n bs u (stands_fits mode after lex.Include n bs tt s)
word_behind mode after next lex.Hidden n ws bs u w s f a = form_behind after lex.Hidden n bs u (stands_fits mode after lex.Hidden n bs tt s)
word_behind mode after next (lex.Entity c) n ws bs u w s f a = form_behind after (lex.Entity c) n bs u (stands_fits mode after (lex.Entity c) n bs tt s)
word_behind mode after next lex.Opens n ws bs u w s f a = form_behind after lex.Opens n bs u (stands_fits mode after lex.Opens n bs tt s)
word_behind mode after next lex.Closes n ws bs u w s f a = form_behind after lex.Closes n bs u (stands_fits mode after lex.Closes n bs tt s)
word_behind mode after next lex.LinkOpen n ws bs u w s f a = form_behind after lex.LinkOpen n bs u (stands_fits mode after lex.LinkOpen n bs tt s)
word_behind mode after next lex.LinkClose n ws bs u w s f a = form_behind after lex.LinkClose n bs u (stands_fits mode after lex.LinkClose n bs tt s)
word_behind mode after next lex.Pipe n ws bs u w s f a = form_behind after lex.Pipe n bs u (stands_fits mode after lex.Pipe n bs tt s)
word_behind mode after next lex.Equals n ws bs u w s f a = form_behind after lex.Equals n bs u (stands_fits mode after lex.Equals n bs tt s)

nothing_there : (i : ℕ) (m : Mark) (rest : List Mark) → drop i [] ≡ m ∷ rest → ⊥
nothing_there zero m rest e = cc
nothing_there (suc i) m rest e = cc

words_cut : (mode : Mode) (after : Bool) (ws : List Word) (bs : List ℕ) → AreLexemes mode after ws bs → IsUtf8 bs
    → (i : ℕ) (m : Mark) (rest : List Mark) → drop i (words_marks ws) ≡ m ∷ rest → IsFirst m → IsUtf8 (drop i bs)
words_cut mode after [] bs a u i m rest e f = absurd (nothing_there i m rest e)
words_cut mode after ((kind, n) ∷ ws) bs a u i m rest e f =
    let next : Bool = is_break (slice_index bs (n - 1)) in
    by_test (nat_lt i n) refl (words_cut mode next ws (drop n bs) a.4 (word_behind mode after next kind n ws bs u a.1 a.2 a.3 a.4) (i - n) m rest)
  where
    by_test : (t : Bool) → nat_lt i n ≡ t → (drop (i - n) (words_marks ws) ≡ m ∷ rest → IsFirst m → IsUtf8 (drop (i - n) (drop n bs)))
        → IsUtf8 (drop i bs)
    by_test true h on =
        let l : i < n = grind (arith, nat_tests) in
        word_cut mode after kind n i bs m rest (words_marks ws) u a.1 l a.2 e f
    by_test false h on =
        let l : n ≤ i = grind (arith, nat_tests) in
        let j = i - n in
        let z : n + j ≡ i = omega (arith, l) in
        let all = word_marks kind n ++ words_marks ws in
        let back : drop j (words_marks ws) ≡ m ∷ rest =
        ap (drop j) (sym (drop_at (word_marks kind n) (words_marks ws) n (word_len kind n))) ∙ drop-drop j n all ∙ ap (λ k. drop k all) z ∙ e in
        subst IsUtf8 (drop-drop j n bs ∙ ap (λ k. drop k bs) z) (on back f)

-- ---- members

-- what a member begins with
record Begins (m : Member) : Type 0 where
  mark : Mark
  rest : List Mark
  all : member_marks m ≡ mark ∷ rest
  first : IsFirst mark

word_begins : (kind : LexKind) (n : ℕ) → Begins (lexeme (kind, suc n))
word_begins lex.Chars n = record { mark = of lex.Chars (suc n) 0; rest = marks_from lex.Chars (suc n) 1 n; all = refl; first = tt }
word_begins lex.CommentLine n = record { mark = of lex.CommentLine (suc n) 0; rest = marks_from lex.CommentLine (suc n) 1 n; all = refl; first = tt }
word_begins lex.Comment n = record { mark = of lex.Comment (suc n) 0; rest = marks_from lex.Comment (suc n) 1 n; all = refl; first = tt }
word_begins lex.Raw n = record { mark = of lex.Raw (suc n) 0; rest = marks_from lex.Raw (suc n) 1 n; all = refl; first = tt }
word_begins lex.Include n = record { mark = of lex.Include (suc n) 0; rest = marks_from lex.Include (suc n) 1 n; all = refl; first = tt }
word_begins lex.Hidden n = record { mark = of lex.Hidden (suc n) 0; rest = marks_from lex.Hidden (suc n) 1 n; all = refl; first = tt }
word_begins (lex.Entity c) n = record { mark = of (lex.Entity c) (suc n) 0; rest = marks_from (lex.Entity c) (suc n) 1 n; all = refl; first = tt }
word_begins lex.Opens n = record { mark = opens; rest = replicate n opens; all = refl; first = tt }
word_begins lex.Closes n = record { mark = closes; rest = replicate n closes; all = refl; first = tt }
word_begins lex.LinkOpen n = record { mark = of lex.LinkOpen (suc n) 0; rest = marks_from lex.LinkOpen (suc n) 1 n; all = refl; first = tt }
word_begins lex.LinkClose n = record { mark = of lex.LinkClose (suc n) 0; rest = marks_from lex.LinkClose (suc n) 1 n; all = refl; first = tt }
word_begins lex.Pipe n = record { mark = of lex.Pipe (suc n) 0; rest = marks_from lex.Pipe (suc n) 1 n; all = refl; first = tt }
word_begins lex.Equals n = record { mark = of lex.Equals (suc n) 0; rest = marks_from lex.Equals (suc n) 1 n; all = refl; first = tt }

begins : (m : Member) → IsFull m → Begins m
begins (lexeme (kind, zero)) l = absurd (omega (arith, l))
begins (lexeme (kind, suc n)) l = word_begins kind n
begins (call zero ms) l = absurd (let two = l.0 in omega (arith, two))
begins (call (suc k) ms) l = record { mark = opens; rest = replicate k opens ++ (marks_of_all ms ++ replicate (suc k) closes); all = refl; first = tt }

cut_here : (mode : Mode) (t : List ℕ) (at : ℕ) (x : Mark) (xs : List Mark) → IsUtf8 t → drop at (words_marks (words mode t)) ≡ x ∷ xs → IsFirst x
    → IsUtf8 (drop at t)
cut_here mode t at x xs u e f = words_cut mode false (words mode t) t (words_are mode t) u at x xs e f

before_member : (mode : Mode) (t : List ℕ) (at : ℕ) (m : Member) (after : List Mark) → IsUtf8 t → IsFull m
    → drop at (words_marks (words mode t)) ≡ member_marks m ++ after → IsUtf8 (drop at t)
before_member mode t at m after u l e = let b = begins m l in cut_here mode t at b.mark (b.rest ++ after) u (e ∙ ap (λ xs. xs ++ after) b.all) b.first

before_members : (mode : Mode) (t : List ℕ) (at : ℕ) (ms : Members) (after : List Mark) → IsUtf8 t → AreFull ms
    → drop at (words_marks (words mode t)) ≡ marks_of_all ms ++ after → IsUtf8 (drop (at + width_of_all ms) t) → IsUtf8 (drop at t)
before_members mode t at none after u l e end = let z : at + 0 ≡ at = omega arith in subst (λ i. IsUtf8 (drop i t)) z end
before_members mode t at (more m ms) after u l e end =
    before_member mode t at m (marks_of_all ms ++ after) u l.0 (e ∙ append_assoc (member_marks m) (marks_of_all ms) after)

member_len : (m : Member) → length (member_marks m) ≡ width m
member_len m = let a = marks_len (more m none) in let b = length-append (member_marks m) [] in omega (arith, a, b)

inside_is : (mode : Mode) (t : List ℕ) (at k : ℕ) (ms : Members) (after : List Mark)
    → drop at (words_marks (words mode t)) ≡ (replicate k opens ++ (marks_of_all ms ++ replicate k closes)) ++ after
    → drop (at + k) (words_marks (words mode t)) ≡ marks_of_all ms ++ (replicate k closes ++ after)
inside_is mode t at k ms after e =
    let w = words_marks (words mode t) in
    let inner = marks_of_all ms ++ replicate k closes in
    sym (drop-drop k at w) ∙ ap (drop k) (e ∙ append_assoc (replicate k opens) inner after)
    ∙ drop_at (replicate k opens) (inner ++ after) k (length-replicate k opens) ∙ append_assoc (marks_of_all ms) (replicate k closes) after

-- in front of the braces that end a call
before_end : (mode : Mode) (t : List ℕ) (at k : ℕ) (ms : Members) (after : List Mark) → IsUtf8 t → 2 ≤ k
    → drop at (words_marks (words mode t)) ≡ marks_of_all ms ++ (replicate k closes ++ after) → IsUtf8 (drop (at + width_of_all ms) t)
before_end mode t at zero ms after u two e = absurd (omega (arith, two))
before_end mode t at (suc k) ms after u two e =
    let w = words_marks (words mode t) in
    let here : drop (at + width_of_all ms) w ≡ closes ∷ (replicate k closes ++ after) =
    sym (drop-drop (width_of_all ms) at w) ∙ ap (drop (width_of_all ms)) e
    ∙ drop_at (marks_of_all ms) (replicate (suc k) closes ++ after) (width_of_all ms) (marks_len ms) in
    cut_here mode t (at + width_of_all ms) closes (replicate k closes ++ after) u here tt

mutual
  text_one : (mode : Mode) (t : List ℕ) (at : ℕ) (m : Member) (after : List Mark) → IsUtf8 t → IsFull m → at + width m ≤ length t
      → drop at (words_marks (words mode t)) ≡ member_marks m ++ after → IsTextMember (drop at t) m
  text_one mode t at (lexeme (kind, n)) after u l w e = tt
  text_one mode t at (call k ms) after u l w e =
      let inside = inside_is mode t at k ms after e in
      subst (λ bs. AreTextMembers bs ms) (sym (drop-drop k at t))
      (text_all mode t (at + k) ms (replicate k closes ++ after) u l.1 (omega (arith, w)) inside (before_end mode t (at + k) k ms after u l.0 inside))

  text_all : (mode : Mode) (t : List ℕ) (at : ℕ) (ms : Members) (after : List Mark) → IsUtf8 t → AreFull ms → at + width_of_all ms ≤ length t
      → drop at (words_marks (words mode t)) ≡ marks_of_all ms ++ after → IsUtf8 (drop (at + width_of_all ms) t) → AreTextMembers (drop at t) ms
  text_all mode t at none after u l w e end = tt
  text_all mode t at (more m ms) after u l w e end =
      let v = words_marks (words mode t) in
      let here = e ∙ append_assoc (member_marks m) (marks_of_all ms) after in
      let next : drop (at + width m) v ≡ marks_of_all ms ++ after =
      sym (drop-drop (width m) at v) ∙ ap (drop (width m)) here ∙ drop_at (member_marks m) (marks_of_all ms ++ after) (width m) (member_len m) in
      let z : at + (width m + width_of_all ms) ≡ at + width m + width_of_all ms = omega arith in
      let last : IsUtf8 (drop (at + width m + width_of_all ms) t) = subst (λ i. IsUtf8 (drop i t)) z end in
      let begin : IsUtf8 (drop at t) = before_member mode t at m (marks_of_all ms ++ after) u l.0 here in
      let behind : IsUtf8 (drop (width m) (drop at t)) =
      subst IsUtf8 (sym (drop-drop (width m) at t)) (before_members mode t (at + width m) ms after u l.1 next last) in
      let border : IsCharBoundary (drop at t) (width m) =
      IsCharBoundary-from_drop (drop at t) (width m) (omega (arith, w, length-drop at t)) behind in (
        IsUtf8-take (drop at t) (width m) begin border,
        text_one mode t at m (marks_of_all ms ++ after) u l.0 (omega (arith, w)) here,
        subst (λ bs. AreTextMembers bs ms) (sym (drop-drop (width m) at t))
            (text_all mode t (at + width m) ms after u l.1 (omega (arith, w)) next last),
      )

-- the members of a text
pub members_utf8 : (mode : Mode) (t : List ℕ) → IsUtf8 t → AreTextMembers t (text_members mode t)
unfolding text_members
members_utf8 mode t u =
    let ms : Members = members (reduced (words mode t)) in
    let marks : words_marks (words mode t) ≡ marks_of_all ms ++ [] = sym (text_marks (words mode t)) ∙ sym (append-nil (marks_of_all ms)) in
    let wide : width_of_all ms ≡ length t = text_bytes mode t in
    let over : drop (0 + width_of_all ms) t ≡ [] = drop_all (0 + width_of_all ms) t (omega (arith, wide)) in
    text_all mode t 0 ms [] u (full_members (reduced (words mode t)) (full_text mode t)) (omega (arith, wide)) marks
    (subst IsUtf8 (sym over) IsUtf8-nil)
