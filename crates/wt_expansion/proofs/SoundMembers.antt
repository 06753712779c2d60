-- The members of a text, by the bytes that they begin: lexemes are whole, and calls are calls with braces at both ends.
use Rattle.std.proofs.Common.{◌≡◌, ℕ, zero, suc, ◌+◌, ◌-◌, ◌≤◌, List, [], ◌∷◌, ◌++◌, length, take, drop, refl, sym, ap, ◌∙◌, subst, arith, append_assoc, append-nil, length-append}
use Rattle.std.specs.Prelude.{replicate, slice_index, slice_range, Contains, ◌==◌, None, Some}
use Rattle.std.proofs.lemmas.List.{drop-drop, drop_at, get_or-drop, length-replicate, take_all}
use Rattle.wt_span.specs.declared.form.Mode.{Mode}
use Rattle.wt_span.specs.declared.form.LexKind.{LexKind}
use Rattle.wt_span.specs.declared.form.LexKind.TheVariants as lex
use Rattle.wt_span.specs.Lexemes.{words}
use Rattle.wt_span.specs.Braces.{Member, Members, lexeme, call, none, more, members, width, width_of_all, CallAt, calls, calls_of_all, parts_of, reduced, IsCall}
use Rattle.wt_braces.specs.Alone.{IsAlone, AreAlone}
use Rattle.wt_braces.proofs.AloneLaws.{calls_are_alone}
use Rattle.wt_transclusion.specs.Marks.{Mark, opens, closes, of, marks_from, word_marks, words_marks, member_marks, marks_of_all}
use Rattle.wt_transclusion.specs.Stretch.{IsFull, AreFull}
use Rattle.wt_transclusion.proofs.Full.{full_text, text_bytes}
use Rattle.wt_transclusion.proofs.MarkLaws.{text_marks}
use Rattle.wt_transclusion.proofs.StretchCuts.{marks_len}
use Rattle.wt_transclusion.proofs.StretchLaws.{full_members}
use Rattle.wt_expand.specs.Expansion.{text_members}
use Rattle.wt_transclusion.proofs.MarkBytes.{IsWordHere, text_says}

-- of what is left of a run of braces nothing is said but that something is left
abbrev pub IsSoundLexeme : Mode → LexKind → ℕ → List ℕ → Type 0
IsSoundLexeme mode lex.Chars n bs = IsWordHere mode lex.Chars n bs
IsSoundLexeme mode lex.CommentLine n bs = IsWordHere mode lex.CommentLine n bs
IsSoundLexeme mode lex.Comment n bs = IsWordHere mode lex.Comment n bs
IsSoundLexeme mode lex.Raw n bs = IsWordHere mode lex.Raw n bs
IsSoundLexeme mode lex.Include n bs = IsWordHere mode lex.Include n bs
IsSoundLexeme mode lex.Hidden n bs = IsWordHere mode lex.Hidden n bs
IsSoundLexeme mode (lex.Entity c) n bs = IsWordHere mode (lex.Entity c) n bs
IsSoundLexeme mode lex.Opens n bs = 1 ≤ n
IsSoundLexeme mode lex.Closes n bs = 1 ≤ n
IsSoundLexeme mode lex.LinkOpen n bs = IsWordHere mode lex.LinkOpen n bs
IsSoundLexeme mode lex.LinkClose n bs = IsWordHere mode lex.LinkClose n bs
IsSoundLexeme mode lex.Pipe n bs = IsWordHere mode lex.Pipe n bs
IsSoundLexeme mode lex.Equals n bs = IsWordHere mode lex.Equals n bs

-- the bytes of a call: the first and the last of its first braces, and the first and the last of its last ones
pub record IsCallHere (mode : Mode) (bs : List ℕ) (k : ℕ) (ms : Members) : Type 0 where
  pub two : 2 ≤ k
  pub is_call : IsCall mode (take (k + width_of_all ms + k) bs)
  pub first : slice_index bs 0 ≡ 123
  pub opening : slice_index bs (k - 1) ≡ 123
  pub closing : slice_index bs (k + width_of_all ms) ≡ 125
  pub last : slice_index bs (k + width_of_all ms + (k - 1)) ≡ 125

abbrev mutual
  pub IsSoundMember : Mode → List ℕ → Member → Type 0
  IsSoundMember mode bs (lexeme (kind, n)) = IsSoundLexeme mode kind n bs
  IsSoundMember mode bs (call k ms) = IsCallHere mode bs k ms × AreSoundMembers mode (drop k bs) ms

  pub AreSoundMembers : Mode → List ℕ → Members → Type 0
  AreSoundMembers mode bs none = Unit {0}
  AreSoundMembers mode bs (more m ms) = IsSoundMember mode bs m × AreSoundMembers mode (drop (width m) bs) ms

-- ---- a lexeme

form_there : (mode : Mode) (t : List ℕ) (at : ℕ) (kind : LexKind) (n : ℕ) (after : List Mark) → 1 ≤ n
    → drop at (words_marks (words mode t)) ≡ marks_from kind n 0 n ++ after → IsWordHere mode kind n (drop at t)
form_there mode t at kind zero after l e = absurd (omega (arith, l))
form_there mode t at kind (suc n) after l e = text_says mode t at (of kind (suc n) 0) (marks_from kind (suc n) 1 n ++ after) e

lexeme_there : (mode : Mode) (t : List ℕ) (at : ℕ) (kind : LexKind) (n : ℕ) (after : List Mark) → 1 ≤ n
    → drop at (words_marks (words mode t)) ≡ word_marks kind n ++ after → IsSoundLexeme mode kind n (drop at t)
lexeme_there mode t at lex.Chars n after l e = form_there mode t at lex.Chars n after l e
lexeme_there mode t at lex.CommentLine n after l e = form_there mode t at lex.CommentLine n after l e
lexeme_there mode t at lex.Comment n after l e = form_there mode t at lex.Comment n after l e
lexeme_there mode t at lex.Raw n after l e = form_there mode t at lex.Raw n after l e
lexeme_there mode t at lex.Include n after l e = form_there mode t at lex.Include n after l e
lexeme_there mode t at lex.Hidden n after l e = form_there mode t at lex.Hidden n after l e
lexeme_there mode t at (lex.Entity c) n after l e = form_there mode t at (lex.Entity c) n after l e
lexeme_there mode t at lex.Opens n after l e = l
lexeme_there mode t at lex.Closes n after l e = l
lexeme_there mode t at lex.LinkOpen n after l e = form_there mode t at lex.LinkOpen n after l e
lexeme_there mode t at lex.LinkClose n after l e = form_there mode t at lex.LinkClose n after l e
lexeme_there mode t at lex.Pipe n after l e = form_there mode t at lex.Pipe n after l e
lexeme_there mode t at lex.Equals n after l e = form_there mode t at lex.Equals n after l e

-- ---- a call

calls_are : (mode : Mode) (bs : List ℕ) → calls 0 (words mode bs) ≡ calls_of_all 0 None 0 (members (reduced (words mode bs)))
unfolding calls
calls_are mode bs = refl

-- a text that is one call
one_call : (mode : Mode) (bs : List ℕ) (k : ℕ) (ms : Members) → reduced (words mode bs) ≡ call k ms ∷ [] → IsCall mode bs
one_call mode bs k ms e =
    let n : ℕ = k + width_of_all ms + k in
    let c : CallAt = record { argument = k == 3; from = 0; to = 0 + n; parts = parts_of (0 + k) ms; parent = None } in
    let is : calls 0 (words mode bs) ≡ c ∷ (calls_of_all (0 + k) (Some 0) (0 + 1) ms ++ []) = calls_are mode bs
    ∙ ap (λ xs. calls_of_all 0 None 0 (members xs)) e in
    let wide : n ≡ length bs = let z = ap (λ xs. width_of_all (members xs)) e in let y = text_bytes mode bs in omega (arith, z, y) in
    let all : slice_range bs 0 (0 + n) ≡ bs = take_all (0 + n - 0) bs (omega (arith, wide)) in
    (bs, c, subst (λ cs. Contains cs c) (sym is) (0, omega arith, refl), sym all)

-- the last of some opening braces
last_brace : (o : Mark) (k : ℕ) (after : List Mark) → drop k (replicate (suc k) o ++ after) ≡ o ∷ after
last_brace o zero after = refl
last_brace o (suc k) after = last_brace o k after

first_brace : (o : Mark) (k : ℕ) (after : List Mark) → replicate (suc k) o ++ after ≡ o ∷ (replicate k o ++ after)
first_brace o k after = refl

byte_at : (byte i : ℕ) (at : ℕ) (t : List ℕ) → slice_index (drop (at + i) t) 0 ≡ byte → slice_index (drop at t) i ≡ byte
byte_at byte i at t e = get_or-drop at t i 0 ∙ ap (slice_index t) (let z : at + i ≡ at + i + 0 = omega arith in z) ∙ sym (get_or-drop (at + i) t 0 0) ∙ e

inside_is : (mode : Mode) (t : List ℕ) (at k : ℕ) (ms : Members) (after : List Mark)
    → drop at (words_marks (words mode t)) ≡ (replicate k opens ++ (marks_of_all ms ++ replicate k closes)) ++ after
    → drop (at + k) (words_marks (words mode t)) ≡ marks_of_all ms ++ (replicate k closes ++ after)
inside_is mode t at k ms after e =
    let w = words_marks (words mode t) in
    let inner = marks_of_all ms ++ replicate k closes in
    sym (drop-drop k at w) ∙ ap (drop k) (e ∙ append_assoc (replicate k opens) inner after)
    ∙ drop_at (replicate k opens) (inner ++ after) k (length-replicate k opens) ∙ append_assoc (marks_of_all ms) (replicate k closes) after

call_here : (mode : Mode) (t : List ℕ) (at k : ℕ) (ms : Members) (after : List Mark) → 2 ≤ k
    → drop at (words_marks (words mode t)) ≡ (replicate k opens ++ (marks_of_all ms ++ replicate k closes)) ++ after
    → IsAlone mode t at (call k ms) → IsCallHere mode (drop at t) k ms
call_here mode t at zero ms after two e f = absurd (omega (arith, two))
call_here mode t at (suc k) ms after two e f =
    let w = words_marks (words mode t) in
    let n : ℕ = suc k + width_of_all ms + suc k in
    let inner = marks_of_all ms ++ replicate (suc k) closes in
    let last : drop (at + k) w ≡ opens ∷ (inner ++ after) =
    sym (drop-drop k at w) ∙ ap (drop k) (e ∙ append_assoc (replicate (suc k) opens) inner after) ∙ last_brace opens k (inner ++ after) in
    let mid = inside_is mode t at (suc k) ms after e in
    let first : drop (at + suc k + width_of_all ms) w ≡ closes ∷ (replicate k closes ++ after) =
    sym (drop-drop (width_of_all ms) (at + suc k) w) ∙ ap (drop (width_of_all ms)) mid
    ∙ drop_at (marks_of_all ms) (replicate (suc k) closes ++ after) (width_of_all ms) (marks_len ms) in
    let z : at + suc k + width_of_all ms ≡ at + (suc k + width_of_all ms) = omega arith in
    let size : at + n - at ≡ n = omega arith in
    let source : slice_range t at (at + n) ≡ take n (drop at t) = ap (λ (i : ℕ). take i (drop at t)) size in
    let last_byte = byte_at 123 k at t (text_says mode t (at + k) opens (inner ++ after) last) in
    let first_byte = byte_at 125 (suc k + width_of_all ms) at t
    (subst (λ i. slice_index (drop i t) 0 ≡ 125) z (text_says mode t (at + suc k + width_of_all ms) closes (replicate k closes ++ after) first)) in
    let end : drop (at + suc k + width_of_all ms + k) w ≡ closes ∷ after =
    sym (drop-drop k (at + suc k + width_of_all ms) w) ∙ ap (drop k) first ∙ last_brace closes k after in
    let y : at + suc k + width_of_all ms + k ≡ at + (suc k + width_of_all ms + k) = omega arith in
    let end_byte = byte_at 125 (suc k + width_of_all ms + k) at t
    (subst (λ i. slice_index (drop i t) 0 ≡ 125) y (text_says mode t (at + suc k + width_of_all ms + k) closes after end)) in
    record {
      two = two;
      is_call = subst (IsCall mode) source (one_call mode (slice_range t at (at + n)) (suc k) ms f.0);
      first = text_says mode t at opens (replicate k opens ++ (inner ++ after)) (e ∙ append_assoc (replicate (suc k) opens) inner after);
      opening = let y : suc k - 1 ≡ k = omega arith in ap (slice_index (drop at t)) y ∙ last_byte;
      closing = first_byte;
      last = let x : suc k + width_of_all ms + (suc k - 1) ≡ suc k + width_of_all ms + k = omega arith in ap (slice_index (drop at t)) x ∙ end_byte;
    }

-- ---- members

member_len : (m : Member) → length (member_marks m) ≡ width m
member_len m = let a = marks_len (more m none) in let b = length-append (member_marks m) [] in omega (arith, a, b)

mutual
  sound_one : (mode : Mode) (t : List ℕ) (at : ℕ) (m : Member) (after : List Mark) → IsFull m
      → drop at (words_marks (words mode t)) ≡ member_marks m ++ after → IsAlone mode t at m → IsSoundMember mode (drop at t) m
  sound_one mode t at (lexeme (kind, n)) after l e f = lexeme_there mode t at kind n after l e
  sound_one mode t at (call k ms) after l e f = (
    call_here mode t at k ms after l.0 e f,
    subst (λ bs. AreSoundMembers mode bs ms) (sym (drop-drop k at t))
        (sound_all mode t (at + k) ms (replicate k closes ++ after) l.1 (inside_is mode t at k ms after e) f.1),
  )

  sound_all : (mode : Mode) (t : List ℕ) (at : ℕ) (ms : Members) (after : List Mark) → AreFull ms
      → drop at (words_marks (words mode t)) ≡ marks_of_all ms ++ after → AreAlone mode t at ms → AreSoundMembers mode (drop at t) ms
  sound_all mode t at none after l e f = tt
  sound_all mode t at (more m ms) after l e f =
      let w = words_marks (words mode t) in
      let here = e ∙ append_assoc (member_marks m) (marks_of_all ms) after in
      let len : length (member_marks m) ≡ width m = member_len m in
      let next : drop (at + width m) w ≡ marks_of_all ms ++ after =
      sym (drop-drop (width m) at w) ∙ ap (drop (width m)) here ∙ drop_at (member_marks m) (marks_of_all ms ++ after) (width m) len in (
        sound_one mode t at m (marks_of_all ms ++ after) l.0 here f.0,
        subst (λ bs. AreSoundMembers mode bs ms) (sym (drop-drop (width m) at t)) (sound_all mode t (at + width m) ms after l.1 next f.1),
      )

members_are : (mode : Mode) (t : List ℕ) → text_members mode t ≡ members (reduced (words mode t))
unfolding text_members
members_are mode t = refl

pub text_width : (mode : Mode) (t : List ℕ) → width_of_all (text_members mode t) ≡ length t
text_width mode t = ap width_of_all (members_are mode t) ∙ text_bytes mode t

-- the members of a text
pub text_sound : (mode : Mode) (t : List ℕ) → AreSoundMembers mode t (text_members mode t)
text_sound mode t =
    let ms = members (reduced (words mode t)) in
    let marks : words_marks (words mode t) ≡ marks_of_all ms ++ [] = sym (text_marks (words mode t)) ∙ sym (append-nil (marks_of_all ms)) in
    subst (AreSoundMembers mode t) (sym (members_are mode t))
    (sound_all mode t 0 ms [] (full_members (reduced (words mode t)) (full_text mode t)) marks (calls_are_alone mode t))
