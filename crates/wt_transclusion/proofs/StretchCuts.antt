-- A stretch cut between two members, and the inside of a call as a stretch.
use Rattle.std.proofs.Common.{◌≡◌, ℕ, zero, suc, ◌+◌, cond, Option, Some, None, List, [], ◌∷◌, ◌++◌, length, take, drop, refl, sym, ap, ◌∙◌, subst, arith, append_assoc, append-nil, length-append}
use Rattle.std.specs.Prelude.{◌==◌, replicate, slice_get}
use Rattle.std.proofs.lemmas.List.{drop-drop, drop_at, take_at, take-take, length-replicate, take_all}
use Rattle.wt_span.specs.declared.form.Mode.{Mode}
use Rattle.wt_span.specs.declared.form.LexKind.{LexKind}
use Rattle.wt_span.specs.declared.form.LexKind.TheVariants as lex
use Rattle.wt_span.specs.Lexemes.{words}
use Rattle.wt_span.specs.Braces.{Member, Members, lexeme, call, none, more, members, listed, width, width_of_all, CallAt, calls, calls_of_all, call_count_of_all, parts_of, reduced}
use Rattle.wt_transclusion.specs.Marks.{Mark, opens, closes, marks_from, word_marks, words_marks, member_marks, marks_of_all}
use Rattle.wt_transclusion.specs.Stretch.{calls_before, BeginBehind, IsStretch}
use Rattle.wt_transclusion.proofs.Full.{full_text, text_bytes}
use Rattle.wt_transclusion.proofs.MarkLaws.{marks_append, text_marks}
use Rattle.wt_transclusion.proofs.StretchLaws.{width_append, full_front, full_back, full_listed, members_listed, calls_append, below_all, behind_all, behind_later, count_all, before_more, full_members, lt_false}

-- ---- lists

take_none : {A : Type 0} → (k : ℕ) → take {A = A} k [] ≡ []
take_none zero = refl
take_none (suc k) = refl

pub take_behind : {A : Type 0} → (a b : ℕ) (xs : List A) → take b (drop a xs) ≡ drop a (take (a + b) xs)
take_behind zero b xs = let e : b ≡ 0 + b = omega arith in ap (λ k. take k xs) e
take_behind (suc a) b [] = take_none b ∙ sym (ap (drop (suc a)) (take_none (suc a + b)))
take_behind (suc a) b (x ∷ xs) = let e : suc (a + b) ≡ suc a + b = omega arith in take_behind a b xs ∙ ap (λ k. drop (suc a) (take k (x ∷ xs))) e

-- ---- as many bytes as marks

pub from_len : (kind : LexKind) (n j k : ℕ) → length (marks_from kind n j k) ≡ k
from_len kind n j zero = refl
from_len kind n j (suc k) = let e = from_len kind n (suc j) k in omega (arith, e)

pub word_len : (kind : LexKind) (n : ℕ) → length (word_marks kind n) ≡ n
word_len lex.Chars n = from_len lex.Chars n 0 n
word_len lex.CommentLine n = from_len lex.CommentLine n 0 n
word_len lex.Comment n = from_len lex.Comment n 0 n
word_len lex.Raw n = from_len lex.Raw n 0 n
word_len lex.Include n = from_len lex.Include n 0 n
word_len lex.Hidden n = from_len lex.Hidden n 0 n
word_len (lex.Entity c) n = from_len (lex.Entity c) n 0 n
word_len lex.Opens n = length-replicate n opens
word_len lex.Closes n = length-replicate n closes
word_len lex.LinkOpen n = from_len lex.LinkOpen n 0 n
word_len lex.LinkClose n = from_len lex.LinkClose n 0 n
word_len lex.Pipe n = from_len lex.Pipe n 0 n
word_len lex.Equals n = from_len lex.Equals n 0 n

mutual
  member_len : (m : Member) → length (member_marks m) ≡ width m
  member_len (lexeme (kind, n)) = word_len kind n
  member_len (call k ms) =
      let a = length-append (replicate k opens) (marks_of_all ms ++ replicate k closes) in
      let b = length-append (marks_of_all ms) (replicate k closes) in
      let c = length-replicate k opens in
      let d = length-replicate k closes in
      let e = marks_len ms in
      omega (arith, a, b, c, d, e)

  pub marks_len : (ms : Members) → length (marks_of_all ms) ≡ width_of_all ms
  marks_len none = refl
  marks_len (more m ms) =
      let a = length-append (member_marks m) (marks_of_all ms) in
      let b = member_len m in
      let c = marks_len ms in
      omega (arith, a, b, c)

-- ---- between two members

pub stretch_front : (w : List Mark) (cs : List CallAt) (p e : ℕ) (xs ys : List Member) → IsStretch w cs p e (xs ++ ys)
    → IsStretch w cs p (p + width_of_all (members xs)) xs
stretch_front w cs p e xs ys s =
    let a = width_of_all (members xs) in
    let b = width_of_all (members ys) in
    let n = calls_before p cs in
    let wide = width_append xs ys in
    let h = s.calls in
    let after = calls_of_all (p + a) h.parent (n + call_count_of_all (members xs)) (members ys) ++ h.after in
    let total : take (a + b) (drop p w) ≡ marks_of_all (members xs) ++ marks_of_all (members ys) = ap (λ k. take k (drop p w)) (sym wide) ∙ s.bytes
    ∙ marks_append xs ys in
    let ends : p + a + b ≡ e = omega (arith, wide, s.width) in
    record {
      full = full_front xs ys s.full;
      width = refl;
      bytes = sym (take-take a (a + b) (drop p w) (omega arith)) ∙ ap (take a) total
          ∙ take_at (marks_of_all (members xs)) (marks_of_all (members ys)) a (marks_len (members xs));
      calls = record {
        parent = h.parent;
        after = after;
        is = h.is ∙ ap (λ ds. ds ++ h.after) (calls_append p h.parent n xs ys)
            ∙ append_assoc (calls_of_all p h.parent n (members xs)) (calls_of_all (p + a) h.parent (n + call_count_of_all (members xs)) (members ys)) h.after;
        behind = behind_all (p + a) h.parent (n + call_count_of_all (members xs)) ys h.after (subst (λ k. BeginBehind k h.after) (sym ends) h.behind);
      };
    }

pub stretch_back : (w : List Mark) (cs : List CallAt) (p e : ℕ) (xs ys : List Member) → IsStretch w cs p e (xs ++ ys)
    → IsStretch w cs (p + width_of_all (members xs)) e ys
stretch_back w cs p e xs ys s =
    let a = width_of_all (members xs) in
    let b = width_of_all (members ys) in
    let n = calls_before p cs in
    let m = call_count_of_all (members xs) in
    let wide = width_append xs ys in
    let h = s.calls in
    let mid = calls_of_all p h.parent n (members xs) in
    let rest = calls_of_all (p + a) h.parent (n + m) (members ys) ++ h.after in
    let total : take (a + b) (drop p w) ≡ marks_of_all (members xs) ++ marks_of_all (members ys) = ap (λ k. take k (drop p w)) (sym wide) ∙ s.bytes
    ∙ marks_append xs ys in
    let ends : p + a + b ≡ e = omega (arith, wide, s.width) in
    let is : drop n cs ≡ mid ++ rest = h.is ∙ ap (λ ds. ds ++ h.after) (calls_append p h.parent n xs ys)
    ∙ append_assoc mid (calls_of_all (p + a) h.parent (n + m) (members ys)) h.after in
    let behind = behind_all (p + a) h.parent (n + m) ys h.after (subst (λ k. BeginBehind k h.after) (sym ends) h.behind) in
    let len = count_all p h.parent n (members xs) in
    let next : calls_before (p + a) cs ≡ n + m =
    before_more p (p + a) cs mid rest (omega arith) is (below_all p h.parent n (members xs) (full_members xs (full_front xs ys s.full))) behind
    ∙ ap (λ k. n + k) len in
    let left : drop (calls_before (p + a) cs) cs ≡ rest = ap (λ k. drop k cs) next ∙ sym (drop-drop m n cs) ∙ ap (drop m) is ∙ drop_at mid rest m len in
    record {
      full = full_back xs ys s.full;
      width = ends;
      bytes = ap (take b) (sym (drop-drop a p w)) ∙ take_behind a b (drop p w) ∙ ap (drop a) total
          ∙ drop_at (marks_of_all (members xs)) (marks_of_all (members ys)) a (marks_len (members xs));
      calls = record {
        parent = h.parent;
        after = h.after;
        is = left ∙ ap (λ k. calls_of_all (p + a) h.parent k (members ys) ++ h.after) (sym next);
        behind = h.behind;
      };
    }

-- ---- within a call

-- the call that begins a stretch
abbrev pub call_at : ℕ → ℕ → Option ℕ → Members → CallAt
call_at p k parent ms = record { argument = k == 3; from = p; to = p + (k + width_of_all ms + k); parts = parts_of (p + k) ms; parent = parent }

pub stretch_call : (w : List Mark) (cs : List CallAt) (p e k : ℕ) (ms : Members) (ys : List Member) → IsStretch w cs p e (call k ms ∷ ys)
    → (parent : Option ℕ) × (slice_get cs (calls_before p cs) ≡ Some (call_at p k parent ms))
stretch_call w cs p e k ms ys s = (s.calls.parent, first_of (calls_before p cs) cs _ _ s.calls.is)
  where
    first_of : (n : ℕ) (cs : List CallAt) (c : CallAt) (rest : List CallAt) → drop n cs ≡ c ∷ rest → slice_get cs n ≡ Some c
    first_of zero [] c rest e = absurd (let z : [] ≡ c ∷ rest = e in cc)
    first_of zero (d ∷ cs) c rest e = let z : d ≡ c = cc in ap Some z
    first_of (suc n) [] c rest e = absurd (let z : [] ≡ c ∷ rest = e in cc)
    first_of (suc n) (d ∷ cs) c rest e = first_of n cs c rest e

inside_marks : (o m c y : List Mark) → (o ++ (m ++ c)) ++ y ≡ (o ++ m) ++ (c ++ y)
inside_marks o m c y = simp append_assoc

pub stretch_inside : (w : List Mark) (cs : List CallAt) (p e k : ℕ) (ms : Members) (ys : List Member) → IsStretch w cs p e (call k ms ∷ ys)
    → IsStretch w cs (p + k) (p + k + width_of_all ms) (listed ms)
stretch_inside w cs p e k ms ys s =
    let a = width_of_all ms in
    let b = width_of_all (members ys) in
    let n = calls_before p cs in
    let h = s.calls in
    let same = members_listed ms in
    let o = replicate k opens in
    let c = replicate k closes in
    let full = s.full.0 in
    let later = calls_of_all (p + (k + a + k)) h.parent (n + (1 + call_count_of_all ms)) (members ys) ++ h.after in
    let inner = calls_of_all (p + k) (Some n) (n + 1) ms in
    let mid = call_at p k h.parent ms ∷ [] in
    let is : drop n cs ≡ mid ++ (inner ++ later) = h.is
    ∙ ap (λ ds. call_at p k h.parent ms ∷ ds)
    (append_assoc inner (calls_of_all (p + (k + a + k)) h.parent (n + (1 + call_count_of_all ms)) (members ys)) h.after) in
    let ends : p + (k + a + k) + b ≡ e = omega (arith, s.width) in
    let behind_call = behind_all (p + (k + a + k)) h.parent (n + (1 + call_count_of_all ms)) ys h.after
    (subst (λ j. BeginBehind j h.after) (sym ends) h.behind) in
    let behind_in : BeginBehind (p + k + a) later = behind_later (p + k + a) (p + (k + a + k)) later (omega arith) behind_call in
    let begins : BeginBehind (p + k) (inner ++ later) =
    subst (λ qs. BeginBehind (p + k) (calls_of_all (p + k) (Some n) (n + 1) qs ++ later)) same
    (behind_all (p + k) (Some n) (n + 1) (listed ms) later (subst (λ qs. BeginBehind (p + k + width_of_all qs) later) (sym same) behind_in)) in
    let next : calls_before (p + k) cs ≡ n + 1 = before_more p (p + k) cs mid (inner ++ later) (omega arith) is (omega (arith, full.0), tt) begins in
    let left : drop (calls_before (p + k) cs) cs ≡ inner ++ later = ap (λ j. drop j cs) next ∙ sym (drop-drop 1 n cs) ∙ ap (drop 1) is in
    let total : take (k + a + k + b) (drop p w) ≡ (o ++ (marks_of_all ms ++ c)) ++ marks_of_all (members ys) = s.bytes in
    let len : length (o ++ marks_of_all ms) ≡ k + a =
    let x = length-append o (marks_of_all ms) in let y = length-replicate k opens in let z = marks_len ms in omega (arith, x, y, z) in
    let front : take (k + a) (drop p w) ≡ o ++ marks_of_all ms =
    sym (take-take (k + a) (k + a + k + b) (drop p w) (omega arith))
    ∙ ap (take (k + a)) (total ∙ inside_marks o (marks_of_all ms) c (marks_of_all (members ys)))
    ∙ take_at (o ++ marks_of_all ms) (c ++ marks_of_all (members ys)) (k + a) len in
    record {
      full = full_listed ms full.1;
      width = ap (λ qs. p + k + width_of_all qs) same;
      bytes = ap (λ qs. take (width_of_all qs) (drop (p + k) w)) same ∙ ap (take a) (sym (drop-drop k p w)) ∙ take_behind k a (drop p w) ∙ ap (drop k) front
          ∙ drop_at o (marks_of_all ms) k (length-replicate k opens) ∙ sym (ap marks_of_all same);
      calls = record {
        parent = Some n;
        after = later;
        is = left ∙ ap (λ j. calls_of_all (p + k) (Some n) j ms ++ later) (sym next)
            ∙ ap (λ qs. calls_of_all (p + k) (Some n) (calls_before (p + k) cs) qs ++ later) (sym same);
        behind = behind_in;
      };
    }

-- ---- a whole text

none_before : (cs : List CallAt) → calls_before 0 cs ≡ 0
none_before [] = refl
none_before (c ∷ cs) = ap (λ t. cond t (1 + calls_before 0 cs) 0) (lt_false c.from 0 (omega arith))

calls_are : (m : Mode) (bs : List ℕ) → calls 0 (words m bs) ≡ calls_of_all 0 None 0 (members (reduced (words m bs)))
unfolding calls
calls_are m bs = refl

pub whole_stretch : (m : Mode) (bs : List ℕ) → IsStretch (words_marks (words m bs)) (calls 0 (words m bs)) 0 (length bs) (reduced (words m bs))
whole_stretch m bs =
    let xs = reduced (words m bs) in
    let cs = calls 0 (words m bs) in
    let w = words_marks (words m bs) in
    let z = none_before cs in
    let t = text_marks (words m bs) in
    let l = marks_len (members xs) in
    record {
      full = full_text m bs;
      width = let e = text_bytes m bs in omega (arith, e);
      bytes = ap (take (width_of_all (members xs))) (sym t) ∙ take_all (width_of_all (members xs)) (marks_of_all (members xs)) (omega (arith, l));
      calls = record {
        parent = None;
        after = [];
        is = ap (λ n. drop n cs) z ∙ calls_are m bs ∙ sym (append-nil (calls_of_all 0 None 0 (members xs)))
            ∙ ap (λ n. calls_of_all 0 None n (members xs) ++ []) (sym z);
        behind = tt;
      };
    }
