-- What stands at a place of a stretch: a call, or bytes of the lexeme there up to the next call or the end.
use Rattle.std.proofs.Common.{◌≡◌, ℕ, zero, suc, ◌+◌, ◌-◌, ◌<◌, ◌≤◌, ◌⊎◌, inl, inr, List, [], ◌∷◌, ◌++◌, take, drop, refl, sym, ap, ◌∙◌, subst, arith, append_assoc}
use Rattle.std.specs.Prelude.{replicate, min}
use Rattle.std.proofs.lemmas.List.{drop_at, take_at, length-replicate, replicate-append-replicate}
use Rattle.wt_span.specs.declared.form.LexKind.{LexKind}
use Rattle.wt_span.specs.declared.form.LexKind.TheVariants as lex
use Rattle.wt_span.specs.Braces.{Member, Members, lexeme, call, members, width_of_all, CallAt}
use Rattle.wt_transclusion.specs.Marks.{Mark, opens, closes, of, marks_from, word_marks, marks_of_all}
use Rattle.wt_transclusion.specs.Steps.{IsTaken, IsCallThere}
use Rattle.wt_transclusion.specs.Stretch.{calls_before, BeginBehind, IsStretch, IsLimit}
use Rattle.wt_transclusion.proofs.StretchLaws.{behind_all}
use Rattle.wt_transclusion.proofs.Chunks.{IsRun, opening, closing, whole_lexeme, read_run}

-- ---- a call

-- a stretch goes on behind its first lexeme
lexeme_limit : (w : List Mark) (cs : List CallAt) (p e g k : ℕ) (kind : LexKind) (ys : List Member) → IsStretch w cs p e (lexeme (kind, k) ∷ ys)
    → IsLimit (drop (calls_before p cs) cs) e g → p + k ≤ g
lexeme_limit w cs p e g k kind ys s l =
    let h = s.calls in
    let n = calls_before p cs in
    let ends : p + k + width_of_all (members ys) ≡ e = let z = s.width in omega (arith, z) in
    let behind = behind_all (p + k) h.parent (n + 0) ys h.after (subst (λ j. BeginBehind j h.after) (sym ends) h.behind) in
    l.most (p + k) (omega (arith, ends)) (subst (BeginBehind (p + k)) (sym h.is) behind)

pub call_there : (w : List Mark) (cs : List CallAt) (p e : ℕ) (xs : List Member) → IsStretch w cs p e xs → p < e → IsLimit (drop (calls_before p cs) cs) e p
    → IsCallThere xs
call_there w cs p e [] s low l = absurd (let z = s.width in omega (arith, z, low))
call_there w cs p e (lexeme (kind, k) ∷ ys) s low l = absurd (let z = lexeme_limit w cs p e p k kind ys s l in let f = s.full.0 in omega (arith, z, f))
call_there w cs p e (call k ms ∷ ys) s low l = record { braces = k; inside = ms; after = ys; is = refl }

-- ---- a lexeme

-- the marks of the lexeme at a place, from there on
pub record IsLexemeThere (w : List Mark) (p from len : ℕ) (kind : LexKind) : Type 0 where
  pub begun : from ≤ p
  pub ends : p < from + len
  pub after : List Mark
  pub is : drop p w ≡ drop (p - from) (word_marks kind len) ++ after

-- of a form, the byte behind so many
pub from_drop : (kind : LexKind) (n i j k : ℕ) → j < k → (rest : List Mark) × (drop j (marks_from kind n i k) ≡ of kind n (i + j) ∷ rest)
from_drop kind n i zero zero l = absurd (omega (arith, l))
from_drop kind n i zero (suc k) l = (marks_from kind n (suc i) k, ap (λ x. of kind n x ∷ marks_from kind n (suc i) k) (omega arith))
from_drop kind n i (suc j) zero l = absurd (omega (arith, l))
from_drop kind n i (suc j) (suc k) l =
    let r = from_drop kind n (suc i) j k (omega (arith, l)) in
    (r.0, r.1 ∙ ap (λ x. of kind n x ∷ r.0) (omega arith))

pub data IsForm (kind : LexKind) : Type 0 where
  form_of : ((n : ℕ) → word_marks kind n ≡ marks_from kind n 0 n) → IsForm kind

pub run_or_form : (kind : LexKind) → ((m : Mark) × IsRun kind m) ⊎ IsForm kind
run_or_form lex.Chars = inr (form_of (λ n. refl))
run_or_form lex.CommentLine = inr (form_of (λ n. refl))
run_or_form lex.Comment = inr (form_of (λ n. refl))
run_or_form lex.Raw = inr (form_of (λ n. refl))
run_or_form lex.Include = inr (form_of (λ n. refl))
run_or_form lex.Hidden = inr (form_of (λ n. refl))
run_or_form (lex.Entity c) = inr (form_of (λ n. refl))
run_or_form lex.Opens = inl (opens, opening)
run_or_form lex.Closes = inl (closes, closing)
run_or_form lex.LinkOpen = inr (form_of (λ n. refl))
run_or_form lex.LinkClose = inr (form_of (λ n. refl))
run_or_form lex.Pipe = inr (form_of (λ n. refl))
run_or_form lex.Equals = inr (form_of (λ n. refl))

pub run_marks : (kind : LexKind) (m : Mark) (n : ℕ) → IsRun kind m → word_marks kind n ≡ replicate n m
run_marks kind m n opening = refl
run_marks kind m n closing = refl

pub drop_run : (m : Mark) (n j : ℕ) → j ≤ n → drop j (replicate n m) ≡ replicate (n - j) m
drop_run m n j l =
    let z : j + (n - j) ≡ n = omega (arith, l) in
    ap (λ k. drop j (replicate k m)) (sym z) ∙ ap (drop j) (sym (replicate-append-replicate j (n - j) m))
    ∙ drop_at (replicate j m) (replicate (n - j) m) j (length-replicate j m)

take_run : (m : Mark) (n k : ℕ) (rest : List Mark) → k ≤ n → take k (replicate n m ++ rest) ≡ replicate k m
take_run m n k rest l =
    let z : k + (n - k) ≡ n = omega (arith, l) in
    ap (λ i. take k (replicate i m ++ rest)) (sym z) ∙ ap (λ xs. take k (xs ++ rest)) (sym (replicate-append-replicate k (n - k) m))
    ∙ ap (take k) (append_assoc (replicate k m) (replicate (n - k) m) rest) ∙ take_at (replicate k m) (replicate (n - k) m ++ rest) k (length-replicate k m)

-- the first byte of members
pub first_of : (a : ℕ) (l : List Mark) (y : Mark) (ms ys : List Mark) → 1 ≤ a → take a l ≡ ms → l ≡ y ∷ ys → (rest : List Mark) × (ms ≡ y ∷ rest)
first_of zero l y ms ys le e f = absurd (omega (arith, le))
first_of (suc a) [] y ms ys le e f = absurd (let z : [] ≡ y ∷ ys = f in cc)
first_of (suc a) (x ∷ l) y ms ys le e f = (take a l, sym e ∙ (let z : x ≡ y = cc in ap (λ m. m ∷ take a l) z))

-- a lexeme of a form is the member
pub record IsMember (kind c : LexKind) (len k j : ℕ) : Type 0 where
  pub kinds : c ≡ kind
  pub lengths : k ≡ len
  pub begins : j ≡ 0

pub member_by : (c kind : LexKind) (len j k : ℕ) (after rest : List Mark) → 1 ≤ k → ((m : Mark) × IsRun c m) ⊎ IsForm c
    → word_marks c k ++ after ≡ of kind len j ∷ rest → IsMember kind c len k j
member_by c kind len j zero after rest l run e = absurd (omega (arith, l))
member_by c kind len j (suc k) after rest l (inl (m, opening)) e = absurd cc
member_by c kind len j (suc k) after rest l (inl (m, closing)) e = absurd cc
member_by c kind len j (suc k) after rest l (inr (form_of is)) e =
    let g : marks_from c (suc k) 0 (suc k) ++ after ≡ of kind len j ∷ rest = ap (λ ms. ms ++ after) (sym (is (suc k))) ∙ e in
    let z : of c (suc k) 0 ≡ of kind len j = cc in
    let a : c ≡ kind = cc in
    let b : suc k ≡ len = cc in
    let d : 0 ≡ j = cc in
    record { kinds = a; lengths = b; begins = sym d }

pub not_call : (k : ℕ) (ms : Members) (ys : List Member) (kind : LexKind) (len j : ℕ) (rest : List Mark) → 2 ≤ k
    → marks_of_all (members (call k ms ∷ ys)) ≡ of kind len j ∷ rest → ⊥
not_call zero ms ys kind len j rest l e = omega (arith, l)
not_call (suc k) ms ys kind len j rest l e = cc

form_there : (w : List Mark) (cs : List CallAt) (t : List ℕ) (p e g from len : ℕ) (kind : LexKind) (xs : List Member) → IsStretch w cs p e xs
    → IsLimit (drop (calls_before p cs) cs) e g → p < g
    → ((n : ℕ) → word_marks kind n ≡ marks_from kind n 0 n) → IsLexemeThere w p from len kind → IsTaken w cs t kind p (min (from + len) g) e xs
form_there w cs t p e g from len kind [] s l low is h = absurd (let z = s.width in let y = l.within in omega (arith, z, low, y))
form_there w cs t p e g from len kind (call k ms ∷ ys) s l low is h =
    let d = from_drop kind len 0 (p - from) len (omega (arith, h.begun, h.ends)) in
    let first : drop p w ≡ of kind len (0 + (p - from)) ∷ (d.0 ++ h.after) = h.is ∙ ap (λ ms. drop (p - from) ms ++ h.after) (is len)
    ∙ ap (λ ms. ms ++ h.after) d.1 in
    let two = s.full.0.0 in
    let f = first_of (width_of_all (members (call k ms ∷ ys))) (drop p w) (of kind len (0 + (p - from))) (marks_of_all (members (call k ms ∷ ys)))
    (d.0 ++ h.after) (omega (arith, two)) s.bytes first in
    absurd (not_call k ms ys kind len (0 + (p - from)) f.0 two f.1)
form_there w cs t p e g from len kind (lexeme (c, k) ∷ ys) s l low is h =
    let d = from_drop kind len 0 (p - from) len (omega (arith, h.begun, h.ends)) in
    let first : drop p w ≡ of kind len (0 + (p - from)) ∷ (d.0 ++ h.after) = h.is ∙ ap (λ ms. drop (p - from) ms ++ h.after) (is len)
    ∙ ap (λ ms. ms ++ h.after) d.1 in
    let one = s.full.0 in
    let f = first_of (k + width_of_all (members ys)) (drop p w) (of kind len (0 + (p - from))) (word_marks c k ++ marks_of_all (members ys)) (d.0 ++ h.after)
    (omega (arith, one)) s.bytes first in
    let m = member_by c kind len (0 + (p - from)) k (marks_of_all (members ys)) f.0 one (run_or_form c) f.1 in
    let limit = lexeme_limit w cs p e g k c ys s l in
    let begun = h.begun in
    let lens = m.lengths in
    let begins = m.begins in
    let z : p + k ≡ min (from + len) g = omega (arith, limit, begun, lens, begins) in
    subst (λ q. IsTaken w cs t kind p q e (lexeme (c, k) ∷ ys)) z
    (subst (λ d. IsTaken w cs t d p (p + k) e (lexeme (c, k) ∷ ys)) m.kinds (whole_lexeme w cs t c p k e ys s))

run_there : (w : List Mark) (cs : List CallAt) (t : List ℕ) (p e g from len : ℕ) (kind : LexKind) (m : Mark) (xs : List Member) → IsStretch w cs p e xs
    → IsLimit (drop (calls_before p cs) cs) e g → p < g
    → IsRun kind m → IsLexemeThere w p from len kind → IsTaken w cs t kind p (min (from + len) g) e xs
run_there w cs t p e g from len kind m xs s l low run h =
    let q = min (from + len) g in
    let n = q - p - 1 in
    let begun = h.begun in
    let ends = h.ends in
    let z : p + suc n ≡ q = omega (arith, low, ends) in
    let r : drop p w ≡ replicate (len - (p - from)) m ++ h.after =
    h.is ∙ ap (λ ms. drop (p - from) ms ++ h.after) (run_marks kind m len run)
    ∙ ap (λ ms. ms ++ h.after) (drop_run m len (p - from) (omega (arith, begun, ends))) in
    let same : take (suc n) (drop p w) ≡ replicate (suc n) m = ap (take (suc n)) r
    ∙ take_run m (len - (p - from)) (suc n) h.after (omega (arith, z, begun, ends)) in
    subst (λ k. IsTaken w cs t kind p k e xs) z (read_run n w cs t kind m p g e xs run s (omega (arith, z)) l.within same l.behind)

-- The bytes of the lexeme at a place, up to its end or the next call or the end of the stretch.
pub chunk_there : (w : List Mark) (cs : List CallAt) (t : List ℕ) (p e g from len : ℕ) (kind : LexKind) (xs : List Member) → IsStretch w cs p e xs
    → IsLimit (drop (calls_before p cs) cs) e g → p < g
    → IsLexemeThere w p from len kind → IsTaken w cs t kind p (min (from + len) g) e xs
chunk_there w cs t p e g from len kind xs s l low h = by_kind (run_or_form kind)
  where
    by_kind : ((m : Mark) × IsRun kind m) ⊎ IsForm kind → IsTaken w cs t kind p (min (from + len) g) e xs
    by_kind (inl (m, run)) = run_there w cs t p e g from len kind m xs s l low run h
    by_kind (inr (form_of is)) = form_there w cs t p e g from len kind xs s l low is h
