-- Comments and comment lines that are cut out of their text are whole by themselves.
use Rattle.std.proofs.Common.{◌≡◌, ℕ, zero, suc, ◌+◌, ◌-◌, ◌<◌, ◌≤◌, Bool, true, false, Option, Some, None, List, [], ◌∷◌, length, get_or, take, drop, nat_lt, refl, ap, ◌∙◌, subst, arith, codes}
use Rattle.std.specs.Prelude.{if◌then◌else◌, ◌&&◌}
use Rattle.wt_span.specs.Bytes.{is_blank, is_break, begins, through, blank_len}
use Rattle.wt_span.specs.Comments.{comment_len, remarks_with, remarks_len, comment_line_len}
use Rattle.wt_lex.proofs.Begins.{and_left, lt_is}
use Rattle.wt_lex.proofs.Forms.{OptFits, comment_fits}
use Rattle.wt_lex.proofs.Fronts.{drop_front, begins_front, begins_none, through_front, prefix_front, byte_front}

-- a comment is the same in each front that holds it
comment_by : (bs : List ℕ) (m : ℕ) (t : Bool) (k : ℕ) → begins (codes "<!--") bs ≡ t → through (codes "-->") (drop 4 bs) ≡ k → 4 + k ≤ m
    → (if begins (codes "<!--") (take m bs) then Some (4 + through (codes "-->") (drop 4 (take m bs))) else None) ≡ (if t then Some (4 + k) else None)
comment_by bs m true k e is le =
    let starts = begins_front (codes "<!--") bs m (omega arith) e in
    let same : through (codes "-->") (drop 4 (take m bs)) ≡ k =
    ap (through (codes "-->")) (drop_front 4 m bs (omega arith)) ∙ through_front (codes "-->") (drop 4 bs) (m - 4) (omega arith) (omega arith) ∙ is in
    ap (λ (t : Bool). if t then Some (4 + through (codes "-->") (drop 4 (take m bs))) else None) starts ∙ ap (λ (n : ℕ). Some (4 + n)) same
comment_by bs m false k e is le = ap (λ (t : Bool). if t then Some (4 + through (codes "-->") (drop 4 (take m bs))) else None)
    (begins_none (codes "<!--") bs m e)

some_by : (t : Bool) (k c : ℕ) → (if t then Some (4 + k) else None) ≡ Some c → 4 + k ≡ c
some_by true k c e = cc
some_by false k c e = cc

pub comment_front : (bs : List ℕ) (m c : ℕ) → comment_len bs ≡ Some c → c ≤ m → comment_len (take m bs) ≡ Some c
unfolding comment_len
comment_front bs m c e le =
    let k = through (codes "-->") (drop 4 bs) in
    let size : 4 + k ≡ c = some_by (begins (codes "<!--") bs) k c e in
    comment_by bs m (begins (codes "<!--") bs) k refl refl (omega arith) ∙ e

none_by : (t : Bool) (k : ℕ) → (if t then Some (4 + k) else None) ≡ None → t ≡ false
none_by true k e = cc
none_by false k e = refl

pub no_comment_front : (bs : List ℕ) (m : ℕ) → comment_len bs ≡ None → comment_len (take m bs) ≡ None
unfolding comment_len
no_comment_front bs m e =
    ap (λ (t : Bool). if t then Some (4 + through (codes "-->") (drop 4 (take m bs))) else None)
    (begins_none (codes "<!--") bs m (none_by (begins (codes "<!--") bs) (through (codes "-->") (drop 4 bs)) e))

-- a comment's bytes count among the comments and blanks
skipped_le : (n : ℕ) (bs : List ℕ) → n ≤ length bs → n ≤ remarks_len n bs
skipped_le zero bs le = omega arith
skipped_le (suc n) [] le = absurd (omega arith)
skipped_le (suc n) (b ∷ bs) le = omega (arith, skipped_le n bs (omega arith))

size_le : (b : ℕ) (bs : List ℕ) (o : Option ℕ) → comment_len (b ∷ bs) ≡ o → OptFits (b ∷ bs) o
size_le b bs o e = let P : Option ℕ → Type 0 = λ o. OptFits (b ∷ bs) o in subst P e (comment_fits (b ∷ bs))

blank_by : (t : Bool) (m n : ℕ) (k : ℕ) → (if t then 1 + n else 0) < suc k → (n < k → m ≡ n) → ◌≡◌ {A = ℕ} (if t then 1 + m else 0) (if t then 1 + n else 0)
blank_by true m n k h f = ap (λ i. 1 + i) (f (omega arith))
blank_by false m n k h f = refl

remarks_at : (b : ℕ) (bs : List ℕ) (m : ℕ) (o : Option ℕ) → comment_len (b ∷ bs) ≡ o → remarks_with o b (λ n. remarks_len n bs) < suc m
    → ((k : ℕ) → remarks_len k bs < m → remarks_len k (take m bs) ≡ remarks_len k bs)
    → remarks_with (comment_len (b ∷ take m bs)) b (λ n. remarks_len n (take m bs)) ≡ remarks_with o b (λ n. remarks_len n bs)
remarks_at b bs m None e h rest =
    ap (λ (o : Option ℕ). remarks_with o b (λ n. remarks_len n (take m bs))) (no_comment_front (b ∷ bs) (suc m) e)
    ∙ blank_by (is_blank b) (remarks_len 0 (take m bs)) (remarks_len 0 bs) m h (rest 0)
remarks_at b bs m (Some c) e h rest =
    let f = size_le b bs (Some c) e in
    let inside = skipped_le (c - 1) bs (omega (arith, f.within)) in
    ap (λ (o : Option ℕ). remarks_with o b (λ n. remarks_len n (take m bs))) (comment_front (b ∷ bs) (suc m) c e (omega (arith, f.some)))
    ∙ ap (λ (i : ℕ). 1 + i) (rest (c - 1) (omega arith))

-- the comments and blanks are the same in each front that goes further
pub remarks_front : (k : ℕ) (bs : List ℕ) (m : ℕ) → remarks_len k bs < m → remarks_len k (take m bs) ≡ remarks_len k bs
remarks_front zero [] zero h = refl
remarks_front zero [] (suc m) h = refl
remarks_front zero (b ∷ bs) zero h = absurd (omega arith)
remarks_front zero (b ∷ bs) (suc m) h = remarks_at b bs m (comment_len (b ∷ bs)) refl h (λ k low. remarks_front k bs m low)
remarks_front (suc k) [] zero h = refl
remarks_front (suc k) [] (suc m) h = refl
remarks_front (suc k) (b ∷ bs) zero h = absurd (omega arith)
remarks_front (suc k) (b ∷ bs) (suc m) h = ap (λ (i : ℕ). 1 + i) (remarks_front k bs m (omega arith))

line_by : (u t : Bool) (m n : ℕ) → u ≡ t → m ≡ n → (if u then Some (m + 1) else None) ≡ (if t then Some (n + 1) else None)
line_by true true m n e f = ap (λ k. Some (k + 1)) f
line_by true false m n e f = cc
line_by false true m n e f = cc
line_by false false m n e f = refl

some_line : (t : Bool) (n c : ℕ) → (if t then Some (n + 1) else None) ≡ Some c → (t ≡ true) × (n + 1 ≡ c)
some_line true n c e = (refl, cc)
some_line false n c e = cc

-- a comment line is the same in each front that holds it
pub line_front : (bs : List ℕ) (m c : ℕ) → comment_line_len bs ≡ Some c → c ≤ m → comment_line_len (take m bs) ≡ Some c
unfolding comment_line_len
line_front bs m c e le =
    let n = remarks_len 0 bs in
    let is = some_line (nat_lt (blank_len bs) n && is_break (get_or bs n 0)) n c e in
    let more = lt_is (blank_len bs) n (and_left (nat_lt (blank_len bs) n) _ is.0) in
    let size = is.1 in
    let same = remarks_front 0 bs m (omega arith) in
    let blanks = prefix_front is_blank bs m (omega arith) in
    let T : ℕ → ℕ → ℕ → Bool = λ k i b. nat_lt k i && is_break b in
    let test : T (blank_len (take m bs)) (remarks_len 0 (take m bs)) (get_or (take m bs) (remarks_len 0 (take m bs)) 0) ≡ T (blank_len bs) n (get_or bs n 0) =
    ap (λ k. T k (remarks_len 0 (take m bs)) (get_or (take m bs) (remarks_len 0 (take m bs)) 0)) blanks
    ∙ ap (λ i. T (blank_len bs) i (get_or (take m bs) i 0)) same ∙ ap (T (blank_len bs) n) (byte_front bs m n (omega arith)) in
    line_by (T (blank_len (take m bs)) (remarks_len 0 (take m bs)) (get_or (take m bs) (remarks_len 0 (take m bs)) 0))
    (T (blank_len bs) n (get_or bs n 0)) (remarks_len 0 (take m bs)) n test same ∙ e
