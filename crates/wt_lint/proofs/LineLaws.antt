-- The line and the column of the next place.
use Rattle.std.proofs.Common.{◌≡◌, ℕ, ◌+◌, ◌<◌, ◌≤◌, Bool, true, false, List, [], ◌∷◌, ◌++◌, length, take, get_or, refl, ap, ◌∙◌, arith}
use Rattle.std.specs.Prelude.{not, reverse, if◌then◌else◌}
use Rattle.std.specs.List.{prefix_len}
use Rattle.std.proofs.lemmas.List.{take_more, reverse-append, length-take, length-reverse}
use Rattle.wt_span.specs.Bytes.{is_break}
use Rattle.wt_lint.specs.Bytes.{suffix_len}
use Rattle.wt_lint.specs.Lines.{breaks, line_of, column_of}

pub breaks_join : (bs cs : List ℕ) → breaks (bs ++ cs) ≡ breaks bs + breaks cs
breaks_join [] cs = omega arith
breaks_join (b ∷ bs) cs = by (is_break b) (breaks_join bs cs)
  where
    by : (t : Bool) → breaks (bs ++ cs) ≡ breaks bs + breaks cs
        → (if t then 1 + breaks (bs ++ cs) else breaks (bs ++ cs)) ≡ (if t then 1 + breaks bs else breaks bs) + breaks cs
    by true e = omega (arith, e)
    by false e = e

pub breaks_few : (bs : List ℕ) → breaks bs ≤ length bs
breaks_few [] = omega arith
breaks_few (b ∷ bs) = by (is_break b) (breaks_few bs)
  where
    by : (t : Bool) → breaks bs ≤ length bs → (if t then 1 + breaks bs else breaks bs) ≤ length (b ∷ bs)
    by true e = omega (arith, e)
    by false e = omega (arith, e)

pub prefix_few : (p : ℕ → Bool) (bs : List ℕ) → prefix_len p bs ≤ length bs
prefix_few p [] = omega arith
prefix_few p (b ∷ bs) = by (p b) (prefix_few p bs)
  where
    by : (t : Bool) → prefix_len p bs ≤ length bs → (if t then 1 + prefix_len p bs else 0) ≤ length (b ∷ bs)
    by true e = omega (arith, e)
    by false e = omega arith

taken_one : (page : List ℕ) (at : ℕ) → at < length page → take (at + 1) page ≡ take at page ++ get_or page at 0 ∷ []
taken_one page at lt = take_more page at 0 lt

pub break_column : (b : ℕ) (bs : List ℕ) → suffix_len (λ c. not (is_break c)) (bs ++ b ∷ []) ≡ (if is_break b then 0 else 1 + suffix_len (λ c. not (is_break c)) bs)
break_column b bs = ap (prefix_len (λ c. not (is_break c))) (reverse-append bs (b ∷ [])) ∙ by (is_break b)
  where
    by : (t : Bool) → (if not t then 1 + suffix_len (λ c. not (is_break c)) bs else 0) ≡ (if t then 0 else 1 + suffix_len (λ c. not (is_break c)) bs)
    by true = refl
    by false = refl

-- behind a line break
pub next_line : (page : List ℕ) (at : ℕ) → at < length page → is_break (get_or page at 0) ≡ true → line_of page (at + 1) ≡ line_of page at + 1
next_line page at lt e =
    ap (λ bs. 1 + breaks bs) (taken_one page at lt) ∙ ap (λ (n : ℕ). 1 + n) (breaks_join (take at page) (get_or page at 0 ∷ []))
    ∙ rw e (omega arith)

pub first_column : (page : List ℕ) (at : ℕ) → at < length page → is_break (get_or page at 0) ≡ true → column_of page (at + 1) ≡ 1
first_column page at lt e =
    ap (λ bs. 1 + suffix_len (λ c. not (is_break c)) bs) (taken_one page at lt)
    ∙ ap (λ (n : ℕ). 1 + n) (break_column (get_or page at 0) (take at page)) ∙ rw e refl

-- behind any other byte
pub same_line : (page : List ℕ) (at : ℕ) → at < length page → is_break (get_or page at 0) ≡ false → line_of page (at + 1) ≡ line_of page at
same_line page at lt e =
    ap (λ bs. 1 + breaks bs) (taken_one page at lt) ∙ ap (λ (n : ℕ). 1 + n) (breaks_join (take at page) (get_or page at 0 ∷ []))
    ∙ rw e (omega arith)

pub next_column : (page : List ℕ) (at : ℕ) → at < length page → is_break (get_or page at 0) ≡ false → column_of page (at + 1) ≡ column_of page at + 1
next_column page at lt e =
    ap (λ bs. 1 + suffix_len (λ c. not (is_break c)) bs) (taken_one page at lt)
    ∙ ap (λ (n : ℕ). 1 + n) (break_column (get_or page at 0) (take at page)) ∙ rw e (omega arith)

-- ---- bounds

taken_few : (page : List ℕ) (at : ℕ) → length (take at page) ≤ length page
taken_few page at = rw (length-take at page) (omega arith)

pub line_few : (page : List ℕ) (at : ℕ) → line_of page at ≤ 1 + length page
line_few page at = omega (arith, breaks_few (take at page), taken_few page at)

pub column_few : (page : List ℕ) (at : ℕ) → column_of page at ≤ 1 + length page
column_few page at = omega (arith, prefix_few (λ c. not (is_break c)) (reverse (take at page)), taken_few page at, length-reverse (take at page))
