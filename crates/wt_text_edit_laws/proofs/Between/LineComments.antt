-- Comments that begin lines, or what ends with a comment or tag, and end in them: the same whatever follows, and in lines before their end.
use Rattle.std.proofs.Common.{arith, ◌≡◌, ℕ, zero, suc, ◌+◌, ◌-◌, ◌<◌, ◌≤◌, Bool, true, false, Option, Some, None, List, [], ◌∷◌, ◌++◌, length, get_or, take, drop, refl, sym, ap, ◌∙◌, subst, length-drop}
use Rattle.std.specs.Prelude.{◌==◌, ◌||◌, if◌then◌else◌, codes}
use Rattle.std.proofs.lemmas.List.{drop-append-le}
use Rattle.std.proofs.Math.Seq.{take-append_seam}
use Rattle.wt_span.specs.Bytes.{is_blank, is_break, begins, through}
use Rattle.wt_span.specs.Comments.{comment_len, remarks_len, remarks_with}
use Rattle.wt_lex.proofs.Begins.{begins_len}
use Rattle.wt_lex.proofs.Forms.{OptFits, comment_fits}
use Rattle.wt_lex.proofs.Fronts.{begins_front, begins_none}
use Rattle.wt_typed_blocks.specs.Reading.{stands}
use Rattle.wt_text_edit_laws.specs.TextBetween.{EndsBy, AreWholeLines, is_end, AreEnded, ends_comment}
use Rattle.wt_text_edit_laws.proofs.Between.LineWords.{lacks, word_before, unbroken_front, word_up_to}

-- ---- lines

pub ends_behind : (test : ℕ → Bool) (b : ℕ) (q : List ℕ) → EndsBy test (b ∷ q) → EndsBy test q
ends_behind test b [] e = tt
ends_behind test b (c ∷ q) e = e

pub ends_dropped : (test : ℕ → Bool) (n : ℕ) (q : List ℕ) → EndsBy test q → EndsBy test (drop n q)
ends_dropped test zero [] e = tt
ends_dropped test zero (b ∷ q) e = e
ends_dropped test (suc n) [] e = tt
ends_dropped test (suc n) (b ∷ q) e = ends_dropped test n q (ends_behind test b q e)

pub last_end : (test : ℕ → Bool) (b : ℕ) (q rest : List ℕ) → EndsBy test (b ∷ q) → test (get_or ((b ∷ q) ++ rest) (length q) 0) ≡ true
last_end test b [] rest e = e
last_end test b (c ∷ q) rest e = last_end test c q rest e

last_alone : (test : ℕ → Bool) (b : ℕ) (q : List ℕ) → EndsBy test (b ∷ q) → test (get_or (b ∷ q) (length q) 0) ≡ true
last_alone test b [] e = e
last_alone test b (c ∷ q) e = last_alone test c q e

break_ends : (b : ℕ) → is_break b ≡ true → is_end b ≡ true
break_ends b e = ap (λ (v : Bool). v || b == 62) e

pub lines_ended : (q : List ℕ) → AreWholeLines q → AreEnded q
lines_ended [] l = tt
lines_ended (b ∷ []) l = break_ends b l
lines_ended (b ∷ c ∷ q) l = lines_ended (c ∷ q) l

pub begins_same : (w : List ℕ) (b : ℕ) (q rest : List ℕ) → unbroken_front w ≡ true → AreEnded (b ∷ q) → begins w ((b ∷ q) ++ rest) ≡ begins w (b ∷ q)
begins_same w b q rest u l = by (begins w bs) refl
  where
    bs : List ℕ
    bs = (b ∷ q) ++ rest

    cut : take (suc (length q)) bs ≡ b ∷ q
    cut = take-append_seam (b ∷ q) rest

    by : (t : Bool) → begins w bs ≡ t → t ≡ begins w (b ∷ q)
    by true e =
        let le = word_up_to w bs (length q) e u (last_end is_end b q rest l) in
        sym (begins_front w bs (suc (length q)) (omega (arith, le)) e) ∙ ap (begins w) cut
    by false e = sym (begins_none w bs (suc (length q)) e) ∙ ap (begins w) cut

-- ---- comments

through_same : (w ys rest : List ℕ) → unbroken_front w ≡ true → AreEnded ys → stands w ys ≡ true → through w (ys ++ rest) ≡ through w ys
through_same w [] rest u l h = cc
through_same w (b ∷ ys) rest u l h =
    ap (λ (t : Bool). if t then length w else 1 + through w (ys ++ rest)) (begins_same w b ys rest u l)
    ∙ by (begins w (b ∷ ys)) h (λ f. through_same w ys rest u (ends_behind is_end b ys l) f)
  where
    by : (t : Bool) → (t || stands w ys) ≡ true → (stands w ys ≡ true → through w (ys ++ rest) ≡ through w ys)
        → (if t then length w else 1 + through w (ys ++ rest)) ≡ (if t then length w else 1 + through w ys)
    by true h f = refl
    by false h f = ap (λ (n : ℕ). 1 + n) (f h)

-- a word that stands in lines ends before their end
through_short : (w ys : List ℕ) → lacks is_break w ≡ true → AreWholeLines ys → stands w ys ≡ true → through w ys < length ys
through_short w [] u l h = cc
through_short w (b ∷ ys) u l h = by (begins w (b ∷ ys)) refl h (λ f. through_short w ys u (ends_behind is_break b ys l) f)
  where
    by : (t : Bool) → begins w (b ∷ ys) ≡ t → (t || stands w ys) ≡ true → (stands w ys ≡ true → through w ys < length ys)
        → (if t then length w else 1 + through w ys) < suc (length ys)
    by true e h f = let le = word_before is_break w (b ∷ ys) (length ys) e u (last_alone is_break b ys l) in omega (arith, le)
    by false e h f = let less = f h in omega (arith, less)

found : (w ys : List ℕ) → through w ys < length ys → stands w ys ≡ true
found w [] h = absurd (omega arith)
found w (b ∷ ys) h = by (begins w (b ∷ ys)) h (λ f. found w ys f)
  where
    by : (t : Bool) → (if t then length w else 1 + through w ys) < suc (length ys) → (through w ys < length ys → stands w ys ≡ true) → (t || stands w ys) ≡ true
    by true h f = refl
    by false h f = f (omega arith)

pub comment_same : (b : ℕ) (q rest : List ℕ) → AreEnded (b ∷ q) → ends_comment (b ∷ q) ≡ true → comment_len ((b ∷ q) ++ rest) ≡ comment_len (b ∷ q)
unfolding comment_len
comment_same b q rest l h =
    let bs : List ℕ = (b ∷ q) ++ rest in
    ap (λ (t : Bool). if t then Some (4 + through (codes "-->") (drop 4 bs)) else None) (begins_same (codes "<!--") b q rest refl l)
    ∙ by (begins (codes "<!--") (b ∷ q)) refl h
  where
    inside : List ℕ
    inside = drop 4 (b ∷ q)

    by : (t : Bool) → begins (codes "<!--") (b ∷ q) ≡ t → (if t then stands (codes "-->") inside else true) ≡ true
        → ◌≡◌ {A = Option ℕ} (if t then Some (4 + through (codes "-->") (drop 4 ((b ∷ q) ++ rest))) else None) (if t then Some (4 + through (codes "-->") inside) else None)
    by true e h =
        let long = begins_len (codes "<!--") (b ∷ q) e in
        ap (λ (ys : List ℕ). Some (4 + through (codes "-->") ys)) (drop-append-le 4 (b ∷ q) rest (omega (arith, long)))
        ∙ ap (λ (n : ℕ). Some (4 + n)) (through_same (codes "-->") inside rest refl (ends_dropped is_end 4 (b ∷ q) l) h)
    by false e h = refl

-- a comment that ends in lines ends before their end
pub comment_short : (b : ℕ) (q : List ℕ) (c : ℕ) → AreWholeLines (b ∷ q) → ends_comment (b ∷ q) ≡ true → comment_len (b ∷ q) ≡ Some c → c < length (b ∷ q)
unfolding comment_len
comment_short b q c l h e = by (begins (codes "<!--") (b ∷ q)) h e
  where
    inside : List ℕ
    inside = drop 4 (b ∷ q)

    by : (t : Bool) → (if t then stands (codes "-->") inside else true) ≡ true → (if t then Some (4 + through (codes "-->") inside) else None) ≡ Some c → c < suc (length q)
    by true h e =
        let less = through_short (codes "-->") inside refl (ends_dropped is_break 4 (b ∷ q) l) h in
        let is : 4 + through (codes "-->") inside ≡ c = cc in
        omega (arith, less, is, length-drop 4 (b ∷ q))
    by false h e = cc

-- a comment that takes less than all bytes ends in them
comment_ended : (bs : List ℕ) (c : ℕ) → comment_len bs ≡ Some c → c < length bs → ends_comment bs ≡ true
unfolding comment_len
comment_ended bs c e h = by (begins (codes "<!--") bs) e
  where
    inside : List ℕ
    inside = drop 4 bs

    by : (t : Bool) → (if t then Some (4 + through (codes "-->") inside) else None) ≡ Some c → (if t then stands (codes "-->") inside else true) ≡ true
    by true e =
        let is : 4 + through (codes "-->") inside ≡ c = cc in
        found (codes "-->") inside (omega (arith, is, h, length-drop 4 bs))
    by false e = refl

none_ended : (bs : List ℕ) → comment_len bs ≡ None → ends_comment bs ≡ true
unfolding comment_len
none_ended bs e = by (begins (codes "<!--") bs) e
  where
    by : (t : Bool) → (if t then Some (4 + through (codes "-->") (drop 4 bs)) else None) ≡ None → (if t then stands (codes "-->") (drop 4 bs) else true) ≡ true
    by true e = cc
    by false e = refl

-- ---- comments and blanks

skipped_le : (n : ℕ) (bs : List ℕ) → n ≤ length bs → n ≤ remarks_len n bs
skipped_le zero bs le = omega arith
skipped_le (suc n) [] le = absurd (omega arith)
skipped_le (suc n) (b ∷ bs) le = let more = skipped_le n bs (omega (arith, le)) in omega (arith, more)

comment_within : (b : ℕ) (bs : List ℕ) (c : ℕ) → comment_len (b ∷ bs) ≡ Some c → c - 1 ≤ length bs
comment_within b bs c e =
    let P : Option ℕ → Type 0 = λ o. OptFits (b ∷ bs) o in
    let f = subst P e (comment_fits (b ∷ bs)) in
    omega (arith, f.within)

-- where they end before the end of lines, they are the same whatever follows the lines
pub remarks_same : (k : ℕ) (ys rest : List ℕ) → AreEnded ys → remarks_len k ys < length ys → remarks_len k (ys ++ rest) ≡ remarks_len k ys
remarks_same zero [] rest l h = absurd (omega arith)
remarks_same (suc k) [] rest l h = absurd (omega arith)
remarks_same (suc k) (b ∷ ys) rest l h = ap (λ (n : ℕ). 1 + n) (remarks_same k ys rest (ends_behind is_end b ys l) (omega arith))
remarks_same zero (b ∷ ys) rest l h = by (comment_len (b ∷ ys)) refl h (λ k f. remarks_same k ys rest (ends_behind is_end b ys l) f)
  where
    Rest : Type 0
    Rest = (k : ℕ) → remarks_len k ys < length ys → remarks_len k (ys ++ rest) ≡ remarks_len k ys

    blank_or : (t : Bool) → (if t then 1 + remarks_len 0 ys else 0) < suc (length ys) → Rest
        → (if t then 1 + remarks_len 0 (ys ++ rest) else 0) ≡ (if t then 1 + remarks_len 0 ys else 0)
    blank_or true h f = ap (λ (n : ℕ). 1 + n) (f 0 (omega arith))
    blank_or false h f = refl

    by : (o : Option ℕ) → comment_len (b ∷ ys) ≡ o → remarks_with o b (λ n. remarks_len n ys) < suc (length ys) → Rest
        → remarks_with (comment_len ((b ∷ ys) ++ rest)) b (λ n. remarks_len n (ys ++ rest)) ≡ remarks_with o b (λ n. remarks_len n ys)
    by None e h f =
        ap (λ o. remarks_with o b (λ n. remarks_len n (ys ++ rest))) (comment_same b ys rest l (none_ended (b ∷ ys) e) ∙ e) ∙ blank_or (is_blank b) h f
    by (Some c) e h f =
        let less : remarks_len (c - 1) ys < length ys = omega (arith, h) in
        let past = skipped_le (c - 1) ys (comment_within b ys c e) in
        let ended : ends_comment (b ∷ ys) ≡ true = comment_ended (b ∷ ys) c e (omega (arith, less, past)) in
        ap (λ o. remarks_with o b (λ n. remarks_len n (ys ++ rest))) (comment_same b ys rest l ended ∙ e) ∙ ap (λ (n : ℕ). 1 + n) (f (c - 1) less)
