-- Comments and blanks at a line's start, in lines in which what begins ends: they end before the end of the lines. In what ends with a comment
-- or tag they may go on in what follows it.
use Rattle.std.proofs.Common.{arith, ◌≡◌, ◌⊎◌, inl, inr, ℕ, zero, suc, ◌+◌, ◌-◌, ◌<◌, ◌==◌, Bool, true, false, Option, Some, None, List, [], ◌∷◌, ◌++◌, ◌≤◌, length, nat_lt, refl, sym, ap, ◌∙◌, subst}
use Rattle.std.specs.Prelude.{◌&&◌, if◌then◌else◌, slice_index}
use Rattle.std.specs.Option.{option_or}
use Rattle.std.proofs.lemmas.Bool.{eqb-true}
use Rattle.wt_span.specs.declared.form.Mode.TheVariants.{Page}
use Rattle.wt_span.specs.declared.form.LexKind.TheVariants.{CommentLine, Comment, Raw}
use Rattle.wt_span.specs.Bytes.{is_blank, is_break, blank_len}
use Rattle.wt_span.specs.Comments.{comment_len, comment_line_len, remarks_len, remarks_with}
use Rattle.wt_span.specs.Tags.{opening_tag, raw_len, include_at}
use Rattle.wt_span.specs.Entities.{entity_at}
use Rattle.wt_span.specs.Lexemes.{Word, as_word, entity_word, sign_word, form_at}
use Rattle.wt_lex.proofs.Begins.{and_left, and_right, is_within, byte_is}
use Rattle.wt_lex.proofs.Forms.{OptFits, comment_fits}
use Rattle.wt_typed_blocks.proofs.Forms.{other_byte}
use Rattle.wt_part_laws.specs.Lexer.{lexer}
use Rattle.wt_part_laws.specs.Scans.{skipped_by, AtStarts}
use Rattle.wt_text_edit_laws.specs.TextBetween.{is_end, AreWholeLines, AreEnded, ends_comment, ends_tag_before, ends_before}
use Rattle.wt_text_edit_laws.proofs.Between.LineWords.{either}
use Rattle.wt_text_edit_laws.proofs.Between.LineComments.{ends_behind, comment_same, comment_short}

-- a comment line ends in the text, or none begins there
line_or_none : (a : Bool) (bs : List ℕ) → (remarks_len 0 bs < length bs) ⊎ (form_at Page a bs ≡ form_at Page false bs)
unfolding form_at comment_line_len
line_or_none false bs = inr refl
line_or_none true bs = by (nat_lt (blank_len bs) n && is_break (slice_index bs n)) refl
  where
    n : ℕ
    n = remarks_len 0 bs

    other : Option Word
    other = option_or (as_word Comment (comment_len bs)) (option_or (as_word Raw (raw_len bs))
        (option_or (include_at Page bs) (option_or (entity_word (entity_at bs)) (sign_word bs))))

    by : (t : Bool) → (nat_lt (blank_len bs) n && is_break (slice_index bs n)) ≡ t
        → (n < length bs) ⊎ (option_or (as_word CommentLine (if t then Some (n + 1) else None)) other ≡ other)
    by true e = inl (is_within bs n 10 (byte_is bs n 10 (and_right (nat_lt (blank_len bs) n) (is_break (slice_index bs n)) e)) (omega arith))
    by false e = inr refl

pub blank_form : (b : ℕ) (bs : List ℕ) → is_blank b ≡ true → form_at Page false (b ∷ bs) ≡ None
blank_form b bs e =
    let P : ℕ → Type 0 = λ (x : ℕ). form_at Page false (x ∷ bs) ≡ None in
    elim (either (b == 32) (b == 9) e) [
      | inl f ↦ subst P (sym (eqb-true b 32 f)) (other_byte Page 32 bs refl)
      | inr f ↦ subst P (sym (eqb-true b 9 f)) (other_byte Page 9 bs refl)
    ]

pub comment_form : (b c : ℕ) (bs : List ℕ) → comment_len (b ∷ bs) ≡ Some c → form_at Page false (b ∷ bs) ≡ Some (Comment, c)
unfolding form_at
comment_form b c bs e =
    ap (λ (o : Option ℕ). option_or (as_word Comment o) (option_or (as_word Raw (raw_len (b ∷ bs)))
    (option_or (include_at Page (b ∷ bs)) (option_or (entity_word (entity_at (b ∷ bs))) (sign_word (b ∷ bs)))))) e

-- what begins where a lexeme may begin ends here, or nothing closes it, before this rest
abbrev pub EndsHere : List ℕ → Bool → List ℕ → Type 0
EndsHere rest after here = ends_before rest here ≡ true

abbrev pub AllEnd : List ℕ → Bool → ℕ → List ℕ → Type 0
AllEnd rest a n q = AtStarts (lexer Page) (EndsHere rest) a n q

comment_ends : (rest bs : List ℕ) → ends_before rest bs ≡ true → ends_comment bs ≡ true
comment_ends rest bs h = and_left (ends_comment bs) (ends_tag_before rest (opening_tag bs) bs) h

more_lines : (b : ℕ) (ys : List ℕ) → is_blank b ≡ true → AreWholeLines (b ∷ ys) → 0 < length ys
more_lines b [] e l = let is : b ≡ 10 = eqb-true b 10 l in let z : is_blank 10 ≡ true = ap is_blank (sym is) ∙ e in cc
more_lines b (c ∷ ys) e l = omega arith

pub comment_some : (b : ℕ) (bs : List ℕ) (c : ℕ) → comment_len (b ∷ bs) ≡ Some c → 0 < c
comment_some b bs c e =
    let P : Option ℕ → Type 0 = λ o. OptFits (b ∷ bs) o in
    let f = subst P e (comment_fits (b ∷ bs)) in
    f.some

-- the same of what is behind the lexeme that begins here
abbrev RestShort : Bool → ℕ → List ℕ → Type 0
RestShort a b ys = (k : ℕ) → skipped_by (lexer Page) (form_at Page a (b ∷ ys)) ≡ k → k < length ys → remarks_len k ys < length ys

blanks_short : (a : Bool) (b : ℕ) (ys : List ℕ) (t : Bool) → is_blank b ≡ t → AreWholeLines (b ∷ ys) → form_at Page a (b ∷ ys) ≡ form_at Page false (b ∷ ys)
    → RestShort a b ys → (if t then 1 + remarks_len 0 ys else 0) < suc (length ys)
blanks_short a b ys true e l same go =
    let less : remarks_len 0 ys < length ys = go 0 (ap (skipped_by (lexer Page)) (same ∙ blank_form b ys e)) (more_lines b ys e l) in
    omega (arith, less)
blanks_short a b ys false e l same go = omega arith

remark_short : (a : Bool) (b : ℕ) (ys : List ℕ) (o : Option ℕ) → comment_len (b ∷ ys) ≡ o → AreWholeLines (b ∷ ys) → ends_comment (b ∷ ys) ≡ true
    → form_at Page a (b ∷ ys) ≡ form_at Page false (b ∷ ys) → RestShort a b ys → remarks_with o b (λ n. remarks_len n ys) < suc (length ys)
remark_short a b ys None e l h same go = blanks_short a b ys (is_blank b) refl l same go
remark_short a b ys (Some c) e l h same go =
    let short = comment_short b ys c l h e in
    let some = comment_some b ys c e in
    let less : remarks_len (c - 1) ys < length ys =
    go (c - 1) (ap (skipped_by (lexer Page)) (same ∙ comment_form b c ys e)) (omega (arith, short, some)) in
    omega (arith, less)

-- comments and blanks of such lines end before their end
pub remarks_short : (rest : List ℕ) (a : Bool) (n : ℕ) (ys : List ℕ) → AreWholeLines ys → n < length ys → AllEnd rest a n ys → remarks_len n ys < length ys
remarks_short rest a n [] l lt h = absurd (omega (arith, lt))
remarks_short rest a (suc n) (b ∷ ys) l lt h =
    let less = remarks_short rest (is_break b) n ys (ends_behind is_break b ys l) (omega (arith, lt)) h in
    omega (arith, less)
remarks_short rest a zero (b ∷ ys) l lt h = elim (line_or_none a (b ∷ ys)) [
  | inl less ↦ less
  | inr same ↦
      remark_short a b ys (comment_len (b ∷ ys)) refl l (comment_ends rest (b ∷ ys) h.0) same
      (λ k is less. remarks_short rest (is_break b) k ys (ends_behind is_break b ys l) less (subst (λ (i : ℕ). AllEnd rest (is_break b) i ys) is h.1))
]

-- ---- what ends with a comment or tag

abbrev RestThrough : Bool → ℕ → List ℕ → List ℕ → Type 0
RestThrough a b ys rest = (k : ℕ) → skipped_by (lexer Page) (form_at Page a (b ∷ ys)) ≡ k → length ys ≤ remarks_len k ys
    → remarks_len k (ys ++ rest) ≡ length ys + remarks_len 0 rest

blanks_through : (a : Bool) (b : ℕ) (ys rest : List ℕ) (t : Bool) → is_blank b ≡ t → form_at Page a (b ∷ ys) ≡ form_at Page false (b ∷ ys)
    → suc (length ys) ≤ (if t then 1 + remarks_len 0 ys else 0) → RestThrough a b ys rest
    → (if t then 1 + remarks_len 0 (ys ++ rest) else 0) ≡ suc (length ys) + remarks_len 0 rest
blanks_through a b ys rest true e same le go =
    let is = go 0 (ap (skipped_by (lexer Page)) (same ∙ blank_form b ys e)) (omega (arith, le)) in
    omega (arith, is)
blanks_through a b ys rest false e same le go = absurd (omega (arith, le))

remark_through : (a : Bool) (b : ℕ) (ys rest : List ℕ) (o : Option ℕ) → comment_len (b ∷ ys) ≡ o → AreEnded (b ∷ ys) → ends_comment (b ∷ ys) ≡ true
    → form_at Page a (b ∷ ys) ≡ form_at Page false (b ∷ ys) → suc (length ys) ≤ remarks_with o b (λ n. remarks_len n ys) → RestThrough a b ys rest
    → remarks_with o b (λ n. remarks_len n (ys ++ rest)) ≡ suc (length ys) + remarks_len 0 rest
remark_through a b ys rest None e l h same le go = blanks_through a b ys rest (is_blank b) refl same le go
remark_through a b ys rest (Some c) e l h same le go =
    let is = go (c - 1) (ap (skipped_by (lexer Page)) (same ∙ comment_form b c ys e)) (omega (arith, le)) in
    omega (arith, is)

-- where they go up to the end, they go on with those that begin what follows
pub remarks_through : (rest : List ℕ) (a : Bool) (n : ℕ) (ys : List ℕ) → AreEnded ys → AllEnd rest a n ys → length ys ≤ remarks_len n ys
    → remarks_len n (ys ++ rest) ≡ length ys + remarks_len 0 rest
remarks_through rest a zero [] l h le = omega arith
remarks_through rest a (suc n) [] l h le = absurd (omega (arith, h))
remarks_through rest a (suc n) (b ∷ ys) l h le =
    let is = remarks_through rest (is_break b) n ys (ends_behind is_end b ys l) h (omega (arith, le)) in
    omega (arith, is)
remarks_through rest a zero (b ∷ ys) l h le = elim (line_or_none a (b ∷ ys)) [
  | inl less ↦ absurd (omega (arith, less, le))
  | inr same ↦
      let ended : ends_comment (b ∷ ys) ≡ true = comment_ends rest (b ∷ ys) h.0 in
      ap (λ o. remarks_with o b (λ n. remarks_len n (ys ++ rest))) (comment_same b ys rest l ended)
      ∙ remark_through a b ys rest (comment_len (b ∷ ys)) refl l ended same le
      (λ k is so. remarks_through rest (is_break b) k ys (ends_behind is_end b ys l) (subst (λ (i : ℕ). AllEnd rest (is_break b) i ys) is h.1) so)
]
