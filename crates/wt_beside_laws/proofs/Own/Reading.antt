-- A source in which what begins ends is read the same whatever is behind it. Each lexeme in it that is one item ends with a `>` or a `;`, and none begins
-- behind a line break.
use Rattle.std.proofs.Common.{arith, ◌≡◌, inl, inr, ℕ, zero, suc, ◌-◌, ◌<◌, ◌≤◌, ◌==◌, Bool, true, false, Option, Some, None, List, [], ◌∷◌, ◌++◌, length, get_or, take, refl, sym, ap, ◌∙◌, subst, append_assoc, append-nil, length-append}
use Rattle.std.specs.Prelude.{if◌then◌else◌}
use Rattle.std.proofs.lemmas.Bool.{cases_lt, eqb-true}
use Rattle.std.proofs.lemmas.List.{take-append-le, take_all}
use Rattle.std.proofs.Math.Seq.{take-append_seam}
use Rattle.wt_span.specs.declared.form.LexKind.{LexKind}
use Rattle.wt_span.specs.declared.form.LexKind.TheVariants as lex
use Rattle.wt_span.specs.declared.form.ItemForm.TheVariants as form
use Rattle.wt_span.specs.declared.form.Mode.TheVariants.{Page}
use Rattle.wt_span.specs.Bytes.{is_break}
use Rattle.wt_span.specs.Items.{Item, char, whole, items_by}
use Rattle.wt_span.specs.Lexemes.{Word, form_at}
use Rattle.wt_span.specs.Tags.{Tag, opening_tag, is_nowiki}
use Rattle.wt_lex.proofs.AllForms.{form_fits}
use Rattle.wt_expand.specs.PageItems.{raw_form_by, items_of_word, page_items}
use Rattle.wt_part_laws.specs.Lexer.{lexer}
use Rattle.wt_part_laws.specs.Scans.{after_all, skipped_by, AtStarts, IsFrontOf}
use Rattle.wt_part_laws.proofs.LexemeFronts.{lexemes_front}
use Rattle.wt_text_edit_laws.specs.LonePages.{page_chars}
use Rattle.wt_text_edit_laws.specs.TextBetween.{EndsBy, ends_here, HasEnds}
use Rattle.wt_text_edit_laws.proofs.Between.Fronts.{items_from, byte_from, form_from}
use Rattle.wt_text_edit_laws.proofs.Between.LineWords.{either}
use Rattle.wt_text_edit_laws.proofs.Cuts.ItemCuts.{page_from}
use Rattle.wt_text_edit_laws.proofs.Cuts.SignBytes.{is_sign_byte, AreSigns, IsAnyWord, any_word, signs_read}
use Rattle.wt_beside_laws.specs.Commented.{LexemesEnd}
use Rattle.wt_beside_laws.specs.Kept.{is_lexeme_end}
use Rattle.wt_beside_laws.specs.PageSigns.{HasNoBreak}
use Rattle.wt_beside_laws.proofs.Marks.Ends.{LastIs}
use Rattle.wt_beside_laws.proofs.Own.Words.{LexemeEnds, WordEnds, OptWordEnds, word_ends, ends_taken}
use Rattle.wt_beside_laws.proofs.Own.Crossing.{Settled, settled_rest, IsSignKind, EndsBySign, lexeme_ends}

-- ---- items

pub no_breaks : (xs ys : List Item) → HasNoBreak (xs ++ ys) → HasNoBreak xs × HasNoBreak ys
no_breaks [] ys h = (tt, h)
no_breaks (x ∷ xs) ys h = let r = no_breaks xs ys h.1 in ((h.0, r.0), r.1)

pub both_end : (xs ys : List Item) → LexemesEnd xs → LexemesEnd ys → LexemesEnd (xs ++ ys)
both_end [] ys h k = k
both_end (char o b ∷ xs) ys h k = both_end xs ys h k
both_end (whole f o bs ∷ xs) ys h k = (h.0, both_end xs ys h.1 k)

pub ends_left : (xs ys : List Item) → LexemesEnd (xs ++ ys) → LexemesEnd xs
ends_left [] ys h = tt
ends_left (char o b ∷ xs) ys h = ends_left xs ys h
ends_left (whole f o bs ∷ xs) ys h = (h.0, ends_left xs ys h.1)

chars_end : (bs : List ℕ) → LexemesEnd (page_chars bs)
chars_end [] = tt
chars_end (b ∷ bs) = chars_end bs

raw_items : (o : Option Tag) (bs : List ℕ) → EndsBy is_lexeme_end bs → LexemesEnd (items_by (raw_form_by o) None bs)
raw_items None bs e = (e, tt)
raw_items (Some t) bs e = by (is_nowiki t.name)
  where
    by : (v : Bool) → LexemesEnd (items_by (if v then form.Nowiki else form.Extension) None bs)
    by true = (e, tt)
    by false = (e, tt)

taken_end : (bs : List ℕ) (j : ℕ) → LexemeEnds bs (suc j) → EndsBy is_lexeme_end (take (suc j) bs)
taken_end bs j e =
    let z : suc j - 1 ≡ j = omega arith in
    ends_taken is_lexeme_end j bs (omega (arith, e.within)) (ap (λ (i : ℕ). is_lexeme_end (get_or bs i 0)) (sym z) ∙ e.last)

word_items : (kind : LexKind) (bs : List ℕ) (j : ℕ) → WordEnds kind bs (suc j) → LexemesEnd (items_of_word kind (take (suc j) bs))
word_items lex.Chars bs j h = absurd h
word_items lex.CommentLine bs j h = absurd h
word_items lex.Comment bs j h = (taken_end bs j h, tt)
word_items lex.Raw bs j h = raw_items (opening_tag (take (suc j) bs)) (take (suc j) bs) (taken_end bs j h)
word_items lex.Include bs j h = (taken_end bs j h, tt)
word_items lex.Hidden bs j h = (taken_end bs j h, tt)
word_items (lex.Entity c) bs j h = (taken_end bs j h, tt)
word_items lex.Opens bs j h = chars_end (take (suc j) bs)
word_items lex.Closes bs j h = chars_end (take (suc j) bs)
word_items lex.LinkOpen bs j h = chars_end (take (suc j) bs)
word_items lex.LinkClose bs j h = chars_end (take (suc j) bs)
word_items lex.Pipe bs j h = chars_end (take (suc j) bs)
word_items lex.Equals bs j h = chars_end (take (suc j) bs)

-- ---- its last byte is no line break

end_break : (b : ℕ) → is_lexeme_end b ≡ true → is_break b ≡ false
end_break b e = elim (either (b == 62) (b == 59) e) [
  | inl i ↦ ap is_break (eqb-true b 62 i)
  | inr i ↦ ap is_break (eqb-true b 59 i)
]

pub lexeme_break : (bs : List ℕ) (j : ℕ) → LexemeEnds bs (suc j) → is_break (get_or bs j 0) ≡ false
lexeme_break bs j e =
    let z : suc j - 1 ≡ j = omega arith in
    end_break (get_or bs j 0) (ap (λ (i : ℕ). is_lexeme_end (get_or bs i 0)) (sym z) ∙ e.last)

sign_break : (b : ℕ) → is_sign_byte b ≡ true → is_break b ≡ false
sign_break b e = by (is_break b) refl
  where
    by : (v : Bool) → is_break b ≡ v → v ≡ false
    by true i = let no : is_sign_byte 10 ≡ true = subst (λ (k : ℕ). is_sign_byte k ≡ true) (eqb-true b 10 i) e in absurd (cc)
    by false i = refl

pub signs_break : (j : ℕ) (bs : List ℕ) → j < length bs → AreSigns (take (suc j) bs) → is_break (get_or bs j 0) ≡ false
signs_break j [] lt s = absurd (omega (arith, lt))
signs_break zero (b ∷ []) lt s = sign_break b s.0
signs_break zero (b ∷ c ∷ cs) lt s = sign_break b s.0
signs_break (suc j) (b ∷ []) lt s = absurd (omega (arith, lt))
signs_break (suc j) (b ∷ c ∷ cs) lt s = signs_break j (c ∷ cs) (omega (arith, lt)) s.1

word_break : (kind : LexKind) (bs : List ℕ) (j : ℕ) → j < length bs → WordEnds kind bs (suc j) → IsAnyWord kind (take (suc j) bs) → is_break (get_or bs j 0) ≡ false
word_break lex.Chars bs j lt h w = absurd h
word_break lex.CommentLine bs j lt h w = absurd h
word_break lex.Comment bs j lt h w = lexeme_break bs j h
word_break lex.Raw bs j lt h w = lexeme_break bs j h
word_break lex.Include bs j lt h w = lexeme_break bs j h
word_break lex.Hidden bs j lt h w = lexeme_break bs j h
word_break (lex.Entity c) bs j lt h w = lexeme_break bs j h
word_break lex.Opens bs j lt h w = signs_break j bs lt w
word_break lex.Closes bs j lt h w = signs_break j bs lt w
word_break lex.LinkOpen bs j lt h w = signs_break j bs lt w
word_break lex.LinkClose bs j lt h w = signs_break j bs lt w
word_break lex.Pipe bs j lt h w = signs_break j bs lt w
word_break lex.Equals bs j lt h w = signs_break j bs lt w

-- ---- from a place on

abbrev pub AllEnd : Bool → ℕ → List ℕ → Type 0
AllEnd a n q = AtStarts (lexer Page) (λ v here. ends_here here ≡ true) a n q

-- none of these begins behind a line break
abbrev pub NoneAfter : Bool → ℕ → List ℕ → Type 0
NoneAfter a n q = AtStarts (lexer Page) (λ v here. v ≡ false) a n q

-- the last of so many bytes is no line break; of none, none stands before
abbrev pub Flag : Bool → ℕ → List ℕ → Type 0
Flag a zero q = a ≡ false
Flag a (suc n) q = is_break (get_or q n 0) ≡ false

pub flag_behind : (b n : ℕ) (q : List ℕ) → is_break (get_or (b ∷ q) n 0) ≡ false → Flag (is_break b) n q
flag_behind b zero q e = e
flag_behind b (suc n) q e = e

pub record Steps (a : Bool) (n : ℕ) (q : List ℕ) : Type 0 where
  pub ends : LexemesEnd (items_from a n q)
  pub starts : NoneAfter a n q

abbrev Goes : Bool → List ℕ → Type 0
Goes v q = (n : ℕ) → AllEnd v n q → HasNoBreak (items_from v n q) → Flag v n q → Steps v n q

starts_by : (a : Bool) (b : ℕ) (q : List ℕ) (o : Option Word) (k : ℕ) → form_at Page a (b ∷ q) ≡ o → skipped_by (lexer Page) o ≡ k → a ≡ false
    → NoneAfter (is_break b) k q → NoneAfter a 0 (b ∷ q)
starts_by a b q o k e size f h = (
  f,
  subst (λ (n : ℕ). NoneAfter (is_break b) n q) (sym (ap (skipped_by (lexer Page)) e ∙ size)) h,
)

step_by : (a : Bool) (b : ℕ) (q : List ℕ) (o : Option Word) → form_at Page a (b ∷ q) ≡ o → a ≡ false → OptWordEnds (b ∷ q) o
    → AllEnd (is_break b) (skipped_by (lexer Page) o) q → HasNoBreak (items_from a 0 (b ∷ q)) → Goes (is_break b) q → Steps a 0 (b ∷ q)
step_by a b q None e f w h n go =
    let own : HasNoBreak (char None b ∷ items_from (is_break b) 0 q) = subst HasNoBreak (byte_from a b q e) n in
    let r = go 0 h own.1 own.0 in
    record { ends = subst LexemesEnd (sym (byte_from a b q e)) r.ends; starts = starts_by a b q None 0 e refl f r.starts }
step_by a b q (Some (kind, zero)) e f w h n go = let fits = form_fits Page a (b ∷ q) (kind, zero) e in absurd (omega (arith, fits.some))
step_by a b q (Some (kind, suc j)) e f w h n go =
    let fits = form_fits Page a (b ∷ q) (kind, suc j) e in
    let z : suc j - 1 ≡ j = omega arith in
    let word : List ℕ = b ∷ take j q in
    let is = form_from a b q kind j e in
    let own = no_breaks (items_of_word kind word) (items_from (is_break b) j q) (subst HasNoBreak is n) in
    let last : is_break (get_or (b ∷ q) j 0) ≡ false = word_break kind (b ∷ q) j (omega (arith, fits.within)) w (any_word a (b ∷ q) kind (suc j) e) in
    let r = go j (subst (λ (k : ℕ). AllEnd (is_break b) k q) z h) own.1 (flag_behind b j q last) in
    record {
      ends = subst LexemesEnd (sym is) (both_end (items_of_word kind word) (items_from (is_break b) j q) (word_items kind (b ∷ q) j w) r.ends);
      starts = starts_by a b q (Some (kind, suc j)) j e z f r.starts;
    }

at_false : (a : Bool) (bs : List ℕ) → a ≡ false → ends_here bs ≡ true → OptWordEnds bs (form_at Page a bs)
at_false a bs f h = subst (λ (v : Bool). OptWordEnds bs (form_at Page v bs)) (sym f) (word_ends bs h)

pub steps : (a : Bool) (n : ℕ) (q : List ℕ) → AllEnd a n q → HasNoBreak (items_from a n q) → Flag a n q → Steps a n q
steps a zero [] h b f = record { ends = tt; starts = refl }
steps a (suc n) [] h b f = absurd (omega (arith, h))
steps a (suc n) (x ∷ q) h b f = let r = steps (is_break x) n q h b (flag_behind x n q f) in record { ends = r.ends; starts = r.starts }
steps a zero (x ∷ q) h b f =
    step_by a x q (form_at Page a (x ∷ q)) refl f (at_false a (x ∷ q) f h.0) h.1 b (λ n. steps (is_break x) n q)

pub source_steps : (q : List ℕ) → HasEnds q → HasNoBreak (page_items q) → Steps false 0 q
source_steps q h n = steps false 0 q h (subst HasNoBreak (page_from q) n) refl

-- ---- before what is read behind it

byte_front : (a : Bool) (b : ℕ) (q rest : List ℕ) → form_at Page a (b ∷ (q ++ rest)) ≡ None → form_at Page a (b ∷ q) ≡ None
byte_front a b q rest f =
    let P : Option Word → Type 0 = λ o. IsFrontOf (lexer Page) (b ∷ q) o (form_at Page a (b ∷ q)) in
    subst P f (lexemes_front Page a (b ∷ q) rest)

word_front : (a : Bool) (b : ℕ) (q rest : List ℕ) (kind : LexKind) (j : ℕ) → form_at Page a (b ∷ (q ++ rest)) ≡ Some (kind, suc j) → j ≤ length q
    → form_at Page a (b ∷ q) ≡ Some (kind, suc j)
word_front a b q rest kind j f le =
    let P : Option Word → Type 0 = λ o. IsFrontOf (lexer Page) (b ∷ q) o (form_at Page a (b ∷ q)) in
    let h = subst P f (lexemes_front Page a (b ∷ q) rest) in
    h (omega (arith, le))

pub skipped : (a : Bool) (q rest : List ℕ) → items_from a (length q) (q ++ rest) ≡ items_from (after_all (lexer Page) a q) 0 rest
skipped a [] rest = refl
skipped a (b ∷ q) rest = skipped (is_break b) q rest

nothing_left : (a : Bool) (q : List ℕ) → items_from a (length q) q ≡ []
nothing_left a [] = refl
nothing_left a (b ∷ q) = nothing_left (is_break b) q

signs_fewer : (m n : ℕ) (bs : List ℕ) → m ≤ n → AreSigns (take n bs) → AreSigns (take m bs)
signs_fewer zero n [] le h = tt
signs_fewer zero n (b ∷ bs) le h = tt
signs_fewer (suc m) zero bs le h = absurd (omega (arith, le))
signs_fewer (suc m) (suc n) [] le h = tt
signs_fewer (suc m) (suc n) (b ∷ bs) le h = (h.0, signs_fewer m n bs (omega (arith, le)) h.1)

kind_signs : (kind : LexKind) (bs : List ℕ) → IsSignKind kind → IsAnyWord kind bs → AreSigns bs
kind_signs lex.Chars bs k w = absurd k
kind_signs lex.CommentLine bs k w = absurd k
kind_signs lex.Comment bs k w = absurd k
kind_signs lex.Raw bs k w = absurd k
kind_signs lex.Include bs k w = absurd k
kind_signs lex.Hidden bs k w = absurd k
kind_signs (lex.Entity c) bs k w = absurd k
kind_signs lex.Opens bs k w = w
kind_signs lex.Closes bs k w = w
kind_signs lex.LinkOpen bs k w = w
kind_signs lex.LinkClose bs k w = w
kind_signs lex.Pipe bs k w = w
kind_signs lex.Equals bs k w = w

-- what is read of a source, and what is read behind it
record Joined (a : Bool) (n : ℕ) (q rest : List ℕ) : Type 0 where
  items : items_from a n (q ++ rest) ≡ items_from a n q ++ items_from (after_all (lexer Page) a q) 0 rest

-- a sign goes on over its end: its bytes are characters on both sides
joined_signs : (a : Bool) (b : ℕ) (q rest : List ℕ) (n : ℕ) → length (b ∷ q) ≤ n → AreSigns (take n ((b ∷ q) ++ rest)) → Joined a 0 (b ∷ q) rest
joined_signs a b q rest n le s =
    let own : List ℕ = b ∷ q in
    let long = length-append own rest in
    let front : take (length own) (own ++ rest) ≡ own = take-append_seam own rest in
    let short : AreSigns (take (length own) (own ++ rest)) = signs_fewer (length own) n (own ++ rest) le s in
    let signs : AreSigns own = subst AreSigns front short in
    let every : take (length own) own ≡ own = take_all (length own) own (omega arith) in
    let alone : items_from a 0 own ≡ page_chars own =
    signs_read own a (length own) (omega arith) (subst AreSigns (sym every) signs)
    ∙ ap (λ (bs : List ℕ). page_chars bs ++ items_from a (length own) own) every
    ∙ ap (λ (xs : List Item). page_chars own ++ xs) (nothing_left a own)
    ∙ append-nil (page_chars own) in
    record {
      items = signs_read (own ++ rest) a (length own) (omega (arith, long)) short
          ∙ ap (λ (bs : List ℕ). page_chars bs ++ items_from a (length own) (own ++ rest)) front
          ∙ ap (λ (xs : List Item). page_chars own ++ xs) (skipped a own rest)
          ∙ ap (λ (xs : List Item). xs ++ items_from (after_all (lexer Page) a own) 0 rest) (sym alone);
    }

joined_byte : (a : Bool) (b : ℕ) (q rest : List ℕ) → form_at Page a (b ∷ (q ++ rest)) ≡ None → Joined (is_break b) 0 q rest → Joined a 0 (b ∷ q) rest
joined_byte a b q rest e j = record {
  items = byte_from a b (q ++ rest) e ∙ ap (λ (ys : List Item). char None b ∷ ys) j.items
      ∙ sym (ap (λ (ys : List Item). ys ++ items_from (after_all (lexer Page) (is_break b) q) 0 rest) (byte_from a b q (byte_front a b q rest e)));
}

joined_form : (a : Bool) (b : ℕ) (q rest : List ℕ) (kind : LexKind) (k : ℕ) → form_at Page a (b ∷ (q ++ rest)) ≡ Some (kind, suc k) → k ≤ length q
    → Joined (is_break b) k q rest → Joined a 0 (b ∷ q) rest
joined_form a b q rest kind k e le j =
    let own : List Item = items_of_word kind (b ∷ take k q) in
    let xs : List Item = items_from (after_all (lexer Page) (is_break b) q) 0 rest in
    record {
      items = form_from a b (q ++ rest) kind k e
          ∙ ap (λ (ys : List ℕ). items_of_word kind (b ∷ ys) ++ items_from (is_break b) k (q ++ rest)) (take-append-le k q rest le)
          ∙ ap (λ (ys : List Item). own ++ ys) j.items
          ∙ sym (append_assoc own (items_from (is_break b) k q) xs)
          ∙ sym (ap (λ (ys : List Item). ys ++ xs) (form_from a b q kind k (word_front a b q rest kind k e le)));
    }

abbrev Joins : List ℕ → Bool → List ℕ → Type 0
Joins rest v q = (n : ℕ) → AllEnd v n q → NoneAfter v n q → Joined v n q rest

joined_by : (a : Bool) (b : ℕ) (q rest : List ℕ) (o : Option Word) → form_at Page a (b ∷ (q ++ rest)) ≡ o → EndsBySign (length q) o
    → AllEnd a 0 (b ∷ q) → NoneAfter a 0 (b ∷ q) → Joins rest (is_break b) q → Joined a 0 (b ∷ q) rest
joined_by a b q rest None e s h f go =
    let alone = byte_front a b q rest e in
    let size : skipped_by (lexer Page) (form_at Page a (b ∷ q)) ≡ 0 = ap (skipped_by (lexer Page)) alone in
    joined_byte a b q rest e (go 0 (subst (λ (k : ℕ). AllEnd (is_break b) k q) size h.1) (subst (λ (k : ℕ). NoneAfter (is_break b) k q) size f.1))
joined_by a b q rest (Some (kind, zero)) e s h f go = let fits = form_fits Page a (b ∷ (q ++ rest)) (kind, zero) e in absurd (omega (arith, fits.some))
joined_by a b q rest (Some (kind, suc j)) e s h f go = elim (cases_lt (length q) j) [
  | inl over ↦ elim s [
    | inl le ↦ absurd (omega (arith, le, over))
    | inr sign ↦
        joined_signs a b q rest (suc j) (omega (arith, over))
        (kind_signs kind (take (suc j) (b ∷ (q ++ rest))) sign (any_word a (b ∷ (q ++ rest)) kind (suc j) e))
  ]
  | inr le ↦
      let z : suc j - 1 ≡ j = omega arith in
      let alone = word_front a b q rest kind j e le in
      let size : skipped_by (lexer Page) (form_at Page a (b ∷ q)) ≡ j = ap (skipped_by (lexer Page)) alone ∙ z in
      joined_form a b q rest kind j e le
      (go j (subst (λ (k : ℕ). AllEnd (is_break b) k q) size h.1) (subst (λ (k : ℕ). NoneAfter (is_break b) k q) size f.1))
]

joined : (rest : List ℕ) (a : Bool) (n : ℕ) (q : List ℕ) → Settled rest q → AllEnd a n q → NoneAfter a n q → Joined a n q rest
joined rest a zero [] s h f = record { items = refl }
joined rest a (suc n) [] s h f = absurd (omega (arith, h))
joined rest a (suc n) (b ∷ q) s h f = let j = joined rest (is_break b) n q (settled_rest b q rest s) h f in record { items = j.items }
joined rest a zero (b ∷ q) s h f =
    joined_by a b q rest (form_at Page a (b ∷ (q ++ rest))) refl
    (subst (λ (v : Bool). EndsBySign (length q) (form_at Page v (b ∷ (q ++ rest)))) (sym f.0) (lexeme_ends b q rest s h.0))
    h f (λ n. joined rest (is_break b) n q (settled_rest b q rest s))

-- ---- a source

last_flag_of : (v : Bool) (b : ℕ) (q : List ℕ) → LastIs false (b ∷ q) → after_all (lexer Page) v (b ∷ q) ≡ false
last_flag_of v b [] h = h
last_flag_of v b (c ∷ q) h = last_flag_of (is_break b) c q h

last_flag : (q : List ℕ) → LastIs false q → after_all (lexer Page) false q ≡ false
last_flag [] h = refl
last_flag (b ∷ q) h = last_flag_of false b q h

pub source_reads : (q rest : List ℕ) → Settled rest q → HasEnds q → HasNoBreak (page_items q) → LastIs false q
    → page_items (q ++ rest) ≡ page_items q ++ page_items rest
source_reads q rest s h n l =
    let j = joined rest false 0 q s h (source_steps q h n).starts in
    page_from (q ++ rest) ∙ j.items
    ∙ ap (λ (v : Bool). items_from false 0 q ++ items_from v 0 rest) (last_flag q l)
    ∙ ap (λ (xs : List Item). xs ++ items_from false 0 rest) (sym (page_from q))
    ∙ ap (λ (xs : List Item). page_items q ++ xs) (sym (page_from rest))
