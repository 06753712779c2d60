-- What is read in a line, where no line break stands before it: there a comment is a comment, and no comment line.
use Rattle.std.proofs.Common.{arith, ◌≡◌, ◌⊎◌, ℕ, suc, ◌≤◌, ◌==◌, Bool, true, false, Some, None, List, [], ◌∷◌, ◌++◌, length, refl, sym, ap, ◌∙◌, subst, inl, inr, append_assoc, All}
use Rattle.std.specs.Prelude.{◌||◌, codes, encode_utf8}
use Rattle.std.proofs.Math.Seq.{take-append_seam}
use Rattle.std.proofs.lemmas.Bool.{cases_lt}
use Rattle.std.proofs.lemmas.Bool.Decides.{nat_tests}
use Rattle.std.proofs.lemmas.List.Elements.{All-head, All-tail}
use Rattle.std.proofs.lemmas.Str.{encode_ascii}
use Rattle.wt_span.specs.declared.form.Mode.TheVariants.{Page}
use Rattle.wt_span.specs.declared.form.LexKind.{LexKind}
use Rattle.wt_span.specs.declared.form.LexKind.TheVariants.{CommentLine, Comment, Raw, Entity, Pipe, Equals}
use Rattle.wt_span.specs.declared.form.ItemForm.TheVariants as form
use Rattle.wt_span.specs.Bytes.{is_break}
use Rattle.wt_span.specs.Comments.{comment_len, comment_line_len}
use Rattle.wt_span.specs.Tags.{opening_tag, tag_after}
use Rattle.wt_span.specs.Items.{Item, char, whole}
use Rattle.wt_span.specs.Lexemes.{form_at}
use Rattle.wt_names.proofs.Ascii.{IsWide, encode_wide}
use Rattle.wt_guards.specs.Content.{ContentSign, letter, thing}
use Rattle.wt_guards.specs.Letters.{is_bracket, is_escaped, reference, written_by}
use Rattle.wt_guards.specs.Guards.{Setting, nowiki, nowiki_if}
use Rattle.wt_guards.proofs.Escapes.{is_escapable, escapable, each_escapable}
use Rattle.wt_expand.specs.PageItems.{items_of_word, page_items}
use Rattle.wt_typed_blocks.proofs.Forms.{other_byte, equals_byte, IsTame, less_byte, and_byte, nowiki_form, reference_form}
use Rattle.wt_typed_blocks.proofs.TextReads.{bracket_escaped, not_bracket, equal_or}
use Rattle.wt_text_edit_laws.specs.LonePages.{page_chars}
use Rattle.wt_text_edit_laws.specs.ReadContents.{BeginsUnjoined}
use Rattle.wt_text_edit_laws.specs.TextBetween.{EndsBy}
use Rattle.wt_text_edit_laws.proofs.Between.Fronts.{ReadsAfter, first_from, byte_from, form_from, items_from, page_read, alone_reads}
use Rattle.wt_text_edit_laws.proofs.Texts.TypedItems.{references, wide_form, wide_tame, tame_if, IsMild, wide_mild, mild_if, no_form_byte}
use Rattle.wt_beside_laws.specs.Commented.{IsComment, IsCommentLine, IsReadInLine}
use Rattle.wt_beside_laws.specs.Content.{guard_items, letter_items}
use Rattle.wt_beside_laws.specs.Kept.{Part, characters, sign, lexeme, is_firm, AreFirm, is_lexeme_end, IsPart, AreParts, part_source, parts_source, part_items, parts_items, IsKept}
use Rattle.wt_beside_laws.specs.PageSigns.{HasNoBreak}
use Rattle.wt_beside_laws.specs.References.{ReferencesEnd}
use Rattle.wt_beside_laws.proofs.Contents.{further, begin_letter}
use Rattle.wt_beside_laws.proofs.Firm.{ReadsAs, alone_as, parts_read, open_items, close_items, pipe_byte, other_form}
use Rattle.std.specs.Fmt.{digits}

-- ---- in a line

abbrev pub InLine : List ℕ → List Item → Type 0
InLine bs xs = ReadsAfter false bs xs

abbrev pub InLineAs : List ℕ → List Item → Type 0
InLineAs q own = (rest : List ℕ) (xs : List Item) → InLine rest xs → InLine (q ++ rest) (own ++ xs)

pub both_in : (q p : List ℕ) (xs ys : List Item) → InLineAs q xs → InLineAs p ys → InLineAs (q ++ p) (xs ++ ys)
both_in q p xs ys f g rest zs r =
    subst (λ bs. InLine bs ((xs ++ ys) ++ zs)) (sym (append_assoc q p rest))
    (subst (λ us. InLine (q ++ (p ++ rest)) us) (sym (append_assoc xs ys zs)) (f (p ++ rest) (ys ++ zs) (g rest zs r)))

byte_in : (b : ℕ) (bs : List ℕ) (xs : List Item) → (b == 10) ≡ false → form_at Page false (b ∷ bs) ≡ None → InLine bs xs → InLine (b ∷ bs) (char None b ∷ xs)
byte_in b bs xs n f r = record {
  items = sym (first_from false (b ∷ bs)) ∙ byte_from false b bs f ∙ ap (λ (v : Bool). char None b ∷ items_from v 0 bs) n
      ∙ ap (λ ys. char None b ∷ ys) (first_from false bs ∙ r.items);
}

-- whether a line break is last; of no bytes, whether one comes before them
abbrev last_flag : Bool → List ℕ → Bool
last_flag v [] = v
last_flag v (b ∷ q) = last_flag (is_break b) q

skipped : (v w : Bool) (q rest : List ℕ) (xs : List Item) → last_flag v q ≡ w → ReadsAfter w rest xs → items_from v (length q) (q ++ rest) ≡ xs
skipped v w [] rest xs e r = ap (λ (u : Bool). items_from u 0 rest) e ∙ first_from w rest ∙ r.items
skipped v w (b ∷ q) rest xs e r = skipped (is_break b) w q rest xs e r

form_in : (kind : LexKind) (b : ℕ) (q rest : List ℕ) (xs : List Item) → last_flag (is_break b) q ≡ false
    → form_at Page false (b ∷ (q ++ rest)) ≡ Some (kind, suc (length q)) → InLine rest xs → InLine (b ∷ (q ++ rest)) (items_of_word kind (b ∷ q) ++ xs)
form_in kind b q rest xs e f r = record {
  items = sym (first_from false (b ∷ (q ++ rest))) ∙ form_from false b (q ++ rest) kind (length q) f
      ∙ ap (λ ys. items_of_word kind (b ∷ ys) ++ items_from (is_break b) (length q) (q ++ rest)) (take-append_seam q rest)
      ∙ ap (λ ys. items_of_word kind (b ∷ q) ++ ys) (skipped (is_break b) false q rest xs e r);
}

end_flag : (b : ℕ) (q : List ℕ) → EndsBy is_lexeme_end (b ∷ q) → last_flag (is_break b) q ≡ false
end_flag b [] h = other (b == 62) (b == 59) refl refl h
  where
    other : (u v : Bool) → (b == 62) ≡ u → (b == 59) ≡ v → (u || v) ≡ true → (b == 10) ≡ false
    other true v e f i = let is : b ≡ 62 = grind (arith, nat_tests, e) in subst (λ (k : ℕ). (k == 10) ≡ false) (sym is) refl
    other false true e f i = let is : b ≡ 59 = grind (arith, nat_tests, f) in subst (λ (k : ℕ). (k == 10) ≡ false) (sym is) refl
    other false false e f i = cc
end_flag b (c ∷ q) h = end_flag c q h

-- ---- a line of comments, where a line begins

pub line_word : (bs : List ℕ) (n : ℕ) → comment_line_len bs ≡ Some n → form_at Page true bs ≡ Some (CommentLine, n)
unfolding form_at
line_word bs n e = rw e refl

line_flag : (b : ℕ) (q : List ℕ) → EndsBy is_break (b ∷ q) → last_flag (is_break b) q ≡ true
line_flag b [] h = h
line_flag b (c ∷ q) h = line_flag c q h

line_by : (b : ℕ) (q rest : List ℕ) (xs : List Item) → form_at Page true (b ∷ (q ++ rest)) ≡ Some (CommentLine, suc (length q)) → last_flag (is_break b) q ≡ true
    → ReadsAfter true rest xs → ReadsAfter true (b ∷ (q ++ rest)) (whole form.Comment None (b ∷ q) ∷ xs)
line_by b q rest xs f e r = record {
  items = sym (first_from true (b ∷ (q ++ rest))) ∙ form_from true b (q ++ rest) CommentLine (length q) f
      ∙ ap (λ ys. items_of_word CommentLine (b ∷ ys) ++ items_from (is_break b) (length q) (q ++ rest)) (take-append_seam q rest)
      ∙ ap (λ ys. items_of_word CommentLine (b ∷ q) ++ ys) (skipped (is_break b) true q rest xs e r);
}

pub comment_line : (source rest : List ℕ) (xs : List Item) → IsCommentLine source → ReadsAfter true rest xs
    → ReadsAfter true (source ++ rest) (whole form.Comment None source ∷ xs)
comment_line source rest xs h r =
    subst (λ bs. ReadsAfter true (bs ++ rest) (whole form.Comment None bs ∷ xs)) (sym h.is)
    (line_by h.first h.others rest xs (line_word (h.first ∷ (h.others ++ rest)) (suc (length h.others)) (h.len rest)) (line_flag h.first h.others h.ends) r)

-- a line break that is a character, before what begins a line
pub break_after : (bs : List ℕ) (xs : List Item) → ReadsAfter true bs xs → InLine (10 ∷ bs) (char None 10 ∷ xs)
break_after bs xs r = record {
  items = sym (first_from false (10 ∷ bs)) ∙ byte_from false 10 bs (other_byte Page 10 bs refl)
      ∙ ap (λ ys. char None 10 ∷ ys) (first_from true bs ∙ r.items);
}

-- ---- a comment

comment_form : (bs : List ℕ) (n : ℕ) → comment_len bs ≡ Some n → form_at Page false bs ≡ Some (Comment, n)
unfolding form_at
comment_form bs n e = rw e refl

pub comment_in : (q : List ℕ) → IsComment q → InLineAs (60 ∷ q) (whole form.Comment None (60 ∷ q) ∷ [])
comment_in q h rest xs r = form_in Comment 60 q rest xs (end_flag 60 q h.ends) (comment_form (60 ∷ (q ++ rest)) (suc (length q)) (h.len rest)) r

-- ---- other nodes

firm_byte_in : (b : ℕ) (bs : List ℕ) (xs : List Item) → is_firm b ≡ true → (b == 10) ≡ false → InLine bs xs → InLine (b ∷ bs) (char None b ∷ xs)
firm_byte_in b bs xs f n r =
    let P : ℕ → Type 0 = λ (k : ℕ). InLine (k ∷ bs) (char None k ∷ xs) in
    elim (equal_or b 91) [
      | inl i ↦ subst P (sym i) (record { items = open_items false bs ∙ ap (λ ys. char None 91 ∷ ys) r.items })
      | inr o ↦ elim (equal_or b 93) [
        | inl i ↦ subst P (sym i) (record { items = close_items false bs ∙ ap (λ ys. char None 93 ∷ ys) r.items })
        | inr c ↦ elim (equal_or b 124) [
          | inl i ↦ subst P (sym i) (form_in Pipe 124 [] bs xs refl (pipe_byte bs) r)
          | inr p ↦ elim (equal_or b 61) [
            | inl i ↦ subst P (sym i) (form_in Equals 61 [] bs xs refl (equals_byte Page bs) r)
            | inr q ↦ byte_in b bs xs n (other_byte Page b bs (other_form b f o c p q)) r
          ]
        ]
      ]
    ]

pub firm_in : (q : List ℕ) → AreFirm q → HasNoBreak (page_chars q) → InLineAs q (page_chars q)
firm_in [] h n rest xs r = r
firm_in (b ∷ q) h n rest xs r = firm_byte_in b (q ++ rest) (page_chars q ++ xs) h.0 n.0 (firm_in q h.1 n.1 rest xs r)

part_in : (p : Part) → IsPart p → HasNoBreak (part_items p) → InLineAs (part_source p) (part_items p)
part_in (characters bs) h n = firm_in bs h n
part_in (sign b q) h n = λ rest xs r. byte_in b (q ++ rest) (page_chars q ++ xs) n.0 (h.0.none rest) (firm_in q h.1 n.1 rest xs r)
part_in (lexeme kind b q) h n = λ rest xs r. form_in kind b q rest xs (end_flag b q h.ends) (h.form rest) r

no_breaks : (xs ys : List Item) → HasNoBreak (xs ++ ys) → HasNoBreak xs × HasNoBreak ys
no_breaks [] ys h = (tt, h)
no_breaks (x ∷ xs) ys h = let r = no_breaks xs ys h.1 in ((h.0, r.0), r.1)

parts_in : (ps : List Part) → AreParts ps → HasNoBreak (parts_items ps) → InLineAs (parts_source ps) (parts_items ps)
parts_in [] h n = λ rest xs r. r
parts_in (p ∷ ps) h n =
    let cut = no_breaks (part_items p) (parts_items ps) n in
    both_in (part_source p) (parts_source ps) (part_items p) (parts_items ps) (part_in p h.0 cut.0) (parts_in ps h.1 cut.1)

-- the source of a node that is on one line
pub kept_in : (q : List ℕ) → IsKept q → HasNoBreak (page_items q) → InLineAs q (page_items q)
kept_in q h n =
    let read : ReadsAs q (parts_items h.parts) = subst (λ bs. ReadsAs bs (parts_items h.parts)) h.is (parts_read h.parts h.are) in
    let is : page_items q ≡ parts_items h.parts = alone_as q (parts_items h.parts) read in
    subst (λ xs. InLineAs q xs) (sym is)
    (subst (λ bs. InLineAs bs (parts_items h.parts)) h.is (parts_in h.parts h.are (subst HasNoBreak is n)))

-- ---- a node that is read so whatever is behind it, if no reference goes on there

pub read_in : (q rest : List ℕ) (xs : List Item) → IsReadInLine q → ReferencesEnd q ⊎ BeginsUnjoined rest → InLine rest xs → InLine (q ++ rest) (page_items q ++ xs)
read_in q rest xs h j r =
    subst (InLine (q ++ rest)) (h.reads rest j ∙ ap (λ (ys : List Item). page_items q ++ ys) (page_read rest xs r)) (alone_reads (q ++ rest))

-- the other way round
pub line_reads : (q : List ℕ) (own : List Item) → InLineAs q own → (rest : List ℕ) → page_items (q ++ rest) ≡ own ++ page_items rest
line_reads q own f rest = page_read (q ++ rest) (own ++ page_items rest) (f rest (page_items rest) (alone_reads rest))

-- ---- what is put, and what is typed

pub nowiki_in : InLineAs nowiki (whole form.Nowiki None nowiki ∷ [])
unfolding nowiki opening_tag tag_after
nowiki_in rest xs r = form_in Raw 60 (codes "nowiki/>") rest xs refl (nowiki_form Page rest) r

pub guard_in : (guarded : Bool) → InLineAs (nowiki_if guarded) (guard_items guarded)
guard_in true = nowiki_in
guard_in false = λ rest xs r. r

pub reference_ends : (c : ℕ) → is_escapable c ≡ true → EndsBy is_lexeme_end (reference c)
unfolding reference digits
reference_ends c e = each_escapable (λ k. EndsBy is_lexeme_end (reference k)) refl refl refl refl refl refl refl refl refl refl refl refl refl c e

reference_in : (c : ℕ) → is_escapable c ≡ true → EndsBy is_lexeme_end (reference c) → InLineAs (reference c) (whole (form.Entity c) None (reference c) ∷ [])
reference_in c e ends rest xs k =
    let r = references c e in
    let own : List ℕ = 38 ∷ r.others in
    let f : form_at Page false (38 ∷ (r.others ++ rest)) ≡ Some (Entity c, suc (length r.others)) =
    ap (λ bs. form_at Page false (bs ++ rest)) (sym r.is) ∙ reference_form Page rest c e ∙ ap (λ bs. Some (Entity c, length bs)) r.is in
    subst (λ bs. InLine (bs ++ rest) (whole (form.Entity c) None bs ∷ xs)) (sym r.is)
    (form_in (Entity c) 38 r.others rest xs (end_flag 38 r.others (subst (EndsBy is_lexeme_end) r.is ends)) f k)

wide_in : (bs : List ℕ) → All IsWide bs → InLineAs bs (page_chars bs)
wide_in [] h rest xs r = r
wide_in (b ∷ bs) h rest xs r =
    let w : 128 ≤ b = All-head IsWide b bs h in
    let n : (b == 10) ≡ false = grind (arith, nat_tests, w) in
    byte_in b (bs ++ rest) (page_chars bs ++ xs) n (other_byte Page b (bs ++ rest) (wide_form b w)) (wide_in bs (All-tail IsWide b bs h) rest xs r)

-- before what is spelled behind it
less_in : (s : Setting) (before after : List ContentSign) (rest : List ℕ) (xs : List Item) → is_escaped s.within s.place before 60 after ≡ false
    → InLine (further s 60 before after ++ rest) xs → InLine (60 ∷ (further s 60 before after ++ rest)) (char None 60 ∷ xs)
unfolding is_escaped
less_in s before [] rest xs e g = cc
less_in s before (thing t ∷ after) rest xs e g = cc
less_in s before (letter d ∷ after) rest xs e g =
    let n = begin_letter IsTame s 60 d before after refl refl (refl, omega arith, omega arith) (tame_if d e) wide_tame in
    byte_in 60 (further s 60 before (letter d ∷ after) ++ rest) xs refl
    (ap (λ bs. form_at Page false (60 ∷ (bs ++ rest))) n.is ∙ less_byte Page n.first (n.others ++ rest) n.fits) g

and_in : (s : Setting) (before after : List ContentSign) (rest : List ℕ) (xs : List Item) → is_escaped s.within s.place before 38 after ≡ false
    → InLine (further s 38 before after ++ rest) xs → InLine (38 ∷ (further s 38 before after ++ rest)) (char None 38 ∷ xs)
unfolding is_escaped
and_in s before [] rest xs e g = cc
and_in s before (thing t ∷ after) rest xs e g = cc
and_in s before (letter d ∷ after) rest xs e g =
    let n = begin_letter IsMild s 38 d before after refl refl (refl, omega arith) (mild_if d e) wide_mild in
    byte_in 38 (further s 38 before (letter d ∷ after) ++ rest) xs refl
    (ap (λ bs. form_at Page false (38 ∷ (bs ++ rest))) n.is ∙ and_byte Page n.first (n.others ++ rest) n.fits.0 n.fits.1) g

small_in : (s : Setting) (before : List ContentSign) (c : ℕ) (after : List ContentSign) (rest : List ℕ) (xs : List Item) → is_escaped s.within s.place before c after ≡ false
    → (c == 10) ≡ false → InLine (further s c before after ++ rest) xs → InLine (c ∷ (further s c before after ++ rest)) (char None c ∷ xs)
small_in s before c after rest xs e n g =
    let P : ℕ → Type 0 = λ k. is_escaped s.within s.place before k after ≡ false → InLine (further s k before after ++ rest) xs
    → InLine (k ∷ (further s k before after ++ rest)) (char None k ∷ xs) in
    let b = not_bracket (is_bracket c) (is_escaped s.within s.place before c after) (bracket_escaped s.within s.place before c after) e in
    elim (equal_or c 60) [
      | inl i ↦ subst P (sym i) (less_in s before after rest xs) e g
      | inr l ↦ elim (equal_or c 38) [
        | inl i ↦ subst P (sym i) (and_in s before after rest xs) e g
        | inr a ↦ elim (equal_or c 61) [
          | inl i ↦ subst P (sym i) (λ h k. form_in Equals 61 [] (further s 61 before after ++ rest) xs refl (equals_byte Page (further s 61 before after ++ rest)) k) e g
          | inr q ↦ byte_in c (further s c before after ++ rest) xs n (other_byte Page c (further s c before after ++ rest) (no_form_byte c b l a q)) g
        ]
      ]
    ]

plain_in : (s : Setting) (before : List ContentSign) (c : ℕ) (after : List ContentSign) (rest : List ℕ) (xs : List Item) → is_escaped s.within s.place before c after ≡ false
    → (c == 10) ≡ false → InLine (further s c before after ++ rest) xs → InLine (encode_utf8 c ++ (further s c before after ++ rest)) (page_chars (encode_utf8 c) ++ xs)
plain_in s before c after rest xs e n g = elim (cases_lt c 128) [
  | inl small ↦ subst (λ bs. InLine (bs ++ (further s c before after ++ rest)) (page_chars bs ++ xs)) (sym (encode_ascii c small)) (small_in s before c after rest xs e n g)
  | inr wide ↦ wide_in (encode_utf8 c) (encode_wide c wide) (further s c before after ++ rest) xs g
]

-- a character that is no line break, as it is written
pub letter_in : (s : Setting) (before : List ContentSign) (c : ℕ) (after : List ContentSign) (rest : List ℕ) (xs : List Item) (e : Bool)
    → is_escaped s.within s.place before c after ≡ e → (e ≡ true → EndsBy is_lexeme_end (reference c)) → (c == 10) ≡ false
    → InLine (further s c before after ++ rest) xs → InLine (written_by e c ++ (further s c before after ++ rest)) (letter_items e c ++ xs)
letter_in s before c after rest xs true h ends n g =
    reference_in c (escapable s.within s.place before c after h) (ends refl) (further s c before after ++ rest) xs g
letter_in s before c after rest xs false h ends n g = plain_in s before c after rest xs h n g
