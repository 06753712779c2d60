-- A paragraph of one text, typed or written, is read the same before nothing and before a line break, and is a block of text.
use Rattle.std.proofs.Common.{arith, ◌≡◌, ℕ, Bool, true, false, Some, None, List, [], ◌∷◌, ◌++◌, refl, sym, ap, ◌∙◌, subst, append_assoc, inl, inr, zero, suc, ◌+◌, ◌<◌, Option, length, take, cond}
use Rattle.std.specs.Str.{IsUtf8}
use Rattle.wt_span.specs.declared.form.Mode.TheVariants.{Page}
use Rattle.wt_span.specs.declared.form.LexKind.TheVariants.{Comment}
use Rattle.wt_span.specs.declared.form.ItemForm.{ItemForm}
use Rattle.wt_span.specs.declared.form.ItemForm.TheVariants as form
use Rattle.wt_span.specs.Items.{Item, char, whole}
use Rattle.wt_span.specs.Bytes.{is_blank, is_break, blank_len}
use Rattle.wt_span.specs.Comments.{comment_len, remarks_len}
use Rattle.wt_span.specs.Lexemes.{cuts}
use Rattle.wt_lex.proofs.Cuts.{cuts_cons}
use Rattle.wt_isolation.specs.OpenTags.{ends_open, EndsOpen}
use Rattle.wt_isolation.proofs.OpenTags.{opened}
use Rattle.wt_typed_blocks.proofs.Forms.{comment_other, other_byte}
use Rattle.wt_expand.specs.PageItems.{items_of_word, page_items}
use Rattle.wt_text_edit_laws.specs.TypedPages.{IsTypedPage}
use Rattle.wt_text_edit_laws.proofs.Texts.SpelledUtf8.{spelled_utf8}
use Rattle.wt_text_edit_laws.proofs.Texts.TypedLeaves.{IsOwnForm, AreOwn}
use Rattle.wt_text_edit_laws.proofs.Texts.TypedItems.{items_cut}
use Rattle.wt_text_edit_laws.proofs.Prose.Uncommented.{BeginsUncommented, uncommented_byte, uncommented_other}
use Rattle.wt_text_edit_laws.proofs.Prose.InFront.{Reads, reads_nothing, read_items}
use Rattle.wt_text_edit_laws.proofs.Prose.ProseLines.{lines_block}
use Rattle.wt_text_edit_laws.proofs.Prose.ProseTexts.{IsWritten, some_leaf, written}
use Rattle.wt_part_laws.specs.Lexer.{lexer}
use Rattle.wt_part_laws.specs.Scans.{after_all}
use Rattle.wt_text_edit_laws.specs.TextBetween.{HasNoTag, AreWholeLines, AreEnded, HasEndsBefore, StandsBehind}
use Rattle.wt_text_edit_laws.proofs.Between.LineComments.{remarks_same}
use Rattle.wt_text_edit_laws.proofs.Between.LineRemarks.{blank_form, comment_form, comment_some}
use Rattle.wt_text_edit_laws.proofs.Between.Fronts.{ReadsAfter, first_items, items_from, first_from, byte_from, form_from, lines_read}
use Rattle.wt_text_edit_laws.proofs.Between.Shown.{blank_no_break}
use Rattle.wt_text_edit_laws.proofs.Between.TextReads.{typed_lines}
use Rattle.std.specs.Prelude.{All, map}
use Rattle.std.proofs.lemmas.List.Elements.{All-head, All-tail}
use Rattle.wt_lines.specs.declared.kind.LineKind.TheVariants as line
use Rattle.wt_lines.specs.Kinds.{line_kind}
use Rattle.wt_lines.specs.Lines.{lines, full_lines, content, empty_end}
use Rattle.wt_lines.proofs.FullLines.{same_lines}
use Rattle.wt_text_edit_laws.proofs.Texts.PlainRows.{AreTexts}
use Rattle.wt_text_edit_laws.specs.Paragraphs.{IsLetterForm, AreLetters, AreOneText, IsWrittenText, IsParagraph}

-- ---- no `<`

tags_split : (q r : List ℕ) → HasNoTag (q ++ r) → HasNoTag q × HasNoTag r
tags_split [] r h = (tt, h)
tags_split (b ∷ q) r h = let s = tags_split q r h.1 in ((h.0, s.0), s.1)

no_open : (front : List ℕ) (letter : ℕ) (rest : List ℕ) → HasNoTag (front ++ 60 ∷ letter ∷ rest) → ⊥
no_open front letter rest h = let e : true ≡ false = (tags_split front (60 ∷ letter ∷ rest) h).1.0 in cc

closed_by : (v : Bool) (bs : List ℕ) → ends_open bs ≡ v → HasNoTag bs → v ≡ false
closed_by false bs e h = refl
closed_by true bs e h = let o : EndsOpen bs = opened bs e in absurd (no_open o.front o.letter o.rest (subst HasNoTag o.is h))

closed : (bs : List ℕ) → HasNoTag bs → ends_open bs ≡ false
closed bs h = closed_by (ends_open bs) bs refl h

-- ---- what is written is the page's own

form_own : (f : ItemForm) (bs : List ℕ) → IsLetterForm f bs → IsOwnForm f bs
form_own form.Chars bs h = absurd h
form_own (form.Entity c) bs h = closed bs h
form_own form.Nowiki bs h = h
form_own form.Extension bs h = absurd h
form_own form.Function bs h = absurd h
form_own form.Comment bs h = absurd h
form_own form.Include bs h = absurd h
form_own form.Hidden bs h = absurd h
form_own form.EmptyCall bs h = absurd h

pub letters_own : (xs : List Item) → AreLetters xs → AreOwn xs
letters_own [] a = tt
letters_own (char None b ∷ xs) a = letters_own xs a
letters_own (char (Some k) b ∷ xs) a = absurd a
letters_own (whole f None bs ∷ xs) a = (form_own f bs a.0, letters_own xs a.1)
letters_own (whole f (Some k) bs ∷ xs) a = absurd a

abbrev IsText : List Item → Type 0
IsText l = line_kind 0 l ≡ line.Text

one_texts : (ls ends : List (List Item)) → All IsText (map content ls ++ ends) → AreOneText ls → AreTexts ls
one_texts [] ends a h = tt
one_texts (l ∷ ls) ends a h = (
  record { kind = All-head IsText (content l) (map content ls ++ ends) a; unled = h.0; is = h.1 },
  one_texts ls ends (All-tail IsText (content l) (map content ls ++ ends) a) h.2,
)

text_written : (q : List ℕ) → IsWrittenText q → IsWritten q
text_written q h =
    let xs : List Item = page_items q in
    let texts : AreTexts (full_lines xs) = one_texts (full_lines xs) (empty_end xs) (subst (All IsText) (same_lines xs) h.are_lines) h.are_one in
    (lines_block xs texts h.are_lines, letters_own xs h.are_letters, some_leaf xs h.are_lines)

pub paragraph_written : (q : List ℕ) → IsParagraph q → IsWritten q
paragraph_written q (inl t) = written q t
paragraph_written q (inr w) = text_written q w

typed_utf8 : (q : List ℕ) → IsTypedPage q → IsUtf8 q
typed_utf8 q h = let P : List ℕ → Type 0 = IsUtf8 in subst P (sym h.is) (spelled_utf8 h.setting h.text h.utf8)

pub paragraph_utf8 : (q : List ℕ) → IsParagraph q → IsUtf8 q
paragraph_utf8 q (inl t) = typed_utf8 q t
paragraph_utf8 q (inr w) = w.utf8

-- ---- no comment begins it

pub letters_joined : (xs ys : List Item) → AreLetters xs → AreLetters ys → AreLetters (xs ++ ys)
letters_joined [] ys h g = g
letters_joined (char None b ∷ xs) ys h g = letters_joined xs ys h g
letters_joined (char (Some k) b ∷ xs) ys h g = absurd h
letters_joined (whole f None bs ∷ xs) ys h g = (h.0, letters_joined xs ys h.1 g)
letters_joined (whole f (Some k) bs ∷ xs) ys h g = absurd h

letters_begin : (bs : List ℕ) → AreLetters (items_from false 0 bs) → BeginsUncommented bs
letters_begin [] h = record { is = refl }
letters_begin (b ∷ bs) h = by (comment_len (b ∷ bs)) refl (λ g. letters_begin bs g)
  where
    Rest : Type 0
    Rest = AreLetters (items_from false 0 bs) → BeginsUncommented bs

    blank_or : (t : Bool) → is_blank b ≡ t → comment_len (b ∷ bs) ≡ None → Rest → BeginsUncommented (b ∷ bs)
    blank_or true e c f =
        let more : AreLetters (char None b ∷ items_from (is_break b) 0 bs) = subst AreLetters (byte_from false b bs (blank_form b bs e)) h in
        uncommented_byte b bs c (f (subst (λ a. AreLetters (items_from a 0 bs)) (blank_no_break b e) more))
    blank_or false e c f = uncommented_other b bs e c

    by : (o : Option ℕ) → comment_len (b ∷ bs) ≡ o → Rest → BeginsUncommented (b ∷ bs)
    by None c f = blank_or (is_blank b) refl c f
    by (Some zero) c f = let some = comment_some b bs 0 c in absurd (omega (arith, some))
    by (Some (suc j)) c f =
        let none : AreLetters (items_of_word Comment (b ∷ take j bs) ++ items_from (is_break b) j bs) =
        subst AreLetters (form_from false b bs Comment j (comment_form b (suc j) bs c)) h in
        absurd none.0

letters_alone : (q : List ℕ) → AreLetters (page_items q) → BeginsUncommented q
letters_alone q h = letters_begin q (subst AreLetters (first_items q ∙ sym (first_from false q)) h)

uncommented_text : (q : List ℕ) → AreLetters (page_items q) → remarks_len 0 q ≡ blank_len q
uncommented_text q h = let u = letters_alone q h in u.is

-- the blanks of a line end before its line break, whatever follows it
blanks_end : (q : List ℕ) → blank_len (q ++ 10 ∷ []) < length (q ++ 10 ∷ [])
blanks_end [] = omega arith
blanks_end (b ∷ q) = by (is_blank b) (blanks_end q)
  where
    by : (t : Bool) → blank_len (q ++ 10 ∷ []) < length (q ++ 10 ∷ []) → cond t (1 + blank_len (q ++ 10 ∷ [])) 0 < suc (length (q ++ 10 ∷ []))
    by true h = omega (arith, h)
    by false h = omega arith

blanks_same : (q r : List ℕ) → blank_len ((q ++ 10 ∷ []) ++ r) ≡ blank_len (q ++ 10 ∷ [])
blanks_same [] r = refl
blanks_same (b ∷ q) r = ap (λ (n : ℕ). cond (is_blank b) (1 + n) 0) (blanks_same q r)

-- whatever follows the line break
pub begins_before : (q r : List ℕ) → AreEnded (q ++ 10 ∷ []) → StandsBehind (q ++ 10 ∷ []) → BeginsUncommented ((q ++ 10 ∷ []) ++ r)
begins_before q r e h =
    let line : List ℕ = q ++ 10 ∷ [] in
    let is : remarks_len 0 line ≡ blank_len line = h.uncommented in
    let short = blanks_end q in
    record { is = remarks_same 0 line r e (omega (arith, is, short)) ∙ is ∙ sym (blanks_same q r) }

pub letters_stand : (q : List ℕ) → AreLetters (page_items q) → StandsBehind q
letters_stand q h = record { uncommented = uncommented_text q h }

-- ---- before nothing, and before a line break

abbrev pub EndsHere : List ℕ → Type 0
EndsHere [] = Unit {0}
EndsHere (b ∷ bs) = b ≡ 10

break_begins : (r : List ℕ) → BeginsUncommented (10 ∷ r)
break_begins r = uncommented_other 10 r refl (comment_other 10 r (omega arith))

-- where the page ends, or a line break stands, no comment begins
pub here_begins : (bs : List ℕ) → EndsHere bs → BeginsUncommented bs
here_begins [] e = record { is = refl }
here_begins (b ∷ bs) e = let P : ℕ → Type 0 = λ (c : ℕ). BeginsUncommented (c ∷ bs) in subst P (sym e) (break_begins bs)

-- what is read behind a line break
abbrev rest_items : List ℕ → List Item
rest_items r = items_cut r (cuts Page true 0 r)

read_rest : (r : List ℕ) (xs : List Item) → Reads (10 ∷ r) xs → ReadsAfter true r (rest_items r)
read_rest r xs h = record { items = refl }

rest_is : (r : List ℕ) (xs : List Item) → Reads (10 ∷ r) xs → xs ≡ char None 10 ∷ rest_items r
rest_is r xs h = sym (h.items false) ∙ ap (items_cut (10 ∷ r)) (cuts_cons Page false 10 r None (other_byte Page 10 r refl))

pub nothing_is : (xs : List Item) → Reads [] xs → xs ≡ []
nothing_is xs h = sym (read_items [] xs h) ∙ read_items [] [] reads_nothing

after_line : (a : Bool) (q : List ℕ) → after_all (lexer Page) a (q ++ 10 ∷ []) ≡ true
after_line a [] = refl
after_line a (b ∷ q) = after_line (is_break b) q

pub one_line : (q : List ℕ) → AreWholeLines (q ++ 10 ∷ [])
one_line [] = refl
one_line (b ∷ []) = refl
one_line (b ∷ c ∷ q) = one_line (c ∷ q)

-- a line that is read so with its line break
pub line_reads : (q r : List ℕ) (own xs : List Item) → HasEndsBefore r (q ++ 10 ∷ []) → page_items (q ++ 10 ∷ []) ≡ own ++ char None 10 ∷ []
    → Reads (10 ∷ r) xs → ReadsAfter false (q ++ 10 ∷ r) (own ++ xs)
line_reads q r own xs b ended s =
    let break : Item = char None 10 in
    let rest : List Item = rest_items r in
    let behind : ReadsAfter (after_all (lexer Page) false (q ++ 10 ∷ [])) r rest = subst (λ a. ReadsAfter a r rest) (sym (after_line false q)) (read_rest r xs s) in
    let whole : ReadsAfter false ((q ++ 10 ∷ []) ++ r) (page_items (q ++ 10 ∷ []) ++ rest) =
    lines_read (q ++ 10 ∷ []) r rest (one_line q) b behind in
    let all : page_items (q ++ 10 ∷ []) ++ rest ≡ own ++ xs =
    ap (λ zs. zs ++ rest) ended ∙ append_assoc own (break ∷ []) rest ∙ ap (λ zs. own ++ zs) (sym (rest_is r xs s)) in
    subst (λ bs. ReadsAfter false bs (own ++ xs)) (append_assoc q (10 ∷ []) r) (subst (λ ys. ReadsAfter false ((q ++ 10 ∷ []) ++ r) ys) all whole)

-- ---- its lines

pub paragraph_lines : (q : List ℕ) → IsParagraph q → All IsText (lines (page_items q))
paragraph_lines q (inl t) = typed_lines q t
paragraph_lines q (inr w) = w.are_lines
