-- Where no mark is first behind the blanks that begin some items, no comment begins their source, nor follows these blanks.
use Rattle.std.proofs.Common.{arith, ◌≡◌, ◌⊎◌, inl, inr, ℕ, zero, suc, Bool, true, false, Option, Some, None, List, [], ◌∷◌, ◌++◌, take, refl, sym, ap, ◌∙◌, subst}
use Rattle.std.specs.Prelude.{not, if◌then◌else◌}
use Rattle.std.specs.Option.{option_or}
use Rattle.wt_span.specs.declared.form.Mode.TheVariants.{Page}
use Rattle.wt_span.specs.declared.form.LexKind.{LexKind}
use Rattle.wt_span.specs.declared.form.LexKind.TheVariants.{CommentLine, Comment, Raw}
use Rattle.wt_span.specs.Bytes.{is_blank, is_break}
use Rattle.wt_span.specs.Comments.{comment_len, comment_line_len}
use Rattle.wt_span.specs.Entities.{entity_at}
use Rattle.wt_span.specs.Items.{Item, char, is_char_in, is_mark}
use Rattle.wt_span.specs.Lexemes.{Word, as_word, entity_word, sign_word, form_at}
use Rattle.wt_span.specs.Tags.{raw_len, include_at}
use Rattle.wt_lex.proofs.AllForms.{form_fits}
use Rattle.wt_expand.specs.PageItems.{items_of_word}
use Rattle.wt_text_edit_laws.specs.PageCuts.{begins_unmarked}
use Rattle.wt_text_edit_laws.proofs.Prose.Uncommented.{BeginsUncommented, uncommented_byte, uncommented_other}
use Rattle.wt_text_edit_laws.proofs.Between.Fronts.{items_from, byte_from, form_from}
use Rattle.wt_text_edit_laws.proofs.Between.LineRemarks.{blank_form, comment_form}
use Rattle.wt_text_edit_laws.proofs.Between.Shown.{blank_no_break}

-- whether a line break is before it or not, it is the same form; or it is a line of comments
pub record IsLineAt (a : Bool) (bs : List ℕ) : Type 0 where
  pub size : ℕ
  pub is : form_at Page a bs ≡ Some (CommentLine, size)

pub line_or_same : (a : Bool) (bs : List ℕ) → IsLineAt a bs ⊎ (form_at Page a bs ≡ form_at Page false bs)
unfolding form_at
line_or_same false bs = inr refl
line_or_same true bs = by (comment_line_len bs) refl
  where
    others : Option Word
    others = option_or (as_word Comment (comment_len bs)) (option_or (as_word Raw (raw_len bs)) (option_or (include_at Page bs) (option_or (entity_word (entity_at bs)) (sign_word bs))))

    by : (o : Option ℕ) → comment_line_len bs ≡ o → IsLineAt true bs ⊎ (form_at Page true bs ≡ form_at Page false bs)
    by (Some n) e = inl (record { size = n; is = ap (λ p. option_or (as_word CommentLine p) others) e })
    by None e = inr (ap (λ p. option_or (as_word CommentLine p) others) e)

-- a mark begins them
marked : (a : Bool) (b : ℕ) (bs : List ℕ) (kind : LexKind) (n : ℕ) → ((xs : List ℕ) (ys : List Item) → begins_unmarked (items_of_word kind xs ++ ys) ≡ false)
    → form_at Page a (b ∷ bs) ≡ Some (kind, n) → begins_unmarked (items_from a 0 (b ∷ bs)) ≡ true → ⊥
marked a b bs kind zero f e h = let fits = form_fits Page a (b ∷ bs) (kind, zero) e in omega (arith, fits.some)
marked a b bs kind (suc j) f e h =
    let no : begins_unmarked (items_from a 0 (b ∷ bs)) ≡ false = ap begins_unmarked (form_from a b bs kind j e) ∙ f (b ∷ take j bs) (items_from (is_break b) j bs) in
    cc

abbrev Rest : List ℕ → Type 0
Rest bs = begins_unmarked (items_from false 0 bs) ≡ true → BeginsUncommented bs

blank_or : (a : Bool) (b : ℕ) (bs : List ℕ) (t : Bool) → is_blank b ≡ t → comment_len (b ∷ bs) ≡ None → form_at Page a (b ∷ bs) ≡ form_at Page false (b ∷ bs)
    → begins_unmarked (items_from a 0 (b ∷ bs)) ≡ true → Rest bs → BeginsUncommented (b ∷ bs)
blank_or a b bs true e c same h f =
    let more : begins_unmarked (char None b ∷ items_from (is_break b) 0 bs) ≡ true =
    subst (λ (xs : List Item). begins_unmarked xs ≡ true) (byte_from a b bs (same ∙ blank_form b bs e)) h in
    let rest : begins_unmarked (items_from (is_break b) 0 bs) ≡ true =
    sym (ap (λ (v : Bool). if v then begins_unmarked (items_from (is_break b) 0 bs) else true) e) ∙ more in
    uncommented_byte b bs c (f (subst (λ (v : Bool). begins_unmarked (items_from v 0 bs) ≡ true) (blank_no_break b e) rest))
blank_or a b bs false e c same h f = uncommented_other b bs e c

by_comment : (a : Bool) (b : ℕ) (bs : List ℕ) (o : Option ℕ) → comment_len (b ∷ bs) ≡ o → form_at Page a (b ∷ bs) ≡ form_at Page false (b ∷ bs)
    → begins_unmarked (items_from a 0 (b ∷ bs)) ≡ true → Rest bs → BeginsUncommented (b ∷ bs)
by_comment a b bs None c same h f = blank_or a b bs (is_blank b) refl c same h f
by_comment a b bs (Some n) c same h f = absurd (marked a b bs Comment n (λ xs ys. refl) (same ∙ comment_form b n bs c) h)

pub unmarked_begins : (bs : List ℕ) (a : Bool) → begins_unmarked (items_from a 0 bs) ≡ true → BeginsUncommented bs
unmarked_begins [] a h = record { is = refl }
unmarked_begins (b ∷ bs) a h = elim (line_or_same a (b ∷ bs)) [
  | inl line ↦ absurd (marked a b bs CommentLine line.size (λ xs ys. refl) line.is h)
  | inr same ↦ by_comment a b bs (comment_len (b ∷ bs)) refl same h (unmarked_begins bs false)
]

-- before a line break, or nothing
unmarked_by : (t v : Bool) (u w : Bool) → (t ≡ true → u ≡ true → w ≡ true) → (if t then u else v) ≡ true → (if t then w else v) ≡ true
unmarked_by true v u w f e = f refl e
unmarked_by false v u w f e = e

pub unmarked_before : (xs : List Item) (ys : List Item) → begins_unmarked xs ≡ true → begins_unmarked (xs ++ char None 10 ∷ ys) ≡ true
unmarked_before [] ys e = refl
unmarked_before (x ∷ xs) ys e =
    unmarked_by (is_char_in is_blank x) (not (is_mark x)) (begins_unmarked xs) (begins_unmarked (xs ++ char None 10 ∷ ys)) (λ t f. unmarked_before xs ys f) e
