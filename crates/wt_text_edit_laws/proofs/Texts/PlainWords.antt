-- The lexemes of text with which nothing begins: one run of characters.
use Rattle.std.proofs.Common.{arith, ◌≡◌, ◌≢◌, ℕ, suc, ◌==◌, Bool, true, false, List, [], ◌∷◌, length, refl, sym, ap, ◌∙◌, None}
use Rattle.std.specs.Prelude.{◌&&◌, ◌||◌, not, if◌then◌else◌}
use Rattle.std.specs.List.{list_all}
use Rattle.wt_span.specs.declared.form.Mode.{Mode}
use Rattle.wt_span.specs.declared.form.LexKind.TheVariants.{Chars}
use Rattle.wt_span.specs.Bytes.{is_break}
use Rattle.wt_span.specs.Lexemes.{Cut, cuts, cut_with, closed, form_at, words}
use Rattle.wt_lex.specs.Words.{is_form_byte}
use Rattle.wt_typed_blocks.proofs.Forms.{NoComments, comment_other, without_line, other_byte}
use Rattle.std.proofs.lemmas.Bool.Decides.{nat_tests}
use Rattle.wt_text_edit_laws.specs.PlainTexts.{is_plain}

-- ---- one byte

pub and_left : (a b : Bool) → (a && b) ≡ true → a ≡ true
and_left true b e = refl
and_left false b e = cc

pub and_right : (a b : Bool) → (a && b) ≡ true → b ≡ true
and_right true b e = e
and_right false b e = cc

pub not_false : (a : Bool) → not a ≡ true → a ≡ false
not_false true e = cc
not_false false e = refl

pub or_left : (a b : Bool) → (a || b) ≡ false → a ≡ false
or_left true b e = cc
or_left false b e = refl

pub or_right : (a b : Bool) → (a || b) ≡ false → b ≡ false
or_right true b e = cc
or_right false b e = e

pub no_form_byte : (b : ℕ) → is_plain b ≡ true → is_form_byte b ≡ false
no_form_byte b p = not_false (is_form_byte b) p

no_angle : (b : ℕ) → is_form_byte b ≡ false → b ≢ 60
no_angle b e = λ i. let no : true ≡ false = sym (ap is_form_byte i) ∙ e in cc

-- ---- all of a text

no_comments : (bs : List ℕ) → list_all is_plain bs ≡ true → NoComments bs
no_comments [] e = tt
no_comments (b ∷ bs) e = (
  comment_other b bs (no_angle b (no_form_byte b (and_left (is_plain b) (list_all is_plain bs) e))),
  no_comments bs (and_right (is_plain b) (list_all is_plain bs) e),
)

plain_cuts : (mode : Mode) (after : Bool) (bs : List ℕ) → list_all is_plain bs ≡ true → cuts mode after 0 bs ≡ (length bs, [])
plain_cuts mode after [] e = refl
plain_cuts mode after (b ∷ bs) e =
    let form : form_at mode after (b ∷ bs) ≡ None =
    without_line mode after (b ∷ bs) (no_comments (b ∷ bs) e) ∙ other_byte mode b bs (no_form_byte b (and_left (is_plain b) (list_all is_plain bs) e)) in
    let F : Cut → Cut = λ c. (suc c.0, c.1) in
    ap (λ o. cut_with o (λ n. cuts mode (is_break b) n bs)) form ∙ ap F (plain_cuts mode (is_break b) bs (and_right (is_plain b) (list_all is_plain bs) e))

some : (n : ℕ) → (suc n == 0) ≡ false
some n = grind (arith, nat_tests)

closed_run : (n : ℕ) → closed (suc n) [] ≡ (Chars, suc n) ∷ []
unfolding closed
closed_run n = ap (λ (t : Bool). if t then [] else (Chars, suc n) ∷ []) (some n)

pub plain_words : (mode : Mode) (b : ℕ) (bs : List ℕ) → list_all is_plain (b ∷ bs) ≡ true → words mode (b ∷ bs) ≡ (Chars, length (b ∷ bs)) ∷ []
unfolding words
plain_words mode b bs e = ap (λ (c : Cut). closed c.0 c.1) (plain_cuts mode false (b ∷ bs) e) ∙ closed_run (length bs)
