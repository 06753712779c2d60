-- Bytes in whose first line something is neither a blank nor a mark: no line of comments begins them, so they are read the same whether a line break is
-- before them or not.
use Rattle.std.proofs.Common.{arith, ◌≡◌, ◌⊎◌, inl, inr, ℕ, zero, suc, ◌+◌, ◌-◌, ◌<◌, ◌≤◌, Bool, true, false, Option, Some, None, List, [], ◌∷◌, ◌++◌, length, get_or, take, drop, refl, sym, ap, ◌∙◌, subst, cond}
use Rattle.std.specs.Prelude.{◌||◌, ◌&&◌, not, codes, nat_lt, slice_index, if◌then◌else◌}
use Rattle.std.specs.Option.{option_or, unwrap_or}
use Rattle.std.proofs.lemmas.Bool.{eqb-true}
use Rattle.wt_span.specs.declared.form.Mode.TheVariants.{Page}
use Rattle.wt_span.specs.declared.form.LexKind.TheVariants.{CommentLine, Comment, Raw}
use Rattle.wt_span.specs.Bytes.{is_blank, is_break, begins, through, blank_len}
use Rattle.wt_span.specs.Comments.{comment_len, remarks_with, remarks_len, comment_line_len}
use Rattle.wt_span.specs.Entities.{entity_at}
use Rattle.wt_span.specs.Items.{Item, char}
use Rattle.wt_span.specs.Lexemes.{Cut, as_word, entity_word, sign_word, form_at, cuts}
use Rattle.wt_span.specs.Tags.{raw_len, include_at}
use Rattle.wt_lex.proofs.AllForms.{form_fits}
use Rattle.wt_lex.proofs.Begins.{begins_get, begins_len}
use Rattle.wt_lex.proofs.Cuts.{cuts_cons}
use Rattle.wt_expand.specs.PageItems.{items_of_word, page_items}
use Rattle.wt_page.specs.Rows.{marks_len}
use Rattle.wt_typed_blocks.proofs.Forms.{other_byte}
use Rattle.wt_text_edit_laws.specs.ReadContents.{begins_shown, begins_seen, BeginsParagraph}
use Rattle.wt_text_edit_laws.specs.TextBetween.{BeginsShown, BeginsSeen, AreEnded, StandsBehind}
use Rattle.wt_text_edit_laws.proofs.Between.Fronts.{first_items, items_from, first_from, byte_from, form_from}
use Rattle.wt_text_edit_laws.proofs.Between.LineComments.{remarks_same}
use Rattle.wt_text_edit_laws.proofs.Between.LineRemarks.{blank_form, comment_form, comment_some}
use Rattle.wt_text_edit_laws.proofs.Between.Shown.{shown_before, blank_no_break, unbroken_blanks}
use Rattle.wt_text_edit_laws.proofs.Cuts.Unmarked.{IsLineAt, line_or_same}
use Rattle.wt_text_edit_laws.proofs.Paragraphs.SeenLines.{seen_before, seen_shown}
use Rattle.wt_text_edit_laws.proofs.Texts.TypedItems.{items_cut}

-- ---- where a comment ends

-- behind what is left of a comment, so many bytes: its last byte is no line break, or nothing is behind it
abbrev EndsUnbroken : Bool → ℕ → List ℕ → Type 0
EndsUnbroken a zero bs = (a ≡ false) ⊎ (bs ≡ [])
EndsUnbroken a (suc n) [] = Unit {0}
EndsUnbroken a (suc n) (b ∷ bs) = EndsUnbroken (is_break b) n bs

close_ends : (a : Bool) (bs : List ℕ) → begins (codes "-->") bs ≡ true → EndsUnbroken a 3 bs
close_ends a [] e = tt
close_ends a (x ∷ []) e = tt
close_ends a (x ∷ y ∷ []) e = tt
close_ends a (x ∷ y ∷ z ∷ bs) e = inl (ap is_break (begins_get (codes "-->") (x ∷ y ∷ z ∷ bs) e 2 (omega arith)))

through_ends : (a : Bool) (bs : List ℕ) → EndsUnbroken a (through (codes "-->") bs) bs
through_ends a [] = inr refl
through_ends a (b ∷ bs) = by (begins (codes "-->") (b ∷ bs)) refl (through_ends (is_break b) bs)
  where
    by : (v : Bool) → begins (codes "-->") (b ∷ bs) ≡ v → EndsUnbroken (is_break b) (through (codes "-->") bs) bs
        → EndsUnbroken a (if v then 3 else 1 + through (codes "-->") bs) (b ∷ bs)
    by true e h = close_ends a (b ∷ bs) e
    by false e h =
        let n : 1 + through (codes "-->") bs ≡ suc (through (codes "-->") bs) = omega arith in
        subst (λ (k : ℕ). EndsUnbroken a k (b ∷ bs)) (sym n) h

past_opening : (a : Bool) (b : ℕ) (bs : List ℕ) (j : ℕ) → begins (codes "<!--") (b ∷ bs) ≡ true → 4 + through (codes "-->") (drop 4 (b ∷ bs)) ≡ suc j
    → EndsUnbroken a j bs
past_opening a b [] j e s = let le : 4 ≤ 1 = begins_len (codes "<!--") (b ∷ []) e in absurd (omega (arith, le))
past_opening a b (x ∷ []) j e s = let le : 4 ≤ 2 = begins_len (codes "<!--") (b ∷ x ∷ []) e in absurd (omega (arith, le))
past_opening a b (x ∷ y ∷ []) j e s = let le : 4 ≤ 3 = begins_len (codes "<!--") (b ∷ x ∷ y ∷ []) e in absurd (omega (arith, le))
past_opening a b (x ∷ y ∷ z ∷ rest) j e s =
    let n : 4 + through (codes "-->") rest ≡ suc j = s in
    let is : suc (suc (suc (through (codes "-->") rest))) ≡ j = omega (arith, n) in
    subst (λ (k : ℕ). EndsUnbroken a k (x ∷ y ∷ z ∷ rest)) is (through_ends (is_break z) rest)

comment_ends : (b : ℕ) (bs : List ℕ) (j : ℕ) → comment_len (b ∷ bs) ≡ Some (suc j) → EndsUnbroken (is_break b) j bs
unfolding comment_len
comment_ends b bs j e = by (begins (codes "<!--") (b ∷ bs)) refl e
  where
    by : (v : Bool) → begins (codes "<!--") (b ∷ bs) ≡ v → (if v then Some (4 + through (codes "-->") (drop 4 (b ∷ bs))) else None) ≡ Some (suc j)
        → EndsUnbroken (is_break b) j bs
    by true f s = past_opening (is_break b) b bs j f (ap (λ (o : Option ℕ). unwrap_or o 0) s)
    by false f s = absurd (cc)

-- ---- what is behind the comments and blanks

-- at this place is a byte that is no line break
abbrev SeenAt : List ℕ → ℕ → Type 0
SeenAt bs n = (n < length bs) × (is_break (slice_index bs n) ≡ false)

one_more : (b : ℕ) (bs : List ℕ) (n m : ℕ) → m ≡ suc n → SeenAt bs n → SeenAt (b ∷ bs) m
one_more b bs n m e h = let lt = h.0 in subst (SeenAt (b ∷ bs)) (sym e) (omega (arith, lt), h.1)

first_unbroken : (b : ℕ) (bs : List ℕ) (v : Bool) → is_break b ≡ v → begins_seen (items_from false 0 (b ∷ bs)) ≡ true → v ≡ false
first_unbroken b bs false e h = refl
first_unbroken b bs true e h =
    let is : b ≡ 10 = eqb-true b 10 e in
    let g : begins_seen (items_from false 0 (10 ∷ bs)) ≡ true = subst (λ (c : ℕ). begins_seen (items_from false 0 (c ∷ bs)) ≡ true) is h in
    let f : begins_seen (items_from false 0 (10 ∷ bs)) ≡ false = ap begins_seen (byte_from false 10 bs (other_byte Page 10 bs refl)) in
    absurd (cc)

abbrev GoesOn : List ℕ → Type 0
GoesOn bs = (a : Bool) (n : ℕ) → EndsUnbroken a n bs → begins_seen (items_from a n bs) ≡ true → SeenAt bs (remarks_len n bs)

begins_here : (b : ℕ) (bs : List ℕ) → begins_seen (items_from false 0 (b ∷ bs)) ≡ true → GoesOn bs → SeenAt (b ∷ bs) (remarks_len 0 (b ∷ bs))
begins_here b bs h go = by (comment_len (b ∷ bs)) refl
  where
    Goal : Type 0
    Goal = SeenAt (b ∷ bs) (remarks_len 0 (b ∷ bs))

    size_by : (o : Option ℕ) → comment_len (b ∷ bs) ≡ o → remarks_len 0 (b ∷ bs) ≡ remarks_with o b (λ n. remarks_len n bs)
    size_by o e = ap (λ p. remarks_with p b (λ n. remarks_len n bs)) e

    blank_or : (t : Bool) → is_blank b ≡ t → comment_len (b ∷ bs) ≡ None → Goal
    blank_or true e c =
        let first : begins_seen (char None b ∷ items_from (is_break b) 0 bs) ≡ true =
        subst (λ xs. begins_seen xs ≡ true) (byte_from false b bs (blank_form b bs e)) h in
        let more : begins_seen (items_from (is_break b) 0 bs) ≡ true =
        sym (ap (λ (v : Bool). if v || false then begins_seen (items_from (is_break b) 0 bs) else not (is_break b)) e) ∙ first in
        let size : remarks_len 0 (b ∷ bs) ≡ 1 + remarks_len 0 bs = size_by None c ∙ ap (λ (v : Bool). if v then 1 + remarks_len 0 bs else 0) e in
        let z : 1 + remarks_len 0 bs ≡ suc (remarks_len 0 bs) = omega arith in
        one_more b bs (remarks_len 0 bs) (remarks_len 0 (b ∷ bs)) (size ∙ z) (go (is_break b) 0 (inl (blank_no_break b e)) more)
    blank_or false e c =
        let size : remarks_len 0 (b ∷ bs) ≡ 0 = size_by None c ∙ ap (λ (v : Bool). if v then 1 + remarks_len 0 bs else 0) e in
        subst (SeenAt (b ∷ bs)) (sym size) (omega arith, first_unbroken b bs (is_break b) refl h)

    by : (o : Option ℕ) → comment_len (b ∷ bs) ≡ o → Goal
    by None c = blank_or (is_blank b) refl c
    by (Some zero) c = let some = comment_some b bs 0 c in absurd (omega (arith, some))
    by (Some (suc j)) c =
        let first : begins_seen (items_of_word Comment (b ∷ take j bs) ++ items_from (is_break b) j bs) ≡ true =
        subst (λ xs. begins_seen xs ≡ true) (form_from false b bs Comment j (comment_form b (suc j) bs c)) h in
        let y : suc j - 1 ≡ j = omega arith in
        let size : remarks_len 0 (b ∷ bs) ≡ 1 + remarks_len j bs = size_by (Some (suc j)) c ∙ ap (λ (n : ℕ). 1 + remarks_len n bs) y in
        let z : 1 + remarks_len j bs ≡ suc (remarks_len j bs) = omega arith in
        one_more b bs (remarks_len j bs) (remarks_len 0 (b ∷ bs)) (size ∙ z) (go (is_break b) j (comment_ends b bs j c) first)

goes_on : (bs : List ℕ) → GoesOn bs
goes_on [] a zero c e = let no : false ≡ true = e in absurd (cc)
goes_on [] a (suc n) c e = let no : false ≡ true = e in absurd (cc)
goes_on (b ∷ bs) a (suc n) c e =
    let z : 1 + remarks_len n bs ≡ suc (remarks_len n bs) = omega arith in
    one_more b bs (remarks_len n bs) (1 + remarks_len n bs) z (goes_on bs (is_break b) n c e)
goes_on (b ∷ bs) a zero (inl f) e =
    begins_here b bs (subst (λ (v : Bool). begins_seen (items_from v 0 (b ∷ bs)) ≡ true) f e) (λ v n c g. goes_on bs v n c g)
goes_on (b ∷ bs) a zero (inr f) e = absurd (cc)

as_seen : (bs : List ℕ) → SeenAt bs (remarks_len 0 bs) → BeginsSeen bs
as_seen bs h = record { short = h.0; shown = h.1 }

pub seen_at : (bs : List ℕ) → begins_seen (page_items bs) ≡ true → BeginsSeen bs
seen_at bs e = as_seen bs (goes_on bs false 0 (inl refl) (subst (λ xs. begins_seen xs ≡ true) (first_items bs ∙ sym (first_from false bs)) e))

-- ---- so no line of comments begins them

no_line : (bs : List ℕ) → BeginsShown bs → comment_line_len bs ≡ None
unfolding comment_line_len
no_line bs h =
    let n : ℕ = remarks_len 0 bs in
    ap (λ (t : Bool). if nat_lt (blank_len bs) n && t then Some (n + 1) else None) h ∙ by (nat_lt (blank_len bs) n) (n + 1)
  where
    by : (t : Bool) (k : ℕ) → (if t && false then Some k else None) ≡ None
    by true k = refl
    by false k = refl

pub shown_flag : (a : Bool) (bs : List ℕ) → BeginsShown bs → form_at Page a bs ≡ form_at Page false bs
unfolding form_at
shown_flag false bs h = refl
shown_flag true bs h =
    ap (λ o. option_or (as_word CommentLine o) (option_or (as_word Comment (comment_len bs)) (option_or (as_word Raw (raw_len bs))
    (option_or (include_at Page bs) (option_or (entity_word (entity_at bs)) (sign_word bs)))))) (no_line bs h)

same_cuts : (a : Bool) (bs : List ℕ) → form_at Page a bs ≡ form_at Page false bs → cuts Page a 0 bs ≡ cuts Page false 0 bs
same_cuts a [] e = refl
same_cuts a (b ∷ bs) e = cuts_cons Page a b bs (form_at Page false (b ∷ bs)) e ∙ sym (cuts_cons Page false b bs (form_at Page false (b ∷ bs)) refl)

pub shown_cuts : (a : Bool) (bs : List ℕ) → BeginsShown bs → cuts Page a 0 bs ≡ cuts Page false 0 bs
shown_cuts a bs h = same_cuts a bs (shown_flag a bs h)

same_from : (a : Bool) (bs : List ℕ) → form_at Page a bs ≡ form_at Page false bs → items_from a 0 bs ≡ items_from false 0 bs
same_from a bs e = first_from a bs ∙ ap (items_cut bs) (same_cuts a bs e) ∙ sym (first_from false bs)

-- what is read behind some bytes is read by itself, too
pub shown_alone : (a : Bool) (bs : List ℕ) (xs : List Item) → BeginsShown bs → items_from a 0 bs ≡ xs → page_items bs ≡ xs
shown_alone a bs xs h e = first_items bs ∙ sym (first_from false bs) ∙ sym (same_from a bs (shown_flag a bs h)) ∙ e

-- whatever is before them, where no mark is first
no_mark : (a : Bool) (b : ℕ) (bs : List ℕ) (n : ℕ) → form_at Page a (b ∷ bs) ≡ Some (CommentLine, n) → marks_len (items_from a 0 (b ∷ bs)) ≡ 0 → ⊥
no_mark a b bs zero e u = let fits = form_fits Page a (b ∷ bs) (CommentLine, zero) e in omega (arith, fits.some)
no_mark a b bs (suc j) e u =
    let m : marks_len (items_from a 0 (b ∷ bs)) ≡ 1 + marks_len (items_from (is_break b) j bs) = ap marks_len (form_from a b bs CommentLine j e) in
    omega (arith, m, u)

pub seen_either : (a : Bool) (bs : List ℕ) → marks_len (items_from a 0 bs) ≡ 0 → begins_seen (items_from a 0 bs) ≡ true → BeginsSeen bs
seen_either a [] u e = let no : false ≡ true = e in absurd (cc)
seen_either a (b ∷ bs) u e = elim (line_or_same a (b ∷ bs)) [
  | inl line ↦ absurd (no_mark a b bs line.size line.is u)
  | inr same ↦ as_seen (b ∷ bs) (goes_on (b ∷ bs) false 0 (inl refl) (subst (λ xs. begins_seen xs ≡ true) (same_from a (b ∷ bs) same) e))
]

-- ---- before a line break

slice_front : (bs cs : List ℕ) (n : ℕ) → n < length bs → slice_index (bs ++ cs) n ≡ slice_index bs n
slice_front [] cs n lt = absurd (omega (arith, lt))
slice_front (b ∷ bs) cs zero lt = refl
slice_front (b ∷ bs) cs (suc n) lt = slice_front bs cs n (omega (arith, lt))

-- so of whole lines whatever is behind them
pub line_shown : (line rest : List ℕ) → AreEnded line → BeginsSeen line → BeginsShown (line ++ rest)
line_shown line rest e h =
    let n : ℕ = remarks_len 0 line in
    ap (λ (k : ℕ). is_break (slice_index (line ++ rest) k)) (remarks_same 0 line rest e h.short)
    ∙ ap is_break (slice_front line rest n h.short) ∙ h.shown

-- ---- where no comment begins them

blanks_short : (bs : List ℕ) → begins_shown (items_from false 0 bs) ≡ true → blank_len bs < length bs
blanks_short [] h = let no : false ≡ true = h in absurd (cc)
blanks_short (b ∷ bs) h = by (is_blank b) refl (λ f. blanks_short bs f)
  where
    by : (t : Bool) → is_blank b ≡ t → (begins_shown (items_from false 0 bs) ≡ true → blank_len bs < length bs) → cond t (1 + blank_len bs) 0 < suc (length bs)
    by true e f =
        let first : begins_shown (char None b ∷ items_from (is_break b) 0 bs) ≡ true =
        subst (λ xs. begins_shown xs ≡ true) (byte_from false b bs (blank_form b bs e)) h in
        let rest : begins_shown (items_from (is_break b) 0 bs) ≡ true =
        sym (ap (λ (v : Bool). if v then begins_shown (items_from (is_break b) 0 bs) else not (is_break b)) e) ∙ first in
        let lt = f (subst (λ (a : Bool). begins_shown (items_from a 0 bs) ≡ true) (blank_no_break b e) rest) in
        omega (arith, lt)
    by false e f = omega arith

pub stands_seen : (bs : List ℕ) → StandsBehind bs → begins_shown (page_items bs) ≡ true → BeginsSeen bs
stands_seen bs u h =
    let first : begins_shown (items_from false 0 bs) ≡ true = subst (λ xs. begins_shown xs ≡ true) (first_items bs ∙ sym (first_from false bs)) h in
    let is : remarks_len 0 bs ≡ blank_len bs = u.uncommented in
    let short = blanks_short bs first in
    record { short = omega (arith, is, short); shown = ap (λ (n : ℕ). is_break (slice_index bs n)) is ∙ unbroken_blanks bs first }

pub stands_begins : (q : List ℕ) → StandsBehind q → StandsBehind (q ++ 10 ∷ []) → page_items (q ++ 10 ∷ []) ≡ page_items q ++ char None 10 ∷ []
    → begins_shown (page_items q) ≡ true → BeginsParagraph q
stands_begins q u v e h = record {
  alone = stands_seen q u h;
  before_break = stands_seen (q ++ 10 ∷ []) v (ap begins_shown e ∙ shown_before (page_items q) (char None 10 ∷ []) h);
  shown = h;
}

-- where something in the first line is neither a blank nor a mark
pub seen_begins : (q : List ℕ) → page_items (q ++ 10 ∷ []) ≡ page_items q ++ char None 10 ∷ [] → begins_seen (page_items q) ≡ true → BeginsParagraph q
seen_begins q e h = record {
  alone = seen_at q h;
  before_break = seen_at (q ++ 10 ∷ []) (ap begins_seen e ∙ seen_before (page_items q) (char None 10 ∷ []) h);
  shown = seen_shown (page_items q) h;
}
