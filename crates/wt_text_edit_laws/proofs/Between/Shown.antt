-- What begins with something visible on its first line: no line of comments and blanks begins it, nor goes on in it.
use Rattle.std.proofs.Common.{arith, ◌≡◌, ℕ, suc, ◌+◌, Bool, true, false, Option, None, List, [], ◌∷◌, ◌++◌, map, refl, sym, ap, ◌∙◌, subst, cond, inl, inr}
use Rattle.std.specs.Prelude.{All, ◌||◌, ◌==◌, not, reverse, if◌then◌else◌, slice_index}
use Rattle.std.specs.Option.{unwrap_or}
use Rattle.std.proofs.lemmas.Bool.{eqb-true}
use Rattle.std.proofs.lemmas.List.Elements.{All-head}
use Rattle.wt_span.specs.declared.form.Mode.TheVariants.{Page}
use Rattle.wt_span.specs.Bytes.{is_blank, is_break, blank_len}
use Rattle.wt_span.specs.Items.{Item, char, whole, sign, is_char_in}
use Rattle.wt_lines.specs.declared.kind.LineKind.TheVariants as line
use Rattle.wt_lines.specs.Kinds.{is_mark_sign, is_idle, past, first_of, rows, kind_of_signs, line_kind}
use Rattle.wt_lines.specs.Lines.{is_break_item, onto, lines}
use Rattle.wt_typed_blocks.proofs.Forms.{other_byte}
use Rattle.wt_text_edit_laws.specs.ReadContents.{begins_shown}
use Rattle.wt_text_edit_laws.specs.TextBetween.{BeginsShown}
use Rattle.wt_text_edit_laws.proofs.Prose.InFront.{Reads}
use Rattle.wt_text_edit_laws.proofs.Between.LineWords.{either}
use Rattle.wt_text_edit_laws.proofs.Between.LineRemarks.{blank_form}
use Rattle.wt_text_edit_laws.proofs.Between.Fronts.{items_from, first_from, byte_from}

-- ---- by its items

shown_by : (t v : Bool) (xs ys : List Item) → (if t then begins_shown xs else not v) ≡ true → (begins_shown xs ≡ true → begins_shown (xs ++ ys) ≡ true)
    → (if t then begins_shown (xs ++ ys) else not v) ≡ true
shown_by true v xs ys e f = f e
shown_by false v xs ys e f = e

pub shown_before : (xs ys : List Item) → begins_shown xs ≡ true → begins_shown (xs ++ ys) ≡ true
shown_before [] ys e = cc
shown_before (x ∷ xs) ys e = shown_by (is_char_in is_blank x) (is_break_item x) xs ys e (λ f. shown_before xs ys f)

-- ---- lines of text

abbrev IsText : List Item → Type 0
IsText l = line_kind 0 l ≡ line.Text

-- of the first line blanks alone
abbrev HeadIdle : List (List Item) → Type 0
HeadIdle [] = ⊥
HeadIdle (l ∷ ls) = past is_idle (map sign l) ≡ []

onto_idle : (o : Option ℕ) (b : ℕ) (ls : List (List Item)) → is_blank b ≡ true → HeadIdle ls → HeadIdle (onto (char o b ∷ []) ls)
onto_idle o b [] p h = absurd h
onto_idle o b (l ∷ ls) p h =
    let ss : List ℕ = map sign l in
    ap (λ (t : Bool). if t || is_mark_sign b then past is_idle ss else b ∷ ss) p ∙ h

head_by : (o : Option ℕ) (b : ℕ) (xs : List Item) (t v : Bool) → is_blank b ≡ t → (if t then begins_shown xs else not v) ≡ false
    → (begins_shown xs ≡ false → HeadIdle (lines xs)) → HeadIdle (if v then [] ∷ lines xs else onto (char o b ∷ []) (lines xs))
head_by o b xs t true p e f = refl
head_by o b xs true false p e f = onto_idle o b (lines xs) p (f e)
head_by o b xs false false p e f = absurd (cc)

head_idle : (xs : List Item) → begins_shown xs ≡ false → HeadIdle (lines xs)
head_idle [] e = refl
head_idle (whole f o bs ∷ xs) e = absurd (cc)
head_idle (char o b ∷ xs) e = head_by o b xs (is_blank b) (is_break b) refl e (λ f. head_idle xs f)

idle_blank : (ss : List ℕ) → past is_idle ss ≡ [] → kind_of_signs 0 ss ≡ line.Blank
unfolding kind_of_signs
idle_blank ss e = ap (λ (seen : List ℕ). unwrap_or (first_of (rows 0 seen (past is_mark_sign ss) (past is_idle (reverse ss)))) line.Text) e

none_idle : (ls : List (List Item)) → HeadIdle ls → All IsText ls → ⊥
none_idle [] h a = h
none_idle (l ∷ ls) h a =
    let t : line_kind 0 l ≡ line.Text = All-head IsText l ls a in
    let b : line_kind 0 l ≡ line.Blank = idle_blank (map sign l) h in
    cc

by_flag : (xs : List Item) (v : Bool) → begins_shown xs ≡ v → All IsText (lines xs) → v ≡ true
by_flag xs true e a = refl
by_flag xs false e a = absurd (none_idle (lines xs) (head_idle xs e) a)

pub shown_lines : (xs : List Item) → All IsText (lines xs) → begins_shown xs ≡ true
shown_lines xs a = by_flag xs (begins_shown xs) refl a

-- ---- by its bytes

pub blank_no_break : (b : ℕ) → is_blank b ≡ true → is_break b ≡ false
blank_no_break b e =
    let P : ℕ → Type 0 = λ (x : ℕ). is_break x ≡ false in
    elim (either (b == 32) (b == 9) e) [
      | inl f ↦ subst P (sym (eqb-true b 32 f)) refl
      | inr f ↦ subst P (sym (eqb-true b 9 f)) refl
    ]

-- a line break that begins them is the first item
no_break : (b : ℕ) (bs : List ℕ) (v : Bool) → is_break b ≡ v → begins_shown (items_from false 0 (b ∷ bs)) ≡ true → v ≡ false
no_break b bs false e h = refl
no_break b bs true e h =
    let is : b ≡ 10 = eqb-true b 10 e in
    let g : begins_shown (items_from false 0 (10 ∷ bs)) ≡ true = subst (λ (c : ℕ). begins_shown (items_from false 0 (c ∷ bs)) ≡ true) is h in
    let f : begins_shown (items_from false 0 (10 ∷ bs)) ≡ false = ap begins_shown (byte_from false 10 bs (other_byte Page 10 bs refl)) in
    absurd (cc)

abbrev NoBreakAt : List ℕ → ℕ → Type 0
NoBreakAt bs n = is_break (slice_index bs n) ≡ false

behind_blank : (b : ℕ) (bs : List ℕ) (n : ℕ) → NoBreakAt bs n → NoBreakAt (b ∷ bs) (1 + n)
behind_blank b bs n h = let e : 1 + n ≡ suc n = omega arith in subst (λ (k : ℕ). NoBreakAt (b ∷ bs) k) (sym e) h

pub unbroken_blanks : (bs : List ℕ) → begins_shown (items_from false 0 bs) ≡ true → NoBreakAt bs (blank_len bs)
unbroken_blanks [] h = refl
unbroken_blanks (b ∷ bs) h = by (is_blank b) refl (λ f. unbroken_blanks bs f)
  where
    by : (t : Bool) → is_blank b ≡ t → (begins_shown (items_from false 0 bs) ≡ true → NoBreakAt bs (blank_len bs)) → NoBreakAt (b ∷ bs) (cond t (1 + blank_len bs) 0)
    by true e f =
        let first : begins_shown (char None b ∷ items_from (is_break b) 0 bs) ≡ true =
        subst (λ xs. begins_shown xs ≡ true) (byte_from false b bs (blank_form b bs e)) h in
        let rest : begins_shown (items_from (is_break b) 0 bs) ≡ true =
        sym (ap (λ (v : Bool). if v then begins_shown (items_from (is_break b) 0 bs) else not (is_break b)) e) ∙ first in
        behind_blank b bs (blank_len bs) (f (subst (λ (a : Bool). begins_shown (items_from a 0 bs) ≡ true) (blank_no_break b e) rest))
    by false e f = no_break b bs (is_break b) refl h

pub shown_reads : (bs : List ℕ) (xs : List Item) → Reads bs xs → begins_shown xs ≡ true → BeginsShown bs
shown_reads bs xs r e =
    let u = r.begins in
    ap (λ (n : ℕ). is_break (slice_index bs n)) u.is
    ∙ unbroken_blanks bs (subst (λ ys. begins_shown ys ≡ true) (sym (first_from false bs ∙ r.items false)) e)
