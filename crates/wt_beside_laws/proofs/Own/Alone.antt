-- A form of a line is read by itself as it is in its line, since no line of comments begins it: that would have a line break.
use Rattle.std.proofs.Common.{arith, ◌≡◌, inl, inr, ℕ, zero, suc, ◌+◌, ◌-◌, ◌≤◌, ◌==◌, Bool, true, false, Option, Some, None, List, [], ◌∷◌, ◌++◌, length, get_or, nat_lt, refl, sym, ap, ◌∙◌, subst}
use Rattle.std.specs.Prelude.{◌&&◌, if◌then◌else◌, slice_index}
use Rattle.std.proofs.lemmas.Bool.{cases_lt, eqb-true}
use Rattle.std.proofs.lemmas.List.{get_or_past}
use Rattle.wt_span.specs.declared.form.LexKind.TheVariants.{Comment}
use Rattle.wt_span.specs.declared.form.Mode.TheVariants.{Page}
use Rattle.wt_span.specs.Bytes.{is_blank, is_break, blank_len}
use Rattle.wt_span.specs.Comments.{comment_len, comment_line_len, remarks_len, remarks_with}
use Rattle.wt_span.specs.Items.{Item, sources}
use Rattle.wt_lex.proofs.AllForms.{form_fits}
use Rattle.wt_lex.proofs.Begins.{and_right}
use Rattle.wt_lex.proofs.Forms.{OptFits, comment_fits}
use Rattle.wt_lex.proofs.TagForms.{OptEnds}
use Rattle.wt_expand.specs.PageItems.{page_items}
use Rattle.wt_expand.proofs.PageLaws.{page_sources}
use Rattle.wt_annotated.proofs.Widths.{sources_append}
use Rattle.wt_part_laws.specs.Lexer.{lexer}
use Rattle.wt_part_laws.specs.Scans.{after_all}
use Rattle.wt_typed_blocks.proofs.Forms.{other_byte}
use Rattle.wt_text_edit_laws.proofs.Between.Fronts.{items_from, byte_from, form_from}
use Rattle.wt_text_edit_laws.proofs.Between.LineRemarks.{blank_form, comment_form}
use Rattle.wt_text_edit_laws.proofs.Between.LineWords.{either}
use Rattle.wt_text_edit_laws.proofs.Cuts.ItemCuts.{page_cut, cut_from}
use Rattle.wt_beside_laws.specs.NodeItems.{node_items}
use Rattle.wt_beside_laws.specs.PageSigns.{HasNoBreak}
use Rattle.wt_beside_laws.proofs.NodeItems.{are_from}
use Rattle.wt_beside_laws.proofs.Own.Held.{same_items}
use Rattle.wt_beside_laws.proofs.Own.Lines.{comment_ended}
use Rattle.wt_beside_laws.proofs.Own.Words.{comment_ends}

-- ---- blanks and comments that begin a text, where it has no line break

-- none stands before; or the last byte of a comment is none, or the text ends in the comment
abbrev Before : Bool → ℕ → List ℕ → Type 0
Before a zero ys = a ≡ false
Before a (suc n) ys = is_break (get_or ys n 0) ≡ false

before_next : (b n : ℕ) (ys : List ℕ) → is_break (get_or (b ∷ ys) n 0) ≡ false → Before (is_break b) n ys
before_next b zero ys e = e
before_next b (suc n) ys e = e

abbrev Unbroken : Bool → List ℕ → Type 0
Unbroken a ys = (n : ℕ) → HasNoBreak (items_from a n ys) → Before a n ys → is_break (get_or ys (remarks_len n ys) 0) ≡ true → ⊥

later : (b : ℕ) (ys : List ℕ) (r : ℕ) → is_break (get_or (b ∷ ys) (1 + r) 0) ≡ true → is_break (get_or ys r 0) ≡ true
later b ys r e = let z : suc r ≡ 1 + r = omega arith in ap (λ (i : ℕ). is_break (get_or (b ∷ ys) i 0)) z ∙ e

past_end : (ys : List ℕ) (i : ℕ) → length ys ≤ i → is_break (get_or ys i 0) ≡ true → ⊥
past_end ys i le e = let z : is_break 0 ≡ true = ap is_break (sym (get_or_past ys i 0 le)) ∙ e in cc

skipped_le : (n : ℕ) (bs : List ℕ) → n ≤ length bs → n ≤ remarks_len n bs
skipped_le zero bs le = omega arith
skipped_le (suc n) [] le = absurd (omega (arith, le))
skipped_le (suc n) (x ∷ bs) le = let more = skipped_le n bs (omega (arith, le)) in omega (arith, more)

blank_break : (b : ℕ) → is_blank b ≡ true → is_break b ≡ false
blank_break b e = elim (either (b == 32) (b == 9) e) [
  | inl i ↦ ap is_break (eqb-true b 32 i)
  | inr i ↦ ap is_break (eqb-true b 9 i)
]

-- a comment begins it
at_comment : (b : ℕ) (ys : List ℕ) (j : ℕ) → comment_len (b ∷ ys) ≡ Some (suc j) → HasNoBreak (items_from false 0 (b ∷ ys)) → Unbroken (is_break b) ys
    → is_break (get_or ys (remarks_len j ys) 0) ≡ true → ⊥
at_comment b ys j e n go last = elim (cases_lt (suc j) (length (b ∷ ys))) [
  | inl short ↦
      let ends = subst (OptEnds (b ∷ ys)) e (comment_ends (b ∷ ys) (comment_ended (b ∷ ys) (suc j) e short)) in
      let z : suc j - 1 ≡ j = omega arith in
      let end : is_break (get_or (b ∷ ys) j 0) ≡ false = ap (λ (i : ℕ). is_break (get_or (b ∷ ys) i 0)) (sym z) ∙ ap is_break ends.last in
      let own : HasNoBreak (items_from (is_break b) j ys) = (subst HasNoBreak (form_from false b ys Comment j (comment_form b (suc j) ys e)) n).1 in
      go j own (before_next b j ys end) last
  | inr long ↦
      let fits = subst (OptFits (b ∷ ys)) e (comment_fits (b ∷ ys)) in
      let le = skipped_le j ys (omega (arith, fits.within)) in
      past_end ys (remarks_len j ys) (omega (arith, le, long)) last
]

at_byte : (b : ℕ) (ys : List ℕ) (t : Bool) → is_blank b ≡ t → HasNoBreak (items_from false 0 (b ∷ ys)) → Unbroken (is_break b) ys
    → is_break (get_or (b ∷ ys) (if t then 1 + remarks_len 0 ys else 0) 0) ≡ true → ⊥
at_byte b ys true i n go last =
    let own = subst HasNoBreak (byte_from false b ys (blank_form b ys i)) n in
    go 0 own.1 (blank_break b i) (later b ys (remarks_len 0 ys) last)
at_byte b ys false i n go last =
    let P : ℕ → Type 0 = λ (k : ℕ). HasNoBreak (items_from false 0 (k ∷ ys)) in
    let broken : HasNoBreak (items_from false 0 (10 ∷ ys)) = subst P (eqb-true b 10 last) n in
    let no = (subst HasNoBreak (byte_from false 10 ys (other_byte Page 10 ys refl)) broken).0 in
    cc

at_start : (b : ℕ) (ys : List ℕ) (o : Option ℕ) → comment_len (b ∷ ys) ≡ o → HasNoBreak (items_from false 0 (b ∷ ys)) → Unbroken (is_break b) ys
    → is_break (get_or (b ∷ ys) (remarks_with o b (λ n. remarks_len n ys)) 0) ≡ true → ⊥
at_start b ys None e n go last = at_byte b ys (is_blank b) refl n go last
at_start b ys (Some zero) e n go last = let fits = form_fits Page false (b ∷ ys) (Comment, zero) (comment_form b 0 ys e) in omega (arith, fits.some)
at_start b ys (Some (suc j)) e n go last =
    let z : suc j - 1 ≡ j = omega arith in
    at_comment b ys j e n go
    (subst (λ (k : ℕ). is_break (get_or ys (remarks_len k ys) 0) ≡ true) z (later b ys (remarks_len (suc j - 1) ys) last))

unbroken : (a : Bool) (n : ℕ) (ys : List ℕ) → HasNoBreak (items_from a n ys) → Before a n ys → is_break (get_or ys (remarks_len n ys) 0) ≡ true → ⊥
unbroken a zero [] h f last = cc
unbroken a (suc n) [] h f last = cc
unbroken a (suc n) (b ∷ ys) h f last = unbroken (is_break b) n ys h (before_next b n ys f) (later b ys (remarks_len n ys) last)
unbroken true zero (b ∷ ys) h f last = cc
unbroken false zero (b ∷ ys) h f last = at_start b ys (comment_len (b ∷ ys)) refl h (λ n. unbroken (is_break b) n ys) last

no_line : (bs : List ℕ) → HasNoBreak (items_from false 0 bs) → comment_line_len bs ≡ None
unfolding comment_line_len
no_line bs h = by (nat_lt (blank_len bs) (remarks_len 0 bs) && is_break (slice_index bs (remarks_len 0 bs))) refl
  where
    by : (t : Bool) → (nat_lt (blank_len bs) (remarks_len 0 bs) && is_break (slice_index bs (remarks_len 0 bs))) ≡ t
        → (if t then Some (remarks_len 0 bs + 1) else None) ≡ None
    by true e = absurd (unbroken false 0 bs h refl (and_right (nat_lt (blank_len bs) (remarks_len 0 bs)) (is_break (slice_index bs (remarks_len 0 bs))) e))
    by false e = refl

-- ---- in the page

pub alone : (q : List ℕ) (before xs behind : List Item) → page_items q ≡ before ++ (xs ++ behind) → HasNoBreak xs → node_items (sources xs) ≡ xs
alone q before xs behind e n =
    let bytes : q ≡ sources before ++ sources (xs ++ behind) = sym (page_sources q) ∙ ap sources e ∙ sources_append before (xs ++ behind) in
    let all : page_items (sources before ++ sources (xs ++ behind)) ≡ before ++ (xs ++ behind) = ap page_items (sym bytes) ∙ e in
    let a : Bool = after_all (lexer Page) false (sources before) in
    let rest = page_cut (sources before) (sources (xs ++ behind)) before (xs ++ behind) all refl in
    let own : items_from a 0 (sources xs ++ sources behind) ≡ xs ++ behind = ap (items_from a 0) (sym (sources_append xs behind)) ∙ rest.behind in
    let cut = cut_from a (sources xs) (sources behind) xs behind own refl in
    by a cut.front
  where
    by : (v : Bool) → items_from v 0 (sources xs) ≡ xs → node_items (sources xs) ≡ xs
    by true f = are_from (sources xs) ∙ f
    by false f = are_from (sources xs) ∙ same_items (sources xs) (no_line (sources xs) (subst HasNoBreak (sym f) n)) ∙ f
