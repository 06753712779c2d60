-- The items of one output: texts in UTF-8 and whole forms, none of which comes from a call.
use Rattle.std.proofs.Common.{◌≡◌, ℕ, ◌<◌, Bool, true, false, Option, Some, None, List, [], ◌∷◌, ◌++◌, take, IsUtf8, refl, sym, subst, arith, append_assoc, append-nil}
use Rattle.std.specs.Prelude.{◌&&◌, not, if◌then◌else◌}
use Rattle.std.proofs.lemmas.Bool.Decides.{nat_tests}
use Rattle.std.proofs.lemmas.Str.{IsUtf8-nil, IsUtf8-append}
use Rattle.wt_span.specs.declared.form.Mode.{Mode}
use Rattle.wt_span.specs.declared.form.LexKind.{LexKind}
use Rattle.wt_span.specs.declared.form.LexKind.TheVariants as lex
use Rattle.wt_span.specs.declared.form.ItemForm.{ItemForm}
use Rattle.wt_span.specs.declared.form.ItemForm.TheVariants as form
use Rattle.wt_span.specs.Tags.{Tag, opening_tag, is_nowiki}
use Rattle.wt_span.specs.Items.{Item, char, whole, is_char_in, items_by}
use Rattle.wt_names.proofs.Utf8.{one_byte, utf8_around}
use Rattle.wt_expand.specs.PageItems.{form_of, raw_form_by}
use Rattle.wt_expand.specs.Texts.{is_space, trimmed_items, trimmed}
use Rattle.wt_expand.specs.Trimmed.{AllPass, IsTrimmed}
use Rattle.wt_expand.specs.Expansion.{chars, is_removed, lexeme_items, opens_block, with_break}
use Rattle.wt_expand.proofs.TextLaws.{text_trimmed, items_trimmed}
use Rattle.wt_expansion.proofs.SoundMembers.{IsSoundLexeme}
use Rattle.wt_expansion.proofs.WholeOutputs.{AllWhole, whole_lexeme}
use Rattle.wt_page_round_trip.proofs.TextItems.{CanCut, before_low, after_low}
use Rattle.wt_page_round_trip.proofs.OfPage.{IsPageItem}

-- These bytes, and then the characters up to the next form, and those between any two forms, are UTF-8; each form is whole, and no
-- item has a call that it comes from.
abbrev pub AreGiven : List ℕ → List Item → Type 0
AreGiven run [] = IsUtf8 run
AreGiven run (char o b ∷ xs) = (o ≡ None) × AreGiven (run ++ b ∷ []) xs
AreGiven run (whole f o bs ∷ xs) = IsUtf8 run × (o ≡ None) × IsPageItem (whole f None bs) × AreGiven [] xs

-- ---- put together

given_behind : (run s : List ℕ) (ys : List Item) → IsUtf8 run → AreGiven s ys → AreGiven (run ++ s) ys
given_behind run s [] u h = IsUtf8-append run s u h
given_behind run s (char o b ∷ ys) u h = (h.0, subst (λ r. AreGiven r ys) (sym (append_assoc run s (b ∷ []))) (given_behind run (s ++ b ∷ []) ys u h.1))
given_behind run s (whole f o bs ∷ ys) u h = (IsUtf8-append run s u h.0, h.1, h.2, h.3)

pub given_both : (run : List ℕ) (xs ys : List Item) → AreGiven run xs → AreGiven [] ys → AreGiven run (xs ++ ys)
given_both run [] ys h t = subst (λ r. AreGiven r ys) (append-nil run) (given_behind run [] ys h t)
given_both run (char o b ∷ xs) ys h t = (h.0, given_both (run ++ b ∷ []) xs ys h.1 t)
given_both run (whole f o bs ∷ xs) ys h t = (h.0, h.1, h.2, given_both [] xs ys h.3 t)

chars_run : (run bs : List ℕ) → IsUtf8 (run ++ bs) → AreGiven run (chars bs)
chars_run run [] u = subst IsUtf8 (append-nil run) u
chars_run run (b ∷ bs) u = (refl, chars_run (run ++ b ∷ []) bs (subst IsUtf8 (sym (append_assoc run (b ∷ []) bs)) u))

pub given_chars : (bs : List ℕ) → IsUtf8 bs → AreGiven [] (chars bs)
given_chars bs u = chars_run [] bs u

-- ---- cut

given_shift : (r s : List ℕ) (xs : List Item) → CanCut r s → AreGiven (r ++ s) xs → IsUtf8 r × AreGiven s xs
given_shift r s [] h t =
    let q : IsUtf8 r × IsUtf8 (s ++ []) = h [] (subst (λ x. IsUtf8 (r ++ x)) (sym (append-nil s)) t) in
    (q.0, subst IsUtf8 (append-nil s) q.1)
given_shift r s (char o b ∷ xs) h t =
    let q = given_shift r (s ++ b ∷ []) xs (more_cut r s b h) (subst (λ x. AreGiven x xs) (append_assoc r s (b ∷ [])) t.1) in
    (q.0, (t.0, q.1))
  where
    more_cut : (v w : List ℕ) (c : ℕ) → CanCut v w → CanCut v (w ++ c ∷ [])
    more_cut v w c h t u =
        let e : (w ++ c ∷ []) ++ t ≡ w ++ c ∷ t = append_assoc w (c ∷ []) t in
        let q : IsUtf8 v × IsUtf8 (w ++ c ∷ t) = h (c ∷ t) (subst (λ x. IsUtf8 (v ++ x)) e u) in
        (q.0, subst IsUtf8 (sym e) q.1)
given_shift r s (whole f o bs ∷ xs) h t =
    let q : IsUtf8 r × IsUtf8 (s ++ []) = h [] (subst (λ x. IsUtf8 (r ++ x)) (sym (append-nil s)) t.0) in
    (q.0, (subst IsUtf8 (append-nil s) q.1, t.1, t.2, t.3))

space_low : (b : ℕ) → is_space b ≡ true → b < 128
space_low b e = grind (arith, nat_tests)

front_cut : (front ys : List Item) → AllPass (is_char_in is_space) front → AreGiven [] (front ++ ys) → AreGiven [] ys
front_cut [] ys p h = h
front_cut (char o b ∷ front) ys p h =
    front_cut front ys p.1 (given_shift (b ∷ []) [] (front ++ ys) (after_low [] b (space_low b p.0)) h.1).1
front_cut (whole f o bs ∷ front) ys p h = absurd (let z = p.0 in cc)

back_cut : (run : List ℕ) (ys back : List Item) → AllPass (is_char_in is_space) back → AreGiven run (ys ++ back) → AreGiven run ys
back_cut run [] [] p h = h
back_cut run [] (char o b ∷ back) p h = (given_shift run (b ∷ []) back (before_low run b (space_low b p.0)) h.1).0
back_cut run [] (whole f o bs ∷ back) p h = absurd (let z = p.0 in cc)
back_cut run (char o b ∷ ys) back p h = (h.0, back_cut (run ++ b ∷ []) ys back p h.1)
back_cut run (whole f o bs ∷ ys) back p h = (h.0, h.1, h.2, back_cut [] ys back p h.3)

pub given_trimmed : (xs : List Item) → AreGiven [] xs → AreGiven [] (trimmed_items xs)
given_trimmed xs h =
    let t : IsTrimmed (is_char_in is_space) xs (trimmed_items xs) = items_trimmed xs in
    let all = t.all in
    back_cut [] (trimmed_items xs) t.back t.back_passes
    (front_cut t.front (trimmed_items xs ++ t.back) t.front_passes (subst (AreGiven []) all h))

front_text : (front ys : List ℕ) → AllPass is_space front → IsUtf8 (front ++ ys) → IsUtf8 ys
front_text [] ys p u = u
front_text (b ∷ front) ys p u = front_text front ys p.1 (utf8_around [] (front ++ ys) b (space_low b p.0) u).1

back_text : (ys back : List ℕ) → AllPass is_space back → IsUtf8 (ys ++ back) → IsUtf8 ys
back_text ys [] p u = subst IsUtf8 (append-nil ys) u
back_text ys (b ∷ back) p u = (utf8_around ys back b (space_low b p.0) u).0

pub trimmed_utf8 : (bs : List ℕ) → IsUtf8 bs → IsUtf8 (trimmed bs)
trimmed_utf8 bs u =
    let t : IsTrimmed is_space bs (trimmed bs) = text_trimmed bs in
    let all = t.all in
    back_text (trimmed bs) t.back t.back_passes (front_text t.front (trimmed bs ++ t.back) t.front_passes (subst IsUtf8 all u))

-- ---- lexemes

given_form : (f : ItemForm) (bs : List ℕ) → (f ≡ form.EmptyCall → ⊥) → IsUtf8 bs → AllWhole (items_by f None bs) → AreGiven [] (items_by f None bs)
given_form form.Chars bs n u w = given_chars bs u
given_form (form.Entity c) bs n u w = (IsUtf8-nil, refl, (tt, (w.0, u)), IsUtf8-nil)
given_form form.Nowiki bs n u w = (IsUtf8-nil, refl, (tt, (w.0, u)), IsUtf8-nil)
given_form form.Extension bs n u w = (IsUtf8-nil, refl, (tt, (w.0, u)), IsUtf8-nil)
given_form form.Function bs n u w = (IsUtf8-nil, refl, (tt, (w.0, u)), IsUtf8-nil)
given_form form.Comment bs n u w = (IsUtf8-nil, refl, (tt, (w.0, u)), IsUtf8-nil)
given_form form.Include bs n u w = (IsUtf8-nil, refl, (tt, (w.0, u)), IsUtf8-nil)
given_form form.Hidden bs n u w = (IsUtf8-nil, refl, (tt, (w.0, u)), IsUtf8-nil)
given_form form.EmptyCall bs n u w = absurd (n refl)

raw_no_call : (o : Option Tag) → raw_form_by o ≡ form.EmptyCall → ⊥
raw_no_call None e = cc
raw_no_call (Some t) e = by_name (is_nowiki t.name) e
  where
    by_name : (b : Bool) → (if b then form.Nowiki else form.Extension) ≡ form.EmptyCall → ⊥
    by_name true e = cc
    by_name false e = cc

no_call : (kind : LexKind) (bs : List ℕ) → form_of kind bs ≡ form.EmptyCall → ⊥
no_call lex.Chars bs e = cc
no_call lex.CommentLine bs e = cc
no_call lex.Comment bs e = cc
no_call lex.Raw bs e = raw_no_call (opening_tag bs) e
no_call lex.Include bs e = cc
no_call lex.Hidden bs e = cc
no_call (lex.Entity c) bs e = cc
no_call lex.Opens bs e = cc
no_call lex.Closes bs e = cc
no_call lex.LinkOpen bs e = cc
no_call lex.LinkClose bs e = cc
no_call lex.Pipe bs e = cc
no_call lex.Equals bs e = cc

pub given_lexeme : (m : Mode) (kind : LexKind) (n : ℕ) (bs : List ℕ) → IsSoundLexeme m kind n bs → IsUtf8 (take n bs)
    → AreGiven [] (lexeme_items m kind (take n bs))
given_lexeme m kind n bs s u = by_removed (is_removed m kind) (whole_lexeme m kind n bs s)
  where
    by_removed : (t : Bool) → AllWhole (if t then [] else items_by (form_of kind (take n bs)) None (take n bs))
        → AreGiven [] (if t then [] else items_by (form_of kind (take n bs)) None (take n bs))
    by_removed true w = IsUtf8-nil
    by_removed false w = given_form (form_of kind (take n bs)) (take n bs) (no_call kind (take n bs)) u w

-- ---- a line break before what opens a block

pub given_break : (at_start : Bool) (xs : List Item) → AreGiven [] xs → AreGiven [] (with_break at_start xs)
given_break at_start xs h = by_test (opens_block xs && not at_start)
  where
    by_test : (t : Bool) → AreGiven [] (if t then char None 10 ∷ xs else xs)
    by_test true = given_both [] (char None 10 ∷ []) xs (given_chars (10 ∷ []) (one_byte 10 (omega arith))) h
    by_test false = h
