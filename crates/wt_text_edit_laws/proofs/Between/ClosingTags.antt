-- Closing tags of a name: a part that ends with a line break, a comment or a tag has the same ones whatever follows it. So a tag that nothing
-- closes stays open where what follows becomes something else without its closing tag.
use Rattle.std.proofs.Common.{arith, ◌≡◌, ◌≢◌, ℕ, zero, suc, ◌+◌, ◌≤◌, ◌==◌, Bool, true, false, Option, Some, None, List, [], ◌∷◌, ◌++◌, length, drop, refl, sym, ap, ◌∙◌, subst}
use Rattle.std.specs.Prelude.{◌&&◌, ◌||◌, not, is_some, codes, if◌then◌else◌}
use Rattle.std.specs.Option.{option_map, option_or}
use Rattle.std.proofs.lemmas.List.{drop-append-le}
use Rattle.wt_span.specs.declared.form.Mode.TheVariants.{Page}
use Rattle.wt_span.specs.Bytes.{is_break, begins}
use Rattle.wt_span.specs.Tags.{Tag, opening_tag, closing_tag, len_if_named, to_closing, with_inside, is_raw_name, hides}
use Rattle.wt_span.specs.Lexemes.{form_at}
use Rattle.wt_lex.proofs.Begins.{and_left, and_right, begins_get}
use Rattle.wt_lex.proofs.TagForms.{OptTag, opening_fits}
use Rattle.wt_part_laws.specs.Lexer.{lexer}
use Rattle.wt_part_laws.specs.Scans.{skipped_by, AtStarts}
use Rattle.wt_text_edit_laws.specs.TextBetween.{is_end, AreEnded, ends_comment, ends_tag_before, ends_before}
use Rattle.wt_text_edit_laws.proofs.Between.LineWords.{lacks}
use Rattle.wt_text_edit_laws.proofs.Between.LineComments.{ends_behind, ends_dropped}
use Rattle.wt_text_edit_laws.proofs.Between.LineTags.{closing_same}

-- no closing tag of this name is in these bytes
abbrev pub Unclosed : List ℕ → List ℕ → Type 0
Unclosed name bs = to_closing name bs ≡ None

-- none of any name begins them
abbrev pub ClosesNothing : List ℕ → Type 0
ClosesNothing bs = closing_tag bs ≡ None

-- ---- one byte

here_none : (a b : Option ℕ) → option_or a (option_map (λ n. 1 + n) b) ≡ None → a ≡ None
here_none None b e = refl
here_none (Some n) b e = e

rest_none : (a b : Option ℕ) → option_or a (option_map (λ n. 1 + n) b) ≡ None → b ≡ None
rest_none a None e = refl
rest_none None (Some n) e = absurd (cc)
rest_none (Some m) (Some n) e = absurd (cc)

both_none : (a b : Option ℕ) → a ≡ None → b ≡ None → option_or a (option_map (λ n. 1 + n) b) ≡ None
both_none None None e f = refl
both_none None (Some n) e f = absurd (cc)
both_none (Some m) b e f = absurd (cc)

unclosed_here : (name : List ℕ) (b : ℕ) (bs : List ℕ) → Unclosed name (b ∷ bs) → len_if_named name (closing_tag (b ∷ bs)) ≡ None
unclosed_here name b bs h = here_none (len_if_named name (closing_tag (b ∷ bs))) (to_closing name bs) h

pub unclosed_rest : (name : List ℕ) (b : ℕ) (bs : List ℕ) → Unclosed name (b ∷ bs) → Unclosed name bs
unclosed_rest name b bs h = rest_none (len_if_named name (closing_tag (b ∷ bs))) (to_closing name bs) h

unclosed_more : (name : List ℕ) (b : ℕ) (bs : List ℕ) → len_if_named name (closing_tag (b ∷ bs)) ≡ None → Unclosed name bs → Unclosed name (b ∷ bs)
unclosed_more name b bs h g = both_none (len_if_named name (closing_tag (b ∷ bs))) (to_closing name bs) h g

pub unclosed_byte : (name : List ℕ) (b : ℕ) (bs : List ℕ) → ClosesNothing (b ∷ bs) → Unclosed name bs → Unclosed name (b ∷ bs)
unclosed_byte name b bs h g = unclosed_more name b bs (ap (len_if_named name) h) g

-- what begins one
no_tag : (t u : Bool) (o : Option Tag) → t ≡ false → (if t && u then o else None) ≡ None
no_tag false u o e = refl
no_tag true u o e = absurd (cc)

not_begun : (bs : List ℕ) → begins (codes "</") bs ≡ false → ClosesNothing bs
unfolding closing_tag
not_begun bs e = no_tag (begins (codes "</") bs) _ _ e

differs_at : (bs : List ℕ) (v : Bool) → begins (codes "</") bs ≡ v → (begins (codes "</") bs ≡ true → ⊥) → v ≡ false
differs_at bs false e f = refl
differs_at bs true e f = absurd (f e)

pub not_less : (b : ℕ) (bs : List ℕ) → b ≢ 60 → ClosesNothing (b ∷ bs)
not_less b bs h =
    not_begun (b ∷ bs) (differs_at (b ∷ bs) (begins (codes "</") (b ∷ bs)) refl
    (λ e. h (begins_get (codes "</") (b ∷ bs) e 0 (omega arith))))

pub not_slash : (x : ℕ) (bs : List ℕ) → x ≢ 47 → ClosesNothing (60 ∷ x ∷ bs)
not_slash x bs h =
    not_begun (60 ∷ x ∷ bs) (differs_at (60 ∷ x ∷ bs) (begins (codes "</") (60 ∷ x ∷ bs)) refl
    (λ e. h (begins_get (codes "</") (60 ∷ x ∷ bs) e 1 (omega arith))))

-- bytes without a `<`
less_not : (b : ℕ) → not (b == 60) ≡ true → b ≢ 60
less_not b e = λ is. let f : not (60 == 60) ≡ true = subst (λ (x : ℕ). not (x == 60) ≡ true) is e in absurd (cc)

pub unclosed_untagged : (name q rest : List ℕ) → lacks (λ b. b == 60) q ≡ true → Unclosed name rest → Unclosed name (q ++ rest)
unclosed_untagged name [] rest e h = h
unclosed_untagged name (b ∷ q) rest e h =
    unclosed_byte name b (q ++ rest) (not_less b (q ++ rest) (less_not b (and_left (not (b == 60)) (lacks (λ b. b == 60) q) e)))
    (unclosed_untagged name q rest (and_right (not (b == 60)) (lacks (λ b. b == 60) q) e) h)

-- ---- a part before another

pub unclosed_behind : (name ys rest : List ℕ) → Unclosed name (ys ++ rest) → Unclosed name rest
unclosed_behind name [] rest h = h
unclosed_behind name (b ∷ ys) rest h = unclosed_behind name ys rest (unclosed_rest name b (ys ++ rest) h)

pub unclosed_front : (name ys rest : List ℕ) → AreEnded ys → Unclosed name (ys ++ rest) → Unclosed name ys
unclosed_front name [] rest l h = refl
unclosed_front name (b ∷ ys) rest l h =
    unclosed_more name b ys (ap (len_if_named name) (sym (closing_same b ys rest l)) ∙ unclosed_here name b (ys ++ rest) h)
    (unclosed_front name ys rest (ends_behind is_end b ys l) (unclosed_rest name b (ys ++ rest) h))

pub unclosed_joined : (name ys rest : List ℕ) → AreEnded ys → Unclosed name ys → Unclosed name rest → Unclosed name (ys ++ rest)
unclosed_joined name [] rest l h g = g
unclosed_joined name (b ∷ ys) rest l h g =
    unclosed_more name b (ys ++ rest) (ap (len_if_named name) (closing_same b ys rest l) ∙ unclosed_here name b ys h)
    (unclosed_joined name ys rest (ends_behind is_end b ys l) (unclosed_rest name b ys h) g)

-- what follows may become something else without one
pub unclosed_other : (name ys rest other : List ℕ) → AreEnded ys → Unclosed name (ys ++ rest) → Unclosed name other → Unclosed name (ys ++ other)
unclosed_other name ys rest other l h g = unclosed_joined name ys other l (unclosed_front name ys rest l h) g

-- ---- a tag that stays open

-- each closing tag that isn't in these bytes isn't in those
abbrev pub ClosesNoMore : List ℕ → List ℕ → Type 0
ClosesNoMore rest other = (name : List ℕ) → Unclosed name rest → Unclosed name other

mapped_none : (f : ℕ → ℕ) (o : Option ℕ) → not (is_some (option_map f o)) ≡ true → o ≡ None
mapped_none f None e = refl
mapped_none f (Some n) e = absurd (cc)

-- what is left of them, wherever it begins, closes no more where what follows closes no more
abbrev pub KeepsClosings : List ℕ → Type 0
KeepsClosings q = (n : ℕ) (name rest other : List ℕ) → Unclosed name (drop n q ++ rest) → Unclosed name other → Unclosed name (drop n q ++ other)

pub ended_keeps : (q : List ℕ) → AreEnded q → KeepsClosings q
ended_keeps q l = λ n name rest other. unclosed_other name (drop n q) rest other (ends_dropped is_end n q l)

keeps_behind : (b : ℕ) (q : List ℕ) → KeepsClosings (b ∷ q) → KeepsClosings q
keeps_behind b q k = λ n. k (suc n)

still_open : (t : Tag) (q rest other : List ℕ) → KeepsClosings q → t.len ≤ length q → ClosesNoMore rest other
    → not (is_some (with_inside t (q ++ rest))) ≡ true → not (is_some (with_inside t (q ++ other))) ≡ true
unfolding with_inside
still_open t q rest other k le c = by t.alone
  where
    own : List ℕ
    own = drop t.len q

    none_there : to_closing t.name (drop t.len (q ++ rest)) ≡ None → to_closing t.name (drop t.len (q ++ other)) ≡ None
    none_there e =
        let here : Unclosed t.name (own ++ rest) = sym (ap (to_closing t.name) (drop-append-le t.len q rest le)) ∙ e in
        ap (to_closing t.name) (drop-append-le t.len q other le)
        ∙ k t.len t.name rest other here (c t.name (unclosed_behind t.name own rest here))

    by : (v : Bool) → not (is_some (if v then Some t.len else option_map (λ n. t.len + n) (to_closing t.name (drop t.len (q ++ rest))))) ≡ true
        → not (is_some (if v then Some t.len else option_map (λ n. t.len + n) (to_closing t.name (drop t.len (q ++ other))))) ≡ true
    by true e = e
    by false e =
        let none : to_closing t.name (drop t.len (q ++ other)) ≡ None = none_there (mapped_none (λ n. t.len + n) (to_closing t.name (drop t.len (q ++ rest))) e) in
        ap (λ (o : Option ℕ). not (is_some (option_map (λ n. t.len + n) o))) none

or_other : (c u n v w : Bool) → (v ≡ true → w ≡ true) → (if c then u || (n && v) else true) ≡ true → (if c then u || (n && w) else true) ≡ true
or_other false u n v w f e = refl
or_other true true n v w f e = refl
or_other true false true v w f e = f e
or_other true false false v w f e = e

tag_other : (q rest other : List ℕ) (o : Option Tag) → opening_tag q ≡ o → KeepsClosings q → ClosesNoMore rest other → ends_tag_before rest o q ≡ true
    → ends_tag_before other o q ≡ true
tag_other q rest other None e l c h = refl
tag_other q rest other (Some t) e l c h =
    let P : Option Tag → Type 0 = OptTag q in
    let fits = subst P e (opening_fits q) in
    or_other (is_raw_name t.name || hides Page t.name) (is_some (with_inside t q)) (not (hides Page t.name)) (not (is_some (with_inside t (q ++ rest))))
    (not (is_some (with_inside t (q ++ other)))) (still_open t q rest other l fits.within c) h

and_both : (u v : Bool) → u ≡ true → v ≡ true → (u && v) ≡ true
and_both true v e f = f
and_both false v e f = e

here_other : (q rest other : List ℕ) → KeepsClosings q → ClosesNoMore rest other → ends_before rest q ≡ true → ends_before other q ≡ true
here_other q rest other l c h =
    let comment : ends_comment q ≡ true = and_left (ends_comment q) (ends_tag_before rest (opening_tag q) q) h in
    let tag : ends_tag_before rest (opening_tag q) q ≡ true = and_right (ends_comment q) (ends_tag_before rest (opening_tag q) q) h in
    and_both (ends_comment q) (ends_tag_before other (opening_tag q) q) comment (tag_other q rest other (opening_tag q) refl l c tag)

pub ends_other_by : (rest other : List ℕ) (a : Bool) (n : ℕ) (q : List ℕ) → KeepsClosings q → ClosesNoMore rest other
    → AtStarts (lexer Page) (λ after here. ends_before rest here ≡ true) a n q → AtStarts (lexer Page) (λ after here. ends_before other here ≡ true) a n q
ends_other_by rest other a n [] l c h = h
ends_other_by rest other a (suc n) (b ∷ q) l c h = ends_other_by rest other (is_break b) n q (keeps_behind b q l) c h
ends_other_by rest other a zero (b ∷ q) l c h = (
  here_other (b ∷ q) rest other l c h.0,
  ends_other_by rest other (is_break b) (skipped_by (lexer Page) (form_at Page a (b ∷ q))) q (keeps_behind b q l) c h.1,
)

pub ends_other : (rest other : List ℕ) (a : Bool) (n : ℕ) (q : List ℕ) → AreEnded q → ClosesNoMore rest other
    → AtStarts (lexer Page) (λ after here. ends_before rest here ≡ true) a n q → AtStarts (lexer Page) (λ after here. ends_before other here ≡ true) a n q
ends_other rest other a n q l c h = ends_other_by rest other a n q (ended_keeps q l) c h
