-- Fewer braces make no call either, where those that are left stand in the same order; and braces of two parts with another sign between.
use Rattle.std.proofs.Common.{arith, ◌≡◌, ◌⊎◌, inl, inr, ℕ, ◌==◌, Bool, true, false, List, [], ◌∷◌, ◌++◌, map, refl, sym, ap, ◌∙◌, subst, append-nil}
use Rattle.std.specs.Prelude.{◌||◌, ◌&&◌, codes, nat_eq, if◌then◌else◌}
use Rattle.std.proofs.lemmas.Bool.{eqb-true}
use Rattle.std.proofs.lemmas.Bool.Decides.{nat_tests}
use Rattle.std.proofs.lemmas.List.{map-append}
use Rattle.wt_span.specs.declared.form.ItemForm.{ItemForm}
use Rattle.wt_span.specs.Bytes.{begins}
use Rattle.wt_span.specs.Items.{Item, char, whole, source, sources, sign, is_mark_form}
use Rattle.wt_expand.specs.PageItems.{page_items}
use Rattle.wt_expand.proofs.PageLaws.{page_sources}
use Rattle.wt_text_edit_laws.specs.NoCalls.{Brace, opening, closing, braces, NoneClose, NonePairs, CallsNothing, AreUnpaired, braces_of, IsSome, AreFewer, is_brace, AreUnbraced}
use Rattle.wt_text_edit_laws.specs.TypedPages.{IsTypedPage}
use Rattle.wt_text_edit_laws.specs.TextBetween.{EndsBy, is_end, AreEnded}
use Rattle.wt_text_edit_laws.proofs.Prose.InFront.{spelled_unbraced}
use Rattle.wt_text_edit_laws.proofs.Between.LineWords.{either}
use Rattle.wt_text_edit_laws.proofs.Between.LineComments.{ends_behind}
use Rattle.wt_text_edit_laws.proofs.Between.BraceWords.{none_pair}

-- ---- some of them, in order

pub all_some : (xs : List Brace) → IsSome xs xs
all_some [] = tt
all_some (x ∷ xs) = inl (refl, all_some xs)

pub some_more : (xs : List Brace) (y : Brace) (ys : List Brace) → IsSome xs ys → IsSome xs (y ∷ ys)
some_more [] y ys h = tt
some_more (x ∷ xs) y ys h = inr h

some_behind : (us xs ys : List Brace) → IsSome xs ys → IsSome xs (us ++ ys)
some_behind [] xs ys h = h
some_behind (a ∷ us) xs ys h = some_more xs a (us ++ ys) (some_behind us xs ys h)

pub some_both : (us vs xs ys : List Brace) → IsSome us vs → IsSome xs ys → IsSome (us ++ xs) (vs ++ ys)
some_both [] vs xs ys h g = some_behind vs xs ys g
some_both (a ∷ us) [] xs ys h g = absurd h
some_both (a ∷ us) (b ∷ vs) xs ys (inl h) g = inl (h.0, some_both us vs xs ys h.1 g)
some_both (a ∷ us) (b ∷ vs) xs ys (inr h) g = inr (some_both (a ∷ us) vs xs ys h g)

none_behind_first : (x : Brace) (ys : List Brace) → NoneClose (x ∷ ys) → NoneClose ys
none_behind_first opening ys h = h
none_behind_first closing ys h = absurd h

pub none_some : (xs ys : List Brace) → IsSome xs ys → NoneClose ys → NoneClose xs
none_some [] ys h g = tt
none_some (x ∷ xs) [] h g = absurd h
none_some (opening ∷ xs) (y ∷ ys) (inl h) g = none_some xs ys h.1 (none_behind_first y ys g)
none_some (closing ∷ xs) (y ∷ ys) (inl h) g = subst (λ (z : Brace). NoneClose (z ∷ ys)) (sym h.0) g
none_some (x ∷ xs) (y ∷ ys) (inr h) g = none_some (x ∷ xs) ys h (none_behind_first y ys g)

pairs_behind_first : (x : Brace) (ys : List Brace) → NonePairs (x ∷ ys) → NonePairs ys
pairs_behind_first opening ys h = none_pair ys h
pairs_behind_first closing ys h = h

pub pairs_some : (xs ys : List Brace) → IsSome xs ys → NonePairs ys → NonePairs xs
pairs_some [] ys h g = tt
pairs_some (x ∷ xs) [] h g = absurd h
pairs_some (opening ∷ xs) (y ∷ ys) (inl h) g = none_some xs ys h.1 (subst (λ (z : Brace). NonePairs (z ∷ ys)) (sym h.0) g)
pairs_some (closing ∷ xs) (y ∷ ys) (inl h) g = pairs_some xs ys h.1 (pairs_behind_first y ys g)
pairs_some (x ∷ xs) (y ∷ ys) (inr h) g = pairs_some (x ∷ xs) ys h (pairs_behind_first y ys g)

pub some_some : (xs ys zs : List Brace) → IsSome xs ys → IsSome ys zs → IsSome xs zs
some_some [] ys zs h g = tt
some_some (x ∷ xs) [] zs h g = absurd h
some_some (x ∷ xs) (y ∷ ys) [] h g = absurd g
some_some (x ∷ xs) (y ∷ ys) (z ∷ zs) h (inr g) = inr (some_some (x ∷ xs) (y ∷ ys) zs h g)
some_some (x ∷ xs) (y ∷ ys) (z ∷ zs) (inl h) (inl g) = inl (h.0 ∙ g.0, some_some xs ys zs h.1 g.1)
some_some (x ∷ xs) (y ∷ ys) (z ∷ zs) (inr h) (inl g) = inr (some_some (x ∷ xs) ys zs h g.1)

pub none_of : (xs : List Brace) → IsSome xs [] → xs ≡ []
none_of [] h = refl
none_of (x ∷ xs) h = absurd h

-- ---- one sign before others

first_false : (a b : Bool) → (a || b) ≡ false → a ≡ false
first_false false b e = refl
first_false true b e = e

second_false : (a b : Bool) → (a || b) ≡ false → b ≡ false
second_false false b e = e
second_false true b e = absurd (cc)

differs : (k s : ℕ) → (s == k) ≡ false → nat_eq k s ≡ false
differs k s e = grind (arith, nat_tests, e)

neither : (u v p q : Bool) (bs : List Brace) → u ≡ false → v ≡ false → (if u && p then opening ∷ bs else (if v && q then closing ∷ bs else bs)) ≡ bs
neither false false p q bs e f = refl
neither true v p q bs e f = absurd (cc)
neither false true p q bs e f = absurd (cc)

-- one that is no brace
pub no_brace : (s : ℕ) (ss : List ℕ) → is_brace s ≡ false → braces (s ∷ ss) ≡ braces ss
no_brace s [] e = neither (nat_eq 123 s) (nat_eq 125 s) false false [] (differs 123 s (first_false (s == 123) (s == 125) e)) (differs 125 s (second_false (s == 123) (s == 125) e))
no_brace s (t ∷ ss) e =
    neither (nat_eq 123 s) (nat_eq 125 s) (begins (codes "{") (t ∷ ss)) (begins (codes "}") (t ∷ ss)) (braces (t ∷ ss))
    (differs 123 s (first_false (s == 123) (s == 125) e)) (differs 125 s (second_false (s == 123) (s == 125) e))

-- ---- a part before another

-- nothing, or signs of which the last is no brace
abbrev pub EndsUnbraced : List ℕ → Type 0
EndsUnbraced [] = Unit {0}
EndsUnbraced (s ∷ []) = is_brace s ≡ false
EndsUnbraced (s ∷ t ∷ ss) = EndsUnbraced (t ∷ ss)

more_joined : (u v : Bool) (xs ys zs : List Brace) → zs ≡ xs ++ ys
    → (if u then opening ∷ zs else (if v then closing ∷ zs else zs)) ≡ (if u then opening ∷ xs else (if v then closing ∷ xs else xs)) ++ ys
more_joined true v xs ys zs e = ap (λ (bs : List Brace). opening ∷ bs) e
more_joined false true xs ys zs e = ap (λ (bs : List Brace). closing ∷ bs) e
more_joined false false xs ys zs e = e

pub braces_behind : (xs ys : List ℕ) → EndsUnbraced xs → braces (xs ++ ys) ≡ braces xs ++ braces ys
braces_behind [] ys h = refl
braces_behind (s ∷ []) ys h = no_brace s ys h ∙ sym (ap (λ (bs : List Brace). bs ++ braces ys) (no_brace s [] h))
braces_behind (s ∷ t ∷ ss) ys h =
    more_joined (begins (codes "{{") (s ∷ t ∷ ss)) (begins (codes "}}") (s ∷ t ∷ ss)) (braces (t ∷ ss)) (braces ys) (braces (t ∷ (ss ++ ys))) (braces_behind (t ∷ ss) ys h)

-- nothing, or signs of which the first is no brace
abbrev pub BeginsUnbraced : List ℕ → Type 0
BeginsUnbraced [] = Unit {0}
BeginsUnbraced (s ∷ ss) = is_brace s ≡ false

one_joined : (u v p q : Bool) (bs : List Brace) → p ≡ false → q ≡ false
    → (if u && p then opening ∷ bs else (if v && q then closing ∷ bs else bs)) ≡ (if u && false then opening ∷ [] else (if v && false then closing ∷ [] else [])) ++ bs
one_joined true true false false bs e f = refl
one_joined true false false false bs e f = refl
one_joined false true false false bs e f = refl
one_joined false false false false bs e f = refl
one_joined u v true q bs e f = absurd (cc)
one_joined u v false true bs e f = absurd (cc)

and_false : (u v : Bool) → u ≡ false → (u && v) ≡ false
and_false false v e = refl
and_false true v e = absurd (cc)

pub braces_before : (xs ys : List ℕ) → BeginsUnbraced ys → braces (xs ++ ys) ≡ braces xs ++ braces ys
braces_before xs [] h = ap braces (append-nil xs) ∙ sym (append-nil (braces xs))
braces_before [] (t ∷ ys) h = refl
braces_before (s ∷ []) (t ∷ ys) h =
    one_joined (nat_eq 123 s) (nat_eq 125 s) (begins (codes "{") (t ∷ ys)) (begins (codes "}") (t ∷ ys)) (braces (t ∷ ys))
    (and_false (nat_eq 123 t) _ (differs 123 t (first_false (t == 123) (t == 125) h))) (and_false (nat_eq 125 t) _ (differs 125 t (second_false (t == 123) (t == 125) h)))
braces_before (s ∷ r ∷ ss) (t ∷ ys) h =
    more_joined (begins (codes "{{") (s ∷ r ∷ ss)) (begins (codes "}}") (s ∷ r ∷ ss)) (braces (r ∷ ss)) (braces (t ∷ ys)) (braces (r ∷ (ss ++ t ∷ ys)))
    (braces_before (r ∷ ss) (t ∷ ys) h)

-- ---- items

pub items_behind_end : (xs ys : List Item) → EndsUnbraced (map sign xs) → braces_of (xs ++ ys) ≡ braces_of xs ++ braces_of ys
items_behind_end xs ys h = ap braces (map-append sign xs ys) ∙ braces_behind (map sign xs) (map sign ys) h

pub items_before_start : (xs ys : List Item) → BeginsUnbraced (map sign ys) → braces_of (xs ++ ys) ≡ braces_of xs ++ braces_of ys
items_before_start xs ys h = ap braces (map-append sign xs ys) ∙ braces_before (map sign xs) (map sign ys) h

pub whole_sign : (f : ItemForm) → is_brace (if is_mark_form f then 257 else 256) ≡ false
whole_sign f = by (is_mark_form f)
  where
    by : (v : Bool) → is_brace (if v then 257 else 256) ≡ false
    by true = refl
    by false = refl

-- ---- fewer

-- where they are, nothing is called
pub fewer_calm : (now was : List Item) → AreFewer now was → CallsNothing now
fewer_calm now was (inl h) = subst NonePairs (sym h) tt
fewer_calm now was (inr h) = pairs_some (braces_of now) (braces_of was) h.1 h.0

pub fewer_some : (now was : List Item) → AreFewer now was → IsSome (braces_of now) (braces_of was)
fewer_some now was (inl h) = subst (λ (bs : List Brace). IsSome bs (braces_of was)) (sym h) tt
fewer_some now was (inr h) = h.1

-- fewer than those that are fewer
pub fewer_again : (was now last : List Item) → AreFewer now was → AreFewer last now → AreFewer last was
fewer_again was now last h (inl g) = inl g
fewer_again was now last (inl h) (inr g) = inl (none_of (braces_of last) (subst (IsSome (braces_of last)) h g.1))
fewer_again was now last (inr h) (inr g) = inr (h.0, some_some (braces_of last) (braces_of now) (braces_of was) g.1 h.1)

-- ---- items without braces

pub none_unbraced : (xs : List Item) → AreUnbraced xs → braces_of xs ≡ []
none_unbraced [] h = refl
none_unbraced (char o b ∷ xs) h = no_brace b (map sign xs) h.0 ∙ none_unbraced xs h.1
none_unbraced (whole f o bs ∷ xs) h = no_brace (if is_mark_form f then 257 else 256) (map sign xs) (whole_sign f) ∙ none_unbraced xs h

pub unbraced_joined : (xs ys : List Item) → AreUnbraced xs → AreUnbraced ys → AreUnbraced (xs ++ ys)
unbraced_joined [] ys h g = g
unbraced_joined (char o b ∷ xs) ys h g = (h.0, unbraced_joined xs ys h.1 g)
unbraced_joined (whole f o bs ∷ xs) ys h g = unbraced_joined xs ys h g

pub unbraced_ends : (xs : List Item) → AreUnbraced xs → EndsUnbraced (map sign xs)
unbraced_ends [] h = tt
unbraced_ends (char o b ∷ []) h = h.0
unbraced_ends (whole f o bs ∷ []) h = whole_sign f
unbraced_ends (char o b ∷ y ∷ ys) h = unbraced_ends (y ∷ ys) h.1
unbraced_ends (whole f o bs ∷ y ∷ ys) h = unbraced_ends (y ∷ ys) h

pub unbraced_begins : (xs : List Item) → AreUnbraced xs → BeginsUnbraced (map sign xs)
unbraced_begins [] h = tt
unbraced_begins (char o b ∷ xs) h = h.0
unbraced_begins (whole f o bs ∷ xs) h = whole_sign f

pub page_unbraced : (q : List ℕ) → IsTypedPage q → AreUnbraced (page_items q)
page_unbraced q h = subst (λ (bs : List ℕ). AreUnbraced (page_items bs)) (sym h.is) (spelled_unbraced h.setting h.text)

-- those of a part that ends with a line break, a comment or a tag
end_unbraced : (b : ℕ) → is_end b ≡ true → is_brace b ≡ false
end_unbraced b e =
    let P : ℕ → Type 0 = λ (x : ℕ). is_brace x ≡ false in
    elim (either (b == 10) (b == 62) e) [
      | inl f ↦ subst P (sym (eqb-true b 10 f)) refl
      | inr f ↦ subst P (sym (eqb-true b 62 f)) refl
    ]

ends_rest : (test : ℕ → Bool) (us vs : List ℕ) → EndsBy test (us ++ vs) → EndsBy test vs
ends_rest test [] vs h = h
ends_rest test (u ∷ us) vs h = ends_rest test us vs (ends_behind test u (us ++ vs) h)

items_ended : (xs : List Item) → AreEnded (sources xs) → EndsUnbraced (map sign xs)
items_ended [] h = tt
items_ended (char o b ∷ []) h = end_unbraced b h
items_ended (whole f o bs ∷ []) h = whole_sign f
items_ended (x ∷ y ∷ ys) h = items_ended (y ∷ ys) (ends_rest is_end (source x) (sources (y ∷ ys)) h)

pub ended_unbraced : (bs : List ℕ) → AreEnded bs → EndsUnbraced (map sign (page_items bs))
ended_unbraced bs h = items_ended (page_items bs) (subst AreEnded (sym (page_sources bs)) h)
