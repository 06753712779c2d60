-- The texts between the nodes of a paragraph with calls: where the page has one that is deleted, `<nowiki/>` is put in its place, or something else is no call.
use Rattle.std.proofs.Common.{arith, ◌≡◌, ◌⊎◌, ℕ, Bool, true, false, Option, Some, None, List, [], ◌∷◌, ◌++◌, length, refl, sym, ap, ◌∙◌, subst, inl, inr}
use Rattle.std.specs.Prelude.{zip}
use Rattle.std.specs.List.{AllByRecursion}
use Rattle.std.specs.Str.{chars, IsUtf8}
use Rattle.std.proofs.Math.Utf8.{encodes}
use Rattle.std.proofs.lemmas.Str.{encodes-chars}
use Rattle.wt_tree.specs.Tree.{Label, tree, Trees, none, more}
use Rattle.wt_tree.specs.declared.edit_shape.InlineForm.{InlineForm}
use Rattle.wt_tree.specs.declared.edit_shape.InlineForm.TheVariants as inline
use Rattle.wt_tree.specs.declared.edit_shape.Place.TheVariants as place
use Rattle.wt_tree.specs.EditShapes.{edit_shape}
use Rattle.wt_guards.specs.Content.{ContentSign, is_group}
use Rattle.wt_guards.specs.Guards.{Setting, is_new_at_start, is_new_last, is_adjacent, is_guarded}
use Rattle.wt_content.specs.Content.{has_break}
use Rattle.wt_original.specs.Kept.{Kept, kept_with}
use Rattle.wt_original.specs.Page.{Page}
use Rattle.wt_link_spelling.specs.Spelling.{kept_thing}
use Rattle.wt_beside_laws.specs.Called.{HasUncalled}
use Rattle.wt_beside_laws.specs.SentStyled.{text_then, found_then, sent_by, sent_content}
use Rattle.wt_beside_laws.specs.Styled.{StyledContent, signs_in}
use Rattle.wt_beside_laws.specs.StyledBlocks.{thing_of}
use Rattle.wt_inside_laws.specs.Contents.{Border, element, bold, italic, end, borders_by, borders, onto_first, texts_by, all_texts_before, texts, slots_from}
use Rattle.wt_inside_laws.specs.RetypedPieces.{Utf8By, AreUtf8}
use Rattle.wt_inside_laws.specs.TextEdits.{IsRetypedText}
use Rattle.wt_inside_laws.proofs.Breaks.{count_unbroken}
use Rattle.wt_inside_laws.proofs.SlotsFirst.{texts_some}
use Rattle.wt_inside_laws.proofs.UncalledGuards.{first_guarded, none_guarded, last_guarded, both_guarded}

-- ---- what is there

abbrev pub SomeBytes : List ℕ → Type 0
SomeBytes [] = ⊥
SomeBytes (b ∷ bs) = Unit {0}

-- it is known, and of it this holds
abbrev pub IsThere : Option Kept → (Kept → Type 0) → Type 0
IsThere None P = ⊥
IsThere (Some k) P = P k

-- Between a node and the next one the page has something; where none is before it, a group wasn't at the start.
abbrev pub IsParted : Option Kept → Kept → Type 0
IsParted None k = is_group k.role ≡ true → is_new_at_start k.role ≡ true
IsParted (Some j) k = is_adjacent (thing_of j) (thing_of k) ≡ false

-- and behind the last one
abbrev pub IsPartedLast : Option Kept → Type 0
IsPartedLast None = Unit {0}
IsPartedLast (Some j) = is_group j.role ≡ true → is_new_last j.role ≡ true

-- ---- in the page, up to the first style

-- where a text is, it parts what is beside it
abbrev pub PageParted : List Kept → Option Kept → List Border → List (List ℕ) → Type 0
PageParted ks left bs [] = Unit {0}
PageParted ks left [] (n ∷ ns) = SomeBytes n → IsPartedLast left
PageParted ks left (element i ∷ bs) (n ∷ ns) =
    IsThere (kept_with i ks) (λ k. (SomeBytes n → has_break n ≡ false → IsParted left k) × PageParted ks (Some k) bs ns)
PageParted ks left (bold i ∷ bs) (n ∷ ns) = Unit {0}
PageParted ks left (italic i ∷ bs) (n ∷ ns) = Unit {0}
PageParted ks left (end ∷ bs) (n ∷ ns) = Unit {0}

-- a text is there, or a node that is no group, or a style
abbrev pub PageSome : List Kept → List Border → List (List ℕ) → Type 0
PageSome ks bs [] = ⊥
PageSome ks [] (n ∷ ns) = SomeBytes n
PageSome ks (element i ∷ bs) (n ∷ ns) = SomeBytes n ⊎ (IsThere (kept_with i ks) (λ k. is_group k.role ≡ false) ⊎ PageSome ks bs ns)
PageSome ks (bold i ∷ bs) (n ∷ ns) = Unit {0}
PageSome ks (italic i ∷ bs) (n ∷ ns) = Unit {0}
PageSome ks (end ∷ bs) (n ∷ ns) = Unit {0}

-- ---- in what is sent

-- a text is there, or something that the page has is gone, or a node that is no group is there, or a style
abbrev pub NewSome : List Kept → Option Kept → List Border → List (List ℕ) → Type 0
NewSome ks left bs [] = ⊥
NewSome ks left [] (m ∷ ms) = SomeBytes m ⊎ IsPartedLast left
NewSome ks left (element i ∷ bs) (m ∷ ms) =
    SomeBytes m ⊎ IsThere (kept_with i ks) (λ k. IsParted left k ⊎ ((is_group k.role ≡ false) ⊎ NewSome ks (Some k) bs ms))
NewSome ks left (bold i ∷ bs) (m ∷ ms) = Unit {0}
NewSome ks left (italic i ∷ bs) (m ∷ ms) = Unit {0}
NewSome ks left (end ∷ bs) (m ∷ ms) = Unit {0}

there_some : (q : Option Kept) (left : Option Kept) (n : List ℕ) (P Q : Kept → Type 0) (S : Type 0)
    → IsThere q (λ k. (SomeBytes n → has_break n ≡ false → IsParted left k) × P k) → (SomeBytes n → has_break n ≡ false)
    → SomeBytes n ⊎ (IsThere q (λ k. is_group k.role ≡ false) ⊎ S) → ((k : Kept) → P k → S → Q k)
    → IsThere q (λ k. IsParted left k ⊎ ((is_group k.role ≡ false) ⊎ Q k))
there_some None left n P Q S p u s f = absurd p
there_some (Some k) left n P Q S p u s f = elim s [
  | inl some ↦ inl (p.0 some (u some))
  | inr r ↦ elim r [
    | inl g ↦ inr (inl g)
    | inr w ↦ inr (inr (f k p.1 w))
  ]
]

no_bytes : (n : List ℕ) → [] ≡ n → SomeBytes n → ⊥
no_bytes [] e s = s
no_bytes (b ∷ bs) e s = let no = ap length e in omega (arith, no)

-- where a text is deleted, it has no line break
deleted_unbroken : (ks : List Kept) (left right : Option Border) (n : List ℕ)
    → IsRetypedText ks (record { left = left; text = n; right = right }, record { left = left; text = []; right = right }) → SomeBytes n → has_break n ≡ false
deleted_unbroken ks left right n (inl e) s = absurd (no_bytes n e s)
deleted_unbroken ks left right n (inr r) s = count_unbroken n (sym r.breaks)

pub new_some : (ks : List Kept) (o : Option Border) (left : Option Kept) (bs : List Border) (ns ms : List (List ℕ)) → length ns ≡ length ms
    → AllByRecursion (IsRetypedText ks) (zip (slots_from o bs ns) (slots_from o bs ms)) → PageParted ks left bs ns → PageSome ks bs ns → NewSome ks left bs ms
new_some ks o left bs [] ms e t p s = absurd s
new_some ks o left bs (n ∷ ns) [] e t p s = absurd (omega (arith, e))
new_some ks o left [] (n ∷ ns) (m ∷ ms) e t p s = inr (p s)
new_some ks o left (element i ∷ bs) (n ∷ ns) ((c ∷ cs) ∷ ms) e t p s = inl tt
new_some ks o left (element i ∷ bs) (n ∷ ns) ([] ∷ ms) e t p s =
    inr (there_some (kept_with i ks) left n (λ k. PageParted ks (Some k) bs ns) (λ k. NewSome ks (Some k) bs ms) (PageSome ks bs ns) p
    (deleted_unbroken ks o (Some (element i)) n t.0) s (λ k w z. new_some ks (Some (element i)) (Some k) bs ns ms (omega (arith, e)) t.1 w z))
new_some ks o left (bold i ∷ bs) (n ∷ ns) (m ∷ ms) e t p s = tt
new_some ks o left (italic i ∷ bs) (n ∷ ns) (m ∷ ms) e t p s = tt
new_some ks o left (end ∷ bs) (n ∷ ns) (m ∷ ms) e t p s = tt

-- ---- its signs

-- nothing is before, or this group
abbrev pub IsBehind : Option Kept → List ContentSign → Type 0
IsBehind None before = before ≡ []
IsBehind (Some k) [] = ⊥
IsBehind (Some k) (c ∷ before) = (c ≡ kept_thing k) × (is_group k.role ≡ true)

parted_guarded : (s : Setting) (left : Option Kept) (before : List ContentSign) (k : Kept) (after : List ContentSign) → s.within ≡ false → IsBehind left before
    → is_group k.role ≡ true → IsParted left k → is_guarded s before (kept_thing k ∷ after) ≡ true
parted_guarded s None before k after w b g p =
    ap (λ (bs : List ContentSign). is_guarded s bs (kept_thing k ∷ after)) b ∙ first_guarded s (thing_of k) after w (p g)
parted_guarded s (Some j) [] k after w b g p = absurd b
parted_guarded s (Some j) (c ∷ before) k after w b g p =
    ap (λ (d : ContentSign). is_guarded s (d ∷ before) (kept_thing k ∷ after)) b.0 ∙ both_guarded s (thing_of j) (thing_of k) before after b.1 g p

end_guarded : (s : Setting) (left : Option Kept) (before : List ContentSign) → s.within ≡ false → s.place ≡ place.Paragraph → IsBehind left before
    → IsPartedLast left → is_guarded s before [] ≡ true
end_guarded s None before w q b p = ap (λ (bs : List ContentSign). is_guarded s bs []) b ∙ none_guarded s w
end_guarded s (Some j) [] w q b p = absurd b
end_guarded s (Some j) (c ∷ before) w q b p =
    ap (λ (d : ContentSign). is_guarded s (d ∷ before) []) b.0 ∙ last_guarded s (thing_of j) before w q (p b.1)

-- a node of the page
element_uncalled : (o : Option Kept) (s : Setting) (left : Option Kept) (before : List ContentSign) (t : StyledContent) (Q : Kept → Type 0) → s.within ≡ false
    → IsBehind left before → SomeBytes [] ⊎ IsThere o (λ k. IsParted left k ⊎ ((is_group k.role ≡ false) ⊎ Q k))
    → ((k : Kept) → is_group k.role ≡ true → Q k → HasUncalled s (kept_thing k ∷ before) (signs_in t)) → HasUncalled s before (signs_in (found_then o t))
element_uncalled None s left before t Q w b h f = elim h [
  | inl z ↦ absurd z
  | inr z ↦ absurd z
]
element_uncalled (Some k) s left before t Q w b h f = by (is_group k.role) refl
  where
    by : (v : Bool) → is_group k.role ≡ v → HasUncalled s before (signs_in (found_then (Some k) t))
    by false e = inr (inl e)
    by true e = elim h [
      | inl z ↦ absurd z
      | inr d ↦ elim d [
        | inl p ↦ inl (parted_guarded s left before k (signs_in t) w b e p)
        | inr r ↦ elim r [
          | inl g ↦ let no : true ≡ false = sym e ∙ g in absurd (cc)
          | inr q ↦ inr (inr (f k e q))
        ]
      ]
    ]

letters_uncalled : (cs : List ℕ) (s : Setting) (before : List ContentSign) (t : StyledContent) → (cs ≡ [] → HasUncalled s before (signs_in t))
    → HasUncalled s before (signs_in (text_then cs t))
letters_uncalled [] s before t h = h refl
letters_uncalled (c ∷ cs) s before t h = tt

no_chars : (text : List ℕ) → IsUtf8 text → chars text ≡ [] → text ≡ []
no_chars text u e = sym (encodes-chars text u) ∙ ap encodes e

pub onto_none : (os : List (List ℕ)) → (os ≡ [] → ⊥) → onto_first [] os ≡ os
onto_none [] h = absurd (h refl)
onto_none (n ∷ ns) h = refl

without_first : (ks : List Kept) (left : Option Kept) (bs : List Border) (x : List ℕ) (os : List (List ℕ)) → (os ≡ [] → ⊥) → x ≡ []
    → NewSome ks left bs (onto_first x os) → NewSome ks left bs os
without_first ks left bs x os some e h =
    subst (NewSome ks left bs) (onto_none os some) (subst (λ (cs : List ℕ). NewSome ks left bs (onto_first cs os)) e h)

sign_uncalled : (f : InlineForm) (p : Page) (s : Setting) (left : Option Kept) (before : List ContentSign) (l : Label) (bs ys : List Border)
    (before_texts : List (List ℕ) → List (List ℕ)) (after : List (List ℕ)) (inside t : StyledContent) (U : Type 0) → s.within ≡ false → IsBehind left before
    → (after ≡ [] → ⊥) → Utf8By f l U → NewSome p.kept left (borders_by f l.id bs ++ ys) (texts_by f l.shown before_texts after)
    → (NewSome p.kept left ys after → HasUncalled s before (signs_in t))
    → ((k : Kept) → is_group k.role ≡ true → NewSome p.kept (Some k) ys after → HasUncalled s (kept_thing k ∷ before) (signs_in t))
    → HasUncalled s before (signs_in (sent_by f (kept_with l.id p.kept) l inside t))
sign_uncalled inline.Nothing p s left before l bs ys before_texts after inside t U w b some u h g k = g h
sign_uncalled inline.Characters p s left before l bs ys before_texts after inside t U w b some u h g k =
    letters_uncalled (chars l.shown) s before t (λ e. g (without_first p.kept left ys l.shown after some (no_chars l.shown u e) h))
sign_uncalled inline.Bold p s left before l bs ys before_texts after inside t U w b some u h g k = inr (inl refl)
sign_uncalled inline.Italic p s left before l bs ys before_texts after inside t U w b some u h g k = inr (inl refl)
sign_uncalled inline.Shown p s left before l bs ys before_texts after inside t U w b some u h g k =
    element_uncalled (kept_with l.id p.kept) s left before t (λ j. NewSome p.kept (Some j) ys after) w b h k
sign_uncalled inline.PageLink p s left before l bs ys before_texts after inside t U w b some u h g k =
    element_uncalled (kept_with l.id p.kept) s left before t (λ j. NewSome p.kept (Some j) ys after) w b h k
sign_uncalled inline.ExternalLink p s left before l bs ys before_texts after inside t U w b some u h g k =
    element_uncalled (kept_with l.id p.kept) s left before t (λ j. NewSome p.kept (Some j) ys after) w b h k
sign_uncalled inline.Tag p s left before l bs ys before_texts after inside t U w b some u h g k =
    element_uncalled (kept_with l.id p.kept) s left before t (λ j. NewSome p.kept (Some j) ys after) w b h k
sign_uncalled inline.Break p s left before l bs ys before_texts after inside t U w b some u h g k =
    element_uncalled (kept_with l.id p.kept) s left before t (λ j. NewSome p.kept (Some j) ys after) w b h k
sign_uncalled inline.AsItStood p s left before l bs ys before_texts after inside t U w b some u h g k =
    element_uncalled (kept_with l.id p.kept) s left before t (λ j. NewSome p.kept (Some j) ys after) w b h k

nothing_uncalled : (s : Setting) (left : Option Kept) (before : List ContentSign) → s.within ≡ false → s.place ≡ place.Paragraph → IsBehind left before
    → SomeBytes [] ⊎ IsPartedLast left → is_guarded s before [] ≡ true
nothing_uncalled s left before w q b (inl z) = absurd z
nothing_uncalled s left before w q b (inr p) = end_guarded s left before w q b p

pub sent_uncalled : (us : Trees) (p : Page) (s : Setting) (left : Option Kept) (before : List ContentSign) → s.within ≡ false → s.place ≡ place.Paragraph
    → IsBehind left before → AreUtf8 us → NewSome p.kept left (borders us) (texts us) → HasUncalled s before (signs_in (sent_content p us))
sent_uncalled none p s left before w q b u h = nothing_uncalled s left before w q b h
sent_uncalled (more (tree l ts) us) p s left before w q b u h =
    sign_uncalled (edit_shape l.kind).inline p s left before l (borders ts) (borders us) (λ os. all_texts_before ts os) (texts us) (sent_content p ts)
    (sent_content p us) (AreUtf8 ts) w b (λ z. texts_some us z) u.0 h (λ z. sent_uncalled us p s left before w q b u.1 z)
    (λ k e z. sent_uncalled us p s (Some k) (kept_thing k ∷ before) w q (refl, e) u.1 z)
