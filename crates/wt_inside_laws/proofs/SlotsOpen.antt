-- What is sent for a retyped block has the block's nodes on its lines: so a tag that nothing closes on its line isn't closed in what is sent, either.
use Rattle.std.proofs.Common.{arith, ◌≡◌, ℕ, zero, suc, ◌+◌, ◌≤◌, ◌==◌, Bool, true, false, Option, Some, None, List, [], ◌∷◌, ◌++◌, length, map, refl, sym, ap, ◌∙◌, inl, inr, All}
use Rattle.std.specs.Prelude.{encode_utf8, fold, zip, cond, if◌then◌else◌}
use Rattle.std.specs.List.{AllByRecursion}
use Rattle.std.specs.Str.{chars, IsUtf8}
use Rattle.std.proofs.Math.Utf8.{encodes}
use Rattle.std.proofs.lemmas.Bool.{cases_lt}
use Rattle.std.proofs.lemmas.Bool.Decides.{nat_tests}
use Rattle.std.proofs.lemmas.List.{append_assoc}
use Rattle.std.proofs.lemmas.List.Elements.{All-head, All-tail}
use Rattle.std.proofs.lemmas.Str.{encode_ascii, encodes-chars}
use Rattle.wt_names.proofs.Ascii.{IsWide, encode_wide}
use Rattle.wt_tree.specs.Tree.{Label, tree, Trees, none, more}
use Rattle.wt_tree.specs.declared.edit_shape.InlineForm.{InlineForm}
use Rattle.wt_tree.specs.declared.edit_shape.InlineForm.TheVariants as inline
use Rattle.wt_tree.specs.EditShapes.{edit_shape}
use Rattle.wt_guards.specs.Content.{ContentSign, Thing, letter, thing}
use Rattle.wt_guards.specs.declared.role.Role.TheVariants as role
use Rattle.wt_guards.specs.declared.role.Stretch.{Stretch}
use Rattle.wt_guards.specs.Guards.{nowiki}
use Rattle.wt_original.specs.Kept.{Kept, kept_with}
use Rattle.wt_original.specs.Page.{Page}
use Rattle.wt_link_spelling.specs.Spelling.{kept_thing, opening_place, closing_place}
use Rattle.wt_tiles.specs.Glyphs.{glyph_of, byte_glyphs}
use Rattle.wt_beside_laws.specs.NodeItems.{node_items}
use Rattle.wt_beside_laws.specs.OpenTags.{is_tagged, sign_on, spine}
use Rattle.wt_beside_laws.specs.SentStyled.{text_then, found_then, or_nowiki, sent_by, sent_content}
use Rattle.wt_beside_laws.specs.Styled.{StyledContent, finished, sign, styled, mark_source, signs_before, signs_in, delimiter}
use Rattle.wt_beside_laws.proofs.Styled.OwnSpine.{breaks, found_on, spine_on, tree_spine, all_spine}
use Rattle.wt_beside_laws.proofs.Styled.StyledLines.{mark_glyphs}
use Rattle.wt_beside_laws.proofs.Styled.StyledNodes.{own_nowiki}
use Rattle.wt_inside_laws.specs.Contents.{Border, element, bold, italic, end, borders_by, borders_of, borders, onto_first, texts_by, texts_before, all_texts_before, texts, Slot, slots_from}
use Rattle.wt_inside_laws.specs.RetypedPieces.{Utf8By, AreUtf8}
use Rattle.wt_inside_laws.specs.TextEdits.{breaks_of, IsRetypedText}
use Rattle.wt_inside_laws.proofs.SlotsLed.{IsSome, some_all, none_behind}

-- ---- texts with what is between them

abbrev border_on : List Kept → Border → List (Option Thing) → List (Option Thing)
border_on ks (element n) rest = found_on (kept_with n ks) rest
border_on ks (bold n) rest = rest
border_on ks (italic n) rest = rest
border_on ks end rest = rest

abbrev pub spine_by : List Kept → List Border → List (List ℕ) → List (Option Thing)
spine_by ks bs [] = []
spine_by ks [] (n ∷ ns) = breaks n []
spine_by ks (b ∷ bs) (n ∷ ns) = breaks n (border_on ks b (spine_by ks bs ns))

-- ---- the line breaks of a text

breaks_append : (xs ys : List ℕ) (rest : List (Option Thing)) → breaks (xs ++ ys) rest ≡ breaks xs (breaks ys rest)
breaks_append [] ys rest = refl
breaks_append (x ∷ xs) ys rest = ap (λ (os : List (Option Thing)). if x == 10 then None ∷ os else os) (breaks_append xs ys rest)

no_ten : (b : ℕ) → 128 ≤ b → (b == 10) ≡ false
no_ten b le = grind (arith, nat_tests)

wide_breaks : (bs : List ℕ) (rest : List (Option Thing)) → All IsWide bs → breaks bs rest ≡ rest
wide_breaks [] rest h = refl
wide_breaks (b ∷ bs) rest h =
    ap (λ (v : Bool). if v then None ∷ breaks bs rest else breaks bs rest) (no_ten b (All-head IsWide b bs h)) ∙ wide_breaks bs rest (All-tail IsWide b bs h)

char_breaks : (c : ℕ) (rest : List (Option Thing)) → breaks (encode_utf8 c) rest ≡ (if c == 10 then None ∷ rest else rest)
char_breaks c rest = elim (cases_lt c 128) [
  | inl small ↦ ap (λ (bs : List ℕ). breaks bs rest) (encode_ascii c small)
  | inr wide ↦ wide_breaks (encode_utf8 c) rest (encode_wide c wide) ∙ ap (λ (v : Bool). if v then None ∷ rest else rest) (sym (no_ten c wide))
]

letters_on : (cs : List ℕ) (t : StyledContent) (tail : List ContentSign) → spine (signs_before (text_then cs t) tail) ≡ breaks (encodes cs) (spine (signs_before t tail))
letters_on [] t tail = refl
letters_on (c ∷ cs) t tail =
    let rest : List (Option Thing) = breaks (encodes cs) (spine (signs_before t tail)) in
    ap (sign_on (letter c)) (letters_on cs t tail)
    ∙ sym (char_breaks c rest)
    ∙ sym (breaks_append (encode_utf8 c) (encodes cs) (spine (signs_before t tail)))

text_on : (text : List ℕ) (t : StyledContent) (tail : List ContentSign) → IsUtf8 text
    → spine (signs_before (text_then (chars text) t) tail) ≡ breaks text (spine (signs_before t tail))
text_on text t tail u = letters_on (chars text) t tail ∙ ap (λ (bs : List ℕ). breaks bs (spine (signs_before t tail))) (encodes-chars text u)

first_on : (ks : List Kept) (ys : List Border) (x : List ℕ) (after : List (List ℕ)) → IsSome after → breaks x (spine_by ks ys after) ≡ spine_by ks ys (onto_first x after)
first_on ks ys x [] i = absurd i
first_on ks [] x (n ∷ ns) i = sym (breaks_append x n [])
first_on ks (b ∷ ys) x (n ∷ ns) i = sym (breaks_append x n (border_on ks b (spine_by ks ys ns)))

-- ---- a block by its texts

-- of what is in a node, before what follows
abbrev HeldSo : List Kept → List Border → (List (List ℕ) → List (List ℕ)) → (List (Option Thing) → List (Option Thing)) → Type 0
HeldSo ks bs texts_in held =
    (zs : List Border) (os : List (List ℕ)) → IsSome os → spine_by ks (bs ++ zs) (texts_in os) ≡ held (spine_by ks zs os)

held_so : (ks : List Kept) (bs ys : List Border) (texts_in : List (List ℕ) → List (List ℕ)) (held : List (Option Thing) → List (Option Thing)) (after : List (List ℕ))
    → HeldSo ks bs texts_in held → spine_by ks ((bs ++ (end ∷ [])) ++ ys) (texts_in ([] ∷ after)) ≡ held (spine_by ks ys after)
held_so ks bs ys texts_in held after g =
    ap (λ (zs : List Border). spine_by ks zs (texts_in ([] ∷ after))) (append_assoc bs (end ∷ []) ys) ∙ g (end ∷ ys) ([] ∷ after) tt

form_so : (f : InlineForm) (ks : List Kept) (l : Label) (bs ys : List Border) (texts_in : List (List ℕ) → List (List ℕ))
    (held : List (Option Thing) → List (Option Thing)) (after : List (List ℕ)) → IsSome after → HeldSo ks bs texts_in held
    → spine_by ks (borders_by f l.id bs ++ ys) (texts_by f l.shown texts_in after) ≡ spine_on f (kept_with l.id ks) l.shown held (spine_by ks ys after)
form_so inline.Nothing ks l bs ys texts_in held after i g = refl
form_so inline.Characters ks l bs ys texts_in held after i g = sym (first_on ks ys l.shown after i)
form_so inline.Bold ks l bs ys texts_in held after i g = held_so ks bs ys texts_in held after g
form_so inline.Italic ks l bs ys texts_in held after i g = held_so ks bs ys texts_in held after g
form_so inline.Shown ks l bs ys texts_in held after i g = refl
form_so inline.PageLink ks l bs ys texts_in held after i g = refl
form_so inline.ExternalLink ks l bs ys texts_in held after i g = refl
form_so inline.Tag ks l bs ys texts_in held after i g = refl
form_so inline.Break ks l bs ys texts_in held after i g = refl
form_so inline.AsItStood ks l bs ys texts_in held after i g = refl

trees_so : (us : Trees) (ks : List Kept) (ys : List Border) (after : List (List ℕ)) → IsSome after
    → spine_by ks (borders us ++ ys) (all_texts_before us after) ≡ all_spine ks us (spine_by ks ys after)
trees_so none ks ys after i = refl
trees_so (more (tree l ts) us) ks ys after i =
    let f : InlineForm = (edit_shape l.kind).inline in
    ap (λ (zs : List Border). spine_by ks zs (texts_before (tree l ts) (all_texts_before us after))) (append_assoc (borders_of (tree l ts)) (borders us) ys)
    ∙ form_so f ks l (borders ts) (borders us ++ ys) (λ os. all_texts_before ts os) (λ os. all_spine ks ts os) (all_texts_before us after) (some_all us after i)
    (λ zs os j. trees_so ts ks zs os j)
    ∙ ap (tree_spine ks (tree l ts)) (trees_so us ks ys after i)

pub block_spine : (ks : List Kept) (us : Trees) → spine_by ks (borders us) (texts us) ≡ all_spine ks us []
block_spine ks us = ap (λ (bs : List Border). spine_by ks bs (texts us)) (sym (none_behind (borders us))) ∙ trees_so us ks [] ([] ∷ []) tt

-- ---- what is put

mark_untagged : (kind : Bool) → is_tagged (map glyph_of (node_items (mark_source kind))) ≡ false
mark_untagged kind = ap is_tagged (mark_glyphs kind) ∙ by kind
  where
    by : (b : Bool) → is_tagged (byte_glyphs (mark_source b)) ≡ false
    by true = refl
    by false = refl

mark_off : (kind : Bool) (place : Option Stretch) (rest : List ContentSign) → spine (delimiter kind place ∷ rest) ≡ spine rest
mark_off kind place rest =
    let t : Thing = record { role = role.Toggle; source = mark_source kind; place = place } in
    ap (λ (v : Bool). if v then Some t ∷ spine rest else spine rest) (mark_untagged kind)

nowiki_off : (rest : List ContentSign) → spine (thing (record { role = role.Node; source = nowiki; place = None }) ∷ rest) ≡ spine rest
nowiki_off rest =
    let t : Thing = record { role = role.Node; source = nowiki; place = None } in
    ap (λ (v : Bool). if v then Some t ∷ spine rest else spine rest) (ap is_tagged (own_nowiki t refl))

or_on : (t : StyledContent) (tail : List ContentSign) → spine (signs_before (or_nowiki t) tail) ≡ spine (signs_before t tail)
or_on finished tail = nowiki_off tail
or_on (sign c t) tail = refl
or_on (styled k o c i t) tail = refl

-- ---- what is sent

abbrev Within : List Kept → List Border → (List (List ℕ) → List (List ℕ)) → StyledContent → Type 0
Within ks bs texts_in inside =
    (zs : List Border) (os : List (List ℕ)) (tail : List ContentSign) → IsSome os → spine tail ≡ spine_by ks zs os
    → spine (signs_before inside tail) ≡ spine_by ks (bs ++ zs) (texts_in os)

style_on : (ks : List Kept) (kind : Bool) (o c : Option Stretch) (inside t : StyledContent) (bs ys : List Border) (texts_in : List (List ℕ) → List (List ℕ))
    (after : List (List ℕ)) (tail : List ContentSign) → Within ks bs texts_in inside → spine (signs_before t tail) ≡ spine_by ks ys after
    → spine (signs_before (styled kind o c (or_nowiki inside) t) tail) ≡ spine_by ks ((bs ++ (end ∷ [])) ++ ys) (texts_in ([] ∷ after))
style_on ks kind o c inside t bs ys texts_in after tail g k =
    let rest : List ContentSign = signs_before t tail in
    mark_off kind o (signs_before (or_nowiki inside) (delimiter kind c ∷ rest))
    ∙ or_on inside (delimiter kind c ∷ rest)
    ∙ g (end ∷ ys) ([] ∷ after) (delimiter kind c ∷ rest) tt (mark_off kind c rest ∙ k)
    ∙ ap (λ (zs : List Border). spine_by ks zs (texts_in ([] ∷ after))) (sym (append_assoc bs (end ∷ []) ys))

found_so : (o : Option Kept) (t : StyledContent) (tail : List ContentSign) (rest : List (Option Thing)) → spine (signs_before t tail) ≡ rest
    → spine (signs_before (found_then o t) tail) ≡ found_on o rest
found_so None t tail rest k = k
found_so (Some q) t tail rest k = ap (sign_on (kept_thing q)) k

sign_so : (f : InlineForm) (p : Page) (l : Label) (bs ys : List Border) (texts_in : List (List ℕ) → List (List ℕ)) (after : List (List ℕ))
    (inside t : StyledContent) (tail : List ContentSign) (U : Type 0) → IsSome after → (U → Within p.kept bs texts_in inside) → Utf8By f l U
    → spine (signs_before t tail) ≡ spine_by p.kept ys after
    → spine (signs_before (sent_by f (kept_with l.id p.kept) l inside t) tail) ≡ spine_by p.kept (borders_by f l.id bs ++ ys) (texts_by f l.shown texts_in after)
sign_so inline.Nothing p l bs ys texts_in after inside t tail U i g u k = k
sign_so inline.Characters p l bs ys texts_in after inside t tail U i g u k =
    text_on l.shown t tail u ∙ ap (breaks l.shown) k ∙ first_on p.kept ys l.shown after i
sign_so inline.Bold p l bs ys texts_in after inside t tail U i g u k =
    style_on p.kept true (opening_place (kept_with l.id p.kept)) (closing_place (kept_with l.id p.kept)) inside t bs ys texts_in after tail (g u) k
sign_so inline.Italic p l bs ys texts_in after inside t tail U i g u k =
    style_on p.kept false (opening_place (kept_with l.id p.kept)) (closing_place (kept_with l.id p.kept)) inside t bs ys texts_in after tail (g u) k
sign_so inline.Shown p l bs ys texts_in after inside t tail U i g u k = found_so (kept_with l.id p.kept) t tail (spine_by p.kept ys after) k
sign_so inline.PageLink p l bs ys texts_in after inside t tail U i g u k = found_so (kept_with l.id p.kept) t tail (spine_by p.kept ys after) k
sign_so inline.ExternalLink p l bs ys texts_in after inside t tail U i g u k = found_so (kept_with l.id p.kept) t tail (spine_by p.kept ys after) k
sign_so inline.Tag p l bs ys texts_in after inside t tail U i g u k = found_so (kept_with l.id p.kept) t tail (spine_by p.kept ys after) k
sign_so inline.Break p l bs ys texts_in after inside t tail U i g u k = found_so (kept_with l.id p.kept) t tail (spine_by p.kept ys after) k
sign_so inline.AsItStood p l bs ys texts_in after inside t tail U i g u k = found_so (kept_with l.id p.kept) t tail (spine_by p.kept ys after) k

signs_so : (us : Trees) (p : Page) (ys : List Border) (after : List (List ℕ)) (tail : List ContentSign) → IsSome after → AreUtf8 us
    → spine tail ≡ spine_by p.kept ys after → spine (signs_before (sent_content p us) tail) ≡ spine_by p.kept (borders us ++ ys) (all_texts_before us after)
signs_so none p ys after tail i u k = k
signs_so (more (tree l ts) us) p ys after tail i u k =
    sign_so (edit_shape l.kind).inline p l (borders ts) (borders us ++ ys) (λ os. all_texts_before ts os) (all_texts_before us after) (sent_content p ts)
    (sent_content p us) tail (AreUtf8 ts) (some_all us after i) (λ q zs os tl j r. signs_so ts p zs os tl j q r) u.0 (signs_so us p ys after tail i u.1 k)
    ∙ ap (λ (zs : List Border). spine_by p.kept zs (texts_before (tree l ts) (all_texts_before us after))) (sym (append_assoc (borders_of (tree l ts)) (borders us) ys))

pub sent_spine : (p : Page) (us : Trees) → AreUtf8 us → spine (signs_in (sent_content p us)) ≡ spine_by p.kept (borders us) (texts us)
sent_spine p us u = signs_so us p [] ([] ∷ []) [] tt u refl ∙ ap (λ (bs : List Border). spine_by p.kept bs (texts us)) (none_behind (borders us))

-- ---- what was typed: as many line breaks

abbrev count : List ℕ → ℕ
count [] = zero
count (b ∷ bs) = if b == 10 then suc (count bs) else count bs

abbrev ends : ℕ → List (Option Thing) → List (Option Thing)
ends zero rest = rest
ends (suc n) rest = None ∷ ends n rest

breaks_are : (bs : List ℕ) (rest : List (Option Thing)) → breaks bs rest ≡ ends (count bs) rest
breaks_are [] rest = refl
breaks_are (b ∷ bs) rest = by (b == 10) (breaks_are bs rest)
  where
    by : (v : Bool) → breaks bs rest ≡ ends (count bs) rest → (if v then None ∷ breaks bs rest else breaks bs rest) ≡ ends (if v then suc (count bs) else count bs) rest
    by true e = ap (λ (os : List (Option Thing)). None ∷ os) e
    by false e = e

count_from : (bs : List ℕ) (a : ℕ) → fold (λ n b. n + cond (b == 10) 1 0) a bs ≡ a + count bs
count_from [] a = omega arith
count_from (b ∷ bs) a = by (b == 10) (λ c. count_from bs c)
  where
    by : (v : Bool) → ((c : ℕ) → fold (λ n b. n + cond (b == 10) 1 0) c bs ≡ c + count bs)
        → fold (λ n b. n + cond (b == 10) 1 0) (a + cond v 1 0) bs ≡ a + (if v then suc (count bs) else count bs)
    by true f = f (a + 1) ∙ omega arith
    by false f = f (a + 0) ∙ omega arith

counted : (bs : List ℕ) → breaks_of bs ≡ count bs
counted bs = count_from bs 0 ∙ omega arith

text_so : (ks : List Kept) (old new : Slot) (rest : List (Option Thing)) → IsRetypedText ks (old, new) → breaks new.text rest ≡ breaks old.text rest
text_so ks old new rest (inl e) = ap (λ (bs : List ℕ). breaks bs rest) e
text_so ks old new rest (inr t) =
    breaks_are new.text rest
    ∙ ap (λ (n : ℕ). ends n rest) (sym (counted new.text) ∙ t.breaks ∙ counted old.text)
    ∙ sym (breaks_are old.text rest)

pub retyped_spine : (ks : List Kept) (left : Option Border) (bs : List Border) (ns ms : List (List ℕ)) → length ns ≡ length ms
    → AllByRecursion (IsRetypedText ks) (zip (slots_from left bs ns) (slots_from left bs ms)) → spine_by ks bs ms ≡ spine_by ks bs ns
retyped_spine ks left bs [] [] e t = refl
retyped_spine ks left bs [] (m ∷ ms) e t = absurd (omega (arith, e))
retyped_spine ks left bs (n ∷ ns) [] e t = absurd (omega (arith, e))
retyped_spine ks left [] (n ∷ ns) (m ∷ ms) e t =
    text_so ks (record { left = left; text = n; right = None }) (record { left = left; text = m; right = None }) [] t.0
retyped_spine ks left (b ∷ bs) (n ∷ ns) (m ∷ ms) e t =
    text_so ks (record { left = left; text = n; right = Some b }) (record { left = left; text = m; right = Some b }) (border_on ks b (spine_by ks bs ms)) t.0
    ∙ ap (λ (os : List (Option Thing)). breaks n (border_on ks b os)) (retyped_spine ks (Some b) bs ns ms (omega (arith, e)) t.1)
