-- Lines of comments in a content, by the text before each: where a line begins in the page, one begins in what is sent.
use Rattle.std.proofs.Common.{arith, ◌≡◌, ℕ, ◌+◌, ◌<◌, ◌≤◌, ◌==◌, Bool, true, false, Option, Some, None, List, [], ◌∷◌, ◌++◌, length, refl, sym, ap, ◌∙◌, subst, inl, inr, All}
use Rattle.std.specs.Prelude.{encode_utf8, zip}
use Rattle.std.specs.List.{AllByRecursion}
use Rattle.std.specs.Str.{chars, IsUtf8}
use Rattle.std.proofs.Math.Utf8.{encodes}
use Rattle.std.proofs.lemmas.Bool.{cases_lt}
use Rattle.std.proofs.lemmas.Bool.Decides.{nat_tests}
use Rattle.std.proofs.lemmas.List.{append_assoc}
use Rattle.std.proofs.lemmas.List.Elements.{All-head, All-tail}
use Rattle.std.proofs.lemmas.Str.{encode_ascii, encodes-chars}
use Rattle.wt_names.proofs.Ascii.{IsWide, encode_wide, encode_some}
use Rattle.wt_tree.specs.Source.{flat}
use Rattle.wt_tree.specs.Tree.{Label, Tree, tree, Trees, none, more}
use Rattle.wt_tree.specs.declared.edit_shape.InlineForm.{InlineForm}
use Rattle.wt_tree.specs.declared.edit_shape.InlineForm.TheVariants as inline
use Rattle.wt_tree.specs.EditShapes.{edit_shape}
use Rattle.wt_guards.specs.Content.{ContentSign, letter, thing, nearest, ends_line}
use Rattle.wt_guards.specs.Guards.{is_line_start}
use Rattle.wt_guards.specs.declared.role.Stretch.{Stretch}
use Rattle.wt_original.specs.Kept.{Kept, kept_nodes, kept_with, found_at}
use Rattle.wt_original.specs.Page.{Page}
use Rattle.wt_link_spelling.specs.Spelling.{kept_thing, opening_place, closing_place}
use Rattle.wt_beside_laws.specs.Led.{AreLed}
use Rattle.wt_beside_laws.specs.SentStyled.{text_then, found_then, or_nowiki, sent_by, sent_content}
use Rattle.wt_beside_laws.specs.Styled.{StyledContent, finished, sign, styled, signs_before, signs_in, delimiter}
use Rattle.wt_beside_laws.specs.OwnLed.{settled, is_line, FoundAt, NoLineBy, NoLines, LedBy, AreOwnLed}
use Rattle.wt_beside_laws.proofs.Marks.LedItems.{settled_append, settled_more, settled_is}
use Rattle.wt_beside_laws.proofs.Styled.OwnLed.{role_ends}
use Rattle.wt_inside_laws.specs.Contents.{Border, element, bold, italic, end, borders_by, borders_of, borders, onto_first, texts_by, texts_before, all_texts_before, texts, Slot, slots_from}
use Rattle.wt_inside_laws.specs.RetypedPieces.{Utf8By, AreUtf8}
use Rattle.wt_inside_laws.specs.TextEdits.{is_line_mark, ends_in_break, IsTyped, IsRetypedText}

-- ---- a line begins before each line of comments

abbrev pub LedAt : List Kept → Border → Bool → Type 0
LedAt ks (element n) v = is_line_mark (kept_with n ks) ≡ true → v ≡ true
LedAt ks (bold n) v = Unit {0}
LedAt ks (italic n) v = Unit {0}
LedAt ks end v = Unit {0}

abbrev begins_behind : List Kept → Border → Bool
begins_behind ks (element n) = is_line_mark (kept_with n ks)
begins_behind ks (bold n) = false
begins_behind ks (italic n) = false
begins_behind ks end = false

abbrev pub TextsLed : List Kept → Bool → List Border → List (List ℕ) → Type 0
TextsLed ks s bs [] = Unit {0}
TextsLed ks s [] (n ∷ ns) = Unit {0}
TextsLed ks s (b ∷ bs) (n ∷ ns) = LedAt ks b (settled n s) × TextsLed ks (begins_behind ks b) bs ns

led_more : (ks : List Kept) (b : Border) (v w : Bool) → v ≡ w → LedAt ks b v → LedAt ks b w
led_more ks b v w e h = subst (LedAt ks b) e h

at_more : (ks : List Kept) (b : Border) (v w : Bool) → (v ≡ true → w ≡ true) → LedAt ks b v → LedAt ks b w
at_more ks (element n) v w f h = λ e. f (h e)
at_more ks (bold n) v w f h = tt
at_more ks (italic n) v w f h = tt
at_more ks end v w f h = tt

-- so they are where a line begins before them
pub texts_more : (ks : List Kept) (bs : List Border) (ns : List (List ℕ)) (s v : Bool) → (s ≡ true → v ≡ true) → TextsLed ks s bs ns → TextsLed ks v bs ns
texts_more ks bs [] s v f h = tt
texts_more ks [] (n ∷ ns) s v f h = tt
texts_more ks (b ∷ bs) (n ∷ ns) s v f h = (at_more ks b (settled n s) (settled n v) (λ e. settled_more n s v f e) h.0, h.1)

-- ---- in the page

abbrev pub IsSome : List (List ℕ) → Type 0
IsSome [] = ⊥
IsSome (n ∷ ns) = Unit {0}

some_first : (x : List ℕ) (after : List (List ℕ)) → IsSome (onto_first x after)
some_first x [] = tt
some_first x (n ∷ ns) = tt

some_by : (f : InlineForm) (shown : List ℕ) (before : List (List ℕ) → List (List ℕ)) (after : List (List ℕ)) → IsSome after → IsSome (texts_by f shown before after)
some_by inline.Nothing shown before after h = h
some_by inline.Characters shown before after h = some_first shown after
some_by inline.Bold shown before after h = tt
some_by inline.Italic shown before after h = tt
some_by inline.Shown shown before after h = tt
some_by inline.PageLink shown before after h = tt
some_by inline.ExternalLink shown before after h = tt
some_by inline.Tag shown before after h = tt
some_by inline.Break shown before after h = tt
some_by inline.AsItStood shown before after h = tt

some_one : (t : Tree) (after : List (List ℕ)) → IsSome after → IsSome (texts_before t after)
some_one (tree l ts) after h = some_by (edit_shape l.kind).inline l.shown (λ os. all_texts_before ts os) after h

pub some_all : (ts : Trees) (after : List (List ℕ)) → IsSome after → IsSome (all_texts_before ts after)
some_all none after h = h
some_all (more t ts) after h = some_one t (all_texts_before ts after) (some_all ts after h)

first_led : (ks : List Kept) (s : Bool) (bs : List Border) (x : List ℕ) (after : List (List ℕ)) → IsSome after → TextsLed ks (settled x s) bs after
    → TextsLed ks s bs (onto_first x after)
first_led ks s bs x [] i h = absurd i
first_led ks s [] x (n ∷ ns) i h = tt
first_led ks s (b ∷ bs) x (n ∷ ns) i h = (led_more ks b (settled n (settled x s)) (settled (x ++ n) s) (sym (settled_append x n s)) h.0, h.1)

-- the page's node with its number
line_of_found : (block : Tree) (at : ℕ) (l : Label) (ts : Trees) (h : FoundAt block at (tree l ts)) → is_line_mark (kept_with l.id (kept_nodes block)) ≡ is_line (tree l ts)
line_of_found block at l ts h =
    ap is_line_mark h.1 ∙ role_ends block (found_at at h.0 (tree l ts)).extent (tree l ts)

element_no : (block : Tree) (at : ℕ) (l : Label) (ts : Trees) (s : Bool) (bs : List Border) (after : List (List ℕ))
    → FoundAt block at (tree l ts) × (is_line (tree l ts) ≡ false) → TextsLed (kept_nodes block) false bs after
    → (is_line_mark (kept_with l.id (kept_nodes block)) ≡ true → s ≡ true) × TextsLed (kept_nodes block) (is_line_mark (kept_with l.id (kept_nodes block))) bs after
element_no block at l ts s bs after h g =
    let z = line_of_found block at l ts h.0 ∙ h.1 in
    ((λ e. absurd (let no = sym z ∙ e in cc)), subst (λ (v : Bool). TextsLed (kept_nodes block) v bs after) (sym z) g)

element_led : (block : Tree) (at : ℕ) (l : Label) (ts : Trees) (s : Bool) (rest : Bool → Type 0) (bs : List Border) (after : List (List ℕ))
    → FoundAt block at (tree l ts) × (is_line (tree l ts) ≡ true → s ≡ true) × rest (is_line (tree l ts))
    → ((v : Bool) → rest v → TextsLed (kept_nodes block) v bs after)
    → (is_line_mark (kept_with l.id (kept_nodes block)) ≡ true → s ≡ true) × TextsLed (kept_nodes block) (is_line_mark (kept_with l.id (kept_nodes block))) bs after
element_led block at l ts s rest bs after h g =
    let z = line_of_found block at l ts h.0 in
    ((λ e. h.1 (sym z ∙ e)), subst (λ (v : Bool). TextsLed (kept_nodes block) v bs after) (sym z) (g (is_line (tree l ts)) h.2))

-- in a style there is none, wherever it is
style_no : (ks : List Kept) (bs ys : List Border) (before : List (List ℕ) → List (List ℕ)) (after : List (List ℕ))
    → ((zs : List Border) (os : List (List ℕ)) → IsSome os → ((v : Bool) → TextsLed ks v zs os) → (s : Bool) → TextsLed ks s (bs ++ zs) (before os))
    → TextsLed ks false ys after → TextsLed ks false ((bs ++ (end ∷ [])) ++ ys) (before ([] ∷ after))
style_no ks bs ys before after g h =
    subst (λ zs. TextsLed ks false zs (before ([] ∷ after))) (sym (append_assoc bs (end ∷ []) ys)) (g (end ∷ ys) ([] ∷ after) tt (λ v. (tt, h)) false)

no_by : (f : InlineForm) (block : Tree) (at : ℕ) (l : Label) (ts : Trees) (bs ys : List Border) (before : List (List ℕ) → List (List ℕ)) (after : List (List ℕ))
    (inside : Type 0) → IsSome after
    → (inside → (zs : List Border) (os : List (List ℕ)) → IsSome os → ((v : Bool) → TextsLed (kept_nodes block) v zs os) → (s : Bool)
    → TextsLed (kept_nodes block) s (bs ++ zs) (before os))
    → NoLineBy f block at l ts inside → ((v : Bool) → TextsLed (kept_nodes block) v ys after) → (s : Bool)
    → TextsLed (kept_nodes block) s (borders_by f l.id bs ++ ys) (texts_by f l.shown before after)
no_by inline.Nothing block at l ts bs ys before after inside i g h k s = k s
no_by inline.Characters block at l ts bs ys before after inside i g h k s = first_led (kept_nodes block) s ys l.shown after i (k (settled l.shown s))
no_by inline.Bold block at l ts bs ys before after inside i g h k s = (tt, style_no (kept_nodes block) bs ys before after (g h) (k false))
no_by inline.Italic block at l ts bs ys before after inside i g h k s = (tt, style_no (kept_nodes block) bs ys before after (g h) (k false))
no_by inline.Shown block at l ts bs ys before after inside i g h k s = element_no block at l ts s ys after h (k false)
no_by inline.PageLink block at l ts bs ys before after inside i g h k s = element_no block at l ts s ys after h (k false)
no_by inline.ExternalLink block at l ts bs ys before after inside i g h k s = element_no block at l ts s ys after h (k false)
no_by inline.Tag block at l ts bs ys before after inside i g h k s = element_no block at l ts s ys after h (k false)
no_by inline.Break block at l ts bs ys before after inside i g h k s = element_no block at l ts s ys after h (k false)
no_by inline.AsItStood block at l ts bs ys before after inside i g h k s = element_no block at l ts s ys after h (k false)

no_all : (ts : Trees) (block : Tree) (at : ℕ) (ys : List Border) (after : List (List ℕ)) → IsSome after → NoLines block at ts
    → ((v : Bool) → TextsLed (kept_nodes block) v ys after) → (s : Bool) → TextsLed (kept_nodes block) s (borders ts ++ ys) (all_texts_before ts after)
no_all none block at ys after i h k s = k s
no_all (more (tree l ts) us) block at ys after i h k s =
    subst (λ zs. TextsLed (kept_nodes block) s zs (texts_before (tree l ts) (all_texts_before us after))) (sym (append_assoc (borders_of (tree l ts)) (borders us) ys))
    (no_by (edit_shape l.kind).inline block at l ts (borders ts) (borders us ++ ys) (λ os. all_texts_before ts os) (all_texts_before us after)
    (NoLines block (at + length l.opening) ts) (some_all us after i) (λ n zs os j q v. no_all ts block (at + length l.opening) zs os j n q v) h.0
    (λ v. no_all us block (at + length (flat (tree l ts))) ys after i h.1 k v) s)

led_by : (f : InlineForm) (block : Tree) (at : ℕ) (s : Bool) (l : Label) (ts : Trees) (rest : Bool → Type 0) (ys : List Border) (after : List (List ℕ)) → IsSome after
    → LedBy f block at s l ts rest → ((v : Bool) → rest v → TextsLed (kept_nodes block) v ys after)
    → TextsLed (kept_nodes block) s (borders_by f l.id (borders ts) ++ ys) (texts_by f l.shown (λ os. all_texts_before ts os) after)
led_by inline.Nothing block at s l ts rest ys after i h g = absurd h
led_by inline.Characters block at s l ts rest ys after i h g = first_led (kept_nodes block) s ys l.shown after i (g (settled l.shown s) h.2)
led_by inline.Bold block at s l ts rest ys after i h g =
    (tt, style_no (kept_nodes block) (borders ts) ys (λ os. all_texts_before ts os) after (λ zs os j q v. no_all ts block (at + length l.opening) zs os j h.0 q v) (g false h.1))
led_by inline.Italic block at s l ts rest ys after i h g =
    (tt, style_no (kept_nodes block) (borders ts) ys (λ os. all_texts_before ts os) after (λ zs os j q v. no_all ts block (at + length l.opening) zs os j h.0 q v) (g false h.1))
led_by inline.Shown block at s l ts rest ys after i h g = element_led block at l ts s rest ys after h g
led_by inline.PageLink block at s l ts rest ys after i h g = element_led block at l ts s rest ys after h g
led_by inline.ExternalLink block at s l ts rest ys after i h g = element_led block at l ts s rest ys after h g
led_by inline.Tag block at s l ts rest ys after i h g = element_led block at l ts s rest ys after h g
led_by inline.Break block at s l ts rest ys after i h g = element_led block at l ts s rest ys after h g
led_by inline.AsItStood block at s l ts rest ys after i h g = element_led block at l ts s rest ys after h g

led_all : (ts : Trees) (block : Tree) (at : ℕ) (s : Bool) (ys : List Border) (after : List (List ℕ)) → IsSome after → AreOwnLed block at s ts
    → ((v : Bool) → TextsLed (kept_nodes block) v ys after) → TextsLed (kept_nodes block) s (borders ts ++ ys) (all_texts_before ts after)
led_all none block at s ys after i h k = k s
led_all (more (tree l ts) us) block at s ys after i h k =
    subst (λ zs. TextsLed (kept_nodes block) s zs (texts_before (tree l ts) (all_texts_before us after))) (sym (append_assoc (borders_of (tree l ts)) (borders us) ys))
    (led_by (edit_shape l.kind).inline block at s l ts (λ v. AreOwnLed block (at + length (flat (tree l ts))) v us) (borders us ++ ys) (all_texts_before us after)
    (some_all us after i) h (λ v q. led_all us block (at + length (flat (tree l ts))) v ys after i q k))

pub none_behind : (bs : List Border) → bs ++ [] ≡ bs
none_behind [] = refl
none_behind (b ∷ bs) = ap (λ cs. b ∷ cs) (none_behind bs)

pub own_texts_led : (block : Tree) (at : ℕ) (s : Bool) (ts : Trees) → AreOwnLed block at s ts → TextsLed (kept_nodes block) s (borders ts) (texts ts)
own_texts_led block at s ts h =
    subst (λ bs. TextsLed (kept_nodes block) s bs (texts ts)) (none_behind (borders ts)) (led_all ts block at s [] ([] ∷ []) tt h (λ v. tt))

-- ---- what was typed

ends_settled : (bs : List ℕ) (s : Bool) → ends_in_break bs ≡ true → settled bs s ≡ true
ends_settled [] s e = absurd (let no : false ≡ true = e in cc)
ends_settled (b ∷ bs) s e = settled_is (b ∷ bs) s (omega arith) ∙ e

pub settled_ends : (b : ℕ) (bs : List ℕ) (s : Bool) → settled (b ∷ bs) s ≡ true → ends_in_break (b ∷ bs) ≡ true
settled_ends b bs s e = sym (settled_is (b ∷ bs) s (omega arith)) ∙ e

typed_settled : (ks : List Kept) (old new : Slot) (s : Bool) (n : List ℕ) → IsTyped ks old new → old.text ≡ n
    → (lines : Option Kept) → is_line_mark lines ≡ true → (is_line_mark lines ≡ true → old.text ≡ [] → new.text ≡ [])
    → (is_line_mark lines ≡ true → ends_in_break old.text ≡ true → ends_in_break new.text ≡ true) → settled n s ≡ true → settled new.text s ≡ true
typed_settled ks old new s [] t i o e empty ended h = ap (λ bs. settled bs s) (empty e i) ∙ h
typed_settled ks old new s (c ∷ cs) t i o e empty ended h = ends_settled new.text s (ended e (ap ends_in_break i ∙ settled_ends c cs s h))

retyped_at : (ks : List Kept) (left : Option Border) (b : Border) (n m : List ℕ) (s : Bool)
    → IsRetypedText ks (record { left = left; text = n; right = Some b }, record { left = left; text = m; right = Some b }) → LedAt ks b (settled n s)
    → LedAt ks b (settled m s)
retyped_at ks left (element i) n m s (inl e) h = λ z. ap (λ bs. settled bs s) e ∙ h z
retyped_at ks left (element i) n m s (inr t) h = λ z.
    typed_settled ks (record { left = left; text = n; right = Some (element i) }) (record { left = left; text = m; right = Some (element i) }) s n t refl (kept_with i ks) z
    t.stays_empty t.stays_ended (h z)
retyped_at ks left (bold i) n m s t h = tt
retyped_at ks left (italic i) n m s t h = tt
retyped_at ks left end n m s t h = tt

pub retyped_led : (ks : List Kept) (left : Option Border) (bs : List Border) (ns ms : List (List ℕ)) (s : Bool) → length ns ≡ length ms
    → AllByRecursion (IsRetypedText ks) (zip (slots_from left bs ns) (slots_from left bs ms)) → TextsLed ks s bs ns → TextsLed ks s bs ms
retyped_led ks left bs [] [] s e t h = tt
retyped_led ks left bs [] (m ∷ ms) s e t h = absurd (omega (arith, e))
retyped_led ks left bs (n ∷ ns) [] s e t h = tt
retyped_led ks left [] (n ∷ ns) (m ∷ ms) s e t h = tt
retyped_led ks left (b ∷ bs) (n ∷ ns) (m ∷ ms) s e t h =
    (retyped_at ks left b n m s t.0 h.0, retyped_led ks (Some b) bs ns ms (begins_behind ks b) (omega (arith, e)) t.1 h.1)

-- ---- the signs of what is sent

near_led : (xs b c : List ContentSign) → nearest b ≡ nearest c → AreLed b xs → AreLed c xs
near_led [] b c e h = tt
near_led (letter x ∷ xs) b c e h = near_led xs (letter x ∷ b) (letter x ∷ c) refl h
near_led (thing t ∷ xs) b c e h = ((λ z. ap is_line_start (sym e) ∙ h.0 z), near_led xs (thing t ∷ b) (thing t ∷ c) refl h.1)

-- of characters
abbrev chars_settled : List ℕ → Bool → Bool
chars_settled [] s = s
chars_settled (c ∷ cs) s = chars_settled cs (c == 10)

wide_settled : (bs : List ℕ) (s : Bool) → All IsWide bs → 0 < length bs → settled bs s ≡ false
wide_settled [] s h some = absurd (omega (arith, some))
wide_settled (b ∷ []) s h some = let w : 128 ≤ b = All-head IsWide b [] h in grind (arith, nat_tests, w)
wide_settled (b ∷ c ∷ bs) s h some = wide_settled (c ∷ bs) (b == 10) (All-tail IsWide b (c ∷ bs) h) (omega arith)

char_settled : (c : ℕ) (s : Bool) → settled (encode_utf8 c) s ≡ (c == 10)
char_settled c s = elim (cases_lt c 128) [
  | inl small ↦ ap (λ bs. settled bs s) (encode_ascii c small)
  | inr wide ↦ wide_settled (encode_utf8 c) s (encode_wide c wide) (encode_some c) ∙ sym (other c wide)
]
  where
    other : (c : ℕ) → 128 ≤ c → (c == 10) ≡ false
    other c w = grind (arith, nat_tests, w)

all_settled : (cs : List ℕ) (s : Bool) → settled (encodes cs) s ≡ chars_settled cs s
all_settled [] s = refl
all_settled (c ∷ cs) s = settled_append (encode_utf8 c) (encodes cs) s ∙ ap (settled (encodes cs)) (char_settled c s) ∙ all_settled cs (c == 10)

text_settled : (text : List ℕ) (s : Bool) → IsUtf8 text → chars_settled (chars text) s ≡ settled text s
text_settled text s u = sym (all_settled (chars text) s) ∙ ap (λ bs. settled bs s) (encodes-chars text u)

letters_led : (cs : List ℕ) (t : StyledContent) (tail before : List ContentSign) (s : Bool) → (s ≡ true → is_line_start (nearest before) ≡ true)
    → ((bf : List ContentSign) → (chars_settled cs s ≡ true → is_line_start (nearest bf) ≡ true) → AreLed bf (signs_before t tail))
    → AreLed before (signs_before (text_then cs t) tail)
letters_led [] t tail before s f k = k before f
letters_led (c ∷ cs) t tail before s f k = letters_led cs t tail (letter c ∷ before) (c == 10) (λ e. e) k

found_led : (o : Option Kept) (ks : List Kept) (s : Bool) (ys : List Border) (after : List (List ℕ)) (t : StyledContent) (tail before : List ContentSign)
    → (s ≡ true → is_line_start (nearest before) ≡ true) → (is_line_mark o ≡ true → s ≡ true) → TextsLed ks (is_line_mark o) ys after
    → ((v : Bool) (bf : List ContentSign) → (v ≡ true → is_line_start (nearest bf) ≡ true) → TextsLed ks v ys after → AreLed bf (signs_before t tail))
    → AreLed before (signs_before (found_then o t) tail)
found_led None ks s ys after t tail before f h g k = k false before (λ e. absurd (cc)) g
found_led (Some q) ks s ys after t tail before f h g k = ((λ e. f (h e)), k (ends_line q.role) (kept_thing q ∷ before) (λ e. e) g)

or_led : (t : StyledContent) (kind : Bool) (place : Option Stretch) (before tail : List ContentSign) → AreLed before (signs_before t (delimiter kind place ∷ tail))
    → AreLed before (signs_before (or_nowiki t) (delimiter kind place ∷ tail))
or_led finished kind place before tail h = ((λ e. absurd (cc)), ((λ e. absurd (cc)), near_led tail (delimiter kind place ∷ before) _ refl h.1))
or_led (sign c t) kind place before tail h = h
or_led (styled k o c i t) kind place before tail h = h

first_cut : (ks : List Kept) (s : Bool) (bs : List Border) (x : List ℕ) (after : List (List ℕ)) → TextsLed ks s bs (onto_first x after) → TextsLed ks (settled x s) bs after
first_cut ks s bs x [] h = tt
first_cut ks s [] x (n ∷ ns) h = tt
first_cut ks s (b ∷ bs) x (n ∷ ns) h = (led_more ks b (settled (x ++ n) s) (settled n (settled x s)) (settled_append x n s) h.0, h.1)

-- what is behind a place of it is led
abbrev Behind : List Kept → List Border → List (List ℕ) → List ContentSign → Type 0
Behind ks ys after tail =
    (v : Bool) (bf : List ContentSign) → (v ≡ true → is_line_start (nearest bf) ≡ true) → TextsLed ks v ys after → AreLed bf tail

-- so it is of what is in a style
abbrev Within : List Kept → List Border → (List (List ℕ) → List (List ℕ)) → StyledContent → Type 0
Within ks bs before inside =
    (zs : List Border) (os : List (List ℕ)) (v : Bool) (bf tail : List ContentSign) → (v ≡ true → is_line_start (nearest bf) ≡ true)
    → TextsLed ks v (bs ++ zs) (before os) → Behind ks zs os tail → AreLed bf (signs_before inside tail)

style_led : (ks : List Kept) (kind : Bool) (o c : Option Stretch) (inside t : StyledContent) (bs ys : List Border) (texts_in : List (List ℕ) → List (List ℕ))
    (after : List (List ℕ)) (before tail : List ContentSign) → Within ks bs texts_in inside
    → TextsLed ks false ((bs ++ (end ∷ [])) ++ ys) (texts_in ([] ∷ after)) → Behind ks ys after (signs_before t tail)
    → AreLed before (signs_before (styled kind o c (or_nowiki inside) t) tail)
style_led ks kind o c inside t bs ys texts_in after before tail g h k =
    let d : ContentSign = delimiter kind o in
    let e : ContentSign = delimiter kind c in
    let rest : List ContentSign = signs_before t tail in
    let led : AreLed (d ∷ before) (signs_before inside (e ∷ rest)) =
    g (end ∷ ys) ([] ∷ after) false (d ∷ before) (e ∷ rest) (λ z. absurd (cc)) (subst (λ zs. TextsLed ks false zs (texts_in ([] ∷ after))) (append_assoc bs (end ∷ []) ys) h)
    (λ v bf f q. ((λ z. absurd (cc)), k false (e ∷ bf) (λ z. absurd (cc)) q.1)) in
    ((λ z. absurd (cc)), or_led inside kind c (d ∷ before) rest led)

sign_led : (f : InlineForm) (p : Page) (l : Label) (bs ys : List Border) (texts_in : List (List ℕ) → List (List ℕ)) (after : List (List ℕ)) (s : Bool)
    (inside t : StyledContent) (before tail : List ContentSign) (U : Type 0) → (s ≡ true → is_line_start (nearest before) ≡ true)
    → (U → Within p.kept bs texts_in inside) → Utf8By f l U → TextsLed p.kept s (borders_by f l.id bs ++ ys) (texts_by f l.shown texts_in after)
    → Behind p.kept ys after (signs_before t tail) → AreLed before (signs_before (sent_by f (kept_with l.id p.kept) l inside t) tail)
sign_led inline.Nothing p l bs ys texts_in after s inside t before tail U f g u h k = k s before f h
sign_led inline.Characters p l bs ys texts_in after s inside t before tail U f g u h k =
    letters_led (chars l.shown) t tail before s f
    (λ bf q. k (settled l.shown s) bf (λ e. q (text_settled l.shown s u ∙ e)) (first_cut p.kept s ys l.shown after h))
sign_led inline.Bold p l bs ys texts_in after s inside t before tail U f g u h k =
    style_led p.kept true (opening_place (kept_with l.id p.kept)) (closing_place (kept_with l.id p.kept)) inside t bs ys texts_in after before tail (g u) h.1 k
sign_led inline.Italic p l bs ys texts_in after s inside t before tail U f g u h k =
    style_led p.kept false (opening_place (kept_with l.id p.kept)) (closing_place (kept_with l.id p.kept)) inside t bs ys texts_in after before tail (g u) h.1 k
sign_led inline.Shown p l bs ys texts_in after s inside t before tail U f g u h k =
    found_led (kept_with l.id p.kept) p.kept s ys after t tail before f h.0 h.1 k
sign_led inline.PageLink p l bs ys texts_in after s inside t before tail U f g u h k =
    found_led (kept_with l.id p.kept) p.kept s ys after t tail before f h.0 h.1 k
sign_led inline.ExternalLink p l bs ys texts_in after s inside t before tail U f g u h k =
    found_led (kept_with l.id p.kept) p.kept s ys after t tail before f h.0 h.1 k
sign_led inline.Tag p l bs ys texts_in after s inside t before tail U f g u h k =
    found_led (kept_with l.id p.kept) p.kept s ys after t tail before f h.0 h.1 k
sign_led inline.Break p l bs ys texts_in after s inside t before tail U f g u h k =
    found_led (kept_with l.id p.kept) p.kept s ys after t tail before f h.0 h.1 k
sign_led inline.AsItStood p l bs ys texts_in after s inside t before tail U f g u h k =
    found_led (kept_with l.id p.kept) p.kept s ys after t tail before f h.0 h.1 k

signs_led : (us : Trees) (p : Page) (ys : List Border) (after : List (List ℕ)) (s : Bool) (before tail : List ContentSign)
    → (s ≡ true → is_line_start (nearest before) ≡ true) → AreUtf8 us → TextsLed p.kept s (borders us ++ ys) (all_texts_before us after)
    → Behind p.kept ys after tail → AreLed before (signs_before (sent_content p us) tail)
signs_led none p ys after s before tail f u h k = k s before f h
signs_led (more (tree l ts) us) p ys after s before tail f u h k =
    sign_led (edit_shape l.kind).inline p l (borders ts) (borders us ++ ys) (λ os. all_texts_before ts os) (all_texts_before us after) s (sent_content p ts)
    (sent_content p us) before tail (AreUtf8 ts) f (λ q zs os v bf tl d t r. signs_led ts p zs os v bf tl d q t r) u.0
    (subst (λ zs. TextsLed p.kept s zs (texts_before (tree l ts) (all_texts_before us after))) (append_assoc (borders_of (tree l ts)) (borders us) ys) h)
    (λ v bf d q. signs_led us p ys after v bf tail d u.1 q k)

pub sent_led : (p : Page) (us : Trees) → AreUtf8 us → TextsLed p.kept true (borders us) (texts us) → AreLed [] (signs_in (sent_content p us))
sent_led p us u h =
    signs_led us p [] ([] ∷ []) true [] [] (λ e. refl) u (subst (λ bs. TextsLed p.kept true bs (texts us)) (sym (none_behind (borders us))) h) (λ v bf f q. tt)
