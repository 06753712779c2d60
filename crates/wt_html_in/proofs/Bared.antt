-- Sections without the attributes that don't count: as many elements, and texts in UTF-8 as before.
use Rattle.std.proofs.Common.{◌≡◌, ◌<◌, length, drop, get_or, ℕ, suc, ◌+◌, ◌++◌, Bool, true, false, List, [], ◌∷◌, refl, sym, ap, ap₂, ◌∙◌}
use Rattle.std.proofs.lemmas.List.{drop_more}
use Rattle.std.specs.Prelude.{filter, ◌&&◌, if◌then◌else◌}
use Rattle.std.specs.Str.{is_utf8}
use Rattle.wt_html_grammar.specs.Markup.{Pair, Markup, Markups, text, node, empty, more}
use Rattle.wt_html_grammar.specs.Events.{append}
use Rattle.wt_html_elements.specs.declared.content.Attribute.{Attribute}
use Rattle.wt_html_elements.specs.declared.content.Content.{Content}
use Rattle.wt_html_elements.specs.Built.{pair, pairs, view_content, views as markups}
use Rattle.wt_schema.specs.Fit.{elements, elements_of_all}
use Rattle.wt_schema.specs.Sections.{is_section_name, is_mark_pair, bared, all_bared}
use Rattle.wt_html_nodes.specs.Texts.{are_utf8_values, is_utf8_markup, are_utf8_markups}
use Rattle.wt_html_nodes.proofs.Values.{and_left, and_right}

-- ---- how many elements

bared_count : (b : Bool) (name : List ℕ) (ps qs : List Pair) (c d : Markups) → elements_of_all d ≡ elements_of_all c
    → elements (if b then node name qs d else node name ps c) ≡ suc (elements_of_all c)
bared_count true name ps qs c d e = ap suc e
bared_count false name ps qs c d e = refl

mutual
  count_one : (t : Markup) → elements (bared t) ≡ elements t
  count_one (text bs) = refl
  count_one (node name ps c) = bared_count (is_section_name name) name ps (filter is_mark_pair ps) c (all_bared c) (count_bared c)

  pub count_bared : (ts : Markups) → elements_of_all (all_bared ts) ≡ elements_of_all ts
  count_bared empty = refl
  count_bared (more t ts) = ap₂ (λ m n. m + n) (count_one t) (count_bared ts)

-- ---- UTF-8

and_both : (a b : Bool) → a ≡ true → b ≡ true → (a && b) ≡ true
and_both true b e f = f
and_both false b e f = cc

mark_utf8 : (b : Bool) (p : Pair) (ps : List Pair) → is_utf8 p.1 ≡ true → are_utf8_values ps ≡ true → are_utf8_values (if b then p ∷ ps else ps) ≡ true
mark_utf8 true p ps e f = and_both (is_utf8 p.1) (are_utf8_values ps) e f
mark_utf8 false p ps e f = f

marks_utf8 : (ps : List Pair) → are_utf8_values ps ≡ true → are_utf8_values (filter is_mark_pair ps) ≡ true
marks_utf8 [] e = refl
marks_utf8 (p ∷ ps) e =
    mark_utf8 (is_mark_pair p) p (filter is_mark_pair ps) (and_left (is_utf8 p.1) (are_utf8_values ps) e)
    (marks_utf8 ps (and_right (is_utf8 p.1) (are_utf8_values ps) e))

bared_utf8 : (b : Bool) (name : List ℕ) (ps qs : List Pair) (c d : Markups) → are_utf8_values qs ≡ true → are_utf8_markups d ≡ true
    → is_utf8_markup (node name ps c) ≡ true → is_utf8_markup (if b then node name qs d else node name ps c) ≡ true
bared_utf8 true name ps qs c d e f h = and_both (are_utf8_values qs) (are_utf8_markups d) e f
bared_utf8 false name ps qs c d e f h = h

mutual
  utf8_one : (t : Markup) → is_utf8_markup t ≡ true → is_utf8_markup (bared t) ≡ true
  utf8_one (text bs) e = e
  utf8_one (node name ps c) e =
      bared_utf8 (is_section_name name) name ps (filter is_mark_pair ps) c (all_bared c)
      (marks_utf8 ps (and_left (are_utf8_values ps) (are_utf8_markups c) e))
      (utf8_bared c (and_right (are_utf8_values ps) (are_utf8_markups c) e)) e

  pub utf8_bared : (ts : Markups) → are_utf8_markups ts ≡ true → are_utf8_markups (all_bared ts) ≡ true
  utf8_bared empty e = refl
  utf8_bared (more t ts) e =
      and_both (is_utf8_markup (bared t)) (are_utf8_markups (all_bared ts)) (utf8_one t (and_left (is_utf8_markup t) (are_utf8_markups ts) e))
      (utf8_bared ts (and_right (is_utf8_markup t) (are_utf8_markups ts) e))

-- ---- contents behind others

pub append_push : (es : List Content) (c : Content) (ts : Markups) → append (markups (es ++ c ∷ [])) ts ≡ append (markups es) (more (view_content c) ts)
append_push [] c ts = refl
append_push (e ∷ es) c ts = ap (more (view_content e)) (append_push es c ts)

pub append_empty : (ts : Markups) → append ts empty ≡ ts
append_empty empty = refl
append_empty (more t ts) = ap (more t) (append_empty ts)

-- ---- steps of the code

pub bared_on : (vs ws : List Content) (c d : Content) (xs ys : List Content) (all : Markups) → ws ≡ vs ++ d ∷ [] → xs ≡ c ∷ ys
    → view_content d ≡ bared (view_content c)
    → append (markups vs) (all_bared (markups xs)) ≡ all → append (markups ws) (all_bared (markups ys)) ≡ all
bared_on vs ws c d xs ys all e f g h =
    ap (λ zs. append (markups zs) (all_bared (markups ys))) e ∙ append_push vs d (all_bared (markups ys))
    ∙ ap (λ m. append (markups vs) (more m (all_bared (markups ys)))) g
    ∙ ap (λ zs. append (markups vs) (all_bared (markups zs))) (sym f) ∙ h

pub bared_end : (vs xs : List Content) (all : Markups) → xs ≡ [] → append (markups vs) (all_bared (markups xs)) ≡ all → markups vs ≡ all
bared_end vs xs all e h =
    sym (append_empty (markups vs)) ∙ ap (λ zs. append (markups vs) (all_bared (markups zs))) (sym e) ∙ h

push_pair : (vs : List Attribute) (a : Attribute) (ps : List Pair) → pairs (vs ++ a ∷ []) ++ ps ≡ pairs vs ++ pair a ∷ ps
push_pair [] a ps = refl
push_pair (v ∷ vs) a ps = ap (λ qs. pair v ∷ qs) (push_pair vs a ps)

filter_on : (b : Bool) (p : Pair) (ps : List Pair) → b ≡ true → p ∷ ps ≡ (if b then p ∷ ps else ps)
filter_on true p ps e = refl
filter_on false p ps e = cc

filter_off : (b : Bool) (p : Pair) (ps : List Pair) → b ≡ false → ps ≡ (if b then p ∷ ps else ps)
filter_off true p ps e = cc
filter_off false p ps e = refl

pub mark_on : (vs ws : List Attribute) (a : Attribute) (xs ys : List Attribute) (all : List Pair) → ws ≡ vs ++ a ∷ [] → xs ≡ a ∷ ys
    → is_mark_pair (pair a) ≡ true
    → pairs vs ++ filter is_mark_pair (pairs xs) ≡ all → pairs ws ++ filter is_mark_pair (pairs ys) ≡ all
mark_on vs ws a xs ys all e f g h =
    let rest = filter is_mark_pair (pairs ys) in
    ap (λ zs. pairs zs ++ rest) e ∙ push_pair vs a rest ∙ ap (λ qs. pairs vs ++ qs) (filter_on (is_mark_pair (pair a)) (pair a) rest g)
    ∙ ap (λ zs. pairs vs ++ filter is_mark_pair (pairs zs)) (sym f) ∙ h

pub mark_off : (vs : List Attribute) (a : Attribute) (xs ys : List Attribute) (all : List Pair) → xs ≡ a ∷ ys → is_mark_pair (pair a) ≡ false
    → pairs vs ++ filter is_mark_pair (pairs xs) ≡ all → pairs vs ++ filter is_mark_pair (pairs ys) ≡ all
mark_off vs a xs ys all f g h =
    ap (λ qs. pairs vs ++ qs) (filter_off (is_mark_pair (pair a)) (pair a) (filter is_mark_pair (pairs ys)) g)
    ∙ ap (λ zs. pairs vs ++ filter is_mark_pair (pairs zs)) (sym f) ∙ h

no_pairs : (ps : List Pair) → ps ++ [] ≡ ps
no_pairs [] = refl
no_pairs (p ∷ ps) = ap (λ qs. p ∷ qs) (no_pairs ps)

pub marks_end : (vs xs : List Attribute) (all : List Pair) → xs ≡ [] → pairs vs ++ filter is_mark_pair (pairs xs) ≡ all → pairs vs ≡ all
marks_end vs xs all e h = sym (no_pairs (pairs vs)) ∙ ap (λ zs. pairs vs ++ filter is_mark_pair (pairs zs)) (sym e) ∙ h

-- ---- contents among which is no section

-- the content at a place is as it was, and those after it are
pub kept_on : (P : Type 0) (cs : List Content) (i : ℕ) (c : Content) → i < length cs → c ≡ get_or cs i c
    → bared (view_content c) ≡ view_content c
    → (all_bared (markups (drop i cs)) ≡ markups (drop i cs) → P) → all_bared (markups (drop (i + 1) cs)) ≡ markups (drop (i + 1) cs) → P
kept_on P cs i c l is f h s =
    let ys = drop (i + 1) cs in
    let e : drop i cs ≡ c ∷ ys = drop_more cs i c l ∙ ap (λ (x : Content). x ∷ ys) (sym is) in
    h (ap (λ zs. all_bared (markups zs)) e ∙ ap₂ more f s ∙ ap markups (sym e))
