-- The frame of a document.
use Rattle.std.proofs.Common.{◌≡◌, ℕ, suc, ◌+◌, ◌<◌, ◌^◌, Bool, true, false, Option, Some, None, Result, Ok, Err, List, [], ◌∷◌, ◌++◌, refl, sym, ap, ◌∙◌, arith, subst, codes, length}
use Rattle.std.specs.Prelude.{if◌then◌else◌, ◌&&◌, ◌≤◌, IfOk}
use Rattle.std.specs.Option.{option_or}
use Rattle.std.specs.Str.{bytes_eq}
use Rattle.wt_span.specs.declared.memory.NoMemory.{NoMemory}
use Rattle.wt_tree.specs.declared.kind.Kind.TheVariants as kind
use Rattle.wt_tree.specs.Tree.{tree}
use Rattle.wt_tree.specs.View.{view, views}
use Rattle.wt_tree.specs.declared.node.Node.{Node}
use Rattle.wt_html_grammar.specs.Markup.{Pair, Markup, Markups, text, node, empty, more}
use Rattle.wt_html_elements.specs.declared.content.Content.{Content}
use Rattle.wt_html_elements.specs.Built.{view_content, pairs, views as markups}
use Rattle.wt_html_grammar.specs.Events.{append}
use Rattle.wt_html_in.specs.declared.frame.BodyElement.{BodyElement}
use Rattle.wt_schema.specs.Groups.{Piece}
use Rattle.wt_schema.specs.Fit.{Misfit, within, with_children, elements, elements_of_all, fit_body_told, body_data, fit_nodes, elements_in, body_in, body_of, BodyElement as FoundBody}
use Rattle.wt_schema.specs.Unsourced.{is_marked, unsourced_nodes}
use Rattle.wt_html_nodes.specs.Texts.{are_utf8_values, is_utf8_markup, are_utf8_markups}
use Rattle.wt_html_nodes.specs.declared.fault.FitFault.{FitFault}
use Rattle.wt_html_nodes.specs.declared.fault.FitFault.TheVariants as faults
use Rattle.wt_html_nodes.specs.declared.head.Head.{Head}
use Rattle.wt_html_in.specs.declared.walk.Traversal.{Traversal}
use Rattle.wt_html_in.specs.declared.edited.Edited.{Edited}
use Rattle.wt_html_in.specs.Answers.{body_of as body_told, unsourced_of}
use Rattle.wt_html_nodes.specs.Heads.{label_of_head, BodyFits}
use Rattle.wt_html_in.specs.Fits.{held_in, FitsNodes}
use Rattle.wt_html_in.specs.Frame.{found_of, found_if_any, is_element, number_behind_one, number_behind, body_as, is_root, marked_here, FitsBody}
use Rattle.wt_html_nodes.proofs.Values.{and_left, and_right}
use Rattle.wt_tree.specs.Opened.{without_sections}
use Rattle.wt_schema.specs.Sections.{all_bared, opened_if_fit}
use Rattle.wt_html_in.proofs.Bared.{count_bared, utf8_bared, append_push, append_empty}
use Rattle.wt_html_in.proofs.Walking.{here_or}

-- ---- the body among the elements

one_body : (m : Markup) → body_in (more m empty) ≡ body_as m (Some 2)
one_body (text bs) = refl
one_body (node name ps c) = refl

head_and : (h m : Bool) (n : ℕ) (b : FoundBody) (name : List ℕ) (ps : List Pair) (c : Markups) → b ≡ found_of n ps (all_bared c)
    → (if h && bytes_eq name (codes "body") then Some b else None) ≡ body_as (node name ps c) (if h then Some n else None)
head_and true m n b name ps c e = ap (λ x. if bytes_eq name (codes "body") then Some x else None) e
head_and false m n b name ps c e = refl

none_behind : (m : Markup) → None ≡ body_as m None
none_behind m = refl

text_behind : (h : Bool) (n : ℕ) (bs : List ℕ) → None ≡ body_as (text bs) (if h then Some n else None)
text_behind true n bs = refl
text_behind false n bs = refl

two_bodies : (h m : Markup) → body_in (more h (more m empty)) ≡ body_as m (number_behind_one h)
two_bodies (text bs) m = refl
two_bodies (node head hs hc) (text bs) = text_behind (bytes_eq head (codes "head")) (3 + elements_of_all hc) bs
two_bodies (node head hs hc) (node name ps c) = head_and (bytes_eq head (codes "head")) true (3 + elements_of_all hc)
    (found_of (3 + elements_of_all hc) ps (all_bared c)) name ps c refl

many_bodies : (a b c : Markup) (ts : Markups) → body_in (more a (more b (more c ts))) ≡ None
many_bodies (text bs) b c ts = refl
many_bodies (node name ps d) (text bs) c ts = refl
many_bodies (node name ps d) (node name' ps' d') c ts = refl

pub body_last : (es : List Content) (b : Content) → body_in (markups (es ++ b ∷ [])) ≡ body_as (view_content b) (number_behind (markups es))
body_last [] b = one_body (view_content b)
body_last (h ∷ []) b = two_bodies (view_content h) (view_content b)
body_last (h ∷ g ∷ []) b = many_bodies (view_content h) (view_content g) (view_content b) empty
body_last (h ∷ g ∷ f ∷ es) b = many_bodies (view_content h) (view_content g) (view_content f) (markups (es ++ b ∷ []))

pub count_last : (es : List Content) (b : Content) → elements_of_all (markups (es ++ b ∷ [])) ≡ elements_of_all (markups es) + elements (view_content b)
count_last [] b = omega arith
count_last (h ∷ es) b = omega (arith, count_last es b)

pub count_elements : (ts : Markups) → elements_of_all (elements_in ts) ≡ elements_of_all ts
count_elements empty = refl
count_elements (more (text bs) ts) = omega (arith, count_elements ts)
count_elements (more (node name ps c) ts) = ap (λ n. elements (node name ps c) + n) (count_elements ts)

utf8_elements : (ts : Markups) → are_utf8_markups ts ≡ true → are_utf8_markups (elements_in ts) ≡ true
utf8_elements empty e = refl
utf8_elements (more (text bs) ts) e = utf8_elements ts (and_right (is_utf8_markup (text bs)) (are_utf8_markups ts) e)
utf8_elements (more (node name ps c) ts) e =
    ap (λ b. is_utf8_markup (node name ps c) && b) (utf8_elements ts (and_right (is_utf8_markup (node name ps c)) (are_utf8_markups ts) e))
    ∙ both (is_utf8_markup (node name ps c)) (and_left (is_utf8_markup (node name ps c)) (are_utf8_markups ts) e)
  where
    both : (a : Bool) → a ≡ true → (a && true) ≡ true
    both true f = refl
    both false f = cc

-- what is found has no more elements than the whole, and its texts are UTF-8
pub record Sound (m : ℕ) (f : FoundBody) : Type 0 where
  pub few : f.number + elements_of_all f.contents ≤ m
  pub utf8_values : are_utf8_values f.attributes ≡ true
  pub utf8 : are_utf8_markups f.contents ≡ true

body_sound : (t : Bool) (n m : ℕ) (ps : List Pair) (c : Markups) (f : FoundBody) → (if t then Some (found_of n ps (all_bared c)) else None)
    ≡ Some f → n + elements_of_all c ≤ m
    → (are_utf8_values ps && are_utf8_markups c) ≡ true → Sound m f
body_sound true n m ps c f e l u =
    let same : found_of n ps (all_bared c) ≡ f = cc in
    let P : FoundBody → Type 0 = Sound m in
    let count = count_bared c in
    subst P same (record {
      few = omega (arith, l, count);
      utf8_values = and_left (are_utf8_values ps) (are_utf8_markups c) u;
      utf8 = utf8_bared c (and_right (are_utf8_values ps) (are_utf8_markups c) u);
    })
body_sound false n m ps c f e l u = absurd cc

in_sound : (ts : Markups) (f : FoundBody) → body_in ts ≡ Some f → are_utf8_markups ts ≡ true → Sound (suc (elements_of_all ts)) f
in_sound empty f e u = absurd cc
in_sound (more (text bs) ts) f e u = absurd cc
in_sound (more (node name ps c) empty) f e u =
    body_sound (bytes_eq name (codes "body")) 2 (suc (elements_of_all (more (node name ps c) empty))) ps c f e (omega arith)
    (and_left (is_utf8_markup (node name ps c)) true u)
in_sound (more (node name ps c) (more (text bs) ts)) f e u = absurd cc
in_sound (more (node head hs hc) (more (node name ps c) empty)) f e u =
    body_sound (bytes_eq head (codes "head") && bytes_eq name (codes "body")) (3 + elements_of_all hc)
    (suc (elements_of_all (more (node head hs hc) (more (node name ps c) empty)))) ps c f e (omega arith)
    (and_left (is_utf8_markup (node name ps c)) true (and_right (is_utf8_markup (node head hs hc)) (are_utf8_markups (more (node name ps c) empty)) u))
in_sound (more (node head hs hc) (more (node name ps c) (more t ts))) f e u = absurd cc

root_sound : (t : Bool) (c : Markups) (f : FoundBody) → (if t then body_in (elements_in c) else None) ≡ Some f
    → are_utf8_markups c ≡ true → Sound (suc (elements_of_all c)) f
root_sound true c f e u =
    let P : ℕ → Type 0 = λ n. Sound (suc n) f in
    subst P (count_elements c) (in_sound (elements_in c) f e (utf8_elements c u))
root_sound false c f e u = absurd cc

pub found_sound : (m : Markup) (f : FoundBody) → body_of m ≡ Some f → is_utf8_markup m ≡ true → Sound (elements m) f
found_sound (text bs) f e u = absurd cc
found_sound (node name ps c) f e u = root_sound (is_root name ps) c f e (and_right (are_utf8_values ps) (are_utf8_markups c) u)

-- ---- the page of a body

abbrev pub Bodied : ℕ → List Pair → Markups → Result Head FitFault → Type 0
Bodied n ps c r = BodyFits (λ held. fit_body_told n ps (body_data ps) c held) r

pub bodied_at : (n : ℕ) (ps qs : List Pair) (xs ys : List Content) (r : Result Head FitFault) → ps ≡ qs → xs ≡ ys
    → Bodied n ps (markups xs) r → Bodied n qs (markups ys) r
bodied_at n ps qs xs ys r d e h = rw (sym d, sym e) h

-- what stands in the body
abbrev inner : ℕ → Markups → Result (List Piece) Misfit
inner n c = fit_nodes n (within kind.Body false) c

-- a body's tree, and the same without its sections
pub body_made : (n : ℕ) (ps : List Pair) (c : Markups) (h : Head) (w v : Traversal) (ns : List Node) (a b : Node) (e : Edited)
    → Bodied n ps c (Ok h) → w.next ≡ n + 1 → w.unsourced ≡ marked_here n ps → FitsNodes w kind.Body false c v (Ok ns)
    → view a ≡ tree (label_of_head h) (held_in false h.kind (views ns)) → view b ≡ without_sections (view a)
    → body_told e ≡ view b → unsourced_of e ≡ v.unsourced
    → FitsBody (Some (found_of n ps c)) (Ok e)
body_made n ps c h w v ns a b e f x y g i o j k =
    let s : w.next ≡ suc n = omega (arith, x) in (
      ap opened_if_fit (f (inner (suc n) c)
          ∙ ap (λ z. with_children false h.kind (label_of_head h) (inner z c)) (sym s)
          ∙ ap (with_children false h.kind (label_of_head h)) g.1
          ∙ ap (λ z. Ok (tree (label_of_head h) (held_in false h.kind z))) g.2)
          ∙ ap (λ z. Ok (without_sections z)) (sym i)
          ∙ ap (λ z. Ok z) (sym (j ∙ o)),
      sym (k ∙ g.3.unsourced ∙ ap (λ z. option_or z (unsourced_nodes w.next None c)) y
          ∙ here_or (is_marked ps) n (unsourced_nodes w.next None c)
          ∙ ap (λ z. if is_marked ps then Some n else unsourced_nodes z None c) s),
    )

pub body_misfit : (n : ℕ) (ps : List Pair) (c : Markups) (e : FitFault) → Bodied n ps c (Err e) → FitsBody (Some (found_of n ps c)) (Err e)
body_misfit n ps c (faults.Unfit m y) f = ap opened_if_fit (f (inner (suc n) c))
body_misfit n ps c faults.NoMemory f = tt

pub body_inside : (n : ℕ) (ps : List Pair) (c : Markups) (h : Head) (w v : Traversal) (e : FitFault) → Bodied n ps c (Ok h) → w.next ≡ n + 1
    → FitsNodes w kind.Body false c v (Err e) → FitsBody (Some (found_of n ps c)) (Err e)
body_inside n ps c h w v (faults.Unfit m y) f x g =
    let s : suc n ≡ w.next = omega (arith, x) in
    ap opened_if_fit (f (inner (suc n) c) ∙ ap (λ z. with_children false h.kind (label_of_head h) (inner z c)) s
    ∙ ap (with_children false h.kind (label_of_head h)) g)
body_inside n ps c h w v faults.NoMemory f x g = tt

pub fits_at : (f g : Option FoundBody) (r s : Result Edited FitFault) → f ≡ g → r ≡ s → FitsBody g s → FitsBody f r
fits_at f g r s d e h = rw (d, e) h

pub fits_memory : (f : Option FoundBody) (e : FitFault) → e ≡ faults.NoMemory → FitsBody f (Err e)
fits_memory f e h = let P : FitFault → Type 0 = λ x. FitsBody f (Err x) in subst P (sym h) tt

-- ---- steps of the code

pub many_behind : (xs : List Content) → 2 ≤ length xs → None ≡ number_behind (markups xs)
many_behind [] h = absurd (omega (arith, h))
many_behind (x ∷ []) h = absurd (omega (arith, h))
many_behind (x ∷ y ∷ xs) h = refl

pub few_before : (all es xs : List Content) (b : Content) → all ≡ es ++ b ∷ [] → xs ≡ es
    → elements_of_all (markups all) + 2 < 2 ^ 32 → elements_of_all (markups xs) + 2 < 2 ^ 32
few_before all es xs b d e l = let c = ap (λ zs. elements_of_all (markups zs)) d ∙ count_last es b in
    let f = ap (λ zs. elements_of_all (markups zs)) e in omega (arith, c, f, l)

pub body_by : (all es xs : List Content) (b : Content) (o : Option ℕ) → all ≡ es ++ b ∷ [] → xs ≡ es → o ≡ number_behind (markups xs)
    → body_as (view_content b) o ≡ body_in (markups all)
body_by all es xs b o d e f =
    ap (body_as (view_content b)) (f ∙ ap (λ zs. number_behind (markups zs)) e) ∙ sym (body_last es b) ∙ ap (λ zs. body_in (markups zs)) (sym d)

kept_element : (m : Markup) (ts : Markups) → is_element m ≡ true → elements_in (more m ts) ≡ more m (elements_in ts)
kept_element (text bs) ts e = cc
kept_element (node name ps c) ts e = refl

pub element_on : (es fs : List Content) (c : Content) (xs ys : List Content) (t : Bool) (all : Markups) → fs ≡ es ++ c ∷ []
    → xs ≡ c ∷ ys → t ≡ is_element (view_content c) → t ≡ true
    → append (markups es) (elements_in (markups xs)) ≡ all → append (markups fs) (elements_in (markups ys)) ≡ all
element_on es fs c xs ys t all d e f g h =
    ap (λ zs. append (markups zs) (elements_in (markups ys))) d ∙ append_push es c (elements_in (markups ys))
    ∙ ap (append (markups es)) (sym (kept_element (view_content c) (markups ys) (sym f ∙ g)) ∙ ap (λ zs. elements_in (markups zs)) (sym e)) ∙ h

pub elements_end : (es xs : List Content) (all : Markups) → xs ≡ [] → append (markups es) (elements_in (markups xs)) ≡ all → markups es ≡ all
elements_end es xs all e h = sym (append_empty (markups es)) ∙ ap (λ zs. append (markups es) (elements_in (markups zs))) (sym e) ∙ h

pub few_in_root : (m : Markup) (name : List ℕ) (ps : List Pair) (c ts : Markups) → m ≡ node name ps c → ts ≡ elements_in c
    → elements m + 1 < 2 ^ 32 → elements_of_all ts + 2 < 2 ^ 32
few_in_root m name ps c ts d e l = let f = ap elements d in let g = ap elements_of_all e ∙ count_elements c in omega (arith, f, g, l)

pub sound_by : (m : Markup) (o : Option BodyElement) (f : BodyElement) → found_if_any o ≡ body_of m → o ≡ Some f → is_utf8_markup m ≡ true
    → Sound (elements m) (found_of f.number (pairs f.attributes.items) (markups f.contents.items))
sound_by m o f d e u = found_sound m (found_of f.number (pairs f.attributes.items) (markups f.contents.items)) (sym d ∙ ap found_if_any e) u

-- what is told of one body is told of what it is
pub found_at : (r : Result (Option BodyElement) NoMemory) (a b : Option FoundBody) → IfOk r (λ f. found_if_any f ≡ a) → a ≡ b → IfOk r (λ f. found_if_any f ≡ b)
found_at r a b h e = let P : Option FoundBody → Type 0 = λ o. IfOk r (λ f. found_if_any f ≡ o) in subst P e h
