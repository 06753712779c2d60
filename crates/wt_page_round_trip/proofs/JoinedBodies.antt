-- A page whose body's texts side by side are one has the same source and shows the same.
use Rattle.std.proofs.Common.{◌≡◌, ℕ, suc, ◌+◌, ◌++◌, Bool, true, false, Option, Some, None, Result, Ok, Err, List, refl, sym, ap, ◌∙◌, subst, codes}
use Rattle.std.specs.Prelude.{◌&&◌, filter, if◌then◌else◌, not}
use Rattle.std.specs.Str.{bytes_eq}
use Rattle.std.proofs.lemmas.Slice.Eq.{bytes_eq-Decides}
use Rattle.wt_tree.specs.declared.kind.Kind.TheVariants as kind
use Rattle.wt_tree.specs.declared.node.DataMw.{DataMw}
use Rattle.wt_tree.specs.Kinds.{is_leaf}
use Rattle.wt_tree.specs.Opened.{opened}
use Rattle.wt_tree.specs.Plain.{plain, ended, along, element, face}
use Rattle.wt_tree.specs.Source.{flat}
use Rattle.wt_tree.specs.Tree.{Label, Tree, tree, Trees}
use Rattle.wt_datamw.specs.declared.sync.Sync.{Sync}
use Rattle.wt_html_grammar.specs.Markup.{Pair, Markup, Markups, text, node, empty, more}
use Rattle.wt_schema.specs.declared.why.FitWhy.TheVariants as why
use Rattle.wt_schema.specs.Data.{Data}
use Rattle.wt_schema.specs.Fit.{Misfit, label_for, elements_of_all, texts_in, are_blank, with_children, within, fit_nodes, is_marked_root, elements_in, BodyElement, body_in, fit_body_told, body_data, fit_body, fit}
use Rattle.wt_schema.specs.Groups.{Piece, gathered}
use Rattle.wt_schema.specs.Sections.{is_section_name, is_mark_pair, all_bared, opened_if_fit}
use Rattle.wt_page_round_trip.specs.SameBodies.{is_body_name}
use Rattle.wt_page_round_trip.specs.JoinedTexts.{text_before, texts_joined, child_joined, children_joined, body_texts_joined, FitsAlike}
use Rattle.wt_page_round_trip.proofs.JoinedTexts.{AreAlike, Joins, joins, blank_joined}

-- ---- sections without their attributes stay where they are among the texts

bared_text : (bs : List ℕ) (ts : Markups) → all_bared (text_before bs ts) ≡ text_before bs (all_bared ts)
bared_text bs empty = refl
bared_text bs (more (text cs) ts) = refl
bared_text bs (more (node name ps c) ts) = by_name (is_section_name name)
  where
    by_name : (b : Bool) → more (text bs) (more (if b then node name (filter is_mark_pair ps) (all_bared c) else node name ps c) (all_bared ts))
        ≡ text_before bs (more (if b then node name (filter is_mark_pair ps) (all_bared c) else node name ps c) (all_bared ts))
    by_name true = refl
    by_name false = refl

bared_joined : (ts : Markups) → all_bared (texts_joined ts) ≡ texts_joined (all_bared ts)
bared_joined empty = refl
bared_joined (more (text bs) ts) = bared_text bs (texts_joined ts) ∙ ap (text_before bs) (bared_joined ts)
bared_joined (more (node name ps c) ts) = by_name (is_section_name name) (bared_joined ts)
  where
    by_name : (b : Bool) → all_bared (texts_joined ts) ≡ texts_joined (all_bared ts)
        → more (if b then node name (filter is_mark_pair ps) (all_bared c) else node name ps c) (all_bared (texts_joined ts))
        ≡ texts_joined (more (if b then node name (filter is_mark_pair ps) (all_bared c) else node name ps c) (all_bared ts))
    by_name true e = ap (more (node name (filter is_mark_pair ps) (all_bared c))) e
    by_name false e = ap (more (node name ps c)) e

-- ---- bodies

abbrev data_with : Option Sync → Option DataMw → Data
data_with s m = record { sync = s; mw = m }

plain_by : (ps : List Pair) (s : Option Sync) (m : Option DataMw) (shown : List ℕ) (ts us : Trees) → AreAlike ts us
    → plain (tree (label_for kind.Body ps (data_with s m) shown) ts) ≡ plain (tree (label_for kind.Body ps (data_with s m) shown) us)
plain_by ps None m shown ts us h = ap (λ v. along (element (face (label_for kind.Body ps (data_with None m) shown)) v) ended) (h.1 ended)
plain_by ps (Some s) m shown ts us h = ap (λ v. along (element (face (label_for kind.Body ps (data_with (Some s) m) shown)) v) ended) (h.1 ended)

flat_by : (l : Label) (ts us : Trees) → AreAlike ts us → flat (tree l ts) ≡ flat (tree l us)
flat_by l ts us h = ap (λ v. if is_leaf l.kind then l.own else l.opening ++ v ++ l.closing) h.0

abbrev found : ℕ → List Pair → Markups → BodyElement
found n ps c = record { number = n; attributes = ps; contents = c }

from_tree : (t u : Tree) → Path (Result Tree Misfit) (Ok t) (Ok u) → t ≡ u
from_tree t u e = cc e

pieces_join : (n : ℕ) (ps : List Pair) (d : Data) (c : Markups) (shown : List ℕ) (xs : List Piece) (t : Tree) → are_blank c ≡ true
    → Joins (texts_joined c) (suc n) false None xs → opened_if_fit (with_children false kind.Body (label_for kind.Body ps d shown) (Ok xs)) ≡ Ok t
    → FitsAlike (opened_if_fit (fit_body_told n ps (Some d) (texts_joined c) (fit_nodes (suc n) (within kind.Body false) (texts_joined c)))) t
pieces_join n ps d c shown xs t blank o e =
    let l : Label = label_for kind.Body ps d shown in
    let r = fit_nodes (suc n) (within kind.Body false) (texts_joined c) in
    let was = from_tree (tree l (opened (gathered xs))) t e in
    record {
      page = tree l (opened (gathered o.pieces));
      fits = ap (λ b. opened_if_fit (if b then with_children false kind.Body l r else Err (n, why.Text))) (blank_joined c ∙ blank)
          ∙ ap (λ q. opened_if_fit (with_children false kind.Body l q)) o.fits;
      source = flat_by l (opened (gathered o.pieces)) (opened (gathered xs)) o.alike ∙ ap flat was;
      shown = plain_by ps d.sync d.mw shown (opened (gathered o.pieces)) (opened (gathered xs)) o.alike ∙ ap plain was;
    }

body_joins : (n : ℕ) (ps : List Pair) (c : Markups) (t : Tree) → fit_body (Some (found n ps c)) ≡ Ok t
    → FitsAlike (fit_body (Some (found n ps (texts_joined c)))) t
body_joins n ps c t e = by_data (body_data ps) e
  where
    held : Result (List Piece) Misfit
    held = fit_nodes (suc n) (within kind.Body false) c

    joined_by : Option Data → Result Tree Misfit
    joined_by o = opened_if_fit (fit_body_told n ps o (texts_joined c) (fit_nodes (suc n) (within kind.Body false) (texts_joined c)))

    by_held : (d : Data) (r : Result (List Piece) Misfit) → held ≡ r → are_blank c ≡ true
        → opened_if_fit (with_children false kind.Body (label_for kind.Body ps d (texts_in c)) r) ≡ Ok t → FitsAlike (joined_by (Some d)) t
    by_held d (Ok xs) h b f = pieces_join n ps d c (texts_in c) xs t b (joins c (suc n) false None xs h) f
    by_held d (Err w) h b f = absurd (cc f)

    by_blank : (d : Data) (b : Bool) → are_blank c ≡ b
        → opened_if_fit (if b then with_children false kind.Body (label_for kind.Body ps d (texts_in c)) held else Err (n, why.Text)) ≡ Ok t
        → FitsAlike (joined_by (Some d)) t
    by_blank d true h f = by_held d held refl h f
    by_blank d false h f = absurd (cc f)

    by_data : (o : Option Data) → opened_if_fit (fit_body_told n ps o c held) ≡ Ok t → FitsAlike (joined_by o) t
    by_data None f = absurd (cc f)
    by_data (Some d) f = by_blank d (are_blank c) refl f

-- ---- documents

abbrev found_if : Bool → ℕ → List Pair → Markups → Option BodyElement
found_if b n ps c = if b then Some (found n ps c) else None

no_body : (t : Tree) → fit_body None ≡ Ok t → FitsAlike (fit_body None) t
no_body t e = absurd (cc e)

named_joins : (a b : Bool) (n m : ℕ) (ps : List Pair) (c : Markups) (t : Tree) → (a ≡ true → n ≡ m) → fit_body (found_if (a && b) n ps (all_bared c)) ≡ Ok t
    → FitsAlike (fit_body (found_if (a && b) m ps (all_bared (if b then texts_joined c else c)))) t
named_joins false b n m ps c t h e = no_body t e
named_joins true false n m ps c t h e = no_body t e
named_joins true true n m ps c t h e =
    subst (λ (w : Markups). FitsAlike (fit_body (Some (found m ps w))) t) (sym (bared_joined c))
    (body_joins m ps (all_bared c) t (subst (λ (k : ℕ). fit_body (Some (found k ps (all_bared c))) ≡ Ok t) (h refl) e))

-- a head is no body, so nothing is joined in it
head_counts : (head : List ℕ) (c : Markups) → bytes_eq head (codes "head") ≡ true
    → elements_of_all c ≡ elements_of_all (if is_body_name head then texts_joined c else c)
head_counts head c e =
    subst (λ (w : List ℕ). elements_of_all c ≡ elements_of_all (if is_body_name w then texts_joined c else c)) (sym ((bytes_eq-Decides head (codes "head")).0 e)) refl

elements_joined : (ts : Markups) → elements_in (children_joined ts) ≡ children_joined (elements_in ts)
elements_joined empty = refl
elements_joined (more (text bs) ts) = elements_joined ts
elements_joined (more (node name ps c) ts) = ap (more (child_joined (node name ps c))) (elements_joined ts)

children_join : (ts : Markups) (t : Tree) → fit_body (body_in ts) ≡ Ok t → FitsAlike (fit_body (body_in (children_joined ts))) t
children_join empty t e = no_body t e
children_join (more (text bs) ts) t e = no_body t e
children_join (more (node name ps c) empty) t e = named_joins true (is_body_name name) 2 2 ps c t (λ h. refl) e
children_join (more (node name ps c) (more (text bs) ts)) t e = no_body t e
children_join (more (node head hs hc) (more (node name ps c) empty)) t e =
    named_joins (bytes_eq head (codes "head")) (is_body_name name) (3 + elements_of_all hc)
    (3 + elements_of_all (if is_body_name head then texts_joined hc else hc)) ps c t (λ h. ap (λ n. 3 + n) (head_counts head hc h)) e
children_join (more (node head hs hc) (more (node name ps c) (more u us))) t e = no_body t e

pub joined_fits : (m : Markup) (t : Tree) → fit m ≡ Ok t → FitsAlike (fit (body_texts_joined m)) t
joined_fits (text bs) t e = no_body t e
joined_fits (node name ps c) t e = by_root (bytes_eq name (codes "html") && not (is_marked_root ps)) e
  where
    by_root : (b : Bool) → fit_body (if b then body_in (elements_in c) else None) ≡ Ok t
        → FitsAlike (fit_body (if b then body_in (elements_in (children_joined c)) else None)) t
    by_root true f =
        subst (λ (ts : Markups). FitsAlike (fit_body (body_in ts)) t) (sym (elements_joined c)) (children_join (elements_in c) t f)
    by_root false f = no_body t f
