-- A page stays the page that it is where elements of its body have the mark of an edit, but for this mark on their nodes.
use Rattle.std.proofs.Common.{◌≡◌, ℕ, suc, ◌+◌, Bool, true, false, Option, Some, None, Result, Ok, Err, List, [], ◌∷◌, refl, sym, ap, ap₂, ◌∙◌, subst, codes}
use Rattle.std.specs.Prelude.{◌&&◌, not, filter, is_some, if◌then◌else◌}
use Rattle.std.specs.Str.{bytes_eq}
use Rattle.std.proofs.lemmas.Slice.Eq.{bytes_eq-Decides}
use Rattle.wt_tree.specs.declared.kind.Kind.TheVariants as kind
use Rattle.wt_tree.specs.Opened.{opened}
use Rattle.wt_tree.specs.Tiling.{is_group}
use Rattle.wt_tree.specs.Tree.{Label, Tree, tree}
use Rattle.wt_html_grammar.specs.Markup.{Pair, Markup, Markups, text, node, empty, more}
use Rattle.wt_html_grammar.proofs.Steps.{if_true}
use Rattle.wt_schema.specs.declared.why.FitWhy.TheVariants as why
use Rattle.wt_schema.specs.Attributes.{value_of, has}
use Rattle.wt_schema.specs.Data.{Data}
use Rattle.wt_schema.specs.Fit.{Misfit, label_for, elements_of_all, texts_in, are_blank, with_children, within, fit_nodes, elements_in, is_marked_root, BodyElement, body_in, fit_body_told, body_data, fit_body, fit}
use Rattle.wt_schema.specs.Groups.{Piece, gathered}
use Rattle.wt_schema.specs.Rows.{row}
use Rattle.wt_schema.specs.Sections.{is_section_name, is_mark_pair, bared, all_bared, opened_if_fit}
use Rattle.wt_page_laws.specs.EditMarks.{is_chosen_row, is_chosen, pairs_marked, marked, all_marked, part_marked, parts_marked, child_marked, children_marked, document_marked, tree_marked}
use Rattle.wt_page_laws.proofs.MarkedTrees.{opened_marked}
use Rattle.wt_page_laws.proofs.MarkedElements.{texts_same, blank_same, gathered_marked, other_marked, alone_label, from_ok, sync_kind, nodes_fit}

-- ---- sections

-- a section isn't chosen
pub section_row : (name : List ℕ) (ps : List Pair) → is_section_name name ≡ true → row name ps ≡ Some (kind.Section 0)
section_row name ps e = if_true (is_section_name name) _ _ e

pub no_section_chosen : (f : ℕ → Bool) (name : List ℕ) (ps : List Pair) → f 0 ≡ false → is_section_name name ≡ true → is_chosen f name ps ≡ false
no_section_chosen f name ps z e = ap (λ o. not (has (codes "about") ps) && is_chosen_row f o ps) (section_row name ps e) ∙ by_test (has (codes "about") ps)
  where
    by_test : (a : Bool) → (not a && f 0) ≡ false
    by_test true = refl
    by_test false = z

-- of the attributes that a section keeps none is an `about`
pub no_about : (ps : List Pair) → value_of (codes "about") (filter is_mark_pair ps) ≡ None
no_about [] = refl
no_about (p ∷ ps) = by_test (bytes_eq p.0 (codes "data-wt-edit")) refl (no_about ps)
  where
    by_test : (b : Bool) → bytes_eq p.0 (codes "data-wt-edit") ≡ b → value_of (codes "about") (filter is_mark_pair ps) ≡ None
        → value_of (codes "about") (if b then p ∷ filter is_mark_pair ps else filter is_mark_pair ps) ≡ None
    by_test true e h =
        ap (λ (w : List ℕ). if bytes_eq w (codes "about") then Some p.1 else value_of (codes "about") (filter is_mark_pair ps))
        ((bytes_eq-Decides p.0 (codes "data-wt-edit")).0 e) ∙ h
    by_test false e h = h

mutual
  pub part_bared : (f : ℕ → Bool) (t : Markup) → f 0 ≡ false → bared (part_marked f t) ≡ marked f (bared t)
  part_bared f (text bs) z = refl
  part_bared f (node name ps c) z = by_name (is_section_name name) refl (parts_bared f c z)
    where
      by_name : (b : Bool) → is_section_name name ≡ b → all_bared (parts_marked f c) ≡ all_marked f (all_bared c)
          → bared (if b then node name ps (parts_marked f c) else marked f (node name ps c))
          ≡ marked f (if b then node name (filter is_mark_pair ps) (all_bared c) else node name ps c)
      by_name true e h =
          let qs : List Pair = filter is_mark_pair ps in
          ap (λ (x : Bool). if x then node name qs (all_bared (parts_marked f c)) else node name ps (parts_marked f c)) e
          ∙ ap (node name qs) h
          ∙ sym (ap₂ (λ (x : Bool) (o : Option (List ℕ)). node name (pairs_marked x qs) (if is_some o then all_bared c else all_marked f (all_bared c)))
          (no_section_chosen f name qs z e) (no_about ps))
      by_name false e h =
          ap (λ (x : Bool). if x then node name (filter is_mark_pair (pairs_marked (is_chosen f name ps) ps)) (all_bared (if has (codes "about") ps then c else all_marked f c))
          else marked f (node name ps c)) e

  pub parts_bared : (f : ℕ → Bool) (ts : Markups) → f 0 ≡ false → all_bared (parts_marked f ts) ≡ all_marked f (all_bared ts)
  parts_bared f empty z = refl
  parts_bared f (more t ts) z = ap₂ more (part_bared f t z) (parts_bared f ts z)

-- ---- a body

abbrev found : ℕ → List Pair → Markups → BodyElement
found n ps c = record { number = n; attributes = ps; contents = c }

body_fits : (f : ℕ → Bool) (n : ℕ) (ps : List Pair) (c : Markups) (t : Tree) → f 0 ≡ false → fit_body (Some (found n ps c)) ≡ Ok t
    → fit_body (Some (found n ps (all_marked f c))) ≡ Ok (tree_marked f t)
body_fits f n ps c t z e = by_data (body_data ps) e
  where
    held : Result (List Piece) Misfit
    held = fit_nodes (suc n) (within kind.Body false) c

    again : Result (List Piece) Misfit
    again = fit_nodes (suc n) (within kind.Body false) (all_marked f c)

    by_held : (d : Data) (r : Result (List Piece) Misfit) → held ≡ r → are_blank c ≡ true
        → opened_if_fit (with_children false kind.Body (label_for kind.Body ps d (texts_in c)) r) ≡ Ok t
        → opened_if_fit (fit_body_told n ps (Some d) (all_marked f c) again) ≡ Ok (tree_marked f t)
    by_held d (Ok xs) h b q =
        let l : Label = label_for kind.Body ps d (texts_in c) in
        let here = nodes_fit c f (suc n) kind.Body false None xs z h in
        let was : tree l (opened (gathered xs)) ≡ t = from_ok (tree l (opened (gathered xs))) t q in
        ap (λ (x : Bool). opened_if_fit (if x then with_children false kind.Body (label_for kind.Body ps d (texts_in (all_marked f c))) again else Err (n, why.Text)))
        (blank_same f c ∙ b)
        ∙ ap (λ r. opened_if_fit (with_children false kind.Body (label_for kind.Body ps d (texts_in (all_marked f c))) r)) here.0
        ∙ ap₂ (λ w us. Ok (tree (label_for kind.Body ps d w) (opened us))) (texts_same f c) (gathered_marked f xs here.1)
        ∙ ap₂ (λ m us. Ok (tree m us)) (alone_label f false kind.Body ps d (texts_in c) z) (opened_marked f (gathered xs))
        ∙ ap Ok (sym (other_marked f l (opened (gathered xs)) (ap is_group (sync_kind _ d.sync))) ∙ ap (tree_marked f) was)
    by_held d (Err w) h b q = absurd (cc q)

    by_blank : (d : Data) (b : Bool) → are_blank c ≡ b
        → opened_if_fit (if b then with_children false kind.Body (label_for kind.Body ps d (texts_in c)) held else Err (n, why.Text)) ≡ Ok t
        → opened_if_fit (fit_body_told n ps (Some d) (all_marked f c) again) ≡ Ok (tree_marked f t)
    by_blank d true h q = by_held d held refl h q
    by_blank d false h q = absurd (cc q)

    by_data : (o : Option Data) → opened_if_fit (fit_body_told n ps o c held) ≡ Ok t
        → opened_if_fit (fit_body_told n ps o (all_marked f c) again) ≡ Ok (tree_marked f t)
    by_data None q = absurd (cc q)
    by_data (Some d) q = by_blank d (are_blank c) refl q

-- ---- a document

abbrev found_if : Bool → ℕ → List Pair → Markups → Option BodyElement
found_if b n ps c = if b then Some (found n ps c) else None

none_fits : (t : Tree) {A : Type 0} → fit_body None ≡ Ok t → A
none_fits t e = absurd (cc e)

named_fits : (f : ℕ → Bool) (a b : Bool) (n m : ℕ) (ps : List Pair) (c : Markups) (t : Tree) → f 0 ≡ false → (a ≡ true → n ≡ m)
    → fit_body (found_if (a && b) n ps (all_bared c)) ≡ Ok t
    → fit_body (found_if (a && b) m ps (all_bared (if b then parts_marked f c else c))) ≡ Ok (tree_marked f t)
named_fits f false b n m ps c t z h e = none_fits t e
named_fits f true false n m ps c t z h e = none_fits t e
named_fits f true true n m ps c t z h e =
    ap (λ (w : Markups). fit_body (Some (found m ps w))) (parts_bared f c z)
    ∙ body_fits f m ps (all_bared c) t z (subst (λ (k : ℕ). fit_body (Some (found k ps (all_bared c))) ≡ Ok t) (h refl) e)

-- a head is no body, so nothing is marked in it
head_counts : (f : ℕ → Bool) (head : List ℕ) (c : Markups) → bytes_eq head (codes "head") ≡ true
    → elements_of_all c ≡ elements_of_all (if bytes_eq head (codes "body") then parts_marked f c else c)
head_counts f head c e =
    subst (λ (w : List ℕ). elements_of_all c ≡ elements_of_all (if bytes_eq w (codes "body") then parts_marked f c else c))
    (sym ((bytes_eq-Decides head (codes "head")).0 e)) refl

elements_marked : (f : ℕ → Bool) (ts : Markups) → elements_in (children_marked f ts) ≡ children_marked f (elements_in ts)
elements_marked f empty = refl
elements_marked f (more (text bs) ts) = elements_marked f ts
elements_marked f (more (node name ps c) ts) = ap (more (child_marked f (node name ps c))) (elements_marked f ts)

children_fit : (f : ℕ → Bool) (ts : Markups) (t : Tree) → f 0 ≡ false → fit_body (body_in ts) ≡ Ok t
    → fit_body (body_in (children_marked f ts)) ≡ Ok (tree_marked f t)
children_fit f empty t z e = none_fits t e
children_fit f (more (text bs) ts) t z e = none_fits t e
children_fit f (more (node name ps c) empty) t z e = named_fits f true (bytes_eq name (codes "body")) 2 2 ps c t z (λ h. refl) e
children_fit f (more (node name ps c) (more (text bs) ts)) t z e = none_fits t e
children_fit f (more (node head hs hc) (more (node name ps c) empty)) t z e =
    named_fits f (bytes_eq head (codes "head")) (bytes_eq name (codes "body")) (3 + elements_of_all hc)
    (3 + elements_of_all (if bytes_eq head (codes "body") then parts_marked f hc else hc)) ps c t z (λ h. ap (λ n. 3 + n) (head_counts f head hc h)) e
children_fit f (more (node head hs hc) (more (node name ps c) (more u us))) t z e = none_fits t e

pub document_fits : (f : ℕ → Bool) (m : Markup) (t : Tree) → f 0 ≡ false → fit m ≡ Ok t → fit (document_marked f m) ≡ Ok (tree_marked f t)
document_fits f (text bs) t z e = none_fits t e
document_fits f (node name ps c) t z e = by_root (bytes_eq name (codes "html") && not (is_marked_root ps)) e
  where
    by_root : (b : Bool) → fit_body (if b then body_in (elements_in c) else None) ≡ Ok t
        → fit_body (if b then body_in (elements_in (children_marked f c)) else None) ≡ Ok (tree_marked f t)
    by_root true q = ap (λ (ts : Markups). fit_body (body_in ts)) (elements_marked f c) ∙ children_fit f (elements_in c) t z q
    by_root false q = none_fits t q
