-- A document whose sections are taken out is the same page.
use Rattle.std.proofs.Common.{◌≡◌, ℕ, suc, ◌+◌, Bool, true, false, Option, Some, None, Result, Ok, Err, List, [], refl, ap, ◌∙◌, subst, codes}
use Rattle.std.specs.Prelude.{◌&&◌, filter, if◌then◌else◌, not}
use Rattle.std.specs.Str.{bytes_eq}
use Rattle.std.proofs.lemmas.Bool.{or_parts, or_from}
use Rattle.wt_tree.specs.declared.kind.Kind.TheVariants as kind
use Rattle.wt_tree.specs.Opened.{opened}
use Rattle.wt_tree.specs.Tree.{Label, Tree, tree, Trees, none as no_trees, more as one_more}
use Rattle.wt_html_grammar.specs.Markup.{Pair, Markup, Markups, text, node, empty, more}
use Rattle.wt_schema.specs.declared.why.FitWhy.TheVariants as why
use Rattle.wt_schema.specs.Data.{Data}
use Rattle.wt_schema.specs.Fit.{Misfit, label_for, elements_of_all, texts_in, are_blank, with_children, within, fit_nodes, is_marked_root, elements_in, BodyElement, body_in, fit_body_told, body_data, fit_body, fit}
use Rattle.wt_schema.specs.Groups.{Piece, gathered}
use Rattle.wt_schema.specs.Sections.{is_section_name, is_mark_pair, all_bared, opened_if_fit}
use Rattle.wt_checks.specs.PutBack.{has_frame, have_frame}
use Rattle.wt_page_round_trip.specs.SameBodies.{is_body_name}
use Rattle.wt_page_round_trip.specs.OpenedBodies.{opened_before, all_opened_before, child_opened, children_opened, sections_opened}
use Rattle.wt_page_round_trip.proofs.Pieces.{gathered_kept}
use Rattle.wt_page_round_trip.proofs.Sections.{parts_frameless}
use Rattle.wt_page_round_trip.proofs.Elements.{AllFitFrameless}
use Rattle.wt_page_round_trip.proofs.Holders.{body_holder}
use Rattle.wt_page_round_trip.proofs.Openings.{Opens, opens, nothing_fits, not_section}

-- ---- where no section stands nothing is opened, and nothing is bared

still : (ts : Trees) → have_frame ts ≡ false → opened ts ≡ ts
still no_trees e = refl
still (one_more t ts) e =
    let here = or_parts (has_frame t) (have_frame ts) e in
    not_section t (opened ts) (or_from (has_frame t) false here.0 refl) ∙ ap (one_more t) (still ts here.1)

mutual
  bared_before : (t : Markup) (rest : Markups) → all_bared rest ≡ rest → all_bared (opened_before t rest) ≡ opened_before t rest
  bared_before (text bs) rest e = ap (more (text bs)) e
  bared_before (node name ps c) rest e = by_name (is_section_name name) refl (all_bared_before c rest e)
    where
      by_name : (b : Bool) → is_section_name name ≡ b → all_bared (all_opened_before c rest) ≡ all_opened_before c rest
          → all_bared (if b then all_opened_before c rest else more (node name ps c) rest) ≡ (if b then all_opened_before c rest else more (node name ps c) rest)
      by_name true f h = h
      by_name false f h =
          ap (λ b. more (if b then node name (filter is_mark_pair ps) (all_bared c) else node name ps c) (all_bared rest)) f ∙ ap (more (node name ps c)) e

  all_bared_before : (ts rest : Markups) → all_bared rest ≡ rest → all_bared (all_opened_before ts rest) ≡ all_opened_before ts rest
  all_bared_before empty rest e = e
  all_bared_before (more t ts) rest e = bared_before t (all_opened_before ts rest) (all_bared_before ts rest e)

-- ---- a body

abbrev found : ℕ → List Pair → Markups → BodyElement
found n ps c = record { number = n; attributes = ps; contents = c }

-- a body that fits with these pieces, by its contents' fitting
pieces_fit : (m : ℕ) (ps : List Pair) (d : Data) (c : Markups) (shown : List ℕ) (xs : List Piece) (t : Tree)
    → Opens (all_bared c) (all_opened_before c empty) None xs [] → have_frame (opened (gathered xs)) ≡ false
    → opened_if_fit (with_children false kind.Body (label_for kind.Body ps d shown) (Ok xs)) ≡ Ok t
    → opened_if_fit (fit_body_told m ps (Some d) (all_opened_before c empty) (fit_nodes (suc m) (within kind.Body false) (all_opened_before c empty))) ≡ Ok t
pieces_fit m ps d c shown xs t o e h =
    let w = all_opened_before c empty in
    let l : Label = label_for kind.Body ps d shown in
    let r = fit_nodes (suc m) (within kind.Body false) w in
    ap (λ b. opened_if_fit (if b then with_children false kind.Body l r else Err (m, why.Text))) o.blank
    ∙ ap (λ q. opened_if_fit (with_children false kind.Body l q)) (o.fits (suc m) false)
    ∙ ap (λ (ts : Trees). Ok (tree l (opened ts))) o.same
    ∙ ap (λ (ts : Trees). Ok (tree l ts)) (still (opened (gathered xs)) e) ∙ h

body_fits : (n m : ℕ) (ps : List Pair) (c : Markups) (t : Tree) → fit_body (Some (found n ps (all_bared c))) ≡ Ok t
    → fit_body (Some (found m ps (all_opened_before c empty))) ≡ Ok t
body_fits n m ps c t e = by_data (body_data ps) e
  where
    bare : Markups
    bare = all_bared c

    held : Result (List Piece) Misfit
    held = fit_nodes (suc n) (within kind.Body false) bare

    frameless_if : (xs : List Piece) → held ≡ Ok xs → have_frame (opened (gathered xs)) ≡ false
    frameless_if xs h =
        gathered_kept true xs (subst (λ (r : Result (List Piece) Misfit). AllFitFrameless true r) h (parts_frameless c (suc n) (within kind.Body false)))

    by_held : (d : Data) (r : Result (List Piece) Misfit) → held ≡ r → are_blank bare ≡ true
        → opened_if_fit (with_children false kind.Body (label_for kind.Body ps d (texts_in bare)) r) ≡ Ok t
        → opened_if_fit (fit_body_told m ps (Some d) (all_opened_before c empty) (fit_nodes (suc m) (within kind.Body false) (all_opened_before c empty))) ≡ Ok t
    by_held d (Ok xs) h b f =
        pieces_fit m ps d c (texts_in bare) xs t (opens c empty (suc n) kind.Body false None xs [] body_holder nothing_fits b h) (frameless_if xs h) f
    by_held d (Err w) h b f = absurd (cc f)

    by_blank : (d : Data) (b : Bool) → are_blank bare ≡ b
        → opened_if_fit (if b then with_children false kind.Body (label_for kind.Body ps d (texts_in bare)) held else Err (n, why.Text)) ≡ Ok t
        → opened_if_fit (fit_body_told m ps (Some d) (all_opened_before c empty) (fit_nodes (suc m) (within kind.Body false) (all_opened_before c empty))) ≡ Ok t
    by_blank d true h f = by_held d held refl h f
    by_blank d false h f = absurd (cc f)

    by_data : (o : Option Data) → opened_if_fit (fit_body_told n ps o bare held) ≡ Ok t
        → opened_if_fit (fit_body_told m ps o (all_opened_before c empty) (fit_nodes (suc m) (within kind.Body false) (all_opened_before c empty))) ≡ Ok t
    by_data None f = absurd (cc f)
    by_data (Some d) f = by_blank d (are_blank bare) refl f

-- ---- a document

abbrev found_if : Bool → ℕ → List Pair → Markups → Option BodyElement
found_if b n ps c = if b then Some (found n ps c) else None

named_fits : (a b : Bool) (n m : ℕ) (ps : List Pair) (c : Markups) (t : Tree) → fit_body (found_if (a && b) n ps (all_bared c)) ≡ Ok t
    → fit_body (found_if (a && b) m ps (all_bared (if b then all_opened_before c empty else c))) ≡ Ok t
named_fits false b n m ps c t e = e
named_fits true false n m ps c t e = e
named_fits true true n m ps c t e =
    ap (λ (w : Markups). fit_body (Some (found m ps w))) (all_bared_before c empty refl) ∙ body_fits n m ps c t e

elements_opened : (ts : Markups) → elements_in (children_opened ts) ≡ children_opened (elements_in ts)
elements_opened empty = refl
elements_opened (more (text bs) ts) = elements_opened ts
elements_opened (more (node name ps c) ts) = ap (more (child_opened (node name ps c))) (elements_opened ts)

children_fit : (ts : Markups) (t : Tree) → fit_body (body_in ts) ≡ Ok t → fit_body (body_in (children_opened ts)) ≡ Ok t
children_fit empty t e = e
children_fit (more (text bs) ts) t e = e
children_fit (more (node name ps c) empty) t e = named_fits true (is_body_name name) 2 2 ps c t e
children_fit (more (node name ps c) (more (text bs) ts)) t e = e
children_fit (more (node head hs hc) (more (node name ps c) empty)) t e =
    named_fits (bytes_eq head (codes "head")) (is_body_name name) (3 + elements_of_all hc)
    (3 + elements_of_all (if is_body_name head then all_opened_before hc empty else hc)) ps c t e
children_fit (more (node head hs hc) (more (node name ps c) (more u us))) t e = e

pub opened_fits : (m : Markup) (t : Tree) → fit m ≡ Ok t → fit (sections_opened m) ≡ Ok t
opened_fits (text bs) t e = e
opened_fits (node name ps c) t e = by_root (bytes_eq name (codes "html") && not (is_marked_root ps)) e
  where
    by_root : (b : Bool) → fit_body (if b then body_in (elements_in c) else None) ≡ Ok t
        → fit_body (if b then body_in (elements_in (children_opened c)) else None) ≡ Ok t
    by_root true f = ap (λ (ts : Markups). fit_body (body_in ts)) (elements_opened c) ∙ children_fit (elements_in c) t f
    by_root false f = f
