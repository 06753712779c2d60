-- What is read is one body.
use Rattle.std.proofs.Common.{◌≡◌, ℕ, suc, ◌+◌, Bool, true, false, Option, Some, None, Result, Ok, Err, List, ap, subst, codes}
use Rattle.std.specs.Prelude.{◌&&◌, if◌then◌else◌, IfOk, not}
use Rattle.std.specs.Str.{bytes_eq}
use Rattle.wt_tree.specs.declared.kind.Kind.TheVariants as kind
use Rattle.wt_tree.specs.Tree.{Tree}
use Rattle.wt_html_grammar.specs.Markup.{Pair, Markup, Markups, text, node, empty, more}
use Rattle.wt_schema.specs.declared.why.FitWhy.TheVariants as why
use Rattle.wt_schema.specs.Data.{Data}
use Rattle.wt_schema.specs.Fit.{Misfit, label_for, elements_of_all, texts_in, with_children, text_fits, within, fit_nodes, is_marked_root, elements_in, BodyElement, body_in, body_of, fit_body_told, body_data, fit_body, fit}
use Rattle.wt_schema.specs.Groups.{Piece}
use Rattle.wt_schema.specs.Read.{page, read, IsRead}
use Rattle.wt_schema.specs.Sections.{all_bared, opened_if_fit}
use Rattle.wt_schema.proofs.OneReading.{reads}
use Rattle.wt_checks.specs.Places.{is_body}
use Rattle.wt_checks.specs.PutBack.{IsOneBody}
use Rattle.wt_page_round_trip.proofs.Pieces.{gathered_kept}
use Rattle.wt_page_round_trip.proofs.Elements.{AllFitFrameless, label_kind}
use Rattle.wt_page_round_trip.proofs.Sections.{parts_frameless}

-- ---- the body

held_body : (ps : List Pair) (d : Data) (shown : List ℕ) (held : Result (List Piece) Misfit) → AllFitFrameless true held
    → IfOk (opened_if_fit (with_children false kind.Body (label_for kind.Body ps d shown) held)) IsOneBody
held_body ps d shown (Err e) h = tt
held_body ps d shown (Ok xs) h = record { root = ap is_body (label_kind kind.Body ps d shown); alone = gathered_kept true xs h }

told_body : (n : ℕ) (ps : List Pair) (o : Option Data) (c : Markups) (held : Result (List Piece) Misfit) → AllFitFrameless true held
    → IfOk (opened_if_fit (fit_body_told n ps o c held)) IsOneBody
told_body n ps None c held h = tt
told_body n ps (Some d) c held h = by_test (text_fits kind.Body c)
  where
    by_test : (b : Bool)
        → IfOk (opened_if_fit (if b then with_children false kind.Body (label_for kind.Body ps d (texts_in c)) held else Err (n, why.Text))) IsOneBody
    by_test true = held_body ps d (texts_in c) held h
    by_test false = tt

-- ---- the body that is found has bare sections

abbrev FitsAsOne : Option BodyElement → Type 0
FitsAsOne o = IfOk (fit_body o) IsOneBody

found_body : (n : ℕ) (ps : List Pair) (c : Markups) (b : Bool)
    → FitsAsOne (if b then Some (record { number = n; attributes = ps; contents = all_bared c }) else None)
found_body n ps c true =
    told_body n ps (body_data ps) (all_bared c) (fit_nodes (suc n) (within kind.Body false) (all_bared c))
    (parts_frameless c (suc n) (within kind.Body false))
found_body n ps c false = tt

body_among : (ts : Markups) → FitsAsOne (body_in ts)
body_among empty = tt
body_among (more (text bs) ts) = tt
body_among (more (node name ps c) empty) = found_body 2 ps c (bytes_eq name (codes "body"))
body_among (more (node name ps c) (more (text bs) ts)) = tt
body_among (more (node head hs hc) (more (node name ps c) empty)) =
    found_body (3 + elements_of_all hc) ps c (bytes_eq head (codes "head") && bytes_eq name (codes "body"))
body_among (more (node head hs hc) (more (node name ps c) (more t ts))) = tt

body_found : (m : Markup) → FitsAsOne (body_of m)
body_found (text bs) = tt
body_found (node name ps c) = by_test (bytes_eq name (codes "html") && not (is_marked_root ps))
  where
    by_test : (b : Bool) → FitsAsOne (if b then body_in (elements_in c) else None)
    by_test true = body_among (elements_in c)
    by_test false = tt

-- ---- what is read

fits_one : (m : Markup) (t : Tree) → fit m ≡ Ok t → IsOneBody t
fits_one m t e = subst (λ (r : Result Tree Misfit). IfOk r IsOneBody) e (body_found m)

pub read_is_one_body : (bytes : List ℕ) (t : Tree) (u : Option ℕ) → read bytes ≡ page t u → IsOneBody t
read_is_one_body bytes t u e =
    let h : IsRead bytes (page t u) = subst (IsRead bytes) e (reads bytes) in
    fits_one h.0 t h.2
