-- In a body without the attributes of its sections, once these are opened, stands neither a body nor a section.
use Rattle.std.proofs.Common.{◌≡◌, ℕ, suc, ◌+◌, Bool, true, false, Option, Some, None, Result, Ok, Err, List, [], ◌∷◌, refl, sym, ap, ◌∙◌, subst, codes}
use Rattle.std.specs.Prelude.{filter, if◌then◌else◌}
use Rattle.std.specs.Str.{bytes_eq}
use Rattle.std.proofs.lemmas.Slice.Eq.{bytes_eq-Decides}
use Rattle.wt_tree.specs.declared.kind.Kind.{Kind}
use Rattle.wt_tree.specs.declared.kind.Kind.TheVariants as kind
use Rattle.wt_tree.specs.Kinds.{is_section}
use Rattle.wt_tree.specs.Opened.{opened}
use Rattle.wt_tree.specs.Tree.{Label}
use Rattle.wt_html_grammar.specs.Markup.{Pair, Markup, Markups, text, node, empty, more}
use Rattle.wt_schema.specs.declared.why.FitWhy.TheVariants as why
use Rattle.wt_schema.specs.declared.standing.Standing.{Standing}
use Rattle.wt_schema.specs.declared.standing.Standing.TheVariants as stands
use Rattle.wt_schema.specs.Attributes.{value_of, has}
use Rattle.wt_schema.specs.Data.{Data, data_for}
use Rattle.wt_schema.specs.Fit.{Misfit, label_as, elements, texts_in, children_in, with_children, one_piece, text_fits, Position, within, row_as, behind_it, fits_place, is_inside, fit_told, fit_as, fit_row, fit_node, fit_nodes}
use Rattle.wt_schema.specs.Groups.{standing_by, standing, Piece}
use Rattle.wt_schema.specs.Sections.{is_section_name, is_mark_pair, bared, all_bared}
use Rattle.wt_checks.specs.PutBack.{have_frame}
use Rattle.wt_page_round_trip.proofs.RowKinds.{no_section, section_row, plain_row}
use Rattle.wt_page_round_trip.proofs.Opens.{section_opens}
use Rattle.wt_page_round_trip.proofs.Pieces.{AreFrameless, gathered_kept}
use Rattle.wt_page_round_trip.proofs.Elements.{FitFrameless, AllFitFrameless, told_fits, text_frameless, kind_as, row_frameless, nodes_frameless}

-- ---- a section stands by itself, in no group

other_pair : (p : Pair) → is_mark_pair p ≡ true → bytes_eq p.0 (codes "about") ≡ false
other_pair p e = ap (λ name. bytes_eq name (codes "about")) ((bytes_eq-Decides p.0 (codes "data-wt-edit")).0 e)

no_about : (ps : List Pair) → value_of (codes "about") (filter is_mark_pair ps) ≡ None
no_about [] = refl
no_about (p ∷ ps) = by_test (is_mark_pair p) refl (no_about ps)
  where
    by_test : (b : Bool) → is_mark_pair p ≡ b → value_of (codes "about") (filter is_mark_pair ps) ≡ None
        → value_of (codes "about") (if b then p ∷ filter is_mark_pair ps else filter is_mark_pair ps) ≡ None
    by_test true e h = ap (λ c. if c then Some p.1 else value_of (codes "about") (filter is_mark_pair ps)) (other_pair p e) ∙ h
    by_test false e h = h

pub stands_alone : (group : Option (List ℕ)) (ps : List Pair) → standing group (filter is_mark_pair ps) ≡ stands.Alone
stands_alone group ps = ap (λ o. standing_by group o (has (codes "data-mw") (filter is_mark_pair ps))) (no_about ps)

-- ---- sections

-- separators are nothing to be cut, so what a section holds is what is gathered
section_children : (inside : Bool) (xs : List Piece) → AreFrameless true xs → have_frame (opened (children_in inside (kind.Section 0) xs)) ≡ false
section_children true xs h = gathered_kept true xs h
section_children false xs h = gathered_kept true xs h

one_section : (inside : Bool) (ps : List Pair) (d : Data) (shown : List ℕ) (held : Result (List Piece) Misfit) → AllFitFrameless true held
    → FitFrameless true (one_piece stands.Alone ps d (with_children inside (kind.Section 0) (label_as stands.Alone (kind.Section 0) ps d shown) held))
one_section inside ps d shown (Err e) h = tt
one_section inside ps d shown (Ok xs) h =
    let l : Label = label_as stands.Alone (kind.Section 0) ps d shown in
    section_opens l (children_in inside (kind.Section 0) xs) (ap is_section (kind_as stands.Alone (kind.Section 0) ps d shown)) (section_children inside xs h)

told_section : (n : ℕ) (inside : Bool) (ps : List Pair) (o : Option Data) (c : Markups) (held : Result (List Piece) Misfit)
    → AllFitFrameless true held → FitFrameless true (fit_told n inside stands.Alone (kind.Section 0) ps o c held)
told_section n inside ps None c held h = tt
told_section n inside ps (Some d) c held h = by_test (text_fits (kind.Section 0) c)
  where
    by_test : (b : Bool) → FitFrameless true (if b
        then one_piece stands.Alone ps d (with_children inside (kind.Section 0) (label_as stands.Alone (kind.Section 0) ps d (texts_in c)) held)
        else Err (n, why.Text))
    by_test true = one_section inside ps d (texts_in c) held h
    by_test false = tt

lone_section : (n : ℕ) (x : Position) (ps : List Pair) (c : Markups) (held : Kind → Result (List Piece) Misfit)
    → AllFitFrameless true (held (kind.Section 0)) → FitFrameless true (fit_row n x stands.Alone (Some (kind.Section 0)) ps c held)
lone_section n x ps c held h = by_test (fits_place x.parent x.behind stands.Alone (kind.Section 0) c)
  where
    by_test : (b : Bool) → FitFrameless true (if b then fit_as n x stands.Alone (kind.Section 0) ps c (held (kind.Section 0)) else Err (n, why.Place))
    by_test true =
        told_section n (is_inside x stands.Alone) ps (data_for x.inside stands.Alone (kind.Section 0) ps) c (held (kind.Section 0)) h
    by_test false = tt

section_frameless : (name : List ℕ) (ps : List Pair) (c : Markups) (n : ℕ) (x : Position) (s : Standing) (held : Kind → Result (List Piece) Misfit)
    → is_section_name name ≡ true → s ≡ stands.Alone → AllFitFrameless true (held (kind.Section 0))
    → FitFrameless true (fit_row n x s (row_as s name ps) ps c held)
section_frameless name ps c n x s held e alone h =
    subst (λ (v : Standing). FitFrameless true (fit_row n x v (row_as v name ps) ps c held)) (sym alone)
    (subst (λ j. FitFrameless true (fit_row n x stands.Alone j ps c held)) (sym (section_row name ps e)) (lone_section n x ps c held h))

-- ---- what stands in the body

bared_frameless : (name : List ℕ) (ps : List Pair) (c d : Markups) (ts : Markups) (n : ℕ) (x : Position)
    → ((m : ℕ) (y : Position) → AllFitFrameless true (fit_nodes m y d)) → (section : Bool) → is_section_name name ≡ section
    → FitFrameless true (fit_node n x (if section then node name (filter is_mark_pair ps) d else node name ps c) ts)
bared_frameless name ps c d ts n x h true e =
    let qs = filter is_mark_pair ps in
    let s = standing x.group qs in
    section_frameless name qs d n x s (λ k. fit_nodes (suc n) (within k (is_inside x s)) d) e (stands_alone x.group ps)
    (h (suc n) (within (kind.Section 0) (is_inside x s)))
bared_frameless name ps c d ts n x h false e =
    let s = standing x.group ps in
    row_frameless true (row_as s name ps) n x s ps c (λ k. fit_nodes (suc n) (within k (is_inside x s)) c) (plain_row name _ e)
    (λ k p. nodes_frameless c (suc n) (within k (is_inside x s)) (no_section k p))

mutual
  part_frameless : (t : Markup) (ts : Markups) (n : ℕ) (x : Position) → FitFrameless true (fit_node n x (bared t) ts)
  part_frameless (text bs) ts n x = text_frameless true x bs ts
  part_frameless (node name ps c) ts n x = bared_frameless name ps c (all_bared c) ts n x (λ m y. parts_frameless c m y) (is_section_name name) refl

  pub parts_frameless : (ts : Markups) (n : ℕ) (x : Position) → AllFitFrameless true (fit_nodes n x (all_bared ts))
  parts_frameless empty n x = tt
  parts_frameless (more t ts) n x =
      let m = n + elements (bared t) in
      let y = behind_it x (bared t) (all_bared ts) in
      told_fits true (fit_node n x (bared t) (all_bared ts)) (fit_nodes m y (all_bared ts)) (part_frameless t (all_bared ts) n x) (parts_frameless ts m y)
