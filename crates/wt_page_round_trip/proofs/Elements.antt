-- In an element that may hold no section, whatever fits in it, stands neither a body nor a section.
use Rattle.std.proofs.Common.{◌≡◌, ℕ, suc, ◌+◌, Bool, true, false, Option, Some, None, Result, Ok, Err, List, [], refl, sym, ap, ◌∙◌, subst}
use Rattle.std.specs.Prelude.{◌&&◌, if◌then◌else◌, IfOk, IfSome}
use Rattle.std.specs.Option.{option_map}
use Rattle.std.proofs.lemmas.Bool.{and_left, and_right, or_from}
use Rattle.wt_tree.specs.declared.kind.Kind.{Kind}
use Rattle.wt_tree.specs.declared.kind.Kind.TheVariants as kind
use Rattle.wt_tree.specs.declared.node.DataMw.{DataMw}
use Rattle.wt_tree.specs.Kinds.{may_follow}
use Rattle.wt_tree.specs.Tree.{Label, Tree, tree}
use Rattle.wt_tree.specs.Leaves.{text_leaf, sep_leaf}
use Rattle.wt_datamw.specs.declared.sync.Sync.{Sync}
use Rattle.wt_html_grammar.specs.Markup.{Pair, Markup, Markups, text, node, empty, more}
use Rattle.wt_schema.specs.declared.why.FitWhy.TheVariants as why
use Rattle.wt_schema.specs.declared.standing.Standing.{Standing}
use Rattle.wt_schema.specs.declared.standing.Standing.TheVariants as stands
use Rattle.wt_schema.specs.Data.{Data, no_data, data_for}
use Rattle.wt_schema.specs.Fit.{Misfit, leaf_in, label_for, label_as, piece_as, elements, texts_in, onto, onto_told, children_in, with_children, one_piece, text_fits, Position, within, row_as, behind_it, has_place, fits_place, is_inside, fit_told, fit_as, fit_row, fit_text, fit_node, fit_nodes}
use Rattle.wt_schema.specs.Groups.{standing, is_grouped, is_dropped, own_pairs, pairs_for, is_none, Piece, single}
use Rattle.wt_schema.specs.Rows.{holds_text, shows_text}
use Rattle.wt_schema.specs.Sections.{is_section_name}
use Rattle.wt_checks.specs.PutBack.{is_frame, has_frame, have_frame}
use Rattle.wt_page_round_trip.proofs.RowKinds.{holds_sections, is_plain, is_plain_row, no_frame, no_section, section_row, plain_row}
use Rattle.wt_page_round_trip.proofs.Opens.{frameless}
use Rattle.wt_page_round_trip.proofs.Pieces.{IsFrameless, AreFrameless, children_kept}

-- what fits is frameless
abbrev pub FitFrameless : Bool → Result (Option Piece) Misfit → Type 0
FitFrameless sections r = IfOk r (λ o. IfSome o (IsFrameless sections))

abbrev pub AllFitFrameless : Bool → Result (List Piece) Misfit → Type 0
AllFitFrameless sections r = IfOk r (AreFrameless sections)

-- ---- pieces before others

onto_fits : (sections : Bool) (x : Piece) (r : Result (List Piece) Misfit) → IsFrameless sections x → AllFitFrameless sections r
    → AllFitFrameless sections (onto x r)
onto_fits sections x (Ok xs) h g = (h, g)
onto_fits sections x (Err e) h g = tt

pub told_fits : (sections : Bool) (o : Result (Option Piece) Misfit) (r : Result (List Piece) Misfit) → FitFrameless sections o
    → AllFitFrameless sections r → AllFitFrameless sections (onto_told o r)
told_fits sections (Ok None) r h g = g
told_fits sections (Ok (Some x)) r h g = onto_fits sections x r h g
told_fits sections (Err e) r h g = tt

-- ---- texts

leaf_frameless : (sections shows holds : Bool) (bs : List ℕ)
    → IfSome (option_map single (if shows then None else if holds then Some (text_leaf None bs) else Some (sep_leaf None bs))) (IsFrameless sections)
leaf_frameless sections true holds bs = tt
leaf_frameless sections false true bs = frameless sections (text_leaf None bs) refl
leaf_frameless sections false false bs = frameless sections (sep_leaf None bs) refl

pub text_frameless : (sections : Bool) (x : Position) (bs : List ℕ) (ts : Markups) → IfSome (fit_text x bs ts) (IsFrameless sections)
text_frameless sections x bs ts = by_test (is_dropped x.group bs ts)
  where
    by_test : (b : Bool) → IfSome (if b then None else option_map single (leaf_in x.parent bs)) (IsFrameless sections)
    by_test true = tt
    by_test false = leaf_frameless sections (shows_text x.parent) (holds_text x.parent) bs

-- ---- elements

abbrev data_with : Option Sync → Option DataMw → Data
data_with s m = record { sync = s; mw = m }

kind_of_label : (k : Kind) (ps : List Pair) (s : Option Sync) (m : Option DataMw) (shown : List ℕ) → (label_for k ps (data_with s m) shown).kind ≡ k
kind_of_label k ps None m shown = refl
kind_of_label k ps (Some s) m shown = refl

pub label_kind : (k : Kind) (ps : List Pair) (d : Data) (shown : List ℕ) → (label_for k ps d shown).kind ≡ k
label_kind k ps d shown = kind_of_label k ps d.sync d.mw shown

pub kind_as : (s : Standing) (k : Kind) (ps : List Pair) (d : Data) (shown : List ℕ) → (label_as s k ps d shown).kind ≡ k
kind_as stands.Alone k ps d shown = label_kind k ps d shown
kind_as stands.First k ps d shown = label_kind k (own_pairs ps) no_data shown
kind_as stands.Further k ps d shown = label_kind k ps d shown
kind_as stands.Astray k ps d shown = label_kind k ps d shown

piece_frameless : (sections : Bool) (s : Standing) (ps : List Pair) (d : Data) (t : Tree) → has_frame t ≡ false
    → IsFrameless sections (piece_as s ps d t)
piece_frameless sections stands.Alone ps d t e = frameless sections t e
piece_frameless sections stands.First ps d t e = (ap is_frame (label_kind kind.Group ps d []), e)
piece_frameless sections stands.Further ps d t e = e
piece_frameless sections stands.Astray ps d t e = frameless sections t e

one_frameless : (sections inside : Bool) (s : Standing) (k : Kind) (ps : List Pair) (d : Data) (shown : List ℕ) (held : Result (List Piece) Misfit)
    → is_plain k ≡ true → AllFitFrameless false held
    → FitFrameless sections (one_piece s ps d (with_children inside k (label_as s k ps d shown) held))
one_frameless sections inside s k ps d shown (Err e) p h = tt
one_frameless sections inside s k ps d shown (Ok xs) p h =
    let l : Label = label_as s k ps d shown in
    piece_frameless sections s ps d (tree l (children_in inside k xs))
    (or_from (is_frame l.kind) (have_frame (children_in inside k xs)) (ap is_frame (kind_as s k ps d shown) ∙ no_frame k p) (children_kept inside k xs h))

told_frameless : (sections : Bool) (n : ℕ) (inside : Bool) (s : Standing) (k : Kind) (ps : List Pair) (o : Option Data) (c : Markups)
    (held : Result (List Piece) Misfit) → is_plain k ≡ true → AllFitFrameless false held
    → FitFrameless sections (fit_told n inside s k ps o c held)
told_frameless sections n inside s k ps None c held p h = tt
told_frameless sections n inside s k ps (Some d) c held p h = by_test (text_fits k c)
  where
    by_test : (b : Bool) → FitFrameless sections (if b then one_piece s ps d (with_children inside k (label_as s k ps d (texts_in c)) held) else Err (n, why.Text))
    by_test true = one_frameless sections inside s k ps d (texts_in c) held p h
    by_test false = tt

pub row_frameless : (sections : Bool) (j : Option Kind) (n : ℕ) (x : Position) (s : Standing) (ps : List Pair) (c : Markups)
    (held : Kind → Result (List Piece) Misfit) → is_plain_row j ≡ true → ((k : Kind) → is_plain k ≡ true → AllFitFrameless false (held k))
    → FitFrameless sections (fit_row n x s j ps c held)
row_frameless sections None n x s ps c held p h = tt
row_frameless sections (Some k) n x s ps c held p h = by_test (fits_place x.parent x.behind s k c)
  where
    by_test : (b : Bool) → FitFrameless sections (if b then fit_as n x s k ps c (held k) else Err (n, why.Place))
    by_test true = told_frameless sections n (is_inside x s) s k ps (data_for x.inside s k ps) c (held k) p (h k p)
    by_test false = tt

-- ---- no section fits in what may hold none

no_place : (x : Position) (s : Standing) (c : Markups) → holds_sections x.parent ≡ false → fits_place x.parent x.behind s (kind.Section 0) c ≡ false
no_place x s c e =
    or_from (has_place x.parent x.behind (kind.Section 0)) (is_grouped s && (false && is_none c))
    (and_left (holds_sections x.parent) (may_follow x.behind (kind.Section 0)) e) (and_right (is_grouped s) false refl)

astray_section : (n : ℕ) (x : Position) (s : Standing) (ps : List Pair) (c : Markups) (held : Kind → Result (List Piece) Misfit)
    → holds_sections x.parent ≡ false → FitFrameless false (fit_row n x s (Some (kind.Section 0)) ps c held)
astray_section n x s ps c held e =
    subst (λ b. FitFrameless false (if b then fit_as n x s (kind.Section 0) ps c (held (kind.Section 0)) else Err (n, why.Place)))
    (sym (no_place x s c e)) tt

element_frameless : (name : List ℕ) (ps : List Pair) (c : Markups) (n : ℕ) (x : Position) (s : Standing) (held : Kind → Result (List Piece) Misfit)
    → holds_sections x.parent ≡ false → ((k : Kind) → is_plain k ≡ true → AllFitFrameless false (held k))
    → FitFrameless false (fit_row n x s (row_as s name ps) ps c held)
element_frameless name ps c n x s held e h = by_name (is_section_name name) refl
  where
    by_name : (b : Bool) → is_section_name name ≡ b → FitFrameless false (fit_row n x s (row_as s name ps) ps c held)
    by_name true f =
        subst (λ j. FitFrameless false (fit_row n x s j ps c held)) (sym (section_row name (pairs_for s ps) f)) (astray_section n x s ps c held e)
    by_name false f = row_frameless false (row_as s name ps) n x s ps c held (plain_row name (pairs_for s ps) f) h

mutual
  node_frameless : (t : Markup) (ts : Markups) (n : ℕ) (x : Position) → holds_sections x.parent ≡ false → FitFrameless false (fit_node n x t ts)
  node_frameless (text bs) ts n x e = text_frameless false x bs ts
  node_frameless (node name ps c) ts n x e =
      let s = standing x.group ps in
      element_frameless name ps c n x s (λ k. fit_nodes (suc n) (within k (is_inside x s)) c) e
      (λ k p. nodes_frameless c (suc n) (within k (is_inside x s)) (no_section k p))

  pub nodes_frameless : (ts : Markups) (n : ℕ) (x : Position) → holds_sections x.parent ≡ false → AllFitFrameless false (fit_nodes n x ts)
  nodes_frameless empty n x e = tt
  nodes_frameless (more t ts) n x e =
      let m = n + elements t in
      told_fits false (fit_node n x t ts) (fit_nodes m (behind_it x t ts) ts) (node_frameless t ts n x e) (nodes_frameless ts m (behind_it x t ts) e)
