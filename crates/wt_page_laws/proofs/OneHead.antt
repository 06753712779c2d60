-- What a head decides.
use Rattle.std.proofs.Common.{◌≡◌, ℕ, Bool, false, List, [], Option, Some, None, Result, Ok, Err, refl, sym, ap, ◌∙◌}
use Rattle.wt_datamw.specs.declared.sync.Sync.{Sync}
use Rattle.wt_tree.specs.Tree.{Label, Tree, tree, label}
use Rattle.wt_tree.specs.View.{attrs_of}
use Rattle.wt_tree.specs.declared.kind.Kind.{Kind}
use Rattle.wt_schema.specs.declared.why.FitWhy.{FitWhy}
use Rattle.wt_schema.specs.declared.standing.Standing.{Standing}
use Rattle.wt_schema.specs.declared.standing.Standing.TheVariants as stands
use Rattle.wt_schema.specs.Fit.{Misfit, with_sync, children_in}
use Rattle.wt_schema.specs.Groups.{Piece, single, begun, further}
use Rattle.wt_html_nodes.specs.Heads.{BodyFits, RowFits, bare_label, label_of_head, piece_by}
use Rattle.wt_html_nodes.specs.declared.fault.FitFault.TheVariants as faults
use Rattle.wt_html_nodes.specs.declared.head.Head.{Head}
use Rattle.wt_html_nodes.specs.declared.head.Headed.{Headed}

-- ---- fields

kind_by : (l : Label) (s : Option Sync) → (with_sync l s).kind ≡ l.kind
kind_by l None = refl
kind_by l (Some s) = refl

id_by : (l : Label) (s : Option Sync) → (with_sync l s).id ≡ l.id
id_by l None = refl
id_by l (Some s) = refl

attrs_by : (l : Label) (s : Option Sync) → (with_sync l s).attrs ≡ l.attrs
attrs_by l None = refl
attrs_by l (Some s) = refl

mark_by : (l : Label) (s : Option Sync) → (with_sync l s).mark ≡ l.mark
mark_by l None = refl
mark_by l (Some s) = refl

mw_by : (l : Label) (s : Option Sync) → (with_sync l s).mw ≡ l.mw
mw_by l None = refl
mw_by l (Some s) = refl

pub kind_of_head : (h : Head) → (label_of_head h).kind ≡ h.kind
kind_of_head h = kind_by (bare_label h) h.sync

pub id_of_head : (h : Head) → (label_of_head h).id ≡ h.id
id_of_head h = id_by (bare_label h) h.sync

pub attributes_of_head : (h : Head) → (label_of_head h).attrs ≡ attrs_of h.attrs
attributes_of_head h = attrs_by (bare_label h) h.sync

pub mark_of_head : (h : Head) → (label_of_head h).mark ≡ h.mark
mark_of_head h = mark_by (bare_label h) h.sync

pub data_of_head : (h : Head) → (label_of_head h).mw ≡ h.mw
data_of_head h = mw_by (bare_label h) h.sync

pub sourced_head : (h : Head) → (s : Sync) → h.sync ≡ Some s → ((label_of_head h).ranges ≡ Some s.dsr) × ((label_of_head h).opening ≡ s.opening) × ((label_of_head h).closing ≡ s.closing)
sourced_head h s e =
    let l : label_of_head h ≡ with_sync (bare_label h) (Some s) = ap (with_sync (bare_label h)) e in
    (ap (λ (x : Label). x.ranges) l, ap (λ (x : Label). x.opening) l, ap (λ (x : Label). x.closing) l)

pub unsourced_head : (h : Head) → h.sync ≡ None → ((label_of_head h).ranges ≡ None) × ((label_of_head h).opening ≡ []) × ((label_of_head h).closing ≡ [])
unsourced_head h e =
    let l : label_of_head h ≡ bare_label h = ap (with_sync (bare_label h)) e in
    (ap (λ (x : Label). x.ranges) l, ap (λ (x : Label). x.opening) l, ap (λ (x : Label). x.closing) l)

-- ---- one head

tree_of : Label → Result Tree Misfit → Label
tree_of d (Ok t) = label t
tree_of d (Err e) = d

piece_tree : Piece → Tree
piece_tree (single t) = t
piece_tree (begun l t) = t
piece_tree (further t) = t

made_label : Label → Result (Option Piece) Misfit → Label
made_label d (Ok (Some p)) = label (piece_tree p)
made_label d (Ok None) = d
made_label d (Err e) = d

piece_is : (o : Option Head) (s : Standing) (t : Tree) → piece_tree (piece_by o s t) ≡ t
unfolding piece_tree
piece_is (Some g) s t = refl
piece_is None stands.Alone t = refl
piece_is None stands.First t = refl
piece_is None stands.Further t = refl
piece_is None stands.Astray t = refl

pub one_body : (told : Result (List Piece) Misfit → Result Tree Misfit) → (g h : Head) → BodyFits told (Ok g) → BodyFits told (Ok h) → label_of_head g ≡ label_of_head h
unfolding tree_of
one_body told g h f e = ap (tree_of (label_of_head g)) (sym (f (Ok [])) ∙ e (Ok []))

abbrev RowTold : Type 0
RowTold = Option (List ℕ) → (Kind → Result (List Piece) Misfit) → Result (Option Piece) Misfit

abbrev nothing : Kind → Result (List Piece) Misfit
nothing k = Ok []

abbrev made : Bool → Headed → Tree
made inside h = tree (label_of_head h.head) (children_in inside h.head.kind [])

pub one_row : (inside : Bool) → (told : RowTold) → (g h : Headed) → RowFits inside told (Ok g) → RowFits inside told (Ok h) → label_of_head g.head ≡ label_of_head h.head
unfolding made_label
one_row inside told g h f e =
    sym (ap label (piece_is g.group g.standing (made inside g)))
    ∙ ap (made_label (label_of_head g.head)) (sym (f None nothing) ∙ e None nothing)
    ∙ ap label (piece_is h.group h.standing (made inside h))

apart : (r : Result Tree Misfit) (t : Tree) (m : Misfit) → r ≡ Ok t → r ≡ Err m → ⊥
apart (Ok u) t m e f = cc
apart (Err v) t m e f = cc

apart_pieces : (r : Result (Option Piece) Misfit) (p : Option Piece) (m : Misfit) → r ≡ Ok p → r ≡ Err m → ⊥
apart_pieces (Ok u) p m e f = cc
apart_pieces (Err v) p m e f = cc

pub body_or_misfit : (told : Result (List Piece) Misfit → Result Tree Misfit) → (h : Head) → (n : ℕ) → (w : FitWhy) → BodyFits told (Ok h) → BodyFits told (Err (faults.Unfit n w)) → ⊥
body_or_misfit told h n w f e = apart (told (Ok [])) (tree (label_of_head h) (children_in false h.kind [])) (n, w) (f (Ok [])) (e (Ok []))

pub row_or_misfit : (inside : Bool) → (told : RowTold) → (h : Headed) → (n : ℕ) → (w : FitWhy) → RowFits inside told (Ok h) → RowFits inside told (Err (faults.Unfit n w)) → ⊥
row_or_misfit inside told h n w f e =
    apart_pieces (told None nothing) (Some (piece_by h.group h.standing (made inside h))) (n, w) (f None nothing) (e None nothing)

pub body_passes : (told : Result (List Piece) Misfit → Result Tree Misfit) → (h : Head) → (e : Misfit) → BodyFits told (Ok h) → told (Err e) ≡ Err e
body_passes told h e f = f (Err e)

pub row_passes : (inside : Bool) → (told : RowTold) → (h : Headed) → (group : Option (List ℕ)) → (e : Misfit) → RowFits inside told (Ok h) → told group (λ k. Err e) ≡ Err e
row_passes inside told h group e f = f group (λ k. Err e)
