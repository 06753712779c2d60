-- What an element is made into is a block where its row is one; and which group is open before and
-- behind it.
use Rattle.std.proofs.Common.{◌≡◌, ℕ, suc, Bool, true, false, Option, Some, None, Result, Ok, Err, List, refl, sym, ap, ◌∙◌, subst, codes}
use Rattle.std.specs.Prelude.{if◌then◌else◌, is_some}
use Rattle.std.specs.Option.{option_map}
use Rattle.wt_tree.specs.declared.kind.Kind.{Kind}
use Rattle.wt_tree.specs.Kinds.{is_block}
use Rattle.wt_tree.specs.Tree.{Label, Tree, label}
use Rattle.wt_tree.specs.Leaves.{text_leaf, sep_leaf}
use Rattle.wt_datamw.specs.declared.sync.Sync.{Sync}
use Rattle.wt_html_grammar.specs.Markup.{Pair, Markup, Markups, text, node}
use Rattle.wt_schema.specs.declared.why.FitWhy.TheVariants as why
use Rattle.wt_schema.specs.declared.standing.Standing.{Standing}
use Rattle.wt_schema.specs.declared.standing.Standing.TheVariants as stands
use Rattle.wt_schema.specs.Attributes.{value_of, has}
use Rattle.wt_schema.specs.Groups.{Piece, single, begun, further, standing, standing_by, open_by, open_after, is_dropped}
use Rattle.wt_schema.specs.Rows.{shows_text, holds_text}
use Rattle.wt_schema.specs.Data.{Data, data_for}
use Rattle.wt_schema.specs.Fit.{Misfit, Position as Place, within, with_sync, label_as, piece_as, texts_in, leaf_in, is_block_row, is_block_element, row_as, fits_place, is_inside, with_children, one_piece, text_fits, fit_told, fit_as, fit_row, fit_text, fit_node, fit_nodes}
use Rattle.wt_html_in.specs.Fits.{is_block_piece}

-- ---- blocks

-- whatever is made is a block as told
abbrev Makes : Bool → Result (Option Piece) Misfit → Type 0
Makes b (Ok o) = b ≡ is_block_piece o
Makes b (Err e) = Unit {0}

leaf_made : (x : Place) (bs : List ℕ) (ts : Markups) → Makes false (Ok (fit_text x bs ts))
leaf_made x bs ts = by_test (is_dropped x.group bs ts) (shows_text x.parent) (holds_text x.parent)
  where
    by_test : (d s h : Bool) → false ≡ is_block_piece (if d then None
        else option_map single (if s then None else if h then Some (text_leaf None bs) else Some (sep_leaf None bs)))
    by_test true s h = refl
    by_test false true h = refl
    by_test false false true = refl
    by_test false false false = refl

kind_with : (l : Label) (o : Option Sync) → (with_sync l o).kind ≡ l.kind
kind_with l None = refl
kind_with l (Some s) = refl

kind_as : (s : Standing) (k : Kind) (ps : List Pair) (d : Data) (shown : List ℕ) → (label_as s k ps d shown).kind ≡ k
kind_as stands.Alone k ps d shown = kind_with _ d.sync
kind_as stands.First k ps d shown = refl
kind_as stands.Further k ps d shown = kind_with _ d.sync
kind_as stands.Astray k ps d shown = kind_with _ d.sync

piece_block : (s : Standing) (ps : List Pair) (d : Data) (t : Tree) → is_block (label t).kind ≡ is_block_piece (Some (piece_as s ps d t))
piece_block stands.Alone ps d t = refl
piece_block stands.First ps d t = refl
piece_block stands.Further ps d t = refl
piece_block stands.Astray ps d t = refl

children_made : (s : Standing) (i : Bool) (k : Kind) (ps : List Pair) (d : Data) (l : Label) (r : Result (List Piece) Misfit) → l.kind ≡ k
    → Makes (is_block k) (one_piece s ps d (with_children i k l r))
children_made s i k ps d l (Ok xs) e = ap is_block (sym e) ∙ piece_block s ps d _
children_made s i k ps d l (Err m) e = tt

told_made : (n : ℕ) (i : Bool) (s : Standing) (k : Kind) (ps : List Pair) (d : Option Data) (c : Markups) (held : Result (List Piece) Misfit)
    → Makes (is_block k) (fit_told n i s k ps d c held)
told_made n i s k ps None c held = tt
told_made n i s k ps (Some d) c held = by_test (text_fits k c)
  where
    by_test : (x : Bool) → Makes (is_block k) (if x then one_piece s ps d (with_children i k (label_as s k ps d (texts_in c)) held) else Err (n, why.Text))
    by_test true = children_made s i k ps d (label_as s k ps d (texts_in c)) held (kind_as s k ps d (texts_in c))
    by_test false = tt

row_made : (n : ℕ) (x : Place) (s : Standing) (o : Option Kind) (ps : List Pair) (c : Markups)
    (held : Kind → Result (List Piece) Misfit) → Makes (is_block_row o) (fit_row n x s o ps c held)
row_made n x s None ps c held = tt
row_made n x s (Some k) ps c held = by_test (fits_place x.parent x.behind s k c)
  where
    by_test : (b : Bool) → Makes (is_block k) (if b then fit_as n x s k ps c (held k) else Err (n, why.Place))
    by_test true = told_made n (is_inside x s) s k ps (data_for x.inside s k ps) c (held k)
    by_test false = tt

made : (n : ℕ) (x : Place) (t : Markup) (ts : Markups) → Makes (is_block_element x.group t) (fit_node n x t ts)
made n x (text bs) ts = leaf_made x bs ts
made n x (node name ps c) ts =
    let s = standing x.group ps in
    row_made n x s (row_as s name ps) ps c (λ k. fit_nodes (suc n) (within k (is_inside x s)) c)

pub block_made : (n : ℕ) (x : Place) (t : Markup) (ts : Markups) (o : Option Piece) → fit_node n x t ts ≡ Ok o → is_block_element x.group t ≡ is_block_piece o
block_made n x t ts o e = subst (Makes (is_block_element x.group t)) e (made n x t ts)

-- ---- the open group

-- the group that is open before a piece, and the one behind it
abbrev pub Moves : Option (List ℕ) → Option (List ℕ) → Option Piece → Type 0
Moves g h None = is_some h ≡ true → is_some g ≡ true
Moves g h (Some (single t)) = h ≡ None
Moves g h (Some (begun l t)) = Unit {0}
Moves g h (Some (further t)) = is_some g ≡ true

abbrev Moving : Option (List ℕ) → Option (List ℕ) → Result (Option Piece) Misfit → Type 0
Moving g h (Ok o) = Moves g h o
Moving g h (Err e) = Unit {0}

further_open : (g a : Option (List ℕ)) (d : Bool) → standing_by g a d ≡ stands.Further → is_some g ≡ true
further_open None None d e = cc
further_open None (Some a) true e = cc
further_open None (Some a) false e = cc
further_open (Some b) a d e = refl

piece_moves : (s : Standing) (g a : Option (List ℕ)) (ps : List Pair) (d : Data) (t : Tree) → (s ≡ stands.Further → is_some g ≡ true)
    → Moves g (open_by s g a) (Some (piece_as s ps d t))
piece_moves stands.Alone g a ps d t f = refl
piece_moves stands.First g a ps d t f = tt
piece_moves stands.Further g a ps d t f = f refl
piece_moves stands.Astray g a ps d t f = refl

one_moves : (s : Standing) (g a : Option (List ℕ)) (ps : List Pair) (d : Data) (r : Result Tree Misfit) → (s ≡ stands.Further → is_some g ≡ true)
    → Moving g (open_by s g a) (one_piece s ps d r)
one_moves s g a ps d (Ok t) f = piece_moves s g a ps d t f
one_moves s g a ps d (Err e) f = tt

told_moves : (n : ℕ) (i : Bool) (s : Standing) (k : Kind) (g a : Option (List ℕ)) (ps : List Pair) (d : Option Data) (c : Markups)
    (held : Result (List Piece) Misfit) → (s ≡ stands.Further → is_some g ≡ true) → Moving g (open_by s g a) (fit_told n i s k ps d c held)
told_moves n i s k g a ps None c held f = tt
told_moves n i s k g a ps (Some d) c held f = by_test (text_fits k c)
  where
    by_test : (x : Bool)
        → Moving g (open_by s g a) (if x then one_piece s ps d (with_children i k (label_as s k ps d (texts_in c)) held) else Err (n, why.Text))
    by_test true = one_moves s g a ps d (with_children i k (label_as s k ps d (texts_in c)) held) f
    by_test false = tt

row_moves : (n : ℕ) (x : Place) (s : Standing) (o : Option Kind) (a : Option (List ℕ)) (ps : List Pair) (c : Markups)
    (held : Kind → Result (List Piece) Misfit) → (s ≡ stands.Further → is_some x.group ≡ true)
    → Moving x.group (open_by s x.group a) (fit_row n x s o ps c held)
row_moves n x s None a ps c held f = tt
row_moves n x s (Some k) a ps c held f = by_test (fits_place x.parent x.behind s k c)
  where
    by_test : (b : Bool) → Moving x.group (open_by s x.group a) (if b then fit_as n x s k ps c (held k) else Err (n, why.Place))
    by_test true = told_moves n (is_inside x s) s k x.group a ps (data_for x.inside s k ps) c (held k) f
    by_test false = tt

text_moves : (x : Place) (bs : List ℕ) (ts : Markups) → Moves x.group (open_after x.group (text bs) ts) (fit_text x bs ts)
text_moves x bs ts = by_test (is_dropped x.group bs ts) (leaf_in x.parent bs)
  where
    by_test : (d : Bool) (o : Option Tree) → Moves x.group (if d then x.group else None) (if d then None else option_map single o)
    by_test true o = λ e. e
    by_test false None = λ e. cc
    by_test false (Some t) = refl

moving : (n : ℕ) (x : Place) (t : Markup) (ts : Markups) → Moving x.group (open_after x.group t ts) (fit_node n x t ts)
moving n x (text bs) ts = text_moves x bs ts
moving n x (node name ps c) ts =
    let s = standing x.group ps in
    let a = value_of (codes "about") ps in
    row_moves n x s (row_as s name ps) a ps c (λ k. fit_nodes (suc n) (within k (is_inside x s)) c)
    (further_open x.group a (has (codes "data-mw") ps))

pub node_moves : (n : ℕ) (x : Place) (t : Markup) (ts : Markups) (o : Option Piece) → fit_node n x t ts ≡ Ok o → Moves x.group (open_after x.group t ts) o
node_moves n x t ts o e = subst (Moving x.group (open_after x.group t ts)) e (moving n x t ts)
