-- Which trees of elements are pages, and what page each is. The elements are counted from 1 in
-- document order; the first that doesn't fit is reported, with the first reason for it.
use Rattle.std.specs.Prelude.{ℕ, suc, ◌+◌, ◌++◌, ◌==◌, ◌&&◌, ◌||◌, Bool, true, false, not, Option, Some, None, Result, Ok, Err, List, [], ◌∷◌, codes, if◌then◌else◌}
use Rattle.std.specs.Option.{option_map}
use Rattle.std.specs.Str.{bytes_eq}
use Rattle.wt_tree.specs.declared.kind.Kind.{Kind}
use Rattle.wt_tree.specs.declared.kind.Kind.TheVariants as kind
use Rattle.wt_tree.specs.Tree.{Label, Tree, tree, Trees}
use Rattle.wt_datamw.specs.declared.sync.Sync.{Sync}
use Rattle.wt_html_grammar.specs.Markup.{Pair, Markup, Markups, text, node, empty, more}
use Rattle.wt_schema.specs.declared.why.FitWhy.{FitWhy}
use Rattle.wt_schema.specs.declared.why.FitWhy.TheVariants as why
use Rattle.wt_schema.specs.declared.standing.Standing.{Standing}
use Rattle.wt_schema.specs.declared.standing.Standing.TheVariants as stands
use Rattle.wt_schema.specs.Groups.{standing, open_after, is_grouped, is_dropped, group_attributes, own_pairs, pairs_for, is_span, is_none, Piece, single, begun, further, gathered}
use Rattle.wt_schema.specs.Attributes.{has, is_typed, id_of, mark_of}
use Rattle.wt_tree.specs.declared.row.Texts.{Texts}
use Rattle.wt_tree.specs.declared.row.Texts.TheVariants.{Separators, Page, Bordered, OwnCharacter}
use Rattle.wt_tree.specs.Kinds.{may_hold, may_follow, is_block, texts_of_kind}
use Rattle.wt_tree.specs.Leaves.{text_leaf, sep_leaf}
use Rattle.wt_recut.specs.Recut.{is_blank, recut}
use Rattle.wt_schema.specs.Rows.{row, holds_text, shows_text, attrs_for}
use Rattle.wt_schema.specs.Data.{Data, no_data, data_of, data_for, id_for}
use Rattle.wt_schema.specs.Sections.{all_bared, opened_if_fit}

-- ---- labels

-- A text in a parent of this kind, without ranges: a text of the page, or a separator. The character
-- of an entity is no node.
abbrev pub leaf_in : Kind → List ℕ → Option Tree
leaf_in parent bs = if shows_text parent then None else if holds_text parent then Some (text_leaf None bs) else Some (sep_leaf None bs)

abbrev pub source_of : Option (List ℕ) → List ℕ
source_of None = []
source_of (Some bs) = bs

-- a node with what `data-parsoid` says of it, if it is there
abbrev pub with_sync : Label → Option Sync → Label
with_sync l None = l
with_sync l (Some s) = record l { ranges = Some s.dsr; opening = s.opening; closing = s.closing; own = source_of s.src }

-- an element of this kind with this data, and these characters in it
abbrev pub label_for : Kind → List Pair → Data → List ℕ → Label
label_for k ps d shown =
    with_sync (record {
      kind = k;
      id = id_for k ps;
      ranges = None;
      opening = [];
      closing = [];
      own = [];
      shown = if shows_text k then shown else [];
      attrs = attrs_for k ps;
      origin = None;
      mark = mark_of ps;
      mw = d.mw;
    }) d.sync

-- the label of a group, by its first element
abbrev pub group_label : List Pair → Data → Label
group_label ps d = record (label_for kind.Group ps d []) { attrs = group_attributes ps }

-- The label of an element by how it is: of a group's first one the data are the group's.
abbrev pub label_as : Standing → Kind → List Pair → Data → List ℕ → Label
label_as stands.Alone k ps d shown = label_for k ps d shown
label_as stands.First k ps d shown = label_for k (own_pairs ps) no_data shown
label_as stands.Further k ps d shown = label_for k ps d shown
label_as stands.Astray k ps d shown = label_for k ps d shown

abbrev pub piece_as : Standing → List Pair → Data → Tree → Piece
piece_as stands.Alone ps d t = single t
piece_as stands.First ps d t = begun (group_label ps d) t
piece_as stands.Further ps d t = further t
piece_as stands.Astray ps d t = single t

-- ---- counting

-- how many elements
abbrev mutual
  pub elements : Markup → ℕ
  elements (text bs) = 0
  elements (node name ps c) = suc (elements_of_all c)

  pub elements_of_all : Markups → ℕ
  elements_of_all empty = 0
  elements_of_all (more t ts) = elements t + elements_of_all ts

-- ---- texts

-- the texts directly there, joined
abbrev pub texts_in : Markups → List ℕ
texts_in empty = []
texts_in (more (text bs) ts) = bs ++ texts_in ts
texts_in (more (node name ps c) ts) = texts_in ts

-- all texts directly there are spaces, tabs and line breaks
abbrev pub are_blank : Markups → Bool
are_blank empty = true
are_blank (more (text bs) ts) = is_blank bs && are_blank ts
are_blank (more (node name ps c) ts) = are_blank ts

-- ---- fitting

-- the number of an element that doesn't fit, and why
abbrev pub Misfit : Type 0
Misfit = ℕ × FitWhy

abbrev pub onto : Piece → Result (List Piece) Misfit → Result (List Piece) Misfit
onto x (Ok xs) = Ok (x ∷ xs)
onto x (Err e) = Err e

-- a piece, or none, before others; its misfit comes first
abbrev pub onto_told : Result (Option Piece) Misfit → Result (List Piece) Misfit → Result (List Piece) Misfit
onto_told (Ok None) r = r
onto_told (Ok (Some x)) r = onto x r
onto_told (Err e) r = Err e

-- in an item, a cell or a caption texts and separators are cut at the border between them
abbrev pub held_as : Texts → Trees → Trees
held_as Separators ts = ts
held_as Page ts = ts
held_as Bordered ts = recut ts
held_as OwnCharacter ts = ts

-- What an element of this kind holds, when all that is in it fits. In a group no separator is
-- written, so there all texts stay whole.
abbrev pub children_in : Bool → Kind → List Piece → Trees
children_in inside k xs = if inside then gathered xs else held_as (texts_of_kind k) (gathered xs)

-- a node of this kind with this label, in a group or not
abbrev pub with_children : Bool → Kind → Label → Result (List Piece) Misfit → Result Tree Misfit
with_children inside k l (Ok xs) = Ok (tree l (children_in inside k xs))
with_children inside k l (Err e) = Err e

abbrev pub one_piece : Standing → List Pair → Data → Result Tree Misfit → Result (Option Piece) Misfit
one_piece s ps d (Ok t) = Ok (Some (piece_as s ps d t))
one_piece s ps d (Err e) = Err e

-- whether the texts directly in an element of this kind may be there
abbrev pub text_fits : Kind → Markups → Bool
text_fits k c = holds_text k || are_blank c

-- ---- where something is

-- in a parent of this kind, in a group or not, after a block or not, and with this group open
pub record Position : Type 0 where
  pub parent : Kind
  pub inside : Bool
  pub behind : Bool
  pub group : Option (List ℕ)

-- what is first in an element of this kind
abbrev pub within : Kind → Bool → Position
within k inside = record { parent = k; inside = inside; behind = false; group = None }

abbrev pub is_block_row : Option Kind → Bool
is_block_row None = false
is_block_row (Some k) = is_block k

-- the row of an element, by how it is
abbrev pub row_as : Standing → List ℕ → List Pair → Option Kind
row_as s name ps = row name (pairs_for s ps)

-- a block or a list
abbrev pub is_block_element : Option (List ℕ) → Markup → Bool
is_block_element group (text bs) = false
is_block_element group (node name ps c) = is_block_row (row_as (standing group ps) name ps)

-- after a text or an element, and before these
abbrev pub behind_it : Position → Markup → Markups → Position
behind_it x t ts = record x { behind = x.behind || is_block_element x.group t; group = open_after x.group t ts }

-- in a parent of that kind, after a block or not
abbrev pub has_place : Kind → Bool → Kind → Bool
has_place parent behind k = may_hold parent k && may_follow behind k

-- in a group an empty `span` may be anywhere
abbrev pub fits_place : Kind → Bool → Standing → Kind → Markups → Bool
fits_place parent behind s k c = has_place parent behind k || (is_grouped s && (is_span k && is_none c))

-- what is in an element is in a group where the element is, or is part of one
abbrev pub is_inside : Position → Standing → Bool
is_inside x s = x.inside || is_grouped s

-- ---- elements

-- element n is of this kind, with this data and this inside
abbrev pub fit_told : ℕ → Bool → Standing → Kind → List Pair → Option Data → Markups → Result (List Piece) Misfit → Result (Option Piece) Misfit
fit_told n inside s k ps None c held = Err (n, why.Data)
fit_told n inside s k ps (Some d) c held =
    if text_fits k c then one_piece s ps d (with_children inside k (label_as s k ps d (texts_in c)) held) else Err (n, why.Text)

abbrev pub fit_as : ℕ → Position → Standing → Kind → List Pair → Markups → Result (List Piece) Misfit → Result (Option Piece) Misfit
fit_as n x s k ps c held = fit_told n (is_inside x s) s k ps (data_for x.inside s k ps) c held

-- element n where it is, by its row
abbrev pub fit_row : ℕ → Position → Standing → Option Kind → List Pair → Markups → (Kind → Result (List Piece) Misfit) → Result (Option Piece) Misfit
fit_row n x s None ps c held = Err (n, why.Element)
fit_row n x s (Some k) ps c held = if fits_place x.parent x.behind s k c then fit_as n x s k ps c (held k) else Err (n, why.Place)

-- a text before these: white space between two elements of a group is nothing
abbrev pub fit_text : Position → List ℕ → Markups → Option Piece
fit_text x bs ts = if is_dropped x.group bs ts then None else option_map single (leaf_in x.parent bs)

-- What is there, and before these: its first element, if it has one, is number n.
abbrev mutual
  pub fit_node : ℕ → Position → Markup → Markups → Result (Option Piece) Misfit
  fit_node n x (text bs) ts = Ok (fit_text x bs ts)
  fit_node n x (node name ps c) ts =
      fit_row n x (standing x.group ps) (row_as (standing x.group ps) name ps) ps c
      (λ k. fit_nodes (suc n) (within k (is_inside x (standing x.group ps))) c)

  pub fit_nodes : ℕ → Position → Markups → Result (List Piece) Misfit
  fit_nodes n x empty = Ok []
  fit_nodes n x (more t ts) = onto_told (fit_node n x t ts) (fit_nodes (n + elements t) (behind_it x t ts) ts)

-- ---- the frame

-- the elements alone: text beside head and body is ignored
abbrev pub elements_in : Markups → Markups
elements_in empty = empty
elements_in (more (text bs) ts) = elements_in ts
elements_in (more (node name ps c) ts) = more (node name ps c) (elements_in ts)

-- attributes that the root may not have
abbrev pub is_marked_root : List Pair → Bool
is_marked_root ps =
    has (codes "about") ps || (has (codes "data-mw") ps ||
    (has (codes "data-parsoid") ps || (has (codes "data-wt-edit") ps || (is_typed ps || not (id_of ps == 0)))))

-- the body of a document: the number of its element, its attributes and its contents, in which sections have
-- no attributes but marks
pub record BodyElement : Type 0 where
  pub number : ℕ
  pub attributes : List Pair
  pub contents : Markups

-- a body, and maybe a head before it, whose contents are ignored
abbrev pub body_in : Markups → Option BodyElement
body_in (more (node name ps c) empty) = if bytes_eq name (codes "body") then Some (record { number = 2; attributes = ps; contents = all_bared c }) else None
body_in (more (node head hs hc) (more (node name ps c) empty)) =
    if bytes_eq head (codes "head") && bytes_eq name (codes "body")
    then Some (record { number = 3 + elements_of_all hc; attributes = ps; contents = all_bared c })
    else None
body_in ts = None

abbrev pub body_of : Markup → Option BodyElement
body_of (text bs) = None
body_of (node name ps c) = if bytes_eq name (codes "html") && not (is_marked_root ps) then body_in (elements_in c) else None

-- The body is by itself.
abbrev pub fit_body_told : ℕ → List Pair → Option Data → Markups → Result (List Piece) Misfit → Result Tree Misfit
fit_body_told n ps None c held = Err (n, why.Data)
fit_body_told n ps (Some d) c held =
    if text_fits kind.Body c then with_children false kind.Body (label_for kind.Body ps d (texts_in c)) held else Err (n, why.Text)

-- its `about` is no group's, and asks for `data-mw` too
abbrev pub body_data : List Pair → Option Data
body_data ps = if has (codes "about") ps && not (has (codes "data-mw") ps) then None else data_of kind.Body ps

abbrev pub fit_body : Option BodyElement → Result Tree Misfit
fit_body None = Err (1, why.Root)
fit_body (Some f) =
    opened_if_fit (fit_body_told f.number f.attributes (body_data f.attributes) f.contents
    (fit_nodes (suc f.number) (within kind.Body false) f.contents))

-- the page that a tree of elements is, or its first misfit
abbrev pub fit : Markup → Result Tree Misfit
fit m = fit_body (body_of m)
