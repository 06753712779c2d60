-- What an element is as a node, without what is in it: its head, by its kind, its attributes and its
-- data, and the answers of the code, which are what the definitions say unless memory ran out.
use Rattle.std.specs.Prelude.{◌≡◌, ℕ, Bool, true, false, Option, Some, None, Result, Ok, Err, List, []}
use Rattle.wt_tree.specs.declared.kind.Kind.{Kind}
use Rattle.wt_tree.specs.Tree.{Label, Tree}
use Rattle.wt_tree.specs.View.{attrs_of}
use Rattle.wt_html_grammar.specs.Markup.{Pair}
use Rattle.wt_schema.specs.declared.standing.Standing.{Standing}
use Rattle.wt_schema.specs.declared.standing.Standing.TheVariants as stands
use Rattle.wt_schema.specs.Groups.{Piece, single, begun, further}
use Rattle.wt_schema.specs.Data.{Data}
use Rattle.wt_schema.specs.Fit.{Misfit, Position as Place, with_sync, label_for, label_as, group_label, with_children}
use Rattle.wt_html_nodes.specs.declared.fault.FitFault.{FitFault}
use Rattle.wt_html_nodes.specs.declared.fault.FitFault.TheVariants as faults
use Rattle.wt_html_nodes.specs.declared.head.Head.{Head}
use Rattle.wt_html_nodes.specs.declared.head.Headed.{Headed}
use Rattle.wt_html_nodes.specs.declared.head.Position.{Position}

-- the label of an element without its source
abbrev pub bare_label : Head → Label
bare_label h = record {
  kind = h.kind;
  id = h.id;
  ranges = None;
  opening = [];
  closing = [];
  own = [];
  shown = h.shown;
  attrs = attrs_of h.attrs;
  origin = None;
  mark = h.mark;
  mw = h.mw;
}

abbrev pub label_of_head : Head → Label
label_of_head h = with_sync (bare_label h) h.sync

-- it is of this kind, with these attributes, this data and these characters in it
pub record IsHeadOf (k : Kind) (ps : List Pair) (d : Data) (shown : List ℕ) (h : Head) : Type 0 where
  pub kind : h.kind ≡ k
  pub label : label_of_head h ≡ label_for k ps d shown

-- ---- elements, by how they are

abbrev pub is_first : Standing → Bool
is_first stands.Alone = false
is_first stands.First = true
is_first stands.Further = false
is_first stands.Astray = false

-- of a group's first element the head of the group is made, too
abbrev pub IsGroupHead : Standing → List Pair → Data → Option Head → Type 0
IsGroupHead stands.Alone ps d o = o ≡ None
IsGroupHead stands.First ps d o = (h : Head) × (o ≡ Some h) × (label_of_head h ≡ group_label ps d)
IsGroupHead stands.Further ps d o = o ≡ None
IsGroupHead stands.Astray ps d o = o ≡ None

pub record IsHeadedAs (s : Standing) (k : Kind) (ps : List Pair) (d : Data) (shown : List ℕ) (h : Headed) : Type 0 where
  pub standing : h.standing ≡ s
  pub kind : h.head.kind ≡ k
  pub label : label_of_head h.head ≡ label_as s k ps d shown
  pub group : IsGroupHead s ps d h.group

-- the piece that its node is
abbrev pub piece_by : Option Head → Standing → Tree → Piece
piece_by (Some g) s t = begun (label_of_head g) t
piece_by None stands.Alone t = single t
piece_by None stands.First t = single t
piece_by None stands.Further t = further t
piece_by None stands.Astray t = single t

abbrev pub made_by : Headed → Result Tree Misfit → Result (Option Piece) Misfit
made_by h (Ok t) = Ok (Some (piece_by h.group h.standing t))
made_by h (Err e) = Err e

-- what an element of a known kind is, in a group or not, whatever comes of what is in it
abbrev pub HeadFits : Bool → ((Kind → Result (List Piece) Misfit) → Result (Option Piece) Misfit) → Result Headed FitFault → Type 0
HeadFits inside told (Ok h) =
    (held : Kind → Result (List Piece) Misfit)
    → told held ≡ made_by h (with_children inside h.head.kind (label_of_head h.head) (held h.head.kind))
HeadFits inside told (Err (faults.Unfit n w)) = (held : Kind → Result (List Piece) Misfit) → told held ≡ Err (n, w)
HeadFits inside told (Err faults.NoMemory) = Unit {0}

-- the same of an element in a parent, whichever group is open there
abbrev pub RowFits : Bool → (Option (List ℕ) → (Kind → Result (List Piece) Misfit) → Result (Option Piece) Misfit) → Result Headed FitFault → Type 0
RowFits inside told r = (group : Option (List ℕ)) → HeadFits inside (told group) r

-- the body
abbrev pub BodyFits : (Result (List Piece) Misfit → Result Tree Misfit) → Result Head FitFault → Type 0
BodyFits told (Ok h) = (held : Result (List Piece) Misfit) → told held ≡ with_children false h.kind (label_of_head h) held
BodyFits told (Err (faults.Unfit n w)) = (held : Result (List Piece) Misfit) → told held ≡ Err (n, w)
BodyFits told (Err faults.NoMemory) = Unit {0}

-- a place in the definition's words, with the group that is open there
abbrev pub spot_with : Position → Option (List ℕ) → Place
spot_with s g = record { parent = s.outer; inside = s.inside; behind = s.behind; group = g }
