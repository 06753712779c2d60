-- What fitting in code answers: what the definitions say, unless memory ran out.
use Rattle.std.specs.Prelude.{◌≡◌, ℕ, ◌+◌, ◌&&◌, Bool, true, false, not, Option, Some, None, Result, Ok, Err, List, if◌then◌else◌}
use Rattle.std.specs.Option.{option_or}
use Rattle.wt_tree.specs.declared.kind.Kind.{Kind}
use Rattle.wt_tree.specs.Kinds.{is_block, texts_of_kind}
use Rattle.wt_tree.specs.Tree.{Trees, label}
use Rattle.wt_tree.specs.View.{view, views}
use Rattle.wt_tree.specs.declared.node.Node.{Node}
use Rattle.wt_html_grammar.specs.Markup.{Pair, Markup, Markups}
use Rattle.wt_schema.specs.declared.standing.Standing.{Standing}
use Rattle.wt_schema.specs.declared.standing.Standing.TheVariants as stands
use Rattle.wt_schema.specs.Groups.{Piece, single, begun, further, gathered}
use Rattle.wt_schema.specs.Fit.{within, held_as, elements, elements_of_all, fit_node, fit_nodes}
use Rattle.wt_schema.specs.Unsourced.{lacks_source, unsourced_node, unsourced_nodes}
use Rattle.wt_html_nodes.specs.declared.fault.FitFault.{FitFault}
use Rattle.wt_html_nodes.specs.declared.fault.FitFault.TheVariants as faults
use Rattle.wt_html_nodes.specs.declared.head.Position.{Position}
use Rattle.wt_html_nodes.specs.Heads.{label_of_head, spot_with}
use Rattle.wt_html_in.specs.declared.walk.Traversal.{Traversal}
use Rattle.wt_html_in.specs.declared.walk.Converted.{Converted}
use Rattle.wt_html_in.specs.declared.walk.Converted.TheVariants as are
use Rattle.wt_html_in.specs.declared.roles.Role.{Role}
use Rattle.wt_html_in.specs.Roles.{role_at}

-- what an element of this kind holds, in a group or not
abbrev pub held_in : Bool → Kind → Trees → Trees
held_in inside k ts = if inside then ts else held_as (texts_of_kind k) ts

-- ---- sources

-- an element that is asked for its source: a group's first one for the group, and nothing else in a group
abbrev pub is_asked : Bool → Standing → Bool
is_asked inside stands.Alone = not inside
is_asked inside stands.First = not inside
is_asked inside stands.Further = false
is_asked inside stands.Astray = not inside

abbrev pub unsourced_here : Bool → Standing → ℕ → List ℕ → List Pair → Option ℕ
unsourced_here inside s n name ps = if is_asked inside s && lacks_source name ps then Some n else None

abbrev pub unsourced_among : Bool → ℕ → Option (List ℕ) → Markups → Option ℕ
unsourced_among true n g ms = None
unsourced_among false n g ms = unsourced_nodes n g ms

abbrev pub unsourced_one : Bool → ℕ → Option (List ℕ) → Markup → Option ℕ
unsourced_one true n g m = None
unsourced_one false n g m = unsourced_node n g m

-- elements were passed: the next one's number, and the first without a source so far
pub record Passed (w v : Traversal) (count : ℕ) (found : Option ℕ) : Type 0 where
  pub next : v.next ≡ w.next + count
  pub unsourced : v.unsourced ≡ option_or w.unsourced found

-- ---- what is made

abbrev pub piece_of : Converted → Option Piece
piece_of are.Nothing = None
piece_of (are.Single n) = Some (single (view n))
piece_of (are.Begun h n) = Some (begun (label_of_head h) (view n))
piece_of (are.Further n) = Some (further (view n))

-- a block or a list
abbrev pub is_block_piece : Option Piece → Bool
is_block_piece None = false
is_block_piece (Some (single t)) = is_block (label t).kind
is_block_piece (Some (begun l t)) = is_block (label t).kind
is_block_piece (Some (further t)) = is_block (label t).kind

-- of a text or an element of this role, before these and with this group open
abbrev pub FitsPiece : Traversal → Position → Role → Markup → Traversal → Result Converted FitFault → Type 0
FitsPiece w s r m v (Ok o) =
    (g : Option (List ℕ)) (ts : Markups) → r ≡ role_at g m ts
    → (fit_node w.next (spot_with s g) m ts ≡ Ok (piece_of o)) × Passed w v (elements m) (unsourced_one s.inside w.next g m)
FitsPiece w s r m v (Err (faults.Unfit n y)) =
    (g : Option (List ℕ)) (ts : Markups) → r ≡ role_at g m ts → fit_node w.next (spot_with s g) m ts ≡ Err (n, y)
FitsPiece w s r m v (Err faults.NoMemory) = Unit {0}

abbrev pub FitsNodes : Traversal → Kind → Bool → Markups → Traversal → Result (List Node) FitFault → Type 0
FitsNodes w k inside ms v (Ok ns) =
    (xs : List Piece) × (fit_nodes w.next (within k inside) ms ≡ Ok xs) × (gathered xs ≡ views ns)
    × Passed w v (elements_of_all ms) (unsourced_among inside w.next None ms)
FitsNodes w k inside ms v (Err (faults.Unfit n y)) = fit_nodes w.next (within k inside) ms ≡ Err (n, y)
FitsNodes w k inside ms v (Err faults.NoMemory) = Unit {0}
