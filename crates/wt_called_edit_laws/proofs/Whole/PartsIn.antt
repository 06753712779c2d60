-- Nodes of the page and of calls, those of the page round calls, and bold and italic of the page round such, among the parts of a block.
use Rattle.std.proofs.Common.{inl, inr, ℕ, zero, suc, List, [], ◌∷◌, subst, sym}
use Rattle.wt_span.specs.Items.{Item}
use Rattle.wt_span.specs.Origins.{OuterCall}
use Rattle.wt_inline.specs.ItemTree.{ItemTree}
use Rattle.wt_inline.specs.Parts.{Part, loose, node}
use Rattle.wt_part_laws.specs.CallPieces.{IsOwnOrGiven, IsRoundNode, IsPieceNode, EachNode, ArePieceNodes, AreOwnOrGiven}
use Rattle.wt_beside_laws.proofs.StyledGroups.Blocks.{style_round}
use Rattle.wt_called_edit_laws.specs.WholeContents.{IsShutRound, IsAnyNode, IsPartIn, ArePartsIn}

any_node : (n : ℕ) (calls : List OuterCall) (xs : List Item) (t : ItemTree) → IsAnyNode calls t → IsPartIn n calls xs t
any_node zero calls xs t h = h
any_node (suc n) calls xs t h = inl h

-- of which none is round others
pub simple_node : (n : ℕ) (calls : List OuterCall) (xs : List Item) (t : ItemTree) → IsOwnOrGiven t → IsPartIn n calls xs t
simple_node n calls xs t h = any_node n calls xs t (inl h)

pub simple_within : (n : ℕ) (calls : List OuterCall) (xs : List Item) (ps : List Part) → AreOwnOrGiven ps → EachNode (IsPartIn n calls xs) ps
simple_within n calls xs [] h = tt
simple_within n calls xs (loose k o b ∷ ps) h = simple_within n calls xs ps h
simple_within n calls xs (node t ∷ ps) h = (simple_node n calls xs t h.0, simple_within n calls xs ps h.1)

pub simple_parts : (calls : List OuterCall) (xs : List Item) (ps : List Part) → AreOwnOrGiven ps → ArePartsIn calls xs ps
simple_parts calls xs ps h = simple_within 2 calls xs ps h

-- or round calls
pub round_node : (n : ℕ) (calls : List OuterCall) (xs : List Item) (t : ItemTree) → IsShutRound calls t → IsPartIn n calls xs t
round_node n calls xs t h = any_node n calls xs t (inr h)

any_piece : (calls : List OuterCall) (t : ItemTree) → IsAnyNode calls t → IsPieceNode t
any_piece calls t (inl h) = inl h
any_piece calls t (inr r) = inr r.round

-- the delimiters of a style are the page's
node_piece : (n : ℕ) (calls : List OuterCall) (xs : List Item) (t : ItemTree) → IsPartIn n calls xs t → IsPieceNode t
node_piece zero calls xs t h = any_piece calls t h
node_piece (suc n) calls xs t (inl h) = any_piece calls t h
node_piece (suc n) calls xs t (inr r) = inr (subst IsRoundNode (sym r.2) (style_round r.0 r.1))

pub parts_pieces : (n : ℕ) (calls : List OuterCall) (xs : List Item) (ps : List Part) → EachNode (IsPartIn n calls xs) ps → ArePieceNodes ps
parts_pieces n calls xs [] h = tt
parts_pieces n calls xs (loose k o b ∷ ps) h = parts_pieces n calls xs ps h
parts_pieces n calls xs (node t ∷ ps) h = (node_piece n calls xs t h.0, parts_pieces n calls xs ps h.1)
