-- Blocks that hold calls, at places in a page: no call goes over the end of one.
use Rattle.std.specs.Prelude.{◌≡◌, ℕ, true, false, None, List, [], ◌∷◌}
use Rattle.std.specs.List.{list_all, list_any}
use Rattle.wt_tree.specs.Kinds.{is_leaf}
use Rattle.wt_tree.specs.Tree.{Tree, tree}
use Rattle.wt_span.specs.Items.{Item, sources}
use Rattle.wt_span.specs.Origins.{OuterCall}
use Rattle.wt_inline.specs.ItemTree.{Head, ItemTree, inner, forest, tree_items}
use Rattle.wt_inline.specs.Parts.{Part, children}
use Rattle.wt_annotated.specs.Clean.{is_page}
use Rattle.wt_annotated.specs.Annotated.{kept_label, annotated}
use Rattle.wt_annotated.specs.CutTexts.{cut_texts}
use Rattle.wt_annotated.specs.GroupData.{group_data}
use Rattle.wt_annotated.specs.Walked.{clean_at, walked}
use Rattle.wt_part_laws.specs.Frames.{Frames, trees_at, all_places, content, AreFrames}
use Rattle.wt_part_laws.specs.Placeless.{placeless_label, placeless}
use Rattle.wt_part_laws.specs.TreeFrames.{TreeFrames, all_filled, spots}
use Rattle.wt_part_laws.specs.Rounded.{AreClean, AreCleanThere, HaveSameData, body_of, body_label}
use Rattle.wt_part_laws.specs.CallTexts.{AreOwnOrTexts, all_in_page}
use Rattle.wt_part_laws.specs.CallPieces.{ArePieceNodes, call_pieces, pieces_in_page}

-- with these calls, without its number and place
abbrev pub block_in : List OuterCall → ItemTree → Tree
block_in calls t = placeless (walked calls (group_data calls) None 0 None t)

-- By itself it is clean, and something in it is the page's own: so it is no part of what a call gives. A call may be first in it, or last.
pub record HoldsItsCalls (t : ItemTree) : Type 0 where
  pub some : list_any is_page (tree_items t) ≡ true
  pub clean : clean_at None None t ≡ true

-- the blocks as these calls have them
abbrev pub blocks_in : List OuterCall → (ℕ → ItemTree) → ℕ → Tree
blocks_in calls t n = block_in calls (t n)

-- so at each of these places
abbrev pub AllHold : (ℕ → ItemTree) → List ℕ → Type 0
AllHold t [] = Unit {0}
AllHold t (n ∷ ns) = HoldsItsCalls (t n) × AllHold t ns

-- ---- a block of texts, of which calls give some, and of nodes of the page

pub record IsRoundTexts (h : Head) (opening : List Item) (ps : List Part) (closing : List Item) : Type 0 where
  pub no_leaf : is_leaf h.kind ≡ false
  pub own_opening : list_all is_page opening ≡ true
  pub own_closing : list_all is_page closing ≡ true
  pub parts : AreOwnOrTexts ps
  pub some : list_any is_page (tree_items (inner h opening (forest (children ps)) closing)) ≡ true

-- its node: the characters of each call are a group in it, and everything else is itself
abbrev pub block_of_texts : List OuterCall → Head → List Item → List Part → List Item → Tree
block_of_texts calls h opening ps closing =
    tree (placeless_label (kept_label false h 0 [] (sources opening) (sources closing))) (all_in_page calls (children ps))

-- ---- a block of what calls give, whatever it is, and of what is the page's own, also round what they give

pub record IsRoundGiven (h : Head) (opening : List Item) (ps : List Part) (closing : List Item) : Type 0 where
  pub no_leaf : is_leaf h.kind ≡ false
  pub own_opening : list_all is_page opening ≡ true
  pub own_closing : list_all is_page closing ≡ true
  pub parts : ArePieceNodes ps
  pub some : list_any is_page (tree_items (inner h opening (forest (children ps)) closing)) ≡ true

-- its node: what each call gives side by side is a group in it
abbrev pub block_of_pieces : List OuterCall → Head → List Item → List Part → List Item → Tree
block_of_pieces calls h opening ps closing =
    tree (placeless_label (kept_label false h 0 [] (sources opening) (sources closing))) (pieces_in_page calls (call_pieces (children ps)))

-- ---- the page

-- As `GroupsStay`, where calls may be in the blocks, each with the number that it has in the page: whatever blocks are at the places, of which each is
-- clean where it is, and so is each node round them.
pub record GroupsStayRound (calls : List OuterCall) (fs : Frames) : Type 0 where
  pub nodes : TreeFrames
  pub in_order : spots nodes ≡ all_places fs
  pub stay : (others : List OuterCall) (t : ℕ → ItemTree) → HaveSameData calls others → AreClean t None fs None → AreCleanThere t None fs None
      → placeless (annotated others (group_data others) (body_of (trees_at t fs)))
      ≡ cut_texts (tree body_label (all_filled (blocks_in others t) nodes))

abbrev pub GroupsStayRoundIn : List OuterCall → Frames → Type 0
GroupsStayRoundIn calls fs = AreFrames fs content → GroupsStayRound calls fs
