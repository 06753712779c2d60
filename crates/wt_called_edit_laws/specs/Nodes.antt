-- The nodes of a page with calls, with places for blocks among them, once its texts are cut.
use Rattle.std.specs.Prelude.{◌≡◌, ◌⊎◌, ℕ, false, None, List, [], ◌∷◌}
use Rattle.wt_tree.specs.declared.kind.Kind.TheVariants as kind
use Rattle.wt_tree.specs.Kinds.{is_leaf}
use Rattle.wt_tree.specs.Tree.{Tree}
use Rattle.wt_span.specs.Origins.{OuterCall}
use Rattle.wt_inline.specs.ItemTree.{ItemTree, inner}
use Rattle.wt_checks.specs.Kept.{children}
use Rattle.wt_annotated.specs.Annotated.{annotated}
use Rattle.wt_annotated.specs.GroupData.{group_data}
use Rattle.wt_part_laws.specs.Frames.{Frames, trees_at, all_places, Part, content, Holds, AreFrames}
use Rattle.wt_part_laws.specs.Standing.{standing}
use Rattle.wt_part_laws.specs.Placeless.{placeless, all_placeless}
use Rattle.wt_part_laws.specs.TreeFrames.{TreeFrame, spot, kept, holder, TreeFrames, no_nodes, more_nodes, all_filled, spots}
use Rattle.wt_part_laws.specs.Rounded.{AreOwn, AreClean, AreCleanThere, HaveSameData, body_of}
use Rattle.wt_part_laws.specs.HeldCalls.{block_in}
use Rattle.wt_annotated.specs.CutTexts.{cut_texts}

-- ---- the blocks

abbrev pub IsBlock : ItemTree → Type 0
IsBlock (inner h opening ts closing) = (h.kind ≡ kind.Para) ⊎ ((n : ℕ) × (h.kind ≡ kind.Heading n))

-- at each of these places is a paragraph or a heading
abbrev pub AreBlocks : (ℕ → ItemTree) → List ℕ → Type 0
AreBlocks t [] = Unit {0}
AreBlocks t (n ∷ ns) = IsBlock (t n) × AreBlocks t ns

-- a block without its number and place
abbrev pub block_at : (ℕ → ItemTree) → ℕ → Tree
block_at t n = placeless (standing 0 [] (t n))

-- ---- the nodes round them

-- none of them is a leaf
abbrev mutual
  pub NoLeaves : TreeFrame → Type 0
  NoLeaves (spot n) = Unit {0}
  NoLeaves (kept t) = Unit {0}
  NoLeaves (holder l fs) = (is_leaf l.kind ≡ false) × NoneLeaves fs

  pub NoneLeaves : TreeFrames → Type 0
  NoneLeaves no_nodes = Unit {0}
  NoneLeaves (more_nodes f fs) = NoLeaves f × NoneLeaves fs

-- what holds places is a table, or a part of one in it, as it is in the page
abbrev mutual
  pub IsHolder : TreeFrame → Part → Type 0
  IsHolder (spot n) p = Unit {0}
  IsHolder (kept t) p = Unit {0}
  IsHolder (holder l fs) p = (q : Part) × Holds p l.kind q × AreHolders fs q

  pub AreHolders : TreeFrames → Part → Type 0
  AreHolders no_nodes p = Unit {0}
  AreHolders (more_nodes f fs) p = IsHolder f p × AreHolders fs p

-- ---- the page

-- Whatever paragraphs and headings of the page are at the places, and wherever the calls are then, the children of the page's body are these
-- nodes with the blocks among them, but for numbers and places.
pub record NodesStay (calls : List OuterCall) (fs : Frames) : Type 0 where
  pub nodes : TreeFrames
  pub in_order : spots nodes ≡ all_places fs
  pub inner_nodes : NoneLeaves nodes
  pub holders : AreHolders nodes content
  pub stay : (others : List OuterCall) (t : ℕ → ItemTree) → HaveSameData calls others → AreOwn t (all_places fs) → AreBlocks t (all_places fs)
      → all_placeless (children (annotated others (group_data others) (body_of (trees_at t fs)))) ≡ all_filled (block_at t) nodes

-- So it is round paragraphs and headings that hold calls, of which each is clean, and each node round them: each is there with the groups in it, its
-- texts cut between these.
pub record NodesStayRound (calls : List OuterCall) (fs : Frames) : Type 0 where
  pub nodes : TreeFrames
  pub in_order : spots nodes ≡ all_places fs
  pub inner_nodes : NoneLeaves nodes
  pub holders : AreHolders nodes content
  pub stay : (others : List OuterCall) (t : ℕ → ItemTree) → HaveSameData calls others → AreClean t None fs None → AreCleanThere t None fs None
      → AreBlocks t (all_places fs)
      → all_placeless (children (annotated others (group_data others) (body_of (trees_at t fs)))) ≡ all_filled (λ n. cut_texts (block_in others (t n))) nodes

-- It is so of each page in which no node round a place is in a group.
abbrev pub NodesStayIn : List OuterCall → Frames → (ℕ → ItemTree) → Type 0
NodesStayIn calls fs t = AreFrames fs content → AreOwn t (all_places fs) → AreClean t None fs None → NodesStay calls fs
