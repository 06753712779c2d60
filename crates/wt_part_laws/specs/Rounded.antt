-- A page with calls, with places for blocks in it: what is asked of the nodes round the places, and what stays whatever blocks are there.
use Rattle.std.specs.Prelude.{◌≡◌, ℕ, true, false, Option, None, List, [], ◌∷◌, ◌++◌, slice_get}
use Rattle.std.specs.List.{list_all, list_any}
use Rattle.wt_tree.specs.declared.kind.Kind.TheVariants as kind
use Rattle.wt_tree.specs.Kinds.{is_leaf}
use Rattle.wt_tree.specs.Tree.{Label, Tree, tree}
use Rattle.wt_span.specs.Origins.{OuterCall}
use Rattle.wt_span.specs.Cuts.{source_of_call}
use Rattle.wt_inline.specs.ItemTree.{plain, ItemTree, inner, ItemTrees, nothing, further, forest, tree_items, held_by_all}
use Rattle.wt_annotated.specs.Clean.{is_page}
use Rattle.wt_annotated.specs.GroupParts.{Part}
use Rattle.wt_annotated.specs.Annotated.{kept_label, annotated}
use Rattle.wt_annotated.specs.CutTexts.{cut_texts}
use Rattle.wt_annotated.specs.GroupData.{group_data}
use Rattle.wt_annotated.specs.Seams.{last_of, first_of}
use Rattle.wt_annotated.specs.Walked.{clean_at}
use Rattle.wt_annotated.specs.WithoutCalls.{InsideOf, placed}
use Rattle.wt_part_laws.specs.Frames.{Frame, place, whole, around, Frames, no_frames, more_frames, tree_at, trees_at, all_places, content, AreFrames}
use Rattle.wt_part_laws.specs.Placeless.{placeless_label, placeless}
use Rattle.wt_part_laws.specs.TreeFrames.{TreeFrames, all_filled, spots}

-- ---- the blocks

-- each node of it has an item of the page
abbrev mutual
  pub HasItems : ItemTree → Type 0
  HasItems (inner h opening ts closing) =
      (list_any is_page (opening ++ (held_by_all ts ++ closing)) ≡ true) × InsideOf (is_leaf h.kind) (AllHaveItems ts)

  pub AllHaveItems : ItemTrees → Type 0
  AllHaveItems nothing = Unit {0}
  AllHaveItems (further t ts) = HasItems t × AllHaveItems ts

-- a tree of the page: no item of it comes from a call
pub record IsOwn (t : ItemTree) : Type 0 where
  pub of_page : list_all is_page (tree_items t) ≡ true
  pub has_items : HasItems t

-- so at each of these places
abbrev pub AreOwn : (ℕ → ItemTree) → List ℕ → Type 0
AreOwn t [] = Unit {0}
AreOwn t (n ∷ ns) = IsOwn (t n) × AreOwn t ns

-- ---- the nodes round them

-- With these blocks, each node round places is clean: no call reaches over one of its ends, and its delimiters are the page's own. The
-- calls are those of the last item before, and of the first item behind.
abbrev mutual
  pub IsClean : (ℕ → ItemTree) → Option ℕ → Frame → Option ℕ → Type 0
  IsClean t o (place n) p = Unit {0}
  IsClean t o (whole u) p = Unit {0}
  IsClean t o (around h opening fs closing) p =
      (clean_at o p (tree_at t (around h opening fs closing)) ≡ true) × AreClean t (last_of o opening) fs (first_of closing p)

  pub AreClean : (ℕ → ItemTree) → Option ℕ → Frames → Option ℕ → Type 0
  AreClean t o no_frames p = Unit {0}
  AreClean t o (more_frames f fs) p =
      IsClean t o f (first_of (held_by_all (forest (trees_at t fs))) p) × AreClean t (last_of o (tree_items (tree_at t f))) fs p

-- Each block is clean where it is: no call reaches over one of its ends, and something in it is the page's own.
abbrev mutual
  pub IsCleanThere : (ℕ → ItemTree) → Option ℕ → Frame → Option ℕ → Type 0
  IsCleanThere t o (place n) p = clean_at o p (t n) ≡ true
  IsCleanThere t o (whole u) p = Unit {0}
  IsCleanThere t o (around h opening fs closing) p = AreCleanThere t (last_of o opening) fs (first_of closing p)

  pub AreCleanThere : (ℕ → ItemTree) → Option ℕ → Frames → Option ℕ → Type 0
  AreCleanThere t o no_frames p = Unit {0}
  AreCleanThere t o (more_frames f fs) p =
      IsCleanThere t o f (first_of (held_by_all (forest (trees_at t fs))) p) × AreCleanThere t (last_of o (tree_items (tree_at t f))) fs p

-- ---- the calls

-- Two lists of calls that have the same sources, and of which groups carry the same: so are those of a page, and those of the page after
-- a text was typed in it, which are at other places.
pub record HaveSameData (calls others : List OuterCall) : Type 0 where
  pub sources : (k : ℕ) → source_of_call (slice_get calls k) ≡ source_of_call (slice_get others k)
  pub carried : (ps : List Part) → group_data calls ps ≡ group_data others ps

-- ---- the page

abbrev pub body_of : List ItemTree → ItemTree
body_of ts = inner (plain kind.Body) [] (forest ts) []

-- the label of its body, without places
abbrev pub body_label : Label
body_label = placeless_label (kept_label false (plain kind.Body) 0 [] [] [])

-- a block without its number and place
abbrev pub block_alone : (ℕ → ItemTree) → ℕ → Tree
block_alone t n = placeless (placed [] (t n))

-- Whatever blocks are at the places, and wherever the calls are then, the page's tree has the same groups, and the same nodes round the
-- places: but for numbers and places it is this tree with the blocks in it, its texts cut anew.
pub record GroupsStay (calls : List OuterCall) (fs : Frames) : Type 0 where
  pub nodes : TreeFrames
  pub in_order : spots nodes ≡ all_places fs
  pub stay : (others : List OuterCall) (t : ℕ → ItemTree) → HaveSameData calls others → AreOwn t (all_places fs)
      → placeless (annotated others (group_data others) (body_of (trees_at t fs))) ≡ cut_texts (tree body_label (all_filled (block_alone t) nodes))

-- It is so of each page in which no node round a place is in a group.
abbrev pub GroupsStayIn : List OuterCall → Frames → (ℕ → ItemTree) → Type 0
GroupsStayIn calls fs t = AreFrames fs content → AreOwn t (all_places fs) → AreClean t None fs None → GroupsStay calls fs
