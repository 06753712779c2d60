-- Which bytes of a page a group of its tree covers, and the bytes at which places of a page are.
use Rattle.std.specs.Prelude.{◌≡◌, ◌⊎◌, ◌≤◌, ◌<◌, ℕ, ◌+◌, Bool, true, false, Option, Some, None, List, [], ◌∷◌, length}
use Rattle.wt_tree.specs.declared.kind.Ranges.{Ranges}
use Rattle.wt_tree.specs.Tiling.{is_group}
use Rattle.wt_tree.specs.Tree.{Tree, tree, Trees, none, more}
use Rattle.wt_span.specs.Origins.{OuterCall}
use Rattle.wt_inline.specs.ItemTree.{ItemTree, tree_items}
use Rattle.wt_expand.specs.Work.{Pages}
use Rattle.wt_commands.specs.Answers.{refusal_of_page}
use Rattle.wt_annotated.specs.Annotated.{annotated}
use Rattle.wt_annotated.specs.GroupData.{group_data}
use Rattle.wt_annotated.specs.Seams.{last_of, text_from}
use Rattle.wt_part_laws.specs.Frames.{Frame, place, whole, around, Frames, no_frames, more_frames, tree_at, trees_at, all_places, content, AreFrames}
use Rattle.wt_text_edit_laws.specs.BlockSpots.{BlockSpot, spots_source}
use Rattle.wt_text_edit_laws.specs.TextBlocks.{source_of}
use Rattle.wt_part_laws.specs.Rounded.{AreClean, body_of}
use Rattle.wt_called_edit_laws.specs.CalledBlocks.{AreAmongCalls}
use Rattle.wt_called_edit_laws.specs.Groups.{called_tree}

-- ---- groups

-- a node with these ranges doesn't have this byte of the page
abbrev pub IsBeside : ℕ → Option Ranges → Type 0
IsBeside b None = Unit {0}
IsBeside b (Some r) = (b < r.start) ⊎ (r.end ≤ b)

abbrev pub IfGroup : Bool → Type 0 → Type 0 → Type 0
IfGroup true A B = A
IfGroup false A B = B

-- no group of the tree has this byte
abbrev mutual
  pub NoGroupAt : ℕ → Tree → Type 0
  NoGroupAt b (tree l ts) = IfGroup (is_group l.kind) (IsBeside b l.ranges) (NoneGroupAt b ts)

  pub NoneGroupAt : ℕ → Trees → Type 0
  NoneGroupAt b none = Unit {0}
  NoneGroupAt b (more t ts) = NoGroupAt b t × NoneGroupAt b ts

-- ---- places

-- what holds of the bytes at which each place is, from the first to where they end, where the first node begins at this byte, behind an item of this call
abbrev mutual
  pub AtPlace : (ℕ → ℕ → Type 0) → List OuterCall → (ℕ → ItemTree) → Option ℕ → ℕ → Frame → Type 0
  AtPlace P calls t o at (place n) = P at (at + length (text_from calls o (tree_items (t n))))
  AtPlace P calls t o at (whole u) = Unit {0}
  AtPlace P calls t o at (around h q gs c) = AtPlaces P calls t (last_of o q) (at + length (text_from calls o q)) gs

  pub AtPlaces : (ℕ → ℕ → Type 0) → List OuterCall → (ℕ → ItemTree) → Option ℕ → ℕ → Frames → Type 0
  AtPlaces P calls t o at no_frames = Unit {0}
  AtPlaces P calls t o at (more_frames f fs) =
      AtPlace P calls t o at f
      × AtPlaces P calls t (last_of o (tree_items (tree_at t f))) (at + length (text_from calls o (tree_items (tree_at t f)))) fs

-- one of these bytes is such
abbrev pub SomeByte : (ℕ → Type 0) → ℕ → ℕ → Type 0
SomeByte P from to = (b : ℕ) × (from ≤ b) × (b < to) × P b

-- one of them no group of the tree has
abbrev pub HasFreeByte : Tree → ℕ → ℕ → Type 0
HasFreeByte t from to = SomeByte (λ b. NoGroupAt b t) from to

abbrev pub HasAny : List ℕ → Type 0
HasAny [] = ⊥
HasAny (n ∷ ns) = Unit {0}

-- each node round places holds one
abbrev mutual
  pub HoldsPlace : Frame → Type 0
  HoldsPlace (place n) = Unit {0}
  HoldsPlace (whole u) = Unit {0}
  HoldsPlace (around h q gs c) = HasAny (all_places gs) × HoldPlaces gs

  pub HoldPlaces : Frames → Type 0
  HoldPlaces no_frames = Unit {0}
  HoldPlaces (more_frames f fs) = HoldsPlace f × HoldPlaces fs

-- ---- blocks

-- Where so many bytes come before the first part, no group of the tree has the first byte of one of these blocks.
abbrev pub AreInNoGroup : ℕ → List BlockSpot → Tree → Type 0
AreInNoGroup at [] t = Unit {0}
AreInNoGroup at (s ∷ ss) t =
    let start = at + length s.before in NoGroupAt start t × AreInNoGroup (start + length (source_of s.block s.text)) ss t

-- Where so many bytes come before the first part, each of these blocks has a byte that no group of the tree has.
abbrev pub HaveFreeBytes : ℕ → List BlockSpot → Tree → Type 0
HaveFreeBytes at [] t = Unit {0}
HaveFreeBytes at (s ∷ ss) t =
    let start = at + length s.before in let end = start + length (source_of s.block s.text) in HasFreeByte t start end × HaveFreeBytes end ss t

-- ---- the page

-- Where each block has a byte that no group of the page's tree has, each node round the blocks is clean.
abbrev pub CleanWhereFree : List OuterCall → Frames → (ℕ → ItemTree) → Type 0
CleanWhereFree calls fs t =
    AreFrames fs content → HoldPlaces fs
    → AtPlaces (HasFreeByte (annotated calls (group_data calls) (body_of (trees_at t fs)))) calls t None 0 fs → AreClean t None fs None

-- ---- which pages are edited

-- Paragraphs and headings are among any calls, each a block of its own by what these give, no group of the page's tree has the first byte of one of
-- them, and the page isn't refused: with what the folder has it can be expanded.
pub record IsEditablePage (pages : Pages) (ss : List BlockSpot) (behind : List ℕ) : Type 0 where
  pub among : AreAmongCalls pages ss behind
  pub unrefused : refusal_of_page pages (spots_source ss behind) ≡ None
  pub in_no_group : AreInNoGroup 0 ss (called_tree pages (spots_source ss behind))
