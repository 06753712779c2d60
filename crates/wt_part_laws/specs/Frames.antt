-- A tree with places in it, each with a number.
use Rattle.std.specs.Prelude.{◌≡◌, ℕ, List, [], ◌∷◌, ◌++◌}
use Rattle.wt_tree.specs.declared.kind.Kind.{Kind}
use Rattle.wt_tree.specs.declared.kind.Kind.TheVariants as kind
use Rattle.wt_span.specs.Items.{Item}
use Rattle.wt_inline.specs.ItemTree.{Head, ItemTree, inner, forest}
use Rattle.wt_part_laws.specs.Rounds.{IsCellKind}

mutual
  pub data Frame : Type 0 where
    place : ℕ → Frame
    whole : ItemTree → Frame
    around : Head → List Item → Frames → List Item → Frame

  pub data Frames : Type 0 where
    no_frames : Frames
    more_frames : Frame → Frames → Frames

-- with a tree at each place
abbrev mutual
  pub tree_at : (ℕ → ItemTree) → Frame → ItemTree
  tree_at t (place n) = t n
  tree_at t (whole u) = u
  tree_at t (around h o fs c) = inner h o (forest (trees_at t fs)) c

  pub trees_at : (ℕ → ItemTree) → Frames → List ItemTree
  trees_at t no_frames = []
  trees_at t (more_frames f fs) = tree_at t f ∷ trees_at t fs

-- the numbers of the places, in their order
abbrev mutual
  pub places_in : Frame → List ℕ
  places_in (place n) = n ∷ []
  places_in (whole u) = []
  places_in (around h o fs c) = all_places fs

  pub all_places : Frames → List ℕ
  all_places no_frames = []
  all_places (more_frames f fs) = places_in f ++ all_places fs

-- ---- which nodes are round places

-- what may hold a place: a table's parts, one in the other
pub data Part : Type 0 where
  content : Part
  in_table : Part
  in_body : Part
  in_row : Part

-- a cell's content holds places and tables, a table captions and bodies, a body rows, and a row cells
abbrev pub Holds : Part → Kind → Part → Type 0
Holds content k in_table = k ≡ kind.Table
Holds content k content = ⊥
Holds content k in_body = ⊥
Holds content k in_row = ⊥
Holds in_table k in_body = k ≡ kind.Tbody
Holds in_table k content = k ≡ kind.Caption
Holds in_table k in_table = ⊥
Holds in_table k in_row = ⊥
Holds in_body k in_row = k ≡ kind.Tr
Holds in_body k content = ⊥
Holds in_body k in_table = ⊥
Holds in_body k in_body = ⊥
Holds in_row k content = IsCellKind k
Holds in_row k in_table = ⊥
Holds in_row k in_body = ⊥
Holds in_row k in_row = ⊥

abbrev mutual
  pub IsFrame : Frame → Part → Type 0
  IsFrame (place n) content = Unit {0}
  IsFrame (place n) in_table = ⊥
  IsFrame (place n) in_body = ⊥
  IsFrame (place n) in_row = ⊥
  IsFrame (whole u) p = Unit {0}
  IsFrame (around h o fs c) p = (q : Part) × Holds p h.kind q × AreFrames fs q

  pub AreFrames : Frames → Part → Type 0
  AreFrames no_frames p = Unit {0}
  AreFrames (more_frames f fs) p = IsFrame f p × AreFrames fs p
