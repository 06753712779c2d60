-- Contents that are chosen for blocks at paths of a page's tree, and an edit that sends them.
use Rattle.std.specs.Prelude.{◌≡◌, ℕ, zero, suc, Option, Some, None, List, [], ◌∷◌, map}
use Rattle.wt_tree.specs.Tree.{Label, Tree, tree, Trees, none, more}
use Rattle.wt_checks.specs.Kept.{children}
use Rattle.wt_typed_blocks.specs.Edited.{Pieces, page_pieces, PiecesStay, Edited, stays, edited, round, Edits}
use Rattle.wt_text_edit_laws.specs.BlockSpots.{BlockSpot}
use Rattle.wt_text_edit_laws.specs.TextBlocks.{TextBlock, block_of}
use Rattle.wt_called_edit_laws.specs.EditsAt.{edited_by, Fits, IsContentEdit}

-- for each path the pieces that are sent for the block there; or it stays
abbrev pub Choice : Type 0
Choice = List ℕ → Option Pieces

-- ---- of which nodes the pieces are

-- behind the first node
abbrev pub past_first : List ℕ → List ℕ
past_first [] = []
past_first (i ∷ is) = suc i ∷ is

-- each of these nodes stays, sent as it is, or is gone
abbrev pub AreOfNodes : Option Pieces → Trees → Type 0
AreOfNodes None ts = Unit {0}
AreOfNodes (Some ps) ts = (page_pieces ps ≡ ts) × PiecesStay ps

-- so at each path, of the nodes that the node there holds
abbrev mutual
  pub IsChosenAt : Choice → Tree → Type 0
  IsChosenAt at (tree l ts) = AreOfNodes (at []) ts × AreChosenIn at ts

  pub AreChosenIn : Choice → Trees → Type 0
  AreChosenIn at none = Unit {0}
  AreChosenIn at (more t ts) = IsChosenAt (λ is. at (zero ∷ is)) t × AreChosenIn (λ p. at (past_first p)) ts

-- ---- which may be sent

abbrev pub FitChosen : TextBlock → List ℕ → Option Pieces → Type 0
FitChosen k q None = Unit {0}
FitChosen k q (Some ps) = (l m : Label) → Fits k q (edited (block_of k) l m ps)

abbrev pub AllFitChosen : Choice → List BlockSpot → List (List ℕ) → Type 0
AllFitChosen at [] ps = Unit {0}
AllFitChosen at (s ∷ ss) [] = Unit {0}
AllFitChosen at (s ∷ ss) (p ∷ ps) = FitChosen s.block s.text (at p) × AllFitChosen at ss ps

-- ---- the edit

abbrev pub pieces_of : Option Edited → Option Pieces
pieces_of None = None
pieces_of (Some (stays t u)) = None
pieces_of (Some (edited k l m ps)) = Some ps
pieces_of (Some (round l m es)) = None

-- one that sends these pieces at these paths, and all else as it is
pub record AreSentAt (t : Tree) (ss : List BlockSpot) (paths : List (List ℕ)) (at : Choice) : Type 0 where
  pub edits : Edits
  pub edit : IsContentEdit t ss paths edits
  pub are : map (λ p. pieces_of (edited_by edits p)) paths ≡ map at paths

-- Whatever contents that may be sent are chosen for these blocks, there is one.
abbrev pub HasContentEdits : Tree → List BlockSpot → List (List ℕ) → Type 0
HasContentEdits t ss paths = (at : Choice) → AreChosenIn at (children t) → AllFitChosen at ss paths → AreSentAt t ss paths at
