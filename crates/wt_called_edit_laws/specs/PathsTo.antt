-- The paths at which the places of nodes are, and contents that are edited there and nowhere else.
use Rattle.std.specs.Prelude.{◌≡◌, ℕ, zero, suc, Option, List, [], ◌∷◌, ◌++◌}
use Rattle.wt_tree.specs.Tree.{Tree}
use Rattle.wt_part_laws.specs.Placeless.{all_placeless}
use Rattle.wt_typed_blocks.specs.Edited.{Edited, Edits, page_nodes}
use Rattle.wt_called_edit_laws.specs.EditsAt.{edited_by, AllEditOnly}
use Rattle.wt_part_laws.specs.TreeFrames.{spot, kept, holder, TreeFrames, no_nodes, more_nodes, all_filled, spots}
use Rattle.wt_called_edit_laws.specs.Sends.{AllSend}

-- behind one more node
abbrev pub past_one : List ℕ → List ℕ
past_one [] = []
past_one (i ∷ is) = suc i ∷ is

abbrev pub all_past : List (List ℕ) → List (List ℕ)
all_past [] = []
all_past (p ∷ ps) = past_one p ∷ all_past ps

-- in the first node
abbrev pub all_inside : List (List ℕ) → List (List ℕ)
all_inside [] = []
all_inside (p ∷ ps) = (zero ∷ p) ∷ all_inside ps

-- of the places, in their order
abbrev pub paths_to : TreeFrames → List (List ℕ)
paths_to no_nodes = []
paths_to (more_nodes (spot n) fs) = (zero ∷ []) ∷ all_past (paths_to fs)
paths_to (more_nodes (kept t) fs) = all_past (paths_to fs)
paths_to (more_nodes (holder l gs) fs) = all_inside (paths_to gs) ++ all_past (paths_to fs)

-- at each of these places the content that is edited at its path
abbrev pub AreEditedThere : (ℕ → Option Edited) → Edits → List ℕ → List (List ℕ) → Type 0
AreEditedThere o es [] ps = Unit {0}
AreEditedThere o es (n ∷ ns) [] = ⊥
AreEditedThere o es (n ∷ ns) (p ∷ ps) = (o n ≡ edited_by es p) × AreEditedThere o es ns ps

-- What is sent for such nodes, where contents are edited at the paths of their places alone.
abbrev pub PathsSend : TreeFrames → (ℕ → Option Edited) → (ℕ → Tree) → Edits → Type 0
PathsSend fs o b es =
    all_placeless (page_nodes es) ≡ all_filled b fs → AllEditOnly (paths_to fs) es → AreEditedThere o es (spots fs) (paths_to fs) → AllSend o fs es
