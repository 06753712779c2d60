-- Blocks among calls can be read by themselves.
use Rattle.std.specs.Prelude.{◌≡◌, ℕ, zero, suc, ◌+◌, false, Some, List, [], ◌∷◌, length}
use Rattle.wt_span.specs.Origins.{Expanded}
use Rattle.wt_tree.specs.Tree.{Tree, label}
use Rattle.wt_checks.specs.Kept.{children}
use Rattle.wt_isolation.specs.OpenTags.{any_ends_open}
use Rattle.wt_selser.specs.GroupFaults.{has_faulty_group}
use Rattle.wt_selser.specs.Edits.{is_tangled}
use Rattle.wt_text_edit_laws.specs.BlockSpots.{BlockSpot}
use Rattle.wt_text_edit_laws.specs.TextBlocks.{source_of}
use Rattle.wt_called_edit_laws.specs.Settled.{settled}

-- Each of these blocks, where it is in the page's tree, whatever its number, isn't tangled; so many bytes of the page come before the first part.
abbrev pub AreUntangledFrom : Expanded → List ℕ → (ℕ → Tree) → ℕ → List BlockSpot → Type 0
AreUntangledFrom items bytes b at [] = Unit {0}
AreUntangledFrom items bytes b at (s ∷ ss) =
    let start = at + length s.before in
    let end = start + length (source_of s.block s.text) in
    ((t : Tree) (n first last : ℕ) → t ≡ settled n start (b zero)
    → (label t).ranges ≡ Some (record { start = start; end = end; open_w = first; close_w = last }) → is_tangled items bytes t ≡ false)
    × AreUntangledFrom items bytes (λ n. b (suc n)) end ss

-- no tag is open in it, and no group is faulty
abbrev pub IsWhole : Expanded → Tree → Type 0
IsWhole items t = (any_ends_open (children t) ≡ false) × (has_faulty_group items (children t) ≡ false)

-- so each of these blocks where it is
abbrev pub AreWhole : Expanded → (ℕ → Tree) → ℕ → List BlockSpot → Type 0
AreWhole items b at [] = Unit {0}
AreWhole items b at (s ∷ ss) =
    let start = at + length s.before in
    ((n : ℕ) → IsWhole items (settled n start (b zero))) × AreWhole items (λ n. b (suc n)) (start + length (source_of s.block s.text)) ss
