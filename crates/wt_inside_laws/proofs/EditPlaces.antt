-- A place of a tree at which a block's inside is replaced.
use Rattle.std.proofs.Common.{◌≡◌, ◌≢◌, ◌⊎◌, ℕ, ◌+◌, List, [], ◌∷◌, ◌++◌, length}
use Rattle.wt_span.specs.Items.{Item}
use Rattle.wt_inline.specs.ItemTree.{ItemTree}
use Rattle.wt_checks.specs.Kept.{children}
use Rattle.wt_annotated.specs.Labels.{width}
use Rattle.wt_annotated.specs.Numbering.{next_after}
use Rattle.wt_part_laws.specs.Frames.{place, whole, around, Frames, no_frames, more_frames, tree_at, all_places}
use Rattle.wt_inside_laws.specs.Replaced.{Edit}
use Rattle.wt_part_laws.specs.Standing.{standing}
use Rattle.wt_text_edit_laws.specs.TextBlocks.{TextBlock, source_of, block_tree}
use Rattle.wt_text_edit_laws.proofs.Prose.ProseTrees.{number_behind, items_behind}
use Rattle.wt_called_edit_laws.proofs.Cells.Nodes.{number_after, items_after}
use Rattle.wt_inside_laws.specs.TextsReplaced.{numbered_inside}

-- the edit puts this text in place of this one into a block with this number, behind these items
pub record FitsAt (e : Edit) (k : TextBlock) (old new : List ℕ) (m : ℕ) (a : List Item) : Type 0 where
  pub number : e.number ≡ m
  pub old_end : e.old_end ≡ width a + length (source_of k old)
  pub new_end : e.new_end ≡ width a + length (source_of k new)
  pub old_last : e.old_last ≡ m + numbered_inside k old
  pub new_last : e.new_last ≡ m + numbered_inside k new
  pub inside : e.inside ≡ children (standing m a (block_tree k new))

-- it is none of these
abbrev pub IsNone : ℕ → List ℕ → Type 0
IsNone i [] = Unit {0}
IsNone i (j ∷ js) = (j ≢ i) × IsNone i js

abbrev pub IsNot : ℕ → Frames → Type 0
IsNot i fs = IsNone i (all_places fs)

-- at this place, and at it alone, this holds of the number and the items before it
abbrev pub EditIn : (ℕ → List Item → Type 0) → (ℕ → ItemTree) → ℕ → ℕ → List Item → List ItemTree → Frames → Type 0
EditIn P t i n b us no_frames = ⊥
EditIn P t i n b us (more_frames (whole u) fs) = EditIn P t i n b (us ++ u ∷ []) fs
EditIn P t i n b us (more_frames (place j) fs) =
    ((j ≡ i) × P (number_after n b us) (items_after b us) × IsNot i fs)
    ⊎ ((j ≢ i) × EditIn P t i (number_behind (number_after n b us) (items_after b us) (t j)) (items_behind (items_after b us) (t j)) [] fs)
EditIn P t i n b us (more_frames (around h p gs c) fs) =
    (EditIn P t i (next_after h.kind (number_after n b us)) (items_after b us ++ p) [] gs × IsNot i fs)
    ⊎ (IsNot i gs × EditIn P t i (number_behind (number_after n b us) (items_after b us) (tree_at t (around h p gs c)))
    (items_behind (items_after b us) (tree_at t (around h p gs c))) [] fs)
