-- Paragraphs of texts beside calls, as they are written; and blocks that hold their calls, however many come before.
use Rattle.std.specs.Prelude.{◌≡◌, ◌⊎◌, ℕ, List, [], ◌∷◌}
use Rattle.std.specs.Str.{IsUtf8}
use Rattle.wt_guards.specs.Content.{ContentSign, letter, thing}
use Rattle.wt_guards.specs.Guards.{Setting}
use Rattle.wt_expand.specs.PageCalls.{expanded_page}
use Rattle.wt_expand.specs.Work.{Pages}
use Rattle.wt_part_laws.specs.Expanded.{part_items}
use Rattle.wt_part_laws.specs.HeldCalls.{HoldsItsCalls}
use Rattle.wt_text_edit_laws.specs.BlockSpots.{BlockSpot}
use Rattle.wt_text_edit_laws.specs.TextBlocks.{TextBlock, a_paragraph, a_heading}
use Rattle.wt_beside_laws.specs.Called.{IsCalledIn, IsCalledInHeading}
use Rattle.wt_beside_laws.specs.FlatBlocks.{AreSealed}
use Rattle.wt_called_edit_laws.specs.CalledContents.{tree_round}
use Rattle.wt_called_edit_laws.specs.WholeContents.{AreShut}
use Rattle.wt_called_edit_laws.specs.Written.{AreReadThings, AreOwnParts}

-- the sources of the nodes
abbrev pub node_sources : List ContentSign → List (List ℕ)
node_sources [] = []
node_sources (letter c ∷ after) = node_sources after
node_sources (thing t ∷ after) = t.source ∷ node_sources after

abbrev pub AreUtf8 : List (List ℕ) → Type 0
AreUtf8 [] = Unit {0}
AreUtf8 (bs ∷ more) = IsUtf8 bs × AreUtf8 more

-- Nodes that were there, in their order. Each that calls stays; any other may go.
abbrev pub StayButForOthers : Pages → List (List ℕ) → List (List ℕ) → Type 0
StayButForOthers pages [] [] = Unit {0}
StayButForOthers pages [] (d ∷ ds) = ⊥
StayButForOthers pages (b ∷ bs) [] = ((expanded_page pages b).outer ≡ []) × StayButForOthers pages bs []
StayButForOthers pages (b ∷ bs) (d ∷ ds) =
    ((b ≡ d) × StayButForOthers pages bs ds) ⊎ (((expanded_page pages b).outer ≡ []) × StayButForOthers pages bs (d ∷ ds))

-- The calls give what may be groups in this folder, and there is some text. Each node stays what it is beside text that is typed, is a part of the page by
-- itself, closes no tag behind it, and ends in no open one.
pub record IsWrittenBeside (pages : Pages) (s : Setting) (signs : List ContentSign) : Type 0 where
  pub called : IsCalledIn pages s signs
  pub read : AreReadThings signs
  pub parts : AreOwnParts pages signs
  pub sealed : AreSealed signs
  pub shut : AreShut signs
  pub utf8 : AreUtf8 (node_sources signs)

-- The same in a heading, where it is on one line, and there may be no text.
pub record IsWrittenInHeading (pages : Pages) (s : Setting) (signs : List ContentSign) : Type 0 where
  pub called : IsCalledInHeading pages s signs
  pub read : AreReadThings signs
  pub parts : AreOwnParts pages signs
  pub sealed : AreSealed signs
  pub shut : AreShut signs
  pub utf8 : AreUtf8 (node_sources signs)

abbrev pub IsWrittenIn : TextBlock → Pages → Setting → List ContentSign → Type 0
IsWrittenIn a_paragraph pages s signs = IsWrittenBeside pages s signs
IsWrittenIn (a_heading w) pages s signs = IsWrittenInHeading pages s signs

-- ---- blocks that hold their calls

-- wherever it is in the page, it is no part of what its calls give
abbrev pub HoldsAnywhere : Pages → TextBlock → List ℕ → Type 0
HoldsAnywhere pages k q = (i : ℕ) → HoldsItsCalls (tree_round k (part_items pages i q))

abbrev pub EachHolds : Pages → List BlockSpot → Type 0
EachHolds pages [] = Unit {0}
EachHolds pages (s ∷ ss) = HoldsAnywhere pages s.block s.text × EachHolds pages ss
