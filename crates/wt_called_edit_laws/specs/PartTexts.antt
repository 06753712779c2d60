-- What is on the page for the items of a block: by its calls, each of which is there once.
use Rattle.std.specs.Prelude.{◌≡◌, ℕ, zero, suc, None, List, [], ◌∷◌, slice_get}
use Rattle.wt_tree.specs.Source.{flat}
use Rattle.wt_tree.specs.Tree.{Tree}
use Rattle.wt_inline.specs.ItemTree.{ItemTree, tree_items}
use Rattle.wt_annotated.specs.CutTexts.{cut_texts}
use Rattle.wt_annotated.specs.Seams.{text_from}
use Rattle.wt_part_laws.specs.HeldCalls.{HoldsItsCalls, block_in}
use Rattle.wt_expand.specs.PageCalls.{expanded_page}
use Rattle.wt_expand.specs.Work.{Pages}
use Rattle.wt_span.specs.Cuts.{source_of_call}
use Rattle.wt_span.specs.Origins.{OuterCall}
use Rattle.wt_part_laws.specs.Expanded.{part_items}
use Rattle.wt_text_edit_laws.specs.BlockSpots.{BlockSpot, spots_source}
use Rattle.wt_text_edit_laws.specs.TextBlocks.{source_of}
use Rattle.wt_called_edit_laws.specs.Parts.{calls_to, calls_past}

-- from this number on, the calls of a page have the sources of these
abbrev pub AreSourcesAt : List OuterCall → ℕ → List OuterCall → Type 0
AreSourcesAt calls k [] = Unit {0}
AreSourcesAt calls k (c ∷ cs) = (source_of_call (slice_get calls k) ≡ c.source) × AreSourcesAt calls (suc k) cs

-- it is the block, where so many outermost calls come before
abbrev pub AreBlockTexts : Pages → List OuterCall → ℕ → List BlockSpot → Type 0
AreBlockTexts pages calls k [] = Unit {0}
AreBlockTexts pages calls k (s ∷ ss) =
    (text_from calls None (part_items pages (calls_to pages k s) (source_of s.block s.text)) ≡ source_of s.block s.text)
    × AreBlockTexts pages calls (calls_past pages k s) ss

-- so it is of the blocks of this page
abbrev pub AreTextsOfPage : Pages → List BlockSpot → List ℕ → Type 0
AreTextsOfPage pages ss behind = AreBlockTexts pages (expanded_page pages (spots_source ss behind)).outer 0 ss

-- a block that holds its calls has this source, with these calls
abbrev pub HasItsText : List OuterCall → ItemTree → Type 0
HasItsText calls t = HoldsItsCalls t → flat (cut_texts (block_in calls t)) ≡ text_from calls None (tree_items t)

-- each of these nodes, one a block, has the block's source
abbrev pub HaveOwnSources : (ℕ → Tree) → List BlockSpot → Type 0
HaveOwnSources b [] = Unit {0}
HaveOwnSources b (s ∷ ss) = (flat (b zero) ≡ source_of s.block s.text) × HaveOwnSources (λ n. b (suc n)) ss
