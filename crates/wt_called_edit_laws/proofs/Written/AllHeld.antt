-- Blocks that hold their calls, however many come before them, hold them in their page.
use Rattle.std.proofs.Common.{ℕ, suc, List, [], ◌∷◌, map, sym, ◌∙◌, ap, subst}
use Rattle.wt_guards.specs.Content.{ContentSign}
use Rattle.wt_guards.specs.Guards.{Setting, spelled}
use Rattle.wt_expand.specs.Work.{Pages}
use Rattle.wt_inline.specs.ItemTree.{ItemTree}
use Rattle.wt_part_laws.specs.HeldCalls.{HoldsItsCalls, AllHold}
use Rattle.wt_part_laws.proofs.HeldBlocks.{own_holds}
use Rattle.wt_text_edit_laws.specs.BlockSpots.{BlockSpot}
use Rattle.wt_text_edit_laws.specs.Contents.{IsContent}
use Rattle.wt_text_edit_laws.specs.NoCalls.{CallsNothing}
use Rattle.wt_text_edit_laws.specs.TextBlocks.{TextBlock, a_paragraph, block_items, block_tree}
use Rattle.wt_text_edit_laws.proofs.Blocks.OwnContents.{content_own}
use Rattle.wt_called_edit_laws.specs.CalledBlocks.{counted}
use Rattle.wt_called_edit_laws.specs.CalledContents.{tree_round}
use Rattle.wt_called_edit_laws.specs.CallingBlocks.{tree_with_calls}
use Rattle.wt_called_edit_laws.specs.Parts.{calls_to, calls_past}
use Rattle.wt_called_edit_laws.specs.WrittenAnew.{IsWrittenBeside, HoldsAnywhere, EachHolds}
use Rattle.wt_called_edit_laws.proofs.Cells.CallingFrames.{own_calm}
use Rattle.wt_called_edit_laws.proofs.Cells.ContentItems.{tree_is}
use Rattle.wt_called_edit_laws.proofs.Parts.NoCallsCalled.{calm_items}
use Rattle.wt_called_edit_laws.proofs.Written.Held.{written_holds}

hold_later : (t : ℕ → ItemTree) (ns : List ℕ) → AllHold (λ i. t (suc i)) ns → AllHold t (map suc ns)
hold_later t [] h = tt
hold_later t (n ∷ ns) h = (h.0, hold_later t ns h.1)

from_hold : (pages : Pages) (k : ℕ) (ss : List BlockSpot) → EachHolds pages ss → AllHold (tree_with_calls pages k ss) (counted ss)
from_hold pages k [] h = tt
from_hold pages k (s ∷ ss) h =
    (h.0 (calls_to pages k s), hold_later (tree_with_calls pages k (s ∷ ss)) (counted ss) (from_hold pages (calls_past pages k s) ss h.1))

pub all_hold : (pages : Pages) (ss : List BlockSpot) → EachHolds pages ss → AllHold (tree_with_calls pages 0 ss) (counted ss)
all_hold pages ss h = from_hold pages 0 ss h

pub written_anywhere : (pages : Pages) (s : Setting) (signs : List ContentSign) → IsWrittenBeside pages s signs → HoldsAnywhere pages a_paragraph (spelled s signs)
written_anywhere pages s signs h = λ i. written_holds pages i s signs h.called h.read h.parts

pub calm_anywhere : (pages : Pages) (k : TextBlock) (q : List ℕ) → IsContent k q → CallsNothing (block_items k q) → HoldsAnywhere pages k q
calm_anywhere pages k q h c = λ i.
    subst HoldsItsCalls (tree_is k q ∙ ap (tree_round k) (sym (calm_items pages i q (own_calm k q h c)))) (own_holds (block_tree k q) (content_own k q h))
