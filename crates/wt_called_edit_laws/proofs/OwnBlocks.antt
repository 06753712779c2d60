-- The blocks of a page have items of the page alone, and so has each node in them.
use Rattle.std.proofs.Common.{ℕ, suc, List, [], ◌∷◌, map}
use Rattle.wt_text_edit_laws.specs.BlockSpots.{BlockSpot, AreContents}
use Rattle.wt_text_edit_laws.proofs.Blocks.OwnContents.{content_own}
use Rattle.wt_part_laws.specs.Rounded.{AreOwn}
use Rattle.wt_called_edit_laws.specs.CalledBlocks.{tree_by, counted}

own_up : (s : BlockSpot) (ss : List BlockSpot) (ns : List ℕ) → AreOwn (tree_by ss) ns → AreOwn (tree_by (s ∷ ss)) (map suc ns)
own_up s ss [] h = tt
own_up s ss (n ∷ ns) h = (h.0, own_up s ss ns h.1)

pub counted_own : (ss : List BlockSpot) → AreContents ss → AreOwn (tree_by ss) (counted ss)
counted_own [] h = tt
counted_own (s ∷ ss) h = (content_own s.block s.text h.0, own_up s ss (counted ss) (counted_own ss h.1))
