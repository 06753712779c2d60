-- Pages of which blocks that hold calls may be edited: with other contents they are such pages again, and what is not edited is the same.
use Rattle.std.proofs.Common.{◌≡◌, ℕ, zero, suc, None, List, [], ◌∷◌, refl, sym, ap, ◌∙◌}
use Rattle.wt_span.specs.Origins.{OuterCall}
use Rattle.wt_expand.specs.PageCalls.{expanded_page}
use Rattle.wt_expand.specs.Work.{Pages}
use Rattle.wt_annotated.specs.CutTexts.{cut_texts}
use Rattle.wt_inline.specs.ItemTree.{ItemTree}
use Rattle.wt_part_laws.specs.Expanded.{part_items}
use Rattle.wt_part_laws.specs.HeldCalls.{block_in}
use Rattle.wt_part_laws.specs.Rounded.{HaveSameData}
use Rattle.wt_part_laws.proofs.SameWalks.{walk_same}
use Rattle.wt_text_edit_laws.specs.BlockSpots.{BlockSpot, spots_source}
use Rattle.wt_called_edit_laws.specs.CalledContents.{tree_round}
use Rattle.wt_called_edit_laws.specs.CallingBlocks.{AreEdited, tree_with_calls}
use Rattle.wt_called_edit_laws.specs.CallingEdits.{AllTakeLetters, IsCallingPage, StaysAt}
use Rattle.wt_called_edit_laws.specs.CallingGroups.{block_with_groups}
use Rattle.wt_called_edit_laws.specs.FreeBlocks.{NoTextCalls}
use Rattle.wt_called_edit_laws.specs.Parts.{calls_to, calls_past}
use Rattle.wt_called_edit_laws.specs.WholeContents.{EachWhole}
use Rattle.wt_called_edit_laws.specs.WrittenAnew.{EachHolds}
use Rattle.wt_called_edit_laws.proofs.CallingGroups.{one_moved, calls_kept, calling_outside}
use Rattle.wt_called_edit_laws.proofs.CallNumbers.{to_same, past_same}
use Rattle.wt_called_edit_laws.proofs.Cells.CallingFrames.{edited_anew}
use Rattle.wt_called_edit_laws.proofs.Parts.Retyped.{expanded_again}
use Rattle.wt_called_edit_laws.proofs.Written.AllHeld.{all_hold}

-- ---- again

pub calling_again : (pages : Pages) (ss rs : List BlockSpot) (behind : List ℕ) → IsCallingPage pages ss behind → AreEdited pages ss rs → EachHolds pages rs
    → AllTakeLetters pages rs → NoTextCalls pages rs → EachWhole pages rs → IsCallingPage pages rs behind
calling_again pages ss rs behind h t o l n w = record {
  outside = calling_outside pages ss rs behind h.outside t (all_hold pages rs o);
  hold = o;
  letters = l;
  texts = n;
  whole = w;
  unrefused = (expanded_again pages ss rs behind h.outside.blocks.called (edited_anew pages ss rs t)).unrefused h.unrefused;
}

-- ---- a block in which nothing is written

tree_same : (pages : Pages) (k : ℕ) (ss rs : List BlockSpot) (n : ℕ) → AreEdited pages ss rs → StaysAt ss rs n
    → tree_with_calls pages k ss n ≡ tree_with_calls pages k rs n
tree_same pages k [] [] n t h = refl
tree_same pages k [] (r ∷ rs) n t h = absurd t
tree_same pages k (s ∷ ss) [] n t h = absurd t
tree_same pages k (s ∷ ss) (r ∷ rs) zero t h =
    ap (λ j. tree_round j (part_items pages (calls_to pages k s) s.text)) (sym t.1)
    ∙ ap (λ (i : ℕ). tree_round r.block (part_items pages i s.text)) (to_same pages k s r t.0)
    ∙ ap (λ (q : List ℕ). tree_round r.block (part_items pages (calls_to pages k r) q)) (sym h)
tree_same pages k (s ∷ ss) (r ∷ rs) (suc n) t h =
    ap (λ (i : ℕ). tree_with_calls pages i ss n) (past_same pages k s r t.0 (one_moved pages s r t.1 t.2))
    ∙ tree_same pages (calls_past pages k r) ss rs n t.3 h

pub block_stays : (pages : Pages) (ss rs : List BlockSpot) (behind : List ℕ) (n : ℕ) → IsCallingPage pages ss behind → AreEdited pages ss rs → StaysAt ss rs n
    → block_with_groups pages ss behind n ≡ block_with_groups pages rs behind n
block_stays pages ss rs behind n h t e =
    let calls : List OuterCall = (expanded_page pages (spots_source ss behind)).outer in
    let others : List OuterCall = (expanded_page pages (spots_source rs behind)).outer in
    let same : HaveSameData calls others = calls_kept pages ss rs behind h.outside.blocks t in
    ap (λ (u : ItemTree). cut_texts (block_in calls u)) (tree_same pages 0 ss rs n t e)
    ∙ ap cut_texts (walk_same calls others same None 0 0 None (tree_with_calls pages 0 rs n))
