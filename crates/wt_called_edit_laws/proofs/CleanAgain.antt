-- With other contents the nodes round the blocks are as clean, so the page is of the class again.
use Rattle.std.proofs.Common.{◌≡◌, ◌⊎◌, inl, inr, ℕ, None, List, [], ◌∷◌, sym, ◌∙◌, subst}
use Rattle.wt_expand.specs.Work.{Pages}
use Rattle.wt_part_laws.specs.Frames.{all_places, content}
use Rattle.wt_text_edit_laws.specs.BlockSpots.{BlockSpot, AreContents}
use Rattle.wt_text_edit_laws.specs.TextBlocks.{TextBlock}
use Rattle.wt_text_edit_laws.specs.Contents.{IsNewContent}
use Rattle.wt_text_edit_laws.proofs.Blocks.Contents.{new_again}
use Rattle.wt_called_edit_laws.specs.Retyped.{AreRetyped}
use Rattle.wt_called_edit_laws.proofs.Parts.Retyped.{same_round, blocks_over}
use Rattle.wt_part_laws.specs.Rounded.{AreOwn}
use Rattle.wt_part_laws.proofs.FrameEnds.{clean_same}
use Rattle.wt_called_edit_laws.specs.CalledBlocks.{tree_by, counted, StandAmongCalls}
use Rattle.wt_called_edit_laws.proofs.Cells.CalledFrames.{among_contents, again_among}
use Rattle.wt_called_edit_laws.proofs.Cells.SpotTrees.{counted_same}
use Rattle.wt_called_edit_laws.specs.Groups.{AreOutsideGroups}
use Rattle.wt_called_edit_laws.proofs.OwnBlocks.{counted_own}

-- ---- contents that are written after others

text_after : (k : TextBlock) (was now last : List ℕ) → (now ≡ was) ⊎ IsNewContent k was now → (last ≡ now) ⊎ IsNewContent k now last
    → (last ≡ was) ⊎ IsNewContent k was last
text_after k was now last (inl e) (inr n) = inr (subst (λ bs. IsNewContent k bs last) e n)
text_after k was now last (inr m) (inr n) = inr (new_again k was now last m n)
text_after k was now last (inl e) (inl f) = inl (f ∙ e)
text_after k was now last (inr m) (inl f) = inr (subst (IsNewContent k was) (sym f) m)

retyped_after : (ss rs qs : List BlockSpot) → AreRetyped ss rs → AreRetyped rs qs → AreRetyped ss qs
retyped_after [] [] qs h g = g
retyped_after [] (r ∷ rs) qs h g = absurd h
retyped_after (s ∷ ss) [] qs h g = absurd h
retyped_after (s ∷ ss) (r ∷ rs) [] h g = absurd g
retyped_after (s ∷ ss) (r ∷ rs) (q ∷ qs) h g = (
  g.0 ∙ h.0,
  g.1 ∙ h.1,
  text_after q.block s.text r.text q.text (subst (λ k. (r.text ≡ s.text) ⊎ IsNewContent k s.text r.text) (sym g.1) h.2) g.2,
  retyped_after ss rs qs h.3 g.3,
)

-- ---- the page

pub outside_again : (pages : Pages) (ss rs : List BlockSpot) (behind : List ℕ) → AreOutsideGroups pages ss behind → AreRetyped ss rs → AreOutsideGroups pages rs behind
outside_again pages ss rs behind h t =
    let f : StandAmongCalls pages ss behind = h.stand in
    let blocks : AreContents ss = among_contents pages ss behind h.among in
    let same : counted rs ≡ counted ss = counted_same ss rs (same_round ss rs t) in
    let was : AreOwn (tree_by ss) (all_places f.frames) = subst (AreOwn (tree_by ss)) (sym f.in_order) (counted_own ss blocks) in
    let now : AreOwn (tree_by rs) (all_places f.frames) =
    subst (AreOwn (tree_by rs)) (same ∙ sym f.in_order) (counted_own rs (blocks_over ss rs t blocks)) in
    record {
      among = again_among pages ss rs behind h.among t;
      stand = record {
        frames = f.frames;
        of_cells = f.of_cells;
        in_order = f.in_order ∙ sym same;
        means = λ qs u. f.means qs (retyped_after ss rs qs t u);
      };
      clean = clean_same (tree_by ss) (tree_by rs) f.frames content None None f.of_cells was now h.clean;
    }
