-- Where contents are written in blocks that hold calls, beside these calls, the groups of the page and its other nodes stay.
use Rattle.std.proofs.Common.{◌≡◌, ◌⊎◌, inl, inr, ℕ, zero, suc, List, [], ◌∷◌, refl, sym, ap, ◌∙◌, subst}
use Rattle.wt_span.specs.Origins.{OuterCall}
use Rattle.wt_expand.specs.Work.{Pages}
use Rattle.wt_expand.specs.PageCalls.{expanded_page}
use Rattle.wt_annotated.specs.Annotated.{annotated}
use Rattle.wt_annotated.specs.GroupData.{group_data}
use Rattle.wt_span.specs.Items.{Item}
use Rattle.wt_checks.specs.Kept.{children}
use Rattle.wt_part_laws.specs.Expanded.{part_items}
use Rattle.wt_part_laws.specs.Placeless.{placeless, all_placeless}
use Rattle.wt_called_edit_laws.specs.CalledContents.{tree_round}
use Rattle.wt_called_edit_laws.specs.Nodes.{IsBlock, AreBlocks, NodesStayRound}
use Rattle.wt_called_edit_laws.proofs.Parts.LessBraces.{less_after}
use Rattle.wt_called_edit_laws.proofs.CutFrames.{nodes_stay_round}
use Rattle.wt_part_laws.specs.Frames.{Frames, all_places}
use Rattle.wt_text_edit_laws.specs.BlockSpots.{BlockSpot, spots_source, SameRound}
use Rattle.wt_text_edit_laws.specs.ReadContents.{IsReadAnew}
use Rattle.wt_text_edit_laws.specs.TextBlocks.{TextBlock, a_paragraph, a_heading, source_of}
use Rattle.wt_part_laws.specs.HeldCalls.{AllHold, GroupsStayRound}
use Rattle.wt_part_laws.specs.MovedCalls.{AreMoved}
use Rattle.wt_part_laws.specs.Rounded.{HaveSameData}
use Rattle.wt_part_laws.proofs.GroupsStay.{groups_stay_round}
use Rattle.wt_part_laws.proofs.MovedData.{moved_data}
use Rattle.wt_called_edit_laws.specs.CalledBlocks.{counted}
use Rattle.wt_called_edit_laws.specs.CallingBlocks.{IsNewContentIn, AreEdited, AreCallingBlocks, tree_with_calls, CallingBlocksStand}
use Rattle.wt_called_edit_laws.specs.CallingGroups.{AreCallingOutside, CallingGroupsStay, CallingNodesStay}
use Rattle.wt_called_edit_laws.specs.Parts.{left_of, calls_to, calls_past, called_outers, work_in}
use Rattle.wt_called_edit_laws.specs.Retyped.{IsPartAnew}
use Rattle.wt_called_edit_laws.proofs.Cells.CallingFrames.{edited_anew, calling_again}
use Rattle.wt_called_edit_laws.proofs.Cells.SpotTrees.{counted_same}
use Rattle.wt_called_edit_laws.proofs.MovedOuters.{same_calls, calls_after, OwnMoved, all_moved}
use Rattle.wt_called_edit_laws.proofs.Parts.CalledAgain.{anew_round, some_after}
use Rattle.wt_called_edit_laws.proofs.Parts.Retyped.{is_by_parts, expanded_again}

-- ---- the calls of the page with other contents

pub edited_round : (pages : Pages) (ss rs : List BlockSpot) → AreEdited pages ss rs → SameRound ss rs
edited_round pages ss rs t = anew_round pages ss rs (edited_anew pages ss rs t)

pub one_moved : (pages : Pages) (s r : BlockSpot) → r.block ≡ s.block → (r.text ≡ s.text) ⊎ IsNewContentIn pages r.block s.text r.text
    → AreMoved (expanded_page pages (source_of s.block s.text)).outer (expanded_page pages (source_of r.block r.text)).outer
one_moved pages s r k (inl e) =
    let was : List OuterCall = (expanded_page pages (source_of s.block s.text)).outer in
    subst (λ q. AreMoved was (expanded_page pages (source_of r.block q)).outer) (sym e)
    (subst (λ j. AreMoved was (expanded_page pages (source_of j s.text)).outer) (sym k) (same_calls was))
one_moved pages s r k (inr n) =
    subst (λ j. AreMoved (expanded_page pages (source_of j s.text)).outer (expanded_page pages (source_of r.block r.text)).outer) k n.calls

own_moved : (pages : Pages) (ss rs : List BlockSpot) → AreEdited pages ss rs → OwnMoved pages ss rs
own_moved pages [] rs t = tt
own_moved pages (s ∷ ss) [] t = tt
own_moved pages (s ∷ ss) (r ∷ rs) t = (one_moved pages s r t.1 t.2, own_moved pages ss rs t.3)

pub calls_moved : (pages : Pages) (ss rs : List BlockSpot) (behind : List ℕ) → AreCallingBlocks pages ss behind → AreEdited pages ss rs
    → AreMoved (expanded_page pages (spots_source ss behind)).outer (expanded_page pages (spots_source rs behind)).outer
calls_moved pages ss rs behind h t =
    let others : List OuterCall = (expanded_page pages (spots_source rs behind)).outer in
    let again = expanded_again pages ss rs behind h.called (edited_anew pages ss rs t) in
    let was = is_by_parts pages ss behind h.called in
    let now = is_by_parts pages rs behind again.called in
    subst (λ cs. AreMoved cs others) (sym was.outers)
    (subst (AreMoved (called_outers pages ss behind)) (sym now.outers) (all_moved pages ss rs behind (edited_round pages ss rs t) (own_moved pages ss rs t)))

pub calls_kept : (pages : Pages) (ss rs : List BlockSpot) (behind : List ℕ) → AreCallingBlocks pages ss behind → AreEdited pages ss rs
    → HaveSameData (expanded_page pages (spots_source ss behind)).outer (expanded_page pages (spots_source rs behind)).outer
calls_kept pages ss rs behind h t =
    moved_data (expanded_page pages (spots_source ss behind)).outer (expanded_page pages (spots_source rs behind)).outer (calls_moved pages ss rs behind h t)

pub edited_self : (pages : Pages) (ss : List BlockSpot) → AreEdited pages ss ss
edited_self pages [] = tt
edited_self pages (s ∷ ss) = (refl, refl, inl refl, edited_self pages ss)

pub calling_groups : (pages : Pages) (ss : List BlockSpot) (behind : List ℕ) → AreCallingOutside pages ss behind → CallingGroupsStay pages ss behind
calling_groups pages ss behind h =
    let fs : Frames = h.stand.frames in
    let calls : List OuterCall = (expanded_page pages (spots_source ss behind)).outer in
    let g : GroupsStayRound calls fs = groups_stay_round calls fs h.stand.of_cells in
    record {
      nodes = g.nodes;
      in_order = g.in_order ∙ h.stand.in_order;
      stay = λ rs t o.
          let others : List OuterCall = (expanded_page pages (spots_source rs behind)).outer in
          let clean = h.clean rs t o in
          ap (λ m. placeless (annotated others (group_data others) m)) (h.stand.means rs t)
          ∙ g.stay others (tree_with_calls pages 0 rs) (calls_kept pages ss rs behind h.blocks t) clean.0 clean.1;
    }

-- ---- its nodes

is_block : (k : TextBlock) (xs : List Item) → IsBlock (tree_round k xs)
is_block a_paragraph xs = inl refl
is_block (a_heading s) xs = inr (s.level, refl)

tree_is_block : (pages : Pages) (k : ℕ) (ss : List BlockSpot) (n : ℕ) → IsBlock (tree_with_calls pages k ss n)
tree_is_block pages k [] n = inl refl
tree_is_block pages k (s ∷ ss) zero = is_block s.block (part_items pages (calls_to pages k s) s.text)
tree_is_block pages k (s ∷ ss) (suc n) = tree_is_block pages (calls_past pages k s) ss n

all_blocks : (pages : Pages) (ss : List BlockSpot) (ns : List ℕ) → AreBlocks (tree_with_calls pages 0 ss) ns
all_blocks pages ss [] = tt
all_blocks pages ss (n ∷ ns) = (tree_is_block pages 0 ss n, all_blocks pages ss ns)

pub calling_nodes : (pages : Pages) (ss : List BlockSpot) (behind : List ℕ) → AreCallingOutside pages ss behind → CallingNodesStay pages ss behind
calling_nodes pages ss behind h =
    let fs : Frames = h.stand.frames in
    let calls : List OuterCall = (expanded_page pages (spots_source ss behind)).outer in
    let n : NodesStayRound calls fs = nodes_stay_round calls fs h.stand.of_cells in
    record {
      nodes = n.nodes;
      in_order = n.in_order ∙ h.stand.in_order;
      inner_nodes = n.inner_nodes;
      holders = n.holders;
      stay = λ rs t o.
          let others : List OuterCall = (expanded_page pages (spots_source rs behind)).outer in
          let clean = h.clean rs t o in
          ap (λ m. all_placeless (children (annotated others (group_data others) m))) (h.stand.means rs t)
          ∙ n.stay others (tree_with_calls pages 0 rs) (calls_kept pages ss rs behind h.blocks t) clean.0 clean.1 (all_blocks pages rs (all_places fs));
    }

-- ---- contents that are written after others

anew_after : (k : TextBlock) (was now last : List ℕ) → IsReadAnew k was now → IsReadAnew k now last → IsReadAnew k was last
anew_after k was now last h g = record { read = g.read; firm = g.firm; closes = λ name us vs o n. g.closes name vs vs (h.closes name us vs o n) n }

part_after : (pages : Pages) (k : TextBlock) (was now last : List ℕ) → IsPartAnew pages k was now → IsPartAnew pages k now last → IsPartAnew pages k was last
part_after pages k was now last h g = record {
  read = anew_after k was now last h.read g.read;
  anywhere = g.anywhere;
  left = less_after (left_of (source_of k now)) (left_of (source_of k was)) (left_of (source_of k last)) h.left g.left;
  undeep = λ d. g.undeep (h.undeep d);
  work = some_after (work_in pages (source_of k last)) (work_in pages (source_of k now)) (work_in pages (source_of k was)) g.work h.work;
}

content_after : (pages : Pages) (k : TextBlock) (was now last : List ℕ) → IsNewContentIn pages k was now → IsNewContentIn pages k now last → IsNewContentIn pages k was last
content_after pages k was now last h g = record {
  part = part_after pages k was now last h.part g.part;
  content = g.content;
  calls = calls_after (expanded_page pages (source_of k was)).outer (expanded_page pages (source_of k now)).outer (expanded_page pages (source_of k last)).outer h.calls g.calls;
  stays = g.stays;
}

text_after : (pages : Pages) (k : TextBlock) (was now last : List ℕ) → (now ≡ was) ⊎ IsNewContentIn pages k was now → (last ≡ now) ⊎ IsNewContentIn pages k now last
    → (last ≡ was) ⊎ IsNewContentIn pages k was last
text_after pages k was now last (inl e) (inr n) = inr (subst (λ bs. IsNewContentIn pages k bs last) e n)
text_after pages k was now last (inr m) (inr n) = inr (content_after pages k was now last m n)
text_after pages k was now last (inl e) (inl f) = inl (f ∙ e)
text_after pages k was now last (inr m) (inl f) = inr (subst (λ bs. IsNewContentIn pages k was bs) (sym f) m)

edited_after : (pages : Pages) (ss rs qs : List BlockSpot) → AreEdited pages ss rs → AreEdited pages rs qs → AreEdited pages ss qs
edited_after pages [] [] qs h g = g
edited_after pages [] (r ∷ rs) qs h g = absurd h
edited_after pages (s ∷ ss) [] qs h g = absurd h
edited_after pages (s ∷ ss) (r ∷ rs) [] h g = absurd g
edited_after pages (s ∷ ss) (r ∷ rs) (q ∷ qs) h g = (
  g.0 ∙ h.0,
  g.1 ∙ h.1,
  text_after pages q.block s.text r.text q.text (subst (λ k. (r.text ≡ s.text) ⊎ IsNewContentIn pages k s.text r.text) (sym g.1) h.2) g.2,
  edited_after pages ss rs qs h.3 g.3,
)

-- with them the blocks are at the same places
pub stand_again : (pages : Pages) (ss rs : List BlockSpot) (behind : List ℕ) → CallingBlocksStand pages ss behind → AreEdited pages ss rs
    → CallingBlocksStand pages rs behind
stand_again pages ss rs behind f t = record {
  frames = f.frames;
  of_cells = f.of_cells;
  in_order = f.in_order ∙ sym (counted_same ss rs (edited_round pages ss rs t));
  means = λ qs u. f.means qs (edited_after pages ss rs qs t u);
}

pub calling_outside : (pages : Pages) (ss rs : List BlockSpot) (behind : List ℕ) → AreCallingOutside pages ss behind → AreEdited pages ss rs
    → AllHold (tree_with_calls pages 0 rs) (counted rs) → AreCallingOutside pages rs behind
calling_outside pages ss rs behind h t o =
    let f : CallingBlocksStand pages ss behind = h.stand in
    let same : counted rs ≡ counted ss = counted_same ss rs (edited_round pages ss rs t) in
    record {
      blocks = calling_again pages ss rs behind h.blocks t;
      stand = record {
        frames = f.frames;
        of_cells = f.of_cells;
        in_order = f.in_order ∙ sym same;
        means = λ qs u. f.means qs (edited_after pages ss rs qs t u);
      };
      hold = o;
      clean = λ qs u v. h.clean qs (edited_after pages ss rs qs t u) v;
    }
