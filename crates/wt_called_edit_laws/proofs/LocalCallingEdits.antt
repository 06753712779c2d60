-- Where contents are edited beside the calls of a page's blocks, the edit is local: nothing but these blocks is another one.
use Rattle.std.proofs.Common.{◌≡◌, ℕ, zero, suc, false, Option, None, List, [], ◌∷◌, length, refl, sym, ap, ◌∙◌, subst}
use Rattle.wt_span.specs.Origins.{OuterCall}
use Rattle.wt_tree.specs.Kinds.{is_leaf}
use Rattle.wt_tree.specs.Tree.{Tree, tree, Trees, label}
use Rattle.wt_annotated.specs.Numbering.{next_after}
use Rattle.wt_checks.specs.Kept.{children}
use Rattle.wt_expand.specs.PageCalls.{expanded_page}
use Rattle.wt_expand.specs.PageItems.{page_items}
use Rattle.wt_expand.specs.Work.{Pages}
use Rattle.wt_part_laws.specs.Expanded.{part_items}
use Rattle.wt_part_laws.specs.Frames.{content}
use Rattle.wt_part_laws.specs.HeldCalls.{AllHold}
use Rattle.wt_part_laws.specs.Placeless.{placeless_label, placeless}
use Rattle.wt_part_laws.specs.Rounded.{body_label}
use Rattle.wt_part_laws.specs.TreeFrames.{all_filled}
use Rattle.wt_typed_blocks.specs.Sent.{kind_of}
use Rattle.wt_typed_blocks.specs.Edited.{Edited, Edits}
use Rattle.wt_text_edit_laws.specs.BlockSpots.{BlockSpot, spots_source}
use Rattle.wt_text_edit_laws.specs.TextBlocks.{TextBlock, a_paragraph, a_heading, block_of}
use Rattle.wt_called_edit_laws.specs.CalledBlocks.{counted}
use Rattle.wt_called_edit_laws.specs.CalledTexts.{spots_tree}
use Rattle.wt_called_edit_laws.specs.CallingBlocks.{AreEdited, tree_with_calls}
use Rattle.wt_called_edit_laws.specs.CallingEdits.{IsCallingPage, StaysAt}
use Rattle.wt_called_edit_laws.specs.CallingGroups.{block_with_groups, CallingGroupsStay, CallingNodesStay}
use Rattle.wt_called_edit_laws.specs.Groups.{called_tree}
use Rattle.wt_called_edit_laws.specs.LocalChange.{AreLocal, no_shift, IsLocalChange}
use Rattle.wt_called_edit_laws.specs.Parts.{calls_to, calls_past}
use Rattle.wt_called_edit_laws.specs.Sends.{AllSend}
use Rattle.wt_called_edit_laws.specs.Settled.{all_settled}
use Rattle.wt_called_edit_laws.specs.SettledPages.{OnlyTheseAreOthers}
use Rattle.wt_called_edit_laws.specs.WrittenAnew.{EachHolds}
use Rattle.wt_called_edit_laws.proofs.CallingGroups.{calling_groups, edited_self}
use Rattle.wt_called_edit_laws.proofs.LocalNodes.{AreBlocksFor, AreLocalNodes, all_local}
use Rattle.wt_called_edit_laws.proofs.OthersStay.{others_stay}
use Rattle.wt_called_edit_laws.proofs.PageBody.{IsBodyOf}
use Rattle.wt_called_edit_laws.proofs.PagesSettled.{called_settled}
use Rattle.wt_called_edit_laws.proofs.SettledEdits.{block_kind}
use Rattle.wt_called_edit_laws.proofs.SpotSources.{grouped_at}
use Rattle.wt_called_edit_laws.proofs.TextsUntangled.{body_settled}
use Rattle.wt_called_edit_laws.proofs.Written.AllHeld.{all_hold}

-- ---- no block is a leaf

inner_kind : (k : TextBlock) → is_leaf (kind_of (block_of k)) ≡ false
inner_kind a_paragraph = refl
inner_kind (a_heading s) = refl

inner_at : (calls : List OuterCall) (pages : Pages) (k : ℕ) (ss : List BlockSpot) (n : ℕ) → is_leaf (label (grouped_at calls pages k ss n)).kind ≡ false
inner_at calls pages k [] n = ap is_leaf (block_kind calls a_paragraph (page_items []))
inner_at calls pages k (s ∷ ss) zero = ap is_leaf (block_kind calls s.block (part_items pages (calls_to pages k s) s.text)) ∙ inner_kind s.block
inner_at calls pages k (s ∷ ss) (suc n) = inner_at calls pages (calls_past pages k s) ss n

-- ---- the body

label_placeless : (t : Tree) → placeless_label (label t) ≡ label (placeless t)
label_placeless (tree l ts) = refl

body_is : (pages : Pages) (ss rs : List BlockSpot) (behind : List ℕ) (g : CallingGroupsStay pages ss behind) → AreEdited pages ss rs
    → AllHold (tree_with_calls pages 0 rs) (counted rs) → placeless_label (label (called_tree pages (spots_source rs behind))) ≡ body_label
body_is pages ss rs behind g t o = label_placeless (called_tree pages (spots_source rs behind)) ∙ ap label (g.stay rs t o)

-- ---- the page

-- Contents are sent for some of these blocks, and all else is sent as it is.
pub calling_local : (pages : Pages) (ss rs : List BlockSpot) (behind : List ℕ) (f : CallingNodesStay pages ss behind) (o : ℕ → Option Edited) (es : Edits)
    → IsCallingPage pages ss behind → AreEdited pages ss rs → EachHolds pages rs → AllSend o f.nodes es → ((n : ℕ) → o n ≡ None → StaysAt ss rs n)
    → IsBodyOf (spots_source ss behind) (spots_tree pages ss behind) → IsBodyOf (spots_source rs behind) (spots_tree pages rs behind)
    → IsLocalChange pages (spots_source ss behind) (spots_source rs behind) es
calling_local pages ss rs behind f o es h t held sends stay was now =
    let u : Tree = spots_tree pages ss behind in
    let v : Tree = spots_tree pages rs behind in
    let b : ℕ → Tree = block_with_groups pages ss behind in
    let c : ℕ → Tree = block_with_groups pages rs behind in
    let n : ℕ = next_after (label u).kind 1 in
    let k : ℕ = next_after (label v).kind 1 in
    let x : OnlyTheseAreOthers pages ss rs behind = others_stay pages ss rs behind h t held in
    let olds : children u ≡ all_settled n 0 (all_filled b f.nodes) =
    body_settled u (all_filled b f.nodes) was.kind (called_settled pages (spots_source ss behind)) (ap length was.opening) (f.stay ss (edited_self pages ss) h.outside.hold) in
    let news : children v ≡ all_settled k 0 (all_filled c f.nodes) =
    body_settled v (all_filled c f.nodes) now.kind (called_settled pages (spots_source rs behind)) (ap length now.opening) (f.stay rs t (all_hold pages rs held)) in
    let blocks : AreBlocksFor o b c = record {
      sent = λ i. record { kindred = x.kindred i; inner = inner_at (expanded_page pages (spots_source ss behind)).outer pages 0 ss i };
      same = λ i e. x.same i (stay i e);
    } in
    let nodes : AreLocalNodes es no_shift (all_filled b f.nodes) (all_filled c f.nodes) n k 0 0 =
    all_local o b c blocks f.nodes es content f.inner_nodes f.holders sends n k 0 0 no_shift refl in
    let g : CallingGroupsStay pages ss behind = calling_groups pages ss behind h.outside in
    record {
      body = body_is pages ss ss behind g (edited_self pages ss) h.outside.hold ∙ sym (body_is pages ss rs behind g t (all_hold pages rs held));
      nodes =
          subst (λ (ts : Trees). AreLocal es no_shift ts (children v)) (sym olds)
          (subst (λ (us : Trees). AreLocal es no_shift (all_settled n 0 (all_filled b f.nodes)) us) (sym news) nodes.0);
      keeps = record { calls = x.calls; work = x.work };
    }
