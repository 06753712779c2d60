-- What is written for a paragraph or heading beside its calls makes nothing but what was typed.
use Rattle.std.proofs.Common.{◌≡◌, ◌<◌, ℕ, List, [], sym, ap, subst, ◌∙◌}
use Rattle.std.specs.List.{AllByRecursion}
use Rattle.wt_span.specs.Items.{Item}
use Rattle.wt_span.specs.Origins.{OuterCall}
use Rattle.wt_tree.specs.Tree.{Label, Tree}
use Rattle.wt_guards.specs.Content.{ContentSign}
use Rattle.wt_guards.specs.Guards.{Setting, spelled}
use Rattle.wt_lines.specs.Lines.{lines}
use Rattle.wt_original.specs.Page.{page_of}
use Rattle.wt_annotated.specs.CutTexts.{cut_texts}
use Rattle.wt_expand.specs.Work.{Pages}
use Rattle.wt_visible.specs.SameNodes.{same_node}
use Rattle.wt_part_laws.specs.Expanded.{part_items}
use Rattle.wt_part_laws.specs.HeldCalls.{block_in}
use Rattle.wt_typed_blocks.specs.Edited.{Pieces, sent_pieces}
use Rattle.wt_typed_blocks.specs.Typed.{place_of}
use Rattle.wt_text_edit_laws.specs.TextBlocks.{TextBlock, a_paragraph, a_heading, block_of}
use Rattle.wt_beside_laws.specs.Called.{items_with, owns_in, IsCalledIn, IsCalledInHeading}
use Rattle.wt_beside_laws.specs.ContentEdits.{new_content}
use Rattle.wt_beside_laws.specs.FlatBlocks.{sent_for}
use Rattle.wt_beside_laws.specs.SpelledApart.{HasEvenToggles}
use Rattle.wt_beside_laws.specs.Styled.{signs_in}
use Rattle.wt_beside_laws.proofs.Groups.Folders.{called_in, heading_in}
use Rattle.wt_beside_laws.proofs.Styled.SentStyles.{sent_signs as styled_signs}
use Rattle.wt_beside_laws.proofs.StyledGroups.Even.{called_even, heading_even}
use Rattle.wt_called_edit_laws.specs.CalledContents.{tree_round}
use Rattle.wt_called_edit_laws.specs.CalledEdits.{IsBesideCalls, IsCalledEditOf, MakesContentIn}
use Rattle.wt_called_edit_laws.specs.Settled.{settled}
use Rattle.wt_called_edit_laws.specs.SpelledBeside.{IsSpelledBeside}
use Rattle.wt_called_edit_laws.specs.WrittenAnew.{IsWrittenBeside, IsWrittenInHeading, IsWrittenIn}
use Rattle.wt_called_edit_laws.proofs.Beside.Making.{IsSettledIn, IsSentBeside, setting, signs, sent_beside, content_is, calls_make}
use Rattle.wt_called_edit_laws.proofs.Beside.Uncalled.{sent_styled}
use Rattle.wt_called_edit_laws.proofs.Headings.Held.{head_items}
use Rattle.wt_called_edit_laws.proofs.Written.Held.{written_gives}

written_items_are : (k : TextBlock) (pages : Pages) (i : ℕ) (s : Setting) (ss : List ContentSign) → IsWrittenIn k pages s ss
    → part_items pages i (spelled s ss) ≡ items_with s [] ss (owns_in pages i ss)
written_items_are a_paragraph pages i s ss b = let h : IsWrittenBeside pages s ss = b in written_gives pages i s ss h.called h.read h.parts
written_items_are (a_heading w) pages i s ss b = head_items pages i s ss b

written_even : (k : TextBlock) (pages : Pages) (i : ℕ) (s : Setting) (ss : List ContentSign) → IsWrittenIn k pages s ss
    → AllByRecursion HasEvenToggles (lines (items_with s [] ss (owns_in pages i ss)))
written_even a_paragraph pages i s ss b =
    let h : IsWrittenBeside pages s ss = b in
    let c : IsCalledIn pages s ss = h.called in called_even s ss (owns_in pages i ss) (called_in pages i s ss c)
written_even (a_heading w) pages i s ss b =
    let h : IsWrittenInHeading pages s ss = b in
    let c : IsCalledInHeading pages s ss = h.called in heading_even s ss (owns_in pages i ss) (heading_in pages i s ss c)

pub calls_apart : (pages : Pages) (k : TextBlock) (q : List ℕ) (block : Tree) (m : Label) (ps : Pieces) (n at i : ℕ) (calls : List OuterCall) → 0 < n
    → block ≡ settled n at (cut_texts (block_in calls (tree_round k (part_items pages i q)))) → IsBesideCalls pages k q block → IsCalledEditOf pages k block ps
    → IsSpelledBeside pages k block m ps
calls_apart pages k q block m ps n at i calls some there h e =
    let in_page : IsSettledIn pages k q block = record { number = n; at = at; before = i; calls = calls; some = some; is = there } in
    let w : IsSentBeside pages k block m ps = sent_beside pages k q block m ps in_page h e in
    let s : Setting = setting k block in
    let ss : List ContentSign = signs k block ps in
    let so : ss ≡ signs_in (sent_for block ps) =
    styled_signs (page_of same_node block) (place_of (block_of k)) (sent_pieces ps) (sent_styled (page_of same_node block) (sent_pieces ps) w.sent) in
    let is : new_content k block m ps ≡ spelled s ss = content_is pages k block m ps w in
    let items : (j : ℕ) → part_items pages j (new_content k block m ps) ≡ items_with s [] ss (owns_in pages j ss) =
    λ j. ap (part_items pages j) is ∙ written_items_are k pages j s ss w.written in
    let made : MakesContentIn pages k q block m ps = calls_make pages k q block m ps n at i calls some there h e in
    record {
      setting = s;
      is = is ∙ ap (spelled s) so;
      items = λ j. items j ∙ ap (λ (ts : List ContentSign). items_with s [] ts (owns_in pages j ts)) so;
      toggles = λ j. subst (λ (xs : List Item). AllByRecursion HasEvenToggles (lines xs)) (sym (items j)) (written_even k pages j s ss w.written);
      shows = λ cs j rest. sym (made.shows cs j rest);
    }
