-- What is written for a paragraph or heading beside its calls and in its styles makes nothing but what was typed.
use Rattle.std.proofs.Common.{◌≡◌, ◌<◌, ℕ, List, [], sym, ap, subst, ◌∙◌}
use Rattle.std.specs.List.{AllByRecursion}
use Rattle.wt_span.specs.Items.{Item}
use Rattle.wt_span.specs.Origins.{OuterCall}
use Rattle.wt_tree.specs.Tree.{Label, Tree}
use Rattle.wt_guards.specs.Content.{ContentSign}
use Rattle.wt_guards.specs.Guards.{Setting, spelled}
use Rattle.wt_lines.specs.Lines.{lines}
use Rattle.wt_annotated.specs.CutTexts.{cut_texts}
use Rattle.wt_expand.specs.Work.{Pages}
use Rattle.wt_part_laws.specs.Expanded.{part_items}
use Rattle.wt_part_laws.specs.HeldCalls.{block_in}
use Rattle.wt_typed_blocks.specs.Edited.{Pieces}
use Rattle.wt_text_edit_laws.specs.TextBlocks.{TextBlock, a_paragraph, a_heading}
use Rattle.wt_beside_laws.specs.Called.{items_with, owns_in}
use Rattle.wt_beside_laws.specs.ContentEdits.{new_content}
use Rattle.wt_beside_laws.specs.FlatBlocks.{sent_for}
use Rattle.wt_beside_laws.specs.SpelledApart.{HasEvenToggles}
use Rattle.wt_beside_laws.specs.Styled.{StyledContent, signs_in}
use Rattle.wt_beside_laws.proofs.StyledGroups.Even.{styled_even, styled_heading_even}
use Rattle.wt_called_edit_laws.specs.CalledContents.{tree_round}
use Rattle.wt_called_edit_laws.specs.CalledEdits.{MakesContentIn}
use Rattle.wt_called_edit_laws.specs.Settled.{settled}
use Rattle.wt_called_edit_laws.specs.SpelledBeside.{IsSpelledBeside}
use Rattle.wt_called_edit_laws.specs.StyledCallEdits.{IsBesideStyles, IsStyledCallEdit}
use Rattle.wt_called_edit_laws.proofs.Beside.Making.{IsSettledIn, setting}
use Rattle.wt_called_edit_laws.proofs.Styles.Making.{IsSentWell, sent_well, written_so, content_so, styles_make}
use Rattle.wt_called_edit_laws.proofs.Styles.Written.{IsStyledWritten, IsStyledInHeading, IsStyledWrittenIn, signs_give, styled_in, heading_in}

written_items_are : (k : TextBlock) (pages : Pages) (i : ℕ) (s : Setting) (t : StyledContent) → IsStyledWrittenIn k pages s t
    → part_items pages i (spelled s (signs_in t)) ≡ items_with s [] (signs_in t) (owns_in pages i (signs_in t))
written_items_are a_paragraph pages i s t b = let h : IsStyledWritten pages s t = b in signs_give pages i s (signs_in t) h.of_block h.each
written_items_are (a_heading w) pages i s t b = let h : IsStyledInHeading pages s t = b in signs_give pages i s (signs_in t) h.of_block h.each

written_even : (k : TextBlock) (pages : Pages) (i : ℕ) (s : Setting) (t : StyledContent) → IsStyledWrittenIn k pages s t
    → AllByRecursion HasEvenToggles (lines (items_with s [] (signs_in t) (owns_in pages i (signs_in t))))
written_even a_paragraph pages i s t b = styled_even s t (owns_in pages i (signs_in t)) (styled_in pages i s t b)
written_even (a_heading w) pages i s t b = styled_heading_even s t (owns_in pages i (signs_in t)) (heading_in pages i s t b)

pub styles_apart : (pages : Pages) (k : TextBlock) (q : List ℕ) (block : Tree) (m : Label) (ps : Pieces) (n at i : ℕ) (calls : List OuterCall) → 0 < n
    → block ≡ settled n at (cut_texts (block_in calls (tree_round k (part_items pages i q)))) → IsBesideStyles pages k q block
    → IsStyledCallEdit pages k block ps → IsSpelledBeside pages k block m ps
styles_apart pages k q block m ps n at i calls some there h e =
    let in_page : IsSettledIn pages k q block = record { number = n; at = at; before = i; calls = calls; some = some; is = there } in
    let w : IsSentWell pages k block ps = sent_well pages k q block ps in_page h e in
    let b : IsStyledWrittenIn k pages (setting k block) (sent_for block ps) = written_so pages k q block ps h e w in
    let s : Setting = setting k block in
    let ss : List ContentSign = signs_in (sent_for block ps) in
    let is : new_content k block m ps ≡ spelled s ss = content_so pages k q block m ps in_page e w in
    let items : (j : ℕ) → part_items pages j (new_content k block m ps) ≡ items_with s [] ss (owns_in pages j ss) =
    λ j. ap (part_items pages j) is ∙ written_items_are k pages j s (sent_for block ps) b in
    let made : MakesContentIn pages k q block m ps = styles_make pages k q block m ps n at i calls some there h e in
    record {
      setting = s;
      is = is;
      items = items;
      toggles = λ j.
          subst (λ (xs : List Item). AllByRecursion HasEvenToggles (lines xs)) (sym (items j)) (written_even k pages j s (sent_for block ps) b);
      shows = λ cs j rest. sym (made.shows cs j rest);
    }
