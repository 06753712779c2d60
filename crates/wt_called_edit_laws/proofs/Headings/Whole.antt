-- What is written for a heading beside calls can be read by itself.
use Rattle.std.proofs.Common.{◌≡◌, inr, ℕ, List, [], refl, sym, ap, ◌∙◌, subst}
use Rattle.wt_span.specs.Items.{Item}
use Rattle.wt_guards.specs.Content.{ContentSign}
use Rattle.wt_guards.specs.Guards.{Setting, spelled}
use Rattle.wt_expand.specs.PageCalls.{expanded_page}
use Rattle.wt_expand.specs.Work.{Pages}
use Rattle.wt_inline.specs.Parts.{Part, children}
use Rattle.wt_context.specs.Line.{line_parts}
use Rattle.wt_part_laws.specs.CallPieces.{call_pieces}
use Rattle.wt_part_laws.specs.Expanded.{part_items}
use Rattle.wt_text_edit_laws.specs.TextBlocks.{a_heading, source_of, IsFrame}
use Rattle.wt_text_edit_laws.specs.TypedHeadings.{Sides}
use Rattle.wt_beside_laws.specs.Called.{items_with, owns_in, parts_with, IsCalledInHeading}
use Rattle.wt_beside_laws.proofs.Groups.CalledHeadings.{heading_parts}
use Rattle.wt_beside_laws.proofs.Groups.Folders.{heading_in}
use Rattle.wt_called_edit_laws.specs.WholeContents.{AreGroups, ArePartsIn, AreShutParts, HoldsGroups, IsWholeIn}
use Rattle.wt_called_edit_laws.proofs.Whole.SourcesAt.{sources_before}
use Rattle.wt_called_edit_laws.specs.Written.{written_calls}
use Rattle.wt_called_edit_laws.specs.WrittenAnew.{IsWrittenInHeading}
use Rattle.wt_called_edit_laws.proofs.Headings.Held.{head_items}
use Rattle.wt_called_edit_laws.proofs.Headings.NewContents.{head_written}
use Rattle.wt_called_edit_laws.proofs.Whole.Contents.{parts_shut, groups_from, signs_parts, written_shut, moved_shut}

head_groups : (pages : Pages) (s : Setting) (signs : List ContentSign) (w : Sides) → IsFrame w → IsWrittenInHeading pages s signs
    → HoldsGroups pages (a_heading w) (spelled s signs)
head_groups pages s signs w f h =
    let c : IsCalledInHeading pages s signs = h.called in
    let all = head_written pages s signs w f h in
    let items : (i : ℕ) → part_items pages i (spelled s signs) ≡ items_with s [] signs (owns_in pages i signs) = λ i. head_items pages i s signs h in
    let given : (i : ℕ) → line_parts (part_items pages i (spelled s signs)) ≡ parts_with s [] signs (owns_in pages i signs) =
    λ i. ap line_parts (items i) ∙ heading_parts s signs (owns_in pages i signs) (heading_in pages i s signs c) in
    record {
      parts = λ calls i a.
          let xs : List Item = part_items pages i (spelled s signs) in
          subst (ArePartsIn calls xs) (sym (given i))
          (signs_parts pages calls xs i s [] signs c.given h.shut
          (sources_before calls i (written_calls pages signs) (expanded_page pages (source_of (a_heading w) (spelled s signs))).outer all.calls_are a));
      groups = λ i.
          subst (λ (ps : List Part). AreGroups (part_items pages i (spelled s signs)) (call_pieces (children ps))) (sym (given i))
          (subst (λ (xs : List Item). AreGroups xs (call_pieces (children (parts_with s [] signs (owns_in pages i signs))))) (sym (items i))
          (groups_from pages (items_with s [] signs (owns_in pages i signs)) i s [] signs c.given (λ j l. refl)));
      shut = λ i. subst AreShutParts (sym (given i)) (parts_shut pages i s [] signs c.given h.shut);
      shut_calls = moved_shut (written_calls pages signs) (expanded_page pages (source_of (a_heading w) (spelled s signs))).outer all.calls_are
          (written_shut pages signs c.given h.shut);
    }

pub head_whole : (pages : Pages) (s : Setting) (signs : List ContentSign) (w : Sides) → IsFrame w → IsWrittenInHeading pages s signs
    → IsWholeIn pages (a_heading w) (spelled s signs)
head_whole pages s signs w f h = inr (head_groups pages s signs w f h)
