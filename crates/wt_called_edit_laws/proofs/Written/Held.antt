-- What is written for texts beside calls, as a paragraph, holds these calls.
use Rattle.std.proofs.Common.{◌≡◌, ℕ, ◌+◌, List, [], ◌∷◌, ◌++◌, refl, sym, ap, ◌∙◌, subst}
use Rattle.wt_span.specs.Items.{Item}
use Rattle.wt_span.specs.Origins.{OuterCall}
use Rattle.wt_tree.specs.declared.kind.Kind.TheVariants as kind
use Rattle.wt_tree.specs.Plain.{Plains, ended, along, element, plain_before}
use Rattle.wt_inline.specs.ItemTree.{plain}
use Rattle.wt_annotated.specs.CutTexts.{cut_texts}
use Rattle.wt_selser.specs.GroupFaults.{paragraph_face}
use Rattle.wt_guards.specs.Content.{ContentSign, letter, thing}
use Rattle.wt_guards.specs.Guards.{Setting, is_guarded, spelled}
use Rattle.wt_guards.specs.Letters.{is_escaped}
use Rattle.wt_expand.specs.Work.{Pages}
use Rattle.wt_part_laws.specs.Expanded.{part_items, calls_in}
use Rattle.wt_lines.specs.Lines.{lines}
use Rattle.wt_part_laws.specs.HeldCalls.{block_in, HoldsItsCalls, block_of_pieces}
use Rattle.wt_text_edit_laws.specs.ParagraphParts.{joined_parts, para_with}
use Rattle.wt_text_edit_laws.specs.TextBlocks.{a_paragraph}
use Rattle.wt_beside_laws.specs.Called.{items_with, owns_in, parts_with, called_shown, IsCalledIn}
use Rattle.wt_beside_laws.specs.Content.{guard_items, letter_items}
use Rattle.wt_beside_laws.proofs.Groups.CalledBlocks.{called_holds, called_block}
use Rattle.wt_beside_laws.proofs.Groups.CalledShown.{called_shows}
use Rattle.wt_beside_laws.proofs.Groups.Folders.{called_in}
use Rattle.wt_called_edit_laws.specs.CalledContents.{tree_round}
use Rattle.wt_called_edit_laws.specs.Written.{AreReadThings, AreOwnParts, written_items}
use Rattle.wt_called_edit_laws.proofs.Written.Signs.{content_written}

pub written_with : (pages : Pages) (s : Setting) (i : ℕ) (before signs : List ContentSign) → written_items pages s i before signs ≡ items_with s before signs (owns_in pages i signs)
written_with pages s i before [] = refl
written_with pages s i before (letter c ∷ after) =
    ap (λ xs. guard_items (is_guarded s before (letter c ∷ after)) ++ (letter_items (is_escaped s.within s.place before c after) c ++ xs))
    (written_with pages s i (letter c ∷ before) after)
written_with pages s i before (thing t ∷ after) =
    ap (λ xs. guard_items (is_guarded s before (thing t ∷ after)) ++ (part_items pages i t.source ++ xs))
    (written_with pages s (i + calls_in pages t.source) (thing t ∷ before) after)

pub written_gives : (pages : Pages) (i : ℕ) (s : Setting) (signs : List ContentSign) → IsCalledIn pages s signs → AreReadThings signs → AreOwnParts pages signs
    → part_items pages i (spelled s signs) ≡ items_with s [] signs (owns_in pages i signs)
written_gives pages i s signs h r o = (content_written pages s signs h.of_block r o).items_are i ∙ written_with pages s i [] signs

pub written_holds : (pages : Pages) (i : ℕ) (s : Setting) (signs : List ContentSign) → IsCalledIn pages s signs → AreReadThings signs → AreOwnParts pages signs
    → HoldsItsCalls (tree_round a_paragraph (part_items pages i (spelled s signs)))
written_holds pages i s signs h r o =
    subst (λ (xs : List Item). HoldsItsCalls (para_with (joined_parts (lines xs)))) (sym (written_gives pages i s signs h r o))
    (called_holds s signs (owns_in pages i signs) (called_in pages i s signs h))

-- and what it is and shows in the page's tree
pub written_block : (pages : Pages) (calls : List OuterCall) (i : ℕ) (s : Setting) (signs : List ContentSign) → IsCalledIn pages s signs → AreReadThings signs
    → AreOwnParts pages signs
    → block_in calls (tree_round a_paragraph (part_items pages i (spelled s signs)))
    ≡ block_of_pieces calls (plain kind.Para) [] (parts_with s [] signs (owns_in pages i signs)) []
written_block pages calls i s signs h r o =
    ap (λ (xs : List Item). block_in calls (para_with (joined_parts (lines xs)))) (written_gives pages i s signs h r o)
    ∙ called_block calls s signs (owns_in pages i signs) (called_in pages i s signs h)

pub written_shows : (pages : Pages) (calls : List OuterCall) (i : ℕ) (s : Setting) (signs : List ContentSign) (rest : Plains) → IsCalledIn pages s signs → AreReadThings signs
    → AreOwnParts pages signs
    → plain_before (cut_texts (block_in calls (tree_round a_paragraph (part_items pages i (spelled s signs))))) rest
    ≡ along (element paragraph_face (called_shown signs (owns_in pages i signs) ended)) rest
written_shows pages calls i s signs rest h r o =
    ap (λ (xs : List Item). plain_before (cut_texts (block_in calls (para_with (joined_parts (lines xs))))) rest) (written_gives pages i s signs h r o)
    ∙ called_shows calls s signs (owns_in pages i signs) rest (called_in pages i s signs h)
