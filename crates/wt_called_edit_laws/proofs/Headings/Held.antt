-- What is written for texts beside calls, as a heading, gives what these give, holds these calls, and shows what they show.
use Rattle.std.proofs.Common.{◌≡◌, ℕ, List, [], sym, ap, ◌∙◌, subst}
use Rattle.wt_span.specs.Items.{Item}
use Rattle.wt_span.specs.Origins.{OuterCall}
use Rattle.wt_tree.specs.Plain.{Plains, ended, along, element, plain_before}
use Rattle.wt_tree.specs.Tree.{Tree}
use Rattle.wt_annotated.specs.CutTexts.{cut_texts}
use Rattle.wt_guards.specs.Content.{ContentSign}
use Rattle.wt_guards.specs.Guards.{Setting, spelled}
use Rattle.wt_expand.specs.Work.{Pages}
use Rattle.wt_inline.specs.Parts.{Part}
use Rattle.wt_part_laws.specs.Expanded.{part_items}
use Rattle.wt_part_laws.specs.HeldCalls.{block_in, HoldsItsCalls}
use Rattle.wt_text_edit_laws.specs.TextBlocks.{a_heading}
use Rattle.wt_text_edit_laws.specs.TypedHeadings.{Sides, AreSides, heading_round}
use Rattle.wt_beside_laws.specs.Called.{items_with, owns_in, parts_with, called_shown, IsCalledHeading, IsCalledInHeading}
use Rattle.wt_beside_laws.proofs.Groups.CalledBlocks.{parts_alike}
use Rattle.wt_beside_laws.proofs.Groups.CalledHeadings.{heading_holds, heading_block}
use Rattle.wt_beside_laws.proofs.Groups.CalledShown.{parts_texts, parts_show}
use Rattle.wt_beside_laws.proofs.Groups.Folders.{heading_in}
use Rattle.wt_beside_laws.proofs.Groups.GivenNodes.{shown_in_page}
use Rattle.wt_beside_laws.proofs.Made.OldBlocks.{face_of}
use Rattle.wt_called_edit_laws.specs.CalledContents.{tree_round}
use Rattle.wt_called_edit_laws.specs.WrittenAnew.{IsWrittenInHeading, HoldsAnywhere}
use Rattle.wt_called_edit_laws.proofs.Written.Held.{written_with}
use Rattle.wt_called_edit_laws.proofs.Written.Signs.{content_written}

pub head_items : (pages : Pages) (i : ℕ) (s : Setting) (signs : List ContentSign) → IsWrittenInHeading pages s signs
    → part_items pages i (spelled s signs) ≡ items_with s [] signs (owns_in pages i signs)
head_items pages i s signs h =
    let c : IsCalledInHeading pages s signs = h.called in
    (content_written pages s signs c.of_block h.read h.parts).items_are i ∙ written_with pages s i [] signs

pub head_holds : (pages : Pages) (s : Setting) (signs : List ContentSign) (w : Sides) → AreSides w → IsWrittenInHeading pages s signs
    → HoldsAnywhere pages (a_heading w) (spelled s signs)
head_holds pages s signs w a h = λ i.
    subst (λ (xs : List Item). HoldsItsCalls (heading_round w xs)) (sym (head_items pages i s signs h))
    (heading_holds s signs (owns_in pages i signs) w (heading_in pages i s signs h.called) a)

pub head_shows : (pages : Pages) (calls : List OuterCall) (i : ℕ) (s : Setting) (signs : List ContentSign) (w : Sides) (rest : Plains) → AreSides w
    → IsWrittenInHeading pages s signs
    → plain_before (cut_texts (block_in calls (tree_round (a_heading w) (part_items pages i (spelled s signs))))) rest
    ≡ along (element (face_of (a_heading w)) (called_shown signs (owns_in pages i signs) ended)) rest
head_shows pages calls i s signs w rest a h =
    let owns : List (List Item) = owns_in pages i signs in
    let c : IsCalledHeading s signs owns = heading_in pages i s signs h.called in
    let ps : List Part = parts_with s [] signs owns in
    ap (λ (xs : List Item). plain_before (cut_texts (block_in calls (heading_round w xs))) rest) (head_items pages i s signs h)
    ∙ ap (λ (t : Tree). plain_before (cut_texts t) rest) (heading_block calls s signs owns w c a)
    ∙ ap (λ (qs : Plains). along (element (face_of (a_heading w)) qs) rest)
    (shown_in_page calls ps ended (parts_alike calls s [] signs owns c.own) (parts_texts s [] signs owns c.given c.flat) ∙ parts_show s [] signs owns ended c.given c.flat)
