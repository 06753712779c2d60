-- The new page of such an edit is a page of the class again.
use Rattle.std.proofs.Common.{◌≡◌, ℕ, List, [], ◌∷◌, refl, sym, subst}
use Rattle.wt_span.specs.Items.{Item}
use Rattle.wt_tree.specs.Tiling.{HasNoGroup}
use Rattle.wt_guards.specs.Content.{ContentSign, letter, thing}
use Rattle.wt_typed_blocks.specs.Edited.{Pieces}
use Rattle.wt_text_edit_laws.specs.Parts.{HasNoGroups}
use Rattle.wt_beside_laws.specs.Calm.{IsCalm, AreCalm}
use Rattle.wt_beside_laws.specs.Content.{AreKept}
use Rattle.wt_beside_laws.specs.Lines.{AreLinesOfText, content_lines}
use Rattle.wt_beside_laws.specs.PageBlocks.{AreUnstyled, AreShut}
use Rattle.wt_beside_laws.specs.PageSigns.{signs_of_lines, AreFlatLines}
use Rattle.wt_beside_laws.proofs.BlockSigns.{same_shut}
use Rattle.wt_beside_laws.proofs.CalmContents.{content_utf8, calm_utf8, content_calm, nowiki_calm, reference_calm}
use Rattle.wt_beside_laws.proofs.FlatAgain.{EachSource, HoldsOfPut}
use Rattle.wt_beside_laws.proofs.Styled.Plain.{again_each, again_flat, again_kept, again_shut, again_unstyled}
use Rattle.wt_beside_laws.proofs.LineItems.{content_lines_are}
use Rattle.wt_beside_laws.proofs.LineKinds.{are_lines_of_text}
use Rattle.wt_beside_laws.specs.FlatPages.{lines_of, IsFlatPage, IsFlatEdit, new_signs, new_flat}
use Rattle.wt_beside_laws.proofs.Edits.OldPages.{one_tree, one_ungrouped}
use Rattle.wt_beside_laws.proofs.Marks.Unjoined.{flat_read}
use Rattle.wt_beside_laws.proofs.Edits.NewPages.{setting, same_things, new_content, new_calm, new_tree, new_page}

-- ---- what holds of the sources

from_calm : (signs : List ContentSign) → AreCalm signs → EachSource IsCalm signs
from_calm [] h = tt
from_calm (letter c ∷ after) h = from_calm after h
from_calm (thing t ∷ after) h = (h.0, from_calm after h.1)

to_calm : (signs : List ContentSign) → EachSource IsCalm signs → AreCalm signs
to_calm [] h = tt
to_calm (letter c ∷ after) h = to_calm after h
to_calm (thing t ∷ after) h = (h.0, to_calm after h.1)

put_calm : HoldsOfPut IsCalm
put_calm = record { of_nowiki = nowiki_calm; of_reference = reference_calm }

-- ---- the new page

new_lines : (q : List ℕ) (ps : Pieces) → IsFlatPage q → IsFlatEdit q ps → lines_of (new_flat q ps) ≡ content_lines (setting q) (new_signs q ps)
new_lines q ps h e = let f = new_content q ps h e in content_lines_are (setting q) (new_signs q ps) (flat_read (setting q) (new_signs q ps) f) f.unbroken

-- what holds of the lines of what was sent holds of the lines of the new page
of_new : (P : List (List Item) → Type 0) (q : List ℕ) (ps : Pieces) → IsFlatPage q → IsFlatEdit q ps → P (content_lines (setting q) (new_signs q ps))
    → P (lines_of (new_flat q ps))
of_new P q ps h e k = subst P (sym (new_lines q ps h e)) k

new_ungrouped : (q : List ℕ) (ps : Pieces) → IsFlatPage q → IsFlatEdit q ps → HasNoGroups (new_flat q ps)
new_ungrouped q ps h e =
    let one = new_page q ps h e in
    subst HasNoGroup (sym (one_tree (new_flat q ps) (new_tree q ps) one)) (refl, one_ungrouped (new_flat q ps) (new_tree q ps) one)

pub flat_again : (q : List ℕ) (ps : Pieces) → IsFlatPage q → IsFlatEdit q ps → IsFlatPage (new_flat q ps)
flat_again q ps h e =
    let signs : List ContentSign = new_signs q ps in
    let f = new_content q ps h e in
    let calm = new_calm q ps h e in
    let shut : AreShut signs = same_shut (signs_of_lines 0 (lines_of q)) signs (same_things q ps h e) h.shut in
    record {
      utf8 = content_utf8 (setting q) signs f.characters (calm_utf8 signs calm);
      calls_nothing = content_calm (setting q) signs (flat_read (setting q) signs f) calm;
      text = of_new (AreLinesOfText 0) q ps h e (are_lines_of_text 0 (setting q) signs refl f.led.first f.characters f.nodes);
      flat = of_new AreFlatLines q ps h e (again_flat (setting q) signs f);
      unstyled = of_new AreUnstyled q ps h e (again_unstyled (setting q) signs f);
      kept = of_new (λ (ls : List (List Item)). AreKept (signs_of_lines 0 ls)) q ps h e (again_kept 0 (setting q) signs f);
      calm = of_new (λ (ls : List (List Item)). AreCalm (signs_of_lines 0 ls)) q ps h e
          (to_calm (signs_of_lines 0 (content_lines (setting q) signs)) (again_each IsCalm put_calm 0 (setting q) signs f (from_calm signs calm)));
      shut = of_new (λ (ls : List (List Item)). AreShut (signs_of_lines 0 ls)) q ps h e (again_shut 0 (setting q) signs f shut);
      ungrouped = new_ungrouped q ps h e;
    }
