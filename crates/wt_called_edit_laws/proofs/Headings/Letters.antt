-- Two contents beside the nodes of a heading, which are the same but for their first letter.
use Rattle.std.proofs.Common.{◌≡◌, false, List, [], ◌∷◌, refl, sym, ◌∙◌, subst}
use Rattle.wt_tree.specs.declared.edit_shape.Place.TheVariants as place
use Rattle.wt_guards.specs.Content.{ContentSign, Thing}
use Rattle.wt_guards.specs.Guards.{Setting, spelled}
use Rattle.wt_expand.specs.Work.{Pages}
use Rattle.wt_text_edit_laws.specs.TextBlocks.{a_heading, IsFrame}
use Rattle.wt_text_edit_laws.specs.TypedHeadings.{Sides}
use Rattle.wt_beside_laws.specs.Called.{AllSeenIn, IsCalledInHeading}
use Rattle.wt_beside_laws.specs.InHeadings.{AreOnOneLine}
use Rattle.wt_beside_laws.specs.Stood.{things}
use Rattle.wt_called_edit_laws.specs.CallingBlocks.{IsNewContentIn}
use Rattle.wt_called_edit_laws.specs.CallingEdits.{TakesLetters}
use Rattle.wt_called_edit_laws.specs.PageThings.{ArePageThings}
use Rattle.wt_called_edit_laws.specs.WrittenAnew.{node_sources, StayButForOthers, IsWrittenInHeading, HoldsAnywhere}
use Rattle.wt_called_edit_laws.proofs.Headings.FromPage.{head_these}
use Rattle.wt_called_edit_laws.proofs.Headings.Held.{head_holds}
use Rattle.wt_called_edit_laws.proofs.Headings.NewContents.{head_anew}
use Rattle.wt_called_edit_laws.proofs.Written.Letters.{spread, begun, rest_of, spelled_a, spelled_b, spread_characters, stay_spread, sources_spread, sources_things, same_stay}

spread_line : (ts : List Thing) → AreOnOneLine (spread ts)
spread_line [] = (refl, tt)
spread_line (t ∷ ts) = (refl, spread_line ts)

pub a_head : (pages : Pages) (s : Setting) (ts : List Thing) → s.within ≡ false → s.place ≡ place.Heading → ArePageThings pages ts → AllSeenIn pages ts
    → IsWrittenInHeading pages s (begun 97 ts)
a_head pages s ts w p h e = head_these pages ts s (begun 97 ts) w p (refl, spread_line ts) (refl, spread_characters ts) h e (stay_spread pages ts)

pub b_head : (pages : Pages) (s : Setting) (ts : List Thing) → s.within ≡ false → s.place ≡ place.Heading → ArePageThings pages ts → AllSeenIn pages ts
    → IsWrittenInHeading pages s (begun 98 ts)
b_head pages s ts w p h e = head_these pages ts s (begun 98 ts) w p (refl, spread_line ts) (refl, spread_characters ts) h e (stay_spread pages ts)

pub head_letters : (pages : Pages) (s : Setting) (signs : List ContentSign) (h : Sides) → IsFrame h → IsWrittenInHeading pages s signs
    → ArePageThings pages (things signs) → AllSeenIn pages (things signs) → TakesLetters pages (a_heading h) (spelled s signs)
head_letters pages s signs h f w own seen =
    let c : IsCalledInHeading pages s signs = w.called in
    let ts : List Thing = things signs in
    let stay : StayButForOthers pages (node_sources signs) (node_sources (spread ts)) =
    subst (StayButForOthers pages (node_sources signs)) (sources_things signs ∙ sym (sources_spread ts)) (same_stay pages (node_sources signs)) in
    let a : IsWrittenInHeading pages s (begun 97 ts) = a_head pages s ts c.of_block c.of_heading own seen in
    let b : IsWrittenInHeading pages s (begun 98 ts) = b_head pages s ts c.of_block c.of_heading own seen in
    record {
      rest = rest_of s ts;
      one = subst (IsNewContentIn pages (a_heading h) (spelled s signs)) (spelled_a s ts) (head_anew pages h s s signs (begun 97 ts) f w a stay);
      other = subst (IsNewContentIn pages (a_heading h) (spelled s signs)) (spelled_b s ts) (head_anew pages h s s signs (begun 98 ts) f w b stay);
      one_holds = subst (HoldsAnywhere pages (a_heading h)) (spelled_a s ts) (head_holds pages s (begun 97 ts) h f.sides a);
      other_holds = subst (HoldsAnywhere pages (a_heading h)) (spelled_b s ts) (head_holds pages s (begun 98 ts) h f.sides b);
    }
