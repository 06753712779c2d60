-- Whatever texts are typed beside the nodes of a heading of the page, calls among them: it is a new content in its place.
use Rattle.std.proofs.Common.{◌≡◌, inl, inr, ℕ, false, List, [], ◌∷◌, subst}
use Rattle.wt_tree.specs.declared.edit_shape.Place.TheVariants as place
use Rattle.wt_guards.specs.Content.{ContentSign, Thing}
use Rattle.wt_guards.specs.Guards.{Setting, spelled}
use Rattle.wt_expand.specs.Work.{Pages}
use Rattle.wt_text_edit_laws.specs.ReadContents.{IsReadContent}
use Rattle.wt_text_edit_laws.specs.TextBlocks.{a_heading}
use Rattle.wt_text_edit_laws.specs.TypedHeadings.{Sides}
use Rattle.wt_beside_laws.specs.Called.{IsSeenIn, AllSeenIn}
use Rattle.wt_beside_laws.specs.InHeadings.{AreOnOneLine}
use Rattle.wt_beside_laws.specs.Lines.{AreCharacters}
use Rattle.wt_beside_laws.specs.Stood.{things}
use Rattle.wt_called_edit_laws.specs.CallingBlocks.{IsNewContentIn}
use Rattle.wt_called_edit_laws.specs.InPieces.{pieces_source, AreInPieces}
use Rattle.wt_called_edit_laws.specs.PageThings.{ArePageThings, ThingsStay, thing_sources}
use Rattle.wt_called_edit_laws.specs.WrittenAnew.{StayButForOthers, node_sources, IsWrittenInHeading}
use Rattle.wt_called_edit_laws.proofs.Headings.NewContents.{head_over}
use Rattle.wt_called_edit_laws.proofs.Written.FromPage.{things_stay, of_folder, of_reading, of_parts, of_seals, of_shut, of_utf8, all_meet_so, stay_both, by_sources, sources_of}
use Rattle.wt_called_edit_laws.proofs.Written.InPieces.{pieces_items, pieces_written, open_pieces}

-- what stays ends so, too
pub seen_stay : (pages : Pages) (bs ds : List Thing) → ThingsStay pages bs ds → AllSeenIn pages bs → AllSeenIn pages ds
seen_stay pages [] [] e h = tt
seen_stay pages [] (d ∷ ds) e h = absurd e
seen_stay pages (b ∷ bs) [] e h = tt
seen_stay pages (b ∷ bs) (d ∷ ds) (inl e) h = (subst (λ (t : Thing). IsSeenIn pages t) e.0 h.0, seen_stay pages bs ds e.1 h.1)
seen_stay pages (b ∷ bs) (d ∷ ds) (inr e) h = seen_stay pages bs (d ∷ ds) e.1 h.1

pub head_these : (pages : Pages) (olds : List Thing) (s : Setting) (signs : List ContentSign) → s.within ≡ false → s.place ≡ place.Heading → AreOnOneLine signs
    → AreCharacters signs → ArePageThings pages olds → AllSeenIn pages olds → ThingsStay pages olds (things signs) → IsWrittenInHeading pages s signs
head_these pages olds s signs w p l v h e k =
    let own : ArePageThings pages (things signs) = things_stay pages olds (things signs) k h in
    record {
      called = record {
        of_block = w;
        of_heading = p;
        one_line = l;
        characters = v;
        given = of_folder pages signs own;
        meet = λ i. all_meet_so pages i s signs own;
        end_seen = seen_stay pages olds (things signs) k e;
      };
      read = of_reading pages signs own;
      parts = of_parts pages signs own;
      sealed = of_seals pages signs own;
      shut = of_shut pages signs own;
      utf8 = of_utf8 pages signs own;
    }

pub head_takes : (pages : Pages) (h : Sides) (bs : List (List ℕ)) (olds : List Thing) (s : Setting) (signs : List ContentSign)
    → IsReadContent (a_heading h) (pieces_source bs) → AreInPieces pages bs → StayButForOthers pages bs (thing_sources olds) → IsWrittenInHeading pages s signs
    → ThingsStay pages olds (things signs) → IsNewContentIn pages (a_heading h) (pieces_source bs) (spelled s signs)
head_takes pages h bs olds s signs r p q w k =
    head_over pages h (pieces_source bs) bs (λ i. pieces_items pages i bs) s signs r (pieces_written pages bs p) (λ name us o. open_pieces name us bs o) w
    (stay_both pages bs (thing_sources olds) (node_sources signs) q
    (subst (StayButForOthers pages (thing_sources olds)) (sources_of signs) (by_sources pages olds (things signs) k)))
