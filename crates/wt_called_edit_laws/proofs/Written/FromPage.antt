-- Whatever texts are typed beside the nodes of a paragraph of the page, calls among them: it is a new content in its place.
use Rattle.std.proofs.Common.{◌≡◌, inl, inr, ℕ, ◌+◌, false, List, [], ◌∷◌, length, map, refl, sym, ap, ◌∙◌, subst}
use Rattle.wt_guards.specs.Content.{ContentSign, Thing, letter, thing, is_group}
use Rattle.wt_guards.specs.Guards.{Setting, spelled}
use Rattle.wt_expand.specs.PageCalls.{expanded_page}
use Rattle.wt_expand.specs.Work.{Pages}
use Rattle.wt_tiles.specs.Glyphs.{glyph_of}
use Rattle.wt_part_laws.specs.Expanded.{part_items}
use Rattle.wt_text_edit_laws.specs.TextBlocks.{a_paragraph}
use Rattle.wt_beside_laws.specs.Called.{owns_in, AllMeetWith, IsOwnNode, StaysAsItIs, StaysRound, IsOfFolder, AreOfFolder, HasUncalled}
use Rattle.wt_beside_laws.specs.Cuts.{own_glyphs}
use Rattle.wt_beside_laws.specs.FlatBlocks.{AreSealed}
use Rattle.wt_beside_laws.specs.Lines.{AreCharacters}
use Rattle.wt_beside_laws.specs.Nodes.{IsNode}
use Rattle.wt_beside_laws.specs.Stood.{things}
use Rattle.wt_beside_laws.proofs.Groups.Folders.{folder_case}
use Rattle.wt_beside_laws.proofs.Groups.Meet.{IsNodeOrGroup, EachIsSuch, NextMeets, EachNextMeets, all_beside}
use Rattle.wt_called_edit_laws.specs.CallingBlocks.{IsNewContentIn}
use Rattle.wt_called_edit_laws.specs.InPieces.{pieces_source, AreInPieces}
use Rattle.wt_called_edit_laws.specs.PageThings.{IsPageThing, MeetThere, MeetLater, ArePageThings, ThingsStay, thing_sources}
use Rattle.wt_called_edit_laws.specs.WholeContents.{AreShut}
use Rattle.wt_called_edit_laws.specs.Written.{AreReadThings, AreOwnParts}
use Rattle.wt_called_edit_laws.specs.WrittenAnew.{node_sources, AreUtf8, StayButForOthers, IsWrittenBeside}
use Rattle.wt_called_edit_laws.proofs.Written.InPieces.{pieces_anew}

-- ---- some of them are such, too

later_stay : (pages : Pages) (t : Thing) (bs ds : List Thing) → ThingsStay pages bs ds → MeetLater pages t bs → MeetLater pages t ds
later_stay pages t [] [] e h = tt
later_stay pages t [] (d ∷ ds) e h = absurd e
later_stay pages t (b ∷ bs) [] e h = tt
later_stay pages t (b ∷ bs) (d ∷ ds) (inl e) h = (subst (MeetThere pages t) e.0 h.0, later_stay pages t bs ds e.1 h.1)
later_stay pages t (b ∷ bs) (d ∷ ds) (inr e) h = later_stay pages t bs (d ∷ ds) e.1 h.1

pub things_stay : (pages : Pages) (bs ds : List Thing) → ThingsStay pages bs ds → ArePageThings pages bs → ArePageThings pages ds
things_stay pages [] [] e h = tt
things_stay pages [] (d ∷ ds) e h = absurd e
things_stay pages (b ∷ bs) [] e h = tt
things_stay pages (b ∷ bs) (d ∷ ds) (inl e) h = (
  subst (IsPageThing pages) e.0 h.0,
  subst (λ (t : Thing). MeetLater pages t ds) e.0 (later_stay pages b bs ds e.1 h.1),
  things_stay pages bs ds e.1 h.2,
)
things_stay pages (b ∷ bs) (d ∷ ds) (inr e) h = things_stay pages bs (d ∷ ds) e.1 h.2

-- ---- what holds of each

pub of_folder : (pages : Pages) (signs : List ContentSign) → ArePageThings pages (things signs) → AreOfFolder pages signs
of_folder pages [] h = tt
of_folder pages (letter c ∷ after) h = of_folder pages after h
of_folder pages (thing t ∷ after) h = (h.0.folder, of_folder pages after h.2)

pub of_reading : (pages : Pages) (signs : List ContentSign) → ArePageThings pages (things signs) → AreReadThings signs
of_reading pages [] h = tt
of_reading pages (letter c ∷ after) h = of_reading pages after h
of_reading pages (thing t ∷ after) h = (h.0.read, of_reading pages after h.2)

pub of_parts : (pages : Pages) (signs : List ContentSign) → ArePageThings pages (things signs) → AreOwnParts pages signs
of_parts pages [] h = tt
of_parts pages (letter c ∷ after) h = of_parts pages after h
of_parts pages (thing t ∷ after) h = (h.0.part, of_parts pages after h.2)

pub of_seals : (pages : Pages) (signs : List ContentSign) → ArePageThings pages (things signs) → AreSealed signs
of_seals pages [] h = tt
of_seals pages (letter c ∷ after) h = of_seals pages after h
of_seals pages (thing t ∷ after) h = (h.0.sealed, of_seals pages after h.2)

pub of_shut : (pages : Pages) (signs : List ContentSign) → ArePageThings pages (things signs) → AreShut signs
of_shut pages [] h = tt
of_shut pages (letter c ∷ after) h = of_shut pages after h
of_shut pages (thing t ∷ after) h = (h.0.shut, of_shut pages after h.2)

pub of_utf8 : (pages : Pages) (signs : List ContentSign) → ArePageThings pages (things signs) → AreUtf8 (node_sources signs)
of_utf8 pages [] h = tt
of_utf8 pages (letter c ∷ after) h = of_utf8 pages after h
of_utf8 pages (thing t ∷ after) h = (h.0.utf8, of_utf8 pages after h.2)

-- ---- side by side, by what they give

pub gives_so : (pages : Pages) (i : ℕ) (t : Thing) → IsOfFolder t.role pages t → IsNodeOrGroup t (map glyph_of (part_items pages i t.source))
gives_so pages i t h = elim (folder_case t.role pages t h) [
  | inl k ↦
      let stays : StaysAsItIs pages t = k.0 in
      let is : map glyph_of (part_items pages i t.source) ≡ own_glyphs t = ap (map glyph_of) (stays.items i) in
      inl (subst (IsNode t.role) (sym is) stays.node)
  | inr e ↦ elim e [
    | inl k ↦ let stays : StaysRound pages t = k.0 in let own : IsOwnNode t (part_items pages i t.source) = stays.node i in inl own.node
    | inr k ↦ inr (ap is_group k.1)
  ]
]

each_so : (pages : Pages) (i : ℕ) (signs : List ContentSign) → ArePageThings pages (things signs) → EachIsSuch signs (owns_in pages i signs)
each_so pages i [] h = tt
each_so pages i (letter c ∷ after) h = each_so pages i after h
each_so pages i (thing t ∷ after) h = (gives_so pages i t h.0.folder, each_so pages (i + length (expanded_page pages t.source).outer) after h.2)

next_so : (pages : Pages) (i j : ℕ) (t : Thing) (signs : List ContentSign) → MeetLater pages t (things signs)
    → NextMeets t (map glyph_of (part_items pages i t.source)) signs (owns_in pages j signs)
next_so pages i j t [] h = tt
next_so pages i j t (letter c ∷ after) h = next_so pages i j t after h
next_so pages i j t (thing n ∷ after) h = h.0 i j

meets_so : (pages : Pages) (i : ℕ) (signs : List ContentSign) → ArePageThings pages (things signs) → EachNextMeets signs (owns_in pages i signs)
meets_so pages i [] h = tt
meets_so pages i (letter c ∷ after) h = meets_so pages i after h
meets_so pages i (thing t ∷ after) h =
    let next : ℕ = i + length (expanded_page pages t.source).outer in (next_so pages i next t after h.1, meets_so pages next after h.2)

pub all_meet_so : (pages : Pages) (i : ℕ) (s : Setting) (signs : List ContentSign) → ArePageThings pages (things signs)
    → AllMeetWith s [] [] signs (owns_in pages i signs)
all_meet_so pages i s signs h = all_beside s [] [] signs (owns_in pages i signs) tt (each_so pages i signs h) (meets_so pages i signs h)

-- ---- so it is such a paragraph

pub beside_these : (pages : Pages) (olds : List Thing) (s : Setting) (signs : List ContentSign) → s.within ≡ false → AreCharacters signs → HasUncalled s [] signs
    → ArePageThings pages olds → ThingsStay pages olds (things signs) → IsWrittenBeside pages s signs
beside_these pages olds s signs w v b h k =
    let own : ArePageThings pages (things signs) = things_stay pages olds (things signs) k h in
    record {
      called = record {
        of_block = w;
        characters = v;
        given = of_folder pages signs own;
        meet = λ i. all_meet_so pages i s signs own;
        some = b;
      };
      read = of_reading pages signs own;
      parts = of_parts pages signs own;
      sealed = of_seals pages signs own;
      shut = of_shut pages signs own;
      utf8 = of_utf8 pages signs own;
    }

-- ---- in the place of the page's

pub stay_both : (pages : Pages) (bs cs ds : List (List ℕ)) → StayButForOthers pages bs cs → StayButForOthers pages cs ds → StayButForOthers pages bs ds
stay_both pages [] [] ds h k = k
stay_both pages [] (c ∷ cs) ds h k = absurd h
stay_both pages (b ∷ bs) [] [] h k = h
stay_both pages (b ∷ bs) [] (d ∷ ds) h k = absurd k
stay_both pages (b ∷ bs) (c ∷ cs) [] (inl h) k =
    (ap (λ (q : List ℕ). (expanded_page pages q).outer) h.0 ∙ k.0, stay_both pages bs cs [] h.1 k.1)
stay_both pages (b ∷ bs) (c ∷ cs) [] (inr h) k = (h.0, stay_both pages bs (c ∷ cs) [] h.1 k)
stay_both pages (b ∷ bs) (c ∷ cs) (d ∷ ds) (inl h) (inl k) = inl (h.0 ∙ k.0, stay_both pages bs cs ds h.1 k.1)
stay_both pages (b ∷ bs) (c ∷ cs) (d ∷ ds) (inl h) (inr k) =
    inr (ap (λ (q : List ℕ). (expanded_page pages q).outer) h.0 ∙ k.0, stay_both pages bs cs (d ∷ ds) h.1 k.1)
stay_both pages (b ∷ bs) (c ∷ cs) (d ∷ ds) (inr h) k = inr (h.0, stay_both pages bs (c ∷ cs) (d ∷ ds) h.1 k)

pub by_sources : (pages : Pages) (bs ds : List Thing) → ThingsStay pages bs ds → StayButForOthers pages (thing_sources bs) (thing_sources ds)
by_sources pages [] [] h = tt
by_sources pages [] (d ∷ ds) h = absurd h
by_sources pages (b ∷ bs) [] h = (h.0, by_sources pages bs [] h.1)
by_sources pages (b ∷ bs) (d ∷ ds) (inl h) = inl (ap (λ (t : Thing). t.source) h.0, by_sources pages bs ds h.1)
by_sources pages (b ∷ bs) (d ∷ ds) (inr h) = inr (h.0, by_sources pages bs (d ∷ ds) h.1)

pub sources_of : (signs : List ContentSign) → thing_sources (things signs) ≡ node_sources signs
sources_of [] = refl
sources_of (letter c ∷ after) = sources_of after
sources_of (thing t ∷ after) = ap (λ (bs : List (List ℕ)). t.source ∷ bs) (sources_of after)

pub page_takes : (pages : Pages) (bs : List (List ℕ)) (olds : List Thing) (s : Setting) (signs : List ContentSign) → AreInPieces pages bs
    → StayButForOthers pages bs (thing_sources olds) → ArePageThings pages olds → s.within ≡ false → AreCharacters signs → HasUncalled s [] signs
    → ThingsStay pages olds (things signs) → IsNewContentIn pages a_paragraph (pieces_source bs) (spelled s signs)
page_takes pages bs olds s signs p q h w v b k =
    pieces_anew pages bs s signs p (beside_these pages olds s signs w v b h k)
    (stay_both pages bs (thing_sources olds) (node_sources signs) q
    (subst (StayButForOthers pages (thing_sources olds)) (sources_of signs) (by_sources pages olds (things signs) k)))
