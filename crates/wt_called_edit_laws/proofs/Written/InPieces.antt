-- A paragraph in pieces has their calls and their work; so one of texts beside some of these pieces, those that call among them, may be written in its place.
use Rattle.std.proofs.Common.{◌≡◌, ℕ, ◌+◌, List, [], ◌∷◌, ◌++◌, refl, sym, subst, append_assoc}
use Rattle.wt_span.specs.Items.{Item}
use Rattle.wt_guards.specs.Content.{ContentSign}
use Rattle.wt_guards.specs.Guards.{Setting, spelled}
use Rattle.wt_expand.specs.PageItems.{page_items}
use Rattle.wt_expand.specs.PageCalls.{expanded_page}
use Rattle.wt_expand.specs.Work.{Pages}
use Rattle.wt_part_laws.specs.Expanded.{part_items, calls_in}
use Rattle.wt_text_edit_laws.specs.NoCalls.{AreUnbraced}
use Rattle.wt_text_edit_laws.specs.TextBlocks.{a_paragraph}
use Rattle.wt_text_edit_laws.proofs.Between.ClosingTags.{Unclosed, unclosed_behind}
use Rattle.wt_text_edit_laws.proofs.Prose.InFront.{reads_nothing, read_items}
use Rattle.wt_beside_laws.proofs.Each.{Each}
use Rattle.wt_called_edit_laws.specs.CallingBlocks.{IsNewContentIn}
use Rattle.wt_called_edit_laws.specs.InPieces.{pieces_source, AreInPieces}
use Rattle.wt_called_edit_laws.specs.Parts.{work_in}
use Rattle.wt_called_edit_laws.specs.Written.{IsOwnPart, IsWrittenAs}
use Rattle.wt_called_edit_laws.specs.WrittenAnew.{node_sources, StayButForOthers, IsWrittenBeside}
use Rattle.wt_called_edit_laws.proofs.MovedOuters.{same_calls}
use Rattle.wt_called_edit_laws.proofs.Written.Joined.{both_written, calm_written}
use Rattle.wt_called_edit_laws.proofs.Written.NewContents.{OpenAt, calls_of, work_of, written_over}

-- ---- what they give

abbrev pub pieces_items : Pages → ℕ → List (List ℕ) → List Item
pieces_items pages i [] = page_items []
pieces_items pages i (b ∷ bs) = part_items pages i b ++ pieces_items pages (i + calls_in pages b) bs

nothing_read : page_items [] ≡ []
nothing_read = read_items [] [] reads_nothing

own_written : (pages : Pages) (bs : List ℕ) → IsOwnPart pages bs → IsWrittenAs pages bs (λ i. part_items pages i bs) (expanded_page pages bs).outer (work_in pages bs)
own_written pages bs h = record { items_are = λ i. refl; calls_are = same_calls (expanded_page pages bs).outer; work_is = refl; part = h }

pub pieces_written : (pages : Pages) (bs : List (List ℕ)) → AreInPieces pages bs
    → IsWrittenAs pages (pieces_source bs) (λ i. pieces_items pages i bs) (calls_of pages bs) (work_of pages bs)
pieces_written pages [] h = calm_written pages [] (subst AreUnbraced (sym nothing_read) tt)
pieces_written pages (b ∷ bs) h =
    both_written pages b (pieces_source bs) (λ i. part_items pages i b) (λ i. pieces_items pages i bs) (expanded_page pages b).outer (calls_of pages bs) (work_in pages b)
    (work_of pages bs) h.1 (own_written pages b h.0) (pieces_written pages bs h.2)

-- ---- tags that are open in them

pub open_pieces : (name us : List ℕ) (bs : List (List ℕ)) → Unclosed name (pieces_source bs ++ us) → Each (OpenAt name) bs
open_pieces name us [] h = tt
open_pieces name us (b ∷ bs) h =
    let own : Unclosed name (b ++ (pieces_source bs ++ us)) = subst (Unclosed name) (append_assoc b (pieces_source bs) us) h in
    ((pieces_source bs ++ us, own), open_pieces name us bs (unclosed_behind name b (pieces_source bs ++ us) own))

-- ---- the other paragraph

pub pieces_anew : (pages : Pages) (bs : List (List ℕ)) (s : Setting) (signs : List ContentSign) → AreInPieces pages bs → IsWrittenBeside pages s signs
    → StayButForOthers pages bs (node_sources signs) → IsNewContentIn pages a_paragraph (pieces_source bs) (spelled s signs)
pieces_anew pages bs s signs k h e =
    let a = pieces_written pages bs k in
    written_over pages (pieces_source bs) bs s signs a.calls_are a.work_is (λ name us o. open_pieces name us bs o) h e
