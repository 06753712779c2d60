-- Pieces of a paragraph by its items.
use Rattle.std.proofs.Common.{◌≡◌, ◌⊎◌, inl, inr, ℕ, Bool, false, List, [], ◌∷◌, ap}
use Rattle.std.specs.Prelude.{◌==◌, ◌||◌}
use Rattle.wt_span.specs.declared.form.Mode.TheVariants.{Page}
use Rattle.wt_span.specs.Lexemes.{cuts}
use Rattle.wt_expand.specs.PageItems.{page_items}
use Rattle.wt_expand.specs.Work.{Pages}
use Rattle.wt_text_edit_laws.specs.NoCalls.{AreUnbraced}
use Rattle.wt_called_edit_laws.specs.InPieces.{pieces_source, AreInPieces, AreReadApart}
use Rattle.wt_called_edit_laws.specs.Written.{BeginsOutward, IsOwnPart}
use Rattle.wt_called_edit_laws.proofs.Written.Ends.{FirstIs, source_cut, source_after}
use Rattle.wt_called_edit_laws.proofs.Written.Joined.{calm_written}
use Rattle.wt_called_edit_laws.proofs.Written.Signs.{met_by}

own_part : (pages : Pages) (b : List ℕ) → AreUnbraced (page_items b) ⊎ IsOwnPart pages b → IsOwnPart pages b
own_part pages b (inl u) = (calm_written pages b u).part
own_part pages b (inr o) = o

first_outward : (q : List ℕ) → BeginsOutward q → FirstIs (λ b. (b == 125 || b == 93) ≡ false) q
first_outward [] h = tt
first_outward (b ∷ bs) h = h

pub apart_pieces : (pages : Pages) (bs : List (List ℕ)) → AreReadApart pages bs → AreInPieces pages bs
apart_pieces pages [] h = tt
apart_pieces pages (b ∷ bs) h =
    let a = h.0 in
    let rest : List ℕ = pieces_source bs in (
      own_part pages b a.own,
      met_by b rest (page_items rest) (source_cut b rest a.ends (first_outward rest a.begins)) a.read (ap (λ (t : Bool). cuts Page t 0 rest) (source_after b a.ends)),
      apart_pieces pages bs h.1,
    )
