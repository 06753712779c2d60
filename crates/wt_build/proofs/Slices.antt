-- Slices of sound pieces that are parted at line breaks.
use Rattle.std.proofs.Common.{◌≡◌, ℕ, ◌-◌, List, drop, refl, sym, subst}
use Rattle.std.specs.Prelude.{All}
use Rattle.std.proofs.lemmas.List.Elements.{All-take, All-drop}
use Rattle.wt_span.specs.declared.form.Piece.{Piece}
use Rattle.wt_span.specs.Origins.{IsSoundPiece}
use Rattle.wt_lines.specs.Pieces.{AllParted}
use Rattle.wt_page.proofs.Pieces.{parted_rest, parted_front}
use Rattle.wt_rows.specs.Views.{slice}

pub sound_slice : (ps q : List Piece) (a b : ℕ) → All IsSoundPiece ps → q ≡ slice a b ps → All IsSoundPiece q
sound_slice ps q a b h e = subst (All IsSoundPiece) (sym e) (All-take IsSoundPiece _ _ (All-drop IsSoundPiece _ _ h))

pub parted_slice : (ps q : List Piece) (a b : ℕ) → AllParted ps → q ≡ slice a b ps → AllParted q
parted_slice ps q a b h e = parted_front (drop a ps) q (b - a) (parted_rest ps (drop a ps) a h refl) e
